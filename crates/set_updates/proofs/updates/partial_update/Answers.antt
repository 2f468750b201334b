use Rattle.std.proofs.Common.{◌≡◌, ℕ, List}
use Rattle.std.proofs.lemmas.Result.{IfOk-weaker}
use Rattle.sha2.specs.Sha256.{sha256}
use Rattle.sb_model.specs.Difference.{removed_places, added_members}
use Rattle.sb_model.specs.Prefixes.{concatenation}
use Rattle.update_messages.specs.Messages.{UpdatedList}
use Rattle.update_messages.specs.Answer.{difference_update}
use Rattle.set_updates.proofs.updates.partial_update.Goals as goal

pub returns : goal.returns
returns c =
    let digest : List ℕ = c.args.newer.now.digest in
    let token : List ℕ = c.args.newer.now.token in
    IfOk-weaker c.delta_update.result
    (λ (update : UpdatedList). (old newer : List (List ℕ)) → c.in_ok-delta.delta.removals ≡ removed_places old newer → c.in_ok-delta.delta.additions ≡ added_members old newer
    → digest ≡ sha256 (concatenation newer) → update ≡ difference_update c.args.asked.now c.args.size old newer token)
    (λ (update : UpdatedList). update ≡ difference_update c.args.asked.now c.args.size c.args.old.now c.args.newer.now.set.now token)
    (λ update made. made c.args.old.now c.args.newer.now.set.now c.in_ok-delta.ensures.removals c.in_ok-delta.ensures.additions c.requires)
    c.delta_update.ensures
