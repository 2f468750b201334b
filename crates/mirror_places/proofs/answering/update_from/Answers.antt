use Rattle.std.proofs.Common.{◌≡◌, ℕ, List, sym, ap, ◌∙◌}
use Rattle.std.proofs.lemmas.Result.{IfOk-weaker}
use Rattle.sha2.specs.Sha256.{sha256}
use Rattle.sb_model.specs.declared.names.ListName.{ListName}
use Rattle.sb_model.specs.Prefixes.{concatenation}
use Rattle.update_messages.specs.Answer.{difference_update}
use Rattle.update_messages.specs.Messages.{AskedList, UpdatedList}
use Rattle.update_client.specs.Held.{Held}
use Rattle.mirror_places.specs.Answer.{held_at_place, removal_size, set_in}
use Rattle.mirror_places.specs.Places.{Places}
use Rattle.mirror_places.proofs.AnswerFacts.{partial_is, unchanged_is}
use Rattle.mirror_places.proofs.answering.update_from.Goals as goal

abbrev Wanted : AskedList → List (List ℕ) → List (List ℕ) → List ℕ → UpdatedList → Type 0
Wanted asked old newer token update = update ≡ difference_update asked (removal_size old) old newer token

abbrev Unchanged : AskedList → List ℕ → List ℕ → UpdatedList → Type 0
Unchanged asked digest token update = (size : ℕ) (set : List (List ℕ)) → digest ≡ sha256 (concatenation set) → update ≡ difference_update asked size set set token

pub returns-then-place-newest : goal.returns-then-place-newest
returns-then-place-newest c =
    let mirror : Places = c.args.mirror.now in
    let asked : AskedList = c.args.asked.now in
    let old : List (List ℕ) = set_in (held_at_place mirror c.args.place asked.name) in
    let newer : List (List ℕ) = c.args.newer.now.set.now in
    let token : List ℕ = c.args.newer.now.token in
    let digest : List ℕ = c.args.newer.now.digest in
    let same : newer ≡ old = c.requires.newest ∙ ap (λ p. set_in (held_at_place mirror p asked.name)) (sym (c.if-place-newest.true ∙ c.newest.ensures.value)) in
    IfOk-weaker c.unchanged_update.result (Unchanged asked digest token) (Wanted asked old newer token)
    (λ update made. unchanged_is asked digest old newer token update made c.requires.digest same) c.unchanged_update.ensures

pub returns : goal.returns
returns c =
    let mirror : Places = c.args.mirror.now in
    let asked : AskedList = c.args.asked.now in
    let old : List (List ℕ) = set_in (held_at_place mirror c.args.place asked.name) in
    let from : List (List ℕ) = c.held.inside.set in
    let newer : List (List ℕ) = c.args.newer.now.set.now in
    let token : List ℕ = c.args.newer.now.token in
    let name : c.asked.inside.name ≡ asked.name = ap (λ (a : AskedList). a.name) c.asked.view_is in
    let same : from ≡ old =
    ap (λ (h : Held). h.set) c.held.view_is ∙ ap set_in c.in-Some.ensures ∙ ap (λ (n : ListName). set_in (held_at_place mirror c.args.place n)) name in
    IfOk-weaker c.partial_update.result (λ (update : UpdatedList). update ≡ difference_update asked c.removal_size.result from newer token) (Wanted asked old newer token)
    (λ update made. partial_is asked c.removal_size.result from old newer token update made c.removal_size.ensures same) c.partial_update.ensures
