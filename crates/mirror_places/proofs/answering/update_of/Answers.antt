use Rattle.std.proofs.Common.{◌≡◌, ℕ, List, Some, None, sym, ap, ◌∙◌}
use Rattle.std.proofs.lemmas.Result.{IfOk-weaker}
use Rattle.update_messages.specs.Messages.{AskedList, UpdatedList}
use Rattle.update_messages.specs.Answer.{whole_update}
use Rattle.update_client.specs.Held.{Held}
use Rattle.mirror_places.specs.Answer.{held_at_place, mirror_update, set_in, update_from}
use Rattle.mirror_places.specs.Places.{newest_place, Places}
use Rattle.mirror_places.specs.Tokens.{mirror_token}
use Rattle.mirror_places.proofs.AnswerFacts.{stands_there, token_same, update_is}
use Rattle.mirror_places.proofs.answering.update_of.Goals as goal

pub update_from-requires-clause-there : goal.update_from-requires-clause-there
update_from-requires-clause-there c =
    stands_there c.args.mirror.now c.know_names.ensures c.args.asked.now.name c.args.asked.now.state c.in-Some.place c.args.served.now.held.now
    (sym c.place_named.ensures ∙ c.in-Some.is) c.requires.newest

pub returns-in-Some : goal.returns-in-Some
returns-in-Some c =
    let mirror : Places = c.args.mirror.now in
    let asked : AskedList = c.args.asked.now in
    let set : List (List ℕ) = c.held.inside.set in
    let token : List ℕ = c.mirror_token.result in
    let sent : set ≡ set_in (held_at_place mirror (newest_place mirror) asked.name) = ap (λ (h : Held). h.set) c.held.view_is ∙ sym (ap set_in c.requires.newest) in
    let named : token ≡ mirror_token mirror.epoch asked.name (newest_place mirror) =
    c.mirror_token.ensures ∙ token_same c.epoch.result mirror.epoch c.asked.inside.name asked.name c.newest.result (newest_place mirror)
    c.epoch.ensures (ap (λ (a : AskedList). a.name) c.asked.view_is) c.newest.ensures.value in
    IfOk-weaker c.update_from.result (λ (update : UpdatedList). update ≡ update_from mirror asked set token (Some c.in-Some.place)) (λ (update : UpdatedList). update ≡ mirror_update mirror asked)
    (λ update made. update_is mirror asked set token (Some c.in-Some.place) update made sent named (sym c.in-Some.is ∙ c.place_named.ensures)) c.update_from.ensures

pub returns-in-None : goal.returns-in-None
returns-in-None c =
    let mirror : Places = c.args.mirror.now in
    let asked : AskedList = c.args.asked.now in
    let set : List (List ℕ) = c.held.inside.set in
    let token : List ℕ = c.mirror_token.result in
    let sent : set ≡ set_in (held_at_place mirror (newest_place mirror) asked.name) = ap (λ (h : Held). h.set) c.held.view_is ∙ sym (ap set_in c.requires.newest) in
    let named : token ≡ mirror_token mirror.epoch asked.name (newest_place mirror) =
    c.mirror_token.ensures ∙ token_same c.epoch.result mirror.epoch c.asked.inside.name asked.name c.newest.result (newest_place mirror)
    c.epoch.ensures (ap (λ (a : AskedList). a.name) c.asked.view_is) c.newest.ensures.value in
    IfOk-weaker c.full_update.result (λ (update : UpdatedList). update ≡ whole_update asked set token) (λ (update : UpdatedList). update ≡ mirror_update mirror asked)
    (λ update made. update_is mirror asked set token None update made sent named (sym c.in-None.is ∙ c.place_named.ensures)) c.full_update.ensures
