use Rattle.std.proofs.Common.{◌≡◌, ap, sym, ◌∙◌}
use Rattle.std.proofs.lemmas.Slice.Eq.{bytes_eq-Decides}
use Rattle.update_messages.specs.Messages.{AskedList}
use Rattle.delta_server.proofs.RepeatFacts.{ask_alike}
use Rattle.delta_server.proofs.repeats.ask_alike.Goals as goal

pub returns : goal.returns
returns c = λ same versions.
    let first : AskedList = c.args.first.now in
    let second : AskedList = c.args.second.now in
    let name : first.name ≡ second.name =
    sym (ap (λ (a : AskedList). a.name) c.first.view_is) ∙ c.is_same.ensures.0 c.if-not-is_same.false ∙ ap (λ (a : AskedList). a.name) c.second.view_is in
    let state : first.state ≡ second.state =
    sym (ap (λ (a : AskedList). a.state) c.first.view_is) ∙ sym c.as_slice.ensures
    ∙ (bytes_eq-Decides c.as_slice.result.now c.as_slice-2.result.now).0 (sym c.is_same_state.ensures ∙ same)
    ∙ c.as_slice-2.ensures ∙ ap (λ (a : AskedList). a.state) c.second.view_is in
    let rice : first.rice ≡ second.rice =
    sym (ap (λ (a : AskedList). a.rice) c.first.view_is) ∙ c.is_same_flag.ensures c.if-not-is_same_flag.false ∙ ap (λ (a : AskedList). a.rice) c.second.view_is in
    let update : first.max_update ≡ second.max_update =
    sym (ap (λ (a : AskedList). a.max_update) c.first.view_is) ∙ c.if-first-second.false ∙ ap (λ (a : AskedList). a.max_update) c.second.view_is in
    let database : first.max_database ≡ second.max_database =
    sym (ap (λ (a : AskedList). a.max_database) c.first.view_is) ∙ c.if-first-second-2.false ∙ ap (λ (a : AskedList). a.max_database) c.second.view_is in
    ask_alike versions first second name state update database rice
