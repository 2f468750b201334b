use Rattle.std.proofs.Common.{◌≡◌, Some, None, sym, ◌∙◌, ap}
use Rattle.std.specs.Prelude.{position}
use Rattle.std.proofs.lemmas.Result.{on_ok_weaker, IfOk-weaker}
use Rattle.sb_model.specs.Names.{same_name}
use Rattle.update_messages.specs.Messages.{UpdatedList}
use Rattle.update_client.specs.Held.{Held}
use Rattle.update_client.specs.Step.{result_at}
use Rattle.update_client.proofs.Places.{place_taken, place_told, kept_without, found_nowhere, none_named}
use Rattle.update_client.proofs.applying.apply_to_named.Goals as goal

pub returns-in-Some-clause-lists : goal.returns-in-Some-clause-lists
returns-in-Some-clause-lists c =
    let own = ap (λ (u : UpdatedList). u.name) c.update.view_is in
    let found : position (λ (h : Held). same_name h.name c.args.update.now.name) c.args.lists.now ≡ Some c.in-Some.place
    = ap (λ n. position (λ (h : Held). same_name h.name n) c.args.lists.now) (sym own) ∙ sym c.in-Some.ensures in
    on_ok_weaker c.apply_update.result
    (place_taken c.args.update.now c.args.lists.now c.args.changes.now c.in-Some.place c.index-lists-place.result c.index-changes-place.result c.apply_update.new.change
    c.requires.each c.requires.rising c.index-lists-place.is c.index-changes-place.is found)
    c.apply_update.ensures.list

pub returns-in-Some-clause-outcome : goal.returns-in-Some-clause-outcome
returns-in-Some-clause-outcome c =
    let own = ap (λ (u : UpdatedList). u.name) c.update.view_is in
    let found : position (λ (h : Held). same_name h.name c.args.update.now.name) c.args.lists.now ≡ Some c.in-Some.place
    = ap (λ n. position (λ (h : Held). same_name h.name n) c.args.lists.now) (sym own) ∙ sym c.in-Some.ensures in
    IfOk-weaker c.apply_update.result _ _
    (λ outcome is. is ∙ place_told c.args.update.now c.args.lists.now c.args.changes.now c.in-Some.place c.index-lists-place.result c.index-changes-place.result
    c.requires.each c.requires.rising c.index-lists-place.is c.index-changes-place.is found)
    c.apply_update.ensures.outcome

pub returns-in-None-clause-lists : goal.returns-in-None-clause-lists
returns-in-None-clause-lists c =
    let own = ap (λ (u : UpdatedList). u.name) c.update.view_is in
    let found : position (λ (h : Held). same_name h.name c.args.update.now.name) c.args.lists.now ≡ None
    = ap (λ n. position (λ (h : Held). same_name h.name n) c.args.lists.now) (sym own) ∙ sym c.in-None.ensures in
    sym (kept_without c.args.update.now c.args.lists.now c.args.changes.now c.requires.each (none_named c.args.update.now.name c.args.lists.now found))

pub returns-in-None-clause-outcome : goal.returns-in-None-clause-outcome
returns-in-None-clause-outcome c =
    let own = ap (λ (u : UpdatedList). u.name) c.update.view_is in
    let found : position (λ (h : Held). same_name h.name c.args.update.now.name) c.args.lists.now ≡ None
    = ap (λ n. position (λ (h : Held). same_name h.name n) c.args.lists.now) (sym own) ∙ sym c.in-None.ensures in
    sym (ap (result_at c.args.update.now) (found_nowhere c.args.update.now.name c.args.lists.now c.args.changes.now c.requires.each (none_named c.args.update.now.name c.args.lists.now found)))
