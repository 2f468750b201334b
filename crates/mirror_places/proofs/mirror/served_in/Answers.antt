use Rattle.std.proofs.Common.{◌≡◌, Bool, Some, sym, ap, ◌∙◌}
use Rattle.std.proofs.lemmas.Bool.{both_ways}
use Rattle.sb_model.specs.declared.names.ListName.{ListName}
use Rattle.sb_model.specs.Names.{same_name}
use Rattle.update_client.specs.Held.{Held}
use Rattle.update_client.specs.Step.{list_named}
use Rattle.mirror_places.proofs.AnswerFacts.{a_token, named_at, no_list, no_token}
use Rattle.mirror_places.proofs.Finding.{not_found}
use Rattle.mirror_places.proofs.mirror.served_in.Goals as goal

abbrev is_named : ListName → Held → Bool
is_named name held = same_name held.name name

pub returns-then-is_empty-clause-token : goal.returns-then-is_empty-clause-token
returns-then-is_empty-clause-token c =
    let held : Held = c.index-lists-place.result in
    let found : list_named c.args.name c.args.lists.now ≡ Some held =
    named_at (is_named c.args.name) c.args.lists.now c.in-Some.place held (sym c.place_of.ensures ∙ c.in-Some.is) c.index-lists-place.is in
    no_token (list_named c.args.name c.args.lists.now) held found (sym (ap (λ (h : Held). h.token) c.held.view_is) ∙ c.is_empty.ensures.0 c.if-is_empty.true)

pub returns-else-is_empty-clause-some : goal.returns-else-is_empty-clause-some
returns-else-is_empty-clause-some c =
    named_at (is_named c.args.name) c.args.lists.now c.in-Some.place c.index-lists-place.result (sym c.place_of.ensures ∙ c.in-Some.is) c.index-lists-place.is

pub returns-else-is_empty-clause-token : goal.returns-else-is_empty-clause-token
returns-else-is_empty-clause-token c =
    let held : Held = c.index-lists-place.result in
    let found : list_named c.args.name c.args.lists.now ≡ Some held =
    named_at (is_named c.args.name) c.args.lists.now c.in-Some.place held (sym c.place_of.ensures ∙ c.in-Some.is) c.index-lists-place.is in
    a_token (list_named c.args.name c.args.lists.now) held found
    (λ empty. both_ways c.is_empty.result c.if-is_empty.false (c.is_empty.ensures.1 (ap (λ (h : Held). h.token) c.held.view_is ∙ empty)))

pub returns-in-None-clause-token : goal.returns-in-None-clause-token
returns-in-None-clause-token c =
    no_list (list_named c.args.name c.args.lists.now) (not_found (is_named c.args.name) c.args.lists.now (sym c.place_of.ensures ∙ c.in-None.is))
