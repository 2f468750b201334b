use Rattle.std.proofs.Common.{◌≡◌, Some, None, sym, ◌∙◌, ap}
use Rattle.std.specs.Prelude.{position}
use Rattle.sb_model.specs.Names.{same_name}
use Rattle.update_client.specs.Held.{Held}
use Rattle.client_store.proofs.Filling.{put_found, put_nowhere}
use Rattle.client_store.proofs.selecting.put.Goals as goal

pub returns-in-Some : goal.returns-in-Some
returns-in-Some c =
    let own = ap (λ (h : Held). h.name) c.held.view_is in
    let lent = c.as_slice.ensures.value in
    let found : position (λ (h : Held). same_name h.name c.args.held.name) c.args.lists.now.items ≡ Some c.in-Some.place =
    ap (λ n. position (λ (h : Held). same_name h.name n) c.args.lists.now.items) (sym own)
    ∙ ap (λ lists. position (λ (h : Held). same_name h.name c.held.inside.name) lists) (sym lent)
    ∙ sym c.in-Some.ensures
    in
    put_found c.args.held c.args.lists.now.items c.in-Some.place c.requires found

pub returns-in_default : goal.returns-in_default
returns-in_default c =
    let own = ap (λ (h : Held). h.name) c.held.view_is in
    let lent = c.as_slice.ensures.value in
    let none : position (λ (h : Held). same_name h.name c.args.held.name) c.args.lists.now.items ≡ None =
    ap (λ n. position (λ (h : Held). same_name h.name n) c.args.lists.now.items) (sym own)
    ∙ ap (λ lists. position (λ (h : Held). same_name h.name c.held.inside.name) lists) (sym lent)
    ∙ sym c.in_default.ensures
    in
    put_nowhere c.args.held c.args.lists.now.items none
