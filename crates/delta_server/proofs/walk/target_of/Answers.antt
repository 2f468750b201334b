use Rattle.std.proofs.Common.{◌≡◌, ◌≤◌, ◌-◌, ℕ, List, [], drop, length, ap, sym, subst, ◌∙◌, refl}
use Rattle.std.specs.Prelude.{IfSome}
use Rattle.std.specs.Option.{unwrap_or}
use Rattle.std.proofs.lemmas.List.{take_rest}
use Rattle.std.proofs.lemmas.List.Elements.{All-drop, All-take}
use Rattle.sb_model.specs.declared.history.Added.{Added}
use Rattle.sb_model.specs.declared.history.Change.{Change}
use Rattle.delta_server.specs.Walk.{HasSizes, HaveSame, entries_after, held_set}
use Rattle.delta_server.proofs.CountFacts.{SetLaws}
use Rattle.delta_server.proofs.SameFacts.{published_same, taken_same}
use Rattle.delta_server.proofs.TargetFacts.{target_is, held_is, walk_is}
use Rattle.delta_server.proofs.walk.target_of.Goals as goal

pub taken_from-requires : goal.taken_from-requires
taken_from-requires c =
    let first : ℕ = c.unwrap_or-first.result in
    let changes : List Change = c.args.changes.now in
    All-take HasSizes (length changes - first) (drop first changes) (All-drop HasSizes first changes c.requires.added)

pub returns : goal.returns
returns c = λ history same.
    let laws : SetLaws = record { members = c.sets_go_by_members.ensures.members; same = c.sets_go_by_members.ensures.same } in
    let first : ℕ = c.unwrap_or-first.result in
    let changes : List Change = c.args.changes.now in
    let entries : List Added = c.args.entries.now in
    let after : List Added = entries_after c.args.list [] changes first in
    let is : first ≡ unwrap_or c.args.from 0 = c.unwrap_or-first.ensures in
    let alike : HaveSame entries after = subst (λ (n : ℕ). HaveSame entries (entries_after c.args.list [] changes n)) (sym is) c.requires.same in
    let own : c.args.held.now ≡ held_set c.args.list c.args.from changes =
    c.requires.held ∙ published_same laws entries after alike ∙ sym (held_is c.args.list c.args.from changes first is) in
    target_is history c.args.list c.args.from c.args.max_update c.args.max_database first c.in_ok-taken.taken c.args.held.now
    (subst (λ (cs : List Change). IfSome c.args.from (λ version. version ≤ length cs)) (sym same) c.requires.within) is
    (own ∙ ap (held_set c.args.list c.args.from) (sym same))
    (c.in_ok-taken.ensures.taken entries (c.beside-version.ensures.stands entries c.requires.held c.in_ok-alone.ensures.stands)
    ∙ taken_same laws c.args.list _ entries after _ c.args.max_update c.args.max_database alike
    ∙ walk_is c.args.list _ c.args.held.now after changes history.changes _ first c.args.max_update c.args.max_database same
    c.beside-version.ensures.held refl (take_rest changes first))
