use Rattle.std.proofs.Common.{◌∙◌, ◌||◌, ◌&&◌, [], List, nat_le, refl, ap, sym, subst, get_or, rules}
use Rattle.std.specs.Prelude.{All}
use Rattle.std.specs.List.{list_any}
use Rattle.std.proofs.lemmas.List.Elements.{All-push}
use Rattle.sb_model.specs.declared.history.Added.{Added}
use Rattle.list_versions.specs.declared.stretch.Stretch.{Stretch}
use Rattle.list_versions.specs.Ends.{Line}
use Rattle.list_versions.specs.Showing.{is_shown}
use Rattle.list_versions.specs.Stretches.{IsStretch, shows_at}
use Rattle.list_versions.proofs.StretchLines.{line_shown, lines_whole}
use Rattle.list_versions.proofs.stretches.push_stretches.Goals as goal

pub loop-i-preserved : goal.loop-i-preserved
loop-i-preserved c =
    let d : Added = record { hash = []; size = 0 } in
    let stretch : Stretch = record { head = c.head_of-head.result; from = c.args.from; until = get_or c.args.ends.now c.loop-i.i 0 } in
    record {
      shown = λ lines a e version prefix.
          ap (λ (ss : List Stretch). list_any (shows_at version prefix) ss) c.in_ok-push.ensures.items
          ∙ line_shown version prefix lines c.args.adds.now c.args.ends.now c.loop-i.i d c.loop-i.found.items (list_any (shows_at version prefix) c.args.found.now.items) stretch
          a e c.loop-i-test.true c.head_of-head.ensures refl (c.loop-i.invariant.shown lines a e version prefix);
      each = λ versions fits old.
          subst (λ (ss : List Stretch). All (IsStretch versions) ss) (sym c.in_ok-push.ensures.items)
          (All-push (IsStretch versions) c.loop-i.found.items stretch (c.loop-i.invariant.each versions fits old) (record { head = search rules; from = fits }));
    }

pub returns-clause-shown : goal.returns-clause-shown
returns-clause-shown c = λ lines a e version prefix.
    c.loop-i.invariant.shown lines a e version prefix
    ∙ ap (λ (ls : List Line). list_any (shows_at version prefix) c.args.found.now.items || (nat_le c.args.from version && list_any (is_shown version prefix) ls))
    (lines_whole lines c.args.adds.now c.loop-i.i a c.loop-i-test.false)
