use Rattle.std.proofs.Common.{ℕ, Vec, Global, map, subst, sym}
use Rattle.list_versions.specs.Live.{shown}
use Rattle.list_versions.specs.Numbers.{AreNumbersOf}
use Rattle.list_versions.proofs.Changing.{renumbers_if}
use Rattle.list_versions.proofs.renumbering.renumbered.Goals as goal

pub returns : goal.returns
returns c =
    let few = subst (AreNumbersOf c.in_ok-changed.changed) (sym c.as_slice.ensures.value) c.in_ok-few.ensures in
    renumbers_if (λ (v : Vec ℕ Global). v.items) c.toggled.result c.args.older.now c.args.newer.now (map shown c.args.went.now) (map shown c.args.came.now) c.in_ok-changed.changed c.args.numbers.now c.as_slice.result.now
    c.requires.shifted c.requires.numbers c.in_ok-changed.ensures few c.toggled.ensures.rising c.toggled.ensures.same
