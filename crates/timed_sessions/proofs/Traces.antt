-- What is told, and by how much more.
use Rattle.std.proofs.Common.{◌≡◌, List, [], ◌++◌, Option, Some, None, sym, ap, ◌∙◌, append_assoc}
use Rattle.std.proofs.lemmas.List.{append-nil}
use Rattle.sb_outside.specs.Outside.{IfTold}
use Rattle.timed_sessions.specs.Told.{with_more}
use Rattle.timed_sessions.specs.Law.{BeginsTrace, GoesOnWithTrace}

-- what was told before is told with nothing more
pub told_nothing : {A : Type 0} (a : Option (List A)) → IfTold a (with_more a [])
told_nothing None = tt
told_nothing (Some items) = ap (λ all. Some all) (append-nil items)

-- lists that are told one after the other
pub told_both : {A : Type 0} (a b c : Option (List A)) (more then : List A) → IfTold b (with_more a more) → IfTold c (with_more b then) → IfTold c (with_more a (more ++ then))
told_both a b None more then first next = tt
told_both a None (Some told) more then first next = cc
told_both None (Some known) (Some told) more then first next = cc
told_both (Some items) (Some known) (Some told) more then first next =
    let grown : items ++ more ≡ known = cc in
    let told_is : known ++ then ≡ told = cc in
    ap (λ all. Some all) (sym (append_assoc items more then) ∙ ap (λ all. all ++ then) grown ∙ told_is)

pub begins_trace : BeginsTrace
begins_trace before = record {
  log = told_nothing before.log;
  readings = told_nothing before.readings;
  waits = told_nothing before.waits;
  drawn = told_nothing before.drawn;
}

pub goes_on : GoesOnWithTrace
goes_on before between after first next one two = record {
  log = told_both before.log between.log after.log first.sessions next.sessions one.log two.log;
  readings = told_both before.readings between.readings after.readings first.readings next.readings one.readings two.readings;
  waits = told_both before.waits between.waits after.waits first.waits next.waits one.waits two.waits;
  drawn = told_both before.drawn between.drawn after.drawn first.drawn next.drawn one.drawn two.drawn;
}
