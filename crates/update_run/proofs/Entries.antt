-- What is told, one thing after the other.
use Rattle.std.proofs.Common.{◌≡◌, ℕ, List, [], ◌∷◌, ◌++◌, refl, sym, ap, ◌∙◌, subst, Option, Some, None, append_assoc, append-nil}
use Rattle.sb_outside.specs.Outside.{IfTold}
use Rattle.sb_model.specs.declared.time.Moment.{Moment}
use Rattle.wait_rules.specs.Waits.{first_state}
use Rattle.wait_rules.specs.declared.waits.WaitState.{WaitState}
use Rattle.client_line.specs.Lines.{LineView, ReadsClock, Draws}
use Rattle.timed_sessions.specs.Told.{with_more}
use Rattle.update_run.specs.Opening.{HasOpened}

pub told_itself : {A : Type 0} (known : Option A) → IfTold known known
told_itself None = tt
told_itself (Some told) = refl

pub told_through : {A : Type 0} (a b c : Option A) → IfTold b a → IfTold c b → IfTold c a
told_through a b None first next = tt
told_through a None (Some told) first next = cc
told_through a (Some known) (Some told) first next = cc

pub told_nothing : {A : Type 0} (known : Option (List A)) → IfTold known (with_more known [])
told_nothing None = tt
told_nothing (Some items) = ap (λ all. Some all) (append-nil items)

pub told_both : {A : Type 0} (a b c : Option (List A)) (more next : List A) → IfTold b (with_more a more) → IfTold c (with_more b next) → IfTold c (with_more a (more ++ next))
told_both a b None more next h k = tt
told_both a None (Some told) more next h k = cc
told_both None (Some known) (Some told) more next h k = cc
told_both (Some items) (Some known) (Some told) more next h k =
    let grown : items ++ more ≡ known = cc in
    let told_is : known ++ next ≡ told = cc in
    ap (λ all. Some all) (sym (append_assoc items more next) ∙ ap (λ all. all ++ next) grown ∙ told_is)

pub told_same : {A : Type 0} (a b : Option (List A)) → b ≡ a → IfTold b (with_more a [])
told_same a b same = rw same (told_nothing a)

-- the clock is read, and a word is drawn
pub opens : (start : Moment) (word : ℕ) (waits : WaitState) (before between after : LineView)
    → ReadsClock start before between → Draws (word ∷ []) between after → waits ≡ first_state start word → HasOpened waits before.told after.told
opens start word waits before between after reads draws first = record {
  start = start;
  word = word;
  first = first;
  told = record {
    log = told_same before.told.log after.told.log (draws.log ∙ reads.others.log);
    readings = rw draws.readings reads.read;
    waits = told_same before.told.waits after.told.waits (draws.waits ∙ reads.waits);
    drawn = subst (λ known. IfTold after.told.drawn (with_more known (word ∷ []))) reads.others.drawn draws.drawn;
  };
}
