-- How a run begins.
use Rattle.std.proofs.Common.{◌≡◌, ◌<◌, ◌^◌, ℕ, List, [], ◌∷◌, length, ap, ◌∙◌, subst, inl, inr, Option, Ok, Err, arith}
use Rattle.sb_model.specs.declared.names.ListName.{ListName}
use Rattle.sb_model.specs.declared.time.Moment.{Moment}
use Rattle.sb_outside.specs.Outside.{IfTold}
use Rattle.update_client.specs.Held.{Held}
use Rattle.wait_rules.specs.Waits.{first_state}
use Rattle.wait_rules.specs.declared.waits.WaitState.{WaitState}
use Rattle.client_line.specs.Lines.{LineView, ReadsClock, Draws}
use Rattle.timed_sessions.specs.Told.{Outside, with_more}
use Rattle.input_lines.specs.Lines.{IsInputWithinLimits, lines_of}
use Rattle.update_run.specs.Opening.{first_lists}
use Rattle.update_run.specs.Run.{seen}
use Rattle.update_run.specs.Saved.{Keeping, keeping}
use Rattle.update_run.specs.declared.client.Client.{Client}
use Rattle.judge_run.specs.Opening.{BeginsJudging, OpensFinds, StopsBeginning}
use Rattle.judge_run.specs.Run.{Judging, JudgeEnding, EndsJudging, EndsOpened, EndsUpdating}
use Rattle.judge_run.specs.declared.beginning.Begun.{Begun}
use Rattle.judge_run.specs.declared.plan.JudgePlan.{JudgePlan}
use Rattle.judge_run.specs.declared.stop.JudgeStop.{JudgeStop}
use Rattle.judge_run.specs.declared.stop.JudgeStop.TheVariants as stop
use Rattle.judge_run.proofs.Cases.{told_same, told_both}

-- an input within the limits has not too many lines
pub few_lines : (input : List ℕ) → IsInputWithinLimits input → length (lines_of input) < 2 ^ 32
few_lines input within = omega (arith, within.lines)

-- the clock is read, and two words are drawn
pub opens : (start : Moment) (first second : ℕ) (updates finds : WaitState) (before read between after : LineView)
    → ReadsClock start before read → Draws (first ∷ []) read between → Draws (second ∷ []) between after
    → updates ≡ first_state start first → finds ≡ first_state start second → OpensFinds updates finds before.told after.told
opens start first second updates finds before read between after reads draws again first_update first_find = record {
  start = start;
  update_word = first;
  find_word = second;
  first_update = first_update;
  first = first_find;
  told = record {
    log = told_same before.told.log after.told.log (again.log ∙ draws.log ∙ reads.others.log);
    readings = rw again.readings (rw draws.readings reads.read);
    waits = told_same before.told.waits after.told.waits (again.waits ∙ draws.waits ∙ reads.waits);
    drawn = told_both before.told.drawn between.told.drawn after.told.drawn (first ∷ []) (second ∷ [])
        (subst (λ words. IfTold between.told.drawn (with_more words (first ∷ []))) reads.others.drawn draws.drawn) again.drawn;
  };
  unmoved = again.faults ∙ draws.faults ∙ reads.others.faults;
}

pub same_keeping : (handed handed' : Option (List (List ℕ))) (kept kept' : Option (Option (List ℕ))) → handed' ≡ handed → kept' ≡ kept → keeping handed' kept' ≡ keeping handed kept
same_keeping handed handed' kept kept' h k = ap (λ x. keeping x kept') h ∙ ap (λ x. keeping handed x) k

-- a run that began ends as its judging did
any_ending : (ending : JudgeEnding) (plan : JudgePlan) (before after : Judging) → EndsOpened plan ending before after → EndsJudging plan ending before after
any_ending (Ok judgement) plan before after ends = ends
any_ending (Err stop.ReadFault) plan before after ends = absurd ends.ends
any_ending (Err stop.PastLimits) plan before after ends = absurd ends.ends
any_ending (Err stop.KeepFault) plan before after ends = inr ends
any_ending (Err stop.WriteFault) plan before after ends = ends
any_ending (Err stop.OutOfMemory) plan before after ends = inr ends

client_with : List Held → WaitState → List ℕ → Client
client_with lists waits page = record { lists = lists; waits = waits; page = page }

pub begun_ends : (ending : JudgeEnding) (plan : JudgePlan) (names : List ListName) (begun : Begun) (opened : Outside) (keeper : Keeping) (before after : Judging)
    → names ≡ plan.updates.names → keeper ≡ before.seen.keeper → BeginsJudging names begun before.left after.left before.seen.keeper.kept before.seen.outside opened
    → EndsUpdating plan ending begun.client begun.finds (lines_of begun.text) (seen opened keeper before.seen.output) after.seen
    → EndsJudging plan ending before after
unfolding client_with
begun_ends ending plan names begun opened keeper before after same as_kept begins ends =
    let from = λ (client : Client). EndsUpdating plan ending client begun.finds (lines_of begun.text) (seen opened before.seen.keeper before.seen.output) after.seen in
    let here : from begun.client = subst (λ (k : Keeping). EndsUpdating plan ending begun.client begun.finds (lines_of begun.text) (seen opened k before.seen.output) after.seen) as_kept ends in
    let kept = begins.loaded.kept in
    let waits = begun.client.waits in
    let are = begins.loaded.are ∙ ap (λ (ns : List ListName). first_lists ns kept) same in
    any_ending ending plan before after (record {
      begins = record {
        input = begun.text;
        reads = begins.input;
        kept = kept;
        loaded = begins.loaded.loaded;
        updates = waits;
        finds = begun.finds;
        outside = opened;
        opens = begins.opens;
      };
      ends = subst (λ (page : List ℕ). from (client_with (first_lists plan.updates.names kept) waits page)) begins.loaded.told
          (subst (λ (ls : List Held). from (client_with ls waits begun.client.page)) are here);
    })

-- ---- where it does not begin

pub not_begun : (why : JudgeStop) (plan : JudgePlan) (before after : Judging) → StopsBeginning why before.left after.left → after.seen ≡ before.seen → EndsJudging plan (Err why) before after
not_begun stop.ReadFault plan before after stops same = (stops, same)
not_begun stop.PastLimits plan before after stops same = (stops, same)
not_begun stop.KeepFault plan before after stops same = inl (stops, same)
not_begun stop.WriteFault plan before after stops same = absurd stops
not_begun stop.OutOfMemory plan before after stops same = inl same

pub same_seen : (o o' : Outside) (k k' : Keeping) (a b : Option (List ℕ)) → o' ≡ o → k' ≡ k → b ≡ a → seen o' k' b ≡ seen o k a
same_seen o o' k k' a b outside keeper output = ap (λ x. seen x k' b) outside ∙ (ap (λ x. seen o x b) keeper ∙ ap (λ x. seen o k x) output)
