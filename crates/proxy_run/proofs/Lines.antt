-- Lines that are printed, or a front of them.
use Rattle.std.proofs.Common.{◌≡◌, ◌≢◌, ℕ, List, [], Option, Some, None, Result, Ok, Err, refl, sym, ap, ◌∙◌, subst, inl, inr}
use Rattle.std.proofs.lemmas.List.{append-nil}
use Rattle.held_connections.specs.Over.{ServedConnection}
use Rattle.http_serving.specs.Printed.{connection_line}
use Rattle.http_serving.specs.declared.ends.ConnectionEnd.{ConnectionEnd}
use Rattle.http_serving.specs.declared.ends.ConnectionEnd.TheVariants as end
use Rattle.proxy_run.specs.LookAllowed.{IsServedPart}
use Rattle.proxy_run.specs.LookEvents.{LinePart, counted_up, first_stop, line_of_served}
use Rattle.proxy_run.specs.LookEvents.LinePart.{Written, Broken}
use Rattle.proxy_run.specs.LookSteps.{PrintsFor, PrintsPart}
use Rattle.proxy_run.specs.declared.stop.ProxyStop.{ProxyStop}
use Rattle.proxy_run.specs.declared.stop.ProxyStop.TheVariants as stop
use Rattle.proxy_serving.specs.Response.{ProxyServed}
use Rattle.sb_outside.specs.Outside.{Rose, appended}
use Rattle.sb_outside.specs.Writing.{HasFront}

pub appended_nothing : (known : Option (List ℕ)) → appended known [] ≡ known
appended_nothing None = refl
appended_nothing (Some bytes) = ap (λ (b : List ℕ). Some b) (append-nil bytes)

pub part_whole : (line : List ℕ) (was now : Option ProxyStop) (output output' : Option (List ℕ)) (faults faults' : ℕ)
    → output' ≡ appended output line → now ≡ was → faults' ≡ faults → PrintsPart line Written was now output output' faults faults'
part_whole line was now output output' faults faults' written same kept = record { is = tt; written = written; ends = same; failed = kept }

pub part_front : (line : List ℕ) (was now : Option ProxyStop) (output output' : Option (List ℕ)) (faults faults' : ℕ)
    → (front : HasFront output output' line) → now ≡ first_stop was stop.WriteFault → Rose faults faults' → PrintsPart line (Broken stop.WriteFault front.taken) was now output output' faults faults'
part_front line was now output output' faults faults' front ends rose = record {
  is = inl (refl, (front.lost, front.rest, front.missing));
  written = front.has;
  ends = ends;
  failed = rose;
}

pub part_nothing : (line : List ℕ) (was now : Option ProxyStop) (output output' : Option (List ℕ)) (faults faults' : ℕ)
    → output' ≡ output → now ≡ first_stop was stop.OutOfMemory → faults' ≡ faults → PrintsPart line (Broken stop.OutOfMemory []) was now output output' faults faults'
part_nothing line was now output output' faults faults' same ends kept = record {
  is = inr (refl, refl);
  written = same ∙ sym (appended_nothing output);
  ends = ends;
  failed = kept;
}

-- ---- the line of a connection

abbrev pub PrintsServed : ServedConnection ProxyServed → (was now : Option ProxyStop) → (output output' : Option (List ℕ)) → (faults faults' : ℕ) → Type 0
PrintsServed one was now output output' faults faults' =
    (part : LinePart) × IsServedPart one part × PrintsPart (line_of_served one) part was now output output' faults faults'

-- the line of a connection, by the number that is printed
pub line_is : (one : ServedConnection ProxyServed) (number printed : ℕ) (how : ConnectionEnd) → one.number ≡ number → one.how ≡ how → printed ≡ counted_up number
    → connection_line printed how ≡ line_of_served one
line_is one number printed how same ends is =
    ap (λ (n : ℕ). connection_line n how) (is ∙ ap counted_up (sym same)) ∙ ap (λ (h : ConnectionEnd). connection_line (counted_up one.number) h) (sym ends)

written_is_no_break : (why : ProxyStop) (front : List ℕ) → Written ≡ Broken why front → ⊥
written_is_no_break why front is = cc

fault_is_no_memory : (front : List ℕ) → Broken stop.WriteFault front ≡ Broken stop.OutOfMemory [] → ⊥
fault_is_no_memory front is = cc

module _ (one : ServedConnection ProxyServed) (line : List ℕ) (is : line ≡ line_of_served one) (was now : Option ProxyStop) (output output' : Option (List ℕ)) (faults faults' : ℕ) where
  pub served_whole : output' ≡ appended output line → now ≡ was → faults' ≡ faults → PrintsServed one was now output output' faults faults'
  served_whole written same kept = (
    Written,
    (tt, λ e. absurd (written_is_no_break stop.OutOfMemory [] e)),
    part_whole (line_of_served one) was now output output' faults faults' (written ∙ ap (λ (l : List ℕ). appended output l) is) same kept,
  )

  pub served_front : HasFront output output' line → now ≡ first_stop was stop.WriteFault → Rose faults faults' → PrintsServed one was now output output' faults faults'
  served_front front ends rose =
      let here : HasFront output output' (line_of_served one) = subst (λ (l : List ℕ). HasFront output output' l) is front in
      let part : PrintsPart (line_of_served one) (Broken stop.WriteFault here.taken) was now output output' faults faults' = part_front (line_of_served one) was now output output' faults faults' here ends rose in
      (Broken stop.WriteFault here.taken, (part.is, λ e. absurd (fault_is_no_memory here.taken e)), part)

  pub served_nothing : output' ≡ output → one.how ≢ end.OutOfMemory → now ≡ first_stop was stop.OutOfMemory → faults' ≡ faults → PrintsServed one was now output output' faults faults'
  served_nothing same other ends kept =
      (Broken stop.OutOfMemory [], (inr (refl, refl), λ e. other), part_nothing (line_of_served one) was now output output' faults faults' same ends kept)

-- ---- another line

-- what ended a run, after a line
abbrev pub stop_for : Result (Unit {0}) ProxyStop → Option ProxyStop → Option ProxyStop
stop_for (Ok done) was = was
stop_for (Err why) was = first_stop was why

abbrev pub PrintsSome : List ℕ → (was now : Option ProxyStop) → (output output' : Option (List ℕ)) → (faults faults' : ℕ) → Type 0
PrintsSome line was now output output' faults faults' = (part : LinePart) × PrintsPart line part was now output output' faults faults'

pub prints_for : (result : Result (Unit {0}) ProxyStop) (line : List ℕ) (was now : Option ProxyStop) (output output' : Option (List ℕ)) (faults faults' : ℕ)
    → PrintsFor result line output output' faults faults' → now ≡ stop_for result was → PrintsSome line was now output output' faults faults'
prints_for (Ok done) line was now output output' faults faults' is ends = (Written, part_whole line was now output output' faults faults' is.0 ends is.1)
prints_for (Err stop.WriteFault) line was now output output' faults faults' is ends =
    (Broken stop.WriteFault is.0.taken, part_front line was now output output' faults faults' is.0 ends is.1)
prints_for (Err stop.OutOfMemory) line was now output output' faults faults' is ends =
    (Broken stop.OutOfMemory [], part_nothing line was now output output' faults faults' is.0 ends is.1)
prints_for (Err stop.KeepFault) line was now output output' faults faults' is ends = absurd is
prints_for (Err stop.DoorFault) line was now output output' faults faults' is ends = absurd is
