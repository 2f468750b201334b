-- What is left to send, one piece after another.
use Rattle.std.proofs.Common.{◌≡◌, ℕ, ◌+◌, ◌≤◌, List, length, drop, refl, ap, ◌∙◌, arith, length-drop}
use Rattle.std.proofs.lemmas.List.{drop-drop}
use Rattle.gathering.specs.Deadlines.{moment}
use Rattle.gathering.specs.declared.steps.Sent.TheVariants.{Taken, Fault}
use Rattle.tcp_door.specs.Guests.{IsLeftAfterTry}

pub nothing_sent : (whole : List ℕ) → IsLeftAfterTry whole whole (Taken 0)
nothing_sent whole = record { count = 0; within = omega arith; rest = refl; said = refl }

pub more_sent : (before between after : List ℕ) (taken more sum : ℕ) → IsLeftAfterTry before between (Taken taken) → more ≤ length between → after ≡ drop more between → sum ≡ moment (taken + more)
    → IsLeftAfterTry before after (Taken sum)
more_sent before between after taken more sum sent within rest said = record {
  count = sent.count + more;
  within = omega (arith, ap length sent.rest, length-drop sent.count before);
  rest = rest ∙ ap (λ bytes. drop more bytes) sent.rest ∙ drop-drop more sent.count before;
  said = omega (arith, said, sent.said);
}

pub sent_till_fault : (before after : List ℕ) (taken : ℕ) → IsLeftAfterTry before after (Taken taken) → IsLeftAfterTry before after Fault
sent_till_fault before after taken sent = record { count = sent.count; within = sent.within; rest = sent.rest; said = tt }
