use Rattle.std.proofs.Common.{◌≤◌, ◌<◌, ℕ, All, IfSome}
use Rattle.url_expressions.specs.Spans.{IsWithin}
use Rattle.url_hashes.proofs.next_end.Given as goal

abbrev pub invariant-loop-span : goal.invariant-loop-span
invariant-loop-span l = record {
  above : IfSome l.next (λ end. l.above < end);
  within : (len : ℕ) → All (IsWithin len) l.spans → IfSome l.next (λ end. end ≤ len);
}
