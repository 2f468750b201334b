use Rattle.std.proofs.Common.{◌≡◌, ◌+◌, ◌*◌, min, take, ltb, true}
use Rattle.std.specs.List.{fold, list_all}
use Rattle.std.specs.Char.{digit_value}
use Rattle.url_canon.proofs.address.number_in.Given as goal

abbrev pub invariant-loop-byte : goal.invariant-loop-byte
invariant-loop-byte l =
    (list_all (λ digit. ltb (digit_value digit) l.base) (take l.byte-index l.digits) ≡ true) × (l.number ≡ min (fold (λ number digit. l.base * number + digit_value digit) 0 (take l.byte-index l.digits)) 4294967296)
