-- What a log in memory tells.
use Rattle.std.proofs.Common.{ℕ, List, length, Bool, true, false, cond, nat_lt, Option, Some, None, refl}
use Rattle.sb_outside.specs.Outside.{IfTold, with_entry}
use Rattle.memory_objects.specs.Logs.{logged}

told_if : {A : Type 0} (b : Bool) (entries : List A) (entry : A) → IfTold (with_entry (cond b (Some entries) None) entry) (with_entry (Some entries) entry)
told_if true entries entry = refl
told_if false entries entry = tt

-- what is told with one more entry was told before
pub told_logged : {A : Type 0} (room : ℕ) (log : Option (List A)) (entry : A) → IfTold (logged room log entry) (with_entry log entry)
told_logged room None entry = tt
told_logged room (Some entries) entry = told_if (nat_lt (length entries) room) entries entry
