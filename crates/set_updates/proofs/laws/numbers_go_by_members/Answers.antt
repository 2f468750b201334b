use Rattle.std.proofs.Common.{map}
use Rattle.std.specs.Int.{w32, from_le_bytes}
use Rattle.set_updates.proofs.Membership.{contains_in, in_contained}
use Rattle.set_updates.proofs.NumberFacts.{same_numbers}
use Rattle.set_updates.proofs.laws.numbers_go_by_members.Goals as goal

pub returns : goal.returns
returns c = λ members numbers up same.
    same_numbers members numbers (c.sent_numbers_rise.ensures.numbers members) up
    (λ n h. in_contained n (map (from_le_bytes w32) members) ((same n).0 (contains_in n numbers h)))
    (λ n h. in_contained n numbers ((same n).1 (contains_in n (map (from_le_bytes w32) members) h)))
