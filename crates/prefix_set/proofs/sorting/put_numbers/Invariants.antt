use Rattle.std.proofs.Common.{◌≡◌, ◌*◌, map, take}
use Rattle.std.specs.Int.{w32, to_be_bytes}
use Rattle.sb_model.specs.Prefixes.{concatenation}
use Rattle.prefix_set.proofs.sorting.put_numbers.Given as goal

-- the numbers so far stand at the front
abbrev pub invariant-loop-number : goal.invariant-loop-number
invariant-loop-number l = record {
  used : l.used ≡ 4 * l.number-index;
  front : take l.used l.block ≡ concatenation (map (to_be_bytes w32) (take l.number-index l.numbers));
}
