use Rattle.std.proofs.Common.{◌≡◌, length}
use Rattle.list_versions.proofs.DigitPairs.{IsReadTo}
use Rattle.list_versions.proofs.hex_digits.read_hash.Given as goal

abbrev pub invariant-bytes : goal.invariant-bytes
invariant-bytes l = record {
  read : IsReadTo l.i l.digits l.hash;
  whole : length l.hash ≡ 32;
}
