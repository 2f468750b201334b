use Rattle.std.proofs.Common.{◌≡◌, ◌≤◌, length, take, drop}
use Rattle.url_canon.specs.Unescaping.{unescaped}
use Rattle.url_canon.proofs.unescape.unescape_part.Given as goal

abbrev pub invariant-loop-place : goal.invariant-loop-place
invariant-loop-place l = record {
  from : l.first ≤ l.place;
  order : l.place ≤ l.top;
  len : length l.bytes ≡ length l.fn.bytes;
  within : l.top ≤ length l.bytes;
  front : take l.place l.bytes ≡ take l.place l.fn.bytes;
  value : drop l.top l.bytes ≡ unescaped (drop l.place l.fn.bytes);
}
