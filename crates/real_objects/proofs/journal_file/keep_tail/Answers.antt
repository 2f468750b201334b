use Rattle.std.proofs.Common.{◌≡◌, ◌++◌, length, arith}
use Rattle.real_objects.proofs.Tails.{tail_kept}
use Rattle.real_objects.proofs.journal_file.keep_tail.Goals as goal

pub returns-then-len-gt-TAIL : goal.returns-then-len-gt-TAIL
returns-then-len-gt-TAIL c =
    let grown : c.extend_from_slice-2.new.self.items ≡ c.args.tail.now.items ++ c.args.given.now = c.in_ok-extend_from_slice-2.ensures.items in
    let turned = rw grown at c.rotate_left.ensures.items in
    let count : c.len-then-len-gt-TAIL.result ≡ length (c.args.tail.now.items ++ c.args.given.now) = grind (arith, grown) in
    tail_kept 4096 c.len-then-len-gt-TAIL.result _ _ _ count (omega arith) turned c.truncate.ensures.items
