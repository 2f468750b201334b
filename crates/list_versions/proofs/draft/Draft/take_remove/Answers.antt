use Rattle.std.proofs.Common.{ℕ, List, ◌≡◌, ◌∷◌, [], length, length-append, arith, inr}
use Rattle.std.proofs.lemmas.List.Elements.{All-push}
use Rattle.list_versions.proofs.Reading.{open_removes, waits_open, fails_long, fails_remove, fails_remove_past, moves_remove}
use Rattle.list_versions.proofs.draft.Draft.take_remove.Goals as goal

pub returns-in-Ok-None-clause-waits : goal.returns-in-Ok-None-clause-waits
returns-in-Ok-None-clause-waits c =
    waits_open c.args.self.now c.args.begin.now c.args.adds.now c.args.removes.now c.args.bytes.now (λ seen. open_removes c.args.self.now c.args.begin.now c.args.adds.now c.args.removes.now seen c.requires.more)
    (rw c.in-Ok-None.field-0-is at c.in-Ok-None.ensures.front)

pub returns-in-Err-clause-fault : goal.returns-in-Err-clause-fault
returns-in-Err-clause-fault c =
    inr (fails_long c.args.self.now c.args.begin.now c.args.adds.now c.args.removes.now c.args.bytes.now _ (λ seen. open_removes c.args.self.now c.args.begin.now c.args.adds.now c.args.removes.now seen c.requires.more)
    (omega (arith, c.next_line.ensures.value, c.len.ensures)) c.in-Err.ensures.long)

pub returns-in_default-clause-fault : goal.returns-in_default-clause-fault
returns-in_default-clause-fault c =
    inr (fails_remove c.args.self.now c.args.begin.now c.args.adds.now c.args.removes.now c.args.bytes.now c.in-Ok-Some.halves.0.now c.in-Ok-Some.halves.1.now _ c.requires.added c.requires.more
    (omega (arith, c.next_line.ensures.value, c.len.ensures)) (rw c.in-Ok-Some.field-0-is at c.in-Ok-Some.ensures.whole) c.in_default.ensures.value)

pub returns-then-self-adds-gt-MOST_HASH_LINES-clause-fault : goal.returns-then-self-adds-gt-MOST_HASH_LINES-clause-fault
returns-then-self-adds-gt-MOST_HASH_LINES-clause-fault c =
    inr (fails_remove_past c.args.self.now c.args.begin.now c.args.adds.now c.args.removes.now c.in-Some.hash c.args.bytes.now c.in-Ok-Some.halves.0.now c.in-Ok-Some.halves.1.now _ c.requires.added c.requires.more
    (omega (arith, c.next_line.ensures.value, c.len.ensures, length-append c.args.removes.now (c.in-Some.hash ∷ []))) (rw c.in-Ok-Some.field-0-is at c.in-Ok-Some.ensures.whole) c.in-Some.ensures.value
    (omega (arith, c.requires.draft.hashes, c.len-2.ensures, c.if-self-adds-gt-MOST_HASH_LINES.true, length-append c.args.removes.now (c.in-Some.hash ∷ []))))

pub returns-clause-moves : goal.returns-clause-moves
returns-clause-moves c = rw c.in-Ok.ensures.ok (
    moves_remove c.args.self.now c.args.begin.now c.args.adds.now c.args.removes.now c.in-Some.hash c.args.bytes.now c.in-Ok-Some.halves.0.now c.in-Ok-Some.halves.1.now c.requires.added c.requires.more
    (rw c.in-Ok-Some.field-0-is at c.in-Ok-Some.ensures.whole) c.in-Some.ensures.value
    (omega (arith, c.requires.draft.hashes, c.len-2.ensures, c.if-self-adds-gt-MOST_HASH_LINES.false, length-append c.args.removes.now (c.in-Some.hash ∷ []))))

pub returns-clause-count : goal.returns-clause-count
returns-clause-count c = rw c.in-Ok.ensures.ok (omega (arith, c.len-2.ensures, c.if-self-adds-gt-MOST_HASH_LINES.false, length-append c.args.removes.now (c.in-Some.hash ∷ [])))

pub returns-clause-sizes : goal.returns-clause-sizes
returns-clause-sizes c h = rw c.in-Ok.ensures.ok (All-push (λ (hash : List ℕ). length hash ≡ 32) c.args.removes.now c.in-Some.hash h c.in-Some.ensures.whole)
