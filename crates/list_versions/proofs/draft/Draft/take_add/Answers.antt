use Rattle.std.proofs.Common.{◌∷◌, [], length-append, arith, inr}
use Rattle.std.proofs.lemmas.List.Elements.{All-push}
use Rattle.list_versions.specs.Lines.{IsAdded}
use Rattle.list_versions.proofs.Reading.{open_adds, waits_open, fails_long, fails_add, fails_add_past, moves_add}
use Rattle.list_versions.proofs.draft.Draft.take_add.Goals as goal

pub returns-in-Ok-None-clause-waits : goal.returns-in-Ok-None-clause-waits
returns-in-Ok-None-clause-waits c =
    waits_open c.args.self.now c.args.begin.now c.args.adds.now [] c.args.bytes.now (λ seen. open_adds c.args.self.now c.args.begin.now c.args.adds.now [] seen c.requires.more)
    (rw c.in-Ok-None.field-0-is at c.in-Ok-None.ensures.front)

pub returns-in-Err-clause-fault : goal.returns-in-Err-clause-fault
returns-in-Err-clause-fault c =
    inr (fails_long c.args.self.now c.args.begin.now c.args.adds.now [] c.args.bytes.now _ (λ seen. open_adds c.args.self.now c.args.begin.now c.args.adds.now [] seen c.requires.more)
    (omega (arith, c.next_line.ensures.value, c.len.ensures)) c.in-Err.ensures.long)

pub returns-in_default-clause-fault : goal.returns-in_default-clause-fault
returns-in_default-clause-fault c =
    inr (fails_add c.args.self.now c.args.begin.now c.args.adds.now c.args.bytes.now c.in-Ok-Some.halves.0.now c.in-Ok-Some.halves.1.now _ c.requires.more
    (omega (arith, c.next_line.ensures.value, c.len.ensures)) (rw c.in-Ok-Some.field-0-is at c.in-Ok-Some.ensures.whole) c.in_default.ensures.value)

pub returns-then-self-len-gt-MOST_HASH_LINES-clause-fault : goal.returns-then-self-len-gt-MOST_HASH_LINES-clause-fault
returns-then-self-len-gt-MOST_HASH_LINES-clause-fault c =
    inr (fails_add_past c.args.self.now c.args.begin.now c.args.adds.now c.in-Some.added c.args.bytes.now c.in-Ok-Some.halves.0.now c.in-Ok-Some.halves.1.now _ c.requires.more
    (omega (arith, c.next_line.ensures.value, c.len.ensures, length-append c.args.adds.now (c.in-Some.added ∷ []))) (rw c.in-Ok-Some.field-0-is at c.in-Ok-Some.ensures.whole) c.in-Some.ensures.value
    (omega (arith, c.requires.draft.hashes, c.len-2.ensures, c.if-self-len-gt-MOST_HASH_LINES.true, length-append c.args.adds.now (c.in-Some.added ∷ []))))

pub returns-clause-moves : goal.returns-clause-moves
returns-clause-moves c = rw c.in-Ok.ensures.ok (
    moves_add c.args.self.now c.args.begin.now c.args.adds.now c.in-Some.added c.args.bytes.now c.in-Ok-Some.halves.0.now c.in-Ok-Some.halves.1.now c.requires.more
    (rw c.in-Ok-Some.field-0-is at c.in-Ok-Some.ensures.whole) c.in-Some.ensures.value
    (omega (arith, c.requires.draft.hashes, c.len-2.ensures, c.if-self-len-gt-MOST_HASH_LINES.false, length-append c.args.adds.now (c.in-Some.added ∷ []))))

pub returns-clause-count : goal.returns-clause-count
returns-clause-count c = rw c.in-Ok.ensures.ok (omega (arith, c.len-2.ensures, c.if-self-len-gt-MOST_HASH_LINES.false, length-append c.args.adds.now (c.in-Some.added ∷ [])))

pub returns-clause-sizes : goal.returns-clause-sizes
returns-clause-sizes c h = rw c.in-Ok.ensures.ok (All-push IsAdded c.args.adds.now c.in-Some.added h (c.in-Some.ensures.well c.requires.size))
