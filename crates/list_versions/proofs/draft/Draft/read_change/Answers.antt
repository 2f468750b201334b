use Rattle.std.proofs.Common.{◌≡◌, ◌∙◌, ℕ, ap, arith, Some}
use Rattle.std.specs.Prelude.{find, option_map}
use Rattle.sb_model.specs.declared.names.ListName.{ListName}
use Rattle.list_versions.specs.Draft.{declared_of, history_of}
use Rattle.list_versions.specs.Journal.{declared_size_of}
use Rattle.list_versions.specs.declared.draft.Begin.{Begin}
use Rattle.list_versions.proofs.Applying.{is_named}
use Rattle.list_versions.proofs.Ending.{ends_moves}
use Rattle.list_versions.proofs.Reading.{moves_then, waits_then, fails_then}
use Rattle.list_versions.proofs.Records.{size_found, begin_same, moves_same, moves_to, waits_same, fails_same, fails_at_end, map_fault}
use Rattle.list_versions.proofs.draft.Draft.read_change.Goals as goal

pub read_adds-requires-clause-size : goal.read_adds-requires-clause-size
read_adds-requires-clause-size c =
    let size = c.in-Some.ensures ∙ ap (λ ls. option_map (λ (list : ListName × ℕ). list.1) (find (is_named c.args.list) (declared_of ls))) c.deref.ensures.value in
    (size_found c.args.self.now c.args.list c.in-Some.size c.requires.draft size).0

pub returns-in-Err-clause-fault : goal.returns-in-Err-clause-fault
returns-in-Err-clause-fault c =
    let old = c.args.self.now in
    let begin : Begin = record { list = c.args.list; size = c.in-Some.size; to_add = c.args.to_add; to_remove = c.args.to_remove } in
    let size : Some begin.size ≡ declared_size_of (history_of old) begin.list = c.in-Some.ensures ∙ ap (λ ls. option_map (λ (list : ListName × ℕ). list.1) (find (is_named c.args.list) (declared_of ls))) c.deref.ensures.value in
    let same = begin_same old begin c.requires.some size (omega (arith, c.len.ensures, c.if-len-ge-MOST_CHANGES.false)) in
    map_fault (fails_same c.args.bytes.now c.in-Err.fault same) c.in-Err.ensures.fault

pub returns-in-Ok-None-read_removes-clause-waits : goal.returns-in-Ok-None-read_removes-clause-waits
returns-in-Ok-None-read_removes-clause-waits c =
    let old = c.args.self.now in
    let begin : Begin = record { list = c.args.list; size = c.in-Some.size; to_add = c.args.to_add; to_remove = c.args.to_remove } in
    let size : Some begin.size ≡ declared_size_of (history_of old) begin.list = c.in-Some.ensures ∙ ap (λ ls. option_map (λ (list : ListName × ℕ). list.1) (find (is_named c.args.list) (declared_of ls))) c.deref.ensures.value in
    let same = begin_same old begin c.requires.some size (omega (arith, c.len.ensures, c.if-len-ge-MOST_CHANGES.false)) in
    let first = rw c.in-Ok-Some.field-0-is at c.in-Ok-Some.ensures.moves in
    waits_same old same (waits_then old first (rw (c.in-Ok-None-read_removes.field-0-is, c.as_slice.ensures) at c.in-Ok-None-read_removes.ensures.waits))

pub returns-in-Err-read_removes-clause-fault : goal.returns-in-Err-read_removes-clause-fault
returns-in-Err-read_removes-clause-fault c =
    let old = c.args.self.now in
    let begin : Begin = record { list = c.args.list; size = c.in-Some.size; to_add = c.args.to_add; to_remove = c.args.to_remove } in
    let size : Some begin.size ≡ declared_size_of (history_of old) begin.list = c.in-Some.ensures ∙ ap (λ ls. option_map (λ (list : ListName × ℕ). list.1) (find (is_named c.args.list) (declared_of ls))) c.deref.ensures.value in
    let same = begin_same old begin c.requires.some size (omega (arith, c.len.ensures, c.if-len-ge-MOST_CHANGES.false)) in
    let first = rw c.in-Ok-Some.field-0-is at c.in-Ok-Some.ensures.moves in
    map_fault (λ fails. fails_same c.args.bytes.now c.in-Err-read_removes.fault same (fails_then c.in-Err-read_removes.fault first fails)) (rw c.as_slice.ensures at c.in-Err-read_removes.ensures.fault)

pub complete-requires-clause-declared : goal.complete-requires-clause-declared
complete-requires-clause-declared c =
    let size = c.in-Some.ensures ∙ ap (λ ls. option_map (λ (list : ListName × ℕ). list.1) (find (is_named c.args.list) (declared_of ls))) c.deref.ensures.value in
    (size_found c.args.self.now c.args.list c.in-Some.size c.requires.draft size).1

pub returns-in-Ok-clause-moves : goal.returns-in-Ok-clause-moves
returns-in-Ok-clause-moves c =
    let old = c.args.self.now in
    let begin : Begin = record { list = c.args.list; size = c.in-Some.size; to_add = c.args.to_add; to_remove = c.args.to_remove } in
    let size : Some begin.size ≡ declared_size_of (history_of old) begin.list = c.in-Some.ensures ∙ ap (λ ls. option_map (λ (list : ListName × ℕ). list.1) (find (is_named c.args.list) (declared_of ls))) c.deref.ensures.value in
    let same = begin_same old begin c.requires.some size (omega (arith, c.len.ensures, c.if-len-ge-MOST_CHANGES.false)) in
    let first = rw c.in-Ok-Some.field-0-is at c.in-Ok-Some.ensures.moves in
    let second = rw (c.in-Ok-Some-read_removes.field-0-is, c.as_slice.ensures) at c.in-Ok-Some-read_removes.ensures.moves in
    let both = moves_then 132096 first second (omega (arith, c.requires.few)) in
    moves_same 132096 same (moves_to c.in-Ok.ensures.ok both) (omega arith)

pub returns-in-Err-complete-clause-fault : goal.returns-in-Err-complete-clause-fault
returns-in-Err-complete-clause-fault c =
    let old = c.args.self.now in
    let begin : Begin = record { list = c.args.list; size = c.in-Some.size; to_add = c.args.to_add; to_remove = c.args.to_remove } in
    let size : Some begin.size ≡ declared_size_of (history_of old) begin.list = c.in-Some.ensures ∙ ap (λ ls. option_map (λ (list : ListName × ℕ). list.1) (find (is_named c.args.list) (declared_of ls))) c.deref.ensures.value in
    let same = begin_same old begin c.requires.some size (omega (arith, c.len.ensures, c.if-len-ge-MOST_CHANGES.false)) in
    let first = rw c.in-Ok-Some.field-0-is at c.in-Ok-Some.ensures.moves in
    let second = rw (c.in-Ok-Some-read_removes.field-0-is, c.as_slice.ensures) at c.in-Ok-Some-read_removes.ensures.moves in
    let both = moves_then 132096 first second (omega (arith, c.requires.few)) in
    map_fault (λ fails. fails_same c.args.bytes.now c.in-Err-complete.fault same (fails_then c.in-Err-complete.fault both (fails_at_end c.in-Ok-Some-read_removes.taken.1.now c.in-Err-complete.fault fails))) c.in-Err-complete.ensures.fault

pub returns-in-Ok-clause-back : goal.returns-in-Ok-clause-back
returns-in-Ok-clause-back c =
    let first = rw c.in-Ok-Some.field-0-is at c.in-Ok-Some.ensures.moves in
    let second = rw (c.in-Ok-Some-read_removes.field-0-is, c.as_slice.ensures) at c.in-Ok-Some-read_removes.ensures.moves in
    ends_moves (moves_then 132096 first second (omega (arith, c.requires.few)))
