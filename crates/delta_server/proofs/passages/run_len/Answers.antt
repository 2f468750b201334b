use Rattle.std.proofs.Common.{◌≡◌}
use Rattle.std.proofs.lemmas.List.Elements.{All-more}
use Rattle.list_versions.specs.declared.stretch.Stretch.{Stretch}
use Rattle.delta_server.proofs.PassageFacts.{later_from}
use Rattle.delta_server.proofs.passages.run_len.Goals as goal

pub returns-then-stretch-head-clause-later : goal.returns-then-stretch-head-clause-later
returns-then-stretch-head-clause-later c = λ order first rest is own.
    later_from c.args.stretches.now c.loop-i.i (record { head = 0; from = 0; until = 0 }) first rest c.args.head c.loop-i-test.true order is own c.if-stretch-head.true

pub loop-i-preserved : goal.loop-i-preserved
loop-i-preserved c =
    All-more (λ (s : Stretch). s.head ≡ c.args.head) c.args.stretches.now c.loop-i.i (record { head = 0; from = 0; until = 0 }) c.loop-i-test.true c.loop-i.invariant c.if-stretch-head.false
