use Rattle.std.proofs.Common.{map}
use Rattle.sb_model.specs.declared.names.PlatformType.{PlatformType}
use Rattle.sb_model.specs.Names.{platforms, entries}
use Rattle.delta_server.specs.Finding.{name_of_three_types}
use Rattle.answering_lists.proofs.Joined.{joined_more}
use Rattle.answering_lists.proofs.names.push_platforms.Goals as goal

pub loop-platform-preserved : goal.loop-platform-preserved
loop-platform-preserved c =
    joined_more (λ (p : PlatformType). map (name_of_three_types c.args.threat p) entries) platforms c.loop-platform.platform-index _ c.args.names.now c.loop-platform.names c.push_entries.new.names
    c.loop-platform-test.true c.loop-platform.invariant c.in_ok-push_entries.ensures
