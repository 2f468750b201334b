use Rattle.std.proofs.Common.{[], subst}
use Rattle.delta_server.specs.Version.{Stands}
use Rattle.delta_server.proofs.EntryFacts.{put_each}
use Rattle.delta_server.proofs.version.Version.start.Goals as goal

pub returns-clause-stands : goal.returns-clause-stands
returns-clause-stands c =
    subst (Stands c.add_each.new.self) (put_each [] c.args.entries.now c.requires.apart) (c.in_ok-add_each.ensures.ok [] c.in_ok-version.ensures.stands)
