use Rattle.sb_members.proofs.Floats.{made_none}
use Rattle.sb_members.proofs.FoundMembers.{members_within}
use Rattle.sb_members.proofs.laws.members_are_as_their_values.Goals as goal

pub returns-clause-depths : goal.returns-clause-depths
returns-clause-depths c = members_within

pub returns-clause-floats : goal.returns-clause-floats
returns-clause-floats c = made_none
