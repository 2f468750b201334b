use Rattle.std.proofs.Common.{rules, subst, IsTrue}
use Rattle.sb_model.specs.Names.{same_name}
use Rattle.sb_model.proofs.NameCodes.{then_equal, name_by_codes, same_name-self}
use Rattle.sb_model.proofs.laws.names_go_by_their_codes.Goals as goal

pub returns-clause-threats : goal.returns-clause-threats
returns-clause-threats c = search rules

pub returns-clause-platforms : goal.returns-clause-platforms
returns-clause-platforms c = search rules

pub returns-clause-entries : goal.returns-clause-entries
returns-clause-entries c = search rules

pub returns-clause-names : goal.returns-clause-names
returns-clause-names c a b =
    then_equal _ _ _ _ _ _
    (returns-clause-threats c a.threat b.threat)
    (returns-clause-platforms c a.platform b.platform)
    (returns-clause-entries c a.entry b.entry)

pub returns-clause-same : goal.returns-clause-same
returns-clause-same c a b = (name_by_codes a b, λ equal. subst (λ name. IsTrue (same_name a name)) equal (same_name-self a))
