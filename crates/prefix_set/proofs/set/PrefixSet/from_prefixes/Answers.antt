use Rattle.std.proofs.Common.{ℕ, List, subst, sym, ap, ◌∙◌}
use Rattle.std.specs.Prelude.{◌↔◌}
use Rattle.std.specs.List.{Contains}
use Rattle.std.proofs.lemmas.Result.{IfOk-weaker}
use Rattle.sb_model.specs.Prefixes.{IsRising, set_of}
use Rattle.prefix_set.proofs.SetFacts.{length-set_of, bytes-set_of, members-set_of, rising-set_of}
use Rattle.prefix_set.proofs.set.PrefixSet.from_prefixes.Goals as goal

pub returns-in_err-from_prefixes-clause-no_more : goal.returns-in_err-from_prefixes-clause-no_more
returns-in_err-from_prefixes-clause-no_more c = length-set_of c.args.prefixes.now

pub returns-in_err-from_prefixes-clause-no_longer : goal.returns-in_err-from_prefixes-clause-no_longer
returns-in_err-from_prefixes-clause-no_longer c = bytes-set_of c.args.prefixes.now

pub returns-in_err-members-clause-no_more : goal.returns-in_err-members-clause-no_more
returns-in_err-members-clause-no_more c = length-set_of c.args.prefixes.now

pub returns-in_err-members-clause-no_longer : goal.returns-in_err-members-clause-no_longer
returns-in_err-members-clause-no_longer c = bytes-set_of c.args.prefixes.now

pub of_rising-requires : goal.of_rising-requires
of_rising-requires c = subst IsRising (sym c.in_ok-members.ensures) (rising-set_of c.in_ok-from_prefixes.field-0)

pub returns-clause-members : goal.returns-clause-members
returns-clause-members c =
    IfOk-weaker c.of_rising.result _ _
    (λ set is x. subst (λ (s : List (List ℕ)). Contains s x ↔ Contains c.args.prefixes.now x)
    (sym (is ∙ c.in_ok-members.ensures ∙ ap set_of c.in_ok-from_prefixes.ensures)) (members-set_of c.args.prefixes.now x))
    c.of_rising.ensures.ok

pub returns-clause-no_more : goal.returns-clause-no_more
returns-clause-no_more c = length-set_of c.args.prefixes.now

pub returns-clause-no_longer : goal.returns-clause-no_longer
returns-clause-no_longer c = bytes-set_of c.args.prefixes.now
