use Rattle.std.proofs.Common.{◌≡◌, ◌∙◌, Bor, Option, Some, None, IfSome, IfNone, ap, refl, subst, true, false}
use Rattle.list_versions.specs.declared.newest.Newest.{Newest}
use Rattle.sb_model.specs.History.{History, declares, version_count, prefixes_at}
use Rattle.sb_model.specs.declared.names.ListName.{ListName}
use Rattle.sb_model.specs.Prefixes.{concatenation}
use Rattle.sha2.specs.Sha256.{sha256}
use Rattle.std.specs.Prelude.{find}
use Rattle.list_versions.specs.Draft.{history_of}
use Rattle.list_versions.specs.Numbers.{AreNumbersOf}
use Rattle.list_versions.proofs.Newests.{Answers, answers, is_of}
use Rattle.list_versions.proofs.history.History.newest.Goals as goal

declared_in : (versions : History) (list : ListName) (result : Option (Bor Newest)) → Answers versions list result → IfSome result (λ newest. declares versions list ≡ true)
declared_in versions list None h = tt
declared_in versions list (Some found) h = h.declared

set_in : (versions : History) (list : ListName) (result : Option (Bor Newest)) → Answers versions list result → IfSome result (λ newest. newest.now.set ≡ prefixes_at versions list (version_count versions))
set_in versions list None h = tt
set_in versions list (Some found) h = h.set

digest_in : (versions : History) (list : ListName) (result : Option (Bor Newest)) → Answers versions list result → IfSome result (λ newest. newest.now.digest ≡ sha256 (concatenation newest.now.set))
digest_in versions list None h = tt
digest_in versions list (Some found) h = h.digest

numbers_in : (versions : History) (list : ListName) (result : Option (Bor Newest)) → Answers versions list result → IfSome result (λ newest. AreNumbersOf newest.now.set newest.now.numbers.items)
numbers_in versions list None h = tt
numbers_in versions list (Some found) h = h.numbers

none_in : (versions : History) (list : ListName) (result : Option (Bor Newest)) → Answers versions list result → IfNone result (declares versions list ≡ false)
none_in versions list None h = h
none_in versions list (Some found) h = tt

found : (c : goal.After-newest_of) → Answers c.args.self.now.versions c.args.list c.newest_of.result
found c =
    subst (λ kept. Answers kept.versions c.args.list c.newest_of.result) c.self.view_is
    (answers (λ a b. (c.names_go_by_their_codes.ensures.same a b).0) (history_of c.self.inside.draft) c.args.list c.self.inside.newest.items c.self.inside.draft.lists.items c.newest_of.result
    c.self.invariant.each c.self.invariant.names refl
    (c.newest_of.ensures ∙ ap (find (is_of c.args.list)) c.deref.ensures.value))

pub returns-clause-declared : goal.returns-clause-declared
returns-clause-declared c = declared_in c.args.self.now.versions c.args.list c.newest_of.result (found c)

pub returns-clause-set : goal.returns-clause-set
returns-clause-set c = set_in c.args.self.now.versions c.args.list c.newest_of.result (found c)

pub returns-clause-digest : goal.returns-clause-digest
returns-clause-digest c = digest_in c.args.self.now.versions c.args.list c.newest_of.result (found c)

pub returns-clause-numbers : goal.returns-clause-numbers
returns-clause-numbers c = numbers_in c.args.self.now.versions c.args.list c.newest_of.result (found c)

pub returns-clause-none : goal.returns-clause-none
returns-clause-none c = none_in c.args.self.now.versions c.args.list c.newest_of.result (found c)
