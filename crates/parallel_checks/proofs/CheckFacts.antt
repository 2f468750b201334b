-- Checks on publications that go on.
use Rattle.std.proofs.Common.{◌≡◌, ℕ, ◌≤◌, List, [], ◌∷◌, ◌++◌, length, sym, ap, ◌∙◌, subst, append_assoc, arith, length-append}
use Rattle.std.specs.Prelude.{Some, slice_get}
use Rattle.std.proofs.lemmas.List.{append-nil}
use Rattle.update_client.specs.Held.{Held}
use Rattle.snapshot_publish.specs.Publications.{Publications, Publication, IsPrefixOf}
use Rattle.snapshot_publish.specs.Publishing.{Seated}
use Rattle.url_checker.specs.Checking.{IsFindingOf}
use Rattle.url_checker.specs.declared.findings.Finding.{Finding}
use Rattle.url_checker.specs.declared.findings.Checked.{Checked}
use Rattle.url_checker.specs.declared.findings.Checked.TheVariants.{Found, Refused}
use Rattle.parallel_checks.specs.Checks.{IsCheckOf, IsCheckOn, Shows, GoesOn}
use Rattle.parallel_checks.proofs.ListFacts.{get_more}

-- ---- publications

pub prefix_on : (xs ys zs : Publications) → IsPrefixOf xs ys → IsPrefixOf ys zs → IsPrefixOf xs zs
prefix_on xs ys zs p q = (p.0 ++ q.0, q.1 ∙ (ap (λ (l : Publications). l ++ q.0) p.1 ∙ append_assoc xs p.0 q.0))

pub prefix_get : (xs ys : Publications) (k : ℕ) (x : List Held) → IsPrefixOf xs ys → slice_get xs k ≡ Some x → slice_get ys k ≡ Some x
prefix_get xs ys k x p e = ap (λ (l : Publications). slice_get l k) p.1 ∙ get_more xs p.0 k x e

pub prefix_long : (xs ys : Publications) → IsPrefixOf xs ys → length xs ≤ length ys
prefix_long xs ys p = let e = ap length p.1 in let a = length-append xs p.0 in omega (arith, e, a)

no_more : (xs more : Publications) → length (xs ++ more) ≡ length xs → xs ++ more ≡ xs
no_more xs [] e = append-nil xs
no_more xs (x ∷ more) e = let a = length-append xs (x ∷ more) in absurd (omega (arith, e, a))

-- as long as what begins it, it is the same
pub prefix_whole : (xs ys : Publications) → IsPrefixOf xs ys → length ys ≡ length xs → ys ≡ xs
prefix_whole xs ys p e = p.1 ∙ no_more xs p.0 (ap length (sym p.1) ∙ e)

-- ---- seats

pub goes_on : (one two three : Seated) → GoesOn one two → GoesOn two three → GoesOn one three
goes_on one two three f g = record {
  place = g.place ∙ f.place;
  same_box = g.same_box ∙ f.same_box;
  list = prefix_on one.list two.list three.list f.list g.list;
}

-- ---- checks

pub check_of : (all : Publications) (one : Publication) (line : List ℕ) (check : Checked) → Shows all one → IsCheckOn one line check → IsCheckOf all line check
check_of all one line (Found finding) at is = record {
  lists = one.lists;
  there = ap (slice_get all) is.0.numbered ∙ at;
  is = subst (λ (n : ℕ). IsFindingOf one.lists n line finding) (sym is.0.numbered) is.0;
  askable = is.1;
}
check_of all one line (Refused fault) at is = is

pub check_on : (all all' : Publications) (line : List ℕ) (check : Checked) → IsPrefixOf all all' → IsCheckOf all line check → IsCheckOf all' line check
check_on all all' line (Found finding) p is = record {
  lists = is.lists;
  there = prefix_get all all' finding.number is.lists p is.there;
  is = is.is;
  askable = is.askable;
}
check_on all all' line (Refused fault) p is = is

-- the number that a check on a publication names
pub number_on : (one : Publication) (line : List ℕ) (check : Checked) (finding : Finding) → check ≡ Found finding → IsCheckOn one line check → finding.number ≡ one.number
number_on one line check finding e is = (subst (λ (c : Checked). IsCheckOn one line c) e is).0.numbered
