-- A history of lists that have no change yet, as a journal can tell it.
use Rattle.std.proofs.Common.{◌≡◌, ℕ, ◌<◌, ◌^◌, List, [], ◌∷◌, Bool, true, false, length, map, fold, refl, sym, ap, subst, arith}
use Rattle.std.specs.Prelude.{◌&&◌, All, not}
use Rattle.std.specs.List.{list_any}
use Rattle.std.proofs.Math.Seq.{take-nil}
use Rattle.std.proofs.lemmas.List.{length-map}
use Rattle.std.proofs.lemmas.List.Elements.{All-cons, All-map, All-nil}
use Rattle.sb_model.specs.declared.history.Added.{Added}
use Rattle.sb_model.specs.declared.history.Change.{Change}
use Rattle.sb_model.specs.declared.names.ListName.{ListName}
use Rattle.sb_model.specs.History.{IsPrefixSize, after_change}
use Rattle.sb_model.specs.Names.{same_name}
use Rattle.sb_words.specs.Values.{has_each_once}
use Rattle.list_versions.specs.Limits.{KeepsToLimits}
use Rattle.list_versions.specs.Written.{AreApart, HasJournal, HasLines}
use Rattle.journal_run.specs.declared.command.Command.TheVariants.{New}
use Rattle.journal_run.specs.declared.command.NewLine.{NewLine}
use Rattle.journal_run.specs.Fresh.{fresh_history}
use Rattle.journal_run.proofs.Given.{HasGiven}

-- ---- lists that stand once are apart

abbrev IsOther : ListName → ListName × ℕ → Type 0
IsOther name other = same_name name other.0 ≡ false

-- one name more
other_first : (size : ℕ) (name next : ListName) (names : List ListName) (more b : Bool) → same_name name next ≡ b
    → ((not (list_any (same_name name) names) && more) ≡ true → All (IsOther name) (map (λ n. (n, size)) names) × (more ≡ true))
    → (not (list_any (same_name name) (next ∷ names)) && more) ≡ true → All (IsOther name) (map (λ n. (n, size)) (next ∷ names)) × (more ≡ true)
other_first size name next names more true is h e = absurd (let no : false ≡ true = rw is at e in cc)
other_first size name next names more false is h e =
    let rest = h (rw is at e) in
    (All-cons (IsOther name) (next, size) (map (λ n. (n, size)) names) is rest.0, rest.1)

others : (size : ℕ) (name : ListName) (names : List ListName) (more : Bool) → (not (list_any (same_name name) names) && more) ≡ true
    → All (IsOther name) (map (λ n. (n, size)) names) × (more ≡ true)
others size name [] more e = (All-nil (IsOther name), e)
others size name (next ∷ names) more e = other_first size name next names more (same_name name next) refl (others size name names more) e

apart : (size : ℕ) (names : List ListName) → has_each_once names ≡ true → AreApart (map (λ name. (name, size)) names)
apart size [] e = tt
apart size (name ∷ names) e = let h = others size name names (has_each_once names) e in (h.0, apart size names h.1)

-- ---- what has no change

none_within : KeepsToLimits []
none_within = record { count = omega arith; uncrowded = λ head. omega arith; bytes = omega arith }

-- A journal can tell such a history.
pub fresh_journal : (epoch : ℕ) (line : NewLine) → epoch < 2 ^ 64 → HasGiven (New line) → HasJournal (fresh_history epoch line)
fresh_journal epoch line small given = record {
  epoch = small;
  well_formed = record {
    declared = All-map (λ (list : ListName × ℕ). IsPrefixSize list.1) (λ name. (name, line.size)) line.lists (λ k d lt. given.0);
    adds = All-nil (λ (change : Change). All (λ (added : Added). (length added.hash ≡ 32) × IsPrefixSize added.size) change.adds);
    removes = All-nil (λ (change : Change). All (λ (hash : List ℕ). length hash ≡ 32) change.removes);
  };
  apart = apart line.size line.lists given.1.1;
  changes = All-nil (HasLines (fresh_history epoch line));
  few_lists = omega (arith, length-map {B = ListName × ℕ} line.lists (λ name. (name, line.size)), given.1.0);
  few_changes = omega arith;
  few_hashes = omega arith;
  within = λ list version le. subst KeepsToLimits (sym (ap (fold (after_change list) []) (take-nil version))) none_within;
}
