-- What is found among the newest sets of the declared lists.
use Rattle.std.proofs.Common.{◌≡◌, ℕ, Bool, true, false, cond, ◌||◌, List, [], ◌∷◌, map, refl, sym, ap, ◌∙◌, subst, Bor}
use Rattle.std.specs.Prelude.{All, find, option_copied, Option, Some, None}
use Rattle.std.specs.List.{list_any}
use Rattle.std.proofs.lemmas.List.Elements.{All-head, All-tail}
use Rattle.sha2.specs.Sha256.{sha256}
use Rattle.sb_model.specs.declared.names.ListName.{ListName}
use Rattle.sb_model.specs.Names.{same_name}
use Rattle.sb_model.specs.Prefixes.{concatenation}
use Rattle.sb_model.specs.History.{History, declares, prefixes_at, version_count}
use Rattle.list_versions.specs.declared.newest.Newest.{Newest}
use Rattle.list_versions.specs.declared.draft.Listed.{Listed}
use Rattle.list_versions.specs.Draft.{declared_of}
use Rattle.list_versions.specs.Loaded.{IsNewest}
use Rattle.list_versions.specs.Numbers.{AreNumbersOf}

abbrev pub is_of : ListName → Newest → Bool
is_of list newest = same_name newest.name list

-- The one that is found has the name, and is the newest of its list.
pub found_newest : (versions : History) (list : ListName) (newest : List Newest) (found : Newest) → All (IsNewest versions) newest → find (is_of list) newest ≡ Some found
    → (same_name found.name list ≡ true) × IsNewest versions found
found_newest versions list [] found each h = absurd (cc)
found_newest versions list (n ∷ newest) found each h =
    go (is_of list n) refl h (λ h. found_newest versions list newest found (All-tail (IsNewest versions) n newest each) h)
  where
    go : (b : Bool) → is_of list n ≡ b → cond b (Some n) (find (is_of list) newest) ≡ Some found
        → (find (is_of list) newest ≡ Some found → (same_name found.name list ≡ true) × IsNewest versions found)
        → (same_name found.name list ≡ true) × IsNewest versions found
    go true e h later =
        let is : n ≡ found = cc in
        subst (λ n. (same_name n.name list ≡ true) × IsNewest versions n) is (e, All-head (IsNewest versions) n newest each)
    go false e h later = later h

-- One is found exactly where the list is declared.
abbrev pub is_found : Option Newest → Bool
is_found None = false
is_found (Some found) = true

one_more : (n : Newest) (b c : Bool) (later : Option Newest) (some : Bool) → b ≡ c → some ≡ is_found later → (c || some) ≡ is_found (cond b (Some n) later)
one_more n true true later some e h = refl
one_more n false false later some e h = h
one_more n true false later some e h = absurd (cc)
one_more n false true later some e h = absurd (cc)

pub found_declared : (list : ListName) (newest : List Newest) (lists : List Listed) → map (λ (newest : Newest). newest.name) newest ≡ map (λ (listed : Listed). listed.name) lists
    → list_any (λ (declared : ListName × ℕ). same_name declared.0 list) (declared_of lists) ≡ is_found (find (is_of list) newest)
found_declared list [] [] names = refl
found_declared list [] (l ∷ lists) names = absurd (cc)
found_declared list (n ∷ newest) [] names = absurd (cc)
found_declared list (n ∷ newest) (l ∷ lists) names =
    let same : n.name ≡ l.name = cc in
    let others : map (λ (newest : Newest). newest.name) newest ≡ map (λ (listed : Listed). listed.name) lists = cc in
    one_more n (is_of list n) (same_name l.name list) (find (is_of list) newest) (list_any (λ (declared : ListName × ℕ). same_name declared.0 list) (declared_of lists))
    (ap (λ name. same_name name list) same) (found_declared list newest lists others)

-- what the newest set of a list says
pub record IsReady (versions : History) (list : ListName) (found : Newest) : Type 0 where
  pub declared : declares versions list ≡ true
  pub set : found.set ≡ prefixes_at versions list (version_count versions)
  pub digest : found.digest ≡ sha256 (concatenation found.set)
  pub numbers : AreNumbersOf found.set found.numbers.items

abbrev pub Answers : History → ListName → Option (Bor Newest) → Type 0
Answers versions list None = declares versions list ≡ false
Answers versions list (Some found) = IsReady versions list found.now

pub answers : (same : (a b : ListName) → same_name a b ≡ true → a ≡ b) (versions : History) (list : ListName) (newest : List Newest) (lists : List Listed) (result : Option (Bor Newest))
    → All (IsNewest versions) newest → map (λ (newest : Newest). newest.name) newest ≡ map (λ (listed : Listed). listed.name) lists → versions.declared ≡ declared_of lists
    → option_copied result ≡ find (is_of list) newest → Answers versions list result
answers same versions list newest lists None each names declared h =
    ap (list_any (λ (declared : ListName × ℕ). same_name declared.0 list)) declared ∙ found_declared list newest lists names ∙ ap is_found (sym h)
answers same versions list newest lists (Some found) each names declared h =
    let is = found_newest versions list newest found.now each (sym h) in
    let name : found.now.name ≡ list = same found.now.name list is.0 in
    record {
      declared = ap (list_any (λ (declared : ListName × ℕ). same_name declared.0 list)) declared ∙ found_declared list newest lists names ∙ ap is_found (sym h);
      set = is.1.set ∙ ap (λ name. prefixes_at versions name (version_count versions)) name;
      digest = is.1.digest;
      numbers = is.1.numbers;
    }
