-- Published examples, and whether the definitions agree with them.
use Rattle.std.specs.Prelude.{◌≡◌, ◌↔◌, Bool, IsTrue, ℕ, ◌<◌, ◌-◌, ◌^◌, ◌+◌, All, List, [], ◌∷◌, ◌++◌, length, take, slice_index_or, Option, Some, None, Ok, Err}
use Rattle.std.specs.List.{flat_map}
use Rattle.rice_coding.specs.Rice.{IsRiceRecordOf}
use Rattle.url_canon.specs.Url.{Url, text_of_url}
use Rattle.url_canon.specs.Canonical.{canonical_of}
use Rattle.url_canon.specs.declared.fault.UrlFault.{UrlFault}
use Rattle.url_canon.specs.declared.fault.UrlFault.TheVariants.{Empty, NoHost, TooLong, OutOfMemory}
use Rattle.url_expressions.specs.Expressions.{expressions_of}
use Rattle.conformance_vectors.specs.declared.case.Case.{Case}
use Rattle.conformance_vectors.specs.declared.case.Case.TheVariants.{Canon, Refused, Expressions, Rice}

-- The text has a canonical URL, and this is its text.
pub record HasCanonicalText (url text : List ℕ) : Type 0 where
  pub found : Url
  pub canonical : canonical_of url ≡ Ok found
  pub same : text_of_url found ≡ text

-- the number of a fault; want of memory has none
abbrev pub fault_number : UrlFault → Option ℕ
fault_number Empty = Some 1
fault_number NoHost = Some 2
fault_number (TooLong len) = Some 3
fault_number OutOfMemory = None

-- The text has no canonical URL, and its fault has this number.
pub record IsRefused (url : List ℕ) (number : ℕ) : Type 0 where
  pub fault : UrlFault
  pub refused : canonical_of url ≡ Err fault
  pub named : fault_number fault ≡ Some number

-- texts, each ended by a newline
abbrev pub ended_lines : List (List ℕ) → List ℕ
ended_lines texts = flat_map (λ text. text ++ 10 ∷ []) texts

-- The text has a canonical URL, and these lines are its expressions in order.
pub record HasExpressions (url lines : List ℕ) : Type 0 where
  pub found : Url
  pub canonical : canonical_of url ≡ Ok found
  pub expressions : ended_lines (expressions_of found) ≡ lines

-- There is a value, and the record with the first value and the count of these values, the
-- parameter and the coded bytes stands for them. A record has fewer than 2 ^ 32 values.
pub record HasRecord (values : List ℕ) (parameter : ℕ) (coded : List ℕ) : Type 0 where
  pub first : ℕ
  pub rest : List ℕ
  pub are : values ≡ first ∷ rest
  pub few : length values < 2 ^ 32
  pub stands : IsRiceRecordOf (record {
    first = first;
    parameter = parameter;
    count = length rest;
    coded = coded;
  }) values

-- The definitions agree with the case.
abbrev pub Meets : Case → Type 0
Meets (Canon url text) = HasCanonicalText url.now text.now
Meets (Refused url number) = IsRefused url.now number
Meets (Expressions url lines) = HasExpressions url.now lines.now
Meets (Rice values parameter coded) = HasRecord values.now parameter coded.now

-- So many of the cases are met.
pub data MeetCount : List Case → ℕ → Type 0 where
  nothing : MeetCount [] 0
  met : {case : Case} {cases : List Case} {count : ℕ} → Meets case → MeetCount cases count
      → MeetCount (case ∷ cases) (count + 1)
  failed : {case : Case} {cases : List Case} {count : ℕ} → (Meets case → ⊥) → MeetCount cases count
      → MeetCount (case ∷ cases) count

-- The case at a place is not met, and those before it are.
pub record IsFirstFailed (cases : List Case) (place : ℕ) : Type 0 where
  pub inside : place < length cases
  pub failed : (other : Case) → Meets (slice_index_or cases place other) → ⊥
  pub before : All Meets (take place cases)

-- Each answer says whether its case is met.
abbrev pub AreDecided : List Case → List Bool → Type 0
AreDecided [] [] = Unit {0}
AreDecided (case ∷ cases) (answer ∷ answers) =
    (IsTrue answer ↔ Meets case) × AreDecided cases answers
AreDecided _ _ = ⊥
