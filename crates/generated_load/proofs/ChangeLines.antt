-- The lines of a change that adds one hash, and removes one or none.
use Rattle.std.proofs.Common.{◌≡◌, ℕ, ◌%◌, List, [], ◌∷◌, ◌++◌, Bool, true, false, refl, sym, ap, ◌∙◌, append-nil, append_assoc, eq-eqb, codes, arith}
use Rattle.std.specs.Prelude.{◌==◌, if◌then◌else◌, ◌≢◌, Result, Ok, Err, OnOk}
use Rattle.std.specs.Fmt.{digits}
use Rattle.std.proofs.lemmas.Bool.Decides.{nat_tests}
use Rattle.hex.specs.Hex.{encode_lower}
use Rattle.sb_model.specs.declared.history.Change.{Change}
use Rattle.list_versions.specs.Lines.{newline}
use Rattle.list_versions.specs.Written.{change_line, change_text, line_of}
use Rattle.generated_load.specs.Generated.{generated_change, generated_list}

abbrev change_with : Bool → List ℕ → List ℕ → Change
change_with removes before hash = record {
  list = generated_list;
  adds = record { hash = hash; size = 4 } ∷ [];
  removes = if removes then before ∷ [] else [];
}

abbrev pub marked : ℕ → List ℕ → List ℕ
marked mark hash = mark ∷ line_of (encode_lower hash ∷ [])

abbrev pub adds_alone : List ℕ
adds_alone = codes "change MALWARE/ANY_PLATFORM/URL 1 0" ++ newline ∷ []

abbrev pub adds_and_removes : List ℕ
adds_and_removes = codes "change MALWARE/ANY_PLATFORM/URL 1 1" ++ newline ∷ []

alone_line : (before hash : List ℕ) → change_line (change_with false before hash) ≡ adds_alone
unfolding digits
alone_line before hash = refl

both_line : (before hash : List ℕ) → change_line (change_with true before hash) ≡ adds_and_removes
unfolding digits
both_line before hash = refl

alone_lines : (before hash : List ℕ) → change_text false (change_with false before hash) ≡ adds_alone ++ marked 43 hash
unfolding change_text
alone_lines before hash =
    append-nil (change_line (change_with false before hash) ++ (marked 43 hash ++ []))
    ∙ ap (λ (bytes : List ℕ). bytes ++ (marked 43 hash ++ [])) (alone_line before hash)
    ∙ ap (λ (bytes : List ℕ). adds_alone ++ bytes) (append-nil (marked 43 hash))

both_lines : (before hash : List ℕ) → change_text false (change_with true before hash) ≡ (adds_and_removes ++ marked 43 hash) ++ marked 45 before
unfolding change_text
both_lines before hash =
    ap (λ (bytes : List ℕ). (bytes ++ (marked 43 hash ++ [])) ++ (marked 45 before ++ [])) (both_line before hash)
    ∙ ap (λ (bytes : List ℕ). (adds_and_removes ++ bytes) ++ (marked 45 before ++ [])) (append-nil (marked 43 hash))
    ∙ ap (λ (bytes : List ℕ). (adds_and_removes ++ marked 43 hash) ++ bytes) (append-nil (marked 45 before))

change_is : (place : ℕ) (removes : Bool) (before hash : List ℕ) → (place % 4 == 0) ≡ removes → generated_change place before hash ≡ change_with removes before hash
unfolding generated_change
change_is place removes before hash h = ap (λ (b : Bool). change_with b before hash) h

pub plain_lines : (place : ℕ) (before hash : List ℕ) → place % 4 ≢ 0 → change_text false (generated_change place before hash) ≡ adds_alone ++ marked 43 hash
plain_lines place before hash h =
    let odd : (place % 4 == 0) ≡ false = grind (arith, nat_tests) in
    ap (change_text false) (change_is place false before hash odd) ∙ alone_lines before hash

pub fourth_lines : (place : ℕ) (before hash : List ℕ) → place % 4 ≡ 0 → change_text false (generated_change place before hash) ≡ (adds_and_removes ++ marked 43 hash) ++ marked 45 before
fourth_lines place before hash h =
    ap (change_text false) (change_is place true before hash (eq-eqb (place % 4) 0 h)) ∙ both_lines before hash

-- ---- what is written of each

pub plain_text : (place : ℕ) (before hash page front whole : List ℕ) → place % 4 ≢ 0 → front ≡ page ++ adds_alone → whole ≡ front ++ marked 43 hash
    → whole ≡ page ++ change_text false (generated_change place before hash)
plain_text place before hash page front whole other begun is =
    is ∙ ap (λ (bytes : List ℕ). bytes ++ marked 43 hash) begun ∙ append_assoc page adds_alone (marked 43 hash)
    ∙ ap (λ (bytes : List ℕ). page ++ bytes) (sym (plain_lines place before hash other))

pub fourth_text : (place : ℕ) (before hash page front middle whole : List ℕ) → place % 4 ≡ 0 → front ≡ page ++ adds_and_removes → middle ≡ front ++ marked 43 hash
    → whole ≡ middle ++ marked 45 before → whole ≡ page ++ change_text false (generated_change place before hash)
fourth_text place before hash page front middle whole fourth begun added is =
    is ∙ ap (λ (bytes : List ℕ). bytes ++ marked 45 before) (added ∙ ap (λ (bytes : List ℕ). bytes ++ marked 43 hash) begun ∙ append_assoc page adds_and_removes (marked 43 hash))
    ∙ append_assoc page (adds_and_removes ++ marked 43 hash) (marked 45 before)
    ∙ ap (λ (bytes : List ℕ). page ++ bytes) (sym (fourth_lines place before hash fourth))

pub on_ok : {T E P Q : Type 0} (r : Result T E) → (P → Q) → OnOk r P → OnOk r Q
on_ok (Ok x) f h = f h
on_ok (Err e) f h = tt
