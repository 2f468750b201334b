-- The first line of a journal.
use Rattle.std.proofs.Common.{◌≡◌, ℕ, ◌<◌, ◌≤◌, List, [], ◌∷◌, ◌++◌, Bool, true, false, length, nat_lt, if◌then◌else◌, Some, None, Err, refl, sym, ap, ◌∙◌, arith}
use Rattle.std.specs.List.{slice_split}
use Rattle.std.proofs.lemmas.Bool.Decides.{nat_tests}
use Rattle.list_versions.specs.declared.fault.JournalFault.TheVariants as fault
use Rattle.list_versions.specs.declared.heads.Header.{Header}
use Rattle.list_versions.specs.Journal.{kept_of, after_first, after_header, after_bytes, if_short, most_line}
use Rattle.list_versions.specs.Lines.{is_newline, header_of}
use Rattle.list_versions.specs.Pieces.{reading_after_header}
use Rattle.list_versions.specs.Split.{IsLine, IsLong}
use Rattle.list_versions.proofs.LineEnds.{parts_line, parts_long}
use Rattle.list_versions.proofs.Parts.{parts_some}

pub first_parts : (line : List ℕ) (parts : List (List ℕ)) → 0 < length parts → after_first (line ∷ parts) ≡ after_header (if_short line (header_of line)) parts
first_parts line [] h = absurd (omega arith)
first_parts line (part ∷ parts) h = refl

choose_false : {A : Type 0} (b : Bool) (x y : A) → b ≡ false → (if b then x else y) ≡ y
choose_false true x y h = absurd (cc)
choose_false false x y h = refl

choose_true : {A : Type 0} (b : Bool) (x y : A) → b ≡ true → (if b then x else y) ≡ x
choose_true true x y h = refl
choose_true false x y h = absurd (cc)

short : (line : List ℕ) → length line ≤ 128 → nat_lt most_line (length line) ≡ false
short line h = grind (arith, nat_tests)

long : (line : List ℕ) → 129 ≤ length line → nat_lt most_line (length line) ≡ true
long line h = grind (arith, nat_tests)

kept_line : (text line rest more : List ℕ) → IsLine text line rest → kept_of (text ++ more) ≡ after_header (header_of line) (slice_split is_newline (rest ++ more))
unfolding kept_of
kept_line text line rest more h =
    ap after_first (parts_line text line rest more h) ∙ first_parts line (slice_split is_newline (rest ++ more)) (parts_some is_newline (rest ++ more))
    ∙ ap (λ header. after_header header (slice_split is_newline (rest ++ more))) (choose_false (nat_lt most_line (length line)) None (header_of line) (short line h.short))

pub kept_begun : (text line rest : List ℕ) (header : Header) → IsLine text line rest → Some header ≡ header_of line → (more : List ℕ) → kept_of (text ++ more) ≡ after_bytes (reading_after_header header) (rest ++ more)
kept_begun text line rest header h e more = kept_line text line rest more h ∙ ap (λ found. after_header found (slice_split is_newline (rest ++ more))) (sym e)

pub kept_bad : (text line rest : List ℕ) → IsLine text line rest → None ≡ header_of line → (more : List ℕ) → kept_of (text ++ more) ≡ Err fault.Header
kept_bad text line rest h e more = kept_line text line rest more h ∙ ap (λ found. after_header found (slice_split is_newline (rest ++ more))) (sym e)

first_long : (first : List ℕ) (others : List (List ℕ)) → nat_lt most_line (length first) ≡ true → after_first (first ∷ others) ≡ Err fault.Header
first_long first [] h = refl
first_long first (part ∷ parts) h = ap (λ header. after_header header (part ∷ parts)) (choose_true (nat_lt most_line (length first)) None (header_of first) h)

pub kept_long : (text : List ℕ) → IsLong text → (more : List ℕ) → kept_of (text ++ more) ≡ Err fault.Header
unfolding kept_of
kept_long text h more =
    let first = parts_long text more h in
    ap after_first first.are ∙ first_long first.first first.others (long first.first first.long)
