-- The text of records, one record more at a time.
use Rattle.std.proofs.Common.{◌≡◌, ℕ, zero, suc, ◌+◌, List, [], ◌∷◌, ◌++◌, Bool, length, take, Result, Ok, Err, OnErr, sym, ap, ◌∙◌, arith, add-one, append-nil, append_assoc, length-append}
use Rattle.std.specs.List.{flat_map, range_with_len}
use Rattle.std.proofs.lemmas.List.{take-take}
use Rattle.std.proofs.lemmas.List.Concat.{flat_map-append}
use Rattle.std.proofs.lemmas.List.Folds.{flat_map-map}
use Rattle.std.proofs.Math.Seq.{take-append_seam}
use Rattle.sb_model.specs.declared.names.ListName.{ListName}
use Rattle.sb_journal.specs.declared.hash_line.HashLine.{HashLine}
use Rattle.sb_journal.specs.Records.{change_with, lines_at, record_count, records_of}
use Rattle.list_versions.specs.Written.{change_text}
use Rattle.sb_journal.specs.Texts.{records_text}

range_more : (a n : ℕ) → range_with_len a (suc n) ≡ range_with_len a n ++ (a + n) ∷ []
range_more a zero = ap (λ (k : ℕ). k ∷ []) (omega arith)
range_more a (suc n) =
    let e : (a + 1) + n ≡ a + suc n = omega arith in
    ap (λ (ks : List ℕ). a ∷ ks) (range_more (a + 1) n ∙ ap (λ (k : ℕ). range_with_len (a + 1) n ++ k ∷ []) e)

-- the text of the first records
abbrev pub text_up_to : Bool → ListName → List HashLine → ℕ → List ℕ
text_up_to sized list lines count = flat_map (λ place. change_text sized (change_with list (lines_at lines place))) (range_with_len 0 count)

text_next : (f : ℕ → List ℕ) (n : ℕ) → flat_map f (range_with_len 0 (n + 1)) ≡ flat_map f (range_with_len 0 n) ++ f n
text_next f n =
    let place : 0 + n ≡ n = omega arith in
    ap (λ (k : ℕ). flat_map f (range_with_len 0 k)) (add-one n) ∙ ap (flat_map f) (range_more 0 n)
    ∙ flat_map-append f (range_with_len 0 n) ((0 + n) ∷ [])
    ∙ ap (λ (ks : List ℕ). flat_map f (range_with_len 0 n) ++ ks) (append-nil (f (0 + n)))
    ∙ ap (λ (k : ℕ). flat_map f (range_with_len 0 n) ++ f k) place

-- one record more
pub record_more : (sized : Bool) (list : ListName) (lines some : List HashLine) (place : ℕ) (start before after : List ℕ) → some ≡ lines_at lines place
    → before ≡ start ++ text_up_to sized list lines place → after ≡ before ++ change_text sized (change_with list some) → after ≡ start ++ text_up_to sized list lines (place + 1)
record_more sized list lines some place start before after is h e =
    let f : ℕ → List ℕ = λ place. change_text sized (change_with list (lines_at lines place)) in
    e ∙ ap (λ (ls : List HashLine). before ++ change_text sized (change_with list ls)) is ∙ ap (λ (bs : List ℕ). bs ++ f place) h
    ∙ append_assoc start (text_up_to sized list lines place) (f place) ∙ ap (λ (bs : List ℕ). start ++ bs) (sym (text_next f place))

-- all records
pub records_whole : (sized : Bool) (list : ListName) (lines : List HashLine) (count : ℕ) (start page : List ℕ) → count ≡ record_count (length lines)
    → page ≡ start ++ text_up_to sized list lines count → page ≡ start ++ records_text sized (records_of list lines)
unfolding records_of
records_whole sized list lines count start page is h =
    h ∙ ap (λ (n : ℕ). start ++ text_up_to sized list lines n) is
    ∙ ap (λ (bs : List ℕ). start ++ bs) (sym (flat_map-map (change_text sized) (λ place. change_with list (lines_at lines place)) (range_with_len 0 (record_count (length lines)))))

pub on_err : {T E P : Type 0} (r : Result T E) → P → OnErr r P
on_err (Ok x) p = tt
on_err (Err e) p = p

-- what keeps the front that some records are behind keeps the front before them
pub front_kept : (start done now some : List ℕ) → done ≡ start ++ some → take (length done) now ≡ done → take (length start) now ≡ start
front_kept start done now some e h =
    sym (take-take (length start) (length done) now (omega (arith, ap length e, length-append start some))) ∙ ap (take (length start)) (h ∙ e) ∙ take-append_seam start some
