-- A journal that is cut: the front, and then the rest.
use Rattle.std.proofs.Common.{◌≡◌, ℕ, zero, suc, ◌+◌, ◌<◌, ◌≤◌, ◌⊎◌, inl, inr, List, [], ◌∷◌, ◌++◌, length, length-append, Bool, true, false, nat_lt, nat_le, if◌then◌else◌, Option, Some, None, Result, Ok, Err, refl, sym, ap, subst, ◌∙◌, append_assoc, arith}
use Rattle.std.specs.Prelude.{⊤}
use Rattle.std.specs.List.{slice_split}
use Rattle.std.proofs.lemmas.Bool.{eqb-true}
use Rattle.std.proofs.lemmas.List.Elements.{All-nil, All-cons}
use Rattle.std.proofs.lemmas.List.Splits.{slice_split_at, slice_split_none}
use Rattle.sb_model.specs.declared.history.Added.{Added}
use Rattle.sb_model.specs.declared.names.ListName.{ListName}
use Rattle.sb_model.specs.History.{declares, sizes_at, version_count}
use Rattle.list_versions.specs.declared.fault.JournalFault.{JournalFault}
use Rattle.list_versions.specs.declared.fault.JournalFault.TheVariants as fault
use Rattle.list_versions.specs.declared.heads.Head.{Head}
use Rattle.list_versions.specs.declared.heads.Head.TheVariants as head
use Rattle.list_versions.specs.declared.heads.Header.{Header}
use Rattle.list_versions.specs.Journal.{Kept, Begun, LineReading, ◌>>=◌, kept_of, read_on, at_record, after_list, after_change_line, after_head, if_within_limits, completed, settled, counted, with_add, with_remove, after_line_of, after_line, after_front, after_parts, after_bytes, after_first, after_header, if_short, line_fault, declared_size_of, with_bytes, adds_next, is_complete, with_change, change_of, next_line, lines_begun, most_line, with_list}
use Rattle.list_versions.specs.Limits.{limit_fault_at, most_changes, most_declared_lists, most_hash_lines, hash_lines}
use Rattle.list_versions.specs.Lines.{newline, is_newline, head_of, header_of, added_in_line, removed_of}
use Rattle.list_versions.specs.Pieces.{reading_after_header}
use Rattle.list_versions.specs.Split.{IsOneLine}
use Rattle.list_versions.proofs.Beginning.{first_parts}
use Rattle.list_versions.proofs.Parts.{parts_some}

-- ---- where a line leaves the reading: at a record, or with the bytes of the record so far

abbrev StandsAt : Kept → Result LineReading JournalFault → Type 0
StandsAt kept (Ok next) = (next ≡ at_record next.kept) ⊎ (next.kept ≡ kept)
StandsAt kept (Err f) = ⊤

stands_if : (kept : Kept) (b : Bool) (x y : Result LineReading JournalFault) → StandsAt kept x → StandsAt kept y → StandsAt kept (if b then x else y)
stands_if kept true x y h k = h
stands_if kept false x y h k = k

stands_record : (kept other : Kept) → StandsAt kept (Ok (at_record other))
stands_record kept other = inl refl

stands_change : (kept : Kept) (name : ListName) (to_add to_remove : ℕ) (size : Option ℕ) → StandsAt kept (after_change_line kept name to_add to_remove size)
stands_change kept name to_add to_remove None = tt
stands_change kept name to_add to_remove (Some size) =
    let begun : Begun = record { list = name; declared_size = size; to_add = to_add; to_remove = to_remove; adds = []; removes = [] } in
    let next : LineReading = record { kept = kept; begun = Some begun } in
    stands_if kept (nat_le most_changes (length kept.versions.changes)) (Err (fault.TooMany (next_line kept.versions))) (Ok next) tt (inr refl)

stands_list : (kept : Kept) (name : ListName) (size : ℕ) → StandsAt kept (after_list kept name size)
stands_list kept name size =
    let other : Kept = record kept { versions = record kept.versions { declared = with_list name size kept.versions.declared } } in
    let many : Result LineReading JournalFault = if nat_le most_declared_lists (length kept.versions.declared) then Err (fault.TooMany (next_line kept.versions)) else Ok (at_record other) in
    stands_if kept (declares kept.versions name) (Err (fault.ListTwice (next_line kept.versions))) many tt
    (stands_if kept (nat_le most_declared_lists (length kept.versions.declared)) (Err (fault.TooMany (next_line kept.versions))) (Ok (at_record other)) tt (stands_record kept other))

stands_head : (kept : Kept) (head : Option Head) → StandsAt kept (after_head kept head)
stands_head kept None = tt
stands_head kept (Some (head.List name size)) = stands_list kept name size
stands_head kept (Some (head.Change name to_add to_remove)) = stands_change kept name to_add to_remove (declared_size_of kept.versions name)

stands_limits : (kept other : Kept) (f : Option JournalFault) → StandsAt kept (if_within_limits other f)
stands_limits kept other None = stands_record kept other
stands_limits kept other (Some f) = tt

stands_completed : (kept : Kept) (begun : Begun) → StandsAt kept (completed kept begun)
stands_completed kept begun =
    let versions = with_change (change_of begun) kept.versions in
    stands_limits kept (record kept { versions = versions }) (limit_fault_at (next_line kept.versions + lines_begun begun) (sizes_at versions begun.list (version_count versions)))

stands_settled : (kept : Kept) (begun : Begun) → StandsAt kept (settled kept begun)
stands_settled kept begun =
    let next : LineReading = record { kept = kept; begun = Some begun } in
    stands_if kept (is_complete begun) (completed kept begun) (Ok next) (stands_completed kept begun) (inr refl)

stands_counted : (kept : Kept) (begun : Begun) → StandsAt kept (counted kept begun)
stands_counted kept begun =
    stands_if kept (nat_lt most_hash_lines (hash_lines kept.versions.changes + lines_begun begun)) (Err (fault.TooMany (next_line kept.versions + lines_begun begun))) (settled kept begun) tt (stands_settled kept begun)

stands_add : (kept : Kept) (begun : Begun) (added : Option Added) → StandsAt kept (with_add kept begun added)
stands_add kept begun None = tt
stands_add kept begun (Some added) = stands_counted kept (record begun { adds = begun.adds ++ added ∷ [] })

stands_remove : (kept : Kept) (begun : Begun) (hash : Option (List ℕ)) → StandsAt kept (with_remove kept begun hash)
stands_remove kept begun None = tt
stands_remove kept begun (Some hash) = stands_counted kept (record begun { removes = begun.removes ++ hash ∷ [] })

stands_line_of : (kept : Kept) (begun : Option Begun) (line : List ℕ) → StandsAt kept (after_line_of kept begun line)
stands_line_of kept None line = stands_head kept (if_short line (head_of line))
stands_line_of kept (Some begun) line =
    let add = if_short line (added_in_line kept.sized begun.declared_size line) in
    let remove = if_short line (removed_of line) in
    stands_if kept (adds_next begun) (with_add kept begun add) (with_remove kept begun remove) (stands_add kept begun add) (stands_remove kept begun remove)

stands_line : (reading : LineReading) (line : List ℕ) → StandsAt (with_bytes (line ++ newline ∷ []) reading.kept) (after_line reading line)
unfolding after_line
stands_line reading line = stands_line_of (with_bytes (line ++ newline ∷ []) reading.kept) reading.begun line

-- ---- a line, and then the rest

parts_line : (reading : LineReading) (line : List ℕ) (parts : List (List ℕ)) → 0 < length parts → after_parts reading (line ∷ parts) ≡ (after_line reading line >>= λ next. after_parts next parts)
parts_line reading line [] h = absurd (omega arith)
parts_line reading line (part ∷ parts) h = refl

whole_line : (reading : LineReading) (line rest : List ℕ) → IsOneLine line → after_bytes reading (line ++ newline ∷ rest) ≡ (after_line reading line >>= λ next. after_bytes next rest)
whole_line reading line rest within =
    ap (after_parts reading) (slice_split_at is_newline line newline rest within refl) ∙ parts_line reading line (slice_split is_newline rest) (parts_some is_newline rest)

one_line : (line rest : List ℕ) → (line ++ newline ∷ []) ++ rest ≡ line ++ newline ∷ rest
one_line line rest = append_assoc line (newline ∷ []) rest

-- Reading the bytes of the record again comes to where the reading stands.
record IsAt (reading : LineReading) : Type 0 where
  again : (bytes : List ℕ) → after_bytes (at_record reading.kept) (reading.kept.rest ++ bytes) ≡ after_bytes reading bytes

is_at_record : (reading : LineReading) → reading ≡ at_record reading.kept → IsAt reading
is_at_record reading e = record {
  again = λ bytes. ap (λ (r : LineReading). after_bytes (at_record reading.kept) (r.kept.rest ++ bytes)) e ∙ ap (λ (r : LineReading). after_bytes r bytes) (sym e);
}

is_at_within : (reading next : LineReading) (line : List ℕ) → IsAt reading → IsOneLine line → after_line reading line ≡ Ok next → next.kept ≡ with_bytes (line ++ newline ∷ []) reading.kept → IsAt next
is_at_within reading next line h within e kept = record {
  again = λ bytes. ap (λ (k : Kept). after_bytes (at_record k) (k.rest ++ bytes)) kept
      ∙ ap (after_bytes (at_record reading.kept)) (append_assoc reading.kept.rest (line ++ newline ∷ []) bytes ∙ ap (λ bs. reading.kept.rest ++ bs) (one_line line bytes))
      ∙ h.again (line ++ newline ∷ bytes) ∙ whole_line reading line bytes within ∙ ap (λ r. r >>= λ next'. after_bytes next' bytes) e;
}

is_at_next : (reading next : LineReading) (line : List ℕ) → IsAt reading → IsOneLine line → after_line reading line ≡ Ok next → (next ≡ at_record next.kept) ⊎ (next.kept ≡ with_bytes (line ++ newline ∷ []) reading.kept) → IsAt next
is_at_next reading next line h within e (inl at) = is_at_record next at
is_at_next reading next line h within e (inr kept) = is_at_within reading next line h within e kept

is_at_line : (reading next : LineReading) (line : List ℕ) → IsAt reading → IsOneLine line → after_line reading line ≡ Ok next → IsAt next
is_at_line reading next line h within e = is_at_next reading next line h within e (subst (StandsAt (with_bytes (line ++ newline ∷ []) reading.kept)) e (stands_line reading line))

-- ---- bytes begin with a line, or are one line

record FirstLine (bytes : List ℕ) : Type 0 where
  line : List ℕ
  rest : List ℕ
  whole : bytes ≡ line ++ newline ∷ rest
  within : IsOneLine line

cut_cons : (x : ℕ) (xs : List ℕ) (b : Bool) → is_newline x ≡ b → IsOneLine xs ⊎ FirstLine xs → IsOneLine (x ∷ xs) ⊎ FirstLine (x ∷ xs)
cut_cons x xs true e more = inr (record { line = []; rest = xs; whole = ap (λ y. y ∷ xs) (eqb-true x newline e); within = All-nil (λ byte. is_newline byte ≡ false) })
cut_cons x xs false e (inl one) = inl (All-cons (λ byte. is_newline byte ≡ false) x xs e one)
cut_cons x xs false e (inr first) = inr (record { line = x ∷ first.line; rest = first.rest; whole = ap (λ ys. x ∷ ys) first.whole; within = All-cons (λ byte. is_newline byte ≡ false) x first.line e first.within })

cut : (bytes : List ℕ) → IsOneLine bytes ⊎ FirstLine bytes
cut [] = inl (All-nil (λ byte. is_newline byte ≡ false))
cut (x ∷ xs) = cut_cons x xs (is_newline x) refl (cut xs)

-- What follows is read as if nothing was cut.
abbrev Follows : Kept → LineReading → List ℕ → List ℕ → Type 0
Follows kept reading front rest = after_bytes (at_record kept) (kept.rest ++ rest) ≡ after_bytes reading (front ++ rest)

front_kept : (b : Bool) (f : JournalFault) (kept front : Kept) → (if b then Err f else Ok front) ≡ Ok kept → kept ≡ front
front_kept true f kept front e = absurd (cc)
front_kept false f kept front e = cc

follows_front : (kept : Kept) (reading : LineReading) (front rest : List ℕ) → IsAt reading → IsOneLine front → after_bytes reading front ≡ Ok kept → Follows kept reading front rest
follows_front kept reading front rest h one e =
    let read : after_front reading front ≡ Ok kept = ap (after_parts reading) (sym (slice_split_none is_newline front one)) ∙ e in
    let is = front_kept (nat_lt most_line (length front)) (line_fault reading.kept.versions reading.begun) kept (with_bytes front reading.kept) read in
    ap (λ (k : Kept). after_bytes (at_record k) (k.rest ++ rest)) is ∙ ap (after_bytes (at_record reading.kept)) (append_assoc reading.kept.rest front rest) ∙ h.again (front ++ rest)

follows_line : (kept : Kept) (reading : LineReading) (front rest : List ℕ) (first : FirstLine front) (result : Result LineReading JournalFault) → IsAt reading → after_line reading first.line ≡ result
    → (result >>= λ next. after_bytes next first.rest) ≡ Ok kept
    → ((next : LineReading) → IsAt next → after_bytes next first.rest ≡ Ok kept → Follows kept next first.rest rest) → Follows kept reading front rest
follows_line kept reading front rest first (Err f) h is e more = absurd (cc)
follows_line kept reading front rest first (Ok next) h is e more =
    let whole : front ++ rest ≡ first.line ++ newline ∷ (first.rest ++ rest) = ap (λ bs. bs ++ rest) first.whole ∙ append_assoc first.line (newline ∷ first.rest) rest in
    more next (is_at_line reading next first.line h first.within is) e
    ∙ sym (ap (after_bytes reading) whole ∙ whole_line reading first.line (first.rest ++ rest) first.within ∙ ap (λ r. r >>= λ next'. after_bytes next' (first.rest ++ rest)) is)

shorter : (front : List ℕ) (first : FirstLine front) → length first.rest < length front
shorter front first = omega (arith, ap length first.whole, length-append first.line (newline ∷ first.rest))

follows_cut : (kept : Kept) (reading : LineReading) (front rest : List ℕ) → IsAt reading → after_bytes reading front ≡ Ok kept → IsOneLine front ⊎ FirstLine front
    → ((next : LineReading) (last : List ℕ) → length last < length front → IsAt next → after_bytes next last ≡ Ok kept → Follows kept next last rest) → Follows kept reading front rest
follows_cut kept reading front rest h e (inl one) more = follows_front kept reading front rest h one e
follows_cut kept reading front rest h e (inr first) more =
    follows_line kept reading front rest first (after_line reading first.line) h refl
    (sym (whole_line reading first.line first.rest first.within) ∙ ap (after_bytes reading) (sym first.whole) ∙ e)
    (λ next at e'. more next first.rest (shorter front first) at e')

follows : (n : ℕ) (kept : Kept) (reading : LineReading) (front rest : List ℕ) → length front ≤ n → IsAt reading → after_bytes reading front ≡ Ok kept → Follows kept reading front rest
follows zero kept reading front rest few h e = follows_cut kept reading front rest h e (cut front) (λ next last less at e'. absurd (omega arith))
follows (suc n) kept reading front rest few h e = follows_cut kept reading front rest h e (cut front) (λ next last less at e'. follows n kept next last rest (omega arith) at e')

-- ---- the whole journal

header_parts : (bytes line rest : List ℕ) → bytes ≡ line ++ newline ∷ rest → IsOneLine line → kept_of bytes ≡ after_header (if_short line (header_of line)) (slice_split is_newline rest)
unfolding kept_of
header_parts bytes line rest whole within =
    ap (λ bs. after_first (slice_split is_newline bs)) whole ∙ ap after_first (slice_split_at is_newline line newline rest within refl)
    ∙ first_parts line (slice_split is_newline rest) (parts_some is_newline rest)

no_line : (front : List ℕ) (kept : Kept) → IsOneLine front → kept_of front ≡ Ok kept → ⊥
unfolding kept_of
no_line front kept one e = let none : after_first (front ∷ []) ≡ Ok kept = ap after_first (sym (slice_split_none is_newline front one)) ∙ e in cc

cut_header : (kept : Kept) (front rest : List ℕ) (header : Option Header) → after_header header (slice_split is_newline front) ≡ Ok kept
    → after_bytes (at_record kept) (kept.rest ++ rest) ≡ after_header header (slice_split is_newline (front ++ rest))
cut_header kept front rest None e = absurd (cc)
cut_header kept front rest (Some header) e = follows (length front) kept (reading_after_header header) front rest (omega arith) (is_at_record (reading_after_header header) refl) e

cut_first : (front rest : List ℕ) (kept : Kept) → kept_of front ≡ Ok kept → IsOneLine front ⊎ FirstLine front → read_on kept rest ≡ kept_of (front ++ rest)
unfolding read_on
cut_first front rest kept e (inl one) = absurd (no_line front kept one e)
cut_first front rest kept e (inr first) =
    let whole : front ++ rest ≡ first.line ++ newline ∷ (first.rest ++ rest) = ap (λ bs. bs ++ rest) first.whole ∙ append_assoc first.line (newline ∷ first.rest) rest in
    cut_header kept first.rest rest (if_short first.line (header_of first.line)) (sym (header_parts front first.line first.rest first.whole first.within) ∙ e)
    ∙ sym (header_parts (front ++ rest) first.line (first.rest ++ rest) whole first.within)

pub cut_journal : (front rest : List ℕ) (kept : Kept) → kept_of front ≡ Ok kept → read_on kept rest ≡ kept_of (front ++ rest)
cut_journal front rest kept e = cut_first front rest kept e (cut front)
