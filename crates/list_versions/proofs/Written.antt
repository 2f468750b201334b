-- A journal that is written is read as its history.
use Rattle.std.proofs.Common.{◌≡◌, ℕ, zero, suc, ◌+◌, ◌^◌, ◌<◌, ◌≤◌, nat_lt, nat_eq, List, [], ◌∷◌, ◌++◌, Bool, true, false, ◌&&◌, ◌||◌, cond, if◌then◌else◌, length, take, fold, refl, sym, ap, ◌∙◌, subst, arith, eq-eqb, length-append, append_assoc, Option, Some, None, Ok}
use Rattle.std.specs.Prelude.{⊤, All, nat_le, codes, decimal, find, option_and_then}
use Rattle.std.specs.Int.{w64, to_be_bytes, from_be_bytes}
use Rattle.std.specs.List.{flat_map, join_with_byte, list_any, slice_split}
use Rattle.std.specs.Option.{option_map}
use Rattle.std.specs.Result.{result_ok}
use Rattle.std.proofs.Math.Seq.{take-append_seam}
use Rattle.std.proofs.lemmas.Bool.Decides.{nat_tests}
use Rattle.std.proofs.lemmas.Fmt.{length-decimal-le}
use Rattle.std.proofs.lemmas.List.{append-nil, take_all}
use Rattle.std.proofs.lemmas.List.Elements.{All-cons, All-head, All-nil, All-tail}
use Rattle.std.proofs.lemmas.List.Sums.{sum_by-append}
use Rattle.std.proofs.lemmas.Nat.{from_be_bytes-to_be_bytes_8}
use Rattle.hex.specs.Hex.{IsBytes, encode_lower}
use Rattle.sb_model.specs.declared.history.Added.{Added}
use Rattle.sb_model.specs.declared.history.Change.{Change}
use Rattle.sb_model.specs.declared.names.ListName.{ListName}
use Rattle.sb_model.specs.Names.{same_name, text_of}
use Rattle.sb_model.specs.History.{History, IsPrefixSize, after_change, declares, sizes_at, version_count}
use Rattle.list_versions.specs.declared.heads.Head.{Head}
use Rattle.list_versions.specs.declared.heads.Head.TheVariants as head
use Rattle.list_versions.specs.declared.heads.Header.{Header}
use Rattle.list_versions.specs.declared.fault.JournalFault.{JournalFault}
use Rattle.list_versions.specs.Journal.{Kept, Begun, LineReading, ◌>>=◌, after_bytes, after_change_line, after_first, after_head, after_header, after_line, declared_size_of, empty_history, if_short, if_within_limits, is_complete, kept_of, lines_begun, next_line, settled, with_change, with_remove, with_add}
use Rattle.list_versions.specs.Limits.{KeepsToLimits, hash_lines, is_crowded, limit_fault_at, most_alike, most_changes, most_hashes, most_declared_lists, most_prefix_bytes, prefix_bytes}
use Rattle.list_versions.specs.Lines.{bytes_in_digits, form_of, added_in_line, added_of_words, change_head, head_of, head_of_words, header_of, header_of_words, is_change_size, is_newline, list_head, newline, short_number_of, removed_of, size_of}
use Rattle.list_versions.specs.Split.{IsLine, IsOneLine}
use Rattle.list_versions.specs.Written.{AreApart, HasDeclaredSizes, HasJournal, HasLines, add_line, add_words, form_word, change_line, change_text, header_line, journal_text, declaration_line, remove_line, wholly}
use Rattle.list_versions.proofs.LineEnds.{parts_line}
use Rattle.list_versions.proofs.LineTexts.{AreWords, is_word, bytes_back, decimal_word, eight_bytes, hash_back, hex_long, hex_word, name_back, name_short, name_word, number_back, one_line, words_joined}
use Rattle.list_versions.proofs.Parts.{parts_some}
use Rattle.list_versions.proofs.Reading.{bytes_line, choose_false, choose_true, line_add, line_remove, short_is, within}

-- ---- the words of each line, and what they are read as

abbrev header_words : Header → List (List ℕ)
header_words header = codes "sblist" ∷ form_word header.sized ∷ encode_lower (to_be_bytes w64 header.epoch) ∷ []

abbrev header_with : Bool → ℕ → Header
header_with sized epoch = record { sized = sized; epoch = epoch }

form_is_word : (sized : Bool) → is_word (form_word sized) ≡ true
form_is_word true = refl
form_is_word false = refl

form_back : (sized : Bool) → form_of (form_word sized) ≡ Some sized
form_back true = refl
form_back false = refl

form_short : (sized : Bool) → length (form_word sized) ≡ 1
form_short true = refl
form_short false = refl

are_header : (sized : Bool) (epoch : ℕ) → AreWords (header_words (header_with sized epoch))
are_header sized epoch = (refl, (form_is_word sized, (hex_word (to_be_bytes w64 epoch) (eight_bytes epoch), tt)))

header_read : (sized : Bool) (epoch : ℕ) → epoch < 2 ^ 64 → header_of (join_with_byte 32 (header_words (header_with sized epoch))) ≡ Some (header_with sized epoch)
header_read sized epoch h =
    let digits = encode_lower (to_be_bytes w64 epoch) in
    ap header_of_words (words_joined (codes "sblist") (form_word sized ∷ digits ∷ []) (are_header sized epoch))
    ∙ ap (option_and_then (λ form. option_map (λ bytes. header_with form (from_be_bytes w64 bytes)) (bytes_in_digits 8 digits))) (form_back sized)
    ∙ ap (option_map (λ bytes. header_with sized (from_be_bytes w64 bytes))) (bytes_back 8 (to_be_bytes w64 epoch) refl (eight_bytes epoch))
    ∙ ap (λ (n : ℕ). Some (header_with sized n)) (from_be_bytes-to_be_bytes_8 epoch h)

header_short : (sized : Bool) (epoch : ℕ) → length (join_with_byte 32 (header_words (header_with sized epoch))) ≤ 128
header_short sized epoch =
    let long : length (encode_lower (to_be_bytes w64 epoch)) ≡ 16 = hex_long (to_be_bytes w64 epoch) in
    let form = form_short sized in
    omega (arith, long, form, length-append (form_word sized) (32 ∷ encode_lower (to_be_bytes w64 epoch)))

abbrev pub list_words : ListName → ℕ → List (List ℕ)
list_words name size = codes "list" ∷ text_of name ∷ decimal size ∷ []

pub are_list : (name : ListName) (size : ℕ) → size ≤ 32 → AreWords (list_words name size)
are_list name size h = (refl, (name_word name, (decimal_word size (omega arith), tt)))

pub list_read : (name : ListName) (size : ℕ) → 4 ≤ size → size ≤ 32 → head_of (join_with_byte 32 (list_words name size)) ≡ Some (head.List name size)
list_read name size l h =
    ap head_of_words (words_joined (codes "list") (text_of name ∷ decimal size ∷ []) (are_list name size h))
    ∙ ap (λ n. list_head (result_ok n) (size_of (decimal size))) (name_back name)
    ∙ ap (list_head (Some name)) (number_back 4 32 size l h (omega arith))

pub list_short : (name : ListName) (size : ℕ) → size ≤ 32 → length (join_with_byte 32 (list_words name size)) ≤ 128
list_short name size h =
    let few : length (decimal size) ≤ 2 = length-decimal-le 2 size (omega arith) (omega arith) (omega arith) in
    omega (arith, name_short name, few, length-append (text_of name) (32 ∷ decimal size))

abbrev pub change_words : ListName → ℕ → ℕ → List (List ℕ)
change_words name adds removes = codes "change" ∷ text_of name ∷ decimal adds ∷ decimal removes ∷ []

pub are_change : (name : ListName) (adds removes : ℕ) → adds + removes ≤ 1024 → AreWords (change_words name adds removes)
are_change name adds removes h = (refl, (name_word name, (decimal_word adds (omega arith), (decimal_word removes (omega arith), tt))))

is_size : (count : ℕ) → 1 ≤ count → count ≤ 1024 → is_change_size count ≡ true
is_size count l h = grind (arith, nat_tests)

pub change_read : (name : ListName) (adds removes : ℕ) → 1 ≤ adds + removes → adds + removes ≤ 1024
    → head_of (join_with_byte 32 (change_words name adds removes)) ≡ Some (head.Change name adds removes)
change_read name adds removes l h =
    ap head_of_words (words_joined (codes "change") (text_of name ∷ decimal adds ∷ decimal removes ∷ []) (are_change name adds removes h))
    ∙ ap (λ n. change_head (result_ok n) (short_number_of 0 1024 (decimal adds)) (short_number_of 0 1024 (decimal removes))) (name_back name)
    ∙ ap (λ a. change_head (Some name) a (short_number_of 0 1024 (decimal removes))) (number_back 0 1024 adds (omega arith) (omega arith) (omega arith))
    ∙ ap (change_head (Some name) (Some adds)) (number_back 0 1024 removes (omega arith) (omega arith) (omega arith))
    ∙ choose_true (is_change_size (adds + removes)) _ _ (is_size (adds + removes) l h)

pub change_short : (name : ListName) (adds removes : ℕ) → adds + removes ≤ 1024 → length (join_with_byte 32 (change_words name adds removes)) ≤ 128
change_short name adds removes h =
    let a : length (decimal adds) ≤ 4 = length-decimal-le 4 adds (omega arith) (omega arith) (omega arith) in
    let r : length (decimal removes) ≤ 4 = length-decimal-le 4 removes (omega arith) (omega arith) (omega arith) in
    omega (arith, name_short name, a, r, length-append (text_of name) (32 ∷ (decimal adds ++ 32 ∷ decimal removes)), length-append (decimal adds) (32 ∷ decimal removes))

-- a hash that a line adds, and one that a line removes
pub record IsWritten (added : Added) : Type 0 where
  pub whole : length added.hash ≡ 32
  pub bytes : IsBytes added.hash
  pub size : IsPrefixSize added.size

pub record IsWrittenHash (hash : List ℕ) : Type 0 where
  pub whole : length hash ≡ 32
  pub bytes : IsBytes hash

-- where a line names no size, the hash has the one that is declared
abbrev pub IsOfForm : Bool → ℕ → Added → Type 0
IsOfForm true declared added = ⊤
IsOfForm false declared added = declared ≡ added.size

are_add : (sized : Bool) (added : Added) → IsWritten added → AreWords (add_words sized added)
are_add true added h = let high = h.size.high in (hex_word added.hash h.bytes, (decimal_word added.size (omega (arith, high)), tt))
are_add false added h = (hex_word added.hash h.bytes, tt)

abbrev pub entry_with : List ℕ → ℕ → Added
entry_with hash size = record { hash = hash; size = size }

pub add_read : (sized : Bool) (declared : ℕ) (added : Added) → IsWritten added → IsOfForm sized declared added → added_in_line sized declared (43 ∷ join_with_byte 32 (add_words sized added)) ≡ Some added
add_read true declared added h of =
    let high = h.size.high in
    ap (added_of_words true declared) (words_joined (encode_lower added.hash) (decimal added.size ∷ []) (are_add true added h))
    ∙ ap (option_and_then (λ (hash : List ℕ). option_map (entry_with hash) (size_of (decimal added.size)))) (hash_back added.hash h.whole h.bytes)
    ∙ ap (option_map (entry_with added.hash)) (number_back 4 32 added.size h.size.low h.size.high (omega (arith, high)))
add_read false declared added h of =
    ap (added_of_words false declared) (words_joined (encode_lower added.hash) [] (are_add false added h))
    ∙ ap (option_map (λ (hash : List ℕ). entry_with hash declared)) (hash_back added.hash h.whole h.bytes)
    ∙ ap (λ (size : ℕ). Some (entry_with added.hash size)) of

pub add_line_is : (sized : Bool) (added : Added) → IsWritten added → IsOneLine (join_with_byte 32 (add_words sized added))
add_line_is true added h = one_line (encode_lower added.hash) (decimal added.size ∷ []) (are_add true added h)
add_line_is false added h = one_line (encode_lower added.hash) [] (are_add false added h)

pub add_short : (sized : Bool) (added : Added) → IsWritten added → length (43 ∷ join_with_byte 32 (add_words sized added)) ≤ 128
add_short true added h =
    let high = h.size.high in
    let few : length (decimal added.size) ≤ 2 = length-decimal-le 2 added.size (omega arith) (omega (arith, high)) (omega (arith, high)) in
    omega (arith, hex_long added.hash, h.whole, few, length-append (encode_lower added.hash) (32 ∷ decimal added.size))
add_short false added h = omega (arith, hex_long added.hash, h.whole)

pub remove_read : (hash : List ℕ) → IsWrittenHash hash → removed_of (45 ∷ encode_lower hash) ≡ Some hash
remove_read hash h = hash_back hash h.whole h.bytes

pub remove_short : (hash : List ℕ) → IsWrittenHash hash → length (45 ∷ encode_lower hash) ≤ 128
remove_short hash h = omega (arith, hex_long hash, h.whole)

pub signed_line : (sign : ℕ) (text : List ℕ) → is_newline sign ≡ false → IsOneLine text → IsOneLine (sign ∷ text)
signed_line sign text e h = All-cons (λ byte. is_newline byte ≡ false) sign text e h

-- ---- a text that leads on

-- the text is taken, and what is known goes from one to the other
abbrev Leads : LineReading → List ℕ → LineReading → Type 0
Leads before text after = (more : List ℕ) → after_bytes before (text ++ more) ≡ after_bytes after more

leads_then : (a b c : LineReading) (s t : List ℕ) → Leads a s b → Leads b t c → Leads a (s ++ t) c
leads_then a b c s t h k more = ap (after_bytes a) (append_assoc s t more) ∙ h (t ++ more) ∙ k more

-- a line with its end
pub leads_line : (before : LineReading) (line more : List ℕ) → IsOneLine line → length line ≤ 128
    → after_bytes before ((line ++ newline ∷ []) ++ more) ≡ (after_line before line >>= λ next. after_bytes next more)
leads_line before line more one short = bytes_line before (line ++ newline ∷ []) line [] more (record { whole = refl; within = one; short = short })

-- what is known between two records
abbrev pub at_history : Bool → History → LineReading
at_history sized history = record { kept = wholly sized history; begun = None }

abbrev pub kept_at : Bool → History → List ℕ → Kept
kept_at sized history rest = record { sized = sized; versions = history; rest = rest }

pub head_line : (sized : Bool) (history : History) (line : List ℕ) (first : Head) → length line ≤ 128 → head_of line ≡ Some first
    → after_line (at_history sized history) line ≡ after_head (kept_at sized history (line ++ newline ∷ [])) (Some first)
unfolding after_line
head_line sized history line first short h = ap (after_head (kept_at sized history (line ++ newline ∷ []))) (short_is line (head_of line) short ∙ h)

-- ---- the lists

abbrev pub declared_at : ℕ → List (ListName × ℕ) → History
declared_at epoch declared = record { epoch = epoch; declared = declared; changes = [] }

after_all : {X : Type 0} (P : X → Type 0) (xs ys : List X) → All P (xs ++ ys) → All P ys
after_all P [] ys h = h
after_all P (x ∷ xs) ys h = after_all P xs ys (All-tail P x (xs ++ ys) h)

apart_new : (got left : List (ListName × ℕ)) (list : ListName × ℕ) → AreApart (got ++ list ∷ left) → list_any (λ (other : ListName × ℕ). same_name other.0 list.0) got ≡ false
apart_new [] left list h = refl
apart_new (x ∷ got) left list h =
    let here = All-head (λ (other : ListName × ℕ). same_name x.0 other.0 ≡ false) list left (after_all (λ (other : ListName × ℕ). same_name x.0 other.0 ≡ false) got (list ∷ left) h.0) in
    rw (here, apart_new got left list h.1) refl

room : (n : ℕ) → n < 8 → nat_le most_declared_lists n ≡ false
room n h = grind (arith, nat_tests)

list_leads : (sized : Bool) (epoch : ℕ) (got : List (ListName × ℕ)) (list : ListName × ℕ) → list_any (λ (other : ListName × ℕ). same_name other.0 list.0) got ≡ false → length got < 8 → IsPrefixSize list.1
    → Leads (at_history sized (declared_at epoch got)) (declaration_line list) (at_history sized (declared_at epoch (got ++ list ∷ [])))
list_leads sized epoch got list new few size more =
    let line = join_with_byte 32 (list_words list.0 list.1) in
    leads_line (at_history sized (declared_at epoch got)) line more (one_line (codes "list") (text_of list.0 ∷ decimal list.1 ∷ []) (are_list list.0 list.1 size.high)) (list_short list.0 list.1 size.high)
    ∙ ap (λ r. r >>= λ next. after_bytes next more)
    (head_line sized (declared_at epoch got) line (head.List list.0 list.1) (list_short list.0 list.1 size.high) (list_read list.0 list.1 size.low size.high)
    ∙ choose_false (declares (declared_at epoch got) list.0) _ _ new
    ∙ choose_false (nat_le most_declared_lists (length got)) _ _ (room (length got) few))

lists_lead : (sized : Bool) (epoch : ℕ) (got left : List (ListName × ℕ)) → AreApart (got ++ left) → All (λ list. IsPrefixSize list.1) left → length (got ++ left) ≤ 8
    → Leads (at_history sized (declared_at epoch got)) (flat_map declaration_line left) (at_history sized (declared_at epoch (got ++ left)))
lists_lead sized epoch got [] apart sizes few more = ap (λ ds. after_bytes (at_history sized (declared_at epoch ds)) more) (sym (append-nil got))
lists_lead sized epoch got (list ∷ left) apart sizes few more =
    let same = append_assoc got (list ∷ []) left in
    let long = length-append got (list ∷ left) in
    let now = got ++ list ∷ [] in
    leads_then (at_history sized (declared_at epoch got)) (at_history sized (declared_at epoch now)) (at_history sized (declared_at epoch (now ++ left))) (declaration_line list) (flat_map declaration_line left)
    (list_leads sized epoch got list (apart_new got left list apart) (omega (arith, long, few)) (All-head (λ (l : ListName × ℕ). IsPrefixSize l.1) list left sizes))
    (lists_lead sized epoch now left (subst AreApart (sym same) apart) (All-tail (λ (l : ListName × ℕ). IsPrefixSize l.1) list left sizes) (omega (arith, ap length same, few))) more
    ∙ ap (λ ds. after_bytes (at_history sized (declared_at epoch ds)) more) same

-- ---- a change

-- a change of which some hash lines have come
abbrev pub begun_with : ℕ → Change → List Added → List (List ℕ) → Begun
begun_with size change adds removes = record {
  list = change.list;
  declared_size = size;
  to_add = length change.adds;
  to_remove = length change.removes;
  adds = adds;
  removes = removes;
}

-- a change that may come next
record Fits (sized : Bool) (history : History) (change : Change) : Type 0 where
  written : All IsWritten change.adds
  hashes : All IsWrittenHash change.removes
  some : 1 ≤ length change.adds + length change.removes
  few : length change.adds + length change.removes ≤ 1024
  known : declares history change.list ≡ true
  room : length history.changes < 65536
  lines : hash_lines history.changes + (length change.adds + length change.removes) ≤ 2097152
  form : (size : ℕ) → declared_size_of history change.list ≡ Some size → All (IsOfForm sized size) change.adds
  limits : (n : ℕ) → limit_fault_at n (sizes_at (with_change change history) change.list (version_count (with_change change history))) ≡ None

not_equal : (m n : ℕ) → m < n → nat_eq m n ≡ false
not_equal m n h = grind (arith, nat_tests)

first_false : (a b : Bool) → a ≡ false → (a && b) ≡ false
first_false a b h = rw h refl

last_false : (a b : Bool) → b ≡ false → (a && b) ≡ false
last_false true b h = h
last_false false b h = refl

pub open_adds : (sized : Bool) (history : History) (change : Change) (size : ℕ) (rest : List ℕ) (adds : List Added) (removes : List (List ℕ)) → length adds < length change.adds
    → settled (kept_at sized history rest) (begun_with size change adds removes) ≡ Ok (record { kept = kept_at sized history rest; begun = Some (begun_with size change adds removes) })
open_adds sized history change size rest adds removes h = choose_false (is_complete (begun_with size change adds removes)) _ _ (first_false _ _ (not_equal _ _ h))

pub open_removes : (sized : Bool) (history : History) (change : Change) (size : ℕ) (rest : List ℕ) (adds : List Added) (removes : List (List ℕ)) → length removes < length change.removes
    → settled (kept_at sized history rest) (begun_with size change adds removes) ≡ Ok (record { kept = kept_at sized history rest; begun = Some (begun_with size change adds removes) })
open_removes sized history change size rest adds removes h =
    choose_false (is_complete (begun_with size change adds removes)) _ _ (last_false (nat_eq (length adds) (length change.adds)) _ (not_equal _ _ h))

whole_change : (sized : Bool) (history : History) (change : Change) (size : ℕ) (rest : List ℕ) → Fits sized history change
    → settled (kept_at sized history rest) (begun_with size change change.adds change.removes) ≡ Ok (at_history sized (with_change change history))
whole_change sized history change size rest fits =
    let begun = begun_with size change change.adds change.removes in
    let both : is_complete begun ≡ true = rw (eq-eqb (length change.adds) (length change.adds) refl, eq-eqb (length change.removes) (length change.removes) refl) refl in
    choose_true (is_complete begun) _ _ both
    ∙ ap (if_within_limits (record { sized = sized; versions = with_change change history; rest = rest })) (fits.limits (next_line history + lines_begun begun))

pub adds_done : (change : Change) (size : ℕ) (removes : List (List ℕ)) → nat_lt (length change.adds) (length change.adds) ≡ false
adds_done change size removes = grind (arith, nat_tests)

pub below : (m n : ℕ) → m < n → nat_lt m n ≡ true
below m n h = grind (arith, nat_tests)

-- a line that removes
remove_next : (sized : Bool) (history : History) (change : Change) (size : ℕ) (rest : List ℕ) (got : List (List ℕ)) (hash more : List ℕ) → IsWrittenHash hash
    → hash_lines history.changes + (length change.adds + length (got ++ hash ∷ [])) ≤ 2097152
    → after_bytes (record { kept = kept_at sized history rest; begun = Some (begun_with size change change.adds got) }) (remove_line hash ++ more)
    ≡ (settled (kept_at sized history (rest ++ remove_line hash)) (begun_with size change change.adds (got ++ hash ∷ [])) >>= λ next. after_bytes next more)
remove_next sized history change size rest got hash more h lines =
    let line = 45 ∷ encode_lower hash in
    let begun = begun_with size change change.adds got in
    leads_line (record { kept = kept_at sized history rest; begun = Some begun }) line more (signed_line 45 (encode_lower hash) refl (one_line (encode_lower hash) [] (hex_word hash h.bytes, tt))) (remove_short hash h)
    ∙ ap (λ r. r >>= λ next. after_bytes next more)
    (line_remove (kept_at sized history rest) begun line (adds_done change size got) (remove_short hash h)
    ∙ ap (with_remove (kept_at sized history (rest ++ remove_line hash)) begun) (remove_read hash h)
    ∙ choose_false _ _ _ (within _ lines))

removes_lead : (sized : Bool) (history : History) (change : Change) (size : ℕ) (rest : List ℕ) (got left : List (List ℕ)) (more : List ℕ) → Fits sized history change → got ++ left ≡ change.removes → All IsWrittenHash left
    → (settled (kept_at sized history rest) (begun_with size change change.adds got) >>= λ next. after_bytes next (flat_map remove_line left ++ more)) ≡ after_bytes (at_history sized (with_change change history)) more
removes_lead sized history change size rest got [] more fits are well =
    ap (λ gs. settled (kept_at sized history rest) (begun_with size change change.adds gs) >>= λ next. after_bytes next more) (sym (append-nil got) ∙ are)
    ∙ ap (λ r. r >>= λ next. after_bytes next more) (whole_change sized history change size rest fits)
removes_lead sized history change size rest got (hash ∷ left) more fits are well =
    let long = length-append got (hash ∷ left) in
    let same = append_assoc got (hash ∷ []) left in
    let next_long = length-append got (hash ∷ []) in
    let lines = fits.lines in
    ap (λ r. r >>= λ next. after_bytes next (flat_map remove_line (hash ∷ left) ++ more)) (open_removes sized history change size rest change.adds got (omega (arith, long, ap length are)))
    ∙ ap (after_bytes (record { kept = kept_at sized history rest; begun = Some (begun_with size change change.adds got) })) (append_assoc (remove_line hash) (flat_map remove_line left) more)
    ∙ remove_next sized history change size rest got hash (flat_map remove_line left ++ more) (All-head IsWrittenHash hash left well) (omega (arith, lines, long, next_long, ap length are))
    ∙ removes_lead sized history change size (rest ++ remove_line hash) (got ++ hash ∷ []) left more fits (same ∙ are) (All-tail IsWrittenHash hash left well)

-- a line that adds
add_next : (sized : Bool) (history : History) (change : Change) (size : ℕ) (rest : List ℕ) (got : List Added) (added : Added) (more : List ℕ) → IsWritten added → IsOfForm sized size added → length got < length change.adds
    → hash_lines history.changes + (length (got ++ added ∷ []) + 0) ≤ 2097152
    → after_bytes (record { kept = kept_at sized history rest; begun = Some (begun_with size change got []) }) (add_line sized added ++ more)
    ≡ (settled (kept_at sized history (rest ++ add_line sized added)) (begun_with size change (got ++ added ∷ []) []) >>= λ next. after_bytes next more)
add_next sized history change size rest got added more h of next lines =
    let line = 43 ∷ join_with_byte 32 (add_words sized added) in
    let begun = begun_with size change got [] in
    leads_line (record { kept = kept_at sized history rest; begun = Some begun }) line more (signed_line 43 (join_with_byte 32 (add_words sized added)) refl (add_line_is sized added h)) (add_short sized added h)
    ∙ ap (λ r. r >>= λ next. after_bytes next more)
    (line_add (kept_at sized history rest) begun line (below _ _ next) (add_short sized added h)
    ∙ ap (with_add (kept_at sized history (rest ++ add_line sized added)) begun) (add_read sized size added h of)
    ∙ choose_false _ _ _ (within _ lines))

adds_lead : (sized : Bool) (history : History) (change : Change) (size : ℕ) (rest : List ℕ) (got left : List Added) (more : List ℕ) → Fits sized history change → got ++ left ≡ change.adds → All IsWritten left → All (IsOfForm sized size) left
    → (settled (kept_at sized history rest) (begun_with size change got []) >>= λ next. after_bytes next (flat_map (add_line sized) left ++ (flat_map remove_line change.removes ++ more)))
    ≡ after_bytes (at_history sized (with_change change history)) more
adds_lead sized history change size rest got [] more fits are well form =
    ap (λ gs. settled (kept_at sized history rest) (begun_with size change gs []) >>= λ next. after_bytes next (flat_map remove_line change.removes ++ more)) (sym (append-nil got) ∙ are)
    ∙ removes_lead sized history change size rest [] change.removes more fits refl fits.hashes
adds_lead sized history change size rest got (added ∷ left) more fits are well form =
    let long = length-append got (added ∷ left) in
    let same = append_assoc got (added ∷ []) left in
    let next_long = length-append got (added ∷ []) in
    let lines = fits.lines in
    let after = flat_map remove_line change.removes ++ more in
    let next : length got < length change.adds = omega (arith, long, ap length are) in
    ap (λ r. r >>= λ next. after_bytes next (flat_map (add_line sized) (added ∷ left) ++ after)) (open_adds sized history change size rest got [] next)
    ∙ ap (after_bytes (record { kept = kept_at sized history rest; begun = Some (begun_with size change got []) })) (append_assoc (add_line sized added) (flat_map (add_line sized) left) after)
    ∙ add_next sized history change size rest got added (flat_map (add_line sized) left ++ after) (All-head IsWritten added left well) (All-head (IsOfForm sized size) added left form) next (omega (arith, lines, long, next_long, ap length are))
    ∙ adds_lead sized history change size (rest ++ add_line sized added) (got ++ added ∷ []) left more fits (same ∙ are) (All-tail IsWritten added left well) (All-tail (IsOfForm sized size) added left form)

-- the declared size of a list that is declared
found_any : {X : Type 0} (p : X → Bool) (xs : List X) → list_any p xs ≡ true → (x : X) × (find p xs ≡ Some x)
found_any p [] h = absurd (cc)
found_any {X} p (x ∷ xs) h = here (p x) refl (found_any p xs) h
  where
    here : (b : Bool) → p x ≡ b → (list_any p xs ≡ true → (y : X) × (find p xs ≡ Some y)) → (b || list_any p xs) ≡ true → (y : X) × (cond b (Some x) (find p xs) ≡ Some y)
    here true e later k = (x, refl)
    here false e later k = later k

pub size_known : (history : History) (name : ListName) → declares history name ≡ true → (size : ℕ) × (declared_size_of history name ≡ Some size)
size_known history name h =
    let found = found_any (λ (list : ListName × ℕ). same_name list.0 name) history.declared h in
    (found.0.1, ap (option_map (λ (list : ListName × ℕ). list.1)) found.1)

few_changes : (n : ℕ) → n < 65536 → nat_le most_changes n ≡ false
few_changes n h = grind (arith, nat_tests)

pub is_begun : (sized : Bool) (history : History) (change : Change) (size : ℕ) (rest : List ℕ) → 1 ≤ length change.adds + length change.removes
    → settled (kept_at sized history rest) (begun_with size change [] []) ≡ Ok (record { kept = kept_at sized history rest; begun = Some (begun_with size change [] []) })
is_begun sized history change size rest h = by_adds (length change.adds) refl
  where
    by_adds : (n : ℕ) → length change.adds ≡ n → settled (kept_at sized history rest) (begun_with size change [] []) ≡ Ok (record { kept = kept_at sized history rest; begun = Some (begun_with size change [] []) })
    by_adds zero e = open_removes sized history change size rest [] [] (omega (arith, h, e))
    by_adds (suc n) e = open_adds sized history change size rest [] [] (omega (arith, e))

change_begins : (sized : Bool) (history : History) (change : Change) (size : ℕ) (more : List ℕ) → Fits sized history change → declared_size_of history change.list ≡ Some size
    → after_bytes (at_history sized history) (change_line change ++ more) ≡ (settled (kept_at sized history (change_line change)) (begun_with size change [] []) >>= λ next. after_bytes next more)
change_begins sized history change size more fits known =
    let adds = length change.adds in
    let removes = length change.removes in
    let line = join_with_byte 32 (change_words change.list adds removes) in
    let short = change_short change.list adds removes fits.few in
    leads_line (at_history sized history) line more (one_line (codes "change") (text_of change.list ∷ decimal adds ∷ decimal removes ∷ []) (are_change change.list adds removes fits.few)) short
    ∙ ap (λ r. r >>= λ next. after_bytes next more)
    (head_line sized history line (head.Change change.list adds removes) short (change_read change.list adds removes fits.some fits.few)
    ∙ ap (after_change_line (kept_at sized history (change_line change)) change.list adds removes) known
    ∙ choose_false (nat_le most_changes (length history.changes)) _ _ (few_changes (length history.changes) fits.room)
    ∙ sym (is_begun sized history change size (change_line change) fits.some))

change_leads : (sized : Bool) (history : History) (change : Change) → Fits sized history change → Leads (at_history sized history) (change_text sized change) (at_history sized (with_change change history))
unfolding change_text
change_leads sized history change fits more =
    let size = size_known history change.list fits.known in
    let adds = flat_map (add_line sized) change.adds in
    let removes = flat_map remove_line change.removes in
    ap (after_bytes (at_history sized history)) (append_assoc (change_line change ++ adds) removes more ∙ append_assoc (change_line change) adds (removes ++ more))
    ∙ change_begins sized history change size.0 (adds ++ (removes ++ more)) fits size.1
    ∙ adds_lead sized history change size.0 (change_line change) [] change.adds more fits refl fits.written (fits.form size.0 size.1)

-- ---- all changes

abbrev up_to : History → List Change → History
up_to history changes = record { epoch = history.epoch; declared = history.declared; changes = changes }

none_passes : {X : Type 0} (p : X → Bool) (xs : List X) → ((x : X) → p x ≡ false) → list_any p xs ≡ false
none_passes p [] h = refl
none_passes p (x ∷ xs) h = rw (h x, none_passes p xs h) refl

not_above : (m n : ℕ) → n ≤ m → nat_lt m n ≡ false
not_above m n h = grind (arith, nat_tests)

no_fault : (a b c : Bool) (x y : JournalFault) → a ≡ false → b ≡ false → c ≡ false → (if a || b then Some x else (if c then Some y else None)) ≡ None
no_fault a b c x y e f g = rw (e, f, g) refl

no_limit : (n : ℕ) (entries : List Added) → KeepsToLimits entries → limit_fault_at n entries ≡ None
no_limit n entries h =
    no_fault (nat_lt most_hashes (length entries)) (is_crowded entries) (nat_lt most_prefix_bytes (prefix_bytes entries)) _ _ (not_above most_hashes (length entries) h.count)
    (none_passes _ entries (λ entry. not_above most_alike _ (h.uncrowded (take 4 entry.hash))))
    (not_above most_prefix_bytes (prefix_bytes entries) h.bytes)

same_sizes : (history : History) (got left : List Change) (list : ListName) → got ++ left ≡ history.changes
    → sizes_at history list (length got) ≡ sizes_at (up_to history got) list (length got)
same_sizes history got left list are =
    ap (fold (after_change list) []) (ap (take (length got)) (sym are) ∙ take-append_seam got left ∙ sym (take_all (length got) got (omega arith)))

fits_limits : (history : History) (got left : List Change) (change : Change) → HasJournal history → got ++ change ∷ left ≡ history.changes → (n : ℕ)
    → limit_fault_at n (sizes_at (with_change change (up_to history got)) change.list (version_count (with_change change (up_to history got)))) ≡ None
fits_limits history got left change h are n =
    let now = got ++ change ∷ [] in
    let same : now ++ left ≡ history.changes = append_assoc got (change ∷ []) left ∙ are in
    let long = length-append now left in
    no_limit n _ (subst KeepsToLimits (same_sizes history now left change.list same) (h.within change.list (length now) (omega (arith, long, ap length same))))

pub are_written : (adds : List Added) → All (λ (added : Added). (length added.hash ≡ 32) × IsPrefixSize added.size) adds → All (λ (added : Added). IsBytes added.hash) adds → All IsWritten adds
are_written [] h k = All-nil IsWritten
are_written (added ∷ adds) h k =
    let well = All-head (λ (added : Added). (length added.hash ≡ 32) × IsPrefixSize added.size) added adds h in
    All-cons IsWritten added adds (record { whole = well.0; bytes = All-head (λ (added : Added). IsBytes added.hash) added adds k; size = well.1 })
    (are_written adds (All-tail (λ (added : Added). (length added.hash ≡ 32) × IsPrefixSize added.size) added adds h) (All-tail (λ (added : Added). IsBytes added.hash) added adds k))

pub are_hashes : (hashes : List (List ℕ)) → All (λ (hash : List ℕ). length hash ≡ 32) hashes → All IsBytes hashes → All IsWrittenHash hashes
are_hashes [] h k = All-nil IsWrittenHash
are_hashes (hash ∷ hashes) h k =
    All-cons IsWrittenHash hash hashes (record { whole = All-head (λ (hash : List ℕ). length hash ≡ 32) hash hashes h; bytes = All-head IsBytes hash hashes k })
    (are_hashes hashes (All-tail (λ (hash : List ℕ). length hash ≡ 32) hash hashes h) (All-tail IsBytes hash hashes k))

-- what holds of all changes holds of the next one
next_of : (P : Change → Type 0) (changes got left : List Change) (change : Change) → got ++ change ∷ left ≡ changes → All P changes → P change
next_of P changes got left change are h = All-head P change left (after_all P got (change ∷ left) (subst (All P) (sym are) h))

-- a journal of the second form can have any sizes
abbrev HasSizes : Bool → History → Type 0
HasSizes true history = ⊤
HasSizes false history = HasDeclaredSizes history

abbrev HasDeclaredSize : Option ℕ → Change → Type 0
HasDeclaredSize known change = All (λ (added : Added). known ≡ Some added.size) change.adds

-- a change of the first form
pub of_declared : (known : Option ℕ) (size : ℕ) (adds : List Added) → known ≡ Some size → All (λ (added : Added). known ≡ Some added.size) adds → All (IsOfForm false size) adds
of_declared known size [] e h = All-nil (IsOfForm false size)
of_declared known size (added ∷ adds) e h =
    let here : known ≡ Some added.size = All-head (λ (a : Added). known ≡ Some a.size) added adds h in
    let same : Some size ≡ Some added.size = sym e ∙ here in
    let is : size ≡ added.size = cc in
    All-cons (IsOfForm false size) added adds is (of_declared known size adds e (All-tail (λ (a : Added). known ≡ Some a.size) added adds h))

pub of_any : (size : ℕ) (adds : List Added) → All (IsOfForm true size) adds
of_any size [] = All-nil (IsOfForm true size)
of_any size (added ∷ adds) = All-cons (IsOfForm true size) added adds tt (of_any size adds)

change_form : (sized : Bool) (history : History) (got left : List Change) (change : Change) → HasSizes sized history → got ++ change ∷ left ≡ history.changes
    → (size : ℕ) → declared_size_of history change.list ≡ Some size → All (IsOfForm sized size) change.adds
change_form true history got left change h are size e = of_any size change.adds
change_form false history got left change h are size e =
    of_declared (declared_size_of history change.list) size change.adds e
    (next_of (λ (c : Change). HasDeclaredSize (declared_size_of history c.list) c) history.changes got left change are h)

change_fits : (sized : Bool) (history : History) (got left : List Change) (change : Change) → HasJournal history → HasSizes sized history → got ++ change ∷ left ≡ history.changes → Fits sized (up_to history got) change
change_fits sized history got left change h sizes are =
    let lines = next_of (HasLines history) history.changes got left change are h.changes in
    let long = length-append got (change ∷ left) in
    let count : hash_lines history.changes ≡ hash_lines got + hash_lines (change ∷ left) = ap hash_lines (sym are) ∙ sum_by-append (λ (c : Change). length c.adds + length c.removes) got (change ∷ left) in
    let these : hash_lines (change ∷ left) ≡ hash_lines (change ∷ []) + hash_lines left = sum_by-append (λ (c : Change). length c.adds + length c.removes) (change ∷ []) left in
    let this : hash_lines (change ∷ []) ≡ 0 + (length change.adds + length change.removes) = refl in
    let few = h.few_changes in
    let most = h.few_hashes in
    record {
      written = are_written change.adds (next_of (λ (c : Change). All (λ (added : Added). (length added.hash ≡ 32) × IsPrefixSize added.size) c.adds) history.changes got left change are h.well_formed.adds) lines.adds;
      hashes = are_hashes change.removes (next_of (λ (c : Change). All (λ (hash : List ℕ). length hash ≡ 32) c.removes) history.changes got left change are h.well_formed.removes) lines.removes;
      some = lines.some;
      few = lines.few;
      known = lines.declared;
      room = omega (arith, long, ap length are, few);
      lines = omega (arith, count, these, this, most);
      form = change_form sized history got left change sizes are;
      limits = fits_limits history got left change h are;
    }

changes_lead : (sized : Bool) (history : History) (got left : List Change) → HasJournal history → HasSizes sized history → got ++ left ≡ history.changes
    → Leads (at_history sized (up_to history got)) (flat_map (change_text sized) left) (at_history sized (up_to history (got ++ left)))
changes_lead sized history got [] h sizes are more = ap (λ cs. after_bytes (at_history sized (up_to history cs)) more) (sym (append-nil got))
changes_lead sized history got (change ∷ left) h sizes are more =
    let same = append_assoc got (change ∷ []) left in
    let now = got ++ change ∷ [] in
    leads_then (at_history sized (up_to history got)) (at_history sized (up_to history now)) (at_history sized (up_to history (now ++ left))) (change_text sized change) (flat_map (change_text sized) left)
    (change_leads sized (up_to history got) change (change_fits sized history got left change h sizes are))
    (changes_lead sized history now left h sizes (same ∙ are)) more
    ∙ ap (λ cs. after_bytes (at_history sized (up_to history cs)) more) same

-- ---- a whole journal

after_first_line : (line : List ℕ) (parts : List (List ℕ)) → 0 < length parts → after_first (line ∷ parts) ≡ after_header (if_short line (header_of line)) parts
after_first_line line [] h = absurd (omega arith)
after_first_line line (part ∷ parts) h = refl

pub header_leads : (sized : Bool) (epoch : ℕ) (more : List ℕ) → epoch < 2 ^ 64
    → kept_of (header_line (header_with sized epoch) ++ more) ≡ after_bytes (at_history sized (empty_history epoch)) more
unfolding kept_of
header_leads sized epoch more h =
    let header = header_with sized epoch in
    let line = join_with_byte 32 (header_words header) in
    let is : IsLine (header_line header) line [] = record {
      whole = refl;
      within = one_line (codes "sblist") (form_word sized ∷ encode_lower (to_be_bytes w64 epoch) ∷ []) (are_header sized epoch);
      short = header_short sized epoch;
    } in
    ap after_first (parts_line (header_line header) line [] more is)
    ∙ after_first_line line (slice_split is_newline more) (parts_some is_newline more)
    ∙ ap (λ r. after_header r (slice_split is_newline more)) (short_is line (header_of line) (header_short sized epoch) ∙ header_read sized epoch h)

journal_back : (sized : Bool) (history : History) → HasJournal history → HasSizes sized history → kept_of (journal_text sized history) ≡ Ok (wholly sized history)
unfolding journal_text
journal_back sized history h sizes =
    let lists = flat_map declaration_line history.declared in
    let changes = flat_map (change_text sized) history.changes in
    ap kept_of (append_assoc (header_line (header_with sized history.epoch)) lists changes)
    ∙ header_leads sized history.epoch (lists ++ changes) h.epoch
    ∙ lists_lead sized history.epoch [] history.declared h.apart h.well_formed.declared h.few_lists changes
    ∙ ap (after_bytes (at_history sized (up_to history []))) (sym (append-nil changes))
    ∙ changes_lead sized history [] history.changes h sizes refl []

pub sized_journal_back : (history : History) → HasJournal history → kept_of (journal_text true history) ≡ Ok (wholly true history)
sized_journal_back history h = journal_back true history h tt

pub plain_journal_back : (history : History) → HasJournal history → HasDeclaredSizes history → kept_of (journal_text false history) ≡ Ok (wholly false history)
plain_journal_back history h sizes = journal_back false history h sizes
