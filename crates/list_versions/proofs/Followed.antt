-- Records that were written and are read behind a history say the changes that they were written of.
use Rattle.std.proofs.Common.{◌≡◌, ℕ, ◌+◌, ◌<◌, List, [], ◌∷◌, ◌++◌, Bool, true, false, if◌then◌else◌, length, refl, sym, ap, ◌∙◌, subst, arith, eq-eqb, length-append, append_assoc, Option, Some, None, Result, Ok, Err}
use Rattle.std.specs.Prelude.{⊤, All, nat_le, codes, decimal}
use Rattle.std.specs.List.{flat_map, join_with_byte}
use Rattle.std.specs.Option.{option_map}
use Rattle.std.proofs.lemmas.List.{append-nil}
use Rattle.std.proofs.lemmas.List.Elements.{All-cons, All-head, All-nil, All-tail}
use Rattle.hex.specs.Hex.{encode_lower}
use Rattle.sb_model.specs.declared.history.Added.{Added}
use Rattle.sb_model.specs.declared.history.Change.{Change}
use Rattle.sb_model.specs.declared.names.ListName.{ListName}
use Rattle.sb_model.specs.Names.{text_of}
use Rattle.sb_model.specs.History.{History, IsPrefixSize, declares, sizes_at, version_count}
use Rattle.list_versions.specs.declared.fault.JournalFault.{JournalFault}
use Rattle.list_versions.specs.declared.heads.Head.TheVariants as head
use Rattle.list_versions.specs.Journal.{Kept, LineReading, ◌>>=◌, after_bytes, after_change_line, at_record, counted, declared_size_of, if_within_limits, is_complete, kept_of, lines_begun, next_line, read_on, settled, with_add, with_change, with_remove}
use Rattle.list_versions.specs.Limits.{limit_fault_at, most_changes, most_declared_lists}
use Rattle.list_versions.specs.Lines.{added_in_line, added_of_words}
use Rattle.list_versions.specs.Written.{HasText, HaveDeclaredSizes, MayFollow, add_line, add_words, change_line, change_text, header_line, journal_text, declaration_line, remove_line, wholly, with_changes}
use Rattle.list_versions.proofs.LineTexts.{hash_back, hex_word, one_line, words_joined}
use Rattle.list_versions.proofs.Reading.{choose_true, line_add, line_remove}
use Rattle.list_versions.proofs.Written.{IsOfForm, IsWritten, IsWrittenHash, add_line_is, add_read, add_short, adds_done, are_change, are_hashes, are_list, are_written, at_history, begun_with, below, change_read, change_short, change_words, declared_at, entry_with, head_line, header_leads, is_begun, kept_at, leads_line, list_read, list_short, list_words, of_any, of_declared, open_adds, open_removes, remove_read, remove_short, signed_line, size_known}

-- what is read of a text and of what follows is read of what follows, behind what the text leads to
abbrev Follows : LineReading → List ℕ → LineReading → Type 0
Follows before text after = (more : List ℕ) (kept : Kept) → after_bytes before (text ++ more) ≡ Ok kept → after_bytes after more ≡ Ok kept

follows_then : (a b c : LineReading) (s t : List ℕ) → Follows a s b → Follows b t c → Follows a (s ++ t) c
follows_then a b c s t h k more kept e = k more kept (h (t ++ more) kept (ap (after_bytes a) (sym (append_assoc s t more)) ∙ e))

-- no fault was met
passed : {A : Type 0} (b : Bool) (f : JournalFault) (a : Result A JournalFault) (go : A → Result Kept JournalFault) (kept : Kept) → ((if b then Err f else a) >>= go) ≡ Ok kept → (a >>= go) ≡ Ok kept
passed true f a go kept e = absurd (cc)
passed false f a go kept e = e

passed_limits : (found : Option JournalFault) (next : Kept) (go : LineReading → Result Kept JournalFault) (kept : Kept) → (if_within_limits next found >>= go) ≡ Ok kept → go (at_record next) ≡ Ok kept
passed_limits None next go kept e = e
passed_limits (Some f) next go kept e = absurd (cc)

-- ---- a change

-- the last hash line has come
change_done : (form : Bool) (history : History) (change : Change) (size : ℕ) (rest more : List ℕ) (kept : Kept)
    → (settled (kept_at form history rest) (begun_with size change change.adds change.removes) >>= λ next. after_bytes next more) ≡ Ok kept
    → after_bytes (at_history form (with_change change history)) more ≡ Ok kept
change_done form history change size rest more kept e =
    let begun = begun_with size change change.adds change.removes in
    let versions = with_change change history in
    let both : is_complete begun ≡ true = rw (eq-eqb (length change.adds) (length change.adds) refl, eq-eqb (length change.removes) (length change.removes) refl) refl in
    passed_limits (limit_fault_at (next_line history + lines_begun begun) (sizes_at versions change.list (version_count versions)))
    (record { sized = form; versions = versions; rest = rest }) (λ next. after_bytes next more) kept
    (ap (λ r. r >>= λ next. after_bytes next more) (sym (choose_true (is_complete begun) _ _ both)) ∙ e)

-- a line that removes
remove_counted : (form : Bool) (history : History) (change : Change) (size : ℕ) (rest : List ℕ) (got : List (List ℕ)) (hash more : List ℕ) → IsWrittenHash hash
    → after_bytes (record { kept = kept_at form history rest; begun = Some (begun_with size change change.adds got) }) (remove_line hash ++ more)
    ≡ (counted (kept_at form history (rest ++ remove_line hash)) (begun_with size change change.adds (got ++ hash ∷ [])) >>= λ next. after_bytes next more)
remove_counted form history change size rest got hash more h =
    let line = 45 ∷ encode_lower hash in
    let begun = begun_with size change change.adds got in
    leads_line (record { kept = kept_at form history rest; begun = Some begun }) line more (signed_line 45 (encode_lower hash) refl (one_line (encode_lower hash) [] (hex_word hash h.bytes, tt))) (remove_short hash h)
    ∙ ap (λ r. r >>= λ next. after_bytes next more)
    (line_remove (kept_at form history rest) begun line (adds_done change size got) (remove_short hash h)
    ∙ ap (with_remove (kept_at form history (rest ++ remove_line hash)) begun) (remove_read hash h))

removes_follow : (form : Bool) (history : History) (change : Change) (size : ℕ) (rest : List ℕ) (got left : List (List ℕ)) (more : List ℕ) (kept : Kept) → got ++ left ≡ change.removes → All IsWrittenHash left
    → (settled (kept_at form history rest) (begun_with size change change.adds got) >>= λ next. after_bytes next (flat_map remove_line left ++ more)) ≡ Ok kept
    → after_bytes (at_history form (with_change change history)) more ≡ Ok kept
removes_follow form history change size rest got [] more kept are well e =
    let whole : got ≡ change.removes = sym (append-nil got) ∙ are in
    change_done form history change size rest more kept
    (ap (λ gs. settled (kept_at form history rest) (begun_with size change change.adds gs) >>= λ next. after_bytes next more) (sym whole) ∙ e)
removes_follow form history change size rest got (hash ∷ left) more kept are well e =
    let long = length-append got (hash ∷ left) in
    let same = append_assoc got (hash ∷ []) left in
    let later = flat_map remove_line left ++ more in
    let now : LineReading = record { kept = kept_at form history rest; begun = Some (begun_with size change change.adds got) } in
    let opened = open_removes form history change size rest change.adds got (omega (arith, long, ap length are)) in
    let read : after_bytes now (remove_line hash ++ later) ≡ Ok kept =
    ap (after_bytes now) (sym (append_assoc (remove_line hash) (flat_map remove_line left) more))
    ∙ (ap (λ r. r >>= λ next. after_bytes next (flat_map remove_line (hash ∷ left) ++ more)) (sym opened) ∙ e) in
    let known = sym (remove_counted form history change size rest got hash later (All-head IsWrittenHash hash left well)) ∙ read in
    removes_follow form history change size (rest ++ remove_line hash) (got ++ hash ∷ []) left more kept (same ∙ are) (All-tail IsWrittenHash hash left well)
    (passed _ _ (settled (kept_at form history (rest ++ remove_line hash)) (begun_with size change change.adds (got ++ hash ∷ []))) (λ next. after_bytes next later) kept known)

-- whether a journal of a form takes lines with sizes or without
abbrev Takes : (form sized : Bool) → Type 0
Takes true sized = ⊤
Takes false true = ⊥
Takes false false = ⊤

-- a line that adds
added_read : (form sized : Bool) (declared : ℕ) (added : Added) → Takes form sized → IsWritten added → IsOfForm sized declared added → added_in_line form declared (43 ∷ join_with_byte 32 (add_words sized added)) ≡ Some added
added_read true true declared added t h of = add_read true declared added h of
added_read false true declared added t h of = absurd (t)
added_read form false declared added t h of =
    ap (added_of_words form declared) (words_joined (encode_lower added.hash) [] (hex_word added.hash h.bytes, tt))
    ∙ ap (option_map (λ (hash : List ℕ). entry_with hash declared)) (hash_back added.hash h.whole h.bytes)
    ∙ ap (λ (size : ℕ). Some (entry_with added.hash size)) of

add_counted : (form sized : Bool) (history : History) (change : Change) (size : ℕ) (rest : List ℕ) (got : List Added) (added : Added) (more : List ℕ) → Takes form sized → IsWritten added → IsOfForm sized size added → length got < length change.adds
    → after_bytes (record { kept = kept_at form history rest; begun = Some (begun_with size change got []) }) (add_line sized added ++ more)
    ≡ (counted (kept_at form history (rest ++ add_line sized added)) (begun_with size change (got ++ added ∷ []) []) >>= λ next. after_bytes next more)
add_counted form sized history change size rest got added more t h of next =
    let line = 43 ∷ join_with_byte 32 (add_words sized added) in
    let begun = begun_with size change got [] in
    leads_line (record { kept = kept_at form history rest; begun = Some begun }) line more (signed_line 43 (join_with_byte 32 (add_words sized added)) refl (add_line_is sized added h)) (add_short sized added h)
    ∙ ap (λ r. r >>= λ next. after_bytes next more)
    (line_add (kept_at form history rest) begun line (below _ _ next) (add_short sized added h)
    ∙ ap (with_add (kept_at form history (rest ++ add_line sized added)) begun) (added_read form sized size added t h of))

adds_follow : (form sized : Bool) (history : History) (change : Change) (size : ℕ) (rest : List ℕ) (got left : List Added) (more : List ℕ) (kept : Kept) → Takes form sized → All IsWrittenHash change.removes
    → got ++ left ≡ change.adds → All IsWritten left → All (IsOfForm sized size) left
    → (settled (kept_at form history rest) (begun_with size change got []) >>= λ next. after_bytes next (flat_map (add_line sized) left ++ (flat_map remove_line change.removes ++ more))) ≡ Ok kept
    → after_bytes (at_history form (with_change change history)) more ≡ Ok kept
adds_follow form sized history change size rest got [] more kept t hashes are well of e =
    let whole : got ≡ change.adds = sym (append-nil got) ∙ are in
    removes_follow form history change size rest [] change.removes more kept refl hashes
    (ap (λ gs. settled (kept_at form history rest) (begun_with size change gs []) >>= λ next. after_bytes next (flat_map remove_line change.removes ++ more)) (sym whole) ∙ e)
adds_follow form sized history change size rest got (added ∷ left) more kept t hashes are well of e =
    let long = length-append got (added ∷ left) in
    let same = append_assoc got (added ∷ []) left in
    let after = flat_map remove_line change.removes ++ more in
    let later = flat_map (add_line sized) left ++ after in
    let next : length got < length change.adds = omega (arith, long, ap length are) in
    let now : LineReading = record { kept = kept_at form history rest; begun = Some (begun_with size change got []) } in
    let opened = open_adds form history change size rest got [] next in
    let read : after_bytes now (add_line sized added ++ later) ≡ Ok kept =
    ap (after_bytes now) (sym (append_assoc (add_line sized added) (flat_map (add_line sized) left) after))
    ∙ (ap (λ r. r >>= λ next. after_bytes next (flat_map (add_line sized) (added ∷ left) ++ after)) (sym opened) ∙ e) in
    let known = sym (add_counted form sized history change size rest got added later t (All-head IsWritten added left well) (All-head (IsOfForm sized size) added left of) next) ∙ read in
    adds_follow form sized history change size (rest ++ add_line sized added) (got ++ added ∷ []) left more kept t hashes (same ∙ are) (All-tail IsWritten added left well) (All-tail (IsOfForm sized size) added left of)
    (passed _ _ (settled (kept_at form history (rest ++ add_line sized added)) (begun_with size change (got ++ added ∷ []) [])) (λ next. after_bytes next later) kept known)

-- the line that begins the change
change_starts : (form : Bool) (history : History) (change : Change) (size : ℕ) (more : List ℕ) (kept : Kept) → MayFollow history change → declared_size_of history change.list ≡ Some size
    → after_bytes (at_history form history) (change_line change ++ more) ≡ Ok kept
    → (settled (kept_at form history (change_line change)) (begun_with size change [] []) >>= λ next. after_bytes next more) ≡ Ok kept
change_starts form history change size more kept may known e =
    let adds = length change.adds in
    let removes = length change.removes in
    let line = join_with_byte 32 (change_words change.list adds removes) in
    let few = may.lines.few in
    let some = may.lines.some in
    let short = change_short change.list adds removes few in
    let begun : LineReading = record { kept = kept_at form history (change_line change); begun = Some (begun_with size change [] []) } in
    let read =
    leads_line (at_history form history) line more (one_line (codes "change") (text_of change.list ∷ decimal adds ∷ decimal removes ∷ []) (are_change change.list adds removes few)) short
    ∙ ap (λ r. r >>= λ next. after_bytes next more)
    (head_line form history line (head.Change change.list adds removes) short (change_read change.list adds removes some few)
    ∙ ap (after_change_line (kept_at form history (change_line change)) change.list adds removes) known) in
    ap (λ r. r >>= λ next. after_bytes next more) (is_begun form history change size (change_line change) some)
    ∙ passed (nat_le most_changes (length history.changes)) _ (Ok begun) (λ next. after_bytes next more) kept (sym read ∙ e)

-- the sizes of what a text adds, with sizes or without
abbrev HasSizes : Bool → History → Change → Type 0
HasSizes true history change = ⊤
HasSizes false history change = All (λ (added : Added). declared_size_of history change.list ≡ Some added.size) change.adds

sizes_fit : (sized : Bool) (history : History) (change : Change) (size : ℕ) → HasSizes sized history change → declared_size_of history change.list ≡ Some size → All (IsOfForm sized size) change.adds
sizes_fit true history change size h e = of_any size change.adds
sizes_fit false history change size h e = of_declared (declared_size_of history change.list) size change.adds e h

change_follows : (form sized : Bool) (history : History) (change : Change) → Takes form sized → MayFollow history change → HasSizes sized history change
    → Follows (at_history form history) (change_text sized change) (at_history form (with_change change history))
unfolding change_text
change_follows form sized history change t may sizes more kept e =
    let size = size_known history change.list may.lines.declared in
    let adds = flat_map (add_line sized) change.adds in
    let removes = flat_map remove_line change.removes in
    let apart = append_assoc (change_line change ++ adds) removes more ∙ append_assoc (change_line change) adds (removes ++ more) in
    adds_follow form sized history change size.0 (change_line change) [] change.adds more kept t (are_hashes change.removes may.removes may.lines.removes) refl
    (are_written change.adds may.adds may.lines.adds) (sizes_fit sized history change size.0 sizes size.1)
    (change_starts form history change size.0 (adds ++ (removes ++ more)) kept may size.1 (ap (after_bytes (at_history form history)) (sym apart) ∙ e))

-- ---- all changes

-- a history with other changes
abbrev changed_to : History → List Change → History
changed_to history changes = record { epoch = history.epoch; declared = history.declared; changes = changes }

-- What may follow tells nothing of the changes before, but of the declared lists alone.
may_behind : (history : History) (changes : List Change) (change : Change) → MayFollow history change → MayFollow (changed_to history changes) change
may_behind history changes change h =
    let lines = h.lines in
    record { lines = record { declared = lines.declared; some = lines.some; few = lines.few; adds = lines.adds; removes = lines.removes }; adds = h.adds; removes = h.removes }

sizes_behind : (sized : Bool) (history : History) (changes : List Change) (change : Change) → HasSizes sized history change → HasSizes sized (changed_to history changes) change
sizes_behind true history changes change h = tt
sizes_behind false history changes change h = h

changes_follow : (form sized : Bool) (history : History) (got left : List Change) → Takes form sized → All (MayFollow history) left → All (HasSizes sized history) left
    → Follows (at_history form (changed_to history got)) (flat_map (change_text sized) left) (at_history form (changed_to history (got ++ left)))
changes_follow form sized history got [] t may sizes more kept e = ap (λ cs. after_bytes (at_history form (changed_to history cs)) more) (append-nil got) ∙ e
changes_follow form sized history got (change ∷ left) t may sizes more kept e =
    let now = got ++ change ∷ [] in
    ap (λ cs. after_bytes (at_history form (changed_to history cs)) more) (sym (append_assoc got (change ∷ []) left))
    ∙ follows_then (at_history form (changed_to history got)) (at_history form (changed_to history now)) (at_history form (changed_to history (now ++ left))) (change_text sized change) (flat_map (change_text sized) left)
    (change_follows form sized (changed_to history got) change t (may_behind history got change (All-head (MayFollow history) change left may)) (sizes_behind sized history got change (All-head (HasSizes sized history) change left sizes)))
    (changes_follow form sized history now left t (All-tail (MayFollow history) change left may) (All-tail (HasSizes sized history) change left sizes)) more kept e

-- ---- records that are read on

ended : (after kept : Kept) → ◌≡◌ {A = Result Kept JournalFault} (Ok after) (Ok kept) → kept ≡ after
ended after kept e = cc

records_follow : (sized : Bool) (kept after : Kept) (changes : List Change) → kept.rest ≡ [] → Takes kept.sized sized → All (MayFollow kept.versions) changes → All (HasSizes sized kept.versions) changes
    → read_on kept (flat_map (change_text sized) changes) ≡ Ok after → after ≡ with_changes changes kept
unfolding read_on
records_follow sized kept after changes none t may sizes e =
    let text = flat_map (change_text sized) changes in
    let read : after_bytes (at_history kept.sized kept.versions) (text ++ []) ≡ Ok after =
    ap (after_bytes (at_record kept)) (append-nil text ∙ ap (λ rest. rest ++ text) (sym none)) ∙ e in
    ended (with_changes changes kept) after
    (ap (λ rest. Ok (record { sized = kept.sized; versions = changed_to kept.versions (kept.versions.changes ++ changes); rest = rest })) none
    ∙ changes_follow kept.sized sized kept.versions kept.versions.changes changes t may sizes [] after read)

any_sizes : (history : History) (changes : List Change) → All (HasSizes true history) changes
any_sizes history [] = All-nil (HasSizes true history)
any_sizes history (change ∷ changes) = All-cons (HasSizes true history) change changes tt (any_sizes history changes)

pub sized_records_follow : (kept after : Kept) (changes : List Change) → kept.rest ≡ [] → kept.sized ≡ true → All (MayFollow kept.versions) changes
    → read_on kept (flat_map (change_text true) changes) ≡ Ok after → after ≡ with_changes changes kept
sized_records_follow kept after changes none form may e =
    records_follow true kept after changes none (subst (λ (f : Bool). Takes f true) (sym form) tt) may (any_sizes kept.versions changes) e

takes_plain : (form : Bool) → Takes form false
takes_plain true = tt
takes_plain false = tt

pub plain_records_follow : (kept after : Kept) (changes : List Change) → kept.rest ≡ [] → All (MayFollow kept.versions) changes → HaveDeclaredSizes kept.versions changes
    → read_on kept (flat_map (change_text false) changes) ≡ Ok after → after ≡ with_changes changes kept
plain_records_follow kept after changes none may sizes e = records_follow false kept after changes none (takes_plain kept.sized) may sizes e

-- ---- a whole journal

list_follows : (epoch : ℕ) (got : List (ListName × ℕ)) (list : ListName × ℕ) → IsPrefixSize list.1
    → Follows (at_history true (declared_at epoch got)) (declaration_line list) (at_history true (declared_at epoch (got ++ list ∷ [])))
list_follows epoch got list size more kept e =
    let line = join_with_byte 32 (list_words list.0 list.1) in
    let short = list_short list.0 list.1 size.high in
    let read =
    leads_line (at_history true (declared_at epoch got)) line more (one_line (codes "list") (text_of list.0 ∷ decimal list.1 ∷ []) (are_list list.0 list.1 size.high)) short
    ∙ ap (λ r. r >>= λ next. after_bytes next more)
    (head_line true (declared_at epoch got) line (head.List list.0 list.1) short (list_read list.0 list.1 size.low size.high)) in
    passed (nat_le most_declared_lists (length got)) _ (Ok (at_history true (declared_at epoch (got ++ list ∷ [])))) (λ next. after_bytes next more) kept
    (passed (declares (declared_at epoch got) list.0) _ _ (λ next. after_bytes next more) kept (sym read ∙ e))

lists_follow : (epoch : ℕ) (got left : List (ListName × ℕ)) → All (λ list. IsPrefixSize list.1) left
    → Follows (at_history true (declared_at epoch got)) (flat_map declaration_line left) (at_history true (declared_at epoch (got ++ left)))
lists_follow epoch got [] sizes more kept e = ap (λ ds. after_bytes (at_history true (declared_at epoch ds)) more) (append-nil got) ∙ e
lists_follow epoch got (list ∷ left) sizes more kept e =
    let now = got ++ list ∷ [] in
    ap (λ ds. after_bytes (at_history true (declared_at epoch ds)) more) (sym (append_assoc got (list ∷ []) left))
    ∙ follows_then (at_history true (declared_at epoch got)) (at_history true (declared_at epoch now)) (at_history true (declared_at epoch (now ++ left))) (declaration_line list) (flat_map declaration_line left)
    (list_follows epoch got list (All-head (λ (l : ListName × ℕ). IsPrefixSize l.1) list left sizes))
    (lists_follow epoch now left (All-tail (λ (l : ListName × ℕ). IsPrefixSize l.1) list left sizes)) more kept e

pub journal_follows : (history : History) (kept : Kept) → HasText history → kept_of (journal_text true history) ≡ Ok kept → kept ≡ wholly true history
unfolding journal_text
journal_follows history kept h e =
    let lists = flat_map declaration_line history.declared in
    let changes = flat_map (change_text true) history.changes in
    let header = header_line (record { sized = true; epoch = history.epoch }) in
    let read : after_bytes (at_history true (declared_at history.epoch [])) (lists ++ (changes ++ [])) ≡ Ok kept =
    ap (λ more. after_bytes (at_history true (declared_at history.epoch [])) (lists ++ more)) (append-nil changes)
    ∙ (sym (ap kept_of (append_assoc header lists changes) ∙ header_leads true history.epoch (lists ++ changes) h.epoch) ∙ e) in
    ended (wholly true history) kept
    (changes_follow true true history [] history.changes tt h.changes (any_sizes history history.changes) [] kept
    (lists_follow history.epoch [] history.declared h.sizes (changes ++ []) kept read))
