-- What changes of a list leave of it, hash by hash.
use Rattle.std.proofs.Common.{◌≡◌, ℕ, zero, suc, ◌+◌, ◌*◌, ◌≤◌, List, [], ◌∷◌, ◌++◌, Bool, true, false, not, ◌&&◌, ◌||◌, length, take, drop, map, fold, refl, sym, ap, ◌∙◌, arith, eq-eqb}
use Rattle.std.specs.Prelude.{All, Contains}
use Rattle.std.specs.Cmp.Lexicographic.{nat_list_eq_equiv}
use Rattle.std.specs.List.{flat_map, list_any, range_with_len}
use Rattle.std.specs.Str.{bytes_eq}
use Rattle.std.proofs.lemmas.List.{drop-drop, take_all}
use Rattle.std.proofs.lemmas.List.Elements.{All-head, All-tail, All-nil, All-cons}
use Rattle.std.proofs.lemmas.List.Folds.{flat_map-map, list_any-append}
use Rattle.std.proofs.lemmas.List.Sums.{fold-append}
use Rattle.std.proofs.lemmas.Map.Views.{any-filter_same, Contains-from_any, list_any-from_Contains}
use Rattle.std.proofs.lemmas.Slice.Eq.{bytes_eq-Decides}
use Rattle.std.proofs.Math.Nat.{div-add-mod', mod-lt}
use Rattle.std.proofs.Math.Seq.{take-add}
use Rattle.sb_model.specs.declared.history.Added.{Added}
use Rattle.sb_model.specs.declared.history.Change.{Change}
use Rattle.sb_model.specs.declared.names.ListName.{ListName}
use Rattle.sb_model.specs.Difference.{added_members, has_member}
use Rattle.sb_model.specs.History.{History, after_change, sizes_at, version_count, with_added, without_hash}
use Rattle.sb_model.specs.Names.{entry_code, platform_code, same_name, threat_code}
use Rattle.sb_model.specs.Prefixes.{IsRising, set_of}
use Rattle.sb_journal.specs.declared.hash_line.HashLine.{HashLine}
use Rattle.sb_journal.specs.declared.hash_line.HashLine.TheVariants.{Add, Remove}
use Rattle.sb_journal.specs.Records.{add_of, adds_in, change_with, leading_lines, lines_at, newest_hashes, record_count, records_of, removes_in, history_with_changes}
use Rattle.sb_journal.proofs.RisingSets.{SetLaws}

-- ---- hashes that are alike

pub same_bytes : (a b : List ℕ) → bytes_eq a b ≡ true → a ≡ b
same_bytes a b h = (bytes_eq-Decides a b).0 h

pub both : (s t : Bool) → (s ≡ true → t ≡ true) → (t ≡ true → s ≡ true) → s ≡ t
both true t f g = sym (f refl)
both false true f g = g refl
both false false f g = refl

pub bytes_sym : (a b : List ℕ) → bytes_eq a b ≡ bytes_eq b a
bytes_sym a b =
    both (bytes_eq a b) (bytes_eq b a) (λ e. (bytes_eq-Decides b a).1 (sym ((bytes_eq-Decides a b).0 e))) (λ e. (bytes_eq-Decides a b).1 (sym ((bytes_eq-Decides b a).0 e)))

-- whether entries have a hash
abbrev pub has : List Added → List ℕ → Bool
has entries hash = list_any (λ (entry : Added). bytes_eq entry.hash hash) entries

abbrev pub hashes_of : List Added → List (List ℕ)
hashes_of entries = map (λ (entry : Added). entry.hash) entries

pub has_hashes : (entries : List Added) (x : List ℕ) → has entries x ≡ has_member (hashes_of entries) x
has_hashes [] x = refl
has_hashes (entry ∷ entries) x = ap (λ b. bytes_eq entry.hash x || b) (has_hashes entries x)

-- ---- a hash goes, and a hash comes

and_true : (a : Bool) → (a && true) ≡ a
and_true true = refl
and_true false = refl

or_false : (a : Bool) → (a || false) ≡ a
or_false true = refl
or_false false = refl

or_assoc : (a b c : Bool) → ((a || b) || c) ≡ (a || (b || c))
or_assoc true b c = refl
or_assoc false b c = refl

gone_then : (e h m : Bool) → ((not e && h) && not m) ≡ (h && not (e || m))
gone_then true true true = refl
gone_then true true false = refl
gone_then true false true = refl
gone_then true false false = refl
gone_then false true true = refl
gone_then false true false = refl
gone_then false false true = refl
gone_then false false false = refl

come_then : (e h : Bool) → ((not e && h) || (e || false)) ≡ (h || e)
come_then true true = refl
come_then true false = refl
come_then false true = refl
come_then false false = refl

without_has : (entries : List Added) (hash x : List ℕ) → has (without_hash entries hash) x ≡ (not (bytes_eq hash x) && has entries x)
without_has entries hash x =
    any-filter_same (λ (entry : Added). bytes_eq entry.hash x) (λ (entry : Added). not (bytes_eq entry.hash hash)) (not (bytes_eq hash x))
    (λ entry same. ap (λ (h : List ℕ). not (bytes_eq h hash)) (same_bytes entry.hash x same) ∙ ap not (bytes_sym x hash)) entries

with_has : (entries : List Added) (added : Added) (x : List ℕ) → has (with_added entries added) x ≡ (has entries x || bytes_eq added.hash x)
with_has entries added x =
    list_any-append (λ (entry : Added). bytes_eq entry.hash x) (without_hash entries added.hash) (added ∷ [])
    ∙ ap (λ b. b || (bytes_eq added.hash x || false)) (without_has entries added.hash x) ∙ come_then (bytes_eq added.hash x) (has entries x)

removed_has : (removes : List (List ℕ)) (entries : List Added) (x : List ℕ) → has (fold without_hash entries removes) x ≡ (has entries x && not (has_member removes x))
removed_has [] entries x = sym (and_true (has entries x))
removed_has (hash ∷ removes) entries x =
    removed_has removes (without_hash entries hash) x ∙ ap (λ b. b && not (has_member removes x)) (without_has entries hash x)
    ∙ gone_then (bytes_eq hash x) (has entries x) (has_member removes x)

added_has : (adds : List Added) (entries : List Added) (x : List ℕ) → has (fold with_added entries adds) x ≡ (has entries x || has_member (hashes_of adds) x)
added_has [] entries x = sym (or_false (has entries x))
added_has (added ∷ adds) entries x =
    added_has adds (with_added entries added) x ∙ ap (λ b. b || has_member (hashes_of adds) x) (with_has entries added x)
    ∙ or_assoc (has entries x) (bytes_eq added.hash x) (has_member (hashes_of adds) x)

-- ---- changes of one list

abbrev pub IsOf : ListName → Change → Type 0
IsOf list change = same_name change.list list ≡ true

pub own : (list : ListName) (entries : List Added) (change : Change) → IsOf list change → after_change list entries change ≡ fold with_added (fold without_hash entries change.removes) change.adds
own list entries change e = rw e refl

pub other : (list : ListName) (entries : List Added) (change : Change) → same_name change.list list ≡ false → after_change list entries change ≡ entries
other list entries change e = rw e refl

change_has : (list : ListName) (entries : List Added) (change : Change) (x : List ℕ) → IsOf list change
    → has (after_change list entries change) x ≡ ((has entries x && not (has_member change.removes x)) || has_member (hashes_of change.adds) x)
change_has list entries change x e =
    ap (λ (es : List Added). has es x) (own list entries change e) ∙ added_has change.adds (fold without_hash entries change.removes) x
    ∙ ap (λ b. b || has_member (hashes_of change.adds) x) (removed_has change.removes entries x)

abbrev pub all_removes : List Change → List (List ℕ)
all_removes changes = flat_map (λ (change : Change). change.removes) changes

abbrev pub all_adds : List Change → List (List ℕ)
all_adds changes = flat_map (λ (change : Change). hashes_of change.adds) changes

-- no hash is both taken out and put in
abbrev Apart : List Change → List ℕ → Type 0
Apart changes x = (has_member (all_removes changes) x && has_member (all_adds changes) x) ≡ false

then_changes : (h r a s b : Bool) → ((r || s) && (a || b)) ≡ false → ((((h && not r) || a) && not s) || b) ≡ ((h && not (r || s)) || (a || b))
then_changes true true true true true e = absurd (cc)
then_changes true true true true false e = absurd (cc)
then_changes true true true false true e = absurd (cc)
then_changes true true true false false e = absurd (cc)
then_changes true true false true true e = absurd (cc)
then_changes true true false true false e = refl
then_changes true true false false true e = absurd (cc)
then_changes true true false false false e = refl
then_changes true false true true true e = absurd (cc)
then_changes true false true true false e = absurd (cc)
then_changes true false true false true e = refl
then_changes true false true false false e = refl
then_changes true false false true true e = absurd (cc)
then_changes true false false true false e = refl
then_changes true false false false true e = refl
then_changes true false false false false e = refl
then_changes false true true true true e = absurd (cc)
then_changes false true true true false e = absurd (cc)
then_changes false true true false true e = absurd (cc)
then_changes false true true false false e = absurd (cc)
then_changes false true false true true e = absurd (cc)
then_changes false true false true false e = refl
then_changes false true false false true e = absurd (cc)
then_changes false true false false false e = refl
then_changes false false true true true e = absurd (cc)
then_changes false false true true false e = absurd (cc)
then_changes false false true false true e = refl
then_changes false false true false false e = refl
then_changes false false false true true e = absurd (cc)
then_changes false false false true false e = refl
then_changes false false false false true e = refl
then_changes false false false false false e = refl

later_apart : (r a s b : Bool) → ((r || s) && (a || b)) ≡ false → (s && b) ≡ false
later_apart r a false b e = refl
later_apart r a true false e = refl
later_apart true true true true e = absurd (cc)
later_apart true false true true e = absurd (cc)
later_apart false true true true e = absurd (cc)
later_apart false false true true e = absurd (cc)

member_append : (xs ys : List (List ℕ)) (x : List ℕ) → has_member (xs ++ ys) x ≡ (has_member xs x || has_member ys x)
member_append xs ys x = list_any-append (λ (other : List ℕ). bytes_eq other x) xs ys

split_apart : (change : Change) (changes : List Change) (x : List ℕ) → Apart (change ∷ changes) x
    → ((has_member change.removes x || has_member (all_removes changes) x) && (has_member (hashes_of change.adds) x || has_member (all_adds changes) x)) ≡ false
split_apart change changes x h =
    ap (λ b. b && (has_member (hashes_of change.adds) x || has_member (all_adds changes) x)) (sym (member_append change.removes (all_removes changes) x))
    ∙ ap (λ b. has_member (change.removes ++ all_removes changes) x && b) (sym (member_append (hashes_of change.adds) (all_adds changes) x)) ∙ h

-- the hashes that changes leave, if none is both taken out and put in
pub changes_has : (list : ListName) (changes : List Change) (entries : List Added) (x : List ℕ) → All (IsOf list) changes → Apart changes x
    → has (fold (after_change list) entries changes) x ≡ ((has entries x && not (has_member (all_removes changes) x)) || has_member (all_adds changes) x)
changes_has list [] entries x own apart = sym (or_false (has entries x && true) ∙ and_true (has entries x))
changes_has list (change ∷ changes) entries x own apart =
    let split = split_apart change changes x apart in
    let r = has_member change.removes x in
    let a = has_member (hashes_of change.adds) x in
    let s = has_member (all_removes changes) x in
    let b = has_member (all_adds changes) x in
    changes_has list changes (after_change list entries change) x (All-tail (IsOf list) change changes own) (later_apart r a s b split)
    ∙ ap (λ h. (h && not s) || b) (change_has list entries change x (All-head (IsOf list) change changes own))
    ∙ then_changes (has entries x) r a s b split
    ∙ ap (λ m. (has entries x && not m) || (a || b)) (sym (member_append change.removes (all_removes changes) x))
    ∙ ap (λ m. (has entries x && not (has_member (all_removes (change ∷ changes)) x)) || m) (sym (member_append (hashes_of change.adds) (all_adds changes) x))

-- changes of other lists leave a list
pub others_leave : (list : ListName) (changes : List Change) (entries : List Added) → All (λ (change : Change). same_name change.list list ≡ false) changes
    → fold (after_change list) entries changes ≡ entries
others_leave list [] entries h = refl
others_leave list (change ∷ changes) entries h =
    ap (λ (es : List Added). fold (after_change list) es changes) (other list entries change (All-head (λ (c : Change). same_name c.list list ≡ false) change changes h))
    ∙ others_leave list changes entries (All-tail (λ (c : Change). same_name c.list list ≡ false) change changes h)

-- ---- records

removes_append : (xs ys : List HashLine) → removes_in (xs ++ ys) ≡ removes_in xs ++ removes_in ys
removes_append [] ys = refl
removes_append (Add added ∷ xs) ys = removes_append xs ys
removes_append (Remove hash ∷ xs) ys = ap (λ (hs : List (List ℕ)). hash ∷ hs) (removes_append xs ys)

-- the hashes that lines put in
abbrev put_in : List HashLine → List (List ℕ)
put_in lines = hashes_of (adds_in lines)

puts_append : (xs ys : List HashLine) → put_in (xs ++ ys) ≡ put_in xs ++ put_in ys
puts_append [] ys = refl
puts_append (Add added ∷ xs) ys = ap (λ (hs : List (List ℕ)). added.hash ∷ hs) (puts_append xs ys)
puts_append (Remove hash ∷ xs) ys = puts_append xs ys

-- what records have, one after the other, is what their lines have
pieces : {A : Type 0} (f : List HashLine → List A) → ((xs ys : List HashLine) → f (xs ++ ys) ≡ f xs ++ f ys) → f [] ≡ []
    → (lines : List HashLine) (n k : ℕ) → flat_map (λ place. f (lines_at lines place)) (range_with_len k n) ≡ f (take (n * 1024) (drop (k * 1024) lines))
pieces {A} f joins nil lines zero k = sym nil
pieces {A} f joins nil lines (suc n) k =
    let rest = drop (k * 1024) lines in
    let past : (k + 1) * 1024 ≡ k * 1024 + 1024 = omega arith in
    let sum : 1024 + n * 1024 ≡ suc n * 1024 = omega arith in
    let further : drop ((k + 1) * 1024) lines ≡ drop 1024 rest = ap (λ (m : ℕ). drop m lines) past ∙ sym (drop-drop 1024 (k * 1024) lines) in
    ap (λ (ys : List A). f (take 1024 rest) ++ ys) (pieces f joins nil lines n (k + 1) ∙ ap (λ (ls : List HashLine). f (take (n * 1024) ls)) further)
    ∙ sym (joins (take 1024 rest) (take (n * 1024) (drop 1024 rest)))
    ∙ ap f (sym (take-add 1024 (n * 1024) rest) ∙ ap (λ (m : ℕ). take m rest) sum)

enough : (n : ℕ) → n ≤ record_count n * 1024
enough n = let whole = div-add-mod' (n + 1023) 1024 in let less = mod-lt (n + 1023) {m = 1024} (omega arith) in omega (arith, whole, less)

pub all_pieces : {A : Type 0} (f : List HashLine → List A) → ((xs ys : List HashLine) → f (xs ++ ys) ≡ f xs ++ f ys) → f [] ≡ []
    → (lines : List HashLine) → flat_map (λ place. f (lines_at lines place)) (range_with_len 0 (record_count (length lines))) ≡ f lines
all_pieces f joins nil lines = pieces f joins nil lines (record_count (length lines)) 0 ∙ ap f (take_all (record_count (length lines) * 1024) lines (enough (length lines)))

pub records_removes : (list : ListName) (lines : List HashLine) → all_removes (records_of list lines) ≡ removes_in lines
unfolding records_of
records_removes list lines =
    flat_map-map (λ (change : Change). change.removes) (λ place. change_with list (lines_at lines place)) (range_with_len 0 (record_count (length lines)))
    ∙ all_pieces removes_in removes_append refl lines

pub records_adds : (list : ListName) (lines : List HashLine) → all_adds (records_of list lines) ≡ put_in lines
unfolding records_of
records_adds list lines =
    flat_map-map (λ (change : Change). hashes_of change.adds) (λ place. change_with list (lines_at lines place)) (range_with_len 0 (record_count (length lines)))
    ∙ all_pieces put_in puts_append refl lines

each_map : {X : Type 0} (P : Change → Type 0) (f : X → Change) → ((x : X) → P (f x)) → (xs : List X) → All P (map f xs)
each_map P f h [] = All-nil P
each_map P f h (x ∷ xs) = All-cons P (f x) (map f xs) (h x) (each_map P f h xs)

pub records_are : (P : Change → Type 0) (list : ListName) (lines : List HashLine) → ((some : List HashLine) → P (change_with list some)) → All P (records_of list lines)
unfolding records_of
records_are P list lines h = each_map P (λ place. change_with list (lines_at lines place)) (λ place. h (lines_at lines place)) (range_with_len 0 (record_count (length lines)))

pub all_true : (a b c : Bool) → a ≡ true → b ≡ true → c ≡ true → (a && b && c) ≡ true
all_true a b c e f g = rw (e, f, g) refl

pub same_self : (list : ListName) → same_name list list ≡ true
same_self list =
    all_true _ _ _ (eq-eqb (threat_code list.threat) _ refl) (eq-eqb (platform_code list.platform) _ refl) (eq-eqb (entry_code list.entry) _ refl)

-- ---- what leads to wanted hashes

no_removes : (come : List (List ℕ)) (size : ℕ) → removes_in (map (add_of size) come) ≡ []
no_removes [] size = refl
no_removes (hash ∷ come) size = no_removes come size

only_puts : (come : List (List ℕ)) (size : ℕ) → put_in (map (add_of size) come) ≡ come
only_puts [] size = refl
only_puts (hash ∷ come) size = ap (λ (hs : List (List ℕ)). hash ∷ hs) (only_puts come size)

removes_of : (gone come : List (List ℕ)) (size : ℕ) → removes_in (map Remove gone ++ map (add_of size) come) ≡ gone
removes_of [] come size = no_removes come size
removes_of (hash ∷ gone) come size = ap (λ (hs : List (List ℕ)). hash ∷ hs) (removes_of gone come size)

puts_of : (gone come : List (List ℕ)) (size : ℕ) → put_in (map Remove gone ++ map (add_of size) come) ≡ come
puts_of [] come size = only_puts come size
puts_of (hash ∷ gone) come size = puts_of gone come size

lacking : (older newer : List (List ℕ)) (x : List ℕ) → has_member (added_members older newer) x ≡ (not (has_member older x) && has_member newer x)
lacking older newer x =
    any-filter_same (λ (member : List ℕ). bytes_eq member x) (λ member. not (has_member older member)) (not (has_member older x))
    (λ member same. ap (λ (m : List ℕ). not (has_member older m)) (same_bytes member x same)) newer

never_both : (h w : Bool) → ((not w && h) && (not h && w)) ≡ false
never_both true true = refl
never_both true false = refl
never_both false true = refl
never_both false false = refl

leads_there : (h w : Bool) → ((h && not (not w && h)) || (not h && w)) ≡ w
leads_there true true = refl
leads_there true false = refl
leads_there false true = refl
leads_there false false = refl

-- ---- sets by their members

turned : (xs : List (List ℕ)) (x : List ℕ) → has_member xs x ≡ list_any (bytes_eq x) xs
turned [] x = refl
turned (y ∷ xs) x = ap (λ b. b || has_member xs x) (bytes_sym y x) ∙ ap (λ b. bytes_eq x y || b) (turned xs x)

there : (xs : List (List ℕ)) (x : List ℕ) → has_member xs x ≡ true → Contains xs x
there xs x e = Contains-from_any {eq = bytes_eq} same_bytes x xs (sym (turned xs x) ∙ e)

known : (xs : List (List ℕ)) (x : List ℕ) → Contains xs x → has_member xs x ≡ true
known xs x c = turned xs x ∙ list_any-from_Contains nat_list_eq_equiv x xs c

pub set_member : SetLaws → (xs : List (List ℕ)) (x : List ℕ) → has_member (set_of xs) x ≡ has_member xs x
set_member laws xs x =
    both (has_member (set_of xs) x) (has_member xs x) (λ e. known xs x ((laws.members xs x).0 (there (set_of xs) x e)))
    (λ e. known (set_of xs) x ((laws.members xs x).1 (there xs x e)))

same_set : SetLaws → (xs ys : List (List ℕ)) → IsRising ys → ((x : List ℕ) → has_member xs x ≡ has_member ys x) → set_of xs ≡ ys
same_set laws xs ys up same =
    laws.only (set_of xs) ys (laws.rising xs) up (λ x. (
      λ c. there ys x (sym (same x) ∙ sym (set_member laws xs x) ∙ known (set_of xs) x c),
      λ c. there (set_of xs) x (set_member laws xs x ∙ same x ∙ known ys x c),
    ))

-- ---- the newest version

pub newest_then : (history : History) (changes : List Change) (list : ListName)
    → sizes_at (history_with_changes history changes) list (version_count (history_with_changes history changes)) ≡ fold (after_change list) (sizes_at history list (version_count history)) changes
newest_then history changes list =
    let all = history.changes ++ changes in
    ap (fold (after_change list) []) (take_all (length all) all (omega arith)) ∙ fold-append (after_change list) [] history.changes changes
    ∙ ap (λ (old : List Change). fold (after_change list) (fold (after_change list) [] old) changes) (sym (take_all (length history.changes) history.changes (omega arith)))

-- What leads from the newest hashes of a list to wanted ones has these be its newest.
pub leads_to_wanted : SetLaws → (history : History) (list : ListName) (size : ℕ) (wanted : List (List ℕ)) → IsRising wanted
    → newest_hashes (history_with_changes history (records_of list (leading_lines size (newest_hashes history list) wanted))) list ≡ wanted
unfolding leading_lines
leads_to_wanted laws history list size wanted up =
    let held = newest_hashes history list in
    let entries = sizes_at history list (version_count history) in
    let lines = map Remove (added_members wanted held) ++ map (add_of size) (added_members held wanted) in
    let changes = records_of list lines in
    let removes : all_removes changes ≡ added_members wanted held = records_removes list lines ∙ removes_of (added_members wanted held) (added_members held wanted) size in
    let adds : all_adds changes ≡ added_members held wanted = records_adds list lines ∙ puts_of (added_members wanted held) (added_members held wanted) size in
    let gone : (x : List ℕ) → has_member (all_removes changes) x ≡ (not (has_member wanted x) && has_member held x) = λ x. ap (λ (hs : List (List ℕ)). has_member hs x) removes ∙ lacking wanted held x in
    let come : (x : List ℕ) → has_member (all_adds changes) x ≡ (not (has_member held x) && has_member wanted x) = λ x. ap (λ (hs : List (List ℕ)). has_member hs x) adds ∙ lacking held wanted x in
    let had : (x : List ℕ) → has entries x ≡ has_member held x = λ x. has_hashes entries x ∙ sym (set_member laws (hashes_of entries) x) in
    let apart : (x : List ℕ) → Apart changes x = λ x.
    ap (λ b. b && has_member (all_adds changes) x) (gone x) ∙ ap (λ b. (not (has_member wanted x) && has_member held x) && b) (come x) ∙ never_both (has_member held x) (has_member wanted x) in
    let after = fold (after_change list) entries changes in
    let same : (x : List ℕ) → has_member (hashes_of after) x ≡ has_member wanted x = λ x.
    sym (has_hashes after x) ∙ changes_has list changes entries x (records_are (IsOf list) list lines (λ some. same_self list)) (apart x)
    ∙ ap (λ b. (has entries x && not b) || has_member (all_adds changes) x) (gone x)
    ∙ ap (λ b. (has entries x && not (not (has_member wanted x) && has_member held x)) || b) (come x)
    ∙ ap (λ b. (b && not (not (has_member wanted x) && has_member held x)) || (not (has_member held x) && has_member wanted x)) (had x)
    ∙ leads_there (has_member held x) (has_member wanted x) in
    ap (λ (es : List Added). set_of (hashes_of es)) (newest_then history changes list) ∙ same_set laws (hashes_of after) wanted up same

-- Records of a list leave every other list as it was.
pub others_stay : (history : History) (list other : ListName) (lines : List HashLine) → same_name list other ≡ false
    → sizes_at (history_with_changes history (records_of list lines)) other (version_count (history_with_changes history (records_of list lines))) ≡ sizes_at history other (version_count history)
others_stay history list other lines apart =
    newest_then history (records_of list lines) other
    ∙ others_leave other (records_of list lines) (sizes_at history other (version_count history)) (records_are (λ (c : Change). same_name c.list other ≡ false) list lines (λ some. apart))
