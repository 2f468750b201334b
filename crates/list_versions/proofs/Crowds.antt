-- Full hashes that share their first four bytes.
use Rattle.std.proofs.Common.{◌≡◌, ℕ, ◌<◌, ◌≤◌, nat_lt, List, [], ◌∷◌, Bool, true, false, not, ◌||◌, cond, length, take, refl, sym, ap, ◌∙◌, arith, fold}
use Rattle.std.specs.List.{list_any, filter}
use Rattle.std.specs.Str.{bytes_eq}
use Rattle.std.specs.Cmp.{both_ways}
use Rattle.std.proofs.lemmas.Bool.Decides.{nat_tests}
use Rattle.std.proofs.lemmas.Bool.{ltb-true}
use Rattle.sb_model.specs.declared.history.Added.{Added}
use Rattle.sb_model.specs.History.{without_hash, with_added}
use Rattle.std.specs.Prelude.{Option, Some, None, if◌then◌else◌}
use Rattle.list_versions.specs.declared.fault.JournalFault.{JournalFault}
use Rattle.list_versions.specs.declared.fault.JournalFault.TheVariants as fault
use Rattle.list_versions.specs.Limits.{has_head, is_crowded, most_alike, most_hashes, most_prefix_bytes, limit_fault_at, IsUncrowded}
use Rattle.list_versions.specs.Live.{Holds, lines_in}
use Rattle.list_versions.specs.declared.live.Live.{Live}
use Rattle.list_versions.proofs.Finding.{same_bytes}
use Rattle.list_versions.proofs.Splitting.{without-same, with-other}
use Rattle.list_versions.proofs.Holding.{length-filter-le, length-added_of}

-- whether more than 16 begin as this one does
abbrev pub is_crowd : List Added → Added → Bool
is_crowd entries entry = nat_lt most_alike (length (filter (has_head (take 4 entry.hash)) entries))

or_true : (b : Bool) → (b || true) ≡ true
or_true true = refl
or_true false = refl

some_passes_at : (t : Added → Bool) (x : Added) (xs : List Added) (head : List ℕ) (b : Bool) → has_head head x ≡ b → (b ≡ true → t x ≡ true) → (0 < length (filter (has_head head) xs) → list_any t xs ≡ true)
    → 0 < length (cond b (x ∷ filter (has_head head) xs) (filter (has_head head) xs)) → (t x || list_any t xs) ≡ true
some_passes_at t x xs head true e h more k = rw (h refl) refl
some_passes_at t x xs head false e h more k = rw (more k) (or_true (t x))

some_passes : (t : Added → Bool) (head : List ℕ) → ((entry : Added) → has_head head entry ≡ true → t entry ≡ true) → (xs : List Added) → 0 < length (filter (has_head head) xs) → list_any t xs ≡ true
some_passes t head h [] k = absurd (omega arith)
some_passes t head h (x ∷ xs) k = some_passes_at t x xs head (has_head head x) refl (h x) (some_passes t head h xs) k

any_elim_at : (a c b : Bool) → (a ≡ true → b ≡ true) → (c ≡ true → b ≡ true) → (a || c) ≡ true → b ≡ true
any_elim_at true c b f g h = f refl
any_elim_at false c b f g h = g h

any_elim : (t : Added → Bool) (xs : List Added) (b : Bool) → ((entry : Added) → t entry ≡ true → b ≡ true) → list_any t xs ≡ true → b ≡ true
any_elim t [] b h k = absurd (cc)
any_elim t (x ∷ xs) b h k = any_elim_at (t x) (list_any t xs) b (h x) (any_elim t xs b h) k

more_at : (a c b d : Bool) → (a ≡ true → b ≡ true) → (c ≡ true → d ≡ true) → (a || c) ≡ true → (b || d) ≡ true
more_at true c b d f g h = rw (f refl) refl
more_at false c true d f g h = refl
more_at false c false d f g h = g h

any_more : (s t : Added → Bool) → ((entry : Added) → s entry ≡ true → t entry ≡ true) → (xs : List Added) → list_any s xs ≡ true → list_any t xs ≡ true
any_more s t h [] k = absurd (cc)
any_more s t h (x ∷ xs) k = more_at (s x) (list_any s xs) (t x) (list_any t xs) (h x) (any_more s t h xs) k

-- those with the same first four bytes are crowds alike
crowd_alike : (entries : List Added) (entry : Added) (head : List ℕ) → nat_lt most_alike (length (filter (has_head head) entries)) ≡ true → has_head head entry ≡ true → is_crowd entries entry ≡ true
crowd_alike entries entry head h e = rw (same_bytes (take 4 entry.hash) head e) h

first_false : (a c : Bool) → (a || c) ≡ false → a ≡ false
first_false false c h = refl
first_false true c h = absurd (cc)

rest_false : (a c : Bool) → (a || c) ≡ false → c ≡ false
rest_false false c h = h
rest_false true c h = absurd (cc)

adds_elsewhere : (head : List ℕ) (adds entries : List Added) → list_any (has_head head) adds ≡ false → filter (has_head head) (fold with_added entries adds) ≡ filter (has_head head) entries
adds_elsewhere head [] entries h = refl
adds_elsewhere head (added ∷ adds) entries h =
    adds_elsewhere head adds (with_added entries added) (rest_false (has_head head added) _ h)
    ∙ with-other head added entries (first_false (has_head head added) (list_any (has_head head) adds) h)

removes_fewer : (head : List ℕ) (removes : List (List ℕ)) (entries : List Added) → length (filter (has_head head) (fold without_hash entries removes)) ≤ length (filter (has_head head) entries)
removes_fewer head [] entries = omega arith
removes_fewer head (hash ∷ removes) entries =
    omega (arith, removes_fewer head removes (without_hash entries hash), ap length (without-same head hash entries), length-filter-le (λ entry. not (bytes_eq entry.hash hash)) (filter (has_head head) entries))

above : (n : ℕ) → nat_lt most_alike n ≡ true → 16 < n
above n h = ltb-true 16 n h

is_above : (n : ℕ) → 16 < n → nat_lt most_alike n ≡ true
is_above n h = grind (arith, nat_tests)

-- a crowd after a change is one of what it added
added_crowd : (before adds : List Added) (removes : List (List ℕ)) (entry : Added) → IsUncrowded before → (b : Bool) → list_any (has_head (take 4 entry.hash)) adds ≡ b
    → is_crowd (fold with_added (fold without_hash before removes) adds) entry ≡ true → list_any (is_crowd (fold with_added (fold without_hash before removes) adds)) adds ≡ true
added_crowd before adds removes entry few true e h =
    any_more (has_head (take 4 entry.hash)) (is_crowd (fold with_added (fold without_hash before removes) adds)) (λ other k. crowd_alike (fold with_added (fold without_hash before removes) adds) other (take 4 entry.hash) h k) adds e
added_crowd before adds removes entry few false e h =
    let same = ap length (adds_elsewhere (take 4 entry.hash) adds (fold without_hash before removes) e) in
    let fewer = removes_fewer (take 4 entry.hash) removes before in
    let many = above _ h in
    let few_before = few (take 4 entry.hash) in
    absurd (omega arith)

pub crowds_of_adds : (before adds : List Added) (removes : List (List ℕ)) → IsUncrowded before
    → list_any (is_crowd (fold with_added (fold without_hash before removes) adds)) adds ≡ is_crowded (fold with_added (fold without_hash before removes) adds)
crowds_of_adds before adds removes few =
    let after = fold with_added (fold without_hash before removes) adds in
    both_ways _ _
    (λ h. any_elim (is_crowd after) adds (is_crowded after) (λ added k. let many = above _ k in some_passes (is_crowd after) (take 4 added.hash) (λ entry e. crowd_alike after entry (take 4 added.hash) k e) after (omega arith)) h)
    (λ h. any_elim (is_crowd after) after (list_any (is_crowd after) adds) (λ entry k. added_crowd before adds removes entry few _ refl k) h)

any_same : (s t : Added → Bool) → ((entry : Added) → s entry ≡ t entry) → (xs : List Added) → list_any s xs ≡ list_any t xs
any_same s t h [] = refl
any_same s t h (x ∷ xs) = ap (λ b. b || list_any s xs) (h x) ∙ ap (λ b. t x || b) (any_same s t h xs)

-- the same as the code looks into its buckets
pub crowds_held : (live : Live) (before adds : List Added) (removes : List (List ℕ)) → IsUncrowded before → Holds live (fold with_added (fold without_hash before removes) adds)
    → list_any (λ added. nat_lt most_alike (length (lines_in live.buckets.entries (take 4 added.hash)))) adds ≡ is_crowded (fold with_added (fold without_hash before removes) adds)
crowds_held live before adds removes few holds =
    any_same (λ added. nat_lt most_alike (length (lines_in live.buckets.entries (take 4 added.hash)))) (is_crowd (fold with_added (fold without_hash before removes) adds))
    (λ entry. ap (nat_lt most_alike) (sym (length-added_of (lines_in live.buckets.entries (take 4 entry.hash))) ∙ ap length (holds.buckets (take 4 entry.hash)))) adds
    ∙ crowds_of_adds before adds removes few

none_above : (n : ℕ) → n ≤ 16 → nat_lt most_alike n ≡ false
none_above n h = grind (arith, nat_tests)

-- where no bucket has more than 16
pub no_crowds : (live : Live) (adds : List Added) → ((head : List ℕ) → length (lines_in live.buckets.entries head) ≤ live.most) → live.most ≤ 16
    → false ≡ list_any (λ added. nat_lt most_alike (length (lines_in live.buckets.entries (take 4 added.hash)))) adds
no_crowds live [] alike few = refl
no_crowds live (added ∷ adds) alike few =
    let head = take 4 added.hash in
    let none : nat_lt most_alike (length (lines_in live.buckets.entries head)) ≡ false = none_above _ (omega (arith, alike head, few)) in
    rw none (no_crowds live adds alike few)

uncrowded_at : (entries : List Added) (head : List ℕ) (b : Bool) → nat_lt most_alike (length (filter (has_head head) entries)) ≡ b → is_crowded entries ≡ false → length (filter (has_head head) entries) ≤ most_alike
uncrowded_at entries head true e h =
    let many = above _ e in
    let crowded = some_passes (is_crowd entries) head (λ entry k. crowd_alike entries entry head e k) entries (omega arith) in
    absurd (cc)
uncrowded_at entries head false e h = grind (arith, nat_tests)

pub uncrowded : (entries : List Added) → is_crowded entries ≡ false → IsUncrowded entries
uncrowded entries h head = uncrowded_at entries head _ refl h

-- the limits by what the code keeps
abbrev pub limit_by : ℕ → ℕ → Bool → ℕ → Option JournalFault
limit_by line count crowded bytes =
    if nat_lt most_hashes count || crowded then Some (fault.TooMany line)
    else if nat_lt most_prefix_bytes bytes then Some (fault.TooLarge line)
    else None

pub limit_as : (line : ℕ) (live : Live) (entries : List Added) (crowded : Bool) → Holds live entries → crowded ≡ is_crowded entries → limit_by line live.count crowded live.bytes ≡ limit_fault_at line entries
limit_as line live entries crowded holds h =
    ap (λ n. limit_by line n crowded live.bytes) holds.count ∙ ap (λ b. limit_by line (length entries) b live.bytes) h ∙ ap (λ n. limit_by line (length entries) (is_crowded entries) n) holds.bytes

pub by_count : (line count bytes : ℕ) (crowded : Bool) → 1048576 < count → Some (fault.TooMany line) ≡ limit_by line count crowded bytes
by_count line count bytes crowded h = let e : nat_lt most_hashes count ≡ true = grind (arith, nat_tests) in rw e refl

pub by_crowd : (line count bytes : ℕ) (crowded : Bool) → crowded ≡ true → Some (fault.TooMany line) ≡ limit_by line count crowded bytes
by_crowd line count bytes crowded h = rw (h, or_true (nat_lt most_hashes count)) refl

pub by_bytes : (line count bytes : ℕ) (crowded : Bool) → count ≤ 1048576 → crowded ≡ false → 8388608 < bytes → Some (fault.TooLarge line) ≡ limit_by line count crowded bytes
by_bytes line count bytes crowded h k l = let e : nat_lt most_hashes count ≡ false = grind (arith, nat_tests) in let f : nat_lt most_prefix_bytes bytes ≡ true = grind (arith, nat_tests) in rw (e, k, f) refl

pub by_none : (line count bytes : ℕ) (crowded : Bool) → count ≤ 1048576 → crowded ≡ false → bytes ≤ 8388608 → None ≡ limit_by line count crowded bytes
by_none line count bytes crowded h k l = let e : nat_lt most_hashes count ≡ false = grind (arith, nat_tests) in let f : nat_lt most_prefix_bytes bytes ≡ false = grind (arith, nat_tests) in rw (e, k, f) refl
