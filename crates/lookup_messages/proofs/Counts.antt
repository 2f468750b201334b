-- A match stands in an answer as often as its URL is asked.
use Rattle.std.proofs.Common.{◌≡◌, ℕ, suc, ◌+◌, ◌*◌, ◌<◌, ◌==◌, ◌&&◌, ◌⊎◌, inl, inr, Bool, true, false, cond, List, [], ◌∷◌, ◌++◌, length, map, filter, flat_map, Contains, Option, Some, Result, Ok, Err, refl, sym, subst, ap, ◌∙◌, arith}
use Rattle.std.specs.Prelude.{◌≢◌, AllPairs, count_by, slice_index_or}
use Rattle.std.proofs.lemmas.Bool.{and_parts, and_from, eq-eqb, eqb-true}
use Rattle.std.proofs.lemmas.List.Kept.{AllPairs-filter}
use Rattle.std.proofs.lemmas.List.Sums.{sum_by-cons, sum_by-append}
use Rattle.std.proofs.lemmas.Slice.Eq.{bytes_eq-Decides}
use Rattle.sb_model.specs.declared.names.ThreatType.{ThreatType}
use Rattle.sb_model.specs.declared.names.ThreatType.TheVariants as threat
use Rattle.sb_model.specs.declared.names.PlatformType.{PlatformType}
use Rattle.sb_model.specs.declared.names.PlatformType.TheVariants as platform
use Rattle.sb_model.specs.declared.names.EntryType.{EntryType}
use Rattle.sb_model.specs.declared.names.EntryType.TheVariants as entry
use Rattle.sb_model.specs.declared.names.ListName.{ListName}
use Rattle.sb_model.specs.Names.{same_name, threat_code, threat_with_code, platform_code, platform_with_code, entry_code, entry_with_code}
use Rattle.url_canon.specs.Url.{Url}
use Rattle.url_canon.specs.declared.fault.UrlFault.{UrlFault}
use Rattle.lookup_messages.specs.Messages.{AskedUrls}
use Rattle.lookup_messages.specs.declared.response.LookupMatch.{LookupMatch}
use Rattle.lookup_messages.specs.Lookups.{canonical_of_asked, looks_up_list, lists_looked_up, match_of, matches_of_url, lookup_matches, IsLookupMatch, is_url, is_match}
use Rattle.lookup_messages.proofs.Memberships.{cases, nothing, in_filter}

-- ---- names that are the same

threat_back : (t : ThreatType) → threat_with_code (threat_code t) ≡ Some t
unfolding threat_with_code
threat_back threat.Malware = refl
threat_back threat.SocialEngineering = refl
threat_back threat.UnwantedSoftware = refl
threat_back threat.PotentiallyHarmfulApplication = refl

platform_back : (p : PlatformType) → platform_with_code (platform_code p) ≡ Some p
unfolding platform_with_code
platform_back platform.Windows = refl
platform_back platform.Linux = refl
platform_back platform.Android = refl
platform_back platform.Osx = refl
platform_back platform.Ios = refl
platform_back platform.AnyPlatform = refl
platform_back platform.AllPlatforms = refl
platform_back platform.Chrome = refl

entry_back : (e : EntryType) → entry_with_code (entry_code e) ≡ Some e
unfolding entry_with_code
entry_back entry.Url = refl
entry_back entry.Executable = refl

-- what has the same code under a table is the same
same_coded : {A : Type 0} (code : A → ℕ) (table : ℕ → Option A) (a b : A) → table (code a) ≡ Some a → table (code b) ≡ Some b → (code a == code b) ≡ true → a ≡ b
same_coded code table a b h k e =
    let codes : code a ≡ code b = eqb-true (code a) (code b) e in
    let tables : table (code a) ≡ table (code b) = ap table codes in
    cc

same_list : (a b : ListName) → same_name a b ≡ true → a ≡ b
same_list a b e =
    let both = and_parts _ _ e in
    let first = and_parts _ _ both.0 in
    let threats : a.threat ≡ b.threat = same_coded threat_code threat_with_code a.threat b.threat (threat_back a.threat) (threat_back b.threat) first.0 in
    let platforms : a.platform ≡ b.platform = same_coded platform_code platform_with_code a.platform b.platform (platform_back a.platform) (platform_back b.platform) first.1 in
    let entries : a.entry ≡ b.entry = same_coded entry_code entry_with_code a.entry b.entry (entry_back a.entry) (entry_back b.entry) both.1 in
    λ i. record { threat = threats i; platform = platforms i; entry = entries i }

list_itself : (a : ListName) → same_name a a ≡ true
list_itself a =
    and_from _ _
    (and_from _ _ (eq-eqb (threat_code a.threat) (threat_code a.threat) refl) (eq-eqb (platform_code a.platform) (platform_code a.platform) refl))
    (eq-eqb (entry_code a.entry) (entry_code a.entry) refl)

other_list : (a b : ListName) → a ≢ b → same_name a b ≡ false
other_list a b other = go (same_name a b) refl
  where
    go : (same : Bool) → same_name a b ≡ same → same ≡ false
    go true e = absurd (other (same_list a b e))
    go false e = refl

-- ---- counts

count_step : {A : Type 0} (p : A → Bool) (x : A) (xs : List A) → count_by p (x ∷ xs) ≡ cond (p x) 1 0 + count_by p xs
count_step p x xs = sum_by-cons (λ y. cond (p y) 1 0) x xs

count_append : {A : Type 0} (p : A → Bool) (xs ys : List A) → count_by p (xs ++ ys) ≡ count_by p xs + count_by p ys
count_append p xs ys = sum_by-append (λ y. cond (p y) 1 0) xs ys

-- one that does not pass adds nothing
count_past : {A : Type 0} (p : A → Bool) (x : A) (xs : List A) (n : ℕ) → p x ≡ false → count_by p xs ≡ n → count_by p (x ∷ xs) ≡ n
count_past p x xs n fails rest =
    let none : ◌≡◌ {A = ℕ} (cond (p x) 1 0) 0 = rw fails refl in
    omega (arith, count_step p x xs, none, rest)

-- and one that passes adds one
count_one : {A : Type 0} (p : A → Bool) (x : A) (xs : List A) (n : ℕ) → p x ≡ true → count_by p xs ≡ n → count_by p (x ∷ xs) ≡ 1 + n
count_one p x xs n passes rest =
    let one : ◌≡◌ {A = ℕ} (cond (p x) 1 0) 1 = rw passes refl in
    omega (arith, count_step p x xs, one, rest)

count_of_none : {A : Type 0} (p : A → Bool) → ((x : A) → p x ≡ false) → (xs : List A) → count_by p xs ≡ 0
count_of_none p none [] = refl
count_of_none p none (x ∷ xs) = count_past p x xs 0 (none x) (count_of_none p none xs)

count_of_map : {A B : Type 0} (f : A → B) (p : B → Bool) (q : A → Bool) → ((x : A) → p (f x) ≡ q x) → (xs : List A) → count_by p (map f xs) ≡ count_by q xs
count_of_map f p q same [] = refl
count_of_map f p q same (x ∷ xs) =
    count_step p (f x) (map f xs) ∙ rw (same x, count_of_map f p q same xs) (sym (count_step q x xs))

count_of_each : {A B : Type 0} (f : A → List B) (p : B → Bool) (q : A → Bool) → ((x : A) → count_by p (f x) ≡ cond (q x) 1 0) → (xs : List A) → count_by p (flat_map f xs) ≡ count_by q xs
count_of_each f p q one [] = refl
count_of_each f p q one (x ∷ xs) =
    count_append p (f x) (flat_map f xs) ∙ rw (one x, count_of_each f p q one xs) (sym (count_step q x xs))

-- ---- a list among lists that are given once

count_of_absent : (name : ListName) (names : List ListName) → ((k : ℕ) (d : ListName) → k < length names → name ≢ slice_index_or names k d) → count_by (same_name name) names ≡ 0
count_of_absent name [] absent = refl
count_of_absent name (x ∷ names) absent =
    count_past (same_name name) x names 0 (other_list name x (absent 0 x (omega arith)))
    (count_of_absent name names (λ k d below. absent (suc k) d (omega (arith, below))))

count_of_once : (name : ListName) (names : List ListName) → AllPairs (λ (a b : ListName). a ≢ b) names → Contains names name → count_by (same_name name) names ≡ 1
count_of_once name [] once h = absurd (nothing name h)
count_of_once name (x ∷ names) once h =
    go (cases x name names h) (λ later. count_of_once name names (λ i j d less below. once (suc i) (suc j) d (omega (arith, less)) (omega (arith, below))) later)
  where
    go : (x ≡ name) ⊎ Contains names name → (Contains names name → count_by (same_name name) names ≡ 1) → count_by (same_name name) (x ∷ names) ≡ 1
    go (inl same) more =
        count_one (same_name name) x names 0 (subst (λ (w : ListName). same_name name w ≡ true) (sym same) (list_itself name))
        (count_of_absent name names (λ k d below is. once 0 (suc k) d (omega arith) (omega (arith, below)) (same ∙ is)))
    go (inr later) more =
        count_past (same_name name) x names 1
        (other_list name x (λ is. once 0 (suc later.0) name (omega arith) (omega (arith, later.1)) (sym is ∙ sym later.2)))
        (more later)

-- ---- the matches of one URL

url_itself : (url : List ℕ) → is_url url url ≡ true
url_itself url = (bytes_eq-Decides url url).1 refl

third_is_false : (a b c : Bool) → b ≡ false → (a && b && c) ≡ false
third_is_false true b c e = rw e refl
third_is_false false b c e = refl

first_decides : (a b c : Bool) → b ≡ true → c ≡ true → (a && b && c) ≡ a
first_decides true b c e f = rw (e, f) refl
first_decides false b c e f = refl

of_other : (has : ListName → Url → Bool) (lists : List ListName) (cache : ℕ) (found : LookupMatch) (url : List ℕ) (r : Result Url UrlFault) → is_url found.url url ≡ false
    → count_by (is_match found) (matches_of_url has lists cache url r) ≡ 0
of_other has lists cache found url (Ok canonical) other =
    count_of_map (match_of cache url) (is_match found) (λ (_ : ListName). false) (λ list. third_is_false (same_name found.name list) _ _ other) (filter (λ (list : ListName). has list canonical) lists)
    ∙ count_of_none (λ (_ : ListName). false) (λ _. refl) (filter (λ (list : ListName). has list canonical) lists)
of_other has lists cache found url (Err fault) other = refl

of_itself : (has : ListName → Url → Bool) (lists : List ListName) (cache : ℕ) (asked : AskedUrls) (found : LookupMatch) (h : IsLookupMatch has lists cache asked found) → AllPairs (λ (a b : ListName). a ≢ b) lists
    → count_by (is_match found) (matches_of_url has (lists_looked_up lists asked) cache found.url (Ok h.canonical)) ≡ 1
of_itself has lists cache asked found h once =
    let test : ListName → Bool = λ (list : ListName). has list h.canonical in
    count_of_map (match_of cache found.url) (is_match found) (same_name found.name)
    (λ list. first_decides (same_name found.name list) _ _ (url_itself found.url) (eq-eqb found.cache (cache * 1000000000) h.cache_told))
    (filter (λ (list : ListName). has list h.canonical) (lists_looked_up lists asked))
    ∙ count_of_once found.name (filter (λ (list : ListName). has list h.canonical) (lists_looked_up lists asked))
    (AllPairs-filter (λ (a b : ListName). a ≢ b) (λ (list : ListName). has list h.canonical) (lists_looked_up lists asked) (AllPairs-filter (λ (a b : ListName). a ≢ b) (looks_up_list asked) lists once))
    (in_filter (λ (list : ListName). has list h.canonical) (lists_looked_up lists asked) found.name (in_filter (looks_up_list asked) lists found.name h.list_given h.list_asked) h.has_url)

of_url : (has : ListName → Url → Bool) (lists : List ListName) (cache : ℕ) (asked : AskedUrls) (found : LookupMatch) → IsLookupMatch has lists cache asked found → AllPairs (λ (a b : ListName). a ≢ b) lists
    → (url : List ℕ) → count_by (is_match found) (matches_of_url has (lists_looked_up lists asked) cache url (canonical_of_asked url)) ≡ cond (is_url found.url url) 1 0
of_url has lists cache asked found h once url = go (is_url found.url url) refl
  where
    counted : List ℕ → ℕ
    counted text = count_by (is_match found) (matches_of_url has (lists_looked_up lists asked) cache text (canonical_of_asked text))

    at_itself : counted found.url ≡ 1
    at_itself =
        subst (λ (r : Result Url UrlFault). count_by (is_match found) (matches_of_url has (lists_looked_up lists asked) cache found.url r) ≡ 1) (sym h.canonical_form)
        (of_itself has lists cache asked found h once)

    go : (same : Bool) → is_url found.url url ≡ same → counted url ≡ cond same 1 0
    go true e = subst (λ (text : List ℕ). counted text ≡ 1) ((bytes_eq-Decides found.url url).0 e) at_itself
    go false e = of_other has (lists_looked_up lists asked) cache found url (canonical_of_asked url) e

pub as_often_as_asked : (has : ListName → Url → Bool) (lists : List ListName) (cache : ℕ) (asked : AskedUrls) (found : LookupMatch) → AllPairs (λ (a b : ListName). a ≢ b) lists
    → IsLookupMatch has lists cache asked found → count_by (is_match found) (lookup_matches has lists cache asked) ≡ count_by (is_url found.url) asked.urls
as_often_as_asked has lists cache asked found once h =
    count_of_each (λ (url : List ℕ). matches_of_url has (lists_looked_up lists asked) cache url (canonical_of_asked url)) (is_match found) (is_url found.url) (of_url has lists cache asked found h once) asked.urls
