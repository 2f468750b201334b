-- Full hashes that begin with a prefix.
use Rattle.std.proofs.Common.{◌≡◌, ℕ, zero, suc, ◌+◌, ◌<◌, ◌≤◌, List, [], ◌∷◌, ◌++◌, length, take, map, get_or, refl, sym, ap, subst, ◌∙◌, Bool, true, false, cond, Some, Result, Ok, Err, IfOk}
use Rattle.std.specs.Prelude.{All, filter, slice_get}
use Rattle.std.specs.Str.{bytes_eq}
use Rattle.std.proofs.lemmas.List.{take_more, map-append, take-take}
use Rattle.std.proofs.lemmas.List.Elements.{filter-append, All-filter, All-map, All-push}
use Rattle.hash_prefixes.specs.declared.hashes.FullHash.{FullHash}
use Rattle.sb_model.specs.declared.history.Added.{Added}
use Rattle.sb_model.specs.Prefixes.{set_of}
use Rattle.list_versions.specs.Buckets.{added_of}
use Rattle.list_versions.specs.Limits.{has_head}
use Rattle.list_versions.specs.declared.bucket.Standing.{Standing}
use Rattle.list_versions.specs.Live.{Holds}
use Rattle.list_versions.specs.Lookup.{begins}
use Rattle.list_versions.specs.declared.live.Live.{Live}
use Rattle.list_versions.proofs.Finding.{same_bytes, bytes_are_same}

pub begun_more : (prefix : List ℕ) (bucket : List Added) (i : ℕ) (d : Added) (old new : List (List ℕ)) → i < length bucket → old ≡ filter (begins prefix) (map (λ (entry : Added). entry.hash) (take i bucket))
    → new ≡ old ++ filter (begins prefix) ((get_or bucket i d).hash ∷ []) → new ≡ filter (begins prefix) (map (λ (entry : Added). entry.hash) (take (i + 1) bucket))
begun_more prefix bucket i d old new lt before e =
    e ∙ ap (λ hs. hs ++ filter (begins prefix) ((get_or bucket i d).hash ∷ [])) before
    ∙ sym (filter-append (begins prefix) (map (λ (entry : Added). entry.hash) (take i bucket)) ((get_or bucket i d).hash ∷ []))
    ∙ ap (filter (begins prefix)) (sym (map-append {B = List ℕ} (λ (entry : Added). entry.hash) (take i bucket) (get_or bucket i d ∷ [])))
    ∙ ap (λ es. filter (begins prefix) (map (λ (entry : Added). entry.hash) es)) (sym (take_more bucket i d lt))

lines_next : (bucket : List Standing) (i : ℕ) (d : Standing) → i < length bucket → added_of (take (i + 1) bucket) ≡ added_of (take i bucket) ++ (get_or bucket i d).added ∷ []
lines_next bucket i d lt = ap added_of (take_more bucket i d lt) ∙ map-append {B = Added} (λ (l : Standing). l.added) (take i bucket) (get_or bucket i d ∷ [])

pub begun_lines : (prefix : List ℕ) (bucket : List Standing) (i : ℕ) (d : Standing) (old new : List (List ℕ)) → i < length bucket
    → old ≡ filter (begins prefix) (map (λ (entry : Added). entry.hash) (added_of (take i bucket)))
    → new ≡ old ++ filter (begins prefix) ((get_or bucket i d).added.hash ∷ []) → new ≡ filter (begins prefix) (map (λ (entry : Added). entry.hash) (added_of (take (i + 1) bucket)))
begun_lines prefix bucket i d old new lt before e =
    let line = get_or bucket i d in
    e ∙ ap (λ hs. hs ++ filter (begins prefix) (line.added.hash ∷ [])) before
    ∙ sym (filter-append (begins prefix) (map (λ (entry : Added). entry.hash) (added_of (take i bucket))) (line.added.hash ∷ []))
    ∙ ap (filter (begins prefix)) (sym (map-append {B = List ℕ} (λ (entry : Added). entry.hash) (added_of (take i bucket)) (line.added ∷ [])))
    ∙ ap (λ es. filter (begins prefix) (map (λ (entry : Added). entry.hash) es)) (sym (lines_next bucket i d lt))

pub whole_lines : (bucket : List Standing) (i : ℕ) (d : Standing) → i < length bucket → All (λ (entry : Added). length entry.hash ≡ 32) (added_of (take i bucket))
    → length (get_or bucket i d).added.hash ≡ 32 → All (λ (entry : Added). length entry.hash ≡ 32) (added_of (take (i + 1) bucket))
whole_lines bucket i d lt h own =
    subst (All (λ (entry : Added). length entry.hash ≡ 32)) (sym (lines_next bucket i d lt)) (All-push (λ (entry : Added). length entry.hash ≡ 32) (added_of (take i bucket)) (get_or bucket i d).added h own)

pub take_next : (set : List (List ℕ)) (i : ℕ) (x : List ℕ) → slice_get set i ≡ Some x → take (suc i) set ≡ take i set ++ x ∷ []
take_next [] i x h = absurd (cc)
take_next (y ∷ ys) zero x h = cc
take_next (y ∷ ys) (suc i) x h = ap (λ zs. y ∷ zs) (take_next ys i x h)

pub all_whole : (prefix : List ℕ) (bucket : List Added) → All (λ (entry : Added). length entry.hash ≡ 32) bucket → All (λ (hash : List ℕ). length hash ≡ 32) (filter (begins prefix) (map (λ (entry : Added). entry.hash) bucket))
all_whole prefix bucket h = All-filter (begins prefix) (λ (hash : List ℕ). length hash ≡ 32) (map (λ (entry : Added). entry.hash) bucket) (All-map (λ (hash : List ℕ). length hash ≡ 32) (λ (entry : Added). entry.hash) bucket h)

-- the bucket of the prefix has all of them
no_head : (prefix head : List ℕ) (entry : Added) (b : Bool) → begins prefix entry.hash ≡ b → 4 ≤ length prefix → head ≡ take 4 prefix → has_head head entry ≡ false → b ≡ false
no_head prefix head entry true e long is not_head =
    let front : take 4 entry.hash ≡ head =
    sym (take-take 4 (length prefix) entry.hash long) ∙ ap (take 4) (same_bytes (take (length prefix) entry.hash) prefix e) ∙ sym is in
    let yes : has_head head entry ≡ true = ap (λ bs. bytes_eq bs head) front ∙ bytes_are_same head in
    absurd (cc)
no_head prefix head entry false e long is not_head = refl

begun_at : (prefix head : List ℕ) (entry : Added) (entries : List Added) (b c : Bool) → has_head head entry ≡ b → begins prefix entry.hash ≡ c → 4 ≤ length prefix → head ≡ take 4 prefix
    → filter (begins prefix) (map (λ (entry : Added). entry.hash) (filter (has_head head) entries)) ≡ filter (begins prefix) (map (λ (entry : Added). entry.hash) entries)
    → filter (begins prefix) (map (λ (entry : Added). entry.hash) (cond b (entry ∷ filter (has_head head) entries) (filter (has_head head) entries)))
    ≡ cond c (entry.hash ∷ filter (begins prefix) (map (λ (entry : Added). entry.hash) entries)) (filter (begins prefix) (map (λ (entry : Added). entry.hash) entries))
begun_at prefix head entry entries true true e f long is rest = rw f (ap (λ hs. entry.hash ∷ hs) rest)
begun_at prefix head entry entries true false e f long is rest = rw f rest
begun_at prefix head entry entries false c e f long is rest = rest ∙ rw (no_head prefix head entry c f long is e) refl

pub begun_same : (prefix head : List ℕ) (entries : List Added) → 4 ≤ length prefix → head ≡ take 4 prefix
    → filter (begins prefix) (map (λ (entry : Added). entry.hash) (filter (has_head head) entries)) ≡ filter (begins prefix) (map (λ (entry : Added). entry.hash) entries)
begun_same prefix head [] long is = refl
begun_same prefix head (entry ∷ entries) long is = begun_at prefix head entry entries (has_head head entry) (begins prefix entry.hash) refl refl long is (begun_same prefix head entries long is)

pub rising_of : {E : Type 0} (result : Result (List FullHash) E) (hashes others : List (List ℕ)) → hashes ≡ others → IfOk result (λ row. map (λ (hash : FullHash). hash.bytes) row ≡ set_of hashes) → IfOk result (λ row. map (λ (hash : FullHash). hash.bytes) row ≡ set_of others)
rising_of (Ok row) hashes others e h = h ∙ ap set_of e
rising_of (Err fault) hashes others e h = tt

pub for_each : {A E : Type 0} (B : Type 0) (result : Result A E) (P : A → B → Type 0) (Q : B → Type 0) → ((b : B) → Q b → IfOk result (λ a. P a b)) → IfOk result (λ a. (b : B) → Q b → P a b)
for_each B (Ok a) P Q h = λ b q. h b q
for_each B (Err e) P Q h = tt

-- the full hashes of a list that begin with a prefix
abbrev pub FoundIn : {E : Type 0} → Result (List FullHash) E → List ℕ → List Added → Type 0
FoundIn result prefix entries = IfOk result (λ hashes. map (λ (hash : FullHash). hash.bytes) hashes ≡ set_of (filter (begins prefix) (map (λ (entry : Added). entry.hash) entries)))

pub found_in_list : {E : Type 0} (result : Result (List FullHash) E) (live : Live) (prefix : List ℕ) (entries : List Added) → Holds live entries
    → IfOk result (λ hashes. (others : List Added) → Holds live others → map (λ (hash : FullHash). hash.bytes) hashes ≡ set_of (filter (begins prefix) (map (λ (entry : Added). entry.hash) others)))
    → FoundIn result prefix entries
found_in_list (Ok hashes) live prefix entries holds h = h entries holds
found_in_list (Err fault) live prefix entries holds h = tt
