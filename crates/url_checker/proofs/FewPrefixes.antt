-- However many lists there are, the prefixes of hits are first bytes of the hashes: one for each hash and size.
use Rattle.std.proofs.Common.{◌≡◌, ℕ, zero, suc, ◌*◌, ◌≤◌, Bool, true, false, cond, List, [], ◌∷◌, ◌++◌, length, take, map, refl, sym, ap, ◌∙◌, arith, subst, length-append}
use Rattle.std.specs.Prelude.{filter, ◌↔◌, ◌||◌, Contains, All}
use Rattle.std.specs.Ordering.{eq_by_cmp}
use Rattle.std.specs.List.{list_any, flat_map}
use Rattle.std.specs.Set.{is_member}
use Rattle.std.specs.Str.{bytes_eq}
use Rattle.std.specs.Cmp.Lexicographic.{nat_list_eq_equiv, nat_list_cmp_total, texts_ties}
use Rattle.std.proofs.lemmas.Cmp.{eq_by_cmp_equiv}
use Rattle.std.proofs.lemmas.Bool.{false≢true}
use Rattle.std.proofs.lemmas.List.{map-append, length-map}
use Rattle.std.proofs.lemmas.List.Folds.{list_any-append}
use Rattle.std.proofs.lemmas.List.FromFn.{length-range_with_len}
use Rattle.std.proofs.lemmas.List.Elements.{All-append, All-nil, All-cons}
use Rattle.std.proofs.lemmas.Map.Keys.{IsDistinct-from_sorted}
use Rattle.std.proofs.lemmas.Map.Made.{length-le_from_is_member}
use Rattle.std.proofs.lemmas.Map.Views.{Contains-from_any, list_any-from_Contains}
use Rattle.std.proofs.lemmas.Slice.Eq.{bytes_eq-Decides}
use Rattle.sb_model.specs.Prefixes.{IsRising, set_of, bytes_cmp}
use Rattle.hash_prefixes.specs.declared.hashes.FullHash.{FullHash}
use Rattle.update_client.specs.Held.{Held}
use Rattle.url_checker.specs.declared.findings.Hit.{Hit}
use Rattle.url_checker.specs.Hits.{has_front, hit_of, hits_with, hits_on, prefix_sizes, prefixes_hit, BeginsHash}

-- the prefixes of hits as they stand
abbrev pub prefixes_in : List Hit → List (List ℕ)
prefixes_in hits = map (λ (hit : Hit). hit.prefix) hits

-- the first bytes of a hash, at each of some sizes
abbrev pub fronts_at : FullHash → List ℕ → List (List ℕ)
fronts_at hash sizes = map (λ size. take size hash.bytes) sizes

-- the first bytes of some hashes, at each size
abbrev pub fronts_of : List FullHash → List (List ℕ)
fronts_of hashes = flat_map (λ hash. fronts_at hash prefix_sizes) hashes

-- each member of one list is one of another
Within : List (List ℕ) → List (List ℕ) → Type 0
Within xs ys = (q : List ℕ) → is_member bytes_eq xs q ≡ true → is_member bytes_eq ys q ≡ true

within_nothing : Within [] []
unfolding Within
within_nothing q h = h

within_none : (ys : List (List ℕ)) → Within [] ys
unfolding Within
within_none ys q h = absurd (false≢true h)

-- one of two is true
either : (a b c d : Bool) → (a ≡ true → c ≡ true) → (b ≡ true → d ≡ true) → (a || b) ≡ true → (c || d) ≡ true
either true b true d first second h = refl
either true b false d first second h = absurd (false≢true (first refl))
either false b true d first second h = refl
either false b false d first second h = second h

within_both : (xs ys us vs : List (List ℕ)) → Within xs us → Within ys vs → Within (xs ++ ys) (us ++ vs)
unfolding Within
within_both xs ys us vs first second q h =
    list_any-append (bytes_eq q) us vs
    ∙ either (list_any (bytes_eq q) xs) (list_any (bytes_eq q) ys) (list_any (bytes_eq q) us) (list_any (bytes_eq q) vs) (first q) (second q)
    (sym (list_any-append (bytes_eq q) xs ys) ∙ h)

one_of : (a b c : Bool) → (a ≡ true → c ≡ true) → (b ≡ true → c ≡ true) → (a || b) ≡ true → c ≡ true
one_of true b c first second h = first refl
one_of false b c first second h = second h

right : (a b : Bool) → b ≡ true → (a || b) ≡ true
right true b e = refl
right false b e = e

within_each : (xs ys zs : List (List ℕ)) → Within xs zs → Within ys zs → Within (xs ++ ys) zs
unfolding Within
within_each xs ys zs first second q h =
    one_of (list_any (bytes_eq q) xs) (list_any (bytes_eq q) ys) (list_any (bytes_eq q) zs) (first q) (second q) (sym (list_any-append (bytes_eq q) xs ys) ∙ h)

-- ---- the hits of one hash on one list

-- the prefixes of the hits at some sizes, as they stand
abbrev pub prefixes_at : Held → FullHash → List ℕ → List (List ℕ)
prefixes_at held hash sizes = prefixes_in (map (hit_of held.name hash) (filter (has_front held.set hash) sizes))

size_more : (held : Held) (hash : FullHash) (size : ℕ) (sizes q : List ℕ) (b : Bool) → (is_member bytes_eq (prefixes_at held hash sizes) q ≡ true → is_member bytes_eq (fronts_at hash sizes) q ≡ true)
    → is_member bytes_eq (prefixes_in (map (hit_of held.name hash) (cond b (size ∷ filter (has_front held.set hash) sizes) (filter (has_front held.set hash) sizes)))) q ≡ true
    → (bytes_eq q (take size hash.bytes) || is_member bytes_eq (fronts_at hash sizes) q) ≡ true
size_more held hash size sizes q true more i =
    either (bytes_eq q (take size hash.bytes)) (is_member bytes_eq (prefixes_at held hash sizes) q) (bytes_eq q (take size hash.bytes)) (is_member bytes_eq (fronts_at hash sizes) q) (λ e. e) more i
size_more held hash size sizes q false more i = right (bytes_eq q (take size hash.bytes)) (is_member bytes_eq (fronts_at hash sizes) q) (more i)

within_sizes : (held : Held) (hash : FullHash) (sizes : List ℕ) → Within (prefixes_at held hash sizes) (fronts_at hash sizes)
unfolding Within
within_sizes held hash [] q h = h
within_sizes held hash (size ∷ sizes) q h = size_more held hash size sizes q (has_front held.set hash size) (within_sizes held hash sizes q) h

within_hashes : (held : Held) (hashes : List FullHash) → Within (prefixes_in (hits_on hashes held)) (fronts_of hashes)
within_hashes held [] = within_nothing
within_hashes held (hash ∷ hashes) =
    subst (λ (ps : List (List ℕ)). Within ps (fronts_of (hash ∷ hashes))) (sym (map-append (λ (hit : Hit). hit.prefix) (hits_with held hash) (hits_on hashes held)))
    (within_both (prefixes_in (hits_with held hash)) (prefixes_in (hits_on hashes held)) (fronts_at hash prefix_sizes) (fronts_of hashes)
    (within_sizes held hash prefix_sizes) (within_hashes held hashes))

within_lists : (hashes : List FullHash) (lists : List Held) → Within (prefixes_in (flat_map (hits_on hashes) lists)) (fronts_of hashes)
within_lists hashes [] = within_none (fronts_of hashes)
within_lists hashes (held ∷ lists) =
    subst (λ (ps : List (List ℕ)). Within ps (fronts_of hashes)) (sym (map-append (λ (hit : Hit). hit.prefix) (hits_on hashes held) (flat_map (hits_on hashes) lists)))
    (within_each (prefixes_in (hits_on hashes held)) (prefixes_in (flat_map (hits_on hashes) lists)) (fronts_of hashes) (within_hashes held hashes) (within_lists hashes lists))

-- ---- how many there are

fronts_count : (hashes : List FullHash) → length (fronts_of hashes) ≡ 29 * length hashes
fronts_count [] = refl
fronts_count (hash ∷ hashes) =
    let first : length (fronts_at hash prefix_sizes) ≡ 29 = length-map prefix_sizes (λ size. take size hash.bytes) ∙ length-range_with_len 4 29 in
    omega (arith, length-append (fronts_at hash prefix_sizes) (fronts_of hashes), first, fronts_count hashes)

same_by_order : (x y : List ℕ) → eq_by_cmp bytes_cmp x y ≡ true → x ≡ y
same_by_order x y h = (bytes_eq-Decides x y).0 (texts_ties x y ∙ h)

same_by_bytes : (x y : List ℕ) → bytes_eq x y ≡ true → x ≡ y
same_by_bytes x y h = (bytes_eq-Decides x y).0 h

-- a set of members of a list is no longer than the list
no_longer : ((xs : List (List ℕ)) → IsRising (set_of xs)) → ((xs : List (List ℕ)) (x : List ℕ) → Contains (set_of xs) x ↔ Contains xs x)
    → (ps ys : List (List ℕ)) → Within ps ys → length (set_of ps) ≤ length ys
unfolding Within
no_longer rising members ps ys within =
    length-le_from_is_member (eq_by_cmp_equiv nat_list_cmp_total) (set_of ps) ys (IsDistinct-from_sorted bytes_cmp (set_of ps) (rising ps))
    (λ q h. list_any-from_Contains (eq_by_cmp_equiv nat_list_cmp_total) q ys
    (Contains-from_any same_by_bytes q ys (within q (list_any-from_Contains nat_list_eq_equiv q ps ((members ps q).0 (Contains-from_any same_by_order q (set_of ps) h))))))

pub few_prefixes : ((xs : List (List ℕ)) → IsRising (set_of xs)) → ((xs : List (List ℕ)) (x : List ℕ) → Contains (set_of xs) x ↔ Contains xs x)
    → (hashes : List FullHash) (lists : List Held) → length hashes ≤ 30 → length (prefixes_hit (flat_map (hits_on hashes) lists)) ≤ 870
few_prefixes rising members hashes lists few =
    omega (arith, no_longer rising members (prefixes_in (flat_map (hits_on hashes) lists)) (fronts_of hashes) (within_lists hashes lists), fronts_count hashes)

-- ---- each prefix begins its hash

front_again : (n : ℕ) (bytes : List ℕ) → take (length (take n bytes)) bytes ≡ take n bytes
front_again zero bytes = refl
front_again (suc n) [] = refl
front_again (suc n) (byte ∷ bytes) = ap (λ (rest : List ℕ). byte ∷ rest) (front_again n bytes)

begins_at : (held : Held) (hash : FullHash) (sizes : List ℕ) → All BeginsHash (map (hit_of held.name hash) sizes)
begins_at held hash [] = All-nil BeginsHash
begins_at held hash (size ∷ sizes) = All-cons BeginsHash (hit_of held.name hash size) (map (hit_of held.name hash) sizes) (front_again size hash.bytes) (begins_at held hash sizes)

begins_hashes : (held : Held) (hashes : List FullHash) → All BeginsHash (hits_on hashes held)
begins_hashes held [] = All-nil BeginsHash
begins_hashes held (hash ∷ hashes) =
    All-append BeginsHash (hits_with held hash) (hits_on hashes held) (begins_at held hash (filter (has_front held.set hash) prefix_sizes)) (begins_hashes held hashes)

pub begins_each : (hashes : List FullHash) (lists : List Held) → All BeginsHash (flat_map (hits_on hashes) lists)
begins_each hashes [] = All-nil BeginsHash
begins_each hashes (held ∷ lists) =
    All-append BeginsHash (hits_on hashes held) (flat_map (hits_on hashes) lists) (begins_hashes held hashes) (begins_each hashes lists)

-- ---- some of the hits

some_more : (p : Hit → Bool) (hit : Hit) (hits : List Hit) (q : List ℕ) (b : Bool) → (is_member bytes_eq (prefixes_in (filter p hits)) q ≡ true → is_member bytes_eq (prefixes_in hits) q ≡ true)
    → is_member bytes_eq (prefixes_in (cond b (hit ∷ filter p hits) (filter p hits))) q ≡ true → (bytes_eq q hit.prefix || is_member bytes_eq (prefixes_in hits) q) ≡ true
some_more p hit hits q true more h =
    either (bytes_eq q hit.prefix) (is_member bytes_eq (prefixes_in (filter p hits)) q) (bytes_eq q hit.prefix) (is_member bytes_eq (prefixes_in hits) q) (λ e. e) more h
some_more p hit hits q false more h = right (bytes_eq q hit.prefix) (is_member bytes_eq (prefixes_in hits) q) (more h)

within_some : (p : Hit → Bool) (hits : List Hit) → Within (prefixes_in (filter p hits)) (prefixes_in hits)
unfolding Within
within_some p [] q h = h
within_some p (hit ∷ hits) q h = some_more p hit hits q (p hit) (within_some p hits q) h

within_set : ((xs : List (List ℕ)) (x : List ℕ) → Contains (set_of xs) x ↔ Contains xs x) → (xs ys : List (List ℕ)) → Within xs ys → Within xs (set_of ys)
unfolding Within
within_set members xs ys within q h = list_any-from_Contains nat_list_eq_equiv q (set_of ys) ((members ys q).1 (Contains-from_any same_by_bytes q ys (within q h)))

pub fewer_prefixes : ((xs : List (List ℕ)) → IsRising (set_of xs)) → ((xs : List (List ℕ)) (x : List ℕ) → Contains (set_of xs) x ↔ Contains xs x)
    → (p : Hit → Bool) (hits : List Hit) → length (prefixes_hit (filter p hits)) ≤ length (prefixes_hit hits)
fewer_prefixes rising members p hits =
    no_longer rising members (prefixes_in (filter p hits)) (set_of (prefixes_in hits)) (within_set members (prefixes_in (filter p hits)) (prefixes_in hits) (within_some p hits))
