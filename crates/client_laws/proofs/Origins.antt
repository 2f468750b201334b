-- Where hits come from, and where they are.
use Rattle.std.proofs.Common.{◌≡◌, ℕ, zero, suc, ◌+◌, ◌-◌, ◌<◌, ◌≤◌, inl, inr, List, [], ◌∷◌, length, take, map, filter, Contains, refl, sym, ap, ◌∙◌, subst, arith}
use Rattle.std.specs.Prelude.{◌↔◌}
use Rattle.std.specs.List.{range_with_len}
use Rattle.std.specs.Cmp.Lexicographic.{nat_list_eq_equiv}
use Rattle.std.proofs.lemmas.List.Elements.{All-contains}
use Rattle.std.proofs.lemmas.List.FromFn.{length-range_with_len, get_or-range_with_len}
use Rattle.std.proofs.lemmas.Map.Views.{list_any-from_Contains}
use Rattle.sb_model.specs.declared.history.Added.{Added}
use Rattle.sb_model.specs.declared.names.ListName.{ListName}
use Rattle.sb_model.specs.History.{History, IsPrefixSize, IsWellFormed, sizes_at, full_hashes_at, prefix_of, prefixes_at}
use Rattle.sb_model.specs.Naming.{Naming}
use Rattle.sb_model.specs.Prefixes.{set_of}
use Rattle.hash_prefixes.specs.declared.hashes.FullHash.{FullHash}
use Rattle.url_canon.specs.Url.{Url}
use Rattle.update_client.specs.Held.{Held}
use Rattle.url_checker.specs.declared.findings.Hit.{Hit}
use Rattle.url_hashes.specs.Hashes.{hashes_of}
use Rattle.url_checker.specs.Hits.{prefix_sizes, has_front, hit_of, hits_with, hits_on, hits_of, BeginsHash}
use Rattle.client_laws.specs.Full.{IsFullOf, IsFullAtVersion, HasHit}
use Rattle.client_laws.proofs.Members.{nothing, in_map, from_map, in_filter, in_flat_map, from_flat_map}
use Rattle.client_laws.proofs.Sizes.{HasPrefixSize, entries_are_sized}

-- ---- from a hash to a hit

in_range : (first count size : ℕ) → first ≤ size → size < first + count → Contains (range_with_len first count) size
in_range first count size low high =
    let below : size - first < count = omega arith in (
      size - first,
      subst (λ n. size - first < n) (sym (length-range_with_len first count)) below,
      get_or-range_with_len first count (size - first) size below ∙ (let same : first + (size - first) ≡ size = omega arith in same),
    )

is_prefix_size : (size : ℕ) → IsPrefixSize size → Contains prefix_sizes size
is_prefix_size size is = in_range 4 29 size is.low (let high = is.high in omega (arith, high))

hit_with : (held : Held) (hash : FullHash) (size : ℕ) → IsPrefixSize size → Contains held.set (take size hash.bytes) → Contains (hits_with held hash) (hit_of held.name hash size)
hit_with held hash size is h =
    in_map (hit_of held.name hash) (filter (has_front held.set hash) prefix_sizes) size
    (in_filter (has_front held.set hash) prefix_sizes size (is_prefix_size size is) (list_any-from_Contains nat_list_eq_equiv (take size hash.bytes) held.set h))

hit_of_url : (lists : List Held) (url : Url) (held : Held) (hash : FullHash) (hit : Hit) → Contains lists held → Contains (hashes_of url) hash → Contains (hits_with held hash) hit
    → Contains (hits_of lists url) hit
hit_of_url lists url held hash hit member of_url h =
    in_flat_map (hits_on (hashes_of url)) lists held hit member (in_flat_map (hits_with held) (hashes_of url) hash hit of_url h)

module _ (members : (xs : List (List ℕ)) (x : List ℕ) → Contains (set_of xs) x ↔ Contains xs x) where
  published : (history : History) (list : ListName) (version : ℕ) (hash : List ℕ) → IsWellFormed history → Contains (full_hashes_at history list version) hash
      → (size : ℕ) × IsPrefixSize size × Contains (prefixes_at history list version) (take size hash)
  published history list version hash well h =
      let entries = sizes_at history list version in
      let found = from_map (λ (entry : Added). entry.hash) entries hash h in
      let entry = found.0 in (
        entry.size,
        All-contains HasPrefixSize entries entry (entries_are_sized history list version well) found.1,
        subst (λ (bytes : List ℕ). Contains (prefixes_at history list version) (take entry.size bytes)) found.2
            ((members (map prefix_of entries) (prefix_of entry)).1 (in_map prefix_of entries entry found.1)),
      )

  at_version : (history : History) (token_at : Naming) (lists : List Held) (url : Url) (held : Held) (hashes : List (List ℕ)) (hash : FullHash) → IsWellFormed history → Contains lists held
      → IsFullAtVersion history token_at held hashes → Contains (hashes_of url) hash → Contains hashes hash.bytes → HasHit lists url held.name hash
  at_version history token_at lists url held hashes hash well member full of_url h =
      let found = published history held.name full.at.version hash.bytes well (subst (λ all. Contains all hash.bytes) full.are h) in
      let size = found.0 in
      record {
        hit = hit_of held.name hash size;
        member = hit_of_url lists url held hash (hit_of held.name hash size) member of_url
            (hit_with held hash size found.1 (subst (λ set. Contains set (take size hash.bytes)) (sym full.at.set) found.2));
        on_list = refl;
        of_hash = refl;
      }

  pub hit_where_full : (history : History) (token_at : Naming) (lists : List Held) (url : Url) (held : Held) (hashes : List (List ℕ)) (hash : FullHash) → IsWellFormed history → Contains lists held
      → IsFullOf history token_at held hashes → Contains (hashes_of url) hash → Contains hashes hash.bytes → HasHit lists url held.name hash
  hit_where_full history token_at lists url held hashes hash well member (inl (is_empty, none)) of_url h = absurd (nothing hash.bytes (subst (λ all. Contains all hash.bytes) none h))
  hit_where_full history token_at lists url held hashes hash well member (inr full) of_url h = at_version history token_at lists url held hashes hash well member full of_url h

-- ---- from a hit to its list and its hash

pub record HasOrigin (lists : List Held) (url : Url) (hit : Hit) : Type 0 where
  pub held : Held
  pub member : Contains lists held
  pub named : held.name ≡ hit.list
  pub of_url : Contains (hashes_of url) hit.hash
  pub begins : BeginsHash hit

front_begins : (size : ℕ) (bytes : List ℕ) → take (length (take size bytes)) bytes ≡ take size bytes
front_begins zero bytes = refl
front_begins (suc size) [] = refl
front_begins (suc size) (byte ∷ bytes) = ap (λ (front : List ℕ). byte ∷ front) (front_begins size bytes)

pub origin_of : (lists : List Held) (url : Url) (hit : Hit) → Contains (hits_of lists url) hit → HasOrigin lists url hit
origin_of lists url hit h =
    let on = from_flat_map (hits_on (hashes_of url)) lists hit h in
    let of = from_flat_map (hits_with on.0) (hashes_of url) hit on.2 in
    let at = from_map (hit_of on.0.name of.0) (filter (has_front on.0.set of.0) prefix_sizes) hit of.2 in
    subst (HasOrigin lists url) at.2 (record { held = on.0; member = on.1; named = refl; of_url = of.1; begins = front_begins at.0 of.0.bytes })
