-- What is said of hits against the full hashes of their lists.
use Rattle.std.proofs.Common.{◌≡◌, ℕ, inl, inr, List, [], ◌∷◌, length, Contains, refl, sym, ap, ◌∙◌, subst, arith}
use Rattle.sb_model.specs.declared.names.ListName.{ListName}
use Rattle.sb_model.specs.History.{History, full_hashes_at}
use Rattle.sb_model.specs.Naming.{Naming, IsNaming}
use Rattle.hash_prefixes.specs.declared.hashes.FullHash.{FullHash}
use Rattle.url_canon.specs.Url.{Url}
use Rattle.update_client.specs.Held.{Held}
use Rattle.update_client.specs.Replica.{IsEmptyList, IsReplicaOf, AreReplicas}
use Rattle.full_hash_cache.specs.declared.pair.Cached.{Cached}
use Rattle.full_hash_cache.specs.declared.pair.Cached.TheVariants.{Unsafe, Safe, Ask}
use Rattle.url_checker.specs.declared.findings.Hit.{Hit}
use Rattle.url_hashes.specs.Hashes.{hashes_of}
use Rattle.url_checker.specs.Hits.{hits_of}
use Rattle.client_laws.specs.Full.{IsFullOf, IsFullAtVersion, IsListed, HasHit}
use Rattle.client_laws.specs.Rulings.{Rulings, IsRight, AreRight, AreAllSafe, IsNoneOpen, IsCalledUnsafe}
use Rattle.client_laws.proofs.Members.{nothing, cases}
use Rattle.client_laws.proofs.Origins.{origin_of}

-- ---- the full hashes of a list

replica : (history : History) (token_at : Naming) (lists : List Held) (held : Held) → AreReplicas history token_at lists → Contains lists held → IsReplicaOf history token_at held
replica history token_at [] held are member = absurd (nothing held member)
replica history token_at (first ∷ lists) held are member = elim (cases first held lists member) [
  | inl same ↦ subst (IsReplicaOf history token_at) same are.0
  | inr later ↦ replica history token_at lists held are.1 later
]

full_of : (history : History) (token_at : Naming) (held : Held) → IsReplicaOf history token_at held → (hashes : List (List ℕ)) × IsFullOf history token_at held hashes
full_of history token_at held (inl is_empty) = ([], inl (is_empty, refl))
full_of history token_at held (inr at) = (full_hashes_at history held.name at.version, inr (record { at = at; are = refl }))

pub some_full : (history : History) (token_at : Naming) (lists : List Held) (held : Held) → AreReplicas history token_at lists → Contains lists held
    → (hashes : List (List ℕ)) × IsFullOf history token_at held hashes
some_full history token_at lists held are member = full_of history token_at held (replica history token_at lists held are member)

not_both : (history : History) (token_at : Naming) (held : Held) (hashes : List (List ℕ)) → IsNaming history token_at → IsEmptyList held → IsFullAtVersion history token_at held hashes → ⊥
not_both history token_at held hashes naming is_empty full =
    let long = naming.some held.name full.at.version full.at.declared full.at.within in
    let short : length (token_at held.name full.at.version) ≡ 0 = ap (λ (token : List ℕ). length token) (sym full.at.token ∙ is_empty.token) in
    omega (arith, long, short)

pub one_full : (history : History) (token_at : Naming) (held : Held) (some others : List (List ℕ)) → IsNaming history token_at → IsFullOf history token_at held some
    → IsFullOf history token_at held others → some ≡ others
one_full history token_at held some others naming (inl (is_empty, none)) (inl (as_empty, as_none)) = none ∙ sym as_none
one_full history token_at held some others naming (inl (is_empty, none)) (inr full) = absurd (not_both history token_at held others naming is_empty full)
one_full history token_at held some others naming (inr full) (inl (is_empty, none)) = absurd (not_both history token_at held some naming is_empty full)
one_full history token_at held some others naming (inr full) (inr other) =
    full.are
    ∙ ap (full_hashes_at history held.name) (naming.different held.name full.at.version other.at.version full.at.declared full.at.within other.at.within (sym full.at.token ∙ other.at.token))
    ∙ sym other.are

-- ---- what is said

module _ (history : History) (token_at : Naming) (lists : List Held) (url : Url) (said : Rulings) (right : AreRight history token_at lists (hits_of lists url) said) where
  pub called_are_listed : AreReplicas history token_at lists → (name : ListName) → IsCalledUnsafe (hits_of lists url) said name → IsListed history token_at lists url name
  called_are_listed are name called =
      let hit = called.hit in
      let origin = origin_of lists url hit called.member in
      let full = some_full history token_at lists origin.held are origin.member in
      let rules = right hit full.0 called.member (record { held = origin.held; member = origin.member; named = origin.named; full = full.1 }) in
      record {
        hashes = full.0;
        full = record { held = origin.held; member = origin.member; named = origin.named ∙ called.on_list; full = full.1 };
        hash = hit.hash;
        of_url = origin.of_url;
        held = subst (λ (ruling : Cached). IsRight ruling full.0 hit.hash) called.unsafe rules;
      }

  module _ (found : (held : Held) (hashes : List (List ℕ)) (hash : FullHash) → Contains lists held → IsFullOf history token_at held hashes → Contains (hashes_of url) hash → Contains hashes hash.bytes
      → HasHit lists url held.name hash) where
    -- a listed name has a hit, of whose hash the full hashes are
    listed_hit : (name : ListName) → IsListed history token_at lists url name
        → (hit : Hit) × Contains (hits_of lists url) hit × (hit.list ≡ name) × (hashes : List (List ℕ)) × Contains hashes hit.hash.bytes × IsRight (said hit) hashes hit.hash
    listed_hit name listed =
        let full = listed.full in
        let has = found full.held listed.hashes listed.hash full.member full.full listed.of_url listed.held in (
          has.hit,
          has.member,
          has.on_list ∙ full.named,
          listed.hashes,
          subst (λ (hash : FullHash). Contains listed.hashes hash.bytes) (sym has.of_hash) listed.held,
          right has.hit listed.hashes has.member (record { held = full.held; member = full.member; named = sym has.on_list; full = full.full }),
        )

    pub safe_is_unlisted : AreAllSafe (hits_of lists url) said → (name : ListName) → IsListed history token_at lists url name → ⊥
    safe_is_unlisted safe name listed =
        let hit = listed_hit name listed in
        subst (λ (ruling : Cached). IsRight ruling hit.3 hit.0.hash) (safe hit.0 hit.1) hit.5 hit.4

    pub listed_are_called : IsNoneOpen (hits_of lists url) said → (name : ListName) → IsListed history token_at lists url name → IsCalledUnsafe (hits_of lists url) said name
    listed_are_called none name listed =
        let hit = listed_hit name listed in go hit.0 hit.1 hit.2 hit.3 hit.4 (said hit.0) refl hit.5
      where
        go : (hit : Hit) → Contains (hits_of lists url) hit → hit.list ≡ name → (hashes : List (List ℕ)) → Contains hashes hit.hash.bytes → (ruling : Cached) → said hit ≡ ruling
            → IsRight ruling hashes hit.hash → IsCalledUnsafe (hits_of lists url) said name
        go hit member on hashes held Unsafe is rules = record { hit = hit; member = member; on_list = on; unsafe = is }
        go hit member on hashes held Safe is rules = absurd (rules held)
        go hit member on hashes held Ask is rules = absurd (none hit member is)
