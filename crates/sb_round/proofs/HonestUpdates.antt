-- An honest update leaves a replica where it meets one.
use Rattle.std.proofs.Common.{◌≡◌, ℕ, ◌≤◌, inl, inr, List, [], ◌∷◌, ◌++◌, length, Bool, true, false, cond, not, refl, sym, ap, subst, ◌∙◌, Option, Some, None, Result, Ok, Err, arith}
use Rattle.std.specs.Prelude.{◌&&◌, Contains, IsTrue, IsSome, IsOkAnd}
use Rattle.std.specs.Str.{bytes_eq}
use Rattle.std.specs.List.{AllByRecursion}
use Rattle.std.proofs.lemmas.Slice.Eq.{bytes_eq-Decides}
use borrow.Author.Tests.{not-false, both_ways}
use Rattle.sb_model.specs.declared.names.ListName.{ListName}
use Rattle.sb_model.specs.Prefixes.{set_of}
use Rattle.sb_model.specs.History.{History, IsWellFormed, version_count, declares, prefixes_at}
use Rattle.sb_model.specs.Naming.{Naming, IsNaming}
use Rattle.sb_model.specs.Candidate.{Update, without_places, candidate}
use Rattle.rice_coding.specs.declared.fault.RiceFault.{RiceFault}
use Rattle.update_messages.specs.Messages.{UpdatedList}
use Rattle.update_client.specs.declared.fault.UpdateFault.{UpdateFault}
use Rattle.update_client.specs.declared.fault.UpdateFault.TheVariants.{Checksum}
use Rattle.update_client.specs.Held.{Held, digest_of}
use Rattle.update_client.specs.Step.{◌or◌, fault_if, stale_fault, range_fault, set_fault, change_fault, first_fault, proposed, meaning_of, held_after, list_step}
use Rattle.update_client.specs.Replica.{IsAtVersion, IsReplicaOf}
use Rattle.update_client.specs.Genuine.{IsGenuine}
use Rattle.sb_round.specs.Honest.{UsesOneSize, IsGenuineFor, IsHonestFor}
use Rattle.sb_round.specs.Collision.{Proposed, Served, HasNoCollision}
use Rattle.sb_round.proofs.Meanings.{keeps_full, keeps_checksum}
use Rattle.sb_round.proofs.SetMembers.{append-all, all-append_right, set_of-all, all-set_of, kept-all, same_pieces}
use Rattle.sb_round.proofs.ServedPrefixes.{IsServed, served-prefixes_at, some-served}

-- ---- no fault

none_first : (a b : Option UpdateFault) → (a or b) ≡ None → a ≡ None
none_first None b e = refl
none_first (Some fault) b e = e

none_second : (a b : Option UpdateFault) → (a or b) ≡ None → b ≡ None
none_second None b e = e
none_second (Some fault) b e = absurd (cc)

no_test : (test : Bool) (fault : UpdateFault) → fault_if test fault ≡ None → test ≡ false
no_test true fault e = absurd (cc)
no_test false fault e = refl

equal_bytes : (a b : List ℕ) → bytes_eq a b ≡ true → a ≡ b
equal_bytes a b e = (bytes_eq-Decides a b).0 e

digest_given : (checksum : List ℕ) (set : List (List ℕ)) → set_fault checksum set ≡ None → digest_of set ≡ checksum
digest_given checksum set e =
    equal_bytes (digest_of set) checksum (not-false _ (no_test _ (Checksum (digest_of set) checksum) (none_second _ _ e)))

three_tests : (full a b : Bool) → (not full && not a && not b) ≡ false → full ≡ false → a ≡ false → b ≡ true
three_tests true a b e h k = absurd (cc)
three_tests false true b e h k = absurd (cc)
three_tests false false true e h k = refl
three_tests false false false e h k = absurd (cc)

-- A partial update without a fault that names a base state names the held token.
base_held : (held : Held) (update : UpdatedList) → first_fault held update ≡ None → update.full ≡ false → bytes_eq update.base [] ≡ false
    → update.base ≡ held.token
base_held held update e partial some =
    equal_bytes update.base held.token
    (three_tests update.full (bytes_eq update.base []) (bytes_eq update.base held.token) (no_test _ _ (none_first _ _ e)) partial some)

-- what an update without a fault says gives a set without a fault
sound_set : (held : Held) (update : UpdatedList) (meant : Update) → meaning_of update ≡ Ok meant → first_fault held update ≡ None
    → set_fault meant.checksum (candidate meant held.set) ≡ None
sound_set held update meant means e =
    none_second (range_fault (length held.set) meant.removals) (set_fault meant.checksum (candidate meant held.set))
    (subst (λ (m : Result Update RiceFault). change_fault held m ≡ None) means
    (none_second (stale_fault held update) (change_fault held (meaning_of update)) e))

-- ---- candidates

choose_first : {A : Type 0} (b : Bool) (x y z : A) → b ≡ true → cond b x y ≡ cond b x z
choose_first true x y z e = refl
choose_first false x y z e = absurd (cc)

choose_second : {A : Type 0} (b : Bool) (x y : A) → b ≡ false → cond b x y ≡ y
choose_second true x y e = absurd (cc)
choose_second false x y e = refl

-- A full update proposes the same to all.
full_candidate : (update : Update) (set other : List (List ℕ)) → update.full ≡ true → candidate update set ≡ candidate update other
full_candidate update set other full = choose_first update.full (set_of update.additions) _ _ full

partial_candidate : (update : Update) (set : List (List ℕ)) → update.full ≡ false
    → candidate update set ≡ set_of (without_places set update.removals ++ update.additions)
partial_candidate update set partial = choose_second update.full (set_of update.additions) _ partial

module _ (Q : List ℕ → Type 0) (update : Update) (partial : update.full ≡ false) where
  additions-all : (set : List (List ℕ)) → AllByRecursion Q (candidate update set) → AllByRecursion Q update.additions
  additions-all set all =
      all-append_right Q (without_places set update.removals) update.additions
      (all-set_of Q (without_places set update.removals ++ update.additions)
      (subst (AllByRecursion Q) (partial_candidate update set partial) all))

  candidate-all : (set : List (List ℕ)) → AllByRecursion Q set → AllByRecursion Q update.additions → AllByRecursion Q (candidate update set)
  candidate-all set all added =
      subst (AllByRecursion Q) (sym (partial_candidate update set partial))
      (set_of-all Q (without_places set update.removals ++ update.additions)
      (append-all Q (without_places set update.removals) update.additions (kept-all Q _ 0 set all) added))

-- ---- what a replica holds

named_set : (history : History) (token_at : Naming) (held : Held) (list : ListName) → held.name ≡ list → (at : IsAtVersion history token_at held)
    → held.set ≡ prefixes_at history list at.version
named_set history token_at held list e at = at.set ∙ ap (λ name. prefixes_at history name at.version) e

named_token : (history : History) (token_at : Naming) (held : Held) (list : ListName) → held.name ≡ list → (at : IsAtVersion history token_at held)
    → held.token ≡ token_at list at.version
named_token history token_at held list e at = at.token ∙ ap (λ name. token_at name at.version) e

served_replica : (history : History) (token_at : Naming) (held : Held) (list : ListName) → held.name ≡ list → IsReplicaOf history token_at held
    → AllByRecursion (IsServed history list) held.set
served_replica history token_at held list e (inl empty) = subst (AllByRecursion (IsServed history list)) (sym empty.set) tt
served_replica history token_at held list e (inr at) =
    subst (AllByRecursion (IsServed history list)) (sym (named_set history token_at held list e at)) (served-prefixes_at history list at.version at.within)

no_empty_token : (token other : List ℕ) → token ≡ [] → token ≡ other → 1 ≤ length other → ⊥
no_empty_token token [] e h some = omega arith
no_empty_token token (byte ∷ bytes) e h some = absurd (cc)

-- The token of a version is held with the set of that version.
set_of_token : (history : History) (token_at : Naming) → IsNaming history token_at → (held : Held) (list : ListName) (version : ℕ)
    → held.name ≡ list → IsTrue (declares history list) → version ≤ version_count history
    → IsReplicaOf history token_at held → held.token ≡ token_at list version → held.set ≡ prefixes_at history list version
set_of_token history token_at naming held list version e declared within (inl empty) same =
    absurd (no_empty_token held.token (token_at list version) empty.token same (naming.some list version declared within))
set_of_token history token_at naming held list version e declared within (inr at) same =
    let one : at.version ≡ version =
    naming.different list at.version version declared at.within within (sym (named_token history token_at held list e at) ∙ same) in
    named_set history token_at held list e at ∙ ap (prefixes_at history list) one

-- ---- one update

-- what a genuine update says leads to the set of its version
leads : (history : History) (token_at : Naming) (update : UpdatedList) (meant : Update) → meaning_of update ≡ Ok meant
    → (made_from : ℕ) (genuine : IsGenuine history token_at update made_from)
    → candidate meant (prefixes_at history update.name made_from) ≡ prefixes_at history update.name genuine.version
leads history token_at update meant means made_from genuine =
    subst (λ (m : Result Update RiceFault). IsOkAnd m (λ says. candidate says (prefixes_at history update.name made_from) ≡ prefixes_at history update.name genuine.version))
    means genuine.proposes

module _ (history : History) (token_at : Naming) (formed : IsWellFormed history) (naming : IsNaming history token_at)
    (candidates : List (List (List ℕ))) (apart : HasNoCollision history candidates)
    (held : Held) (update : UpdatedList) (meant : Update) (means : meaning_of update ≡ Ok meant) (named : held.name ≡ update.name)
    (replica : IsReplicaOf history token_at held) (there : Contains candidates (candidate meant held.set)) where
  -- Where all prefixes have one size, the digest tells the set.
  by_digest : (made_from : ℕ) (genuine : IsGenuine history token_at update made_from) → update.full ≡ false
      → first_fault held update ≡ None → UsesOneSize history update.name
      → candidate meant held.set ≡ prefixes_at history update.name genuine.version
  by_digest made_from genuine partial sound one =
      let part : meant.full ≡ false = keeps_full update meant means ∙ partial in
      let target = served-prefixes_at history update.name genuine.version genuine.within in
      let from_target : AllByRecursion (IsServed history update.name) (candidate meant (prefixes_at history update.name made_from)) =
      subst (AllByRecursion (IsServed history update.name)) (sym (leads history token_at update meant means made_from genuine)) target in
      let added = additions-all (IsServed history update.name) meant part (prefixes_at history update.name made_from) from_target in
      let reached = candidate-all (IsServed history update.name) meant part held.set (served_replica history token_at held update.name named replica) added in
      let digest : digest_of (candidate meant held.set) ≡ update.checksum =
      digest_given meant.checksum (candidate meant held.set) (sound_set held update meant means sound) ∙ keeps_checksum update meant means in
      same_pieces (IsServed history update.name) (λ p q a b. one a.version b.version p q a.within b.within a.there b.there)
      (some-served history formed update.name) (candidate meant held.set) (prefixes_at history update.name genuine.version) reached target
      (apart (candidate meant held.set) (prefixes_at history update.name genuine.version) (Proposed there)
      (Served update.name genuine.version genuine.declared genuine.within refl) (digest ∙ genuine.checksum))

  -- Where the held token is that of the version which the update was made from, so is the set.
  by_token : (made_from : ℕ) (genuine : IsGenuine history token_at update made_from) → held.token ≡ token_at update.name made_from
      → candidate meant held.set ≡ prefixes_at history update.name genuine.version
  by_token made_from genuine same =
      ap (candidate meant) (set_of_token history token_at naming held update.name made_from named genuine.declared genuine.from_within replica same)
      ∙ leads history token_at update meant means made_from genuine

  partial_reaches : (genuine : IsGenuineFor history token_at held update) → update.full ≡ false → first_fault held update ≡ None
      → candidate meant held.set ≡ prefixes_at history update.name genuine.genuine.version
  partial_reaches genuine partial sound = go (bytes_eq update.base []) refl
    where
      go : (b : Bool) → bytes_eq update.base [] ≡ b → candidate meant held.set ≡ prefixes_at history update.name genuine.genuine.version
      go true e = elim (genuine.suits partial (equal_bytes update.base [] e)) [
        | inl one ↦ by_digest genuine.made_from genuine.genuine partial sound one
        | inr same ↦ by_token genuine.made_from genuine.genuine same
      ]
      go false e =
          by_token genuine.made_from genuine.genuine
          (sym (base_held held update sound partial e)
          ∙ genuine.genuine.base (λ empty. both_ways _ e ((bytes_eq-Decides update.base []).1 empty)))

  -- Without a fault a genuine update leads to the set of the version that it names.
  reaches : (genuine : IsGenuineFor history token_at held update) → first_fault held update ≡ None
      → candidate meant held.set ≡ prefixes_at history update.name genuine.genuine.version
  reaches genuine sound = go update.full refl
    where
      go : (b : Bool) → update.full ≡ b → candidate meant held.set ≡ prefixes_at history update.name genuine.genuine.version
      go true e =
          full_candidate meant held.set (prefixes_at history update.name genuine.made_from) (keeps_full update meant means ∙ e)
          ∙ leads history token_at update meant means genuine.made_from genuine.genuine
      go false e = partial_reaches genuine e sound

  installed : (genuine : IsGenuineFor history token_at held update) → first_fault held update ≡ None
      → IsAtVersion history token_at (held_after held update None)
  installed genuine sound = record {
    version = genuine.genuine.version;
    within = genuine.genuine.within;
    declared = subst (λ (name : ListName). IsTrue (declares history name)) (sym named) genuine.genuine.declared;
    token = genuine.genuine.state ∙ ap (λ (name : ListName). token_at name genuine.genuine.version) (sym named);
    set = ap (λ (m : Result Update RiceFault). proposed m held.set) means ∙ reaches genuine sound
        ∙ ap (λ (name : ListName). prefixes_at history name genuine.genuine.version) (sym named);
  }

-- a refusal leaves a replica
refused : (history : History) (token_at : Naming) (held : Held) (update : UpdatedList) (fault : UpdateFault) → IsReplicaOf history token_at held
    → IsReplicaOf history token_at (held_after held update (Some fault))
refused history token_at held update fault (inl empty) = inl (record { token = empty.token; set = empty.set })
refused history token_at held update fault (inr at) =
    inr (record { version = at.version; within = at.within; declared = at.declared; token = at.token; set = at.set })

not_some : (o : Option UpdateFault) → o ≡ None → IsSome o → ⊥
not_some None e some = cc
not_some (Some fault) e some = cc

-- an update that says nothing has a fault
no_meaning : (held : Held) (update : UpdatedList) (fault : RiceFault) → meaning_of update ≡ Err fault → first_fault held update ≡ None → ⊥
no_meaning held update fault means e =
    let none : change_fault held (Err fault) ≡ None =
    subst (λ (m : Result Update RiceFault). change_fault held m ≡ None) means
    (none_second (stale_fault held update) (change_fault held (meaning_of update)) e) in
    cc

-- what the candidates of the run have of an update
abbrev pub IsProposed : List (List (List ℕ)) → Held → Result Update RiceFault → Type 0
IsProposed candidates held (Ok meant) = Contains candidates (candidate meant held.set)
IsProposed candidates held (Err fault) = Unit {0}

module _ (history : History) (token_at : Naming) (formed : IsWellFormed history) (naming : IsNaming history token_at)
    (candidates : List (List (List ℕ))) (apart : HasNoCollision history candidates)
    (held : Held) (update : UpdatedList) (named : held.name ≡ update.name)
    (replica : IsReplicaOf history token_at held) (there : IsProposed candidates held (meaning_of update)) where
  sound_stays : (genuine : IsGenuineFor history token_at held update) → first_fault held update ≡ None
      → (m : Result Update RiceFault) → meaning_of update ≡ m → IsReplicaOf history token_at (held_after held update None)
  sound_stays genuine sound (Err fault) means = absurd (no_meaning held update fault means sound)
  sound_stays genuine sound (Ok meant) means =
      let contained : Contains candidates (candidate meant held.set) = subst (IsProposed candidates held) means there in
      inr (installed history token_at formed naming candidates apart held update meant means named replica contained genuine sound)

  -- An honest update leaves a replica.
  pub step_stays : IsHonestFor history token_at held update → IsReplicaOf history token_at (list_step held update)
  step_stays honest = go (first_fault held update) refl honest
    where
      go : (o : Option UpdateFault) → first_fault held update ≡ o → IsHonestFor history token_at held update → IsReplicaOf history token_at (held_after held update o)
      go (Some fault) e honest = refused history token_at held update fault replica
      go None e (inl some) = absurd (not_some (first_fault held update) e some)
      go None e (inr genuine) = sound_stays genuine e (meaning_of update) refl
