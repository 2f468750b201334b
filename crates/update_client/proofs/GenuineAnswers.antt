-- What a server answers is genuine.
use Rattle.std.proofs.Common.{◌≡◌, ℕ, ◌+◌, ◌≤◌, List, map, refl, sym, ap, subst, arith, true, Option, Some, None}
use Rattle.std.specs.Prelude.{IsTrue, IsOkAnd}
use Rattle.std.specs.Str.{bytes_eq}
use Rattle.std.specs.List.{range_with_len}
use Rattle.std.proofs.lemmas.List.{length-take-le}
use Rattle.std.proofs.lemmas.List.Elements.{All-map, All-weaker, filter_passes}
use Rattle.std.proofs.lemmas.Slice.Eq.{bytes_eq-Decides}
use Rattle.sb_model.specs.declared.names.ListName.{ListName}
use Rattle.sb_model.specs.History.{History, IsWellFormed, version_count, up_to_version, declares, sizes_at, prefix_of, prefixes_at}
use Rattle.sb_model.specs.Naming.{Naming}
use Rattle.sb_model.specs.Candidate.{candidate}
use Rattle.sb_model.specs.Target.{target_version}
use Rattle.update_messages.specs.Messages.{AskedList}
use Rattle.update_messages.specs.Answer.{declared_items, version_named, declared_size, update_to, update_for}
use Rattle.update_client.specs.Held.{digest_of}
use Rattle.update_client.specs.Step.{meaning_of}
use Rattle.update_client.specs.Genuine.{IsWithinLimitsAlways, HasByteHashes, IsAnswerItem, AnswersAreGenuine}
use Rattle.update_client.proofs.Membership.{found_by, from_range}
use Rattle.update_client.proofs.HistoryPrefixes.{prefixes-prefixes_at, prefixes_at-up_to}
use Rattle.update_client.proofs.BetweenSets.{SetLaws, IsSent, leads_on, whole_leads, difference_leads}

-- what the crates below say of sets, and of targets
pub record LowerLaws : Type 0 where
  pub sets : SetLaws
  pub last : (history : History) (list : ListName) (held : Option ℕ) (max_update max_database : ℕ)
      → target_version history list held max_update max_database ≤ version_count history

module _ (laws : LowerLaws) where
  -- a version that the history names, of a state that is its token
  pub record IsNamed (token_at : Naming) (count : ℕ) (asked : AskedList) (held : ℕ) : Type 0 where
    pub within : held ≤ count
    pub token : token_at asked.name held ≡ asked.state

  named : (history : History) (token_at : Naming) (asked : AskedList) (held : ℕ) → version_named history token_at asked.name asked.state ≡ Some held
      → IsNamed token_at (version_count history) asked held
  named history token_at asked held is =
      let found = found_by (λ version. bytes_eq (token_at asked.name version) asked.state) (range_with_len 0 (version_count history + 1)) held is in
      let at = from_range held 0 (version_count history + 1) found.0 in
      record {
        within = omega (arith, at.1);
        token = (bytes_eq-Decides (token_at asked.name held) asked.state).0 found.1;
      }

  module _ (history : History) (token_at : Naming) (formed : IsWellFormed history) (limits : IsWithinLimitsAlways history) (hashes : HasByteHashes history)
      (count : ℕ) (below : count ≤ version_count history) where
    abbrev known : History
    known = up_to_version count history

    known_count : version_count known ≡ count
    known_count = length-take-le count history.changes below

    same_prefixes : (list : ListName) (version : ℕ) → version ≤ count → prefixes_at known list version ≡ prefixes_at history list version
    same_prefixes list version within = prefixes_at-up_to history count list version within

    sent_at : (list : ListName) (version : ℕ) → IsTrue (declares history list) → version ≤ count → IsSent (prefixes_at known list version)
    sent_at list version declared within = subst IsSent (sym (same_prefixes list version within)) (record {
      rising = laws.sets.rising (map prefix_of (sizes_at history list version));
      prefixes = prefixes-prefixes_at laws.sets.members history formed hashes list version;
      few = limits.few list version declared (omega (arith, within, below));
    })

    full_proposes : (asked : AskedList) (version : ℕ) → IsTrue (declares history asked.name) → version ≤ count → (set : List (List ℕ))
        → IsOkAnd (meaning_of (update_to known token_at asked None version)) (λ meant. candidate meant set ≡ prefixes_at known asked.name version)
    full_proposes asked version declared within set =
        let newer : List (List ℕ) = prefixes_at known asked.name version in
        leads_on (update_to known token_at asked None version) set newer
        (whole_leads laws.sets asked newer (token_at asked.name version) (sent_at asked.name version declared within) set)

    partial_proposes : (asked : AskedList) (held version : ℕ) → IsTrue (declares history asked.name) → held ≤ count → version ≤ count
        → IsOkAnd (meaning_of (update_to known token_at asked (Some held) version)) (λ meant. candidate meant (prefixes_at known asked.name held) ≡ prefixes_at known asked.name version)
    partial_proposes asked held version declared before within =
        let old : List (List ℕ) = prefixes_at known asked.name held in
        let newer : List (List ℕ) = prefixes_at known asked.name version in
        leads_on (update_to known token_at asked (Some held) version) old newer
        (difference_leads laws.sets asked (declared_size known asked.name) old newer (token_at asked.name version) (sent_at asked.name held declared before) (sent_at asked.name version declared within))

    item : (asked : AskedList) → IsTrue (declares history asked.name) → (held : Option ℕ) → version_named known token_at asked.name asked.state ≡ held
        → (version : ℕ) → version ≤ count → IsAnswerItem history token_at (update_to known token_at asked held version)
    item asked declared None is version within = record {
      made_from = 0;
      genuine = record {
        declared = declared;
        from_within = omega arith;
        version = version;
        within = omega (arith, within, below);
        state = refl;
        checksum = ap digest_of (same_prefixes asked.name version within);
        proposes = subst (λ (s : List (List ℕ)). IsOkAnd (meaning_of (update_to known token_at asked None version)) (λ meant. candidate meant (prefixes_at history asked.name 0) ≡ s))
            (same_prefixes asked.name version within) (full_proposes asked version declared within (prefixes_at history asked.name 0));
        base = λ some. absurd (some refl);
      };
      names_base = λ partial. absurd (cc);
    }
    item asked declared (Some held) is version within =
        let own : IsNamed token_at (version_count known) asked held = named known token_at asked held is in
        let held_within : held ≤ count = omega (arith, own.within, known_count) in
        record {
          made_from = held;
          genuine = record {
            declared = declared;
            from_within = omega (arith, held_within, below);
            version = version;
            within = omega (arith, within, below);
            state = refl;
            checksum = ap digest_of (same_prefixes asked.name version within);
            proposes = subst (λ (s : List (List ℕ)). IsOkAnd (meaning_of (update_to known token_at asked (Some held) version)) (λ meant. candidate meant s ≡ prefixes_at history asked.name version))
                (same_prefixes asked.name held held_within)
                (subst (λ (s : List (List ℕ)). IsOkAnd (meaning_of (update_to known token_at asked (Some held) version)) (λ meant. candidate meant (prefixes_at known asked.name held) ≡ s))
                (same_prefixes asked.name version within)
                (partial_proposes asked held version declared held_within within));
            base = λ some. sym own.token;
          };
          names_base = λ partial. sym own.token;
        }

    pub answer_item : (asked : AskedList) → IsTrue (declares history asked.name) → IsAnswerItem history token_at (update_for known token_at asked)
    answer_item asked declared =
        item asked declared (version_named known token_at asked.name asked.state) refl
        (target_version known asked.name (version_named known token_at asked.name asked.state) asked.max_update asked.max_database)
        (omega (arith, laws.last known asked.name (version_named known token_at asked.name asked.state) asked.max_update asked.max_database, known_count))

  pub answers : AnswersAreGenuine
  answers history token_at count wait request formed naming limits hashes below =
      let known : List AskedList = declared_items (up_to_version count history) request.items in
      All-map (IsAnswerItem history token_at) (update_for (up_to_version count history) token_at) known
      (All-weaker (λ (asked : AskedList). declares history asked.name ≡ true) (λ (asked : AskedList). IsAnswerItem history token_at (update_for (up_to_version count history) token_at asked))
      (λ asked h. answer_item history token_at formed limits hashes count below asked h) known
      (filter_passes (λ (asked : AskedList). declares history asked.name) request.items))
