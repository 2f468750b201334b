-- The example meets the premises of the law of verdicts.
use Rattle.std.proofs.Common.{◌≡◌, ℕ, zero, suc, ◌≤◌, inl, inr, List, [], ◌∷◌, length, Contains, Result, Ok, Err, refl, sym, ap, ◌∙◌, subst, arith}
use Rattle.std.specs.Prelude.{All, IsTrue}
use Rattle.std.proofs.lemmas.List.Elements.{All-nil, All-cons}
use Rattle.sb_model.specs.declared.history.Added.{Added}
use Rattle.sb_model.specs.declared.history.Change.{Change}
use Rattle.sb_model.specs.declared.names.ListName.{ListName}
use Rattle.sb_model.specs.History.{History, IsPrefixSize, IsWellFormed, declares, full_hashes_at, up_to_version, version_count}
use Rattle.sb_model.specs.Naming.{IsNaming}
use Rattle.hash_messages.specs.Messages.{AskedHashes}
use Rattle.hash_messages.specs.Matches.{asks_list, find_answer}
use Rattle.hash_messages.specs.declared.response.FindResponse.{FindResponse}
use Rattle.update_client.specs.Held.{Held}
use Rattle.update_client.specs.Replica.{IsAtVersion}
use Rattle.verdict_report.specs.declared.verdicts.Cause.{Cause}
use Rattle.wait_rules.specs.declared.waits.WaitState.{WaitState}
use Rattle.full_hash_cache.specs.Cache.{pair_of}
use Rattle.full_hash_cache.specs.Law.{Step}
use Rattle.full_hash_cache.specs.Law.Step.{Takes, Asks}
use Rattle.url_checker.specs.declared.findings.Hit.{Hit}
use Rattle.url_checker.specs.Resolving.{Resolution}
use Rattle.client_laws.specs.Full.{IsFullOf, IsFullIn}
use Rattle.client_laws.specs.Rulings.{IsNoneOpen}
use Rattle.client_laws.specs.Faithful.{AgreeUnder, IsFaithfulFor, IsFaithful, TakenAreFaithful}
use Rattle.client_laws.specs.Resolved.{IsDecidedFaithfully, said_in}
use Rattle.client_laws.specs.Example.{MeetsPremises, example_url, expression_hash, other_hash, example_name, url_first_change, url_second_change, example_url_history, example_tokens, held_at, example_hit, example_asked, answer_at, steps_at}
use Rattle.client_laws.proofs.Members.{cases, nothing}
use Rattle.client_laws.proofs.ExampleHits.{one_hit}

-- ---- the server

size_four : IsPrefixSize 4
size_four = record { low = omega arith; high = omega arith }

all_one : {X : Type 0} (P : X → Type 0) (x : X) → P x → All P (x ∷ [])
all_one P x is = All-cons P x [] is (All-nil P)

abbrev IsAdd : Added → Type 0
IsAdd added = (length added.hash ≡ 32) × IsPrefixSize added.size

abbrev IsHash : List ℕ → Type 0
IsHash hash = length hash ≡ 32

formed : IsWellFormed example_url_history
formed = record {
  declared = all_one (λ (list : ListName × ℕ). IsPrefixSize list.1) (example_name, 4) size_four;
  adds = All-cons (λ (change : Change). All IsAdd change.adds) url_first_change (url_second_change ∷ [])
      (all_one IsAdd (record { hash = expression_hash; size = 4 }) (refl, size_four))
      (all_one (λ (change : Change). All IsAdd change.adds) url_second_change (all_one IsAdd (record { hash = other_hash; size = 4 }) (refl, size_four)));
  removes = All-cons (λ (change : Change). All IsHash change.removes) url_first_change (url_second_change ∷ [])
      (All-nil IsHash) (all_one (λ (change : Change). All IsHash change.removes) url_second_change (all_one IsHash expression_hash refl));
}

same_head : (v w : ℕ) → ◌≡◌ {A = List ℕ} (v ∷ []) (w ∷ []) → v ≡ w
same_head v w e = cc

pub naming : IsNaming example_url_history example_tokens
naming = record {
  some = λ list version declared within. omega arith;
  short = λ list version declared within. omega arith;
  different = λ list v w declared v_within w_within same. same_head v w same;
}

-- ---- the answer

-- what is known of a version of the server
pub record IsExampleVersion (version : ℕ) : Type 0 where
  pub at : IsAtVersion example_url_history example_tokens (held_at version)
  pub same : full_hashes_at example_url_history example_name at.version ≡ full_hashes_at (up_to_version version example_url_history) example_name (version_count (up_to_version version example_url_history))

pub either_version : (version : ℕ) → 1 ≤ version → version ≤ 2 → IsExampleVersion version
either_version zero low high = absurd (omega arith)
either_version (suc zero) low high = record { at = record { version = 1; within = omega arith; declared = refl; token = refl; set = refl }; same = refl }
either_version (suc (suc zero)) low high = record { at = record { version = 2; within = omega arith; declared = refl; token = refl; set = refl }; same = refl }
either_version (suc (suc (suc more))) low high = absurd (omega arith)

module _ (one : (held : Held) (some others : List (List ℕ)) → IsNaming example_url_history example_tokens → IsFullOf example_url_history example_tokens held some → IsFullOf example_url_history example_tokens held others → some ≡ others)
    (served : (history : History) (wait cache negative : ℕ) (asked : AskedHashes) (list : ListName) (prefix : List ℕ) (hashes : List (List ℕ)) → IsTrue (declares history list) → IsTrue (asks_list asked list)
    → Contains asked.prefixes prefix → AgreeUnder (pair_of list prefix) hashes (full_hashes_at history list (version_count history)) → IsFaithfulFor hashes (pair_of list prefix) (find_answer history wait cache negative asked))
    (version : ℕ) (is : IsExampleVersion version) where
  abbrev Lists : List Held
  Lists = held_at version ∷ []

  abbrev newest : List (List ℕ)
  newest = full_hashes_at (up_to_version version example_url_history) example_name (version_count (up_to_version version example_url_history))

  same_held : (held : Held) → Contains Lists held → held_at version ≡ held
  same_held held member = elim (cases (held_at version) held [] member) [ inl same ↦ same | inr later ↦ absurd (nothing held later) ]

  full_is : (name : ListName) (hashes : List (List ℕ)) → IsFullIn example_url_history example_tokens Lists name hashes → hashes ≡ newest
  full_is name hashes full =
      one (held_at version) hashes (full_hashes_at example_url_history example_name is.at.version) naming
      (subst (λ (held : Held). IsFullOf example_url_history example_tokens held hashes) (sym (same_held full.held full.member)) full.full) (inr (record { at = is.at; are = refl }))
      ∙ is.same

  named : (name : ListName) (hashes : List (List ℕ)) → IsFullIn example_url_history example_tokens Lists name hashes → example_name ≡ name
  named name hashes full = ap (λ (held : Held). held.name) (same_held full.held full.member) ∙ full.named

  pub answer_is_faithful : IsFaithful example_url_history example_tokens Lists example_asked (answer_at version)
  answer_is_faithful name hashes prefix full asks prefix_asked =
      subst (λ (n : ListName). IsTrue (asks_list example_asked n) → IsFaithfulFor hashes (pair_of n prefix) (answer_at version)) (named name hashes full)
      (λ asks. served (up_to_version version example_url_history) 0 300 300 example_asked example_name prefix hashes refl asks prefix_asked
      (λ hash begins.
      let same = full_is name hashes full in
      (λ held. subst (λ all. Contains all hash.bytes) same held, λ held. subst (λ all. Contains all hash.bytes) (sym same) held)))
      asks

  abbrev AnswersFaithfully : Step → Type 0
  AnswersFaithfully (Takes at names asked response) = IsFaithful example_url_history example_tokens Lists asked response
  AnswersFaithfully (Asks now pair hash) = Unit {0}

  pub taken_is_faithful : TakenAreFaithful example_url_history example_tokens Lists (steps_at version)
  taken_is_faithful at names asked response member = go (Takes at names asked response) member
    where
      go : (step : Step) → Contains (steps_at version) step → AnswersFaithfully step
      go step member = elim (cases _ step [] member) [
        | inl same ↦ subst AnswersFaithfully same answer_is_faithful
        | inr later ↦ absurd (nothing step later)
      ]

  -- the premises, where they hold of the one hit
  pub premises : (steps : List Step) (waits : WaitState) (r : Resolution) → IsDecidedFaithfully example_url_history example_tokens Lists steps waits (example_hit ∷ []) r
      → IsNoneOpen (example_hit ∷ []) (said_in steps waits r) → MeetsPremises example_url_history example_tokens Lists example_url steps waits r
  premises steps waits r decided none = record {
    formed = formed;
    replicas = (inr is.at, tt);
    decided = subst (λ (hits : List Hit). IsDecidedFaithfully example_url_history example_tokens Lists steps waits hits r) (sym (one_hit version)) decided;
    none_open = subst (λ (hits : List Hit). IsNoneOpen hits (said_in steps waits r)) (sym (one_hit version)) none;
  }

pub same_message : (a b : FindResponse) → ◌≡◌ {A = Result FindResponse Cause} (Ok a) (Ok b) → a ≡ b
same_message a b e = cc

pub no_message : (cause : Cause) (b : FindResponse) → ◌≡◌ {A = Result FindResponse Cause} (Err cause) (Ok b) → ⊥
no_message cause b e = cc
