-- The example meets the premises of the headline, and its last body is installed.
use Rattle.std.proofs.Common.{◌≡◌, ℕ, zero, suc, ◌≤◌, inl, inr, List, [], ◌∷◌, ◌++◌, length, Bool, true, false, refl, sym, ap, subst, ◌∙◌, arith, codes, Some, None, Ok}
use Rattle.std.specs.Prelude.{◌↔◌, ◌==◌, ◌||◌, Contains, IsTrue, IsSome, IsOkAnd, All, not, if◌then◌else◌, Option, Result}
use Rattle.std.specs.Str.{bytes_eq}
use Rattle.std.proofs.lemmas.List.Elements.{All-nil, All-cons}
use Rattle.sb_model.specs.declared.history.Added.{Added}
use Rattle.sb_model.specs.declared.history.Change.{Change}
use Rattle.sb_model.specs.declared.names.ListName.{ListName}
use Rattle.sb_model.specs.Names.{same_name}
use Rattle.sb_model.specs.Prefixes.{concatenation}
use Rattle.sb_model.specs.History.{IsPrefixSize, IsWellFormed, declares, prefixes_at}
use Rattle.sb_model.specs.Naming.{IsNaming}
use Rattle.sb_model.specs.Candidate.{Update, candidate}
use Rattle.rice_coding.specs.Bits.{byte_bits}
use Rattle.rice_coding.specs.Reading.{delta_at, reading}
use Rattle.rice_coding.specs.Decoding.{decoding_of}
use Rattle.rice_coding.specs.declared.fault.RiceFault.{RiceFault}
use Rattle.update_messages.specs.Messages.{UpdatedList}
use Rattle.update_client.specs.declared.fault.UpdateFault.{UpdateFault}
use Rattle.update_client.specs.declared.fault.UpdateFault.TheVariants.{Checksum, StaleBase}
use Rattle.update_client.specs.Held.{Held, nothing_held, digest_of}
use Rattle.update_client.specs.Step.{meaning_of, proposed, fault_if, change_fault, first_fault, held_after, after_update}
use Rattle.update_client.specs.Genuine.{IsGenuine}
use Rattle.sb_round.specs.Run.{lists_after}
use Rattle.sb_round.specs.Honest.{UsesOneSize, IsHonestFor, IsHonestUpdate, IsHonest}
use Rattle.sb_round.specs.Collision.{proposed_to, candidates_of, HasNoCollision, IsSetOfRun, Proposed, Served}
use Rattle.update_replay.specs.Readings.{bodies_of}
use Rattle.update_replay.specs.Example.{example_name, example_hash, example_entry, first_change, second_change, third_change, example_history, example_tokens, first_set, second_set, third_set, first_digest, second_digest, third_digest_rest, third_digest, example_whole_update, based_update, later_update, example_readings, example_held}
use Rattle.update_replay.proofs.ExampleDigests.{digest_of_first, digest_of_second, digest_of_third, digest_of_nothing}

-- ---- the server

size_four : IsPrefixSize 4
size_four = record { low = omega arith; high = omega arith }

-- what holds of the items of short lists
all_one : {X : Type 0} (P : X → Type 0) (x : X) → P x → All P (x ∷ [])
all_one P x here = All-cons P x [] here (All-nil P)

all_two : {X : Type 0} (P : X → Type 0) (x y : X) → P x → P y → All P (x ∷ y ∷ [])
all_two P x y here next = All-cons P x (y ∷ []) here (all_one P y next)

all_three : {X : Type 0} (P : X → Type 0) (x y z : X) → P x → P y → P z → All P (x ∷ y ∷ z ∷ [])
all_three P x y z here next last = All-cons P x (y ∷ z ∷ []) here (all_two P y z next last)

abbrev IsAdd : Added → Type 0
IsAdd added = (length added.hash ≡ 32) × IsPrefixSize added.size

abbrev IsHash : List ℕ → Type 0
IsHash hash = length hash ≡ 32

pub example_formed : IsWellFormed example_history
example_formed = record {
  declared = all_one (λ (list : ListName × ℕ). IsPrefixSize list.1) (example_name, 4) size_four;
  adds = all_three (λ (change : Change). All IsAdd change.adds) first_change second_change third_change
      (all_two IsAdd (example_entry (codes "1234")) (example_entry (codes "5678")) (refl, size_four) (refl, size_four)) (All-nil IsAdd) (all_one IsAdd (example_entry (codes "9abc")) (refl, size_four));
  removes = all_three (λ (change : Change). All IsHash change.removes) first_change second_change third_change
      (All-nil IsHash) (all_one IsHash (example_hash (codes "5678")) refl) (All-nil IsHash);
}

same_head : (v w : ℕ) → ◌≡◌ {A = List ℕ} (v ∷ []) (w ∷ []) → v ≡ w
same_head v w e = cc

pub example_naming : IsNaming example_history example_tokens
example_naming = record {
  some = λ list version declared within. omega arith;
  short = λ list version declared within. omega arith;
  different = λ list v w declared v_within w_within same. same_head v w same;
}

-- ---- the lists after each body

abbrev start : Held
start = nothing_held example_name

abbrev first_held : Held
first_held = record { name = example_name; token = 1 ∷ []; set = first_set; resync = false }

abbrev second_held : Held
second_held = record { name = example_name; token = 2 ∷ []; set = second_set; resync = false }

-- the same after a refusal
abbrev marked_held : Held
marked_held = record { name = example_name; token = 2 ∷ []; set = second_set; resync = true }

abbrev wrong_digest : List ℕ
wrong_digest = 0x07 ∷ third_digest_rest

-- the fault of the sets' last test: of a digest that is not the given one
abbrev fault_by : List ℕ → List ℕ → Option UpdateFault
fault_by given digest = fault_if (not (bytes_eq digest given)) (Checksum digest given)

-- what the Rice coded update says
abbrev whole_meaning : Update
whole_meaning = record { list = example_name; full = true; base = []; additions = first_set; removals = []; new_state = 1 ∷ []; checksum = first_digest }

whole_means : meaning_of example_whole_update ≡ Ok whole_meaning
unfolding decoding_of reading delta_at byte_bits
whole_means = refl

whole_fault : first_fault start example_whole_update ≡ None
whole_fault = ap (change_fault start) whole_means ∙ ap (fault_by first_digest) digest_of_first

based_fault : first_fault first_held based_update ≡ None
based_fault = ap (fault_by second_digest) digest_of_second

stale_fault : first_fault second_held based_update ≡ Some (StaleBase (2 ∷ []) (1 ∷ []))
stale_fault = refl

wrong_fault : first_fault marked_held (later_update wrong_digest) ≡ Some (Checksum third_digest wrong_digest)
wrong_fault = ap (fault_by wrong_digest) digest_of_third

later_fault : first_fault marked_held (later_update third_digest) ≡ None
later_fault = ap (fault_by third_digest) digest_of_third

abbrev installed : Result Update RiceFault → Held
installed meaning = record { name = example_name; token = 1 ∷ []; set = proposed meaning []; resync = false }

after_whole : after_update (start ∷ []) example_whole_update ≡ first_held ∷ []
after_whole = ap (λ (fault : Option UpdateFault). held_after start example_whole_update fault ∷ []) whole_fault ∙ ap (λ (meaning : Result Update RiceFault). installed meaning ∷ []) whole_means

after_based : after_update (first_held ∷ []) based_update ≡ second_held ∷ []
after_based = ap (λ (fault : Option UpdateFault). held_after first_held based_update fault ∷ []) based_fault

after_stale : after_update (second_held ∷ []) based_update ≡ marked_held ∷ []
after_stale = ap (λ (fault : Option UpdateFault). held_after second_held based_update fault ∷ []) stale_fault

after_wrong : after_update (marked_held ∷ []) (later_update wrong_digest) ≡ marked_held ∷ []
after_wrong = ap (λ (fault : Option UpdateFault). held_after marked_held (later_update wrong_digest) fault ∷ []) wrong_fault

after_later : after_update (marked_held ∷ []) (later_update third_digest) ≡ example_held ∷ []
after_later = ap (λ (fault : Option UpdateFault). held_after marked_held (later_update third_digest) fault ∷ []) later_fault

-- the bodies from the second on, and so forth
abbrev bodies_2 : List (List UpdatedList)
bodies_2 = (based_update ∷ []) ∷ (based_update ∷ []) ∷ (later_update wrong_digest ∷ []) ∷ [] ∷ (later_update third_digest ∷ []) ∷ []

abbrev bodies_3 : List (List UpdatedList)
bodies_3 = (based_update ∷ []) ∷ (later_update wrong_digest ∷ []) ∷ [] ∷ (later_update third_digest ∷ []) ∷ []

abbrev bodies_4 : List (List UpdatedList)
bodies_4 = (later_update wrong_digest ∷ []) ∷ [] ∷ (later_update third_digest ∷ []) ∷ []

abbrev bodies_5 : List (List UpdatedList)
bodies_5 = [] ∷ (later_update third_digest ∷ []) ∷ []

-- what holds of the lists after a body goes on from the lists that it leaves
pub example_installed : lists_after (start ∷ []) (bodies_of example_readings) ≡ example_held ∷ []
example_installed =
    ap (λ (lists : List Held). lists_after lists bodies_2) after_whole
    ∙ ap (λ (lists : List Held). lists_after lists bodies_3) after_based
    ∙ ap (λ (lists : List Held). lists_after lists bodies_4) after_stale
    ∙ ap (λ (lists : List Held). lists_after lists bodies_5) after_wrong
    ∙ after_later

-- ---- each body is honest

whole_genuine : IsGenuine example_history example_tokens example_whole_update 0
whole_genuine = record {
  declared = refl;
  from_within = omega arith;
  version = 1;
  within = omega arith;
  state = refl;
  checksum = sym digest_of_first;
  proposes = subst (λ (meaning : Result Update RiceFault). IsOkAnd meaning (λ meant. candidate meant [] ≡ first_set)) (sym whole_means) refl;
  base = λ named. absurd (named refl);
}

based_genuine : IsGenuine example_history example_tokens based_update 1
based_genuine = record {
  declared = refl;
  from_within = omega arith;
  version = 2;
  within = omega arith;
  state = refl;
  checksum = sym digest_of_second;
  proposes = refl;
  base = λ named. refl;
}

later_genuine : IsGenuine example_history example_tokens (later_update third_digest) 2
later_genuine = record {
  declared = refl;
  from_within = omega arith;
  version = 3;
  within = omega arith;
  state = refl;
  checksum = sym digest_of_third;
  proposes = refl;
  base = λ named. absurd (named refl);
}

-- each prefix has four bytes
four_in_two : (p q x : List ℕ) → length p ≡ 4 → length q ≡ 4 → Contains (p ∷ q ∷ []) x → length x ≡ 4
four_in_two p q x h k (zero, below, at) = ap length (sym at) ∙ h
four_in_two p q x h k (suc zero, below, at) = ap length (sym at) ∙ k
four_in_two p q x h k (suc (suc n), below, at) = absurd (omega arith)

four_in_one : (p x : List ℕ) → length p ≡ 4 → Contains (p ∷ []) x → length x ≡ 4
four_in_one p x h (zero, below, at) = ap length (sym at) ∙ h
four_in_one p x h (suc n, below, at) = absurd (omega arith)

four_at : (version : ℕ) (x : List ℕ) → version ≤ 3 → Contains (prefixes_at example_history example_name version) x → length x ≡ 4
four_at zero x within (n, below, at) = absurd (omega arith)
four_at (suc zero) x within there = four_in_two (codes "1234") (codes "5678") x refl refl there
four_at (suc (suc zero)) x within there = four_in_one (codes "1234") x refl there
four_at (suc (suc (suc zero))) x within there = four_in_two (codes "1234") (codes "9abc") x refl refl there
four_at (suc (suc (suc (suc n)))) x within there = absurd (omega arith)

one_size : UsesOneSize example_history example_name
one_size v w p q v_within w_within in_v in_w = four_at v p v_within in_v ∙ sym (four_at w q w_within in_w)

honest_here : (held : Held) (update : UpdatedList) → IsHonestFor example_history example_tokens held update → IsHonestUpdate example_history example_tokens (held ∷ []) update
honest_here held update here = all_one (λ (held : Held). IsTrue (same_name held.name update.name) → IsHonestFor example_history example_tokens held update) held (λ same. here)

-- a damaged update has a fault
damaged : (held : Held) (update : UpdatedList) (fault : UpdateFault) → first_fault held update ≡ Some fault → IsHonestFor example_history example_tokens held update
damaged held update fault e = inl (subst (λ (found : Option UpdateFault). IsSome found) (sym e) refl)

whole_honest : IsHonestUpdate example_history example_tokens (start ∷ []) example_whole_update
whole_honest = honest_here start example_whole_update (inr (record { made_from = 0; genuine = whole_genuine; suits = λ partial. absurd (cc) }))

based_honest : IsHonestUpdate example_history example_tokens (first_held ∷ []) based_update
based_honest = honest_here first_held based_update (inr (record { made_from = 1; genuine = based_genuine; suits = λ partial empty. inr refl }))

stale_honest : IsHonestUpdate example_history example_tokens (second_held ∷ []) based_update
stale_honest = honest_here second_held based_update (damaged second_held based_update _ stale_fault)

wrong_honest : IsHonestUpdate example_history example_tokens (marked_held ∷ []) (later_update wrong_digest)
wrong_honest = honest_here marked_held (later_update wrong_digest) (damaged marked_held (later_update wrong_digest) _ wrong_fault)

later_honest : IsHonestUpdate example_history example_tokens (marked_held ∷ []) (later_update third_digest)
later_honest = honest_here marked_held (later_update third_digest) (inr (record { made_from = 2; genuine = later_genuine; suits = λ partial empty. inl one_size }))

abbrev HonestFrom : List (List UpdatedList) → List Held → Type 0
HonestFrom bodies lists = IsHonest example_history example_tokens lists bodies

pub example_honest : IsHonest example_history example_tokens (start ∷ []) (bodies_of example_readings)
example_honest = (
  (whole_honest, tt),
  subst (HonestFrom bodies_2) (sym after_whole) (
    (based_honest, tt),
    subst (HonestFrom bodies_3) (sym after_based) (
      (stale_honest, tt),
      subst (HonestFrom bodies_4) (sym after_stale) (
        (wrong_honest, tt),
        subst (HonestFrom bodies_5) (sym after_wrong)
            (tt, ((later_honest, tt), tt)),
      ),
    ),
  ),
)

-- ---- no two sets of the run and the server have one digest

candidates_are : candidates_of (start ∷ []) (bodies_of example_readings) ≡ first_set ∷ second_set ∷ second_set ∷ third_set ∷ third_set ∷ []
candidates_are =
    ap (λ (meaning : Result Update RiceFault). proposed_to (start ∷ []) meaning ++ [] ++ candidates_of (after_update (start ∷ []) example_whole_update) bodies_2) whole_means
    ∙ ap (λ (lists : List Held). first_set ∷ candidates_of lists bodies_2) after_whole
    ∙ ap (λ (lists : List Held). first_set ∷ second_set ∷ candidates_of lists bodies_3) after_based
    ∙ ap (λ (lists : List Held). first_set ∷ second_set ∷ second_set ∷ candidates_of lists bodies_4) after_stale
    ∙ ap (λ (lists : List Held). first_set ∷ second_set ∷ second_set ∷ third_set ∷ candidates_of lists bodies_5) after_wrong

-- the bytes of the set whose digest begins so
abbrev bytes_at : ℕ → List ℕ
bytes_at head = if head == 0xef then codes "12345678" else (if head == 0x03 then codes "1234" else (if head == 0x57 then codes "12349abc" else []))

record IsKnown (set : List (List ℕ)) : Type 0 where
  head : ℕ
  rest : List ℕ
  digest : digest_of set ≡ head ∷ rest
  bytes : concatenation set ≡ bytes_at head

know_nothing : IsKnown []
know_nothing = record { head = 0xe3; rest = _; digest = digest_of_nothing; bytes = refl }

know_first : IsKnown first_set
know_first = record { head = 0xef; rest = _; digest = digest_of_first; bytes = refl }

know_second : IsKnown second_set
know_second = record { head = 0x03; rest = _; digest = digest_of_second; bytes = refl }

know_third : IsKnown third_set
know_third = record { head = 0x57; rest = _; digest = digest_of_third; bytes = refl }

proposed_known : (set : List (List ℕ)) → Contains (first_set ∷ second_set ∷ second_set ∷ third_set ∷ third_set ∷ []) set → IsKnown set
proposed_known set (zero, below, at) = subst IsKnown at know_first
proposed_known set (suc zero, below, at) = subst IsKnown at know_second
proposed_known set (suc (suc zero), below, at) = subst IsKnown at know_second
proposed_known set (suc (suc (suc zero)), below, at) = subst IsKnown at know_third
proposed_known set (suc (suc (suc (suc zero))), below, at) = subst IsKnown at know_third
proposed_known set (suc (suc (suc (suc (suc n)))), below, at) = absurd (omega arith)

served_known : (version : ℕ) → version ≤ 3 → IsKnown (prefixes_at example_history example_name version)
served_known zero within = know_nothing
served_known (suc zero) within = know_first
served_known (suc (suc zero)) within = know_second
served_known (suc (suc (suc zero))) within = know_third
served_known (suc (suc (suc (suc n)))) within = absurd (omega arith)

or_false : (b : Bool) → (b || false) ≡ true → b ≡ true
or_false true h = refl
or_false false h = h

equal_heads : (x y : ℕ) (xs ys : List ℕ) → x ∷ xs ≡ y ∷ ys → x ≡ y
equal_heads x y xs ys e = cc

module _ (same : (a b : ListName) → IsTrue (same_name a b) ↔ (a ≡ b)) where
  declared_name : (list : ListName) → IsTrue (declares example_history list) → example_name ≡ list
  declared_name list declared = (same example_name list).0 (or_false (same_name example_name list) declared)

  known : (set : List (List ℕ)) → IsSetOfRun example_history (candidates_of (start ∷ []) (bodies_of example_readings)) set → IsKnown set
  known set (Proposed there) = proposed_known set (subst (λ (sets : List (List (List ℕ))). Contains sets set) candidates_are there)
  known set (Served list version declared within is) =
      subst IsKnown (sym is) (subst (λ (name : ListName). IsKnown (prefixes_at example_history name version)) (declared_name list declared) (served_known version within))

  pub example_apart : HasNoCollision example_history (candidates_of (start ∷ []) (bodies_of example_readings))
  example_apart a b of_a of_b digests =
      let ka = known a of_a in
      let kb = known b of_b in
      let heads : ka.head ≡ kb.head = equal_heads ka.head kb.head ka.rest kb.rest (sym ka.digest ∙ digests ∙ kb.digest) in
      ka.bytes ∙ ap bytes_at heads ∙ sym kb.bytes
