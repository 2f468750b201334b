-- What the bytes of a token say.
use Rattle.std.proofs.Common.{◌≡◌, ℕ, ◌<◌, ◌^◌, ◌-◌, List, length, take, drop, Option, Some, None, sym, ap, ◌∙◌, ◌+◌, ◌≤◌, arith}
use Rattle.std.specs.Int.{w64, from_be_bytes}
use Rattle.std.proofs.lemmas.Nat.{from_be_bytes-to_be_bytes_8}
use Rattle.std.proofs.lemmas.List.{take_rest}
use Rattle.sb_model.specs.declared.names.ListName.{ListName}
use Rattle.sb_model.specs.declared.names.ThreatType.{ThreatType}
use Rattle.sb_model.specs.declared.names.PlatformType.{PlatformType}
use Rattle.sb_model.specs.declared.names.EntryType.{EntryType}
use Rattle.delta_server.specs.Tokens.{codes_of, server_token}
use Rattle.std.specs.List.{range_with_len}
use Rattle.std.specs.Str.{bytes_eq}
use Rattle.std.proofs.lemmas.Slice.Eq.{bytes_eq-Decides}
use Rattle.sb_model.specs.History.{History, version_count}
use Rattle.update_messages.specs.Answer.{version_named}
use Rattle.delta_server.specs.Tokens.{server_naming}
use Rattle.delta_server.proofs.Membership.{in_range, from_range, finds_one, finds_none}

pub codes_in_token : (epoch : ℕ) (list : ListName) (version : ℕ) (state : List ℕ) → state ≡ server_token epoch list version → drop 17 state ≡ codes_of list
unfolding server_token
codes_in_token epoch list version state is = ap (λ (bytes : List ℕ). drop 17 bytes) is

pub version_in_token : (epoch : ℕ) (list : ListName) (version : ℕ) (state : List ℕ) → version < 2 ^ 64 → state ≡ server_token epoch list version
    → from_be_bytes w64 (take 8 (drop 9 state)) ≡ version
unfolding server_token
version_in_token epoch list version state fits is =
    ap (λ (bytes : List ℕ). from_be_bytes w64 (take 8 (drop 9 bytes))) is ∙ from_be_bytes-to_be_bytes_8 version fits

pub token_len : (epoch : ℕ) (list : ListName) (version : ℕ) (state : List ℕ) → state ≡ server_token epoch list version → length state ≡ 20
unfolding server_token
token_len epoch list version state is = ap (λ (bytes : List ℕ). length bytes) is

-- ---- parts that are there

pub some_is : {A : Type 0} (a b : A) → Some a ≡ Some b → a ≡ b
some_is a b is = cc

pub same_list : (list : ListName) (threat : ThreatType) (platform : PlatformType) (entry : EntryType) → threat ≡ list.threat → platform ≡ list.platform → entry ≡ list.entry
    → (let made : ListName = record { threat = threat; platform = platform; entry = entry } in made ≡ list)
same_list list threat platform entry t p e =
    ap (λ (x : ThreatType). let made : ListName = record { threat = x; platform = platform; entry = entry } in made) t
    ∙ ap (λ (x : PlatformType). let made : ListName = record { threat = list.threat; platform = x; entry = entry } in made) p
    ∙ ap (λ (x : EntryType). let made : ListName = record { threat = list.threat; platform = list.platform; entry = x } in made) e

-- the front of a state from a place on, as a range gives it
pub tail_codes : (epoch : ℕ) (list : ListName) (version : ℕ) (state : List ℕ) → state ≡ server_token epoch list version → take (length state - 17) (drop 17 state) ≡ codes_of list
tail_codes epoch list version state is = take_rest state 17 ∙ codes_in_token epoch list version state is

-- an answer that names a list and a version
abbrev pub named : ListName → ℕ → Option (ListName × ℕ)
named list version = Some (list, version)

pub same_answer : (a b : ListName) (v w : ℕ) → a ≡ b → v ≡ w → named a v ≡ named b w
same_answer a b v w l n = ap (λ (x : ListName). named x v) l ∙ ap (λ (k : ℕ). named b k) n

pub answered : (a b : ListName) (v w : ℕ) → named a v ≡ named b w → (a ≡ b) × (v ≡ w)
answered a b v w is =
    let pair : ◌≡◌ {A = ListName × ℕ} (a, v) (b, w) = some_is (a, v) (b, w) is in
    (ap (λ (p : ListName × ℕ). p.0) pair, ap (λ (p : ListName × ℕ). p.1) pair)

-- ---- the version that a state names

module _ (history : History) (list : ListName) (state : List ℕ) (fits : version_count history < 2 ^ 64) where
  pub names_one : (version : ℕ) → version ≤ version_count history → state ≡ server_token history.epoch list version
      → version_named history (server_naming history) list state ≡ Some version
  names_one version within is =
      finds_one (λ v. bytes_eq (server_naming history list v) state) (range_with_len 0 (version_count history + 1)) version
      (in_range version 0 (version_count history + 1) (omega arith) (omega (arith, within)))
      ((bytes_eq-Decides (server_token history.epoch list version) state).1 (sym is))
      (λ v there passes.
      let bounds = from_range v 0 (version_count history + 1) there in
      let other : state ≡ server_token history.epoch list v = sym ((bytes_eq-Decides (server_token history.epoch list v) state).0 passes) in
      sym (version_in_token history.epoch list v state (omega (arith, bounds.1, fits)) other) ∙ version_in_token history.epoch list version state (omega (arith, within, fits)) is)

  pub names_none : ((version : ℕ) → version ≤ version_count history → state ≡ server_token history.epoch list version → ⊥)
      → version_named history (server_naming history) list state ≡ None
  names_none none =
      finds_none (λ v. bytes_eq (server_naming history list v) state) (range_with_len 0 (version_count history + 1)) (λ v there passes.
      let bounds = from_range v 0 (version_count history + 1) there in
      none v (omega (arith, bounds.1)) (sym ((bytes_eq-Decides (server_token history.epoch list v) state).0 passes)))

pub none_some : {A : Type 0} (o : Option A) (a : A) → o ≡ None → o ≡ Some a → ⊥
none_some o a none some = cc
