-- The two answers of an exercise.
use Rattle.std.proofs.Common.{◌≡◌, ℕ, ◌+◌, ◌<◌, ◌≤◌, length, map, List, [], ◌∷◌, Bool, true, false, cond, refl, sym, ap, ◌∙◌, arith, Option, Some, None}
use Rattle.std.specs.Prelude.{IsTrue, find, slice_get, Result, Ok, Err, IfOk}
use Rattle.std.specs.List.{range_with_len}
use Rattle.std.specs.Str.{bytes_eq}
use Rattle.sha2.specs.Sha256.{sha256}
use Rattle.sb_model.specs.History.{History, declares, prefixes_at, version_count}
use Rattle.sb_model.specs.Prefixes.{concatenation}
use Rattle.sb_model.specs.Target.{can_reach, target_version}
use Rattle.update_messages.specs.Answer.{fetch_answer, update_for, update_to, version_named}
use Rattle.update_messages.specs.Messages.{UpdatedList}
use Rattle.update_messages.specs.declared.response.FetchResponse.{FetchResponse}
use Rattle.delta_server.specs.Tokens.{server_naming, server_token}
use Rattle.generated_load.specs.Exercise.{asked_with, newest_set, request_with, update_with}
use Rattle.generated_load.specs.Generated.{generated_list}

-- an answer has one item where the list is declared
one_item : (history : History) (state : List ℕ) → declares history generated_list ≡ true
    → (fetch_answer history (server_naming history) 0 (request_with state)).items ≡ update_with history state ∷ []
one_item history state known = ap (λ (b : Bool). map (update_for history (server_naming history)) (cond b (asked_with state ∷ []) [])) known

pub has_item : (history : History) (state : List ℕ) (response : FetchResponse) → declares history generated_list ≡ true
    → response ≡ fetch_answer history (server_naming history) 0 (request_with state) → 0 < length response.items
has_item history state response known answer =
    let count = ap (λ (r : FetchResponse). length r.items) answer ∙ ap length (one_item history state known) in omega (arith, count)

-- and this is it
pub item_is : (history : History) (state : List ℕ) (response : FetchResponse) (update : UpdatedList) → declares history generated_list ≡ true
    → response ≡ fetch_answer history (server_naming history) 0 (request_with state) → slice_get response.items 0 ≡ Some update → update ≡ update_with history state
item_is history state response update known answer at =
    let found : Some update ≡ Some (update_with history state) =
    sym at ∙ ap (λ (r : FetchResponse). slice_get r.items 0) answer ∙ ap (λ (items : List UpdatedList). slice_get items 0) (one_item history state known) in
    cc

-- ---- one who has nothing

found_none : (test : ℕ → Bool) (places : List ℕ) → ((place : ℕ) → test place ≡ false) → find test places ≡ None
found_none test [] none = refl
found_none test (place ∷ places) none = ap (λ (b : Bool). cond b (Some place) (find test places)) (none place) ∙ found_none test places none

no_token : (history : History) (version : ℕ) → bytes_eq (server_naming history generated_list version) [] ≡ false
unfolding server_token
no_token history version = refl

no_version : (history : History) → version_named history (server_naming history) generated_list [] ≡ None
no_version history = found_none (λ (version : ℕ). bytes_eq (server_naming history generated_list version) []) (range_with_len 0 (version_count history + 1)) (no_token history)

-- with no limit the newest version is taken
newest_target : (history : History) → (IsTrue (can_reach history generated_list None 0 0 (version_count history)) → version_count history ≤ target_version history generated_list None 0 0)
    → target_version history generated_list None 0 0 ≤ version_count history → target_version history generated_list None 0 0 ≡ version_count history
newest_target history greatest last = let low : version_count history ≤ target_version history generated_list None 0 0 = greatest refl in omega (arith, low, last)

pub first_checksum : (history : History) → (IsTrue (can_reach history generated_list None 0 0 (version_count history)) → version_count history ≤ target_version history generated_list None 0 0)
    → target_version history generated_list None 0 0 ≤ version_count history → (update_with history []).checksum ≡ sha256 (concatenation (newest_set history))
first_checksum history greatest last =
    ap (λ (held : Option ℕ). (update_to history (server_naming history) (asked_with []) held (target_version history generated_list held 0 0)).checksum) (no_version history)
    ∙ ap (λ (version : ℕ). sha256 (concatenation (prefixes_at history generated_list version))) (newest_target history greatest last)

pub if_ok : {T E : Type 0} (P Q : T → Type 0) (r : Result T E) → ((x : T) → P x → Q x) → IfOk r P → IfOk r Q
if_ok P Q (Ok x) f h = f x h
if_ok P Q (Err e) f h = tt
