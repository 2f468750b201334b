-- One more turn of loops that pick items, and the client that asks.
use Rattle.std.proofs.Common.{◌≡◌, ℕ, ◌+◌, ◌<◌, Bool, cond, List, [], ◌∷◌, ◌++◌, length, take, get_or, Some, sym, ap, ◌∙◌, codes}
use Rattle.std.specs.Prelude.{filter, slice_get}
use Rattle.std.proofs.lemmas.List.{take_more}
use Rattle.std.proofs.lemmas.Option.{get_or_from_slice_get}
use Rattle.std.proofs.lemmas.List.Elements.{filter_more}
use Rattle.update_messages.specs.declared.client.ClientInfo.{ClientInfo}

pub picked_more : {X : Type 0} (p : X → Bool) (xs : List X) (i : ℕ) (d : X) (b : Bool) (old new : List X) → i < length xs → p (get_or xs i d) ≡ b → old ≡ filter p (take i xs)
    → new ≡ old ++ cond b (get_or xs i d ∷ []) [] → new ≡ filter p (take (i + 1) xs)
picked_more {X} p xs i d b old new below is before pushed =
    pushed
    ∙ ap (λ (done : List X). done ++ cond b (get_or xs i d ∷ []) []) before
    ∙ ap (λ c. filter p (take i xs) ++ cond c (get_or xs i d ∷ []) []) (sym is)
    ∙ sym (filter_more p xs i d below)

pub client_is : (id version : List ℕ) → id ≡ codes "sblist" → version ≡ codes "1"
    → (let client : ClientInfo = record { id = id; version = version } in client) ≡ (let client : ClientInfo = record { id = codes "sblist"; version = codes "1" } in client)
client_is id version first second =
    ap (λ (text : List ℕ). let client : ClientInfo = record { id = text; version = version } in client) first
    ∙ ap (λ (text : List ℕ). let client : ClientInfo = record { id = codes "sblist"; version = text } in client) second

-- one more member of a set
pub taken_more : {X : Type 0} (xs : List X) (i : ℕ) (x : X) (old new : List X) → i < length xs → slice_get xs i ≡ Some x → old ≡ take i xs → new ≡ old ++ x ∷ [] → new ≡ take (i + 1) xs
taken_more {X} xs i x old new below at before pushed =
    pushed
    ∙ ap (λ (done : List X). done ++ x ∷ []) before
    ∙ ap (λ (last : X). take i xs ++ last ∷ []) (sym (get_or_from_slice_get xs i x x at))
    ∙ sym (take_more xs i x below)
