-- Items of a request that ask for the same.
use Rattle.std.proofs.Common.{◌≡◌, ℕ, ◌<◌, zero, suc, Bool, true, false, cond, List, [], ◌∷◌, length, map, take, get_or, refl, sym, ap, ◌∙◌, arith, Option, Some, None}
use Rattle.std.specs.Prelude.{filter, slice_get}
use Rattle.sb_model.specs.declared.names.ListName.{ListName}
use Rattle.sb_model.specs.History.{History}
use Rattle.sb_model.specs.Target.{target_version}
use Rattle.update_messages.specs.Answer.{version_named, update_to, update_for}
use Rattle.update_messages.specs.Messages.{AskedList, UpdatedList}
use Rattle.delta_server.specs.Tokens.{server_naming}

-- an item that asks for a list from a state, within limits
abbrev item : ListName → List ℕ → ℕ → ℕ → Bool → Bool → AskedList
item name state update database raw rice = record { name = name; state = state; max_update = update; max_database = database; raw = raw; rice = rice }

module _ (history : History) where
  abbrev answered : AskedList → UpdatedList
  answered asked = update_for history (server_naming history) asked

  -- no update says whether uncompressed sets are taken
  raw_is_free : (name : ListName) (state : List ℕ) (update database : ℕ) (raw other rice : Bool)
      → answered (item name state update database raw rice) ≡ answered (item name state update database other rice)
  raw_is_free name state update database raw other rice = go (version_named history (server_naming history) name state)
    where
      go : (held : Option ℕ) → update_to history (server_naming history) (item name state update database raw rice) held (target_version history name held update database)
          ≡ update_to history (server_naming history) (item name state update database other rice) held (target_version history name held update database)
      go None = refl
      go (Some version) = refl

  pub ask_alike : (a b : AskedList) → a.name ≡ b.name → a.state ≡ b.state → a.max_update ≡ b.max_update → a.max_database ≡ b.max_database → a.rice ≡ b.rice
      → answered a ≡ answered b
  ask_alike a b name state update database rice =
      ap (λ (n : ListName). answered (item n a.state a.max_update a.max_database a.raw a.rice)) name
      ∙ ap (λ (s : List ℕ). answered (item b.name s a.max_update a.max_database a.raw a.rice)) state
      ∙ ap (λ (u : ℕ). answered (item b.name b.state u a.max_database a.raw a.rice)) update
      ∙ ap (λ (d : ℕ). answered (item b.name b.state b.max_update d a.raw a.rice)) database
      ∙ ap (λ (r : Bool). answered (item b.name b.state b.max_update b.max_database a.raw r)) rice
      ∙ raw_is_free b.name b.state b.max_update b.max_database a.raw b.raw b.rice

-- ---- one that passes a test stands behind those before it that pass

module _ {X Y : Type 0} (p : X → Bool) (f : X → Y) where
  pub passing_at : (xs : List X) (i : ℕ) (x : X) (y : Y) → i < length xs → x ≡ get_or xs i x → p x ≡ true → f x ≡ y
      → slice_get (map f (filter p xs)) (length (filter p (take i xs))) ≡ Some y
  passing_at [] i x y below is passes made = absurd (omega arith)
  passing_at (z ∷ xs) zero x y below is passes made =
      ap (λ (b : Bool). slice_get (map f (cond b (z ∷ filter p xs) (filter p xs))) 0) (ap p (sym is) ∙ passes) ∙ ap (λ (w : X). Some (f w)) (sym is) ∙ ap Some made
  passing_at (z ∷ xs) (suc i) x y below is passes made = go (p z) (passing_at xs i x y (omega arith) is passes made)
    where
      go : (b : Bool) → slice_get (map f (filter p xs)) (length (filter p (take i xs))) ≡ Some y
          → slice_get (map f (cond b (z ∷ filter p xs) (filter p xs))) (length (cond b (z ∷ filter p (take i xs)) (filter p (take i xs)))) ≡ Some y
      go true at = at
      go false at = at
