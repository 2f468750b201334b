-- What updates to one version do to held lists.
use Rattle.std.proofs.Common.{◌≡◌, ◌⊎◌, ℕ, List, [], ◌∷◌, Bool, true, false, cond, refl, sym, ap, ◌∙◌, inl, inr, Option, Some, None}
use Rattle.std.specs.Prelude.{All}
use Rattle.std.proofs.lemmas.List.Elements.{All-head, All-tail}
use Rattle.sb_model.specs.declared.names.ListName.{ListName}
use Rattle.sb_model.specs.Names.{same_name}
use Rattle.sb_model.specs.Naming.{Naming}
use Rattle.update_messages.specs.Messages.{UpdatedList}
use Rattle.update_client.specs.Held.{Held}
use Rattle.update_client.specs.Step.{first_fault, held_after, list_step, after_update, after_updates}
use Rattle.update_client.specs.declared.fault.UpdateFault.{UpdateFault}

-- names that are the same are equal
abbrev pub NamesGo : Type 0
NamesGo = (a b : ListName) → same_name a b ≡ true → a ≡ b

-- ---- pairs of lists

abbrev pub Each : (Held → Held → Type 0) → List Held → List Held → Type 0
Each R [] [] = Unit {0}
Each R [] (held' ∷ lists') = ⊥
Each R (held ∷ lists) [] = ⊥
Each R (held ∷ lists) (held' ∷ lists') = R held held' × Each R lists lists'

pub each_itself : (R : Held → Held → Type 0) → ((held : Held) → R held held) → (lists : List Held) → Each R lists lists
each_itself R same [] = tt
each_itself R same (held ∷ lists) = (same held, each_itself R same lists)

pub each_through : (R S T : Held → Held → Type 0) → ((a b c : Held) → R a b → S b c → T a c) → (xs ys zs : List Held) → Each R xs ys → Each S ys zs → Each T xs zs
each_through R S T both [] [] [] h k = tt
each_through R S T both [] [] (z ∷ zs) h k = absurd k
each_through R S T both [] (y ∷ ys) zs h k = absurd h
each_through R S T both (x ∷ xs) [] zs h k = absurd h
each_through R S T both (x ∷ xs) (y ∷ ys) [] h k = absurd k
each_through R S T both (x ∷ xs) (y ∷ ys) (z ∷ zs) h k = (both x y z h.0 k.0, each_through R S T both xs ys zs h.1 k.1)

-- ---- one list

-- A list keeps its name, and its token stays or is that of this version.
pub record ComesTo (token_at : Naming) (version : ℕ) (held held' : Held) : Type 0 where
  pub named : held'.name ≡ held.name
  pub token : (held'.token ≡ held.token) ⊎ (held'.token ≡ token_at held.name version)

pub stays : (token_at : Naming) (version : ℕ) (held : Held) → ComesTo token_at version held held
stays token_at version held = record { named = refl; token = inl refl }

pub comes_through : (token_at : Naming) (version : ℕ) (a b c : Held) → ComesTo token_at version a b → ComesTo token_at version b c → ComesTo token_at version a c
comes_through token_at version a b c first next = record { named = next.named ∙ first.named; token = either next.token }
  where
    either : (c.token ≡ b.token) ⊎ (c.token ≡ token_at b.name version) → (c.token ≡ a.token) ⊎ (c.token ≡ token_at a.name version)
    either (inr new) = inr (new ∙ ap (λ name. token_at name version) first.named)
    either (inl same) = earlier first.token
      where
        earlier : (b.token ≡ a.token) ⊎ (b.token ≡ token_at a.name version) → (c.token ≡ a.token) ⊎ (c.token ≡ token_at a.name version)
        earlier (inl still) = inl (same ∙ still)
        earlier (inr new) = inr (same ∙ new)

-- ---- one update

-- Its new state is that of a version.
abbrev pub IsTo : Naming → ℕ → UpdatedList → Type 0
IsTo token_at version update = update.new_state ≡ token_at update.name version

comes_after : (token_at : Naming) (version : ℕ) (held : Held) (update : UpdatedList) (fault : Option UpdateFault) → IsTo token_at version update → held.name ≡ update.name → ComesTo token_at version held (held_after held update fault)
comes_after token_at version held update None to named = record { named = refl; token = inr (to ∙ ap (λ name. token_at name version) (sym named)) }
comes_after token_at version held update (Some fault) to named = record { named = refl; token = inl refl }

comes_if : NamesGo → (token_at : Naming) (version : ℕ) (held : Held) (update : UpdatedList) (same : Bool) → same_name held.name update.name ≡ same → IsTo token_at version update
    → ComesTo token_at version held (cond same (list_step held update) held)
comes_if go token_at version held update true is to = comes_after token_at version held update (first_fault held update) to (go held.name update.name is)
comes_if go token_at version held update false is to = stays token_at version held

after_one : NamesGo → (token_at : Naming) (version : ℕ) (lists : List Held) (update : UpdatedList) → IsTo token_at version update → Each (ComesTo token_at version) lists (after_update lists update)
after_one go token_at version [] update to = tt
after_one go token_at version (held ∷ lists) update to =
    (comes_if go token_at version held update (same_name held.name update.name) refl to, after_one go token_at version lists update to)

pub after_all : NamesGo → (token_at : Naming) (version : ℕ) (lists : List Held) (updates : List UpdatedList) → All (IsTo token_at version) updates → Each (ComesTo token_at version) lists (after_updates lists updates)
after_all go token_at version lists [] to = each_itself (ComesTo token_at version) (stays token_at version) lists
after_all go token_at version lists (update ∷ updates) to =
    each_through (ComesTo token_at version) (ComesTo token_at version) (ComesTo token_at version) (comes_through token_at version) lists (after_update lists update) (after_updates (after_update lists update) updates)
    (after_one go token_at version lists update (All-head (IsTo token_at version) update updates to))
    (after_all go token_at version (after_update lists update) updates (All-tail (IsTo token_at version) update updates to))
