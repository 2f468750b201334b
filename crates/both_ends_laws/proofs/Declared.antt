-- What a server answers to the request of a client: an update for each of its lists that the server declares.
use Rattle.std.proofs.Common.{◌≡◌, ℕ, List, [], ◌∷◌, Bool, true, false, cond, map, refl, ap, ◌∙◌}
use Rattle.std.specs.Prelude.{All, filter}
use Rattle.std.proofs.lemmas.List.Elements.{All-map, All-weaker, filter_passes}
use Rattle.sb_model.specs.History.{History, declares, up_to_version}
use Rattle.sb_model.specs.Naming.{Naming}
use Rattle.update_messages.specs.Answer.{fetch_answer, update_for}
use Rattle.update_messages.specs.Messages.{AskedList, UpdatedList}
use Rattle.update_client.specs.Asked.{asked_list, request_asked}
use Rattle.update_client.specs.Held.{Held}
use Rattle.update_client.specs.declared.options.FetchOptions.{FetchOptions}
use Rattle.both_ends_laws.specs.Complete.{declared_lists}

-- ---- what a filter keeps

pub map_twice : {A B C : Type 0} (f : B → C) (g : A → B) (items : List A) → map f (map g items) ≡ map (λ item. f (g item)) items
map_twice f g [] = refl
map_twice f g (item ∷ items) = ap (λ rest. f (g item) ∷ rest) (map_twice f g items)

filter-map : {A B : Type 0} (p : B → Bool) (f : A → B) (items : List A) → filter p (map f items) ≡ map f (filter (λ item. p (f item)) items)
filter-map p f [] = refl
filter-map p f (item ∷ items) = go (p (f item)) (filter-map p f items)
  where
    go : (kept : Bool) → filter p (map f items) ≡ map f (filter (λ item. p (f item)) items)
        → cond kept (f item ∷ filter p (map f items)) (filter p (map f items)) ≡ map f (cond kept (item ∷ filter (λ item. p (f item)) items) (filter (λ item. p (f item)) items))
    go true rest = ap (λ more. f item ∷ more) rest
    go false rest = rest

pub all_kept : {A B : Type 0} (Q : B → Type 0) (f : A → B) (p : A → Bool) → ((item : A) → p item ≡ true → Q (f item)) → (items : List A) → All Q (map f (filter p items))
all_kept Q f p holds items = All-map Q f (filter p items) (All-weaker (λ item. p item ≡ true) (λ item. Q (f item)) holds (filter p items) (filter_passes p items))

-- ---- the items of an answer

-- the update for a held list
abbrev pub update_of : History → Naming → FetchOptions → ℕ → Held → UpdatedList
update_of history token_at options version held = update_for (up_to_version version history) token_at (asked_list options held)

-- the updates for those of these lists that are declared
abbrev pub updates_for : History → Naming → FetchOptions → ℕ → List Held → List UpdatedList
updates_for history token_at options version lists = map (update_of history token_at options version) (declared_lists history lists)

pub answer_is : (history : History) (token_at : Naming) (options : FetchOptions) (version wait : ℕ) (lists : List Held)
    → (fetch_answer (up_to_version version history) token_at wait (request_asked lists options)).items ≡ updates_for history token_at options version lists
answer_is history token_at options version wait lists =
    ap (map (update_for (up_to_version version history) token_at)) (filter-map (λ (asked : AskedList). declares history asked.name) (asked_list options) lists)
    ∙ map_twice (update_for (up_to_version version history) token_at) (asked_list options) (declared_lists history lists)
