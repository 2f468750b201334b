-- Stored lists put in the places of empty ones.
use Rattle.std.proofs.Common.{◌≡◌, ℕ, zero, suc, ◌<◌, ◌≤◌, Bool, true, false, ◌&&◌, cond, eqb, ltb, List, [], ◌∷◌, ◌++◌, length, get_or, set, map, Option, Some, None, refl, sym, ap, subst, ◌∙◌, arith}
use Rattle.std.specs.Prelude.{position, unwrap_or}
use Rattle.std.specs.declared.cmp.Ordering.TheVariants.{Less}
use Rattle.std.specs.Cmp.{IsTotalOrder}
use Rattle.std.specs.List.{AllByRecursion, position_or_len}
use Rattle.std.specs.List.Sorted.{IsStrictlySortedBy}
use Rattle.std.specs.Option.{option_or}
use Rattle.std.proofs.lemmas.Bool.{eqb-true, ltb-false}
use Rattle.std.proofs.lemmas.Cmp.{nat_cmp_total, on_total, then_total, tied_itself}
use Rattle.std.proofs.lemmas.List.{length-map}
use Rattle.std.proofs.lemmas.List.Folds.{find-append}
use Rattle.std.proofs.lemmas.List.Quantifiers.{position-Some}
use Rattle.std.proofs.lemmas.List.Sums.{fails_before_first}
use Rattle.std.proofs.lemmas.Map.Keys.{sorted_head, sorted_tail}
use Rattle.sb_model.specs.declared.names.ThreatType.{ThreatType}
use Rattle.sb_model.specs.declared.names.PlatformType.{PlatformType}
use Rattle.sb_model.specs.declared.names.EntryType.{EntryType}
use Rattle.sb_model.specs.declared.names.ListName.{ListName}
use Rattle.sb_model.specs.Names.{threat_code, platform_code, entry_code, threat_with_code, platform_with_code, entry_with_code, same_name, name_cmp}
use Rattle.update_client.specs.Held.{Held, AreHeldLists, nothing_held}
use Rattle.update_client.specs.Step.{list_named}
use Rattle.client_store.specs.Selected.{stored_or_nothing, with_list_replaced}
use Rattle.client_store.proofs.Heads.{threat_back, platform_back, entry_back}
use Rattle.client_store.proofs.Members.{first_true, second_true, both_true}
use Rattle.client_store.proofs.Named.{names_of, AreNamedInOrder}

-- ---- names

some_is : {A : Type 0} (a b : A) → Some a ≡ Some b → a ≡ b
some_is a b h = cc

threat_is : (a b : ThreatType) → eqb (threat_code a) (threat_code b) ≡ true → a ≡ b
threat_is a b h = some_is a b (sym (threat_back a) ∙ ap threat_with_code (eqb-true _ _ h) ∙ threat_back b)

platform_is : (a b : PlatformType) → eqb (platform_code a) (platform_code b) ≡ true → a ≡ b
platform_is a b h = some_is a b (sym (platform_back a) ∙ ap platform_with_code (eqb-true _ _ h) ∙ platform_back b)

entry_is : (a b : EntryType) → eqb (entry_code a) (entry_code b) ≡ true → a ≡ b
entry_is a b h = some_is a b (sym (entry_back a) ∙ ap entry_with_code (eqb-true _ _ h) ∙ entry_back b)

named : (a b : ListName) → a.threat ≡ b.threat → a.platform ≡ b.platform → a.entry ≡ b.entry → a ≡ b
named a b threat platform entry = λ i. record { threat = threat i; platform = platform i; entry = entry i }

name_is : (a b : ListName) → same_name a b ≡ true → a ≡ b
name_is a b h =
    let threats : Bool = eqb (threat_code a.threat) (threat_code b.threat) in
    let platforms : Bool = eqb (platform_code a.platform) (platform_code b.platform) in
    let entries : Bool = eqb (entry_code a.entry) (entry_code b.entry) in
    let both : (threats && platforms) ≡ true = first_true (threats && platforms) entries h in
    named a b (threat_is a.threat b.threat (first_true threats platforms both)) (platform_is a.platform b.platform (second_true threats platforms both)) (entry_is a.entry b.entry (second_true (threats && platforms) entries h))

itself : (n : ℕ) → eqb n n ≡ true
itself n = grind arith

same_itself : (name : ListName) → same_name name name ≡ true
same_itself name = both_true _ _ (both_true _ _ (itself (threat_code name.threat)) (itself (platform_code name.platform))) (itself (entry_code name.entry))

same_back : (a b : ListName) (answer : Bool) → same_name a b ≡ answer → same_name b a ≡ answer
same_back a b true h = let one : a ≡ b = name_is a b h in ap (λ n. same_name n a) (sym one) ∙ same_itself a
same_back a b false h = go (same_name b a) refl
  where
    go : (answer : Bool) → same_name b a ≡ answer → same_name b a ≡ false
    go false is = is
    go true is = let one : b ≡ a = name_is b a is in absurd (cc (sym (same_itself a), ap (λ n. same_name a n) one, h))

name_total : IsTotalOrder name_cmp
name_total =
    then_total (on_total (λ (name : ListName). threat_code name.threat) nat_cmp_total)
    (then_total (on_total (λ (name : ListName). platform_code name.platform) nat_cmp_total) (on_total (λ (name : ListName). entry_code name.entry) nat_cmp_total))

-- one name comes before another: they are not the same
apart : (a b : ListName) → name_cmp a b ≡ Less → same_name b a ≡ false
apart a b less = go (same_name b a) refl
  where
    go : (answer : Bool) → same_name b a ≡ answer → same_name b a ≡ false
    go false is = is
    go true is = let one : b ≡ a = name_is b a is in absurd (cc (sym less ∙ ap (λ n. name_cmp a n) one ∙ tied_itself name_total a))

-- ---- one list in place of that of its name

abbrev put_one : Held → Held → Held
put_one held own = cond (same_name own.name held.name) held own

name-put_one : (held own : Held) → let h : Held = put_one held own in h.name ≡ own.name
name-put_one held own = go (same_name own.name held.name) refl
  where
    go : (answer : Bool) → same_name own.name held.name ≡ answer → (let h : Held = cond answer held own in h.name ≡ own.name)
    go true is = sym (name_is own.name held.name is)
    go false is = refl

names-with_list : (held : Held) (lists : List Held) → names_of (with_list_replaced held lists) ≡ names_of lists
names-with_list held [] = refl
names-with_list held (own ∷ lists) =
    ap (λ name. name ∷ names_of (with_list_replaced held lists)) (name-put_one held own) ∙ ap (λ names. own.name ∷ names) (names-with_list held lists)

pub with_list_is_held : (held : Held) (lists : List Held) → AreHeldLists lists → AreHeldLists (with_list_replaced held lists)
with_list_is_held held lists kept =
    let Rising : List ListName → Type 0 = λ names. IsStrictlySortedBy name_cmp names in
    record {
      few = omega (arith, length-map lists (put_one held), kept.few);
      rising = subst Rising (sym (names-with_list held lists)) kept.rising;
    }

-- lists whose names all come after it stay
kept_after : (held : Held) (lists : List Held) → AllByRecursion (λ name. name_cmp held.name name ≡ Less) (names_of lists) → with_list_replaced held lists ≡ lists
kept_after held [] after = refl
kept_after held (own ∷ lists) after =
    ap (λ answer. cond answer held own ∷ with_list_replaced held lists) (apart held.name own.name after.0) ∙ ap (λ rest. own ∷ rest) (kept_after held lists after.1)

put_at : (held : Held) (lists : List Held) (place : ℕ) → AreNamedInOrder lists → place < length lists → ((d : Held) → same_name (get_or lists place d).name held.name ≡ true)
    → ((k : ℕ) (d : Held) → k < place → same_name (get_or lists k d).name held.name ≡ false) → set lists place held ≡ with_list_replaced held lists
put_at held [] place rising within here before = absurd (omega (arith, within))
put_at held (own ∷ lists) zero rising within here before =
    let one : own.name ≡ held.name = name_is own.name held.name (here own) in
    let after = subst (λ (name : ListName). AllByRecursion (λ other. name_cmp name other ≡ Less) (names_of lists)) one (sorted_head name_cmp own.name (names_of lists) rising) in
    ap (λ rest. held ∷ rest) (sym (kept_after held lists after)) ∙ ap (λ answer. cond answer held own ∷ with_list_replaced held lists) (sym (here own))
put_at held (own ∷ lists) (suc place) rising within here before =
    ap (λ rest. own ∷ rest) (put_at held lists place (sorted_tail name_cmp own.name (names_of lists) rising) (omega (arith, within)) here (λ k d below. before (suc k) d (omega (arith, below))))
    ∙ ap (λ answer. cond answer held own ∷ with_list_replaced held lists) (sym (before zero own (omega arith)))

pub put_found : (held : Held) (lists : List Held) (place : ℕ) → AreNamedInOrder lists → position (λ (own : Held). same_name own.name held.name) lists ≡ Some place → set lists place held ≡ with_list_replaced held lists
put_found held lists place rising found =
    let test : Held → Bool = λ own. same_name own.name held.name in
    put_at held lists place rising (position-Some test lists place held found).0 (λ d. (position-Some test lists place d found).1) (λ k d below. (position-Some test lists place d found).2 k below)

-- lists of which none has its name stay
kept_without : (held : Held) (lists : List Held) → ((k : ℕ) (d : Held) → k < length lists → same_name (get_or lists k d).name held.name ≡ false) → lists ≡ with_list_replaced held lists
kept_without held [] none = refl
kept_without held (own ∷ lists) none =
    ap (λ rest. own ∷ rest) (kept_without held lists (λ k d below. none (suc k) d (omega (arith, below))))
    ∙ ap (λ answer. cond answer held own ∷ with_list_replaced held lists) (sym (none zero own (omega arith)))

pub put_nowhere : (held : Held) (lists : List Held) → position (λ (own : Held). same_name own.name held.name) lists ≡ None → lists ≡ with_list_replaced held lists
put_nowhere held lists none = kept_without held lists (λ k d below. fails_before_first test lists k d (omega (arith, past (ltb found (length lists)) refl none, below)))
  where
    test : Held → Bool
    test = λ own. same_name own.name held.name

    found : ℕ
    found = position_or_len test lists

    past : (b : Bool) → ltb found (length lists) ≡ b → cond b (Some found) None ≡ None → length lists ≤ found
    past true is h = absurd cc
    past false is h = ltb-false _ _ is

-- ---- all stored lists in their places

abbrev pub fill : List Held → List Held → List Held
fill stored lists = map (λ (own : Held). unwrap_or (list_named own.name stored) own) lists

pub fill-nothing : (lists : List Held) → fill [] lists ≡ lists
fill-nothing [] = refl
fill-nothing (own ∷ lists) = ap (λ rest. own ∷ rest) (fill-nothing lists)

pub fill-empty : (stored : List Held) (names : List ListName) → fill stored (map nothing_held names) ≡ map (stored_or_nothing stored) names
fill-empty stored [] = refl
fill-empty stored (name ∷ names) = ap (λ rest. stored_or_nothing stored name ∷ rest) (fill-empty stored names)

fill_one : (stored : List Held) (held own : Held) → unwrap_or (list_named own.name (stored ++ held ∷ [])) own ≡ (let h : Held = put_one held own in unwrap_or (list_named h.name stored) h)
fill_one stored held own = go (same_name own.name held.name) refl
  where
    last : list_named own.name (stored ++ held ∷ []) ≡ option_or (list_named own.name stored) (cond (same_name held.name own.name) (Some held) None)
    last = find-append (λ (h : Held). same_name h.name own.name) stored (held ∷ [])

    either : (o : Option Held) (answer : Bool) → unwrap_or (option_or o (cond answer (Some held) None)) own ≡ unwrap_or o (cond answer held own)
    either (Some h) answer = refl
    either None true = refl
    either None false = refl

    go : (answer : Bool) → same_name own.name held.name ≡ answer → unwrap_or (list_named own.name (stored ++ held ∷ [])) own ≡ (let h : Held = cond answer held own in unwrap_or (list_named h.name stored) h)
    go true is =
        ap (λ o. unwrap_or o own) last ∙ either (list_named own.name stored) (same_name held.name own.name)
        ∙ ap (λ answer. unwrap_or (list_named own.name stored) (cond answer held own)) (same_back own.name held.name true is)
        ∙ ap (λ name. unwrap_or (list_named name stored) held) (name_is own.name held.name is)
    go false is =
        ap (λ o. unwrap_or o own) last ∙ either (list_named own.name stored) (same_name held.name own.name)
        ∙ ap (λ answer. unwrap_or (list_named own.name stored) (cond answer held own)) (same_back own.name held.name false is)

pub fill-last : (stored : List Held) (held : Held) (lists : List Held) → fill (stored ++ held ∷ []) lists ≡ fill stored (with_list_replaced held lists)
fill-last stored held [] = refl
fill-last stored held (own ∷ lists) =
    ap (λ first. first ∷ fill (stored ++ held ∷ []) lists) (fill_one stored held own)
    ∙ ap (λ rest. (let h : Held = put_one held own in unwrap_or (list_named h.name stored) h) ∷ rest) (fill-last stored held lists)
