-- New lists keep to what held lists keep to.
use Rattle.std.proofs.Common.{◌≡◌, ◌≤◌, List, [], ◌∷◌, length, map, refl, sym, ap, subst, ◌∙◌, arith}
use Rattle.std.specs.List.Sorted.{IsStrictlySortedBy}
use Rattle.std.proofs.lemmas.List.{length-map}
use Rattle.sb_model.specs.declared.names.ListName.{ListName}
use Rattle.sb_model.specs.Names.{name_cmp}
use Rattle.update_client.specs.Held.{Held, AreHeldLists, most_lists, nothing_held, nothing_held_of, in_order}
use Rattle.update_client.proofs.NameOrder.{rising-in_order, length-in_order}

names_of_nothing : (names : List ListName) → map (λ (held : Held). held.name) (map nothing_held names) ≡ names
names_of_nothing [] = refl
names_of_nothing (name ∷ names) = ap (λ rest. name ∷ rest) (names_of_nothing names)

pub born : (names : List ListName) (lists : List Held) → lists ≡ nothing_held_of names → length names ≤ most_lists → AreHeldLists lists
born names lists are few =
    let count : length (nothing_held_of names) ≡ length (in_order names) = length-map (in_order names) nothing_held in
    let same : map (λ (held : Held). held.name) lists ≡ in_order names = ap (map (λ (held : Held). held.name)) are ∙ names_of_nothing (in_order names) in
    let Rising : List ListName → Type 0 = λ ns. IsStrictlySortedBy name_cmp ns in
    record {
      few = omega (arith, ap length are, count, length-in_order names, few);
      rising = subst Rising (sym same) (rising-in_order names);
    }

-- lists with the same names
pub renamed : (old new : List Held) → map (λ (held : Held). held.name) new ≡ map (λ (held : Held). held.name) old → AreHeldLists old → AreHeldLists new
renamed old new same h =
    let Rising : List ListName → Type 0 = λ ns. IsStrictlySortedBy name_cmp ns in
    record {
      few = omega (arith, sym (length-map new (λ (held : Held). held.name)) ∙ ap length same ∙ length-map old (λ (held : Held). held.name), h.few);
      rising = subst Rising (sym same) h.rising;
    }
