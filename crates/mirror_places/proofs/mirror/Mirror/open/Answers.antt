use Rattle.std.proofs.Common.{◌≡◌, List, [], ◌∷◌, ◌++◌, sym, ap, subst, ◌∙◌}
use Rattle.update_client.specs.Held.{Held}
use Rattle.mirror_places.specs.Places.{IsKeptMirror, Places, StandsForPlaces}
use Rattle.mirror_places.proofs.PlaceFacts.{first_kept, first_stands}
use Rattle.mirror_places.proofs.mirror.Mirror.open.Goals as goal

-- the lists of an empty vector with one more
one : (items none : List (List Held)) (lists : List Held) → items ≡ none ++ lists ∷ [] → none ≡ [] → items ≡ lists ∷ []
one items none lists is empty = is ∙ ap (λ (xs : List (List Held)). xs ++ lists ∷ []) empty

pub invariant_of-result : goal.invariant_of-result
invariant_of-result c =
    subst (λ (kept : List (List Held)). let mirror : Places = record { epoch = c.args.epoch; gone = 0; kept = kept } in IsKeptMirror mirror c.digests_of-digests.result.items)
    (sym (one c.push.new.self.items c.new_in-kept.result.items c.args.lists c.push.ensures.items c.new_in-kept.ensures))
    (first_kept c.args.epoch c.args.lists c.digests_of-digests.result.items c.know_place.ensures c.digests_of-digests.ensures)

pub returns-clause-stands : goal.returns-clause-stands
returns-clause-stands c =
    subst (λ (kept : List (List Held)). let mirror : Places = record { epoch = c.args.epoch; gone = 0; kept = kept } in StandsForPlaces mirror (c.args.lists ∷ []))
    (sym (one c.push.new.self.items c.new_in-kept.result.items c.args.lists c.push.ensures.items c.new_in-kept.ensures))
    (first_stands c.args.epoch c.args.lists c.know_place.ensures)
