use Rattle.std.proofs.Common.{◌<◌, [], ◌∷◌, ◌++◌, sym, subst}
use Rattle.mirror_places.specs.Places.{Places, StandsForPlaces, last_place, newest_place}
use Rattle.mirror_places.proofs.PlaceFacts.{HasNewestNames, pushed_is, pushed_stands}
use Rattle.mirror_places.proofs.mirror.Mirror.push.Goals as goal

pub returns-clause-stands : goal.returns-clause-stands
returns-clause-stands c = λ places stands.
    let mirror : Places = record { epoch = c.self.inside.epoch; gone = c.self.inside.gone; kept = c.self.inside.kept.items } in
    subst (λ (made : Places). StandsForPlaces made (places ++ c.args.lists ∷ []))
    (sym (pushed_is mirror c.args.lists c.slide.result c.slide.new.kept.items c.slide.ensures.dropped c.slide.ensures.kept))
    (pushed_stands mirror c.args.lists c.know_place.ensures places
    (subst (λ (m : Places). StandsForPlaces m places) (sym c.self.view_is) stands)
    (subst (λ (m : Places). newest_place m < last_place) (sym c.self.view_is) c.requires.more)
    (subst (λ (m : Places). HasNewestNames m c.args.lists) (sym c.self.view_is) c.requires.names))
