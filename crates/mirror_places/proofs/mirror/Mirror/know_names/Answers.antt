use Rattle.std.proofs.Common.{◌≡◌, List, subst}
use Rattle.std.proofs.lemmas.List.Elements.{All-weaker}
use Rattle.sb_model.specs.declared.names.ListName.{ListName}
use Rattle.update_client.specs.Held.{Held}
use Rattle.mirror_places.specs.Places.{AreAtPlace, HaveSameNames, names_of_lists}
use Rattle.mirror_places.proofs.mirror.Mirror.know_names.Goals as goal

pub returns : goal.returns
returns c =
    let names : List ListName = c.self.invariant.names in
    subst HaveSameNames c.self.view_is (names, All-weaker (AreAtPlace names) (λ (lists : List Held). names_of_lists lists ≡ names) (λ lists at. at.named) c.self.inside.kept.items c.self.invariant.held)
