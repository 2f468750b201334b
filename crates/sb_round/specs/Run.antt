-- The lists after the responses so far. A body is seen as its updates, in order; one that has no reading has none.
use Rattle.std.specs.Prelude.{List, fold}
use Rattle.update_messages.specs.Messages.{UpdatedList}
use Rattle.update_client.specs.Held.{Held}
use Rattle.update_client.specs.Step.{after_updates}

abbrev pub lists_after : List Held → List (List UpdatedList) → List Held
lists_after lists bodies = fold after_updates lists bodies
