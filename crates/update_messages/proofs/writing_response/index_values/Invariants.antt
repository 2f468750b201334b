use Rattle.std.proofs.Common.{◌≡◌, take, map}
use Rattle.serde_json.specs.Data.{number, unsigned}
use Rattle.serde_json.specs.View.{view}
use Rattle.update_messages.proofs.writing_response.index_values.Given as goal

abbrev pub invariant-loop-index : goal.invariant-loop-index
invariant-loop-index l = map view l.values.items ≡ map (λ index. number (unsigned index)) (take l.index-index l.indices)
