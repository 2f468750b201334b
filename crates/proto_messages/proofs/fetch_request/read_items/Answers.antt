use Rattle.std.proofs.Common.{◌≡◌, ◌+◌, ◌∷◌, ◌∙◌, List, length, Ok, sym, ap, arith}
use Rattle.proto_wire.specs.Wire.{WireValue}
use Rattle.proto_wire.specs.Given.{given_value}
use Rattle.sb_json.specs.Values.{◌>>=◌}
use Rattle.proto_messages.specs.declared.fetch_request.AskedLists.{AskedLists}
use Rattle.proto_messages.specs.Rows.{items_numbered_from}
use Rattle.proto_messages.specs.Fetch as spec
use Rattle.proto_messages.proofs.ItemFacts.{items_next, count_next}
use Rattle.proto_messages.proofs.fetch_request.read_items.Goals as goal

pub loop-value-preserved : goal.loop-value-preserved
loop-value-preserved c =
    let l = c.loop-value in
    let value = given_value c.in-Some.value in
    let rest = c.next.new.self in
    let item = c.in_ok-item.item in
    let is : l.values ≡ value ∷ rest = c.in-Some.ensures.value in
    let read : spec.asked_of value ≡ Ok item = c.in_ok-item.ensures.ok in
    let asked : c.in_ok-asked.asked ≡ spec.with_asked_item l.asked item = c.in_ok-asked.ensures in
    record {
      read =
          l.invariant.read ∙ ap (λ (values : List WireValue). items_numbered_from spec.asked_of l.number values >>= λ more. Ok (spec.more_asked l.asked more)) is
          ∙ items_next l.asked item l.number value rest read
          ∙ ap (λ (a : AskedLists). items_numbered_from spec.asked_of (l.number + 1) rest >>= λ more. Ok (spec.more_asked a more)) (sym asked);
      named =
          l.invariant.named ∙ ap (λ (values : List WireValue). length l.asked.lists + spec.named_items_count values) is
          ∙ sym (count_next l.asked item value rest read)
          ∙ ap (λ (a : AskedLists). length a.lists + spec.named_items_count rest) (sym asked);
      few = omega (arith, ap length is);
    }
