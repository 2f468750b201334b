use Rattle.std.proofs.Common.{◌≡◌, ◌<◌, ◌∙◌, [], length, drop, ap, arith, length-drop}
use Rattle.std.proofs.lemmas.List.{nil_from_length}
use Rattle.gathering.specs.Wires.{all_left, bytes_waiting, bytes_of_text}
use Rattle.gathering.proofs.Leaves.{no_length, of_shared, shared_moves}
use Rattle.gathering.proofs.outgoing.Outgoing.advance.Goals as goal

pub returns-then-self-length_of-clause-bytes : goal.returns-then-self-length_of-clause-bytes
returns-then-self-length_of-clause-bytes c =
    let head = c.self.inside.head in
    let left = drop c.self.inside.sent (bytes_of_text c.self.inside.shared) in
    let none : length head.front ≡ 0 = no_length head.front c.front.result.now c.is_empty.result c.front.ensures.front c.is_empty.ensures c.if-not-is_empty.false in
    let empty = nil_from_length head.front none in
    let rest : head.rest ≡ [] = c.front.ensures.some (c.front.ensures.front ∙ empty) in
    let some : 0 < length left = omega (arith, length-drop c.self.inside.sent (bytes_of_text c.self.inside.shared), c.length_of.ensures) in
    let within = of_shared (length head.front) (length left) (length c.self.inside.tail.front) c.args.count none some (omega (arith, ap (λ s. s.front) c.self.view_is)) in
    shared_moves head.front head.rest (bytes_of_text c.self.inside.shared) (bytes_waiting c.self.inside.tail) (all_left c.args.self.now) c.self.inside.sent c.args.count empty rest (ap (λ s. all_left s) c.self.view_is) within
