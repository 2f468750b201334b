-- What the objects outside a client tell, and by how much more they tell later: the definitions of `client_line`.
pub use Rattle.client_line.specs.Told.{with_more, Outside, outside, Trace, no_trace, then_trace, Grows}
