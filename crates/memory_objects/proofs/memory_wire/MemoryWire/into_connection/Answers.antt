use Rattle.memory_objects.proofs.WirePieces.{entry_of}
use Rattle.memory_objects.proofs.memory_wire.MemoryWire.into_connection.Goals as goal

pub returns : goal.returns
returns c =
    let entry = entry_of c.self.inside.has_ended c.self.inside.sends c.self.inside.written.items c.self.inside.given c.self.inside.read_faults c.self.inside.write_faults c.self.invariant.1 in
    rw (c.truncate.ensures, c.from_vec.ensures, ← c.self.view_is) entry
