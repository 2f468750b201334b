use Rattle.sb_members.proofs.WrittenNames.{names_again}
use Rattle.sb_members.proofs.WrittenRows.{needed_again, defaults_again, items_again}
use Rattle.sb_members.proofs.laws.written_members_read_again.Goals as goal

pub returns : goal.returns
returns c = record {
  needed = needed_again c.encoded_bytes_read_again.ensures;
  defaults = defaults_again c.encoded_bytes_read_again.ensures;
  names = names_again;
  items = items_again c.encoded_bytes_read_again.ensures;
}
