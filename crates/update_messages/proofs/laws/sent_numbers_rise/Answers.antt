use Rattle.update_messages.proofs.RisingNumbers.{places_rise, members_rise}
use Rattle.update_messages.proofs.laws.sent_numbers_rise.Goals as goal

pub returns : goal.returns
returns c = record { places = places_rise; numbers = members_rise }
