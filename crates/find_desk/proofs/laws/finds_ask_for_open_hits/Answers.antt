use Rattle.find_desk.proofs.Decided.{ask_for_first_looks, ask_for_open_hits}
use Rattle.find_desk.proofs.laws.finds_ask_for_open_hits.Goals as goal

pub returns : goal.returns
returns c = record { were_open = ask_for_open_hits; all_open = ask_for_first_looks }
