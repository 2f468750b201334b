use Rattle.find_desk.proofs.Decided.{looks_stay_in}
use Rattle.find_desk.proofs.laws.looks_stay.Goals as goal

pub returns : goal.returns
returns c = looks_stay_in
