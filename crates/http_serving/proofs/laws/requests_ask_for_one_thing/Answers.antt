use Rattle.http_serving.proofs.RoutedAnswers.{asks_for_one}
use Rattle.http_serving.proofs.laws.requests_ask_for_one_thing.Goals as goal

pub returns : goal.returns
returns c = asks_for_one
