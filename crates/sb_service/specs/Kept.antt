-- What a list server keeps of its answers: to a request for updates with the same body, and to one that wishes the same, the same text is
-- right, as long as nothing changed.
use Rattle.std.specs.Prelude.{◌≡◌, List, [], Bool, IfSome}
use Rattle.std.specs.Cmp.Lexicographic.{pointwise}
use Rattle.std.specs.List.{list_all}
use Rattle.sb_model.specs.History.{History}
use Rattle.http_edge.specs.declared.messages.MediaType.TheVariants.{Json}
use Rattle.http_edge.specs.declared.messages.Status.TheVariants.{Success}
use Rattle.http_serving.specs.Kept.{HoldsOfAnswers, KeptLists}
use Rattle.http_serving.specs.Written.{IsTextOfRight}
use Rattle.http_serving.specs.declared.kept.KeptAnswer.{KeptAnswer}
use Rattle.delta_server.specs.declared.answering.Settings.{Settings}
use Rattle.sb_service.specs.declared.wish.Wish.{Wish}
use Rattle.sb_service.specs.Connection.{IsUpdatesText}
use Rattle.sb_service.specs.Wish.{is_whole, same_wish, IsWishedText}

-- A kept answer is one of a history, by a server with these times: its text is that of a response with the status 200, JSON as its
-- type, and the updates for which the kept body asks, and of one with the answer to the kept wishes.
pub record IsKeptOf (history : History) (times : Settings) (kept : KeptAnswer (List Wish)) : Type 0 where
  pub asked : IsTextOfRight (λ status fields body cause. (fields.media ≡ Json) × IsUpdatesText history times kept.asked body) Success [] kept.text
  pub wished : IfSome kept.meaning (λ wishes. IsTextOfRight (λ status fields body cause. (fields.media ≡ Json) × IsWishedText history times wishes body) Success [] kept.text)

-- Each kept answer is one.
abbrev pub AreKeptOf : History → Settings → KeptLists (List Wish) → Type 0
AreKeptOf history times kept = HoldsOfAnswers (IsKeptOf history times) kept

-- whether two requests wish the same, item by item
abbrev pub same_wishes : (wishes others : List Wish) → Bool
same_wishes wishes others = pointwise same_wish wishes others

-- whether each item wishes a whole list: such answers have the first room
abbrev pub are_whole : List Wish → Bool
are_whole wishes = list_all is_whole wishes
