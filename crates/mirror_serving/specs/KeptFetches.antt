-- What a mirror keeps of its answers: to a fetch request with the same body, and to one that wishes the same, the same text is right, as
-- long as its places and its wait are the same. No answer to a find is kept.
use Rattle.std.specs.Prelude.{◌≡◌, ℕ, List, [], IfSome}
use Rattle.http_edge.specs.declared.messages.MediaType.TheVariants.{Json}
use Rattle.http_edge.specs.declared.messages.Status.TheVariants.{Success}
use Rattle.http_serving.specs.Kept.{HoldsOfAnswers, KeptLists}
use Rattle.http_serving.specs.Written.{IsTextOfRight}
use Rattle.http_serving.specs.declared.kept.KeptAnswer.{KeptAnswer}
use Rattle.mirror_places.specs.Places.{Places}
use Rattle.mirror_serving.specs.PlaceWish.{IsPlaceWishText}
use Rattle.mirror_serving.specs.Response.{IsMirrorText}
use Rattle.mirror_serving.specs.declared.wish.PlaceWish.{PlaceWish}

-- A kept answer is one of a mirror that tells this wait: its text is that of a response with the status 200, JSON as its type, and the
-- updates for which the kept body asks, and of one with the answer to the kept wishes.
pub record IsKeptOfMirror (mirror : Places) (wait : ℕ) (kept : KeptAnswer (List PlaceWish)) : Type 0 where
  pub asked : IsTextOfRight (λ status fields body cause. (fields.media ≡ Json) × IsMirrorText mirror wait kept.asked body) Success [] kept.text
  pub wished : IfSome kept.meaning (λ wishes. IsTextOfRight (λ status fields body cause. (fields.media ≡ Json) × IsPlaceWishText mirror wait wishes body) Success [] kept.text)

-- Each kept answer is one.
abbrev pub AreKeptOfMirror : Places → ℕ → KeptLists (List PlaceWish) → Type 0
AreKeptOfMirror mirror wait kept = HoldsOfAnswers (IsKeptOfMirror mirror wait) kept
