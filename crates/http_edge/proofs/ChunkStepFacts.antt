-- What is decided of the chunk at a place, by its size line and what follows that.
use Rattle.std.proofs.Common.{◌≡◌, ℕ, ◌<◌, List, drop, Option, Some, None, sym, ap, ◌∙◌, subst}
use Rattle.std.specs.Prelude.{MatchOption, IfSome, IfNone}
use Rattle.http_edge.specs.Chunks.{HasOpenTrailer}
use Rattle.http_edge.specs.ChunkSteps.{ReadsSize, IsTrailerStep, IsDataStep, IsOpenData, IsChunkStep, IsOpenAt}
use Rattle.http_edge.specs.declared.chunks.ChunkPlace.{ChunkPlace}
use Rattle.http_edge.specs.declared.chunks.ChunkStep.{ChunkStep}
use Rattle.http_edge.specs.declared.chunks.ChunkStep.TheVariants.{Data, Last, Refused, Long}
use Rattle.http_edge.proofs.ChunkFacts.{bad_end, bad_trailer, too_long, last_chunk, open_data, open_trailer}

trailer_step : (text : List ℕ) (place : ChunkPlace) (start : ℕ) (step : ChunkStep) → place.count < 1048576 → ReadsSize (drop place.at text) start 0
    → IsTrailerStep (drop start (drop place.at text)) step → IsChunkStep text place step
trailer_step text place start Last less says (fields, trailer, few) = λ body is. last_chunk body text place start fields less says trailer few is
trailer_step text place start Refused less says bad = λ body is. bad_trailer body text place start less says bad is
trailer_step text place start (Data at size) less says is = absurd is
trailer_step text place start (Long total) less says is = absurd is

pub trailer_decided : (text rest after : List ℕ) (place : ChunkPlace) (start size : ℕ) (result : Option ChunkStep) → place.count < 1048576 → rest ≡ drop place.at text
    → after ≡ drop start rest → size ≡ 0 → ReadsSize rest start size → MatchOption result (HasOpenTrailer after) (IsTrailerStep after) → IfSome result (IsChunkStep text place)
trailer_decided text rest after place start size None less rest-is after-is none says step = tt
trailer_decided text rest after place start size (Some step) less rest-is after-is none says is =
    trailer_step text place start step less (subst (λ (bytes : List ℕ). ReadsSize bytes start 0) rest-is (subst (ReadsSize rest start) none says))
    (subst (λ (bytes : List ℕ). IsTrailerStep bytes step) (after-is ∙ ap (drop start) rest-is) is)

pub trailer_undecided : (text rest after : List ℕ) (place : ChunkPlace) (start size : ℕ) (result : Option ChunkStep) → place.count < 1048576 → rest ≡ drop place.at text
    → after ≡ drop start rest → size ≡ 0 → ReadsSize rest start size → MatchOption result (HasOpenTrailer after) (IsTrailerStep after) → IfNone result (IsOpenAt text place)
trailer_undecided text rest after place start size (Some step) less rest-is after-is none says is = tt
trailer_undecided text rest after place start size None less rest-is after-is none says unread = λ body is.
    open_trailer body text place start less (subst (λ (bytes : List ℕ). ReadsSize bytes start 0) rest-is (subst (ReadsSize rest start) none says))
    (subst HasOpenTrailer (after-is ∙ ap (drop start) rest-is) unread) is

data_step : (text : List ℕ) (place : ChunkPlace) (start size : ℕ) (step : ChunkStep) → place.count < 1048576 → 0 < size → ReadsSize (drop place.at text) start size
    → IsDataStep (drop start (drop place.at text)) start size place.end step → IsChunkStep text place step
data_step text place start size (Data at count) less some says (at-is, count-is, allowed, fits, ends) =
    subst (λ (n : ℕ). IsChunkStep text place (Data n count)) (sym at-is)
    (subst (λ (n : ℕ). IsChunkStep text place (Data start n)) (sym count-is) (record { says = says; some = some; whole = fits; ends = ends }, allowed, less))
data_step text place start size Refused less some says (allowed, fits, bad) = λ body is. bad_end body text place start size less says some allowed fits bad is
data_step text place start size (Long total) less some says (sum, past) = λ body is. too_long body text place start size total less says sum past is
data_step text place start size Last less some says is = absurd is

pub data_decided : (text rest after : List ℕ) (place : ChunkPlace) (start size : ℕ) (result : Option ChunkStep) → place.count < 1048576 → rest ≡ drop place.at text
    → after ≡ drop start rest → 0 < size → ReadsSize rest start size → MatchOption result (IsOpenData after size place.end) (IsDataStep after start size place.end)
    → IfSome result (IsChunkStep text place)
data_decided text rest after place start size None less rest-is after-is some says step = tt
data_decided text rest after place start size (Some step) less rest-is after-is some says is =
    data_step text place start size step less some (subst (λ (bytes : List ℕ). ReadsSize bytes start size) rest-is says)
    (subst (λ (bytes : List ℕ). IsDataStep bytes start size place.end step) (after-is ∙ ap (drop start) rest-is) is)

pub data_undecided : (text rest after : List ℕ) (place : ChunkPlace) (start size : ℕ) (result : Option ChunkStep) → place.count < 1048576 → rest ≡ drop place.at text
    → after ≡ drop start rest → 0 < size → ReadsSize rest start size → MatchOption result (IsOpenData after size place.end) (IsDataStep after start size place.end)
    → IfNone result (IsOpenAt text place)
data_undecided text rest after place start size (Some step) less rest-is after-is some says is = tt
data_undecided text rest after place start size None less rest-is after-is some says unread = λ body is.
    let here = subst (λ (bytes : List ℕ). IsOpenData bytes size place.end) (after-is ∙ ap (drop start) rest-is) unread in
    open_data body text place start size less (subst (λ (bytes : List ℕ). ReadsSize bytes start size) rest-is says) some here.0 here.1 is
