-- What received bytes say of the head of a message, over the grammar of `httparse`. A head has at most 16,384 bytes and 64
-- fields.
use Rattle.std.specs.Prelude.{◌≡◌, ◌≢◌, ℕ, ◌<◌, ◌≤◌, ◌⊎◌, List, length, take}
use Rattle.httparse.specs.Grammar.{Field, RequestHead, print_request, ReadsRequest, HasNoRequest, NeverHasRequest, MayBecomeRequest, ResponseHead, print_response, ReadsResponse, HasNoResponse, NeverHasResponse, MayBecomeResponse}
use Rattle.http_edge.specs.Fields.{length_said}
use Rattle.http_edge.specs.declared.fields.BodyLength.TheVariants.{Malformed}

-- the bytes in which a head has to stand
abbrev pub head_bytes : List ℕ → List ℕ
head_bytes bytes = take 16384 bytes

-- The fields of a head can be taken: they are not too many, and there is at most one length, which is a number.
pub record HasGoodFields (fields : List Field) : Type 0 where
  pub few : length fields ≤ 64
  pub length : length_said fields ≢ Malformed

abbrev pub HasBadFields : List Field → Type 0
HasBadFields fields = (64 < length fields) ⊎ (length_said fields ≡ Malformed)

-- A head stands at the front of the bytes, and these follow it.
pub record BeginsRequest (bytes : List ℕ) (head : RequestHead) (rest : List ℕ) : Type 0 where
  pub reads : ReadsRequest bytes head rest
  pub within : length (print_request head) ≤ 16384

pub record BeginsResponse (bytes : List ℕ) (head : ResponseHead) (rest : List ℕ) : Type 0 where
  pub reads : ReadsResponse bytes head rest
  pub within : length (print_response head) ≤ 16384

-- The bytes can no longer become a head that can be taken.
abbrev pub IsRefusedRequest : List ℕ → Type 0
IsRefusedRequest bytes =
    NeverHasRequest (head_bytes bytes)
    ⊎ ((head : RequestHead) × (rest : List ℕ) × BeginsRequest bytes head rest × HasBadFields head.fields)

abbrev pub IsRefusedResponse : List ℕ → Type 0
IsRefusedResponse bytes =
    NeverHasResponse (head_bytes bytes)
    ⊎ ((head : ResponseHead) × (rest : List ℕ) × BeginsResponse bytes head rest × HasBadFields head.fields)

-- No whole head is there yet, and more bytes may complete it.
pub record IsOpenRequest (bytes : List ℕ) : Type 0 where
  pub not_whole : HasNoRequest (head_bytes bytes)
  pub may_be : MayBecomeRequest (head_bytes bytes)

pub record IsOpenResponse (bytes : List ℕ) : Type 0 where
  pub not_whole : HasNoResponse (head_bytes bytes)
  pub may_be : MayBecomeResponse (head_bytes bytes)
