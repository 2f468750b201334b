-- How a request is received, piece by piece.
use Rattle.std.specs.Prelude.{◌≡◌, ℕ, ◌<◌, ◌≤◌, List, ◌++◌, length, take, drop, map, All, Option}
use Rattle.sb_outside.specs.Outside.{GivesFront}
use Rattle.sb_outside.specs.Reading.{ReadsToEnd}
use Rattle.httparse.specs.declared.spans.HeaderSpan.{HeaderSpan}
use Rattle.httparse.specs.declared.spans.RequestSpans.{RequestSpans}
use Rattle.httparse.specs.Grammar.{RequestHead, print_request, ReadsRequest}
use Rattle.httparse.specs.Spans.{IsWithin, IsHeaderWithin, span_bytes, header_bytes, name_and_value}
use Rattle.http_edge.specs.Fields.{content_type_said}
use Rattle.http_edge.specs.Heads.{IsRefusedRequest, IsOpenRequest}
use Rattle.http_edge.specs.Requests.{HasRequest}
use Rattle.http_edge.specs.SessionBytes.{ReadsWhile, IsShort}
use Rattle.http_edge.specs.declared.requests.RequestParts.{RequestParts}
use Rattle.http_edge.specs.declared.requests.RequestStep.{RequestStep}
use Rattle.http_edge.specs.declared.requests.RequestStep.TheVariants.{Whole, Refused, Open}

-- The parser found a head at the front of a buffer, and these are its fields.
pub record IsFound (buffer : List ℕ) (fields : List HeaderSpan) (spans : RequestSpans) (head : RequestHead) : Type 0 where
  pub reads : ReadsRequest buffer head (drop spans.len buffer)
  pub len : spans.len ≡ length (print_request head)
  pub within : spans.len ≤ length buffer
  pub method : span_bytes buffer spans.method ≡ head.method
  pub path : span_bytes buffer spans.path ≡ head.target
  pub fields_are : map (header_bytes buffer) fields ≡ map name_and_value head.fields

pub record HasSpansWithin (buffer : List ℕ) (fields : List HeaderSpan) (spans : RequestSpans) : Type 0 where
  pub method : IsWithin (length buffer) spans.method
  pub path : IsWithin (length buffer) spans.path
  pub fields_fit : All (IsHeaderWithin (length buffer)) fields

-- What was taken of the head at the front of a text.
pub record IsPartsOf (text : List ℕ) (parts : RequestParts) : Type 0 where
  pub head : RequestHead
  pub has : HasRequest text head (drop parts.start text) parts.length
  pub within : parts.start ≤ length text
  pub method : parts.method ≡ head.method
  pub target : parts.target ≡ head.target
  pub content_type : parts.content_type ≡ content_type_said head.fields

-- what a text so far says of the head
abbrev pub IsRequestStep : List ℕ → RequestStep → Type 0
IsRequestStep text (Whole parts) = IsPartsOf text parts
IsRequestStep text Refused = IsRefusedRequest text
IsRequestStep text Open = IsOpenRequest text

-- A source gave some bytes and then its end, and a text with them has fewer bytes than are wanted.
pub record EndsShort (text : List ℕ) (wanted : ℕ) (before after : Option (List (List ℕ))) : Type 0 where
  pub given : List ℕ
  pub gives : ReadsToEnd given before after
  pub reads : ReadsWhile (IsShort text wanted) given
  pub short : length (text ++ given) < wanted

-- A source gave some bytes, and a text with them has the wanted ones, which are kept.
pub record FillsUp (text filled : List ℕ) (wanted : ℕ) (before after : Option (List (List ℕ))) : Type 0 where
  pub given : List ℕ
  pub gives : GivesFront given before after
  pub reads : ReadsWhile (IsShort text wanted) given
  pub enough : wanted ≤ length (text ++ given)
  pub is : filled ≡ take wanted (text ++ given)

-- One read of a source gave bytes, and a text grew by them.
pub record GrowsBySome (text grown : List ℕ) (before after : Option (List (List ℕ))) : Type 0 where
  pub given : List ℕ
  pub some : 0 < length given
  pub short : length given ≤ 65536
  pub whole : grown ≡ text ++ given
  pub gives : GivesFront given before after

-- A source gave some bytes, and then a read failed.
pub record FailsShort (text : List ℕ) (wanted : ℕ) (before after : Option (List (List ℕ))) : Type 0 where
  pub given : List ℕ
  pub gives : GivesFront given before after
  pub reads : ReadsWhile (IsShort text wanted) given
  pub short : length (text ++ given) < wanted

-- A source gave some bytes.
pub record GivesWhile (needs : List ℕ → Type 0) (before after : Option (List (List ℕ))) : Type 0 where
  pub given : List ℕ
  pub gives : GivesFront given before after
  pub reads : ReadsWhile needs given
