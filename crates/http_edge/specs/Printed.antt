-- The printed causes of exchanges that gave no body.
use Rattle.std.specs.Prelude.{ℕ, List, ◌++◌, codes, decimal}
use Rattle.hex.specs.Hex.{encode_lower}
use Rattle.http_edge.specs.declared.faults.ExchangeFault.{ExchangeFault}
use Rattle.http_edge.specs.declared.faults.ExchangeFault.TheVariants.{Link, Head, HeadLimit, Status, NoLength, BodyLimit, Cut, NoDigest, Digest, Chunk}

abbrev pub exchange_cause_text : ExchangeFault → List ℕ
exchange_cause_text Link = codes "link"
exchange_cause_text Head = codes "head"
exchange_cause_text HeadLimit = codes "head-limit"
exchange_cause_text (Status status) = codes "status " ++ decimal status
exchange_cause_text NoLength = codes "no-length"
exchange_cause_text (BodyLimit length) = codes "body-limit " ++ decimal length
exchange_cause_text Cut = codes "cut"
exchange_cause_text NoDigest = codes "no-digest"
exchange_cause_text (Digest got given) = codes "digest " ++ encode_lower got ++ codes " " ++ encode_lower given
exchange_cause_text (Chunk chunk) = codes "chunk " ++ decimal chunk
