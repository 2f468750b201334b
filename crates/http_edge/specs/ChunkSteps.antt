-- How a chunked body is read, chunk by chunk: what the bytes from a place on say of the next one, and how far a body was read.
use Rattle.std.specs.Prelude.{◌≡◌, ℕ, ◌+◌, ◌<◌, ◌≤◌, ◌⊎◌, List, ◌++◌, length, take, drop, MatchBool, Bool, IsTrue, ⊤}
use Rattle.httparse.specs.Ascii.{crlf_bytes}
use Rattle.httparse.specs.Grammar.{ChunkLine, print_chunk_line, ReadsChunkLine, chunk_size, Field}
use Rattle.http_edge.specs.Fields.{capped}
use Rattle.http_edge.specs.Chunks.{ChunkOfData, data_of, BeginsWithChunks, HasBadLine, HasOpenLine, HasBadEnd, HasOpenEnd, HasTrailer, HasBadTrailer, IsWholeBody, HasBadChunk, PassesLimit, IsOpenBody}
use Rattle.http_edge.specs.declared.chunks.ChunkPlace.{ChunkPlace}
use Rattle.http_edge.specs.declared.chunks.ChunkStep.{ChunkStep}
use Rattle.http_edge.specs.declared.chunks.ChunkStep.TheVariants as chunk
use Rattle.http_edge.specs.declared.chunks.LineStep.{LineStep}
use Rattle.http_edge.specs.declared.chunks.LineStep.TheVariants as line
use Rattle.http_edge.specs.declared.chunks.EndStep.{EndStep}
use Rattle.http_edge.specs.declared.chunks.EndStep.TheVariants as end
use Rattle.http_edge.specs.declared.faults.ExchangeFault.{ExchangeFault}
use Rattle.http_edge.specs.declared.faults.ExchangeFault.TheVariants.{Link, Head, HeadLimit, Status, NoLength, BodyLimit, Cut, NoDigest, Digest, Chunk}
use Rattle.http_edge.specs.declared.session_bytes.ReceiveFault.{ReceiveFault}
use Rattle.http_edge.specs.declared.session_bytes.ReceiveFault.TheVariants.{Fault, OutOfMemory}

-- A size line stands at the front of the bytes, ends here, and says this size.
pub record ReadsSize (bytes : List ℕ) (start size : ℕ) : Type 0 where
  pub line : ChunkLine
  pub reads : ReadsChunkLine bytes line (drop start bytes)
  pub within : start ≤ length bytes
  pub short : length (print_chunk_line line) ≤ 1024
  pub said : chunk_size line ≡ size

-- what the bytes say of a size line, and of the end of a chunk's data
abbrev pub IsLineStep : List ℕ → LineStep → Type 0
IsLineStep bytes (line.Says start size) = ReadsSize bytes start size
IsLineStep bytes line.Refused = HasBadLine bytes
IsLineStep bytes line.Open = HasOpenLine bytes

abbrev pub IsEndStep : List ℕ → EndStep → Type 0
IsEndStep bytes end.Whole = take 2 bytes ≡ crlf_bytes
IsEndStep bytes end.Refused = HasBadEnd bytes
IsEndStep bytes end.Open = HasOpenEnd bytes

-- what is decided of a chunk by the bytes after a size line that says 0
abbrev pub IsTrailerStep : List ℕ → ChunkStep → Type 0
IsTrailerStep bytes chunk.Last = (fields : List Field) × HasTrailer bytes fields × (length fields ≤ 64)
IsTrailerStep bytes chunk.Refused = HasBadTrailer bytes
IsTrailerStep bytes (chunk.Data start size) = ⊥
IsTrailerStep bytes (chunk.Long total) = ⊥

-- the same after a size line that says this size, where the chunks before have so many bytes
abbrev pub IsDataStep : List ℕ → ℕ → ℕ → ℕ → ChunkStep → Type 0
IsDataStep bytes start size before (chunk.Data at count) =
    (at ≡ start) × (count ≡ size) × (before + size ≤ 201326592) × (size ≤ length bytes) × (take 2 (drop size bytes) ≡ crlf_bytes)
IsDataStep bytes start size before chunk.Refused = (before + size ≤ 201326592) × (size ≤ length bytes) × HasBadEnd (drop size bytes)
IsDataStep bytes start size before (chunk.Long total) = (total ≡ capped (before + size)) × (201326592 < before + size)
IsDataStep bytes start size before chunk.Last = ⊥

abbrev pub IsOpenData : List ℕ → ℕ → ℕ → Type 0
IsOpenData bytes size before =
    (before + size ≤ 201326592) × ((length bytes < size) ⊎ ((size ≤ length bytes) × HasOpenEnd (drop size bytes)))

-- A whole chunk stands at the front of the bytes: a size line, as much data from here on, and CR LF.
pub record HasChunk (bytes : List ℕ) (start size : ℕ) : Type 0 where
  pub says : ReadsSize bytes start size
  pub some : 0 < size
  pub whole : size ≤ length (drop start bytes)
  pub ends : take 2 (drop size (drop start bytes)) ≡ crlf_bytes

-- A body was read so far: its whole chunks were taken out, their data stands at the front of a text, and what follows them
-- stands there from a place on.
pub record IsReadTo (body text : List ℕ) (place : ChunkPlace) : Type 0 where
  pub chunks : List ChunkOfData
  pub before : BeginsWithChunks body chunks (drop place.at text)
  pub taken : take place.end text ≡ data_of chunks
  pub counted : place.count ≡ length chunks
  pub order : place.end ≤ place.at
  pub within : place.at ≤ length text

-- what is decided of the chunk at a place
abbrev pub IsChunkStep : List ℕ → ChunkPlace → ChunkStep → Type 0
IsChunkStep text place (chunk.Data start size) =
    HasChunk (drop place.at text) start size × (place.end + size ≤ 201326592) × (place.count < 1048576)
IsChunkStep text place chunk.Last = (body : List ℕ) → IsReadTo body text place → IsWholeBody body (take place.end text)
IsChunkStep text place chunk.Refused = (body : List ℕ) → IsReadTo body text place → HasBadChunk body (place.count + 1)
IsChunkStep text place (chunk.Long total) = (body : List ℕ) → IsReadTo body text place → PassesLimit body total

-- Nothing is decided of it yet.
abbrev pub IsOpenAt : List ℕ → ChunkPlace → Type 0
IsOpenAt text place = (body : List ℕ) → IsReadTo body text place → IsOpenBody body

-- the same of a text with further bytes, and of a body with them
abbrev pub IsOpenWith : List ℕ → ChunkPlace → List ℕ → Type 0
IsOpenWith text place given = IsOpenAt (text ++ given) place

abbrev pub IsOpenBodyWith : List ℕ → List ℕ → Type 0
IsOpenBodyWith body given = IsOpenBody (body ++ given)

-- the bytes of a chunked body, and their end where it came, come to this fault
abbrev pub IsFaultOfBody : List ℕ → Bool → ExchangeFault → Type 0
IsFaultOfBody bytes ended (BodyLimit n) = PassesLimit bytes n
IsFaultOfBody bytes ended Cut = IsTrue ended × IsOpenBody bytes
IsFaultOfBody bytes ended (Chunk number) = HasBadChunk bytes number
IsFaultOfBody bytes ended Link = ⊥
IsFaultOfBody bytes ended Head = ⊥
IsFaultOfBody bytes ended HeadLimit = ⊥
IsFaultOfBody bytes ended (Status status) = ⊥
IsFaultOfBody bytes ended NoLength = ⊥
IsFaultOfBody bytes ended NoDigest = ⊥
IsFaultOfBody bytes ended (Digest got given) = ⊥

-- the same of a session that failed or did not
abbrev pub IsFaultOfChunks : List ℕ → Bool → Bool → ReceiveFault → Type 0
IsFaultOfChunks bytes ended failed (Fault fault) = MatchBool failed (fault ≡ Link) (IsFaultOfBody bytes ended fault)
IsFaultOfChunks bytes ended failed OutOfMemory = ⊤
