-- Chunked bodies (RFC 9112, section 7.1), over the grammar of `httparse`: whole chunks one after the other, a last one of
-- size 0, and a trailer. A size line has at most 1,024 bytes, a trailer at most 16,384 bytes and 64 fields, a body at most
-- 1,048,576 chunks with the last one, and 201,326,592 bytes.
use Rattle.std.specs.Prelude.{◌≡◌, ◌≢◌, ℕ, ◌+◌, ◌<◌, ◌≤◌, ◌⊎◌, List, ◌++◌, length, take, drop, All}
use Rattle.std.specs.List.{flat_map, sum_by}
use Rattle.httparse.specs.Ascii.{crlf_bytes}
use Rattle.httparse.specs.Grammar.{ChunkLine, print_chunk_line, IsChunkLine, ReadsChunkLine, HasNoChunkLine, NeverHasChunkLine, MayBecomeChunkLine, chunk_size, Field, LineEnd, print_section, ReadsSection, HasNoSection, NeverHasSection, MayBecomeSection}
use Rattle.http_edge.specs.Fields.{capped}

-- a chunk with data
pub record ChunkOfData : Type 0 where
  pub line : ChunkLine
  pub content : List ℕ

abbrev pub print_chunk : ChunkOfData → List ℕ
print_chunk chunk = print_chunk_line chunk.line ++ chunk.content ++ crlf_bytes

pub record IsChunk (chunk : ChunkOfData) : Type 0 where
  pub line : IsChunkLine chunk.line
  pub short : length (print_chunk_line chunk.line) ≤ 1024
  pub some : 0 < chunk_size chunk.line
  pub whole : length chunk.content ≡ chunk_size chunk.line

abbrev pub data_size : List ChunkOfData → ℕ
data_size chunks = sum_by (λ chunk. length chunk.content) chunks

abbrev pub data_of : List ChunkOfData → List ℕ
data_of chunks = flat_map (λ chunk. chunk.content) chunks

-- Whole chunks stand at the front of a body, and these bytes follow them.
pub record BeginsWithChunks (body : List ℕ) (chunks : List ChunkOfData) (rest : List ℕ) : Type 0 where
  pub parts : body ≡ flat_map print_chunk chunks ++ rest
  pub each : All IsChunk chunks
  pub count : length chunks ≤ 1048576
  pub within : data_size chunks ≤ 201326592

-- They are followed by a further chunk, whose size line says this size.
pub record SaysSize (body : List ℕ) (chunks : List ChunkOfData) (size : ℕ) (rest : List ℕ) : Type 0 where
  pub line : ChunkLine
  pub at : List ℕ
  pub before : BeginsWithChunks body chunks at
  pub more : length chunks < 1048576
  pub reads : ReadsChunkLine at line rest
  pub short : length (print_chunk_line line) ≤ 1024
  pub said : chunk_size line ≡ size

-- A size line is refused, or is not whole in so many bytes as it may have.
abbrev pub HasBadLine : List ℕ → Type 0
HasBadLine bytes =
    NeverHasChunkLine (take 1024 bytes) ⊎ ((1024 ≤ length bytes) × HasNoChunkLine (take 1024 bytes))

abbrev pub HasOpenLine : List ℕ → Type 0
HasOpenLine bytes = (length bytes < 1024) × HasNoChunkLine bytes × MayBecomeChunkLine bytes

-- What follows the data is no CR LF, and no front of it.
abbrev pub HasBadEnd : List ℕ → Type 0
HasBadEnd bytes = take 2 bytes ≢ take (length bytes) crlf_bytes

abbrev pub HasOpenEnd : List ℕ → Type 0
HasOpenEnd bytes = (length bytes < 2) × (bytes ≡ take (length bytes) crlf_bytes)

-- A trailer stands at the front of the bytes.
pub record HasTrailer (bytes : List ℕ) (fields : List Field) : Type 0 where
  pub last : LineEnd
  pub rest : List ℕ
  pub reads : ReadsSection bytes fields last rest
  pub within : length (print_section fields last) ≤ 16384

abbrev pub HasBadTrailer : List ℕ → Type 0
HasBadTrailer bytes =
    NeverHasSection (take 16384 bytes)
    ⊎ ((16384 ≤ length bytes) × HasNoSection (take 16384 bytes))
    ⊎ ((fields : List Field) × HasTrailer bytes fields × (64 < length fields))

abbrev pub HasOpenTrailer : List ℕ → Type 0
HasOpenTrailer bytes = (length bytes < 16384) × HasNoSection bytes × MayBecomeSection bytes

-- The body is whole, and has this data.
pub record IsWholeBody (bytes body : List ℕ) : Type 0 where
  pub chunks : List ChunkOfData
  pub rest : List ℕ
  pub fields : List Field
  pub ends : SaysSize bytes chunks 0 rest
  pub trailer : HasTrailer rest fields
  pub few : length fields ≤ 64
  pub is : body ≡ data_of chunks

-- A chunk, the first that is wrong, is refused: it is one too many, or its size line, the end of its data or its trailer is
-- wrong. Chunks are counted from 1.
pub record HasBadChunk (bytes : List ℕ) (number : ℕ) : Type 0 where
  pub chunks : List ChunkOfData
  pub counted : number ≡ length chunks + 1
  pub wrong :
      ((rest : List ℕ) × BeginsWithChunks bytes chunks rest × ((length chunks ≡ 1048576) ⊎ HasBadLine rest))
      ⊎ ((size : ℕ) × (rest : List ℕ) × SaysSize bytes chunks size rest × (0 < size) × (data_size chunks + size ≤ 201326592)
      × (size ≤ length rest) × HasBadEnd (drop size rest))
      ⊎ ((rest : List ℕ) × SaysSize bytes chunks 0 rest × HasBadTrailer rest)

-- A size line says more than a body may have, with the chunks before it.
pub record PassesLimit (bytes : List ℕ) (total : ℕ) : Type 0 where
  pub chunks : List ChunkOfData
  pub size : ℕ
  pub rest : List ℕ
  pub says : SaysSize bytes chunks size rest
  pub sum : total ≡ capped (data_size chunks + size)
  pub past : 201326592 < data_size chunks + size

-- The body is not whole, and nothing in it is wrong.
pub record IsOpenBody (bytes : List ℕ) : Type 0 where
  pub chunks : List ChunkOfData
  pub inside :
      ((rest : List ℕ) × BeginsWithChunks bytes chunks rest × (length chunks < 1048576) × HasOpenLine rest)
      ⊎ ((size : ℕ) × (rest : List ℕ) × SaysSize bytes chunks size rest × (0 < size) × (data_size chunks + size ≤ 201326592)
      × ((length rest < size) ⊎ ((size ≤ length rest) × HasOpenEnd (drop size rest))))
      ⊎ ((rest : List ℕ) × SaysSize bytes chunks 0 rest × HasOpenTrailer rest)
