-- What the bytes at a place say of the next chunk, and of a body that was read so far.
use Rattle.std.proofs.Common.{◌≡◌, ℕ, ◌+◌, ◌<◌, ◌≤◌, ◌⊎◌, List, [], ◌∷◌, ◌++◌, length, map, take, drop, min, refl, sym, ap, ◌∙◌, subst, arith, inl, inr, append_assoc, length-append, length-drop}
use Rattle.std.specs.List.{flat_map}
use Rattle.std.proofs.lemmas.List.{take-append-drop, length-take, length-take-le, length-map, take-append-le, drop-append-le, drop-drop, append-nil}
use Rattle.std.proofs.lemmas.List.Concat.{length-flat_map}
use Rattle.std.proofs.lemmas.List.Sums.{sum_by_push}
use Rattle.std.proofs.lemmas.List.Elements.{All-nil, All-push}
use Rattle.std.proofs.lemmas.Grind.{flat_map-append}
use Rattle.httparse.specs.Ascii.{crlf_bytes}
use Rattle.httparse.specs.Grammar.{ChunkLine, print_chunk_line, ReadsChunkLine, chunk_size, Field, LineEnd, print_section}
use Rattle.httparse.specs.Spans.{header_bytes, name_and_value, IsSectionAt}
use Rattle.httparse.specs.declared.spans.HeaderSpan.{HeaderSpan}
use Rattle.http_edge.specs.Fields.{capped}
use Rattle.http_edge.specs.Chunks.{ChunkOfData, print_chunk, IsChunk, data_size, data_of, SaysSize, HasBadLine, HasOpenLine, HasBadEnd, HasOpenEnd, HasTrailer, HasBadTrailer, HasOpenTrailer, IsWholeBody, HasBadChunk, PassesLimit, IsOpenBody}
use Rattle.http_edge.specs.ChunkSteps.{ReadsSize, HasChunk, IsReadTo}
use Rattle.http_edge.specs.declared.chunks.ChunkPlace.{ChunkPlace}

-- what stands at the front of a front stands at the front of the whole
front_reads : (n start : ℕ) (bytes front printed : List ℕ) → front ≡ take n bytes → front ≡ printed ++ drop start front → start ≤ length front
    → bytes ≡ printed ++ drop start bytes
front_reads n start bytes front printed is reads fits =
    let split : bytes ≡ front ++ drop n bytes = sym (take-append-drop n bytes) ∙ ap (λ (f : List ℕ). f ++ drop n bytes) (sym is) in
    split ∙ ap (λ (f : List ℕ). f ++ drop n bytes) reads ∙ append_assoc printed (drop start front) (drop n bytes)
    ∙ ap (λ (rest : List ℕ). printed ++ rest) (sym (drop-append-le start front (drop n bytes) fits))
    ∙ ap (λ (b : List ℕ). printed ++ drop start b) (sym split)

starts_within : (start : ℕ) (front printed : List ℕ) → front ≡ printed ++ drop start front → start ≡ length printed → start ≤ length front
starts_within start front printed reads len = omega (arith, ap length reads, length-append printed (drop start front), len)

pub line_of_front : (bytes front : List ℕ) (start size : ℕ) (l : ChunkLine) → front ≡ take 1024 bytes → ReadsChunkLine front l (drop start front)
    → start ≡ length (print_chunk_line l) → size ≡ chunk_size l → ReadsSize bytes start size
line_of_front bytes front start size l is reads len said =
    let fits : start ≤ length front = starts_within start front (print_chunk_line l) reads.1 len in
    let long : length front ≡ min 1024 (length bytes) = ap length is ∙ length-take 1024 bytes in
    record {
      line = l;
      reads = (reads.0, front_reads 1024 start bytes front (print_chunk_line l) is reads.1 fits);
      within = omega (arith, fits, long);
      short = omega (arith, fits, long, len);
      said = sym said;
    }

pub trailer_of_front : (bytes front : List ℕ) (headers : List HeaderSpan) (len count : ℕ) (fields : List Field) (last : LineEnd) → front ≡ take 16384 bytes
    → IsSectionAt front 0 headers len count fields last → HasTrailer bytes fields
trailer_of_front bytes front headers len count fields last is at =
    let fits : len ≤ length front = starts_within len front (print_section fields last) at.reads.1 (omega (arith, at.len_is)) in
    let long : length front ≡ min 16384 (length bytes) = ap length is ∙ length-take 16384 bytes in
    record {
      last = last;
      rest = drop len bytes;
      reads = (at.reads.0, front_reads 16384 len bytes front (print_section fields last) is at.reads.1 fits);
      within = omega (arith, fits, long, at.len_is);
    }

-- as many fields are counted as there are
pub fields_counted : (front : List ℕ) (headers : List HeaderSpan) (count : ℕ) (fields : List Field) → count ≤ length headers
    → map (header_bytes front) (take count headers) ≡ map name_and_value fields → length fields ≡ count
fields_counted front headers count fields fits same =
    sym (length-map fields name_and_value) ∙ sym (ap length same) ∙ length-map (take count headers) (header_bytes front) ∙ length-take-le count headers fits

-- ---- a body that was read so far

pub end_is : (body text : List ℕ) (place : ChunkPlace) (is : IsReadTo body text place) → place.end ≡ data_size is.chunks
end_is body text place is =
    sym (length-take-le place.end text (omega (arith, is.order, is.within))) ∙ ap length is.taken ∙ length-flat_map (λ (chunk : ChunkOfData). chunk.content) is.chunks

pub says_size : (body text : List ℕ) (place : ChunkPlace) (start size : ℕ) (is : IsReadTo body text place) → place.count < 1048576 → ReadsSize (drop place.at text) start size
    → SaysSize body is.chunks size (drop start (drop place.at text))
says_size body text place start size is less says = record {
  line = says.line;
  at = drop place.at text;
  before = is.before;
  more = omega (arith, less, is.counted);
  reads = says.reads;
  short = says.short;
  said = says.said;
}

next_number : (body text : List ℕ) (place : ChunkPlace) (is : IsReadTo body text place) → place.count + 1 ≡ length is.chunks + 1
next_number body text place is = ap (λ (n : ℕ). n + 1) is.counted

pub bad_line : (body text : List ℕ) (place : ChunkPlace) → HasBadLine (drop place.at text) → IsReadTo body text place → HasBadChunk body (place.count + 1)
bad_line body text place bad is = record {
  chunks = is.chunks;
  counted = next_number body text place is;
  wrong = inl (drop place.at text, is.before, inr bad);
}

pub bad_end : (body text : List ℕ) (place : ChunkPlace) (start size : ℕ) → place.count < 1048576 → ReadsSize (drop place.at text) start size → 0 < size
    → place.end + size ≤ 201326592 → size ≤ length (drop start (drop place.at text)) → HasBadEnd (drop size (drop start (drop place.at text)))
    → IsReadTo body text place → HasBadChunk body (place.count + 1)
bad_end body text place start size less says some allowed fits bad is = record {
  chunks = is.chunks;
  counted = next_number body text place is;
  wrong =
      let rest = drop start (drop place.at text) in
      inr (inl (size, rest, says_size body text place start size is less says, some, omega (arith, allowed, end_is body text place is), fits, bad));
}

pub bad_trailer : (body text : List ℕ) (place : ChunkPlace) (start : ℕ) → place.count < 1048576 → ReadsSize (drop place.at text) start 0
    → HasBadTrailer (drop start (drop place.at text)) → IsReadTo body text place → HasBadChunk body (place.count + 1)
bad_trailer body text place start less says bad is = record {
  chunks = is.chunks;
  counted = next_number body text place is;
  wrong = inr (inr (drop start (drop place.at text), says_size body text place start 0 is less says, bad));
}

pub too_long : (body text : List ℕ) (place : ChunkPlace) (start size total : ℕ) → place.count < 1048576 → ReadsSize (drop place.at text) start size
    → total ≡ capped (place.end + size) → 201326592 < place.end + size → IsReadTo body text place → PassesLimit body total
too_long body text place start size total less says sum past is =
    let same : place.end ≡ data_size is.chunks = end_is body text place is in
    record {
      chunks = is.chunks;
      size = size;
      rest = drop start (drop place.at text);
      says = says_size body text place start size is less says;
      sum = sum ∙ ap (λ (n : ℕ). capped (n + size)) same;
      past = omega (arith, past, same);
    }

pub last_chunk : (body text : List ℕ) (place : ChunkPlace) (start : ℕ) (fields : List Field) → place.count < 1048576 → ReadsSize (drop place.at text) start 0
    → HasTrailer (drop start (drop place.at text)) fields → length fields ≤ 64 → IsReadTo body text place → IsWholeBody body (take place.end text)
last_chunk body text place start fields less says trailer few is = record {
  chunks = is.chunks;
  rest = drop start (drop place.at text);
  fields = fields;
  ends = says_size body text place start 0 is less says;
  trailer = trailer;
  few = few;
  is = is.taken;
}

pub open_line : (body text : List ℕ) (place : ChunkPlace) → place.count < 1048576 → HasOpenLine (drop place.at text) → IsReadTo body text place → IsOpenBody body
open_line body text place less unread is = record {
  chunks = is.chunks;
  inside = inl (drop place.at text, is.before, omega (arith, less, is.counted), unread);
}

pub open_data : (body text : List ℕ) (place : ChunkPlace) (start size : ℕ) → place.count < 1048576 → ReadsSize (drop place.at text) start size → 0 < size
    → place.end + size ≤ 201326592
    → (length (drop start (drop place.at text)) < size) ⊎ ((size ≤ length (drop start (drop place.at text))) × HasOpenEnd (drop size (drop start (drop place.at text))))
    → IsReadTo body text place → IsOpenBody body
open_data body text place start size less says some allowed unread is = record {
  chunks = is.chunks;
  inside =
      let rest = drop start (drop place.at text) in
      inr (inl (size, rest, says_size body text place start size is less says, some, omega (arith, allowed, end_is body text place is), unread));
}

pub open_trailer : (body text : List ℕ) (place : ChunkPlace) (start : ℕ) → place.count < 1048576 → ReadsSize (drop place.at text) start 0
    → HasOpenTrailer (drop start (drop place.at text)) → IsReadTo body text place → IsOpenBody body
open_trailer body text place start less says unread is = record {
  chunks = is.chunks;
  inside = inr (inr (drop start (drop place.at text), says_size body text place start 0 is less says, unread));
}

-- ---- how far a body was read, when more bytes come, and when a chunk is taken out

pub nothing_read : (body : List ℕ) → IsReadTo body body (record { end = 0; at = 0; count = 0 })
nothing_read body = record {
  chunks = [];
  before = record { parts = refl; each = All-nil IsChunk; count = omega arith; within = omega arith };
  taken = refl;
  counted = refl;
  order = omega arith;
  within = omega arith;
}

pub read_more : (body text more : List ℕ) (place : ChunkPlace) → IsReadTo body text place → IsReadTo (body ++ more) (text ++ more) place
read_more body text more place is = record {
  chunks = is.chunks;
  before = record {
    parts =
        ap (λ (b : List ℕ). b ++ more) is.before.parts ∙ append_assoc (flat_map print_chunk is.chunks) (drop place.at text) more
        ∙ ap (λ (rest : List ℕ). flat_map print_chunk is.chunks ++ rest) (sym (drop-append-le place.at text more is.within));
    each = is.before.each;
    count = is.before.count;
    within = is.before.within;
  };
  taken = take-append-le place.end text more (omega (arith, is.order, is.within)) ∙ is.taken;
  counted = is.counted;
  order = is.order;
  within = omega (arith, is.within, length-append text more);
}

-- what was read of a body, when more bytes came after those that were given
pub step_read : (body given text grown more : List ℕ) (place : ChunkPlace) → IsReadTo (body ++ given) text place → grown ≡ text ++ more
    → IsReadTo (body ++ (given ++ more)) grown place
step_read body given text grown more place is whole =
    subst (λ (t : List ℕ). IsReadTo (body ++ (given ++ more)) t place) (sym whole)
    (subst (λ (b : List ℕ). IsReadTo b (text ++ more) place) (append_assoc body given more) (read_more (body ++ given) text more place is))

-- the chunk that stands at the front of the bytes
abbrev chunk_at : (bytes : List ℕ) (start size : ℕ) → HasChunk bytes start size → ChunkOfData
chunk_at bytes start size has = record { line = has.says.line; content = take size (drop start bytes) }

is_chunk : (bytes : List ℕ) (start size : ℕ) (has : HasChunk bytes start size) → IsChunk (chunk_at bytes start size has)
is_chunk bytes start size has = record {
  line = has.says.reads.0;
  short = has.says.short;
  some = omega (arith, has.some, has.says.said);
  whole = length-take-le size (drop start bytes) has.whole ∙ sym has.says.said;
}

chunk_printed : (bytes : List ℕ) (start size : ℕ) (has : HasChunk bytes start size)
    → bytes ≡ print_chunk (chunk_at bytes start size has) ++ drop 2 (drop size (drop start bytes))
chunk_printed bytes start size has =
    let line : List ℕ = print_chunk_line has.says.line in
    let after = drop start bytes in
    let end = drop size after in
    has.says.reads.1
    ∙ ap (λ (rest : List ℕ). line ++ rest) (
    sym (take-append-drop size after)
    ∙ ap (λ (rest : List ℕ). take size after ++ rest) (sym (take-append-drop 2 end) ∙ ap (λ (front : List ℕ). front ++ drop 2 end) has.ends))
    ∙ regroup line (take size after) crlf_bytes (drop 2 end)
  where
    regroup : (a b c d : List ℕ) → a ++ (b ++ (c ++ d)) ≡ ((a ++ b) ++ c) ++ d
    regroup a b c d = sym (append_assoc a b (c ++ d)) ∙ sym (append_assoc (a ++ b) c d)

pub chunk_fits : (text : List ℕ) (place : ChunkPlace) (start size : ℕ) → place.at ≤ length text → HasChunk (drop place.at text) start size
    → place.at + start + size + 2 ≤ length text
chunk_fits text place start size within has =
    let rest = drop place.at text in
    let two : min 2 (length (drop size (drop start rest))) ≡ 2 = sym (length-take 2 (drop size (drop start rest))) ∙ ap length has.ends in
    omega (arith, within, has.says.within, has.whole, two, length-drop size (drop start rest), length-drop start rest, length-drop place.at text)

pub chunk_taken : (body text moved : List ℕ) (place : ChunkPlace) (start size : ℕ) → HasChunk (drop place.at text) start size → place.end + size ≤ 201326592
    → place.count < 1048576 → length moved ≡ length text → take (place.end + size) moved ≡ take place.end text ++ take size (drop (place.at + start) text)
    → drop (place.at + start + size + 2) moved ≡ drop (place.at + start + size + 2) text → place.at + start + size + 2 ≤ length text → IsReadTo body text place
    → IsReadTo body moved (record { end = place.end + size; at = place.at + start + size + 2; count = place.count + 1 })
chunk_taken body text moved place start size has allowed less long front back fits is =
    let bytes = drop place.at text in
    let chunk = chunk_at bytes start size has in
    let after : drop start bytes ≡ drop (place.at + start) text = drop-drop start place.at text in
    let rest : drop 2 (drop size (drop start bytes)) ≡ drop (place.at + start + size + 2) text =
    ap (λ (b : List ℕ). drop 2 (drop size b)) after ∙ ap (drop 2) (drop-drop size (place.at + start) text) ∙ drop-drop 2 (place.at + start + size) text in
    let content : take size (drop start bytes) ≡ take size (drop (place.at + start) text) = ap (take size) after in
    let printed = flat_map print_chunk is.chunks in
    let single : flat_map print_chunk (chunk ∷ []) ≡ print_chunk chunk = append-nil (print_chunk chunk) in
    let data_single : data_of (chunk ∷ []) ≡ take size (drop start bytes) = append-nil (take size (drop start bytes)) in
    record {
      chunks = is.chunks ++ chunk ∷ [];
      before = record {
        parts =
            is.before.parts ∙ ap (λ (b : List ℕ). printed ++ b) (chunk_printed bytes start size has)
            ∙ sym (append_assoc printed (print_chunk chunk) (drop 2 (drop size (drop start bytes))))
            ∙ ap (λ (b : List ℕ). b ++ drop 2 (drop size (drop start bytes))) (ap (λ (one : List ℕ). printed ++ one) (sym single) ∙ sym (flat_map-append print_chunk is.chunks (chunk ∷ [])))
            ∙ ap (λ (b : List ℕ). flat_map print_chunk (is.chunks ++ chunk ∷ []) ++ b) (rest ∙ sym back);
        each = All-push IsChunk is.chunks chunk is.before.each (is_chunk bytes start size has);
        count = omega (arith, less, is.counted, length-append is.chunks (chunk ∷ []));
        within =
            omega (arith, allowed, end_is body text place is, sum_by_push (λ (c : ChunkOfData). length c.content) is.chunks chunk, length-take-le size (drop start bytes) has.whole);
      };
      taken =
          front ∙ ap (λ (b : List ℕ). b ++ take size (drop (place.at + start) text)) is.taken
          ∙ ap (λ (b : List ℕ). data_of is.chunks ++ b) (sym content ∙ sym data_single)
          ∙ sym (flat_map-append (λ (c : ChunkOfData). c.content) is.chunks (chunk ∷ []));
      counted = omega (arith, is.counted, length-append is.chunks (chunk ∷ []));
      order = omega (arith, is.order);
      within = omega (arith, fits, long);
    }
