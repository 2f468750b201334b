-- A chunked body comes to one thing: its whole chunks stop at one place, and one thing stands there.
use Rattle.std.proofs.Common.{◌≡◌, ℕ, ◌+◌, ◌-◌, ◌<◌, ◌≤◌, ◌⊎◌, List, [], ◌∷◌, ◌++◌, length, take, drop, zero, suc, refl, sym, ap, ◌∙◌, subst, arith, inl, inr, append_assoc, length-append}
use Rattle.std.specs.Prelude.{All}
use Rattle.std.specs.List.{flat_map}
use Rattle.std.proofs.lemmas.List.{take-append-drop, take-append-le, take_all, append_cancel_left}
use Rattle.std.proofs.lemmas.List.Elements.{All-head, All-tail}
use Rattle.std.proofs.lemmas.List.Sums.{sum_by-cons}
use Rattle.httparse.specs.Ascii.{crlf_bytes}
use Rattle.httparse.specs.Grammar.{ChunkLine, print_chunk_line, ReadsChunkLine, chunk_size, Field, print_section}
use Rattle.httparse.proofs.ChunkLemmas.{chunk_line_unique}
use Rattle.httparse.proofs.GrammarLemmas.{section_unique}
use Rattle.http_edge.specs.Chunks.{ChunkOfData, print_chunk, IsChunk, data_size, data_of, BeginsWithChunks, SaysSize, HasBadLine, HasOpenLine, HasBadEnd, HasOpenEnd, HasTrailer, HasBadTrailer, HasOpenTrailer, IsWholeBody, HasBadChunk, PassesLimit, IsOpenBody}

-- what stands at the front of a text stands at the front of so much of it as has room for that
pub in_front : (n : ℕ) (text front rest : List ℕ) → text ≡ front ++ rest → length front ≤ n → take n text ≡ front ++ take (n - length front) rest
in_front n text [] rest is fits = ap (take n) is ∙ ap (λ (k : ℕ). take k rest) (omega arith)
in_front zero text (byte ∷ front) rest is fits =
    let long : length (byte ∷ front) ≡ length front + 1 = omega arith in
    absurd (omega (arith, fits, long))
in_front (suc n) text (byte ∷ front) rest is fits =
    let long : length (byte ∷ front) ≡ length front + 1 = omega arith in
    let left : n - length front ≡ suc n - length (byte ∷ front) = omega (arith, long) in
    ap (take (suc n)) is ∙ ap (λ (t : List ℕ). byte ∷ t) (in_front n (front ++ rest) front rest refl (omega (arith, fits, long)))
    ∙ ap (λ (k : ℕ). byte ∷ (front ++ take k rest)) left

-- ---- size lines, trailers and the ends of chunks

-- A size line of at most 1,024 bytes stands at the front, says this size, and these bytes follow it.
record LineAt (at rest : List ℕ) (size : ℕ) : Type 0 where
  line : ChunkLine
  reads : ReadsChunkLine at line rest
  short : length (print_chunk_line line) ≤ 1024
  said : chunk_size line ≡ size

line_at : (body : List ℕ) (chunks : List ChunkOfData) (size : ℕ) (rest : List ℕ) (says : SaysSize body chunks size rest) → LineAt says.at rest size
line_at body chunks size rest says = record { line = says.line; reads = says.reads; short = says.short; said = says.said }

one_line : (at r q : List ℕ) (n m : ℕ) → LineAt at r n → LineAt at q m → (r ≡ q) × (n ≡ m)
one_line at r q n m a b =
    let same = chunk_line_unique at a.line b.line r q a.reads b.reads in
    (same.1, sym a.said ∙ ap chunk_size same.0 ∙ b.said)

line_not_bad : (at rest : List ℕ) (size : ℕ) → LineAt at rest size → HasBadLine at → ⊥
line_not_bad at rest size a (inl never) = never (drop 1024 at) a.line rest (a.reads.0, take-append-drop 1024 at ∙ a.reads.1)
line_not_bad at rest size a (inr (long, none)) =
    none a.line (take (1024 - length (print_chunk_line a.line)) rest) (a.reads.0, in_front 1024 at (print_chunk_line a.line) rest a.reads.1 a.short)

line_not_open : (at rest : List ℕ) (size : ℕ) → LineAt at rest size → HasOpenLine at → ⊥
line_not_open at rest size a (short, none, may) = none a.line rest a.reads

open_line_not_bad : (at : List ℕ) → HasOpenLine at → HasBadLine at → ⊥
open_line_not_bad at (short, none, (more, line, reads)) (inl never) =
    let whole : take 1024 at ≡ at = take_all 1024 at (omega (arith, short)) in
    never more line [] (reads.0, ap (λ (t : List ℕ). t ++ more) whole ∙ reads.1)
open_line_not_bad at (short, none, may) (inr (long, none-whole)) = omega (arith, short, long)

trailer_one : (at : List ℕ) (f g : List Field) → HasTrailer at f → HasTrailer at g → f ≡ g
trailer_one at f g a b = (section_unique at f g a.last b.last a.rest b.rest a.reads b.reads).0

trailer_not_bad : (at : List ℕ) (f : List Field) → HasTrailer at f → length f ≤ 64 → HasBadTrailer at → ⊥
trailer_not_bad at f a few (inl never) = never (drop 16384 at) f a.last a.rest (a.reads.0, take-append-drop 16384 at ∙ a.reads.1)
trailer_not_bad at f a few (inr (inl (long, none))) =
    none f a.last (take (16384 - length (print_section f a.last)) a.rest) (a.reads.0, in_front 16384 at (print_section f a.last) a.rest a.reads.1 a.within)
trailer_not_bad at f a few (inr (inr (g, b, many))) = omega (arith, few, many, ap length (trailer_one at f g a b))

trailer_not_open : (at : List ℕ) (f : List Field) → HasTrailer at f → HasOpenTrailer at → ⊥
trailer_not_open at f a (short, none, may) = none f a.last a.rest a.reads

open_trailer_not_bad : (at : List ℕ) → HasOpenTrailer at → HasBadTrailer at → ⊥
open_trailer_not_bad at (short, none, (more, f, last, reads)) (inl never) =
    let whole : take 16384 at ≡ at = take_all 16384 at (omega (arith, short)) in
    never more f last [] (reads.0, ap (λ (t : List ℕ). t ++ more) whole ∙ reads.1)
open_trailer_not_bad at (short, none, may) (inr (inl (long, none-whole))) = omega (arith, short, long)
open_trailer_not_bad at (short, none, may) (inr (inr (f, a, many))) = none f a.last a.rest a.reads

open_end_not_bad : (bytes : List ℕ) → HasOpenEnd bytes → HasBadEnd bytes → ⊥
open_end_not_bad bytes (short, is) bad = bad (take_all 2 bytes (omega (arith, short)) ∙ is)

whole_end_not_bad : (bytes more : List ℕ) → bytes ≡ crlf_bytes ++ more → HasBadEnd bytes → ⊥
whole_end_not_bad bytes more is bad =
    let two : length crlf_bytes ≡ 2 = refl in
    let long = ap length is ∙ length-append crlf_bytes more in
    bad (ap (take 2) is ∙ take-append-le 2 crlf_bytes more (omega (arith, two)) ∙ take_all 2 crlf_bytes (omega (arith, two))
    ∙ sym (take_all (length bytes) crlf_bytes (omega (arith, two, long))))

whole_end_not_open : (bytes more : List ℕ) → bytes ≡ crlf_bytes ++ more → HasOpenEnd bytes → ⊥
whole_end_not_open bytes more is (short, front) =
    let two : length crlf_bytes ≡ 2 = refl in
    let long = ap length is ∙ length-append crlf_bytes more in
    omega (arith, two, long, short)

-- ---- a whole chunk

chunk_printed : (chunk : ChunkOfData) (rest : List ℕ) → print_chunk chunk ++ rest ≡ print_chunk_line chunk.line ++ (chunk.content ++ (crlf_bytes ++ rest))
chunk_printed chunk rest =
    append_assoc (print_chunk_line chunk.line ++ chunk.content) crlf_bytes rest ∙ append_assoc (print_chunk_line chunk.line) chunk.content (crlf_bytes ++ rest)

abbrev line_of_chunk : (at : List ℕ) (chunk : ChunkOfData) (rest : List ℕ) → IsChunk chunk → at ≡ print_chunk chunk ++ rest
    → LineAt at (chunk.content ++ (crlf_bytes ++ rest)) (length chunk.content)
line_of_chunk at chunk rest is parts = record { line = chunk.line; reads = (is.line, parts ∙ chunk_printed chunk rest); short = is.short; said = sym is.whole }

same_front : (a b r q : List ℕ) → length a ≡ length b → a ++ r ≡ b ++ q → (a ≡ b) × (r ≡ q)
same_front a b r q long same =
    let front : a ≡ b =
    sym (take_all (length a) a (omega arith)) ∙ sym (take-append-le (length a) a r (omega arith)) ∙ ap (take (length a)) same
    ∙ take-append-le (length a) b q (omega (arith, long)) ∙ take_all (length a) b (omega (arith, long)) in
    (front, append_cancel_left b r q (ap (λ (t : List ℕ). t ++ r) (sym front) ∙ same))

one_chunk : (at : List ℕ) (c d : ChunkOfData) (r q : List ℕ) → IsChunk c → IsChunk d → at ≡ print_chunk c ++ r → at ≡ print_chunk d ++ q → (c ≡ d) × (r ≡ q)
one_chunk at c d r q is_c is_d at_c at_d =
    let a = line_of_chunk at c r is_c at_c in
    let b = line_of_chunk at d q is_d at_d in
    let lines = chunk_line_unique at c.line d.line (c.content ++ (crlf_bytes ++ r)) (d.content ++ (crlf_bytes ++ q)) a.reads b.reads in
    let long = one_line at (c.content ++ (crlf_bytes ++ r)) (d.content ++ (crlf_bytes ++ q)) (length c.content) (length d.content) a b in
    let parts = same_front c.content d.content (crlf_bytes ++ r) (crlf_bytes ++ q) long.1 lines.1 in
    (λ i. record { line = lines.0 i; content = parts.0 i }, append_cancel_left crlf_bytes r q parts.1)

-- ---- where the whole chunks stop

-- No chunk can be taken here, after so many chunks with so many bytes.
abbrev Stops : ℕ → ℕ → List ℕ → Type 0
Stops count size at =
    (chunk : ChunkOfData) (rest : List ℕ) → IsChunk chunk → at ≡ print_chunk chunk ++ rest → count < 1048576 → size + length chunk.content ≤ 201326592 → ⊥

no_data : data_size [] ≡ 0
no_data = refl

data_more : (chunk : ChunkOfData) (chunks : List ChunkOfData) → data_size (chunk ∷ chunks) ≡ length chunk.content + data_size chunks
data_more chunk chunks = sum_by-cons (λ (c : ChunkOfData). length c.content) chunk chunks

same_stop : (count size n m k l : ℕ) (cs ds : List ChunkOfData) (r q : List ℕ) → flat_map print_chunk cs ++ r ≡ flat_map print_chunk ds ++ q
    → All IsChunk cs → All IsChunk ds → n ≡ count + length cs → m ≡ size + data_size cs → k ≡ count + length ds → l ≡ size + data_size ds
    → n ≤ 1048576 → m ≤ 201326592 → k ≤ 1048576 → l ≤ 201326592 → Stops n m r → Stops k l q → (cs ≡ ds) × (r ≡ q)
same_stop count size n m k l [] [] r q same is_c is_d n-is m-is k-is l-is n-fits m-fits k-fits l-fits s t = (refl, same)
same_stop count size n m k l [] (d ∷ ds) r q same is_c is_d n-is m-is k-is l-is n-fits m-fits k-fits l-fits s t =
    absurd (s d (flat_map print_chunk ds ++ q) (All-head IsChunk d ds is_d) (same ∙ append_assoc (print_chunk d) (flat_map print_chunk ds) q)
    (omega (arith, n-is, k-is, k-fits)) (omega (arith, m-is, l-is, l-fits, no_data, data_more d ds)))
same_stop count size n m k l (c ∷ cs) [] r q same is_c is_d n-is m-is k-is l-is n-fits m-fits k-fits l-fits s t =
    absurd (t c (flat_map print_chunk cs ++ r) (All-head IsChunk c cs is_c) (sym same ∙ append_assoc (print_chunk c) (flat_map print_chunk cs) r)
    (omega (arith, n-is, k-is, n-fits)) (omega (arith, m-is, l-is, m-fits, no_data, data_more c cs)))
same_stop count size n m k l (c ∷ cs) (d ∷ ds) r q same is_c is_d n-is m-is k-is l-is n-fits m-fits k-fits l-fits s t =
    let first = one_chunk (flat_map print_chunk (c ∷ cs) ++ r) c d (flat_map print_chunk cs ++ r) (flat_map print_chunk ds ++ q)
    (All-head IsChunk c cs is_c) (All-head IsChunk d ds is_d) (append_assoc (print_chunk c) (flat_map print_chunk cs) r)
    (same ∙ append_assoc (print_chunk d) (flat_map print_chunk ds) q) in
    let long : length c.content ≡ length d.content = ap (λ (chunk : ChunkOfData). length chunk.content) first.0 in
    let rest = same_stop (count + 1) (size + length c.content) n m k l cs ds r q first.1 (All-tail IsChunk c cs is_c) (All-tail IsChunk d ds is_d)
    (omega (arith, n-is)) (omega (arith, m-is, data_more c cs)) (omega (arith, k-is)) (omega (arith, l-is, long, data_more d ds)) n-fits m-fits k-fits l-fits s t in
    (λ i. first.0 i ∷ rest.0 i, rest.1)

-- What stands where the whole chunks stop, after so many with so many bytes.
abbrev Standing : Type 1
Standing = ℕ → ℕ → List ℕ → Type 0

record StopsWith (stands : Standing) (body : List ℕ) (chunks : List ChunkOfData) : Type 0 where
  at : List ℕ
  before : BeginsWithChunks body chunks at
  stops : Stops (length chunks) (data_size chunks) at
  is : stands (length chunks) (data_size chunks) at

one_stop : (one other : Standing) (body : List ℕ) (cs ds : List ChunkOfData) (a : StopsWith one body cs) (b : StopsWith other body ds) → (cs ≡ ds) × (a.at ≡ b.at)
one_stop one other body cs ds a b =
    same_stop 0 0 (length cs) (data_size cs) (length ds) (data_size ds) cs ds a.at b.at (sym a.before.parts ∙ b.before.parts) a.before.each b.before.each
    (omega arith) (omega arith) (omega arith) (omega arith) a.before.count a.before.within b.before.count b.before.within a.stops b.stops

-- two things that cannot stand at one place stand not in one body
apart : (one other : Standing) (body : List ℕ) (cs ds : List ChunkOfData) → ((n m : ℕ) (at : List ℕ) → one n m at → other n m at → ⊥)
    → StopsWith one body cs → StopsWith other body ds → ⊥
apart one other body cs ds never a b =
    let same = one_stop one other body cs ds a b in
    let there = subst (λ (chunks : List ChunkOfData). other (length chunks) (data_size chunks) b.at) (sym same.0) b.is in
    never (length cs) (data_size cs) a.at a.is (subst (λ (at : List ℕ). other (length cs) (data_size cs) at) (sym same.1) there)

-- ---- what stands there

abbrev WholeThere : Standing
WholeThere count size at = (rest : List ℕ) × (fields : List Field) × LineAt at rest 0 × HasTrailer rest fields × (length fields ≤ 64) × (count < 1048576)

abbrev LongThere : Standing
LongThere count size at = (rest : List ℕ) × (said : ℕ) × LineAt at rest said × (0 < said) × (201326592 < size + said)

abbrev BadThere : Standing
BadThere count size at =
    (count ≡ 1048576)
    ⊎ (HasBadLine at
    ⊎ (((rest : List ℕ) × (said : ℕ) × LineAt at rest said × (0 < said) × (said ≤ length rest) × HasBadEnd (drop said rest))
    ⊎ ((rest : List ℕ) × LineAt at rest 0 × HasBadTrailer rest)))

abbrev OpenThere : Standing
OpenThere count size at =
    (count < 1048576)
    × (HasOpenLine at
    ⊎ (((rest : List ℕ) × (said : ℕ) × LineAt at rest said × (0 < said) × (size + said ≤ 201326592)
    × ((length rest < said) ⊎ ((said ≤ length rest) × HasOpenEnd (drop said rest))))
    ⊎ ((rest : List ℕ) × LineAt at rest 0 × HasOpenTrailer rest)))

whole_not_long : (n m : ℕ) (at : List ℕ) → WholeThere n m at → LongThere n m at → ⊥
whole_not_long n m at (r, f, a, trailer, few, more) (q, said, b, some, past) = omega (arith, some, (one_line at r q 0 said a b).1)

whole_not_bad : (n m : ℕ) (at : List ℕ) → WholeThere n m at → BadThere n m at → ⊥
whole_not_bad n m at (r, f, a, trailer, few, more) (inl full) = omega (arith, more, full)
whole_not_bad n m at (r, f, a, trailer, few, more) (inr (inl bad)) = line_not_bad at r 0 a bad
whole_not_bad n m at (r, f, a, trailer, few, more) (inr (inr (inl (q, said, b, some, fits, bad)))) = omega (arith, some, (one_line at r q 0 said a b).1)
whole_not_bad n m at (r, f, a, trailer, few, more) (inr (inr (inr (q, b, bad)))) =
    trailer_not_bad r f trailer few (subst HasBadTrailer (sym (one_line at r q 0 0 a b).0) bad)

whole_not_open : (n m : ℕ) (at : List ℕ) → WholeThere n m at → OpenThere n m at → ⊥
whole_not_open n m at (r, f, a, trailer, few, more) (less, inl unread) = line_not_open at r 0 a unread
whole_not_open n m at (r, f, a, trailer, few, more) (less, inr (inl (q, said, b, some, allowed, unread))) = omega (arith, some, (one_line at r q 0 said a b).1)
whole_not_open n m at (r, f, a, trailer, few, more) (less, inr (inr (q, b, unread))) =
    trailer_not_open r f trailer (subst HasOpenTrailer (sym (one_line at r q 0 0 a b).0) unread)

open_not_long : (n m : ℕ) (at : List ℕ) → OpenThere n m at → LongThere n m at → ⊥
open_not_long n m at (less, inl unread) (q, said, b, some, past) = line_not_open at q said b unread
open_not_long n m at (less, inr (inl (r, size, a, more, allowed, unread))) (q, said, b, some, past) = omega (arith, allowed, past, (one_line at r q size said a b).1)
open_not_long n m at (less, inr (inr (r, a, unread))) (q, said, b, some, past) = omega (arith, some, (one_line at r q 0 said a b).1)

open_not_bad : (n m : ℕ) (at : List ℕ) → OpenThere n m at → BadThere n m at → ⊥
open_not_bad n m at (less, is) (inl full) = omega (arith, less, full)
open_not_bad n m at (less, inl unread) (inr (inl bad)) = open_line_not_bad at unread bad
open_not_bad n m at (less, inl unread) (inr (inr (inl (q, said, b, some, fits, bad)))) = line_not_open at q said b unread
open_not_bad n m at (less, inl unread) (inr (inr (inr (q, b, bad)))) = line_not_open at q 0 b unread
open_not_bad n m at (less, inr (inl (r, size, a, more, allowed, unread))) (inr (inl bad)) = line_not_bad at r size a bad
open_not_bad n m at (less, inr (inl (r, size, a, more, allowed, inl short))) (inr (inr (inl (q, said, b, some, fits, bad)))) =
    let same = one_line at r q size said a b in
    omega (arith, short, fits, same.1, ap length same.0)
open_not_bad n m at (less, inr (inl (r, size, a, more, allowed, inr (long, unread)))) (inr (inr (inl (q, said, b, some, fits, bad)))) =
    let same = one_line at r q size said a b in
    open_end_not_bad (drop size r) unread
    (subst (λ (k : ℕ). HasBadEnd (drop k r)) (sym same.1) (subst (λ (t : List ℕ). HasBadEnd (drop said t)) (sym same.0) bad))
open_not_bad n m at (less, inr (inl (r, size, a, more, allowed, unread))) (inr (inr (inr (q, b, bad)))) = omega (arith, more, (one_line at r q size 0 a b).1)
open_not_bad n m at (less, inr (inr (r, a, unread))) (inr (inl bad)) = line_not_bad at r 0 a bad
open_not_bad n m at (less, inr (inr (r, a, unread))) (inr (inr (inl (q, said, b, some, fits, bad)))) = omega (arith, some, (one_line at r q 0 said a b).1)
open_not_bad n m at (less, inr (inr (r, a, unread))) (inr (inr (inr (q, b, bad)))) =
    open_trailer_not_bad r unread (subst HasBadTrailer (sym (one_line at r q 0 0 a b).0) bad)

-- ---- no chunk can be taken where these stand

stops_size : (n m : ℕ) (at rest : List ℕ) (size : ℕ) → LineAt at rest size
    → ((chunk : ChunkOfData) (after : List ℕ) → 0 < size → length chunk.content ≡ size → rest ≡ chunk.content ++ (crlf_bytes ++ after) → m + size ≤ 201326592 → ⊥)
    → Stops n m at
stops_size n m at rest size a never = λ chunk after is parts less fits.
    let b = line_of_chunk at chunk after is parts in
    let same = one_line at rest (chunk.content ++ (crlf_bytes ++ after)) size (length chunk.content) a b in
    never chunk after (omega (arith, is.some, is.whole, same.1)) (sym same.1) same.0 (omega (arith, fits, same.1))

stops_nothing : (n m : ℕ) (at rest : List ℕ) → LineAt at rest 0 → Stops n m at
stops_nothing n m at rest a = stops_size n m at rest 0 a (λ chunk after some long parts fits. omega (arith, some))

-- what follows the content of a chunk
after_content : (rest content after : List ℕ) (size : ℕ) → length content ≡ size → rest ≡ content ++ after → drop size rest ≡ after
after_content rest content after size long parts =
    ap (drop size) parts ∙ ap (λ (n : ℕ). drop n (content ++ after)) (sym long) ∙ drop_front content after
  where
    drop_front : (a b : List ℕ) → drop (length a) (a ++ b) ≡ b
    drop_front [] b = refl
    drop_front (x ∷ a) b = drop_front a b

stops_bad_end : (n m : ℕ) (at rest : List ℕ) (size : ℕ) → LineAt at rest size → HasBadEnd (drop size rest) → Stops n m at
stops_bad_end n m at rest size a bad =
    stops_size n m at rest size a (λ chunk after some long parts fits.
    whole_end_not_bad (drop size rest) after (after_content rest chunk.content (crlf_bytes ++ after) size long parts) bad)

stops_open_end : (n m : ℕ) (at rest : List ℕ) (size : ℕ) → LineAt at rest size → (length rest < size) ⊎ ((size ≤ length rest) × HasOpenEnd (drop size rest)) → Stops n m at
stops_open_end n m at rest size a (inl short) =
    stops_size n m at rest size a (λ chunk after some long parts fits.
    omega (arith, short, long, ap length parts, length-append chunk.content (crlf_bytes ++ after)))
stops_open_end n m at rest size a (inr (enough, unread)) =
    stops_size n m at rest size a (λ chunk after some long parts fits.
    whole_end_not_open (drop size rest) after (after_content rest chunk.content (crlf_bytes ++ after) size long parts) unread)

stops_bad_line : (n m : ℕ) (at : List ℕ) → HasBadLine at → Stops n m at
stops_bad_line n m at bad = λ chunk after is parts less fits.
    line_not_bad at (chunk.content ++ (crlf_bytes ++ after)) (length chunk.content) (line_of_chunk at chunk after is parts) bad

stops_open_line : (n m : ℕ) (at : List ℕ) → HasOpenLine at → Stops n m at
stops_open_line n m at unread = λ chunk after is parts less fits.
    line_not_open at (chunk.content ++ (crlf_bytes ++ after)) (length chunk.content) (line_of_chunk at chunk after is parts) unread

-- ---- what a body comes to, by what stands there

whole_stop : (body text : List ℕ) (is : IsWholeBody body text) → StopsWith WholeThere body is.chunks
whole_stop body text is =
    let a = line_at body is.chunks 0 is.rest is.ends in record {
      at = is.ends.at;
      before = is.ends.before;
      stops = stops_nothing (length is.chunks) (data_size is.chunks) is.ends.at is.rest a;
      is = (is.rest, is.fields, a, is.trailer, is.few, is.ends.more);
    }

long_stop : (body : List ℕ) (total : ℕ) (is : PassesLimit body total) → StopsWith LongThere body is.chunks
long_stop body total is =
    let a = line_at body is.chunks is.size is.rest is.says in record {
      at = is.says.at;
      before = is.says.before;
      stops = stops_size (length is.chunks) (data_size is.chunks) is.says.at is.rest is.size a (λ chunk after some long parts fits. omega (arith, is.past, fits));
      is = (is.rest, is.size, a, omega (arith, is.past, is.says.before.within), is.past);
    }

bad_stop : (body : List ℕ) (number : ℕ) (is : HasBadChunk body number) → StopsWith BadThere body is.chunks
bad_stop body number is = of is.wrong
  where
    chunks : List ChunkOfData
    chunks = is.chunks

    of : ((rest : List ℕ) × BeginsWithChunks body chunks rest × ((length chunks ≡ 1048576) ⊎ HasBadLine rest))
        ⊎ ((size : ℕ) × (rest : List ℕ) × SaysSize body chunks size rest × (0 < size) × (data_size chunks + size ≤ 201326592)
        × (size ≤ length rest) × HasBadEnd (drop size rest))
        ⊎ ((rest : List ℕ) × SaysSize body chunks 0 rest × HasBadTrailer rest)
        → StopsWith BadThere body chunks
    of (inl (rest, before, inl full)) = record {
      at = rest;
      before = before;
      stops = λ chunk after is parts less fits. omega (arith, full, less);
      is = inl full;
    }
    of (inl (rest, before, inr bad)) = record {
      at = rest;
      before = before;
      stops = stops_bad_line (length chunks) (data_size chunks) rest bad;
      is = inr (inl bad);
    }
    of (inr (inl (size, rest, says, some, allowed, fits, bad))) =
        let a = line_at body chunks size rest says in record {
          at = says.at;
          before = says.before;
          stops = stops_bad_end (length chunks) (data_size chunks) says.at rest size a bad;
          is = inr (inr (inl (rest, size, a, some, fits, bad)));
        }
    of (inr (inr (rest, says, bad))) =
        let a = line_at body chunks 0 rest says in record {
          at = says.at;
          before = says.before;
          stops = stops_nothing (length chunks) (data_size chunks) says.at rest a;
          is = inr (inr (inr (rest, a, bad)));
        }

open_stop : (body : List ℕ) (is : IsOpenBody body) → StopsWith OpenThere body is.chunks
open_stop body is = of is.inside
  where
    chunks : List ChunkOfData
    chunks = is.chunks

    of : ((rest : List ℕ) × BeginsWithChunks body chunks rest × (length chunks < 1048576) × HasOpenLine rest)
        ⊎ ((size : ℕ) × (rest : List ℕ) × SaysSize body chunks size rest × (0 < size) × (data_size chunks + size ≤ 201326592)
        × ((length rest < size) ⊎ ((size ≤ length rest) × HasOpenEnd (drop size rest))))
        ⊎ ((rest : List ℕ) × SaysSize body chunks 0 rest × HasOpenTrailer rest)
        → StopsWith OpenThere body chunks
    of (inl (rest, before, less, unread)) = record {
      at = rest;
      before = before;
      stops = stops_open_line (length chunks) (data_size chunks) rest unread;
      is = (less, inl unread);
    }
    of (inr (inl (size, rest, says, some, allowed, unread))) =
        let a = line_at body chunks size rest says in record {
          at = says.at;
          before = says.before;
          stops = stops_open_end (length chunks) (data_size chunks) says.at rest size a unread;
          is = (says.more, inr (inl (rest, size, a, some, allowed, unread)));
        }
    of (inr (inr (rest, says, unread))) =
        let a = line_at body chunks 0 rest says in record {
          at = says.at;
          before = says.before;
          stops = stops_nothing (length chunks) (data_size chunks) says.at rest a;
          is = (says.more, inr (inr (rest, a, unread)));
        }

-- ---- a body comes to one thing

pub one_whole : (body a b : List ℕ) → IsWholeBody body a → IsWholeBody body b → a ≡ b
one_whole body a b x y =
    let same = one_stop WholeThere WholeThere body x.chunks y.chunks (whole_stop body a x) (whole_stop body b y) in
    x.is ∙ ap data_of same.0 ∙ sym y.is

pub whole_or_long : (body text : List ℕ) (total : ℕ) → IsWholeBody body text → PassesLimit body total → ⊥
whole_or_long body text total x y = apart WholeThere LongThere body x.chunks y.chunks whole_not_long (whole_stop body text x) (long_stop body total y)

pub whole_or_bad : (body text : List ℕ) (number : ℕ) → IsWholeBody body text → HasBadChunk body number → ⊥
whole_or_bad body text number x y = apart WholeThere BadThere body x.chunks y.chunks whole_not_bad (whole_stop body text x) (bad_stop body number y)

pub whole_or_open : (body text : List ℕ) → IsWholeBody body text → IsOpenBody body → ⊥
whole_or_open body text x y = apart WholeThere OpenThere body x.chunks y.chunks whole_not_open (whole_stop body text x) (open_stop body y)

pub open_or_long : (body : List ℕ) (total : ℕ) → IsOpenBody body → PassesLimit body total → ⊥
open_or_long body total x y = apart OpenThere LongThere body x.chunks y.chunks open_not_long (open_stop body x) (long_stop body total y)

pub open_or_bad : (body : List ℕ) (number : ℕ) → IsOpenBody body → HasBadChunk body number → ⊥
open_or_bad body number x y = apart OpenThere BadThere body x.chunks y.chunks open_not_bad (open_stop body x) (bad_stop body number y)
