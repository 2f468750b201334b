-- What the hash lines of an input have, and how they go by the size that lines without one get.
use Rattle.std.proofs.Common.{◌≡◌, ◌∙◌, ℕ, zero, suc, ◌<◌, ◌/◌, ◌^◌, List, [], ◌∷◌, ◌++◌, Bool, true, false, map, refl, ap, arith, Option, Some, None}
use Rattle.std.specs.Prelude.{◌||◌, All, IfSome, Result, Ok, Err, if◌then◌else◌, option_map}
use Rattle.std.specs.Int.{byte_at, bytes_high_first, to_be_bytes, w32}
use Rattle.std.specs.List.{cons_option, filter_map, list_any}
use Rattle.std.specs.Str.{bytes_eq}
use Rattle.std.specs.Str.Lines.{lines}
use Rattle.std.proofs.Math.Nat.{mod-lt}
use Rattle.std.proofs.lemmas.List.Elements.{All-cons, All-head, All-nil, All-tail}
use Rattle.std.specs.Prelude.{slice_index}
use Rattle.hex.specs.Hex.{IsBytes}
use Rattle.sha2.specs.Sha256.{digest_bytes, final_hash, initial_hash_256, sha256}
use Rattle.sha2.proofs.Facts256.{length-sha256}
use Rattle.url_canon.specs.declared.fault.UrlFault.{UrlFault}
use Rattle.url_canon.specs.Canonical.{canonical_of}
use Rattle.url_canon.specs.Url.{Url}
use Rattle.url_expressions.specs.Spans.{text_behind_scheme}
use Rattle.sb_model.specs.History.{IsPrefixSize}
use Rattle.sb_journal.specs.declared.hash_line.HashLine.{HashLine}
use Rattle.sb_journal.specs.declared.hash_line.HashLine.TheVariants.{Add, Remove}
use Rattle.sb_journal.specs.Changes.{edits_in}
use Rattle.sb_journal.specs.Feed.{edit_said_by, hash_line_for, hash_line_of, hash_of_canonical, hash_of_url, is_mute, takes_out, told, url_behind_sign}
use Rattle.sb_journal.specs.Followed.{HasHash, HasPrefixSize, HasSize}
use Rattle.sb_journal.specs.Records.{hash_in, last_lines}

-- ---- the bytes of a digest

bytes_append : (xs ys : List ℕ) → IsBytes xs → IsBytes ys → IsBytes (xs ++ ys)
bytes_append [] ys h k i = k i
bytes_append (x ∷ xs) ys h k zero = h 0
bytes_append (x ∷ xs) ys h k (suc i) = bytes_append xs ys (λ j. h (suc j)) k i

byte_is_small : (i n : ℕ) → byte_at i n < 256
byte_is_small zero n = mod-lt n {m = 256} (omega arith)
byte_is_small (suc i) n = mod-lt (n / 256 ^ suc i) {m = 256} (omega arith)

high_bytes : (k n : ℕ) → IsBytes (bytes_high_first k n)
high_bytes zero n i = omega arith
high_bytes (suc k) n zero = byte_is_small k n
high_bytes (suc k) n (suc i) = high_bytes k n i

digest_is_bytes : (words : List ℕ) (n : ℕ) → IsBytes (digest_bytes words n)
unfolding digest_bytes
digest_is_bytes words zero = λ i. omega arith
digest_is_bytes words (suc n) = bytes_append (digest_bytes words n) (to_be_bytes w32 (slice_index words n)) (digest_is_bytes words n) (high_bytes 4 (slice_index words n))

sha_is_bytes : (text : List ℕ) → IsBytes (sha256 text)
unfolding sha256
sha_is_bytes text = digest_is_bytes (final_hash initial_hash_256 text) 8

-- ---- what each hash line of an input has

each_mapped : {X Y : Type 0} (P : Y → Type 0) (f : X → Option Y) → ((x : X) → IfSome (f x) P) → (xs : List X) → All P (filter_map f xs)
each_mapped P f h [] = All-nil P
each_mapped P f h (x ∷ xs) = one_more P (f x) (filter_map f xs) (h x) (each_mapped P f h xs)
  where
    one_more : {Y : Type 0} (P : Y → Type 0) (o : Option Y) (ys : List Y) → IfSome o P → All P ys → All P (cons_option o ys)
    one_more P None ys h k = k
    one_more P (Some y) ys h k = All-cons P y ys h k

said_has : (P : HashLine → Type 0) (size : ℕ) → ((out : Bool) (text : List ℕ) → P (hash_line_for size out (sha256 text))) → (mute out : Bool) (url : Result Url UrlFault)
    → IfSome (told (if mute then None else Some (hash_line_of size out (hash_of_canonical url)))) P
said_has P size h true out url = tt
said_has P size h false out (Ok url) = h out (text_behind_scheme url)
said_has P size h false out (Err fault) = tt

edits_have : (P : HashLine → Type 0) (size : ℕ) (input : List ℕ) → ((out : Bool) (text : List ℕ) → P (hash_line_for size out (sha256 text))) → All P (edits_in size input)
edits_have P size input h =
    each_mapped P (λ line. told (edit_said_by size line)) (λ line. said_has P size h (is_mute line) (takes_out line) (canonical_of (url_behind_sign line))) (lines input)

line_has_hash : (size : ℕ) (out : Bool) (text : List ℕ) → HasHash (hash_line_for size out (sha256 text))
unfolding HasHash
line_has_hash size true text = (sha_is_bytes text, length-sha256 text)
line_has_hash size false text = (sha_is_bytes text, length-sha256 text)

line_has_prefix_size : (size : ℕ) → IsPrefixSize size → (out : Bool) (text : List ℕ) → HasPrefixSize (hash_line_for size out (sha256 text))
line_has_prefix_size size h true text = tt
line_has_prefix_size size h false text = h

line_has_size : (size : ℕ) (out : Bool) (text : List ℕ) → HasSize size (hash_line_for size out (sha256 text))
line_has_size size true text = tt
line_has_size size false text = refl

-- ---- the last lines are some of the lines

last_have : (P : HashLine → Type 0) (all : List HashLine) → All P all → All P (last_lines all)
unfolding last_lines
last_have P [] h = h
last_have P (line ∷ all) h =
    one_more (list_any (λ later. bytes_eq (hash_in later) (hash_in line)) all) (last_lines all) (All-head P line all h) (last_have P all (All-tail P line all h))
  where
    one_more : (b : Bool) (rest : List HashLine) → P line → All P rest → All P (if b then rest else line ∷ rest)
    one_more true rest h k = k
    one_more false rest h k = All-cons P line rest h k

-- The last lines of an input have what each hash of a URL, put in or taken out, has.
pub lasts_have_hashes : (size : ℕ) (input : List ℕ) → All HasHash (last_lines (edits_in size input))
lasts_have_hashes size input = last_have HasHash (edits_in size input) (edits_have HasHash size input (line_has_hash size))

pub lasts_have_prefix_sizes : (size : ℕ) (input : List ℕ) → IsPrefixSize size → All HasPrefixSize (last_lines (edits_in size input))
lasts_have_prefix_sizes size input h = last_have HasPrefixSize (edits_in size input) (edits_have HasPrefixSize size input (line_has_prefix_size size h))

pub lasts_have_the_size : (size : ℕ) (input : List ℕ) → All (HasSize size) (last_lines (edits_in size input))
lasts_have_the_size size input = last_have (HasSize size) (edits_in size input) (edits_have (HasSize size) size input (line_has_size size))

-- ---- the same lines with another size

abbrev pub resized : ℕ → HashLine → HashLine
resized size (Add added) = Add (record { hash = added.hash; size = size })
resized size (Remove hash) = Remove hash

mapped_as : {X Y : Type 0} (f g : X → Option Y) (h : Y → Y) → ((x : X) → g x ≡ option_map h (f x)) → (xs : List X) → filter_map g xs ≡ map h (filter_map f xs)
mapped_as f g h e [] = refl
mapped_as f g h e (x ∷ xs) = ap (λ o. cons_option o (filter_map g xs)) (e x) ∙ one_more h (f x) (filter_map g xs) (filter_map f xs) (mapped_as f g h e xs)
  where
    one_more : {Y : Type 0} (h : Y → Y) (o : Option Y) (ys zs : List Y) → ys ≡ map h zs → cons_option (option_map h o) ys ≡ map h (cons_option o zs)
    one_more h None ys zs e = e
    one_more h (Some y) ys zs e = ap (λ rest. h y ∷ rest) e

said_resized : (a b : ℕ) (mute out : Bool) (hash : Result (List ℕ) UrlFault)
    → told (if mute then None else Some (hash_line_of b out hash)) ≡ option_map (resized b) (told (if mute then None else Some (hash_line_of a out hash)))
said_resized a b true out hash = refl
said_resized a b false true (Ok hash) = refl
said_resized a b false false (Ok hash) = refl
said_resized a b false out (Err fault) = refl

edits_resized : (a b : ℕ) (input : List ℕ) → edits_in b input ≡ map (resized b) (edits_in a input)
edits_resized a b input =
    mapped_as (λ line. told (edit_said_by a line)) (λ line. told (edit_said_by b line)) (resized b)
    (λ line. said_resized a b (is_mute line) (takes_out line) (hash_of_url (url_behind_sign line))) (lines input)

same_hash : (size : ℕ) (line : HashLine) → hash_in (resized size line) ≡ hash_in line
same_hash size (Add added) = refl
same_hash size (Remove hash) = refl

has_later : (size : ℕ) (hash : List ℕ) (all : List HashLine)
    → list_any (λ later. bytes_eq (hash_in later) hash) (map (resized size) all) ≡ list_any (λ later. bytes_eq (hash_in later) hash) all
has_later size hash [] = refl
has_later size hash (line ∷ all) =
    ap (λ other. bytes_eq other hash || list_any (λ later. bytes_eq (hash_in later) hash) (map (resized size) all)) (same_hash size line)
    ∙ ap (λ any. bytes_eq (hash_in line) hash || any) (has_later size hash all)

last_resized : (size : ℕ) (all : List HashLine) → last_lines (map (resized size) all) ≡ map (resized size) (last_lines all)
unfolding last_lines
last_resized size [] = refl
last_resized size (line ∷ all) =
    one_more (list_any (λ later. bytes_eq (hash_in later) (hash_in (resized size line))) (map (resized size) all)) (list_any (λ later. bytes_eq (hash_in later) (hash_in line)) all)
    (last_lines (map (resized size) all)) (last_lines all)
    (ap (λ hash. list_any (λ later. bytes_eq (hash_in later) hash) (map (resized size) all)) (same_hash size line) ∙ has_later size (hash_in line) all) (last_resized size all)
  where
    one_more : (b c : Bool) (ys zs : List HashLine) → b ≡ c → ys ≡ map (resized size) zs
        → (if b then ys else resized size line ∷ ys) ≡ map (resized size) (if c then zs else line ∷ zs)
    one_more b true ys zs e h = rw e h
    one_more b false ys zs e h = rw e (ap (λ rest. resized size line ∷ rest) h)

-- The last lines with one size are those with another, but for the size.
pub lasts_resized : (a b : ℕ) (input : List ℕ) → last_lines (edits_in b input) ≡ map (resized b) (last_lines (edits_in a input))
lasts_resized a b input = ap last_lines (edits_resized a b input) ∙ last_resized b (edits_in a input)
