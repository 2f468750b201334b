-- The host and the key of a command line stand in one line of a head.
use Rattle.std.proofs.Common.{◌≡◌, ◌≢◌, ℕ, suc, ◌+◌, take, drop, ◌<◌, ◌≤◌, inl, inr, List, [], ◌∷◌, Bool, true, false, cond, refl, sym, ap, subst, Option, Some, None, arith}
use Rattle.std.specs.Prelude.{◌&&◌, ◌||◌, ◌==◌, ◌⊎◌, All, option_map, nat_lt, nat_le, length}
use Rattle.std.specs.Char.{is_ascii_digit, is_ascii_alphanumeric}
use Rattle.std.specs.Int.{is_in_range}
use Rattle.std.specs.List.{list_any, list_all, before_first, after_first, position_or_len}
use Rattle.std.specs.Str.{chars}
use Rattle.std.proofs.lemmas.Str.{chars-IsAscii}
use Rattle.std.proofs.lemmas.Str.Ascii.{IsAscii-from_all}
use Rattle.std.proofs.lemmas.List.Elements.{All-nil, All-cons, All-head, All-tail}
use borrow.Author.Tests.{eqb-true, leb-true}
use Rattle.std.specs.Str.Parse.{digits_value}
use Rattle.http_edge.specs.Exchanges.{StandsInOneLine}
use Rattle.sb_words.specs.CommandLine.{is_value}
use Rattle.sb_words.specs.Values.{is_numeral, within, number_of, is_key_byte, is_key, is_host_byte, is_host, is_colon, host_and_port, host_port_of}

-- a byte of a word: neither a blank nor a control
IsWordByte : ℕ → Type 0
IsWordByte byte = (33 ≤ byte) × (byte ≤ 126)

both : (a b : Bool) → (a && b) ≡ true → (a ≡ true) × (b ≡ true)
both true true h = (refl, refl)
both true false h = absurd (cc)
both false b h = absurd (cc)

either : (a b : Bool) → (a || b) ≡ true → (a ≡ true) ⊎ (b ≡ true)
either true b h = inl refl
either false true h = inr refl
either false false h = absurd (cc)

ranged : (low high byte : ℕ) → 33 ≤ low → high ≤ 126 → is_in_range low high byte ≡ true → IsWordByte byte
unfolding IsWordByte
ranged low high byte l h e =
    let parts = both (nat_le low byte) (nat_le byte high) e in
    let from : low ≤ byte = leb-true low byte parts.0 in
    let to : byte ≤ high = leb-true byte high parts.1 in
    (omega (arith, l, from), omega (arith, h, to))

exact : (byte other : ℕ) → 33 ≤ other → other ≤ 126 → (byte == other) ≡ true → IsWordByte byte
unfolding IsWordByte
exact byte other l h e = let is : byte ≡ other = eqb-true byte other e in (omega (arith, is, l), omega (arith, is, h))

digit : (byte : ℕ) → is_ascii_digit byte ≡ true → IsWordByte byte
digit byte e = ranged 48 57 byte (omega arith) (omega arith) e

letter_or_digit : (byte : ℕ) → is_ascii_alphanumeric byte ≡ true → IsWordByte byte
letter_or_digit byte e = by_lower (either (is_in_range 48 57 byte || is_in_range 65 90 byte) (is_in_range 97 122 byte) e)
  where
    by_upper : (is_in_range 48 57 byte ≡ true) ⊎ (is_in_range 65 90 byte ≡ true) → IsWordByte byte
    by_upper (inl h) = ranged 48 57 byte (omega arith) (omega arith) h
    by_upper (inr h) = ranged 65 90 byte (omega arith) (omega arith) h

    by_lower : ((is_in_range 48 57 byte || is_in_range 65 90 byte) ≡ true) ⊎ (is_in_range 97 122 byte ≡ true) → IsWordByte byte
    by_lower (inl h) = by_upper (either (is_in_range 48 57 byte) (is_in_range 65 90 byte) h)
    by_lower (inr h) = ranged 97 122 byte (omega arith) (omega arith) h

-- such a byte, or one of two signs
word_or_sign : (byte first second : ℕ) → 33 ≤ first → first ≤ 126 → 33 ≤ second → second ≤ 126
    → (is_ascii_alphanumeric byte || byte == first || byte == second) ≡ true → IsWordByte byte
word_or_sign byte first second a b c d e = by_second (either (is_ascii_alphanumeric byte || byte == first) (byte == second) e)
  where
    by_first : (is_ascii_alphanumeric byte ≡ true) ⊎ ((byte == first) ≡ true) → IsWordByte byte
    by_first (inl h) = letter_or_digit byte h
    by_first (inr h) = exact byte first a b h

    by_second : ((is_ascii_alphanumeric byte || byte == first) ≡ true) ⊎ ((byte == second) ≡ true) → IsWordByte byte
    by_second (inl h) = by_first (either (is_ascii_alphanumeric byte) (byte == first) h)
    by_second (inr h) = exact byte second c d h

key_byte : (byte : ℕ) → is_key_byte byte ≡ true → IsWordByte byte
key_byte byte e = word_or_sign byte 45 95 (omega arith) (omega arith) (omega arith) (omega arith) e

host_byte : (byte : ℕ) → is_host_byte byte ≡ true → IsWordByte byte
host_byte byte e = word_or_sign byte 46 45 (omega arith) (omega arith) (omega arith) (omega arith) e

each : (test : ℕ → Bool) → ((byte : ℕ) → test byte ≡ true → IsWordByte byte) → (text : List ℕ) → list_all test text ≡ true → All IsWordByte text
each test f [] e = All-nil IsWordByte
each test f (byte ∷ text) e =
    let parts = both (test byte) (list_all test text) e in
    All-cons IsWordByte byte text (f byte parts.0) (each test f text parts.1)

-- ---- a text of such bytes stands in one line

no_line_end : (byte : ℕ) → IsWordByte byte → (byte ≢ 13) × (byte ≢ 10)
unfolding IsWordByte
no_line_end byte h = ((λ e. absurd (omega (arith, h.0, e))), (λ e. absurd (omega (arith, h.0, e))))

low : (byte : ℕ) → IsWordByte byte → byte < 128
unfolding IsWordByte
low byte h = omega (arith, h.1)

bytes_line : (text : List ℕ) → All IsWordByte text → StandsInOneLine text
bytes_line [] h = All-nil (λ char. (char ≢ 13) × (char ≢ 10))
bytes_line (byte ∷ text) h =
    All-cons (λ char. (char ≢ 13) × (char ≢ 10)) byte text (no_line_end byte (All-head IsWordByte byte text h)) (bytes_line text (All-tail IsWordByte byte text h))

low_bytes : (text : List ℕ) → All IsWordByte text → All (λ byte. byte < 128) text
low_bytes [] h = All-nil (λ byte. byte < 128)
low_bytes (byte ∷ text) h =
    All-cons (λ byte. byte < 128) byte text (low byte (All-head IsWordByte byte text h)) (low_bytes text (All-tail IsWordByte byte text h))

text_line : (text : List ℕ) → All IsWordByte text → StandsInOneLine (chars text)
text_line text h = subst StandsInOneLine (sym (chars-IsAscii text (IsAscii-from_all text (low_bytes text h)))) (bytes_line text h)

-- ---- keys and addresses

key_words : (key : List ℕ) → is_key key ≡ true → All IsWordByte key
key_words key e = each is_key_byte key_byte key (both (is_value key) (list_all is_key_byte key) e).1

-- what stands before a colon, the colon, and what stands after it
join_step : (byte : ℕ) (text : List ℕ) (colon : Bool) → is_colon byte ≡ colon
    → (All IsWordByte (before_first is_colon text) → All IsWordByte (after_first is_colon text) → All IsWordByte text)
    → All IsWordByte (before_first is_colon (byte ∷ text)) → All IsWordByte (after_first is_colon (byte ∷ text)) → All IsWordByte (byte ∷ text)
join_step byte text true e go before after =
    let rest : after_first is_colon (byte ∷ text) ≡ text = rw e refl in
    All-cons IsWordByte byte text (exact byte 58 (omega arith) (omega arith) e) (subst (All IsWordByte) rest after)
join_step byte text false e go before after =
    let next : position_or_len is_colon (byte ∷ text) ≡ suc (position_or_len is_colon text) = rw e (omega arith) in
    let front : before_first is_colon (byte ∷ text) ≡ byte ∷ before_first is_colon text = ap (λ (n : ℕ). take n (byte ∷ text)) next in
    let rest : after_first is_colon (byte ∷ text) ≡ after_first is_colon text =
    ap (λ (n : ℕ). drop n (byte ∷ text)) (let sum : position_or_len is_colon (byte ∷ text) + 1 ≡ suc (position_or_len is_colon text + 1) = omega (arith, next) in sum) in
    let known : All IsWordByte (byte ∷ before_first is_colon text) = subst (All IsWordByte) front before in
    All-cons IsWordByte byte text (All-head IsWordByte byte (before_first is_colon text) known)
    (go (All-tail IsWordByte byte (before_first is_colon text) known) (subst (All IsWordByte) rest after))

joined : (text : List ℕ) → All IsWordByte (before_first is_colon text) → All IsWordByte (after_first is_colon text) → All IsWordByte text
joined [] before after = All-nil IsWordByte
joined (byte ∷ text) before after = join_step byte text _ refl (joined text) before after

numeral_words : (low high : ℕ) (text : List ℕ) (numeral : Bool) (found : ℕ) → is_numeral text ≡ numeral
    → cond numeral (within low high (digits_value 10 text)) None ≡ Some found → All IsWordByte text
numeral_words low high text true found e h = each is_ascii_digit digit text (both (list_all is_ascii_digit text) _ (both (list_all is_ascii_digit text && nat_lt 0 (length text)) _ e).0).0
numeral_words low high text false found e h = absurd (cc)

port_words : (host text : List ℕ) (number : Option ℕ) (address : List ℕ × ℕ) → number_of 1 65535 text ≡ number
    → option_map (λ number. (host, number)) number ≡ Some address → All IsWordByte text
port_words host text None address e h = absurd (cc)
port_words host text (Some number) address e h = numeral_words 1 65535 text _ number refl e

address_words : (text : List ℕ) (host : Bool) (address : List ℕ × ℕ) → is_host (before_first is_colon text) ≡ host
    → cond host (option_map (λ number. (before_first is_colon text, number)) (number_of 1 65535 (after_first is_colon text))) None ≡ Some address → All IsWordByte text
address_words text true address e h =
    joined text (each is_host_byte host_byte (before_first is_colon text) (both (is_value (before_first is_colon text)) (list_all is_host_byte (before_first is_colon text)) e).1)
    (port_words (before_first is_colon text) (after_first is_colon text) _ address refl h)
address_words text false address e h = absurd (cc)

server_by : (text : List ℕ) (colon : Bool) (address : List ℕ × ℕ) → list_any is_colon text ≡ colon
    → cond colon (host_and_port (before_first is_colon text) (after_first is_colon text)) None ≡ Some address → All IsWordByte text
server_by text true address e h = address_words text _ address refl h
server_by text false address e h = absurd (cc)

pub server_line : (text : List ℕ) (address : List ℕ × ℕ) → host_port_of text ≡ Some address → StandsInOneLine (chars text)
unfolding host_port_of
server_line text address e = text_line text (server_by text _ address refl e)

pub key_line : (key : List ℕ) → is_key key ≡ true → StandsInOneLine (chars key)
key_line key e = text_line key (key_words key e)

pub no_key_line : StandsInOneLine (chars [])
no_key_line = text_line [] (All-nil IsWordByte)
