-- An address at which connections come in, cut at its first colon or at its closing bracket.
use Rattle.std.proofs.Common.{◌≡◌, ◌≢◌, ◌<◌, ◌==◌, ◌∷◌, ap, ap₂, sym, ◌∙◌, refl, ℕ, Bool, List, [], length, Option, None, lt-ltb, le-ltb, le_refl, nat_lt, ne_eqb, false, if◌then◌else◌}
use Rattle.std.specs.List.{position_or_len, before_first, after_first}
use Rattle.sb_words.specs.Values.{cut_at, is_closing, is_colon, listen_address_of, listening_at, listening_in, number_of, port_after_colon}
use Rattle.sb_words.proofs.Barring.{any_is}

pub no_mark : (is_mark : ℕ → Bool) (both : List ℕ → List ℕ → Option (List ℕ × ℕ)) (text : List ℕ) → position_or_len is_mark text ≡ length text → None ≡ cut_at is_mark both text
no_mark is_mark both text e =
    sym (ap (λ b. if b then both (before_first is_mark text) (after_first is_mark text) else None)
    (any_is is_mark text ∙ ap (λ n. nat_lt n (length text)) e ∙ le-ltb (length text) (length text) (le_refl (length text))))

pub a_mark : (is_mark : ℕ → Bool) (both : List ℕ → List ℕ → Option (List ℕ × ℕ)) (text front back : List ℕ) → position_or_len is_mark text < length text
    → front ≡ before_first is_mark text → back ≡ after_first is_mark text → both front back ≡ cut_at is_mark both text
a_mark is_mark both text front back lt f b =
    ap₂ both f b
    ∙ sym (ap (λ c. if c then both (before_first is_mark text) (after_first is_mark text) else None)
    (any_is is_mark text ∙ lt-ltb (position_or_len is_mark text) (length text) lt))

pub other_first : (first mark : ℕ) (rest : List ℕ) → ((later : List ℕ) → first ∷ rest ≢ mark ∷ later) → (first == mark) ≡ false
other_first first mark rest differs = ne_eqb first mark (λ e. differs rest (ap (λ b. b ∷ rest) e))

pub no_bracket : (text : List ℕ) → ((rest : List ℕ) → text ≢ 91 ∷ rest) → cut_at is_colon listening_at text ≡ listen_address_of text
unfolding listen_address_of
no_bracket [] differs = refl
no_bracket (first ∷ rest) differs =
    sym (ap (λ b. if b then cut_at is_closing listening_in rest else cut_at is_colon listening_at (first ∷ rest)) (other_first first 91 rest differs))

pub a_bracket : (text rest : List ℕ) → text ≡ 91 ∷ rest → cut_at is_closing listening_in rest ≡ listen_address_of text
unfolding listen_address_of
a_bracket text rest is = sym (ap listen_address_of is)

pub no_port : (text : List ℕ) → ((rest : List ℕ) → text ≢ 58 ∷ rest) → None ≡ port_after_colon text
no_port [] differs = refl
no_port (first ∷ rest) differs = sym (ap (λ b. if b then number_of 0 65535 rest else None) (other_first first 58 rest differs))

pub a_port : (text port : List ℕ) → text ≡ 58 ∷ port → number_of 0 65535 port ≡ port_after_colon text
a_port text port is = sym (ap port_after_colon is)
