-- An unescaped text is there, and there is only one.
use Rattle.std.proofs.Common.{◌≡◌, ℕ, List, [], ◌∷◌, Bool, true, false, ◌&&◌, ◌||◌, eqb, refl, sym, ap, subst, ◌∙◌}
use Rattle.std.proofs.lemmas.Bool.{false≢true, cond_both, ne_eqb, eqb-true, and_parts, or_parts, or_from, false_from_ne_true, cond-false, or_right}
use Rattle.url_canon.specs.Unescaping.{is_hex, spelled, UnescapesOne, here, there, UnescapesTo, same, step, IsUnescapedOf, with_byte, unescaped}

-- the bytes begin with an escape
abbrev pub begins_escape : ℕ → List ℕ → Bool
begins_escape byte [] = false
begins_escape byte (next ∷ []) = false
begins_escape byte (high ∷ low ∷ rest) = eqb byte 37 && (is_hex high && is_hex low)

-- there is an escape somewhere
abbrev pub has_escape : List ℕ → Bool
has_escape [] = false
has_escape (byte ∷ text) = begins_escape byte text || has_escape text

pub percent_apart : (byte : ℕ) → is_hex byte ≡ true → eqb byte 37 ≡ false
percent_apart byte h = ne_eqb byte 37 (λ e. false≢true (subst (λ x. is_hex x ≡ true) e h))

pub with_byte_plain : (byte : ℕ) (text : List ℕ) → begins_escape byte text ≡ false → with_byte byte text ≡ byte ∷ text
with_byte_plain byte [] e = refl
with_byte_plain byte (next ∷ []) e = refl
with_byte_plain byte (high ∷ low ∷ rest) e = cond-false (eqb byte 37 && (is_hex high && is_hex low)) (with_byte (spelled high low) rest) (byte ∷ high ∷ low ∷ rest) e

pub with_byte_escape : (high low : ℕ) (rest : List ℕ) → is_hex high ≡ true → is_hex low ≡ true → with_byte 37 (high ∷ low ∷ rest) ≡ with_byte (spelled high low) rest
with_byte_escape high low rest h l = rw (h, l) refl

not_percent : (byte : ℕ) (text : List ℕ) → eqb byte 37 ≡ false → begins_escape byte text ≡ false
not_percent byte [] e = refl
not_percent byte (next ∷ []) e = refl
not_percent byte (high ∷ low ∷ rest) e = rw e refl

pub with_byte-other : (byte : ℕ) (text : List ℕ) → eqb byte 37 ≡ false → with_byte byte text ≡ byte ∷ text
with_byte-other byte text e = with_byte_plain byte text (not_percent byte text e)

-- an escape at the front gives its byte
pub unescaped-escape : (high low : ℕ) (rest : List ℕ) → is_hex high ≡ true → is_hex low ≡ true → unescaped (37 ∷ high ∷ low ∷ rest) ≡ with_byte (spelled high low) (unescaped rest)
unfolding unescaped
unescaped-escape high low rest h l =
    let low_stays = with_byte-other low (unescaped rest) (percent_apart low l) in
    let high_stays = with_byte-other high (low ∷ unescaped rest) (percent_apart high h) in
    ap (λ x. with_byte 37 (with_byte high x)) low_stays ∙ (ap (λ x. with_byte 37 x) high_stays ∙ with_byte_escape high low (unescaped rest) h l)

step_keeps : {text next : List ℕ} → UnescapesOne text next → unescaped text ≡ unescaped next
unfolding unescaped
step_keeps (here {high} {low} {rest} h l) = unescaped-escape high low rest h l
step_keeps (there {byte} s) = ap (with_byte byte) (step_keeps s)

steps_keep : {text next : List ℕ} → UnescapesTo text next → unescaped text ≡ unescaped next
steps_keep same = refl
steps_keep (step one more) = step_keeps one ∙ steps_keep more

-- a text with no escape stays
pub unescaped_plain : (text : List ℕ) → has_escape text ≡ false → unescaped text ≡ text
unfolding unescaped
unescaped_plain [] e = refl
unescaped_plain (byte ∷ text) e =
    let parts = or_parts (begins_escape byte text) (has_escape text) e in
    ap (with_byte byte) (unescaped_plain text parts.1) ∙ with_byte_plain byte text parts.0

at_percent : (byte high low : ℕ) (rest : List ℕ) → (eqb byte 37 && (is_hex high && is_hex low)) ≡ true → UnescapesOne (byte ∷ high ∷ low ∷ rest) (spelled high low ∷ rest)
at_percent byte high low rest e =
    let parts = and_parts (eqb byte 37) (is_hex high && is_hex low) e in
    let digits = and_parts (is_hex high) (is_hex low) parts.1 in
    subst (λ b. UnescapesOne (b ∷ high ∷ low ∷ rest) (spelled high low ∷ rest)) (sym (eqb-true byte 37 parts.0)) (here digits.0 digits.1)

-- where a step is, an escape is, and the other way round
front_finished : (byte : ℕ) (text : List ℕ) → ((next : List ℕ) → UnescapesOne (byte ∷ text) next → ⊥) → begins_escape byte text ≡ false
front_finished byte [] f = refl
front_finished byte (next ∷ []) f = refl
front_finished byte (high ∷ low ∷ rest) f =
    false_from_ne_true (eqb byte 37 && (is_hex high && is_hex low)) (λ e. f _ (at_percent byte high low rest e))

pub plain_from_finished : (text : List ℕ) → ((next : List ℕ) → UnescapesOne text next → ⊥) → has_escape text ≡ false
plain_from_finished [] f = refl
plain_from_finished (byte ∷ text) f =
    or_from (begins_escape byte text) (has_escape text) (front_finished byte text f) (plain_from_finished text (λ next s. f (byte ∷ next) (there s)))

finished_from_plain : {text next : List ℕ} → UnescapesOne text next → has_escape text ≡ true
finished_from_plain (here {high} {low} {rest} h l) = rw (h, l) refl
finished_from_plain (there {byte} {text} s) = or_right (begins_escape byte text) (has_escape text) (finished_from_plain s)

-- putting one byte more before a text
put_reached : (byte : ℕ) (text : List ℕ) → UnescapesTo (byte ∷ text) (with_byte byte text)
put_reached byte [] = same
put_reached byte (next ∷ []) = same
put_reached byte (high ∷ low ∷ rest) =
    cond_both (eqb byte 37 && (is_hex high && is_hex low)) (with_byte (spelled high low) rest) (byte ∷ high ∷ low ∷ rest) (λ r. UnescapesTo (byte ∷ high ∷ low ∷ rest) r) (λ e. step (at_percent byte high low rest e) (put_reached (spelled high low) rest)) (λ _. same)

steps_there : {text next : List ℕ} (byte : ℕ) → UnescapesTo text next → UnescapesTo (byte ∷ text) (byte ∷ next)
steps_there byte same = same
steps_there byte (step one more) = step (there one) (steps_there byte more)

steps_join : {a b c : List ℕ} → UnescapesTo a b → UnescapesTo b c → UnescapesTo a c
steps_join same more = more
steps_join (step one first) more = step one (steps_join first more)

unescaped_reached : (text : List ℕ) → UnescapesTo text (unescaped text)
unfolding unescaped
unescaped_reached [] = same
unescaped_reached (byte ∷ text) = steps_join (steps_there byte (unescaped_reached text)) (put_reached byte (unescaped text))

pub has_escape-with_byte : (byte : ℕ) (text : List ℕ) → has_escape text ≡ false → has_escape (with_byte byte text) ≡ false
has_escape-with_byte byte [] e = refl
has_escape-with_byte byte (next ∷ []) e = refl
has_escape-with_byte byte (high ∷ low ∷ rest) e =
    cond_both (eqb byte 37 && (is_hex high && is_hex low)) (with_byte (spelled high low) rest) (byte ∷ high ∷ low ∷ rest) (λ r. has_escape r ≡ false)
    (λ _. has_escape-with_byte (spelled high low) rest (or_parts (begins_escape low rest) (has_escape rest) (or_parts (begins_escape high (low ∷ rest)) (has_escape (low ∷ rest)) e).1).1)
    (λ f. or_from (eqb byte 37 && (is_hex high && is_hex low)) (has_escape (high ∷ low ∷ rest)) f e)

pub has_escape-unescaped : (text : List ℕ) → has_escape (unescaped text) ≡ false
unfolding unescaped
has_escape-unescaped [] = refl
has_escape-unescaped (byte ∷ text) = has_escape-with_byte byte (unescaped text) (has_escape-unescaped text)

pub unescaped_is : (text : List ℕ) → IsUnescapedOf text (unescaped text)
unescaped_is text = record {
  reached = unescaped_reached text;
  finished = λ next s. false≢true (sym (has_escape-unescaped text) ∙ finished_from_plain s);
}

pub unescaped_only : (text result : List ℕ) → IsUnescapedOf text result → result ≡ unescaped text
unescaped_only text result h =
    sym (steps_keep h.reached ∙ unescaped_plain result (plain_from_finished result h.finished))
