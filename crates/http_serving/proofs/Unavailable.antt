-- The text of the response to a request for which memory was refused, as it is sent without memory.
use Rattle.std.proofs.Common.{◌≡◌, ℕ, List, [], ◌∷◌, ◌++◌, take, length, ◌<◌, codes, decimal, refl, sym, ap, ◌∙◌, inl, inr, arith, Option, Some, None, Result, Ok, Err}
use Rattle.std.specs.Prelude.{OnOk, OnErr}
use Rattle.std.proofs.lemmas.Fmt.{decimal_digit}
use Rattle.std.proofs.lemmas.List.{append-nil, take_all}
use Rattle.sha2.specs.Sha256.{sha256, digest_bytes, hash_after, compress, rounds, schedule, first_words}
use Rattle.base64.proofs.OnLiterals.{base64_on_literals}
use Rattle.sb_outside.specs.Outside.{Rose, appended}
use Rattle.http_edge.specs.Responses.{digest_text, line}
use Rattle.http_serving.specs.Serving.{unavailable_text, IsUnavailable, IsWholeOrFault}

digest_of_nothing : sha256 [] ≡
    227 ∷ 176 ∷ 196 ∷ 66 ∷ 152 ∷ 252 ∷ 28 ∷ 20 ∷ 154 ∷ 251 ∷ 244 ∷ 200 ∷ 153 ∷ 111 ∷ 185 ∷ 36
    ∷ 39 ∷ 174 ∷ 65 ∷ 228 ∷ 100 ∷ 155 ∷ 147 ∷ 76 ∷ 164 ∷ 149 ∷ 153 ∷ 27 ∷ 120 ∷ 82 ∷ 184 ∷ 85 ∷ []
unfolding sha256 digest_bytes hash_after compress rounds schedule first_words
digest_of_nothing = refl

text_of_digest : digest_text (sha256 []) ≡ codes "sha-256=:47DEQpj8HBSa+/TImW+5JCeuQeRkm5NMpJWZG3hSuFU=:"
unfolding digest_text base64_on_literals
text_of_digest = ap digest_text digest_of_nothing ∙ refl

-- the text, by that of its length and that of its digest
text_with : List ℕ → List ℕ → List ℕ
text_with size digest =
    (line (codes "HTTP/1.1 503 Service Unavailable")
    ++ line (codes "Content-Type: application/json")
    ++ line (codes "Content-Length: " ++ size)
    ++ line (codes "Content-Digest: " ++ digest)
    ++ []
    ++ line (codes "Connection: close")
    ++ line []) ++ []

-- the text, byte for byte
pub unavailable_is : unavailable_text ≡ codes "HTTP/1.1 503 Service Unavailable\r\nContent-Type: application/json\r\nContent-Length: 0\r\nContent-Digest: sha-256=:47DEQpj8HBSa+/TImW+5JCeuQeRkm5NMpJWZG3hSuFU=:\r\nConnection: close\r\n\r\n"
unfolding unavailable_text line text_with
unavailable_is =
    let size : decimal 0 ≡ 48 ∷ [] = decimal_digit 0 (omega arith) in
    ap (λ (n : List ℕ). text_with n (digest_text (sha256 []))) size ∙ ap (text_with (48 ∷ [])) text_of_digest

-- what a write of it leaves
pub front_sent : {E : Type 0} (piece : List ℕ) (before after : Option (List ℕ)) (result : Result (Unit {0}) E) → piece ≡ unavailable_text
    → OnOk result (after ≡ appended before piece) → OnErr result ((n : ℕ) × (n < length piece) × (after ≡ appended before (take n piece)))
    → IsUnavailable before after
front_sent piece before after (Ok done) same ok err = record {
  count = length unavailable_text;
  written = ok ∙ ap (appended before) (same ∙ sym (take_all (length unavailable_text) unavailable_text (omega arith)));
}
front_sent piece before after (Err fault) same ok (n, few, is) = record {
  count = n;
  written = is ∙ ap (λ (text : List ℕ). appended before (take n text)) same;
}

pub whole_sent : {E : Type 0} (piece : List ℕ) (before after : Option (List ℕ)) (faults faults' : ℕ) (result : Result (Unit {0}) E) → piece ≡ unavailable_text
    → OnOk result (after ≡ appended before piece) → OnOk result (faults' ≡ faults) → OnErr result (Rose faults faults')
    → IsWholeOrFault unavailable_text before after faults faults'
whole_sent piece before after faults faults' (Ok done) same ok kept failed = inl (ok ∙ ap (appended before) same, kept)
whole_sent piece before after faults faults' (Err fault) same ok kept failed = inr failed

-- nothing of it
pub nothing_of : (before after : Option (List ℕ)) → after ≡ before → IsUnavailable before after
nothing_of None after same = record { count = 0; written = same }
nothing_of (Some held) after same = record { count = 0; written = same ∙ ap Some (sym (append-nil held)) }
