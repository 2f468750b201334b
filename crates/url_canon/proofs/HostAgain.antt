-- Reading the host of a canonical URL gives that host again.
use Rattle.std.proofs.Common.{◌≡◌, ℕ, ◌<◌, ◌≤◌, List, [], ◌∷◌, ◌++◌, Bool, true, false, cond, take, Option, Some, None, refl, sym, ap, subst, ◌∙◌, arith, ⊎_elim}
use Rattle.std.specs.List.{list_any, before_first, prefix_len}
use Rattle.std.specs.Char.{to_ascii_lowercase}
use Rattle.std.specs.Str.{str_to_ascii_lowercase}
use Rattle.std.proofs.lemmas.Bool.{cond-true, cond-false, or_from, or_parts, or_right, and_left, and_parts, and_from, eqb-true, ne_eqb, lt-leb, cases_Bool, false≢true}
use Rattle.std.proofs.lemmas.List.{map-append, take-append-drop}
use Rattle.url_canon.specs.Words.{begins_with, is_nil, without_leading, from_first, is_dot}
use Rattle.url_canon.specs.Address.{address_of, address_text}
use Rattle.url_canon.specs.Host.{is_opening_bracket, is_close, is_bracketed, bracketed_host, is_high, ascii_name, host_name, HostParts, named_or_address, named_host, host_of}
use Rattle.url_canon.proofs.Splits.{Lacks}
use Rattle.url_canon.proofs.Cuts.{before_first-not, before_first-at, none-before_first, before-and-from}
use Rattle.url_canon.proofs.Trims.{without_leading-not}
use Rattle.url_canon.proofs.Escapes.{any-append}
use Rattle.url_canon.proofs.Unescapes.{has_escape}
use Rattle.url_canon.proofs.Lacking.{Lacks-append, Lacks-back, Lacks-before_first, IgnoresCase, any-lowercase, lowercase_same, IsPlain, plain-front, plain-back, plain-append, has_escape-lower}
use Rattle.url_canon.proofs.Hosts.{begins-lower, open_same, close_same, not_bracketed, name_of-again, Lacks-name_of, plain-name_of}
use Rattle.url_canon.proofs.International.{IsFormByte, named, kept_name}
use Rattle.url_canon.proofs.Decimals.{address_of-fits, address_of-text, name_of-address, Lacks-address, plain-address, starts_small}

in_brackets : List ℕ → HostParts
in_brackets text = record { text = bracketed_host (without_leading is_dot text); is_address = true }

host_of-bracketed : (text : List ℕ) → is_bracketed (without_leading is_dot text) ≡ true → host_of text ≡ Some (in_brackets text)
unfolding host_of in_brackets
host_of-bracketed text e =
    cond-true (is_bracketed (without_leading is_dot text)) (Some (in_brackets text)) (cond (is_nil (host_name text)) None (Some (named_host (host_name text)))) e

host_of-named : (text : List ℕ) → is_bracketed (without_leading is_dot text) ≡ false → is_nil (host_name text) ≡ false → host_of text ≡ Some (named_host (host_name text))
unfolding host_of in_brackets
host_of-named text e f =
    cond-false (is_bracketed (without_leading is_dot text)) (Some (in_brackets text)) (cond (is_nil (host_name text)) None (Some (named_host (host_name text)))) e ∙ cond-false (is_nil (host_name text)) None (Some (named_host (host_name text))) f

host_of-none : (text : List ℕ) → is_bracketed (without_leading is_dot text) ≡ false → is_nil (host_name text) ≡ true → host_of text ≡ None
unfolding host_of in_brackets
host_of-none text e f =
    cond-false (is_bracketed (without_leading is_dot text)) (Some (in_brackets text)) (cond (is_nil (host_name text)) None (Some (named_host (host_name text)))) e ∙ cond-true (is_nil (host_name text)) None (Some (named_host (host_name text))) f

same_some : (g h : HostParts) → Some g ≡ Some h → g ≡ h
same_some g h e = cc

module _ (P : HostParts → Type 0) where
  address_or_name : (name : List ℕ) (o : Option ℕ) → address_of name ≡ o → (address_of name ≡ None → P (record { text = name; is_address = false })) → ((v : ℕ) → address_of name ≡ Some v → P (record { text = address_text v; is_address = true })) → P (named_or_address name o)
  address_or_name name None e f g = f e
  address_or_name name (Some v) e f g = g v e

  -- a host is in brackets, or a name, or an address
  host_cases : (text : List ℕ) (h : HostParts) → host_of text ≡ Some h
      → (is_bracketed (without_leading is_dot text) ≡ true → P (in_brackets text))
      → (is_bracketed (without_leading is_dot text) ≡ false → is_nil (host_name text) ≡ false → address_of (host_name text) ≡ None → P (record { text = host_name text; is_address = false }))
      → ((v : ℕ) → is_bracketed (without_leading is_dot text) ≡ false → is_nil (host_name text) ≡ false → address_of (host_name text) ≡ Some v → P (record { text = address_text v; is_address = true }))
      → P h
  unfolding named_host
  host_cases text h e brackets name address =
      ⊎_elim
      (λ yes. subst P (same_some (in_brackets text) h (sym (host_of-bracketed text yes) ∙ e)) (brackets yes))
      (λ bare. ⊎_elim
      (λ nothing. absurd (none_some (sym (host_of-none text bare nothing) ∙ e)))
      (λ some. subst P (same_some (named_host (host_name text)) h (sym (host_of-named text bare some) ∙ e)) (address_or_name (host_name text) (address_of (host_name text)) refl (name bare some) (λ v. address v bare some)))
      (cases_Bool (is_nil (host_name text))))
      (cases_Bool (is_bracketed (without_leading is_dot text)))
    where
      none_some : None ≡ Some h → ⊥
      none_some f = cc

-- in brackets

bracketed_is : (bare : List ℕ) → bracketed_host bare ≡ str_to_ascii_lowercase (before_first is_close bare) ++ (93 ∷ [])
unfolding bracketed_host
bracketed_is bare = map-append to_ascii_lowercase (before_first is_close bare) (93 ∷ [])

begins_bracketed : (bare : List ℕ) → begins_with is_opening_bracket bare ≡ true → begins_with is_opening_bracket (bracketed_host bare) ≡ true
unfolding bracketed_host
begins_bracketed [] e = absurd (false≢true e)
begins_bracketed (b ∷ bare) e =
    let is_91 = eqb-true b 91 e in
    let stays : is_close b ≡ false = ne_eqb b 93 (λ f. omega arith) in
    begins-lower is_opening_bracket (before_first is_close (b ∷ bare) ++ (93 ∷ [])) open_same ∙ (ap (λ t. begins_with is_opening_bracket (t ++ (93 ∷ []))) (before_first-not is_close b bare stays) ∙ e)

start_open : (text : List ℕ) → begins_with is_opening_bracket text ≡ true → without_leading is_dot text ≡ text
start_open [] e = refl
start_open (x ∷ text) e = let is_91 = eqb-true x 91 e in without_leading-not is_dot x text (ne_eqb x 46 (λ f. omega arith))

closes : (bare : List ℕ) → Lacks is_close (str_to_ascii_lowercase (before_first is_close bare))
closes bare = any-lowercase is_close (before_first is_close bare) close_same ∙ none-before_first is_close bare

bracketed_again : (bare : List ℕ) → begins_with is_opening_bracket bare ≡ true → host_of (bracketed_host bare) ≡ Some (record { text = bracketed_host bare; is_address = true })
unfolding bracketed_host in_brackets
bracketed_again bare e =
    let text = bracketed_host bare in
    let inside = str_to_ascii_lowercase (before_first is_close bare) in
    let start = start_open text (begins_bracketed bare e) in
    let closed : list_any is_close text ≡ true = ap (list_any is_close) (bracketed_is bare) ∙ (any-append is_close inside (93 ∷ []) ∙ or_right (list_any is_close inside) true refl) in
    let cut : before_first is_close text ≡ inside = ap (before_first is_close) (bracketed_is bare) ∙ before_first-at is_close inside 93 [] (closes bare) refl in
    let same : bracketed_host text ≡ text = bracketed_is text ∙ (ap (λ t. str_to_ascii_lowercase t ++ (93 ∷ [])) cut ∙ (ap (λ t. t ++ (93 ∷ [])) (lowercase_same (before_first is_close bare)) ∙ sym (bracketed_is bare))) in
    host_of-bracketed text (ap is_bracketed start ∙ and_from (begins_with is_opening_bracket text) (list_any is_close text) (begins_bracketed bare e) closed)
    ∙ ap (λ t. Some (record { text = t; is_address = true })) (ap bracketed_host start ∙ same)

bare_opens : (text : List ℕ) → is_bracketed text ≡ true → begins_with is_opening_bracket text ≡ true
bare_opens text e = (and_parts (begins_with is_opening_bracket text) (list_any is_close text) e).0

-- as an address

address_again : (v : ℕ) → v < 4294967296 → host_of (address_text v) ≡ Some (record { text = address_text v; is_address = true })
unfolding named_host
address_again v h =
    let text = address_text v in
    let bare : is_bracketed (without_leading is_dot text) ≡ false = not_open (without_leading is_dot text) (Lacks-without_leading is_opening_bracket text (Lacks-address is_opening_bracket v h refl (λ x low high. ne_eqb x 91 (λ f. omega arith)))) in
    host_of-named text bare (ap is_nil (kept v h) ∙ starts_small v h)
    ∙ (ap (λ n. Some (named_host n)) (kept v h) ∙ ap (λ o. Some (named_or_address text o)) (address_of-text v h))
  where
    kept : (v : ℕ) → v < 4294967296 → host_name (address_text v) ≡ address_text v
    kept v h = ap ascii_name (name_of-address v h) ∙ kept_name (address_text v) (Lacks-address is_high v h refl (λ x low high. lt-leb 128 x (omega arith)))

    not_open : (t : List ℕ) → Lacks is_opening_bracket t → is_bracketed t ≡ false
    not_open [] none = refl
    not_open (x ∷ t) none = and_left (is_opening_bracket x) (list_any is_close (x ∷ t)) (or_parts (is_opening_bracket x) (list_any is_opening_bracket t) none).0

    Lacks-without_leading : (q : ℕ → Bool) (t : List ℕ) → Lacks q t → Lacks q (without_leading is_dot t)
    Lacks-without_leading q t none = Lacks-back q (take (prefix_len is_dot t) t) (without_leading is_dot t) (ap (list_any q) (take-append-drop (prefix_len is_dot t) t) ∙ none)

named_again : (text : List ℕ) → is_bracketed (without_leading is_dot text) ≡ false → is_nil (host_name text) ≡ false → address_of (host_name text) ≡ None → host_of (host_name text) ≡ Some (record { text = host_name text; is_address = false })
unfolding named_host
named_again text bare some none =
    let read = named text in
    let again : host_name (host_name text) ≡ host_name text = ap host_name read.name ∙ (ap ascii_name (name_of-again read.source) ∙ (read.stays ∙ sym read.name)) in
    let still_bare = ap (λ t. is_bracketed (without_leading is_dot t)) read.name ∙ not_bracketed read.source (read.bare bare) in
    host_of-named (host_name text) still_bare (ap is_nil again ∙ some)
    ∙ (ap (λ n. Some (named_host n)) again ∙ ap (λ o. Some (named_or_address (host_name text) o)) none)

pub host_of-again : (text : List ℕ) (h : HostParts) → host_of text ≡ Some h → host_of h.text ≡ Some h
unfolding in_brackets
host_of-again text h e =
    host_cases (λ h. host_of h.text ≡ Some h) text h e (λ yes. bracketed_again (without_leading is_dot text) (bare_opens (without_leading is_dot text) yes)) (named_again text) (λ v bare some is. address_again v (address_of-fits (host_name text) v is))

-- a test that a host passes over where its text does
pub record IsApart (q : ℕ → Bool) : Type 0 where
  pub ignores : IgnoresCase q
  pub dot : q 46 ≡ false
  pub close : q 93 ≡ false
  pub figures : (x : ℕ) → 48 ≤ x → x ≤ 57 → q x ≡ false
  pub form : (x : ℕ) → IsFormByte x → q x ≡ false

lacks-host_name : (q : ℕ → Bool) (text : List ℕ) → IsApart q → Lacks q text → Lacks q (host_name text)
lacks-host_name q text a h =
    let read = named text in
    ap (list_any q) read.name ∙ Lacks-name_of q read.source a.ignores a.dot (read.lacks q (record { ignores = a.ignores; dot = a.dot; form = a.form }) h)

plain-host_name : (text : List ℕ) → IsPlain text → IsPlain (host_name text)
plain-host_name text h = let read = named text in ap has_escape read.name ∙ plain-name_of read.source (read.plain h)

pub Lacks-host_of : (q : ℕ → Bool) (text : List ℕ) (h : HostParts) → IsApart q → Lacks q text → host_of text ≡ Some h → Lacks q h.text
unfolding in_brackets bracketed_host
Lacks-host_of q text h a lacks e =
    host_cases (λ h. Lacks q h.text) text h e (λ yes. any-lowercase q (before_first is_close bare ++ (93 ∷ [])) a.ignores ∙ Lacks-append q (before_first is_close bare) (93 ∷ []) (Lacks-before_first q is_close bare in_bare) (or_from (q 93) false a.close refl)) (λ _ _ _. lacks-host_name q text a lacks) (λ v _ _ is. Lacks-address q v (address_of-fits (host_name text) v is) a.dot a.figures)
  where
    bare : List ℕ
    bare = without_leading is_dot text

    in_bare : Lacks q (without_leading is_dot text)
    in_bare = Lacks-back q (take (prefix_len is_dot text) text) (without_leading is_dot text) (ap (list_any q) (take-append-drop (prefix_len is_dot text) text) ∙ lacks)

pub plain-host_of : (text : List ℕ) (h : HostParts) → IsPlain text → host_of text ≡ Some h → IsPlain h.text
unfolding in_brackets bracketed_host
plain-host_of text h plain e =
    host_cases (λ h. IsPlain h.text) text h e (λ yes. has_escape-lower (before_first is_close (without_leading is_dot text) ++ (93 ∷ [])) ∙ plain-append (before_first is_close (without_leading is_dot text)) (93 ∷ []) (plain-front (before_first is_close (without_leading is_dot text)) (from_first is_close (without_leading is_dot text)) (ap has_escape (before-and-from is_close (without_leading is_dot text)) ∙ in_bare)) refl refl) (λ _ _ _. plain-host_name text plain) (λ v _ _ is. plain-address v (address_of-fits (host_name text) v is))
  where
    in_bare : IsPlain (without_leading is_dot text)
    in_bare = plain-back (take (prefix_len is_dot text) text) (without_leading is_dot text) (ap has_escape (take-append-drop (prefix_len is_dot text) text) ∙ plain)
