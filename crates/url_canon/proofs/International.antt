-- The name of a host in ASCII is a name that was read, and stays.
use Rattle.std.proofs.Common.{◌≡◌, ℕ, ◌<◌, List, [], ◌∷◌, Bool, true, false, eqb, get_or, All, Option, Some, None, option_map, refl, sym, ap, subst, ◌∙◌, arith, ⊎_elim}
use Rattle.std.specs.List.{list_any, slice_split}
use Rattle.std.specs.Char.{to_ascii_lowercase, is_ascii_uppercase}
use Rattle.std.specs.Str.{str_to_ascii_lowercase}
use Rattle.std.proofs.lemmas.Bool.{cond-true, cond-false, or_parts, ne_eqb, and_left, lt-leb, cases_Bool, false≢true}
use Rattle.std.proofs.lemmas.Bool.Decides.{nat_tests}
use Rattle.std.proofs.lemmas.List.{append-nil}
use Rattle.idna.specs.AsciiDenyList.{denies}
use Rattle.idna.specs.Uts46.{domain_to_ascii}
use Rattle.idna.specs.declared.deny_list.TheConstants.AsciiDenyList.{URL}
use Rattle.idna.specs.declared.options.Hyphens.TheVariants.{Allow}
use Rattle.idna.specs.declared.options.DnsLength.TheVariants.{Ignore}
use Rattle.idna.proofs.ValidityLemmas.{denies-URL}
use Rattle.idna.proofs.Uts46Lemmas.{IsOutputByte, All-to_ascii}
use Rattle.url_canon.specs.Words.{begins_with, without_leading, is_dot}
use Rattle.url_canon.specs.Host.{is_opening_bracket, is_colon, is_bracketed, labels_of, tidied, name_before_port, is_high, form_or, ascii_name, host_name}
use Rattle.url_canon.proofs.Splits.{Lacks}
use Rattle.url_canon.proofs.Cuts.{before_first-none}
use Rattle.url_canon.proofs.Places.{lacks_from}
use Rattle.url_canon.proofs.Lacking.{Lacks-parts, Lacks-join, each-filter, IgnoresCase, IsPlain, plain-after}
use Rattle.url_canon.proofs.Hosts.{Lacks-name_of, any-without_leading}

-- what a byte of a form in ASCII is
pub record IsFormByte (x : ℕ) : Type 0 where
  pub narrow : x < 128
  pub lower : is_ascii_uppercase x ≡ false
  pub no_percent : eqb x 37 ≡ false
  pub no_slash : eqb x 47 ≡ false
  pub no_colon : eqb x 58 ≡ false
  pub no_question : eqb x 63 ≡ false
  pub no_at : eqb x 64 ≡ false
  pub no_open : eqb x 91 ≡ false

denied : (x c : ℕ) → denies URL x ≡ false → denies URL c ≡ true → eqb x c ≡ false
denied x c allowed not_c = ne_eqb x c (λ e. false≢true (sym allowed ∙ (ap (denies URL) e ∙ not_c)))

form_byte : (x : ℕ) → IsOutputByte URL x → IsFormByte x
form_byte x h = record {
  narrow = h.ascii;
  lower = h.lower;
  no_percent = denied x 37 h.allowed (denies-URL 37);
  no_slash = denied x 47 h.allowed (denies-URL 47);
  no_colon = denied x 58 h.allowed (denies-URL 58);
  no_question = denied x 63 h.allowed (denies-URL 63);
  no_at = denied x 64 h.allowed (denies-URL 64);
  no_open = denied x 91 h.allowed (denies-URL 91);
}

-- what a test has on no byte of a form, the form lacks
lacks-form : (q : ℕ → Bool) (form : List ℕ) → ((x : ℕ) → IsFormByte x → q x ≡ false) → All (IsOutputByte URL) form → Lacks q form
lacks-form q form f all = lacks_from q form (λ i lt. f (get_or form i 0) (form_byte (get_or form i 0) (all i 0 lt)))

lacks-tidied : (q : ℕ → Bool) (form : List ℕ) → q 46 ≡ false → Lacks q form → Lacks q (tidied form)
lacks-tidied q form e h = Lacks-join q 46 (labels_of form) e (each-filter (Lacks q) _ (slice_split is_dot form) (Lacks-parts q is_dot form h))

lower_one : (x : ℕ) → is_ascii_uppercase x ≡ false → to_ascii_lowercase x ≡ x
lower_one x h = grind (arith, nat_tests, h)

lower_kept : (xs : List ℕ) → Lacks is_ascii_uppercase xs → str_to_ascii_lowercase xs ≡ xs
lower_kept [] h = refl
lower_kept (x ∷ xs) h =
    let parts = or_parts (is_ascii_uppercase x) (list_any is_ascii_uppercase xs) h in
    ap (λ y. y ∷ str_to_ascii_lowercase xs) (lower_one x parts.0) ∙ ap (λ ys. x ∷ ys) (lower_kept xs parts.1)

-- a form is tidied as a name is read
tidied_is_name : (form : List ℕ) → All (IsOutputByte URL) form → tidied form ≡ name_before_port form
unfolding name_before_port
tidied_is_name form all =
    sym (ap (λ t. str_to_ascii_lowercase (tidied t)) (before_first-none is_colon form (lacks-form is_colon form (λ x b. b.no_colon) all))
    ∙ lower_kept (tidied form) (lacks-tidied is_ascii_uppercase form refl (lacks-form is_ascii_uppercase form (λ x b. b.lower) all)))

not_begun : (p : ℕ → Bool) (t : List ℕ) → Lacks p t → begins_with p t ≡ false
not_begun p [] none = refl
not_begun p (x ∷ t) none = (or_parts (p x) (list_any p t) none).0

bare_form : (form : List ℕ) → All (IsOutputByte URL) form → is_bracketed (without_leading is_dot form) ≡ false
bare_form form all =
    and_left _ _ (not_begun is_opening_bracket (without_leading is_dot form) (any-without_leading is_opening_bracket form refl ∙ lacks-form is_opening_bracket form (λ x b. b.no_open) all))

plain_none : (xs : List ℕ) → Lacks (λ x. eqb x 37) xs → IsPlain xs
plain_none xs h = subst IsPlain (append-nil xs) (plain-after xs [] h refl)

high_ignores : IgnoresCase is_high
high_ignores x = grind (arith, nat_tests)

pub kept_name : (name : List ℕ) → Lacks is_high name → ascii_name name ≡ name
unfolding ascii_name
kept_name name h = cond-false (list_any is_high name) (form_or name (domain_to_ascii URL name)) name h

-- a test that a form's bytes pass over, and capitals
pub record PassesOver (q : ℕ → Bool) : Type 0 where
  pub ignores : IgnoresCase q
  pub dot : q 46 ≡ false
  pub form : (x : ℕ) → IsFormByte x → q x ≡ false

-- the name of a host is that of some text that has no bracket and lacks what the host lacks
pub record IsNamed (text : List ℕ) : Type 0 where
  pub source : List ℕ
  pub name : host_name text ≡ name_before_port source
  pub stays : ascii_name (name_before_port source) ≡ name_before_port source
  pub bare : is_bracketed (without_leading is_dot text) ≡ false → is_bracketed (without_leading is_dot source) ≡ false
  pub lacks : (q : ℕ → Bool) → PassesOver q → Lacks q text → Lacks q source
  pub plain : IsPlain text → IsPlain source

itself : (text : List ℕ) → host_name text ≡ name_before_port text → IsNamed text
itself text e = record {
  source = text;
  name = e;
  stays = e;
  bare = λ h. h;
  lacks = λ q p h. h;
  plain = λ h. h;
}

by_form : (text form : List ℕ) → host_name text ≡ tidied form → All (IsOutputByte URL) form → IsNamed text
by_form text form e all = record {
  source = form;
  name = e ∙ tidied_is_name form all;
  stays = kept_name (name_before_port form) (Lacks-name_of is_high form high_ignores refl (lacks-form is_high form (λ x b. lt-leb 128 x b.narrow) all));
  bare = λ _. bare_form form all;
  lacks = λ q p _. lacks-form q form p.form all;
  plain = λ _. plain_none form (lacks-form (λ x. eqb x 37) form (λ x b. b.no_percent) all);
}

by_answer : (text : List ℕ) (o : Option (List ℕ)) → domain_to_ascii URL (name_before_port text) ≡ o → host_name text ≡ form_or (name_before_port text) o → IsNamed text
by_answer text None e h = itself text h
by_answer text (Some form) e h = by_form text form h (All-to_ascii URL Allow Ignore (name_before_port text) form e)

pub named : (text : List ℕ) → IsNamed text
unfolding ascii_name
named text =
    let name = name_before_port text in
    ⊎_elim
    (λ high. by_answer text (domain_to_ascii URL name) refl (cond-true (list_any is_high name) (form_or name (domain_to_ascii URL name)) name high))
    (λ low. itself text (cond-false (list_any is_high name) (form_or name (domain_to_ascii URL name)) name low))
    (cases_Bool (list_any is_high (name_before_port text)))

-- what ToASCII answered, tidied, decides the name

asked : (name : List ℕ) → list_any is_high name ≡ true → ascii_name name ≡ form_or name (domain_to_ascii URL name)
unfolding ascii_name
asked name high = cond-true (list_any is_high name) (form_or name (domain_to_ascii URL name)) name high

answered : (name : List ℕ) (o : Option (List ℕ)) (form : List ℕ) → Some form ≡ option_map tidied o → form ≡ form_or name o
answered name None form e = absurd (cc)
answered name (Some f) form e = cc

unanswered : (name : List ℕ) (o : Option (List ℕ)) → None ≡ option_map tidied o → name ≡ form_or name o
unanswered name None e = refl
unanswered name (Some f) e = absurd (cc)

pub accepted : (name form : List ℕ) → list_any is_high name ≡ true → Some form ≡ option_map tidied (domain_to_ascii URL name) → form ≡ ascii_name name
accepted name form high e = answered name (domain_to_ascii URL name) form e ∙ sym (asked name high)

pub refused : (name : List ℕ) → list_any is_high name ≡ true → None ≡ option_map tidied (domain_to_ascii URL name) → name ≡ ascii_name name
refused name high e = unanswered name (domain_to_ascii URL name) e ∙ sym (asked name high)
