-- A text by its parts: what of it stands outside of strings, and where its counts pass what they may be.
use Rattle.std.proofs.Common.{◌≡◌, ◌≢◌, ◌⊎◌, inl, inr, ⊎_elim, length-drop, ℕ, ◌+◌, ◌<◌, ◌≤◌, List, [], ◌∷◌, ◌++◌, length, take, drop, get_or, Bool, true, false, cond, eqb, ltb, ◌||◌, Some, None, Option, refl, sym, ap, subst, ◌∙◌, append_assoc, arith, suc}
use Rattle.std.specs.Int.{from_bool}
use Rattle.std.specs.List.{filter}
use Rattle.std.proofs.Math.Seq.{take-add}
use Rattle.std.proofs.lemmas.Bool.{le-ltb, lt-ltb, ltb-false, false_from_ne_true}
use Rattle.std.proofs.lemmas.List.{append-nil, length-append, drop_more, take_more, drop-drop, take-append-drop, get_or-take, length-take-le}
use Rattle.std.proofs.lemmas.List.Elements.{filter-append}
use Rattle.memchr.specs.Find.{is_byte2}
use Rattle.sb_json.specs.Density.{Place, Outside, Inside, Escaped, place_after, place_behind, outside_from, is_opening, is_value_sign, openings_of, values_of, most_openings, most_values, has_more, first_past_size, too_dense}

pub outside-append : (place : Place) (xs ys : List ℕ) → outside_from place (xs ++ ys) ≡ outside_from place xs ++ outside_from (place_behind place xs) ys
outside-append place [] ys = refl
outside-append Outside (x ∷ xs) ys = ap (λ (l : List ℕ). x ∷ l) (outside-append (place_after Outside x) xs ys)
outside-append Inside (x ∷ xs) ys = outside-append (place_after Inside x) xs ys
outside-append Escaped (x ∷ xs) ys = outside-append Inside xs ys

pub behind-append : (place : Place) (xs ys : List ℕ) → place_behind place (xs ++ ys) ≡ place_behind (place_behind place xs) ys
behind-append place [] ys = refl
behind-append place (x ∷ xs) ys = behind-append (place_after place x) xs ys

-- ---- the parts of a string

-- a text leads from one place to another, and none of it stands outside of strings
abbrev pub Skips : Place → List ℕ → Place → Type 0
Skips from text to = (outside_from from text ≡ []) × (place_behind from text ≡ to)

pub none-append : (from mid : Place) (xs ys : List ℕ) → Skips from xs mid → outside_from mid ys ≡ [] → outside_from from (xs ++ ys) ≡ []
none-append from mid xs ys h none =
    outside-append from xs ys ∙ (ap (λ (l : List ℕ). l ++ outside_from (place_behind from xs) ys) h.0 ∙ (ap (λ (p : Place). outside_from p ys) h.1 ∙ none))

pub behind_both : (from mid : Place) (xs ys : List ℕ) → place_behind from xs ≡ mid → place_behind from (xs ++ ys) ≡ place_behind mid ys
behind_both from mid xs ys h = behind-append from xs ys ∙ ap (λ (p : Place). place_behind p ys) h

pub Skips-append : (from mid to : Place) (xs ys : List ℕ) → Skips from xs mid → Skips mid ys to → Skips from (xs ++ ys) to
Skips-append from mid to xs ys h g = (none-append from mid xs ys h g.0, behind_both from mid xs ys h.1 ∙ g.1)

pub plain_at : (a b : Bool) → (a || b) ≡ false → cond a Outside (cond b Escaped Inside) ≡ Inside
plain_at true b h = absurd (cc h)
plain_at false true h = absurd (cc h)
plain_at false false h = refl

pub plain_run : (text : List ℕ) → ((k : ℕ) → k < length text → is_byte2 34 92 (get_or text k 0) ≡ false) → Skips Inside text Inside
plain_run [] h = (refl, refl)
plain_run (x ∷ xs) h =
    let here : place_after Inside x ≡ Inside = plain_at (eqb x 34) (eqb x 92) (h 0 (omega arith)) in
    subst (λ (p : Place). (outside_from p xs ≡ []) × (place_behind p xs ≡ Inside)) (sym here) (plain_run xs (λ k lt. h (suc k) (omega (arith, lt))))

-- bytes that are no quote and no backslash
pub plain_front : (text : List ℕ) (n : ℕ) → n ≤ length text → ((k : ℕ) → k < n → is_byte2 34 92 (get_or text k 0) ≢ true) → Skips Inside (take n text) Inside
plain_front text n fits h =
    plain_run (take n text) (λ k lt.
    let below : k < n = omega (arith, lt, length-take-le n text fits) in
    ap (λ (x : ℕ). is_byte2 34 92 x) (get_or-take n text k 0 below) ∙ false_from_ne_true (is_byte2 34 92 (get_or text k 0)) (h k below))

-- a front of a text, and a front of what is behind it
pub fronts : (from mid to : Place) (text : List ℕ) (at n : ℕ) → Skips from (take at text) mid → Skips mid (take n (drop at text)) to → Skips from (take (at + n) text) to
fronts from mid to text at n h g =
    subst (λ (s : List ℕ). Skips from s to) (sym (take-add at n text)) (Skips-append from mid to (take at text) (take n (drop at text)) h g)

-- a quote ends a string
pub closed : (text : List ℕ) (at : ℕ) → at < length text → Skips Inside (take at text) Inside → get_or text at 0 ≡ 34 → Skips Inside (take (at + 1) text) Outside
closed text at lt h is =
    subst (λ (s : List ℕ). Skips Inside s Outside) (sym (take_more text at 0 lt ∙ ap (λ (x : ℕ). take at text ++ x ∷ []) is)) (Skips-append Inside Inside Outside (take at text) (34 ∷ []) h (refl, refl))

behind_backslash : (rest : List ℕ) → (outside_from Inside (92 ∷ take 1 rest) ≡ []) × (0 < length rest → place_behind Inside (92 ∷ take 1 rest) ≡ Inside)
behind_backslash [] = (refl, λ lt. absurd (omega (arith, lt)))
behind_backslash (x ∷ xs) = (refl, λ lt. refl)

-- a backslash, and the byte behind it where there is one
pub escaped : (text : List ℕ) (at : ℕ) → at < length text → Skips Inside (take at text) Inside → get_or text at 0 ≡ 92
    → (outside_from Inside (take (at + 2) text) ≡ []) × (at + 2 < length text → place_behind Inside (take (at + 2) text) ≡ Inside)
escaped text at lt h is =
    let rest = drop (at + 1) text in
    let cut : take (at + 2) text ≡ take at text ++ 92 ∷ take 1 rest = take-add at 2 text ∙ ap (λ (l : List ℕ). take at text ++ take 2 l) (drop_more text at 0 lt ∙ ap (λ (x : ℕ). x ∷ rest) is) in
    let pair = behind_backslash rest in (
      ap (λ (s : List ℕ). outside_from Inside s) cut ∙ none-append Inside Inside (take at text) (92 ∷ take 1 rest) h pair.0,
      λ more. ap (λ (s : List ℕ). place_behind Inside s) cut ∙ (behind_both Inside Inside (take at text) (92 ∷ take 1 rest) h.1 ∙ pair.1 (omega (arith, more, length-drop (at + 1) text))),
    )

-- ---- counts

-- how many bytes outside of strings pass a test
abbrev pub counted : (ℕ → Bool) → Place → List ℕ → ℕ
counted p place text = length (filter p (outside_from place text))

pub counted-append : (p : ℕ → Bool) (place : Place) (xs ys : List ℕ) → counted p place (xs ++ ys) ≡ counted p place xs + counted p (place_behind place xs) ys
counted-append p place xs ys =
    ap (λ (l : List ℕ). length (filter p l)) (outside-append place xs ys)
    ∙ (ap (λ (l : List ℕ). length l) (filter-append p (outside_from place xs) (outside_from (place_behind place xs) ys)) ∙ length-append (filter p (outside_from place xs)) (filter p (outside_from (place_behind place xs) ys)))

pub counted_both : (p : ℕ → Bool) (from mid : Place) (xs ys : List ℕ) (n : ℕ) → place_behind from xs ≡ mid → counted p mid ys ≡ n → counted p from (xs ++ ys) ≡ counted p from xs + n
counted_both p from mid xs ys n h e =
    counted-append p from xs ys ∙ ap (λ (m : ℕ). counted p from xs + m) (ap (λ (q : Place). counted p q ys) h ∙ e)

one_more : (a b o : Bool) (x : ℕ) (ms ns : List ℕ) → length ms ≤ length ns → length (cond o (x ∷ ms) ms) ≤ length (cond (a || b || o) (x ∷ ns) ns)
one_more true b true x ms ns h = omega (arith, h)
one_more true b false x ms ns h = omega (arith, h)
one_more false true true x ms ns h = omega (arith, h)
one_more false true false x ms ns h = omega (arith, h)
one_more false false true x ms ns h = omega (arith, h)
one_more false false false x ms ns h = omega (arith, h)

fewer_signs : (text : List ℕ) → length (filter is_opening text) ≤ length (filter is_value_sign text)
fewer_signs [] = omega arith
fewer_signs (x ∷ xs) = one_more (eqb x 44) (eqb x 58) (is_opening x) x (filter is_opening xs) (filter is_value_sign xs) (fewer_signs xs)

-- what opens a list or an object counts as a value too
pub fewer_openings : (place : Place) (text : List ℕ) → counted is_opening place text ≤ counted is_value_sign place text
fewer_openings place text = fewer_signs (outside_from place text)

pub same_more : (size : ℕ) (xs ys : List ℕ) → openings_of xs ≡ openings_of ys → values_of xs ≡ values_of ys → has_more size xs ≡ has_more size ys
same_more size xs ys o v = ap (λ (n : ℕ). ltb (most_openings size) n || ltb (most_values size) (values_of xs)) o ∙ ap (λ (n : ℕ). ltb (most_openings size) (openings_of ys) || ltb (most_values size) n) v

pub no_more : (size : ℕ) (text : List ℕ) → openings_of text ≤ most_openings size → values_of text ≤ most_values size → has_more size text ≡ false
no_more size text o v =
    ap (λ (b : Bool). b || ltb (most_values size) (values_of text)) (le-ltb (most_openings size) (openings_of text) o) ∙ le-ltb (most_values size) (values_of text) v

-- ---- the first byte past

-- A part that counts nothing is passed over.
pub first_past-quiet : (size : ℕ) (front s rest : List ℕ) → counted is_value_sign (place_behind Outside front) s ≡ 0 → has_more size front ≡ false → first_past_size size front (s ++ rest) ≡ first_past_size size (front ++ s) rest
first_past-quiet size front [] rest none few = ap (λ (f : List ℕ). first_past_size size f rest) (sym (append-nil front))
first_past-quiet size front (x ∷ xs) rest none few =
    let place = place_behind Outside front in
    let next = front ++ x ∷ [] in
    let split : counted is_value_sign place (x ∷ xs) ≡ counted is_value_sign place (x ∷ []) + counted is_value_sign (place_after place x) xs = counted-append is_value_sign place (x ∷ []) xs in
    let no_value : counted is_value_sign place (x ∷ []) ≡ 0 = omega (arith, split, none) in
    let none_left : counted is_value_sign (place_after place x) xs ≡ 0 = omega (arith, split, none) in
    let no_opening : counted is_opening place (x ∷ []) ≡ 0 = omega (arith, fewer_openings place (x ∷ []), no_value) in
    let openings : openings_of next ≡ openings_of front = counted_both is_opening Outside place front (x ∷ []) 0 refl no_opening ∙ omega arith in
    let values : values_of next ≡ values_of front = counted_both is_value_sign Outside place front (x ∷ []) 0 refl no_value ∙ omega arith in
    let still : has_more size next ≡ false = same_more size next front openings values ∙ few in
    ap (λ (b : Bool). cond b (Some (length front)) (first_past_size size next (xs ++ rest))) still
    ∙ (first_past-quiet size next xs rest (ap (λ (q : Place). counted is_value_sign q xs) (behind-append Outside front (x ∷ [])) ∙ none_left) still
    ∙ ap (λ (f : List ℕ). first_past_size size f rest) (append_assoc front (x ∷ []) xs))

-- How far a text is read: what has been counted is what stands before a place outside of strings, and is not too much.
pub record IsRead (text : List ℕ) (at m n : ℕ) : Type 0 where
  pub within : at ≤ length text
  pub place : at < length text → place_behind Outside (take at text) ≡ Outside
  pub openings : m ≡ openings_of (take at text)
  pub values : n ≡ values_of (take at text)
  pub few_openings : m ≤ most_openings (length text)
  pub few_values : n ≤ most_values (length text)
  pub dense : first_past_size (length text) (take at text) (drop at text) ≡ too_dense text

pub few_so_far : (text : List ℕ) (at openings values : ℕ) → IsRead text at openings values → has_more (length text) (take at text) ≡ false
few_so_far text at openings values r =
    no_more (length text) (take at text) (omega (arith, r.openings, r.few_openings)) (omega (arith, r.values, r.few_values))

-- a string is passed over
pub string_read : (text : List ℕ) (at openings values n : ℕ) → IsRead text at openings values → at < length text → get_or text at 0 ≡ 34 → at + (1 + n) ≤ length text
    → outside_from Inside (take n (drop (at + 1) text)) ≡ [] → (at + (1 + n) < length text → place_behind Inside (take n (drop (at + 1) text)) ≡ Outside)
    → IsRead text (at + (1 + n)) openings values
string_read text at openings values n r lt is fits none ended =
    let front = take at text in
    let t = take n (drop (at + 1) text) in
    let cut : take (at + (1 + n)) text ≡ front ++ 34 ∷ t =
    ap (λ (m : ℕ). take m text) (omega arith) ∙ (take-add (at + 1) n text ∙ (ap (λ (l : List ℕ). l ++ t) (take_more text at 0 lt ∙ ap (λ (x : ℕ). front ++ x ∷ []) is) ∙ append_assoc front (34 ∷ []) t)) in
    let rest : drop at text ≡ (34 ∷ t) ++ drop (at + (1 + n)) text =
    drop_more text at 0 lt ∙ (ap (λ (x : ℕ). x ∷ drop (at + 1) text) is ∙ ap (λ (l : List ℕ). 34 ∷ l) (sym (take-append-drop n (drop (at + 1) text)) ∙ ap (λ (l : List ℕ). t ++ l) (drop-drop n (at + 1) text ∙ ap (λ (m : ℕ). drop m text) (omega arith)))) in
    let no_opening : counted is_opening Outside (34 ∷ t) ≡ 0 = ap (λ (l : List ℕ). length (filter is_opening l)) none in
    let no_value : counted is_value_sign Outside (34 ∷ t) ≡ 0 = ap (λ (l : List ℕ). length (filter is_value_sign l)) none in
    record {
      within = fits;
      place = λ more. ap (λ (s : List ℕ). place_behind Outside s) cut ∙ (behind_both Outside Outside front (34 ∷ t) (r.place lt) ∙ ended more);
      openings = r.openings ∙ sym (ap (λ (s : List ℕ). openings_of s) cut ∙ (counted_both is_opening Outside Outside front (34 ∷ t) 0 (r.place lt) no_opening ∙ omega arith));
      values = r.values ∙ sym (ap (λ (s : List ℕ). values_of s) cut ∙ (counted_both is_value_sign Outside Outside front (34 ∷ t) 0 (r.place lt) no_value ∙ omega arith));
      few_openings = r.few_openings;
      few_values = r.few_values;
      dense =
          ap (λ (f : List ℕ). first_past_size (length text) f (drop (at + (1 + n)) text)) cut
          ∙ (sym (first_past-quiet (length text) front (34 ∷ t) (drop (at + (1 + n)) text) (ap (λ (q : Place). counted is_value_sign q (34 ∷ t)) (r.place lt) ∙ no_value) (few_so_far text at openings values r))
          ∙ (ap (λ (l : List ℕ). first_past_size (length text) front l) (sym rest) ∙ r.dense));
    }

pub one_counted : (b : Bool) (x : ℕ) → length (cond b (x ∷ []) []) ≡ cond b 1 0
one_counted true x = refl
one_counted false x = refl

-- what a byte outside of strings adds to a count
pub counted_byte : (p : ℕ → Bool) (text : List ℕ) (at : ℕ) → at < length text → place_behind Outside (take at text) ≡ Outside → counted p Outside (take (at + 1) text) ≡ counted p Outside (take at text) + cond (p (get_or text at 0)) 1 0
counted_byte p text at lt h =
    let x = get_or text at 0 in
    ap (λ (s : List ℕ). counted p Outside s) (take_more text at 0 lt) ∙ counted_both p Outside Outside (take at text) (x ∷ []) (cond (p x) 1 0) h (one_counted (p x) x)

-- the count so far, with what the next byte adds
counted_next : (p : ℕ → Bool) (text : List ℕ) (at n : ℕ) → at < length text → place_behind Outside (take at text) ≡ Outside → n ≡ counted p Outside (take at text)
    → n + cond (p (get_or text at 0)) 1 0 ≡ counted p Outside (take (at + 1) text)
counted_next p text at n lt h e = ap (λ (m : ℕ). m + cond (p (get_or text at 0)) 1 0) e ∙ sym (counted_byte p text at lt h)

first_past-byte : (text : List ℕ) (at : ℕ) → at < length text → first_past_size (length text) (take at text) (drop at text) ≡ cond (has_more (length text) (take (at + 1) text)) (Some (length (take at text))) (first_past_size (length text) (take (at + 1) text) (drop (at + 1) text))
first_past-byte text at lt =
    ap (λ (l : List ℕ). first_past_size (length text) (take at text) l) (drop_more text at 0 lt)
    ∙ ap (λ (f : List ℕ). cond (has_more (length text) f) (Some (length (take at text))) (first_past_size (length text) f (drop (at + 1) text))) (sym (take_more text at 0 lt))

pub not_quote : (x : ℕ) → eqb x 34 ≡ false → place_after Outside x ≡ Outside
not_quote x h = ap (λ (b : Bool). cond b Inside Outside) h

-- a byte outside of strings is read
pub byte_read : (text : List ℕ) (at openings values : ℕ) → IsRead text at openings values → at < length text → eqb (get_or text at 0) 34 ≡ false
    → openings + cond (is_opening (get_or text at 0)) 1 0 ≤ most_openings (length text) → values + cond (is_value_sign (get_or text at 0)) 1 0 ≤ most_values (length text)
    → IsRead text (at + 1) (openings + cond (is_opening (get_or text at 0)) 1 0) (values + cond (is_value_sign (get_or text at 0)) 1 0)
byte_read text at openings values r lt other few_openings few_values =
    let x = get_or text at 0 in
    let more_openings = counted_next is_opening text at openings lt (r.place lt) r.openings in
    let more_values = counted_next is_value_sign text at values lt (r.place lt) r.values in
    let few : has_more (length text) (take (at + 1) text) ≡ false = no_more (length text) (take (at + 1) text) (omega (arith, more_openings, few_openings)) (omega (arith, more_values, few_values)) in
    record {
      within = omega (arith, lt);
      place = λ more. ap (λ (s : List ℕ). place_behind Outside s) (take_more text at 0 lt) ∙ (behind_both Outside Outside (take at text) (x ∷ []) (r.place lt) ∙ not_quote x other);
      openings = more_openings;
      values = more_values;
      few_openings = few_openings;
      few_values = few_values;
      dense = sym (first_past-byte text at lt ∙ ap (λ (b : Bool). cond b (Some (length (take at text))) (first_past_size (length text) (take (at + 1) text) (drop (at + 1) text))) few) ∙ r.dense;
    }

any_more : (a b c d : ℕ) → (a < b) ⊎ (c < d) → (ltb a b || ltb c d) ≡ true
any_more a b c d (inl h) = ap (λ (t : Bool). t || ltb c d) (lt-ltb a b h)
any_more a b c d (inr h) = ap (λ (t : Bool). ltb a b || t) (lt-ltb c d h) ∙ or_true (ltb a b)
  where
    or_true : (t : Bool) → (t || true) ≡ true
    or_true true = refl
    or_true false = refl

-- the byte with which a count passes what it may be
pub byte_past : (text : List ℕ) (at openings values : ℕ) → IsRead text at openings values → at < length text
    → (most_openings (length text) < openings + cond (is_opening (get_or text at 0)) 1 0) ⊎ (most_values (length text) < values + cond (is_value_sign (get_or text at 0)) 1 0)
    → Some at ≡ too_dense text
byte_past text at openings values r lt past =
    let x = get_or text at 0 in
    let more_openings = counted_next is_opening text at openings lt (r.place lt) r.openings in
    let more_values = counted_next is_value_sign text at values lt (r.place lt) r.values in
    let many : has_more (length text) (take (at + 1) text) ≡ true = any_more (most_openings (length text)) (openings_of (take (at + 1) text)) (most_values (length text)) (values_of (take (at + 1) text))
    (⊎_elim (λ o. inl (omega (arith, o, more_openings))) (λ v. inr (omega (arith, v, more_values))) past) in
    ap (λ (n : ℕ). Some n) (sym (length-take-le at text (omega (arith, lt))))
    ∙ (sym (first_past-byte text at lt ∙ ap (λ (b : Bool). cond b (Some (length (take at text))) (first_past_size (length text) (take (at + 1) text) (drop (at + 1) text))) many) ∙ r.dense)

-- ---- texts that are not too dense

few_parts : (size : ℕ) (front rest : List ℕ) → openings_of (front ++ rest) ≤ most_openings size → values_of (front ++ rest) ≤ most_values size → first_past_size size front rest ≡ None
few_parts size front [] o v = refl
few_parts size front (x ∷ xs) o v =
    let next = front ++ x ∷ [] in
    let whole : next ++ xs ≡ front ++ x ∷ xs = append_assoc front (x ∷ []) xs in
    let openings : openings_of (next ++ xs) ≤ most_openings size = subst (λ (t : List ℕ). openings_of t ≤ most_openings size) (sym whole) o in
    let values : values_of (next ++ xs) ≤ most_values size = subst (λ (t : List ℕ). values_of t ≤ most_values size) (sym whole) v in
    let few : has_more size next ≡ false = no_more size next
    (omega (arith, openings, counted-append is_opening Outside next xs)) (omega (arith, values, counted-append is_value_sign Outside next xs)) in
    ap (λ (b : Bool). cond b (Some (length front)) (first_past_size size next xs)) few ∙ few_parts size next xs openings values

-- a text that counts no more than it may
pub few_pass : (text : List ℕ) → openings_of text ≤ most_openings (length text) → values_of text ≤ most_values (length text) → too_dense text ≡ None
few_pass text o v = few_parts (length text) [] text o v

not_past : (b : Bool) (n : ℕ) (later : Option ℕ) → cond b (Some n) later ≡ None → (b ≡ false) × (later ≡ None)
not_past true n later h = absurd (cc h)
not_past false n later h = (refl, h)

passed_parts : (size : ℕ) (front rest : List ℕ) → has_more size front ≡ false → first_past_size size front rest ≡ None → has_more size (front ++ rest) ≡ false
passed_parts size front [] few h = ap (λ (t : List ℕ). has_more size t) (append-nil front) ∙ few
passed_parts size front (x ∷ xs) few h =
    let next = front ++ x ∷ [] in
    let both = not_past (has_more size next) (length front) (first_past_size size next xs) h in
    ap (λ (t : List ℕ). has_more size t) (sym (append_assoc front (x ∷ []) xs)) ∙ passed_parts size next xs both.0 both.1

no_more_at : (a b c d : ℕ) → (ltb a b || ltb c d) ≡ false → (b ≤ a) × (d ≤ c)
no_more_at a b c d h = parts (ltb a b) (ltb c d) refl refl h
  where
    parts : (s t : Bool) → ltb a b ≡ s → ltb c d ≡ t → (s || t) ≡ false → (b ≤ a) × (d ≤ c)
    parts true t e f g = absurd (cc g)
    parts false true e f g = absurd (cc g)
    parts false false e f g = (ltb-false a b e, ltb-false c d f)

-- and a text that passes
pub passed_few : (text : List ℕ) → too_dense text ≡ None → (openings_of text ≤ most_openings (length text)) × (values_of text ≤ most_values (length text))
passed_few text h =
    no_more_at (most_openings (length text)) (openings_of text) (most_values (length text)) (values_of text)
    (passed_parts (length text) [] text (no_more (length text) [] (omega arith) (omega arith)) h)

-- ---- all signs

kept : (b : Bool) (x : ℕ) (ms ns : List ℕ) → length ms ≤ length ns → length (cond b (x ∷ ms) ms) ≤ length (cond b (x ∷ ns) ns)
kept true x ms ns h = omega (arith, h)
kept false x ms ns h = h

skipped : (b : Bool) (x : ℕ) (ms ns : List ℕ) → length ms ≤ length ns → length ms ≤ length (cond b (x ∷ ns) ns)
skipped true x ms ns h = omega (arith, h)
skipped false x ms ns h = h

-- what stands outside of strings is a part of the whole
fewer_outside : (p : ℕ → Bool) (place : Place) (text : List ℕ) → counted p place text ≤ length (filter p text)
fewer_outside p place [] = omega arith
fewer_outside p Outside (x ∷ xs) =
    kept (p x) x (filter p (outside_from (place_after Outside x) xs)) (filter p xs) (fewer_outside p (place_after Outside x) xs)
fewer_outside p Inside (x ∷ xs) =
    skipped (p x) x (filter p (outside_from (place_after Inside x) xs)) (filter p xs) (fewer_outside p (place_after Inside x) xs)
fewer_outside p Escaped (x ∷ xs) = skipped (p x) x (filter p (outside_from Inside xs)) (filter p xs) (fewer_outside p Inside xs)

-- a text with few signs in all
pub few_signs : (text : List ℕ) → length (filter is_opening text) ≤ most_openings (length text) → length (filter is_value_sign text) ≤ most_values (length text) → None ≡ too_dense text
few_signs text o v =
    sym (few_pass text (omega (arith, fewer_outside is_opening Outside text, o)) (omega (arith, fewer_outside is_value_sign Outside text, v)))

-- what a byte adds, as the code has it
pub adds : (b d : Bool) (n : ℕ) → n ≡ from_bool b → b ≡ d → n ≡ cond d 1 0
adds b d n h same = h ∙ (as_number b ∙ ap (λ (t : Bool). cond t 1 0) same)
  where
    as_number : (t : Bool) → from_bool t ≡ cond t 1 0
    as_number true = refl
    as_number false = refl

filter_within : (p : ℕ → Bool) (text : List ℕ) → length (filter p text) ≤ length text
filter_within p [] = omega arith
filter_within p (x ∷ xs) = at (p x) (filter_within p xs)
  where
    at : (b : Bool) → length (filter p xs) ≤ length xs → length (cond b (x ∷ filter p xs) (filter p xs)) ≤ length (x ∷ xs)
    at true h = omega (arith, h)
    at false h = omega (arith, h)

filter_parts : (p : ℕ → Bool) (text : List ℕ) (n : ℕ) → length (filter p (take n text)) + length (filter p (drop n text)) ≡ length (filter p text)
filter_parts p text n =
    sym (length-append (filter p (take n text)) (filter p (drop n text)))
    ∙ (ap (λ (l : List ℕ). length l) (sym (filter-append p (take n text) (drop n text))) ∙ ap (λ (l : List ℕ). length (filter p l)) (take-append-drop n text))

-- the count so far and that of the next part are no more than the text has bytes
pub part_within : (p : ℕ → Bool) (text rest part : List ℕ) (n so_far count : ℕ) → part ≡ take n rest → so_far + length (filter p rest) ≡ length (filter p text) → count ≡ length (filter p part) → so_far + count ≤ length text
part_within p text rest part n so_far count is whole here =
    let front : count ≡ length (filter p (take n rest)) = here ∙ ap (λ (l : List ℕ). length (filter p l)) is in
    omega (arith, front, filter_parts p rest n, whole, filter_within p text)
