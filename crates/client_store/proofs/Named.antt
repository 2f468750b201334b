-- The lists of a store, read and written.
use Rattle.std.proofs.Common.{◌≡◌, ℕ, zero, suc, ◌≤◌, true, false, cond, ltb, List, [], ◌∷◌, ◌++◌, length, map, Ok, Err, refl, sym, ap, subst, ◌∙◌, append_assoc, append-nil, arith}
use Rattle.std.specs.declared.cmp.Ordering.TheVariants.{Less}
use Rattle.std.specs.Ordering.{is_lt}
use Rattle.std.specs.List.{flat_map, AllByRecursion}
use Rattle.std.specs.List.Sorted.{IsStrictlySortedBy}
use Rattle.std.proofs.lemmas.Bool.{ltb-false, le-ltb}
use Rattle.std.proofs.lemmas.List.{map-append, nil_from_length}
use Rattle.std.proofs.lemmas.List.Concat.{flat_map-cons}
use Rattle.std.proofs.lemmas.List.Elements.{All-from_recursion, recursion_from_All}
use Rattle.sb_model.specs.declared.names.ListName.{ListName}
use Rattle.sb_model.specs.Names.{name_cmp}
use Rattle.update_client.specs.Held.{Held, AreHeldLists, most_lists}
use Rattle.client_store.specs.declared.format.Format.{Format}
use Rattle.client_store.specs.declared.format.Format.TheVariants.{OneSize, EachSize}
use Rattle.client_store.specs.Store.{name_text, mark_text, stored_token_text, set_text, list_text, counted_lists_text, IsKept, AreKept, HasOneSize, Suits}
use Rattle.client_store.specs.Reading.{◌>>=◌, byte_at, comes_after, name_at, mark_at, token_at, set_at, list_at, lists_at, lists_in}
use Rattle.client_store.proofs.Heads.{name_takes, name_again, mark_takes, mark_again, token_takes, token_again}
use Rattle.client_store.proofs.Members.{first_true, second_true, both_true, less_from_true}
use Rattle.client_store.proofs.Parts.{IsBytes, bind_ok, unless_ok, ok_is, Takes, joined, byte_takes}
use Rattle.client_store.proofs.Rising.{sorted_nil, sorted_push, before_next}
use Rattle.client_store.proofs.Sets.{SetSuits, set_takes, set_again}

-- ---- one list

pub record TakesList (format : Format) (before : List Held) (bytes : List ℕ) (held : Held) (rest : List ℕ) : Type 0 where
  pub takes : Takes bytes (list_text format held) rest
  pub kept : IsKept held
  pub suits : SetSuits format held.set
  pub after : comes_after before held.name ≡ true

list_takes : (format : Format) (before : List Held) (bytes : List ℕ) (x : Held × List ℕ) → IsBytes bytes → list_at format before bytes ≡ Ok x → TakesList format before bytes x.0 x.1
unfolding list_at
list_takes format before bytes x fits e =
    let a = bind_ok (name_at before bytes) (λ name. mark_at name.1 >>= λ mark. token_at mark.1 >>= λ token. set_at format token.1 >>= λ set. Ok (record { name = name.0; token = token.0; set = set.0; resync = mark.0 }, set.1)) x e in
    let b = bind_ok (mark_at a.0.1) (λ mark. token_at mark.1 >>= λ token. set_at format token.1 >>= λ set. Ok (record { name = a.0.0; token = token.0; set = set.0; resync = mark.0 }, set.1)) x a.2 in
    let c = bind_ok (token_at b.0.1) (λ token. set_at format token.1 >>= λ set. Ok (record { name = a.0.0; token = token.0; set = set.0; resync = b.0.0 }, set.1)) x b.2 in
    let d = bind_ok (set_at format c.0.1) (λ set. Ok (record { name = a.0.0; token = c.0.0; set = set.0; resync = b.0.0 }, set.1)) x c.2 in
    let name = name_takes before bytes a.0 fits a.1 in
    let mark = mark_takes a.0.1 b.0 name.0.fits b.1 in
    let token = token_takes b.0.1 c.0 mark.fits c.1 in
    let set = set_takes format c.0.1 d.0 token.0.fits d.1 in
    let last = joined b.0.1 (stored_token_text c.0.0) c.0.1 (set_text format d.0.0) d.0.1 token.0 set.0 in
    let tail = joined a.0.1 (mark_text b.0.0) b.0.1 (stored_token_text c.0.0 ++ set_text format d.0.0) d.0.1 mark last in
    let whole = joined bytes (name_text a.0.0) a.0.1 (mark_text b.0.0 ++ (stored_token_text c.0.0 ++ set_text format d.0.0)) d.0.1 name.0 tail in
    let made : Held × List ℕ = (record { name = a.0.0; token = c.0.0; set = d.0.0; resync = b.0.0 }, d.0.1) in
    subst (λ (y : Held × List ℕ). TakesList format before bytes y.0 y.1) (ok_is made x d.2)
    (record { takes = whole; kept = record { token = record { token = token.1 }; set = set.1 }; suits = set.2; after = name.1 })

list_again : (format : Format) (before : List Held) (held : Held) (rest : List ℕ) → comes_after before held.name ≡ true → IsKept held → SetSuits format held.set
    → list_at format before (list_text format held ++ rest) ≡ Ok (held, rest)
unfolding list_at
list_again format before held rest after kept suits =
    let set : List ℕ = set_text format held.set ++ rest in
    let token : List ℕ = stored_token_text held.token ++ set in
    let mark : List ℕ = mark_text held.resync ++ token in
    let regrouped : list_text format held ++ rest ≡ name_text held.name ++ mark =
    append_assoc (name_text held.name) (mark_text held.resync ++ (stored_token_text held.token ++ set_text format held.set)) rest
    ∙ ap (λ (t : List ℕ). name_text held.name ++ t) (append_assoc (mark_text held.resync) (stored_token_text held.token ++ set_text format held.set) rest
    ∙ ap (λ (t : List ℕ). mark_text held.resync ++ t) (append_assoc (stored_token_text held.token) (set_text format held.set) rest))
    in
    ap (list_at format before) regrouped
    ∙ rw (name_again before held.name mark after, mark_again held.resync token, token_again held.token set kept.token.token, set_again format held.set rest kept.set suits) refl

-- ---- the order of names

abbrev pub names_of : List Held → List ListName
names_of lists = map (λ (held : Held). held.name) lists

names_before : (before : List Held) (name : ListName) → comes_after before name ≡ true → AllByRecursion (λ other. name_cmp other name ≡ Less) (names_of before)
names_before [] name h = tt
names_before (held ∷ before) name h =
    (less_from_true _ (first_true (is_lt (name_cmp held.name name)) (comes_after before name) h), names_before before name (second_true (is_lt (name_cmp held.name name)) (comes_after before name) h))

comes_after-true : (before : List Held) (name : ListName) → AllByRecursion (λ other. name_cmp other name ≡ Less) (names_of before) → comes_after before name ≡ true
comes_after-true [] name each = refl
comes_after-true (held ∷ before) name each = both_true (is_lt (name_cmp held.name name)) (comes_after before name) (ap is_lt each.0) (comes_after-true before name each.1)

abbrev pub AreNamedInOrder : List Held → Type 0
AreNamedInOrder lists = IsStrictlySortedBy name_cmp (names_of lists)

named_push : (before : List Held) (held : Held) → comes_after before held.name ≡ true → AreNamedInOrder before → AreNamedInOrder (before ++ held ∷ [])
named_push before held after rising =
    let Rising : List ListName → Type 0 = λ names. IsStrictlySortedBy name_cmp names in
    subst Rising (sym (map-append (λ (h : Held). h.name) before (held ∷ [])))
    (sorted_push name_cmp (names_of before) held.name (names_before before held.name after) rising)

named_next : (before : List Held) (held : Held) (more : List Held) → AreNamedInOrder (before ++ held ∷ more) → comes_after before held.name ≡ true
named_next before held more rising =
    let Rising : List ListName → Type 0 = λ names. IsStrictlySortedBy name_cmp names in
    comes_after-true before held.name
    (before_next name_cmp (names_of before) held.name (names_of more) (subst Rising (map-append (λ (h : Held). h.name) before (held ∷ more)) rising))

-- ---- several lists

pub record TakesLists (format : Format) (count : ℕ) (before : List Held) (bytes : List ℕ) (after : List Held) (rest : List ℕ) : Type 0 where
  pub more : List Held
  pub is : after ≡ before ++ more
  pub number : length more ≡ count
  pub takes : Takes bytes (flat_map (list_text format) more) rest
  pub kept : AllByRecursion IsKept more
  pub suits : AllByRecursion (λ (held : Held). SetSuits format held.set) more
  pub rising : AreNamedInOrder before → AreNamedInOrder after

lists_take : (format : Format) (count : ℕ) (before : List Held) (bytes : List ℕ) (x : List Held × List ℕ) → IsBytes bytes → lists_at format count before bytes ≡ Ok x
    → TakesLists format count before bytes x.0 x.1
unfolding lists_at
lists_take format zero before bytes x fits e =
    subst (λ (y : List Held × List ℕ). TakesLists format zero before bytes y.0 y.1) (ok_is (before, bytes) x e)
    (record { more = []; is = sym (append-nil before); number = refl; takes = record { parts = refl; fits = fits }; kept = tt; suits = tt; rising = λ h. h })
lists_take format (suc count) before bytes x fits e =
    let a = bind_ok (list_at format before bytes) (λ held. lists_at format count (before ++ held.0 ∷ []) held.1) x e in
    let first = list_takes format before bytes a.0 fits a.1 in
    let others = lists_take format count (before ++ a.0.0 ∷ []) a.0.1 x first.takes.fits a.2 in
    record {
      more = a.0.0 ∷ others.more;
      is = others.is ∙ append_assoc before (a.0.0 ∷ []) others.more;
      number = ap suc others.number;
      takes = rw flat_map-cons (joined bytes (list_text format a.0.0) a.0.1 (flat_map (list_text format) others.more) x.1 first.takes others.takes);
      kept = (first.kept, others.kept);
      suits = (first.suits, others.suits);
      rising = λ up. others.rising (named_push before a.0.0 first.after up);
    }

pub lists_again : (format : Format) (before more : List Held) (rest : List ℕ) → AreNamedInOrder (before ++ more) → AllByRecursion IsKept more → AllByRecursion (λ (held : Held). SetSuits format held.set) more
    → lists_at format (length more) before (flat_map (list_text format) more ++ rest) ≡ Ok (before ++ more, rest)
unfolding lists_at
lists_again format before [] rest rising kept suits = ap (λ (lists : List Held). Ok (lists, rest)) (sym (append-nil before))
lists_again format before (held ∷ more) rest rising kept suits =
    let grouped : (before ++ held ∷ []) ++ more ≡ before ++ held ∷ more = append_assoc before (held ∷ []) more in
    let regrouped : flat_map (list_text format) (held ∷ more) ++ rest ≡ list_text format held ++ (flat_map (list_text format) more ++ rest) =
    ap (λ (t : List ℕ). t ++ rest) (flat_map-cons (list_text format) held more) ∙ append_assoc (list_text format held) (flat_map (list_text format) more) rest
    in
    ap (lists_at format (suc (length more)) before) regrouped
    ∙ rw (list_again format before held (flat_map (list_text format) more ++ rest) (named_next before held more rising) kept.0 suits.0)
    (lists_again format (before ++ held ∷ []) more rest (subst AreNamedInOrder (sym grouped) rising) kept.1 suits.1
    ∙ ap (λ (lists : List Held). Ok (lists, rest)) grouped)

-- ---- all lists

-- a format suits lists whose sets it suits
suits_all : (format : Format) (lists : List Held) → AllByRecursion (λ (held : Held). SetSuits format held.set) lists → Suits format lists
suits_all OneSize lists each = All-from_recursion (λ (held : Held). HasOneSize held.set) lists each
suits_all EachSize lists each = tt

pub suits_each : (format : Format) (lists : List Held) → Suits format lists → AllByRecursion (λ (held : Held). SetSuits format held.set) lists
suits_each OneSize lists suits = recursion_from_All (λ (held : Held). HasOneSize held.set) lists suits
suits_each EachSize [] suits = tt
suits_each EachSize (held ∷ lists) suits = (tt, suits_each EachSize lists suits)

-- what some lists read from the front of a body keep to
pub lists_are_held : (format : Format) (count : ℕ) (bytes : List ℕ) (lists : List Held) (rest : List ℕ) → IsBytes bytes → count ≤ most_lists → lists_at format count [] bytes ≡ Ok (lists, rest) → AreHeldLists lists
lists_are_held format count bytes lists rest fits few read =
    let taken = lists_take format count [] bytes (lists, rest) fits read in
    record { few = omega (arith, ap length taken.is, taken.number, few); rising = taken.rising (sorted_nil name_cmp) }

pub lists_in_take : (format : Format) (bytes : List ℕ) (lists : List Held) → IsBytes bytes → lists_in format bytes ≡ Ok lists → (bytes ≡ counted_lists_text format lists) × AreKept lists × Suits format lists
unfolding lists_in
lists_in_take format bytes lists fits e =
    let a = bind_ok (byte_at bytes) (λ count. cond (ltb most_lists count.0) (Err (length bytes)) (lists_at format count.0 [] count.1) >>= λ read. cond (ltb 0 (length read.1)) (Err (length read.1)) (Ok read.0)) lists e in
    let b = bind_ok (cond (ltb most_lists a.0.0) (Err (length bytes)) (lists_at format a.0.0 [] a.0.1)) (λ read. cond (ltb 0 (length read.1)) (Err (length read.1)) (Ok read.0)) lists a.2 in
    let few = unless_ok (ltb most_lists a.0.0) (length bytes) (lists_at format a.0.0 [] a.0.1) b.0 b.1 in
    let ended = unless_ok (ltb 0 (length b.0.1)) (length b.0.1) (Ok b.0.0) lists b.2 in
    let first = byte_takes bytes a.0 fits a.1 in
    let taken = lists_take format a.0.0 [] a.0.1 b.0 first.fits few.1 in
    let nothing : b.0.1 ≡ [] = nil_from_length b.0.1 (omega (arith, ltb-false _ _ ended.0)) in
    let whole = joined bytes (a.0.0 ∷ []) a.0.1 (flat_map (list_text format) taken.more) b.0.1 first taken.takes in
    let text : bytes ≡ counted_lists_text format taken.more =
    whole.parts ∙ ap (λ (t : List ℕ). (a.0.0 ∷ flat_map (list_text format) taken.more) ++ t) nothing ∙ append-nil (a.0.0 ∷ flat_map (list_text format) taken.more)
    ∙ ap (λ (n : ℕ). n ∷ flat_map (list_text format) taken.more) (sym taken.number)
    in
    let held = lists_are_held format a.0.0 a.0.1 b.0.0 b.0.1 first.fits (ltb-false _ _ few.0) few.1 in
    let named = subst AreHeldLists taken.is held in
    let kept : AreKept taken.more = record { named = named; each = All-from_recursion IsKept taken.more taken.kept } in
    subst (λ (l : List Held). (bytes ≡ counted_lists_text format l) × AreKept l × Suits format l) (sym taken.is ∙ ok_is b.0.0 lists ended.1)
    (text, kept, suits_all format taken.more taken.suits)

-- the lists at the front of a string
pub lists_front : (format : Format) (lists : List Held) (rest : List ℕ) → AreKept lists → Suits format lists → lists_at format (length lists) [] (flat_map (list_text format) lists ++ rest) ≡ Ok (lists, rest)
lists_front format lists rest kept suits = lists_again format [] lists rest kept.named.rising (recursion_from_All IsKept lists kept.each) (suits_each format lists suits)

pub lists_in_again : (format : Format) (lists : List Held) → AreKept lists → Suits format lists → lists_in format (counted_lists_text format lists) ≡ Ok lists
unfolding lists_in
lists_in_again format lists kept suits =
    let few : ltb most_lists (length lists) ≡ false = le-ltb _ _ kept.named.few in
    let read : lists_at format (length lists) [] (flat_map (list_text format) lists) ≡ Ok (lists, []) =
    ap (lists_at format (length lists) []) (sym (append-nil (flat_map (list_text format) lists))) ∙ lists_front format lists [] kept suits
    in
    rw (few, read) refl
