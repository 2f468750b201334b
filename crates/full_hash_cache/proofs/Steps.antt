-- Steps of the loops.
use Rattle.std.proofs.Common.{◌≡◌, ℕ, suc, ◌+◌, ◌<◌, ◌≤◌, true, false, cond, List, [], ◌∷◌, ◌++◌, length, take, drop, get_or, map, filter, Result, Ok, Err, OnErr, sym, ap, ◌∙◌, arith, drop-cons, length-append}
use Rattle.std.specs.List.{fold, flat_map}
use Rattle.std.proofs.lemmas.List.{take_more, take-append-drop, map-append, take-append-le}
use Rattle.std.proofs.lemmas.List.Sums.{fold-append}
use Rattle.std.proofs.lemmas.List.Elements.{filter-append}
use Rattle.std.proofs.lemmas.Grind.{flat_map-append}
use Rattle.std.proofs.Math.Seq.{take-append-add}
use Rattle.sb_model.specs.declared.names.ListName.{ListName}
use Rattle.sb_model.specs.declared.time.Moment.{Moment}
use Rattle.sb_model.specs.Names.{same_name}
use Rattle.hash_messages.specs.Messages.{AskedHashes}
use Rattle.hash_messages.specs.Matches.{asks_list}
use Rattle.hash_messages.specs.declared.response.Match.{Match}
use Rattle.hash_messages.specs.declared.response.FindResponse.{FindResponse}
use Rattle.full_hash_cache.specs.declared.pair.Pair.{Pair}
use Rattle.full_hash_cache.specs.Cache.{Matches, Pairs, with_match, ending, put_pair, put_pairs, pairs_of, pairs_asked, IsPartlyTaken}

pub on_err : {A E : Type 0} (P : Type 0) (r : Result A E) → P → OnErr r P
on_err P (Ok a) p = tt
on_err P (Err e) p = p

pub next : {X : Type 0} (xs : List X) (i : ℕ) (x d : X) → i < length xs → x ≡ get_or xs i d → drop i xs ≡ x ∷ drop (i + 1) xs
next xs i x d lt e =
    let one : suc i ≡ i + 1 = omega arith in
    drop-cons xs i d lt ∙ (λ k. sym e k ∷ drop (one k) xs)

pub one_more : {A B X : Type 0} (f : B → A → B) (b : B) (g : X → A) (xs : List X) (i : ℕ) (x : X) → i < length xs → x ≡ get_or xs i x
    → fold f b (map g (take (i + 1) xs)) ≡ f (fold f b (map g (take i xs))) (g x)
one_more f b g xs i x lt e =
    let front : take (i + 1) xs ≡ take i xs ++ x ∷ [] = take_more xs i x lt ∙ (λ k. take i xs ++ sym e k ∷ []) in
    ap (λ l. fold f b (map g l)) front
    ∙ ap (fold f b) (map-append g (take i xs) (x ∷ []))
    ∙ fold-append f b (map g (take i xs)) (g x ∷ [])

-- ---- the matches of an answer for a list

abbrev pub told : Moment → ListName → List Match → Matches
told at list found = map (ending at) (filter (λ m. same_name m.name list) found)

pub kept_step : (matches : Matches) (at : Moment) (list : ListName) (x : Match) (rest : List Match) → same_name x.name list ≡ true
    → fold with_match (with_match matches (ending at x)) (told at list rest) ≡ fold with_match matches (told at list (x ∷ rest))
kept_step matches at list x rest h = ap (λ b. fold with_match matches (map (ending at) (cond b (x ∷ filter (λ m. same_name m.name list) rest) (filter (λ m. same_name m.name list) rest)))) (sym h)

pub skip_step : (matches : Matches) (at : Moment) (list : ListName) (x : Match) (rest : List Match) → same_name x.name list ≡ false
    → fold with_match matches (told at list rest) ≡ fold with_match matches (told at list (x ∷ rest))
skip_step matches at list x rest h = ap (λ b. fold with_match matches (map (ending at) (cond b (x ∷ filter (λ m. same_name m.name list) rest) (filter (λ m. same_name m.name list) rest)))) (sym h)

-- ---- the pairs of an answer

pub parted : (asked : AskedHashes) (lists : List ListName) (i : ℕ) (x d : ListName) → i < length lists → x ≡ get_or lists i d → asks_list asked x ≡ true
    → pairs_asked asked lists ≡ pairs_asked asked (take i lists) ++ (pairs_of asked.prefixes x ++ pairs_asked asked (drop (i + 1) lists))
parted asked lists i x d lt e is =
    let f = pairs_of asked.prefixes in
    let t = asks_list asked in
    let rest = drop (i + 1) lists in
    let split : lists ≡ take i lists ++ (x ∷ rest) = sym (take-append-drop i lists) ∙ (λ k. take i lists ++ next lists i x d lt e k) in
    ap (pairs_asked asked) split
    ∙ ap (flat_map f) (filter-append t (take i lists) (x ∷ rest))
    ∙ flat_map-append f (filter t (take i lists)) (filter t (x ∷ rest))
    ∙ ap (λ b. pairs_asked asked (take i lists) ++ flat_map f (cond b (x ∷ filter t rest) (filter t rest))) is

front_of : {X : Type 0} (a b c : List X) (k : ℕ) → k ≤ length b → take (length a + k) (a ++ (b ++ c)) ≡ a ++ take k b
front_of a b c k h = take-append-add a (b ++ c) k ∙ ap (λ l. a ++ l) (take-append-le k b c h)

-- a list that is put as far as memory was there, after those before it
pub partly : (at : Moment) (response : FindResponse) (a b c : List Pair) (before middle after : Pairs) → middle ≡ put_pairs at response before a
    → IsPartlyTaken at response b middle after → IsPartlyTaken at response (a ++ (b ++ c)) before after
partly at response a b c before middle after h part = record {
  count = length a + part.count;
  within = let l = length-append a (b ++ c) in let m = length-append b c in let p = part.within in omega (arith, l, m, p);
  front = part.front ∙ ap (λ m. put_pairs at response m (take part.count b)) h
      ∙ sym (fold-append (put_pair at response) before a (take part.count b))
      ∙ ap (put_pairs at response before) (sym (front_of a b c part.count part.within));
}
