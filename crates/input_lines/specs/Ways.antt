-- Texts on their way to a sink, one after the other.
use Rattle.std.proofs.Common.{◌≡◌, ◌≢◌, ℕ, ◌+◌, List, [], ◌∷◌, ◌++◌, refl, sym, ap, ◌∙◌, Option, Some, None, append_assoc, append-nil, drop, length, get_or, ◌<◌, arith, codes, decimal}
use Rattle.std.specs.Prelude.{Result, Ok, Err, OnErr}
use Rattle.std.specs.List.{flat_map}
use Rattle.std.proofs.lemmas.List.{drop_more, length-drop}
use Rattle.sb_outside.specs.Outside.{appended}
use Rattle.sb_outside.specs.Writing.{IsOnItsWay, HasFront}
use Rattle.input_lines.specs.Lines.{newline, numbered}
use Rattle.input_lines.specs.Writing.{HasPart}

pub appended-twice : (known : Option (List ℕ)) (a b : List ℕ) → appended (appended known a) b ≡ appended known (a ++ b)
appended-twice None a b = refl
appended-twice (Some bytes) a b = ap Some (append_assoc bytes a b)

pub appended-nil : (known : Option (List ℕ)) → appended known [] ≡ known
appended-nil None = refl
appended-nil (Some bytes) = ap Some (append-nil bytes)

-- what has a front or a back that is something is something
pub some_front : (xs ys : List ℕ) → xs ≢ [] → xs ++ ys ≢ []
some_front [] ys h = absurd (h refl)
some_front (x ∷ xs) ys h = λ e. cc

pub some_back : (xs ys : List ℕ) → ys ≢ [] → xs ++ ys ≢ []
some_back [] ys h = h
some_back (x ∷ xs) ys h = λ e. cc

pub ended_some : (xs : List ℕ) (y : ℕ) → xs ++ y ∷ [] ≢ []
ended_some xs y = some_back xs (y ∷ []) (λ e. cc)

pub drop_some : (n : ℕ) (xs : List ℕ) → n < length xs → drop n xs ≢ []
drop_some n xs h = λ e. let none : length (drop n xs) ≡ 0 = ap length e in absurd (omega (arith, none, length-drop n xs, h))

-- nothing taken yet
pub way_start : (known : Option (List ℕ)) (page : List ℕ) → IsOnItsWay known known page page
way_start known page = record { taken = []; has = sym (appended-nil known); rest = refl }

-- one more text after
pub way_more : {a b c : Option (List ℕ)} (p q done text : List ℕ) → IsOnItsWay a b p done → IsOnItsWay b c q (p ++ text) → IsOnItsWay a c q (done ++ text)
way_more {a} {b} {c} p q done text w v = record {
  taken = w.taken ++ v.taken;
  has = v.has ∙ ap (λ known. appended known v.taken) w.has ∙ appended-twice a w.taken v.taken;
  rest = append_assoc w.taken v.taken q ∙ ap (λ bytes. w.taken ++ bytes) v.rest ∙ sym (append_assoc w.taken p text) ∙ ap (λ bytes. bytes ++ text) w.rest;
}

-- a front of one more text after
pub way_front : {a b c : Option (List ℕ)} (p done text : List ℕ) → IsOnItsWay a b p done → HasFront b c (p ++ text) → HasFront a c (done ++ text)
way_front {a} {b} {c} p done text w v = record {
  taken = w.taken ++ v.taken;
  lost = v.lost;
  has = v.has ∙ ap (λ known. appended known v.taken) w.has ∙ appended-twice a w.taken v.taken;
  rest = append_assoc w.taken v.taken v.lost ∙ ap (λ bytes. w.taken ++ bytes) v.rest ∙ sym (append_assoc w.taken p text) ∙ ap (λ bytes. bytes ++ text) w.rest;
  missing = v.missing;
}

-- a front of a text is one of a longer text
pub front_more : {a b : Option (List ℕ)} (text later : List ℕ) → HasFront a b text → HasFront a b (text ++ later)
front_more text later v = record {
  taken = v.taken;
  lost = v.lost ++ later;
  has = v.has;
  rest = sym (append_assoc v.taken v.lost later) ∙ ap (λ bytes. bytes ++ later) v.rest;
  missing = some_front v.lost later v.missing;
}

-- what is on its way stops there
pub way_stop : {a b : Option (List ℕ)} (p done later : List ℕ) → later ≢ [] → IsOnItsWay a b p done → HasFront a b (done ++ later)
way_stop p done later some w = record {
  taken = w.taken;
  lost = p ++ later;
  has = w.has;
  rest = sym (append_assoc w.taken p later) ∙ ap (λ bytes. bytes ++ later) w.rest;
  missing = some_back p later some;
}

-- nothing was taken
pub front_none : (known : Option (List ℕ)) (text : List ℕ) → text ≢ [] → HasFront known known text
front_none known text some = record { taken = []; lost = text; has = sym (appended-nil known); rest = refl; missing = some }

-- the step of a loop that prints the members of a list
pub members_step : (f : List ℕ → List ℕ) (all left : List (List ℕ)) (x : List ℕ) (done whole : List ℕ) → all ≡ x ∷ left
    → done ++ flat_map f all ≡ whole → (done ++ f x) ++ flat_map f left ≡ whole
members_step f all left x done whole e h = append_assoc done (f x) (flat_map f left) ∙ ap (λ (xs : List (List ℕ)). done ++ flat_map f xs) (sym e) ∙ h

-- a text that is on its way, and then the page that is handed on whole
pub way_end : {a b c : Option (List ℕ)} (p done : List ℕ) → IsOnItsWay a b p done → c ≡ appended b p → c ≡ appended a done
way_end {a} p done w h = h ∙ ap (λ known. appended known p) w.has ∙ appended-twice a w.taken p ∙ ap (appended a) w.rest

pub way_lost : {a b c : Option (List ℕ)} (p done : List ℕ) → IsOnItsWay a b p done → HasFront b c p → HasFront a c done
way_lost {a} p done w v = record {
  taken = w.taken ++ v.taken;
  lost = v.lost;
  has = v.has ∙ ap (λ known. appended known v.taken) w.has ∙ appended-twice a w.taken v.taken;
  rest = append_assoc w.taken v.taken v.lost ∙ ap (λ bytes. w.taken ++ bytes) v.rest ∙ w.rest;
  missing = v.missing;
}

pub way_longer : {a b : Option (List ℕ)} (p done text : List ℕ) → IsOnItsWay a b p done → IsOnItsWay a b (p ++ text) (done ++ text)
way_longer p done text w = record { taken = w.taken; has = w.has; rest = sym (append_assoc w.taken p text) ∙ ap (λ bytes. bytes ++ text) w.rest }

-- ---- parts of a text, which may be the whole

pub part_of_front : {a b : Option (List ℕ)} (text : List ℕ) → HasFront a b text → HasPart a b text
part_of_front text v = record { taken = v.taken; lost = v.lost; has = v.has; rest = v.rest }

-- a part of one more text after
pub way_part : {a b c : Option (List ℕ)} (p done text : List ℕ) → IsOnItsWay a b p done → HasPart b c (p ++ text) → HasPart a c (done ++ text)
way_part {a} {b} {c} p done text w v = record {
  taken = w.taken ++ v.taken;
  lost = v.lost;
  has = v.has ∙ ap (λ known. appended known v.taken) w.has ∙ appended-twice a w.taken v.taken;
  rest = append_assoc w.taken v.taken v.lost ∙ ap (λ bytes. w.taken ++ bytes) v.rest ∙ sym (append_assoc w.taken p text) ∙ ap (λ bytes. bytes ++ text) w.rest;
}

-- what is on its way stops there
pub way_halt : {a b : Option (List ℕ)} (p done later : List ℕ) → IsOnItsWay a b p done → HasPart a b (done ++ later)
way_halt p done later w = record {
  taken = w.taken;
  lost = p ++ later;
  has = w.has;
  rest = sym (append_assoc w.taken p later) ∙ ap (λ bytes. bytes ++ later) w.rest;
}

-- a part of a text is one of a longer text
pub part_more : {a b : Option (List ℕ)} (text later : List ℕ) → HasPart a b text → HasPart a b (text ++ later)
part_more text later v = record {
  taken = v.taken;
  lost = v.lost ++ later;
  has = v.has;
  rest = sym (append_assoc v.taken v.lost later) ∙ ap (λ bytes. bytes ++ later) v.rest;
}

-- and a front of it, where something was to come
pub part_front : {a b : Option (List ℕ)} (text later : List ℕ) → later ≢ [] → HasPart a b text → HasFront a b (text ++ later)
part_front text later some v = record {
  taken = v.taken;
  lost = v.lost ++ later;
  has = v.has;
  rest = sym (append_assoc v.taken v.lost later) ∙ ap (λ bytes. bytes ++ later) v.rest;
  missing = some_back v.lost later some;
}

pub part_none : (known : Option (List ℕ)) (text : List ℕ) → HasPart known known text
part_none known text = record { taken = []; lost = text; has = sym (appended-nil known); rest = refl }

-- ---- what holds after an error

pub on_any : {T E P : Type 0} (r : Result T E) → P → OnErr r P
on_any (Ok x) p = tt
on_any (Err e) p = p

pub on_err : {T E P Q : Type 0} (r : Result T E) → (P → Q) → OnErr r P → OnErr r Q
on_err (Ok x) f h = tt
on_err (Err e) f h = f h

-- ---- numbered lines, and members by their places

pub numbered_some : (number : ℕ) (text : List ℕ) → numbered number text ≢ []
numbered_some number text = ended_some (decimal number ++ codes " " ++ text) newline

pub drop_at : {A : Type 0} (xs : List A) (i : ℕ) (x : A) → x ≡ get_or xs i x → i < length xs → drop i xs ≡ x ∷ drop (i + 1) xs
drop_at xs i x is within = drop_more xs i x within ∙ ap (λ (y : _). y ∷ drop (i + 1) xs) (sym is)

-- the step of a loop that prints the members of a list, by their places
pub place_step : {A : Type 0} (f : A → List ℕ) (xs : List A) (i : ℕ) (x : A) (done whole : List ℕ) → x ≡ get_or xs i x → i < length xs
    → done ++ flat_map f (drop i xs) ≡ whole → (done ++ f x) ++ flat_map f (drop (i + 1) xs) ≡ whole
place_step f xs i x done whole is within h =
    append_assoc done (f x) (flat_map f (drop (i + 1) xs)) ∙ ap (λ (ys : List _). done ++ flat_map f ys) (sym (drop_at xs i x is within)) ∙ h
