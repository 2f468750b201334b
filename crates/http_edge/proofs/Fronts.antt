-- Bytes that a sink takes, and that a source gives, one after the other.
use Rattle.std.proofs.Common.{◌≡◌, ◌≢◌, ℕ, ◌<◌, List, [], ◌++◌, length, take, drop, Option, Some, None, refl, sym, ap, ◌∙◌, append_assoc, arith, length-append}
use Rattle.std.proofs.lemmas.List.{take-append-drop, length-drop, append-nil}
use Rattle.std.specs.Prelude.{IfSome}
use Rattle.sb_outside.specs.Outside.{appended, prepended, bytes_left, next_piece, GivesFront, AnswersEnd}
use Rattle.sb_outside.specs.Reading.{ReadsToEnd}
use Rattle.sb_outside.specs.Writing.{HasFront}

pub appended-appended : (known : Option (List ℕ)) (front back : List ℕ) → appended (appended known front) back ≡ appended known (front ++ back)
appended-appended None front back = refl
appended-appended (Some bytes) front back = ap (λ bs. Some bs) (append_assoc bytes front back)

pub some_left : (n : ℕ) (text : List ℕ) → n < length text → drop n text ≢ []
some_left n text less = λ none. omega (arith, ap length none, length-drop n text)

pub front_of_first : (before after : Option (List ℕ)) (first second : List ℕ) (n : ℕ) → n < length first
    → after ≡ appended before (take n first) → HasFront before after (first ++ second)
front_of_first before after first second n less took = record {
  taken = take n first;
  lost = drop n first ++ second;
  has = took;
  rest = sym (append_assoc (take n first) (drop n first) second) ∙ ap (λ text. text ++ second) (take-append-drop n first);
  missing = λ none. omega (arith, ap length none, length-append (drop n first) second, length-drop n first);
}

pub front_of_second : (before middle after : Option (List ℕ)) (first second : List ℕ) (n : ℕ) → n < length second
    → middle ≡ appended before first → after ≡ appended middle (take n second) → HasFront before after (first ++ second)
front_of_second before middle after first second n less took then = record {
  taken = first ++ take n second;
  lost = drop n second;
  has = then ∙ ap (λ known. appended known (take n second)) took ∙ appended-appended before first (take n second);
  rest = append_assoc first (take n second) (drop n second) ∙ ap (λ text. first ++ text) (take-append-drop n second);
  missing = some_left n second less;
}

-- ---- bytes that a source gives one after the other

prepended-prepended : (front back : List ℕ) (known : Option (List ℕ)) → prepended front (prepended back known) ≡ prepended (front ++ back) known
prepended-prepended front back None = refl
prepended-prepended front back (Some bytes) = ap (λ bs. Some bs) (sym (append_assoc front back bytes))

pub front_then : (front back : List ℕ) (a b c : Option (List (List ℕ))) → GivesFront front a b → GivesFront back b c → GivesFront (front ++ back) a c
front_then front back a b c first then = record {
  front = first.front ∙ ap (λ known. prepended front known) then.front ∙ prepended-prepended front back _;
  later = then.later ∙ first.later;
}

prepended-nothing : (known : Option (List ℕ)) → known ≡ prepended [] known
prepended-nothing None = refl
prepended-nothing (Some bytes) = refl

-- nothing was given yet
pub gives_nothing : (left : Option (List (List ℕ))) → GivesFront [] left left
gives_nothing left = record { front = prepended-nothing (bytes_left left); later = refl }

whole_piece : (given : List ℕ) (a b : Option (List (List ℕ))) → bytes_left a ≡ prepended given (bytes_left b) → IfSome b (λ pieces. next_piece pieces ≡ [])
    → IfSome a (λ pieces. next_piece pieces ≡ given)
whole_piece given None b front end = tt
whole_piece given (Some pieces) None front end = absurd (cc)
whole_piece given (Some pieces) (Some left) front end = cc (front, ap (λ rest. given ++ rest) end, append-nil given)

-- bytes, and then the end
pub ends_after : (given : List ℕ) (a b c : Option (List (List ℕ))) → GivesFront given a b → AnswersEnd b c → ReadsToEnd given a c
ends_after given a b c gives ends = record {
  whole = whole_piece given a b gives.front ends.at_end;
  end = ends.later ∙ gives.later;
}

-- bytes, and then more of them up to the end
pub to_end_then : (front back : List ℕ) (a b c : Option (List (List ℕ))) → GivesFront front a b → ReadsToEnd back b c → ReadsToEnd (front ++ back) a c
to_end_then front back a b c gives ends = record {
  whole = whole_then front back a b gives.front ends.whole;
  end = ends.end ∙ gives.later;
}
  where
    whole_then : (front back : List ℕ) (a b : Option (List (List ℕ))) → bytes_left a ≡ prepended front (bytes_left b) → IfSome b (λ pieces. next_piece pieces ≡ back)
        → IfSome a (λ pieces. next_piece pieces ≡ front ++ back)
    whole_then front back None b first end = tt
    whole_then front back (Some pieces) None first end = absurd (cc)
    whole_then front back (Some pieces) (Some left) first end = cc (first, ap (λ rest. front ++ rest) end)
