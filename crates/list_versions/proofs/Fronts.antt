-- Bytes that a source gives one after the other.
use Rattle.std.proofs.Common.{◌≡◌, ℕ, List, [], ◌++◌, Option, Some, None, Bool, true, false, refl, sym, ap, ◌∙◌, append_assoc}
use Rattle.std.proofs.lemmas.List.{append-nil}
use Rattle.std.specs.Prelude.{IfSome}
use Rattle.sb_outside.specs.Outside.{prepended, bytes_left, next_piece, left_after_end, GivesFront, AnswersEnd}
use Rattle.sb_outside.specs.Reading.{ReadsToEnd}
use Rattle.list_versions.specs.Loaded.{Gives}

prepended-prepended : (front back : List ℕ) (known : Option (List ℕ)) → prepended front (prepended back known) ≡ prepended (front ++ back) known
prepended-prepended front back None = refl
prepended-prepended front back (Some bytes) = ap (λ bs. Some bs) (sym (append_assoc front back bytes))

pub front_then : (front back : List ℕ) (a b c : Option (List (List ℕ))) → GivesFront front a b → GivesFront back b c → GivesFront (front ++ back) a c
front_then front back a b c first then = record {
  front = first.front ∙ ap (λ known. prepended front known) then.front ∙ prepended-prepended front back _;
  later = then.later ∙ first.later;
}

prepended-nothing : (known : Option (List ℕ)) → known ≡ prepended [] known
prepended-nothing None = refl
prepended-nothing (Some bytes) = refl

-- nothing was given yet
pub gives_nothing : (left : Option (List (List ℕ))) → GivesFront [] left left
gives_nothing left = record { front = prepended-nothing (bytes_left left); later = refl }

pub gives_unmoved : (a b : Option (List (List ℕ))) → b ≡ a → GivesFront [] a b
gives_unmoved a b e = record { front = prepended-nothing (bytes_left a) ∙ ap (λ left. prepended [] (bytes_left left)) (sym e); later = ap left_after_end e }

whole_piece : (given : List ℕ) (a b : Option (List (List ℕ))) → bytes_left a ≡ prepended given (bytes_left b) → IfSome b (λ pieces. next_piece pieces ≡ [])
    → IfSome a (λ pieces. next_piece pieces ≡ given)
whole_piece given None b front end = tt
whole_piece given (Some pieces) None front end = absurd (cc)
whole_piece given (Some pieces) (Some left) front end = cc (front, ap (λ rest. given ++ rest) end, append-nil given)

-- bytes, and then the end
pub ends_after : (given : List ℕ) (a b c : Option (List (List ℕ))) → GivesFront given a b → AnswersEnd b c → ReadsToEnd given a c
ends_after given a b c gives ends = record {
  whole = whole_piece given a b gives.front ends.at_end;
  end = ends.later ∙ gives.later;
}

-- bytes, and then more of them up to the end
pub to_end_then : (front back : List ℕ) (a b c : Option (List (List ℕ))) → GivesFront front a b → ReadsToEnd back b c → ReadsToEnd (front ++ back) a c
to_end_then front back a b c gives ends = record {
  whole = whole_then front back a b gives.front ends.whole;
  end = ends.end ∙ gives.later;
}
  where
    whole_then : (front back : List ℕ) (a b : Option (List (List ℕ))) → bytes_left a ≡ prepended front (bytes_left b) → IfSome b (λ pieces. next_piece pieces ≡ back)
        → IfSome a (λ pieces. next_piece pieces ≡ front ++ back)
    whole_then front back None b first end = tt
    whole_then front back (Some pieces) None first end = absurd (cc)
    whole_then front back (Some pieces) (Some left) first end = cc (first, ap (λ rest. front ++ rest) end)

pub gives_then : (front back : List ℕ) (ended : Bool) (a b c : Option (List (List ℕ))) → GivesFront front a b → Gives back ended b c → Gives (front ++ back) ended a c
gives_then front back true a b c first then = to_end_then front back a b c first then
gives_then front back false a b c first then = front_then front back a b c first then
