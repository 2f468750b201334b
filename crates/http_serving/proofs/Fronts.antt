-- A text of which a front was written.
use Rattle.std.proofs.Common.{◌≡◌, ◌≢◌, ℕ, List, [], ◌++◌, codes, decimal, take, drop, length, ◌<◌, refl, sym, ap, ◌∙◌, Option, Some, None, arith, append_assoc, length-append}
use Rattle.std.proofs.lemmas.List.{append-nil, length-drop, take-append-drop}
use Rattle.sb_outside.specs.Outside.{appended}
use Rattle.sb_outside.specs.Writing.{HasFront}
use Rattle.http_serving.specs.Printed.{connection_line}
use Rattle.http_serving.specs.declared.ends.ConnectionEnd.TheVariants as end

drop_some : (n : ℕ) (xs : List ℕ) → n < length xs → drop n xs ≢ []
drop_some n xs h = λ e. let none : length (drop n xs) ≡ 0 = ap length e in absurd (omega (arith, none, length-drop n xs, h))

-- the first bytes of a text, which are not all
pub front_of : (held held' : Option (List ℕ)) (n : ℕ) (piece text : List ℕ) → piece ≡ text → n < length piece → held' ≡ appended held (take n piece) → HasFront held held' text
front_of held held' n piece text same short has = record {
  taken = take n text;
  lost = drop n text;
  has = has ∙ ap (λ (bytes : List ℕ). appended held (take n bytes)) same;
  rest = take-append-drop n text;
  missing = drop_some n text (omega (arith, short, ap length same));
}

-- ---- pieces that are written one after the other

nothing_added : (held : Option (List ℕ)) → held ≡ appended held []
nothing_added None = refl
nothing_added (Some bytes) = ap Some (sym (append-nil bytes))

added_twice : (held : Option (List ℕ)) (front back : List ℕ) → appended (appended held front) back ≡ appended held (front ++ back)
added_twice None front back = refl
added_twice (Some bytes) front back = ap Some (append_assoc bytes front back)

-- a front of a piece that stands behind others, and before others
front_after : (held between held' : Option (List ℕ)) (n : ℕ) (before piece rest text : List ℕ) → between ≡ appended held before
    → n < length piece → held' ≡ appended between (take n piece) → before ++ (piece ++ rest) ≡ text → HasFront held held' text
front_after held between held' n before piece rest text was short has same = record {
  taken = before ++ take n piece;
  lost = drop n piece ++ rest;
  has = has ∙ ap (λ (known : Option (List ℕ)). appended known (take n piece)) was ∙ added_twice held before (take n piece);
  rest = append_assoc before (take n piece) (drop n piece ++ rest)
      ∙ ap (λ (bytes : List ℕ). before ++ bytes) (sym (append_assoc (take n piece) (drop n piece) rest) ∙ ap (λ (bytes : List ℕ). bytes ++ rest) (take-append-drop n piece))
      ∙ same;
  missing = λ none. omega (arith, ap length none, length-append (drop n piece) rest, length-drop n piece, short);
}

pub front_of_first : (held held' : Option (List ℕ)) (n : ℕ) (first second third : List ℕ) → n < length first → held' ≡ appended held (take n first)
    → HasFront held held' (first ++ second ++ third)
front_of_first held held' n first second third short has =
    front_after held held held' n [] first (second ++ third) (first ++ second ++ third) (nothing_added held) short has (sym (append_assoc first second third))

pub front_of_second : (held between held' : Option (List ℕ)) (n : ℕ) (first second third : List ℕ) → between ≡ appended held first
    → n < length second → held' ≡ appended between (take n second) → HasFront held held' (first ++ second ++ third)
front_of_second held between held' n first second third was short has =
    front_after held between held' n first second third (first ++ second ++ third) was short has (sym (append_assoc first second third))

pub front_of_third : (held one two held' : Option (List ℕ)) (n : ℕ) (first second third : List ℕ) → one ≡ appended held first → two ≡ appended one second
    → n < length third → held' ≡ appended two (take n third) → HasFront held held' (first ++ second ++ third)
front_of_third held one two held' n first second third was then short has =
    front_after held two held' n (first ++ second) third [] (first ++ second ++ third)
    (then ∙ ap (λ (known : Option (List ℕ)). appended known second) was ∙ added_twice held first second) short has
    (ap (λ (bytes : List ℕ). (first ++ second) ++ bytes) (append-nil third))

-- ---- the line of a connection that ended for want of memory

pub pieces_of_line : (number : ℕ) (digits : List ℕ) → digits ≡ decimal number
    → codes "connection " ++ digits ++ codes " out-of-memory\n" ≡ connection_line number end.OutOfMemory
pieces_of_line number digits is =
    let front : List ℕ = codes "connection " ++ decimal number in
    ap (λ (d : List ℕ). codes "connection " ++ d ++ codes " out-of-memory\n") is
    ∙ sym (ap (λ (text : List ℕ). text ++ codes "\n") (append_assoc front (codes " ") (codes "out-of-memory"))
    ∙ append_assoc front (codes " " ++ codes "out-of-memory") (codes "\n"))
