-- The name of a host, label after label.
use Rattle.std.proofs.Common.{◌≡◌, ℕ, List, [], ◌∷◌, ◌++◌, Bool, true, false, cond, not, refl, sym, ap, ◌∙◌}
use Rattle.std.specs.List.{fold, filter, flat_map, join_with_byte, slice_split, AllByRecursion}
use Rattle.std.proofs.lemmas.Bool.{false≢true}
use Rattle.std.proofs.lemmas.List.{append-nil, append_assoc}
use Rattle.std.proofs.lemmas.List.Splits.{join_with_byte-slice_split}
use Rattle.url_canon.specs.Words.{is_nil, is_dot}
use Rattle.url_canon.specs.Host.{tidied}

-- a name with one label more; an empty label adds nothing
abbrev pub with_label : List ℕ → List ℕ → List ℕ
with_label name label = cond (is_nil label) name (cond (is_nil name) label (name ++ 46 ∷ label))

abbrev pub with_labels : List ℕ → List (List ℕ) → List ℕ
with_labels name labels = fold with_label name labels

abbrev kept : List (List ℕ) → List (List ℕ)
kept parts = filter (λ label. not (is_nil label)) parts

abbrev dotted : List ℕ → List ℕ
dotted label = 46 ∷ label

more_labels : (n : ℕ) (ns : List ℕ) (parts : List (List ℕ)) → with_labels (n ∷ ns) parts ≡ (n ∷ ns) ++ flat_map dotted (kept parts)
more_labels n ns [] = sym (append-nil (n ∷ ns))
more_labels n ns ([] ∷ parts) = more_labels n ns parts
more_labels n ns ((b ∷ bs) ∷ parts) =
    more_labels n (ns ++ dotted (b ∷ bs)) parts ∙ append_assoc (n ∷ ns) (dotted (b ∷ bs)) (flat_map dotted (kept parts))

join_all : (x : List ℕ) (xs : List (List ℕ)) → join_with_byte 46 (x ∷ xs) ≡ x ++ flat_map dotted xs
join_all x [] = sym (append-nil x)
join_all x (y ∷ ys) = ap (λ r. x ++ (46 ∷ r)) (join_all y ys)

pub all_labels : (parts : List (List ℕ)) → with_labels [] parts ≡ join_with_byte 46 (kept parts)
all_labels [] = refl
all_labels ([] ∷ parts) = all_labels parts
all_labels ((b ∷ bs) ∷ parts) = more_labels b bs parts ∙ sym (join_all (b ∷ bs) (kept parts))

-- a name of which no label is empty stays as it is

abbrev pub HasBytes : List ℕ → Type 0
HasBytes label = is_nil label ≡ false

kept_all : (parts : List (List ℕ)) → AllByRecursion HasBytes parts → kept parts ≡ parts
kept_all [] h = refl
kept_all ([] ∷ parts) h = absurd (false≢true (sym h.0))
kept_all ((b ∷ bs) ∷ parts) h = ap (λ r. (b ∷ bs) ∷ r) (kept_all parts h.1)

pub tidied_stays : (text : List ℕ) → AllByRecursion HasBytes (slice_split is_dot text) → tidied text ≡ text
tidied_stays text h = ap (λ parts. join_with_byte 46 parts) (kept_all (slice_split is_dot text) h) ∙ join_with_byte-slice_split 46 text
