-- What a keeper in memory keeps after a failure is what a keeper may keep.
use Rattle.std.proofs.Common.{ℕ, List, length, take, Option, Some, refl, sym, ap, inl, inr, ⊎_elim}
use Rattle.std.proofs.lemmas.List.{take_all}
use Rattle.std.proofs.lemmas.Bool.{cases_lt}
use Rattle.sb_outside.specs.Keeping.{IsTorn}
use Rattle.memory_objects.specs.KeptTexts.{text_kept_after}
use Rattle.memory_objects.specs.declared.memory_keeper.Remains.{Remains}
use Rattle.memory_objects.specs.declared.memory_keeper.Remains.TheVariants.{Old, New, Front}

torn_front : (n : ℕ) (before : Option (List ℕ)) (text : List ℕ) → IsTorn (Some before) text (Some (Some (take n text)))
torn_front n before text =
    ⊎_elim (λ within. inr (inr (n, within, refl))) (λ past. inr (inl (ap (λ front. Some (Some front)) (sym (take_all n text past))))) (cases_lt n (length text))

pub torn_kept : (remains : Remains) (before : Option (List ℕ)) (text : List ℕ) → IsTorn (Some before) text (Some (text_kept_after remains before text))
torn_kept Old before text = inl refl
torn_kept New before text = inr (inl refl)
torn_kept (Front n) before text = torn_front n before text
