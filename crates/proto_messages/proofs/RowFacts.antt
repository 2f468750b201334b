-- Facts about what is read of values.
use Rattle.std.proofs.Common.{◌≡◌, ℕ, List, [], ◌∷◌, ◌++◌, Option, Some, None, Ok, refl, sym, ap, append_assoc, option_to_list}
use Rattle.std.specs.List.{cons_option}
use Rattle.std.proofs.lemmas.List.{append-nil}
use Rattle.proto_wire.specs.declared.fault.WireFault.{WireFault}
use Rattle.sb_json.specs.declared.fields.Field.{Field}
use Rattle.proto_messages.specs.Fields.{after, whole}

pub after_more : (field : Field) (before items : List ℕ) (number : ℕ) (fault : Option WireFault)
    → after before (whole field (number ∷ items) fault) ≡ after (before ++ number ∷ []) (whole field items fault)
after_more field before items number None = ap (λ (l : List ℕ). Ok l) (sym (append_assoc before (number ∷ []) items))
after_more field before items number (Some fault) = refl

pub some_more : {A : Type 0} (before : List A) (item : Option A) (more : List A) → before ++ cons_option item more ≡ (before ++ option_to_list item) ++ more
some_more before None more = ap (λ l. l ++ more) (sym (append-nil before))
some_more before (Some a) more = sym (append_assoc before (a ∷ []) more)

pub no_more : {A : Type 0} (before : List A) → before ++ [] ≡ before
no_more before = append-nil before
