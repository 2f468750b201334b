-- State tokens, and rows of an object that is left out where it is bare, are read again.
use Rattle.std.proofs.Common.{◌≡◌, ℕ, ◌≤◌, true, List, length, Result, Ok, refl, ap, ◌∙◌, arith}
use Rattle.std.specs.Prelude.{nat_le}
use Rattle.std.proofs.lemmas.Bool.Decides.{nat_tests}
use Rattle.serde_json.specs.Data.{Data, null, object, Members, no_members, member}
use Rattle.base64.specs.GeneralPurpose.{IsBytes}
use Rattle.sb_json.specs.Values.{◌>>=◌}
use Rattle.sb_json.specs.declared.fields.Field.{Field}
use Rattle.sb_json.specs.declared.faults.FieldFault.{FieldFault}
use Rattle.sb_members.specs.Laws.{AreReadAgain}
use Rattle.sb_members.specs.Parts.{Parts, made, found, or_null}
use Rattle.sb_members.specs.Rows.{object_or_null}
use Rattle.sb_members.specs.Writing.{bytes_written, unless_bare}
use Rattle.update_messages.specs.Messages.{most_state}
use Rattle.update_messages.specs.Rows.{within_state, state_or_empty}

state_within : (f : Field) (bs : List ℕ) → length bs ≤ most_state → within_state f bs ≡ Ok bs
state_within f bs h = let within : nat_le (length bs) most_state ≡ true = grind (arith, nat_tests) in rw within refl

pub state_found : AreReadAgain → (f : Field) (ps : Parts) (bs : List ℕ) → IsBytes bs → length bs ≤ most_state → found f ps ≡ bytes_written bs → state_or_empty f (object (made ps)) ≡ Ok bs
state_found law f ps bs h small e = ap (λ r. r >>= within_state f) (law.defaults.bytes f ps bs h e) ∙ state_within f bs small

bare_row : {A : Type 0} (ms : Members) (row : Data → Result A FieldFault) → row null ≡ row (object no_members) → row (or_null ms) ≡ row (object ms)
bare_row no_members row h = h
bare_row (member k d ms) row h = refl

pub bare_found : AreReadAgain → (f : Field) (ps : Parts) (ms : Members) {A : Type 0} (row : Data → Result A FieldFault) → row null ≡ row (object no_members)
    → found f ps ≡ unless_bare ms → (object_or_null f (object (made ps)) >>= row) ≡ row (object ms)
bare_found law f ps ms row h e = ap (λ r. r >>= row) (law.defaults.objects f ps ms e) ∙ bare_row ms row h
