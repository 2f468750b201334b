-- The door's log, where a connection is given back before the next one is taken.
use Rattle.std.proofs.Common.{◌≡◌, ℕ, List, [], ◌∷◌, ◌++◌, length, sym, ap, ◌∙◌, Option, Some, None}
use Rattle.std.specs.Prelude.{IfSome, slice_set, option_map}
use Rattle.std.proofs.Math.Seq.{set-append_seam}
use Rattle.sb_outside.specs.Outside.{IfTold, with_entry}
use Rattle.sb_outside.specs.Connections.{open_connection}
use Rattle.sb_outside.specs.declared.doors.Connection.{Connection}
use Rattle.http_serving.specs.Returning.{IsReturned}
use Rattle.sb_service.specs.Serving.{IsEntryLogged, IsOpened}

some_of : {A : Type 0} (a b : A) → Some a ≡ Some b → a ≡ b
some_of a b e = cc

some_entry : (entries opened told : List Connection) (number : ℕ) (entry : Connection) → number ≡ length entries → opened ≡ entries ++ open_connection ∷ [] → Some (slice_set opened number entry) ≡ Some told
    → Some (entries ++ entry ∷ []) ≡ Some told
some_entry entries opened told number entry here is log =
    ap Some (sym (set-append_seam entries open_connection [] entry))
    ∙ ap (λ (k : ℕ). Some (slice_set (entries ++ open_connection ∷ []) k entry)) (sym here)
    ∙ ap (λ (l : List Connection). Some (slice_set l number entry)) (sym is) ∙ log

with_one : (before opened after : Option (List Connection)) (number : ℕ) (entry : Connection)
    → IfSome before (λ entries. number ≡ length entries) → IfTold opened (with_entry before open_connection) → IfTold after (option_map (λ entries. slice_set entries number entry) opened)
    → IfTold after (with_entry before entry)
with_one before opened None number entry here opens log = tt
with_one before None (Some told) number entry here opens log = absurd (cc)
with_one None (Some entries) (Some told) number entry here opens log = absurd (cc)
with_one (Some first) (Some entries) (Some told) number entry here opens log = some_entry first entries told number entry here (sym (some_of _ _ opens)) log

pub logged : (Says : Connection → Type 0) (before opened after : Option (List Connection)) (number : ℕ) → IsOpened before opened number → IsReturned Says number opened after → IsEntryLogged Says before after
logged Says before opened after number opening returned = record {
  entry = returned.entry;
  logged = with_one before opened after number returned.entry opening.numbered opening.opens returned.logged;
  says = returned.says;
}
