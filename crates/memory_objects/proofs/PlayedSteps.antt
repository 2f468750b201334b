-- The steps of a session in memory, and the log of a link with one more session.
use Rattle.std.proofs.Common.{◌≡◌, ℕ, ◌+◌, List, [], ◌∷◌, ◌++◌, length, take, drop, Option, Some, None, refl, sym, ap, ◌∙◌}
use Rattle.std.proofs.Math.Seq.{take-add}
use Rattle.std.proofs.lemmas.List.{drop-drop}
use Rattle.std.specs.Option.{option_map}
use Rattle.sb_outside.specs.Outside.{raised, IfTold}
use Rattle.sb_outside.specs.Sessions.{with_received, last_changed, on_last-push}
use Rattle.memory_objects.specs.Plays.{SessionInMemory, LinkInMemory, log_of, after_giving}
use Rattle.sb_outside.specs.declared.links.Session.{Session}

-- the next bytes are received
pub received_next : (before : SessionInMemory) (session : Session) (gives sent bytes failing : List ℕ) (k n room calls asks : ℕ)
    → record { session = record session { sent = sent; received = take k gives }; left = drop k gives; room = room; failing = failing; calls = calls; asks = asks } ≡ record before { calls = raised before.calls }
    → bytes ≡ take n (drop k gives) → length bytes ≡ n
    → record { session = record session { sent = sent; received = take (k + n) gives }; left = drop (k + n) gives; room = room; failing = failing; calls = calls; asks = asks } ≡ after_giving bytes before
received_next before session gives sent bytes failing k n room calls asks view front count =
    let whole : take (k + n) gives ≡ take k gives ++ bytes = take-add k n gives ∙ ap (λ bs. take k gives ++ bs) (sym front) in
    let rest : drop (k + n) gives ≡ drop (length bytes) (drop k gives) = sym (drop-drop n k gives) ∙ ap (λ i. drop i (drop k gives)) (sym count) in
    rw (whole, rest) (ap (λ (s : SessionInMemory). record s { session = with_received bytes s.session; left = drop (length bytes) s.left }) view)

-- a change of the last session of a log
pub last_of_log : (past : Option (List Session)) (session : Session) (change : Session → Session) → option_map (λ sessions. sessions ++ change session ∷ []) past ≡ last_changed change (option_map (λ sessions. sessions ++ session ∷ []) past)
last_of_log None session change = refl
last_of_log (Some sessions) session change = ap Some (sym (on_last-push change session sessions))

told_same : {A : Type 0} (known value : Option A) → known ≡ value → IfTold known value
told_same None value same = tt
told_same (Some told) value same = sym same

-- the log of a link whose last session changed
pub told_after : (old : LinkInMemory) (past : Option (List Session)) (played : SessionInMemory) (session : Session) (change : Session → Session) → old.last ≡ Some played → past ≡ old.past → session ≡ change played.session
    → IfTold (option_map (λ sessions. sessions ++ session ∷ []) past) (last_changed change (log_of old))
told_after old past played session change was same changed =
    told_same _ _ (rw (was, same, changed) (last_of_log old.past played.session change))
