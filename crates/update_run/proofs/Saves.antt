-- What a keeper was handed, one store after the other.
use Rattle.std.proofs.Common.{◌≡◌, ◌≢◌, ◌<◌, ℕ, List, [], ◌∷◌, ◌++◌, Bool, true, false, map, refl, sym, ap, ◌∙◌, subst, inl, inr, append-nil}
use Rattle.std.specs.Prelude.{All, Option, Some, IsTrue, Result, Ok, if◌then◌else◌}
use Rattle.std.proofs.lemmas.List.{map-append}
use Rattle.std.proofs.lemmas.List.Elements.{All-nil, All-cons, All-append}
use Rattle.sb_outside.specs.Keeping.{IsTorn}
use Rattle.sb_outside.specs.Outside.{IfTold, appended, with_entry}
use Rattle.sb_outside.specs.Writing.{IsOnItsWay, HasFront}
use Rattle.client_store.specs.Reading.{store_reading}
use Rattle.client_store.specs.Store.{store_text}
use Rattle.timed_sessions.specs.Told.{with_more}
use Rattle.update_client.specs.Held.{Held}
use Rattle.sb_round.specs.Printed.{round_lines}
use Rattle.sb_round.specs.declared.rounds.RoundEnd.{RoundEnd}
use Rattle.sb_round.specs.declared.rounds.RoundFault.{RoundFault}
use Rattle.sb_round.specs.declared.rounds.Taken.{Taken}
use Rattle.update_run.specs.Printed.{not_answered, not_answered_lines, saved_line, saved_part, told_end}
use Rattle.update_run.specs.Rounding.{StopsSaving}
use Rattle.update_run.specs.Saved.{Keeping, HasSaved, FailsToSave, MayLackLast, ReadsAgain, has_installed, kept_then, saved_after}
use Rattle.update_run.specs.Steps.{MayHaveSaved, StopsTelling}
use Rattle.update_run.specs.declared.stop.RunStop.{RunStop}
use Rattle.update_run.specs.declared.stop.RunStop.TheVariants as stop
use Rattle.update_run.proofs.Entries.{told_itself, told_through, told_nothing, told_both}
use Rattle.update_run.proofs.Ways.{front_of_more, front_of_rest, some_front, way_longer}

-- ---- stores

pub saved_nothing : (keeper : Keeping) → HasSaved [] keeper keeper
saved_nothing keeper = record { handed = told_nothing keeper.handed; keeps = told_itself keeper.kept; reads = All-nil ReadsAgain }

keeps_last : (known known' known'' : Option (Option (List ℕ))) (first next : List (List ℕ)) → IfTold known' (kept_then known first) → IfTold known'' (kept_then known' next) → IfTold known'' (kept_then known (first ++ next))
keeps_last known known' known'' first [] h k = subst (λ texts. IfTold known'' (kept_then known texts)) (sym (append-nil first)) (told_through (kept_then known first) known' known'' h k)
keeps_last known known' known'' [] (text ∷ next) h k = k
keeps_last known known' known'' (one ∷ first) (text ∷ next) h k = keeps_last (Some (Some one)) known' known'' first (text ∷ next) h k

pub saved_both : (a b c : Keeping) (first next : List (List Held)) → HasSaved first a b → HasSaved next b c → HasSaved (first ++ next) a c
saved_both a b c first next h k =
    let texts = map-append store_text first next in record {
      handed = subst (λ ts. IfTold c.handed (with_more a.handed ts)) (sym texts) (told_both a.handed b.handed c.handed (map store_text first) (map store_text next) h.handed k.handed);
      keeps = subst (λ ts. IfTold c.kept (kept_then a.kept ts)) (sym texts) (keeps_last a.kept b.kept c.kept (map store_text first) (map store_text next) h.keeps k.keeps);
      reads = All-append ReadsAgain first next h.reads k.reads;
    }

-- what the last of some stores may be lacking of
pub lacks_last : (stores : List (List Held)) (lists : List Held) (more : Bool) → MayLackLast (stores ++ (if more then lists ∷ [] else [])) stores
lacks_last stores lists true = inr (lists, refl)
lacks_last stores lists false = inl (sym (append-nil stores))

-- ---- a text that was handed in

pub reads_again : (lists : List Held) (text : List ℕ) → text ≡ store_text lists → store_reading text ≡ Ok lists → All (λ byte. byte < 256) text → ReadsAgain lists
reads_again lists text is reads bytes = record {
  bytes = subst (All (λ byte. byte < 256)) is bytes;
  reads = subst (λ t. store_reading t ≡ Ok lists) is reads;
}

pub saved_one : (lists : List Held) (text given : List ℕ) (before after : Keeping) → given ≡ text → text ≡ store_text lists → ReadsAgain lists
    → IfTold after.handed (with_entry before.handed given) → IfTold after.kept (Some (Some given)) → HasSaved (lists ∷ []) before after
saved_one lists text given before after same is again handed kept =
    let whole = same ∙ is in record {
      handed = subst (λ t. IfTold after.handed (with_entry before.handed t)) whole handed;
      keeps = subst (λ t. IfTold after.kept (Some (Some t))) whole kept;
      reads = All-cons ReadsAgain lists [] again (All-nil ReadsAgain);
    }

pub failed_one : (lists : List Held) (text given : List ℕ) (before after : Keeping) → given ≡ text → text ≡ store_text lists → ReadsAgain lists
    → IfTold after.handed (with_entry before.handed given) → IsTorn before.kept given after.kept → FailsToSave lists before after
failed_one lists text given before after same is again handed torn =
    let whole = same ∙ is in record {
      handed = subst (λ t. IfTold after.handed (with_entry before.handed t)) whole handed;
      torn = subst (λ t. IsTorn before.kept t after.kept) whole torn;
      reads = again;
    }

-- ---- where a client stops when it tells a round

line_true : (taken : Bool) (line : List ℕ) → IsTrue taken → line ≡ (if taken then line else [])
line_true true line h = refl
line_true false line h = absurd (cc)

lists_true : (taken : Bool) (lists : List Held) → IsTrue taken → lists ∷ [] ≡ (if taken then lists ∷ [] else [])
lists_true true lists h = refl
lists_true false lists h = absurd (cc)

-- the lines behind that of the store
abbrev last_lines : ℕ → List Held → RoundEnd → List ℕ
last_lines number lists end = not_answered_lines number (not_answered lists end.taken)

told_lines : (waiting : List ℕ) (number : ℕ) (lists : List Held) (end : RoundEnd) → waiting ≡ round_lines number end → IsTrue (has_installed end.taken)
    → (waiting ++ saved_line number) ++ last_lines number lists end ≡ told_end number lists end
told_lines waiting number lists end page some =
    ap (λ bytes. bytes ++ saved_line number ++ last_lines number lists end) page
    ∙ ap (λ line. round_lines number end ++ line ++ last_lines number lists end) (line_true (has_installed end.taken) (saved_line number) some)

front_told : (waiting : List ℕ) (number : ℕ) (lists : List Held) (end : RoundEnd) (output output' : Option (List ℕ)) → waiting ≡ round_lines number end → IsTrue (has_installed end.taken)
    → HasFront output output' (waiting ++ saved_line number) → HasFront output output' (told_end number lists end)
front_told waiting number lists end output output' page some front =
    subst (λ text. HasFront output output' text) (told_lines waiting number lists end page some) (front_of_more (waiting ++ saved_line number) (last_lines number lists end) front)

stops_telling : (why : RunStop) (number : ℕ) (end : RoundEnd) (lists : List Held) (before after : Keeping) (output output' : Option (List ℕ)) (waiting : List ℕ)
    → waiting ≡ round_lines number end → IsTrue (has_installed end.taken) → StopsSaving why number lists before after output output' waiting
    → StopsTelling why number end lists before after output output'
stops_telling stop.WriteFault number end lists before after output output' waiting page some stops =
    (stops.0, front_told waiting number lists end output output' page some stops.1)
stops_telling stop.KeepFault number end lists before after output output' waiting page some (fails, text) =
    (some, fails, text ∙ ap (appended output) page)
stops_telling stop.OutOfMemory number end lists before after output output' waiting page some stops =
    (may stops.0, front_told waiting number lists end output output' page some stops.1)
  where
    may : MayHaveSaved (lists ∷ []) before after → MayHaveSaved (saved_after end.taken lists) before after
    may (inl same) = inl same
    may (inr saves) = inr (subst (λ stores. HasSaved stores before after) (lists_true (has_installed end.taken) lists some) saves)

-- a round of which a list was not saved
pub told_err : (why : RunStop) (number : ℕ) (end : RoundEnd) (lists : List Held) (before after : Keeping) (output output' : Option (List ℕ)) (waiting waiting' : List ℕ)
    → waiting ≡ [] → waiting' ≡ waiting ++ round_lines number end → IsTrue (has_installed end.taken) → StopsSaving why number lists before after output output' waiting'
    → StopsTelling why number end lists before after output output'
told_err why number end lists before after output output' waiting waiting' none page some stops =
    stops_telling why number end lists before after output output' waiting' (page ∙ ap (λ w. w ++ round_lines number end) none) some stops

-- In what follows the lines of a round wait behind nothing, and then that of its store.
module _ (number : ℕ) (end : RoundEnd) (lists : List Held) (output output' : Option (List ℕ)) (waiting waiting' waiting'' : List ℕ)
    (none : waiting ≡ []) (page : waiting' ≡ waiting ++ round_lines number end) (way : IsOnItsWay output output' waiting'' (waiting' ++ saved_part number end.taken))
  where
    told_whole : (waiting' ++ saved_part number end.taken) ++ last_lines number lists end ≡ told_end number lists end
    told_whole = ap (λ bytes. bytes ++ saved_part number end.taken ++ last_lines number lists end) (page ∙ ap (λ w. w ++ round_lines number end) none)

    longer : IsOnItsWay output output' (waiting'' ++ last_lines number lists end) (told_end number lists end)
    longer =
        subst (λ text. IsOnItsWay output output' (waiting'' ++ last_lines number lists end) text) told_whole
        (way_longer waiting'' (waiting' ++ saved_part number end.taken) (last_lines number lists end) way)

    -- a round that was told to its end
    pub told_to_end : (last : List ℕ) → last ≡ waiting'' ++ last_lines number lists end → IsOnItsWay output output' last (told_end number lists end)
    told_to_end last is = subst (λ page. IsOnItsWay output output' page (told_end number lists end)) (sym is) longer

    -- a round whose last lines could not be made
    pub not_told_to_end : (before after : Keeping) → waiting'' ≢ [] → HasSaved (saved_after end.taken lists) before after
        → StopsTelling stop.OutOfMemory number end lists before after output output'
    not_told_to_end before after some saved =
        (inr saved, front_of_rest (waiting'' ++ last_lines number lists end) (told_end number lists end) (some_front waiting'' (last_lines number lists end) some) longer)

-- a round that installed nothing
pub nothing_to_save : (taken : Result (List Taken) RoundFault) (lists : List Held) (keeper : Keeping) → has_installed taken ≡ false → HasSaved (saved_after taken lists) keeper keeper
nothing_to_save taken lists keeper none = rw none (saved_nothing keeper)
