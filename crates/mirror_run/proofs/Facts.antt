-- Facts that the steps of a run share.
use Rattle.std.proofs.Common.{◌≡◌, ◌+◌, ◌-◌, ℕ, List, [], ◌∷◌, ◌++◌, Bool, true, false, Option, Some, None, length, refl, sym, ap, ◌∙◌, subst, append_assoc, inl, inr, arith}
use Rattle.std.proofs.lemmas.List.{append-nil}
use Rattle.std.specs.Prelude.{◌⊎◌, ◌||◌, ◌&&◌, not, nat_le, min, drop, is_some, if◌then◌else◌}
use Rattle.mirror_places.specs.Places.{Places, StandsForPlaces, most_kept_places}
use Rattle.mirror_run.specs.Events.{first_cause}
use Rattle.mirror_run.specs.SoFar.{HasFailedSo}
use Rattle.mirror_run.specs.State.{StoppedRounds, mirror_of_places}
use Rattle.mirror_run.specs.Steps.{is_due_at}
use Rattle.mirror_run.specs.declared.stop.MirrorStop.{MirrorStop}
use Rattle.sb_model.specs.declared.time.Moment.{Moment}
use Rattle.sb_outside.specs.Outside.{IfTold, Rose, appended, with_entry}
use Rattle.timed_sessions.specs.Told.{with_more}
use Rattle.update_client.specs.Held.{Held}

-- ---- what was written, and then more

pub appended_twice : (known : Option (List ℕ)) (first next : List ℕ) → appended (appended known first) next ≡ appended known (first ++ next)
appended_twice None first next = refl
appended_twice (Some bytes) first next = ap (λ (b : List ℕ). Some b) (append_assoc bytes first next)

pub appended_nothing : (known : Option (List ℕ)) → appended known [] ≡ known
appended_nothing None = refl
appended_nothing (Some bytes) = ap (λ (b : List ℕ). Some b) (append-nil bytes)

pub printed_more : (before now now' : Option (List ℕ)) (printed more : List ℕ) → now ≡ appended before printed → now' ≡ appended now more → now' ≡ appended before (printed ++ more)
printed_more before now now' printed more was is = is ∙ ap (λ (o : Option (List ℕ)). appended o more) was ∙ appended_twice before printed more

-- ---- what was read, and then once more

pub told_more : (start old new : Option (List Moment)) (readings : List Moment) (one : Moment) → IfTold old (with_more start readings) → IfTold new (with_entry old one)
    → IfTold new (with_more start (readings ++ one ∷ []))
told_more start old None readings one was is = tt
told_more start None (Some new) readings one was is = cc
told_more None (Some old) (Some new) readings one was is = cc
told_more (Some start) (Some old) (Some new) readings one was is =
    let first : start ++ readings ≡ old = cc in
    let next : old ++ one ∷ [] ≡ new = cc in
    ap (λ (all : List Moment). Some all) (sym (append_assoc start readings (one ∷ [])) ∙ ap (λ (front : List Moment). front ++ one ∷ []) first ∙ next)

-- ---- faults

pub failed_twice : (before between after : ℕ) → Rose before between → Rose between after → Rose before after
failed_twice before between after first next = omega (arith, first, next)

pub failed_more : (was more : Bool) (before between after : ℕ) → HasFailedSo was before between → HasFailedSo more between after → HasFailedSo (was || more) before after
failed_more true true before between after first next = failed_twice before between after first next
failed_more true false before between after first next = subst (λ (n : ℕ). Rose before n) (sym next) first
failed_more false true before between after first next = subst (λ (n : ℕ). Rose n after) first next
failed_more false false before between after first next = next ∙ first

-- ---- what ended the run

pub not_stopped : (stopped : Option StoppedRounds) (stop : Option MirrorStop) (one_open : Bool)
    → (is_some stopped ≡ true → (is_some stop ≡ true) × (one_open ≡ false)) → ((stop ≡ None) ⊎ (one_open ≡ true)) → stopped ≡ None
not_stopped None stop one_open halts goes = refl
not_stopped (Some why) None one_open halts goes = let h = (halts refl).0 in cc
not_stopped (Some why) (Some stop) true halts goes = let h = (halts refl).1 in cc
not_stopped (Some why) (Some stop) false halts (inl e) = cc
not_stopped (Some why) (Some stop) false halts (inr e) = cc

pub has_cause : (stop : Option MirrorStop) (why : MirrorStop) → is_some (first_cause stop why) ≡ true
has_cause None why = refl
has_cause (Some first) why = refl

-- ---- what is due

pub due_is : (opened over : Bool) (at now : Moment) → is_due_at (if opened || over then None else Some at) now ≡ (not opened && not over && nat_le at.0 now.0)
due_is true over at now = refl
due_is false true at now = refl
due_is false false at now = refl

-- ---- places

places_with : ℕ → ℕ → List (List Held) → Places
places_with epoch gone kept = record { epoch = epoch; gone = gone; kept = kept }

-- a mirror of an epoch that stands for these places is this one
pub places_pinned : (places : Places) (epoch : ℕ) (all : List (List Held)) → places.epoch ≡ epoch → StandsForPlaces places all → places ≡ mirror_of_places epoch all
unfolding places_with
places_pinned places epoch all is stands =
    let gone : places.gone ≡ length all - min most_kept_places (length all) = omega (arith, stands.count, stands.newest) in
    ap (λ (e : ℕ). places_with e places.gone places.kept) is
    ∙ ap (λ (kept : List (List Held)). places_with epoch places.gone kept) stands.kept
    ∙ ap (λ (n : ℕ). places_with epoch n (drop n all)) gone
