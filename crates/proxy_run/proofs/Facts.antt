-- Facts that the steps of a run share.
use Rattle.std.proofs.Common.{◌≡◌, ℕ, List, [], ◌∷◌, ◌++◌, Bool, true, false, Option, Some, None, refl, sym, ap, ◌∙◌, subst, append_assoc, inl, inr, arith}
use Rattle.std.proofs.lemmas.List.{append-nil}
use Rattle.std.specs.Prelude.{◌⊎◌, ◌||◌, ◌&&◌, not, nat_le, is_some, if◌then◌else◌, option_map}
use Rattle.proxy_run.specs.LookEvents.{first_stop}
use Rattle.proxy_run.specs.LookSoFar.{HasOutputFailed}
use Rattle.proxy_run.specs.State.{StoppedUpdates}
use Rattle.proxy_run.specs.Steps.{has_moment_come}
use Rattle.proxy_run.specs.declared.stop.ProxyStop.{ProxyStop}
use Rattle.sb_model.specs.declared.time.Moment.{Moment}
use Rattle.sb_outside.specs.Outside.{IfTold, Rose, appended, with_entry}
use Rattle.timed_sessions.specs.Told.{with_more}

-- ---- what was written, and then more

pub appended_twice : (known : Option (List ℕ)) (first next : List ℕ) → appended (appended known first) next ≡ appended known (first ++ next)
appended_twice None first next = refl
appended_twice (Some bytes) first next = ap (λ (b : List ℕ). Some b) (append_assoc bytes first next)

pub appended_nothing : (known : Option (List ℕ)) → appended known [] ≡ known
appended_nothing None = refl
appended_nothing (Some bytes) = ap (λ (b : List ℕ). Some b) (append-nil bytes)

pub printed_more : (before now now' : Option (List ℕ)) (printed more : List ℕ) → now ≡ appended before printed → now' ≡ appended now more → now' ≡ appended before (printed ++ more)
printed_more before now now' printed more was is = is ∙ ap (λ (o : Option (List ℕ)). appended o more) was ∙ appended_twice before printed more

-- ---- what was read, and then once more

pub told_more : (start old new : Option (List Moment)) (readings : List Moment) (one : Moment) → IfTold old (with_more start readings) → IfTold new (with_entry old one)
    → IfTold new (with_more start (readings ++ one ∷ []))
told_more start old None readings one was is = tt
told_more start None (Some new) readings one was is = cc
told_more None (Some old) (Some new) readings one was is = cc
told_more (Some start) (Some old) (Some new) readings one was is =
    let first : start ++ readings ≡ old = cc in
    let next : old ++ one ∷ [] ≡ new = cc in
    ap (λ (all : List Moment). Some all) (sym (append_assoc start readings (one ∷ [])) ∙ ap (λ (front : List Moment). front ++ one ∷ []) first ∙ next)

-- ---- faults

pub failed_twice : (before between after : ℕ) → Rose before between → Rose between after → Rose before after
failed_twice before between after first next = omega (arith, first, next)

pub failed_more : (was more : Bool) (before between after : ℕ) → HasOutputFailed was before between → HasOutputFailed more between after → HasOutputFailed (was || more) before after
failed_more true true before between after first next = failed_twice before between after first next
failed_more true false before between after first next = subst (λ (n : ℕ). Rose before n) (sym next) first
failed_more false true before between after first next = subst (λ (n : ℕ). Rose n after) first next
failed_more false false before between after first next = next ∙ first

pub failed_door : (was : Bool) (before between after : ℕ) → HasOutputFailed was before between → Rose between after → Rose before after
failed_door true before between after first next = failed_twice before between after first next
failed_door false before between after first next = subst (λ (n : ℕ). Rose n after) first next

-- ---- what ended the run

pub not_stopped : (stopped : Option StoppedUpdates) (stop : Option ProxyStop) (one_open : Bool)
    → (is_some stopped ≡ true → (is_some stop ≡ true) × (one_open ≡ false)) → ((stop ≡ None) ⊎ (one_open ≡ true)) → stopped ≡ None
not_stopped None stop one_open halts goes = refl
not_stopped (Some why) None one_open halts goes = let h = (halts refl).0 in cc
not_stopped (Some why) (Some stop) true halts goes = let h = (halts refl).1 in cc
not_stopped (Some why) (Some stop) false halts (inl e) = cc
not_stopped (Some why) (Some stop) false halts (inr e) = cc

pub has_cause : (stop : Option ProxyStop) (why : ProxyStop) → is_some (first_stop stop why) ≡ true
has_cause None why = refl
has_cause (Some first) why = refl

-- ---- what is due

pub due_is : (opened over : Bool) (at now : Moment) → has_moment_come (if opened || over then None else Some at) now ≡ (not opened && not over && nat_le at.0 now.0)
due_is true over at now = refl
due_is false true at now = refl
due_is false false at now = refl

-- ---- the door

pub none_come_still : (coming coming' : Option (List (List (List ℕ)))) → coming' ≡ coming → IfTold coming (Some []) → IfTold coming' (Some [])
none_come_still coming coming' same is = subst (λ (c : Option (List (List (List ℕ)))). IfTold c (Some [])) (sym same) is

-- a door that gave a connection had not told that none is to come
pub none_contradicts : (before after : Option (List (List (List ℕ)))) (pieces : List (List ℕ)) → before ≡ option_map (λ later. pieces ∷ later) after → IfTold before (Some []) → IfTold after (Some [])
none_contradicts before None pieces came none = tt
none_contradicts before (Some later) pieces came none = let h = subst (λ (b : Option (List (List (List ℕ)))). IfTold b (Some [])) came none in cc
