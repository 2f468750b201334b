-- What a log tells of a run: its sessions, and the bodies that they brought.
use Rattle.std.proofs.Common.{◌≡◌, ℕ, List, [], ◌∷◌, ◌++◌, Bool, Option, Some, None, length, take, refl, sym, ap, subst, ◌∙◌, inl, inr, append-nil, append_assoc, length-append, arith}
use Rattle.std.specs.Prelude.{IsTrue}
use Rattle.std.proofs.lemmas.List.{append_cancel_left}
use Rattle.sb_outside.specs.Outside.{IfTold}
use Rattle.sb_outside.specs.declared.links.Session.{Session}
use Rattle.update_messages.specs.Messages.{UpdatedList}
use Rattle.timed_sessions.specs.Told.{with_more}
use Rattle.sb_round.specs.Sessions.{AreBodiesOf, HasOneListOfBodies}
use Rattle.client_laws.specs.Met.{IsLogged, HasTakenBodies}

-- ---- one thing told after the other

pub told_itself : {A : Type 0} (known : Option A) → IfTold known known
told_itself None = tt
told_itself (Some told) = refl

pub told_nothing : {A : Type 0} (known : Option (List A)) → IfTold known (with_more known [])
told_nothing None = tt
told_nothing (Some items) = ap (λ all. Some all) (append-nil items)

pub told_both : {A : Type 0} (a b c : Option (List A)) (more next : List A) → IfTold b (with_more a more) → IfTold c (with_more b next) → IfTold c (with_more a (more ++ next))
told_both a b None more next h k = tt
told_both a None (Some told) more next h k = cc
told_both None (Some known) (Some told) more next h k = cc
told_both (Some items) (Some known) (Some told) more next h k =
    let grown : items ++ more ≡ known = cc in
    let told_is : known ++ next ≡ told = cc in
    ap (λ all. Some all) (sym (append_assoc items more next) ∙ ap (λ all. all ++ next) grown ∙ told_is)

-- ---- the sessions of a log

more_in : (earlier sessions more : List Session) → IfTold (Some (earlier ++ sessions)) (with_more (Some earlier) more) → sessions ≡ more
more_in earlier sessions more told = let same : earlier ++ more ≡ earlier ++ sessions = cc in sym (append_cancel_left earlier more sessions same)

-- What a log has more is what it was told more.
pub logged_are : (sessions more : List Session) (before after : Option (List Session)) → IsLogged sessions before after → IfTold after (with_more before more) → sessions ≡ more
logged_are sessions more before after logged told =
    let from : IfTold after (with_more (Some logged.earlier) more) = subst (λ known. IfTold after (with_more known more)) logged.was told in
    more_in logged.earlier sessions more (subst (λ known. IfTold known (with_more (Some logged.earlier) more)) logged.is from)

pub all_taken : (lacks : Bool) (taken : ℕ) (before after : Option (List Session)) (more : List Session) → taken ≡ length more → IfTold after (with_more before more) → HasTakenBodies lacks before after taken
all_taken lacks taken before after more count told sessions logged = inl (count ∙ ap length (sym (logged_are sessions more before after logged told)))

pub last_not_taken : (lacks : Bool) (taken : ℕ) (before after : Option (List Session)) (more : List Session) (last : Session) → IsTrue lacks → taken ≡ length more
    → IfTold after (with_more before (more ++ last ∷ [])) → HasTakenBodies lacks before after taken
last_not_taken lacks taken before after more last lacking count told sessions logged =
    let are : sessions ≡ more ++ last ∷ [] = logged_are sessions (more ++ last ∷ []) before after logged told in
    inr (lacking, omega (arith, count, length-append more (last ∷ []), ap length are))

-- ---- bodies

-- The first bodies are those of the first sessions.
pub front_bodies : (need : Bool) (first more : List Session) (bodies : List (List UpdatedList)) → AreBodiesOf need (first ++ more) bodies → AreBodiesOf need first (take (length first) bodies)
front_bodies need [] more bodies are = tt
front_bodies need (session ∷ first) more [] are = absurd are
front_bodies need (session ∷ first) more (updates ∷ bodies) are = (are.0, front_bodies need first more bodies are.1)

pub taken_are : HasOneListOfBodies → (need : Bool) (first more : List Session) (own bodies : List (List UpdatedList)) (taken : ℕ) → taken ≡ length first
    → AreBodiesOf need first own → AreBodiesOf need (first ++ more) bodies → take taken bodies ≡ own
taken_are one need first more own bodies taken count are all =
    ap (λ n. take n bodies) count ∙ one need first (take (length first) bodies) own (front_bodies need first more bodies all) are
