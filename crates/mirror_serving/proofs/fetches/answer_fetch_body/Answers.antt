use Rattle.std.proofs.Common.{◌≡◌, List, Some, subst, sym}
use Rattle.http_serving.specs.Kept.{text_by_body, KeptLists}
use Rattle.mirror_serving.specs.KeptFetches.{AreKeptOfMirror}
use Rattle.mirror_serving.specs.Response.{MirrorServed}
use Rattle.mirror_serving.specs.declared.fate.FindFate.TheVariants.{NotSent}
use Rattle.mirror_serving.specs.declared.wish.PlaceWish.{PlaceWish}
use Rattle.mirror_serving.proofs.KeptFacts.{said_by_body}
use Rattle.mirror_serving.proofs.ResponseFacts.{fetch_refused}
use Rattle.mirror_serving.proofs.fetches.answer_fetch_body.Goals as goal

pub returns-in-Some-clause-right : goal.returns-in-Some-clause-right
returns-in-Some-clause-right c =
    let served : MirrorServed = record { places = c.args.mirror.now; wait = c.args.wait; fate = NotSent } in
    let says : text_by_body c.args.asked.now c.args.kept.now ≡ Some c.in-Some.text = cc (c.in_ok-found.ensures.text, c.in-Some.is) in
    said_by_body served.places served.wait c.args.asked.now c.in-Some.text
    (c.kept_answers_stay_right.ensures.by_body served c.args.kept.now c.args.asked.now c.in-Some.text c.requires says)

pub returns-in-Some-clause-kept : goal.returns-in-Some-clause-kept
returns-in-Some-clause-kept c =
    let served : MirrorServed = record { places = c.args.mirror.now; wait = c.args.wait; fate = NotSent } in
    subst (λ (kept : KeptLists (List PlaceWish)). AreKeptOfMirror served.places served.wait kept) (sym c.in_ok-found.ensures.order)
    ((c.kept_answers_stay_right.ensures.asked served).by_body c.args.kept.now c.args.asked.now c.requires)

pub answer_wishes-requires-clause-kept : goal.answer_wishes-requires-clause-kept
answer_wishes-requires-clause-kept c =
    let served : MirrorServed = record { places = c.args.mirror.now; wait = c.args.wait; fate = NotSent } in
    subst (λ (kept : KeptLists (List PlaceWish)). AreKeptOfMirror served.places served.wait kept) (sym c.in_ok-found.ensures.order)
    ((c.kept_answers_stay_right.ensures.asked served).by_body c.args.kept.now c.args.asked.now c.requires)

pub returns-in_err-refuse_body-in-Err-clause-kept : goal.returns-in_err-refuse_body-in-Err-clause-kept
returns-in_err-refuse_body-in-Err-clause-kept c =
    let served : MirrorServed = record { places = c.args.mirror.now; wait = c.args.wait; fate = NotSent } in
    subst (λ (kept : KeptLists (List PlaceWish)). AreKeptOfMirror served.places served.wait kept) (sym c.in_ok-found.ensures.order)
    ((c.kept_answers_stay_right.ensures.asked served).by_body c.args.kept.now c.args.asked.now c.requires)

pub returns-in_ok-refuse_body-in-Err-clause-right : goal.returns-in_ok-refuse_body-in-Err-clause-right
returns-in_ok-refuse_body-in-Err-clause-right c =
    fetch_refused c.args.mirror.now c.args.wait c.args.asked.now c.in-Err.fault c.in_ok-refuse_body-in-Err.field-0
    c.in-Err.ensures.only c.in-Err.ensures.err c.in_ok-refuse_body-in-Err.ensures.refused c.in_ok-refuse_body-in-Err.ensures.media c.in_ok-refuse_body-in-Err.ensures.some

pub returns-in_ok-refuse_body-in-Err-clause-kept : goal.returns-in_ok-refuse_body-in-Err-clause-kept
returns-in_ok-refuse_body-in-Err-clause-kept c =
    let served : MirrorServed = record { places = c.args.mirror.now; wait = c.args.wait; fate = NotSent } in
    subst (λ (kept : KeptLists (List PlaceWish)). AreKeptOfMirror served.places served.wait kept) (sym c.in_ok-found.ensures.order)
    ((c.kept_answers_stay_right.ensures.asked served).by_body c.args.kept.now c.args.asked.now c.requires)
