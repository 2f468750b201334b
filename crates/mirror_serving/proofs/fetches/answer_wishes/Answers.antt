use Rattle.std.proofs.Common.{◌≡◌, ◌∙◌, List, Some, ap, subst, sym}
use Rattle.http_serving.specs.Kept.{text_by_meaning, KeptLists}
use Rattle.update_messages.specs.Messages.{AskedList, Request}
use Rattle.mirror_serving.specs.KeptFetches.{AreKeptOfMirror}
use Rattle.mirror_serving.specs.PlaceWish.{place_wishes_of, same_place_wishes, wish_whole_lists}
use Rattle.mirror_serving.specs.Response.{IsFetchResponse, MirrorServed}
use Rattle.mirror_serving.specs.declared.fate.FindFate.TheVariants.{NotSent}
use Rattle.mirror_serving.specs.declared.wish.PlaceWish.{PlaceWish}
use Rattle.mirror_serving.proofs.KeptFacts.{may_be_kept, said_by_wishes, sent_right}
use Rattle.mirror_serving.proofs.ResponseFacts.{fetch_answered}
use Rattle.mirror_serving.proofs.fetches.answer_wishes.Goals as goal

pub returns-in-Some-clause-right : goal.returns-in-Some-clause-right
returns-in-Some-clause-right c =
    let served : MirrorServed = record { places = c.args.mirror.now; wait = c.args.wait; fate = NotSent } in
    let same : c.as_slice.result.now ≡ c.args.message.now.items = cc (ap (λ (r : Request). r.items) c.message.view_is) in
    let wishes : List PlaceWish = c.in_ok-wishes.wishes in
    let says : text_by_meaning same_place_wishes wish_whole_lists (Some wishes) c.args.kept.now ≡ Some c.in-Some.text = cc (c.in_ok-found.ensures.text, c.in-Some.is) in
    said_by_wishes served.places served.wait c.args.asked.now c.names_go_by_their_codes.ensures.same c.args.message.now wishes c.in-Some.text c.requires.reads
    (c.in_ok-wishes.ensures ∙ ap (λ (items : List AskedList). place_wishes_of served.places items) same)
    (c.kept_answers_stay_right.ensures.by_meaning served c.args.kept.now wishes c.in-Some.text c.requires.kept says)

pub returns-in-Some-clause-kept : goal.returns-in-Some-clause-kept
returns-in-Some-clause-kept c =
    let served : MirrorServed = record { places = c.args.mirror.now; wait = c.args.wait; fate = NotSent } in
    subst (λ (kept : KeptLists (List PlaceWish)). AreKeptOfMirror served.places served.wait kept) (sym c.in_ok-found.ensures.order)
    ((c.kept_answers_stay_right.ensures.asked served).by_meaning c.args.kept.now (Some c.in_ok-wishes.wishes) c.requires.kept)

pub returns-in_err-response-clause-kept : goal.returns-in_err-response-clause-kept
returns-in_err-response-clause-kept c =
    let served : MirrorServed = record { places = c.args.mirror.now; wait = c.args.wait; fate = NotSent } in
    subst (λ (kept : KeptLists (List PlaceWish)). AreKeptOfMirror served.places served.wait kept) (sym c.in_ok-found.ensures.order)
    ((c.kept_answers_stay_right.ensures.asked served).by_meaning c.args.kept.now (Some c.in_ok-wishes.wishes) c.requires.kept)

pub returns-clause-kept : goal.returns-clause-kept
returns-clause-kept c =
    let served : MirrorServed = record { places = c.args.mirror.now; wait = c.args.wait; fate = NotSent } in
    let same : c.as_slice.result.now ≡ c.args.message.now.items = cc (ap (λ (r : Request). r.items) c.message.view_is) in
    let wishes : List PlaceWish = c.in_ok-wishes.wishes in
    let response = c.in_ok-response.response in
    let before : AreKeptOfMirror served.places served.wait c.text_by_meaning.new.self =
    subst (λ (kept : KeptLists (List PlaceWish)). AreKeptOfMirror served.places served.wait kept) (sym c.in_ok-found.ensures.order)
    ((c.kept_answers_stay_right.ensures.asked served).by_meaning c.args.kept.now (Some wishes) c.requires.kept) in
    (c.kept_answers_stay_right.ensures.kept served).more c.args.asked.now (Some wishes) response c.keep_response.result c.text_by_meaning.new.self c.keep_response.new.self before
    (may_be_kept served.places served.wait c.args.asked.now c.args.message.now wishes response c.requires.reads
    (c.in_ok-wishes.ensures ∙ ap (λ (items : List AskedList). place_wishes_of served.places items) same)
    c.in_ok-response.ensures.status c.in_ok-response.ensures.body c.in_ok-response.ensures.media)
    c.keep_response.ensures.kept

pub returns-clause-right : goal.returns-clause-right
returns-clause-right c =
    let response = c.in_ok-response.response in
    sent_right (IsFetchResponse c.args.mirror.now c.args.wait c.args.asked.now) response c.keep_response.result c.keep_response.ensures.answer
    (fetch_answered c.args.mirror.now c.args.wait c.args.asked.now c.args.message.now response c.requires.reads c.in_ok-response.ensures.status
    c.in_ok-response.ensures.body c.in_ok-response.ensures.media c.in_ok-response.ensures.cause)
