use Rattle.std.proofs.Common.{◌≡◌, Some, List, ap, subst, sym}
use Rattle.std.specs.Prelude.{IfSome}
use Rattle.http_serving.specs.Kept.{text_by_meaning, KeptLists}
use Rattle.update_messages.specs.Messages.{AskedList, Request}
use Rattle.sb_service.specs.Connection.{ListServed}
use Rattle.sb_service.specs.Kept.{are_whole, same_wishes, AreKeptOf}
use Rattle.sb_service.specs.Wish.{AreWishesOf}
use Rattle.sb_service.specs.declared.wish.Wish.{Wish}
use Rattle.sb_service.proofs.ConnectionFacts.{response_of_message}
use Rattle.sb_service.proofs.Keeping.{found_by_wishes, may_be_kept, sent_right}
use Rattle.sb_service.proofs.connection.answer_wishes.Goals as goal

pub returns-in-Some-clause-right : goal.returns-in-Some-clause-right
returns-in-Some-clause-right c =
    let served : ListServed = record { versions = c.args.history.now.versions; times = c.args.settings.now } in
    let same : c.as_slice.result.now ≡ c.args.message.now.items = cc (ap (λ (r : Request). r.items) c.message.view_is) in
    let wishes = c.in_ok-wishes.wishes in
    let says : text_by_meaning same_wishes are_whole wishes c.args.kept.now ≡ Some c.in-Some.text = cc (c.in_ok-found.ensures.text, c.in-Some.is) in
    found_by_wishes served.versions served.times c.args.request.now c.len.ensures.within c.names_go_by_their_codes.ensures.same
    c.args.message.now c.args.kept.now wishes c.in-Some.text c.requires.reads
    (subst (λ (items : List AskedList). IfSome wishes (AreWishesOf served.versions items)) same c.in_ok-wishes.ensures.wishes)
    (λ own. c.kept_answers_stay_right.ensures.by_meaning served c.args.kept.now own c.in-Some.text c.requires.kept) says

pub returns-in-Some-clause-kept : goal.returns-in-Some-clause-kept
returns-in-Some-clause-kept c =
    let served : ListServed = record { versions = c.args.history.now.versions; times = c.args.settings.now } in
    subst (λ (kept : KeptLists (List Wish)). AreKeptOf served.versions served.times kept) (sym c.in_ok-found.ensures.order)
    ((c.kept_answers_stay_right.ensures.asked served).by_meaning c.args.kept.now c.in_ok-wishes.wishes c.requires.kept)

pub returns-in_err-response-clause-kept : goal.returns-in_err-response-clause-kept
returns-in_err-response-clause-kept c =
    let served : ListServed = record { versions = c.args.history.now.versions; times = c.args.settings.now } in
    subst (λ (kept : KeptLists (List Wish)). AreKeptOf served.versions served.times kept) (sym c.in_ok-found.ensures.order)
    ((c.kept_answers_stay_right.ensures.asked served).by_meaning c.args.kept.now c.in_ok-wishes.wishes c.requires.kept)

pub returns-clause-right : goal.returns-clause-right
returns-clause-right c =
    let response = c.in_ok-response.response in
    sent_right c.args.history.now.versions c.args.settings.now c.args.request.now response c.keep_response.result c.keep_response.ensures.answer
    (response_of_message c.args.history.now.versions c.args.settings.now c.args.request.now c.args.message.now response.status response.fields response.body
    response.cause c.requires.reads c.in_ok-response.ensures.status c.in_ok-response.ensures.body c.in_ok-response.ensures.media c.in_ok-response.ensures.cause)

pub returns-clause-kept : goal.returns-clause-kept
returns-clause-kept c =
    let served : ListServed = record { versions = c.args.history.now.versions; times = c.args.settings.now } in
    let same : c.as_slice.result.now ≡ c.args.message.now.items = cc (ap (λ (r : Request). r.items) c.message.view_is) in
    let wishes = c.in_ok-wishes.wishes in
    let asked = c.as_slice-asked.result.now in
    let response = c.in_ok-response.response in
    let before : AreKeptOf served.versions served.times c.text_by_meaning.new.self =
    subst (λ (kept : KeptLists (List Wish)). AreKeptOf served.versions served.times kept) (sym c.in_ok-found.ensures.order)
    ((c.kept_answers_stay_right.ensures.asked served).by_meaning c.args.kept.now wishes c.requires.kept) in
    (c.kept_answers_stay_right.ensures.kept served).more asked wishes response c.keep_response.result c.text_by_meaning.new.self c.keep_response.new.self before
    (may_be_kept served.versions served.times c.len.ensures.within c.args.request.now c.args.message.now asked wishes response c.as_slice-asked.ensures c.requires.reads
    (subst (λ (items : List AskedList). IfSome wishes (AreWishesOf served.versions items)) same c.in_ok-wishes.ensures.wishes)
    c.in_ok-response.ensures.status c.in_ok-response.ensures.body c.in_ok-response.ensures.media)
    c.keep_response.ensures.kept
