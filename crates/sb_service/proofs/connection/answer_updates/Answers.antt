use Rattle.std.proofs.Common.{◌≡◌, ℕ, List, Some, Ok, subst, sym}
use Rattle.http_serving.specs.Kept.{text_by_body, KeptLists}
use Rattle.update_messages.specs.Reading.{ReadsRequest, IsTextOf}
use Rattle.sb_service.specs.Connection.{ListServed}
use Rattle.sb_service.specs.Kept.{AreKeptOf}
use Rattle.sb_service.specs.declared.wish.Wish.{Wish}
use Rattle.sb_service.proofs.ConnectionFacts.{body_refused}
use Rattle.sb_service.proofs.Keeping.{said_by_body}
use Rattle.sb_service.proofs.connection.answer_updates.Goals as goal

pub returns-in-Some-clause-right : goal.returns-in-Some-clause-right
returns-in-Some-clause-right c =
    let served : ListServed = record { versions = c.args.history.now.versions; times = c.args.settings.now } in
    let asked = c.as_slice-asked.result.now in
    let says : text_by_body asked c.args.kept.now ≡ Some c.in-Some.text = cc (c.in_ok-found.ensures.text, c.in-Some.is) in
    said_by_body served.versions served.times c.args.request.now asked c.in-Some.text c.as_slice-asked.ensures
    (c.kept_answers_stay_right.ensures.by_body served c.args.kept.now asked c.in-Some.text c.requires says)

pub returns-in-Some-clause-kept : goal.returns-in-Some-clause-kept
returns-in-Some-clause-kept c =
    let served : ListServed = record { versions = c.args.history.now.versions; times = c.args.settings.now } in
    subst (λ (kept : KeptLists (List Wish)). AreKeptOf served.versions served.times kept) (sym c.in_ok-found.ensures.order)
    ((c.kept_answers_stay_right.ensures.asked served).by_body c.args.kept.now c.as_slice-asked.result.now c.requires)

pub answer_wishes-requires-clause-only : goal.answer_wishes-requires-clause-only
answer_wishes-requires-clause-only c = λ other tells.
    c.in-Ok.ensures.only other (subst (λ (text : List ℕ). IsTextOf ReadsRequest text other) (sym c.as_slice-asked.ensures) tells)

pub answer_wishes-requires-clause-kept : goal.answer_wishes-requires-clause-kept
answer_wishes-requires-clause-kept c =
    let served : ListServed = record { versions = c.args.history.now.versions; times = c.args.settings.now } in
    subst (λ (kept : KeptLists (List Wish)). AreKeptOf served.versions served.times kept) (sym c.in_ok-found.ensures.order)
    ((c.kept_answers_stay_right.ensures.asked served).by_body c.args.kept.now c.as_slice-asked.result.now c.requires)

pub returns-in_err-refuse_body-in-Err-clause-kept : goal.returns-in_err-refuse_body-in-Err-clause-kept
returns-in_err-refuse_body-in-Err-clause-kept c =
    let served : ListServed = record { versions = c.args.history.now.versions; times = c.args.settings.now } in
    subst (λ (kept : KeptLists (List Wish)). AreKeptOf served.versions served.times kept) (sym c.in_ok-found.ensures.order)
    ((c.kept_answers_stay_right.ensures.asked served).by_body c.args.kept.now c.as_slice-asked.result.now c.requires)

pub returns-in_ok-refuse_body-in-Err-clause-right : goal.returns-in_ok-refuse_body-in-Err-clause-right
returns-in_ok-refuse_body-in-Err-clause-right c =
    body_refused c.args.history.now.versions c.args.settings.now c.args.request.now c.as_slice-asked.result.now c.in-Err.fault
    (Ok c.in_ok-refuse_body-in-Err.field-0) c.as_slice-asked.ensures c.in-Err.ensures.only c.in-Err.ensures.err c.in_ok-refuse_body-in-Err.ensures

pub returns-in_ok-refuse_body-in-Err-clause-kept : goal.returns-in_ok-refuse_body-in-Err-clause-kept
returns-in_ok-refuse_body-in-Err-clause-kept c =
    let served : ListServed = record { versions = c.args.history.now.versions; times = c.args.settings.now } in
    subst (λ (kept : KeptLists (List Wish)). AreKeptOf served.versions served.times kept) (sym c.in_ok-found.ensures.order)
    ((c.kept_answers_stay_right.ensures.asked served).by_body c.args.kept.now c.as_slice-asked.result.now c.requires)
