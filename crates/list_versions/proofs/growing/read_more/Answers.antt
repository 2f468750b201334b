use Rattle.std.proofs.Common.{◌≡◌, ◌∙◌, ◌++◌, [], length, get_or, sym, subst, arith}
use Rattle.list_versions.specs.Renewing.{WasNewest}
use Rattle.list_versions.specs.declared.renewing.Before.{Before}
use Rattle.list_versions.proofs.Keeping.{keeps_then}
use Rattle.list_versions.proofs.Renewed.{first_of, was_newest}
use Rattle.list_versions.proofs.Further.{further_of, same_record, leads_same, all_after, stops_after, stops_at_once}
use Rattle.list_versions.proofs.growing.read_more.Goals as goal

pub returns-in-Err-clause-fault : goal.returns-in-Err-clause-fault
returns-in-Err-clause-fault g c =
    stops_at_once (further_of c.args.draft.now c.args.text) c.freshen.new.draft c.args.text c.in-Err.fault _
    (λ more. same_record c.args.draft.now c.freshen.new.draft c.freshen.ensures.same [] (c.args.text ++ more)) c.in-Err.ensures.fault

pub returns-in-Err-read_further-clause-fault : goal.returns-in-Err-read_further-clause-fault
returns-in-Err-read_further-clause-fault g c =
    stops_after (further_of c.args.draft.now c.args.text) (further_of c.take_records.new.draft c.in-Ok-take_records.text) c.in-Err-read_further.fault _ _ _
    (leads_same _ _ _ (λ more. same_record c.args.draft.now c.freshen.new.draft c.freshen.ensures.same [] (c.args.text ++ more) ∙ c.in-Ok-take_records.ensures.moves more))
    c.in-Err-read_further.ensures.fault

pub returns-in-Ok-renew-clause-ok : goal.returns-in-Ok-renew-clause-ok
returns-in-Ok-renew-clause-ok g c =
    all_after (further_of c.args.draft.now c.args.text) (further_of c.take_records.new.draft c.in-Ok-take_records.text) _ _ _ _
    (leads_same _ _ _ (λ more. same_record c.args.draft.now c.freshen.new.draft c.freshen.ensures.same [] (c.args.text ++ more) ∙ c.in-Ok-take_records.ensures.moves more))
    c.in-Ok-read_further.ensures.ok

pub renew-requires-clause-old : goal.renew-requires-clause-old
renew-requires-clause-old g c =
    let old = c.args.draft.now in
    let new = c.read_further.new.draft in
    let keeps = keeps_then old c.freshen.new.draft new c.freshen.ensures.front (keeps_then c.freshen.new.draft c.take_records.new.draft new c.take_records.ensures.front c.read_further.ensures.front) in
    let lists_are : c.len.result ≡ length old.lists.items = omega (arith, c.len.ensures, old.lists.ok) in
    let changes_are : c.len-2.result ≡ length old.changes.items = omega (arith, c.len-2.ensures, old.changes.ok) in
    let before : Before = record { lists = c.len.result; changes = c.len-2.result } in
    let same : before ≡ first_of old = λ i. record { lists = lists_are i; changes = changes_are i } in
    λ k l d lt. subst (λ (at : Before). WasNewest new at (get_or new.lists.items k l) (get_or c.args.newest.now k d)) (sym same) (was_newest old new c.args.newest.now keeps c.requires.each c.requires.known k l d lt)
