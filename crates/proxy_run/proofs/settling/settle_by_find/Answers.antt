use Rattle.std.proofs.Common.{◌≡◌, ◌-◌, List, Option, Some, sym, ap, ◌∙◌, subst}
use Rattle.std.specs.Prelude.{IfOk, drop, min, take}
use Rattle.std.specs.Option.{option_copied}
use Rattle.find_desk.specs.Desk.{DeskSeen, HasKeptDesk}
use Rattle.find_desk.specs.declared.desk.EndedFind.{EndedFind}
use Rattle.proxy_looks.specs.Settled.{AreAskedBy, HasAskedForAll, SettlesAll, desk_at}
use Rattle.proxy_looks.specs.Urls.{open_hits}
use Rattle.proxy_run.specs.LookSoFar.{LookOwn}
use Rattle.proxy_run.proofs.LookFacts.{asked_by_ended, sliced}
use Rattle.proxy_run.proofs.settling.settle_by_find.Goals as goal
use Rattle.url_checker.specs.declared.looking.Looks.{Looks}

pub settle_urls-requires-clause-all : goal.settle_urls-requires-clause-all
settle_urls-requires-clause-all g c =
    let now = c.args.held.now in
    let moved = c.held-2.view_is ∙ c.move_on.ensures in
    let least : c.min-first.result ≡ min now.place now.asked = c.min-first.ensures ∙ ap (λ (o : LookOwn). min o.place o.asked) c.held.view_is in
    let slice = sliced now.place now.asked now.past c.min-first.result c.held-2.inside.asked c.as_slice-2.result.now least (ap (λ (o : LookOwn). o.asked) moved) (c.as_slice-2.ensures ∙ ap (λ (o : LookOwn). o.past) moved) in
    subst (λ (xs : List Looks). HasAskedForAll xs (option_copied c.as_ref.result)) (sym slice)
    (subst (λ (e : Option EndedFind). HasAskedForAll (take (now.asked - now.place) (drop now.place now.past)) e) (sym (c.as_ref.ensures.value ∙ ap (λ (o : LookOwn). o.ended) moved))
    (asked_by_ended now.ended now.place now.asked now.past c.requires.asked))

pub returns-clause-settled : goal.returns-clause-settled
returns-clause-settled g c target need start events line one has asked =
    let now = c.args.held.now in
    let moved = c.held-2.view_is ∙ c.move_on.ensures in
    let least : c.min-first.result ≡ min now.place now.asked = c.min-first.ensures ∙ ap (λ (o : LookOwn). min o.place o.asked) c.held.view_is in
    let slice = sliced now.place now.asked now.past c.min-first.result c.held-2.inside.asked c.as_slice-2.result.now least (ap (λ (o : LookOwn). o.asked) moved) (c.as_slice-2.ensures ∙ ap (λ (o : LookOwn). o.past) moved) in
    subst (λ (xs : List Looks). IfOk c.settle_urls.result (λ settled. SettlesAll (desk_at target need start events c.args.now line) (Some one) xs c.args.urls settled c.settle_urls.new.desk)) slice
    (c.settle_urls.ensures.settled target need start events line (Some one)
    (subst (λ (d : DeskSeen). HasKeptDesk target need start events d line) (sym (ap (λ (o : LookOwn). o.desk) moved)) has)
    (subst (λ (xs : List Looks). AreAskedBy start events (open_hits c.args.urls) xs (option_copied c.as_ref.result) (Some one)) (sym slice)
    (subst (λ (e : Option EndedFind). AreAskedBy start events (open_hits c.args.urls) (take (now.asked - now.place) (drop now.place now.past)) e (Some one)) (sym (c.as_ref.ensures.value ∙ ap (λ (o : LookOwn). o.ended) moved)) asked)))

pub returns-clause-stopped : goal.returns-clause-stopped
returns-clause-stopped g c target need start events line one has asked =
    let now = c.args.held.now in
    let moved = c.held-2.view_is ∙ c.move_on.ensures in
    let least : c.min-first.result ≡ min now.place now.asked = c.min-first.ensures ∙ ap (λ (o : LookOwn). min o.place o.asked) c.held.view_is in
    let slice = sliced now.place now.asked now.past c.min-first.result c.held-2.inside.asked c.as_slice-2.result.now least (ap (λ (o : LookOwn). o.asked) moved) (c.as_slice-2.ensures ∙ ap (λ (o : LookOwn). o.past) moved) in
    c.settle_urls.ensures.stopped target need start events line (Some one)
    (subst (λ (d : DeskSeen). HasKeptDesk target need start events d line) (sym (ap (λ (o : LookOwn). o.desk) moved)) has)
    (subst (λ (xs : List Looks). AreAskedBy start events (open_hits c.args.urls) xs (option_copied c.as_ref.result) (Some one)) (sym slice)
    (subst (λ (e : Option EndedFind). AreAskedBy start events (open_hits c.args.urls) (take (now.asked - now.place) (drop now.place now.past)) e (Some one)) (sym (c.as_ref.ensures.value ∙ ap (λ (o : LookOwn). o.ended) moved)) asked))
