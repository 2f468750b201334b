use Rattle.std.proofs.Common.{Contains, subst}
use Rattle.client_laws.proofs.Members.{nothing}
use Rattle.client_laws.proofs.Origins.{hit_where_full}
use Rattle.client_laws.proofs.verdicts.hits_find_listed_urls.Goals as goal

pub returns-clause-hit : goal.returns-clause-hit
returns-clause-hit c = hit_where_full c.sets_go_by_members.ensures.members

pub returns-clause-none : goal.returns-clause-none
returns-clause-none c history token_at lists url name well none listed =
    let full = listed.full in
    let is = hit_where_full c.sets_go_by_members.ensures.members history token_at lists url full.held listed.hashes listed.hash well full.member full.full listed.of_url listed.held in
    nothing is.hit (subst (λ hits. Contains hits is.hit) none is.member)
