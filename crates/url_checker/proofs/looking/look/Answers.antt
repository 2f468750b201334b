use Rattle.std.proofs.Common.{List, None, length, ap, ◌∙◌, arith}
use Rattle.url_checker.specs.declared.findings.Hit.{Hit}
use Rattle.url_checker.specs.declared.looking.Looked.{Looked}
use Rattle.url_checker.specs.Hits.{prefixes_hit}
use Rattle.url_checker.specs.Resolving.{said_of, is_ask, lists_hit}
use Rattle.url_checker.specs.Looking.{asked_in, unsafe_in}
use Rattle.url_checker.proofs.FewPrefixes.{fewer_prefixes}
use Rattle.url_checker.proofs.LookFacts.{asked_are, unsafe_are}
use Rattle.url_checker.proofs.looking.look.Goals as goal

pub returns-clause-asked : goal.returns-clause-asked
returns-clause-asked c =
    c.in_ok-asked.ensures ∙ ap asked_in (c.as_slice.ensures ∙ c.in_ok-looked.ensures.looked) ∙ asked_are c.args.cache.now c.args.now c.args.hits.now

pub returns-clause-told : goal.returns-clause-told
returns-clause-told c =
    c.in_ok-told.ensures ∙ ap (λ (all : List Looked). lists_hit (unsafe_in None all)) (c.as_slice-2.ensures ∙ c.in_ok-looked.ensures.looked)
    ∙ ap lists_hit (unsafe_are c.args.cache.now c.args.now None c.args.hits.now)

pub returns-clause-few : goal.returns-clause-few
returns-clause-few c =
    let fewer = fewer_prefixes c.sets_go_by_members.ensures.rising c.sets_go_by_members.ensures.members (λ hit. is_ask (said_of c.args.cache.now c.args.now hit)) c.args.hits.now in
    omega (arith, fewer, c.requires.few, ap (λ (hits : List Hit). length (prefixes_hit hits)) (returns-clause-asked c))
