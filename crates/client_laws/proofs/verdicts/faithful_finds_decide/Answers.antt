use Rattle.std.proofs.Common.{[]}
use Rattle.full_hash_cache.specs.Law.{after_steps}
use Rattle.url_checker.specs.Resolving.{hits_asked}
use Rattle.client_laws.proofs.Finds.{kept_are_faithful, hit_is_asked}
use Rattle.client_laws.proofs.verdicts.faithful_finds_decide.Goals as goal

pub returns : goal.returns
returns c history token_at lists states steps waits hits r taken got = record {
  kept = kept_are_faithful history token_at lists steps taken r.now hits;
  got = λ message hit hashes is member full.
      let asked = hit_is_asked c.sets_go_by_members.ensures.members states (hits_asked (after_steps [] steps) r.now hits) hit member in
      got message is hit.list hashes hit.prefix full asked.list_asked asked.prefix_asked;
}
