use Rattle.std.proofs.Common.{List, Contains, subst, sym}
use Rattle.url_checker.specs.Several.{all_asked}
use Rattle.url_checker.specs.declared.findings.Hit.{Hit}
use Rattle.url_checker.specs.declared.looking.Looks.{Looks}
use Rattle.client_laws.proofs.Finds.{kept_are_faithful, hit_is_asked}
use Rattle.client_laws.proofs.Members.{in_flat_map}
use Rattle.client_laws.proofs.shared.faithful_finds_decide_each_look.Goals as goal

pub returns : goal.returns
returns c history token_at lists states steps now answer hits looks look member is taken got = record {
  kept = kept_are_faithful history token_at lists steps taken now hits;
  got = λ message hit hashes says open_one full.
      let own = subst (λ (asked : List Hit). Contains asked hit) (sym is.asked) open_one in
      let asked = hit_is_asked c.sets_go_by_members.ensures.members states (all_asked looks) hit (in_flat_map (λ (one : Looks). one.asked) looks look hit member own) in
      got message says hit.list hashes hit.prefix full asked.list_asked asked.prefix_asked;
}
