use Rattle.prefix_set.proofs.SetFacts.{rising-set_of, members-set_of, rising_unique, set_unique}
use Rattle.prefix_set.proofs.laws.sets_go_by_members.Goals as goal

pub returns : goal.returns
returns c = record {
  rising = rising-set_of;
  members = members-set_of;
  only = λ xs ys up_x up_y same. rising_unique xs ys up_x up_y (λ z. (same z).0) (λ z. (same z).1);
  same = set_unique;
}
