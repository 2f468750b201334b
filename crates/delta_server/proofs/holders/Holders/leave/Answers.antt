use Rattle.std.proofs.Common.{◌≡◌, ◌+◌, ◌<◌, Bool, true, false, refl, sym, ap, ◌∙◌, arith}
use Rattle.std.specs.Prelude.{if◌then◌else◌}
use Rattle.sb_model.specs.Difference.{has_member}
use Rattle.delta_server.specs.Counts.{holders_of}
use Rattle.delta_server.proofs.Membership.{in_contained}
use Rattle.delta_server.proofs.CountFacts.{SetLaws, left_is, leaves, leaves_len, gains_own, lost, shared_some, has_held}
use Rattle.delta_server.proofs.holders.Holders.leave.Goals as goal
use Rattle.delta_server.proofs.holders.Holders.leave.Goals.{else-left-eq0-via-then-left-eq0+else-contains, else-left-eq0-via-else-left-eq0}

pub returns-then-contains-clause-ok : goal.returns-then-contains-clause-ok
returns-then-contains-clause-ok c = λ fewer more gains counts.
    let laws : SetLaws = record { members = c.sets_go_by_members.ensures.members; same = c.sets_go_by_members.ensures.same } in
    let q = c.args.prefix in
    let now = c.args.self.now in
    let left : c.in_ok-left.left ≡ holders_of q fewer = left_is now.counts.entries q fewer more c.in_ok-left.left gains counts.holders c.in_ok-left.ensures.left in
    let there : has_member now.held.now q ≡ true = has_held now.held.now q true c.if-contains.ensures in
    let some : 0 < now.shared = shared_some now more counts q (in_contained q now.held.now (c.if-contains.ensures.0 refl)) (omega (arith, gains_own fewer more q gains)) laws in
    let less : now.shared ≡ c.saturating_sub-self.result + 1 = omega (arith, c.saturating_sub-self.ensures, some) in
    lost laws now _ q fewer more gains c.len.ensures.rising refl counts
    (leaves now.counts.entries c.remove_holder.new.counts.entries q fewer more c.in_ok-left.left gains counts.holders left c.in_ok-left.ensures.puts)
    (leaves_len laws now.counts.entries c.remove_holder.new.counts.entries q fewer more c.in_ok-left.left gains counts.holders counts.members left c.in_ok-left.ensures.len now.held.now c.len.ensures.rising)
    (record {
      first = λ none. less ∙ sym (ap (λ (t : Bool). c.saturating_sub-self.result + (if t then 1 else 0)) there);
      again = λ some. absurd (omega (arith, left, c.if-left-eq0.true, some));
    })

pub returns-else-left-eq0-clause-ok : goal.returns-else-left-eq0-clause-ok
returns-else-left-eq0-clause-ok c = λ fewer more gains counts.
    let laws : SetLaws = record { members = c.sets_go_by_members.ensures.members; same = c.sets_go_by_members.ensures.same } in
    let q = c.args.prefix in
    let now = c.args.self.now in
    let left : c.in_ok-left.left ≡ holders_of q fewer = left_is now.counts.entries q fewer more c.in_ok-left.left gains counts.holders c.in_ok-left.ensures.left in
    lost laws now _ q fewer more gains c.len.ensures.rising refl counts
    (leaves now.counts.entries c.remove_holder.new.counts.entries q fewer more c.in_ok-left.left gains counts.holders left c.in_ok-left.ensures.puts)
    (leaves_len laws now.counts.entries c.remove_holder.new.counts.entries q fewer more c.in_ok-left.left gains counts.holders counts.members left c.in_ok-left.ensures.len now.held.now c.len.ensures.rising)
    (record {
      first = λ none. elim c.else-left-eq0.branch [
        | else-left-eq0-via-then-left-eq0+else-contains w ↦
            let absent : has_member now.held.now q ≡ false = has_held now.held.now q false w.if-contains.ensures in
            let zero_more : now.shared ≡ now.shared + 0 = omega arith in
            zero_more ∙ sym (ap (λ (t : Bool). now.shared + (if t then 1 else 0)) absent)
        | else-left-eq0-via-else-left-eq0 w ↦ absurd (w.if-left-eq0.false (left ∙ none))
      ];
      again = λ some. refl;
    })
