use Rattle.std.proofs.Common.{◌≡◌, ◌+◌, ◌≤◌, Bool, true, false, refl, sym, ap, ◌∙◌, arith}
use Rattle.std.specs.Prelude.{if◌then◌else◌}
use Rattle.sb_model.specs.Difference.{has_member}
use Rattle.delta_server.specs.Counts.{holders_of}
use Rattle.delta_server.proofs.CountFacts.{SetLaws, enters, enters_len, count_is, gained, shared_room, has_held}
use Rattle.delta_server.proofs.holders.Holders.enter.Goals as goal
use Rattle.delta_server.proofs.holders.Holders.enter.Goals.{else-before-eq0-via-then-before-eq0+else-contains, else-before-eq0-via-else-before-eq0}

pub returns-then-contains-clause-ok : goal.returns-then-contains-clause-ok
returns-then-contains-clause-ok c = λ fewer more gains few counts.
    let laws : SetLaws = record { members = c.sets_go_by_members.ensures.members; same = c.sets_go_by_members.ensures.same } in
    let q = c.args.prefix in
    let now = c.args.self.now in
    let before : c.in_ok-before.before ≡ holders_of q fewer = count_is now.counts.entries q fewer c.in_ok-before.before counts.holders c.in_ok-before.ensures.before in
    let there : has_member now.held.now q ≡ true = has_held now.held.now q true c.if-contains.ensures in
    let room : now.shared ≤ 1048576 = shared_room now fewer counts 1048576 c.len.ensures.count in
    let more_one : c.saturating_add-self.result ≡ now.shared + 1 = omega (arith, c.saturating_add-self.ensures, room) in
    gained laws now _ q fewer more gains c.len.ensures.rising refl counts
    (enters laws now.counts.entries c.add_holder.new.counts.entries q fewer more c.in_ok-before.before _ gains few counts.holders c.in_ok-before.ensures.before refl c.in_ok-before.ensures.puts)
    (enters_len laws now.counts.entries c.add_holder.new.counts.entries q fewer more gains counts.holders counts.members c.in_ok-before.ensures.len now.held.now c.len.ensures.rising)
    (record {
      first = λ none. more_one ∙ sym (ap (λ (t : Bool). now.shared + (if t then 1 else 0)) there);
      again = λ some. absurd (omega (arith, before, c.if-before-eq0.true, some));
    })

pub returns-else-before-eq0-clause-ok : goal.returns-else-before-eq0-clause-ok
returns-else-before-eq0-clause-ok c = λ fewer more gains few counts.
    let laws : SetLaws = record { members = c.sets_go_by_members.ensures.members; same = c.sets_go_by_members.ensures.same } in
    let q = c.args.prefix in
    let now = c.args.self.now in
    let before : c.in_ok-before.before ≡ holders_of q fewer = count_is now.counts.entries q fewer c.in_ok-before.before counts.holders c.in_ok-before.ensures.before in
    gained laws now _ q fewer more gains c.len.ensures.rising refl counts
    (enters laws now.counts.entries c.add_holder.new.counts.entries q fewer more c.in_ok-before.before _ gains few counts.holders c.in_ok-before.ensures.before refl c.in_ok-before.ensures.puts)
    (enters_len laws now.counts.entries c.add_holder.new.counts.entries q fewer more gains counts.holders counts.members c.in_ok-before.ensures.len now.held.now c.len.ensures.rising)
    (record {
      first = λ none. elim c.else-before-eq0.branch [
        | else-before-eq0-via-then-before-eq0+else-contains w ↦
            let absent : has_member now.held.now q ≡ false = has_held now.held.now q false w.if-contains.ensures in
            let zero_more : now.shared ≡ now.shared + 0 = omega arith in
            zero_more ∙ sym (ap (λ (t : Bool). now.shared + (if t then 1 else 0)) absent)
        | else-before-eq0-via-else-before-eq0 w ↦ absurd (w.if-before-eq0.false (before ∙ none))
      ];
      again = λ some. refl;
    })
