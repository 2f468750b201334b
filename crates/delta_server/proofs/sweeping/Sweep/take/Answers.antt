use Rattle.std.proofs.Common.{◌≡◌, ℕ, ◌+◌, ◌-◌, ◌<◌, ◌≤◌, ◌∙◌, ◌∷◌, ◌++◌, [], length, true, false, ap, sym, arith}
use Rattle.std.specs.Prelude.{◌&&◌, nat_le, nat_lt, All}
use Rattle.list_versions.specs.Stretches.{ComesBefore}
use Rattle.delta_server.specs.Sweeping.{is_head_shown, shows_first}
use Rattle.delta_server.proofs.CountFacts.{SetLaws}
use Rattle.delta_server.proofs.ShownFacts.{all_of, order_before}
use Rattle.delta_server.proofs.SweepFacts.{all_told, shared_marked, shared_left}
use Rattle.delta_server.proofs.sweeping.Sweep.take.Goals as goal

pub returns-then-self-clause-swept : goal.returns-then-self-clause-swept
returns-then-self-clause-swept c = λ done rest some few order heads swept.
    let laws : SetLaws = record { members = c.sets_go_by_members.ensures.members; same = c.sets_go_by_members.ensures.same } in
    let first : ℕ = c.args.first in
    let end : ℕ = c.args.end in
    let begin : ℕ = c.next-self.result.begin in
    let reach : ℕ = c.next-self.result.reach in
    let before : All (λ earlier. ComesBefore earlier c.args.stretch.now) done = all_of _ done (order_before done c.args.stretch.now rest order) in
    let high : first ≤ reach = omega arith in
    let anew : (version : ℕ) → first ≤ version → version < end → (nat_le begin version && nat_lt version reach) ≡ shows_first done c.args.stretch.now version =
    λ version low less. c.next-self.ensures.anew done version low less swept.covered before in
    let covers = c.next-self.ensures.covers done some swept.covered before in
    let own : true ≡ is_head_shown (done ++ c.args.stretch.now ∷ []) c.args.stretch.now.head first =
    sym c.if-self.true ∙ covers.held ∙ ap (λ (head : ℕ). is_head_shown (done ++ c.args.stretch.now ∷ []) head first) c.next-self.ensures.head in
    record {
      covered = covers;
      all = all_told laws done c.args.stretch.now rest order heads first end begin reach c.next-self.ensures.begins high anew
          c.mark.new.self (c.mark.ensures.places (end - first + 1) c.requires.room.all).begins (c.mark.ensures.tells (length done) _ few swept.all);
      shared = shared_marked laws done c.args.stretch.now rest order heads first end begin reach c.next-self.ensures.begins high anew
          c.mark-then-self.new.self (c.mark-then-self.ensures.places (end - first + 1) c.requires.room.shared).begins own (c.mark-then-self.ensures.tells (length done) _ few swept.shared);
    }

pub returns-else-self-clause-swept : goal.returns-else-self-clause-swept
returns-else-self-clause-swept c = λ done rest some few order heads swept.
    let laws : SetLaws = record { members = c.sets_go_by_members.ensures.members; same = c.sets_go_by_members.ensures.same } in
    let first : ℕ = c.args.first in
    let end : ℕ = c.args.end in
    let begin : ℕ = c.next-self.result.begin in
    let reach : ℕ = c.next-self.result.reach in
    let before : All (λ earlier. ComesBefore earlier c.args.stretch.now) done = all_of _ done (order_before done c.args.stretch.now rest order) in
    let high : first ≤ reach = omega arith in
    let anew : (version : ℕ) → first ≤ version → version < end → (nat_le begin version && nat_lt version reach) ≡ shows_first done c.args.stretch.now version =
    λ version low less. c.next-self.ensures.anew done version low less swept.covered before in
    let covers = c.next-self.ensures.covers done some swept.covered before in
    let own : false ≡ is_head_shown (done ++ c.args.stretch.now ∷ []) c.args.stretch.now.head first =
    sym c.if-self.false ∙ covers.held ∙ ap (λ (head : ℕ). is_head_shown (done ++ c.args.stretch.now ∷ []) head first) c.next-self.ensures.head in
    record {
      covered = covers;
      all = all_told laws done c.args.stretch.now rest order heads first end begin reach c.next-self.ensures.begins high anew
          c.mark.new.self (c.mark.ensures.places (end - first + 1) c.requires.room.all).begins (c.mark.ensures.tells (length done) _ few swept.all);
      shared = shared_left laws done c.args.stretch.now rest order heads first end begin reach c.next-self.ensures.begins high anew
          c.args.self.now.shared c.requires.room.shared.begins own swept.shared;
    }
