use Rattle.std.proofs.Common.{◌≡◌, ◌+◌, ◌-◌, ◌*◌, ◌<◌, ◌^◌, ◌∙◌, ℕ, Bool, map, ap, sym, subst, arith}
use Rattle.std.specs.Prelude.{◌&&◌, filter}
use Rattle.sb_model.specs.Prefixes.{IsRising}
use Rattle.sb_model.specs.Target.{is_within}
use Rattle.list_versions.specs.Stretches.{prefix_in}
use Rattle.delta_server.specs.Sweeping.{has_version, shown_at}
use Rattle.delta_server.proofs.CountFacts.{SetLaws}
use Rattle.delta_server.proofs.ShownFacts.{few_shown}
use Rattle.delta_server.proofs.SweepFacts.{may_take_is, few_shared}
use Rattle.delta_server.proofs.sweeping.Level.may_take.Goals as goal

pub returns-then-is_within : goal.returns-then-is_within
returns-then-is_within c = λ old stretches version is few first shown less level.
    let laws : SetLaws = record { members = c.sets_go_by_members.ensures.members; same = c.sets_go_by_members.ensures.same } in
    let len : ℕ = c.args.self.now.len in
    let shared : ℕ = c.args.self.now.shared in
    let few_len : len < 2 ^ 63 = omega (arith, level.len, less, few_shown stretches version) in
    let few_both : shared < 2 ^ 63 = omega (arith, level.len, few_len, few_shared old (shown_at stretches version) shared level.shared) in
    let count : c.differing.result ≡ c.args.held + len - 2 * shared = c.differing.ensures (omega (arith, is, few)) few_len few_both in
    c.is_within-then-is_within.ensures ∙ ap (λ (t : Bool). t && is_within c.args.max_database len) (sym c.if-is_within.true ∙ c.is_within.ensures)
    ∙ may_take_is laws old (map prefix_in (filter (has_version version) stretches)) c.args.held len shared c.differing.result c.args.max_update c.args.max_database
    (subst IsRising (sym shown) (c.sets_go_by_members.ensures.rising (map prefix_in (filter (has_version first) stretches)))) is level.len level.shared count

pub returns-else-is_within : goal.returns-else-is_within
returns-else-is_within c = λ old stretches version is few first shown less level.
    let laws : SetLaws = record { members = c.sets_go_by_members.ensures.members; same = c.sets_go_by_members.ensures.same } in
    let len : ℕ = c.args.self.now.len in
    let shared : ℕ = c.args.self.now.shared in
    let few_len : len < 2 ^ 63 = omega (arith, level.len, less, few_shown stretches version) in
    let few_both : shared < 2 ^ 63 = omega (arith, level.len, few_len, few_shared old (shown_at stretches version) shared level.shared) in
    let count : c.differing.result ≡ c.args.held + len - 2 * shared = c.differing.ensures (omega (arith, is, few)) few_len few_both in
    c.if-is_within.false ∙ ap (λ (t : Bool). t && is_within c.args.max_database len) (sym c.if-is_within.false ∙ c.is_within.ensures)
    ∙ may_take_is laws old (map prefix_in (filter (has_version version) stretches)) c.args.held len shared c.differing.result c.args.max_update c.args.max_database
    (subst IsRising (sym shown) (c.sets_go_by_members.ensures.rising (map prefix_in (filter (has_version first) stretches)))) is level.len level.shared count
