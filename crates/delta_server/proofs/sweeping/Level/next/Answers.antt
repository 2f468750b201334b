use Rattle.std.proofs.Common.{◌+◌, ◌<◌, ◌^◌, ℕ, length, arith}
use Rattle.delta_server.specs.Sweeping.{shown_at}
use Rattle.delta_server.proofs.MarkFacts.{next_level}
use Rattle.delta_server.proofs.SetCounts.{kept}
use Rattle.delta_server.proofs.ShownFacts.{few_kept, few_shown}
use Rattle.sb_model.specs.Difference.{has_member}
use Rattle.delta_server.proofs.sweeping.Level.next.Goals as goal

pub returns-clause-stands : goal.returns-clause-stands
returns-clause-stands c = λ held stretches swept few level.
    let first : ℕ = c.args.first in
    let shown : ℕ → ℕ = λ place. length (shown_at stretches (first + place)) in
    let both : ℕ → ℕ = λ place. kept held (shown_at stretches (first + place)) in
    let all_within : c.args.place + 1 < length c.args.sweep.now.all.begins.items = omega (arith, c.requires.room.all.begins) in
    let within : c.args.place + 1 < length c.args.sweep.now.shared.begins.items = omega (arith, c.requires.room.shared.begins) in
    let few_all : shown c.args.place < 2 ^ 63 = omega (arith, few, few_shown stretches (first + c.args.place)) in
    let few_both : both c.args.place < 2 ^ 63 = omega (arith, few, few_shown stretches (first + c.args.place), few_kept (has_member held) (shown_at stretches (first + c.args.place))) in
    record {
      len = next_level c.args.sweep.now.all c.args.place c.level.result (length stretches) shown all_within swept.all
          (c.level.ensures (length stretches) shown few few_all all_within swept.all level.len);
      shared = next_level c.args.sweep.now.shared c.args.place c.level-2.result (length stretches) both within swept.shared
          (c.level-2.ensures (length stretches) both few few_both within swept.shared level.shared);
    }

pub returns-clause-counts : goal.returns-clause-counts
returns-clause-counts c = λ held stretches swept few level.
    let first : ℕ = c.args.first in
    let shown : ℕ → ℕ = λ place. length (shown_at stretches (first + place)) in
    let both : ℕ → ℕ = λ place. kept held (shown_at stretches (first + place)) in
    let all_within : c.args.place + 1 < length c.args.sweep.now.all.begins.items = omega (arith, c.requires.room.all.begins) in
    let within : c.args.place + 1 < length c.args.sweep.now.shared.begins.items = omega (arith, c.requires.room.shared.begins) in
    let few_all : shown c.args.place < 2 ^ 63 = omega (arith, few, few_shown stretches (first + c.args.place)) in
    let few_both : both c.args.place < 2 ^ 63 = omega (arith, few, few_shown stretches (first + c.args.place), few_kept (has_member held) (shown_at stretches (first + c.args.place))) in
    record {
      len = c.level.ensures (length stretches) shown few few_all all_within swept.all level.len;
      shared = c.level-2.ensures (length stretches) both few few_both within swept.shared level.shared;
    }
