use Rattle.std.proofs.Common.{◌≡◌, List, ℕ, length, ap, sym, ◌∙◌, arith}
use Rattle.delta_server.proofs.SetCounts.{kept, kept_whole}
use Rattle.delta_server.proofs.holders.Holders.beside.Goals as goal

pub returns-clause-counts : goal.returns-clause-counts
returns-clause-counts c = λ entries own counts.
    let held = c.args.held.now in
    let count : c.from.result ≡ length held = omega (arith, c.from.ensures, c.len.ensures.value) in
    let whole : c.from.result ≡ kept held held = count ∙ sym (kept_whole held) in
    record {
      holders = counts.holders;
      members = counts.members;
      stay = whole ∙ ap (λ (s : List (List ℕ)). kept s held) own;
      known = whole ∙ ap (λ (s : List (List ℕ)). kept held s) own;
    }
