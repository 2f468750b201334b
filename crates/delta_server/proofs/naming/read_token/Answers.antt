use Rattle.std.proofs.Common.{◌≤◌, ℕ, ◌∙◌, sym, ap, subst}
use Rattle.delta_server.specs.Tokens.{server_token}
use Rattle.delta_server.proofs.naming.read_token.Goals as goal

pub returns : goal.returns
returns c list version =
    let epoch = c.epoch.ensures in
    let count = c.len.ensures.count in
    let known = c.read_state.ensures list version in (
      λ is. let named = known.0 is in
          (named.0 ∙ ap (λ (number : ℕ). server_token number list version) epoch, subst (λ (most : ℕ). version ≤ most) count named.1),
      λ named. known.1 (named.0 ∙ sym (ap (λ (number : ℕ). server_token number list version) epoch), subst (λ (most : ℕ). version ≤ most) (sym count) named.1),
    )
