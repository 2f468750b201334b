use Rattle.std.proofs.Common.{◌≡◌, ℕ, ◌<◌, ◌≤◌, ◌^◌, sym, subst, ◌∙◌, arith}
use borrow.Author.Tests.{both_ways}
use Rattle.sb_model.specs.declared.names.ListName.{ListName}
use Rattle.delta_server.specs.Tokens.{server_token}
use Rattle.delta_server.proofs.TokenFacts.{token_len, tail_codes, version_in_token, some_is, same_answer, answered}
use Rattle.delta_server.proofs.tokens.read_state.Goals as goal
use Rattle.delta_server.proofs.tokens.read_state.Goals.{then-version-len-via-then-version-len, then-version-len-via-else-version-len+then-not-is_token}

pub returns-then-state-ne-TOKEN_LEN : goal.returns-then-state-ne-TOKEN_LEN
returns-then-state-ne-TOKEN_LEN c = λ list version. (
  λ none. absurd (cc),
  λ h. absurd (c.if-state-ne-TOKEN_LEN.true (token_len c.args.epoch list version c.args.state.now h.0)),
)

pub returns-in_default : goal.returns-in_default
returns-in_default c = λ list version. (
  λ none. absurd (cc),
  λ h. absurd (c.in_default.not-Some list (c.list_of.ensures list (tail_codes c.args.epoch list version c.args.state.now h.0))),
)

pub returns-then-version-len : goal.returns-then-version-len
returns-then-version-len c = λ list version. (
  λ none. absurd (cc),
  λ h.
      let same : c.in-Some.list ≡ list = some_is c.in-Some.list list (sym c.in-Some.is ∙ c.list_of.ensures list (tail_codes c.args.epoch list version c.args.state.now h.0)) in
      let fits : version < 2 ^ 64 = omega (arith, c.ranges.len.fits, h.1) in
      let number : c.number_of-version.result ≡ version = c.number_of-version.ensures ∙ version_in_token c.args.epoch list version c.args.state.now fits h.0 in
      elim c.then-version-len.branch [
        | then-version-len-via-then-version-len w ↦ absurd (omega (arith, w.if-version-len.true, number, h.1))
        | then-version-len-via-else-version-len+then-not-is_token w ↦
            let token : c.args.state.now ≡ server_token c.args.epoch c.in-Some.list c.number_of-version.result =
            subst (λ (l : ListName). c.args.state.now ≡ server_token c.args.epoch l c.number_of-version.result) (sym same)
            (subst (λ (v : ℕ). c.args.state.now ≡ server_token c.args.epoch list v) (sym number) h.0) in
            absurd (both_ways w.is_token.result w.if-not-is_token.true (w.is_token.ensures.1 token))
      ],
)

pub returns : goal.returns
returns c = λ list version. (
  λ is.
      let parts = answered c.in-Some.list list c.number_of-version.result version is in
      let token = c.is_token.ensures.0 c.if-not-is_token.false in (
        subst (λ (l : ListName). c.args.state.now ≡ server_token c.args.epoch l version) parts.0
            (subst (λ (v : ℕ). c.args.state.now ≡ server_token c.args.epoch c.in-Some.list v) parts.1 token),
        subst (λ (v : ℕ). v ≤ c.args.len) parts.1 c.if-version-len.false,
      ),
  λ h.
      let same : c.in-Some.list ≡ list = some_is c.in-Some.list list (sym c.in-Some.is ∙ c.list_of.ensures list (tail_codes c.args.epoch list version c.args.state.now h.0)) in
      let fits : version < 2 ^ 64 = omega (arith, c.ranges.len.fits, h.1) in
      let number : c.number_of-version.result ≡ version = c.number_of-version.ensures ∙ version_in_token c.args.epoch list version c.args.state.now fits h.0 in
      same_answer c.in-Some.list list c.number_of-version.result version same number,
)
