use Rattle.std.proofs.Common.{◌≡◌, ℕ, ◌<◌, ◌^◌, sym, subst, ◌∙◌, arith}
use borrow.Author.Tests.{both_ways}
use Rattle.sb_model.specs.declared.names.ListName.{ListName}
use Rattle.sb_model.specs.History.{version_count}
use Rattle.delta_server.specs.Tokens.{server_token}
use Rattle.delta_server.proofs.TokenFacts.{names_one, names_none, none_some, answered}
use Rattle.delta_server.proofs.tokens.held_version.Goals as goal

pub returns-clause-named : goal.returns-clause-named
returns-clause-named c = λ history epoch count.
    let fits : version_count history < 2 ^ 64 = omega (arith, count, c.ranges.len.fits) in
    let list : ListName = c.args.list in
    let version : ℕ = c.in-Some.version in
    let token = (c.read_state.ensures c.in-Some.named version).0 c.in-Some.is in
    let same : c.in-Some.named ≡ list = c.is_same.ensures.0 c.if-not-is_same.false in
    let own : c.args.state.now ≡ server_token c.args.epoch list version = subst (λ (l : ListName). c.args.state.now ≡ server_token c.args.epoch l version) same token.0 in
    sym (names_one history list c.args.state.now fits version (omega (arith, token.1, count)) (subst (λ (e : ℕ). c.args.state.now ≡ server_token e list version) (sym epoch) own))

pub returns-in_default-clause-named : goal.returns-in_default-clause-named
returns-in_default-clause-named c = λ history epoch count.
    let fits : version_count history < 2 ^ 64 = omega (arith, count, c.ranges.len.fits) in
    sym (names_none history c.args.list c.args.state.now fits (λ v within is.
    none_some c.read_state.result (c.args.list, v) c.in_default.is
    ((c.read_state.ensures c.args.list v).1 (subst (λ (e : ℕ). c.args.state.now ≡ server_token e c.args.list v) epoch is, omega (arith, within, count)))))

pub returns-then-not-is_same-clause-named : goal.returns-then-not-is_same-clause-named
returns-then-not-is_same-clause-named c = λ history epoch count.
    let fits : version_count history < 2 ^ 64 = omega (arith, count, c.ranges.len.fits) in
    sym (names_none history c.args.list c.args.state.now fits (λ v within is.
    let found = (c.read_state.ensures c.args.list v).1 (subst (λ (e : ℕ). c.args.state.now ≡ server_token e c.args.list v) epoch is, omega (arith, within, count)) in
    let parts = answered c.in-Some.named c.args.list c.in-Some.version v (sym c.in-Some.is ∙ found) in
    both_ways c.is_same.result c.if-not-is_same.true (c.is_same.ensures.1 parts.0)))

pub returns-clause-within : goal.returns-clause-within
returns-clause-within c = ((c.read_state.ensures c.in-Some.named c.in-Some.version).0 c.in-Some.is).1
