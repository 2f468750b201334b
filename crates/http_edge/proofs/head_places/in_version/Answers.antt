use Rattle.std.proofs.Common.{ℕ, ◌∷◌, [], ◌++◌, subst, sym, inl, inr, arith}
use Rattle.http_edge.specs.Places.{HasVersion}
use Rattle.http_edge.proofs.PlaceFacts.{version_digit}
use Rattle.http_edge.proofs.head_places.in_version.Goals as goal

pub returns-then-byte-eq49 : goal.returns-then-byte-eq49
returns-then-byte-eq49 c = λ before at.
    elim c.if-byte-eq49.either [
      | inl is ↦ subst (λ (b : ℕ). HasVersion (before ++ b ∷ [])) (sym is) (version_digit c.args.known 0 before c.if-known-2.true (omega arith) at)
      | inr is ↦ subst (λ (b : ℕ). HasVersion (before ++ b ∷ [])) (sym is.1) (version_digit c.args.known 1 before c.if-known-2.true (omega arith) at)
    ]
