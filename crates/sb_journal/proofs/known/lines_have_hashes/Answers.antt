use Rattle.std.proofs.Common.{◌≡◌, ℕ, [], get_or, subst, inl, inr, arith}
use Rattle.std.proofs.lemmas.Bool.{cases_lt}
use Rattle.std.proofs.lemmas.List.Elements.{All-from_get_or}
use Rattle.sb_journal.specs.declared.hash_line.HashLine.TheVariants.{Add}
use Rattle.sb_journal.specs.Followed.{HasHash}
use Rattle.sb_journal.proofs.known.lines_have_hashes.Goals as goal

pub loop-line-preserved : goal.loop-line-preserved
loop-line-preserved c = λ k lt. elim (cases_lt k c.loop-line.line-index) [
  | inl before ↦ c.loop-line.invariant k before
  | inr at ↦ (
      let same : c.loop-line.line-index ≡ k = omega (arith, at, lt) in
      subst (λ (n : ℕ). HasHash (get_or c.args.lines.now n (Add (record { hash = []; size = 0 })))) same c.line_has_hash.ensures)
]

pub returns : goal.returns
returns c =
    All-from_get_or HasHash c.args.lines.now (Add (record { hash = []; size = 0 })) (λ k lt. c.loop-line.invariant k (omega (arith, lt, c.loop-line-test.false, c.loop-line.auto.line-index-end)))
