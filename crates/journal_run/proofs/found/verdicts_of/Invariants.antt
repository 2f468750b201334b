use Rattle.std.proofs.Common.{◌≡◌, ◌+◌, ◌≤◌, ◌++◌, length}
use Rattle.std.specs.Prelude.{◌||◌}
use Rattle.std.specs.List.{enumerate_from, flat_map, list_any}
use Rattle.std.specs.Str.Lines.{lines}
use Rattle.url_canon.specs.Canonical.{canonical_of}
use Rattle.journal_run.specs.Found.{is_hit, is_url_refused, line_verdict, verdicts}
use Rattle.journal_run.proofs.found.verdicts_of.Given as goal

-- what the lines so far came to, and what those that are left come to, is what all lines come to
abbrev pub invariant-loop-rest : goal.invariant-loop-rest
invariant-loop-rest l = record {
  page : l.verdicts.page ++ flat_map (line_verdict l.history.versions l.list) (enumerate_from l.number (lines l.rest))
      ≡ verdicts l.history.versions l.list l.input;
  listed : (l.verdicts.has_listed || list_any (λ url. is_hit l.history.versions l.list (canonical_of url)) (lines l.rest))
      ≡ list_any (λ url. is_hit l.history.versions l.list (canonical_of url)) (lines l.input);
  refused : (l.verdicts.has_refused || list_any (λ url. is_url_refused (canonical_of url)) (lines l.rest))
      ≡ list_any (λ url. is_url_refused (canonical_of url)) (lines l.input);
  count : l.number + length l.rest ≤ length l.input + 1;
}

abbrev pub decreases-loop-rest : goal.decreases-loop-rest
decreases-loop-rest l = length l.rest
