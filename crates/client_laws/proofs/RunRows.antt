-- The headline of runs in a row.
use Rattle.std.proofs.Common.{◌≡◌, ◌⊎◌, ℕ, List, [], ◌∷◌, Option, Some, None, sym, subst, inl, inr}
use Rattle.std.specs.Prelude.{IfSome}
use Rattle.sb_model.specs.History.{History}
use Rattle.sb_model.specs.Naming.{Naming}
use Rattle.client_laws.specs.Runs.{HoldsOfRuns, StoresBeginRuns, HoldsOfRows}
use Rattle.client_laws.specs.Met.{MeetsHonest}
use Rattle.client_laws.specs.Replicas.{IsKeptSafely}
use Rattle.client_laws.specs.Rows.{RunSeen, AreInRow, HoldsInRow}

module _ (runs_hold : HoldsOfRuns) (begin : StoresBeginRuns) (history : History) (token_at : Naming) where
  -- what a keeper tells, if it tells, is kept safely
  abbrev IsSafe : Option (Option (List ℕ)) → Type 0
  IsSafe known = IfSome known (IsKeptSafely history token_at)

  safe_text : (known : Option (Option (List ℕ))) (kept : Option (List ℕ)) → known ≡ Some kept → IsSafe known → IsKeptSafely history token_at kept
  safe_text known kept is safe = subst IsSafe is safe

  stays_safe : (before after : Option (Option (List ℕ))) → IsSafe before → IfSome after (λ kept. (before ≡ Some kept) ⊎ IsKeptSafely history token_at kept) → IsSafe after
  stays_safe before None safe keeps = tt
  stays_safe before (Some kept) safe (inl same) = safe_text before kept same safe
  stays_safe before (Some kept) safe (inr later) = later

  rows : (known : Option (Option (List ℕ))) (runs : List RunSeen) → IsSafe known → AreInRow known runs → HoldsInRow history token_at runs
  rows known [] safe are = tt
  rows known (run ∷ runs) safe are =
      let headline = runs_hold run.plan run.ending run.before run.after are.1 in
      let first : IsSafe run.before.keeper.kept = subst IsSafe (sym are.0) safe in (
        headline.taken,
        headline.some,
        λ server.
            let honest : MeetsHonest history token_at run.plan headline.taken run.before run.after =
            record { server = server; replicas = begin history token_at server.kept run.plan.names (safe_text run.before.keeper.kept server.kept server.known first) }
            in
            let holds = headline.holds history token_at honest in
            let kept : IsSafe run.after.keeper.kept = stays_safe run.before.keeper.kept run.after.keeper.kept first holds.keeps in
            (record { headline = holds; kept = kept }, rows run.after.keeper.kept runs kept are.2),
      )

pub holds_of_rows : HoldsOfRuns → StoresBeginRuns → HoldsOfRows
holds_of_rows runs_hold begin history token_at kept runs are safe = rows runs_hold begin history token_at (Some kept) runs safe are
