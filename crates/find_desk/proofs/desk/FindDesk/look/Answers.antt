use Rattle.std.proofs.Common.{sym, subst}
use Rattle.find_desk.specs.Desk.{DeskSeen, HasKeptDesk}
use Rattle.find_desk.specs.Events.{Forgot}
use Rattle.std.specs.Prelude.{[], ◌∷◌, ◌++◌}
use Rattle.find_desk.proofs.Decided.{look_is_last}
use Rattle.find_desk.proofs.Keeping.{has_forgotten, has_looked}
use Rattle.find_desk.proofs.desk.FindDesk.look.Goals as goal

pub returns-in-Ok-clause-looked : goal.returns-in-Ok-clause-looked
returns-in-Ok-clause-looked c target need start events line has =
    let now : DeskSeen = record { kept = c.self.inside.finds.cache; waits = c.self.inside.finds.waits; opened = c.self.inside.opened } in
    let inside : HasKeptDesk target need start events now line = subst (λ (s : DeskSeen). HasKeptDesk target need start events s line) (sym c.self.view_is) has in (
      has_looked target need start events now line c.args.now c.args.hits.now c.look.new.cache c.requires inside c.in-Ok.ensures.pairs,
      look_is_last target need start events now line c.args.now c.args.hits.now c.in-Ok.looks inside (record { looked = c.in-Ok.ensures.looked; asked = c.in-Ok.ensures.asked }),
    )

pub returns-in-Err-clause-forgot : goal.returns-in-Err-clause-forgot
returns-in-Err-clause-forgot c target need start events line has =
    let now : DeskSeen = record { kept = c.self.inside.finds.cache; waits = c.self.inside.finds.waits; opened = c.self.inside.opened } in
    let inside : HasKeptDesk target need start events now line = subst (λ (s : DeskSeen). HasKeptDesk target need start events s line) (sym c.self.view_is) has in
    subst (λ (s : DeskSeen). HasKeptDesk target need start (events ++ Forgot ∷ []) s line) (sym c.forget.ensures) (has_forgotten target need start events now line inside)
