use Rattle.std.proofs.Common.{◌≡◌, Bool, true, false, List, ap, sym, subst, ◌∙◌}
use Rattle.std.specs.Prelude.{fold, if◌then◌else◌}
use Rattle.sb_model.specs.declared.history.Added.{Added}
use Rattle.sb_model.specs.Names.{same_name}
use Rattle.sb_model.specs.History.{after_change, without_hash, with_added}
use Rattle.delta_server.specs.Version.{Stands}
use Rattle.delta_server.proofs.version.Version.change.Goals as goal

pub returns-in_ok-add_each-clause-ok : goal.returns-in_ok-add_each-clause-ok
returns-in_ok-add_each-clause-ok c = λ entries stands.
    let change = c.args.change.now in
    let own : same_name change.list c.args.list ≡ true = sym c.concerns.ensures ∙ c.if-concerns.true in
    let is : fold with_added (fold without_hash entries change.removes) change.adds ≡ after_change c.args.list entries change =
    sym (ap (λ (t : Bool). if t then fold with_added (fold without_hash entries change.removes) change.adds else entries) own) in
    let removed = subst (λ (hashes : List (List _)). Stands c.remove_each.new.self (fold without_hash entries hashes)) c.as_slice.ensures (c.in_ok-remove_each.ensures.ok entries stands) in
    let added = subst (λ (adds : List Added). Stands c.add_each.new.self (fold with_added (fold without_hash entries change.removes) adds)) c.as_slice-then-concerns.ensures
    (c.in_ok-add_each.ensures.ok (fold without_hash entries change.removes) removed) in
    subst (Stands c.add_each.new.self) is added

pub returns-else-concerns-clause-ok : goal.returns-else-concerns-clause-ok
returns-else-concerns-clause-ok c = λ entries stands.
    let change = c.args.change.now in
    let other : same_name change.list c.args.list ≡ false = sym c.concerns.ensures ∙ c.if-concerns.false in
    let is : entries ≡ after_change c.args.list entries change =
    sym (ap (λ (t : Bool). if t then fold with_added (fold without_hash entries change.removes) change.adds else entries) other) in
    subst (Stands c.args.self.now) is stands
