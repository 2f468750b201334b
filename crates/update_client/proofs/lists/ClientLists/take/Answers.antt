use Rattle.std.proofs.Common.{◌≡◌, List, ◌++◌, length, map, take, drop, sym, ◌∙◌, ap, subst, arith}
use Rattle.std.specs.Prelude.{All}
use Rattle.std.proofs.lemmas.List.{take_at}
use Rattle.update_messages.specs.Messages.{UpdatedList}
use Rattle.update_client.specs.declared.fault.ListResult.{ListResult}
use Rattle.update_client.specs.declared.pending.Change.{Change}
use Rattle.update_client.specs.Held.{Held}
use Rattle.update_client.specs.Step.{after_updates, results_of}
use Rattle.update_client.specs.Applying.{no_change, all_changed}
use Rattle.update_client.proofs.Births.{renamed}
use Rattle.update_client.proofs.NoMemory.{IsTold, IsTold-each}
use Rattle.update_client.proofs.Places.{changed_nothing, names-after_updates}
use Rattle.update_client.proofs.lists.ClientLists.take.Goals as goal

-- the lists before anything is taken
started : (old own again : List Held) (changes first : List Change) → own ≡ old → again ≡ old → changes ≡ map no_change own → first ≡ changes → all_changed again first ≡ old
started old own again changes first one two made same =
    ap (λ lists. all_changed lists first) two
    ∙ ap (all_changed old) (same ∙ made ∙ ap (map no_change) one)
    ∙ changed_nothing old

-- the lists once their changes are put in place
ended : (old again new : List Held) (changes kept : List Change) (updates : List UpdatedList) → again ≡ old → new ≡ all_changed old kept → kept ≡ changes
    → all_changed again changes ≡ after_updates old updates → new ≡ after_updates old updates
ended old again new changes kept updates two put same taken =
    put
    ∙ ap (all_changed old) same
    ∙ sym (ap (λ lists. all_changed lists changes) two)
    ∙ taken

pub returns-clause-lists : goal.returns-clause-lists
returns-clause-lists c =
    let own : c.deref.result.now ≡ c.args.self.now = c.deref.ensures.value ∙ c.self.view_is in
    let again : c.deref-2.result.now ≡ c.args.self.now = c.deref-2.ensures.value ∙ c.self.view_is in
    let start : all_changed c.deref-2.result.now c.deref_mut.result.now ≡ c.args.self.now
    = started c.args.self.now c.deref.result.now c.deref-2.result.now c.in_ok-changes.changes.items c.deref_mut.result.now own again c.in_ok-changes.ensures c.deref_mut.ensures.value in
    let count : length c.apply_updates.new.changes ≡ c.in_ok-changes.changes.len = omega (arith, ap length c.deref_mut.ensures.value) in
    let put : List Change = take c.in_ok-changes.changes.len (c.apply_updates.new.changes ++ drop (length c.apply_updates.new.changes) c.in_ok-changes.changes.items) in
    let kept : put ≡ c.apply_updates.new.changes
    = take_at c.apply_updates.new.changes (drop (length c.apply_updates.new.changes) c.in_ok-changes.changes.items) c.in_ok-changes.changes.len count in
    let taken : all_changed c.deref-2.result.now c.apply_updates.new.changes ≡ after_updates c.args.self.now c.args.response.now.items
    = c.in_ok-results.ensures.lists ∙ ap (λ lists. after_updates lists c.as_slice.result.now) start ∙ ap (after_updates c.args.self.now) c.as_slice.ensures in
    ended c.args.self.now c.deref-2.result.now c.put_changes.new.lists.items c.apply_updates.new.changes put c.args.response.now.items again
    (c.put_changes.ensures ∙ ap (λ lists. all_changed lists put) c.self.view_is) kept taken

pub returns-clause-results : goal.returns-clause-results
returns-clause-results c =
    let own : c.deref.result.now ≡ c.args.self.now = c.deref.ensures.value ∙ c.self.view_is in
    let again : c.deref-2.result.now ≡ c.args.self.now = c.deref-2.ensures.value ∙ c.self.view_is in
    let start : all_changed c.deref-2.result.now c.deref_mut.result.now ≡ c.args.self.now
    = started c.args.self.now c.deref.result.now c.deref-2.result.now c.in_ok-changes.changes.items c.deref_mut.result.now own again c.in_ok-changes.ensures c.deref_mut.ensures.value in
    c.in_ok-results.ensures.results ∙ ap (λ lists. results_of lists c.as_slice.result.now) start ∙ ap (results_of c.args.self.now) c.as_slice.ensures

pub returns-clause-no_memory : goal.returns-clause-no_memory
returns-clause-no_memory c =
    let AllTold : List ListResult → Type 0 = λ results. All IsTold results in
    subst AllTold (sym (returns-clause-results c)) (IsTold-each c.decoding_goes_by_the_record.ensures.no_memory c.args.self.now c.args.response.now.items)

pub invariant_of-self : goal.invariant_of-self
invariant_of-self c =
    let names = map (λ (held : Held). held.name) in
    renamed c.self.inside.lists.items c.put_changes.new.lists.items
    (ap names (returns-clause-lists c) ∙ names-after_updates c.args.self.now c.args.response.now.items ∙ sym (ap names c.self.view_is)) c.self.invariant
