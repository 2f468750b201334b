use Rattle.std.proofs.Common.{◌≡◌, [], ◌∷◌, ◌++◌, sym, ap, subst, ◌∙◌, append-nil, arith}
use Rattle.std.proofs.lemmas.List.{nil_from_length}
use Rattle.update_client.specs.Held.{AreHeldLists, nothing_held_of, in_order}
use Rattle.client_store.proofs.Filling.{fill, fill-nothing, fill-empty, fill-last, with_list_is_held}
use Rattle.client_store.proofs.selecting.select.Goals as goal

pub loop-held-init : goal.loop-held-init
loop-held-init c =
    let lists : c.into_lists-lists.result.items ≡ nothing_held_of c.args.names.now = c.into_lists-lists.ensures.value ∙ c.in_ok-new.ensures in
    let stored : c.into_lists-stored.result.items ≡ c.args.store = c.into_lists-stored.ensures.value in
    record {
      filled = ap (λ s. fill s c.into_lists-lists.result.items) stored ∙ ap (fill c.args.store) lists ∙ fill-empty c.args.store (in_order c.args.names.now);
      kept = record { few = omega (arith, c.into_lists-lists.ensures.few); rising = c.into_lists-lists.ensures.rising };
    }

pub loop-held-preserved : goal.loop-held-preserved
loop-held-preserved c =
    let so_far = c.loop-held.invariant in
    let split : c.loop-held.stored.items ≡ c.pop.new.self.items ++ c.in-Some.held ∷ [] = c.in-Some.ensures.items in
    record {
      filled =
          ap (fill c.pop.new.self.items) c.put.ensures
          ∙ sym (fill-last c.pop.new.self.items c.in-Some.held c.loop-held.lists.items)
          ∙ ap (λ s. fill s c.loop-held.lists.items) (sym split)
          ∙ so_far.filled;
      kept = subst AreHeldLists (sym c.put.ensures) (with_list_is_held c.in-Some.held c.loop-held.lists.items so_far.kept);
    }

pub returns : goal.returns
returns c =
    let none : c.pop.new.self.items ≡ [] = nil_from_length c.pop.new.self.items (omega (arith, c.in_default.ensures.cases)) in
    let emptied : c.loop-held.stored.items ≡ [] = c.in_default.ensures.items ∙ append-nil c.pop.new.self.items ∙ none in
    c.from_lists.ensures
    ∙ sym (fill-nothing c.loop-held.lists.items)
    ∙ ap (λ s. fill s c.loop-held.lists.items) (sym emptied)
    ∙ c.loop-held.invariant.filled
