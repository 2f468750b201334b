use Rattle.std.proofs.Common.{◌≡◌, [], List, sym, ap, ◌∙◌, subst}
use Rattle.client_line.specs.Lines.{LineView}
use Rattle.proxy_run.specs.Run.{DrawsFirstWait}
use Rattle.proxy_run.specs.SoFar.{ProxyOutside}
use Rattle.sb_outside.specs.Outside.{appended}
use Rattle.update_client.specs.Held.{Held}
use Rattle.update_run.specs.Opening.{HasLoaded}
use Rattle.proxy_run.proofs.opening.open_proxy.Goals as goal

pub returns-in-Ok-clause-opened : goal.returns-in-Ok-clause-opened
returns-in-Ok-clause-opened g c =
    let before = c.args.world.now in
    let after = c.begin_with.new.world in
    let loaded = c.in_ok-lists.ensures.loaded in
    let begun = c.in-Ok.ensures.begun c.args.plan.now in
    let whole : begun.start.outside ≡ record before { updates = after.updates; looks = record before.looks { output = appended before.looks.output loaded.0; finds = after.looks.finds } } =
    begun.outside ∙ (begun.others ∙ ap (λ (w : ProxyOutside). record w { updates = after.updates; looks = record w.looks { finds = after.looks.finds } }) loaded.2) in (
      begun.start,
      record {
        text = loaded.0;
        loaded = subst (λ (ls : List Held). HasLoaded c.args.plan.now.updates.names before.keeper.kept ls [] loaded.0) (sym begun.lists_are) loaded.1;
        printed = ap (λ (w : ProxyOutside). w.looks.output) whole;
        round = subst (λ (w : ProxyOutside). DrawsFirstWait begun.start.first.client.waits before.updates w.updates) (sym begun.outside)
            (subst (λ (l : LineView). DrawsFirstWait begun.start.first.client.waits l after.updates) (ap (λ (w : ProxyOutside). w.updates) loaded.2) begun.round);
        find = subst (λ (w : ProxyOutside). DrawsFirstWait begun.start.first.desk.waits before.looks.finds w.looks.finds) (sym begun.outside)
            (subst (λ (l : LineView). DrawsFirstWait begun.start.first.desk.waits l after.looks.finds) (ap (λ (w : ProxyOutside). w.looks.finds) loaded.2) begun.find);
        kept = begun.kept;
        line = begun.line ∙ sym (ap (λ (w : ProxyOutside). w.looks.finds) begun.outside);
        keeper = ap (λ (w : ProxyOutside). w.keeper) whole;
        keeper_faults = ap (λ (w : ProxyOutside). w.keeper_faults) whole;
        readings = ap (λ (w : ProxyOutside). w.readings) whole;
        door = ap (λ (w : ProxyOutside). w.looks.door) whole;
        output_faults = ap (λ (w : ProxyOutside). w.looks.output_faults) whole;
        door_faults = ap (λ (w : ProxyOutside). w.looks.door_faults) whole;
      },
      begun.begins,
    )
