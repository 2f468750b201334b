use Rattle.std.proofs.Common.{◌≡◌, [], List, sym, ap, ◌∙◌, subst}
use Rattle.client_line.specs.Lines.{LineView}
use Rattle.mirror_run.specs.Run.{BeginsWaiting, DrawsMirrorEpoch}
use Rattle.mirror_run.specs.SoFar.{MirrorOutside}
use Rattle.sb_outside.specs.Outside.{appended}
use Rattle.update_client.specs.Held.{Held}
use Rattle.update_run.specs.Opening.{HasLoaded}
use Rattle.mirror_run.proofs.opening.open_mirror.Goals as goal

pub returns-in-Ok-clause-opened : goal.returns-in-Ok-clause-opened
returns-in-Ok-clause-opened g c =
    let before = c.args.world.now in
    let after = c.begin_with.new.world in
    let loaded = c.in_ok-lists.ensures.loaded in
    let begun = c.in-Ok.ensures.begun in
    let whole : begun.start.outside ≡ record before { output = appended before.output loaded.0; updates = after.updates; finds = after.finds } =
    begun.outside ∙ (begun.others ∙ ap (λ (w : MirrorOutside). record w { updates = after.updates; finds = after.finds }) loaded.2) in (
      begun.start,
      record {
        text = loaded.0;
        loaded = subst (λ (ls : List Held). HasLoaded c.args.plan.now.updates.names before.keeper.kept ls [] loaded.0) (sym begun.lists_are) loaded.1;
        printed = ap (λ (w : MirrorOutside). w.output) whole;
        between = begun.between;
        epoch = subst (λ (l : LineView). DrawsMirrorEpoch begun.start.first.epoch l begun.between) (ap (λ (w : MirrorOutside). w.updates) loaded.2) begun.epoch;
        round = subst (λ (w : MirrorOutside). BeginsWaiting begun.start.first.client.waits begun.between w.updates) (sym begun.outside) begun.round;
        find = subst (λ (w : MirrorOutside). BeginsWaiting begun.start.first.finds before.finds w.finds) (sym begun.outside)
            (subst (λ (l : LineView). BeginsWaiting begun.start.first.finds l after.finds) (ap (λ (w : MirrorOutside). w.finds) loaded.2) begun.find);
        keeper = ap (λ (w : MirrorOutside). w.keeper) whole;
        readings = ap (λ (w : MirrorOutside). w.readings) whole;
        door = ap (λ (w : MirrorOutside). w.door) whole;
        faults = ap (λ (w : MirrorOutside). w.faults) whole;
      },
      begun.begins,
    )
