use Rattle.std.proofs.Common.{◌≡◌, Option, Some, None, Ok, sym, ap, ◌∙◌}
use Rattle.serde_json.specs.View.{view}
use Rattle.sb_model.specs.declared.names.ListName.{ListName}
use Rattle.update_messages.specs.RequestRows.{asked_name_row}
use Rattle.update_messages.proofs.NamedItems.{asked_read}
use Rattle.update_messages.proofs.reading_items.asked_list.Goals as goal

pub returns-in-Some-clause-ok : goal.returns-in-Some-clause-ok
returns-in-Some-clause-ok c =
    let named : asked_name_row (view c.args.item.now) ≡ Ok (Some c.in-Some.name) = sym c.in_ok-name.ensures ∙ ap (λ (o : Option ListName). Ok o) c.in-Some.is in
    asked_read (view c.args.item.now) (record {
      name = Some c.in-Some.name;
      state = c.in_ok-state.state;
      max_update = c.in_ok-constraints.constraints.max_update;
      max_database = c.in_ok-constraints.constraints.max_database;
      raw = c.in_ok-constraints.constraints.raw;
      rice = c.in_ok-constraints.constraints.rice;
    }) (record {
      object = c.in_ok-check_object.ensures.ok;
      name = named;
      state = c.in_ok-state.ensures.ok;
      max_update = c.in_ok-constraints.ensures.max_update;
      max_database = c.in_ok-constraints.ensures.max_database;
      compressions = c.in_ok-constraints.ensures.compressions;
    })

pub returns-in-None-clause-ok : goal.returns-in-None-clause-ok
returns-in-None-clause-ok c =
    let named : asked_name_row (view c.args.item.now) ≡ Ok None = sym c.in_ok-name.ensures ∙ ap (λ (o : Option ListName). Ok o) c.in-None.is in
    asked_read (view c.args.item.now) (record {
      name = None;
      state = c.in_ok-state.state;
      max_update = c.in_ok-constraints.constraints.max_update;
      max_database = c.in_ok-constraints.constraints.max_database;
      raw = c.in_ok-constraints.constraints.raw;
      rice = c.in_ok-constraints.constraints.rice;
    }) (record {
      object = c.in_ok-check_object.ensures.ok;
      name = named;
      state = c.in_ok-state.ensures.ok;
      max_update = c.in_ok-constraints.ensures.max_update;
      max_database = c.in_ok-constraints.ensures.max_database;
      compressions = c.in_ok-constraints.ensures.compressions;
    })
