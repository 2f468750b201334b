use Rattle.std.proofs.Common.{ap, ◌∙◌, None, [], arith}
use Rattle.update_messages.specs.Messages.{UpdatedList}
use Rattle.sb_model.specs.History.{version_count}
use Rattle.generated_load.specs.Generated.{generated_list}
use Rattle.generated_load.proofs.Asked.{first_checksum, item_is}
use Rattle.generated_load.proofs.exercising.first_checksum.Goals as goal

pub returns : goal.returns
returns c =
    let history = c.args.history.now.versions in
    let update = item_is history [] c.in_ok-response.response c.at.result.now c.requires c.in_ok-response.ensures c.at.ensures in
    ap (λ (u : UpdatedList). u.checksum) c.behind-response.view_is ∙ ap (λ (u : UpdatedList). u.checksum) update
    ∙ first_checksum history (c.targets_are_the_greatest.ensures.greatest history generated_list None 0 0 (version_count history) (omega arith))
    (c.targets_are_the_greatest.ensures.last history generated_list None 0 0)
