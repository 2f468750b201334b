use Rattle.std.proofs.Common.{◌∙◌, ap}
use Rattle.sb_model.specs.Prefixes.{set_of}
use Rattle.list_versions.proofs.Shown.{all_shown}
use Rattle.list_versions.proofs.published.published_of.Goals as goal

pub returns-in-Ok : goal.returns-in-Ok
returns-in-Ok c = c.in-Ok.ensures.ok ∙ ap set_of (c.as_slice.ensures.value ∙ c.in_ok-prefixes.ensures ∙ all_shown c.args.entries.now c.requires)
