use Rattle.std.proofs.Common.{◌≡◌, take, map, All}
use Rattle.serde_json.specs.View.{view}
use Rattle.sb_members.specs.Ranges.{IsText}
use Rattle.lookup_messages.specs.Writing as spec
use Rattle.lookup_messages.proofs.writing_urls.url_values.Given as goal

abbrev pub invariant-loop-url : goal.invariant-loop-url
invariant-loop-url l = record {
  values : map view l.values.items ≡ map spec.url_written (take l.url-index l.urls);
  range : All IsText (take l.url-index l.urls);
}
