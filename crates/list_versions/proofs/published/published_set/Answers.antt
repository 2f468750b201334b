use Rattle.std.proofs.Common.{◌≡◌, ◌∙◌, map}
use Rattle.std.specs.Map.{values_of}
use Rattle.sb_model.specs.History.{prefix_of}
use Rattle.list_versions.specs.Live.{shown, in_buckets}
use Rattle.list_versions.proofs.Shown.{same_prefixes}
use Rattle.list_versions.proofs.published.published_set.Goals as goal

pub returns-in-Ok : goal.returns-in-Ok
returns-in-Ok c entries holds =
    let same = same_prefixes c.args.live.now entries holds c.in_ok-prefixes.ensures.unique in
    let listed : c.as_slice.result.now ≡ map shown (in_buckets (values_of c.args.live.now.buckets.entries)) = c.as_slice.ensures.value ∙ c.in_ok-prefixes.ensures.value in
    rw listed at c.in-Ok.ensures.ok ∙ c.sets_go_by_members.ensures.same _ (map prefix_of entries) same
