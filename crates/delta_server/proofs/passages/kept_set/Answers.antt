use Rattle.std.proofs.Common.{◌≡◌, ℕ, ◌<◌, ◌^◌, List, Option, Some, None, ◌∙◌}
use Rattle.std.specs.Prelude.{IfSome}
use Rattle.std.proofs.lemmas.List.Elements.{All-weaker}
use Rattle.std.proofs.lemmas.Result.{IfOk-weaker}
use Rattle.prefix_set.specs.Limits.{IsPrefixSet}
use Rattle.prefix_set.specs.Packing.{HaveSize}
use Rattle.sb_model.specs.declared.names.ListName.{ListName}
use Rattle.sb_model.specs.History.{History, prefixes_at}
use Rattle.sb_model.specs.Prefixes.{concatenation}
use Rattle.list_versions.specs.Stretches.{AreStretches, IsStretch}
use Rattle.list_versions.specs.declared.stretch.Stretch.{Stretch}
use Rattle.delta_server.specs.Sweeping.{shown_at}
use Rattle.delta_server.proofs.CountFacts.{SetLaws}
use Rattle.delta_server.proofs.LeadFacts.{few_at, set_is}
use Rattle.delta_server.proofs.passages.kept_set.Goals as goal

pub passage_between-requires-clause-order : goal.passage_between-requires-clause-order
passage_between-requires-clause-order c =
    let versions : History = c.args.history.now.versions in
    let are : AreStretches versions c.args.list c.in-Some.stretches.now = c.in-Some.ensures versions c.requires.swept in
    are.order

pub passage_between-requires-clause-heads : goal.passage_between-requires-clause-heads
passage_between-requires-clause-heads c =
    let versions : History = c.args.history.now.versions in
    let are : AreStretches versions c.args.list c.in-Some.stretches.now = c.in-Some.ensures versions c.requires.swept in
    All-weaker (IsStretch versions) (λ (stretch : Stretch). stretch.head < 2 ^ 32) (λ stretch is. is.head) c.in-Some.stretches.now are.each

pub passage_between-requires-clause-few : goal.passage_between-requires-clause-few
passage_between-requires-clause-few c =
    let laws : SetLaws = record { members = c.sets_go_by_members.ensures.members; same = c.sets_go_by_members.ensures.same } in
    let versions : History = c.args.history.now.versions in
    let are : AreStretches versions c.args.list c.in-Some.stretches.now = c.in-Some.ensures versions c.requires.swept in
    few_at laws versions c.args.list c.in-Some.stretches.now are c.args.version c.requires.version c.len.ensures.within

pub returns : goal.returns
returns c =
    let laws : SetLaws = record { members = c.sets_go_by_members.ensures.members; same = c.sets_go_by_members.ensures.same } in
    let versions : History = c.args.history.now.versions in
    let are : AreStretches versions c.args.list c.in-Some.stretches.now = c.in-Some.ensures versions c.requires.swept in
    let bytes : List ℕ = c.as_slice.result.now in
    let is : bytes ≡ concatenation (shown_at c.in-Some.stretches.now c.args.version) = c.as_slice.ensures ∙ c.in_ok-passage.ensures.bytes in
    let each = λ (found : Option (List (List ℕ))) (read : IfSome found (λ set. IsPrefixSet set × HaveSize 4 set × (concatenation set ≡ bytes))).
    read_each versions c.args.list c.args.version bytes found (λ set sizes joined. set_is laws versions c.args.list c.in-Some.stretches.now are c.args.version c.requires.version set bytes sizes joined is) read in
    IfOk-weaker c.from_rising_bytes.result (λ (found : Option (List (List ℕ))). IfSome found (λ set. IsPrefixSet set × HaveSize 4 set × (concatenation set ≡ bytes)))
    (λ (found : Option (List (List ℕ))). IfSome found (λ set. set ≡ prefixes_at versions c.args.list c.args.version)) each c.from_rising_bytes.ensures.some
  where
    read_each : (versions : History) (list : ListName) (version : ℕ) (bytes : List ℕ) (found : Option (List (List ℕ)))
        → ((set : List (List ℕ)) → HaveSize 4 set → concatenation set ≡ bytes → set ≡ prefixes_at versions list version)
        → IfSome found (λ set. IsPrefixSet set × HaveSize 4 set × (concatenation set ≡ bytes)) → IfSome found (λ set. set ≡ prefixes_at versions list version)
    read_each versions list version bytes None same read = tt
    read_each versions list version bytes (Some set) same read = same set read.1 read.2
