use Rattle.std.proofs.Common.{◌∙◌, sym}
use Rattle.list_versions.proofs.Crowds.{limit_as, crowds_held, by_count, by_crowd, by_bytes, by_none}
use Rattle.list_versions.proofs.live.Live.limit.Goals as goal
use Rattle.list_versions.proofs.live.Live.limit.Goals.{then-self-gt-MOST_HASHES-via-then-self-gt-MOST_HASHES, then-self-gt-MOST_HASHES-via-else-self-gt-MOST_HASHES+then-is_crowded}

pub returns-then-self-gt-MOST_HASHES : goal.returns-then-self-gt-MOST_HASHES
returns-then-self-gt-MOST_HASHES c before removes few holds =
    let crowds = crowds_held c.args.self.now before c.args.adds.now removes few holds in
    let same = limit_as c.args.line c.args.self.now _ _ holds crowds in
    elim c.then-self-gt-MOST_HASHES.branch [
      | then-self-gt-MOST_HASHES-via-then-self-gt-MOST_HASHES w ↦ by_count c.args.line _ _ _ w.if-self-gt-MOST_HASHES.true ∙ same
      | then-self-gt-MOST_HASHES-via-else-self-gt-MOST_HASHES+then-is_crowded w ↦ by_crowd c.args.line _ _ _ (sym (w.is_crowded.ensures holds.alike) ∙ w.if-is_crowded.true) ∙ same
    ]

pub returns-then-self-gt-MOST_PREFIX_BYTES : goal.returns-then-self-gt-MOST_PREFIX_BYTES
returns-then-self-gt-MOST_PREFIX_BYTES c before removes few holds =
    let crowds = crowds_held c.args.self.now before c.args.adds.now removes few holds in
    by_bytes c.args.line _ _ _ c.if-self-gt-MOST_HASHES.false (sym (c.is_crowded.ensures holds.alike) ∙ c.if-is_crowded.false) c.if-self-gt-MOST_PREFIX_BYTES.true ∙ limit_as c.args.line c.args.self.now _ _ holds crowds

pub returns : goal.returns
returns c before removes few holds =
    let crowds = crowds_held c.args.self.now before c.args.adds.now removes few holds in
    by_none c.args.line _ _ _ c.if-self-gt-MOST_HASHES.false (sym (c.is_crowded.ensures holds.alike) ∙ c.if-is_crowded.false) c.if-self-gt-MOST_PREFIX_BYTES.false ∙ limit_as c.args.line c.args.self.now _ _ holds crowds
