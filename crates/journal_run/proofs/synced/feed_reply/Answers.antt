use Rattle.std.proofs.lemmas.Result.{IfOk-weaker}
use Rattle.sb_model.specs.Prefixes.{set_of}
use Rattle.sb_journal.specs.Changes.{sync_changes}
use Rattle.journal_run.proofs.synced.feed_reply.Goals as goal

pub returns-clause-taken : goal.returns-clause-taken
returns-clause-taken c =
    IfOk-weaker c.taken_reply.result _ _ (λ reply taken zero. taken zero (sync_changes c.args.history.versions c.args.line.now.list c.args.size (set_of c.args.feed.hashes.items)) c.in_ok-text.ensures.text
    c.in_ok-text.ensures.follow (c.synced_records_may_follow.ensures.sizes c.args.history.versions c.args.line.now.list c.args.size (set_of c.args.feed.hashes.items) c.requires)) c.taken_reply.ensures.taken
