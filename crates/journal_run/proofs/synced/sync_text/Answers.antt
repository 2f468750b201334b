use Rattle.std.proofs.Common.{◌≡◌, ◌∙◌, ℕ, List, All, map, ap, subst}
use Rattle.hash_prefixes.specs.declared.hashes.FullHash.{FullHash}
use Rattle.sb_model.specs.Prefixes.{set_of}
use Rattle.sb_journal.specs.declared.hash_line.HashLine.{HashLine}
use Rattle.sb_journal.specs.Followed.{HasHash}
use Rattle.sb_journal.specs.Records.{leading_lines, newest_hashes}
use Rattle.journal_run.proofs.Declared.{declared_is}
use Rattle.journal_run.proofs.synced.sync_text.Goals as goal

pub newest_hashes-requires : goal.newest_hashes-requires
newest_hashes-requires c = declared_is c.args.history.now.versions c.args.list c.args.size c.requires

pub returns-clause-follow : goal.returns-clause-follow
returns-clause-follow c =
    let history = c.args.history.now.versions in
    let wanted = set_of c.args.wanted.items in
    let held : c.as_slice-2.result.now ≡ newest_hashes history c.args.list =
    c.as_slice-2.ensures.value ∙ c.in_ok-held.ensures ∙ ap (map (λ (hash : FullHash). hash.bytes)) c.as_slice.ensures ∙ c.in_ok-newest.ensures in
    let lines : c.as_slice-4.result.now ≡ leading_lines c.args.size (newest_hashes history c.args.list) wanted =
    c.as_slice-4.ensures.value ∙ c.in_ok-lines.ensures ∙ ap (λ (hs : List (List ℕ)). leading_lines c.args.size hs c.as_slice-3.result.now) held
    ∙ ap (λ (ws : List (List ℕ)). leading_lines c.args.size (newest_hashes history c.args.list) ws) (c.as_slice-3.ensures.value ∙ c.put_in_order.ensures) in
    c.synced_records_may_follow.ensures.follow history c.args.list c.args.size wanted c.len.ensures.well_formed c.requires
    (subst (λ (all : List HashLine). All HasHash all) lines c.lines_have_hashes.ensures)
