use Rattle.generated_load.proofs.ChangeLines.{fourth_text, on_ok, plain_text}
use Rattle.generated_load.proofs.changes.push_change_lines.Goals as goal

pub returns-then-place-ne0 : goal.returns-then-place-ne0
returns-then-place-ne0 c =
    on_ok _ (plain_text c.args.place c.args.before.now c.args.hash.now c.args.page.now c.append.new.self c.push_hash.new.page c.if-place-ne0.true c.in_ok-append.ensures.ok)
    c.push_hash.ensures

pub returns : goal.returns
returns c =
    on_ok _ (fourth_text c.args.place c.args.before.now c.args.hash.now c.args.page.now c.append-2.new.self c.push_hash-2.new.page c.push_hash-3.new.page
    c.if-place-ne0.false c.in_ok-append-2.ensures.ok c.in_ok-push_hash.ensures)
    c.push_hash-3.ensures
