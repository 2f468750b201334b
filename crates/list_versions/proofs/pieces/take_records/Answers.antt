use Rattle.std.proofs.Common.{◌≡◌, ◌∙◌, [], ap, sym, Ok}
use Rattle.std.proofs.lemmas.List.{append-nil}
use Rattle.list_versions.specs.Draft.{before_record, kept_of_draft}
use Rattle.list_versions.proofs.Ending.{ends_drop}
use Rattle.list_versions.proofs.LineFaults.{records_not_read}
use Rattle.list_versions.proofs.pieces.take_records.Goals as goal

pub returns-clause-waits : goal.returns-clause-waits
returns-clause-waits c =
    let back = rw c.as_slice.ensures at c.in-Ok.ensures.back in
    let rest : c.last_bytes.result ≡ c.in-Ok.rest.now = c.last_bytes.ensures ∙ ends_drop c.args.text c.in-Ok.rest.now back in
    let moves = c.in-Ok.ensures.moves [] in
    ap (before_record c.read_records.new.self []) (rest ∙ sym (append-nil c.in-Ok.rest.now)) ∙ sym moves ∙ ap (before_record c.args.draft.now []) (append-nil c.as_slice.result.now)
    ∙ c.in-Ok.ensures.rest ∙ ap (λ bytes. Ok (kept_of_draft c.read_records.new.self bytes)) (sym rest)

pub returns-in-Err-clause-line : goal.returns-in-Err-clause-line
returns-in-Err-clause-line c = records_not_read c.args.draft.now c.as_slice.result.now c.in-Err.fault c.in-Err.ensures.fault
