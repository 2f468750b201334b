use Rattle.std.proofs.Common.{◌≡◌, ℕ, List, ◌++◌, ◌∙◌, map, ap}
use Rattle.std.proofs.lemmas.Result.{on_ok_weaker}
use Rattle.proto_wire.specs.Spelling.{written_opening, written_fields}
use Rattle.update_messages.specs.declared.sets.Additions.{Additions}
use Rattle.update_messages.specs.declared.sets.Removals.{Removals}
use Rattle.update_messages.specs.Messages.{UpdatedList}
use Rattle.proto_messages.specs.Writing as spec
use Rattle.proto_messages.proofs.WritingFacts.{update_written}
use Rattle.proto_messages.proofs.fetch_answer.push_sent.Goals as goal

pub returns : goal.returns
returns c =
    let update = c.args.update.now in
    let kinds = spec.kind_fields c.args.threat update in
    let additions = map spec.addition_field (spec.sent_additions update.full update.additions) in
    let removals = map spec.removal_field update.removals in
    let end = spec.end_fields update in
    let removed : c.as_slice.result.now ≡ update.removals = c.as_slice.ensures ∙ ap (λ (u : UpdatedList). u.removals) c.update.view_is in
    let o : c.push_open.new.bytes ≡ c.args.out.now ++ written_opening 1 _ = c.in_ok-push_open.ensures.ok in
    let k : c.push_kinds.new.out ≡ c.push_open.new.bytes ++ written_fields kinds = c.in_ok-push_kinds.ensures in
    let a : c.push_additions.new.out ≡ c.push_kinds.new.out ++ written_fields additions =
    c.in_ok-push_additions.ensures ∙ ap (λ (sets : List Additions). c.push_kinds.new.out ++ written_fields (map spec.addition_field sets)) c.requires in
    let r : c.push_removals.new.out ≡ c.push_additions.new.out ++ written_fields removals =
    c.in_ok-push_removals.ensures ∙ ap (λ (sets : List Removals). c.push_additions.new.out ++ written_fields (map spec.removal_field sets)) removed in
    let all = r ∙ ap (λ (l : List ℕ). l ++ written_fields removals) (a ∙ ap (λ (l : List ℕ). l ++ written_fields additions) (k ∙ ap (λ (l : List ℕ). l ++ written_fields kinds) o)) in
    on_ok_weaker c.push_end.result
    (λ e. e ∙ ap (λ (l : List ℕ). l ++ written_fields end) all ∙ update_written c.args.out.now _ kinds additions removals end c.in_ok-update_size.ensures.value) c.push_end.ensures
