use Rattle.std.proofs.Common.{◌∙◌, ap, sym, arith, inr, refl, ℕ}
use Rattle.std.specs.List.{list_any}
use Rattle.std.proofs.lemmas.List.{length-map}
use Rattle.sb_model.specs.declared.names.ListName.{ListName}
use Rattle.sb_model.specs.Names.{same_name}
use Rattle.list_versions.specs.Draft.{declared_of}
use Rattle.list_versions.specs.declared.draft.Listed.{Listed}
use Rattle.list_versions.proofs.Applied.{keeps_declared}
use Rattle.list_versions.proofs.Completing.{any_declared, declared_more, draft_declared, refused_twice, refused_many, list_taken}
use Rattle.list_versions.proofs.draft.Draft.declare.Goals as goal

pub returns-then-is_declared-clause-fault : goal.returns-then-is_declared-clause-fault
returns-then-is_declared-clause-fault c =
    let named = sym (any_declared c.args.name c.args.self.now.lists.items) ∙ ap (list_any (λ (list : Listed). same_name list.name c.args.name)) (sym c.deref.ensures.value) ∙ sym c.is_declared.ensures ∙ c.if-is_declared.true in
    inr (refused_twice c.args.self.now c.args.name c.args.size _ named c.next_line-line.ensures.value)

pub returns-then-len-ge-MOST_LISTS-clause-fault : goal.returns-then-len-ge-MOST_LISTS-clause-fault
returns-then-len-ge-MOST_LISTS-clause-fault c =
    let named = sym (any_declared c.args.name c.args.self.now.lists.items) ∙ ap (list_any (λ (list : Listed). same_name list.name c.args.name)) (sym c.deref.ensures.value) ∙ sym c.is_declared.ensures ∙ c.if-is_declared.false in
    inr (refused_many c.args.self.now c.args.name c.args.size _ named (omega (arith, c.len.ensures, c.if-len-ge-MOST_LISTS.true, length-map {B = ListName × ℕ} c.args.self.now.lists.items (λ (l : Listed). (l.name, l.size)))) c.next_line-line.ensures.value)

pub returns-clause-draft : goal.returns-clause-draft
returns-clause-draft c =
    let named = sym (any_declared c.args.name c.args.self.now.lists.items) ∙ ap (list_any (λ (list : Listed). same_name list.name c.args.name)) (sym c.deref.ensures.value) ∙ sym c.is_declared.ensures ∙ c.if-is_declared.false in
    draft_declared c.args.self.now _ (record { name = c.args.name; size = c.args.size; live = c.new-2.result; known = c.in-Ok.known }) c.requires.draft c.in-Ok-push.ensures.items refl refl (omega (arith, c.len.ensures, c.if-len-ge-MOST_LISTS.false)) named c.requires.size c.new-2.ensures.holds c.new-2.ensures.placed

pub returns-clause-ok : goal.returns-clause-ok
returns-clause-ok c =
    let named = sym (any_declared c.args.name c.args.self.now.lists.items) ∙ ap (list_any (λ (list : Listed). same_name list.name c.args.name)) (sym c.deref.ensures.value) ∙ sym c.is_declared.ensures ∙ c.if-is_declared.false in
    list_taken c.args.self.now c.args.name c.args.size (declared_of c.push.new.self.items) named (omega (arith, c.len.ensures, c.if-len-ge-MOST_LISTS.false, length-map {B = ListName × ℕ} c.args.self.now.lists.items (λ (l : Listed). (l.name, l.size))))
    (ap declared_of c.in-Ok-push.ensures.items ∙ declared_more c.args.self.now.lists.items (record { name = c.args.name; size = c.args.size; live = c.new-2.result; known = c.in-Ok.known }))

pub returns-clause-front : goal.returns-clause-front
returns-clause-front c = keeps_declared c.args.self.now _ _ refl refl refl c.in-Ok-push.ensures.items (returns-clause-draft c)
