use Rattle.std.proofs.Common.{◌≡◌, ◌∙◌}
use Rattle.sb_model.specs.Prefixes.{set_of}
use Rattle.prefix_set.specs.Apply.{applied}
use Rattle.client_store.proofs.gathered.Gathered.into_set.Goals as goal

pub returns-in-Ok : goal.returns-in-Ok
returns-in-Ok c =
    let laws = c.sets_go_by_members.ensures in
    let view : c.self.inside.edit.additions ≡ c.args.self = cc in
    let one : set_of c.args.self ≡ c.args.self = laws.only (set_of c.args.self) c.args.self (laws.rising c.args.self) c.requires.rising (λ x. laws.members c.args.self x) in
    let ok : c.in-Ok.set ≡ applied c.empty.result c.self.inside.edit.removals c.self.inside.edit.additions = c.in-Ok.ensures.ok in
    let made : c.in-Ok.set ≡ set_of c.self.inside.edit.additions = ok ∙ (λ i. applied (c.empty.ensures i) c.self.inside.edit.removals c.self.inside.edit.additions) in
    made ∙ (λ i. set_of (view i)) ∙ one
