use Rattle.std.proofs.Common.{◌∙◌, ℕ, List, Some, sym, ap, subst, take}
use Rattle.std.specs.Prelude.{Contains}
use Rattle.sb_model.specs.History.{prefix_of}
use Rattle.list_versions.specs.Live.{lines_in}
use Rattle.list_versions.specs.Shifting.{is_published}
use Rattle.list_versions.proofs.Shiftings.{goes_at, goes_not, goes_nowhere}
use Rattle.list_versions.proofs.Shown.{shown_is}
use Rattle.list_versions.proofs.shifting.push_place.Goals as goal

pub returns-then-is_published_first : goal.returns-then-is_published_first
returns-then-is_published_first c =
    let is = c.shown_prefix-prefix.ensures ∙ shown_is c.args.entry.now c.requires in
    goes_not c.args.set.now c.args.live.now.buckets.entries c.args.count (prefix_of c.args.entry.now) c.args.places.now.items
    (ap (λ (p : List ℕ). is_published c.args.count (lines_in c.args.live.now.buckets.entries (take 4 p)) p) (sym is) ∙ sym c.is_published_first.ensures ∙ c.if-is_published_first.true)

pub returns-in_ok-push : goal.returns-in_ok-push
returns-in_ok-push c =
    let is = c.shown_prefix-prefix.ensures ∙ shown_is c.args.entry.now c.requires in
    goes_at c.args.set.now c.args.live.now.buckets.entries c.args.count (prefix_of c.args.entry.now) c.args.places.now.items c.push.new.self.items c.in-Some.place c.place_of.ensures.rising
    (c.in-Some.ensures.some ∙ ap Some is)
    (ap (λ (p : List ℕ). is_published c.args.count (lines_in c.args.live.now.buckets.entries (take 4 p)) p) (sym is) ∙ sym c.is_published_first.ensures ∙ c.if-is_published_first.false) c.in_ok-push.ensures.items

pub returns-in_default : goal.returns-in_default
returns-in_default c =
    let is = c.shown_prefix-prefix.ensures ∙ shown_is c.args.entry.now c.requires in
    goes_nowhere c.args.set.now c.args.live.now.buckets.entries c.args.count (prefix_of c.args.entry.now) c.args.places.now.items
    (subst (λ (p : List ℕ). Contains c.args.set.now p → ⊥) is c.in_default.ensures.none)
