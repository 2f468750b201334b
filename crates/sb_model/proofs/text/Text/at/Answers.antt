use Rattle.std.proofs.Common.{ap, sym, ◌∙◌, subst}
use Rattle.std.specs.Prelude.{ℕ, List, slice_get, IsSome}
use Rattle.std.specs.Str.{chars}
use Rattle.sb_model.proofs.Characters.{some_within, index_is}
use Rattle.sb_model.proofs.text.Text.at.Goals as goal

pub unwrap-requires : goal.unwrap-requires
unwrap-requires c =
    let shown = c.char_at.ensures ∙ ap (λ (cs : List ℕ). slice_get cs c.args.i) (ap chars c.as_str.ensures.value ∙ c.self.view_is) in
    subst IsSome (sym shown) (some_within c.args.self.now c.args.i c.requires)

pub returns : goal.returns
returns c =
    let shown = c.char_at.ensures ∙ ap (λ (cs : List ℕ). slice_get cs c.args.i) (ap chars c.as_str.ensures.value ∙ c.self.view_is) in
    index_is c.args.self.now c.args.i c.unwrap.result (sym shown ∙ c.unwrap.ensures)
