use Rattle.std.proofs.Common.{ap, ◌∙◌, ◌++◌, ◌∷◌, []}
use Rattle.std.specs.Prelude.{ℕ, List}
use Rattle.std.specs.Str.{chars}
use Rattle.std.proofs.lemmas.Str.{IsUtf8-string_bytes}
use Rattle.sb_model.proofs.Characters.{chars_push}
use Rattle.sb_model.proofs.text.Text.push.Goals as goal

pub returns-clause-ok : goal.returns-clause-ok
returns-clause-ok c =
    ap chars c.in_ok-push.ensures.bytes
    ∙ chars_push _ c.args.item (IsUtf8-string_bytes c.self.inside.text) c.ranges.item.0
    ∙ ap (λ (cs : List ℕ). cs ++ c.args.item ∷ []) c.self.view_is
