use Rattle.std.proofs.Common.{ap, ◌∙◌, ◌++◌}
use Rattle.std.specs.Prelude.{ℕ, List}
use Rattle.std.specs.Str.{chars}
use Rattle.std.proofs.lemmas.Str.{IsUtf8-string_bytes, chars-append}
use Rattle.sb_model.proofs.text.Text.append.Goals as goal

pub returns-clause-ok : goal.returns-clause-ok
returns-clause-ok c =
    ap chars c.in_ok-push_str.ensures.bytes
    ∙ chars-append _ c.args.text.now (IsUtf8-string_bytes c.self.inside.text)
    ∙ ap (λ (cs : List ℕ). cs ++ chars c.args.text.now) c.self.view_is
