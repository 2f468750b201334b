use Rattle.std.proofs.Common.{◌≡◌, ℕ, List, IfOk, subst, sym}
use Rattle.serde_json.specs.Data.{string}
use Rattle.serde_json.specs.View.{view}
use Rattle.lookup_messages.proofs.WrittenUrls.{spelled, text_in_range}
use Rattle.lookup_messages.proofs.writing_urls.url_text.Goals as goal

pub returns-clause-value : goal.returns-clause-value
returns-clause-value c =
    subst (λ (text : List ℕ). IfOk c.string_value.result (λ value. view value ≡ string text))
    (sym (spelled c.args.url.now c.as_str.result.now c.as_str.utf8 c.as_str.ensures)) c.string_value.ensures

pub returns-clause-range : goal.returns-clause-range
returns-clause-range c = text_in_range c.args.url.now c.as_str.result.now c.as_str.utf8 c.as_str.ensures
