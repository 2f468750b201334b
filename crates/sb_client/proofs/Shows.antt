-- One line more of shown URLs.
use Rattle.input_lines.specs.Lines.{numbered}
use Rattle.std.proofs.Common.{◌≡◌, ◌≢◌, ℕ, ◌+◌, List, [], ◌∷◌, ◌++◌, Bool, true, false, refl, ap, ◌∙◌, append_assoc, codes, Ok, Err, Result}
use Rattle.std.specs.Prelude.{◌||◌}
use Rattle.std.specs.List.{flat_map}
use Rattle.url_canon.specs.Url.{Url, text_of_url}
use Rattle.url_canon.specs.Canonical.{canonical_of}
use Rattle.url_canon.specs.Printed.{url_cause}
use Rattle.url_canon.specs.declared.fault.UrlFault.{UrlFault}
use Rattle.sb_client.specs.Shown.{expression_line, shown_lines, all_shown, is_refused_url, has_refused_url}
use Rattle.url_expressions.specs.Expressions.{expressions_of}
use Rattle.input_lines.specs.Ways.{numbered_some, some_front}

-- a text has a line
pub shown_some : (number : ℕ) (found : Result Url UrlFault) → shown_lines number found ≢ []
shown_some number (Ok url) = some_front (numbered number (text_of_url url)) (flat_map expression_line (expressions_of url)) (numbered_some number (text_of_url url))
shown_some number (Err fault) = numbered_some number (codes "refused " ++ url_cause fault)

pub shown_step : (number : ℕ) (line : List ℕ) (lines : List (List ℕ)) (done all : List ℕ)
    → done ++ all_shown number (line ∷ lines) ≡ all → (done ++ shown_lines number (canonical_of line)) ++ all_shown (number + 1) lines ≡ all
shown_step number line lines done all h = append_assoc done (shown_lines number (canonical_of line)) (all_shown (number + 1) lines) ∙ h

or_assoc : (a b c : Bool) → ((a || b) || c) ≡ (a || (b || c))
or_assoc true b c = refl
or_assoc false b c = refl

pub refused_step : (line : List ℕ) (lines : List (List ℕ)) (refused here all : Bool)
    → here ≡ is_refused_url (canonical_of line) → (refused || has_refused_url (line ∷ lines)) ≡ all → ((refused || here) || has_refused_url lines) ≡ all
refused_step line lines refused here all e h =
    or_assoc refused here (has_refused_url lines) ∙ ap (λ (b : Bool). refused || (b || has_refused_url lines)) e ∙ h
