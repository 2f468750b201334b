use Rattle.std.proofs.Common.{◌≡◌, sym, ◌∙◌, ap, Result, Ok, Err}
use Rattle.std.specs.Prelude.{ℕ, List, IfOk, ◌∷◌, []}
use Rattle.sb_model.specs.Names.{parts_of, name_of, name_of_parts, name_of_words, text_of}
use Rattle.sb_model.specs.declared.names.ListName.{ListName}
use Rattle.sb_model.specs.declared.names.NameFault.{NameFault}
use Rattle.sb_model.proofs.NameWords.{found_is_text, name_of-text_of}
use Rattle.sb_model.proofs.names.read_list_name.Goals as goal

if_found : (text a b c : List ℕ) (r : Result ListName NameFault) → parts_of text ≡ a ∷ b ∷ c ∷ [] → r ≡ name_of_words a b c → IfOk r (λ name. text ≡ text_of name)
if_found text a b c (Ok name) h e = found_is_text text a b c name h (sym e)
if_found text a b c (Err fault) h e = tt

pub returns-in_default-clause-only : goal.returns-in_default-clause-only
returns-in_default-clause-only c name h = sym c.in_default.ensures ∙ ap name_of h ∙ name_of-text_of name

pub returns-clause-found : goal.returns-clause-found
returns-clause-found c = if_found _ _ _ _ c.name_of_three.result c.in-Some.ensures c.name_of_three.ensures

pub returns-clause-only : goal.returns-clause-only
returns-clause-only c name h = c.name_of_three.ensures ∙ ap name_of_parts (sym c.in-Some.ensures) ∙ ap name_of h ∙ name_of-text_of name
