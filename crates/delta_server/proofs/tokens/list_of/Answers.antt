use Rattle.std.proofs.Common.{◌≡◌, ℕ, List, get_or, Some, ap, sym, ◌∙◌}
use Rattle.sb_model.specs.Names.{threat_code, platform_code, entry_code}
use Rattle.delta_server.proofs.TokenFacts.{some_is, same_list}
use Rattle.delta_server.proofs.tokens.list_of.Goals as goal

pub returns : goal.returns
returns c = λ list is.
    let first : threat_code list.threat ≡ get_or c.args.codes.now 0 0 = sym (ap (λ (xs : List ℕ). get_or xs 0 0) is) in
    let second : platform_code list.platform ≡ get_or c.args.codes.now 1 0 = sym (ap (λ (xs : List ℕ). get_or xs 1 0) is) in
    let third : entry_code list.entry ≡ get_or c.args.codes.now 2 0 = sym (ap (λ (xs : List ℕ). get_or xs 2 0) is) in
    ap Some (same_list list c.in_ok-from_code.field-0 c.in_ok-from_code-2.field-0 c.in_ok-from_code-3.field-0
    (some_is c.in_ok-from_code.field-0 list.threat (sym c.in_ok-from_code.was ∙ c.from_code.ensures ∙ (c.codes_name_types.ensures.threats (get_or c.args.codes.now 0 0) list.threat).1 first))
    (some_is c.in_ok-from_code-2.field-0 list.platform (sym c.in_ok-from_code-2.was ∙ c.from_code-2.ensures ∙ (c.codes_name_types.ensures.platforms (get_or c.args.codes.now 1 0) list.platform).1 second))
    (some_is c.in_ok-from_code-3.field-0 list.entry (sym c.in_ok-from_code-3.was ∙ c.from_code-3.ensures ∙ (c.codes_name_types.ensures.entries (get_or c.args.codes.now 2 0) list.entry).1 third)))
