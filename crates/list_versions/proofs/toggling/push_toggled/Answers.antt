use Rattle.std.proofs.Common.{◌≡◌, ◌+◌, ◌∙◌, ◌++◌, List, ℕ, take, drop, ap, subst, sym, arith}
use Rattle.std.specs.List.Sorted.{IsBinarySearchResult}
use Rattle.std.specs.Ordering.{nat_cmp}
use Rattle.std.proofs.lemmas.List.{drop-drop, take_rest}
use Rattle.list_versions.proofs.Toggles.{found_low, found_there, none_low, none_there, search_found, search_none}
use Rattle.list_versions.proofs.toggling.push_toggled.Goals as goal

pub returns-in_ok-extend_from_slice-in-Ok-clause-toggled : goal.returns-in_ok-extend_from_slice-in-Ok-clause-toggled
returns-in_ok-extend_from_slice-in-Ok-clause-toggled c =
    let old : List ℕ = c.args.toggled.now.items in
    let rest : List ℕ = drop c.args.from c.args.numbers.now in
    let whole = take_rest c.args.numbers.now c.args.from in
    let found = search_found old rest c.args.number c.binary_search.result c.in-Ok.at c.requires.rising (subst (λ (xs : List ℕ). IsBinarySearchResult (λ y. nat_cmp y c.args.number) xs c.binary_search.result) whole c.binary_search.ensures.position) c.in-Ok.is in
    let sum : c.args.from + c.in-Ok.at + 1 ≡ c.args.from + (c.in-Ok.at + 1) = omega arith in
    found_there old rest c.extend_from_slice.new.self.items (drop (c.args.from + c.in-Ok.at + 1) c.args.numbers.now) c.in-Ok.at c.args.number c.requires.rising found.0 found.1
    (c.in_ok-extend_from_slice-in-Ok.ensures.items ∙ ap (λ (xs : List ℕ). old ++ take c.in-Ok.at xs) whole) (ap (λ k. drop k c.args.numbers.now) sum ∙ sym (drop-drop (c.in-Ok.at + 1) c.args.from c.args.numbers.now))

pub returns-in_ok-extend_from_slice-in-Ok-clause-below : goal.returns-in_ok-extend_from_slice-in-Ok-clause-below
returns-in_ok-extend_from_slice-in-Ok-clause-below c =
    let old : List ℕ = c.args.toggled.now.items in
    let rest : List ℕ = drop c.args.from c.args.numbers.now in
    let whole = take_rest c.args.numbers.now c.args.from in
    let found = search_found old rest c.args.number c.binary_search.result c.in-Ok.at c.requires.rising (subst (λ (xs : List ℕ). IsBinarySearchResult (λ y. nat_cmp y c.args.number) xs c.binary_search.result) whole c.binary_search.ensures.position) c.in-Ok.is in
    found_low old rest c.extend_from_slice.new.self.items c.in-Ok.at c.args.number c.requires.rising found.0 found.1 (c.in_ok-extend_from_slice-in-Ok.ensures.items ∙ ap (λ (xs : List ℕ). old ++ take c.in-Ok.at xs) whole)

pub returns-in_ok-push-in-Err-clause-toggled : goal.returns-in_ok-push-in-Err-clause-toggled
returns-in_ok-push-in-Err-clause-toggled c =
    let old : List ℕ = c.args.toggled.now.items in
    let rest : List ℕ = drop c.args.from c.args.numbers.now in
    let whole = take_rest c.args.numbers.now c.args.from in
    let none = search_none old rest c.args.number c.binary_search.result c.in-Err.at c.requires.rising (subst (λ (xs : List ℕ). IsBinarySearchResult (λ y. nat_cmp y c.args.number) xs c.binary_search.result) whole c.binary_search.ensures.position) c.in-Err.is in
    none_there old rest c.extend_from_slice-in-Err.new.self.items c.push.new.self.items (drop (c.args.from + c.in-Err.at) c.args.numbers.now) c.in-Err.at c.args.number c.requires.rising c.requires.below
    none.1 none.2 (c.in_ok-extend_from_slice-in-Err.ensures.items ∙ ap (λ (xs : List ℕ). old ++ take c.in-Err.at xs) whole) c.in_ok-push-in-Err.ensures.items (sym (drop-drop c.in-Err.at c.args.from c.args.numbers.now))

pub returns-in_ok-push-in-Err-clause-below : goal.returns-in_ok-push-in-Err-clause-below
returns-in_ok-push-in-Err-clause-below c =
    let old : List ℕ = c.args.toggled.now.items in
    let rest : List ℕ = drop c.args.from c.args.numbers.now in
    let whole = take_rest c.args.numbers.now c.args.from in
    let none = search_none old rest c.args.number c.binary_search.result c.in-Err.at c.requires.rising (subst (λ (xs : List ℕ). IsBinarySearchResult (λ y. nat_cmp y c.args.number) xs c.binary_search.result) whole c.binary_search.ensures.position) c.in-Err.is in
    none_low old rest c.extend_from_slice-in-Err.new.self.items c.push.new.self.items c.in-Err.at c.args.number c.requires.below none.1 (c.in_ok-extend_from_slice-in-Err.ensures.items ∙ ap (λ (xs : List ℕ). old ++ take c.in-Err.at xs) whole) c.in_ok-push-in-Err.ensures.items
