-- How many expressions there are.
use Rattle.std.proofs.Common.{◌≡◌, ℕ, ◌*◌, ◌≤◌, List, [], ◌∷◌, ◌++◌, Bool, true, false, not, Option, None, Some, cond, length, take, arith, length-append}
use Rattle.std.specs.Prelude.{map, filter, nat_le}
use Rattle.std.specs.Str.{bytes_eq}
use Rattle.std.proofs.lemmas.List.{length-map, length-take}
use Rattle.std.proofs.Math.Nat.{mul-le-mul}
use Rattle.url_canon.specs.Path.{path_text, directories}
use Rattle.url_canon.specs.Url.{Url}
use Rattle.url_expressions.specs.Expressions.{hosts_of, components, last_components, path_with_query, paths_of, folders_of, folder_text, fronts, combinations, first_occurrences, expressions_of}

length-filter : {A : Type 0} (p : A → Bool) (xs : List A) → length (filter p xs) ≤ length xs
length-filter p [] = omega arith
length-filter p (x ∷ xs) = one (p x) (length-filter p xs)
  where
    one : (b : Bool) → length (filter p xs) ≤ length xs → length (cond b (x ∷ filter p xs) (filter p xs)) ≤ length (x ∷ xs)
    one true shorter = omega arith
    one false shorter = omega arith

first_occurrences-le : (xs : List (List ℕ)) → length (first_occurrences xs) ≤ length xs
unfolding first_occurrences
first_occurrences-le [] = omega arith
first_occurrences-le (x ∷ xs) = omega (arith, length-filter (λ y. not (bytes_eq y x)) (first_occurrences xs), first_occurrences-le xs)

first_occurrences-some : (xs : List (List ℕ)) → 1 ≤ length xs → 1 ≤ length (first_occurrences xs)
unfolding first_occurrences
first_occurrences-some [] some = some
first_occurrences-some (x ∷ xs) some = omega arith

length-combinations : (hosts paths : List (List ℕ)) → length (combinations hosts paths) ≡ length hosts * length paths
length-combinations [] paths = omega arith
length-combinations (host ∷ hosts) paths =
    omega (arith, length-append (map (λ path. host ++ path) paths) (combinations hosts paths), length-map paths (λ path. host ++ path), length-combinations hosts paths)

most_hosts : (host : List ℕ) (is_address : Bool) → length (hosts_of host is_address) ≤ 5
most_hosts host true = omega arith
most_hosts host false =
    omega (arith, length-map (filter (λ n. nat_le n (length (components host))) (5 ∷ 4 ∷ 3 ∷ 2 ∷ [])) (λ n. last_components n host), length-filter (λ n. nat_le n (length (components host))) (5 ∷ 4 ∷ 3 ∷ 2 ∷ []))

some_hosts : (host : List ℕ) (is_address : Bool) → 1 ≤ length (hosts_of host is_address)
some_hosts host is_address = omega arith

query_paths : (path : List ℕ) (query : Option (List ℕ)) → length (path_with_query path query) ≤ 1
query_paths path None = omega arith
query_paths path (Some query) = omega arith

most_folders : (path : List (List ℕ)) → length (folders_of path) ≤ 4
most_folders path = omega (arith, length-map (take 4 (fronts (directories path))) folder_text, length-take 4 (fronts (directories path)))

count_paths : (path : List (List ℕ)) (query : Option (List ℕ)) → (1 ≤ length (paths_of path query)) × (length (paths_of path query) ≤ 6)
count_paths path query =
    let whole = length-append (path_with_query (path_text path) query) (path_text path ∷ folders_of path) in
    (omega (arith, whole), omega (arith, whole, query_paths (path_text path) query, most_folders path))

-- five hosts with six paths each, at most
pub most_expressions : (url : Url) → length (expressions_of url) ≤ 30
most_expressions url =
    let hosts = hosts_of url.host url.is_address in
    let paths = paths_of url.path url.query in
    let product = mul-le-mul (most_hosts url.host url.is_address) (count_paths url.path url.query).1 in
    omega (arith, first_occurrences-le (combinations hosts paths), length-combinations hosts paths, product)

pub some_expressions : (url : Url) → 1 ≤ length (expressions_of url)
some_expressions url =
    let hosts = hosts_of url.host url.is_address in
    let paths = paths_of url.path url.query in
    let product = mul-le-mul (some_hosts url.host url.is_address) (count_paths url.path url.query).0 in
    first_occurrences-some (combinations hosts paths) (omega (arith, length-combinations hosts paths, product))
