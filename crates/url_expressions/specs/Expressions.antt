-- The expressions of a canonical URL: hosts and paths that it lies under (Safe Browsing v4, "URLs
-- and Hashing", section "Suffix/prefix expressions").
use Rattle.std.specs.Prelude.{ℕ, ◌-◌, List, [], ◌∷◌, ◌++◌, Bool, not, nat_le, Option, None, Some, map, filter, length, take, drop, if◌then◌else◌}
use Rattle.std.specs.List.{flat_map, join_with_byte, slice_split}
use Rattle.std.specs.Str.{bytes_eq}
use Rattle.url_canon.specs.Words.{is_dot}
use Rattle.url_canon.specs.Path.{path_text, directories}
use Rattle.url_canon.specs.Url.{Url}

-- the components of a host, which stand between its dots
unfoldable pub components : List ℕ → List (List ℕ)
components host = slice_split is_dot host

-- the last `n` components of a host, with the dots between them
unfoldable pub last_components : ℕ → List ℕ → List ℕ
last_components n host =
    join_with_byte 46 (drop (length (components host) - n) (components host))

-- its last 5, 4, 3 and 2 components, where it has so many
abbrev pub shorter_hosts : List ℕ → List (List ℕ)
shorter_hosts host =
    map (λ n. last_components n host)
    (filter (λ n. nat_le n (length (components host))) (5 ∷ 4 ∷ 3 ∷ 2 ∷ []))

-- the exact host, and then the shorter ones, unless it is an address
abbrev pub hosts_of : List ℕ → Bool → List (List ℕ)
hosts_of host is_address = host ∷ (if is_address then [] else shorter_hosts host)

-- the fronts of a list, the empty one first, each with one member more than the one before
abbrev pub fronts : {A : Type 0} → List A → List (List A)
fronts [] = [] ∷ []
fronts (x ∷ xs) = [] ∷ map (λ front. x ∷ front) (fronts xs)

-- directories and a slash
abbrev pub folder_text : List (List ℕ) → List ℕ
folder_text front = path_text (front ++ [] ∷ [])

-- `/`, and up to three more, each with one more directory
abbrev pub folders_of : List (List ℕ) → List (List ℕ)
folders_of path = map folder_text (take 4 (fronts (directories path)))

-- the path with `?` and the query, where there is one
abbrev pub path_with_query : List ℕ → Option (List ℕ) → List (List ℕ)
path_with_query path None = []
path_with_query path (Some query) = (path ++ 63 ∷ query) ∷ []

-- the path with its query, the path, and then the folders
abbrev pub paths_of : List (List ℕ) → Option (List ℕ) → List (List ℕ)
paths_of path query = path_with_query (path_text path) query ++ path_text path ∷ folders_of path

-- each host with each path, host by host
abbrev pub combinations : List (List ℕ) → List (List ℕ) → List (List ℕ)
combinations hosts paths = flat_map (λ host. map (λ path. host ++ path) paths) hosts

-- the list without repeats: of equal ones the first stays
unfoldable pub first_occurrences : List (List ℕ) → List (List ℕ)
first_occurrences [] = []
first_occurrences (x ∷ xs) = x ∷ filter (λ y. not (bytes_eq y x)) (first_occurrences xs)

-- The expressions of a URL.
abbrev pub expressions_of : Url → List (List ℕ)
expressions_of url =
    first_occurrences
    (combinations (hosts_of url.host url.is_address) (paths_of url.path url.query))
