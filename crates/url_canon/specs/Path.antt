-- The path of a URL as its components, which RFC 3986 calls segments (section 3.3), without its dot
-- segments (section 5.2.4) and without runs of slashes (Safe Browsing v4, "URLs and Hashing",
-- section "Canonicalization", canonicalizing the path).
use Rattle.std.specs.Prelude.{◌≡◌, ◌≢◌, ◌<◌, All, false, ℕ, ◌-◌, List, [], ◌∷◌, ◌++◌, ◌==◌, Bool, ◌||◌, if◌then◌else◌, codes, length, take, drop, fold, bytes_eq}
use Rattle.std.specs.List.{flat_map, slice_split}
use Rattle.url_canon.specs.Words.{is_nil, last_part}

abbrev pub is_slash : ℕ → Bool
is_slash byte = byte == 47

-- each component after its slash
abbrev pub path_text : List (List ℕ) → List ℕ
path_text components = flat_map (λ component. 47 ∷ component) components

-- what stands after each slash of a path. The empty path has one empty component, as `/` has.
abbrev pub components_of : List ℕ → List (List ℕ)
components_of path = slice_split is_slash (drop 1 path)

abbrev pub is_single_dot : List ℕ → Bool
is_single_dot component = bytes_eq component (codes ".")

abbrev pub is_double_dot : List ℕ → Bool
is_double_dot component = bytes_eq component (codes "..")

-- a dot segment: `.`, the directory of what stands before it, or `..`, the directory above
abbrev pub is_dot_segment : List ℕ → Bool
is_dot_segment component = is_single_dot component || is_double_dot component

-- One component more: `.` goes, and `..` goes with the component before it, if any.
abbrev pub with_component : List (List ℕ) → List ℕ → List (List ℕ)
with_component before component =
    if is_single_dot component then before
    else (if is_double_dot component
    then take (length before - 1) before else before ++ component ∷ [])

-- the components with `.` and `..` carried out; where the last was one of these, an empty one is
-- last
unfoldable pub without_dot_segments : List (List ℕ) → List (List ℕ)
without_dot_segments components =
    fold with_component [] components
    ++ (if is_dot_segment (last_part components) then ([] ∷ []) else [])

-- without the empty ones but the last
abbrev pub without_empty : List (List ℕ) → List (List ℕ)
without_empty [] = []
without_empty (component ∷ []) = component ∷ []
without_empty (component ∷ next ∷ components) =
    if is_nil component then without_empty (next ∷ components)
    else (component ∷ without_empty (next ∷ components))

-- the components of a canonical path
unfoldable pub path_of : List ℕ → List (List ℕ)
path_of path = without_empty (without_dot_segments (components_of path))

-- all components but the last
abbrev pub directories : List (List ℕ) → List (List ℕ)
directories [] = []
directories (component ∷ []) = []
directories (component ∷ next ∷ rest) = component ∷ directories (next ∷ rest)

-- There is a component, none has a slash, none is a dot segment, and none but the last is empty.
pub record IsNormalPath (components : List (List ℕ)) : Type 0 where
  pub some : 0 < length components
  pub no_slash : All (λ component. All (λ byte. byte ≢ 47) component) components
  pub no_dots : All (λ component. is_dot_segment component ≡ false) components
  pub no_empty : All (λ component. component ≢ []) (directories components)
