-- Expressions as pieces of a URL's text.
use Rattle.std.proofs.Common.{◌≡◌, ℕ, ◌+◌, ◌-◌, ◌<◌, ◌≤◌, All, List, [], ◌∷◌, ◌++◌, not, cond, length, take, drop, get_or, Option, Some, None, refl, sym, ap, subst, ◌∙◌, arith, append_assoc, length-append, length-drop}
use Rattle.std.specs.Prelude.{map}
use Rattle.std.specs.List.{flat_map, AllByRecursion}
use Rattle.std.proofs.lemmas.List.{append-nil, drop-append-le, take_all, take_rest, take_more, flat_map_more}
use Rattle.std.proofs.lemmas.List.Elements.{recursion_from_All, All-nil}
use Rattle.std.proofs.Math.Seq.{take-append-add, take-append_seam, drop-append_seam}
use Rattle.url_canon.specs.Path.{path_text}
use Rattle.url_canon.specs.Url.{query_text}
use Rattle.url_expressions.specs.Expressions.{first_occurrences, combinations, path_with_query, paths_of, folders_of, folder_text}
use Rattle.url_expressions.proofs.Occurrences.{equal}
use Rattle.url_expressions.proofs.Apart.{IsRooted}
use Rattle.url_expressions.proofs.Pieces.{pushed, fronts_apart, pushed_piece, pushed_within}

-- a host of a text and a path behind it are one piece
one_piece : (host rest : List ℕ) (place len : ℕ) → place ≤ length host → take (length host - place + len) (drop place (host ++ rest)) ≡ drop place host ++ take len rest
one_piece host rest place len small =
    let back : length (drop place host) ≡ length host - place = length-drop place host in
    ap (λ t. take (length host - place + len) t) (drop-append-le place host rest small)
    ∙ ap (λ n. take (n + len) (drop place host ++ rest)) (sym back)
    ∙ take-append-add (drop place host) rest len

pieces_of : (host rest : List ℕ) (place : ℕ) (lens : List ℕ) → place ≤ length host → map (λ len. take (length host - place + len) (drop place (host ++ rest))) lens ≡ map (λ path. drop place host ++ path) (map (λ len. take len rest) lens)
pieces_of host rest place [] small = refl
pieces_of host rest place (len ∷ lens) small = ap (λ t. t ∷ map (λ len. take (length host - place + len) (drop place (host ++ rest))) lens) (one_piece host rest place len small) ∙ ap (λ ts. (drop place host ++ take len rest) ∷ ts) (pieces_of host rest place lens small)

all_pieces : (host rest : List ℕ) (places lens : List ℕ) → AllByRecursion (λ place. place ≤ length host) places → flat_map (λ place. map (λ len. take (length host - place + len) (drop place (host ++ rest))) lens) places ≡ combinations (map (λ place. drop place host) places) (map (λ len. take len rest) lens)
all_pieces host rest [] lens h = refl
all_pieces host rest (place ∷ places) lens h =
    ap (λ ts. ts ++ flat_map (λ place. map (λ len. take (length host - place + len) (drop place (host ++ rest))) lens) places) (pieces_of host rest place lens h.0)
    ∙ ap (λ ts. map (λ path. drop place host ++ path) (map (λ len. take len rest) lens) ++ ts) (all_pieces host rest places lens h.1)

pub pieces_are : (host rest text : List ℕ) (places lens : List ℕ) → text ≡ host ++ rest → All (λ place. place ≤ length host) places → flat_map (λ place. map (λ len. take (length host - place + len) (drop place text)) lens) places ≡ combinations (map (λ place. drop place host) places) (map (λ len. take len rest) lens)
pieces_are host rest text places lens at h =
    ap (λ t. flat_map (λ place. map (λ len. take (length host - place + len) (drop place t)) lens) places) at ∙ all_pieces host rest places lens (recursion_from_All (λ place. place ≤ length host) places h)

-- each path begins with a slash

rooted-text : (cs : List (List ℕ)) (more : List ℕ) → 0 < length cs → IsRooted (path_text cs ++ more)
rooted-text [] more some = absurd (omega arith)
rooted-text (c ∷ cs) more some = ((c ++ path_text cs) ++ more, refl)

rooted-path : (cs : List (List ℕ)) → 0 < length cs → IsRooted (path_text cs)
rooted-path cs some = subst IsRooted (append-nil (path_text cs)) (rooted-text cs [] some)

rooted-folder : (front : List (List ℕ)) → IsRooted (folder_text front)
rooted-folder front = rooted-path (front ++ [] ∷ []) (omega (arith, length-append front ([] ∷ [])))

rooted-folders : (fs : List (List (List ℕ))) → AllByRecursion IsRooted (map folder_text fs)
rooted-folders [] = tt
rooted-folders (f ∷ fs) = (rooted-folder f, rooted-folders fs)

pub rooted_paths : (cs : List (List ℕ)) (query : Option (List ℕ)) → 0 < length cs → AllByRecursion IsRooted (paths_of cs query)
rooted_paths cs None some = (rooted-path cs some, rooted-folders _)
rooted_paths cs (Some query) some = (rooted-text cs (63 ∷ query) some, (rooted-path cs some, rooted-folders _))

-- the path with its query, and the path

twice : (x : List ℕ) → first_occurrences (x ∷ x ∷ []) ≡ first_occurrences (x ∷ [])
unfolding first_occurrences
twice x = ap (λ b. x ∷ cond (not b) (x ∷ []) []) (equal x)

both_paths : (cs : List (List ℕ)) (query : Option (List ℕ)) (path whole : List ℕ) → path ≡ path_text cs → whole ≡ path ++ query_text query → first_occurrences (whole ∷ path ∷ []) ≡ first_occurrences (path_with_query (path_text cs) query ++ path_text cs ∷ [])
both_paths cs None path whole at all =
    let same : whole ≡ path_text cs = all ∙ (append-nil path ∙ at) in
    ap (λ w. first_occurrences (w ∷ path ∷ [])) same ∙ ap (λ p. first_occurrences (path_text cs ∷ p ∷ [])) at ∙ twice (path_text cs)
both_paths cs (Some query) path whole at all =
    ap (λ w. first_occurrences (w ∷ path ∷ [])) (all ∙ ap (λ p. p ++ 63 ∷ query) at) ∙ ap (λ p. first_occurrences ((path_text cs ++ 63 ∷ query) ∷ p ∷ [])) at

front_of : (query : Option (List ℕ)) (path whole : List ℕ) → whole ≡ path ++ query_text query → take (length path) whole ≡ path
front_of query path whole all = ap (λ w. take (length path) w) all ∙ take-append_seam path (query_text query)

-- the two of them pushed
pub two_lens : (cs : List (List ℕ)) (query : Option (List ℕ)) (path whole : List ℕ) → path ≡ path_text cs → whole ≡ path ++ query_text query
    → map (λ len. take len whole) (pushed (pushed [] (length whole)) (length path)) ≡ first_occurrences (path_with_query (path_text cs) query ++ path_text cs ∷ [])
unfolding first_occurrences
two_lens cs query path whole at all =
    let small : length path ≤ length whole = omega (arith, ap (λ t. length t) all, length-append path (query_text query)) in
    let none = All-nil (λ len. len ≤ length whole) in
    let one = pushed_piece (λ len. take len whole) (length whole) (fronts_apart whole) [] (length whole) [] none (omega arith) refl in
    pushed_piece (λ len. take len whole) (length whole) (fronts_apart whole) (pushed [] (length whole)) (length path) ([] ++ take (length whole) whole ∷ []) (pushed_within (length whole) [] (length whole) none (omega arith)) small one
    ∙ ap (λ w. first_occurrences (w ∷ take (length path) whole ∷ [])) (take_all (length whole) whole (omega arith))
    ∙ ap (λ p. first_occurrences (whole ∷ p ∷ [])) (front_of query path whole all)
    ∙ both_paths cs query path whole at all

pub with_folders : (cs : List (List ℕ)) (query : Option (List ℕ)) → (path_with_query (path_text cs) query ++ path_text cs ∷ []) ++ folders_of cs ≡ paths_of cs query
with_folders cs query = append_assoc (path_with_query (path_text cs) query) (path_text cs ∷ []) (folders_of cs)

-- the pieces of one host more
pub piece_turn : (text : List ℕ) (n : ℕ) (places lens shown : List ℕ) (i : ℕ) (all new : List (List ℕ)) → i < length places → shown ≡ lens
    → new ≡ all ++ map (λ len. take (n - get_or places i 0 + len) (drop (get_or places i 0) text)) shown
    → all ≡ flat_map (λ place. map (λ len. take (n - place + len) (drop place text)) lens) (take i places)
    → new ≡ flat_map (λ place. map (λ len. take (n - place + len) (drop place text)) lens) (take (i + 1) places)
piece_turn text n places lens shown i all new inside same grown so_far =
    let each : ℕ → List (List ℕ) = λ place. map (λ len. take (n - place + len) (drop place text)) lens in
    let place : ℕ = get_or places i 0 in
    grown
    ∙ (ap (λ ls. all ++ map (λ len. take (n - place + len) (drop place text)) ls) same
    ∙ (ap (λ a. a ++ each place) so_far
    ∙ (flat_map_more each [] (take i places) place ∙ ap (λ ps. flat_map each ps) (sym (take_more places i 0 inside)))))

-- what stands behind the host
pub behind_host : (host rest text : List ℕ) → text ≡ host ++ rest → take (length text - length host) (drop (length host) text) ≡ rest
behind_host host rest text at = take_rest text (length host) ∙ (ap (λ t. drop (length host) t) at ∙ drop-append_seam host rest)
