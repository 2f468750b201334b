-- The fronts of a path that end with a slash.
use Rattle.std.proofs.Common.{◌-◌, Some, None, subst, length-drop, get_or-drop, ◌≡◌, ◌≢◌, ℕ, zero, suc, ◌+◌, ◌<◌, ◌≤◌, List, [], ◌∷◌, ◌++◌, Bool, true, false, cond, eqb, length, get_or, take, drop, refl, sym, ap, ◌∙◌, append_assoc, arith, length-append}
use Rattle.std.specs.Prelude.{map, All}
use Rattle.std.specs.List.{AllByRecursion, list_any}
use Rattle.std.proofs.lemmas.Bool.{or_parts}
use Rattle.std.proofs.Math.Seq.{take-add}
use Rattle.std.proofs.lemmas.Bool.{eqb-true}
use Rattle.memchr.specs.Find.{IsFirstByte}
use Rattle.url_expressions.specs.Expressions.{first_occurrences}
use Rattle.url_expressions.proofs.Search.{Lacks, is_slash, lacks_all, lacks_before}
use Rattle.url_expressions.proofs.Pieces.{pushed, fronts_apart, pushed_piece}
use Rattle.std.proofs.lemmas.List.{take_rest, append-nil, map-append, map-id, take-append-le, take-append-drop, take_all, take_more}
use Rattle.std.proofs.lemmas.List.Elements.{recursion_from_All}
use Rattle.url_canon.specs.Path.{path_text, directories, IsNormalPath}
use Rattle.url_expressions.specs.Expressions.{fronts, folder_text, folders_of}

-- the fronts of a path's text that end with a slash, the shortest first
unfoldable pub slash_fronts : List ℕ → List (List ℕ)
slash_fronts [] = []
slash_fronts (byte ∷ bytes) = cond (eqb byte 47) ((byte ∷ []) ∷ []) [] ++ map (λ front. byte ∷ front) (slash_fronts bytes)

map-map : {A B C : Type 0} (f : B → C) (g : A → B) (xs : List A) → map f (map g xs) ≡ map (λ x. f (g x)) xs
map-map f g [] = refl
map-map f g (x ∷ xs) = ap (λ ys. f (g x) ∷ ys) (map-map f g xs)

map-cond : (x : ℕ) (front : List ℕ) (b : Bool) → map (λ f. x ∷ f) (cond b (front ∷ []) []) ≡ cond b ((x ∷ front) ∷ []) []
map-cond x front true = refl
map-cond x front false = refl

-- one more byte at the end
pub slash_fronts_push : (xs : List ℕ) (b : ℕ) → slash_fronts (xs ++ b ∷ []) ≡ slash_fronts xs ++ cond (eqb b 47) ((xs ++ b ∷ []) ∷ []) []
unfolding slash_fronts
slash_fronts_push [] b = append-nil (cond (eqb b 47) ((b ∷ []) ∷ []) [])
slash_fronts_push (x ∷ xs) b =
    let first = cond (eqb x 47) ((x ∷ []) ∷ []) [] in
    ap (λ fs. first ++ map (λ f. x ∷ f) fs) (slash_fronts_push xs b)
    ∙ ap (λ fs. first ++ fs) (map-append (λ f. x ∷ f) (slash_fronts xs) (cond (eqb b 47) ((xs ++ b ∷ []) ∷ []) []) ∙ ap (λ fs. map (λ f. x ∷ f) (slash_fronts xs) ++ fs) (map-cond x (xs ++ b ∷ []) (eqb b 47)))
    ∙ sym (append_assoc first (map (λ f. x ∷ f) (slash_fronts xs)) (cond (eqb b 47) ((x ∷ xs ++ b ∷ []) ∷ []) []))

no_slash : (x : ℕ) → x ≢ 47 → eqb x 47 ≡ false
no_slash x h = grind arith

-- bytes without a slash stand before each front
after_bytes : (component rest : List ℕ) → AllByRecursion (λ byte. byte ≢ 47) component → slash_fronts (component ++ rest) ≡ map (λ f. component ++ f) (slash_fronts rest)
unfolding slash_fronts
after_bytes [] rest h = sym (map-id (slash_fronts rest))
after_bytes (x ∷ xs) rest h =
    ap (λ b. cond b ((x ∷ []) ∷ []) [] ++ map (λ f. x ∷ f) (slash_fronts (xs ++ rest))) (no_slash x h.0)
    ∙ ap (λ fs. map (λ f. x ∷ f) fs) (after_bytes xs rest h.1)
    ∙ map-map (λ f. x ∷ f) (λ f. xs ++ f) (slash_fronts rest)

-- a component of a path stands before each front but the first
after_component : (component rest : List ℕ) → AllByRecursion (λ byte. byte ≢ 47) component → slash_fronts (47 ∷ component ++ rest) ≡ (47 ∷ []) ∷ map (λ f. 47 ∷ component ++ f) (slash_fronts rest)
unfolding slash_fronts
after_component component rest h =
    ap (λ fs. (47 ∷ []) ∷ fs) (ap (λ fs. map (λ f. 47 ∷ f) fs) (after_bytes component rest h) ∙ map-map (λ f. 47 ∷ f) (λ f. component ++ f) (slash_fronts rest))

-- each front is the text of a front of the directories
all_fronts : (path : List (List ℕ)) → AllByRecursion (λ component. AllByRecursion (λ byte. byte ≢ 47) component) path → 0 < length path → slash_fronts (path_text path) ≡ map folder_text (fronts (directories path))
unfolding slash_fronts
all_fronts [] h some = absurd (omega arith)
all_fronts (component ∷ []) h some = after_component component [] h.0
all_fronts (component ∷ next ∷ rest) h some =
    after_component component (path_text (next ∷ rest)) h.0
    ∙ ap (λ fs. (47 ∷ []) ∷ fs) (ap (λ fs. map (λ f. 47 ∷ component ++ f) fs) (all_fronts (next ∷ rest) h.1 (omega arith)) ∙ map-map (λ f. 47 ∷ component ++ f) folder_text (fronts (directories (next ∷ rest))) ∙ sym (map-map folder_text (λ front. component ∷ front) (fronts (directories (next ∷ rest)))))

recursions : (path : List (List ℕ)) → AllByRecursion (λ component. All (λ byte. byte ≢ 47) component) path → AllByRecursion (λ component. AllByRecursion (λ byte. byte ≢ 47) component) path
recursions [] h = tt
recursions (component ∷ rest) h = (recursion_from_All (λ byte. byte ≢ 47) component h.0, recursions rest h.1)

take-map : {A B : Type 0} (f : A → B) (n : ℕ) (xs : List A) → take n (map f xs) ≡ map f (take n xs)
take-map f zero xs = refl
take-map f (suc n) [] = refl
take-map f (suc n) (x ∷ xs) = ap (λ ys. f x ∷ ys) (take-map f n xs)

-- the first four are the folders
pub folders_from_fronts : (path : List (List ℕ)) → All (λ component. All (λ byte. byte ≢ 47) component) path → 0 < length path → take 4 (slash_fronts (path_text path)) ≡ folders_of path
folders_from_fronts path h some =
    ap (λ fs. take 4 fs) (all_fronts path (recursions path (recursion_from_All (λ component. All (λ byte. byte ≢ 47) component) path h)) some)
    ∙ take-map folder_text 4 (fronts (directories path))

-- a text without a slash has no such front
no_fronts : (xs : List ℕ) → Lacks is_slash xs → slash_fronts xs ≡ []
unfolding slash_fronts
no_fronts [] h = refl
no_fronts (x ∷ xs) h =
    let parts = or_parts (is_slash x) (list_any is_slash xs) h in
    ap (λ b. cond b ((x ∷ []) ∷ []) [] ++ map (λ f. x ∷ f) (slash_fronts xs)) parts.0 ∙ ap (λ fs. map (λ f. x ∷ f) fs) (no_fronts xs parts.1)

fronts_append : (xs ys : List ℕ) → slash_fronts (xs ++ ys) ≡ slash_fronts xs ++ map (λ f. xs ++ f) (slash_fronts ys)
unfolding slash_fronts
fronts_append [] ys = sym (map-id (slash_fronts ys))
fronts_append (x ∷ xs) ys =
    let first = cond (eqb x 47) ((x ∷ []) ∷ []) [] in
    ap (λ fs. first ++ map (λ f. x ∷ f) fs) (fronts_append xs ys)
    ∙ ap (λ fs. first ++ fs) (map-append (λ f. x ∷ f) (slash_fronts xs) (map (λ f. xs ++ f) (slash_fronts ys)) ∙ ap (λ fs. map (λ f. x ∷ f) (slash_fronts xs) ++ fs) (map-map (λ f. x ∷ f) (λ f. xs ++ f) (slash_fronts ys)))
    ∙ sym (append_assoc first (map (λ f. x ∷ f) (slash_fronts xs)) (map (λ f. x ∷ xs ++ f) (slash_fronts ys)))

fronts_slashless : (xs ys : List ℕ) → Lacks is_slash ys → slash_fronts (xs ++ ys) ≡ slash_fronts xs
fronts_slashless xs ys h =
    fronts_append xs ys ∙ ap (λ fs. slash_fronts xs ++ map (λ f. xs ++ f) fs) (no_fronts ys h) ∙ append-nil (slash_fronts xs)

-- one slash more
pub fronts_next : (path : List ℕ) (from k : ℕ) → from + k < length path → Lacks is_slash (take k (drop from path)) → get_or path (from + k) 0 ≡ 47 → slash_fronts (take (from + k + 1) path) ≡ slash_fronts (take from path) ++ take (from + k + 1) path ∷ []
fronts_next path from k inside lacks slash =
    let longer : take (from + k + 1) path ≡ take (from + k) path ++ 47 ∷ [] = take_more path (from + k) 0 inside ∙ ap (λ b. take (from + k) path ++ b ∷ []) slash in
    let run : take (from + k) path ≡ take from path ++ take k (drop from path) = take-add from k path in
    ap (λ t. slash_fronts t) longer
    ∙ slash_fronts_push (take (from + k) path) 47
    ∙ ap (λ t. slash_fronts t ++ (take (from + k) path ++ 47 ∷ []) ∷ []) run
    ∙ ap (λ fs. fs ++ (take (from + k) path ++ 47 ∷ []) ∷ []) (fronts_slashless (take from path) (take k (drop from path)) lacks)
    ∙ ap (λ t. slash_fronts (take from path) ++ t ∷ []) (sym longer)

-- no slash more
pub fronts_last : (path : List ℕ) (from : ℕ) → Lacks is_slash (drop from path) → slash_fronts path ≡ slash_fronts (take from path)
fronts_last path from lacks =
    ap (λ t. slash_fronts t) (sym (take-append-drop from path)) ∙ fronts_slashless (take from path) (drop from path) lacks

-- where there are few, they are all, and where there are many, they are the first
pub first_four : (path : List ℕ) (from : ℕ) → length (slash_fronts (take from path)) ≡ 4 → take 4 (slash_fronts path) ≡ slash_fronts (take from path)
first_four path from full =
    ap (λ t. take 4 (slash_fronts t)) (sym (take-append-drop from path))
    ∙ ap (λ fs. take 4 fs) (fronts_append (take from path) (drop from path))
    ∙ take-append-le 4 (slash_fronts (take from path)) (map (λ f. take from path ++ f) (slash_fronts (drop from path))) (omega arith)
    ∙ take_all 4 (slash_fronts (take from path)) (omega arith)

pub few : (fs : List (List ℕ)) → length fs ≤ 4 → take 4 fs ≡ fs
few fs h = take_all 4 fs h

pub next_folder : (path : List ℕ) (from k to : ℕ) → from ≤ length path → IsFirstByte is_slash (take (length path - from) (drop from path)) (Some k) → to ≡ from + (k + 1) → (to ≤ length path) × (slash_fronts (take to path) ≡ slash_fronts (take from path) ++ take to path ∷ [])
next_folder path from k to within found at =
    let there : IsFirstByte is_slash (drop from path) (Some k) = subst (λ t. IsFirstByte is_slash t (Some k)) (take_rest path from) found in
    let high = there.0.high in
    let inside : from + k < length path = omega (arith, length-drop from path) in
    let slash = sym (get_or-drop from path k 0) ∙ eqb-true (get_or (drop from path) k 0) 47 there.1 in
    let next : to ≡ from + k + 1 = omega arith in
    (omega arith, subst (λ n. slash_fronts (take n path) ≡ slash_fronts (take from path) ++ take n path ∷ []) (sym next) (fronts_next path from k inside (lacks_before is_slash (drop from path) k there) slash))

pub no_folder : (path : List ℕ) (from : ℕ) → IsFirstByte is_slash (take (length path - from) (drop from path)) None → slash_fronts path ≡ slash_fronts (take from path)
no_folder path from found = fronts_last path from (lacks_all is_slash (drop from path) (subst (λ t. IsFirstByte is_slash t None) (take_rest path from) found))

-- one folder more
pub folder_pushed : (path rest : List ℕ) (from to : ℕ) (lens : List ℕ) (texts : List (List ℕ)) → to ≤ length path → slash_fronts (take to path) ≡ slash_fronts (take from path) ++ take to path ∷ [] → All (λ len. len ≤ length (path ++ rest)) lens
    → map (λ len. take len (path ++ rest)) lens ≡ first_occurrences (texts ++ slash_fronts (take from path)) → map (λ len. take len (path ++ rest)) (pushed lens to) ≡ first_occurrences (texts ++ slash_fronts (take to path))
folder_pushed path rest from to lens texts small next within so_far =
    pushed_piece (λ len. take len (path ++ rest)) (length (path ++ rest)) (fronts_apart (path ++ rest)) lens to (texts ++ slash_fronts (take from path)) within (omega (arith, length-append path rest)) so_far
    ∙ ap (λ t. first_occurrences ((texts ++ slash_fronts (take from path)) ++ t ∷ [])) (take-append-le to path rest small)
    ∙ ap (λ ts. first_occurrences ts) (append_assoc texts (slash_fronts (take from path)) (take to path ∷ []) ∙ ap (λ ts. texts ++ ts) (sym next))

-- the folders of a path are the first four of such fronts
pub folders_all : (path : List ℕ) (components : List (List ℕ)) (from : ℕ) → IsNormalPath components → path ≡ path_text components → slash_fronts path ≡ slash_fronts (take from path) → length (slash_fronts (take from path)) ≤ 4 → slash_fronts (take from path) ≡ folders_of components
folders_all path components from normal at all few_fronts =
    sym (ap (λ fs. take 4 fs) (ap (λ t. slash_fronts t) (sym at) ∙ all) ∙ few (slash_fronts (take from path)) few_fronts) ∙ folders_from_fronts components normal.no_slash normal.some

pub folders_four : (path : List ℕ) (components : List (List ℕ)) (from : ℕ) → IsNormalPath components → path ≡ path_text components → length (slash_fronts (take from path)) ≡ 4 → slash_fronts (take from path) ≡ folders_of components
folders_four path components from normal at full =
    sym (ap (λ t. take 4 (slash_fronts t)) (sym at) ∙ first_four path from full) ∙ folders_from_fronts components normal.no_slash normal.some
