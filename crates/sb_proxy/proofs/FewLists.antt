-- The words of a proxy name few lists, and ask nothing about the program.
use Rattle.std.proofs.Common.{◌≡◌, ℕ, suc, ◌≤◌, List, [], ◌∷◌, length, Bool, true, false, cond, refl, sym, ap, subst, Option, Some, None, arith}
use Rattle.std.specs.Prelude.{◌&&◌, if◌then◌else◌, nat_le, option_and_then, option_map, codes}
use Rattle.std.specs.Str.{bytes_eq}
use Rattle.std.proofs.lemmas.Slice.Eq.{bytes_eq-Decides}
use Rattle.std.specs.Result.{result_ok}
use Rattle.std.proofs.lemmas.Bool.{leb-true}
use Rattle.sb_model.specs.declared.names.ListName.{ListName}
use Rattle.sb_model.specs.Names.{name_of}
use Rattle.sb_words.specs.About.{about_of, asked_by}
use Rattle.sb_words.specs.declared.asking.About.{About}
use Rattle.sb_words.specs.CommandLine.{Given, given_of}
use Rattle.sb_words.specs.Values.{names_of, few_names_of, different, has_each_once, lists_named}
use Rattle.client_words.specs.Asking.{Asking, asking_given, given_to, lists_given}
use Rattle.proxy_words.specs.ProxyLine.{ProxyWords, proxy_given, proxy_listen_given, proxy_numbers_given, proxy_of, proxy_shape, proxy_with}
use Rattle.proxy_words.specs.declared.line.ProxyNumbers.{ProxyNumbers}

counted : (name : Option ListName) (rest : Option (List ListName)) (n : ℕ) (names : List ListName) → ((found : List ListName) → rest ≡ Some found → length found ≡ n)
    → option_and_then (λ name. option_map (λ found. name ∷ found) rest) name ≡ Some names → length names ≡ suc n
counted None rest n names h e = absurd (cc)
counted (Some name) None n names h e = absurd (cc)
counted (Some name) (Some found) n names h e =
    let is : name ∷ found ≡ names = cc in
    let count : length found ≡ n = h found refl in
    omega (arith, count, ap length is)

as_many : (texts : List (List ℕ)) (names : List ListName) → names_of texts ≡ Some names → length names ≡ length texts
as_many [] names e = let is : [] ≡ names = cc in ap length (sym is)
as_many (text ∷ texts) names e = counted (result_ok (name_of text)) (names_of texts) (length texts) names (as_many texts) e

few_if : (texts : List (List ℕ)) (names : List ListName) (a b : Bool) → nat_le (length texts) 8 ≡ b → cond (a && b) (names_of texts) None ≡ Some names → length names ≤ 8
few_if texts names true true k e =
    let count = as_many texts names e in
    let high : length texts ≤ 8 = leb-true (length texts) 8 k in
    omega (arith, count, high)
few_if texts names true false k e = absurd (cc)
few_if texts names false b k e = absurd (cc)

same_if : (names found : List ListName) (once : Bool) → cond once (Some names) None ≡ Some found → names ≡ found
same_if names found true e = cc
same_if names found false e = absurd (cc)

each_once : (some : Option (List ListName)) (names : List ListName) → ((found : List ListName) → some ≡ Some found → length found ≤ 8) → option_and_then different some ≡ Some names → length names ≤ 8
each_once None names h e = absurd (cc)
each_once (Some found) names h e = subst (λ (ns : List ListName). length ns ≤ 8) (same_if found names (has_each_once found) e) (h found refl)

few_named : (texts : List (List ℕ)) (names : List ListName) → lists_named texts ≡ Some names → length names ≤ 8
unfolding lists_named
few_named texts names e = each_once (few_names_of texts) names (λ found same. few_if texts found _ _ refl same) e

names_kept : (names : List ListName) (asking : Option Asking) (listen : Option (List ℕ)) (numbers : Option ProxyNumbers) (line : ProxyWords)
    → option_and_then (λ asking. option_and_then (λ listen. option_map (λ numbers. record { asking = asking; listen = listen; names = names; numbers = numbers }) numbers) listen) asking ≡ Some line
    → names ≡ line.names
names_kept names None listen numbers line e = absurd (cc)
names_kept names (Some asking) None numbers line e = absurd (cc)
names_kept names (Some asking) (Some listen) None line e = absurd (cc)
names_kept names (Some asking) (Some listen) (Some numbers) line e =
    let is : record { asking = asking; listen = listen; names = names; numbers = numbers } ≡ line = cc in
    ap (λ (l : ProxyWords). l.names) is

few_with : (given : Given) (some : Option (List ListName)) (line : ProxyWords) → ((names : List ListName) → some ≡ Some names → length names ≤ 8)
    → option_and_then (λ names. proxy_with names given.named) some ≡ Some line → length line.names ≤ 8
few_with given None line h e = absurd (cc)
few_with given (Some names) line h e =
    subst (λ (ns : List ListName). length ns ≤ 8) (names_kept names (asking_given given.named) (proxy_listen_given given.named) (proxy_numbers_given given.named) line e) (h names refl)

few_given : (given : Option Given) (line : ProxyWords) → option_and_then proxy_given given ≡ Some line → length line.names ≤ 8
few_given None line e = absurd (cc)
few_given (Some given) line e = few_with given (lists_given given) line (few_named given.positionals) e

pub few_lists : (words : List (List ℕ)) (line : ProxyWords) → proxy_of words ≡ Some line → length line.names ≤ 8
few_lists words line e = few_given (given_to (codes "sbproxy") (codes "serve") proxy_shape words) line e

-- ---- words of `serve` ask nothing about the program

second_of : (a b : Bool) (given : Option Given) (line : ProxyWords) → option_and_then proxy_given (if a && b then given else None) ≡ Some line → b ≡ true
second_of true true given line e = refl
second_of true false given line e = absurd (cc)
second_of false b given line e = absurd (cc)

asked_if : (test : Bool) (asked : Option About) (about : About) → (if test then asked else None) ≡ Some about → asked ≡ Some about
asked_if true asked about is = is
asked_if false asked about is = absurd (cc)

pub serve_or_tell : (words : List (List ℕ)) (line : ProxyWords) (about : About) → proxy_of words ≡ Some line → about_of (codes "sbproxy") words ≡ Some about → ⊥
serve_or_tell [] line about e h = cc
serve_or_tell (first ∷ []) line about e h = cc
serve_or_tell (first ∷ second ∷ []) line about e h =
    let is : second ≡ codes "serve" = (bytes_eq-Decides second (codes "serve")).0 (second_of (bytes_eq first (codes "sbproxy")) (bytes_eq second (codes "serve")) (given_of proxy_shape []) line e) in
    let asked : asked_by second ≡ Some about = asked_if (bytes_eq first (codes "sbproxy")) (asked_by second) about h in
    let same : asked_by second ≡ None = ap asked_by is in
    cc
serve_or_tell (first ∷ second ∷ third ∷ words) line about e h = cc

-- words of `serve` say one thing
pub one_line : (line other : ProxyWords) → Some line ≡ Some other → line ≡ other
one_line line other e = cc
