-- Whom a proxy's command line has it ask.
use Rattle.std.proofs.Common.{◌≡◌, List, Option, Some, None, refl, ap, subst}
use Rattle.std.specs.Prelude.{option_and_then, option_map, codes}
use Rattle.http_edge.specs.Exchanges.{IsTarget}
use Rattle.sb_model.specs.declared.names.ListName.{ListName}
use Rattle.sb_words.specs.CommandLine.{Text}
use Rattle.client_words.specs.Asking.{asking_given, given_to, lists_given, target_of, Asking}
use Rattle.proxy_words.specs.ProxyLine.{proxy_given, proxy_listen_given, proxy_numbers_given, proxy_shape, proxy_with, AsksSoundServer, ProxyWords}
use Rattle.proxy_words.specs.declared.line.ProxyNumbers.{ProxyNumbers}

some_step : {A B : Type 0} (f : A → Option B) (o : Option A) (y : B) → option_and_then f o ≡ Some y → (x : A) × (o ≡ Some x) × (f x ≡ Some y)
some_step f None y h = absurd (cc)
some_step f (Some x) y h = (x, refl, h)

some_map : {A B : Type 0} (f : A → B) (o : Option A) (y : B) → option_map f o ≡ Some y → (x : A) × (f x ≡ y)
some_map f None y h = absurd (cc)
some_map f (Some x) y h = (x, cc)

abbrev made : Asking → List ListName → Text → ProxyNumbers → ProxyWords
made asking names listen numbers = record { asking = asking; listen = listen; names = names; numbers = numbers }

abbrev with_asking : List ListName → List (Text × Text) → Asking → Option ProxyWords
with_asking names named asking = option_and_then (λ listen. option_map (made asking names listen) (proxy_numbers_given named)) (proxy_listen_given named)

pub sound : ((named : List (Text × Text)) (asking : Asking) → asking_given named ≡ Some asking → IsTarget (target_of asking)) → (words : List Text) → AsksSoundServer words
sound law words line is =
    let given = some_step proxy_given (given_to (codes "sbproxy") (codes "serve") proxy_shape words) line is in
    let named : List (Text × Text) = given.0.named in
    let names = some_step (λ ns. proxy_with ns named) (lists_given given.0) line given.2 in
    let asking = some_step (with_asking names.0 named) (asking_given named) line names.2 in
    let listen = some_step (λ listen. option_map (made asking.0 names.0 listen) (proxy_numbers_given named)) (proxy_listen_given named) line asking.2 in
    let numbers = some_map (made asking.0 names.0 listen.0) (proxy_numbers_given named) line listen.2 in
    let same : asking.0 ≡ line.asking = ap (λ (l : ProxyWords). l.asking) numbers.1 in
    subst (λ (a : Asking). IsTarget (target_of a)) same (law named asking.0 asking.1)
