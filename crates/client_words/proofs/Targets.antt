-- Whom the words have a client ask.
use Rattle.std.proofs.Common.{◌≡◌, ℕ, List, [], Bool, true, false, cond, refl, subst, Option, Some, None}
use Rattle.std.specs.Prelude.{not, option_and_then, option_map, codes}
use Rattle.std.specs.Str.{chars}
use Rattle.http_edge.specs.Exchanges.{StandsInOneLine, IsTarget}
use Rattle.sb_words.specs.CommandLine.{value_among}
use Rattle.sb_words.specs.Values.{is_key, host_port_of}
use Rattle.update_client.specs.declared.options.FetchOptions.{FetchOptions}
use Rattle.client_words.specs.Asking.{asking_given, asking_of, has_flag, key_given, key_or_empty, options_given, server_given, target_of, Asking}
use Rattle.client_words.proofs.OneLines.{server_line, key_line, no_key_line}

-- the host that the words give, and the key, stand each in one line
server_by : (text : Option (List ℕ)) (server : List ℕ) → option_and_then (λ text. option_map (λ _. text) (host_port_of text)) text ≡ Some server → StandsInOneLine (chars server)
server_by None server e = absurd (cc)
server_by (Some text) server e = by_address (host_port_of text) refl e
  where
    by_address : (address : Option (List ℕ × ℕ)) → host_port_of text ≡ address → option_map (λ _. text) address ≡ Some server → StandsInOneLine (chars server)
    by_address None h k = absurd (cc)
    by_address (Some address) h k = let same : text ≡ server = cc in subst (λ (text : List ℕ). StandsInOneLine (chars text)) same (server_line text address h)

key_by : (text : Option (List ℕ)) (key : List ℕ) → key_or_empty text ≡ Some key → StandsInOneLine (chars key)
key_by None key e = let same : [] ≡ key = cc in subst (λ (text : List ℕ). StandsInOneLine (chars text)) same no_key_line
key_by (Some text) key e = by_test (is_key text) refl e
  where
    by_test : (b : Bool) → is_key text ≡ b → cond b (Some text) None ≡ Some key → StandsInOneLine (chars key)
    by_test true h k = let same : text ≡ key = cc in subst (λ (text : List ℕ). StandsInOneLine (chars text)) same (key_line text h)
    by_test false h k = absurd (cc)

-- what is asked for has a host and a key that stand each in one line
asking_by : (store : Option (List ℕ)) (server : Option (List ℕ)) (key : Option (List ℕ)) (options : Option FetchOptions) (need : Bool) (asking : Asking)
    → ((found : List ℕ) → server ≡ Some found → StandsInOneLine (chars found)) → ((found : List ℕ) → key ≡ Some found → StandsInOneLine (chars found))
    → option_and_then (λ store. option_and_then (λ server. option_and_then (λ key. option_map
    (λ options. asking_of store server key options need) options) key) server) store ≡ Some asking
    → IsTarget (target_of asking)
asking_by None server key options need asking host mark e = absurd (cc)
asking_by (Some store) None key options need asking host mark e = absurd (cc)
asking_by (Some store) (Some server) None options need asking host mark e = absurd (cc)
asking_by (Some store) (Some server) (Some key) None need asking host mark e = absurd (cc)
asking_by (Some store) (Some server) (Some key) (Some options) need asking host mark e =
    let is : asking_of store server key options need ≡ asking = cc in
    let target : IsTarget (target_of (asking_of store server key options need)) = record { host = host server refl; key = mark key refl } in
    subst (λ (a : Asking). IsTarget (target_of a)) is target

pub sound_asking : (named : List (List ℕ × List ℕ)) (asking : Asking) → asking_given named ≡ Some asking → IsTarget (target_of asking)
sound_asking named asking e =
    asking_by (value_among (codes "store") named) (server_given named) (key_given named) (options_given named) (not (has_flag (codes "no-digest") named)) asking
    (λ found h. server_by (value_among (codes "server") named) found h) (λ found h. key_by (value_among (codes "key") named) found h) e
