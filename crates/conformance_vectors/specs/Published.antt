-- The published examples: canonical URLs and expressions as the Safe Browsing documentation has them, on hosts that are
-- reserved for examples, texts that are refused, Rice records, and hosts of other scripts.
use Rattle.std.specs.Prelude.{ℕ, List, [], ◌∷◌, ◌++◌, codes}
use Rattle.conformance_vectors.specs.declared.case.Case.{Case}
use Rattle.conformance_vectors.specs.declared.case.Case.TheVariants as case

-- An example: a text and the text of its canonical URL; a text that has none and the number of its fault; a text and the
-- lines of its expressions; or numbers, and the parameter and the bytes of their Rice record.
pub data Example : Type 0 where
  Canon : List ℕ → List ℕ → Example
  Refused : List ℕ → ℕ → Example
  Expressions : List ℕ → List ℕ → Example
  Rice : List ℕ → ℕ → List ℕ → Example

-- the example that a case holds
abbrev pub held_by : Case → Example
held_by (case.Canon url text) = Canon url.now text.now
held_by (case.Refused url number) = Refused url.now number
held_by (case.Expressions url lines) = Expressions url.now lines.now
held_by (case.Rice values parameter coded) = Rice values.now parameter coded.now

-- all of them in order
abbrev pub published_examples : List Example
published_examples =
    Canon (codes "http://host/%25%32%35") (codes "http://host/%25") ∷
    Canon (codes "http://host/%%%25%32%35asd%%") (codes "http://host/%25%25%25asd%25%25") ∷
    Canon (codes "http://.Warn..example.:8080/a/../b//c?x//y#f") (codes "http://warn.example/b/c?x//y") ∷
    Canon (codes "http://3221225985/blah") (codes "http://192.0.2.1/blah") ∷
    Canon (codes "http://0300.0.01001/blah") (codes "http://192.0.2.1/blah") ∷
    Canon (codes "http://256.1.1.1/") (codes "http://256.1.1.1/") ∷
    Refused (codes "http:///x") 2 ∷
    Refused [] 1 ∷
    Refused (codes " ") 1 ∷
    Expressions (codes "http://a.b.c/1/2.html?param=1")
    (codes "a.b.c/1/2.html?param=1\na.b.c/1/2.html\na.b.c/\na.b.c/1/\nb.c/1/2.html?param=1\nb.c/1/2.html\nb.c/\nb.c/1/\n") ∷
    Expressions (codes "http://192.0.2.1/1/")
    (codes "192.0.2.1/1/\n192.0.2.1/\n") ∷
    Rice (5 ∷ 9 ∷ 20 ∷ []) 2 (177 ∷ 1 ∷ []) ∷
    Rice (5 ∷ 16777216 ∷ []) 23 (237 ∷ 255 ∷ 255 ∷ 1 ∷ []) ∷
    Rice (7 ∷ []) 0 [] ∷
    Canon (codes "http://host/%25%32%35%25%32%35") (codes "http://host/%25%25") ∷
    Canon (codes "http://host/%2525252525252525") (codes "http://host/%25") ∷
    Canon (codes "http://host%23.example/a%2521b%2540c") (codes "http://host%23.example/a!b@c") ∷
    Canon (codes "warn.example") (codes "http://warn.example/") ∷
    Canon (codes "http://.[2001:DB8::1]x/") (codes "http://[2001:db8::1]/") ∷
    Canon (codes "http://warn.example/foo\tbar\rbaz\n2") (codes "http://warn.example/foobarbaz2") ∷
    Canon (codes "http://warn.example/q?r?s") (codes "http://warn.example/q?r?s") ∷
    Canon (codes "http://warn.example/blah/..") (codes "http://warn.example/") ∷
    Canon (codes "  http://warn.example/  ") (codes "http://warn.example/") ∷
    Canon (codes "http:// warn.example/") (codes "http://%20warn.example/") ∷
    Canon (codes "http://" ++ 1 ∷ 128 ∷ codes ".example/") (codes "http://%01%80.example/") ∷
    Canon (codes "https://user:pw@warn.example:8443/") (codes "https://warn.example/") ∷
    Canon (codes "http://warn.example/ab%23cd") (codes "http://warn.example/ab%23cd") ∷
    Canon (codes "http://warn.example//two?more//slashes") (codes "http://warn.example/two?more//slashes") ∷
    Canon (codes "http://[2001:DB8::1]:80/") (codes "http://[2001:db8::1]/") ∷
    Canon (codes "http://0x7f.1/") (codes "http://127.0.0.1/") ∷
    Canon (codes "http://b%C3%BCcher.example/") (codes "http://xn--bcher-kva.example/") ∷
    Canon (codes "http://%EF%BC%91%EF%BC%92%EF%BC%97.0.0.1/") (codes "http://127.0.0.1/") ∷
    Canon (codes "http://a%E3%80%82example/") (codes "http://a.example/") ∷
    Canon (codes "http://%EF%BC%85.example/") (codes "http://%EF%BC%85.example/") ∷
    Canon (codes "http://%80.example/") (codes "http://%80.example/") ∷
    []
