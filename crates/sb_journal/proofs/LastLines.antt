-- The last of several lines of one hash.
use Rattle.std.proofs.Common.{◌≡◌, ℕ, List, [], ◌∷◌, ◌++◌, Bool, true, false, cond, if◌then◌else◌, reverse, refl, sym, ap, ◌∙◌, append_assoc, append-nil}
use Rattle.std.specs.Prelude.{◌||◌}
use Rattle.std.specs.List.{list_any}
use Rattle.std.specs.Str.{bytes_eq}
use Rattle.std.proofs.lemmas.List.{reverse-append}
use Rattle.sb_journal.specs.declared.hash_line.HashLine.{HashLine}
use Rattle.sb_journal.specs.Records.{hash_in, last_lines}

-- whether a line has a hash
abbrev pub is_of : List ℕ → HashLine → Bool
is_of hash line = bytes_eq (hash_in line) hash

-- The hashes that are seen are those of the lines behind, and what is kept are the last lines of these, backwards.
pub record IsBehind (all front kept : List HashLine) (seen : List (List ℕ)) : Type 0 where
  pub behind : List HashLine
  pub whole : all ≡ front ++ behind
  pub lasts : kept ≡ reverse (last_lines behind)
  pub hashes : (hash : List ℕ) → list_any (bytes_eq hash) seen ≡ list_any (is_of hash) behind

or_is : (a b c : Bool) → b ≡ c → cond a true b ≡ (a || c)
or_is true b c e = refl
or_is false b c e = e

kept_is : (line : HashLine) (behind kept after : List HashLine) (b : Bool) → list_any (is_of (hash_in line)) behind ≡ b → kept ≡ reverse (last_lines behind)
    → after ≡ (if b then kept else kept ++ line ∷ []) → after ≡ reverse (last_lines (line ∷ behind))
unfolding last_lines
kept_is line behind kept after true e h is = rw e (is ∙ h)
kept_is line behind kept after false e h is = rw e (is ∙ ap (λ (ls : List HashLine). ls ++ line ∷ []) h ∙ sym (reverse-append (line ∷ []) (last_lines behind)))

pub behind_more : (all front rest kept after : List HashLine) (line : HashLine) (seen seen' : List (List ℕ)) → IsBehind all front kept seen → front ≡ rest ++ line ∷ []
    → ((hash : List ℕ) → list_any (bytes_eq hash) seen' ≡ cond (bytes_eq (hash_in line) hash) true (list_any (bytes_eq hash) seen))
    → after ≡ (if list_any (bytes_eq (hash_in line)) seen then kept else kept ++ line ∷ []) → IsBehind all rest after seen'
behind_more all front rest kept after line seen seen' h e marks keeps = record {
  behind = line ∷ h.behind;
  whole = h.whole ∙ ap (λ (ls : List HashLine). ls ++ h.behind) e ∙ append_assoc rest (line ∷ []) h.behind;
  lasts = kept_is line h.behind kept after (list_any (bytes_eq (hash_in line)) seen) (sym (h.hashes (hash_in line))) h.lasts keeps;
  hashes = λ hash. marks hash ∙ or_is (bytes_eq (hash_in line) hash) (list_any (bytes_eq hash) seen) (list_any (is_of hash) h.behind) (h.hashes hash);
}

pub behind_none : (all kept : List HashLine) (seen : List (List ℕ)) → kept ≡ [] → seen ≡ [] → IsBehind all all kept seen
unfolding last_lines
behind_none all kept seen none e = record { behind = []; whole = sym (append-nil all); lasts = none; hashes = λ hash. ap (list_any (bytes_eq hash)) e }
