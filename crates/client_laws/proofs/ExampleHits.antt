-- The hit of the example, computed from the standard's definition of SHA-256.
use Rattle.std.proofs.Common.{◌≡◌, ℕ, List, [], ◌∷◌, map, flat_map, codes, refl, ap, ◌∙◌}
use Rattle.sha2.specs.Sha256.{compress, digest_bytes, first_words, hash_after, rounds, schedule, sha256}
use Rattle.hash_prefixes.specs.declared.hashes.FullHash.{FullHash}
use Rattle.url_expressions.specs.Expressions.{expressions_of, components, last_components, first_occurrences}
use Rattle.url_hashes.specs.Hashes.{full_hash_of, hashes_of}
use Rattle.url_checker.specs.Hits.{hits_on, hits_of}
use Rattle.client_laws.specs.Example.{example_url, expression_hash, example_hit, held_at}

digest_of_expression : sha256 (codes "1.2.3.4/") ≡ expression_hash
unfolding first_words schedule rounds compress hash_after digest_bytes sha256
digest_of_expression = refl

one_expression : expressions_of example_url ≡ codes "1.2.3.4/" ∷ []
unfolding components last_components first_occurrences
one_expression = refl

one_hash : hashes_of example_url ≡ record { bytes = expression_hash } ∷ []
one_hash = ap (map full_hash_of) one_expression ∙ ap (λ (bytes : List ℕ). record { bytes = bytes } ∷ []) digest_of_expression

pub one_hit : (version : ℕ) → hits_of (held_at version ∷ []) example_url ≡ example_hit ∷ []
one_hit version = ap (λ (hashes : List FullHash). flat_map (hits_on hashes) (held_at version ∷ [])) one_hash
