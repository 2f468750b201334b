-- The parts of a URL as pieces of its text.
use Rattle.std.proofs.Common.{◌≡◌, ℕ, ◌+◌, ◌-◌, ◌≤◌, List, [], ◌∷◌, ◌++◌, Option, Some, None, length, take, drop, refl, sym, ap, ◌∙◌, arith, length-append}
use Rattle.std.proofs.lemmas.List.{append_assoc, take_at, drop_at, take_rest}
use Rattle.url_canon.specs.Path.{path_text, components_of}
use Rattle.url_canon.specs.Url.{Url, query_text, after_mark, url_at_places, IsLaidOut}

abbrev mark : List ℕ
mark = 58 ∷ 47 ∷ 47 ∷ []

after_mark-query : (query : Option (List ℕ)) → after_mark (query_text query) ≡ query
after_mark-query None = refl
after_mark-query (Some query) = refl

query_after : (rest : List ℕ) (query : Option (List ℕ)) → rest ≡ query_text query → 1 ≤ length rest → Some (take (length rest - 1) (drop 1 rest)) ≡ query
query_after [] query e some = absurd (omega arith)
query_after (b ∷ rest) None e some = absurd (let f : b ∷ rest ≡ [] = e in cc)
query_after (b ∷ rest) (Some query) e some = ap Some (take_rest (b ∷ rest) 1 ∙ ap (λ r. drop 1 r) e)

module _ (text : List ℕ) (h p q : ℕ) (url : Url) (laid : IsLaidOut text h p q url) where
  at_host : text ≡ (url.scheme ++ mark) ++ (url.host ++ (path_text url.path ++ query_text url.query))
  at_host = laid.whole ∙ sym (append_assoc url.scheme mark (url.host ++ (path_text url.path ++ query_text url.query)))

  at_path : text ≡ ((url.scheme ++ mark) ++ url.host) ++ (path_text url.path ++ query_text url.query)
  at_path = at_host ∙ sym (append_assoc (url.scheme ++ mark) url.host (path_text url.path ++ query_text url.query))

  at_query : text ≡ (((url.scheme ++ mark) ++ url.host) ++ path_text url.path) ++ query_text url.query
  at_query = at_path ∙ sym (append_assoc ((url.scheme ++ mark) ++ url.host) (path_text url.path) (query_text url.query))

  len_host : length (url.scheme ++ mark) ≡ h
  len_host = omega (arith, length-append url.scheme mark, laid.host)

  len_path : length ((url.scheme ++ mark) ++ url.host) ≡ p
  len_path = omega (arith, length-append (url.scheme ++ mark) url.host, len_host, laid.path)

  len_query : length (((url.scheme ++ mark) ++ url.host) ++ path_text url.path) ≡ q
  len_query = omega (arith, length-append ((url.scheme ++ mark) ++ url.host) (path_text url.path), len_path, laid.query)

  pub from_host : drop h text ≡ url.host ++ (path_text url.path ++ query_text url.query)
  from_host = ap (drop h) at_host ∙ drop_at (url.scheme ++ mark) (url.host ++ (path_text url.path ++ query_text url.query)) h len_host

  pub from_path : drop p text ≡ path_text url.path ++ query_text url.query
  from_path = ap (drop p) at_path ∙ drop_at ((url.scheme ++ mark) ++ url.host) (path_text url.path ++ query_text url.query) p len_path

  pub from_query : drop q text ≡ query_text url.query
  from_query = ap (drop q) at_query ∙ drop_at (((url.scheme ++ mark) ++ url.host) ++ path_text url.path) (query_text url.query) q len_query

  pub path_piece : take (q - p) (drop p text) ≡ path_text url.path
  path_piece = ap (take (q - p)) from_path ∙ take_at (path_text url.path) (query_text url.query) (q - p) (omega (arith, laid.query))

  host_piece : take (p - h) (drop h text) ≡ url.host
  host_piece = ap (take (p - h)) from_host ∙ take_at url.host (path_text url.path ++ query_text url.query) (p - h) (omega (arith, laid.path))

  scheme_piece : take (h - 3) text ≡ url.scheme
  scheme_piece = ap (take (h - 3)) laid.whole ∙ take_at url.scheme (mark ++ (url.host ++ (path_text url.path ++ query_text url.query))) (h - 3) (omega (arith, laid.host))

  pub in_order : (h ≤ p) × (p ≤ q) × (q ≤ length text)
  in_order = (omega (arith, laid.path), omega (arith, laid.query), omega (arith, ap (λ t. length t) at_query, length-append (((url.scheme ++ mark) ++ url.host) ++ path_text url.path) (query_text url.query), len_query))

  -- what stands after the mark, as code writes it
  pub query_piece : 1 ≤ length (take (length text - q) (drop q text)) → Some (take (length (take (length text - q) (drop q text)) - 1) (drop 1 (take (length text - q) (drop q text)))) ≡ url.query
  query_piece some = query_after (take (length text - q) (drop q text)) url.query (take_rest text q ∙ from_query) some

  abbrev build : List ℕ → List ℕ → List (List ℕ) → Option (List ℕ) → Url
  build s t cs o = record { scheme = s; host = t; path = cs; query = o; is_address = url.is_address }

  -- what stands at the places of the text is the URL
  pub at_places : components_of (path_text url.path) ≡ url.path → url_at_places text h p q url.is_address ≡ url
  unfolding url_at_places
  at_places again =
      ap (λ s. build s (take (p - h) (drop h text)) (components_of (take (q - p) (drop p text))) (after_mark (drop q text))) scheme_piece
      ∙ (ap (λ t. build url.scheme t (components_of (take (q - p) (drop p text))) (after_mark (drop q text))) host_piece
      ∙ (ap (λ cs. build url.scheme url.host cs (after_mark (drop q text))) (ap components_of path_piece ∙ again)
      ∙ ap (λ o. build url.scheme url.host url.path o) (ap after_mark from_query ∙ after_mark-query url.query)))

-- a text that is put together part by part
pub laid_out : (url : Url) (start scheme marked host path whole : List ℕ) (h p q : ℕ) → start ≡ [] → scheme ≡ start ++ url.scheme → marked ≡ scheme ++ mark → host ≡ marked ++ url.host → path ≡ host ++ path_text url.path → whole ≡ path ++ query_text url.query
    → h ≡ length marked → p ≡ length host → q ≡ length path → IsLaidOut whole h p q url
laid_out url start scheme marked host path whole h p q at_start at_scheme at_marked at_host at_path at_whole at_h at_p at_q =
    let later = path_text url.path ++ query_text url.query in
    let scheme_is : scheme ≡ url.scheme = at_scheme ∙ ap (λ s. s ++ url.scheme) at_start in
    record {
      whole = at_whole
          ∙ (ap (λ p. p ++ query_text url.query) at_path
          ∙ (append_assoc host (path_text url.path) (query_text url.query)
          ∙ (ap (λ t. t ++ later) at_host
          ∙ (append_assoc marked url.host later
          ∙ (ap (λ t. t ++ (url.host ++ later)) at_marked
          ∙ (append_assoc scheme mark (url.host ++ later) ∙ ap (λ t. t ++ (mark ++ (url.host ++ later))) scheme_is))))));
      host = at_h ∙ (ap (λ t. length t) at_marked ∙ (length-append scheme mark ∙ ap (λ t. length t + 3) scheme_is));
      path = at_p ∙ (ap (λ t. length t) at_host ∙ (length-append marked url.host ∙ ap (λ k. k + length url.host) (sym at_h)));
      query = at_q ∙ (ap (λ t. length t) at_path ∙ (length-append host (path_text url.path) ∙ ap (λ k. k + length (path_text url.path)) (sym at_p)));
    }
