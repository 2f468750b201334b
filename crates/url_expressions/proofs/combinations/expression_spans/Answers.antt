use Rattle.std.proofs.Common.{◌≡◌, ℕ, List, ◌-◌, ◌+◌, ◌++◌, ◌≤◌, All, length, take, drop, sym, ap, subst, ◌∙◌, arith, length-append}
use Rattle.std.specs.Prelude.{map}
use Rattle.std.specs.List.{flat_map}
use Rattle.std.proofs.lemmas.List.{take_all, length-map}
use Rattle.url_canon.specs.Path.{path_text}
use Rattle.url_canon.specs.Url.{query_text}
use Rattle.url_expressions.specs.Expressions.{first_occurrences, combinations, hosts_of, paths_of, expressions_of}
use Rattle.url_expressions.specs.Spans.{IsWithin, piece_of, text_behind_scheme}
use Rattle.url_expressions.proofs.Apart.{apart_occurrences}
use Rattle.url_expressions.proofs.Backs.{slashless_hosts}
use Rattle.url_expressions.proofs.Joined.{pieces_are, piece_turn, behind_host, rooted_paths}
use Rattle.url_expressions.proofs.Counts.{some_expressions, most_expressions}
use Rattle.url_expressions.proofs.SpanFacts.{lens_fit}
use Rattle.url_expressions.proofs.combinations.expression_spans.Goals as goal

pub push_spans-requires-clause-fit : goal.push_spans-requires-clause-fit
push_spans-requires-clause-fit c =
    let url = c.args.url.now in
    let host = c.host-host.result.now in
    let text = c.without_scheme-text.result.now in
    let lens = c.in_ok-lens.lens.items in
    let rest = path_text url.path ++ query_text url.query in
    let at : text ≡ host ++ rest = c.without_scheme-text.ensures ∙ ap (λ h. h ++ rest) (sym c.host-host.ensures.value) in
    let behind = behind_host host rest text at in
    let path : length c.path.result.now ≡ length (path_text url.path) = ap (λ p. length p) c.path.ensures.value in
    let long : length c.path.result.now ≤ length (take (length text - length host) (drop (length host) text)) =
    omega (arith, ap (λ r. length r) behind, path, length-append (path_text url.path) (query_text url.query)) in
    let fits : All (λ len. len ≤ length rest) lens = subst (λ (r : List ℕ). All (λ len. len ≤ length r) lens) behind (c.in_ok-lens.ensures.within long) in
    subst (λ (ls : List ℕ). All (λ len. length host + len ≤ length text) ls) (sym c.deref.ensures.value) (lens_fit host rest text lens at fits)

pub loop-place-preserved : goal.loop-place-preserved
loop-place-preserved c =
    let inv = c.loop-place.invariant in
    let text = text_behind_scheme c.args.url.now in
    let n = length c.host-host.result.now in
    let same : length c.without_scheme-text.result.now ≡ length text = ap (λ t. length t) c.without_scheme-text.ensures in
    record {
      pieces = piece_turn text n c.deref-place-items.result.now c.in_ok-lens.lens.items c.deref.result.now c.loop-place.place-index (map (piece_of text) c.loop-place.all) (map (piece_of text) c.push_spans.new.all)
          c.loop-place-test.true c.deref.ensures.value (c.in_ok-push_spans.ensures.pieces text) inv.pieces;
      within = subst (λ (whole : ℕ). All (IsWithin whole) c.push_spans.new.all) same (c.in_ok-push_spans.ensures.within (subst (λ (whole : ℕ). All (IsWithin whole) c.loop-place.all) (sym same) inv.within));
    }

pub returns : goal.returns
returns c =
    let url = c.args.url.now in
    let host = c.host-host.result.now in
    let text = text_behind_scheme url in
    let places = c.in_ok-places.places.items in
    let lens = c.in_ok-lens.lens.items in
    let rest = path_text url.path ++ query_text url.query in
    let at : text ≡ host ++ rest = ap (λ h. h ++ rest) (sym c.host-host.ensures.value) in
    let given : c.without_scheme-text.result.now ≡ host ++ rest = c.without_scheme-text.ensures ∙ at in
    let behind = behind_host host rest c.without_scheme-text.result.now given in
    let each : ℕ → List (List ℕ) = λ place. map (λ len. take (length host - place + len) (drop place text)) lens in
    let all : take c.loop-place.place-index c.deref-place-items.result.now ≡ places = take_all c.loop-place.place-index c.deref-place-items.result.now (omega (arith, c.loop-place-test.false)) ∙ c.deref-place-items.ensures.value in
    let hosts : map (λ place. drop place host) places ≡ first_occurrences (hosts_of url.host url.is_address) = c.in_ok-places.ensures.value ∙ (ap (λ h. first_occurrences (hosts_of h c.is_address.result)) c.host-host.ensures.value ∙ ap (λ b. first_occurrences (hosts_of url.host b)) c.is_address.ensures) in
    let paths : map (λ len. take len rest) lens ≡ first_occurrences (paths_of url.path url.query) =
    subst (λ t. map (λ len. take len t) lens ≡ first_occurrences (paths_of url.path url.query)) behind (c.in_ok-lens.ensures.value url.path url.query c.path.ensures.normal c.path.ensures.value (behind ∙ ap (λ p. p ++ query_text url.query) (sym c.path.ensures.value))) in
    let exact : map (piece_of text) c.loop-place.all ≡ expressions_of url =
    c.loop-place.invariant.pieces
    ∙ (ap (λ ps. flat_map each ps) all
    ∙ (pieces_are host rest text places lens at c.in_ok-places.ensures.within
    ∙ (ap (λ hs. combinations hs (map (λ len. take len rest) lens)) hosts
    ∙ (ap (λ ps. combinations (first_occurrences (hosts_of url.host url.is_address)) ps) paths
    ∙ sym (apart_occurrences (hosts_of url.host url.is_address) (paths_of url.path url.query) (slashless_hosts url.host url.is_address c.host-host.ensures.no_slash) (rooted_paths url.path url.query c.path.ensures.normal.some)))))) in
    let count : length c.loop-place.all ≡ length (expressions_of url) = sym (length-map c.loop-place.all (piece_of text)) ∙ ap (λ t. length t) exact in
    record {
      exact = exact;
      within = c.loop-place.invariant.within;
      some = omega (arith, count, some_expressions url);
      most = omega (arith, count, most_expressions url);
    }
