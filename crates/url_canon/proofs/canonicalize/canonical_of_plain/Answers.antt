use Rattle.std.proofs.Common.{◌≡◌, ℕ, ◌<◌, get_or, subst, List, ◌++◌, Option, Some, None, cond, map, Result, Ok, option_map, option_copied, sym, ap, ◌∙◌, arith}
use Rattle.std.specs.List.{before_first, after_first, slice_split, list_any}
use Rattle.url_canon.specs.Words.{last_part}
use Rattle.url_canon.specs.Unescaping.{HasNoEscape}
use Rattle.url_canon.specs.Escaping.{escaped}
use Rattle.url_canon.specs.Parts.{ends_authority, is_at, scheme_of, after_scheme, authority_of, after_authority, is_question, path_part, query_part}
use Rattle.url_canon.specs.Host.{HostParts, host_of, view}
use Rattle.url_canon.specs.Path.{path_text, path_of}
use Rattle.url_canon.specs.Url.{Url, query_text, IsLaidOut, url_at_places}
use Rattle.url_canon.specs.Canonical.{host_in, url_parts_of, IsCanonical, escaped_url, escaped_parts}
use Rattle.url_canon.specs.declared.fault.UrlFault.{UrlFault}
use Rattle.url_canon.proofs.Whole.{parts_of-none, parts_of-some}
use Rattle.url_canon.proofs.Escapes.{AreBytes-from}
use Rattle.url_canon.proofs.Stays.{canonical-read}
use Rattle.url_canon.proofs.Laid.{laid_out, at_places}
use Rattle.url_canon.proofs.Paths.{components_of-escaped}
use Rattle.url_canon.proofs.canonicalize.canonical_of_plain.Goals as goal

abbrev fine : Url → Result Url UrlFault
fine url = Ok url

host_from : (plain rest authority user : List ℕ) → rest ≡ after_scheme plain → authority ≡ before_first ends_authority rest → user ≡ last_part (slice_split is_at authority) → host_of user ≡ host_in plain
unfolding authority_of
host_from plain rest authority user at_rest at_authority at_user =
    ap host_of (at_user ∙ ap (λ a. last_part (slice_split is_at a)) (at_authority ∙ ap (before_first ends_authority) at_rest))

path_from : (plain rest tail path : List ℕ) → rest ≡ after_scheme plain → tail ≡ after_authority rest → path ≡ before_first is_question tail → path ≡ path_part (after_authority (after_scheme plain))
unfolding path_part
path_from plain rest tail path at_rest at_tail at_path =
    at_path ∙ ap (before_first is_question) (at_tail ∙ ap after_authority at_rest)

query_from : (plain rest tail : List ℕ) (query : Option (List ℕ)) → rest ≡ after_scheme plain → tail ≡ after_authority rest → query ≡ cond (list_any is_question tail) (Some (after_first is_question tail)) None → query ≡ query_part (after_authority (after_scheme plain))
unfolding query_part
query_from plain rest tail query at_rest at_tail at_query =
    at_query ∙ ap (λ t. cond (list_any is_question t) (Some (after_first is_question t)) None) (at_tail ∙ ap after_authority at_rest)

abbrev parts : (plain : List ℕ) → HostParts → Url
parts plain read = escaped_url (record { scheme = scheme_of plain; host = read.text; path = path_of (path_part (after_authority (after_scheme plain))); query = query_part (after_authority (after_scheme plain)); is_address = read.is_address })

pub returns-in_default : goal.returns-in_default
returns-in_default c =
    let read = host_from c.args.plain.now c.split_scheme.result.1.now c.split_authority.result.0.now c.without_user.result.now c.split_scheme.ensures.after c.split_authority.ensures.authority c.without_user.ensures in
    ap escaped_parts (parts_of-none c.args.plain.now (sym read ∙ (sym c.in_ok-host.ensures ∙ ap (option_map view) c.in_default.is)))

built : (plain text : List ℕ) (h p q : ℕ) (read : HostParts) → HasNoEscape plain → ((i : ℕ) → get_or plain i 0 < 256) → host_in plain ≡ Some read → IsLaidOut text h p q (parts plain read)
    → IsLaidOut text h p q (url_at_places text h p q read.is_address) × IsCanonical (url_at_places text h p q read.is_address) × (escaped_parts (url_parts_of plain) ≡ Ok (url_at_places text h p q read.is_address))
built plain text h p q read escapes bytes is laid =
    let there : url_at_places text h p q read.is_address ≡ parts plain read = at_places text h p q (parts plain read) laid (components_of-escaped (path_part (after_authority (after_scheme plain)))) in (
      subst (IsLaidOut text h p q) (sym there) laid,
      subst IsCanonical (sym there) (canonical-read plain read escapes (AreBytes-from plain bytes) is),
      ap escaped_parts (parts_of-some plain read is) ∙ ap fine (sym there),
    )

pub new-requires : goal.new-requires
new-requires c =
    let plain = c.args.plain.now in
    let host = c.in-Some.host in
    let rest = c.split_scheme.result.1.now in
    let tail = c.split_authority.result.1.now in
    let rest_is = c.split_scheme.ensures.after in
    let read = host_from plain rest c.split_authority.result.0.now c.without_user.result.now rest_is c.split_authority.ensures.authority c.without_user.ensures in
    let at_host = sym read ∙ (sym c.in_ok-host.ensures ∙ ap (option_map view) c.in-Some.is) in
    let path_is = path_from plain rest tail c.split_at_byte.result.0.now rest_is c.split_authority.ensures.after c.split_at_byte.ensures.before in
    let query_is = query_from plain rest tail (option_copied c.split_at_byte.result.1) rest_is c.split_authority.ensures.after c.split_at_byte.ensures.after in
    let laid = laid_out (parts plain (view host)) c.in_ok-text.text c.append_lowercase.new.out c.append.new.self c.append_escaped.new.out c.append_path.new.out c.append_query.new.out c.len-host_at.result c.len-path_at.result c.len-query_at.result
    c.in_ok-text.ensures
    (c.in_ok-append_lowercase.ensures ∙ ap (λ s. c.in_ok-text.text ++ s) c.split_scheme.ensures.scheme)
    c.in_ok-append.ensures.ok
    (c.in_ok-append_escaped.ensures ∙ ap (λ t. c.append.new.self ++ escaped t) c.as_slice.ensures)
    (c.in_ok-append_path.ensures ∙ ap (λ t. c.append_escaped.new.out ++ path_text (map escaped (path_of t))) path_is)
    (c.in_ok-append_query.ensures ∙ ap (λ o. c.append_path.new.out ++ query_text (option_map escaped o)) query_is)
    c.len-host_at.ensures c.len-path_at.ensures c.len-query_at.ensures in
    let all = built plain c.append_query.new.out c.len-host_at.result c.len-path_at.result c.len-query_at.result (view host) c.requires (λ i. omega (arith, c.type_inv.plain i)) at_host laid in
    record { places = all.0; canonical = all.1 }

pub returns : goal.returns
returns c =
    let plain = c.args.plain.now in
    let host = c.in-Some.host in
    let rest = c.split_scheme.result.1.now in
    let tail = c.split_authority.result.1.now in
    let rest_is = c.split_scheme.ensures.after in
    let read = host_from plain rest c.split_authority.result.0.now c.without_user.result.now rest_is c.split_authority.ensures.authority c.without_user.ensures in
    let at_host = sym read ∙ (sym c.in_ok-host.ensures ∙ ap (option_map view) c.in-Some.is) in
    let path_is = path_from plain rest tail c.split_at_byte.result.0.now rest_is c.split_authority.ensures.after c.split_at_byte.ensures.before in
    let query_is = query_from plain rest tail (option_copied c.split_at_byte.result.1) rest_is c.split_authority.ensures.after c.split_at_byte.ensures.after in
    let laid = laid_out (parts plain (view host)) c.in_ok-text.text c.append_lowercase.new.out c.append.new.self c.append_escaped.new.out c.append_path.new.out c.append_query.new.out c.len-host_at.result c.len-path_at.result c.len-query_at.result
    c.in_ok-text.ensures
    (c.in_ok-append_lowercase.ensures ∙ ap (λ s. c.in_ok-text.text ++ s) c.split_scheme.ensures.scheme)
    c.in_ok-append.ensures.ok
    (c.in_ok-append_escaped.ensures ∙ ap (λ t. c.append.new.self ++ escaped t) c.as_slice.ensures)
    (c.in_ok-append_path.ensures ∙ ap (λ t. c.append_escaped.new.out ++ path_text (map escaped (path_of t))) path_is)
    (c.in_ok-append_query.ensures ∙ ap (λ o. c.append_path.new.out ++ query_text (option_map escaped o)) query_is)
    c.len-host_at.ensures c.len-path_at.ensures c.len-query_at.ensures in
    let all = built plain c.append_query.new.out c.len-host_at.result c.len-path_at.result c.len-query_at.result (view host) c.requires (λ i. omega (arith, c.type_inv.plain i)) at_host laid in
    all.2 ∙ ap fine (sym c.new.ensures)
