use Rattle.std.proofs.Common.{◌≡◌, take}
use Rattle.std.specs.List.{flat_map}
use Rattle.lookup_messages.specs.Lookups.{canonical_of_asked, matches_of_url}
use Rattle.sb_lookup.specs.Lookups.{name_has_url}
use Rattle.sb_lookup.proofs.answering.matches_of.Given as goal

abbrev pub invariant-loop-url : goal.invariant-loop-url
invariant-loop-url l =
    l.matches ≡ flat_map (λ url. matches_of_url (name_has_url l.history.versions) l.names l.cache url (canonical_of_asked url)) (take l.url-index l.urls)
