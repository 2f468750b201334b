-- What matches the answer to a look-up has.
use Rattle.std.proofs.Common.{◌≡◌, ◌≢◌, ◌∙◌, ℕ, Bool, true, false, List, Contains, Option, Some, None, refl, sym, ap, subst}
use Rattle.std.specs.Prelude.{◌↔◌, is_some, AllPairs}
use Rattle.std.specs.Option.{option_map_or}
use Rattle.std.specs.List.{flat_map}
use Rattle.std.specs.List.Sorted.{IsStrictlySortedBy}
use Rattle.std.specs.Cmp.Lexicographic.{nat_list_eq_equiv}
use Rattle.std.proofs.lemmas.List.Kept.{IsStrictlySortedBy-filter}
use Rattle.std.proofs.lemmas.Map.Views.{Contains-from_any, list_any-from_Contains}
use Rattle.std.proofs.lemmas.Slice.Eq.{bytes_eq-Decides}
use Rattle.sha2.specs.Sha256.{sha256}
use Rattle.sb_model.specs.declared.names.ListName.{ListName}
use Rattle.sb_model.specs.History.{History}
use Rattle.answering_lists.specs.Lists.{answered_names, answering, is_answered}
use Rattle.sb_model.specs.Names.{name_cmp}
use Rattle.hash_prefixes.specs.declared.hashes.FullHash.{FullHash}
use Rattle.url_canon.specs.Url.{Url}
use Rattle.url_expressions.specs.Expressions.{expressions_of}
use Rattle.url_hashes.specs.Hashes.{full_hash_of, hashes_of}
use Rattle.lookup_messages.specs.Lookups.{looks_up_list, canonical_of_asked, lists_looked_up, lookup_matches, matches_of_url, IsLookupMatch}
use Rattle.lookup_messages.specs.Messages.{AskedUrls}
use Rattle.lookup_messages.specs.declared.response.LookupMatch.{LookupMatch}
use Rattle.sb_lookup.specs.Lookups.{newest_full_hashes, is_listed, has_url, name_has_url, IsServedMatch}
use Rattle.sb_lookup.proofs.Members.{any_found, any_there, filter_again, from_map, in_filter, in_map}
use Rattle.sb_lookup.proofs.Names.{rising_distinct}

-- ---- a URL that a list has

listed : (history : History) (list : ListName) (expression : List ℕ) → is_listed history list (full_hash_of expression) ≡ true → Contains (newest_full_hashes history list) (sha256 expression)
listed history list expression is = Contains-from_any (λ x y same. (bytes_eq-Decides x y).0 same) (sha256 expression) (newest_full_hashes history list) is

is_there : (history : History) (list : ListName) (expression : List ℕ) → Contains (newest_full_hashes history list) (sha256 expression) → is_listed history list (full_hash_of expression) ≡ true
is_there history list expression has = list_any-from_Contains nat_list_eq_equiv (sha256 expression) (newest_full_hashes history list) has

pub listed_by : (history : History) (list : ListName) (url : Url) → has_url history list url ≡ true
    → (expression : List ℕ) × Contains (expressions_of url) expression × Contains (newest_full_hashes history list) (sha256 expression)
listed_by history list url has =
    let found = any_found (is_listed history list) (hashes_of url) has in
    let of = from_map full_hash_of (expressions_of url) found.0 found.1 in
    (of.0, of.1, listed history list of.0 (subst (λ (hash : FullHash). is_listed history list hash ≡ true) (sym of.2) found.2))

pub lists_it : (history : History) (list : ListName) (url : Url) (expression : List ℕ) → Contains (expressions_of url) expression
    → Contains (newest_full_hashes history list) (sha256 expression) → has_url history list url ≡ true
lists_it history list url expression of has =
    any_there (is_listed history list) (hashes_of url) (full_hash_of expression) (in_map full_hash_of (expressions_of url) expression of) (is_there history list expression has)

-- ---- a match

-- what the law of names says: the names for which lists answer rise, and are these
abbrev pub NamesRise : Type 0
NamesRise = (history : History) → IsStrictlySortedBy name_cmp (answered_names history)

abbrev pub NamesAnswered : Type 0
NamesAnswered = (history : History) (name : ListName) → Contains (answered_names history) name ↔ (is_answered history name ≡ true)

pub served : (history : History) (cache : ℕ) (asked : AskedUrls) (found : LookupMatch) → IsLookupMatch (name_has_url history) (answered_names history) cache asked found
    → IsServedMatch history cache asked found
served history cache asked found is = go (answering history found.name) refl is.has_url
  where
    go : (o : Option ListName) → answering history found.name ≡ o → option_map_or (λ list. has_url history list is.canonical) o false ≡ true → IsServedMatch history cache asked found
    go None answers has = absurd (cc)
    go (Some list) answers has =
        let by = listed_by history list is.canonical has in
        record {
          url_asked = is.url_asked;
          canonical = is.canonical;
          canonical_form = is.canonical_form;
          list = list;
          answers = answers;
          list_asked = is.list_asked;
          expression = by.0;
          of_url = by.1;
          listed = by.2;
          cache_told = is.cache_told;
        }

pub matched : NamesAnswered → (history : History) (cache : ℕ) (asked : AskedUrls) (found : LookupMatch) → IsServedMatch history cache asked found
    → IsLookupMatch (name_has_url history) (answered_names history) cache asked found
matched answered history cache asked found is = record {
  url_asked = is.url_asked;
  canonical = is.canonical;
  canonical_form = is.canonical_form;
  list_given = (answered history found.name).1 (ap is_some is.answers);
  list_asked = is.list_asked;
  has_url = ap (λ (o : Option ListName). option_map_or (λ list. has_url history list is.canonical) o false) is.answers
      ∙ lists_it history is.list is.canonical is.expression is.of_url is.listed;
  cache_told = is.cache_told;
}

-- ---- how often it stands

-- the asked names are distinct
pub asked_distinct : NamesRise → (history : History) (asked : AskedUrls) → AllPairs (λ a b. a ≢ b) (lists_looked_up (answered_names history) asked)
asked_distinct rise history asked =
    rising_distinct (lists_looked_up (answered_names history) asked) (IsStrictlySortedBy-filter name_cmp (looks_up_list asked) (answered_names history) (rise history))

-- names that are asked can stand in place of all
pub asked_alone : (has : ListName → Url → Bool) (names : List ListName) (cache : ℕ) (asked : AskedUrls)
    → lookup_matches has (lists_looked_up names asked) cache asked ≡ lookup_matches has names cache asked
asked_alone has names cache asked =
    ap (λ (ns : List ListName). flat_map (λ url. matches_of_url has ns cache url (canonical_of_asked url)) asked.urls) (filter_again (looks_up_list asked) names)

pub matched_alone : NamesAnswered → (history : History) (cache : ℕ) (asked : AskedUrls) (found : LookupMatch) → IsServedMatch history cache asked found
    → IsLookupMatch (name_has_url history) (lists_looked_up (answered_names history) asked) cache asked found
matched_alone answered history cache asked found is =
    let whole = matched answered history cache asked found is in
    record {
      url_asked = whole.url_asked;
      canonical = whole.canonical;
      canonical_form = whole.canonical_form;
      list_given = in_filter (looks_up_list asked) (answered_names history) found.name whole.list_given whole.list_asked;
      list_asked = whole.list_asked;
      has_url = whole.has_url;
      cache_told = whole.cache_told;
    }
