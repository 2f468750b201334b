-- Trimmed texts, parts between commas, and members that are digests.
use Rattle.std.proofs.Common.{◌≡◌, ◌≢◌, ℕ, ◌+◌, ◌<◌, ◌≤◌, List, [], ◌∷◌, ◌++◌, length, take, drop, get_or, reverse, suc, true, false, cond, eqb, map, Option, Some, None, refl, sym, ap, ◌∙◌, subst, arith, append_assoc, add-one}
use Rattle.std.specs.Prelude.{All, codes, MatchOption}
use Rattle.std.specs.List.{flat_map, slice_split}
use Rattle.std.proofs.lemmas.Grind.{common_steps}
use Rattle.std.proofs.lemmas.List.{take_more, reverse-append, append_cancel_left, append_cancel_right, take_all}
use Rattle.std.proofs.lemmas.List.Elements.{All-append, All-more, All-push}
use Rattle.std.proofs.lemmas.List.Splits.{slice_split_none, slice_split_at}
use Rattle.std.proofs.Math.Seq.{drop-cons, split_at}
use Rattle.std.specs.Option.{option_to_list}
use Rattle.std.specs.List.{cons_option}
use Rattle.std.proofs.lemmas.Grind.{flat_map-append}
use Rattle.httparse.specs.Spans.{header_bytes}
use Rattle.httparse.specs.declared.spans.HeaderSpan.{HeaderSpan}
use Rattle.http_edge.specs.Fields.{value_if_named, values_at}
use Rattle.http_edge.proofs.FieldValues.{values_more, values_from}
use denote.Ref.{Bor}
use Rattle.httparse.specs.Grammar.{is_ows, skip_ows, trim_ows}
use Rattle.base64.specs.Engines.{standard}
use Rattle.base64.specs.GeneralPurpose.{encode_of, IsBytes}
use Rattle.http_edge.specs.Responses.{digest_text}
use Rattle.http_edge.specs.Digests.{members_in, IsDigestMember, IsNoDigest, HasFirst, IsMemberDigest}

drop_next : (text : List ℕ) (i : ℕ) → i < length text → drop i text ≡ get_or text i 0 ∷ drop (i + 1) text
drop_next text i less = drop-cons text i 0 less ∙ ap (λ n. get_or text i 0 ∷ drop n text) (sym (add-one i))

value_at : (text : List ℕ) (i : ℕ) → i < length text → text ≡ take i text ++ get_or text i 0 ∷ drop (i + 1) text
value_at text i less = split_at text i 0 less ∙ ap (λ n. take i text ++ get_or text i 0 ∷ drop n text) (sym (add-one i))

pub skip_yes : (text : List ℕ) (i : ℕ) → i < length text → is_ows (get_or text i 0) ≡ true → skip_ows (drop (i + 1) text) ≡ skip_ows (drop i text)
skip_yes text i less is =
    sym (ap skip_ows (drop_next text i less) ∙ ap (λ b. cond b (skip_ows (drop (i + 1) text)) (get_or text i 0 ∷ drop (i + 1) text)) is)

pub skip_no : (text : List ℕ) (i : ℕ) → i < length text → is_ows (get_or text i 0) ≡ false → skip_ows (drop i text) ≡ drop i text
skip_no text i less is =
    ap skip_ows (drop_next text i less) ∙ ap (λ b. cond b (skip_ows (drop (i + 1) text)) (get_or text i 0 ∷ drop (i + 1) text)) is ∙ sym (drop_next text i less)

last_first : (text : List ℕ) (e : ℕ) → e < length text → reverse (take (e + 1) text) ≡ get_or text e 0 ∷ reverse (take e text)
last_first text e less = ap reverse (take_more text e 0 less) ∙ reverse-append (take e text) (get_or text e 0 ∷ [])

pub skip_last_yes : (text : List ℕ) (e : ℕ) → e < length text → is_ows (get_or text e 0) ≡ true → skip_ows (reverse (take e text)) ≡ skip_ows (reverse (take (e + 1) text))
skip_last_yes text e less is =
    sym (ap skip_ows (last_first text e less) ∙ ap (λ b. cond b (skip_ows (reverse (take e text))) (get_or text e 0 ∷ reverse (take e text))) is)

pub skip_last_no : (text : List ℕ) (e : ℕ) → e < length text → is_ows (get_or text e 0) ≡ false → skip_ows (reverse (take (e + 1) text)) ≡ reverse (take (e + 1) text)
skip_last_no text e less is =
    ap skip_ows (last_first text e less) ∙ ap (λ b. cond b (skip_ows (reverse (take e text))) (get_or text e 0 ∷ reverse (take e text))) is ∙ sym (last_first text e less)

-- the parts at a comma, and where there is none
pub part_at : (value : List ℕ) (i : ℕ) → i < length value → All (λ byte. eqb byte 44 ≡ false) (take i value) → get_or value i 0 ≡ 44
    → slice_split (λ byte. eqb byte 44) value ≡ take i value ∷ slice_split (λ byte. eqb byte 44) (drop (i + 1) value)
part_at value i less none is =
    ap (slice_split (λ byte. eqb byte 44)) (value_at value i less)
    ∙ slice_split_at (λ byte. eqb byte 44) (take i value) (get_or value i 0) (drop (i + 1) value) none (ap (λ b. eqb b 44) is)

pub part_whole : (value : List ℕ) (n : ℕ) → length value ≤ n → All (λ byte. eqb byte 44 ≡ false) (take n value)
    → slice_split (λ byte. eqb byte 44) value ≡ value ∷ []
part_whole value n past none =
    slice_split_none (λ byte. eqb byte 44) value (subst (λ text. All (λ byte. eqb byte 44 ≡ false) text) (take_all n value past) none)

not_comma : (byte : ℕ) → byte ≢ 44 → eqb byte 44 ≡ false
not_comma byte other = grind (arith, common_steps, other)

pub none_so_far : (value : List ℕ) (i : ℕ) → i < length value → All (λ byte. eqb byte 44 ≡ false) (take i value) → get_or value i 0 ≢ 44
    → All (λ byte. eqb byte 44 ≡ false) (take (i + 1) value)
none_so_far value i less none other = All-more (λ byte. eqb byte 44 ≡ false) value i 0 less none (not_comma (get_or value i 0) other)

-- ---- members

digest_parts : (digest : List ℕ) → digest_text digest ≡ codes "sha-256=:" ++ (encode_of standard digest ++ codes ":")
unfolding digest_text
digest_parts digest = regroup (codes "sha-256=:") (encode_of standard digest) (codes ":")
  where
    regroup : (a b c : List ℕ) → (a ++ b) ++ c ≡ a ++ (b ++ c)
    regroup a b c = append_assoc a b c

-- a member that is a digest has its text between the opening and the closing
member_text : (member digest text : List ℕ) → IsDigestMember member digest → member ≡ codes "sha-256=:" ++ (text ++ codes ":") → text ≡ encode_of standard digest
member_text member digest text is parts =
    inner (encode_of standard digest) (sym parts ∙ is.text ∙ digest_parts digest)
  where
    inner : (encoded : List ℕ) → codes "sha-256=:" ++ (text ++ codes ":") ≡ codes "sha-256=:" ++ (encoded ++ codes ":") → text ≡ encoded
    inner encoded same = append_cancel_right text encoded (codes ":") (append_cancel_left (codes "sha-256=:") (text ++ codes ":") (encoded ++ codes ":") same)

pub not_between : (member : List ℕ) → ((text : List ℕ) → member ≢ codes "sha-256=:" ++ (text ++ codes ":")) → IsNoDigest member
not_between member none = λ digest is. none (encode_of standard digest) (is.text ∙ digest_parts digest)

pub not_decoded : (member text : List ℕ) → member ≡ codes "sha-256=:" ++ (text ++ codes ":")
    → ((bytes : List ℕ) → IsBytes bytes → text ≢ encode_of standard bytes) → IsNoDigest member
not_decoded member text parts none = λ digest is. none digest is.bytes (member_text member digest text is parts)

pub found_member : (member text bytes : List ℕ) → member ≡ codes "sha-256=:" ++ (text ++ codes ":") → text ≡ encode_of standard bytes → IsBytes bytes → length bytes ≡ 32
    → IsDigestMember member bytes
found_member member text bytes parts is each size = record {
  text = parts ∙ ap (λ encoded. codes "sha-256=:" ++ (encoded ++ codes ":")) is ∙ sym (digest_parts bytes);
  size = size;
  bytes = each;
}

-- the same text encodes no other bytes
other_size : (member text bytes : List ℕ) → member ≡ codes "sha-256=:" ++ (text ++ codes ":")
    → ((other : List ℕ) → IsBytes other → text ≡ encode_of standard other → other ≡ bytes) → length bytes ≢ 32 → IsNoDigest member
other_size member text bytes parts unique size = λ digest is.
    size (ap length (sym (unique digest is.bytes (member_text member digest text is parts))) ∙ is.size)

pub digest_from : (member text bytes slice : List ℕ) (result : Option (List ℕ)) → member ≡ codes "sha-256=:" ++ (text ++ codes ":") → text ≡ encode_of standard bytes → IsBytes bytes
    → ((other : List ℕ) → IsBytes other → text ≡ encode_of standard other → other ≡ bytes) → slice ≡ bytes
    → MatchOption result (length slice ≢ 32) (λ digest. (digest ≡ slice) × (length slice ≡ 32)) → IsMemberDigest member result
digest_from member text bytes slice None parts is each unique same other = other_size member text bytes parts unique (subst (λ b. length b ≢ 32) same other)
digest_from member text bytes slice (Some digest) parts is each unique same found =
    subst (IsDigestMember member) (sym (found.0 ∙ same)) (found_member member text bytes parts is each (ap length (sym same) ∙ found.1))

pub no_suffix : (member rest : List ℕ) → member ≡ codes "sha-256=:" ++ rest → ((front : List ℕ) → rest ≢ front ++ codes ":")
    → (text : List ℕ) → member ≢ codes "sha-256=:" ++ (text ++ codes ":")
no_suffix member rest parts none text same = none text (append_cancel_left (codes "sha-256=:") rest (text ++ codes ":") (sym parts ∙ same))

-- ---- the first digest among members

-- the first part of a value, and the parts after it
pub first_parts : (value part : List ℕ) (more : Option (Bor (List ℕ)))
    → MatchOption more (slice_split (λ byte. eqb byte 44) value ≡ part ∷ [])
    (λ rest. (slice_split (λ byte. eqb byte 44) value ≡ part ∷ slice_split (λ byte. eqb byte 44) rest.now) × (length rest.now < length value))
    → (parts : List (List ℕ)) × (slice_split (λ byte. eqb byte 44) value ≡ part ∷ parts)
first_parts value part None cases = ([], cases)
first_parts value part (Some rest) cases = (slice_split (λ byte. eqb byte 44) rest.now, cases.0)

pub digest_here : (value rest part digest : List ℕ) (before : List (List ℕ)) (parts : List (List ℕ)) → members_in value ≡ before ++ members_in rest
    → slice_split (λ byte. eqb byte 44) rest ≡ part ∷ parts → All IsNoDigest before → IsDigestMember (trim_ows part) digest → HasFirst (members_in value) digest
digest_here value rest part digest before parts so_far split none is = record {
  before = before;
  member = trim_ows part;
  after = map trim_ows parts;
  parts = so_far ∙ ap (λ all. before ++ map trim_ows all) split;
  others = none;
  is = is;
}

pub none_here : (value rest part : List ℕ) (before : List (List ℕ)) → members_in value ≡ before ++ members_in rest
    → slice_split (λ byte. eqb byte 44) rest ≡ part ∷ [] → All IsNoDigest before → IsNoDigest (trim_ows part) → All IsNoDigest (members_in value)
none_here value rest part before so_far split none not =
    subst (All IsNoDigest) (sym (so_far ∙ ap (λ all. before ++ map trim_ows all) split)) (All-push IsNoDigest before (trim_ows part) none not)

pub one_more : (value rest part next : List ℕ) (before : List (List ℕ)) → members_in value ≡ before ++ members_in rest
    → slice_split (λ byte. eqb byte 44) rest ≡ part ∷ slice_split (λ byte. eqb byte 44) next
    → members_in value ≡ (before ++ trim_ows part ∷ []) ++ members_in next
one_more value rest part next before so_far split =
    so_far ∙ ap (λ all. before ++ map trim_ows all) split ∙ sym (append_assoc before (trim_ows part ∷ []) (members_in next))

-- the members of a value that is found are among those of all
pub first_in_field : (members before after : List (List ℕ)) (digest : List ℕ) → All IsNoDigest before → HasFirst members digest → HasFirst (before ++ (members ++ after)) digest
first_in_field members before after digest none first = record {
  before = before ++ first.before;
  member = first.member;
  after = first.after ++ after;
  parts = ap (λ all. before ++ (all ++ after)) first.parts ∙ regroup before first.before first.member first.after after;
  others = All-append IsNoDigest before first.before none first.others;
  is = first.is;
}
  where
    regroup : (a b : List (List ℕ)) (m : List ℕ) (c d : List (List ℕ)) → a ++ ((b ++ m ∷ c) ++ d) ≡ (a ++ b) ++ m ∷ (c ++ d)
    regroup a b m c d = ap (λ rest. a ++ rest) (append_assoc b (m ∷ c) d) ∙ sym (append_assoc a b (m ∷ (c ++ d)))

cons_is : (value : Option (List ℕ)) (values : List (List ℕ)) → cons_option value values ≡ option_to_list value ++ values
cons_is None values = refl
cons_is (Some value) values = refl

pub none_in_more : (buffer : List ℕ) (fields : List HeaderSpan) (name : List ℕ) (i : ℕ) (d : HeaderSpan) → i < length fields
    → All IsNoDigest (flat_map members_in (values_at buffer (take i fields) name))
    → All IsNoDigest (flat_map members_in (option_to_list (value_if_named name (header_bytes buffer (get_or fields i d)))))
    → All IsNoDigest (flat_map members_in (values_at buffer (take (i + 1) fields) name))
none_in_more buffer fields name i d less none not =
    subst (All IsNoDigest) (sym (ap (flat_map members_in) (values_more buffer fields name i d less)
    ∙ flat_map-append members_in (values_at buffer (take i fields) name) (option_to_list (value_if_named name (header_bytes buffer (get_or fields i d))))))
    (All-append IsNoDigest (flat_map members_in (values_at buffer (take i fields) name)) _ none not)

pub first_in_fields : (buffer : List ℕ) (fields : List HeaderSpan) (name : List ℕ) (i : ℕ) (d : HeaderSpan) (digest : List ℕ) → i < length fields
    → All IsNoDigest (flat_map members_in (values_at buffer (take i fields) name))
    → HasFirst (flat_map members_in (option_to_list (value_if_named name (header_bytes buffer (get_or fields i d))))) digest
    → HasFirst (flat_map members_in (values_at buffer fields name)) digest
first_in_fields buffer fields name i d digest less none first =
    let value = value_if_named name (header_bytes buffer (get_or fields i d)) in
    let after = values_at buffer (drop (suc i) fields) name in
    let before = values_at buffer (take i fields) name in
    subst (λ members. HasFirst members digest)
    (sym (ap (flat_map members_in) (values_from buffer fields name i d less ∙ ap (λ rest. before ++ rest) (cons_is value after))
    ∙ flat_map-append members_in before (option_to_list value ++ after)
    ∙ ap (λ rest. flat_map members_in before ++ rest) (flat_map-append members_in (option_to_list value) after)))
    (first_in_field (flat_map members_in (option_to_list value)) (flat_map members_in before) (flat_map members_in after) digest none first)
