-- How the text of a head goes on, byte by byte, and that a head can still come of it.
use Rattle.std.proofs.Common.{◌≡◌, ℕ, ◌+◌, ◌-◌, ◌<◌, ◌≤◌, true, List, [], ◌∷◌, ◌++◌, length, get_or, take, drop, slice_range, refl, sym, ap, ◌∙◌, subst, arith, inl, inr, append_assoc, append-nil, length-append, codes}
use Rattle.std.specs.Prelude.{All, IsTrue, IsUtf8}
use Rattle.std.specs.List.{flat_map}
use Rattle.std.proofs.Math.Seq.{drop-append_seam, take-append_seam}
use Rattle.std.proofs.lemmas.List.{take_more, take_all, take-append-drop}
use Rattle.std.proofs.lemmas.List.Elements.{All-nil, All-cons, All-push, All-head, All-drop}
use Rattle.std.proofs.lemmas.Grind.{flat_map-append}
use Rattle.std.proofs.lemmas.Str.{IsUtf8-from_ascii}
use Rattle.std.proofs.lemmas.Str.Ascii.{IsAscii-cons, IsAscii-nil}
use Rattle.httparse.specs.Grammar.{crlf, lf, is_token_byte, is_uri_byte, is_value_byte, AllPass, IsToken, LineEnd, print_end, print_blank, print_version, Field, IsField, print_field, RequestHead, ReadsRequest, HasNoRequest, NeverHasRequest, MayBecomeRequest}
use Rattle.httparse.proofs.GrammarLemmas.{cons-append, print_request-append, request_unique, ReadsRequest-append}
use Rattle.httparse.proofs.PieceLemmas.{Blank_deterministic, Method_deterministic, Stops_token}
use Rattle.http_edge.specs.Heads.{IsRefusedRequest, IsOpenRequest}
use Rattle.http_edge.specs.Places.{HasBlank, HasMethod, InTarget, InVersion, HasVersion, HasFields, HasName, HasValue, WithCr, IsAt}
use Rattle.http_edge.specs.declared.head_places.HeadPlace.{HeadPlace}
use Rattle.http_edge.specs.declared.head_places.HeadPlace.TheVariants.{Blank, BlankCr, Method, Target, Version, Minor, LineCr, Line, LastCr, Name, Value, ValueCr, Asked}

-- ---- a further byte

-- a text that ends with a part, and a further byte of that part
one_more : (front part : List ℕ) (byte : ℕ) (text : List ℕ) → text ≡ front ++ part → text ++ byte ∷ [] ≡ front ++ (part ++ byte ∷ [])
one_more front part byte text is = ap (λ (t : List ℕ). t ++ byte ∷ []) is ∙ append_assoc front part (byte ∷ [])

pub after_cr : (form : List ℕ → Type 0) (text : List ℕ) → form text → WithCr form (text ++ 13 ∷ [])
after_cr form text is = (text, is, refl)

pub blank_end : (end : LineEnd) (text : List ℕ) → HasBlank text → HasBlank (text ++ print_end end)
blank_end end text has = record {
  ends = has.ends ++ end ∷ [];
  is = ap (λ (t : List ℕ). t ++ print_end end) has.is ∙ ap (λ (t : List ℕ). print_blank has.ends ++ t) (sym (append-nil (print_end end)))
      ∙ sym (flat_map-append print_end has.ends (end ∷ []));
}

-- a form whose line CR LF ends, and LF alone
pub crlf_of : (form then : List ℕ → Type 0) → ((end : LineEnd) (text : List ℕ) → form text → then (text ++ print_end end))
    → (text : List ℕ) → WithCr form text → then (text ++ 10 ∷ [])
crlf_of form then so text (front, is, parts) =
    subst then (sym (ap (λ (t : List ℕ). t ++ 10 ∷ []) parts ∙ append_assoc front (13 ∷ []) (10 ∷ []))) (so crlf front is)

pub blank_method : (byte : ℕ) (text : List ℕ) → is_token_byte byte ≡ true → HasBlank text → HasMethod (text ++ byte ∷ [])
blank_method byte text is has = record {
  ends = has.ends;
  method = byte ∷ [];
  token = (omega arith, All-cons (λ (b : ℕ). IsTrue (is_token_byte b)) byte [] is (All-nil (λ (b : ℕ). IsTrue (is_token_byte b))));
  is = ap (λ (t : List ℕ). t ++ byte ∷ []) has.is;
}

token_more : (token : List ℕ) (byte : ℕ) → is_token_byte byte ≡ true → IsToken token → IsToken (token ++ byte ∷ [])
token_more token byte is (some, all) =
    (omega (arith, some, length-append token (byte ∷ [])), All-push (λ (b : ℕ). IsTrue (is_token_byte b)) token byte all is)

pub method_more : (byte : ℕ) (text : List ℕ) → is_token_byte byte ≡ true → HasMethod text → HasMethod (text ++ byte ∷ [])
method_more byte text is has = record {
  ends = has.ends;
  method = has.method ++ byte ∷ [];
  token = token_more has.method byte is has.token;
  is = one_more (print_blank has.ends) has.method byte text has.is;
}

pub method_space : (text : List ℕ) → HasMethod text → InTarget (length (text ++ 32 ∷ [])) (text ++ 32 ∷ [])
method_space text has = record {
  front = text;
  target = [];
  method = has;
  pass = All-nil (λ (b : ℕ). IsTrue (is_uri_byte b));
  is = refl;
  begins = length-append text (32 ∷ []);
}

pub target_more : (start byte : ℕ) (text : List ℕ) → is_uri_byte byte ≡ true → InTarget start text → InTarget start (text ++ byte ∷ [])
target_more start byte text is has = record {
  front = has.front;
  target = has.target ++ byte ∷ [];
  method = has.method;
  pass = All-push (λ (b : ℕ). IsTrue (is_uri_byte b)) has.target byte has.pass is;
  is = one_more has.front (32 ∷ has.target) byte text has.is;
  begins = has.begins;
}

-- the bytes of the target, cut out of the text
target_cut : (front target : List ℕ) → slice_range (front ++ (32 ∷ target ++ 32 ∷ [])) (length front + 1) (length front + 1 + length target) ≡ target
target_cut front target =
    let split : front ++ (32 ∷ target ++ 32 ∷ []) ≡ (front ++ 32 ∷ []) ++ (target ++ 32 ∷ []) = sym (append_assoc front (32 ∷ []) (target ++ 32 ∷ [])) in
    let at : length front + 1 ≡ length (front ++ 32 ∷ []) = sym (length-append front (32 ∷ [])) in
    let size : length front + 1 + length target - (length front + 1) ≡ length target = omega arith in
    ap (λ (n : ℕ). take n (drop (length front + 1) (front ++ (32 ∷ target ++ 32 ∷ [])))) size
    ∙ ap (λ (t : List ℕ). take (length target) (drop (length front + 1) t)) split
    ∙ ap (λ (n : ℕ). take (length target) (drop n ((front ++ 32 ∷ []) ++ (target ++ 32 ∷ [])))) at
    ∙ ap (take (length target)) (drop-append_seam (front ++ 32 ∷ []) (target ++ 32 ∷ []))
    ∙ take-append_seam target (32 ∷ [])

pub target_end : (start : ℕ) (text : List ℕ) → start < length text → IsUtf8 (slice_range (text ++ 32 ∷ []) start (length text)) → InTarget start text
    → InVersion 0 (text ++ 32 ∷ [])
target_end start text some utf8 has =
    let whole : text ++ 32 ∷ [] ≡ has.front ++ (32 ∷ has.target ++ 32 ∷ []) = one_more has.front (32 ∷ has.target) 32 text has.is in
    let size : length text ≡ length has.front + 1 + length has.target =
    omega (arith, ap length has.is, length-append has.front (32 ∷ has.target)) in
    let cut : slice_range (text ++ 32 ∷ []) start (length text) ≡ has.target =
    ap (λ (n : ℕ). slice_range (text ++ 32 ∷ []) n (length text)) has.begins
    ∙ ap (λ (n : ℕ). slice_range (text ++ 32 ∷ []) (length has.front + 1) n) size
    ∙ ap (λ (t : List ℕ). slice_range t (length has.front + 1) (length has.front + 1 + length has.target)) whole
    ∙ target_cut has.front has.target in record {
      front = text ++ 32 ∷ [];
      target = record {
        front = has.front;
        target = has.target;
        method = has.method;
        some = omega (arith, some, size, has.begins);
        pass = has.pass;
        utf8 = subst IsUtf8 cut utf8;
        is = ap (λ (t : List ℕ). t ++ 32 ∷ []) has.is;
      };
      within = omega arith;
      is = sym (append-nil (text ++ 32 ∷ []));
    }

pub version_more : (known byte : ℕ) (text : List ℕ) → known < 7 → byte ≡ get_or (codes "HTTP/1.") known 0 → InVersion known text → InVersion (known + 1) (text ++ byte ∷ [])
version_more known byte text less same has = record {
  front = has.front;
  target = has.target;
  within = omega arith;
  is = one_more has.front (take known (codes "HTTP/1.")) byte text has.is
      ∙ ap (λ (b : ℕ). has.front ++ (take known (codes "HTTP/1.") ++ b ∷ [])) same
      ∙ ap (λ (t : List ℕ). has.front ++ t) (sym (take_more (codes "HTTP/1.") known 0 (omega arith)));
}

pub version_digit : (known minor : ℕ) (text : List ℕ) → known ≡ 7 → minor ≤ 1 → InVersion known text → HasVersion (text ++ (48 + minor) ∷ [])
version_digit known minor text whole small has = record {
  front = has.front;
  minor = minor;
  target = has.target;
  known = small;
  is = one_more has.front (take known (codes "HTTP/1.")) (48 + minor) text has.is
      ∙ ap (λ (n : ℕ). has.front ++ (take n (codes "HTTP/1.") ++ (48 + minor) ∷ [])) whole;
}

pub version_end : (end : LineEnd) (text : List ℕ) → HasVersion text → HasFields (text ++ print_end end)
version_end end text has = record {
  front = text;
  line_end = end;
  fields = [];
  version = has;
  each = All-nil IsField;
  is = sym (append-nil (text ++ print_end end));
}

pub fields_name : (byte : ℕ) (text : List ℕ) → is_token_byte byte ≡ true → HasFields text → HasName (text ++ byte ∷ [])
fields_name byte text is has = record {
  front = text;
  name = byte ∷ [];
  fields = has;
  token = (omega arith, All-cons (λ (b : ℕ). IsTrue (is_token_byte b)) byte [] is (All-nil (λ (b : ℕ). IsTrue (is_token_byte b))));
  is = refl;
}

pub name_more : (byte : ℕ) (text : List ℕ) → is_token_byte byte ≡ true → HasName text → HasName (text ++ byte ∷ [])
name_more byte text is has = record {
  front = has.front;
  name = has.name ++ byte ∷ [];
  fields = has.fields;
  token = token_more has.name byte is has.token;
  is = one_more has.front has.name byte text has.is;
}

pub name_colon : (text : List ℕ) → HasName text → HasValue (text ++ 58 ∷ [])
name_colon text has = record {
  front = text;
  raw = [];
  name = has;
  pass = All-nil (λ (b : ℕ). IsTrue (is_value_byte b));
  is = refl;
}

pub value_more : (byte : ℕ) (text : List ℕ) → is_value_byte byte ≡ true → HasValue text → HasValue (text ++ byte ∷ [])
value_more byte text is has = record {
  front = has.front;
  raw = has.raw ++ byte ∷ [];
  name = has.name;
  pass = All-push (λ (b : ℕ). IsTrue (is_value_byte b)) has.raw byte has.pass is;
  is = one_more has.front (58 ∷ has.raw) byte text has.is;
}

pub value_end : (end : LineEnd) (text : List ℕ) → HasValue text → HasFields (text ++ print_end end)
value_end end text has =
    let name = has.name in
    let before = name.fields in
    let field : Field = record { name = name.name; raw = has.raw; end = end } in
    let parts : text ≡ ((before.front ++ print_end before.line_end ++ flat_map print_field before.fields) ++ name.name) ++ 58 ∷ has.raw =
    has.is ∙ ap (λ (t : List ℕ). t ++ 58 ∷ has.raw) (name.is ∙ ap (λ (t : List ℕ). t ++ name.name) before.is) in record {
      front = before.front;
      line_end = before.line_end;
      fields = before.fields ++ field ∷ [];
      version = before.version;
      each = All-push IsField before.fields field before.each (record { name = name.token; raw = has.pass });
      is = ap (λ (t : List ℕ). t ++ print_end end) parts
          ∙ regroup before.front (print_end before.line_end) (flat_map print_field before.fields) name.name has.raw (print_end end)
          ∙ ap (λ (t : List ℕ). (before.front ++ print_end before.line_end) ++ t) (sym (flat_map-append print_field before.fields (field ∷ [])));
    }
  where
    regroup : (a b c d e f : List ℕ) → (((a ++ b ++ c) ++ d) ++ 58 ∷ e) ++ f ≡ (a ++ b) ++ (c ++ ((d ++ 58 ∷ e ++ f) ++ []))
    regroup a b c d e f = simp (append_assoc, cons-append, append-nil)

-- ---- what can still become a head

-- Some bytes after the text make it a whole head.
pub record Ends (text : List ℕ) : Type 0 where
  pub more : List ℕ
  pub head : RequestHead
  pub some : 0 < length more
  pub reads : ReadsRequest (text ++ more) head []

ends_before : (text more : List ℕ) → Ends (text ++ more) → Ends text
ends_before text more ends = record {
  more = more ++ ends.more;
  head = ends.head;
  some = omega (arith, ends.some, length-append more ends.more);
  reads = subst (λ (t : List ℕ). ReadsRequest t ends.head []) (append_assoc text more ends.more) ends.reads;
}

-- what the parser says of a short text, it says of the bytes in which a head has to stand
pub open_of : (text : List ℕ) → length text ≤ 16384 → HasNoRequest text → MayBecomeRequest text → IsOpenRequest text
open_of text short none may =
    let whole : take 16384 text ≡ text = take_all 16384 text short in record {
      not_whole = subst HasNoRequest (sym whole) none;
      may_be = subst MayBecomeRequest (sym whole) may;
    }

pub refused_of : (text : List ℕ) → length text ≤ 16384 → NeverHasRequest text → IsRefusedRequest text
refused_of text short never = inl (subst NeverHasRequest (sym (take_all 16384 text short)) never)

ends_open : (text : List ℕ) → length text ≤ 16384 → Ends text → IsOpenRequest text
ends_open text short ends =
    open_of text short
    (λ head rest reads.
    let longer : ReadsRequest (text ++ ends.more) head (rest ++ ends.more) = ReadsRequest-append text head rest ends.more reads in
    let same = request_unique (text ++ ends.more) head ends.head (rest ++ ends.more) [] longer ends.reads in
    omega (arith, ap length same.1, length-append rest ends.more, ends.some))
    (inl (ends.more, ends.head, ends.reads))

-- an empty line makes a head whole
whole_head : (last : LineEnd) (text : List ℕ) → HasFields text → (head : RequestHead) × ReadsRequest (text ++ print_end last) head []
whole_head last text has =
    let version = has.version in
    let target = version.target in
    let method = target.method in
    let head : RequestHead = record {
      blank = method.ends;
      method = method.method;
      target = target.target;
      minor = version.minor;
      line_end = has.line_end;
      fields = has.fields;
      last = last;
    } in
    let parts : text ≡ ((((print_blank method.ends ++ method.method) ++ 32 ∷ target.target ++ 32 ∷ []) ++ print_version version.minor) ++ print_end has.line_end ++ flat_map print_field has.fields) =
    has.is ∙ ap (λ (t : List ℕ). t ++ print_end has.line_end ++ flat_map print_field has.fields)
    (version.is ∙ ap (λ (t : List ℕ). t ++ print_version version.minor) (target.is ∙ ap (λ (t : List ℕ). t ++ 32 ∷ target.target ++ 32 ∷ []) method.is)) in (
      head,
      (
        record {
          method = method.token;
          target = (target.some, target.pass);
          target_text = target.utf8;
          minor = version.known;
          fields = has.each;
        },
        ap (λ (t : List ℕ). t ++ print_end last) parts
            ∙ regroup (print_blank method.ends) method.method target.target (print_version version.minor) (print_end has.line_end) (flat_map print_field has.fields) (print_end last)
            ∙ sym (print_request-append head []),
      ),
    )
  where
    regroup : (a b c d e f g : List ℕ) → ((((a ++ b) ++ 32 ∷ c ++ 32 ∷ []) ++ d) ++ e ++ f) ++ g ≡ a ++ (b ++ 32 ∷ (c ++ 32 ∷ (d ++ (e ++ ((f ++ g) ++ [])))))
    regroup a b c d e f g = simp (append_assoc, cons-append, append-nil)

fields_ends : (text : List ℕ) → HasFields text → Ends text
fields_ends text has =
    let whole = whole_head lf text has in record { more = 10 ∷ []; head = whole.0; some = omega arith; reads = whole.1 }

last_cr_ends : (text : List ℕ) → WithCr HasFields text → Ends text
last_cr_ends text (front, has, is) =
    let whole = whole_head crlf front has in record {
      more = 10 ∷ [];
      head = whole.0;
      some = omega arith;
      reads = subst (λ (t : List ℕ). ReadsRequest t whole.0 []) (sym (ap (λ (t : List ℕ). t ++ 10 ∷ []) is ∙ append_assoc front (13 ∷ []) (10 ∷ []))) whole.1;
    }

value_ends : (text : List ℕ) → HasValue text → Ends text
value_ends text has = ends_before text (10 ∷ []) (fields_ends (text ++ 10 ∷ []) (value_end lf text has))

value_cr_ends : (text : List ℕ) → WithCr HasValue text → Ends text
value_cr_ends text has = ends_before text (10 ∷ []) (fields_ends (text ++ 10 ∷ []) (crlf_of HasValue HasFields value_end text has))

name_ends : (text : List ℕ) → HasName text → Ends text
name_ends text has = ends_before text (58 ∷ []) (value_ends (text ++ 58 ∷ []) (name_colon text has))

version_ends : (text : List ℕ) → HasVersion text → Ends text
version_ends text has = ends_before text (10 ∷ []) (fields_ends (text ++ 10 ∷ []) (version_end lf text has))

line_cr_ends : (text : List ℕ) → WithCr HasVersion text → Ends text
line_cr_ends text has = ends_before text (10 ∷ []) (fields_ends (text ++ 10 ∷ []) (crlf_of HasVersion HasFields version_end text has))

in_version_ends : (known : ℕ) (text : List ℕ) → InVersion known text → Ends text
in_version_ends known text has =
    let left : List ℕ = drop known (codes "HTTP/1.") ++ 48 ∷ [] in
    ends_before text left (version_ends (text ++ left) (record {
      front = has.front;
      minor = 0;
      target = has.target;
      known = omega arith;
      is = ap (λ (t : List ℕ). t ++ left) has.is ∙ append_assoc has.front (take known (codes "HTTP/1.")) left
          ∙ ap (λ (t : List ℕ). has.front ++ t) (sym (append_assoc (take known (codes "HTTP/1.")) (drop known (codes "HTTP/1.")) (48 ∷ []))
          ∙ ap (λ (t : List ℕ). t ++ 48 ∷ []) (take-append-drop known (codes "HTTP/1.")));
    }))

method_ends : (text : List ℕ) → HasMethod text → Ends text
method_ends text has =
    let longer : List ℕ = text ++ (32 ∷ 47 ∷ 32 ∷ []) in
    ends_before text (32 ∷ 47 ∷ 32 ∷ []) (in_version_ends 0 longer (record {
      front = longer;
      target = record {
        front = text;
        target = 47 ∷ [];
        method = has;
        some = omega arith;
        pass = All-cons (λ (b : ℕ). IsTrue (is_uri_byte b)) 47 [] refl (All-nil (λ (b : ℕ). IsTrue (is_uri_byte b)));
        utf8 = IsUtf8-from_ascii (47 ∷ []) (IsAscii-cons 47 [] (omega arith) IsAscii-nil);
        is = sym (append_assoc text (32 ∷ 47 ∷ []) (32 ∷ []));
      };
      within = omega arith;
      is = sym (append-nil longer);
    }))

letter_is_token : is_token_byte 65 ≡ true
unfolding is_token_byte
letter_is_token = refl

blank_ends : (text : List ℕ) → HasBlank text → Ends text
blank_ends text has = ends_before text (65 ∷ []) (method_ends (text ++ 65 ∷ []) (blank_method 65 text letter_is_token has))

blank_cr_ends : (text : List ℕ) → WithCr HasBlank text → Ends text
blank_cr_ends text has = ends_before text (10 ∷ []) (blank_ends (text ++ 10 ∷ []) (crlf_of HasBlank HasBlank blank_end text has))

-- ---- inside a target

Uri : ℕ → Type 0
Uri b = IsTrue (is_uri_byte b)

not_uri : (target front back : List ℕ) → AllPass is_uri_byte target → target ≡ front ++ 32 ∷ back → ⊥
unfolding Uri
not_uri target front back pass is =
    let cut : All Uri (drop (length front) (front ++ 32 ∷ back)) =
    subst (λ (t : List ℕ). All Uri (drop (length front) t)) is (All-drop Uri (length front) target pass) in
    let rest : All Uri (32 ∷ back) = subst (All Uri) (drop-append_seam front (32 ∷ back)) cut in
    let byte : IsTrue (is_uri_byte 32) = All-head Uri 32 back rest in cc

target_not_whole : (start : ℕ) (text : List ℕ) → InTarget start text → HasNoRequest text
target_not_whole start text has head rest reads =
    let method = has.method in
    let blank = Blank_deterministic.unique method.ends head.blank text (method.method ++ 32 ∷ has.target) _ (
      has.is ∙ ap (λ (t : List ℕ). t ++ 32 ∷ has.target) method.is ∙ append_assoc (print_blank method.ends) method.method (32 ∷ has.target),
      Stops_token method.method (32 ∷ has.target) method.token.0 method.token.1,
    )
    (reads.1 ∙ print_request-append head rest, Stops_token head.method _ reads.0.method.0 reads.0.method.1) in
    let word = Method_deterministic.unique method.method head.method (method.method ++ 32 ∷ has.target) has.target _
    (method.token.0, method.token.1, refl) (reads.0.method.0, reads.0.method.1, blank.1) in
    not_uri has.target head.target _ has.pass word.1

target_open : (start : ℕ) (text : List ℕ) → length text ≤ 16384 → InTarget start text → IsOpenRequest text
target_open start text short has =
    let method = has.method in
    open_of text short (target_not_whole start text has)
    (inr (method.ends, method.method, has.target, method.token, has.pass, has.is ∙ ap (λ (t : List ℕ). t ++ 32 ∷ has.target) method.is))

-- ---- at each place

pub open_at : (place : HeadPlace) (text : List ℕ) → length text ≤ 16384 → IsAt place text → IsOpenRequest text
open_at Blank text short is = ends_open text short (blank_ends text is)
open_at BlankCr text short is = ends_open text short (blank_cr_ends text is)
open_at Method text short is = ends_open text short (method_ends text is)
open_at (Target start) text short is = target_open start text short is
open_at (Version known) text short is = ends_open text short (in_version_ends known text is)
open_at Minor text short is = ends_open text short (version_ends text is)
open_at LineCr text short is = ends_open text short (line_cr_ends text is)
open_at Line text short is = ends_open text short (fields_ends text is)
open_at LastCr text short is = ends_open text short (last_cr_ends text is)
open_at Name text short is = ends_open text short (name_ends text is)
open_at Value text short is = ends_open text short (value_ends text is)
open_at ValueCr text short is = ends_open text short (value_cr_ends text is)
open_at Asked text short is = is
