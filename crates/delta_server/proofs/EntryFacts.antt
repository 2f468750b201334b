-- Full hashes that are taken out and put in.
use Rattle.std.proofs.Common.{◌≡◌, ℕ, suc, ◌+◌, ◌<◌, Bool, true, false, cond, not, List, [], ◌∷◌, ◌++◌, length, refl, sym, ap, subst, ◌∙◌, arith, append_assoc, append-nil, length-append, zero-add, take, get_or, Option, Some, None}
use Rattle.std.specs.Prelude.{filter, fold, is_some, if◌then◌else◌}
use Rattle.std.specs.Str.{bytes_eq}
use Rattle.std.specs.List.{AllByRecursion}
use Rattle.std.proofs.lemmas.Bool.{false≢true}
use Rattle.std.proofs.lemmas.List.{take_more}
use Rattle.std.proofs.lemmas.List.Elements.{filter-append}
use Rattle.sb_model.specs.declared.history.Added.{Added}
use Rattle.sb_model.specs.History.{prefix_of, without_hash, with_added}
use Rattle.delta_server.specs.Counts.{has_prefix, holders_of, Gains, prefix_of_hash, HaveHashesApart}
use Rattle.delta_server.proofs.SetCounts.{equal_bytes, same_bytes, other_bytes}

pub flip_other : (a b : List ℕ) → bytes_eq a b ≡ false → bytes_eq b a ≡ false
flip_other a b other = other_bytes b a (λ e. false≢true (sym other ∙ same_bytes a b (sym e)))

-- ---- without a hash

pub prefix_at-without_hash : (entries : List Added) (hash other : List ℕ) → prefix_of_hash other (without_hash entries hash) ≡ (if bytes_eq hash other then None else prefix_of_hash other entries)
prefix_at-without_hash [] hash other = go (bytes_eq hash other)
  where
    go : (t : Bool) → None ≡ (if t then None else prefix_of_hash other [])
    go true = refl
    go false = refl
prefix_at-without_hash (e ∷ es) hash other = go (bytes_eq e.hash hash) refl (prefix_at-without_hash es hash other)
  where
    pick : (t : Bool) → bytes_eq e.hash hash ≡ false → bytes_eq e.hash other ≡ t → prefix_of_hash other (without_hash es hash) ≡ (if bytes_eq hash other then None else prefix_of_hash other es)
        → (if t then Some (prefix_of e) else prefix_of_hash other (without_hash es hash)) ≡ (if bytes_eq hash other then None else (if t then Some (prefix_of e) else prefix_of_hash other es))
    pick true apart is more =
        let same : e.hash ≡ other = equal_bytes e.hash other is in
        let no : bytes_eq hash other ≡ false = other_bytes hash other (λ k. false≢true (sym apart ∙ same_bytes e.hash hash (same ∙ sym k))) in
        sym (ap (λ (t : Bool). if t then None else Some (prefix_of e)) no)
    pick false apart is more = more

    drop_own : (t : Bool) → bytes_eq e.hash hash ≡ true → bytes_eq hash other ≡ t → (if t then None else prefix_of_hash other es) ≡ (if t then None else (if bytes_eq e.hash other then Some (prefix_of e) else prefix_of_hash other es))
    drop_own true own is = refl
    drop_own false own is =
        let same : e.hash ≡ hash = equal_bytes e.hash hash own in
        let no : bytes_eq e.hash other ≡ false = ap (λ (h : List ℕ). bytes_eq h other) same ∙ is in
        sym (ap (λ (t : Bool). if t then Some (prefix_of e) else prefix_of_hash other es) no)

    go : (t : Bool) → bytes_eq e.hash hash ≡ t → prefix_of_hash other (without_hash es hash) ≡ (if bytes_eq hash other then None else prefix_of_hash other es)
        → prefix_of_hash other (cond (not t) (e ∷ without_hash es hash) (without_hash es hash)) ≡ (if bytes_eq hash other then None else prefix_of_hash other (e ∷ es))
    go true is more = more ∙ drop_own (bytes_eq hash other) is refl
    go false is more = pick (bytes_eq e.hash other) is refl more

-- no entry has the hash
abbrev pub Lacks : List Added → List ℕ → Type 0
Lacks entries hash = AllByRecursion (λ (e : Added). bytes_eq e.hash hash ≡ false) entries

pub lacks_none : (entries : List Added) (hash : List ℕ) → prefix_of_hash hash entries ≡ None → Lacks entries hash
lacks_none [] hash none = tt
lacks_none (e ∷ es) hash none = go (bytes_eq e.hash hash) refl none (lacks_none es hash)
  where
    go : (t : Bool) → bytes_eq e.hash hash ≡ t → (if t then Some (prefix_of e) else prefix_of_hash hash es) ≡ None → (prefix_of_hash hash es ≡ None → Lacks es hash) → Lacks (e ∷ es) hash
    go true is h more = absurd (cc)
    go false is h more = (is, more h)

pub without_lacking : (entries : List Added) (hash : List ℕ) → Lacks entries hash → without_hash entries hash ≡ entries
without_lacking [] hash lacks = refl
without_lacking (e ∷ es) hash lacks =
    ap (λ (t : Bool). cond (not t) (e ∷ without_hash es hash) (without_hash es hash)) lacks.0 ∙ ap (λ (xs : List Added). e ∷ xs) (without_lacking es hash lacks.1)

lacks_own : (es : List Added) (e : Added) (hash : List ℕ) → e.hash ≡ hash → AllByRecursion (λ (other : Added). bytes_eq other.hash e.hash ≡ false) es → Lacks es hash
lacks_own es e hash is all = subst (λ (h : List ℕ). Lacks es h) is all

-- what was found goes
pub record Goes (entries : List Added) (hash prefix : List ℕ) : Type 0 where
  pub gains : Gains (without_hash entries hash) entries prefix
  pub count : length entries ≡ length (without_hash entries hash) + 1

holders_cons : (q : List ℕ) (e : Added) (es : List Added) → holders_of q (e ∷ es) ≡ holders_of q es + (if has_prefix q e then 1 else 0)
holders_cons q e es = go (has_prefix q e)
  where
    go : (t : Bool) → length (cond t (e ∷ filter (has_prefix q) es) (filter (has_prefix q) es)) ≡ length (filter (has_prefix q) es) + (if t then 1 else 0)
    go true = omega arith
    go false = omega arith

pub goes : (entries : List Added) (hash prefix : List ℕ) → HaveHashesApart entries → prefix_of_hash hash entries ≡ Some prefix → Goes entries hash prefix
goes [] hash prefix apart found = absurd (cc)
goes (e ∷ es) hash prefix apart found = go (bytes_eq e.hash hash) refl found (goes es hash prefix apart.1)
  where
    first : bytes_eq e.hash hash ≡ true → Some (prefix_of e) ≡ Some prefix → Goes (e ∷ es) hash prefix
    first is h =
        let own : prefix_of e ≡ prefix = cc in
        let left : without_hash (e ∷ es) hash ≡ es =
        ap (λ (t : Bool). cond (not t) (e ∷ without_hash es hash) (without_hash es hash)) is
        ∙ without_lacking es hash (lacks_own es e hash (equal_bytes e.hash hash is) apart.0) in
        record {
          gains = record {
            holders = λ other.
                holders_cons other e es ∙ ap (λ (p : List ℕ). holders_of other es + (if bytes_eq p other then 1 else 0)) own
                ∙ sym (ap (λ (xs : List Added). holders_of other xs + (if bytes_eq prefix other then 1 else 0)) left);
          };
          count = let one : suc (length es) ≡ length es + 1 = omega arith in one ∙ sym (ap (λ (xs : List Added). length xs + 1) left);
        }

    later : bytes_eq e.hash hash ≡ false → Goes es hash prefix → Goes (e ∷ es) hash prefix
    later is more =
        let left : without_hash (e ∷ es) hash ≡ e ∷ without_hash es hash = ap (λ (t : Bool). cond (not t) (e ∷ without_hash es hash) (without_hash es hash)) is in
        record {
          gains = record {
            holders = λ other.
                let one : holders_of other (e ∷ es) ≡ holders_of other (e ∷ without_hash es hash) + (if bytes_eq prefix other then 1 else 0) =
                omega (arith, holders_cons other e es, holders_cons other e (without_hash es hash), more.gains.holders other) in
                one ∙ sym (ap (λ (xs : List Added). holders_of other xs + (if bytes_eq prefix other then 1 else 0)) left);
          };
          count = let one : suc (length es) ≡ suc (length (without_hash es hash)) + 1 = omega (arith, more.count) in one ∙ sym (ap (λ (xs : List Added). length xs + 1) left);
        }

    go : (t : Bool) → bytes_eq e.hash hash ≡ t → (if t then Some (prefix_of e) else prefix_of_hash hash es) ≡ Some prefix
        → (prefix_of_hash hash es ≡ Some prefix → Goes es hash prefix) → Goes (e ∷ es) hash prefix
    go true is h more = first is h
    go false is h more = later is (more h)

all_without : (P : Added → Type 0) (entries : List Added) (hash : List ℕ) → AllByRecursion P entries → AllByRecursion P (without_hash entries hash)
all_without P [] hash all = tt
all_without P (e ∷ es) hash all = go (bytes_eq e.hash hash) (all_without P es hash all.1)
  where
    go : (t : Bool) → AllByRecursion P (without_hash es hash) → AllByRecursion P (cond (not t) (e ∷ without_hash es hash) (without_hash es hash))
    go true more = more
    go false more = (all.0, more)

pub apart_without : (entries : List Added) (hash : List ℕ) → HaveHashesApart entries → HaveHashesApart (without_hash entries hash)
apart_without [] hash apart = tt
apart_without (e ∷ es) hash apart = go (bytes_eq e.hash hash) (apart_without es hash apart.1)
  where
    go : (t : Bool) → HaveHashesApart (without_hash es hash) → HaveHashesApart (cond (not t) (e ∷ without_hash es hash) (without_hash es hash))
    go true more = more
    go false more = (all_without (λ (other : Added). bytes_eq other.hash e.hash ≡ false) es hash apart.0, more)

-- ---- with one entry more

pub gains_push : (entries : List Added) (added : Added) → Gains entries (entries ++ added ∷ []) (prefix_of added)
gains_push entries added = record {
  holders = λ other.
      ap length (filter-append (has_prefix other) entries (added ∷ []))
      ∙ length-append (filter (has_prefix other) entries) (filter (has_prefix other) (added ∷ []))
      ∙ ap (λ n. holders_of other entries + n) (holders_cons other added [] ∙ zero-add (if has_prefix other added then 1 else 0));
}

prefix_at-push : (entries : List Added) (added : Added) (other : List ℕ) → Lacks entries added.hash
    → prefix_of_hash other (entries ++ added ∷ []) ≡ (if bytes_eq added.hash other then Some (prefix_of added) else prefix_of_hash other entries)
prefix_at-push [] added other lacks = refl
prefix_at-push (e ∷ es) added other lacks = go (bytes_eq e.hash other) refl (prefix_at-push es added other lacks.1)
  where
    go : (t : Bool) → bytes_eq e.hash other ≡ t
        → prefix_of_hash other (es ++ added ∷ []) ≡ (if bytes_eq added.hash other then Some (prefix_of added) else prefix_of_hash other es)
        → (if t then Some (prefix_of e) else prefix_of_hash other (es ++ added ∷ [])) ≡ (if bytes_eq added.hash other then Some (prefix_of added) else (if t then Some (prefix_of e) else prefix_of_hash other es))
    go true is more =
        let same : e.hash ≡ other = equal_bytes e.hash other is in
        let no : bytes_eq added.hash other ≡ false = other_bytes added.hash other (λ k. false≢true (sym lacks.0 ∙ same_bytes e.hash added.hash (same ∙ sym k))) in
        sym (ap (λ (t : Bool). if t then Some (prefix_of added) else Some (prefix_of e)) no)
    go false is more = more

all_push : (P : Added → Type 0) (entries : List Added) (added : Added) → AllByRecursion P entries → P added → AllByRecursion P (entries ++ added ∷ [])
all_push P [] added all here = (here, tt)
all_push P (e ∷ es) added all here = (all.0, all_push P es added all.1 here)

apart_push : (entries : List Added) (added : Added) → HaveHashesApart entries → Lacks entries added.hash → HaveHashesApart (entries ++ added ∷ [])
apart_push [] added apart lacks = (tt, tt)
apart_push (e ∷ es) added apart lacks =
    (all_push (λ (other : Added). bytes_eq other.hash e.hash ≡ false) es added apart.0 (flip_other e.hash added.hash lacks.0), apart_push es added apart.1 lacks.1)

-- ---- with an entry in place of the one that its hash had

lacks_without : (entries : List Added) (hash : List ℕ) → Lacks (without_hash entries hash) hash
lacks_without entries hash = lacks_none (without_hash entries hash) hash
    (prefix_at-without_hash entries hash hash ∙ ap (λ (t : Bool). if t then None else prefix_of_hash hash entries) (same_bytes hash hash refl))

pub prefix_at-with_added : (entries : List Added) (added : Added) (other : List ℕ)
    → prefix_of_hash other (with_added entries added) ≡ (if bytes_eq added.hash other then Some (prefix_of added) else prefix_of_hash other entries)
prefix_at-with_added entries added other =
    prefix_at-push (without_hash entries added.hash) added other (lacks_without entries added.hash)
    ∙ go (bytes_eq added.hash other) (prefix_at-without_hash entries added.hash other)
  where
    go : (t : Bool) → prefix_of_hash other (without_hash entries added.hash) ≡ (if t then None else prefix_of_hash other entries)
        → (if t then Some (prefix_of added) else prefix_of_hash other (without_hash entries added.hash)) ≡ (if t then Some (prefix_of added) else prefix_of_hash other entries)
    go true is = refl
    go false is = is

pub apart_added : (entries : List Added) (added : Added) → HaveHashesApart entries → HaveHashesApart (with_added entries added)
apart_added entries added apart =
    apart_push (without_hash entries added.hash) added (apart_without entries added.hash apart) (lacks_without entries added.hash)

-- ---- entries that are apart, put in one by one

apart_front : (front : List Added) (e : Added) (es : List Added) → HaveHashesApart (front ++ e ∷ es) → Lacks front e.hash
apart_front [] e es apart = tt
apart_front (f ∷ fs) e es apart = (flip_other e.hash f.hash (here fs apart.0), apart_front fs e es apart.1)
  where
    here : (xs : List Added) → AllByRecursion (λ (other : Added). bytes_eq other.hash f.hash ≡ false) (xs ++ e ∷ es) → bytes_eq e.hash f.hash ≡ false
    here [] all = all.0
    here (x ∷ xs) all = here xs all.1

pub put_each : (front entries : List Added) → HaveHashesApart (front ++ entries) → fold with_added front entries ≡ front ++ entries
put_each front [] apart = sym (append-nil front)
put_each front (e ∷ es) apart =
    let one : with_added front e ≡ front ++ e ∷ [] = ap (λ (xs : List Added). xs ++ e ∷ []) (without_lacking front e.hash (apart_front front e es apart)) in
    let whole : (front ++ e ∷ []) ++ es ≡ front ++ e ∷ es = append_assoc front (e ∷ []) es in
    ap (λ (xs : List Added). fold with_added xs es) one
    ∙ put_each (front ++ e ∷ []) es (subst HaveHashesApart (sym whole) apart)
    ∙ whole

-- ---- how many are left, and how many there are with one more

pub taken_count : (entries : List Added) (hash : List ℕ) (left : ℕ) (found : Option (List ℕ)) → HaveHashesApart entries → found ≡ prefix_of_hash hash entries
    → left + (if is_some found then 1 else 0) ≡ length entries → left ≡ length (without_hash entries hash)
taken_count entries hash left None apart is count =
    let same : without_hash entries hash ≡ entries = without_lacking entries hash (lacks_none entries hash (sym is)) in
    omega (arith, count, ap length same)
taken_count entries hash left (Some prefix) apart is count = omega (arith, count, (goes entries hash prefix apart (sym is)).count)

pub added_count : (entries : List Added) (added : Added) (before after : ℕ) (found : Option (List ℕ)) → HaveHashesApart entries → found ≡ prefix_of_hash added.hash entries
    → before ≡ length entries → after ≡ before + (if is_some found then 0 else 1) → after ≡ length (with_added entries added)
added_count entries added before after None apart is count grows =
    let same : without_hash entries added.hash ≡ entries = without_lacking entries added.hash (lacks_none entries added.hash (sym is)) in
    omega (arith, count, grows, ap length same, length-append (without_hash entries added.hash) (added ∷ []))
added_count entries added before after (Some prefix) apart is count grows =
    omega (arith, count, grows, (goes entries added.hash prefix apart (sym is)).count, length-append (without_hash entries added.hash) (added ∷ []))

-- ---- a fold that goes on

fold-push : {A B : Type 0} (f : B → A → B) (b : B) (xs : List A) (x : A) → fold f b (xs ++ x ∷ []) ≡ f (fold f b xs) x
fold-push f b [] x = refl
fold-push f b (y ∷ ys) x = fold-push f (f b y) ys x

pub fold_on : {A B : Type 0} (f : B → A → B) (b : B) (xs : List A) (i : ℕ) (x : A) → i < length xs → x ≡ get_or xs i x → f (fold f b (take i xs)) x ≡ fold f b (take (i + 1) xs)
fold_on f b xs i x below is =
    ap (f (fold f b (take i xs))) is ∙ sym (fold-push f b (take i xs) (get_or xs i x)) ∙ sym (ap (fold f b) (take_more xs i x below))
