-- The name, the mark and the token of a list, read and written.
use Rattle.std.proofs.Common.{◌≡◌, ℕ, ◌^◌, ◌≤◌, Bool, true, false, cond, eqb, ltb, List, [], ◌∷◌, ◌++◌, length, Option, Some, None, Ok, Err, refl, sym, ap, subst, ◌∙◌, append_assoc, arith}
use Rattle.std.specs.Prelude.{option_and_then, find}
use Rattle.std.specs.Option.{option_map}
use Rattle.std.specs.Int.{w16, to_be_bytes}
use Rattle.std.proofs.lemmas.Bool.{eqb-true, ltb-false, le-ltb}
use Rattle.sb_model.specs.declared.names.ThreatType.{ThreatType}
use Rattle.sb_model.specs.declared.names.ThreatType.TheVariants as threat
use Rattle.sb_model.specs.declared.names.PlatformType.{PlatformType}
use Rattle.sb_model.specs.declared.names.PlatformType.TheVariants as platform
use Rattle.sb_model.specs.declared.names.EntryType.{EntryType}
use Rattle.sb_model.specs.declared.names.EntryType.TheVariants as entry
use Rattle.sb_model.specs.declared.names.ListName.{ListName}
use Rattle.sb_model.specs.Names.{threats, platforms, entries, threat_code, platform_code, entry_code, threat_with_code, platform_with_code, entry_with_code}
use Rattle.update_client.specs.Held.{Held}
use Rattle.client_store.specs.Store.{name_text, mark_text, stored_token_text}
use Rattle.client_store.specs.Reading.{◌>>=◌, or_broken, byte_at, bytes_at, number_at, name_of_codes, name_of_bytes, comes_after, name_at, mark_of, mark_at, most_token_bytes, token_at}
use Rattle.client_store.proofs.Parts.{IsBytes, bind_ok, unless_ok, if_ok, or_broken_ok, ok_is, Takes, joined, byte_takes, bytes_take, bytes_again, two_bytes, number_takes, number_again}

-- ---- the tables of types

pub threat_back : (t : ThreatType) → threat_with_code (threat_code t) ≡ Some t
unfolding threat_with_code
threat_back threat.Malware = refl
threat_back threat.SocialEngineering = refl
threat_back threat.UnwantedSoftware = refl
threat_back threat.PotentiallyHarmfulApplication = refl

pub platform_back : (p : PlatformType) → platform_with_code (platform_code p) ≡ Some p
unfolding platform_with_code
platform_back platform.Windows = refl
platform_back platform.Linux = refl
platform_back platform.Android = refl
platform_back platform.Osx = refl
platform_back platform.Ios = refl
platform_back platform.AnyPlatform = refl
platform_back platform.AllPlatforms = refl
platform_back platform.Chrome = refl

pub entry_back : (e : EntryType) → entry_with_code (entry_code e) ≡ Some e
unfolding entry_with_code
entry_back entry.Url = refl
entry_back entry.Executable = refl

found_next : {X : Type 0} (p : X → Bool) (y : X) (ys : List X) (x : X) (b : Bool) → p y ≡ b → (find p ys ≡ Some x → p x ≡ true) → cond b (Some y) (find p ys) ≡ Some x → p x ≡ true
found_next p y ys x true passes others is = let same : y ≡ x = cc in sym (ap p same) ∙ passes
found_next p y ys x false fails others is = others is

found_passes : {X : Type 0} (p : X → Bool) (xs : List X) (x : X) → find p xs ≡ Some x → p x ≡ true
found_passes p [] x e = absurd cc
found_passes p (y ∷ ys) x e = found_next p y ys x (p y) refl (found_passes p ys x) e

threat_found : (code : ℕ) (t : ThreatType) → threat_with_code code ≡ Some t → threat_code t ≡ code
unfolding threat_with_code
threat_found code t e = eqb-true _ _ (found_passes (λ other. eqb (threat_code other) code) threats t e)

platform_found : (code : ℕ) (p : PlatformType) → platform_with_code code ≡ Some p → platform_code p ≡ code
unfolding platform_with_code
platform_found code p e = eqb-true _ _ (found_passes (λ other. eqb (platform_code other) code) platforms p e)

entry_found : (code : ℕ) (e : EntryType) → entry_with_code code ≡ Some e → entry_code e ≡ code
unfolding entry_with_code
entry_found code e is = eqb-true _ _ (found_passes (λ other. eqb (entry_code other) code) entries e is)

-- ---- names

then_some : {A B : Type 0} (f : A → Option B) (o : Option A) (b : B) → option_and_then f o ≡ Some b → (a : A) × (o ≡ Some a) × (f a ≡ Some b)
then_some f None b e = absurd cc
then_some f (Some a) b e = (a, refl, e)

map_some : {A B : Type 0} (f : A → B) (o : Option A) (b : B) → option_map f o ≡ Some b → (a : A) × (o ≡ Some a) × (f a ≡ b)
map_some f None b e = absurd cc
map_some f (Some a) b e = (a, refl, cc)

codes_are : (threat platform entry : ℕ) (name : ListName) → name_of_codes threat platform entry ≡ Some name → threat ∷ platform ∷ entry ∷ [] ≡ name_text name
codes_are threat platform entry name e =
    let t = then_some (λ (t : ThreatType). option_and_then (λ (p : PlatformType). option_map (λ (e : EntryType). let made : ListName = record { threat = t; platform = p; entry = e } in made) (entry_with_code entry)) (platform_with_code platform)) (threat_with_code threat) name e in
    let p = then_some (λ (p : PlatformType). option_map (λ (e : EntryType). let made : ListName = record { threat = t.0; platform = p; entry = e } in made) (entry_with_code entry)) (platform_with_code platform) name t.2 in
    let n = map_some (λ (e : EntryType). let made : ListName = record { threat = t.0; platform = p.0; entry = e } in made) (entry_with_code entry) name p.2 in
    let made : ListName = record { threat = t.0; platform = p.0; entry = n.0 } in
    let same : threat ∷ platform ∷ entry ∷ [] ≡ name_text made =
    ap (λ code. code ∷ platform ∷ entry ∷ []) (sym (threat_found threat t.0 t.1))
    ∙ ap (λ code. threat_code t.0 ∷ code ∷ entry ∷ []) (sym (platform_found platform p.0 p.1))
    ∙ ap (λ code. threat_code t.0 ∷ platform_code p.0 ∷ code ∷ []) (sym (entry_found entry n.0 n.1))
    in
    same ∙ ap name_text n.2

bytes_are : (bytes : List ℕ) (name : ListName) → name_of_bytes bytes ≡ Some name → bytes ≡ name_text name
bytes_are [] name e = absurd cc
bytes_are (a ∷ []) name e = absurd cc
bytes_are (a ∷ b ∷ []) name e = absurd cc
bytes_are (a ∷ b ∷ c ∷ []) name e = codes_are a b c name e
bytes_are (a ∷ b ∷ c ∷ d ∷ bytes) name e = absurd cc

name_back : (name : ListName) → name_of_bytes (name_text name) ≡ Some name
name_back name = rw (threat_back name.threat, platform_back name.platform, entry_back name.entry) refl

pub name_takes : (before : List Held) (bytes : List ℕ) (x : ListName × List ℕ) → IsBytes bytes → name_at before bytes ≡ Ok x → Takes bytes (name_text x.0) x.1 × (comes_after before x.0 ≡ true)
unfolding name_at
name_takes before bytes x fits e =
    let a = bind_ok (bytes_at 3 bytes) (λ codes. or_broken (length bytes) (name_of_bytes codes.0) >>= λ name. cond (comes_after before name) (Ok (name, codes.1)) (Err (length bytes))) x e in
    let b = bind_ok (or_broken (length bytes) (name_of_bytes a.0.0)) (λ name. cond (comes_after before name) (Ok (name, a.0.1)) (Err (length bytes))) x a.2 in
    let kept = if_ok (comes_after before b.0) (length bytes) (Ok (b.0, a.0.1)) x b.2 in
    let taken = bytes_take 3 bytes a.0 fits a.1 in
    let is : a.0.0 ≡ name_text b.0 = bytes_are a.0.0 b.0 (or_broken_ok (length bytes) (name_of_bytes a.0.0) b.0 b.1) in
    subst (λ (y : ListName × List ℕ). Takes bytes (name_text y.0) y.1 × (comes_after before y.0 ≡ true)) (ok_is (b.0, a.0.1) x kept.1)
    (subst (λ (t : List ℕ). Takes bytes t a.0.1) is taken.0, kept.0)

pub name_again : (before : List Held) (name : ListName) (rest : List ℕ) → comes_after before name ≡ true → name_at before (name_text name ++ rest) ≡ Ok (name, rest)
unfolding name_at
name_again before name rest after = rw (bytes_again (name_text name) rest 3 refl, name_back name, after) refl

-- ---- marks

mark_is : (byte : ℕ) (mark : Bool) → mark_of byte ≡ Some mark → byte ∷ [] ≡ mark_text mark
mark_is byte mark e = go (eqb byte 0) refl e
  where
    one : (b : Bool) → eqb byte 1 ≡ b → cond b (Some true) None ≡ Some mark → byte ∷ [] ≡ mark_text mark
    one true is h = let same : true ≡ mark = cc in ap (λ n. n ∷ []) (eqb-true _ _ is) ∙ ap mark_text same
    one false is h = absurd cc

    go : (b : Bool) → eqb byte 0 ≡ b → cond b (Some false) (cond (eqb byte 1) (Some true) None) ≡ Some mark → byte ∷ [] ≡ mark_text mark
    go true is h = let same : false ≡ mark = cc in ap (λ n. n ∷ []) (eqb-true _ _ is) ∙ ap mark_text same
    go false is h = one (eqb byte 1) refl h

pub mark_takes : (bytes : List ℕ) (x : Bool × List ℕ) → IsBytes bytes → mark_at bytes ≡ Ok x → Takes bytes (mark_text x.0) x.1
unfolding mark_at
mark_takes bytes x fits e =
    let a = bind_ok (byte_at bytes) (λ byte. or_broken (length bytes) (mark_of byte.0) >>= λ mark. Ok (mark, byte.1)) x e in
    let b = bind_ok (or_broken (length bytes) (mark_of a.0.0)) (λ mark. Ok (mark, a.0.1)) x a.2 in
    let is = mark_is a.0.0 b.0 (or_broken_ok (length bytes) (mark_of a.0.0) b.0 b.1) in
    subst (λ (y : Bool × List ℕ). Takes bytes (mark_text y.0) y.1) (ok_is (b.0, a.0.1) x b.2)
    (subst (λ (t : List ℕ). Takes bytes t a.0.1) is (byte_takes bytes a.0 fits a.1))

pub mark_again : (mark : Bool) (rest : List ℕ) → mark_at (mark_text mark ++ rest) ≡ Ok (mark, rest)
unfolding mark_at
mark_again true rest = refl
mark_again false rest = refl

-- ---- tokens

pub token_takes : (bytes : List ℕ) (x : List ℕ × List ℕ) → IsBytes bytes → token_at bytes ≡ Ok x → Takes bytes (stored_token_text x.0) x.1 × (length x.0 ≤ most_token_bytes)
unfolding token_at
token_takes bytes x fits e =
    let a = bind_ok (number_at w16 bytes) (λ size. cond (ltb most_token_bytes size.0) (Err (length bytes)) (bytes_at size.0 size.1)) x e in
    let kept = unless_ok (ltb most_token_bytes a.0.0) (length bytes) (bytes_at a.0.0 a.0.1) x a.2 in
    let first = number_takes w16 (2 ^ 16) two_bytes bytes a.0 fits a.1 in
    let second = bytes_take a.0.0 a.0.1 x first.fits kept.1 in
    let short : a.0.0 ≤ most_token_bytes = ltb-false _ _ kept.0 in
    (subst (λ (n : ℕ). Takes bytes (to_be_bytes w16 n ++ x.0) x.1) (sym second.1) (joined bytes (to_be_bytes w16 a.0.0) a.0.1 x.0 x.1 first second.0), omega (arith, second.1, short))

pub token_again : (token rest : List ℕ) → length token ≤ most_token_bytes → token_at (stored_token_text token ++ rest) ≡ Ok (token, rest)
unfolding token_at
token_again token rest short =
    let kept : ltb most_token_bytes (length token) ≡ false = le-ltb _ _ short in
    let regrouped : stored_token_text token ++ rest ≡ to_be_bytes w16 (length token) ++ (token ++ rest) = append_assoc (to_be_bytes w16 (length token)) token rest in
    ap token_at regrouped
    ∙ rw (number_again w16 (2 ^ 16) two_bytes (length token) (token ++ rest) (omega arith), kept, bytes_again token rest (length token) refl) refl
