-- What the bytes of a token say.
use Rattle.std.proofs.Common.{◌≡◌, ℕ, ◌<◌, ◌^◌, List, take, drop, get_or, Bool, true, refl, sym, ap, ◌∙◌, arith}
use Rattle.std.specs.Prelude.{◌&&◌, ◌↔◌, IsTrue}
use Rattle.std.specs.Int.{w64, from_be_bytes}
use Rattle.std.proofs.lemmas.Bool.{eq-eqb}
use Rattle.std.proofs.lemmas.Nat.{from_be_bytes-to_be_bytes_8}
use Rattle.sb_model.specs.declared.names.ListName.{ListName}
use Rattle.sb_model.specs.Names.{threat_code, platform_code, entry_code, same_name}
use Rattle.mirror_places.specs.Tokens.{NamesPlaces, mirror_token, name_codes}

-- two names are one exactly if they have the same codes
abbrev pub NamesGoByCodes : Type 0
NamesGoByCodes = (a b : ListName) → IsTrue (same_name a b) ↔ (a ≡ b)

codes_in_token : (epoch : ℕ) (list : ListName) (place : ℕ) → drop 17 (mirror_token epoch list place) ≡ name_codes list
unfolding mirror_token
codes_in_token epoch list place = refl

place_in_token : (epoch : ℕ) (list : ListName) (place : ℕ) → place < 2 ^ 64 → from_be_bytes w64 (take 8 (drop 9 (mirror_token epoch list place))) ≡ place
unfolding mirror_token
place_in_token epoch list place fits = from_be_bytes-to_be_bytes_8 place fits

first_byte : (epoch : ℕ) (list : ListName) (place : ℕ) → get_or (mirror_token epoch list place) 0 0 ≡ 2
unfolding mirror_token
first_byte epoch list place = refl

all_true : (p q r : Bool) → p ≡ true → q ≡ true → r ≡ true → (p && q && r) ≡ true
all_true p q r a b c = ap (λ x. x && q && r) a ∙ ap (λ x. true && x && r) b ∙ c

same_codes : (a b : ListName) → name_codes a ≡ name_codes b → same_name a b ≡ true
same_codes a b is =
    all_true _ _ _ (eq-eqb (threat_code a.threat) (threat_code b.threat) (ap (λ (xs : List ℕ). get_or xs 0 0) is))
    (eq-eqb (platform_code a.platform) (platform_code b.platform) (ap (λ (xs : List ℕ). get_or xs 1 0) is))
    (eq-eqb (entry_code a.entry) (entry_code b.entry) (ap (λ (xs : List ℕ). get_or xs 2 0) is))

pub names_places : NamesGoByCodes → (epoch : ℕ) → epoch < 2 ^ 64 → NamesPlaces epoch
names_places by_codes epoch fits = record {
  some = λ list place none.
      let is : 2 ≡ 0 = sym (first_byte epoch list place) ∙ ap (λ (xs : List ℕ). get_or xs 0 0) none in
      absurd (omega (arith, is));
  list = λ list other place another is.
      (by_codes list other).0 (same_codes list other (sym (codes_in_token epoch list place) ∙ ap (λ (xs : List ℕ). drop 17 xs) is ∙ codes_in_token epoch other another));
  place = λ list place another within within' is.
      sym (place_in_token epoch list place (omega (arith, within))) ∙ ap (λ (xs : List ℕ). from_be_bytes w64 (take 8 (drop 9 xs))) is
      ∙ place_in_token epoch list another (omega (arith, within'));
}
