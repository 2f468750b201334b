-- The state tokens of a mirror: 20 bytes for each place of each list. They are its own, and none of a list server's is one of them.
use Rattle.std.specs.Prelude.{◌≡◌, ◌≤◌, ℕ, List, [], ◌∷◌, ◌++◌}
use Rattle.std.specs.Int.{w64, to_be_bytes}
use Rattle.sb_model.specs.declared.names.ListName.{ListName}
use Rattle.sb_model.specs.Names.{threat_code, platform_code, entry_code}
use Rattle.mirror_places.specs.Places.{last_place}

-- the three codes of a list
abbrev pub name_codes : ListName → List ℕ
name_codes list = threat_code list.threat ∷ platform_code list.platform ∷ entry_code list.entry ∷ []

-- the byte 2, the epoch and the place in 8 bytes each, the highest byte first, and the codes of the list
unfoldable pub mirror_token : ℕ → ListName → ℕ → List ℕ
mirror_token epoch list place = (2 ∷ to_be_bytes w64 epoch) ++ to_be_bytes w64 place ++ name_codes list

-- A token of a mirror names one list and one place, and it is not empty.
pub record NamesPlaces (epoch : ℕ) : Type 0 where
  pub some : (list : ListName) (place : ℕ) → mirror_token epoch list place ≡ [] → ⊥
  pub list : (list other : ListName) (place another : ℕ) → mirror_token epoch list place ≡ mirror_token epoch other another → list ≡ other
  pub place : (list : ListName) (place another : ℕ) → place ≤ last_place → another ≤ last_place
      → mirror_token epoch list place ≡ mirror_token epoch list another → place ≡ another
