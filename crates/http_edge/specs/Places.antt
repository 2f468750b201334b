-- Where a text ends that more bytes may make the head of a request, over the grammar of `httparse`.
use Rattle.std.specs.Prelude.{◌≡◌, ℕ, ◌+◌, ◌<◌, ◌≤◌, List, [], ◌∷◌, ◌++◌, length, take, codes, All, IsUtf8}
use Rattle.std.specs.List.{flat_map}
use Rattle.httparse.specs.Grammar.{is_uri_byte, is_value_byte, AllPass, IsToken, LineEnd, print_end, print_blank, print_version, Field, IsField, print_field}
use Rattle.http_edge.specs.Heads.{IsOpenRequest}
use Rattle.http_edge.specs.declared.head_places.HeadPlace.{HeadPlace}
use Rattle.http_edge.specs.declared.head_places.HeadPlace.TheVariants.{Blank, BlankCr, Method, Target, Version, Minor, LineCr, Line, LastCr, Name, Value, ValueCr, Asked}

-- empty lines
pub record HasBlank (text : List ℕ) : Type 0 where
  pub ends : List LineEnd
  pub is : text ≡ print_blank ends

-- empty lines and a method
pub record HasMethod (text : List ℕ) : Type 0 where
  pub ends : List LineEnd
  pub method : List ℕ
  pub token : IsToken method
  pub is : text ≡ print_blank ends ++ method

-- a method, a space, and bytes of a target, which begin at this place
pub record InTarget (start : ℕ) (text : List ℕ) : Type 0 where
  pub front : List ℕ
  pub target : List ℕ
  pub method : HasMethod front
  pub pass : AllPass is_uri_byte target
  pub is : text ≡ front ++ 32 ∷ target
  pub begins : start ≡ length front + 1

-- a method, a target, and a space after each
pub record HasTarget (text : List ℕ) : Type 0 where
  pub front : List ℕ
  pub target : List ℕ
  pub method : HasMethod front
  pub some : 0 < length target
  pub pass : AllPass is_uri_byte target
  pub utf8 : IsUtf8 target
  pub is : text ≡ front ++ 32 ∷ target ++ 32 ∷ []

-- a target, and so many bytes of a version
pub record InVersion (known : ℕ) (text : List ℕ) : Type 0 where
  pub front : List ℕ
  pub target : HasTarget front
  pub within : known ≤ 7
  pub is : text ≡ front ++ take known (codes "HTTP/1.")

-- a request line without its end
pub record HasVersion (text : List ℕ) : Type 0 where
  pub front : List ℕ
  pub minor : ℕ
  pub target : HasTarget front
  pub known : minor ≤ 1
  pub is : text ≡ front ++ print_version minor

-- a request line and some fields
pub record HasFields (text : List ℕ) : Type 0 where
  pub front : List ℕ
  pub line_end : LineEnd
  pub fields : List Field
  pub version : HasVersion front
  pub each : All IsField fields
  pub is : text ≡ front ++ print_end line_end ++ flat_map print_field fields

-- further, the name of a field
pub record HasName (text : List ℕ) : Type 0 where
  pub front : List ℕ
  pub name : List ℕ
  pub fields : HasFields front
  pub token : IsToken name
  pub is : text ≡ front ++ name

-- further, a field without its end
pub record HasValue (text : List ℕ) : Type 0 where
  pub front : List ℕ
  pub raw : List ℕ
  pub name : HasName front
  pub pass : AllPass is_value_byte raw
  pub is : text ≡ front ++ 58 ∷ raw

-- such a text, and then a CR
abbrev pub WithCr : (List ℕ → Type 0) → List ℕ → Type 0
WithCr form text = (front : List ℕ) × form front × (text ≡ front ++ 13 ∷ [])

-- A text ends at a place.
abbrev pub IsAt : HeadPlace → List ℕ → Type 0
IsAt Blank text = HasBlank text
IsAt BlankCr text = WithCr HasBlank text
IsAt Method text = HasMethod text
IsAt (Target start) text = InTarget start text
IsAt (Version known) text = InVersion known text
IsAt Minor text = HasVersion text
IsAt LineCr text = WithCr HasVersion text
IsAt Line text = HasFields text
IsAt LastCr text = WithCr HasFields text
IsAt Name text = HasName text
IsAt Value text = HasValue text
IsAt ValueCr text = WithCr HasValue text
IsAt Asked text = IsOpenRequest text

-- from a place to the next, with this byte
abbrev pub GoesOnTo : HeadPlace → ℕ → HeadPlace → Type 0
GoesOnTo place byte next = (before : List ℕ) → IsAt place before → IsAt next (before ++ byte ∷ [])

-- the same where the text is known that ends with the byte
abbrev pub GoesTo : HeadPlace → ℕ → List ℕ → HeadPlace → Type 0
GoesTo place byte text next = (before : List ℕ) → text ≡ before ++ byte ∷ [] → IsAt place before → IsAt next text
