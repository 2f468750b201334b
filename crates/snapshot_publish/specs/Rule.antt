-- The rule of a box, from which one seat takes what the publisher delivers, and what each kind of step does to the view of one of them.
use Rattle.std.specs.Prelude.{◌≡◌, ℕ, true, false, nat_lt, if◌then◌else◌, List, [], ◌∷◌, ◌++◌, length, All}
use mathlib.Core.Option.{some}
use lib.ListN.{get_elem?}
use Rattle.snapshot_publish.specs.Publications.{Publications, Publication, IsPrefixOf, IsLastOf}
use Rattle.snapshot_publish.specs.declared.view.View.{View}

-- ---- views

-- a pass that was given up
abbrev pub no_view : View
no_view = record { list = []; beside = []; publishes = false }

-- the publisher's view of its publications
abbrev pub publishing : Publications → View
publishing all = record { list = all; beside = []; publishes = true }

-- what a note tells, and a new seat begins with
abbrev pub told_of : View → View
told_of v = record { list = v.list; beside = []; publishes = false }

-- the longer of two lists, the first where they are equally long
abbrev pub longer : Publications → Publications → Publications
longer first second = if nat_lt (length first) (length second) then second else first

-- a seat's view with a note's: the longer of their lists, and both kept beside it with those that were there
abbrev pub learnt : View → View → View
learnt v w = record { list = longer v.list w.list; beside = v.list ∷ w.list ∷ v.beside; publishes = false }

-- ---- the rule

-- Its list and those beside it begin the publications; the publisher's list is all of them, and there is one publisher.
pub record Fits (all : Publications) (publisher pass : ℕ) (v : View) : Type 0 where
  pub list : IsPrefixOf v.list all
  pub beside : All (λ earlier. IsPrefixOf earlier all) v.beside
  pub publishes : v.publishes ≡ true → (pass ≡ publisher) × (v.list ≡ all)

-- what waits in a box is the last publication, if anything waits
abbrev pub WaitsAsLast : Publications → List Publication → Type 0
WaitsAsLast all [] = Unit {0}
WaitsAsLast all (last ∷ []) = IsLastOf all last
WaitsAsLast all (last ∷ next ∷ more) = ⊥

-- There are publications that fit each view, and the last of them waits, or nothing does.
pub record Keeps (items : List Publication) (views : List View) : Type 0 where
  pub all : Publications
  pub publisher : ℕ
  pub waits : WaitsAsLast all items
  pub each : (pass : ℕ) (v : View) → get_elem? views pass ≡ some v → Fits all publisher pass v

-- ---- steps

-- A look that finds a publication: the view becomes the publications of which it is the last, and which begin with all that was known.
pub record Looked (v : View) (last : Publication) (w : View) : Type 0 where
  pub last_is : IsLastOf w.list last
  pub list : IsPrefixOf v.list w.list

-- A publication: the publisher's list has one more.
abbrev pub Appended : View → Publication → View → Type 0
Appended v next w = w ≡ publishing (v.list ++ next.lists ∷ [])

-- what waited is replaced, and nobody's view changes
abbrev pub Replaced : View → Publication → View → Type 0
Replaced v old w = w ≡ v

-- All that is known begins the same publications.
pub record Agrees (v : View) : Type 0 where
  pub all : Publications
  pub list : IsPrefixOf v.list all
  pub beside : All (λ earlier. IsPrefixOf earlier all) v.beside
