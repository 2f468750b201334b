-- Words that ask about a program itself, and what is printed of it.
use Rattle.std.specs.Prelude.{◌||◌, if◌then◌else◌, List, [], ◌∷◌, ◌++◌, Option, None, Some, codes}
use Rattle.std.specs.Str.{bytes_eq}
use Rattle.sb_words.specs.CommandLine.{Text}
use Rattle.sb_words.specs.declared.asking.About.{About}
use Rattle.sb_words.specs.declared.asking.About.TheVariants.{Usage, Version}
use Rattle.sb_words.specs.declared.asking.TheConstants.{VERSION}

-- `--help` and `-h` ask how a program is used, and `--version` asks for its version
abbrev pub asked_by : Text → Option About
asked_by word =
    if bytes_eq word (codes "--help") || bytes_eq word (codes "-h") then Some Usage
    else if bytes_eq word (codes "--version") then Some Version
    else None

-- what words ask about the program with this name: each of the three is the only word after the name
abbrev pub about_of : Text → List Text → Option About
about_of name (program ∷ word ∷ []) = if bytes_eq program name then asked_by word else None
about_of name words = None

-- what is printed: the usage text, or a line of the name and the version
abbrev pub about_text : About → (name usage : Text) → Text
about_text Usage name usage = usage
about_text Version name usage = name ++ 32 ∷ VERSION.now ++ 10 ∷ []
