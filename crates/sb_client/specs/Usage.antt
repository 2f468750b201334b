-- Which usage text is told where words are no command line.
use Rattle.std.specs.Prelude.{if◌then◌else◌, List, [], ◌∷◌, codes}
use Rattle.std.specs.Str.{bytes_eq}
use Rattle.sb_words.specs.CommandLine.{Text}
use Rattle.sb_client.specs.declared.texts.TheConstants.{CHECK_USAGE, UPDATE_USAGE}

-- That of the program that the words begin with: `sbcheck` has one, and all else is told that of `sbupdate`.
abbrev pub usage_of : List Text → Text
usage_of [] = UPDATE_USAGE.now
usage_of (program ∷ words) = if bytes_eq program (codes "sbcheck") then CHECK_USAGE.now else UPDATE_USAGE.now
