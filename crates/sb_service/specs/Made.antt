-- What the commands print that make a load.
use Rattle.std.specs.Prelude.{if◌then◌else◌, List, ℕ, false}
use Rattle.list_versions.specs.Written.{journal_text}
use Rattle.generated_load.specs.Generated.{generated, urls_text}
use Rattle.sb_service.specs.declared.command.GenerateLine.{GenerateLine}
use Rattle.sb_service.specs.Printed.{Reply}

-- the URLs of a seed, or its journal
abbrev pub generated_text : GenerateLine → List ℕ
generated_text line =
    if line.urls then urls_text line.load.count line.load.seed else journal_text false (generated line.load.count line.load.seed)

-- a text that is printed as it is
abbrev pub printed_whole : List ℕ → Reply
printed_whole text = record { text = text; status = 0 }
