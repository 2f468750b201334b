-- What `check` prints of a journal.
use Rattle.std.specs.Prelude.{◌≡◌, ℕ, ◌-◌, List, [], ◌∷◌, ◌++◌, length, codes, decimal}
use Rattle.std.specs.List.{flat_map}
use Rattle.sb_model.specs.declared.names.ListName.{ListName}
use Rattle.sb_model.specs.History.{History, prefixes_at, version_count}
use Rattle.sb_model.specs.Names.{text_of}
use Rattle.list_versions.specs.Journal.{Kept}
use Rattle.list_versions.specs.Limits.{hash_lines, most_changes, most_hash_lines}
use Rattle.list_versions.specs.Lines.{newline}
use Rattle.sb_journal.specs.Records.{newest_hashes}
use Rattle.journal_run.specs.Printed.{done_with}
use Rattle.journal_run.specs.Written.{Reply}

-- `LIST SIZE, H hashes, P prefixes`: the declared size of a list, how many full hashes it has now, and how many prefixes
unfoldable pub list_status : History → ListName × ℕ → List ℕ
list_status history list =
    text_of list.0 ++ codes " " ++ decimal list.1 ++ codes ", " ++ decimal (length (newest_hashes history list.0)) ++ codes " hashes, "
    ++ decimal (length (prefixes_at history list.0 (version_count history))) ++ codes " prefixes" ++ newline ∷ []

-- `N NAME, M left`: how many of something there are, and how many more there may be
unfoldable pub used_of : ℕ → ℕ → List ℕ → List ℕ
used_of count most name = decimal count ++ codes " " ++ name ++ codes ", " ++ decimal (most - count) ++ codes " left; "

-- `B bytes of a record that has not ended`, and the end of the line
unfoldable pub rest_of : ℕ → List ℕ
rest_of count = decimal count ++ codes " bytes of a record that has not ended" ++ newline ∷ []

-- `C changes, C' left; L hash lines, L' left; B bytes of a record that has not ended`
unfoldable pub room_status : Kept → List ℕ
room_status kept =
    used_of (version_count kept.versions) most_changes (codes "changes")
    ++ used_of (hash_lines kept.versions.changes) most_hash_lines (codes "hash lines")
    ++ rest_of (length kept.rest)

-- a line for each list, in the order of the journal, and a line of what is left
abbrev pub check_text : Kept → List ℕ
check_text kept = flat_map (list_status kept.versions) kept.versions.declared ++ room_status kept

abbrev pub check_reply : Kept → Reply
check_reply kept = done_with (check_text kept)

abbrev pub IsCheckReply : Kept → Reply → Type 0
IsCheckReply kept reply = reply ≡ check_reply kept
