-- Lists told anew: the newest full hashes of each, by additions alone.
use Rattle.std.specs.Prelude.{ℕ, List, map, filter}
use Rattle.std.specs.List.{flat_map}
use Rattle.std.specs.Str.{bytes_eq}
use Rattle.sb_model.specs.declared.history.Added.{Added}
use Rattle.sb_model.specs.declared.history.Change.{Change}
use Rattle.sb_model.specs.declared.names.ListName.{ListName}
use Rattle.sb_model.specs.History.{History, sizes_at, version_count}
use Rattle.sb_model.specs.Prefixes.{set_of}
use Rattle.sb_journal.specs.declared.hash_line.HashLine.TheVariants.{Add}
use Rattle.sb_journal.specs.Records.{records_of}

-- full hashes with their sizes, in the rising order of the hashes
unfoldable pub by_hash : List Added → List Added
by_hash entries = flat_map (λ hash. filter (λ entry. bytes_eq entry.hash hash) entries) (set_of (map (λ entry. entry.hash) entries))

-- the newest full hashes of a list with their sizes, rising
abbrev pub newest_entries : History → ListName → List Added
newest_entries history list = by_hash (sizes_at history list (version_count history))

-- the records that put full hashes into a list
abbrev pub puts_of : ListName → List Added → List Change
puts_of list entries = records_of list (map Add entries)

-- the records that put in what each of these lists has now
abbrev pub all_puts : History → List (ListName × ℕ) → List Change
all_puts history lists = flat_map (λ list. puts_of list.0 (newest_entries history list.0)) lists

-- The history with a new epoch, the same lists, and of each list its newest full hashes, which come by additions alone.
abbrev pub compacted : ℕ → History → History
compacted epoch history = record { epoch = epoch; declared = history.declared; changes = all_puts history history.declared }
