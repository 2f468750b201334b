-- The printed report of verdicts: a line for each URL, and a summary.
use Rattle.std.specs.Prelude.{◌≡◌, ℕ, ◌+◌, ◌<◌, ◌^◌, Bool, true, false, List, [], ◌∷◌, ◌++◌, length, codes, decimal}
use Rattle.std.specs.List.{count_by, flat_map}
use Rattle.sb_model.specs.declared.names.ListName.{ListName}
use Rattle.sb_model.specs.Names.{text_of}
use Rattle.sb_json.specs.Printed as message
use Rattle.http_edge.specs.Printed as exchange
use Rattle.url_canon.specs.Printed.{url_cause}
use Rattle.input_lines.specs.Lines.{newline, numbered}
use Rattle.verdict_report.specs.declared.counts.Counts.{Counts}
use Rattle.verdict_report.specs.declared.verdicts.Cause.{Cause}
use Rattle.verdict_report.specs.declared.verdicts.Cause.TheVariants.{NotBefore, Exchange, Message}
use Rattle.verdict_report.specs.declared.verdicts.Verdict.{Verdict}
use Rattle.verdict_report.specs.declared.verdicts.Verdict.TheVariants.{Safe, Unsafe, Undecided}
use Rattle.verdict_report.specs.declared.verdicts.Judged.{Judged}
use Rattle.verdict_report.specs.declared.verdicts.Judged.TheVariants as judged

-- ---- one URL

-- why a verdict is left open
abbrev pub cause_text : Cause → List ℕ
cause_text (NotBefore moment) = codes "not-before " ++ decimal moment.0
cause_text (Exchange fault) = exchange.exchange_cause_text fault
cause_text (Message fault) = message.message_cause_text fault

-- a name that stands behind another
abbrev pub next_text : ListName → List ℕ
next_text name = codes "," ++ text_of name

-- the names of lists, with commas between them
abbrev pub names_text : List ListName → List ℕ
names_text [] = []
names_text (name ∷ names) = text_of name ++ flat_map next_text names

-- a verdict, with the number of the publication that it was resolved from
abbrev pub verdict_text : ℕ → Verdict → List ℕ
verdict_text number Safe = codes "safe " ++ decimal number
verdict_text number (Unsafe names) = codes "unsafe " ++ decimal number ++ codes " " ++ names_text names
verdict_text number (Undecided cause) = codes "undecided " ++ decimal number ++ codes " " ++ cause_text cause

-- what became of a URL: its verdict and its canonical text, or why it has none
abbrev pub judged_text : Judged → List ℕ
judged_text (judged.Verdict number text verdict) = verdict_text number verdict ++ codes " " ++ text
judged_text (judged.Refused fault) = codes "refused " ++ url_cause fault

-- the line of the URL on an input line
abbrev pub report_line : ℕ → Judged → List ℕ
report_line line one = numbered line (judged_text one)

-- the lines of URLs from a line on
abbrev pub report_lines : ℕ → List Judged → List ℕ
report_lines line [] = []
report_lines line (one ∷ more) = report_line line one ++ report_lines (line + 1) more

-- ---- all of them

abbrev pub is_safe : Judged → Bool
is_safe (judged.Verdict number text Safe) = true
is_safe (judged.Verdict number text (Unsafe names)) = false
is_safe (judged.Verdict number text (Undecided cause)) = false
is_safe (judged.Refused fault) = false

abbrev pub is_judged_unsafe : Judged → Bool
is_judged_unsafe (judged.Verdict number text Safe) = false
is_judged_unsafe (judged.Verdict number text (Unsafe names)) = true
is_judged_unsafe (judged.Verdict number text (Undecided cause)) = false
is_judged_unsafe (judged.Refused fault) = false

abbrev pub is_undecided : Judged → Bool
is_undecided (judged.Verdict number text Safe) = false
is_undecided (judged.Verdict number text (Unsafe names)) = false
is_undecided (judged.Verdict number text (Undecided cause)) = true
is_undecided (judged.Refused fault) = false

abbrev pub is_judged_refused : Judged → Bool
is_judged_refused (judged.Verdict number text verdict) = false
is_judged_refused (judged.Refused fault) = true

-- how many URLs there are
abbrev pub all_text : List Judged → List ℕ
all_text all = codes "checked " ++ decimal (length all) ++ codes ": "

-- how many are of each kind
abbrev pub safe_text : List Judged → List ℕ
safe_text all = decimal (count_by is_safe all) ++ codes " safe, "

abbrev pub unsafe_text : List Judged → List ℕ
unsafe_text all = decimal (count_by is_judged_unsafe all) ++ codes " unsafe, "

abbrev pub undecided_text : List Judged → List ℕ
undecided_text all = decimal (count_by is_undecided all) ++ codes " undecided, "

abbrev pub refused_text : List Judged → List ℕ
refused_text all = decimal (count_by is_judged_refused all) ++ codes " refused" ++ newline ∷ []

abbrev pub kinds_text : List Judged → List ℕ
kinds_text all = safe_text all ++ unsafe_text all ++ undecided_text all ++ refused_text all

-- how many URLs there are, and how many of each kind
abbrev pub summary_text : List Judged → List ℕ
summary_text all = all_text all ++ kinds_text all

-- ---- the same by counts

-- how many URLs there are, and how many of each kind
abbrev pub counts_of : List Judged → Counts
counts_of all = record {
  urls = length all;
  safe = count_by is_safe all;
  found_unsafe = count_by is_judged_unsafe all;
  undecided = count_by is_undecided all;
  refused = count_by is_judged_refused all;
}

-- They are the counts of some URLs, fewer than 2 ^ 63.
pub record AreCounts (counts : Counts) : Type 0 where
  pub all : List Judged
  pub are : counts ≡ counts_of all
  pub few : length all < 2 ^ 63

abbrev pub kinds_counted : Counts → List ℕ
kinds_counted counts =
    (decimal counts.safe ++ codes " safe, ") ++ (decimal counts.found_unsafe ++ codes " unsafe, ")
    ++ (decimal counts.undecided ++ codes " undecided, ") ++ (decimal counts.refused ++ codes " refused" ++ newline ∷ [])

-- the summary of URLs of these counts
abbrev pub summary_of_counts : Counts → List ℕ
summary_of_counts counts = (codes "checked " ++ decimal counts.urls ++ codes ": ") ++ kinds_counted counts
