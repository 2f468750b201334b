use Rattle.std.proofs.Common.{ℕ, List, refl, map, string_bytes}
use Rattle.sb_client.proofs.Commands.{is_found, is_sound, no_command, is_no_judge, is_no_replay, is_no_run, is_no_show, judge_found, replay_found, run_found, show_found, tell_found, vectors_found, made_at_once}
use Rattle.sb_client.proofs.Endings.{left_over, not_begun, not_risen, whole_of}
use Rattle.sb_client.proofs.Runs.{count_not_begun, left_to_run, none_counted, run_not_begun, run_of_judge, run_of_plan, run_of_replay, run_hands, run_keeps, run_of_show, run_of_vectors, run_of_tell, run_tells, status_of_run}
use Rattle.sb_client.proofs.Judgings.{judge_not_begun, left_to_judge, reports_rightly, updates_hold}
use Rattle.sb_client.proofs.Served.{run_answered, run_complete, run_versions}
use Rattle.sb_client.proofs.client.run_client.Goals as goal

pub run_lent-requires-clause-sound : goal.run_lent-requires-clause-sound
run_lent-requires-clause-sound g c _ _ = is_sound c.asked_targets_are_sound.ensures (map string_bytes c.args.words.now) c.in-Ok-Some.command (is_found _ _ _ c.in-Ok-Some.field-0-is c.in-Ok-Some.ensures)

-- ---- the statuses

pub returns-in-Ok-Some-clause-statuses : goal.returns-in-Ok-Some-clause-statuses
returns-in-Ok-Some-clause-statuses g c = (status_of_run _ _ _ c.in-Ok-Some.command c.run_lent.ensures.does).0

pub returns-in-Ok-Some-clause-words : goal.returns-in-Ok-Some-clause-words
returns-in-Ok-Some-clause-words g c one = absurd ((status_of_run _ _ _ c.in-Ok-Some.command c.run_lent.ensures.does).1 one)

pub returns-in-Ok-Some-clause-no_command : goal.returns-in-Ok-Some-clause-no_command
returns-in-Ok-Some-clause-no_command g c none = absurd (no_command _ _ (is_found _ _ _ c.in-Ok-Some.field-0-is c.in-Ok-Some.ensures) none)

pub returns-in-Ok-None-clause-counts : goal.returns-in-Ok-None-clause-counts
returns-in-Ok-None-clause-counts g c = record {
  read = record { rose = λ h. absurd (let one = c.tell_usage.ensures.status in cc); kept = λ _. refl };
  written = λ other. absurd (other c.tell_usage.ensures.status);
  saved = record { rose = λ h. absurd (let one = c.tell_usage.ensures.status in cc); kept = λ _. refl };
}

pub returns-in-Err-clause-counts : goal.returns-in-Err-clause-counts
returns-in-Err-clause-counts g c = none_counted 8 (λ h. cc) (λ _ h. cc) λ h. cc

-- ---- each command

pub returns-in-Ok-Some-clause-replays : goal.returns-in-Ok-Some-clause-replays
returns-in-Ok-Some-clause-replays g c names words =
    run_of_replay _ _ _ c.in-Ok-Some.command names (replay_found _ _ _ c.in-Ok-Some.field-0-is c.in-Ok-Some.ensures names words) c.run_lent.ensures.does

pub returns-in-Ok-Some-clause-runs : goal.returns-in-Ok-Some-clause-runs
returns-in-Ok-Some-clause-runs g c line words =
    run_of_plan _ _ _ c.in-Ok-Some.command line.plan (run_found _ _ _ c.in-Ok-Some.field-0-is c.in-Ok-Some.ensures line words) c.run_lent.ensures.does

pub returns-in-Ok-Some-clause-shows : goal.returns-in-Ok-Some-clause-shows
returns-in-Ok-Some-clause-shows g c words =
    run_of_show _ _ _ c.in-Ok-Some.command (show_found _ _ _ c.in-Ok-Some.field-0-is c.in-Ok-Some.ensures words) c.run_lent.ensures.does

pub returns-in-Ok-Some-clause-counts_examples : goal.returns-in-Ok-Some-clause-counts_examples
returns-in-Ok-Some-clause-counts_examples g c words =
    run_of_vectors _ _ _ c.in-Ok-Some.command (vectors_found _ _ _ c.in-Ok-Some.field-0-is c.in-Ok-Some.ensures words) c.run_lent.ensures.does

pub returns-in-Ok-Some-clause-judges : goal.returns-in-Ok-Some-clause-judges
returns-in-Ok-Some-clause-judges g c line words =
    run_of_judge _ _ _ c.in-Ok-Some.command line.plan (judge_found _ _ _ c.in-Ok-Some.field-0-is c.in-Ok-Some.ensures line words) c.run_lent.ensures.does

pub returns-in-Err-clause-judges : goal.returns-in-Err-clause-judges
returns-in-Err-clause-judges g c line words = judge_not_begun line.plan _

pub returns-in-Err-clause-replays : goal.returns-in-Err-clause-replays
returns-in-Err-clause-replays g c names words = not_begun 5

pub returns-in-Err-clause-runs : goal.returns-in-Err-clause-runs
returns-in-Err-clause-runs g c line words = run_not_begun line.plan _

pub returns-in-Err-clause-shows : goal.returns-in-Err-clause-shows
returns-in-Err-clause-shows g c words = not_begun 21

pub returns-in-Err-clause-counts_examples : goal.returns-in-Err-clause-counts_examples
returns-in-Err-clause-counts_examples g c words = count_not_begun _

pub returns-in-Ok-Some-clause-about : goal.returns-in-Ok-Some-clause-about
returns-in-Ok-Some-clause-about g c text words =
    run_of_tell _ _ _ c.in-Ok-Some.command text (tell_found _ _ _ c.in-Ok-Some.field-0-is c.in-Ok-Some.ensures text words) c.run_lent.ensures.does

-- ---- what is as it was

pub returns-in-Ok-Some-clause-unread : goal.returns-in-Ok-Some-clause-unread
returns-in-Ok-Some-clause-unread g c no_replay no_judge no_show =
    let words : List (List ℕ) = map string_bytes c.args.words.now in
    let is = is_found words _ _ c.in-Ok-Some.field-0-is c.in-Ok-Some.ensures in
    c.run_lent.ensures.unread (is_no_replay words c.in-Ok-Some.command is no_replay) (is_no_judge words c.in-Ok-Some.command is no_judge) (is_no_show words c.in-Ok-Some.command is no_show)

pub returns-in-Ok-Some-clause-untouched : goal.returns-in-Ok-Some-clause-untouched
returns-in-Ok-Some-clause-untouched g c no_run no_judge =
    let words : List (List ℕ) = map string_bytes c.args.words.now in
    let is = is_found words _ _ c.in-Ok-Some.field-0-is c.in-Ok-Some.ensures in
    c.run_lent.ensures.untouched (is_no_run words c.in-Ok-Some.command is no_run) (is_no_judge words c.in-Ok-Some.command is no_judge)

pub returns-in-Ok-Some-clause-memory : goal.returns-in-Ok-Some-clause-memory
returns-in-Ok-Some-clause-memory g c no_replay no_run no_judge no_show =
    c.run_lent.ensures.memory
    (made_at_once (map string_bytes c.args.words.now) c.in-Ok-Some.command (is_found _ _ _ c.in-Ok-Some.field-0-is c.in-Ok-Some.ensures) no_replay no_run no_judge no_show)

-- ---- to the end

pub returns-in-Ok-Some-clause-complete : goal.returns-in-Ok-Some-clause-complete
returns-in-Ok-Some-clause-complete g c names pieces words told within input out =
    let counts = c.run_lent.ensures.counts in
    let replays = run_of_replay _ _ _ c.in-Ok-Some.command names (replay_found _ _ _ c.in-Ok-Some.field-0-is c.in-Ok-Some.ensures names words) c.run_lent.ensures.does in
    let some = (status_of_run _ _ _ c.in-Ok-Some.command c.run_lent.ensures.does).1 in
    left_over replays (λ h. not_risen _ _ input (counts.read.rose h)) (λ h. not_risen _ _ out ((counts.written some).rose h)) (c.fronts_are_within.ensures.told _ _ pieces told within)

pub returns-in-Ok-Some-clause-complete_show : goal.returns-in-Ok-Some-clause-complete_show
returns-in-Ok-Some-clause-complete_show g c pieces words told within input out =
    let counts = c.run_lent.ensures.counts in
    let shows = run_of_show _ _ _ c.in-Ok-Some.command (show_found _ _ _ c.in-Ok-Some.field-0-is c.in-Ok-Some.ensures words) c.run_lent.ensures.does in
    let some = (status_of_run _ _ _ c.in-Ok-Some.command c.run_lent.ensures.does).1 in
    left_over shows (λ h. not_risen _ _ input (counts.read.rose h)) (λ h. not_risen _ _ out ((counts.written some).rose h)) (c.fronts_are_within.ensures.told _ _ pieces told within)

pub returns-in-Ok-Some-clause-complete_run : goal.returns-in-Ok-Some-clause-complete_run
returns-in-Ok-Some-clause-complete_run g c line words out keep =
    let counts = c.run_lent.ensures.counts in
    let runs = run_of_plan _ _ _ c.in-Ok-Some.command line.plan (run_found _ _ _ c.in-Ok-Some.field-0-is c.in-Ok-Some.ensures line words) c.run_lent.ensures.does in
    let some = (status_of_run _ _ _ c.in-Ok-Some.command c.run_lent.ensures.does).1 in
    left_to_run runs (λ h. not_risen _ _ out ((counts.written some).rose h)) (λ h. not_risen _ _ keep (counts.saved.rose h))

pub returns-in-Ok-Some-clause-complete_judge : goal.returns-in-Ok-Some-clause-complete_judge
returns-in-Ok-Some-clause-complete_judge g c line pieces words told within input out keep =
    let counts = c.run_lent.ensures.counts in
    let judges = run_of_judge _ _ _ c.in-Ok-Some.command line.plan (judge_found _ _ _ c.in-Ok-Some.field-0-is c.in-Ok-Some.ensures line words) c.run_lent.ensures.does in
    let some = (status_of_run _ _ _ c.in-Ok-Some.command c.run_lent.ensures.does).1 in
    left_to_judge judges (λ h. not_risen _ _ input (counts.read.rose h)) (λ h. not_risen _ _ out ((counts.written some).rose h)) (λ h. not_risen _ _ keep (counts.saved.rose h))
    (c.fronts_are_within.ensures.told _ _ pieces told within)

-- ---- the headline

pub returns-in-Ok-Some-clause-replica : goal.returns-in-Ok-Some-clause-replica
returns-in-Ok-Some-clause-replica g c names pieces readings history token_at words told read formed naming honest apart status =
    let replays = run_of_replay _ _ _ c.in-Ok-Some.command names (replay_found _ _ _ c.in-Ok-Some.field-0-is c.in-Ok-Some.ensures names words) c.run_lent.ensures.does in
    let printed = whole_of replays status in
    c.replays_print_replicas.ensures names printed.0 _ _ _ _ printed.1 pieces readings history token_at told read formed naming honest apart

pub returns-in-Ok-Some-clause-saves : goal.returns-in-Ok-Some-clause-saves
returns-in-Ok-Some-clause-saves g c line words =
    run_hands c.runs_hold.ensures line.plan _ _ _
    (run_of_plan _ _ _ c.in-Ok-Some.command line.plan (run_found _ _ _ c.in-Ok-Some.field-0-is c.in-Ok-Some.ensures line words) c.run_lent.ensures.does)

pub returns-in-Ok-Some-clause-keeps : goal.returns-in-Ok-Some-clause-keeps
returns-in-Ok-Some-clause-keeps g c line words =
    run_keeps c.runs_hold.ensures line.plan _ _ _
    (run_of_plan _ _ _ c.in-Ok-Some.command line.plan (run_found _ _ _ c.in-Ok-Some.field-0-is c.in-Ok-Some.ensures line words) c.run_lent.ensures.does)

pub returns-in-Ok-Some-clause-tells : goal.returns-in-Ok-Some-clause-tells
returns-in-Ok-Some-clause-tells g c line words status =
    run_tells c.runs_hold.ensures line.plan _ _ _
    (run_of_plan _ _ _ c.in-Ok-Some.command line.plan (run_found _ _ _ c.in-Ok-Some.field-0-is c.in-Ok-Some.ensures line words) c.run_lent.ensures.does) status

pub returns-in-Err-clause-saves : goal.returns-in-Err-clause-saves
returns-in-Err-clause-saves g c line words = run_hands c.runs_hold.ensures line.plan 8 _ _ (run_not_begun line.plan _)

pub returns-in-Err-clause-keeps : goal.returns-in-Err-clause-keeps
returns-in-Err-clause-keeps g c line words = run_keeps c.runs_hold.ensures line.plan 8 _ _ (run_not_begun line.plan _)

pub returns-in-Ok-Some-clause-installs : goal.returns-in-Ok-Some-clause-installs
returns-in-Ok-Some-clause-installs g c line history token_at kept sessions words status meets =
    run_complete c.rounds_are_their_sessions.ensures history token_at line.plan kept sessions _ _ c.answered_runs_are_complete.ensures _
    (run_of_plan _ _ _ c.in-Ok-Some.command line.plan (run_found _ _ _ c.in-Ok-Some.field-0-is c.in-Ok-Some.ensures line words) c.run_lent.ensures.does) status meets

pub returns-in-Ok-Some-clause-answered : goal.returns-in-Ok-Some-clause-answered
returns-in-Ok-Some-clause-answered g c line history token_at kept sessions words meets all =
    run_answered c.rounds_are_their_sessions.ensures history token_at line.plan kept sessions _ _ c.answered_runs_are_complete.ensures _
    (run_of_plan _ _ _ c.in-Ok-Some.command line.plan (run_found _ _ _ c.in-Ok-Some.field-0-is c.in-Ok-Some.ensures line words) c.run_lent.ensures.does) meets all

pub returns-in-Ok-Some-clause-versions : goal.returns-in-Ok-Some-clause-versions
returns-in-Ok-Some-clause-versions g c line history token_at least kept sessions words status meets =
    run_versions c.rounds_are_their_sessions.ensures history token_at line.plan kept sessions _ _ c.answered_runs_keep_versions.ensures least _
    (run_of_plan _ _ _ c.in-Ok-Some.command line.plan (run_found _ _ _ c.in-Ok-Some.field-0-is c.in-Ok-Some.ensures line words) c.run_lent.ensures.does) status meets

pub returns-in-Ok-Some-clause-verdicts : goal.returns-in-Ok-Some-clause-verdicts
returns-in-Ok-Some-clause-verdicts g c line history token_at words formed status =
    reports_rightly c.runs_of_verdicts_hold.ensures c.rounds_keep_to_waits.ensures c.cases_keep_to_waits.ensures c.judged_urls_are_decided.ensures history token_at line.plan _ _ _
    (run_of_judge _ _ _ c.in-Ok-Some.command line.plan (judge_found _ _ _ c.in-Ok-Some.field-0-is c.in-Ok-Some.ensures line words) c.run_lent.ensures.does) formed status

pub returns-in-Ok-Some-clause-judge_saves : goal.returns-in-Ok-Some-clause-judge_saves
returns-in-Ok-Some-clause-judge_saves g c line words =
    updates_hold c.judgings_save_replicas.ensures line.plan _ _ _
    (run_of_judge _ _ _ c.in-Ok-Some.command line.plan (judge_found _ _ _ c.in-Ok-Some.field-0-is c.in-Ok-Some.ensures line words) c.run_lent.ensures.does)

pub returns-in-Err-clause-judge_saves : goal.returns-in-Err-clause-judge_saves
returns-in-Err-clause-judge_saves g c line words = updates_hold c.judgings_save_replicas.ensures line.plan 8 _ _ (judge_not_begun line.plan _)
