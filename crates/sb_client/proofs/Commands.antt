-- Words are one command, and its lists are some, and few.
use Rattle.std.proofs.Common.{◌≡◌, ◌≢◌, ℕ, suc, ◌-◌, ◌<◌, ◌≤◌, List, [], ◌∷◌, length, map, get_or, take, drop, take_all, Bool, true, false, cond, refl, sym, ap, ◌∙◌, subst, Option, Some, None, Result, Ok, Err, arith, nat_lt}
use Rattle.std.specs.Prelude.{◌&&◌, nat_le, option_and_then, option_map, is_some, codes, IfOk}
use Rattle.std.specs.Result.{result_ok}
use Rattle.std.specs.Str.{bytes_eq}
use Rattle.std.specs.Str.Parse.{digits_value}
use Rattle.std.proofs.lemmas.Slice.Eq.{bytes_eq-Decides}
use borrow.Author.Tests.{ltb-true, leb-true}
use Rattle.sb_model.specs.declared.names.ListName.{ListName}
use Rattle.sb_model.specs.Names.{name_of}
use Rattle.sb_words.specs.CommandLine.{Given, CommandShape, given_of, value_among}
use Rattle.sb_words.specs.Values.{names_of, few_names_of, different, has_each_once, lists_named, is_numeral, within}
use Rattle.http_edge.specs.Exchanges.{IsTarget}
use Rattle.http_edge.specs.declared.messages.Target.{Target}
use Rattle.judge_run.specs.declared.plan.JudgePlan.{JudgePlan}
use Rattle.sb_client.specs.declared.command.Command.{Command}
use Rattle.update_run.specs.declared.plan.Plan.{Plan}
use Rattle.sb_client.specs.declared.command.Command.TheVariants.{Replay, Run, Judge, Show, Vectors, Tell}
use Rattle.client_words.specs.Asking.{given_to, lists_given, number_or, Asking, asking_given, target_of}
use Rattle.sb_client.specs.Command.{replay_shape, run_shape, judge_shape, bare_shape, rounds_given, patience_given, updates_given, workers_given, run_with, run_given, RunWords, run_words, judge_with, judge_given, JudgeWords, judge_words, replay_of, run_of, judge_of, asks_show, asks_vectors, asked_text_of, MakesItsText, IsNoCommand, IsCommandOf, AreFewNames, AreWorkers, IsSound}
use Rattle.sb_client.specs.declared.texts.TheConstants.{CHECK_USAGE, UPDATE_USAGE}
use Rattle.sb_words.specs.About.{about_text, asked_by}
use Rattle.sb_words.specs.declared.asking.About.{About}
use Rattle.std.specs.Option.{option_or}

-- what is known of a value
pub ok_same : {T E A : Type 0} (r : Result T E) (f : T → A) (a b : A) → a ≡ b → IfOk r (λ x. f x ≡ a) → IfOk r (λ x. f x ≡ b)
ok_same (Ok x) f a b e h = h ∙ e
ok_same (Err other) f a b e h = tt

joined_count : (name : Option ListName) (rest : Option (List ListName)) (n : ℕ) (names : List ListName)
    → ((found : List ListName) → rest ≡ Some found → length found ≡ n)
    → option_and_then (λ name. option_map (λ found. name ∷ found) rest) name ≡ Some names → length names ≡ suc n
joined_count None rest n names h e = absurd (cc)
joined_count (Some name) None n names h e = absurd (cc)
joined_count (Some name) (Some found) n names h e =
    let is : name ∷ found ≡ names = cc in
    let count : length found ≡ n = h found refl in
    omega (arith, count, ap length is)

names_count : (texts : List (List ℕ)) (names : List ListName) → names_of texts ≡ Some names → length names ≡ length texts
names_count [] names e = let is : [] ≡ names = cc in ap length (sym is)
names_count (text ∷ texts) names e = joined_count (result_ok (name_of text)) (names_of texts) (length texts) names (names_count texts) e

few_by : (texts : List (List ℕ)) (names : List ListName) (a b : Bool) → nat_lt 0 (length texts) ≡ a → nat_le (length texts) 8 ≡ b
    → cond (a && b) (names_of texts) None ≡ Some names → AreFewNames names
few_by texts names true true h k e =
    let count = names_count texts names e in
    let low : 0 < length texts = ltb-true _ _ h in
    let high : length texts ≤ 8 = leb-true _ _ k in
    (omega arith, omega arith)
few_by texts names true false h k e = absurd (cc)
few_by texts names false b h k e = absurd (cc)

few_names : (texts : List (List ℕ)) (names : List ListName) → few_names_of texts ≡ Some names → AreFewNames names
few_names texts names e = few_by texts names _ _ refl refl e

once_by : (names found : List ListName) (once : Bool) → cond once (Some names) None ≡ Some found → names ≡ found
once_by names found true e = cc
once_by names found false e = absurd (cc)

different_by : (some : Option (List ListName)) (names : List ListName) → ((found : List ListName) → some ≡ Some found → AreFewNames found) → option_and_then different some ≡ Some names → AreFewNames names
different_by None names h e = absurd (cc)
different_by (Some found) names h e = subst AreFewNames (once_by found names (has_each_once found) e) (h found refl)

few_lists : (texts : List (List ℕ)) (names : List ListName) → lists_named texts ≡ Some names → AreFewNames names
unfolding lists_named
few_lists texts names e = different_by (few_names_of texts) names (few_names texts) e

given_by : (given : Option Given) (names : List ListName) → option_and_then lists_given given ≡ Some names → AreFewNames names
given_by None names e = absurd (cc)
given_by (Some given) names e = few_lists given.positionals names e

few_replayed : (words : List (List ℕ)) (names : List ListName) → replay_of words ≡ Some names → AreFewNames names
few_replayed words names e = given_by (given_to (codes "sbupdate") (codes "replay") replay_shape words) names e

-- a plan has the lists that its words name, and asks with the host and the key that they give
run_by : (asking : Option Asking) (rounds : Option ℕ) (names : List ListName) (line : RunWords) → ((found : Asking) → asking ≡ Some found → IsTarget (target_of found))
    → option_and_then (λ asking. option_map (λ rounds. run_words asking names rounds) rounds) asking ≡ Some line
    → (line.plan.names ≡ names) × IsTarget line.plan.target
run_by None rounds names line sound e = absurd (cc)
run_by (Some asking) None names line sound e = absurd (cc)
run_by (Some asking) (Some rounds) names line sound e =
    let is : run_words asking names rounds ≡ line = cc in
    (ap (λ (l : RunWords). l.plan.names) (sym is), subst (λ (l : RunWords). IsTarget l.plan.target) is (sound asking refl))

judge_by : (asking : Option Asking) (updates workers seconds : Option ℕ) (names : List ListName) (line : JudgeWords) → ((found : Asking) → asking ≡ Some found → IsTarget (target_of found))
    → option_and_then (λ asking. option_and_then (λ updates. option_and_then (λ workers. option_map (λ seconds. judge_words asking names updates workers seconds) seconds) workers) updates) asking ≡ Some line
    → (line.plan.updates.names ≡ names) × IsTarget line.plan.updates.target
judge_by None updates workers seconds names line sound e = absurd (cc)
judge_by (Some asking) None workers seconds names line sound e = absurd (cc)
judge_by (Some asking) (Some updates) None seconds names line sound e = absurd (cc)
judge_by (Some asking) (Some updates) (Some workers) None names line sound e = absurd (cc)
judge_by (Some asking) (Some updates) (Some workers) (Some seconds) names line sound e =
    let is : judge_words asking names updates workers seconds ≡ line = cc in
    (ap (λ (l : JudgeWords). l.plan.updates.names) (sym is), subst (λ (l : JudgeWords). IsTarget l.plan.updates.target) is (sound asking refl))

-- a number that the words give is in its range, as its default is
within_by : (low high number found : ℕ) (a b : Bool) → nat_le low number ≡ a → nat_le number high ≡ b → cond (a && b) (Some number) None ≡ Some found → (low ≤ found) × (found ≤ high)
within_by low high number found true true h k e =
    let same : number ≡ found = cc in
    (subst (λ (n : ℕ). low ≤ n) same (leb-true _ _ h), subst (λ (n : ℕ). n ≤ high) same (leb-true _ _ k))
within_by low high number found true false h k e = absurd (cc)
within_by low high number found false b h k e = absurd (cc)

numeral_by : (low high found : ℕ) (text : List ℕ) (b : Bool) → cond b (within low high (digits_value 10 text)) None ≡ Some found → (low ≤ found) × (found ≤ high)
numeral_by low high found text true e = within_by low high (digits_value 10 text) found _ _ refl refl e
numeral_by low high found text false e = absurd (cc)

ranged_by : (low high default found : ℕ) (text : Option (List ℕ)) → low ≤ default → default ≤ high → number_or low high default text ≡ Some found → (low ≤ found) × (found ≤ high)
ranged_by low high default found None h k e =
    let same : default ≡ found = cc in
    (subst (λ (n : ℕ). low ≤ n) same h, subst (λ (n : ℕ). n ≤ high) same k)
ranged_by low high default found (Some text) h k e = numeral_by low high found text (is_numeral text) e

-- workers are 1 to 16
some_workers : (named : List (List ℕ × List ℕ)) (found : ℕ) → workers_given named ≡ Some found → AreWorkers found
some_workers named found e = ranged_by 1 16 1 found (value_among (codes "workers") named) (omega arith) (omega arith) e

workers_by : (asking : Option Asking) (updates workers seconds : Option ℕ) (names : List ListName) (line : JudgeWords) → ((found : ℕ) → workers ≡ Some found → AreWorkers found)
    → option_and_then (λ asking. option_and_then (λ updates. option_and_then (λ workers. option_map (λ seconds. judge_words asking names updates workers seconds) seconds) workers) updates) asking ≡ Some line
    → AreWorkers line.plan.workers
workers_by None updates workers seconds names line some e = absurd (cc)
workers_by (Some asking) None workers seconds names line some e = absurd (cc)
workers_by (Some asking) (Some updates) None seconds names line some e = absurd (cc)
workers_by (Some asking) (Some updates) (Some workers) None names line some e = absurd (cc)
workers_by (Some asking) (Some updates) (Some workers) (Some seconds) names line some e =
    let is : judge_words asking names updates workers seconds ≡ line = cc in
    subst (λ (l : JudgeWords). AreWorkers l.plan.workers) is (some workers refl)

workers_of : (given : Option Given) (line : JudgeWords) → option_and_then judge_given given ≡ Some line → AreWorkers line.plan.workers
workers_of None line e = absurd (cc)
workers_of (Some given) line e = by_lists (lists_given given) e
  where
    by_lists : (some : Option (List ListName)) → option_and_then (λ names. judge_with names given.named) some ≡ Some line → AreWorkers line.plan.workers
    by_lists None h = absurd (cc)
    by_lists (Some names) h =
        workers_by (asking_given given.named) (updates_given given.named) (workers_given given.named) (patience_given given.named) names line (some_workers given.named) h

-- of lists that the positional words name, and of what the options say for them
module _ {Line : Type 0} (lists : Line → List ListName) (whom : Line → Target) (line_with : List ListName → List (List ℕ × List ℕ) → Option Line)
    (made : (names : List ListName) (named : List (List ℕ × List ℕ)) (line : Line) → line_with names named ≡ Some line → (lists line ≡ names) × IsTarget (whom line)) where
  named_by : (named : List (List ℕ × List ℕ)) (some : Option (List ListName)) (line : Line) → ((names : List ListName) → some ≡ Some names → AreFewNames names)
      → option_and_then (λ names. line_with names named) some ≡ Some line → AreFewNames (lists line) × IsTarget (whom line)
  named_by named None line few e = absurd (cc)
  named_by named (Some names) line few e =
      let is = made names named line e in
      (subst AreFewNames (sym is.0) (few names refl), is.1)

  line_by : (given : Option Given) (line : Line) → option_and_then (λ (given : Given). option_and_then (λ names. line_with names given.named) (lists_given given)) given ≡ Some line
      → AreFewNames (lists line) × IsTarget (whom line)
  line_by None line e = absurd (cc)
  line_by (Some given) line e = named_by given.named (lists_given given) line (few_lists given.positionals) e

-- what is asked for has a host and a key that stand each in one line
abbrev pub SoundTargets : Type 0
SoundTargets = (named : List (List ℕ × List ℕ)) (asking : Asking) → asking_given named ≡ Some asking → IsTarget (target_of asking)

sound_run : SoundTargets → (words : List (List ℕ)) (line : RunWords) → run_of words ≡ Some line → AreFewNames line.plan.names × IsTarget line.plan.target
sound_run law words line e =
    line_by (λ (line : RunWords). line.plan.names) (λ (line : RunWords). line.plan.target) run_with
    (λ names named line h. run_by (asking_given named) (rounds_given named) names line (law named) h)
    (given_to (codes "sbupdate") (codes "run") run_shape words) line e

sound_judge : SoundTargets → (words : List (List ℕ)) (line : JudgeWords) → judge_of words ≡ Some line → AreFewNames line.plan.updates.names × IsTarget line.plan.updates.target × AreWorkers line.plan.workers
sound_judge law words line e =
    let both = line_by (λ (line : JudgeWords). line.plan.updates.names) (λ (line : JudgeWords). line.plan.updates.target) judge_with
    (λ names named line h. judge_by (asking_given named) (updates_given named) (workers_given named) (patience_given named) names line (law named) h)
    (given_to (codes "sbcheck") (codes "judge") judge_shape words) line e in
    (both.0, both.1, workers_of (given_to (codes "sbcheck") (codes "judge") judge_shape words) line e)

-- words with a plan are those of a line
planned : (line : Option RunWords) (plan : Plan) → option_map (λ (line : RunWords). line.plan) line ≡ Some plan → (found : RunWords) × (line ≡ Some found) × (found.plan ≡ plan)
planned None plan e = absurd (cc)
planned (Some line) plan e = (line, refl, (let same : line.plan ≡ plan = cc in same))

judge_planned : (line : Option JudgeWords) (plan : JudgePlan) → option_map (λ (line : JudgeWords). line.plan) line ≡ Some plan → (found : JudgeWords) × (line ≡ Some found) × (found.plan ≡ plan)
judge_planned None plan e = absurd (cc)
judge_planned (Some line) plan e = (line, refl, (let same : line.plan ≡ plan = cc in same))

-- what was found is a command
pub is_found : (words : List (List ℕ)) (found : Option Command) (command : Command) → found ≡ Some command → IsCommandOf words found → IsCommandOf words (Some command)
is_found words found command e h = subst (IsCommandOf words) e h

-- a command keeps to what commands keep to
pub is_sound : SoundTargets → (words : List (List ℕ)) (command : Command) → IsCommandOf words (Some command) → IsSound command
is_sound law words (Replay names) e = few_replayed words names e
is_sound law words (Run plan) e =
    let line = planned (run_of words) plan e in
    subst (λ (plan : Plan). AreFewNames plan.names × IsTarget plan.target) line.2 (sound_run law words line.0 line.1)
is_sound law words (Judge plan) e =
    let line = judge_planned (judge_of words) plan e in
    subst (λ (plan : JudgePlan). AreFewNames plan.updates.names × IsTarget plan.updates.target × AreWorkers plan.workers) line.2 (sound_judge law words line.0 line.1)
is_sound law words Show e = tt
is_sound law words Vectors e = tt
is_sound law words (Tell text) e = tt

-- ---- a word is no other

differs_by : (word one other : List ℕ) (b : Bool) → bytes_eq word other ≡ b → (one ≡ other → ⊥) → bytes_eq word one ≡ true → b ≡ false
differs_by word one other true h apart e = absurd (apart (sym ((bytes_eq-Decides _ _).0 e) ∙ (bytes_eq-Decides _ _).0 h))
differs_by word one other false h apart e = refl

differs : (word one other : List ℕ) → (one ≡ other → ⊥) → bytes_eq word one ≡ true → bytes_eq word other ≡ false
differs word one other apart e = differs_by word one other _ refl apart e

and_true : (a b : Bool) → (a && b) ≡ true → (a ≡ true) × (b ≡ true)
and_true true true h = (refl, refl)
and_true true false h = absurd (cc)
and_true false b h = absurd (cc)

and_false : (a b : Bool) → a ≡ false → (a && b) ≡ false
and_false false b h = refl
and_false true b h = absurd (cc)

and_false_then : (a b : Bool) → b ≡ false → (a && b) ≡ false
and_false_then false b h = refl
and_false_then true b h = h

-- ---- the words of a run, and of a judging

by_line : (words : List (List ℕ)) (line : Option RunWords) → run_of words ≡ line → replay_of words ≡ None → judge_of words ≡ None → asks_show words ≡ false → asks_vectors words ≡ false → asked_text_of words ≡ None
    → IsCommandOf words (option_map Run (option_map (λ (line : RunWords). line.plan) line))
by_line words None e r j s v t = record { replay = r; run = e; judge = j; show = s; vectors = v; told = t }
by_line words (Some line) e r j s v t = ap (option_map (λ (line : RunWords). line.plan)) e

by_judge_line : (words : List (List ℕ)) (line : Option JudgeWords) → judge_of words ≡ line → replay_of words ≡ None → run_of words ≡ None → asks_show words ≡ false → asks_vectors words ≡ false → asked_text_of words ≡ None
    → IsCommandOf words (option_map Judge (option_map (λ (line : JudgeWords). line.plan) line))
by_judge_line words None e r u s v t = record { replay = r; run = u; judge = e; show = s; vectors = v; told = t }
by_judge_line words (Some line) e r u s v t = ap (option_map (λ (line : JudgeWords). line.plan)) e

-- whether two words are these
abbrev are : List ℕ → List ℕ → List ℕ → List ℕ → Bool
are program command first second = bytes_eq first program && bytes_eq second command

abbrev IsRunTold : List ℕ → List ℕ → Type 0
IsRunTold first second =
    (are (codes "sbupdate") (codes "replay") first second ≡ false) × (are (codes "sbupdate") (codes "run") first second ≡ true)

abbrev IsJudgeTold : List ℕ → List ℕ → Type 0
IsJudgeTold first second =
    (are (codes "sbupdate") (codes "replay") first second ≡ false) × (are (codes "sbupdate") (codes "run") first second ≡ false)
    × (are (codes "sbcheck") (codes "judge") first second ≡ true)

-- what words say whose first two are these, or are not
module _ (first second : List ℕ) (rest : List (List ℕ)) where
  replay_words : (b : Bool) → are (codes "sbupdate") (codes "replay") first second ≡ b → replay_of (first ∷ second ∷ rest) ≡ option_and_then lists_given (cond b (given_of replay_shape rest) None)
  replay_words b e = ap (λ (b : Bool). option_and_then lists_given (cond b (given_of replay_shape rest) None)) e

  run_words_by : (b : Bool) → are (codes "sbupdate") (codes "run") first second ≡ b → run_of (first ∷ second ∷ rest) ≡ option_and_then run_given (cond b (given_of run_shape rest) None)
  run_words_by b e = ap (λ (b : Bool). option_and_then run_given (cond b (given_of run_shape rest) None)) e

  judge_words_by : (b : Bool) → are (codes "sbcheck") (codes "judge") first second ≡ b → judge_of (first ∷ second ∷ rest) ≡ option_and_then judge_given (cond b (given_of judge_shape rest) None)
  judge_words_by b e = ap (λ (b : Bool). option_and_then judge_given (cond b (given_of judge_shape rest) None)) e

  no_bare : (command : List ℕ) → are (codes "sbcheck") command first second ≡ false → is_some (given_to (codes "sbcheck") command bare_shape (first ∷ second ∷ rest)) ≡ false
  no_bare command e = ap (λ (b : Bool). is_some (cond b (given_of bare_shape rest) None)) e

  run_words_are : IsRunTold first second → asked_text_of (first ∷ second ∷ rest) ≡ None
      → IsCommandOf (first ∷ second ∷ rest) (option_map Run (option_map (λ (line : RunWords). line.plan) (option_and_then run_given (given_of run_shape rest))))
  run_words_are told t =
      let check : bytes_eq first (codes "sbcheck") ≡ false = differs first (codes "sbupdate") (codes "sbcheck") (λ e. absurd (cc)) (and_true _ _ told.1).0 in
      by_line (first ∷ second ∷ rest) _ (run_words_by true told.1) (replay_words false told.0) (judge_words_by false (and_false _ _ check))
      (no_bare (codes "show") (and_false _ _ check)) (no_bare (codes "vectors") (and_false _ _ check)) t

  judge_words_are : IsJudgeTold first second → asked_text_of (first ∷ second ∷ rest) ≡ None
      → IsCommandOf (first ∷ second ∷ rest) (option_map Judge (option_map (λ (line : JudgeWords). line.plan) (option_and_then judge_given (given_of judge_shape rest))))
  judge_words_are told t =
      let command : bytes_eq second (codes "judge") ≡ true = (and_true _ _ told.2).1 in
      let show : bytes_eq second (codes "show") ≡ false = differs second (codes "judge") (codes "show") (λ e. absurd (cc)) command in
      let vectors : bytes_eq second (codes "vectors") ≡ false = differs second (codes "judge") (codes "vectors") (λ e. absurd (cc)) command in
      by_judge_line (first ∷ second ∷ rest) _ (judge_words_by true told.2) (replay_words false told.0) (run_words_by false told.1)
      (no_bare (codes "show") (and_false_then _ _ show)) (no_bare (codes "vectors") (and_false_then _ _ vectors)) t

ok_gives : {T E : Type 0} (P Q : T → Type 0) (r : Result T E) → ((x : T) → P x → Q x) → IfOk r P → IfOk r Q
ok_gives P Q (Ok x) f h = f x h
ok_gives P Q (Err e) f h = tt

-- the same of words that a slice holds
module _ (Told : List ℕ → List ℕ → Type 0) (asked : List (List ℕ) → Option Command)
    (meant : (first second : List ℕ) (rest : List (List ℕ)) → Told first second → asked_text_of (first ∷ second ∷ rest) ≡ None
    → IsCommandOf (first ∷ second ∷ rest) (asked rest)) where
  words_asked : {S E : Type 0} (text : S → List ℕ) (words : List S) (first second : S) (n : ℕ) (result : Result (Option Command) E)
      → 2 ≤ length words → n ≡ length words - 2 → first ≡ get_or words 0 first → second ≡ get_or words 1 second
      → Told (text first) (text second) → asked_text_of (map text words) ≡ None
      → IfOk result (λ command. command ≡ asked (map text (take n (drop 2 words))))
      → IfOk result (λ command. IsCommandOf (map text words) command)
  words_asked text [] first second n result two count at0 at1 told t h = absurd (omega (arith, two))
  words_asked text (a ∷ []) first second n result two count at0 at1 told t h = absurd (omega (arith, two))
  words_asked {S = S} text (a ∷ b ∷ rest) first second n result two count at0 at1 told t h =
      let here : Told (text a) (text b) = subst (λ (x : S). Told (text x) (text b)) at0 (subst (λ (y : S). Told (text first) (text y)) at1 told) in
      let all : take n rest ≡ rest = take_all n rest (omega (arith, count)) in
      ok_gives _ _ result (λ command is. subst (IsCommandOf (text a ∷ text b ∷ map text rest)) (sym is)
      (subst (λ (more : List S). IsCommandOf (text a ∷ text b ∷ map text rest) (asked (map text more))) (sym all) (meant (text a) (text b) (map text rest) here t))) h

pub run_asked : {S E : Type 0} (text : S → List ℕ) (words : List S) (first second : S) (n : ℕ) (result : Result (Option Command) E)
    → 2 ≤ length words → n ≡ length words - 2 → first ≡ get_or words 0 first → second ≡ get_or words 1 second
    → IsRunTold (text first) (text second) → asked_text_of (map text words) ≡ None
    → IfOk result (λ command. command ≡ option_map Run (option_map (λ (line : RunWords). line.plan) (option_and_then run_given (given_of run_shape (map text (take n (drop 2 words)))))))
    → IfOk result (λ command. IsCommandOf (map text words) command)
run_asked text words first second n result two count at0 at1 told t h =
    words_asked IsRunTold (λ rest. option_map Run (option_map (λ (line : RunWords). line.plan) (option_and_then run_given (given_of run_shape rest))))
    run_words_are text words first second n result two count at0 at1 told t h

pub judge_asked : {S E : Type 0} (text : S → List ℕ) (words : List S) (first second : S) (n : ℕ) (result : Result (Option Command) E)
    → 2 ≤ length words → n ≡ length words - 2 → first ≡ get_or words 0 first → second ≡ get_or words 1 second
    → IsJudgeTold (text first) (text second) → asked_text_of (map text words) ≡ None
    → IfOk result (λ command. command ≡ option_map Judge (option_map (λ (line : JudgeWords). line.plan) (option_and_then judge_given (given_of judge_shape (map text (take n (drop 2 words)))))))
    → IfOk result (λ command. IsCommandOf (map text words) command)
judge_asked text words first second n result two count at0 at1 told t h =
    words_asked IsJudgeTold (λ rest. option_map Judge (option_map (λ (line : JudgeWords). line.plan) (option_and_then judge_given (given_of judge_shape rest))))
    judge_words_are text words first second n result two count at0 at1 told t h

-- ---- words are one command

-- the second of some words is this
abbrev HasCommand : List ℕ → List (List ℕ) → Type 0
HasCommand command [] = ⊥
HasCommand command (first ∷ []) = ⊥
HasCommand command (first ∷ second ∷ words) = second ≡ command

one_command : (a b : List ℕ) (words : List (List ℕ)) → HasCommand a words → HasCommand b words → a ≡ b
one_command a b [] h k = absurd h
one_command a b (first ∷ []) h k = absurd h
one_command a b (first ∷ second ∷ words) h k = sym h ∙ k

some_test : {A B : Type 0} (b : Bool) (f : A → Option B) (given : Option A) (x : B) → option_and_then f (cond b given None) ≡ Some x → b ≡ true
some_test true f given x e = refl
some_test false f given x e = absurd (cc)

is_some_test : {A : Type 0} (b : Bool) (given : Option A) → is_some (cond b given None) ≡ true → b ≡ true
is_some_test true given e = refl
is_some_test false given e = absurd (cc)

-- the command, where words say something to it
some_command : {A : Type 0} (f : Given → Option A) (program command : List ℕ) (shape : CommandShape) (words : List (List ℕ)) (found : A)
    → option_and_then f (given_to program command shape words) ≡ Some found → HasCommand command words
some_command f program command shape [] found e = absurd (cc)
some_command f program command shape (first ∷ []) found e = absurd (cc)
some_command f program command shape (first ∷ second ∷ words) found e =
    (bytes_eq-Decides _ _).0 (and_true _ _ (some_test (are program command first second) f (given_of shape words) found e)).1

bare_command : (program command : List ℕ) (words : List (List ℕ)) → is_some (given_to program command bare_shape words) ≡ true → HasCommand command words
bare_command program command [] e = absurd (cc)
bare_command program command (first ∷ []) e = absurd (cc)
bare_command program command (first ∷ second ∷ words) e =
    (bytes_eq-Decides _ _).0 (and_true _ _ (is_some_test (are program command first second) (given_of bare_shape words) e)).1

replay_command : (words : List (List ℕ)) (names : List ListName) → replay_of words ≡ Some names → HasCommand (codes "replay") words
replay_command words names e = some_command lists_given (codes "sbupdate") (codes "replay") replay_shape words names e

run_command : (words : List (List ℕ)) (line : RunWords) → run_of words ≡ Some line → HasCommand (codes "run") words
run_command words line e = some_command run_given (codes "sbupdate") (codes "run") run_shape words line e

judge_command : (words : List (List ℕ)) (line : JudgeWords) → judge_of words ≡ Some line → HasCommand (codes "judge") words
judge_command words line e = some_command judge_given (codes "sbcheck") (codes "judge") judge_shape words line e

show_command : (words : List (List ℕ)) → asks_show words ≡ true → HasCommand (codes "show") words
show_command words e = bare_command (codes "sbcheck") (codes "show") words e

vectors_command : (words : List (List ℕ)) → asks_vectors words ≡ true → HasCommand (codes "vectors") words
vectors_command words e = bare_command (codes "sbcheck") (codes "vectors") words e

-- no command is named as a word that asks about a program
about_if : (test : Bool) (asked : Option About) → asked ≡ None → cond test asked None ≡ None
about_if true asked none = none
about_if false asked none = refl

told_if : (a b : Option About) (text : List ℕ) → a ≡ None → b ≡ None
    → option_or (option_map (λ about. about_text about (codes "sbupdate") UPDATE_USAGE.now) a) (option_map (λ about. about_text about (codes "sbcheck") CHECK_USAGE.now) b) ≡ Some text → ⊥
told_if None None text none nothing e = cc
told_if (Some a) b text none nothing e = cc
told_if None (Some b) text none nothing e = cc

told_apart : (words : List (List ℕ)) (text command : List ℕ) → asked_by command ≡ None → HasCommand command words → asked_text_of words ≡ Some text → ⊥
told_apart [] text command none has e = has
told_apart (first ∷ []) text command none has e = has
told_apart (first ∷ second ∷ []) text command none has e =
    let asked : asked_by second ≡ None = ap asked_by has ∙ none in
    told_if _ _ text (about_if (bytes_eq first (codes "sbupdate")) (asked_by second) asked) (about_if (bytes_eq first (codes "sbcheck")) (asked_by second) asked) e
told_apart (first ∷ second ∷ third ∷ words) text command none has e = cc

abbrev IsNamed : Command → Type 0
IsNamed (Tell text) = ⊥
IsNamed command = Unit {0}

abbrev word_of : Command → List ℕ
word_of (Replay names) = codes "replay"
word_of (Run plan) = codes "run"
word_of (Judge plan) = codes "judge"
word_of Show = codes "show"
word_of Vectors = codes "vectors"
word_of (Tell text) = []

has_word : (words : List (List ℕ)) (command : Command) → IsNamed command → IsCommandOf words (Some command) → HasCommand (word_of command) words
has_word words (Replay names) named h = replay_command words names h
has_word words (Run plan) named h = let line = planned (run_of words) plan h in run_command words line.0 line.1
has_word words (Judge plan) named h = let line = judge_planned (judge_of words) plan h in judge_command words line.0 line.1
has_word words Show named h = show_command words h
has_word words Vectors named h = vectors_command words h
has_word words (Tell text) named h = absurd named

-- a command is the one whose word stands there
same_word : (words : List (List ℕ)) (command : Command) (word : List ℕ) → IsNamed command → IsCommandOf words (Some command) → HasCommand word words → word_of command ≡ word
same_word words command word named h k = one_command _ _ words (has_word words command named h) k

pub is_replay : (words : List (List ℕ)) (command : Command) → IsCommandOf words (Some command) → (names : List ListName) → replay_of words ≡ Some names → command ≡ Replay names
is_replay words (Replay found) h names e = let same : found ≡ names = cc in ap Replay same
is_replay words (Run plan) h names e = absurd (let other : codes "run" ≡ codes "replay" = same_word words (Run plan) _ tt h (replay_command words names e) in cc)
is_replay words (Judge plan) h names e = absurd (let other : codes "judge" ≡ codes "replay" = same_word words (Judge plan) _ tt h (replay_command words names e) in cc)
is_replay words Show h names e = absurd (let other : codes "show" ≡ codes "replay" = same_word words Show _ tt h (replay_command words names e) in cc)
is_replay words Vectors h names e = absurd (let other : codes "vectors" ≡ codes "replay" = same_word words Vectors _ tt h (replay_command words names e) in cc)
is_replay words (Tell text) h names e = absurd (told_apart words text (codes "replay") refl (replay_command words names e) h)

pub is_run : (words : List (List ℕ)) (command : Command) → IsCommandOf words (Some command) → (line : RunWords) → run_of words ≡ Some line → command ≡ Run line.plan
is_run words (Replay names) h line e = absurd (let other : codes "replay" ≡ codes "run" = same_word words (Replay names) _ tt h (run_command words line e) in cc)
is_run words (Run plan) h line e =
    let found = planned (run_of words) plan h in
    let same : Some found.0 ≡ Some line = sym found.1 ∙ e in
    let is : found.0 ≡ line = cc in
    ap Run (sym found.2 ∙ ap (λ (l : RunWords). l.plan) is)
is_run words (Judge plan) h line e = absurd (let other : codes "judge" ≡ codes "run" = same_word words (Judge plan) _ tt h (run_command words line e) in cc)
is_run words Show h line e = absurd (let other : codes "show" ≡ codes "run" = same_word words Show _ tt h (run_command words line e) in cc)
is_run words Vectors h line e = absurd (let other : codes "vectors" ≡ codes "run" = same_word words Vectors _ tt h (run_command words line e) in cc)
is_run words (Tell text) h line e = absurd (told_apart words text (codes "run") refl (run_command words line e) h)

pub is_judge : (words : List (List ℕ)) (command : Command) → IsCommandOf words (Some command) → (line : JudgeWords) → judge_of words ≡ Some line → command ≡ Judge line.plan
is_judge words (Replay names) h line e = absurd (let other : codes "replay" ≡ codes "judge" = same_word words (Replay names) _ tt h (judge_command words line e) in cc)
is_judge words (Run plan) h line e = absurd (let other : codes "run" ≡ codes "judge" = same_word words (Run plan) _ tt h (judge_command words line e) in cc)
is_judge words (Judge plan) h line e =
    let found = judge_planned (judge_of words) plan h in
    let same : Some found.0 ≡ Some line = sym found.1 ∙ e in
    let is : found.0 ≡ line = cc in
    ap Judge (sym found.2 ∙ ap (λ (l : JudgeWords). l.plan) is)
is_judge words Show h line e = absurd (let other : codes "show" ≡ codes "judge" = same_word words Show _ tt h (judge_command words line e) in cc)
is_judge words Vectors h line e = absurd (let other : codes "vectors" ≡ codes "judge" = same_word words Vectors _ tt h (judge_command words line e) in cc)
is_judge words (Tell text) h line e = absurd (told_apart words text (codes "judge") refl (judge_command words line e) h)

pub is_show : (words : List (List ℕ)) (command : Command) → IsCommandOf words (Some command) → asks_show words ≡ true → command ≡ Show
is_show words (Replay names) h e = absurd (let other : codes "replay" ≡ codes "show" = same_word words (Replay names) _ tt h (show_command words e) in cc)
is_show words (Run plan) h e = absurd (let other : codes "run" ≡ codes "show" = same_word words (Run plan) _ tt h (show_command words e) in cc)
is_show words (Judge plan) h e = absurd (let other : codes "judge" ≡ codes "show" = same_word words (Judge plan) _ tt h (show_command words e) in cc)
is_show words Show h e = refl
is_show words Vectors h e = absurd (let other : codes "vectors" ≡ codes "show" = same_word words Vectors _ tt h (show_command words e) in cc)
is_show words (Tell text) h e = absurd (told_apart words text (codes "show") refl (show_command words e) h)

pub is_vectors : (words : List (List ℕ)) (command : Command) → IsCommandOf words (Some command) → asks_vectors words ≡ true → command ≡ Vectors
is_vectors words (Replay names) h e = absurd (let other : codes "replay" ≡ codes "vectors" = same_word words (Replay names) _ tt h (vectors_command words e) in cc)
is_vectors words (Run plan) h e = absurd (let other : codes "run" ≡ codes "vectors" = same_word words (Run plan) _ tt h (vectors_command words e) in cc)
is_vectors words (Judge plan) h e = absurd (let other : codes "judge" ≡ codes "vectors" = same_word words (Judge plan) _ tt h (vectors_command words e) in cc)
is_vectors words Show h e = absurd (let other : codes "show" ≡ codes "vectors" = same_word words Show _ tt h (vectors_command words e) in cc)
is_vectors words Vectors h e = refl
is_vectors words (Tell text) h e = absurd (told_apart words text (codes "vectors") refl (vectors_command words e) h)

pub is_tell : (words : List (List ℕ)) (command : Command) → IsCommandOf words (Some command) → (text : List ℕ) → asked_text_of words ≡ Some text → command ≡ Tell text
is_tell words (Replay names) h text e = absurd (told_apart words text (codes "replay") refl (has_word words (Replay names) tt h) e)
is_tell words (Run plan) h text e = absurd (told_apart words text (codes "run") refl (has_word words (Run plan) tt h) e)
is_tell words (Judge plan) h text e = absurd (told_apart words text (codes "judge") refl (has_word words (Judge plan) tt h) e)
is_tell words Show h text e = absurd (told_apart words text (codes "show") refl (has_word words Show tt h) e)
is_tell words Vectors h text e = absurd (told_apart words text (codes "vectors") refl (has_word words Vectors tt h) e)
is_tell words (Tell found) h text e = let same : found ≡ text = cc in ap Tell same

-- of words that are none of a run, no command is one
pub is_no_run : (words : List (List ℕ)) (command : Command) → IsCommandOf words (Some command) → run_of words ≡ None → (plan : Plan) → command ≢ Run plan
is_no_run words command h none plan e =
    let is : IsCommandOf words (Some (Run plan)) = subst (λ (command : Command). IsCommandOf words (Some command)) e h in
    let found = planned (run_of words) plan is in
    let same = found.1 in
    cc

pub is_no_judge : (words : List (List ℕ)) (command : Command) → IsCommandOf words (Some command) → judge_of words ≡ None → (plan : JudgePlan) → command ≢ Judge plan
is_no_judge words command h none plan e =
    let is : IsCommandOf words (Some (Judge plan)) = subst (λ (command : Command). IsCommandOf words (Some command)) e h in
    let found = judge_planned (judge_of words) plan is in
    let same = found.1 in
    cc

pub is_no_replay : (words : List (List ℕ)) (command : Command) → IsCommandOf words (Some command) → replay_of words ≡ None → (names : List ListName) → command ≢ Replay names
is_no_replay words command h none names e =
    let is : IsCommandOf words (Some (Replay names)) = subst (λ (command : Command). IsCommandOf words (Some command)) e h in
    cc

pub is_no_show : (words : List (List ℕ)) (command : Command) → IsCommandOf words (Some command) → asks_show words ≡ false → command ≢ Show
is_no_show words command h none e =
    let is : IsCommandOf words (Some Show) = subst (λ (command : Command). IsCommandOf words (Some command)) e h in
    cc

-- words that are none of four commands are one that makes its text at once
pub made_at_once : (words : List (List ℕ)) (command : Command) → IsCommandOf words (Some command) → replay_of words ≡ None → run_of words ≡ None → judge_of words ≡ None → asks_show words ≡ false
    → MakesItsText command
made_at_once words (Replay names) h no_replay no_run no_judge no_show = absurd (cc)
made_at_once words (Run plan) h no_replay no_run no_judge no_show = absurd (is_no_run words (Run plan) h no_run plan refl)
made_at_once words (Judge plan) h no_replay no_run no_judge no_show = absurd (is_no_judge words (Judge plan) h no_judge plan refl)
made_at_once words Show h no_replay no_run no_judge no_show = absurd (cc)
made_at_once words Vectors h no_replay no_run no_judge no_show = tt
made_at_once words (Tell text) h no_replay no_run no_judge no_show = tt

-- a command is some command
pub no_command : (words : List (List ℕ)) (command : Command) → IsCommandOf words (Some command) → IsNoCommand words → ⊥
no_command words (Replay names) h none = let other = none.replay in cc
no_command words (Run plan) h none = is_no_run words (Run plan) h none.run plan refl
no_command words (Judge plan) h none = is_no_judge words (Judge plan) h none.judge plan refl
no_command words Show h none = let other = none.show in cc
no_command words Vectors h none = let other = none.vectors in cc
no_command words (Tell text) h none = let other = none.told in cc

-- ---- of what was found

module _ (words : List (List ℕ)) (found : Option Command) (command : Command) (e : found ≡ Some command) (h : IsCommandOf words found) where
  pub replay_found : (names : List ListName) → replay_of words ≡ Some names → command ≡ Replay names
  replay_found names asked = is_replay words command (is_found words found command e h) names asked

  pub run_found : (line : RunWords) → run_of words ≡ Some line → command ≡ Run line.plan
  run_found line asked = is_run words command (is_found words found command e h) line asked

  pub judge_found : (line : JudgeWords) → judge_of words ≡ Some line → command ≡ Judge line.plan
  judge_found line asked = is_judge words command (is_found words found command e h) line asked

  pub show_found : asks_show words ≡ true → command ≡ Show
  show_found asked = is_show words command (is_found words found command e h) asked

  pub vectors_found : asks_vectors words ≡ true → command ≡ Vectors
  vectors_found asked = is_vectors words command (is_found words found command e h) asked

  pub tell_found : (text : List ℕ) → asked_text_of words ≡ Some text → command ≡ Tell text
  tell_found text asked = is_tell words command (is_found words found command e h) text asked
