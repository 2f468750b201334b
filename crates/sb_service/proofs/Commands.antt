-- What a command line says.
use Rattle.std.proofs.Common.{◌≡◌, Bool, true, false, List, [], ◌∷◌, refl, sym, ap, ◌∙◌, subst, Option, Some, None, codes, arith}
use Rattle.std.specs.Prelude.{option_and_then, ◌&&◌, if◌then◌else◌, slice_index}
use Rattle.std.specs.Str.{bytes_eq}
use Rattle.std.proofs.lemmas.Slice.Eq.{bytes_eq-Decides}
use Rattle.sb_words.specs.About.{asked_by}
use Rattle.sb_words.specs.CommandLine.{Text, Given, CommandShape, given_of}
use Rattle.sb_words.specs.declared.asking.About.{About}
use Rattle.sb_service.specs.declared.command.Command.{Command}
use Rattle.sb_service.specs.declared.command.Command.TheVariants.{Answer, Serve, Generate, Exercise, Tell}
use Rattle.sb_service.specs.declared.command.GenerateLine.{GenerateLine}
use Rattle.sb_service.specs.declared.command.Load.{Load}
use Rattle.sb_service.specs.Command.{AnswerWords, ServeWords, answer_given, answer_of, answer_shape, exercise_given, exercise_of, exercise_shape, generate_given, generate_of, generate_shape, given_to_command, serve_given, serve_of, serve_shape, tell_of, AsksAnswer, IsServerCommandOf, IsMade, IsNoServerCommand, IsNoService}

-- ---- no words are those of two commands

test_holds : (test : Bool) (given : Option Given) (found : Given) → (if test then given else None) ≡ Some found → test ≡ true
test_holds true given found is = refl
test_holds false given found is = absurd (cc)

second_holds : (first second : Bool) → (first && second) ≡ true → second ≡ true
second_holds true second is = is
second_holds false second is = absurd (cc)

given_some : {A : Type 0} (read : Given → Option A) (given : Option Given) (found : A) → option_and_then read given ≡ Some found → (some : Given) × (given ≡ Some some)
given_some read None found is = absurd (cc)
given_some read (Some given) found is = (given, refl)

-- the second word, where words say something
second_is : {A : Type 0} (command : Text) (shape : CommandShape) (read : Given → Option A) (first second : Text) (words : List Text) (found : A)
    → option_and_then read (given_to_command command shape (first ∷ second ∷ words)) ≡ Some found → second ≡ command
second_is command shape read first second words found is =
    let some = given_some read _ found is in
    let test : (bytes_eq first (codes "sblistd") && bytes_eq second command) ≡ true = test_holds _ (given_of shape words) some.0 some.1 in
    (bytes_eq-Decides second command).0 (second_holds _ _ test)

-- Words say something of one command alone.
one_command : {A B : Type 0} (one other : Text) (shape shape' : CommandShape) (read : Given → Option A) (read' : Given → Option B) (words : List Text) (a : A) (b : B)
    → (one ≡ other → ⊥) → option_and_then read (given_to_command one shape words) ≡ Some a → option_and_then read' (given_to_command other shape' words) ≡ Some b → ⊥
one_command one other shape shape' read read' [] a b apart e h = cc
one_command one other shape shape' read read' (first ∷ []) a b apart e h = cc
one_command one other shape shape' read read' (first ∷ second ∷ words) a b apart e h =
    apart (sym (second_is one shape read first second words a e) ∙ second_is other shape' read' first second words b h)

answer_or_serve : (words : List Text) (a : AnswerWords) (b : ServeWords) → answer_of words ≡ Some a → serve_of words ≡ Some b → ⊥
answer_or_serve words a b = one_command (codes "answer") (codes "serve") answer_shape serve_shape answer_given serve_given words a b (λ e. cc)

answer_or_generate : (words : List Text) (a : AnswerWords) (b : GenerateLine) → answer_of words ≡ Some a → generate_of words ≡ Some b → ⊥
answer_or_generate words a b = one_command (codes "answer") (codes "generate") answer_shape generate_shape answer_given generate_given words a b (λ e. cc)

answer_or_exercise : (words : List Text) (a : AnswerWords) (b : Load) → answer_of words ≡ Some a → exercise_of words ≡ Some b → ⊥
answer_or_exercise words a b = one_command (codes "answer") (codes "exercise") answer_shape exercise_shape answer_given exercise_given words a b (λ e. cc)

serve_or_generate : (words : List Text) (a : ServeWords) (b : GenerateLine) → serve_of words ≡ Some a → generate_of words ≡ Some b → ⊥
serve_or_generate words a b = one_command (codes "serve") (codes "generate") serve_shape generate_shape serve_given generate_given words a b (λ e. cc)

serve_or_exercise : (words : List Text) (a : ServeWords) (b : Load) → serve_of words ≡ Some a → exercise_of words ≡ Some b → ⊥
serve_or_exercise words a b = one_command (codes "serve") (codes "exercise") serve_shape exercise_shape serve_given exercise_given words a b (λ e. cc)

other_words : codes "generate" ≡ codes "exercise" → ⊥
other_words e =
    let first : slice_index (codes "generate") 0 ≡ slice_index (codes "exercise") 0 = ap (λ (word : Text). slice_index word 0) e in
    absurd (omega (arith, first))

generate_or_exercise : (words : List Text) (a : GenerateLine) (b : Load) → generate_of words ≡ Some a → exercise_of words ≡ Some b → ⊥
generate_or_exercise words a b = one_command (codes "generate") (codes "exercise") generate_shape exercise_shape generate_given exercise_given words a b other_words

asked_if : (test : Bool) (asked : Option About) (about : About) → (if test then asked else None) ≡ Some about → asked ≡ Some about
asked_if true asked about is = is
asked_if false asked about is = absurd (cc)

-- Words that say something of a command ask nothing about the program, as no command is named so.
command_or_tell : {A : Type 0} (command : Text) (shape : CommandShape) (read : Given → Option A) (words : List Text) (a : A) (about : About)
    → asked_by command ≡ None → option_and_then read (given_to_command command shape words) ≡ Some a → tell_of words ≡ Some about → ⊥
command_or_tell command shape read [] a about none e h = cc
command_or_tell command shape read (first ∷ []) a about none e h = cc
command_or_tell command shape read (first ∷ second ∷ []) a about none e h =
    let is : second ≡ command = second_is command shape read first second [] a e in
    let asked : asked_by second ≡ Some about = asked_if (bytes_eq first (codes "sblistd")) (asked_by second) about h in
    let same : asked_by second ≡ asked_by command = ap asked_by is in
    cc
command_or_tell command shape read (first ∷ second ∷ third ∷ words) a about none e h = cc

answer_or_tell : (words : List Text) (a : AnswerWords) (b : About) → answer_of words ≡ Some a → tell_of words ≡ Some b → ⊥
answer_or_tell words a b = command_or_tell (codes "answer") answer_shape answer_given words a b refl

serve_or_tell : (words : List Text) (a : ServeWords) (b : About) → serve_of words ≡ Some a → tell_of words ≡ Some b → ⊥
serve_or_tell words a b = command_or_tell (codes "serve") serve_shape serve_given words a b refl

generate_or_tell : (words : List Text) (a : GenerateLine) (b : About) → generate_of words ≡ Some a → tell_of words ≡ Some b → ⊥
generate_or_tell words a b = command_or_tell (codes "generate") generate_shape generate_given words a b refl

exercise_or_tell : (words : List Text) (a : Load) (b : About) → exercise_of words ≡ Some a → tell_of words ≡ Some b → ⊥
exercise_or_tell words a b = command_or_tell (codes "exercise") exercise_shape exercise_given words a b refl

-- ---- the command

pub asks_answer : (words : List Text) (line : AnswerWords) → answer_of words ≡ Some line → AsksAnswer words line.kind line.settings
asks_answer words line is = record { line = line; answer = is; asked = refl; times = refl }

-- a command is some command
pub is_some_command : (words : List Text) (command : Command) → IsServerCommandOf words (Some command) → IsNoServerCommand words → ⊥
is_some_command words (Answer sort settings) asks none = absurd (let h = asks.answer in let k = none.answer in cc)
is_some_command words (Serve plan) asks none = absurd (let h = asks.serve in let k = none.serve in cc)
is_some_command words (Generate urls load) asks none = absurd (let k = none.generate in cc)
is_some_command words (Exercise load) asks none = absurd (let k = none.exercise in cc)
is_some_command words (Tell about) asks none = absurd (let k = none.tell in cc)

by_answer : (words : List Text) (command : Command) (line : AnswerWords) → IsServerCommandOf words (Some command) → answer_of words ≡ Some line → command ≡ Answer line.kind line.settings
by_answer words (Answer sort settings) line asks e =
    let same : Some asks.line ≡ Some line = sym asks.answer ∙ e in
    let is : asks.line ≡ line = cc in
    let asked = asks.asked in
    let times = asks.times in
    cc
by_answer words (Serve plan) line asks e = absurd (answer_or_serve words line asks.line e asks.serve)
by_answer words (Generate urls load) line asks e = absurd (answer_or_generate words line _ e asks)
by_answer words (Exercise load) line asks e = absurd (answer_or_exercise words line load e asks)
by_answer words (Tell about) line asks e = absurd (answer_or_tell words line about e asks)

by_serve : (words : List Text) (command : Command) (line : ServeWords) → IsServerCommandOf words (Some command) → serve_of words ≡ Some line → command ≡ Serve line.plan
by_serve words (Answer sort settings) line asks e = absurd (answer_or_serve words asks.line line asks.answer e)
by_serve words (Serve plan) line asks e =
    let same : Some asks.line ≡ Some line = sym asks.serve ∙ e in
    let is : asks.line ≡ line = cc in
    let asked = asks.asked in
    cc
by_serve words (Generate urls load) line asks e = absurd (serve_or_generate words line _ e asks)
by_serve words (Exercise load) line asks e = absurd (serve_or_exercise words line load e asks)
by_serve words (Tell about) line asks e = absurd (serve_or_tell words line about e asks)

by_generate : (words : List Text) (command : Command) (line : GenerateLine) → IsServerCommandOf words (Some command) → generate_of words ≡ Some line → command ≡ Generate line.urls line.load
by_generate words (Answer sort settings) line asks e = absurd (answer_or_generate words asks.line line asks.answer e)
by_generate words (Serve plan) line asks e = absurd (serve_or_generate words asks.line line asks.serve e)
by_generate words (Generate urls load) line asks e =
    let said : GenerateLine = record { urls = urls; load = load } in
    let same : Some said ≡ Some line = sym asks ∙ e in
    let is : said ≡ line = cc in
    ap (λ (l : GenerateLine). Generate l.urls l.load) is
by_generate words (Exercise load) line asks e = absurd (generate_or_exercise words line load e asks)
by_generate words (Tell about) line asks e = absurd (generate_or_tell words line about e asks)

by_exercise : (words : List Text) (command : Command) (load : Load) → IsServerCommandOf words (Some command) → exercise_of words ≡ Some load → command ≡ Exercise load
by_exercise words (Answer sort settings) load asks e = absurd (answer_or_exercise words asks.line load asks.answer e)
by_exercise words (Serve plan) load asks e = absurd (serve_or_exercise words asks.line load asks.serve e)
by_exercise words (Generate urls load') load asks e = absurd (generate_or_exercise words _ load asks e)
by_exercise words (Exercise load') load asks e =
    let same : Some load' ≡ Some load = sym asks ∙ e in
    let is : load' ≡ load = cc in
    ap Exercise is
by_exercise words (Tell about) load asks e = absurd (exercise_or_tell words load about e asks)

by_tell : (words : List Text) (command : Command) (about : About) → IsServerCommandOf words (Some command) → tell_of words ≡ Some about → command ≡ Tell about
by_tell words (Answer sort settings) about asks e = absurd (answer_or_tell words asks.line about asks.answer e)
by_tell words (Serve plan) about asks e = absurd (serve_or_tell words asks.line about asks.serve e)
by_tell words (Generate urls load) about asks e = absurd (generate_or_tell words _ about asks e)
by_tell words (Exercise load) about asks e = absurd (exercise_or_tell words load about asks e)
by_tell words (Tell about') about asks e =
    let same : Some about' ≡ Some about = sym asks ∙ e in
    let is : about' ≡ about = cc in
    ap Tell is

-- ---- the command that was read

pub is_answer : (words : List Text) (found : Option Command) (command : Command) (answer : AnswerWords) → IsServerCommandOf words found → found ≡ Some command → answer_of words ≡ Some answer
    → command ≡ Answer answer.kind answer.settings
is_answer words found command answer asks is e = by_answer words command answer (subst (IsServerCommandOf words) is asks) e

pub is_serve : (words : List Text) (found : Option Command) (command : Command) (line : ServeWords) → IsServerCommandOf words found → found ≡ Some command → serve_of words ≡ Some line
    → command ≡ Serve line.plan
is_serve words found command line asks is e = by_serve words command line (subst (IsServerCommandOf words) is asks) e

pub is_generate : (words : List Text) (found : Option Command) (command : Command) (line : GenerateLine) → IsServerCommandOf words found → found ≡ Some command → generate_of words ≡ Some line
    → command ≡ Generate line.urls line.load
is_generate words found command line asks is e = by_generate words command line (subst (IsServerCommandOf words) is asks) e

pub is_exercise : (words : List Text) (found : Option Command) (command : Command) (load : Load) → IsServerCommandOf words found → found ≡ Some command → exercise_of words ≡ Some load
    → command ≡ Exercise load
is_exercise words found command load asks is e = by_exercise words command load (subst (IsServerCommandOf words) is asks) e

pub is_tell : (words : List Text) (found : Option Command) (command : Command) (about : About) → IsServerCommandOf words found → found ≡ Some command → tell_of words ≡ Some about
    → command ≡ Tell about
is_tell words found command about asks is e = by_tell words command about (subst (IsServerCommandOf words) is asks) e

pub made_tell : (command : Command) (about : About) → command ≡ Tell about → IsMade command
made_tell command about is = subst IsMade (sym is) tt

pub made_generate : (command : Command) (urls : Bool) (load : Load) → command ≡ Generate urls load → IsMade command
made_generate command urls load is = subst IsMade (sym is) tt

pub made_exercise : (command : Command) (load : Load) → command ≡ Exercise load → IsMade command
made_exercise command load is = subst IsMade (sym is) tt

by_no_serve : (words : List Text) (command : Command) → IsServerCommandOf words (Some command) → serve_of words ≡ None → IsNoService command
by_no_serve words (Answer sort settings) asks none = tt
by_no_serve words (Serve plan) asks none = absurd (let h = asks.serve in cc)
by_no_serve words (Generate urls load) asks none = tt
by_no_serve words (Exercise load) asks none = tt
by_no_serve words (Tell about) asks none = tt

-- a command that is not `serve`
pub is_other : (words : List Text) (found : Option Command) (command : Command) → IsServerCommandOf words found → found ≡ Some command → serve_of words ≡ None → IsNoService command
is_other words found command asks is none = by_no_serve words command (subst (IsServerCommandOf words) is asks) none
