-- What a replay prints of honest bodies are replicas.
use Rattle.std.proofs.Common.{◌≡◌, ℕ, inl, List, [], ◌∷◌, Bool, true, false, cond, length, take, map, refl, sym, ap, ◌∙◌, subst, Option, Some, None, arith}
use Rattle.std.specs.Prelude.{IfSome}
use Rattle.std.proofs.lemmas.List.{take_all}
use Rattle.sb_model.specs.declared.names.ListName.{ListName}
use Rattle.sb_model.specs.Names.{same_name}
use Rattle.sb_model.specs.History.{History, IsWellFormed}
use Rattle.sb_model.specs.Naming.{Naming, IsNaming}
use Rattle.sb_outside.specs.Outside.{next_piece, appended}
use Rattle.update_messages.specs.Messages.{UpdatedList}
use Rattle.update_client.specs.declared.fault.UpdateFault.{UpdateFault}
use Rattle.update_client.specs.Held.{Held, nothing_held, in_order, nothing_held_of}
use Rattle.update_client.specs.Step.{first_fault, held_after, list_step, after_update, after_updates}
use Rattle.update_client.specs.Replica.{AreReplicas}
use Rattle.sb_round.specs.Run.{lists_after}
use Rattle.sb_round.specs.Honest.{IsHonest}
use Rattle.sb_round.specs.Collision.{candidates_of, HasNoCollision}
use Rattle.sb_round.specs.Law.{KeepsReplicas}
use Rattle.input_lines.specs.Lines.{lines_of}
use Rattle.update_replay.specs.Readings.{ResponseReading, AreReadings, bodies_of}
use Rattle.update_replay.specs.Printed.{replay_text}
use Rattle.update_replay.specs.Replay.{IsPrinted, PrintsReplicas}
use Rattle.update_replay.proofs.Readings.{ReadsOneWay, ReadsOrFails, same_readings}

-- ---- names stay

abbrev names_in : List Held → List ListName
names_in lists = map (λ (list : Held). list.name) lists

name_after : (held : Held) (update : UpdatedList) (fault : Option UpdateFault) → (held_after held update fault).name ≡ held.name
name_after held update None = refl
name_after held update (Some fault) = refl

name_either : (held : Held) (update : UpdatedList) (same : Bool) → (cond same (list_step held update) held).name ≡ held.name
name_either held update true = name_after held update (first_fault held update)
name_either held update false = refl

names_after_one : (lists : List Held) (update : UpdatedList) → names_in (after_update lists update) ≡ names_in lists
names_after_one [] update = refl
names_after_one (held ∷ lists) update =
    let first = name_either held update (same_name held.name update.name) in
    let rest = names_after_one lists update in
    cc

names_after_body : (lists : List Held) (updates : List UpdatedList) → names_in (after_updates lists updates) ≡ names_in lists
names_after_body lists [] = refl
names_after_body lists (update ∷ updates) = names_after_body (after_update lists update) updates ∙ names_after_one lists update

names_after : (lists : List Held) (bodies : List (List UpdatedList)) → names_in (lists_after lists bodies) ≡ names_in lists
names_after lists [] = refl
names_after lists (updates ∷ bodies) = names_after (after_updates lists updates) bodies ∙ names_after_body lists updates

names_of_nothing : (names : List ListName) → names_in (map nothing_held names) ≡ names
names_of_nothing [] = refl
names_of_nothing (name ∷ names) = ap (λ (rest : List ListName). name ∷ rest) (names_of_nothing names)

-- ---- from nothing on

nothing_is_replica : (history : History) (token_at : Naming) (names : List ListName) → AreReplicas history token_at (map nothing_held names)
nothing_is_replica history token_at [] = tt
nothing_is_replica history token_at (name ∷ names) = (inl (record { token = refl; set = refl }), nothing_is_replica history token_at names)

told : (left : Option (List (List ℕ))) (pieces : List (List ℕ)) (input : List ℕ) → left ≡ Some pieces → IfSome left (λ pieces. next_piece pieces ≡ input) → next_piece pieces ≡ input
told (Some other) pieces input e h = let same : other ≡ pieces = cc in ap next_piece (sym same) ∙ h
told None pieces input e h = absurd (cc)

pub prints_replicas : ReadsOneWay → ReadsOrFails → ((lists : List Held) (bodies : List (List UpdatedList)) → KeepsReplicas lists bodies)
    → (names : List ListName) (refused : Bool) (left left' : Option (List (List ℕ))) (held held' : Option (List ℕ))
    → IsPrinted names refused left left' held held'
    → (pieces : List (List ℕ)) (readings : List ResponseReading) (history : History) (token_at : Naming)
    → left ≡ Some pieces → AreReadings (lines_of (next_piece pieces)) readings
    → IsWellFormed history → IsNaming history token_at
    → IsHonest history token_at (nothing_held_of names) (bodies_of readings)
    → HasNoCollision history (candidates_of (nothing_held_of names) (bodies_of readings))
    → PrintsReplicas history token_at names readings held held'
prints_replicas once law stay names refused left left' held held' printed pieces readings history token_at known read formed naming honest apart =
    let start = nothing_held_of names in
    let bodies = bodies_of readings in
    let input : next_piece pieces ≡ printed.input = told left pieces printed.input known printed.whole in
    let here : AreReadings (lines_of printed.input) readings = subst (λ (text : List ℕ). AreReadings (lines_of text) readings) input read in
    let same : printed.readings ≡ readings = same_readings once law (lines_of printed.input) printed.readings readings printed.read here in
    let whole : take (length bodies) bodies ≡ bodies = take_all (length bodies) bodies (omega arith) in
    record {
      lists = lists_after start bodies;
      named = names_after start bodies ∙ names_of_nothing (in_order names);
      replicas = subst (λ (all : List (List UpdatedList)). AreReplicas history token_at (lists_after start all)) whole
          (stay start bodies history token_at formed naming (nothing_is_replica history token_at (in_order names)) honest apart (length bodies));
      text = printed.text ∙ ap (λ (all : List ResponseReading). appended held (replay_text names all)) same;
    }
