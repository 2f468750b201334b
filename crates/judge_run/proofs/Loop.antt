-- Rounds that were published, and one more.
use Rattle.std.proofs.Common.{◌≡◌, ◌+◌, ◌≤◌, ℕ, List, [], ◌∷◌, ◌++◌, Bool, true, false, length, refl, sym, ap, ◌∙◌, subst, inl, inr, append_assoc, arith}
use Rattle.std.specs.Prelude.{◌||◌, if◌then◌else◌}
use Rattle.std.proofs.lemmas.List.{length-append}
use Rattle.update_client.specs.Held.{Held}
use Rattle.sb_round.specs.Round.{Round, lists_after_round, taken_from}
use Rattle.snapshot_publish.specs.Publications.{Publications, IsPrefixOf}
use Rattle.update_run.specs.Run.{Seen}
use Rattle.update_run.specs.Saved.{has_installed, saved_in, saved_lists}
use Rattle.update_run.specs.Stepping.{GoesOnSaving, StopsAfterSteps}
use Rattle.update_run.specs.Rounding.{StopsOneRound}
use Rattle.update_run.specs.Steps.{TakesRounds, GoesOnWriting, GoesOnTaking}
use Rattle.update_run.specs.declared.client.Client.{Client}
use Rattle.update_run.specs.declared.plan.Plan.{Plan}
use Rattle.update_run.specs.declared.rounding.RoundTold.{RoundTold}
use Rattle.update_run.specs.declared.stop.RunStop.{RunStop}
use Rattle.update_run.specs.declared.stop.RunStop.TheVariants.{OutOfMemory}
use Rattle.judge_run.specs.Rounds.{WritesAndTells, PublishesRounds, StopsPublishing}

-- the laws of rounds that are taken one by one
pub record StepLaws : Type 0 where
  pub writing : GoesOnWriting
  pub taking : GoesOnTaking
  pub saving : GoesOnSaving
  pub stopping : StopsAfterSteps

abbrev pub step_laws : GoesOnWriting → GoesOnTaking → GoesOnSaving → StopsAfterSteps → StepLaws
step_laws writing taking saving stopping = record { writing = writing; taking = taking; saving = saving; stopping = stopping }

one_longer : (rounds : List Round) (round : Round) → length (rounds ++ round ∷ []) ≡ length rounds + 1
one_longer rounds round = length-append rounds (round ∷ [])

-- at most one set of lists is saved in a round
one_at_most : (b : Bool) (lists : List Held) → length (if b then lists ∷ [] else []) ≤ 1
one_at_most true lists = omega arith
one_at_most false lists = omega arith

pub few_saved : (lists : List Held) (rounds : List Round) → length (saved_lists lists rounds) ≤ length rounds
few_saved lists [] = omega arith
few_saved lists (round ∷ rounds) =
    let after = lists_after_round lists round in
    omega (
      arith,
      length-append (saved_in lists round) (saved_lists after rounds),
      one_at_most (has_installed (taken_from lists round.answer)) after,
      few_saved after rounds,
    )

module _ (plan : Plan) (rounds : List Round) (client between client' : Client) (first mid after : Seen) (refused : Bool) (laws : StepLaws) where
  -- with a round that was made the rounds are one more
  record OneMore (told : RoundTold) : Type 0 where
    round : Round
    takes : TakesRounds plan 1 (rounds ++ round ∷ []) client client' first after (refused || told.refused)
    saved : saved_lists client.lists (rounds ++ round ∷ []) ≡ saved_lists client.lists rounds ++ (if told.installed then client'.lists ∷ [] else [])

  one_more : (told : RoundTold) → TakesRounds plan 1 rounds client between first mid refused → WritesAndTells plan (1 + length rounds) between client' mid after told → OneMore told
  one_more told so_far both =
      let between' = record mid { output = both.output } in
      let written = laws.writing plan 1 rounds client between both.between first mid both.output refused so_far both.writes in
      let takes = both.tells.takes in
      record {
        round = takes.made.round;
        takes = laws.taking plan 1 rounds client both.between client' first between' after refused told.refused written takes;
        saved =
            laws.saving plan 1 rounds client both.between client' first between' after refused told.refused written takes
            ∙ ap (λ (b : Bool). saved_lists client.lists rounds ++ (if b then client'.lists ∷ [] else [])) (sym both.tells.installed);
      }

  next_at : (published now later : Publications) (told : RoundTold) → PublishesRounds plan rounds client between published now first mid refused
      → WritesAndTells plan (1 + length rounds) between client' mid after told → later ≡ now ++ (if told.installed then client'.lists ∷ [] else [])
      → (all : List Round) × (length all ≡ 1 + length rounds) × PublishesRounds plan all client client' published later first after (refused || told.refused)
  next_at published now later told so_far step more =
      let one = one_more told so_far.takes step in
      let all = rounds ++ one.round ∷ [] in
      let new = if told.installed then client'.lists ∷ [] else [] in (
        all,
        omega (arith, one_longer rounds one.round),
        record {
          takes = one.takes;
          published_are =
              more
              ∙ ap (λ (ps : Publications). ps ++ new) so_far.published_are
              ∙ append_assoc published (saved_lists client.lists rounds) new
              ∙ ap (λ (ps : Publications). published ++ ps) (sym one.saved);
        },
      )

module _ (plan : Plan) (number : ℕ) (rounds : List Round) (client between client' : Client) (first mid after : Seen) (refused : Bool) (laws : StepLaws) (count : 1 + length rounds ≡ number) where
  numbered : (told : RoundTold) → WritesAndTells plan number between client' mid after told → WritesAndTells plan (1 + length rounds) between client' mid after told
  numbered told step = subst (λ (n : ℕ). WritesAndTells plan n between client' mid after told) (sym count) step

  -- a round that was made, and what it installed was published
  pub next_round : (published now later : Publications) (told : RoundTold) → PublishesRounds plan rounds client between published now first mid refused
      → WritesAndTells plan number between client' mid after told → later ≡ now ++ (if told.installed then client'.lists ∷ [] else [])
      → (all : List Round) × (length all ≡ number) × PublishesRounds plan all client client' published later first after (refused || told.refused)
  next_round published now later told so_far step more =
      let made = next_at plan rounds client between client' first mid after refused laws published now later told so_far (numbered told step) more in
      (made.0, made.1 ∙ count, made.2)

  -- a round that was made, and memory was refused for its publication
  pub stops_unpublished : (published now : Publications) (told : RoundTold) → number ≤ plan.rounds → PublishesRounds plan rounds client between published now first mid refused
      → WritesAndTells plan number between client' mid after told → StopsPublishing OutOfMemory plan client first after
  stops_unpublished published now told few so_far step =
      let one = one_more plan rounds client between client' first mid after refused laws told so_far.takes (numbered told step) in
      inr (
        refl,
        record {
          rounds = rounds ++ one.round ∷ [];
          few = omega (arith, count, few, one_longer rounds one.round);
          client' = client';
          refused = refused || told.refused;
          takes = one.takes;
        },
      )

-- a round that stopped
pub stops_in_round : (why : RunStop) (plan : Plan) (number : ℕ) (rounds : List Round) (client between : Client) (first mid after : Seen) (published now : Publications) (refused : Bool)
    → StepLaws → 1 + length rounds ≡ number → number ≤ plan.rounds → PublishesRounds plan rounds client between published now first mid refused → StopsOneRound why plan number between mid after
    → StopsPublishing why plan client first after
stops_in_round why plan number rounds client between first mid after published now refused laws count few so_far stops =
    inl (laws.stopping why plan rounds client between first mid after refused (omega (arith, count, few)) so_far.takes (subst (λ (n : ℕ). StopsOneRound why plan n between mid after) (sym count) stops))

-- nothing that was published is taken away
pub begins_published : (plan : Plan) (rounds : List Round) (client between : Client) (published now : Publications) (first mid : Seen) (refused : Bool)
    → PublishesRounds plan rounds client between published now first mid refused → IsPrefixOf published now
begins_published plan rounds client between published now first mid refused so_far = (saved_lists client.lists rounds, so_far.published_are)
