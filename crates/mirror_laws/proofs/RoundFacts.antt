-- What stays through rounds holds of the lists that they save.
use Rattle.std.proofs.Common.{◌≡◌, ℕ, suc, ◌<◌, ◌^◌, List, [], ◌∷◌, Bool, true, false, length, take, map, sym, ap, subst, arith}
use Rattle.std.specs.Prelude.{All, if◌then◌else◌}
use Rattle.std.specs.List.Sorted.{IsStrictlySortedBy}
use Rattle.std.proofs.lemmas.List.{length-map}
use Rattle.std.proofs.lemmas.List.Elements.{All-append, All-cons, All-nil}
use Rattle.sb_model.specs.declared.names.ListName.{ListName}
use Rattle.sb_model.specs.Names.{name_cmp}
use Rattle.update_messages.specs.Messages.{UpdatedList}
use Rattle.update_client.specs.Held.{AreHeldLists, Held}
use Rattle.update_client.specs.Replica.{AreReplicas}
use Rattle.update_client.specs.Step.{after_updates}
use Rattle.sb_round.specs.Law.{KeepsReplicas}
use Rattle.sb_round.specs.Round.{Round, lists_after_round, taken_from}
use Rattle.sb_round.specs.Rounds.{round_updates}
use Rattle.sb_round.specs.Run.{lists_after}
use Rattle.update_run.specs.Saved.{has_installed, saved_in, saved_lists}
use Rattle.mirror_places.specs.Places.{names_of_lists}
use Rattle.mirror_places.specs.Replica.{AreMirrorItems, FollowsMirrors, IsMirrorReplica}
use Rattle.mirror_laws.specs.Mirrors.{AreMirrorRounds, AreOfMirror, HoldsOfMirror, IsMirrorHistory, MirrorHistory, PlacesAreReplicas, RoundsFollowMirrors}

-- ---- what is saved

module _ (P : List Held → Type 0) where
  saved_here : (lists : List Held) (installed : Bool) → P lists → All P (if installed then lists ∷ [] else [])
  saved_here lists true is = All-cons P lists [] is (All-nil P)
  saved_here lists false is = All-nil P

  -- what a round saves, and those after it
  pub saved_more : (lists : List Held) (round : Round) (rounds : List Round) → P (lists_after_round lists round)
      → All P (saved_lists (lists_after_round lists round) rounds) → All P (saved_lists lists (round ∷ rounds))
  saved_more lists round rounds is more =
      All-append P (saved_in lists round) (saved_lists (lists_after_round lists round) rounds)
      (saved_here (lists_after_round lists round) (has_installed (taken_from lists round.answer)) is) more

  pub all_saved : (lists : List Held) (rounds : List Round) → ((count : ℕ) → P (lists_after lists (take count (map round_updates rounds)))) → All P (saved_lists lists rounds)
  all_saved lists [] stay = All-nil P
  all_saved lists (round ∷ rounds) stay =
      saved_more lists round rounds (stay 1) (all_saved (lists_after_round lists round) rounds (λ count. stay (suc count)))

-- ---- below a mirror

-- what is taken changes no names
abbrev pub KeepNames : Type 0
KeepNames = (lists : List Held) (updates : List UpdatedList) → names_of_lists (after_updates lists updates) ≡ names_of_lists lists

held_after : KeepNames → (lists : List Held) (updates : List UpdatedList) → AreHeldLists lists → AreHeldLists (after_updates lists updates)
held_after names lists updates held =
    let name_of : Held → ListName = λ (one : Held). one.name in
    let same : length (names_of_lists (after_updates lists updates)) ≡ length (names_of_lists lists) = ap (λ (ns : List ListName). length ns) (names lists updates) in
    record {
      few = omega (arith, same, length-map lists name_of, length-map (after_updates lists updates) name_of, held.few);
      rising = subst (IsStrictlySortedBy name_cmp) (sym (names lists updates)) held.rising;
    }

module _ (follow : FollowsMirrors) (names : KeepNames) (mirror : MirrorHistory) (is : IsMirrorHistory mirror) where
  one_round : (lists : List Held) (updates : List UpdatedList) → AreHeldLists lists → AreOfMirror mirror lists → AreMirrorItems mirror.epoch mirror.places lists updates
      → AreOfMirror mirror (after_updates lists updates)
  one_round lists updates held =
      subst (λ epoch. All (IsMirrorReplica epoch mirror.places) lists → AreMirrorItems epoch mirror.places lists updates
      → All (IsMirrorReplica epoch mirror.places) (after_updates lists updates)) is.own
      (follow is.kept lists updates (subst (λ epoch. epoch < 2 ^ 64) (sym is.own) is.fits) held mirror.places is.stands is.bytes)

  follow_rounds : (lists : List Held) (rounds : List Round) → AreHeldLists lists → AreOfMirror mirror lists → AreMirrorRounds mirror lists rounds → HoldsOfMirror mirror lists rounds
  follow_rounds lists [] held all items = record { after = all; saved = All-nil (AreOfMirror mirror) }
  follow_rounds lists (round ∷ rounds) held all items =
      let here : AreOfMirror mirror (lists_after_round lists round) = one_round lists (round_updates round) held all items.0 in
      let more : HoldsOfMirror mirror (lists_after_round lists round) rounds =
      follow_rounds (lists_after_round lists round) rounds (held_after names lists (round_updates round) held) here items.1 in
      record { after = more.after; saved = saved_more (AreOfMirror mirror) lists round rounds here more.saved }

pub rounds_follow : FollowsMirrors → KeepNames → RoundsFollowMirrors
rounds_follow follow names mirror lists rounds is held all items = follow_rounds follow names mirror is lists rounds held all items

-- ---- below a list server

pub places_stay : ((lists : List Held) (bodies : List (List UpdatedList)) → KeepsReplicas lists bodies) → PlacesAreReplicas
places_stay stays history token_at lists [] formed replicas honest = All-cons (AreReplicas history token_at) lists [] replicas (All-nil (AreReplicas history token_at))
places_stay stays history token_at lists (round ∷ rounds) formed replicas (naming, honest, apart) =
    let all = round ∷ rounds in
    All-cons (AreReplicas history token_at) lists (saved_lists lists all) replicas
    (all_saved (AreReplicas history token_at) lists all (stays lists (map round_updates all) history token_at formed naming replicas honest apart))
