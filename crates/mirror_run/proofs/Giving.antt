-- A connection that was answered, given back and told.
use Rattle.std.proofs.Common.{◌≡◌, ◌≢◌, ◌+◌, ℕ, List, [], ◌∷◌, ◌++◌, Option, Some, None, refl, sym, ap, ◌∙◌, subst, inl, inr}
use Rattle.std.specs.Prelude.{IfSome, IsSome}
use Rattle.hash_messages.specs.Messages.{AskedHashes}
use Rattle.http_serving.specs.Printed.{connection_line}
use Rattle.http_serving.specs.declared.ends.ConnectionEnd.{ConnectionEnd}
use Rattle.http_serving.specs.declared.ends.ConnectionEnd.TheVariants as end
use Rattle.mirror_connections.specs.Answered.{AnswersOne, BeginsFirst, TakesFirstWaiting}
use Rattle.mirror_connections.specs.Open.{ConnectionsSeen, FindSeen, HasConnections}
use Rattle.mirror_connections.specs.Over.{DoorSeen, OverConnection}
use Rattle.mirror_run.specs.Events.{LineEnd, first_cause, told_number}
use Rattle.mirror_run.specs.Events.LineEnd.{Whole, Cut}
use Rattle.mirror_run.specs.SoFar.{MirrorOutside, MirrorOwn}
use Rattle.mirror_run.specs.Steps.{GivesBegun, GivesFirst, GivesOne, PrintsLine, given_so}
use Rattle.mirror_run.specs.declared.stop.MirrorStop.{MirrorStop}
use Rattle.mirror_run.specs.declared.stop.MirrorStop.TheVariants as cause
use Rattle.mirror_run.proofs.Facts.{appended_nothing}
use Rattle.mirror_serving.specs.Response.{MirrorServed}
use Rattle.sb_outside.specs.Outside.{Rose, appended}
use Rattle.sb_outside.specs.Writing.{HasFront}

abbrev pub Prints : OverConnection → (stop stop' : Option MirrorStop) → (output output' : Option (List ℕ)) → (faults faults' : ℕ) → Type 0
Prints one stop stop' output output' faults faults' = (told : LineEnd) × PrintsLine one told stop stop' output output' faults faults'

module _ (one : OverConnection) (line : List ℕ) (is : line ≡ connection_line (told_number one.number) one.how) (stop stop' : Option MirrorStop) (output output' : Option (List ℕ)) (faults faults' : ℕ) where
  pub prints_whole : output' ≡ appended output line → stop' ≡ stop → faults' ≡ faults → Prints one stop stop' output output' faults faults'
  prints_whole written same kept = (Whole, record { is_told = tt; written = written ∙ ap (λ (l : List ℕ). appended output l) is; ends = same; failed = kept })

  pub prints_front : HasFront output output' line → stop' ≡ first_cause stop cause.WriteFault → Rose faults faults' → Prints one stop stop' output output' faults faults'
  prints_front front ends rose = (
    Cut cause.WriteFault front.taken,
    record {
      is_told = inl (refl, (front.lost, front.rest ∙ is, front.missing));
      written = front.has;
      ends = ends;
      failed = rose;
    },
  )

  pub prints_nothing : output' ≡ output → one.how ≢ end.OutOfMemory → stop' ≡ first_cause stop cause.OutOfMemory → faults' ≡ faults → Prints one stop stop' output output' faults faults'
  prints_nothing same other ends kept = (
    Cut cause.OutOfMemory [],
    record {
      is_told = inr (refl, refl, other);
      written = same ∙ sym (appended_nothing output);
      ends = ends;
      failed = kept;
    },
  )

pub gives_one : (number : ℕ) (server : MirrorServed) (how : ConnectionEnd) (Ends : ConnectionEnd → Type 0) (left : ConnectionsSeen) (start : DoorSeen)
    (taken : List (List (List ℕ))) (over : List OverConnection) (own own' : MirrorOwn) (seen seen' : MirrorOutside)
    → Ends how → AnswersOne number server how start taken over left seen'.door
    → ((one : OverConnection) → one.number ≡ number → one.how ≡ how → Prints one own.stop own'.stop seen.output seen'.output seen.faults.output seen'.faults.output)
    → own' ≡ record own { connections = left; stop = own'.stop }
    → seen' ≡ record seen { output = seen'.output; door = seen'.door; faults = record seen.faults { output = seen'.faults.output } }
    → seen'.door.coming ≡ seen.door.coming
    → GivesOne number server Ends left (given_so start taken over) own own' seen seen'
gives_one number server how Ends left start taken over own own' seen seen' ends answers prints own_is seen_is coming =
    let told = prints answers.one answers.number_is answers.how_is in
    record {
      one = answers.one;
      told = told.0;
      number_is = answers.number_is;
      server_is = answers.server_is;
      ends = subst Ends (sym answers.how_is) ends;
      has = answers.has;
      prints = told.1;
      own_is = own_is;
      seen_is = seen_is;
      coming = coming;
    }

-- ---- whose connection it was

begun_by : (begun : Option FindSeen) (number : ℕ) → IsSome begun → IfSome begun (λ find. find.number ≡ number) → (find : FindSeen) × (begun ≡ Some find) × (find.number ≡ number)
begun_by None number some is = cc
begun_by (Some find) number some is = (find, refl, is)

pub gives_begun : (number : ℕ) (server : MirrorServed) (how : ConnectionEnd) (Ends : ConnectionEnd → Type 0) (left : ConnectionsSeen) (start : DoorSeen)
    (taken : List (List (List ℕ))) (over : List OverConnection) (own own' : MirrorOwn) (seen seen' : MirrorOutside)
    → IsSome own.connections.begun → IfSome own.connections.begun (λ find. find.number ≡ number) → left ≡ record own.connections { begun = None }
    → Ends how → AnswersOne number server how start taken over left seen'.door
    → ((one : OverConnection) → one.number ≡ number → one.how ≡ how → Prints one own.stop own'.stop seen.output seen'.output seen.faults.output seen'.faults.output)
    → own' ≡ record own { connections = left; stop = own'.stop }
    → seen' ≡ record seen { output = seen'.output; door = seen'.door; faults = record seen.faults { output = seen'.faults.output } }
    → seen'.door.coming ≡ seen.door.coming
    → GivesBegun server Ends start taken over own own' seen seen'
gives_begun number server how Ends left start taken over own own' seen seen' some which left_is ends answers prints own_is seen_is coming =
    let find = begun_by own.connections.begun number some which in
    let gives : GivesOne number server Ends left (given_so start taken over) own own' seen seen' = gives_one number server how Ends left start taken over own own' seen seen' ends answers prints own_is seen_is coming in (
      find.0,
      find.1,
      subst (λ (l : ConnectionsSeen). GivesOne find.0.number server Ends l (given_so start taken over) own own' seen seen') left_is
          (subst (λ (n : ℕ). GivesOne n server Ends left (given_so start taken over) own own' seen seen') (sym find.2) gives),
    )

pub gives_first : (number : ℕ) (server : MirrorServed) (how : ConnectionEnd) (Ends : ConnectionEnd → Type 0) (left : ConnectionsSeen) (start : DoorSeen)
    (taken : List (List (List ℕ))) (over : List OverConnection) (own own' : MirrorOwn) (seen seen' : MirrorOutside)
    → TakesFirstWaiting number own.connections left
    → Ends how → AnswersOne number server how start taken over left seen'.door
    → ((one : OverConnection) → one.number ≡ number → one.how ≡ how → Prints one own.stop own'.stop seen.output seen'.output seen.faults.output seen'.faults.output)
    → own' ≡ record own { connections = left; stop = own'.stop }
    → seen' ≡ record seen { output = seen'.output; door = seen'.door; faults = record seen.faults { output = seen'.faults.output } }
    → seen'.door.coming ≡ seen.door.coming
    → GivesFirst server Ends start taken over own own' seen seen'
gives_first number server how Ends left start taken over own own' seen seen' takes ends answers prints own_is seen_is coming =
    let gives : GivesOne number server Ends left (given_so start taken over) own own' seen seen' = gives_one number server how Ends left start taken over own own' seen seen' ends answers prints own_is seen_is coming in (
      takes.first,
      takes.rest,
      takes.waited,
      subst (λ (l : ConnectionsSeen). GivesOne takes.first.find.number server Ends l (given_so start taken over) own own' seen seen') takes.left
          (subst (λ (n : ℕ). GivesOne n server Ends left (given_so start taken over) own own' seen seen') takes.numbered gives),
    )

-- One that waited longest and was begun at once is the first of those that waited.
pub begun_gives_first : (server : MirrorServed) (Ends : ConnectionEnd → Type 0) (start : DoorSeen) (taken : List (List (List ℕ))) (over : List OverConnection)
    (own between own' : MirrorOwn) (seen seen' : MirrorOutside) (asked : AskedHashes) → own.connections.begun ≡ None → BeginsFirst asked own.connections between.connections
    → between ≡ record own { connections = between.connections }
    → GivesBegun server Ends start taken over between own' seen seen' → GivesFirst server Ends start taken over own own' seen seen'
begun_gives_first server Ends start taken over own between own' seen seen' asked none begins same (find, is, gives) =
    let find_is : find ≡ begins.first.find = some_same (sym is ∙ ap (λ (c : ConnectionsSeen). c.begun) begins.left) in
    let left_is : record between.connections { begun = None } ≡ record own.connections { waiting = begins.rest } =
    ap (λ (c : ConnectionsSeen). record c { begun = None }) begins.left ∙ ap (λ (b : Option FindSeen). record { taken = own.connections.taken; begun = b; waiting = begins.rest }) (sym none) in (
      begins.first,
      begins.rest,
      begins.waited,
      record {
        one = gives.one;
        told = gives.told;
        number_is = gives.number_is ∙ ap (λ (f : FindSeen). f.number) find_is;
        server_is = gives.server_is;
        ends = gives.ends;
        has = subst (λ (l : ConnectionsSeen). HasConnections start taken (over ++ gives.one ∷ []) l seen'.door) left_is gives.has;
        prints = subst (λ (o : MirrorOwn). PrintsLine gives.one gives.told o.stop own'.stop seen.output seen'.output seen.faults.output seen'.faults.output) same gives.prints;
        own_is = gives.own_is ∙ ap (λ (o : MirrorOwn). record o { connections = record between.connections { begun = None }; stop = own'.stop }) same
            ∙ ap (λ (l : ConnectionsSeen). record own { connections = l; stop = own'.stop }) left_is;
        seen_is = gives.seen_is;
        coming = gives.coming;
      },
    )
  where
    some_same : {A : Type 0} {a b : A} → Some a ≡ Some b → a ≡ b
    some_same e = cc

-- the line of a connection, by the number that is printed
pub line_is : (one : OverConnection) (number printed : ℕ) (how : ConnectionEnd) → one.number ≡ number → one.how ≡ how → printed ≡ told_number number
    → connection_line printed how ≡ connection_line (told_number one.number) one.how
line_is one number printed how same ends is =
    ap (λ (n : ℕ). connection_line n how) (is ∙ ap told_number (sym same)) ∙ ap (λ (h : ConnectionEnd). connection_line (told_number one.number) h) (sym ends)
