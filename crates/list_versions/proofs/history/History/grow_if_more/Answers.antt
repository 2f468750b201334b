use Rattle.std.proofs.Common.{◌≡◌, ◌<◌, ◌∙◌, ◌++◌, length, List, ℕ, Bool, [], false, refl, ap, arith, Err, Ok, subst, Option}
use Rattle.std.proofs.lemmas.Result.{IfErr-weaker, on_ok_weaker}
use Rattle.sb_outside.specs.Reading.{ReadsToEnd, GrowsBy}
use Rattle.list_versions.specs.declared.fault.JournalFault.{JournalFault}
use Rattle.list_versions.specs.Journal.{Kept, read_on, after_bytes, at_record}
use Rattle.list_versions.specs.Draft.{kept_of_draft}
use Rattle.list_versions.specs.Loaded.{Gives, FurtherFault, IsLoadedDraft}
use Rattle.list_versions.specs.declared.history.History.TheInside.{Inside}
use Rattle.list_versions.specs.Pieces.{Further, ReadsAll, StopsAt}
use Rattle.list_versions.proofs.Fronts.{gives_nothing, gives_unmoved, ends_after}
use Rattle.list_versions.proofs.Further.{Leads, read_nothing, leads_piece, all_after, stops_after, further_fault}
use Rattle.list_versions.proofs.history.History.grow_if_more.Goals as goal

still : (inside : Inside) (kept : Kept) → kept_of_draft inside.draft inside.rest ≡ kept → IsLoadedDraft inside.draft inside.newest.items inside.rest inside.stale → read_on kept [] ≡ Ok kept
still inside kept view h = subst (λ k. read_on k [] ≡ Ok k) view (read_nothing inside.draft inside.rest h.waits)

all_in : (f g : Further) (kept : Kept) (a b c : Option (List (List ℕ))) → Leads f g a b → ReadsAll g kept b c
    → (bytes : List ℕ) × ReadsToEnd bytes a c × (f bytes ≡ Ok kept)
all_in f g kept a b c leads h = let all = all_after f g kept a b c leads h in (all.given, all.gives, all.all)

stop_in : (kept : Kept) (g : Further) (fault : JournalFault) (a b c : Option (List (List ℕ))) → Leads (read_on kept) g a b → StopsAt g fault b c
    → (bytes : List ℕ) × (ended : Bool) × Gives bytes ended a c × FurtherFault kept bytes fault
stop_in kept g fault a b c leads h = let stops = stops_after (read_on kept) g fault a b c leads h in (stops.given, stops.ended, stops.gives, further_fault kept stops.given fault stops.why)

pub returns-in-Ok-eq0-clause-ok : goal.returns-in-Ok-eq0-clause-ok
returns-in-Ok-eq0-clause-ok g c =
    let some : 0 < length c.read_piece.new.buffer = omega (arith, c.read_piece.auto.buffer, c.as_mut_slice.ensures.len, c.in-Ok.ensures) in
    ([], ends_after [] _ _ _ (gives_nothing (g.S.Source.left c.args.source.now)) (c.in-Ok-eq0.ensures.end c.in-Ok-eq0.field-0-test some), still c.self.inside c.args.self.now c.self.view_is c.self.invariant)

pub returns-in-Err-Failed-clause-fault : goal.returns-in-Err-Failed-clause-fault
returns-in-Err-Failed-clause-fault g c =
    ([], false, gives_unmoved _ _ (c.in-Err-Failed.ensures.failed_left (ap (λ e. Err e) c.in-Err-Failed.field-0-is)), (c.args.self.now, still c.self.inside c.args.self.now c.self.view_is c.self.invariant))

pub returns-in-Ok-eq0-clause-versions : goal.returns-in-Ok-eq0-clause-versions
returns-in-Ok-eq0-clause-versions g c = (λ none. refl, λ same. refl)

pub returns-clause-ok : goal.returns-clause-ok
returns-clause-ok g c =
    let some : 0 < c.in-Ok-read_piece.field-0 = omega (arith, c.in-Ok-read_piece.field-0-test) in
    let grows = subst (λ bs. GrowsBy c.in-Ok-read_piece.field-0 bs c.read_piece.new.text (g.S.Source.left c.args.source.now) (g.S.Source.left c.read_piece.new.source)) c.new-piece.ensures (c.in-Ok-read_piece.ensures.bytes some) in
    let text = c.in-Ok-joined.ensures ∙ ap (λ (k : Kept). k.rest ++ c.read_piece.new.text) c.self.view_is in
    on_ok_weaker c.take_in.result (all_in (read_on c.args.self.now) (λ bytes. after_bytes (at_record c.args.self.now) (c.in-Ok-joined.text ++ bytes)) c.take_in.new.self _ _ _
    (leads_piece c.args.self.now c.read_piece.new.text c.in-Ok-joined.text c.in-Ok-read_piece.field-0 _ _ grows text)) c.take_in.ensures.ok

pub returns-clause-fault : goal.returns-clause-fault
returns-clause-fault g c =
    let some : 0 < c.in-Ok-read_piece.field-0 = omega (arith, c.in-Ok-read_piece.field-0-test) in
    let grows = subst (λ bs. GrowsBy c.in-Ok-read_piece.field-0 bs c.read_piece.new.text (g.S.Source.left c.args.source.now) (g.S.Source.left c.read_piece.new.source)) c.new-piece.ensures (c.in-Ok-read_piece.ensures.bytes some) in
    let text = c.in-Ok-joined.ensures ∙ ap (λ (k : Kept). k.rest ++ c.read_piece.new.text) c.self.view_is in
    IfErr-weaker c.take_in.result _ _ (λ fault. stop_in c.args.self.now (λ bytes. after_bytes (at_record c.args.self.now) (c.in-Ok-joined.text ++ bytes)) fault _ _ _
    (leads_piece c.args.self.now c.read_piece.new.text c.in-Ok-joined.text c.in-Ok-read_piece.field-0 _ _ grows text)) c.take_in.ensures.fault
