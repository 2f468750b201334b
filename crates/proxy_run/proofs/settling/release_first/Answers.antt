use Rattle.std.proofs.Common.{◌≡◌, ◌≤◌, ◌+◌, ◌-◌, sym, ap, ◌∙◌, subst}
use Rattle.std.specs.Prelude.{drop, length, take}
use Rattle.proxy_looks.specs.Settled.{AreLooksOf}
use Rattle.proxy_looks.specs.Urls.{open_hits}
use Rattle.proxy_run.specs.LookEvents.{after_look_event}
use Rattle.proxy_run.specs.LookEvents.LookEvent.{ReleasedFirst}
use Rattle.proxy_run.specs.LookSoFar.{HoldLooksSo, LookOwn}
use Rattle.proxy_run.proofs.LookReleasing.{kept_looks, kept_within, released_first_goes, released_goes, released_hand}
use Rattle.proxy_run.proofs.LookSettling.{hand_free, has_first}
use Rattle.proxy_run.proofs.settling.release_first.Goals as goal

pub fate_by_kept-fate-requires : goal.fate_by_kept-fate-requires
fate_by_kept-fate-requires g c =
    let d = c.requires.held in
    let own = c.args.held.now in
    let f = has_first d.2.unsettled own.left d.3.are.left c.requires.some in
    let urls = c.take_next_in_hand-urls.result in
    record {
      within = subst (λ (o : LookOwn). o.place + length (open_hits urls) ≤ length o.past) (sym c.take_next_in_hand-urls.ensures.others)
          (kept_within d.0 d.1 d.2 own c.args.world.now d.3 f.0 f.1 f.2 c.take_next_in_hand-urls.new.held.connections urls c.take_next_in_hand-urls.ensures.takes d.4.by);
    }

pub returns-clause-goes : goal.returns-clause-goes
returns-clause-goes g c plan start state lists now ending so releasing =
    let own = c.args.held.now in
    let seen = c.args.world.now in
    let f = has_first state.unsettled own.left so.are.left c.requires.some in
    let urls = c.take_next_in_hand-urls.result in
    let conns = c.take_next_in_hand-urls.new.held.connections in
    let takes = c.take_next_in_hand-urls.ensures.takes in
    let moved = c.take_next_in_hand-urls.ensures.others in
    let held = c.take_next_in_hand-urls.ensures.has start.outside.door seen.door state.taken state.over so.connections in
    let now_is : c.fate_by_kept-fate.new.held ≡ record own { connections = conns; left = own.left - 1; place = own.place + length (open_hits urls) } =
    c.fate_by_kept-fate.ensures.others ∙ ap (λ (o : LookOwn). record o { place = o.place + length (open_hits urls) }) moved in
    let one = subst (λ (o : LookOwn). HoldLooksSo plan start (after_look_event state ReleasedFirst) o seen) (sym now_is)
    (released_goes plan start state own seen so f.0 f.1 f.2 conns urls takes releasing.by held) in
    let looks = subst (λ (o : LookOwn). AreLooksOf start.desk state.desk (open_hits urls) (take (length (open_hits urls)) (drop o.place o.past))) (sym moved)
    (kept_looks plan start state own seen so f.0 f.1 f.2 conns urls takes releasing.by) in
    released_first_goes plan start state own seen so f.0 f.1 f.2 conns urls takes lists now ending c.fate_by_kept-fate.result c.answer_or_refuse.new.held c.answer_or_refuse.new.world releasing.none_in_hand releasing.by
    (c.fate_by_kept-fate.ensures.fate start.desk state.desk looks)
    (c.answer_or_refuse.ensures.gives plan start (after_look_event state ReleasedFirst) (hand_free plan start state own seen so f.0 f.1 f.2 conns urls takes) one
    (released_hand plan start state own seen so f.0 f.1 f.2 conns urls takes))
