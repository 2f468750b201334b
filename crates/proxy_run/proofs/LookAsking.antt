-- A find that is begun or ended, or for which memory is refused.
use Rattle.std.proofs.Common.{◌≡◌, ◌≢◌, ◌≤◌, ℕ, Bool, true, List, [], ◌∷◌, ◌++◌, Option, Some, None, inl, refl, sym, ap, ◌∙◌, subst, take, length, arith}
use Rattle.std.specs.Prelude.{All, is_some}
use Rattle.std.proofs.lemmas.List.{append-nil, length-map}
use Rattle.std.proofs.lemmas.List.Elements.{All-cons, All-nil}
use Rattle.client_line.specs.Lines.{LineView}
use Rattle.find_desk.specs.Desk.{DeskSeen, DeskStart, EndsDeskFind, HasKeptDesk}
use Rattle.find_desk.specs.Events.{DeskEvent, Found, MadeFind}
use Rattle.find_desk.specs.Verdicts.{AskForFirstLooks, HasAskedFor}
use Rattle.find_desk.specs.declared.desk.EndedFind.{EndedFind}
use Rattle.find_desk.specs.declared.desk.OpenDeskFind.{OpenDeskFind}
use Rattle.proxy_looks.specs.Settled.{AreLooksOf}
use Rattle.proxy_looks.specs.Urls.{IsAskableUrl}
use Rattle.proxy_run.specs.LookAllowed.{HasNoLookLeft, IsFindDue, IsLinePart, LookAt, MayBeginAsking, look_at}
use Rattle.proxy_run.specs.LookEvents.{LinePart, after_look_event, begun_at, count_begun, counted_up, find_line, is_broken_by_output, line_of_find, part_written, stop_after_part}
use Rattle.proxy_run.specs.LookEvents.LookEvent.{FindBegan, FindEnded, FindGone}
use Rattle.proxy_run.specs.LookSoFar.{HoldLooksSo, IsAskingOf, LookOutside, LookOwn, LookStart, look_of, past_looks}
use Rattle.proxy_run.specs.LookState.{HeldLook, LookState, StartedAsking, open_of}
use Rattle.proxy_run.specs.LookState.GoesBy.{ByNothing}
use Rattle.proxy_run.specs.LookSteps.{HasEndedAsking, IsSettlingLook, LooksGoTo, PrintsPart}
use Rattle.proxy_run.specs.declared.plan.ProxyPlan.{ProxyPlan}
use Rattle.proxy_run.specs.declared.stop.ProxyStop.{ProxyStop}
use Rattle.proxy_run.proofs.LookFacts.{looks_stay_more, output_failed_more, printed_more}
use Rattle.proxy_run.proofs.LookReleasing.{none_asking, none_waits}
use Rattle.proxy_run.proofs.LookStepping.{nobody_past, past_by_find, past_stays}
use Rattle.sb_model.specs.declared.time.Moment.{Moment}
use Rattle.sb_outside.specs.Outside.{appended}
use Rattle.update_client.specs.Held.{Held, tokens_of}
use Rattle.url_checker.specs.Hits.{prefixes_hit}
use Rattle.url_checker.specs.Several.{AreTogether}
use Rattle.url_checker.specs.declared.looking.Looks.{Looks}
use Rattle.wait_rules.specs.Waits.{may_send_at}
use Rattle.wait_rules.specs.declared.waits.WaitState.{WaitState}

abbrev pub started_of : OpenDeskFind → ℕ → StartedAsking
started_of session count = record { states = session.states; asked = session.asked; count = count; at = session.find.opening.begun }

pub some_session : (opened : Option OpenDeskFind) → is_some opened ≡ true → (session : OpenDeskFind) × (opened ≡ Some session)
some_session (Some session) is = (session, refl)
some_session None is = cc

pub session_asks : (opened : Option OpenDeskFind) (asked : ℕ) (looks : List Looks) (find : Option StartedAsking) (session : OpenDeskFind) → IsAskingOf opened asked looks find → opened ≡ Some session
    → (find ≡ Some (started_of session asked)) × All (HasAskedFor session.asked) (take asked looks) × (asked ≤ length looks)
session_asks opened asked looks find session is same = subst (λ (o : Option OpenDeskFind). IsAskingOf o asked looks find) same is

module _ (plan : ProxyPlan) (start : LookStart) (state : LookState) (own : LookOwn) (seen : LookOutside) (so : HoldLooksSo plan start state own seen) where
  -- ---- whether one is due

  pub due_of : (lists : List Held) (now : Moment) (ending : Bool) → HasNoLookLeft state → own.connections.waiting ≢ [] → own.desk.opened ≡ None → may_send_at own.desk.waits now ≡ true
      → IsFindDue (look_at plan start.desk lists now ending) state
  due_of lists now ending left some closed may = record {
    left = left;
    none_open = none_asking own.desk.opened own.asked own.looks state.find_open so.are.find closed;
    some_wait = λ none. some (none_waits plan start state own seen so left.none_unsettled none);
    may = subst (λ (w : WaitState). may_send_at w now ≡ true) so.desk.waits_are may;
  }

  -- ---- one that is begun

  pub asking_goes : (session : OpenDeskFind) (count : ℕ) (desk : DeskSeen) (line : LineView) → HasNoLookLeft state → desk.opened ≡ Some session
      → HasKeptDesk plan.updates.target plan.updates.need_digest start.desk state.desk desk line → line.objects ≡ seen.finds.objects
      → AreTogether own.looks (record { count = count; asked = session.asked }) → AskForFirstLooks
      → HoldLooksSo plan start (after_look_event state (FindBegan (started_of session count))) (record own { desk = desk; asked = count }) (record seen { finds = line })
  asking_goes session count desk line left opened has same together asks = record {
    are = record {
      find = subst (λ (o : Option OpenDeskFind). IsAskingOf o count own.looks (Some (started_of session count))) (sym opened)
          (refl, asks own.looks (record { count = count; asked = session.asked }) together, together.within);
      waiting = so.are.waiting;
      left = so.are.left;
      hand = so.are.hand;
      looks = so.are.looks;
      askable = so.are.askable;
      past = nobody_past start.desk state.desk state.unsettled state.asked (past_looks (record own { desk = desk; asked = count })) state.by left.none_unsettled;
      waited = so.are.waited;
      finds = so.are.finds;
      stop = so.are.stop;
    };
    desk = has;
    connections = so.connections;
    printed = so.printed;
    faults = so.faults;
    same_finds = same ∙ so.same_finds;
  }

  pub asking_may : (at : LookAt) (states : List (List ℕ)) (session : OpenDeskFind) (count : ℕ) → at.desk ≡ start.desk → IsFindDue at state → states ≡ tokens_of at.lists → session.states ≡ states
      → AreTogether own.looks (record { count = count; asked = session.asked }) → MayBeginAsking at state (started_of session count)
  asking_may at states session count same due are carries together = record {
    due = due;
    states = carries ∙ are;
    looks = own.looks;
    of_waiting = subst (λ (d : DeskStart). AreLooksOf d state.desk (open_of state.waiting) own.looks) (sym same) so.are.looks;
    asks = together;
  }

  -- ---- memory was refused for one

  pub stopped_goes : (more : List DeskEvent) (desk : DeskSeen) (line : LineView) → desk.opened ≡ None
      → HasKeptDesk plan.updates.target plan.updates.need_digest start.desk (state.desk ++ more) desk line → line.objects ≡ seen.finds.objects
      → HoldLooksSo plan start (record state { desk = state.desk ++ more; find_open = None }) (record own { desk = desk }) (record seen { finds = line })
  stopped_goes more desk line closed has same = record {
    are = record {
      find = subst (λ (o : Option OpenDeskFind). IsAskingOf o own.asked own.looks None) (sym closed) refl;
      waiting = so.are.waiting;
      left = so.are.left;
      hand = so.are.hand;
      looks = looks_stay_more start.desk state.desk more (open_of state.waiting) own.looks so.are.looks;
      askable = so.are.askable;
      past = past_stays start.desk state.desk more state.unsettled state.asked (past_looks own) state.by so.are.past;
      waited = so.are.waited;
      finds = so.are.finds;
      stop = so.are.stop;
    };
    desk = has;
    connections = so.connections;
    printed = so.printed;
    faults = so.faults;
    same_finds = same ∙ so.same_finds;
  }

  -- ---- one that is over

  abbrev pub own_ended : DeskSeen → EndedFind → Option ProxyStop → LookOwn
  own_ended desk ended stop' = record own {
    desk = desk;
    looks = [];
    past = own.looks;
    place = 0;
    left = length own.connections.waiting;
    ended = Some ended;
    finds = counted_up own.finds;
    stop = stop';
  }

  line_is : (session : OpenDeskFind) (one : MadeFind) (ended : EndedFind) → own.desk.opened ≡ Some session → ended.at ≡ session.find.opening.begun → ended.prefixes ≡ length (prefixes_hit session.asked)
      → one.asked ≡ session.asked → ended.answer ≡ one.talk.answer
      → find_line (counted_up own.finds) ended.at ended.prefixes ended.answer ≡ line_of_find state one
  line_is session one ended opened at prefixes asks answered =
      let is = (session_asks own.desk.opened own.asked own.looks state.find_open session so.are.find opened).0 in
      ap (λ (n : ℕ). find_line (counted_up n) ended.at ended.prefixes ended.answer) so.are.finds
      ∙ ap (λ (m : Moment). find_line (counted_up state.finds) m ended.prefixes ended.answer) (at ∙ ap begun_at (sym is))
      ∙ ap (λ (n : ℕ). find_line (counted_up state.finds) (begun_at state.find_open) n ended.answer) (prefixes ∙ ap (λ hits. length (prefixes_hit hits)) (sym asks))
      ∙ ap (λ answer. find_line (counted_up state.finds) (begun_at state.find_open) (length (prefixes_hit one.asked)) answer) answered

  pub find_ended_goes : (at : LookAt) (session : OpenDeskFind) (ended : EndedFind) (desk : DeskSeen) (line : LineView) (part : LinePart) (stop' : Option ProxyStop) (output' : Option (List ℕ)) (count : ℕ)
      → at.plan ≡ plan → HasNoLookLeft state → own.desk.opened ≡ Some session → ended.at ≡ session.find.opening.begun → ended.prefixes ≡ length (prefixes_hit session.asked)
      → EndsDeskFind plan.updates.target plan.updates.need_digest start.desk state.desk desk line session ended → desk.opened ≡ None → line.objects ≡ seen.finds.objects
      → PrintsPart (find_line (counted_up own.finds) ended.at ended.prefixes ended.answer) part own.stop stop' seen.output output' seen.output_faults count
      → LooksGoTo at start state (HasEndedAsking (own_ended desk ended stop')) (own_ended desk ended stop') (record seen { finds = line; output = output'; output_faults = count })
  find_ended_goes at session ended desk line part stop' output' count planned left opened begun prefixes ends closed same prints =
      let asks = session_asks own.desk.opened own.asked own.looks state.find_open session so.are.find opened in
      let one = ends.one in
      let line_now = line_is session one ended opened begun prefixes ends.asks ends.answered in
      let waits = so.are.waiting ∙ ap (λ (all : List HeldLook). all ++ state.waiting) left.none_unsettled in
      let counted : count_begun state.find_open ≡ own.asked = ap count_begun asks.0 in
      record {
        events = FindEnded one part ∷ [];
        may = (
          record {
            left = left;
            find = started_of session own.asked;
            is = asks.0;
            states = ends.states_are;
            asked = ends.asks;
            told = subst (λ (l : List ℕ). IsLinePart l part) line_now prints.is;
          },
          tt,
        );
        kinds = All-cons IsSettlingLook (FindEnded one part) [] tt (All-nil IsSettlingLook);
        so = subst (λ (p : ProxyPlan). HoldLooksSo p start (after_look_event state (FindEnded one part)) (own_ended desk ended stop') (record seen { finds = line; output = output'; output_faults = count })) (sym planned) (record {
          are = record {
            find = subst (λ (o : Option OpenDeskFind). IsAskingOf o own.asked [] None) (sym closed) refl;
            waiting = waits ∙ sym (append-nil state.waiting);
            left = sym (length-map own.connections.waiting look_of) ∙ ap (λ (all : List HeldLook). length all) waits;
            hand = so.are.hand;
            looks = tt;
            askable = subst (λ (all : List HeldLook). All (λ (one : HeldLook). All IsAskableUrl one.urls) all) (sym (append-nil state.waiting))
                (subst (λ (all : List HeldLook). All (λ (one : HeldLook). All IsAskableUrl one.urls) (all ++ state.waiting)) left.none_unsettled so.are.askable);
            past = past_by_find start.desk (state.desk ++ Found one ∷ []) state.waiting (count_begun state.find_open) (past_looks (own_ended desk ended stop')) one (record {
              ended = ended;
              is = refl;
              ends = record { asked = ends.given_back; answered = ends.answered };
              before = state.desk;
              after = [];
              splits = refl;
              looks = so.are.looks;
              within = omega (arith);
              asked_for = subst (λ hits. All (HasAskedFor hits) (take own.asked own.looks)) (sym (ends.given_back ∙ ends.asks)) asks.1;
              few = asks.2;
              count = omega (arith, counted);
            });
            waited = so.are.waited;
            finds = ap counted_up so.are.finds;
            stop = prints.ends ∙ ap (λ (s : Option ProxyStop). stop_after_part s part) so.are.stop;
          };
          desk = ends.has;
          connections = so.connections;
          printed = printed_more start.outside.output seen.output output' state.printed (part_written (line_of_find state one) part) so.printed
              (prints.written ∙ ap (λ (l : List ℕ). appended seen.output (part_written l part)) line_now);
          faults = output_failed_more state.output_failed (is_broken_by_output part) start.outside.output_faults seen.output_faults count so.faults prints.failed;
          same_finds = same ∙ so.same_finds;
        });
        ends = inl (refl, record { none_in_hand = left.none_in_hand; one = one; by = refl });
      }

-- ---- all who wait are refused

gone_with : LookState → List DeskEvent → Option StartedAsking → LookState
gone_with state desk find = record state { desk = desk; find_open = find; unsettled = state.waiting; by = ByNothing; asked = 0; waiting = [] }

pub gone_is : (state : LookState) → state.find_open ≡ None → after_look_event state (FindGone ByNothing []) ≡ record state { unsettled = state.waiting; by = ByNothing; asked = 0; waiting = [] }
unfolding gone_with
gone_is state none = ap (λ (events : List DeskEvent). gone_with state events None) (append-nil state.desk) ∙ ap (gone_with state state.desk) (sym none)
