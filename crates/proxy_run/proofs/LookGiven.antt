-- A look-up that was answered, given back and told.
use Rattle.std.proofs.Common.{◌≡◌, ℕ, List, [], ◌∷◌, ◌++◌, Option, None, sym, ap, ◌∙◌, subst}
use Rattle.held_connections.specs.Held.{HoldsConnections}
use Rattle.held_connections.specs.Over.{DoorView, ServedConnection}
use Rattle.held_connections.specs.Steps.{AnswersHand}
use Rattle.http_serving.specs.declared.ends.ConnectionEnd.{ConnectionEnd}
use Rattle.proxy_run.specs.LookEvents.{LinePart, after_look_event, is_broken_by_output, line_of_served, part_written, stop_after_part}
use Rattle.proxy_run.specs.LookEvents.LookEvent.{Answered}
use Rattle.proxy_run.specs.LookSoFar.{HoldLooksSo, LookOutside, LookOwn, LookStart, ProxyRight}
use Rattle.proxy_run.specs.LookState.{HandLook, LookState}
use Rattle.proxy_run.specs.LookSteps.{GivesLook, PrintsPart}
use Rattle.proxy_run.specs.declared.plan.ProxyPlan.{ProxyPlan}
use Rattle.proxy_run.specs.declared.stop.ProxyStop.{ProxyStop}
use Rattle.proxy_run.proofs.LookFacts.{output_failed_more, printed_more}
use Rattle.proxy_run.proofs.Lines.{PrintsServed}
use Rattle.proxy_serving.specs.Response.{ProxyServed}

module _ (plan : ProxyPlan) (start : LookStart) (state : LookState) (own : LookOwn) (seen : LookOutside) (so : HoldLooksSo plan start state own seen) where
  pub look_over : (one : ServedConnection ProxyServed) (part : LinePart) (stop' : Option ProxyStop) (output' : Option (List ℕ)) (door' : DoorView) (count : ℕ)
      → PrintsPart (line_of_served one) part own.stop stop' seen.output output' seen.output_faults count
      → HoldsConnections ProxyRight start.outside.door state.taken (state.over ++ one ∷ []) (record own.connections { hand = None }) door'
      → HoldLooksSo plan start (after_look_event state (Answered one part)) (record own { connections = record own.connections { hand = None }; stop = stop' })
      (record seen { output = output'; door = door'; output_faults = count })
  look_over one part stop' output' door' count prints connections = record {
    are = record {
      find = so.are.find;
      waiting = so.are.waiting;
      left = so.are.left;
      hand = tt;
      looks = so.are.looks;
      askable = so.are.askable;
      past = so.are.past;
      waited = so.are.waited;
      finds = so.are.finds;
      stop = prints.ends ∙ ap (λ (s : Option ProxyStop). stop_after_part s part) so.are.stop;
    };
    desk = so.desk;
    connections = connections;
    printed = printed_more start.outside.output seen.output output' state.printed (part_written (line_of_served one) part) so.printed prints.written;
    faults = output_failed_more state.output_failed (is_broken_by_output part) start.outside.output_faults seen.output_faults count so.faults prints.failed;
    same_finds = so.same_finds;
  }

  pub gives_look : (hand : HandLook) (number : ℕ) (server server' : ProxyServed) (how : ConnectionEnd) (Says : ServedConnection ProxyServed → Type 0) (stop' : Option ProxyStop) (output' : Option (List ℕ)) (door' : DoorView)
      (count : ℕ) (own' : LookOwn) (seen' : LookOutside) → number ≡ hand.number
      → AnswersHand ProxyRight number server server' how start.outside.door state.taken state.over (record own.connections { hand = None }) door'
      → ((one : ServedConnection ProxyServed) → one.number ≡ number → one.how ≡ how → PrintsServed one own.stop stop' seen.output output' seen.output_faults count)
      → ((one : ServedConnection ProxyServed) → one.server ≡ server → one.how ≡ how → Says one)
      → own' ≡ record own { connections = record own.connections { hand = None }; stop = stop' }
      → seen' ≡ record seen { output = output'; door = door'; output_faults = count }
      → GivesLook plan start state hand Says own' seen'
  gives_look hand number server server' how Says stop' output' door' count own' seen' number_is answers prints says own_is seen_is =
      let told = prints answers.one answers.number_is answers.how_is in
      let so' = look_over answers.one told.0 stop' output' door' count told.2 answers.has in
      record {
        one = answers.one;
        part = told.0;
        number = answers.number_is ∙ number_is;
        says = says answers.one answers.server_is answers.how_is;
        told = told.1;
        so = subst (λ (s : LookOutside). HoldLooksSo plan start (after_look_event state (Answered answers.one told.0)) own' s) (sym seen_is)
            (subst (λ (o : LookOwn). HoldLooksSo plan start (after_look_event state (Answered answers.one told.0)) o (record seen { output = output'; door = door'; output_faults = count })) (sym own_is) so');
      }
