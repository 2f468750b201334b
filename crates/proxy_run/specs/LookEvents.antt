-- What happens to the look-ups that a proxy holds, step by step, and what it leaves.
use Rattle.std.specs.Prelude.{◌+◌, ◌-◌, ◌^◌, ◌||◌, ℕ, min, Bool, true, false, if◌then◌else◌, List, [], ◌∷◌, ◌++◌, length, Option, Some, None, option_map, Result, Ok, Err, codes, decimal}
use Rattle.find_desk.specs.Events.{DeskEvent, Found, MadeFind}
use Rattle.hash_messages.specs.declared.response.FindResponse.{FindResponse}
use Rattle.held_connections.specs.Over.{ServedConnection}
use Rattle.http_edge.specs.Printed.{exchange_cause_text}
use Rattle.http_edge.specs.declared.faults.RequestFault.{RequestFault}
use Rattle.http_edge.specs.declared.messages.HttpRequest.{HttpRequest}
use Rattle.http_serving.specs.Printed.{connection_line}
use Rattle.proxy_looks.specs.Urls.{open_hits}
use Rattle.proxy_looks.specs.declared.urls.LookUrl.{LookUrl}
use Rattle.proxy_run.specs.LookState.{GoesBy, HandLook, HeldLook, LookState, StartedAsking}
use Rattle.proxy_run.specs.LookState.GoesBy.{ByFind}
use Rattle.proxy_run.specs.declared.stop.ProxyStop.{ProxyStop}
use Rattle.proxy_run.specs.declared.stop.ProxyStop.TheVariants as stop
use Rattle.proxy_serving.specs.Response.{ProxyServed}
use Rattle.sb_json.specs.Printed.{message_cause_text}
use Rattle.sb_model.specs.declared.time.Moment.{Moment}
use Rattle.url_checker.specs.Hits.{prefixes_hit}
use Rattle.verdict_report.specs.declared.verdicts.Cause.{Cause}
use Rattle.verdict_report.specs.declared.verdicts.Cause.TheVariants as cause

-- What became of a line: it was written, or this front of it alone, for this cause.
pub data LinePart : Type 0 where
  Written : LinePart
  Broken : ProxyStop → List ℕ → LinePart

pub data LookEvent : Type 0 where
  -- a connection was taken that had these pieces to give, and this was heard of it
  Taken : List (List ℕ) → Result HttpRequest RequestFault → LookEvent
  -- the URLs of the connection in hand were looked up, and are these; or memory was refused for that. The desk has these events more
  LookedUp : Option (List LookUrl) → List DeskEvent → LookEvent
  -- a find was begun; memory was refused for one, or none is to be had, so that all who wait are to be settled by this; or a find was ended
  -- and told, by which all who wait are to be settled
  FindBegan : StartedAsking → LookEvent
  FindGone : GoesBy → List DeskEvent → LookEvent
  FindEnded : MadeFind → LinePart → LookEvent
  -- the first that is to be settled is in hand: its URLs were settled by the find, or memory was refused for that; or it is answered by what
  -- is known
  SettledFirst : Option (List LookUrl) → List DeskEvent → LookEvent
  ReleasedFirst : LookEvent
  -- the connection in hand was put off; or it was answered, given back and told
  PutOff : LookEvent
  Answered : ServedConnection ProxyServed → LinePart → LookEvent
  -- the counts were told
  CountsTold : LinePart → LookEvent

-- ---- lines

-- the greatest of 32 bits stays
abbrev pub counted_up : ℕ → ℕ
counted_up number = min (number + 1) (2 ^ 32 - 1)

-- what came of a find for so many prefixes
abbrev pub find_end_text : ℕ → Result FindResponse Cause → List ℕ
find_end_text prefixes (Ok message) = codes "ok " ++ decimal prefixes
find_end_text prefixes (Err (cause.NotBefore moment)) = codes "not-before " ++ decimal moment.0
find_end_text prefixes (Err (cause.Exchange fault)) = codes "failed " ++ exchange_cause_text fault
find_end_text prefixes (Err (cause.Message fault)) = codes "unreadable " ++ message_cause_text fault

-- the line of a find: its number, counted from 1, when its session began, and what came of it
abbrev pub find_line : ℕ → Moment → ℕ → Result FindResponse Cause → List ℕ
find_line number at prefixes answer =
    codes "find " ++ decimal number ++ codes " at " ++ decimal at.0 ++ codes " " ++ find_end_text prefixes answer ++ codes "\n"

-- the last line: how many connections were served, how many of them waited, and how many finds were ended
abbrev pub counts_line : ℕ → ℕ → ℕ → List ℕ
counts_line served waited finds = codes "served " ++ decimal served ++ codes ", waited " ++ decimal waited ++ codes ", finds " ++ decimal finds ++ codes "\n"

-- the line of a connection that is over
abbrev pub line_of_served : ServedConnection ProxyServed → List ℕ
line_of_served one = connection_line (counted_up one.number) one.how

-- what was written of a line, and what that ends
abbrev pub part_written : List ℕ → LinePart → List ℕ
part_written line Written = line
part_written line (Broken why front) = front

-- the first cause stays
abbrev pub first_stop : Option ProxyStop → ProxyStop → Option ProxyStop
first_stop (Some why) later = Some why
first_stop None later = Some later

abbrev pub stop_after_part : Option ProxyStop → LinePart → Option ProxyStop
stop_after_part before Written = before
stop_after_part before (Broken why front) = first_stop before why

-- whether the output failed
abbrev pub is_output_fault : ProxyStop → Bool
is_output_fault stop.WriteFault = true
is_output_fault other = false

abbrev pub is_broken_by_output : LinePart → Bool
is_broken_by_output Written = false
is_broken_by_output (Broken why front) = is_output_fault why

-- ---- what a step leaves

abbrev pub begun_at : Option StartedAsking → Moment
begun_at None = record { 0 = 0 }
begun_at (Some find) = find.at

abbrev pub count_begun : Option StartedAsking → ℕ
count_begun None = 0
count_begun (Some find) = find.count

-- the line of a find that is over
abbrev pub line_of_find : LookState → MadeFind → List ℕ
line_of_find state one = find_line (counted_up state.finds) (begun_at state.find_open) (length (prefixes_hit one.asked)) one.talk.answer

-- the first of some look-ups in hand, with these URLs, if they are known
abbrev pub first_in_hand : List HeldLook → Option (List LookUrl) → Option HandLook
first_in_hand [] urls = None
first_in_hand (first ∷ rest) urls = Some (record { number = first.number; received = first.received; urls = urls; fresh = false; released = false })

-- the same with its own
abbrev pub first_released : List HeldLook → Option HandLook
first_released [] = None
first_released (first ∷ rest) = Some (record { number = first.number; received = first.received; urls = Some first.urls; fresh = false; released = true })

abbrev pub behind_first : List HeldLook → List HeldLook
behind_first [] = []
behind_first (first ∷ rest) = rest

-- how many URLs a find asked for that are not of the first
abbrev pub asked_behind : List HeldLook → ℕ → ℕ
asked_behind [] asked = asked
asked_behind (first ∷ rest) asked = asked - length (open_hits first.urls)

-- the connection in hand behind those that wait
abbrev pub held_with : HandLook → Option (List LookUrl) → List HeldLook
held_with hand None = []
held_with hand (Some urls) = record { number = hand.number; received = hand.received; urls = urls } ∷ []

abbrev pub behind_waiting : List HeldLook → Option HandLook → List HeldLook
behind_waiting waiting None = waiting
behind_waiting waiting (Some hand) = waiting ++ held_with hand hand.urls

-- how many waited, with the connection in hand, which is counted once
abbrev pub waited_with : ℕ → Option HandLook → ℕ
waited_with waited None = waited
waited_with waited (Some hand) = if hand.fresh then counted_up waited else waited

abbrev pub after_look_event : LookState → LookEvent → LookState
after_look_event state (Taken pieces received) = record state {
  taken = state.taken ++ pieces ∷ [];
  hand = Some (record { number = length state.taken; received = received; urls = None; fresh = true; released = false });
}
after_look_event state (LookedUp urls more) = record state {
  desk = state.desk ++ more;
  hand = option_map (λ (hand : HandLook). record hand { urls = urls }) state.hand;
}
after_look_event state (FindBegan find) = record state { find_open = Some find }
after_look_event state (FindGone by more) = record state {
  desk = state.desk ++ more;
  find_open = None;
  unsettled = state.waiting;
  by = by;
  asked = 0;
  waiting = [];
}
after_look_event state (FindEnded one part) = record state {
  desk = state.desk ++ Found one ∷ [];
  find_open = None;
  finds = counted_up state.finds;
  unsettled = state.waiting;
  by = ByFind one;
  asked = count_begun state.find_open;
  waiting = [];
  printed = state.printed ++ part_written (line_of_find state one) part;
  stop = stop_after_part state.stop part;
  output_failed = state.output_failed || is_broken_by_output part;
}
after_look_event state (SettledFirst urls more) = record state {
  desk = state.desk ++ more;
  unsettled = behind_first state.unsettled;
  asked = asked_behind state.unsettled state.asked;
  hand = first_in_hand state.unsettled urls;
}
after_look_event state ReleasedFirst = record state { unsettled = behind_first state.unsettled; hand = first_released state.unsettled }
after_look_event state PutOff = record state {
  waiting = behind_waiting state.waiting state.hand;
  waited = waited_with state.waited state.hand;
  hand = None;
}
after_look_event state (Answered one part) = record state {
  hand = None;
  over = state.over ++ one ∷ [];
  printed = state.printed ++ part_written (line_of_served one) part;
  stop = stop_after_part state.stop part;
  output_failed = state.output_failed || is_broken_by_output part;
}
after_look_event state (CountsTold part) = record state {
  counted = true;
  printed = state.printed ++ part_written (counts_line (length state.taken) state.waited state.finds) part;
  stop = stop_after_part state.stop part;
  output_failed = state.output_failed || is_broken_by_output part;
}

-- what some events leave, of which the newest stands first
abbrev pub after_look_events : LookState → List LookEvent → LookState
after_look_events state [] = state
after_look_events state (one ∷ earlier) = after_look_event (after_look_events state earlier) one
