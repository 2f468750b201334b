-- What calls on a link do to the session that its log tells last.
use Rattle.std.proofs.Common.{◌≡◌, ℕ, List, [], ◌∷◌, ◌++◌, take, drop, Bool, true, false, Option, Some, None, Result, Ok, Err, sym, ap, ◌∙◌, subst, append_assoc}
use Rattle.std.specs.Prelude.{OnErr}
use Rattle.std.proofs.lemmas.List.{append-nil, take-append-drop}
use Rattle.sb_outside.specs.Outside.{IfTold, with_entry}
use Rattle.sb_outside.specs.Sessions.{with_sent, with_received, with_end, with_failure, last_changed, on_last, on_last-push}
use Rattle.sb_outside.specs.declared.links.Session.{Session}
use Rattle.http_edge.specs.SessionBytes.{Turns, Receives, after_receiving, end_if, fail_if, SendsFront}

-- what holds in any case holds after an error
pub err_says : {T E : Type 0} (result : Result T E) (P : Type 0) → P → OnErr result P
err_says (Ok value) P is = tt
err_says (Err fault) P is = is

last_of_entry : (change : Session → Session) (log : Option (List Session)) (session : Session) (before : Option (List Session)) (told : List Session)
    → last_changed change before ≡ Some told → IfTold before (with_entry log session) → with_entry log (change session) ≡ Some told
last_of_entry change log session None told is same = cc
last_of_entry change None session (Some entries) told is same = cc
last_of_entry change (Some log) session (Some entries) told is same =
    let entries-are : log ++ session ∷ [] ≡ entries = cc in
    ap (λ all. Some all) (sym (on_last-push change session log) ∙ ap (on_last change) entries-are) ∙ is

-- a call that changes the last session changes the one that was told
pub turns_from : (change : Session → Session) (before after : Option (List Session)) → IfTold after (last_changed change before) → Turns change before after
turns_from change before None told log session same = tt
turns_from change before (Some entries) told log session same = last_of_entry change log session before entries told same

pub turns_then : (first then : Session → Session) (a b c : Option (List Session)) → Turns first a b → Turns then b c → Turns (λ session. then (first session)) a c
turns_then first then a b c one two log session told = two log (first session) (one log session told)

-- a change that is the same for every session
pub turns_same : (one other : Session → Session) (before after : Option (List Session)) → ((session : Session) → one session ≡ other session) → Turns one before after → Turns other before after
turns_same one other before after same turns log session told =
    subst (λ last. IfTold after (with_entry log last)) (same session) (turns log session told)

received_then : (first then : List ℕ) (session : Session) → with_received then (with_received first session) ≡ with_received (first ++ then) session
received_then first then session = ap (λ bytes. record session { received = bytes }) (append_assoc session.received first then)

pub receives_then : (first then : List ℕ) (a b c : Option (List Session)) → Receives first false false a b → Receives then false false b c → Receives (first ++ then) false false a c
receives_then first then a b c one two =
    turns_same (λ session. with_received then (with_received first session)) (with_received (first ++ then)) a c (received_then first then) (turns_then (with_received first) (with_received then) a b c one two)

received_nothing : (session : Session) → session ≡ with_received [] session
received_nothing session = ap (λ bytes. record session { received = bytes }) (sym (append-nil session.received))

pub receives_nothing : (log : Option (List Session)) → Receives [] false false log log
receives_nothing log = turns_same (λ session. session) (with_received []) log log received_nothing (λ before session told. told)

-- bytes, and then whatever became of the session
pub receives_and : (first then : List ℕ) (ended failed : Bool) (a b c : Option (List Session)) → Receives first false false a b → Receives then ended failed b c → Receives (first ++ then) ended failed a c
receives_and first then ended failed a b c one two =
    turns_same (λ session. after_receiving then ended failed (with_received first session)) (after_receiving (first ++ then) ended failed) a c
    (λ session. ap (λ last. fail_if failed (end_if ended last)) (received_then first then session))
    (turns_then (with_received first) (after_receiving then ended failed) a b c one two)

pub receives_end : (bytes : List ℕ) (a b c : Option (List Session)) → Receives bytes false false a b → Turns with_end b c → Receives bytes true false a c
receives_end bytes a b c one two = turns_then (with_received bytes) with_end a b c one two

pub receives_failure : (bytes : List ℕ) (a b c : Option (List Session)) → Receives bytes false false a b → Turns with_failure b c → Receives bytes false true a c
receives_failure bytes a b c one two = turns_then (with_received bytes) with_failure a b c one two

-- ---- what is sent

pub sends_both : (head body : List ℕ) (a b c : Option (List Session)) → IfTold b (last_changed (with_sent head) a) → IfTold c (last_changed (with_sent body) b)
    → Turns (with_sent (head ++ body)) a c
sends_both head body a b c one two =
    turns_same (λ session. with_sent body (with_sent head session)) (with_sent (head ++ body)) a c
    (λ session. ap (λ bytes. record session { sent = bytes }) (append_assoc session.sent head body))
    (turns_then (with_sent head) (with_sent body) a b c (turns_from (with_sent head) a b one) (turns_from (with_sent body) b c two))

pub sends_front : (head body : List ℕ) (n : ℕ) (a b : Option (List Session))
    → IfTold b (last_changed (λ session. with_failure (with_sent (take n head) session)) a) → SendsFront (head ++ body) a b
sends_front head body n a b told = record {
  sent = take n head;
  unsent = drop n head ++ body;
  front = sym (append_assoc (take n head) (drop n head) body) ∙ ap (λ text. text ++ body) (take-append-drop n head);
  turns = turns_from (λ session. with_failure (with_sent (take n head) session)) a b told;
}

pub sends_front_of_second : (head body : List ℕ) (n : ℕ) (a b c : Option (List Session)) → IfTold b (last_changed (with_sent head) a)
    → IfTold c (last_changed (λ session. with_failure (with_sent (take n body) session)) b) → SendsFront (head ++ body) a c
sends_front_of_second head body n a b c one two = record {
  sent = head ++ take n body;
  unsent = drop n body;
  front = append_assoc head (take n body) (drop n body) ∙ ap (λ text. head ++ text) (take-append-drop n body);
  turns =
      turns_same (λ session. with_failure (with_sent (take n body) (with_sent head session))) (λ session. with_failure (with_sent (head ++ take n body) session)) a c
      (λ session. ap (λ bytes. record session { sent = bytes; failed = true }) (append_assoc session.sent head (take n body)))
      (turns_then (with_sent head) (λ session. with_failure (with_sent (take n body) session)) a b c (turns_from (with_sent head) a b one)
      (turns_from (λ session. with_failure (with_sent (take n body) session)) b c two));
}
