-- Verdicts of a proxy by the lists whose types are asked.
use Rattle.std.proofs.Common.{◌≡◌, ℕ, List, [], ◌∷◌, ◌++◌, Bool, true, false, Option, None, Result, Ok, Err, filter, length, map, refl, sym, ap, ◌∙◌, subst, inl, inr, arith}
use Rattle.std.specs.List.{flat_map, fold}
use Rattle.std.specs.Prelude.{◌↔◌}
use Rattle.std.proofs.lemmas.List.{take_all}
use Rattle.std.proofs.lemmas.List.Elements.{filter-append}
use Rattle.client_laws.specs.Faithful.{pair_of_hit}
use Rattle.client_laws.specs.Met.{AreHonestRounds}
use Rattle.client_laws.specs.Resolved.{IsBorneOut, IsLookup, steps_of_answer}
use Rattle.client_laws.specs.Rulings.{IsNoneOpen}
use Rattle.client_laws.specs.Shared.{IsDecidedBy, said_by_answer}
use Rattle.find_desk.specs.Events.{DeskEvent, LookedUp, Found, Stopped, Forgot, kept_after_event, kept_after_events}
use Rattle.full_hash_cache.specs.Cache.{Pairs}
use Rattle.full_hash_cache.specs.Law.{Step, after_steps}
use Rattle.full_hash_cache.specs.Law.Step.{Asks}
use Rattle.held_connections.specs.Over.{ServedConnection}
use Rattle.hash_messages.specs.declared.response.FindResponse.{FindResponse}
use Rattle.hash_prefixes.specs.declared.hashes.FullHash.{FullHash}
use Rattle.lookup_messages.specs.Lookups.{canonical_of_asked, looks_up_list}
use Rattle.lookup_messages.specs.Messages.{AskedUrls}
use Rattle.proxy_laws.specs.Told.{AreToldRightly, HoldsOfAnswer, IsToldRightly, LookedAt, ProxyVerdictsHold, lists_whose_types_are_asked, looked_at, steps_of_desk, steps_with_event}
use Rattle.proxy_laws.specs.Traced.{AnswerGoesBack, AreToldSo, IsToldBy, proxy_after}
use Rattle.proxy_looks.specs.Urls.{hits_asked_of, hits_found, url_asked}
use Rattle.proxy_run.specs.Events.{ProxyEvent}
use Rattle.proxy_run.specs.State.{ProxyFirst}
use Rattle.proxy_serving.specs.Response.{ProxyServed}
use Rattle.proxy_serving.specs.declared.told.SeenUrl.{SeenUrl}
use Rattle.sb_model.specs.History.{History, IsWellFormed}
use Rattle.sb_model.specs.Naming.{Naming}
use Rattle.sb_model.specs.declared.names.ListName.{ListName}
use Rattle.sb_model.specs.declared.time.Moment.{Moment}
use Rattle.sb_round.specs.Law.{KeepsReplicas}
use Rattle.sb_round.specs.Round.{Round}
use Rattle.sb_round.specs.Rounds.{round_updates}
use Rattle.sb_round.specs.Run.{lists_after}
use Rattle.update_client.specs.Held.{Held}
use Rattle.update_client.specs.Replica.{AreReplicas, IsReplicaOf}
use Rattle.update_messages.specs.Messages.{UpdatedList}
use Rattle.url_canon.specs.Url.{Url}
use Rattle.url_canon.specs.declared.fault.UrlFault.{UrlFault}
use Rattle.url_checker.specs.Hits.{has_front, hit_of, hits_of, hits_on, hits_with, prefix_sizes}
use Rattle.url_checker.specs.Resolving.{find_asked, hits_asked, kept_by, lists_hit, looked_up_pairs, open_cause, verdict_by}
use Rattle.url_checker.specs.declared.findings.Hit.{Hit}
use Rattle.url_hashes.specs.Hashes.{hashes_of}
use Rattle.verdict_report.specs.declared.verdicts.Cause.{Cause}
use Rattle.verdict_report.specs.declared.verdicts.Verdict.{Verdict}

-- ---- the hits on lists that are asked

-- all of some hits, or none
chosen : Bool → List Hit → List Hit
chosen true hits = hits
chosen false hits = []

module _ (p : ListName → Bool) where
  of_list : Hit → Bool
  of_list hit = p hit.list

  -- hits on one list
  by_name : (name : ListName) (hash : FullHash) (sizes : List ℕ) (is : Bool) → p name ≡ is → filter of_list (map (hit_of name hash) sizes) ≡ chosen is (map (hit_of name hash) sizes)
  unfolding chosen of_list
  by_name name hash [] true e = refl
  by_name name hash [] false e = refl
  by_name name hash (size ∷ sizes) true e = rw e (ap (λ (rest : List Hit). hit_of name hash size ∷ rest) (by_name name hash sizes true e))
  by_name name hash (size ∷ sizes) false e = rw e (by_name name hash sizes false e)

  chosen_twice : (is : Bool) (first rest : List Hit) → chosen is first ++ chosen is rest ≡ chosen is (first ++ rest)
  unfolding chosen
  chosen_twice true first rest = refl
  chosen_twice false first rest = refl

  on_list : (hashes : List FullHash) (held : Held) (is : Bool) → p held.name ≡ is → filter of_list (hits_on hashes held) ≡ chosen is (hits_on hashes held)
  unfolding chosen of_list
  on_list [] held true e = refl
  on_list [] held false e = refl
  on_list (hash ∷ hashes) held is e =
      filter-append of_list (hits_with held hash) (hits_on hashes held)
      ∙ ap (λ (rest : List Hit). filter of_list (hits_with held hash) ++ rest) (on_list hashes held is e)
      ∙ ap (λ (first : List Hit). first ++ chosen is (hits_on hashes held)) (by_name held.name hash (filter (has_front held.set hash) prefix_sizes) is e)
      ∙ chosen_twice is (hits_with held hash) (hits_on hashes held)

  with_first : (hashes : List FullHash) (held : Held) (lists : List Held) (is : Bool) → p held.name ≡ is
      → filter of_list (flat_map (hits_on hashes) lists) ≡ flat_map (hits_on hashes) (filter (λ (one : Held). p one.name) lists)
      → filter of_list (flat_map (hits_on hashes) (held ∷ lists)) ≡ chosen is (hits_on hashes held) ++ flat_map (hits_on hashes) (filter (λ (one : Held). p one.name) lists)
  with_first hashes held lists is e behind =
      filter-append of_list (hits_on hashes held) (flat_map (hits_on hashes) lists)
      ∙ ap (λ (rest : List Hit). filter of_list (hits_on hashes held) ++ rest) behind
      ∙ ap (λ (first : List Hit). first ++ flat_map (hits_on hashes) (filter (λ (one : Held). p one.name) lists)) (on_list hashes held is e)

  one_more : (hashes : List FullHash) (held : Held) (lists : List Held) (is : Bool) → p held.name ≡ is
      → filter of_list (flat_map (hits_on hashes) lists) ≡ flat_map (hits_on hashes) (filter (λ (one : Held). p one.name) lists)
      → filter of_list (flat_map (hits_on hashes) (held ∷ lists)) ≡ flat_map (hits_on hashes) (filter (λ (one : Held). p one.name) (held ∷ lists))
  unfolding chosen
  one_more hashes held lists true e behind = with_first hashes held lists true e behind ∙ rw e refl
  one_more hashes held lists false e behind = with_first hashes held lists false e behind ∙ rw e refl

  on_lists : (hashes : List FullHash) (lists : List Held) → filter of_list (flat_map (hits_on hashes) lists) ≡ flat_map (hits_on hashes) (filter (λ (held : Held). p held.name) lists)
  on_lists hashes [] = refl
  on_lists hashes (held ∷ lists) = one_more hashes held lists (p held.name) refl (on_lists hashes lists)

hits_are : (asked : AskedUrls) (lists : List Held) (url : Url) → hits_asked_of lists asked url ≡ hits_of (lists_whose_types_are_asked asked lists) url
unfolding of_list
hits_are asked lists url = on_lists (looks_up_list asked) (hashes_of url) lists

-- some of replicas are replicas
with_replica : (history : History) (token_at : Naming) (p : Held → Bool) (held : Held) (lists : List Held) (is : Bool) → p held ≡ is → IsReplicaOf history token_at held
    → AreReplicas history token_at (filter p lists) → AreReplicas history token_at (filter p (held ∷ lists))
with_replica history token_at p held lists true e one all = rw e (one, all)
with_replica history token_at p held lists false e one all = rw e all

asked_replicas : (history : History) (token_at : Naming) (p : Held → Bool) (lists : List Held) → AreReplicas history token_at lists → AreReplicas history token_at (filter p lists)
asked_replicas history token_at p [] all = tt
asked_replicas history token_at p (held ∷ lists) all = with_replica history token_at p held lists (p held) refl all.0 (asked_replicas history token_at p lists all.1)

-- ---- what is kept

module _ (looked : (steps : List Step) (now : Moment) (hits : List Hit) → looked_up_pairs (after_steps [] steps) hits ≡ after_steps [] (steps ++ map (λ hit. Asks now (pair_of_hit hit) hit.hash) hits))
    (answered : (steps : List Step) (states : List (List ℕ)) (asked : List Hit) (at : Moment) (answer : Result FindResponse Cause)
    → kept_by at (lists_hit asked) (find_asked states asked) answer (after_steps [] steps) ≡ after_steps [] (steps ++ steps_of_answer states asked at answer))
  where
    one_step : (steps : List Step) (event : DeskEvent) → kept_after_event (after_steps [] steps) event ≡ after_steps [] (steps_with_event steps event)
    one_step steps (LookedUp look) = looked steps look.now look.hits
    one_step steps (Found one) = answered steps one.states one.asked one.talk.session.closed one.talk.answer
    one_step steps (Stopped one) = refl
    one_step steps Forgot = refl

    pub all_steps : (steps : List Step) (events : List DeskEvent) → kept_after_events (after_steps [] steps) events ≡ after_steps [] (fold steps_with_event steps events)
    all_steps steps [] = refl
    all_steps steps (event ∷ events) = ap (λ (kept : Pairs). kept_after_events kept events) (one_step steps event) ∙ all_steps (steps_with_event steps event) events

    -- ---- one verdict

    pub verdicts_hold :
        ((history : History) (token_at : Naming) (lists : List Held) (url : Url) (steps : List Step) (now : Moment) (answer : Result FindResponse Cause) → IsWellFormed history → AreReplicas history token_at lists
        → IsDecidedBy history token_at lists steps now answer (hits_of lists url) → IsNoneOpen (hits_of lists url) (said_by_answer steps now answer)
        → IsLookup history token_at lists url (verdict_by (after_steps [] steps) now answer (hits_of lists url)))
        → ((history : History) (token_at : Naming) (lists : List Held) (url : Url) (steps : List Step) (now : Moment) (answer : Result FindResponse Cause) → IsWellFormed history → AreReplicas history token_at lists
        → IsDecidedBy history token_at lists steps now answer (hits_of lists url)
        → IsBorneOut history token_at lists url (verdict_by (after_steps [] steps) now answer (hits_of lists url)))
        → ((steps : List Step) (now : Moment) (answer : Result FindResponse Cause) (hits : List Hit)
        → IsNoneOpen hits (said_by_answer steps now answer) ↔ (open_cause answer (hits_asked (after_steps [] steps) now hits) ≡ None))
        → ProxyVerdictsHold
    verdicts_hold resolves bears opens history token_at start events lists asked url verdict formed replicas fresh goes =
        let steps = steps_of_desk goes.before in
        let some = lists_whose_types_are_asked asked lists in
        let hits = hits_are asked lists url in
        let kept : kept_after_events [] goes.before ≡ after_steps [] steps = all_steps [] goes.before in
        let kept_start : kept_after_events start.kept goes.before ≡ after_steps [] steps = ap (λ (k : Pairs). kept_after_events k goes.before) fresh ∙ kept in
        let is : verdict ≡ verdict_by (after_steps [] steps) goes.now goes.answer (hits_of some url) =
        goes.verdict_is ∙ ap (λ (k : Pairs). verdict_by k goes.now goes.answer (hits_asked_of lists asked url)) kept_start ∙ ap (λ (h : List Hit). verdict_by (after_steps [] steps) goes.now goes.answer h) hits in
        let some_replicas = asked_replicas history token_at (λ (held : Held). looks_up_list asked held.name) lists replicas in
        record {
          borne_out = λ decided. subst (λ (v : Verdict). IsBorneOut history token_at some url v) (sym is) (bears history token_at some url steps goes.now goes.answer formed some_replicas decided);
          resolved = λ decided none. subst (λ (v : Verdict). IsLookup history token_at some url v) (sym is)
              (resolves history token_at some url steps goes.now goes.answer formed some_replicas decided
              ((opens steps goes.now goes.answer (hits_of some url)).1 (ap (λ (k : Pairs). open_cause goes.answer (hits_asked k goes.now (hits_of some url))) (sym kept) ∙ none)));
        }

-- ---- all verdicts of an answer

module _ (hold : ProxyVerdictsHold) (history : History) (token_at : Naming) (at : LookedAt) (formed : IsWellFormed history) (replicas : AreReplicas history token_at at.lists) (fresh : at.start.kept ≡ []) where
  one_right : (canonical : Result Url UrlFault) (told : Option Verdict) → IsToldBy at.start at.events (hits_found at.lists at.asked canonical) told → IsToldRightly history token_at at canonical told
  one_right (Err fault) told by = by
  one_right (Ok url) told by = (by.0, by.1, by.2, hold history token_at at.start at.events at.lists at.asked url by.0 formed replicas fresh by.2)

  pub all_right : (urls : List (List ℕ)) (told : List SeenUrl) → AreToldSo at.start at.events (map (url_asked at.lists at.asked) urls) told → AreToldRightly history token_at at urls told
  all_right [] [] are = tt
  all_right (url ∷ urls) (one ∷ told) are = (are.0, one_right (canonical_of_asked url) one.verdict are.1, all_right urls told are.2)
  all_right [] (one ∷ told) are = are
  all_right (url ∷ urls) [] are = are

-- ---- the lists after honest rounds

pub still_replicas : ((lists : List Held) (bodies : List (List UpdatedList)) → KeepsReplicas lists bodies)
    → (history : History) (token_at : Naming) (lists : List Held) (rounds : List Round) → IsWellFormed history → AreReplicas history token_at lists → AreHonestRounds history token_at lists rounds
    → AreReplicas history token_at (lists_after lists (map round_updates rounds))
still_replicas stays history token_at lists [] formed replicas honest = replicas
still_replicas stays history token_at lists (round ∷ rounds) formed replicas (naming, honest, apart) =
    let bodies = map round_updates (round ∷ rounds) in
    subst (λ (all : List (List UpdatedList)). AreReplicas history token_at (lists_after lists all)) (take_all (length bodies) bodies (omega arith))
    (stays lists bodies history token_at formed naming replicas honest apart (length bodies))

-- ---- what a connection was answered

module _ (hold : ProxyVerdictsHold) (stays : (lists : List Held) (bodies : List (List UpdatedList)) → KeepsReplicas lists bodies) (history : History) (token_at : Naming) (first : ProxyFirst)
    (formed : IsWellFormed history) (replicas : AreReplicas history token_at first.client.lists) (fresh : first.desk.kept ≡ [])
  where
    pub answer_holds : (events : List ProxyEvent) (one : ServedConnection ProxyServed) → AnswerGoesBack first events one → HoldsOfAnswer history token_at first events one
    answer_holds events one (inl memory) = inl memory
    answer_holds events one (inr (inl none)) = inr (inl none)
    answer_holds events one (inr (inr (inl unanswered))) = inr (inr (inl unanswered))
    answer_holds events one (inr (inr (inr on))) = inr (inr (inr (record {
      on = on;
      right = λ honest.
          let lists : AreReplicas history token_at on.lists = subst (λ (ls : List Held). AreReplicas history token_at ls) (sym on.taken.held)
          (still_replicas stays history token_at first.client.lists (proxy_after first on.taken.earlier).rounds formed replicas honest) in
          (lists, all_right hold history token_at (looked_at first events on.lists on.message) formed lists fresh on.message.urls on.told on.are);
    })))
