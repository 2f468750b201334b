use Rattle.std.proofs.Common.{ℕ, List, [], ◌++◌, length, refl, sym, ap, ◌∙◌, subst, inl, append_assoc, Err, rules, arith, length-append}
use Rattle.std.proofs.lemmas.List.{append-nil}
use Rattle.http_edge.specs.ChunkSteps.{IsOpenAt, IsOpenWith}
use Rattle.http_edge.proofs.SessionSteps.{receives_nothing, receives_then, receives_failure}
use Rattle.http_edge.proofs.ReadFacts.{read_on}
use Rattle.http_edge.proofs.unchunking.receive_chunk.Goals as goal

pub pieces-init : goal.pieces-init
pieces-init g c = record {
  buffer = c.requires.buffer;
  room = c.requires.room;
  within = c.requires.within;
  so_far = record { given = []; whole = sym (append-nil c.args.text.now); receives = receives_nothing _; reads = inl refl };
  faults = refl;
}

pub pieces-preserved : goal.pieces-preserved
pieces-preserved g c =
    let so_far = c.pieces.invariant.so_far in
    let more = c.in-Ok.ensures.more in
    let here : IsOpenAt c.pieces.text c.args.place = subst (λ (text : List ℕ). IsOpenAt text c.args.place) c.as_slice.ensures c.in_default.ensures.open in
    let unread : IsOpenWith c.args.text.now c.args.place so_far.given = subst (λ (text : List ℕ). IsOpenAt text c.args.place) so_far.whole here in record {
      buffer = search rules;
      room = search rules;
      within = omega (arith, c.pieces.invariant.within, ap length more.whole, length-append c.pieces.text more.given);
      so_far = record {
        given = so_far.given ++ more.given;
        whole = more.whole ∙ ap (λ (text : List ℕ). text ++ more.given) so_far.whole ∙ append_assoc c.args.text.now so_far.given more.given;
        receives = receives_then so_far.given more.given _ _ _ so_far.receives more.receives;
        reads = read_on (IsOpenWith c.args.text.now c.args.place) so_far.given more.given unread more.short;
      };
      faults = search rules;
    }

pub returns-in-Err-Failed-clause-failed_log : goal.returns-in-Err-Failed-clause-failed_log
returns-in-Err-Failed-clause-failed_log g c = λ _.
    let so_far = c.pieces.invariant.so_far in
    let here : IsOpenAt c.pieces.text c.args.place = subst (λ (text : List ℕ). IsOpenAt text c.args.place) c.as_slice.ensures c.in_default.ensures.open in record {
      given = so_far.given;
      receives = receives_failure so_far.given _ _ _ so_far.receives (c.in-Err-Failed.ensures.failed_log (ap Err c.in-Err-Failed.field-0-is));
      reads = so_far.reads;
      needed = subst (λ (text : List ℕ). IsOpenAt text c.args.place) so_far.whole here;
    }

pub returns-in-Err-OutOfMemory-clause-refused_log : goal.returns-in-Err-OutOfMemory-clause-refused_log
returns-in-Err-OutOfMemory-clause-refused_log g c = λ _.
    let so_far = c.pieces.invariant.so_far in
    let some = c.in-Err-OutOfMemory.ensures.refused_log (ap Err c.in-Err-OutOfMemory.field-0-is) in
    let here : IsOpenAt c.pieces.text c.args.place = subst (λ (text : List ℕ). IsOpenAt text c.args.place) c.as_slice.ensures c.in_default.ensures.open in
    let unread : IsOpenWith c.args.text.now c.args.place so_far.given = subst (λ (text : List ℕ). IsOpenAt text c.args.place) so_far.whole here in record {
      given = so_far.given ++ some.given;
      receives = receives_then so_far.given some.given _ _ _ so_far.receives some.receives;
      reads = read_on (IsOpenWith c.args.text.now c.args.place) so_far.given some.given unread some.short;
    }
