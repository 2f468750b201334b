use Rattle.std.proofs.Common.{◌<◌, ℕ, List, [], ◌++◌, length, refl, ap, sym, ◌∙◌, subst, inl, append_assoc, Err, rules, arith}
use Rattle.std.proofs.lemmas.List.{append-nil}
use Rattle.sb_outside.specs.Outside.{GivesFront}
use Rattle.http_edge.specs.SessionBytes.{IsShort}
use Rattle.http_edge.proofs.Fronts.{gives_nothing, front_then, ends_after}
use Rattle.http_edge.proofs.ReadFacts.{read_on}
use Rattle.http_edge.proofs.receiving.receive_body.Goals as goal

pub pieces-init : goal.pieces-init
pieces-init g c = record {
  room = c.requires;
  so_far = ([], gives_nothing _, sym (append-nil c.args.body.now), inl refl);
  faults = refl;
  other = refl;
}

pub pieces-preserved : goal.pieces-preserved
pieces-preserved g c =
    let so_far = c.pieces.invariant.so_far in
    let more = c.in-Ok.ensures.more in
    let short : IsShort c.args.body.now c.args.wanted so_far.0 = subst (λ (body : List ℕ). length body < c.args.wanted) so_far.2 (omega arith) in record {
      room = search rules;
      so_far = (
        so_far.0 ++ more.given,
        front_then so_far.0 more.given _ _ _ so_far.1 more.gives,
        more.whole ∙ ap (λ (text : List ℕ). text ++ more.given) so_far.2 ∙ append_assoc c.args.body.now so_far.0 more.given,
        read_on (IsShort c.args.body.now c.args.wanted) so_far.0 more.given short more.short,
      );
      faults = search rules;
      other = search rules;
    }

pub returns-in-Err-Ended-clause-short : goal.returns-in-Err-Ended-clause-short
returns-in-Err-Ended-clause-short g c = λ _.
    let so_far = c.pieces.invariant.so_far in record {
      given = so_far.0;
      gives = ends_after so_far.0 _ _ _ so_far.1 (c.in-Err-Ended.ensures.end (ap Err c.in-Err-Ended.field-0-is));
      reads = so_far.3;
      short = subst (λ (body : List ℕ). length body < c.args.wanted) so_far.2 (omega arith);
    }

pub returns-in-Err-Failed-clause-failed_left : goal.returns-in-Err-Failed-clause-failed_left
returns-in-Err-Failed-clause-failed_left g c = λ _.
    let so_far = c.pieces.invariant.so_far in record {
      given = so_far.0;
      gives = subst (GivesFront so_far.0 (g.S.Source.left c.args.source.now)) (sym (c.in-Err-Failed.ensures.failed_left (ap Err c.in-Err-Failed.field-0-is))) so_far.1;
      reads = so_far.3;
      short = subst (λ (body : List ℕ). length body < c.args.wanted) so_far.2 (omega arith);
    }

pub returns-in-Err-OutOfMemory-clause-refused_left : goal.returns-in-Err-OutOfMemory-clause-refused_left
returns-in-Err-OutOfMemory-clause-refused_left g c = λ _.
    let so_far = c.pieces.invariant.so_far in
    let some = c.in-Err-OutOfMemory.ensures.refused_left (ap Err c.in-Err-OutOfMemory.field-0-is) in
    let short : IsShort c.args.body.now c.args.wanted so_far.0 = subst (λ (body : List ℕ). length body < c.args.wanted) so_far.2 (omega arith) in record {
      given = so_far.0 ++ some.given;
      gives = front_then so_far.0 some.given _ _ _ so_far.1 some.gives;
      reads = read_on (IsShort c.args.body.now c.args.wanted) so_far.0 some.given short some.within;
    }
