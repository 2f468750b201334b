use Rattle.std.proofs.Common.{◌≡◌, ◌≤◌, arith, subst, sym}
use Rattle.std.specs.Prelude.{All}
use Rattle.std.proofs.lemmas.List.Elements.{All-push}
use Rattle.sha2.specs.Hashers.{Holds256}
use Rattle.url_expressions.specs.Spans.{piece_of}
use Rattle.url_hashes.specs.Hashes.{full_hash_of}
use Rattle.url_hashes.specs.declared.Hashed.{Hashed}
use Rattle.url_hashes.proofs.Pieces.{piece_on}
use Rattle.url_hashes.proofs.push_fronts.Goals as goal

pub loop-preserved : goal.loop-preserved
loop-preserved c =
    let text = c.args.text.now in
    let from = c.args.from in
    let to = c.in-Some.to in
    let later = c.in-Some.ensures.above in
    let order : c.loop.done ≤ to = omega (arith, later) in
    let first = c.loop.invariant.order in
    let within = c.in-Some.ensures.within _ c.requires.spans in
    let sum = subst (Holds256 c.update.new.self) (piece_on text from c.loop.done to first order) (c.update.ensures _ c.loop.invariant.sum) in
    record {
      order = omega (arith, first, order);
      within = within;
      sum = sum;
      known = λ h. subst (All (λ (one : Hashed). one.hash ≡ full_hash_of (piece_of text one.span))) (sym c.in_ok-push.ensures.items)
          (All-push (λ (one : Hashed). one.hash ≡ full_hash_of (piece_of text one.span)) c.loop.known.items _ (c.loop.invariant.known h) (c.in_ok-hash.ensures _ sum));
    }
