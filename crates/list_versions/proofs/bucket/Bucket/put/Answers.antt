use Rattle.std.proofs.Common.{◌≡◌, ◌+◌, ◌≤◌, ◌∙◌, ℕ, List, [], ◌∷◌, Bool, cond, length, sym, ap, arith}
use Rattle.std.proofs.lemmas.Grind.{common_steps}
use Rattle.std.proofs.lemmas.List.{length_push, map-append}
use Rattle.list_versions.proofs.TakingOut.{published_lines}
use Rattle.sb_model.specs.declared.history.Added.{Added}
use Rattle.list_versions.specs.Buckets.{added_of}
use Rattle.list_versions.specs.declared.bucket.Standing.{Standing}
use Rattle.list_versions.specs.Limits.{prefix_bytes}
use Rattle.list_versions.proofs.PrefixBytes.{is_published_in, prefix_bytes-push, cond_le}
use Rattle.list_versions.proofs.bucket.Bucket.put.Goals as goal

pub returns-clause-tally : goal.returns-clause-tally
returns-clause-tally c =
    let rest = c.remove-gone.new.self in
    let prefix = c.published.result.now in
    let items = c.in_ok-push.ensures in
    let further = c.further_bytes-bytes_in.ensures ∙ ap (λ (b : Bool). cond b 0 (length prefix)) (published_lines c.as_slice.result.now prefix)
    ∙ ap (λ (es : List Standing). cond (is_published_in (added_of es) prefix) 0 (length prefix)) c.as_slice.ensures in
    let same = ap (λ (p : List ℕ). cond (is_published_in (added_of rest) p) 0 (length p)) c.published.ensures.value in
    let bytes : prefix_bytes (added_of c.push.new.self) ≡ prefix_bytes (added_of rest) + c.further_bytes-bytes_in.result =
    ap (λ (es : List Standing). prefix_bytes (added_of es)) items ∙ ap prefix_bytes (map-append {B = Added} (λ (l : Standing). l.added) rest (c.args.line ∷ []))
    ∙ prefix_bytes-push (added_of rest) c.args.line.added ∙ ap (λ (n : ℕ). prefix_bytes (added_of rest) + n) (sym (further ∙ same)) in
    let count = ap length items ∙ length_push rest c.args.line in
    let gone = c.remove-gone.ensures.tally in
    let few : c.further_bytes-bytes_in.result ≤ 32 = omega (arith, further, cond_le (is_published_in (added_of rest) prefix) (length prefix), c.published.ensures.short, ap length c.published.ensures.value) in
    record {
      hashes = omega (arith, count, gone.hashes, c.remove-gone.ensures.none_in);
      bytes = λ small. let before = gone.bytes small in omega (arith, bytes, before, c.remove-gone.ensures.nothing_in);
      left = grind (arith, common_steps);
      few = omega arith;
      short = few;
    }
