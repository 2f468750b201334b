use Rattle.std.proofs.Common.{◌≡◌, ℕ, List, ◌+◌, ◌-◌, ◌<◌, ◌++◌, ◌∙◌, true, Bool, cond, length, take, drop, get_or, sym, ap, arith}
use Rattle.std.specs.Str.{bytes_eq}
use Rattle.std.proofs.lemmas.Grind.{common_steps}
use Rattle.std.proofs.lemmas.List.{get_or_default}
use Rattle.list_versions.specs.Buckets.{added_of}
use Rattle.list_versions.specs.declared.bucket.Standing.{Standing}
use Rattle.sb_model.specs.History.{prefix_of}
use Rattle.list_versions.proofs.PrefixBytes.{is_published_in}
use Rattle.list_versions.proofs.TakingOut.{left_at, entry_at, left_at-goes, bytes_gone, published_lines}
use Rattle.list_versions.proofs.bucket.take_out.Goals as goal

pub back-preserved-then-eq : goal.back-preserved-then-eq
back-preserved-then-eq c =
    let entries = c.args.entries.now.items in
    let cur = c.back.entries.items in
    let next = c.remove-line.new.self.items in
    let hash = c.args.hash.now in
    let i = c.back.i - 1 in
    let entry = c.remove-line.result in
    let again : i + 1 ≡ c.back.i = omega (arith, c.back-test.true) in
    let lt : i < length entries = omega (arith, c.back.invariant.within, again) in
    let within : i < length cur = omega (arith, c.back.invariant.more, again) in
    let left : cur ≡ left_at entries hash (i + 1) = rw again c.back.invariant.left in
    let cut : next ≡ take i cur ++ drop (i + 1) cur = c.remove-line.ensures.by_index.2 in
    let shorter : length next + 1 ≡ length cur = grind (arith, common_steps, c.remove-line.ensures.len) in
    let read = c.index.ensures ∙ get_or_default cur i c.index.result.now entry within ∙ entry_at entries cur hash i entry lt left in
    let same : bytes_eq (get_or entries i entry).added.hash hash ≡ true = ap (λ (e : Standing). bytes_eq e.added.hash hash) (sym read) ∙ sym c.eq.ensures ∙ c.if-eq.true in
    let step = bytes_gone cur next i entry within cut in
    let prefix = c.published.ensures.value ∙ ap (λ (e : Standing). prefix_of e.added) c.remove-line.ensures.value in
    let further = c.further_bytes.ensures ∙ ap (λ (b : Bool). cond b 0 (length c.published.result.now)) (published_lines c.deref.result.now c.published.result.now)
    ∙ ap (λ (es : List Standing). cond (is_published_in (added_of es) c.published.result.now) 0 (length c.published.result.now)) c.deref.ensures.value
    ∙ ap (λ (p : List ℕ). cond (is_published_in (added_of next) p) 0 (length p)) prefix in
    record {
      left = left_at-goes entries cur next hash i entry lt same left cut;
      within = omega (arith, lt);
      more = omega (arith, shorter, within);
      hashes = omega (arith, shorter, c.back.invariant.hashes);
      bytes = λ small. let before = c.back.invariant.bytes small in omega (arith, step, further, before, c.saturating_add-bytes.ensures);
    }
