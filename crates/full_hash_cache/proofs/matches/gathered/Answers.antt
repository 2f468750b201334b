use Rattle.std.proofs.Common.{◌≡◌, ◌+◌, true, false, ◌∷◌, drop, sym, ap, subst, ◌∙◌}
use Rattle.std.specs.List.{fold}
use Rattle.sb_model.specs.Names.{same_name}
use Rattle.sb_model.specs.Time.{later_than}
use Rattle.full_hash_cache.specs.Cache.{with_match, ending, matches_for}
use Rattle.full_hash_cache.specs.Keys.{IsFullHash, HasFullHashes}
use Rattle.full_hash_cache.proofs.Ranges.{full_with}
use Rattle.full_hash_cache.proofs.Steps.{next, told, kept_step, skip_step}
use Rattle.full_hash_cache.proofs.matches.gathered.Goals as goal
use Rattle.full_hash_cache.proofs.matches.gathered.Goals.{then-is_of+in_ok-put_match, else-is_of}

pub loop-one-preserved : goal.loop-one-preserved
loop-one-preserved c =
    let at = c.args.at in
    let list = c.args.list in
    let i = c.loop-one.one-index in
    let x = c.one-item.result in
    let had = c.loop-one.matches.entries in
    let rest = drop (i + 1) c.args.found.now in
    let split = next c.args.found.now i x x c.loop-one-test.true c.one-item.is in
    let before : fold with_match had (told at list (x ∷ rest)) ≡ matches_for at list c.args.found.now
    = subst (λ l. fold with_match had (told at list l) ≡ matches_for at list c.args.found.now) split c.loop-one.invariant.rest in
    elim c.if-is_of.branch [
      | then-is_of+in_ok-put_match w ↦
          let yes : same_name x.name list ≡ true = sym c.is_of.ensures ∙ w.if-is_of.true in
          let end = w.later-end.ensures ∙ ap (later_than at) w.cache_ms.ensures in
          let made : c.if-is_of.matches.entries ≡ with_match had (ending at x)
          = ap (λ m. m.entries) w.matches-is ∙ w.in_ok-put_match.ensures ∙ (λ k. with_match had (w.hash_of.ensures.value k, end k)) in
          let is : IsFullHash x.hash = subst IsFullHash w.hash_of.ensures.value w.hash_of.ensures.full in
          record {
            rest = ap (λ m. fold with_match m (told at list rest)) made ∙ kept_step had at list x rest yes ∙ before;
            full = subst HasFullHashes (sym made) (full_with had (ending at x) c.loop-one.invariant.full is);
          }
      | else-is_of w ↦
          let no : same_name x.name list ≡ false = sym c.is_of.ensures ∙ w.if-is_of.false in
          let made : c.if-is_of.matches.entries ≡ had = ap (λ m. m.entries) w.matches-is in
          record {
            rest = ap (λ m. fold with_match m (told at list rest)) made ∙ skip_step had at list x rest no ∙ before;
            full = subst HasFullHashes (sym made) c.loop-one.invariant.full;
          }
    ]
