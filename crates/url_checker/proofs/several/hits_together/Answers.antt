use Rattle.std.proofs.Common.{◌≡◌, ◌+◌, ◌++◌, ◌<◌, ◌≤◌, List, length, take, sym, ap, ◌∙◌, arith}
use Rattle.hash_messages.specs.Messages.{most_prefixes}
use Rattle.url_checker.specs.Hits.{prefixes_hit}
use Rattle.url_checker.specs.Several.{all_asked}
use Rattle.url_checker.specs.declared.findings.Hit.{Hit}
use Rattle.url_checker.specs.declared.looking.Looks.{Looks}
use Rattle.url_checker.proofs.SeveralFacts.{asked_more, prefixes_more}
use Rattle.url_checker.proofs.several.hits_together.Goals as goal

pub returns-then-len-gt-MOST_PREFIXES : goal.returns-then-len-gt-MOST_PREFIXES
returns-then-len-gt-MOST_PREFIXES c =
    let law = c.sets_go_by_members.ensures in
    let looks = c.args.looks.now in
    let count = c.loop-count.count in
    let below : count < length looks = omega arith in
    let more : c.in_ok-more.more ≡ prefixes_hit (all_asked (take (count + 1) looks)) =
    prefixes_more law.members law.same looks count c.index-looks-count.result c.as_slice-hits.result.now c.loop-count.set c.in_ok-more.more below
    c.index-looks-count.is (c.as_slice-hits.ensures ∙ ap (λ (look : Looks). look.asked) (sym c.index-looks-count.is)) c.loop-count.invariant.0 c.in_ok-more.ensures in
    let many : most_prefixes < length c.in_ok-more.more = omega (arith, c.len.ensures.value) in
    record {
      within = omega (arith, below);
      asked = c.loop-count.invariant.1;
      few = c.loop-count.invariant.2;
      most = λ _. omega (arith, many, ap length more);
    }

pub loop-count-preserved : goal.loop-count-preserved
loop-count-preserved c =
    let law = c.sets_go_by_members.ensures in
    let looks = c.args.looks.now in
    let count = c.loop-count.count in
    let below : count < length looks = omega arith in
    let more : c.in_ok-more.more ≡ prefixes_hit (all_asked (take (count + 1) looks)) =
    prefixes_more law.members law.same looks count c.index-looks-count.result c.as_slice-hits.result.now c.loop-count.set c.in_ok-more.more below
    c.index-looks-count.is (c.as_slice-hits.ensures ∙ ap (λ (look : Looks). look.asked) (sym c.index-looks-count.is)) c.loop-count.invariant.0 c.in_ok-more.ensures in
    let few : length c.in_ok-more.more ≤ most_prefixes = omega (arith, c.len.ensures.value) in (
      more,
      c.in_ok-append.ensures.ok ∙ ap (λ (asked : List Hit). asked ++ c.as_slice-hits.result.now) c.loop-count.invariant.1
          ∙ ap (λ (last : List Hit). all_asked (take count looks) ++ last) (c.as_slice-hits.ensures ∙ ap (λ (look : Looks). look.asked) (sym c.index-looks-count.is))
          ∙ sym (asked_more looks count c.index-looks-count.result below c.index-looks-count.is),
      omega (arith, few, ap length more),
    )
