use Rattle.std.proofs.Common.{◌≡◌, ◌<◌, ◌+◌, ◌-◌, length, drop, ap, sym, ◌∙◌, arith, length-drop}
use Rattle.std.proofs.lemmas.Bool.{cond-true, le-leb}
use Rattle.std.proofs.lemmas.List.{drop-drop}
use Rattle.url_expressions.specs.Expressions.{components}
use Rattle.url_expressions.proofs.hosts.push_last.Goals as goal

pub returns : goal.returns
returns c =
    let cs = components c.args.host.now in
    let some : c.args.n < length cs + 1 = omega (arith, c.requires.counted, c.if-n-count.false) in
    let more : 1 < length (components (drop c.args.place c.args.host.now)) = omega (arith, ap (λ ds. length ds) c.requires.there, length-drop (c.args.count - c.args.n) cs, c.requires.counted, c.requires.more) in
    let next : c.args.count - c.args.n + 1 ≡ c.args.count - (c.args.n - 1) = omega (arith, c.requires.more, c.if-n-count.false) in
    record {
      within = c.after_dot.ensures.within;
      next = c.after_dot.ensures.value more ∙ (ap (λ ds. drop 1 ds) c.requires.there ∙ (drop-drop 1 (c.args.count - c.args.n) cs ∙ ap (λ k. drop k cs) next));
      places = c.in_ok-push_new.ensures ∙ sym (cond-true _ _ _ (le-leb c.args.n c.args.count c.if-n-count.false));
    }
