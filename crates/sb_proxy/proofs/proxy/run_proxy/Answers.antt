use Rattle.std.proofs.Common.{sym, ◌∙◌, subst, map, string_bytes}
use Rattle.proxy_words.specs.ProxyLine.{ProxyWords}
use Rattle.sb_proxy.specs.Runs.{IsProxyServed}
use Rattle.sb_proxy.proofs.FewLists.{few_lists, one_line, serve_or_tell}
use Rattle.sb_proxy.proofs.proxy.run_proxy.Goals as goal

pub serve-requires-clause-few : goal.serve-requires-clause-few
serve-requires-clause-few g c = few_lists (map string_bytes c.args.words.now) c.in-Ok-Some.line (sym c.in-Ok-Some.ensures ∙ c.in-Ok-Some.field-0-is)

pub returns-in-Ok-Some-clause-serves : goal.returns-in-Ok-Some-clause-serves
returns-in-Ok-Some-clause-serves g c line is =
    let same = one_line c.in-Ok-Some.line line (sym c.in-Ok-Some.field-0-is ∙ c.in-Ok-Some.ensures ∙ is) in
    subst (λ (l : ProxyWords). IsProxyServed l c.serve.result c.args.world.now c.serve.new.world) same c.serve.ensures.served

pub returns-in-Ok-Some-clause-tells : goal.returns-in-Ok-Some-clause-tells
returns-in-Ok-Some-clause-tells g c about is other =
    absurd (serve_or_tell (map string_bytes c.args.words.now) c.in-Ok-Some.line about (sym c.in-Ok-Some.ensures ∙ c.in-Ok-Some.field-0-is) is)
