use Rattle.std.proofs.Common.{◌≡◌, ◌+◌, true, take, drop, get_or, refl, sym, ap, subst, ◌∙◌}
use Rattle.sb_model.specs.declared.names.ThreatType.TheVariants.{Malware}
use Rattle.sb_model.specs.declared.names.PlatformType.TheVariants.{Windows}
use Rattle.sb_model.specs.declared.names.EntryType.TheVariants.{Url}
use Rattle.sb_model.specs.declared.names.ListName.{ListName}
use Rattle.hash_messages.specs.Matches.{asks_list}
use Rattle.full_hash_cache.specs.Cache.{pairs_of, pairs_asked, IsPartlyTaken}
use Rattle.full_hash_cache.proofs.Steps.{on_err, parted, partly}
use Rattle.full_hash_cache.proofs.cache.FullHashCache.take.Goals as goal

pub returns-in_err-take_list-clause-err : goal.returns-in_err-take_list-clause-err
returns-in_err-take_list-clause-err c =
    let at = c.args.at in
    let response = c.args.response.now in
    let asked = c.args.request.now in
    let lists = c.args.lists.now in
    let i = c.loop-list.list-index in
    let d : ListName = record { threat = Malware; platform = Windows; entry = Url } in
    let x = get_or lists i d in
    let prefixes = c.as_slice.ensures ∙ ap (λ r. r.prefixes) c.request.view_is in
    let part : IsPartlyTaken at response (pairs_of asked.prefixes x) c.loop-list.self c.take_list.new.self
    = subst (λ p. IsPartlyTaken at response (pairs_of p x) c.loop-list.self c.take_list.new.self) prefixes c.in_err-take_list.ensures.err in
    let wanted : asks_list asked x ≡ true = sym c.asks.ensures ∙ c.if-asks.true in
    let whole = partly at response (pairs_asked asked (take i lists)) (pairs_of asked.prefixes x) (pairs_asked asked (drop (i + 1) lists))
    c.args.self.now c.loop-list.self c.take_list.new.self c.loop-list.invariant part in
    let all : IsPartlyTaken at response (pairs_asked asked lists) c.args.self.now c.take_list.new.self
    = subst (λ p. IsPartlyTaken at response p c.args.self.now c.take_list.new.self) (sym (parted asked lists i x d c.loop-list-test.true refl wanted)) whole in
    on_err _ _ all
