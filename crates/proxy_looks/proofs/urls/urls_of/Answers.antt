use Rattle.std.proofs.Common.{◌++◌, ◌∷◌, [], List, map, take, sym, ap, ◌∙◌, subst}
use Rattle.std.specs.Prelude.{All}
use Rattle.std.proofs.lemmas.List.{map_more}
use Rattle.std.proofs.lemmas.List.Elements.{All-push}
use Rattle.proxy_looks.specs.Urls.{url_asked, IsAskableUrl}
use Rattle.proxy_looks.specs.declared.urls.LookUrl.{LookUrl}
use Rattle.proxy_looks.proofs.urls.urls_of.Goals as goal

pub loop-url-preserved : goal.loop-url-preserved
loop-url-preserved c =
    let at = c.loop-url in
    let one = c.in_ok-url_of.field-0 in
    let asked = url_asked c.args.lists.now c.args.request.now in
    let items = c.as_slice-url-items.result.now in
    record {
      items = at.invariant.items;
      are =
          c.in_ok-push.ensures.ok
          ∙ ap (λ (done : List LookUrl). done ++ one ∷ []) at.invariant.are
          ∙ ap (λ (last : LookUrl). map asked (take at.url-index items) ++ last ∷ []) (c.in_ok-url_of.ensures.is ∙ ap asked c.url-item.is)
          ∙ sym (map_more asked items at.url-index c.url-item.result c.loop-url-test.true);
      askable = subst (λ (done : List LookUrl). All IsAskableUrl done) (sym c.in_ok-push.ensures.ok) (All-push IsAskableUrl at.urls one at.invariant.askable c.in_ok-url_of.ensures.askable);
    }
