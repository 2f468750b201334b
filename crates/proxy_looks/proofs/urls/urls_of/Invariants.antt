use Rattle.std.proofs.Common.{◌≡◌, All, map, take}
use Rattle.proxy_looks.specs.Urls.{url_asked, IsAskableUrl}
use Rattle.proxy_looks.proofs.urls.urls_of.Given as goal

abbrev pub invariant-loop-url : goal.invariant-loop-url
invariant-loop-url l = record {
  items : l.url-items ≡ l.request.urls;
  are : l.urls ≡ map (url_asked l.lists l.request) (take l.url-index l.url-items);
  askable : All IsAskableUrl l.urls;
}
