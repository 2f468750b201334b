use Rattle.std.proofs.Common.{◌≡◌, ℕ, List, refl, ◌∙◌, ap, map, codes}
use Rattle.std.proofs.lemmas.Str.{chars-encodes}
use Rattle.update_messages.specs.Messages.{AskedList, Request}
use Rattle.update_client.specs.Asked.{asked_list, request_asked}
use Rattle.update_client.specs.Held.{Held}
use Rattle.update_client.specs.declared.options.FetchOptions.{FetchOptions}
use Rattle.update_client.proofs.lists.ClientLists.request.Goals as goal

-- the request of these parts
request_is : (lists : List Held) (options : FetchOptions) (id version : List ℕ) (items : List AskedList) → id ≡ codes "sblist" → version ≡ codes "1" → items ≡ map (asked_list options) lists
    → (let request : Request = record { client = record { id = id; version = version }; items = items } in request) ≡ request_asked lists options
request_is lists options id version items first second third =
    ap (λ (text : List ℕ). let request : Request = record { client = record { id = text; version = version }; items = items } in request) first
    ∙ ap (λ (text : List ℕ). let request : Request = record { client = record { id = codes "sblist"; version = text }; items = items } in request) second
    ∙ ap (λ (asked : List AskedList). let request : Request = record { client = record { id = codes "sblist"; version = codes "1" }; items = asked } in request) third

pub returns : goal.returns
unfolding lib.Utf8.encode
returns c =
    request_is c.args.self.now c.args.options.now c.in_ok-id.id c.in_ok-version.version c.in_ok-items.items (c.in_ok-id.ensures ∙ chars-encodes (codes "sblist") refl)
    (c.in_ok-version.ensures ∙ chars-encodes (codes "1") refl) (c.in_ok-items.ensures ∙ ap (map (asked_list c.args.options.now)) (c.deref.ensures.value ∙ c.self.view_is))
