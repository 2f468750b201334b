use Rattle.std.proofs.Common.{◌≡◌, ℕ, ◌+◌, ◌<◌, List, [], ◌∷◌, ◌++◌, length, get_or, take, codes, sym, ap, subst, ◌∙◌, arith}
use Rattle.std.specs.List.{flat_map}
use Rattle.std.proofs.lemmas.List.{take_more, flat_map_more}
use Rattle.std.proofs.lemmas.List.Elements.{All-more}
use Rattle.update_client.specs.Held.{Held}
use Rattle.client_store.specs.declared.format.Format.TheVariants.{EachSize}
use Rattle.client_store.specs.Store.{list_text, IsKept}
use Rattle.client_store.proofs.writing.body.Goals as goal

pub loop-held-preserved : goal.loop-held-preserved
loop-held-preserved c =
    let so_far = c.loop-held.invariant in
    let lists : List Held = c.lists-lists.result.now in
    let held : Held = c.held-item.result in
    let is : held ≡ get_or lists c.loop-held.held-index held = c.held-item.is in
    let below : c.loop-held.held-index < length lists = omega arith in
    let more : take (c.loop-held.held-index + 1) lists ≡ take c.loop-held.held-index lists ++ held ∷ [] =
    take_more lists c.loop-held.held-index held below ∙ ap (λ h. take c.loop-held.held-index lists ++ h ∷ []) (sym is)
    in
    let head : List ℕ = codes "SBST" ++ 2 ∷ length lists ∷ [] in
    record {
      text =
          c.in_ok-push_list.ensures.text
          ∙ ap (λ t. t ++ list_text EachSize held) so_far.text
          ∙ flat_map_more (list_text EachSize) head (take c.loop-held.held-index lists) held
          ∙ ap (λ hs. head ++ flat_map (list_text EachSize) hs) (sym more);
      kept = All-more IsKept lists c.loop-held.held-index held below so_far.kept (subst IsKept is c.in_ok-push_list.ensures.kept);
    }
