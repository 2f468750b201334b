use Rattle.std.proofs.Common.{◌≡◌, ◌++◌, ◌∷◌, length, take, codes, All}
use Rattle.std.specs.List.{flat_map}
use Rattle.client_store.specs.Store.{list_text, IsKept}
use Rattle.client_store.specs.declared.format.Format.TheVariants.{EachSize}
use Rattle.client_store.proofs.writing.body.Given as goal

abbrev pub invariant-loop-held : goal.invariant-loop-held
invariant-loop-held l = record {
  text : l.text ≡ codes "SBST" ++ 2 ∷ length l.lists ∷ flat_map (list_text EachSize) (take l.held-index l.lists);
  kept : All IsKept (take l.held-index l.lists);
}
