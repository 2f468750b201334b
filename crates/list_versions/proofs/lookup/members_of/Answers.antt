use Rattle.std.proofs.Common.{◌∙◌, ◌∷◌, ◌++◌, [], ap, sym, map, take, add-one}
use Rattle.std.specs.Prelude.{ℕ, List}
use Rattle.std.proofs.lemmas.List.{map-append}
use Rattle.hash_prefixes.specs.declared.hashes.FullHash.{FullHash}
use Rattle.list_versions.proofs.Begun.{take_next}
use Rattle.list_versions.proofs.lookup.members_of.Goals as goal

pub loop-i-preserved : goal.loop-i-preserved
loop-i-preserved c =
    ap (map (λ (hash : FullHash). hash.bytes)) c.in_ok-push.ensures.ok ∙ map-append {B = List ℕ} (λ (hash : FullHash). hash.bytes) c.loop-i.row (c.full_hash_of.result ∷ [])
    ∙ ap (λ hs. hs ++ c.full_hash_of.result.bytes ∷ []) c.loop-i.invariant ∙ ap (λ h. take c.loop-i.i c.args.set.now ++ h ∷ []) c.full_hash_of.ensures
    ∙ rw add-one (sym (take_next c.args.set.now c.loop-i.i c.at.result c.at.ensures))
