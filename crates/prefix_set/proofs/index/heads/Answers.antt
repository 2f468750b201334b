use Rattle.std.proofs.Common.{ℕ, ◌<◌, List, length, slice_index}
use Rattle.sb_model.specs.History.{IsPrefixSize}
use Rattle.prefix_set.proofs.IndexFacts.{All-next, heads_more}
use Rattle.prefix_set.proofs.index.heads.Goals as goal

pub loop-i-preserved : goal.loop-i-preserved
loop-i-preserved c = record {
  heads = heads_more c.args.members.now c.loop-i.i c.head_of.result c.at.result.now c.loop-i.heads.items c.push.new.self.items c.at.ensures.value c.head_of.ensures.value
      c.loop-i.invariant.heads c.in_ok-push.ensures.items;
  prefixes = All-next (λ (x : List ℕ). IsPrefixSize (length x)) c.args.members.now c.loop-i.i c.at.result.now c.at.ensures.value c.loop-i.invariant.prefixes c.at.ensures.size;
  second = All-next (λ (x : List ℕ). slice_index x 1 < 256) c.args.members.now c.loop-i.i c.at.result.now c.at.ensures.value c.loop-i.invariant.second c.head_of.ensures.second;
}
