use Rattle.std.proofs.Common.{◌≡◌, ◌≤◌, List, length, sym, ap, subst, ◌∙◌, arith}
use Rattle.std.specs.Prelude.{All}
use Rattle.std.specs.List.{flat_map}
use Rattle.hash_prefixes.specs.declared.hashes.FullHash.{FullHash}
use Rattle.update_client.specs.Held.{Held}
use Rattle.url_checker.specs.declared.findings.Hit.{Hit}
use Rattle.url_hashes.specs.Hashes.{IsWholeHash}
use Rattle.url_checker.specs.Hits.{hits_on, BeginsHash, prefixes_hit, MarksAll}
use Rattle.url_checker.proofs.FewPrefixes.{few_prefixes, begins_each}
use Rattle.url_checker.proofs.hits.hits.Goals as goal

-- the hits of these hashes on these lists
made : (hits : List Hit) (hashes own : List FullHash) (lists held : List Held) → hits ≡ flat_map (hits_on own) held → own ≡ hashes → held ≡ lists → hits ≡ flat_map (hits_on hashes) lists
made hits hashes own lists held are same also =
    are ∙ ap (λ (hs : List FullHash). flat_map (hits_on hs) held) same ∙ ap (λ (ls : List Held). flat_map (hits_on hashes) ls) also

pub hits_on_lists-requires : goal.hits_on_lists-requires
hits_on_lists-requires c = record {
  marked = subst (λ (lists : List Held). MarksAll c.args.sizes.now.marks lists) (sym c.lists.ensures.value) c.requires.marked;
  whole = subst (λ (hashes : List FullHash). All IsWholeHash hashes) (sym c.as_slice.ensures) c.in_ok-hashes.ensures.whole;
}

pub returns : goal.returns
returns c =
    let own = c.in_ok-hashes.hashes in
    let lists = c.args.lists.now in
    let as_made : c.in_ok-hits.hits ≡ flat_map (hits_on own) lists =
    made c.in_ok-hits.hits own c.as_slice.result.now lists c.lists.result.now c.in_ok-hits.ensures c.as_slice.ensures c.lists.ensures.value in
    let few : length (prefixes_hit c.in_ok-hits.hits) ≤ 870 =
    subst (λ (hits : List Hit). length (prefixes_hit hits) ≤ 870) (sym as_made)
    (few_prefixes c.sets_go_by_members.ensures.rising c.sets_go_by_members.ensures.members own lists c.in_ok-hashes.ensures.few) in
    record {
      value = as_made ∙ ap (λ (hs : List FullHash). flat_map (hits_on hs) lists) c.in_ok-hashes.ensures.value;
      askable = record {
        begin = subst (All BeginsHash) (sym as_made) (begins_each own lists);
        few = omega (arith, few);
      };
      few = few;
    }
