use Rattle.std.proofs.Common.{◌≡◌, ◌≤◌, take}
use Rattle.hash_messages.specs.Messages.{most_prefixes}
use Rattle.url_checker.specs.Hits.{prefixes_hit}
use Rattle.url_checker.specs.Several.{all_asked, prefixes_of_first}
use Rattle.url_checker.proofs.several.hits_together.Given as goal

abbrev pub invariant-loop-count : goal.invariant-loop-count
invariant-loop-count l =
    (l.set ≡ prefixes_hit (all_asked (take l.count l.looks)))
    × (l.asked ≡ all_asked (take l.count l.looks))
    × (prefixes_of_first l.count l.looks ≤ most_prefixes)
