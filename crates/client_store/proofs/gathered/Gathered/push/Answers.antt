use Rattle.std.proofs.Common.{◌≡◌, ℕ, ◌+◌, ◌≤◌, true, List, [], ◌∷◌, ◌++◌, length, sym, ap, ◌∙◌, arith}
use Rattle.sb_model.specs.Prefixes.{concatenation}
use Rattle.prefix_set.specs.Edits.{EditLists}
use Rattle.client_store.specs.Reading.{last_of, may_follow}
use Rattle.client_store.specs.Gathered.{IsGathered}
use Rattle.client_store.proofs.Members.{has_room}
use Rattle.client_store.proofs.Rising.{last-push, bytes-push}
use Rattle.client_store.proofs.gathered.Gathered.push.Goals as goal

pushed : (edit after : EditLists) (last : List ℕ) (total : ℕ) (set : List (List ℕ)) (prefix own : List ℕ) → IsGathered edit last total → edit.additions ≡ set → may_follow set prefix ≡ true → own ≡ prefix
    → after.additions ≡ edit.additions ++ own ∷ [] → IsGathered after prefix (total + length prefix)
pushed edit after last total set prefix own old view follows same is =
    let additions : after.additions ≡ set ++ prefix ∷ [] = is ∙ ap (λ (p : List ℕ). edit.additions ++ p ∷ []) same ∙ ap (λ (s : List (List ℕ)). s ++ prefix ∷ []) view in
    let bytes : length (concatenation after.additions) ≡ length (concatenation set) + length prefix = ap (λ (s : List (List ℕ)). length (concatenation s)) additions ∙ bytes-push set prefix in
    let before : total ≡ length (concatenation set) = old.total_is ∙ ap (λ (s : List (List ℕ)). length (concatenation s)) view in
    let room : length (concatenation set) + length prefix ≤ _ = has_room set prefix follows in
    record {
      last_is = sym (ap last_of additions ∙ last-push set prefix);
      total_is = omega (arith, bytes, before);
      within = omega (arith, before, room);
    }

pub invariant_of-self-2 : goal.invariant_of-self-2
invariant_of-self-2 c =
    let view : c.self.inside.edit.additions ≡ c.args.self.now = cc in
    let is : c.add.new.self.additions ≡ c.self.inside.edit.additions ++ c.in-Some.own ∷ [] = ap (λ (e : EditLists). e.additions) c.in_ok-add.ensures.ok in
    pushed c.self.inside.edit c.add.new.self c.self.inside.last.now c.self.inside.total c.args.self.now c.args.prefix.now c.in-Some.own c.self.invariant view c.requires.follows c.in-Some.ensures.value is
