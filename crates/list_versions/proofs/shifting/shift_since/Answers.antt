use Rattle.std.proofs.Common.{◌≡◌, ◌∙◌, ℕ, ◌<◌, List, length, take, drop, get_or, sym, ap, subst, arith}
use Rattle.std.proofs.lemmas.List.{take-map}
use Rattle.sb_model.specs.declared.history.Added.{Added}
use Rattle.sb_model.specs.declared.history.Change.{Change}
use Rattle.list_versions.specs.Ends.{Line, adds_of}
use Rattle.list_versions.proofs.Keeping.{adds_few, front_adds}
use Rattle.list_versions.proofs.Standings.{last_after, map_drop, rest_adds}
use Rattle.list_versions.proofs.Versions.{adds_front}
use Rattle.list_versions.proofs.shifting.shift_since.Goals as goal

pub returns-clause-count : goal.returns-clause-count
returns-clause-count c =
    let same = ap (λ (cs : List Change). length (adds_of c.args.list cs)) c.split_at.ensures.front in
    omega (arith, c.adds_count-count.ensures, same, adds_front c.args.list c.args.changes.now c.args.version, adds_few c.args.list c.args.changes.now, c.requires.few)

pub returns-clause-went : goal.returns-clause-went
returns-clause-went c = λ lines adds ends.
    let n = c.adds_count-count.result in
    let same = ap (λ (cs : List Change). length (adds_of c.args.list cs)) c.split_at.ensures.front in
    let count : n ≡ length (adds_of c.args.list (take c.args.version c.args.changes.now)) =
    omega (arith, c.adds_count-count.ensures, same, adds_front c.args.list c.args.changes.now c.args.version, adds_few c.args.list c.args.changes.now, c.requires.few) in
    c.in_ok-went.ensures (take n lines)
    (sym (take-map {Y = Added} (λ (l : Line). l.0) n lines) ∙ ap (take n) adds ∙ ap (λ k. take k (adds_of c.args.list c.args.changes.now)) count ∙ front_adds c.args.list c.args.changes.now c.args.version
    ∙ ap (adds_of c.args.list) (sym c.split_at.ensures.front))
    (sym (take-map {Y = ℕ} (λ (l : Line). l.1) n lines) ∙ ap (take n) ends ∙ sym c.split_at-2.ensures.front)

pub returns-clause-came : goal.returns-clause-came
returns-clause-came c = λ lines adds ends.
    let n = c.adds_count-count.result in
    let same = ap (λ (cs : List Change). length (adds_of c.args.list cs)) c.split_at.ensures.front in
    let count : n ≡ length (adds_of c.args.list (take c.args.version c.args.changes.now)) =
    omega (arith, c.adds_count-count.ensures, same, adds_front c.args.list c.args.changes.now c.args.version, adds_few c.args.list c.args.changes.now, c.requires.few) in
    c.in_ok-came.ensures (drop n lines)
    (map_drop {B = Added} (λ (l : Line). l.0) n lines ∙ ap (drop n) adds ∙ ap (λ k. drop k (adds_of c.args.list c.args.changes.now)) count ∙ rest_adds c.args.list c.args.changes.now c.args.version
    ∙ ap (adds_of c.args.list) (sym c.split_at.ensures.back))
    (map_drop {B = ℕ} (λ (l : Line). l.1) n lines ∙ ap (drop n) ends ∙ sym c.split_at-2.ensures.back)
    ∙ last_after n lines (λ i. subst (λ (es : List ℕ). get_or es i 0 < 4294967296) (sym ends) (c.type_inv.ends i).fits)
