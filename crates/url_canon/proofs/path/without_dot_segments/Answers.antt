use Rattle.std.proofs.Common.{◌≡◌, ℕ, List, ◌∷◌, ◌++◌, [], map, option_copied, cond, ap, sym, ◌∙◌}
use Rattle.std.specs.List.{fold, slice_split}
use Rattle.url_canon.specs.Words.{last_part}
use Rattle.url_canon.specs.Path.{is_slash, is_dot_segment, with_component, without_dot_segments}
use Rattle.url_canon.proofs.Splits.{parts_after, some-slice_split, last_part-more}
use Rattle.url_canon.proofs.path.without_dot_segments.Goals as goal

closed : (kept components : List (List ℕ)) (last : List ℕ) → kept ≡ fold with_component [] components → last ≡ last_part components → kept ++ cond (is_dot_segment last) ([] ∷ []) [] ≡ without_dot_segments components
unfolding without_dot_segments
closed kept components last all at_last =
    ap (λ k. k ++ cond (is_dot_segment last) ([] ∷ []) []) all ∙ ap (λ l. fold with_component [] components ++ cond (is_dot_segment l) ([] ∷ []) []) at_last

pub loop-rest-init : goal.loop-rest-init
loop-rest-init c =
    (ap (λ items. fold with_component (map (λ c. c.now) items) (slice_split is_slash c.args.path.now)) c.in_ok-kept.ensures.items, last_part-more c.args.path.now (slice_split is_slash c.args.path.now) (some-slice_split is_slash c.args.path.now))

pub returns : goal.returns
returns c =
    let parts = slice_split is_slash c.args.path.now in
    let kept = map (λ c. c.now) c.loop-rest.kept.items in
    let last = c.loop-rest.last.now in
    c.in_ok-add_directory.ensures
    ∙ closed kept parts last (sym (ap (λ rest. fold with_component kept (parts_after is_slash (option_copied rest))) c.in_default.is) ∙ c.loop-rest.invariant.0) (sym (ap (λ rest. last_part (last ∷ parts_after is_slash (option_copied rest))) c.in_default.is) ∙ c.loop-rest.invariant.1)
