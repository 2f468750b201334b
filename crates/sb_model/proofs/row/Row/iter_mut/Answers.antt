use Rattle.std.proofs.Common.{◌≡◌, sym, ap, ◌∙◌, take, drop, length, ◌++◌, List}
use Rattle.sb_model.specs.Lending.{refilled}
use Rattle.sb_model.proofs.row.Row.iter_mut.Goals as goal

pub returns : goal.returns
returns g c = (
  (
    sym c.iter_mut.ensures.iter_mut_name,
    λ w.
        let counted : take c.self.inside.items.len (w ++ drop (length w) c.self.inside.items.items) ≡ refilled c.self.inside.items.items w
        = ap (λ n. take n (w ++ drop (length w) c.self.inside.items.items)) c.self.inside.items.ok.0 in
        counted ∙ ap (λ (old : List g.row.T.Denot). refilled old w) c.self.view_is,
  ),
  record { writes_back = tt; value = c.iter_mut.ensures.rest ∙ c.as_mut_slice.ensures.value ∙ c.self.view_is },
)
