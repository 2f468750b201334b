use Rattle.std.proofs.Common.{[], false, refl, inl}
use Rattle.std.proofs.lemmas.Result.{err_from_is_err_and}
use Rattle.http_edge.proofs.Fronts.{gives_nothing}
use Rattle.http_edge.proofs.RequestReads.{reads_request}
use Rattle.http_edge.proofs.requests.read_request.Goals as goal

pub returns-in_default-clause-outcome : goal.returns-in_default-clause-outcome
returns-in_default-clause-outcome g c = ([], false, gives_nothing _, tt, reads_request [] false _ (inl refl) (λ void. absurd (cc)) (λ void. absurd (cc)))

pub returns-in_err-parts-clause-kept : goal.returns-in_err-parts-clause-kept
returns-in_err-parts-clause-kept g c = let p = err_from_is_err_and c.from_residual.result c.from_residual.ensures.1 in rw (p.1, p.2) (λ not. c.in_err-parts.ensures.kept (λ same. not (cc)))
