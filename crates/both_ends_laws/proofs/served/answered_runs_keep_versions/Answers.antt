use Rattle.both_ends_laws.proofs.Completing.{runs_keep_versions}
use Rattle.both_ends_laws.proofs.Requests.{asked_reads_again}
use Rattle.both_ends_laws.proofs.served.answered_runs_keep_versions.Goals as goal

pub returns : goal.returns
returns c =
    runs_keep_versions (record {
      passes = c.passes.ensures;
      one_body = c.one_body.ensures.session;
      one_request = c.values_read_one_way.ensures.request;
      one_response = c.values_read_one_way.ensures.response;
      no_fault = λ value message reads. (c.values_read_or_have_a_fault.ensures.response value).0 (message, reads);
      again = asked_reads_again c.written_values_read_again.ensures.request c.written_values_read_again.ensures.request_depth c.fetch_requests_are_not_too_dense.ensures;
    })
    (λ a b h. (c.names_go_by_their_codes.ensures.same a b).0 h) c.targets_are_the_greatest.ensures.greatest c.targets_are_the_greatest.ensures.last
