use Rattle.std.proofs.Common.{◌∙◌}
use Rattle.judge_run.proofs.ReportFacts.{page_written, front_of_pages}
use Rattle.judge_run.proofs.reporting.write_pages.Goals as goal

pub loop-page-preserved : goal.loop-page-preserved
loop-page-preserved g c = record {
  text = page_written _ _ _ c.args.pages.now c.loop-page.page-index c.page-item.result c.as_slice.result.now c.page-item.is c.as_slice.ensures c.loop-page-test.true c.loop-page.invariant.text c.in_default.ensures.text;
  kept = c.in_default.ensures.kept ∙ c.loop-page.invariant.kept;
}

pub returns-in-Err-clause-front : goal.returns-in-Err-clause-front
returns-in-Err-clause-front g c =
    front_of_pages _ _ _ c.args.pages.now c.loop-page.page-index c.page-item.result c.as_slice.result.now c.page-item.is c.as_slice.ensures c.loop-page-test.true c.loop-page.invariant.text c.in-Err.ensures.front
