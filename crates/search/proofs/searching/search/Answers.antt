-- A job that is read is searched.
use Rattle.std.proofs.lemmas.Result.{err_from_is_err_and}
use Rattle.search.proofs.SearchSteps.{ends_read, ends-unread, was_read}
use Rattle.search.proofs.searching.search.Goals as goal

pub returns-in_err-job : goal.returns-in_err-job
returns-in_err-job c =
    let p = err_from_is_err_and c.from_residual.result c.from_residual.ensures.1 in
    rw (p.1, p.2) (ends-unread _ _ _ _ c.in_err-job.ensures.read)

pub search_job-requires : goal.search_job-requires
search_job-requires c = was_read _ _ c.in_ok-job.ensures.read

pub returns : goal.returns
returns c = ends_read _ _ _ _ c.in_ok-job.ensures.read c.search_job.ensures
