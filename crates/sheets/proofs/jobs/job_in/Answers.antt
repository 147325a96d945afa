-- Each field and each column is the definition's.
use Rattle.sheets.specs.JobSheet.{job_of}
use Rattle.sheets.proofs.jobs.job_in.Goals as goal

pub returns : goal.returns
unfolding job_of
returns c =
    let h = c.job_head-head.ensures in
    simp (c.pair_column-2.ensures, c.pair_column.ensures, c.column-5.ensures, c.column-4.ensures, c.column-3.ensures, c.column-2.ensures, c.column.ensures, c.types_at-types.ensures, c.links_at-links.ensures, h.ops, h.links, h.types, h.steps, h.clock, h.wire)
