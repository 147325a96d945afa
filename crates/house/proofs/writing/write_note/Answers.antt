-- The note is written as it is claimed; where nothing is, that is the answer.
use Rattle.std.proofs.lemmas.Result.{err_from_is_err_and}
use Rattle.notes.proofs.CheckLaws.{claim-read}
use Rattle.house.proofs.WriterSteps.{write-claimed, write-unclaimed}
use Rattle.house.proofs.writing.write_note.Goals as goal

pub returns-in_err-claim : goal.returns-in_err-claim
returns-in_err-claim c =
    let p = err_from_is_err_and c.from_residual.result c.from_residual.ensures.1 in
    rw (p.1, p.2) (write-unclaimed _ _ _ _ c.ask-asked.ensures _ c.in_err-claim.was)

pub write_claim-requires : goal.write_claim-requires
write_claim-requires c = claim-read _ _ _ c.ask-asked.ensures _ c.in_ok-claim.was

pub returns : goal.returns
returns c = write-claimed _ _ _ _ c.ask-asked.ensures _ c.in_ok-claim.was c.write_claim.ensures
