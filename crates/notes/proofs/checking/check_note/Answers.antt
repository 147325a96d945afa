-- The job that a claim is of was read.
use Rattle.notes.proofs.CheckLaws.{claim-read}
use Rattle.notes.proofs.checking.check_note.Goals as goal

pub note_fault-requires : goal.note_fault-requires
note_fault-requires c = claim-read _ _ _ c.ask-asked.ensures _ c.in_ok-claim.was
