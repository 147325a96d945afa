-- The paper is the request's where the output is too short.
use Rattle.house.proofs.WriterSteps.{short-stops, other-stops}
use Rattle.house.proofs.writing.stopped.Goals as goal

pub returns-in-OutputShort : goal.returns-in-OutputShort
returns-in-OutputShort c = short-stops _ c.in-OutputShort.is

pub returns-in_default : goal.returns-in_default
returns-in_default c = other-stops _ c.in_default.not-OutputShort
