-- What a reader gives to C, in terms of the sheets' definitions. (A writer's promise is `Promise` of its answer in numbers.)
use Rattle.sheets.specs.Answers.{reading_says}
use Rattle.sheets.specs.JobSheet.{JobRead as JobReading}
use Rattle.sheets.specs.PlanSheet.{PlanRead as PlanReading}
use Rattle.tolmupung.specs.declared.JobRead.{JobRead}
use Rattle.tolmupung.specs.declared.PlanRead.{PlanRead}

abbrev pub job_says : JobReading → JobRead
job_says r = record { answer = reading_says r.answer; job = r.job }

abbrev pub plan_says : PlanReading → PlanRead
plan_says r = record { answer = reading_says r.answer; plan = r.plan }
