-- What both moves share: a plan is moved where judging passes it (`if_passed`), and a test can refuse it (`refused_unless`).
use Rattle.std.specs.Prelude.{ℕ, Bool, true, false}
use Rattle.sheets.specs.Answers.{Written, Refused}
use Rattle.rules.specs.Judge.{Judged, Passed, Refused as Unfit}

-- the answer `next` of a plan that passed (`Unfit` is the judge's `Refused`)
unfoldable pub if_passed : Judged → Written → Written
if_passed (Passed cost) next = next
if_passed (Unfit number paper) next = Refused number paper

-- the answer `next` where the test holds
unfoldable pub refused_unless : Bool → ℕ → ℕ → Written → Written
refused_unless true number paper next = next
refused_unless false number paper next = Refused number paper
