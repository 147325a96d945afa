use mathlib.Core.Path.{refl, ◌∙◌}
use lib.ListN.{length-set}
use Rattle.sheets.proofs.ColumnLaws.{none-filled, more-filled}
use Rattle.sheets.proofs.columns.fill_column.Goals as goal

pub loop-i-init : goal.loop-i-init
loop-i-init c = (refl, none-filled _ _)

pub loop-i-preserved : goal.loop-i-preserved
loop-i-preserved c =
    let l = c.loop-i.invariant in
    (length-set c.loop-i.table c.loop-i.i c.field.result ∙ l.0, rw c.field.ensures.0 (more-filled _ c.loop-i.table _ c.loop-i.i l.1))
