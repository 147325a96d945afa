-- What is filled behind the table's end is lost.
use borrow.Author.Rules.{rules}
use mathlib.Core.Path.{◌∙◌}
use Rattle.basics.proofs.TableLaws.{cells-min}
use Rattle.sheets.proofs.columns.column.Goals as goal

pub returns : goal.returns
returns g c = c.fill_column.ensures ∙ search (rules, cells-min)
