use borrow.Author.Rules.{rules}
use Rattle.verdict.proofs.LineLaws.{line-nothing}
use Rattle.verdict.proofs.line_of.Goals as goal

pub returns-in-Ok-None : goal.returns-in-Ok-None
returns-in-Ok-None c = search (rules, line-nothing c.new-line.ensures c.push_str-in-Ok-None.ensures.bytes)
