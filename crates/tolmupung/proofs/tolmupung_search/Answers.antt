-- The refusal is converted as the definition has it.
use mathlib.Core.Path.{ap, ◌∙◌}
use Rattle.search.specs.Search.{searched_says}
use Rattle.search.proofs.SearchSays.{searched-said}
use Rattle.tolmupung.proofs.tolmupung_search.Goals as goal

pub returns : goal.returns
returns c =
    let w = c.search.ensures in
    record { told = searched-said _ _ c.searched_says.ensures.found c.searched_says.ensures.refused ∙ ap searched_says w.told; bytes = w.bytes }
