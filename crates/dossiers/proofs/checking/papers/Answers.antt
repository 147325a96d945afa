-- The lengths that were read end with the dossier.
use native.Mathlib.Omega.{arith}
use Rattle.dossiers.proofs.PartLaws.{head-whole}
use Rattle.dossiers.proofs.checking.papers.Goals as goal

pub slice_bounds-result-end : goal.slice_bounds-result-end
slice_bounds-result-end c = let w = head-whole c.args.dossier.now c.requires in omega arith

pub slice_bounds-result-end-2 : goal.slice_bounds-result-end-2
slice_bounds-result-end-2 c = let w = head-whole c.args.dossier.now c.requires in omega arith

pub slice_bounds-result-count-3 : goal.slice_bounds-result-count-3
slice_bounds-result-count-3 c = let w = head-whole c.args.dossier.now c.requires in omega arith

pub slice_bounds-result-start-3 : goal.slice_bounds-result-start-3
slice_bounds-result-start-3 c = let w = head-whole c.args.dossier.now c.requires in omega arith

pub returns-clause-note : goal.returns-clause-note
returns-clause-note c =
    let w = head-whole c.args.dossier.now c.requires in
    rw (c.length_in-plan_at.ensures.0, c.length_in.ensures.0, ← w.3)
