-- The header, then the tree from nothing placed.
use mathlib.Core.Path.{◌∙◌}
use native.Mathlib.Omega.{arith}
use Rattle.basics.proofs.CountLaws.{only-small}
use Rattle.placing.proofs.BoardLaws.{board-read, read-limits}
use Rattle.placing.proofs.ReadyLaws.{none-ready}
use Rattle.house.proofs.WriteLaws.{put-length}
use Rattle.house.proofs.WriterSteps.{none-order, head-stops, tree-drafts}
use Rattle.house.proofs.writing.write_sheet.Goals as goal

pub returns-then-room-lt-NOTE_HEAD : goal.returns-then-room-lt-NOTE_HEAD
returns-then-room-lt-NOTE_HEAD c = head-stops _ _ _ _ c.if-room-lt-NOTE_HEAD.true

pub put-requires-2 : goal.put-requires-2
put-requires-2 c =
    (omega arith, omega (arith, c.if-room-lt-NOTE_HEAD.false, c.requires.1, put-length _ _ _ _ c.put.ensures), rw c.only.ensures (omega (arith, only-small c.is_some.result 1)))

pub board_of-board-requires : goal.board_of-board-requires
board_of-board-requires c = read-limits _ c.requires.0

pub place-requires : goal.place-requires
place-requires c =
    let w = c.requires in
    let of = board-read _ w.0 c.board_of-board.ensures in
    record {
      ready = rw (c.none.ensures.rows, c.none.ensures.lows) (none-ready _ of 0 (omega arith));
      order = rw c.none.ensures.rows none-order;
      room =
          (c.if-room-lt-NOTE_HEAD.false, omega (arith, w.1, put-length _ _ _ _ c.put.ensures, put-length _ _ _ _ c.put-2.ensures));
    }

pub shape_of-sheet : goal.shape_of-sheet
shape_of-sheet c = c.place.ensures.drafts.size ∙ put-length _ _ _ _ c.put-2.ensures ∙ put-length _ _ _ _ c.put.ensures

pub returns : goal.returns
returns c =
    tree-drafts _ c.args.claim _ _ _ c.board_of-board.ensures c.if-room-lt-NOTE_HEAD.false c.put.ensures (rw (c.only.ensures, c.is_some.ensures) at c.put-2.ensures) (rw c.none.ensures.rows at c.place.ensures.drafts)
