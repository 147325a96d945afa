-- The sheet is written from blank bytes; a whole one is copied.
use mathlib.Core.Path.{refl}
use Rattle.house.proofs.WriterSteps.{ends-written, ends-refused}
use Rattle.house.proofs.writing.write_claim.Goals as goal

pub returns-in-Ok : goal.returns-in-Ok
returns-in-Ok c =
    rw c.bytes_for-length.ensures (ends-written _ c.requires _ c.args.out.now c.room_of-room.ensures refl c.in-Ok.ensures (rw (c.copy_from_slice.ensures.after, c.bytes_for-length.ensures)))

pub returns-in-Err : goal.returns-in-Err
returns-in-Err c =
    ends-refused _ c.requires _ c.args.out.now c.room_of-room.ensures refl _ c.in-Err.ensures c.stopped.ensures
