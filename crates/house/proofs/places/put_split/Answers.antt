-- One field behind the other.
use Rattle.bits.specs.Sheet.{put_all}
use Rattle.house.proofs.places.put_split.Goals as goal

pub returns : goal.returns
unfolding put_all
returns c = rw (c.put-2.ensures, c.put.ensures)
