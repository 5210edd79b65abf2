-- Five tests, all of them made.
use Rattle.checker.specs.Checked.{roomy, each}
use Rattle.checker.proofs.Lists+u32.have_room.Goals as goal

pub returns : goal.returns
unfolding roomy each
returns c =
    rw (c.has_room-a.ensures, c.has_room-b.ensures, c.has_room-c.ensures, c.has_room-d.ensures, c.has_room-e.ensures)
