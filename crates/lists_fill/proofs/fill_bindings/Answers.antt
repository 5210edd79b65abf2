-- The list had no binding, so all that are made are those of the events.
use Rattle.std.proofs.Common.{refl, sym}
use Rattle.lists_fill.proofs.Weaving.{made-of-none}
use Rattle.lists_fill.proofs.fill_bindings.Goals as goal

pub returns : goal.returns
returns c id room =
    rw (c.out-1.given.1.1 (sym c.weave_all.ensures.still.list)) (made-of-none refl (c.weave_all.ensures.makes id) room)
