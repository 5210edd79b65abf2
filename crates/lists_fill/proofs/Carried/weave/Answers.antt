-- What is carried over the event's barrier is bound, and then the event's own binding.
use Rattle.lists_fill.proofs.Weaving.{leave-more}
use Rattle.lists_fill.proofs.Carried.weave.Goals as goal

pub returns-clause-weaves : goal.returns-clause-weaves
returns-clause-weaves c id =
    rw (← c.root_of.ensures id) (leave-more c.adopt-met.ensures.adopts (c.add_binding.ensures.makes id))
