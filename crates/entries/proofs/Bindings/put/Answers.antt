-- The place is found, the stamps come to know of the binding, and it is stored there.
use Rattle.entries.proofs.Stamping.{one-made}
use Rattle.entries.proofs.Bindings.put.Goals as goal

pub returns-clause-makes : goal.returns-clause-makes
returns-clause-makes c =
    one-made c.args.b c.place_for-i.ensures c.mark.ensures c.store_binding-self.ensures
