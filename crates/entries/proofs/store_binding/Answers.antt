-- Where one fits, its variable is what the new one replaces; where none does, the place is past the last, if there is room.
use Rattle.std.proofs.Common.{arith}
use Rattle.entries.specs.Filled.{binding_words}
use Rattle.entries.proofs.Placing.{stored-again, stored-anew, not-stored}
use Rattle.entries.proofs.store_binding.Goals as goal

pub returns-then-i-m : goal.returns-then-i-m
unfolding binding_words
returns-then-i-m c =
    rw c.set_entry.ensures (stored-again c.args.b c.if-i-m.true c.requires.1)

pub returns-then-out-m : goal.returns-then-out-m
returns-then-out-m c =
    not-stored c.args.b (omega (arith, c.requires.0, c.if-i-m.false)) c.requires.1 c.if-out-m.true

pub returns : goal.returns
unfolding binding_words
returns c =
    rw c.set_entry-2.ensures (stored-anew c.args.b (omega (arith, c.requires.0, c.if-i-m.false)) c.if-out-m.false)
