-- Without an entry any multiplier does (`chosen`).
use Rattle.std.proofs.Common.{refl}
use Rattle.rowless.proofs.Entries.{chosen}
use Rattle.rowless.proofs.Rowless.choose.Goals as goal

pub returns-then-self-eq0 : goal.returns-then-self-eq0
returns-then-self-eq0 c =
    record { same = refl; sound = chosen _ _ c.if-self-eq0.true c.requires.1 }
