-- The key's chain goes on at the key that hung in its slot before.
use Rattle.rows.proofs.Chains.{more}
use Rattle.rows.proofs.hang.Goals as goal

pub returns : goal.returns
returns c = more _ _ _ _ c.requires.1.0 c.requires.0
