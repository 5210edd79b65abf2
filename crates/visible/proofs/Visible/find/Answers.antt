-- The table says where the newest entry stands, and what stands there is the answer.
use native.Mathlib.Omega.{arith}
use mathlib.Core.Path.{sym}
use Rattle.scope.specs.Graph.{indexed}
use Rattle.visible.proofs.Places.{told, far, near-head}
use Rattle.visible.proofs.Visible.find.Goals as goal

pub bounds-self-k : goal.bounds-self-k
bounds-self-k c = omega (arith, near-head c.requires c.if-x-self.true)

pub bounds-self-k-then-i-gt0 : goal.bounds-self-k-then-i-gt0
bounds-self-k-then-i-gt0 c = omega (arith, near-head c.requires c.if-x-self.true)

pub returns-then-i-gt0 : goal.returns-then-i-gt0
returns-then-i-gt0 c =
    let v = c.args.self.now in sym ((told (indexed c.args.x) v.names v.top v.words.now).1 _ (omega (arith, c.requires.heads c.args.x c.if-x-self.true)))

pub returns-else-i-gt0 : goal.returns-else-i-gt0
returns-else-i-gt0 c =
    let v = c.args.self.now in sym ((told (indexed c.args.x) v.names v.top v.words.now).0 (omega (arith, c.requires.heads c.args.x c.if-x-self.true)))

pub returns-else-x-self : goal.returns-else-x-self
returns-else-x-self c =
    let v = c.args.self.now in sym ((told (indexed c.args.x) v.names v.top v.words.now).0 (far c.args.x v.names v.top v.words.now c.requires.named (omega arith)))
