-- What was stored in the part is stored in the list (`into-front`).
use Rattle.std.proofs.Common.{◌≡◌, ◌++◌, ◌∙◌, drop, length-take-le, arith, ap, List}
use Rattle.finding.specs.declared.Finding.{Finding}
use Rattle.finding.proofs.Storing.{into-front}
use Rattle.finding.proofs.store_all.Goals as goal

pub returns : goal.returns
returns c =
    let a = c.args in
    let all : c.loop-i.i ≡ a.count = omega (arith, length-take-le a.count a.list.now c.requires.0) in
    ap (λ (t : List Finding). t ++ drop a.count a.list.now) (rw all at c.loop-i.invariant) ∙ into-front a.list.now a.flat.now a.count a.count (omega arith) c.requires.0
