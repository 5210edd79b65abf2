-- Left for the height, or for nothing, and then the pairs are seen.
use native.Mathlib.Omega.{arith}
use mathlib.Core.Path.{ap}
use Rattle.visible.specs.Visible.{seens, Descends}
use Rattle.steps.specs.declared.Walk.{Walk}
use Rattle.with_walk.proofs.see_again.Goals as goal

pub see_pairs-requires : goal.see_pairs-requires
unfolding seens Descends
see_pairs-requires c =
    let q = c.requires in
    let e = c.leave-2.ensures.same in
    let v = c.leave-2.ensures.visible in
    let n = v.still.names in
    record { short = rw e q.short; binding = record { sound = v.sound; descends = rw v.same tt }; wide = q.wide; named = rw e q.named; few = omega (arith, q.few, v.back); places = omega (arith, q.places, n, ap (λ (w : Walk). w.rowless.listed) e); room = omega (arith, q.room, v.back, n, v.still.size) }
