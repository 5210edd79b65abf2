-- A row has the name's place (`placed-row`); three words pay for the place of a variable without one (`placed-rowless`).
use native.Mathlib.Omega.{arith}
use Rattle.steps.proofs.Shown.{places_small}
use Rattle.steps.proofs.Placed.{placed-row, placed-rowless}
use Rattle.steps.proofs.Walk.place.Goals as goal

pub place-requires : goal.place-requires
place-requires c =
    let p = c.requires.1 in (omega (arith, p.fine.short), (p.fit.numbered, (omega (arith, p.fit.rowless, p.fit.within, p.fit.binders), omega (arith, places_small p.fine p.fit))))

pub returns-in-Some : goal.returns-in-Some
returns-in-Some c =
    placed-row c.requires.1.fit c.requires.0 c.in-Some.is

pub returns-in-None : goal.returns-in-None
returns-in-None c =
    placed-rowless c.requires.1.fit c.requires.0 c.in-None.is c.place.ensures
