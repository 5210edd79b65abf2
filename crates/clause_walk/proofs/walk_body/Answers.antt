-- Each kind is the definition's (`body_is`).
use native.Mathlib.Omega.{arith}
use Rattle.clauses.specs.declared.kind.ClauseKind.TheVariants.{Match, Where, Set, Remove, Delete}
use Rattle.fused.specs.Clauses.{opening_go, marked_go, body_go}
use Rattle.semantics.specs.World.{opens}
use Rattle.steps.specs.Modes.{mode_of}
use Rattle.clause_parts.proofs.Passing.{forget}
use Rattle.clause_walk.proofs.Bodies.{more, body_is}
use Rattle.clause_walk.proofs.walk_body.Goals as goal

pub returns-in-Match-clause-passes : goal.returns-in-Match-clause-passes
unfolding body_go opening_go opens
returns-in-Match-clause-passes c =
    let a = c.args in body_is (mode_of a.mode) a.head.start a.head.end Match c.in-Match.is c.walk_match.ensures

pub returns-in-Where-clause-passes : goal.returns-in-Where-clause-passes
unfolding body_go
returns-in-Where-clause-passes c =
    let a = c.args in body_is (mode_of a.mode) a.head.start a.head.end Where c.in-Where.is (more _ (omega arith) (forget _ (rw c.all.ensures at c.walk_row.ensures)))

pub returns-in-Set-clause-passes : goal.returns-in-Set-clause-passes
unfolding body_go marked_go
returns-in-Set-clause-passes c =
    let a = c.args in body_is (mode_of a.mode) a.head.start a.head.end Set c.in-Set.is (more _ (omega arith) c.walk_marked.ensures)

pub returns-in-Remove-clause-passes : goal.returns-in-Remove-clause-passes
unfolding body_go marked_go
returns-in-Remove-clause-passes c =
    let a = c.args in body_is (mode_of a.mode) a.head.start a.head.end Remove c.in-Remove.is (more _ (omega arith) c.walk_marked-in-Remove.ensures)

pub returns-in-Delete-clause-passes : goal.returns-in-Delete-clause-passes
unfolding body_go
returns-in-Delete-clause-passes c =
    let a = c.args in body_is (mode_of a.mode) a.head.start a.head.end Delete c.in-Delete.is (more _ (omega arith) (forget _ c.walk_counted.ensures))
