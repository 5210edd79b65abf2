-- Which words follow does not go by the span (`body-bare`), and none follow a code that no kind has.
use Rattle.heads.proofs.Reading.{past, refused}
use Rattle.clauses.specs.Read.{read_clause}
use Rattle.clauses.proofs.Body.{body-bare, no-kind}
use Rattle.clauses.proofs.ClauseItem.read.Goals as goal

pub returns-in_err-kind : goal.returns-in_err-kind
unfolding read_clause
returns-in_err-kind c =
    let span = c.in_ok-at.ensures.takes in
    past _ c.in_ok-code.ensures.takes (past _ c.in_ok-start.ensures.takes (past _ span (refused _ _ c.from_residual-in_err-kind.ensures (no-kind _ _ _ _ _ span.within c.in_err-kind.ensures))))

pub returns : goal.returns
unfolding read_clause
returns c =
    let read = rw c.in_ok-kind.ensures at c.read_body.ensures in
    past _ c.in_ok-code.ensures.takes (past _ c.in_ok-start.ensures.takes (past _ c.in_ok-at.ensures.takes (rw body-bare read)))
