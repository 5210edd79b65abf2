-- The sum fits, as a scope that stands there is one of the list.
use Rattle.std.proofs.Common.{sym, arith}
use Rattle.exports.proofs.Below.{below}
use Rattle.exports.proofs.cenguatu_scope_at_offset.Goals as goal

pub overflow_add-result : goal.overflow_add-result
overflow_add-result c =
    let found = rw c.in-Ok-Some.field-0-is at c.in-Ok-Some.ensures in
    omega (arith, below c.args.n c.args.scopes.now c.args.o c.in-Ok-Some.i (sym found))
