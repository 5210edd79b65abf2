-- An unaliased star is used and kept in mind; any other name goes on.
use Rattle.semantics.specs.World.{a_name}
use Rattle.projection_walk.proofs.Carrying.{adds-star, name-all, the_star}
use Rattle.projection_walk.proofs.carry_name.Goals as goal

pub returns-then-eq : goal.returns-then-eq
returns-then-eq c =
    adds-star c.args.alias (a_name c.args.x) c.use_name.ensures (name-all c.args.x c.args.alias c.if-is_none.ensures (the_star c.args.x c.args.context.now.star c.if-eq.ensures))
