-- A visible name is recorded, and held under its alias or its own name; any other is used.
use native.Mathlib.Omega.{arith}
use mathlib.Core.Path.{sym, ap, ◌∙◌}
use Rattle.semantics.specs.Resolve.{lookup}
use Rattle.scope.specs.Graph.{indexed}
use Rattle.semantics.specs.World.{a_name}
use Rattle.visible.specs.Stack.{entries}
use Rattle.visible.proofs.Names.{hit_of, looked-up}
use Rattle.projection_walk.proofs.Carrying.{adds-pair, adds_none, name-found, name-carried, name-missing, under-named}
use Rattle.projection_walk.proofs.carry_seen.Goals as goal

pub returns-in-Some : goal.returns-in-Some
returns-in-Some c =
    let a = c.args in
    let seen = sym (looked-up (lookup (indexed a.x) (entries a.walk.now.visible)) _) ∙ ap hit_of (sym c.in-Some.ensures) in
    let at = c.requires.0.1.1 in
    let f = c.requires.1.1.fit in
    let h = under-named a.alias a.x c.requires.0.1.0 c.requires.0.1.1 in
    adds-pair a.alias (a_name a.x) h (omega arith) (name-found a.x at f seen (c.requires.1.0.unhushed a.x) c.record_name.ensures) (rw c.unwrap_or.ensures at c.keep.ensures) (name-carried a.x at f seen a.alias c.requires.0.0)

pub returns-in-None : goal.returns-in-None
returns-in-None c =
    let a = c.args in
    adds_none a.alias (a_name a.x) (omega arith) c.use_name.ensures (name-missing a.x c.requires.0.1.1 c.requires.1.1.fit a.alias c.requires.0.0 (sym (looked-up (lookup (indexed a.x) (entries a.walk.now.visible)) _) ∙ ap hit_of (sym c.in-None.ensures)))
