-- An expression is a row of one.
use mathlib.Core.Path.{◌≡◌, sym, ◌∙◌}
use mathlib.Core.List.{List}
use Prim.Native.Nat.{ℕ}
use Rattle.heads.specs.Got.{bare}
use Rattle.heads.proofs.Shapes.{bare-map}
use Rattle.expr.specs.Tree.{done, more}
use Rattle.expr.specs.Read.{Reader, no_more, times}
use Rattle.flat.proofs.read_expr.Goals as goal

one : (P : Reader) (ws : List ℕ) → bare (times 1 P no_more ws) ≡ bare (P ws)
unfolding times
one P ws = bare-map (P ws) (λ e. more e done)

pub returns : goal.returns
returns c =
    let r = c.read_kids.ensures in record { same = sym (one _ _) ∙ r.same; from = r.from; within = r.within }
