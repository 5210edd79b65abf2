-- The signs before this one don't stand here.
use Prim.Native.Nat.{◌-◌}
use mathlib.Core.Path.{◌≡◌}
use mathlib.Core.List.{reverse}
use Rattle.condition.specs.Tokens.{first_sign}
use Rattle.condition_lexer.proofs.last_binary.Given as goal

abbrev pub invariant-loop-operator : goal.invariant-loop-operator
invariant-loop-operator l = first_sign 20 0 (reverse l.text) ≡ first_sign (20 - l.operator) l.operator (reverse l.text)
