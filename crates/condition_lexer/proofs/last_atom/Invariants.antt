-- The digits read so far have this value, the next counts scale, and what is left is the definition's.
use Prim.Native.Nat.{◌-◌, ◌<◌, ◌^◌}
use mathlib.Core.Path.{◌≡◌}
use mathlib.Core.List.{reverse}
use Rattle.condition.specs.Tokens.{number_last}
use Rattle.condition_lexer.proofs.last_atom.Given as goal

abbrev pub invariant-loop-digits : goal.invariant-loop-digits
invariant-loop-digits l = (l.scale ≡ 10 ^ l.digits) × (l.value < l.scale) × (number_last 4 0 1 0 (reverse l.text) ≡ number_last (4 - l.digits) l.value l.scale l.digits (reverse l.rest))
