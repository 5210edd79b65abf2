-- Offset (002; document 01, "At the leaves"): "ends included, empty spans skipped, narrowest wins, then the highest number".
use Rattle.std.specs.Prelude.{ℕ, suc, ◌-◌, Bool, cond, ◌&&◌, List, [], ◌∷◌, leb, ltb, Option, None, Some}
use Rattle.scope.specs.Graph.{Scope, scope}
use Rattle.scope.specs.Flat.{scope_width, room, scopes_of}

-- whether a span covers an offset; an empty or reversed one covers nothing
unfoldable pub covers : ℕ → Scope → Bool
covers o (scope k p a b) = ltb a b && (leb a o && leb o b)

unfoldable pub width : Scope → ℕ
width (scope k p a b) = b - a

-- the best so far, and its width
pub data Best : Type 0 where
  none' : Best
  best : (number wide : ℕ) → Best

-- a scope that covers the offset and is no wider takes the place of the best so far
unfoldable pub better : ℕ → ℕ → Scope → Best → Best
better o n s none' = cond (covers o s) (best n (width s)) none'
better o n s (best m w) = cond (covers o s && leb (width s) w) (best n (width s)) (best m w)

-- the scopes from the number n on
unfoldable pub narrowest : ℕ → ℕ → List Scope → Best → Best
narrowest o n [] b = b
narrowest o n (s ∷ ss) b = narrowest o (suc n) ss (better o n s b)

unfoldable pub scope_at_offset : List Scope → ℕ → Option ℕ
scope_at_offset ss o = number (narrowest o 0 ss none')
  where
    number : Best → Option ℕ
    number none' = None
    number (best n w) = Some n

pub data Offset : Type 0 where
  in' : (scope : ℕ) → Offset
  nowhere : Offset
  refused : (cause : ℕ) → Offset

-- Offset on a lent list: cause 9 where the count is above the list's entries.
unfoldable pub offset : ℕ → List ℕ → ℕ → Offset
offset n scopes o = cond (leb n (room scope_width scopes)) (answer (scope_at_offset (scopes_of n scopes) o)) (refused 9)
  where
    answer : Option ℕ → Offset
    answer None = nowhere
    answer (Some s) = in' s
