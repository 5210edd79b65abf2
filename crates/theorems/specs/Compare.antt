-- What "Before and after a WITH" compares: entries without their spans, and with their scope numbers moved.
use Rattle.std.specs.Prelude.{ℕ, zero, suc, ◌+◌, ◌-◌, cond, ◌&&◌, List, [], ◌∷◌, leb, ltb}
use Rattle.std.specs.Option.{option_map}
use Rattle.scope.specs.Graph.{Scope, scope, Entry, entry}
use Rattle.semantics.specs.Log.{Finding, finding}

-- spans away: "kind, parent" of a scope, "code, name, details" of a finding
unfoldable pub blank_scope : Scope → Scope
blank_scope (scope k p a b) = scope k p 0 0

unfoldable pub blank_finding : Finding → Finding
blank_finding (finding c a b x o t) = finding c 0 0 x o t

-- scope numbers by f
unfoldable pub number_scope : (ℕ → ℕ) → Scope → Scope
number_scope f (scope k p a b) = scope k (option_map f p) a b

unfoldable pub number_entry : (ℕ → ℕ) → Entry → Entry
number_entry f (entry s x v k r) = entry (f s) x v k r

-- Scope s answers to s + d, d being the second new Root's number minus the first's; 0 stays 0.
unfoldable pub moved : ℕ → ℕ → ℕ → ℕ
moved r₁ r₂ zero = zero
moved r₁ r₂ (suc s) = suc s + r₂ - r₁

-- The entries of scopes from r on.
unfoldable pub from : ℕ → List Entry → List Entry
from r [] = []
from r (entry s x v k o ∷ es) = cond (leb r s) (entry s x v k o ∷ from r es) (from r es)

-- The entries of all scopes but the n after r: those that sort keys open (document 02, CR 1).
unfoldable pub besides : ℕ → ℕ → List Entry → List Entry
besides r n [] = []
besides r n (entry s x v k o ∷ es) = cond (ltb r s && leb s (r + n)) (besides r n es) (entry s x v k o ∷ besides r n es)
