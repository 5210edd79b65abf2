-- Lookup one scope at a time: as each parent lies below its child, more steps than the scope's number change nothing.
use Rattle.std.specs.Prelude.{Option, None, Some}
use Rattle.std.proofs.Common.{◌≡◌, ℕ, zero, suc, ◌-◌, ◌<◌, Bool, true, false, List, [], ◌∷◌, length, get_or, map, refl, ap, arith}
use Rattle.std.proofs.lemmas.Bool.Decides.{nat_tests}
use Rattle.scope.specs.Answer.{scopes_in, bindings_in, carried_in}
use Rattle.scope.specs.Flat.{parent_of, scope_of}
use Rattle.scope.specs.Graph.{Scope, Name, Entry, Carried}
use Rattle.scope.specs.Lookup.{Looked, bound_in, carries, lets_on, kind_at, parent_at, passes, answer_at, climb}
use Rattle.scope.specs.declared.Graph.{Graph}

pub parent-of : (w : ℕ) → (w ≡ 0 → ⊥) → parent_of w ≡ Some (w - 1)
parent-of zero h = absurd (h refl)
parent-of (suc w) h = ap Some (omega arith)

-- what a scope answers depends on what the scopes below it answer, and on no others
pub same-below : (s : ℕ) (b : Option ℕ) (goes_on : Bool) (p : Option ℕ) (f g : ℕ → Looked) → ((q : ℕ) → q < s → f q ≡ g q) → answer_at s b goes_on p f ≡ answer_at s b goes_on p g
unfolding answer_at
same-below s (Some v) goes_on p f g h = refl
same-below s None false p f g h = refl
same-below s None true None f g h = refl
same-below s None true (Some p) f g h = grind (arith, nat_tests, h p)

module _ (scopes : List Scope) (bindings : List Entry) (carried_list : List Carried) (x : Name) where
  pub enough : (m n s : ℕ) → s < m → s < n → climb scopes bindings carried_list m s x ≡ climb scopes bindings carried_list n s x
  unfolding climb
  enough zero n s h k = absurd (omega arith)
  enough (suc m) zero s h k = absurd (omega arith)
  enough (suc m) (suc n) s h k = same-below s _ _ _ _ _ (λ q l. enough m n q (omega arith) (omega arith))

-- the kind and the parent of a listed scope
kind-listed : (es : List (List ℕ)) (s : ℕ) → s < length es → kind_at (map scope_of es) s ≡ get_or (get_or es s []) 0 0
unfolding kind_at
kind-listed [] s h = absurd (omega arith)
kind-listed (e ∷ es) zero h = refl
kind-listed (e ∷ es) (suc s) h = kind-listed es s (omega arith)

parent-listed : (es : List (List ℕ)) (s : ℕ) → s < length es → parent_at (map scope_of es) s ≡ parent_of (get_or (get_or es s []) 1 0)
unfolding parent_at
parent-listed [] s h = absurd (omega arith)
parent-listed (e ∷ es) zero h = refl
parent-listed (e ∷ es) (suc s) h = parent-listed es s (omega arith)

module _ (g : Graph) (x : Name) where
  -- from the scope s, in enough steps
  abbrev pub climbs : ℕ → Looked
  climbs s = climb (scopes_in g) (bindings_in g) (carried_in g) (suc s) s x

  -- one scope's answer, by the words of the lists
  pub answers : (s : ℕ) → s < length g.scopes.now → {v : Option ℕ} {goes_on : Bool} {p : Option ℕ} → v ≡ bound_in (bindings_in g) s x → goes_on ≡ lets_on (get_or (get_or g.scopes.now s []) 0 0) (carries (carried_in g) s x) → parent_of (get_or (get_or g.scopes.now s []) 1 0) ≡ p → climbs s ≡ answer_at s v goes_on p climbs
  unfolding climb passes
  answers s h e f k =
      rw (kind-listed g.scopes.now s h, parent-listed g.scopes.now s h, ← e, ← f, k) (same-below s _ _ _ _ _ (λ q l. enough (scopes_in g) (bindings_in g) (carried_in g) x s (suc q) q l (omega arith)))
