-- Lookup (002; document 01, "At the leaves"): "climbs parents, the first fitting entry counting; a WithBarrier lets through only names
-- it carries".
use Rattle.std.specs.Prelude.{ℕ, zero, suc, Bool, true, false, cond, ◌&&◌, ◌||◌, List, [], ◌∷◌, eqb, leb, ltb, length, Option, None, Some}
use Rattle.scope.specs.Graph.{with_barrier, Scope, scope, Name, name, same_name, Entry, entry, Carried, carried}
use Rattle.scope.specs.Flat.{scope_width, binding_width, carried_width, room, scopes_of, bindings_of, carrieds_of}

-- "Lookup now gives the scope number that binds the name as well as the variable" (document 02, CR 3)
pub data Looked : Type 0 where
  at : (variable scope : ℕ) → Looked
  nothing : Looked
  refused : (cause : ℕ) → Looked

-- "the first fitting entry counting"
unfoldable pub bound_in : List Entry → ℕ → Name → Option ℕ
bound_in [] s x = None
bound_in (entry t y v k r ∷ es) s x = cond (eqb t s && same_name y x) (Some v) (bound_in es s x)

-- whether the barrier s carries the name x
unfoldable pub carries : List Carried → ℕ → Name → Bool
carries [] s x = false
carries (carried b y v ∷ cs) s x = eqb b s && same_name y x || carries cs s x

unfoldable pub parent_at : List Scope → ℕ → Option ℕ
parent_at [] s = None
parent_at (scope k p a b ∷ ss) zero = p
parent_at (scope k p a b ∷ ss) (suc s) = parent_at ss s

unfoldable pub kind_at : List Scope → ℕ → ℕ
kind_at [] s = 0
kind_at (scope k p a b ∷ ss) zero = k
kind_at (scope k p a b ∷ ss) (suc s) = kind_at ss s

-- "a WithBarrier lets through only names it carries"
abbrev pub lets_on : (kind : ℕ) (has : Bool) → Bool
lets_on kind has = cond (eqb kind with_barrier) has true

-- what a scope answers: its own binding; nothing, where the name may not go on or there is no parent; else what its parent p answers,
-- which `above` gives. A parent that is not below its child is cause 9.
unfoldable pub answer_at : ℕ → Option ℕ → Bool → Option ℕ → (above : ℕ → Looked) → Looked
answer_at s (Some v) goes_on p above = at v s
answer_at s None false p above = nothing
answer_at s None true None above = nothing
answer_at s None true (Some p) above = cond (ltb p s) (above p) (refused 9)

module _ (scopes : List Scope) (bindings : List Entry) (carried_list : List Carried) where
  unfoldable pub passes : ℕ → Name → Bool
  passes s x = lets_on (kind_at scopes s) (carries carried_list s x)

  -- from the scope s, with more steps than its number
  unfoldable pub climb : ℕ → ℕ → Name → Looked
  climb zero s x = refused 9
  climb (suc steps) s x = answer_at s (bound_in bindings s x) (passes s x) (parent_at scopes s) (λ p. climb steps p x)

  unfoldable pub lookup_in : ℕ → Name → Looked
  lookup_in s x = cond (ltb s (length scopes)) (climb (suc s) s x) (refused 9)

-- Lookup on lent lists: cause 9 where a count is above its list's entries, and for a mark of the name that is neither 0 nor 1 (document 02, CR 5).
unfoldable pub lookup : ℕ → List ℕ → ℕ → List ℕ → ℕ → List ℕ → ℕ → Name → Looked
lookup a scopes b bindings c carried_list s (name m x) =
    cond (leb m 1 && (leb a (room scope_width scopes) && (leb b (room binding_width bindings) && leb c (room carried_width carried_list))))
    (lookup_in (scopes_of a scopes) (bindings_of b bindings) (carrieds_of c carried_list) s (name m x))
    (refused 9)
