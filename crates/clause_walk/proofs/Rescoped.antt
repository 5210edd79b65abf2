-- What clauses do to scopes, where names are resolved: a yield is bound as in any such mode (`yield-as`, `yields`, `yield-listed`), an
-- Unwind's variable (`unwind-as`, `unwound`, `costs-ready`), and a Call's scope is opened (`call-as`).
use Rattle.std.specs.Prelude.{Option, Some, None}
use Rattle.std.specs.Option.{unwrap_or}
use Prim.Native.Nat.{ℕ, zero, suc, ◌+◌, ◌<◌, ◌≤◌}
use native.Mathlib.Omega.{arith}
use native.Mathlib.Numerals.{add-one}
use mathlib.Core.Path.{◌≡◌, refl, ap, sym}
use mathlib.Core.Bool.{Bool, true}
use mathlib.Core.List.{List, []}
use Rattle.scope.specs.Graph.{unwind_scope, call_scope, indexed}
use Rattle.heads.specs.Got.{Got, ok, no, bind, word_in, any_word}
use Rattle.clauses.specs.Read.{alias_of, read_yield}
use Rattle.clauses.specs.Tree.{Yield, yield}
use Rattle.clauses.specs.Write.{alias_word}
use Rattle.tables.specs.Row.{value_kind}
use Rattle.semantics.specs.World.{World, yield_name, name_of}
use Rattle.semantics.specs.Resolve.{enter, bind_name, bind_anew}
use Rattle.semantics.specs.Kinds.{general}
use Rattle.fused.specs.Fused.{Both, Mode, Go, unresolving, rounds, step}
use Rattle.fused.specs.Clauses.{within, yielded, yield_go, unwind_go, call_go}
use Rattle.steps.specs.Memory.{names_in, world_at}
use Rattle.steps.specs.Hold.{Fits, Costs, Steps, Ready, Binds, Placed, on_names}
use Rattle.steps.specs.declared.Walk.{Walk}
use Rattle.steps.specs.declared.context.Context.{Context}
use Rattle.steps.proofs.Held.{lower, as-steps, more-costs, then-steps}
use Rattle.clause_parts.specs.Passes.{counted_at}
use Rattle.clause_parts.proofs.Cleared.{names-step}
use Rattle.clause_walk.specs.Clauses.{names_alone, yield_at, yields_at, unwind_at, unwound_at, call_at}

-- ---- yields, where names are resolved
yields-as : (w : World) (names : ℕ) (m : Mode) (a b : ℕ) (s : Both) (r : List ℕ) → m.resolves ≡ true → yield_go w names names_alone a b s r ≡ yield_go w names m a b s r
unfolding yield_go
yields-as w names m a b s r q = go (read_yield names r)
  where
    go : (g : Got Yield) → bind g (λ y r2. ok (yielded w names names_alone a b y s) r2) ≡ bind g (λ y r2. ok (yielded w names m a b y s) r2)
    go (ok (yield x alias v) r2) = rw (names-step m (bind_anew w a b (indexed (yield_name x alias)) v value_kind) s q, names-step names_alone (bind_anew w a b (indexed (yield_name x alias)) v value_kind) s refl)
    go (no e) = refl

pub rounds-as : (one two : Go) → ((s : Both) (r : List ℕ) → one s r ≡ two s r) → (n : ℕ) (s : Both) (r : List ℕ) → rounds n one s r ≡ rounds n two s r
unfolding rounds
rounds-as one two q zero s r = refl
rounds-as one two q (suc n) s r = go (one s r) (two s r) (q s r) (rounds-as one two q n)
  where
    go : (g h : Got Both) → g ≡ h → {F H : Both → List ℕ → Got Both} → ((s : Both) (r : List ℕ) → F s r ≡ H s r) → bind g F ≡ bind h H
    go (ok u r2) h e k = rw (← e) (k u r2)
    go (no c) h e k = rw (← e)

module _ (c : Context) (m : Mode) (a b : ℕ) (id : ℕ → ℕ) (s : Both) (r : List ℕ) (q : m.resolves ≡ true) where
  -- an Unwind
  pub unwind-as : unwind_at c m a b id s r ≡ bind (any_word r) (λ v r1. within (world_at c id) (names_in c) (unresolving m) general (unwound_at c a b v id s) r1)
  unfolding unwind_go
  unwind-as = go (any_word r)
    where
      go : (g : Got ℕ) → bind g (λ v r1. within (world_at c id) (names_in c) (unresolving m) general (step m (λ y. bind_name (name_of (world_at c id) v) v value_kind (enter unwind_scope a b y)) [] s) r1)
          ≡ bind g (λ v r1. within (world_at c id) (names_in c) (unresolving m) general (unwound_at c a b v id s) r1)
      go (ok v r1) = ap (λ (u : Both). within (world_at c id) (names_in c) (unresolving m) general u r1) (names-step m (λ y. bind_name (name_of (world_at c id) v) v value_kind (enter unwind_scope a b y)) s q)
      go (no e) = refl

  -- a Call
  pub call-as : call_at c m a b id s r ≡ bind (counted_at c (unresolving m) id (on_names (enter call_scope a b) s) r) (λ u r1. bind (any_word r1) (λ n r2. yields_at c a b n id u r2))
  unfolding call_go
  call-as = rw (names-step m (enter call_scope a b) s q) (go (counted_at c (unresolving m) id (on_names (enter call_scope a b) s) r))
    where
      inner : (u : Both) (g : Got ℕ) → bind g (λ n r2. rounds n (yield_go (world_at c id) (names_in c) m a b) u r2) ≡ bind g (λ n r2. yields_at c a b n id u r2)
      inner u (ok n r2) = sym (rounds-as _ _ (λ v t. yields-as (world_at c id) (names_in c) m a b v t q) n u r2)
      inner u (no e) = refl

      go : (g : Got Both) → bind g (λ u r1. bind (any_word r1) (λ n r2. rounds n (yield_go (world_at c id) (names_in c) m a b) u r2)) ≡ bind g (λ u r1. bind (any_word r1) (λ n r2. yields_at c a b n id u r2))
      go (ok u r1) = inner u (any_word r1)
      go (no e) = refl

-- a step or a walk may begin after a step
pub costs-ready : {c : Context} {w w1 : Walk} {F : (ℕ → ℕ) → Both → Both} {j e i : ℕ} → e + i ≤ j → Ready j c w → Costs e e e c w w1 F → Ready i c w1
costs-ready {i = i} l h x = record { fine = h.fine; fit = x.fit i i i (lower (omega arith) (omega arith) (omega arith) h.fit) }

-- the scope is opened, the place of the name is found, and the name is bound there
pub unwound : {c : Context} {w w1 w2 w3 : Walk} {a b v x : ℕ} {again : Bool} → Steps 1 c w w1 (λ id. on_names (enter unwind_scope a b)) → Placed c v w1 w2 x → Binds c w2 w3 x v value_kind again → Steps 4 c w w3 (unwound_at c a b v)
unwound y p b = as-steps _ (more-costs (omega arith) (omega arith) (omega arith) (then-steps (then-steps y p.costs) b.costs)) (λ id s. rw (p.name id))

-- ---- a yield
-- the name that is bound, as the code chooses it
pub yields : (x : ℕ) (a : Option ℕ) {r : ℕ} → r ≡ unwrap_or a x → r ≡ yield_name x (alias_of (alias_word a))
unfolding yield_name
yields x None p = p
yields x (Some y) p = p

-- the name that is bound is one of the sheet's
yield-below : (x y n : ℕ) → x < n → y < n + 1 → yield_name x (alias_of y) < n
unfolding yield_name
yield-below x zero n h k = omega arith
yield-below x (suc y) n h k = omega arith

pub yield-listed : {c : Context} {w : Walk} {e t u x y r : ℕ} → Fits e t u c w → r ≡ yield_name x (alias_of y) → x < names_in c → y < names_in c + 1 → r < w.rowless.listed
yield-listed {c} {x = x} {y} f q h k = omega (arith, q, yield-below x y (names_in c) h k, f.listed)

pub yield-as : (c : Context) (a b : ℕ) (id : ℕ → ℕ) (s : Both) (r : List ℕ) →
    yield_at c a b id s r ≡ bind (word_in 0 (names_in c) r) (λ x r1. bind (word_in 0 (names_in c + 1) r1) (λ y r2. bind (any_word r2) (λ v r3. ok (on_names (bind_anew (world_at c id) a b (indexed (yield_name x (alias_of y))) v value_kind) s) r3)))
unfolding yield_go read_yield
yield-as c a b id s r = rw (add-one (names_in c)) (first (word_in 0 (names_in c) r))
  where
    third : (x y : ℕ) (g : Got ℕ) → bind (bind g (λ v r3. ok (yield x (alias_of y) v) r3)) (λ y r2. ok (yielded (world_at c id) (names_in c) names_alone a b y s) r2) ≡ bind g (λ v r3. ok (on_names (bind_anew (world_at c id) a b (indexed (yield_name x (alias_of y))) v value_kind) s) r3)
    third x y (ok v r) = refl
    third x y (no e) = refl

    second : (x : ℕ) (g : Got ℕ) → bind (bind g (λ y r2. bind (any_word r2) (λ v r3. ok (yield x (alias_of y) v) r3))) (λ y r2. ok (yielded (world_at c id) (names_in c) names_alone a b y s) r2) ≡ bind g (λ y r2. bind (any_word r2) (λ v r3. ok (on_names (bind_anew (world_at c id) a b (indexed (yield_name x (alias_of y))) v value_kind) s) r3))
    second x (ok y r) = third x y (any_word r)
    second x (no e) = refl

    first : (g : Got ℕ) → bind (bind g (λ x r1. bind (word_in 0 (suc (names_in c)) r1) (λ y r2. bind (any_word r2) (λ v r3. ok (yield x (alias_of y) v) r3)))) (λ y r2. ok (yielded (world_at c id) (names_in c) names_alone a b y s) r2)
        ≡ bind g (λ x r1. bind (word_in 0 (suc (names_in c)) r1) (λ y r2. bind (any_word r2) (λ v r3. ok (on_names (bind_anew (world_at c id) a b (indexed (yield_name x (alias_of y))) v value_kind) s) r3)))
    first (ok x r) = second x (word_in 0 (suc (names_in c)) r)
    first (no e) = refl
