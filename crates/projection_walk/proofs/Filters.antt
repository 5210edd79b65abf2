-- Projections and a filter: projections that are refused (`pairs-refused`), and the filter behind a flag (`filter-asks`, `filter_passes`).
use Rattle.std.specs.Prelude.{Result, Ok, Err}
use Rattle.std.specs.Result.{IsErr, IsErrAnd}
use Prim.Native.Nat.{ℕ}
use native.Mathlib.Omega.{arith}
use mathlib.Core.Path.{◌≡◌}
use Rattle.refusal.specs.declared.Refusal.{Refusal}
use Rattle.heads.specs.Got.{ok, bind, flag}
use Rattle.clauses.specs.Read.{max_depth}
use Rattle.semantics.specs.Kinds.{plain}
use Rattle.fused.specs.Fused.{Mode, row_go}
use Rattle.fused.specs.Clauses.{within}
use Rattle.steps.specs.Memory.{names_in, world_at}
use Rattle.steps.specs.Hold.{Ready}
use Rattle.steps.specs.declared.Walk.{Walk}
use Rattle.steps.specs.declared.context.Context.{Context}
use Rattle.walk.specs.Goes.{Walked, row_at}
use Rattle.clause_parts.specs.Passes.{Next}
use Rattle.projection_walk.specs.Pairs.{kept_of}
use Rattle.projection_walk.specs.Carries.{Projector, Carries, projections_at, filtered_at}
use Rattle.projection_walk.specs.declared.pairs.Pairs.{Pairs}
use Rattle.projection_walk.proofs.Chained.{first-refused, then-passes, walked-passes, carried-ready, word-ready, word-passes}

-- what follows the flag, the projections, the count
module _ (c : Context) (m : Mode) where
  abbrev filter_at : ℕ → Projector
  filter_at g id q s r = bind (row_go (within (world_at c id) (names_in c) m) g plain s r) (λ u r2. ok (u, q) r2)

  abbrev flagged_at : Projector
  flagged_at id q s r = bind (flag r) (λ g r2. filter_at g id q s r2)

  abbrev later_at : ℕ → Projector
  later_at n id q s r = bind (projections_at c m n id q s r) (λ x r2. flagged_at id x.1 x.0 r2)

module _ {c : Context} {w w1 : Walk} {p : Pairs} (m : Mode) {k : ℕ} (n : Next c 0 4294967296 w w1 (Ok k)) {w2 : Walk} {p2 : Pairs} where
  -- at their `?`
  pub pairs-refused : {e : Refusal} (a : Result (Unit {0}) Refusal) → Carries 0 c w1 p w2 p2 (projections_at c m k) (Err e) → IsErr a × IsErrAnd a (λ y. y ≡ e) → Carries 0 c w p w2 p2 (filtered_at c m) a
  pairs-refused a x q = word-passes n (omega arith) (later_at c m) a (first-refused (λ id y r2. flagged_at c m id y.1 y.0 r2) a x q)

  module _ {u : Unit {0}} (x : Carries 0 c w1 p w2 p2 (projections_at c m k) (Ok u)) {w3 : Walk} {g : ℕ} (f : Next c 0 2 w2 w3 (Ok g)) where
    pub filter-asks : Ready (kept_of p) c w → Ready 0 c w3
    filter-asks h = word-ready f (omega arith) (carried-ready x (word-ready n (omega arith) h))

    pub filter_passes : {w4 : Walk} (a : Result (Unit {0}) Refusal) → Walked max_depth c w3 w4 (row_at c max_depth m g plain) a → Carries 0 c w p w4 p2 (filtered_at c m) a
    filter_passes a y = word-passes n (omega arith) (later_at c m) a (then-passes x a (word-passes f (omega arith) (filter_at c m) a (walked-passes {j = 0} a y)))
