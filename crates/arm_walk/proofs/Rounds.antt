-- A loop of n rounds, of which k were walked (`Rounds`): what it lends has as much room as before, no mark is left set, and each round stores what
-- it carries. What a round asks is still so (`asks`), and one more may have been walked (`turned`).
use Rattle.std.specs.Prelude.{None, Ok}
use Prim.Native.Nat.{ℕ, ◌+◌, ◌<◌}
use native.Mathlib.Omega.{arith}
use mathlib.Core.Path.{◌≡◌, ◌∙◌}
use mathlib.Core.List.{List}
use lib.ListN.{length}
use Rattle.fused.specs.Fused.{Mode}
use Rattle.steps.specs.Hold.{Ready}
use Rattle.steps.specs.declared.Walk.{Walk}
use Rattle.steps.specs.declared.context.Context.{Context}
use Rattle.walk.specs.Goes.{Goer}
use Rattle.walk.proofs.Stage.{Turning, ready}
use Rattle.clause_parts.specs.Passes.{Held, Clear, Passes}
use Rattle.clause_parts.proofs.Passing.{turn, held_on}
use Rattle.arm_walk.specs.Taking.{Takes}
use Rattle.arm_walk.proofs.Taken.{Filling, filled}

pub record Rounds (c : Context) (w₀ : Walk) (held₀ marks₀ out₀ : List ℕ) (n : ℕ) (one : Goer) (w : Walk) (held marks out : List ℕ) (k : ℕ) : Type 0 where
  pub turning : Turning None c w₀ n one w k
  pub filling : Filling c w₀ out₀ n one w out k
  pub kept : length held ≡ length held₀
  pub same : marks ≡ marks₀

module _ {c : Context} {w₀ : Walk} {held₀ marks₀ out₀ : List ℕ} {n : ℕ} {one : Goer} {w : Walk} {held marks out : List ℕ} {k : ℕ} (o : Rounds c w₀ held₀ marks₀ out₀ n one w held marks out k) where
  pub asks : {mode : Mode} → (Held c held₀ mode × Clear c marks₀) × Ready 0 c w₀ → (Held c held mode × Clear c marks) × Ready 0 c w
  asks h = rw o.same ((held_on o.kept h.0.0, h.0.1), ready (omega arith) h.1 o.turning.stage)

  pub turned : {w' : Walk} {held' marks' out' : List ℕ} {u : Unit {0}} → k < n → length held' ≡ length held → marks' ≡ marks → Passes 0 c w w' one (Ok u) → Takes c w out out' one →
      Rounds c w₀ held₀ marks₀ out₀ n one w' held' marks' out' (k + 1)
  turned l e q x y = record { turning = turn o.turning l x; filling = filled o.filling l x y; kept = e ∙ o.kept; same = q ∙ o.same }
