-- Laws of expressions 25: one shows nothing, whichever walk looks (`old-head`), so it is counted and no more (`counts-old`).
use Prim.Native.Nat.{ℕ, ◌+◌}
use borrow.Author.Tests.{eqb-true}
use native.Mathlib.Omega.{arith}
use mathlib.Core.Path.{◌≡◌, refl, ap, sym}
use mathlib.Core.Bool.{Bool, true, false}
use mathlib.Core.List.{[]}
use lib.Dec.{eqb}
use Rattle.heads.specs.declared.Form.{Form}
use Rattle.heads.specs.declared.Form.TheVariants.{Leaf, Var, Unresolved, Prop, Two, Slice, Many, BinOp, UnaryOp, Case, IsNull, PatternPredicate, ListComprehension, PatternComprehension, ListPredicate, MapProjection}
use Rattle.expr.specs.Olds.{old_in}
use Rattle.semantics.specs.World.{World}
use Rattle.semantics.specs.Kinds.{no_type, general, arithmetic, property, boolean, listed, type_of, at_type}
use Rattle.semantics.specs.Kinds as kinds
use Rattle.fused.specs.Fused.{Both, told, counting, step, same, head_of}
use Rattle.fused.specs.Fused as fused
use Rattle.steps.specs.Modes.{mode_of, setting_of}
use Rattle.steps.specs.Memory.{world_at}
use Rattle.steps.specs.Hold.{Still, Steps, cost_of}
use Rattle.steps.specs.declared.Walk.{Walk}
use Rattle.steps.specs.declared.context.Context.{Context}
use Rattle.steps.specs.declared.mode.Mode.{Mode}
use Rattle.steps.specs.declared.mode.Setting.{Setting}
use Rattle.steps.proofs.Named.{unmoved-idle}
use Rattle.steps.proofs.Held.{seen-idle, log-idle, framed-same, refit, recounted, more-steps, as-steps}
use Rattle.steps.proofs.Heads.{some_cost}

untyped : (d : kinds.Setting) → at_type d no_type ≡ []
unfolding at_type
untyped general = refl
untyped arithmetic = refl
untyped property = refl
untyped boolean = refl
untyped (listed c o) = refl

idle : (b c : Bool) (s : Both) → step (record { resolves = b; checks = c }) same [] s ≡ s
unfolding told
idle true true s = refl
idle true false s = refl
idle false true s = refl
idle false false s = refl

old-leaf : (W : World) (m : fused.Mode) (d : kinds.Setting) (s : Both) → head_of W m (Leaf 25) d s ≡ counting 1 s
unfolding type_of
old-leaf W m d s = rw (untyped d) (ap (counting 1) (idle m.resolves m.checks s))

old-head : (W : World) (m : fused.Mode) (d : kinds.Setting) (f : Form) (s : Both) → old_in f ≡ 1 → head_of W m f d s ≡ counting 1 s
old-head W m d (Leaf k) s e = go (eqb k 25) refl
  where
    go : (b : Bool) → eqb k 25 ≡ b → head_of W m (Leaf k) d s ≡ counting 1 s
    go true q = rw (eqb-true k 25 q) (old-leaf W m d s)
    go false q = let z : ◌≡◌ {A = ℕ} 0 1 = rw q at e in absurd (omega arith)
old-head W m d (Var v) s e = absurd (omega arith)
old-head W m d (Unresolved x) s e = absurd (omega arith)
old-head W m d (Prop x) s e = absurd (omega arith)
old-head W m d (Two k) s e = absurd (omega arith)
old-head W m d (Slice b) s e = absurd (omega arith)
old-head W m d (Many k n) s e = absurd (omega arith)
old-head W m d (BinOp o) s e = absurd (omega arith)
old-head W m d (UnaryOp o) s e = absurd (omega arith)
old-head W m d (Case b n) s e = absurd (omega arith)
old-head W m d IsNull s e = absurd (omega arith)
old-head W m d PatternPredicate s e = absurd (omega arith)
old-head W m d (ListComprehension g) s e = absurd (omega arith)
old-head W m d (PatternComprehension a b g) s e = absurd (omega arith)
old-head W m d (ListPredicate g) s e = absurd (omega arith)
old-head W m d (MapProjection n) s e = absurd (omega arith)

counted : {c : Context} {w : Walk} → Steps 1 c w (record w { olds = w.olds + 1 }) (λ id. counting 1)
counted {c} {w} =
    let still : Still w (record w { olds = w.olds + 1 }) = record { visible = seen-idle; rowless = unmoved-idle; log = log-idle } in
    record {
      at = refl;
      still = still;
      fit = λ i k l f. refit f still refl f.below f.sound f.descends f.cur (omega (arith, f.last)) (omega (arith, f.count)) (omega (arith, f.stack)) (omega (arith, f.rowless)) (omega (arith, f.olds)) (omega (arith, f.needs)) f.within;
      frame = framed-same refl refl refl refl refl;
      goes = λ id s h.
          record {
            visible = h.visible;
            cur = h.cur;
            last = h.last;
            log = h.log;
            kinds = h.kinds;
            olds = ap (λ (n : ℕ). n + 1) h.olds;
            counts = recounted refl refl h.counts;
            uses = h.uses;
          };
    }

pub counts-old : {c : Context} {w : Walk} (f : Form) → old_in f ≡ 1 → (m : Mode) (set : Setting) →
    Steps (cost_of f) c w (record w { olds = w.olds + 1 }) (λ id. head_of (world_at c id) (mode_of m) f (setting_of set))
counts-old {c} f e m set = as-steps _ (more-steps (some_cost f) counted) (λ id s. sym (old-head (world_at c id) (mode_of m) (setting_of set) f s e))
