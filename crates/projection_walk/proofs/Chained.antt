-- What carries, in a row: put another way (`as-passes`), one after the other (`then-passes`; refused at the first one's `?`: `first-refused`;
-- what the second one asks: `carried-ready`, `carried-holding`), a walk of expressions, of which nothing is held (`walked-passes`), and a word
-- first (`word-passes`, refused at its `?`: `word-refused`; what stands behind it: `word-ready`, `word-holding`).
use Rattle.std.specs.Prelude.{Result, Ok, Err}
use Rattle.std.specs.Result.{IsErr, IsErrAnd}
use Prim.Native.Nat.{ℕ, ◌+◌, ◌≤◌}
use native.Mathlib.Omega.{arith}
use mathlib.Core.Path.{◌≡◌, ◌∙◌}
use mathlib.Core.List.{List}
use Rattle.refusal.specs.declared.Refusal.{Refusal}
use Rattle.refusal.proofs.Handed.{handed}
use Rattle.heads.specs.Got.{Got, ok, bind, word_in}
use Rattle.clauses.specs.Read.{max_depth}
use Rattle.fused.specs.Fused.{Both}
use Rattle.fused.specs.Clauses.{Taken}
use Rattle.steps.specs.Hold.{Ready}
use Rattle.steps.specs.declared.Walk.{Walk}
use Rattle.steps.specs.declared.context.Context.{Context}
use Rattle.steps.proofs.Named.{grows-then}
use Rattle.steps.proofs.Held.{lower, seens-lower, still-idle, still-then}
use Rattle.walk.specs.Goes.{Goer, Walked, rest_in}
use Rattle.walk.proofs.Stage.{placed, placed-fit, placed-holds, placed-still}
use Rattle.clause_parts.specs.Passes.{Next}
use Rattle.projection_walk.specs.Pairs.{kept_of, Still}
use Rattle.projection_walk.specs.Carries.{Projector, Carries, Holding}
use Rattle.projection_walk.specs.declared.pairs.Pairs.{Pairs}
use Rattle.projection_walk.proofs.Carrying.{still_idle}

still_then : {p p1 p2 : Pairs} → Still p p1 → Still p1 p2 → Still p p2
still_then x y = record { lent = y.lent ∙ x.lent; size = y.size ∙ x.size }

module _ {j : ℕ} {c : Context} {w : Walk} {p : Pairs} {w' : Walk} {p' : Pairs} where
  -- put another way
  pub as-passes : {G : Projector} (H : Projector) (r : Result (Unit {0}) Refusal) → ((id : ℕ → ℕ) (q : Taken) (s : Both) → H id q s (rest_in c w) ≡ G id q s (rest_in c w)) → Carries j c w p w' p' G r → Carries j c w p w' p' H r
  as-passes H (Ok u) e x =
      let y = x.carries in
      record {
        still = x.still;
        held = x.held;
        carries = record {
          from = y.from;
          paid = y.paid;
          top = y.top;
          below = y.below;
          grows = y.grows;
          named = y.named;
          fit = y.fit;
          goes = λ id s b. let g = y.goes id s b in record { state = g.state; holds = g.holds; same = e id _ s ∙ g.same };
        };
      }
  as-passes H (Err y) e x = record { still = x.still; held = x.held; carries = λ id s b. e id _ s ∙ x.carries id s b }

  -- at a `?`
  pub first-refused : {P : Projector} {e : Refusal} (K : (ℕ → ℕ) → Both × Taken → List ℕ → Got (Both × Taken)) (r : Result (Unit {0}) Refusal) → Carries j c w p w' p' P (Err e) → IsErr r × IsErrAnd r (λ y. y ≡ e) → Carries j c w p w' p' (λ id q s t. bind (P id q s t) (λ x t2. K id x t2)) r
  first-refused K r x q = rw (handed _ r q) (record { still = x.still; held = x.held; carries = λ id s b. rw (x.carries id s b) })

  -- one after the other
  module _ {P : Projector} {u : Unit {0}} (x : Carries j c w p w' p' P (Ok u)) where
    pub then-passes : {Q : Projector} {w2 : Walk} {p2 : Pairs} (r : Result (Unit {0}) Refusal) → Carries 0 c w' p' w2 p2 Q r → Carries j c w p w2 p2 (λ id q s t. bind (P id q s t) (λ y t2. Q id y.1 y.0 t2)) r
    then-passes {w2 = w2} (Ok v) z =
        let y = x.carries in
        let u = z.carries in
        record {
          still = still-then x.still z.still;
          held = still_then x.held z.held;
          carries = record {
            from = omega (arith, y.from, u.from);
            paid = omega (arith, y.paid, u.paid);
            top = omega (arith, y.top, u.top);
            below = seens-lower w.visible.names w.visible.top w'.visible.top w2.visible.words.now w'.visible.words.now y.top (rw x.still.visible.names at u.below) ∙ y.below;
            grows = grows-then y.grows u.grows;
            named = λ n. u.named (y.named n);
            fit = λ k f. u.fit k (lower (omega arith) (omega arith) (omega arith) (y.fit k f));
            goes = λ id s b. let g = y.goes id s b in let h = u.goes id g.state g.holds in
                record { state = h.state; holds = h.holds; same = rw g.same h.same };
          };
        }
    then-passes (Err e) z =
        record {
          still = still-then x.still z.still;
          held = still_then x.held z.held;
          carries = λ id s b. let g = x.carries.goes id s b in rw g.same (z.carries id g.state g.holds);
        }

-- what the second one asks
module _ {c : Context} {w : Walk} {p : Pairs} {w' : Walk} {p' : Pairs} {P : Projector} {u : Unit {0}} (x : Carries 0 c w p w' p' P (Ok u)) where
  pub carried-ready : Ready (kept_of p) c w → Ready (kept_of p') c w'
  carried-ready h =
      let y = x.carries in
      record { fine = h.fine; fit = lower (omega arith) (omega arith) (omega arith) (y.fit 0 (lower (omega arith) (omega arith) (omega arith) h.fit)) }

  pub carried-holding : Holding 0 c w p → Holding 0 c w' p'
  carried-holding o =
      record { room = omega (arith, o.room, x.held.size); few = omega (arith, o.few, x.carries.paid); unhushed = o.unhushed }

-- nothing is held of a walk of expressions
module _ {j : ℕ} {c : Context} {w : Walk} {p : Pairs} {w' : Walk} {H : Goer} where
  pub walked-passes : (r : Result (Unit {0}) Refusal) → Walked max_depth c w w' H r → Carries j c w p w' p (λ id q s t. bind (H id s t) (λ u t2. ok (u, q) t2)) r
  walked-passes (Ok u) x =
      let y = x.goes in
      record {
        still = x.still;
        held = still_idle;
        carries = record {
          from = y.from;
          paid = omega (arith, y.from);
          top = y.frame.top;
          below = y.frame.below;
          grows = y.frame.grows;
          named = λ n. n;
          fit = λ k b. lower (omega arith) (omega arith) (omega arith) (y.fit (j + k + kept_of p) b);
          goes = λ id s b. let g = y.goes id s b in record { state = g.state; holds = g.holds; same = rw g.same };
        };
      }
  walked-passes (Err e) x = record { still = x.still; held = still_idle; carries = λ id s b. rw (x.goes.same id s b) }

-- ---- a word first
module _ {c : Context} {w w1 : Walk} {lo hi x : ℕ} (n : Next c lo hi w w1 (Ok x)) {i j : ℕ} (l : i ≤ j + 1) where
  pub word-holding : {p : Pairs} → Holding j c w p → Holding i c w1 p
  word-holding o = rw n.now (record { room = o.room; few = omega (arith, o.few); unhushed = o.unhushed })

  pub word-ready : Ready j c w → Ready i c w1
  word-ready h = rw n.now (record { fine = h.fine; fit = placed-fit n.got.from n.got.within (omega arith) h.fit })

  module _ {p : Pairs} {w' : Walk} {p' : Pairs} (H : ℕ → Projector) where
    placed-passes : (r : Result (Unit {0}) Refusal) → Carries i c (placed w (w.at + 1)) p w' p' (H x) r → Carries j c w p w' p' (λ id q s t. bind (word_in lo hi t) (λ y t1. H y id q s t1)) r
    placed-passes (Ok u) z =
        let y = z.carries in
        record {
          still = still-then placed-still z.still;
          held = z.held;
          carries = record {
            from = omega (arith, y.from);
            paid = omega (arith, y.paid);
            top = y.top;
            below = y.below;
            grows = y.grows;
            named = y.named;
            fit = λ k f. y.fit k (placed-fit n.got.from n.got.within (omega arith) f);
            goes = λ id s b. let g = y.goes id s (placed-holds b) in record { state = g.state; holds = g.holds; same = rw n.got.same g.same };
          };
        }
    placed-passes (Err e) z =
        record { still = still-then placed-still z.still; held = z.held; carries = λ id s b. rw n.got.same (z.carries id s (placed-holds b)) }

    pub word-passes : (r : Result (Unit {0}) Refusal) → Carries i c w1 p w' p' (H x) r → Carries j c w p w' p' (λ id q s t. bind (word_in lo hi t) (λ y t1. H y id q s t1)) r
    word-passes r z = placed-passes r (rw n.now at z)

-- at its `?`
pub word-refused : {j : ℕ} {c : Context} {w w1 : Walk} {p : Pairs} {lo hi : ℕ} {e : Refusal} (H : ℕ → Projector) (r : Result (Unit {0}) Refusal) → Next c lo hi w w1 (Err e) → IsErr r × IsErrAnd r (λ y. y ≡ e) →
    Carries j c w p w1 p (λ id q s t. bind (word_in lo hi t) (λ y t1. H y id q s t1)) r
word-refused H r n q = rw (n.now, handed _ r q) (record { still = still-idle; held = still_idle; carries = λ id s b. rw n.got.same })
