-- How far clauses have come (walk's Stage, of which nothing is said of what stays below). A walk of expressions passes (`forget`); a walk within
-- goes on (`went`), is refused at its `?` (`fell`) or is the last one (`last_one`); a word is passed (`past`, `in_range`) or refused at its `?`
-- (`stopped`, `halted`; `no_word` in a walk that keeps what was visible); at the end stands the answer (`passed`, `refused`). In a loop one
-- round more was walked (`turn`), one was refused at its `?` (`fall`), or none is left (`over`); Stage's `begun` begins it. Other pairs may be
-- held, with as much room (`held_on`).
use Rattle.std.specs.Prelude.{Option, None, Some, Result, Ok, Err}
use Rattle.std.specs.Result.{IsErr, IsErrAnd}
use Prim.Native.Nat.{ℕ, ◌+◌, ◌<◌, ◌≤◌}
use native.Mathlib.Omega.{arith}
use mathlib.Core.Path.{◌≡◌, refl, sym}
use mathlib.Core.List.{List}
use lib.ListN.{length, drop}
use Rattle.refusal.specs.declared.Refusal.{Refusal}
use Rattle.heads.specs.Got.{ok, word_in}
use Rattle.heads.proofs.Chain.{Chain, step, last}
use Rattle.expr.proofs.Inverse.{word-gives}
use Rattle.fused.specs.Fused.{Both, rounds}
use Rattle.fused.specs.Fused as fused
use Rattle.fused.proofs.Apart.{bind_ok}
use Rattle.steps.specs.Memory.{words_in}
use Rattle.steps.specs.declared.Walk.{Walk}
use Rattle.steps.specs.declared.context.Context.{Context}
use Rattle.steps.proofs.Held.{lower, still-then}
use Rattle.walk.specs.Goes.{Goer, Refuses, Walked, rest_in}
use Rattle.walk.proofs.Stage.{Rest, Stage, Turning, recast, read, stop, unrolled, ran, comes}
use Rattle.walk.proofs.Stage as stage
use Rattle.clause_parts.specs.Passes.{Passes, Held, Next}

pub forget : {i : ℕ} {c : Context} {w w' : Walk} {H : Goer} (r : Result (Unit {0}) Refusal) → Walked i c w w' H r → Passes 0 c w w' H r
forget (Ok u) x =
    let y = x.goes in
    record { still = x.still; passes = record { from = y.from; fit = λ k f. y.fit k (lower (omega arith) (omega arith) (omega arith) f); goes = y.goes } }
forget (Err e) x = record { still = x.still; passes = x.goes }

-- ---- the end
module _ {j : ℕ} {c : Context} {w₀ : Walk} {G : Goer} {free : ℕ} {w : Walk} where
  pub passed : {u : Unit {0}} → Stage None j c w₀ G free w (λ id s t. last (ok t)) → Passes j c w₀ w G (Ok u)
  passed o =
      record {
        still = o.still;
        passes = record {
          from = o.from;
          fit = λ k f. lower (omega arith) (omega arith) (omega arith) (o.fit k f);
          goes = comes o;
        };
      }

  -- what a `?` at w answers
  pub refused : {K : Rest} {e : Refusal} (r : Result (Unit {0}) Refusal) → Stage None j c w₀ G free w K → Refuses c w₀ G e → IsErr r × IsErrAnd r (λ y. y ≡ e) → Passes j c w₀ w G r
  refused (Err y) o g q = record { still = o.still; passes = rw q.1 g }
  refused (Ok u) o g q = absurd q.1

-- ---- a walk within
module _ {j : ℕ} {c : Context} {w₀ : Walk} {G : Goer} {free : ℕ} {w : Walk} {i : ℕ} {H : Goer} {w' : Walk} where
  pub went : {K : Rest} {u : Unit {0}} (l : ℕ) → i + l ≤ free → Stage None j c w₀ G free w (λ id s t. step (H id t) (K id s)) → Passes i c w w' H (Ok u) → Stage None j c w₀ G l w' K
  went l h o x =
      let y = x.passes in
      stage.went l h o (record { from = y.from; still = x.still; fit = y.fit; keeps = record { kept = tt }; goes = y.goes })

  -- its `?`
  pub fell : {K : Rest} {e : Refusal} (r : Result (Unit {0}) Refusal) → Stage None j c w₀ G free w (λ id s t. step (H id t) (K id s)) → Passes i c w w' H (Err e) → IsErr r × IsErrAnd r (λ y. y ≡ e) → Passes j c w₀ w' G r
  fell (Err y) o x q =
      record { still = still-then o.still x.still; passes = rw q.1 (record { same = λ id s h. let n = o.on id s h in rw (n.same, x.passes.same id n.state n.holds) }) }
  fell (Ok u) o x q = absurd q.1

  pub last_one : (r : Result (Unit {0}) Refusal) → i ≤ free → Stage None j c w₀ G free w (λ id s t. last (H id t)) → Passes i c w w' H r → Passes j c w₀ w' G r
  last_one (Ok u) l o x = passed (went {K = λ id s v. last (ok v)} 0 (omega arith) (recast (λ id s t. step (H id t) (λ v. last (ok v))) o (λ id s t r. sym (bind_ok (H id t r)))) x)
  last_one (Err e) l o x = fell {K = λ id s v. last (ok v)} (Err e) (recast (λ id s t. step (H id t) (λ v. last (ok v))) o (λ id s t r. sym (bind_ok (H id t r)))) x (refl, refl)

-- ---- a word
pub in_range : {c : Context} {lo hi : ℕ} {w w' : Walk} {x : ℕ} → Next c lo hi w w' (Ok x) → (lo ≤ x) × (x < hi)
in_range {c} {lo} {hi} {w} {x = x} n =
    let z = (word-gives lo hi (rest_in c w)).given x (drop (w.at + 1) (words_in c)) n.got.same in
    (z.1, z.2)

module _ {keep : Option ℕ} {j : ℕ} {c : Context} {w₀ : Walk} {G : Goer} {free : ℕ} {w : Walk} {lo hi : ℕ} {K : (ℕ → ℕ) → ℕ → Both → Both → Chain Both} {w' : Walk}
    (o : Stage keep j c w₀ G free w (λ id s t. step (word_in lo hi) (λ x. K id x s t))) where
  pub past : {x : ℕ} → Next c lo hi w w' (Ok x) → Stage keep j c w₀ G (free + 1) w' (λ id. K id x)
  past n = rw n.now (read o (free + 1) n.got (omega arith))

  pub stopped : {e : Refusal} → Next c lo hi w w' (Err e) → Refuses c w₀ G e
  stopped n = stop o n.got

-- its `?`, and in a walk that keeps what was visible
module _ {c : Context} {w₀ : Walk} {G : Goer} {free : ℕ} {w : Walk} {lo hi : ℕ} {K : (ℕ → ℕ) → ℕ → Both → Both → Chain Both} {w' : Walk} {e : Refusal} (r : Result (Unit {0}) Refusal) where
  pub halted : {j : ℕ} → Stage None j c w₀ G free w (λ id s t. step (word_in lo hi) (λ x. K id x s t)) → Next c lo hi w w' (Err e) → IsErr r × IsErrAnd r (λ y. y ≡ e) → Passes j c w₀ w' G r
  halted o n q = rw n.now (refused r o (stopped o n) q)

  pub no_word : {room : ℕ} → Stage (Some room) 0 c w₀ G free w (λ id s t. step (word_in lo hi) (λ x. K id x s t)) → Next c lo hi w w' (Err e) → IsErr r × IsErrAnd r (λ y. y ≡ e) → Walked room c w₀ w' G r
  no_word o n q = rw n.now (stage.refused r o (stopped o n) q)

-- ---- loops: of n rounds, k were walked
module _ {c : Context} {w₀ : Walk} {n : ℕ} {one : Goer} {w : Walk} {k : ℕ} (o : Turning None c w₀ n one w k) where
  pub turn : {w' : Walk} {u : Unit {0}} → k < n → Passes 0 c w w' one (Ok u) → Turning None c w₀ n one w' (k + 1)
  turn h x = record { stage = went 0 (omega arith) (unrolled o h) x }

  pub fall : {w' : Walk} {e : Refusal} (r : Result (Unit {0}) Refusal) → k < n → Passes 0 c w w' one (Err e) → IsErr r × IsErrAnd r (λ y. y ≡ e) → Passes 0 c w₀ w' (λ id. rounds n (one id)) r
  fall r h x q = fell r (unrolled o h) x q

  pub over : {u : Unit {0}} → n ≤ k → Passes 0 c w₀ w (λ id. rounds n (one id)) (Ok u)
  over h = passed (ran o h)

-- the pairs of a WITH have as much room as before
pub held_on : {c : Context} {held held' : List ℕ} {mode : fused.Mode} → length held' ≡ length held → Held c held mode → Held c held' mode
held_on e h = record { room = omega (arith, h.room, e); resolves = h.resolves; unhushed = h.unhushed }
