-- What walks store in the carried list. Where a walk is refused, only the list's length is claimed (`refused-takes`); a clause stores what it
-- carries (`clause-takes`). A loop of n rounds, of which k were walked: whatever list the rounds that are left make, all of them make (`Filling`,
-- one round on by `filled`, after the last by `full`).
use Rattle.std.specs.Prelude.{Result, Ok, Err}
use Rattle.std.specs.Result.{IsErr}
use Prim.Native.Nat.{ℕ, suc, ◌+◌, ◌-◌, ◌*◌, ◌<◌, ◌≤◌}
use native.Mathlib.Omega.{arith}
use mathlib.Core.Path.{◌≡◌, refl, sym, ap, subst, ◌∙◌}
use mathlib.Core.List.{List, [], ◌∷◌, ◌++◌, reverse, append-nil}
use mathlib.Core.Bool.{true}
use lib.ListN.{length}
use Rattle.refusal.specs.Number.{number_of}
use Rattle.refusal.specs.declared.Refusal.{Refusal}
use Rattle.scope.specs.Graph.{Carried}
use Rattle.heads.specs.Got.{ok, no}
use Rattle.expr.proofs.Inverse.{never}
use Rattle.semantics.specs.Log.{Event, carries_in}
use Rattle.semantics.specs.Resolve.{Seen}
use Rattle.theorems.specs.Needs.{carried_in}
use Rattle.fused.specs.Fused.{Both, Mode, Go, rounds}
use Rattle.visible.specs.Stack as stack
use Rattle.visible.proofs.Places.{length-seens}
use Rattle.steps.specs.Named.{as_named}
use Rattle.steps.specs.Hold.{Holds}
use Rattle.steps.specs.declared.Walk.{Walk}
use Rattle.steps.specs.declared.context.Context.{Context}
use Rattle.walk.specs.Goes.{Goer, rest_in}
use Rattle.clause_parts.specs.Passes.{Passes}
use Rattle.clause_walk.specs.Clauses.{clause_at}
use Rattle.entries.specs.Filled.{carried_words}
use Rattle.entries.specs.Adding as entries
use Rattle.arm_walk.specs.Taking.{carried_as, Carries, Stores, Takes}
use Rattle.arm_walk.proofs.Storing.{length-named}
use Rattle.arm_walk.proofs.Carrying.{Carrying, nothing, all}
use Rattle.arm_walk.proofs.Walked.{walked-carries}

pub refused-takes : {c : Context} {w w' : Walk} {out new : List ℕ} {G : Goer} (r : Result (Unit {0}) Refusal) → IsErr r → length new ≡ length out → Passes 0 c w w' G r → Takes c w out new G
refused-takes (Ok u) q e x = never (cc)
refused-takes {c} {w} {G = G} (Err n) q e x =
    record { kept = e; takes = λ id s t rest old h g y. let z : G id s (rest_in c w) ≡ no (number_of n) = x.passes.same id s h in never (cc) }

-- ---- a clause
-- nothing more is carried
store-none : {old out new : List ℕ} (l l' : List Event) → carried_in l' ≡ carried_in l → carries_in (reverse l') ≡ carries_in (reverse l) → new ≡ out → Carries old out l → Carries old new l'
store-none l l' n e q c = rw q (record { kept = c.kept; has = λ r. rw (n, e) (c.has (rw n at r)) })

none_seen : (b : ℕ) → carried_as b [] ≡ []
unfolding carried_as
none_seen b = refl

-- the names that are seen are carried, if there are any
store-seen : {w : Walk} {out new : List ℕ} {from : ℕ} (old : List ℕ) (es : List Carried) (n c : ℕ) (seen : List Seen) → w.taken ≡ n → w.cur ≡ c → as_named w.rowless (stack.entries w.visible) ≡ seen →
    n ≡ from + length seen → 0 < c → n * 4 ≤ length out → Stores w out new from → entries.Holds carried_words old out from es → entries.Holds carried_words old new n (es ++ carried_as (c - 1) seen)
store-seen {out = out} {new} {from} old es n c [] t q v l p r st h =
    let same : new ≡ out = st.nothing (omega arith) in
    let z : n ≡ from = omega arith in
    rw (same, z, none_seen (c - 1), append-nil es) h
store-seen {w} old es n c (x ∷ seen) t q v l p r st h =
    let top : w.visible.top ≡ length (x ∷ seen) = sym (length-named w.rowless (stack.entries w.visible) ∙ length-seens w.visible.names w.visible.top w.visible.words.now) ∙ ap length v in
    rw (← t, ← q, ← v) (st.stores old es (omega arith) (omega arith) (omega arith) (omega arith) h)

store-all : {w : Walk} {out new old : List ℕ} {from : ℕ} (l l' : List Event) (c : ℕ) (seen : List Seen) → from ≡ carried_in l → w.taken ≡ carried_in l' → w.cur ≡ c → as_named w.rowless (stack.entries w.visible) ≡ seen →
    0 < c → carried_in l' ≡ carried_in l + length seen → carries_in (reverse l') ≡ carries_in (reverse l) ++ carried_as (c - 1) seen → Stores w out new from → Carries old out l → Carries old new l'
store-all {old = old} l l' c seen f t q v p n e st y =
    record {
      kept = st.kept ∙ y.kept;
      has = λ r. rw e (store-seen old (carries_in (reverse l)) (carried_in l') c seen t q v (omega arith) p (omega (arith, y.kept)) st (rw f (y.has (omega arith))));
    }

pub clause-takes : {c : Context} {w w' : Walk} {out new : List ℕ} {u : Unit {0}} (m : Mode) → m.resolves ≡ true → Passes 0 c w w' (clause_at c m) (Ok u) → Stores w' out new w.taken → Takes c w out new (clause_at c m)
clause-takes {c} {w} {w'} {out} {new} m live x st =
    record {
      kept = st.kept;
      takes = λ id s t rest old h e y. let z = x.passes.goes id s h in
          let v : z.state ≡ t = cc (z.same, e) in
          subst (λ (v : Both). Carries old new v.names.log) v (go h z.holds y (walked-carries c m id s z.state _ _ live z.same));
    }
  where
    go : {id : ℕ → ℕ} {s v : Both} {old : List ℕ} → Holds id c w s → Holds id c w' v → Carries old out s.names.log → Carrying s.names v.names → Carries old new v.names.log
    go {s = s} {v} h k y (nothing n e) = store-none s.names.log v.names.log n e (st.nothing (omega (arith, h.counts.taken, k.counts.taken))) y
    go {s = s} {v} h k y (all p n e) = store-all s.names.log v.names.log v.names.cur v.names.visible h.counts.taken k.counts.taken k.cur k.visible p n e st y

-- ---- rounds
next-round : (k n : ℕ) (one : Go) (s u t : Both) (r r2 rest : List ℕ) → n ≡ suc k → one s r ≡ ok u r2 → rounds n one s r ≡ ok t rest → rounds k one u r2 ≡ ok t rest
unfolding rounds
next-round k n one s u t r r2 rest l z e = rw (l, z) at e

no-round : (n : ℕ) (one : Go) (s t : Both) (r rest : List ℕ) → n ≡ 0 → rounds n one s r ≡ ok t rest → s ≡ t
unfolding rounds
no-round n one s t r rest l e = let z : ok s r ≡ ok t rest = rw l at e in cc

pub record Filling (c : Context) (w₀ : Walk) (out₀ : List ℕ) (n : ℕ) (one : Goer) (w : Walk) (out : List ℕ) (k : ℕ) : Type 0 where
  pub kept : length out ≡ length out₀
  pub rest : (new : List ℕ) → Takes c w out new (λ id. rounds (n - k) (one id)) → Takes c w₀ out₀ new (λ id. rounds n (one id))

module _ {c : Context} {w₀ : Walk} {out₀ : List ℕ} {n : ℕ} {one : Goer} {w : Walk} {out : List ℕ} {k : ℕ} (f : Filling c w₀ out₀ n one w out k) where
  pub filled : {w' : Walk} {out' : List ℕ} {u : Unit {0}} → k < n → Passes 0 c w w' one (Ok u) → Takes c w out out' one → Filling c w₀ out₀ n one w' out' (k + 1)
  filled l x y =
      let z : n - k ≡ suc (n - (k + 1)) = omega arith in
      record {
        kept = y.kept ∙ f.kept;
        rest = λ new r. f.rest new (record {
          kept = r.kept ∙ y.kept;
          takes = λ id s t rest old h e j. let g = x.passes.goes id s h in
              r.takes id g.state t rest old g.holds (next-round (n - (k + 1)) (n - k) (one id) s g.state t _ _ rest z g.same e) (y.takes id s g.state _ old h g.same j);
        });
      }

  pub full : n ≤ k → Takes c w₀ out₀ out (λ id. rounds n (one id))
  full l =
      let z : n - k ≡ 0 = omega arith in
      f.rest out (record { kept = refl; takes = λ id s t rest old h e y. subst (λ (u : Both). Carries old out u.names.log) (no-round (n - k) (one id) s t _ rest z e) y })
