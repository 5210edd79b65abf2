-- From a barrier lookup on the finished lists gives what is visible before its WITH, of the names that it carries (`barriers`): it is
-- so when the barrier has carried its names, and all that is said later stands in scopes above.
use Rattle.std.specs.Prelude.{None, Some}
use Prim.Native.Nat.{ℕ, suc, ◌<◌}
use native.Mathlib.Nat.{le_refl}
use native.Mathlib.Omega.{arith}
use mathlib.Core.Path.{◌≡◌, refl, ◌∙◌, ap}
use mathlib.Core.Bool.{Bool, true, false, cond, ◌&&◌, ◌||◌}
use mathlib.Core.List.{List, [], ◌∷◌, ◌++◌, map, reverse, reverse-cons, append_assoc}
use lib.Dec.{eqb, ltb, lt→ltb}
use Rattle.scope.specs.Graph.{with_barrier, scope, Carried, carried, Name, same_name}
use Rattle.scope.specs.Lookup.{carries}
use Rattle.scope.specs.Lookup.{Looked, nothing, answer_at}
use Rattle.clauses.specs.Tree.{exprs}
use Rattle.sheet.specs.Statement.{Statement}
use Rattle.semantics.specs.Log.{open', carry, binds_in, carries_in, logs}
use Rattle.semantics.specs.World.{World, world_of}
use Rattle.semantics.specs.Resolve.{Pair, pair, State, enter, barrier, log}
use Rattle.semantics.specs.Lists.{pairs_at, scopes, bindings, carried_list}
use Rattle.theorems.specs.Site.{Site, in_head, in_arm, cut_of, Stands, entry, before, pairs, resolved, at_barrier, barrier_of, new_root}
use Rattle.theorems.specs.Uses.{seen_as}
use Rattle.theorems.specs.Agree.{look, in_lists}
use Rattle.theorems.proofs.Within.{Within, within-reverse, nil, inside, cons}
use Rattle.theorems.proofs.Placed.{carry_at, carry-log, in-open, pre_log, split, tail-in, pre-opened, pairs-listed}
use Rattle.theorems.proofs.Looks.{newest, look-stays, look-open}
use Rattle.theorems.proofs.Keeps.{all_keep}
use Rattle.theorems.proofs.Shows.{named, Shows, shown, count, resolves-A, clauses-A, root-A, arm-A}
use Rattle.theorems.proofs.Tests.{holds, eqb_same, eqb_comm}
use Rattle.theorems.proofs.Names.{same_comm}

no-binds : (b : ℕ) (cs : List Pair) → binds_in (map (carry_at b) cs) ≡ []
unfolding logs
no-binds b [] = refl
no-binds b (pair x v ∷ cs) = no-binds b cs

carries_own : (b : ℕ) (x : Name) (cs : List Pair) → carries (carries_in (map (carry_at b) cs)) b x ≡ named x cs
unfolding logs carries named
carries_own b x [] = refl
carries_own b x (pair y v ∷ cs) = rw (eqb_same b, same_comm y x, carries_own b x cs) refl

carried-in : (lo b : ℕ) (cs : List Pair) → lo < b → Within lo b (map (carry_at b) cs)
unfolding inside
carried-in lo b [] h = nil
carried-in lo b (pair x v ∷ cs) h = cons {e = carry (carried b x v)} (h, le_refl _) (carried-in lo b cs h)

passes_on : (s p : ℕ) (g : Bool) (f : ℕ → Looked) → p < s → answer_at s None g (Some p) f ≡ cond g (f p) nothing
unfolding answer_at
passes_on s p true f h = rw (holds (ltb p s) (lt→ltb p s h)) refl
passes_on s p false f h = refl

-- at the barrier
barrier-gives : (w : World) (a b : ℕ) (cs : List Pair) (x : Name) {t : State} → Shows [] [] t → look (reverse (barrier w a b cs t).log) (suc t.last) x ≡ cond (named x cs) (seen_as x t.visible) nothing
unfolding barrier newest named
barrier-gives w a b cs x {t} h =
    let l = reverse t.log in
    let o = open' (scope with_barrier (Some t.cur) a b) in
    let m = map (carry_at (suc t.last)) cs in
    let e : reverse (barrier w a b cs t).log ≡ l ++ o ∷ m = carry-log w cs (enter with_barrier a b t) ∙ ap (λ z. z ++ m) (reverse-cons o t.log) ∙ append_assoc l (o ∷ []) m in
    ap (λ z. look z (suc t.last) x) e
    ∙ look-open l m t.last with_barrier t.cur a b x (within-reverse h.fine.within nil) (count h.fine)
    ∙ rw (no-binds (suc t.last) cs, carries_own (suc t.last) x cs)
    (passes_on (suc t.last) t.cur (named x cs) (λ q. look (l ++ o ∷ m) q x) (omega (arith, h.low)))
    ∙ ap (λ z. cond (named x cs) z nothing)
    (look-stays l t.cur x (in-open {s = scope with_barrier (Some t.cur) a b} (carried-in t.last (suc t.last) cs (le_refl _))) h.low (omega (arith, count h.fine, h.low)) ∙ shown h x)

module _ (warns : Bool) (s : Statement) where
  before-A : (p : Site) → Shows [] [] (before warns s p)
  unfolding before entry
  before-A (in_head c) = clauses-A (world_of warns s) c.before (root-A warns s)
  before-A (in_arm e a b c l) = clauses-A (world_of warns s) c.before (arm-A warns s e)

  at-barrier : (p : Site) (x : Name) → Stands s p → in_lists warns s (barrier_of warns s p) x ≡ cond (named x (pairs warns s p)) (seen_as x (before warns s p).visible) nothing
  unfolding barrier_of at_barrier resolved pre_log
  at-barrier p x q =
      let w = world_of warns s in
      let es = exprs (cut_of p).projections (cut_of p).filter in
      let n = barrier_of warns s p in
      in-log ∙ ap (λ l. look l n x) (split warns s p q) ∙ look-stays (pre_log warns s p) n x (tail-in warns s p).1 (le_refl _) (unfold new_root in omega (arith, pre-opened warns s p))
      ∙ barrier-gives w (cut_of p).start (cut_of p).stop (pairs warns s p) x (resolves-A w es (before-A p)) ∙ ap (λ z. cond (named x (pairs warns s p)) (seen_as x z) nothing) (all_keep w es (before warns s p)).visible
    where
      in-log : in_lists warns s (barrier_of warns s p) x ≡ look (log warns s) (barrier_of warns s p) x
      in-log = unfold in_lists look scopes bindings carried_list in refl

  -- The finished list has the names that the barrier carries.
  named-listed : (b : ℕ) (x : Name) (l : List Carried) → carries l b x ≡ named x (pairs_at b l)
  unfolding carries named pairs_at
  named-listed b x [] = refl
  named-listed b x (carried c y v ∷ l) = rw (eqb_comm c b, same_comm y x, named-listed b x l) (go (eqb b c))
    where
      go : (t : Bool) → (t && same_name x y || named x (pairs_at b l)) ≡ named x (cond t (pair y v ∷ pairs_at b l) (pairs_at b l))
      go true = refl
      go false = refl

  pub barriers : (p : Site) (x : Name) → Stands s p
      → in_lists warns s (barrier_of warns s p) x ≡ cond (carries (carried_list warns s) (barrier_of warns s p) x) (seen_as x (before warns s p).visible) nothing
  barriers p x q = rw (named-listed (barrier_of warns s p) x (carried_list warns s), pairs-listed warns s p q) (at-barrier p x q)
