-- A WITH is its projections and filter, with no pair held at first, and then what it binds (`with-as`): refused there (`with-refused`), or on from
-- what they leave (`Filtered`, `filtered`), where the pairs are bound anew (`with-asks`, `with-passes`). Its sort keys come then (`keys-ask`,
-- `keys-refused`), and what they saw is left, so that the pairs alone are seen (`again-asks`, `sorted-passes`).
use Rattle.std.specs.Prelude.{Result, Ok, Err}
use Rattle.std.specs.Result.{IsErr, IsErrAnd}
use Rattle.std.proofs.Common.{MutBor}
use Prim.Native.Nat.{ℕ, suc, ◌+◌, ◌≤◌}
use native.Mathlib.Omega.{arith}
use mathlib.Core.Path.{◌≡◌, refl, ap, sym, ◌∙◌}
use mathlib.Core.Bool.{Bool, true, false, cond}
use mathlib.Core.List.{List, []}
use lib.ListN.{length, drop}
use Rattle.refusal.specs.declared.Refusal.{Refusal}
use Rattle.heads.specs.Got.{Got, ok, no, bind, any_word, flag}
use Rattle.clauses.specs.Read.{max_depth}
use Rattle.scope.specs.Graph.{Name}
use Rattle.semantics.specs.Kinds.{plain}
use Rattle.semantics.specs.Resolve.{Seen, Pair, binds, leave, standing, barrier, fresh}
use Rattle.fused.specs.Fused.{Both, Mode, row_go, left}
use Rattle.fused.specs.Clauses.{Taken, nothing, takes, all_of, within, projections_go, rooted_by, sort_go, with_go, counted_row}
use Rattle.fused.proofs.StarKeys.{star-sort}
use Rattle.rowless.specs.Rowless.{Grows}
use Rattle.visible.specs.Visible.{seens, Descends}
use Rattle.visible.specs.Stack.{entries}
use Rattle.steps.specs.Memory.{words_in, names_in, world_at}
use Rattle.steps.specs.Named.{as_named}
use Rattle.steps.specs.Hold.{Fit, Holds, Still, Ready, on_names}
use Rattle.steps.specs.declared.Walk.{Walk}
use Rattle.steps.specs.declared.context.Context.{Context}
use Rattle.steps.proofs.Named.{named-grows}
use Rattle.steps.proofs.Held.{lower, still-then}
use Rattle.steps.proofs.Moved.{left-still, left-fits, left-holds}
use Rattle.walk.specs.Goes.{Walked, rest_in}
use Rattle.clause_parts.specs.Passes.{Held, Passes, counted_at}
use Rattle.clause_parts.proofs.Cleared.{names-step, below-descends, cut_still, cut_holds, cut_at, cleared-fits}
use Rattle.projection_walk.specs.Pairs.{pairs_in, pairs_of, taken_by, kept_of, InNames}
use Rattle.projection_walk.specs.Carries.{Carries, ComesHolding, filtered_at}
use Rattle.projection_walk.specs.declared.pairs.Pairs.{Pairs}
use Rattle.with_walk.specs.Binds.{Rebinds, BindsIn, SeesAgainIn, SeesAgain, first_seen, under_star, rooted_on, seen_by, with_at}
use Rattle.with_walk.proofs.Named.{named-descends}
use Rattle.with_walk.proofs.Seeing.{unbound, barrier-last, renewed, rooted-beside, seen-again}

-- ---- projections and filter, and then what is bound
module _ (K : Both × Taken → List ℕ → Got Both) where
  after-row : (ps : Taken) (g : Got Both) → bind g (λ u r. K (u, ps) r) ≡ bind (bind {B = Both × Taken} g (λ u r. ok (u, ps) r)) K
  after-row ps (ok u r) = refl
  after-row ps (no e) = refl

  module _ (R : ℕ → Both → List ℕ → Got Both) where
    after-flag : (x : Both × Taken) (g : Got ℕ) → bind g (λ n r. bind (R n x.0 r) (λ u r2. K (u, x.1) r2)) ≡ bind (bind {B = Both × Taken} g (λ n r. bind (R n x.0 r) (λ u r2. ok (u, x.1) r2))) K
    after-flag x (ok n r) = after-row x.1 (R n x.0 r)
    after-flag x (no e) = refl

    after-pairs : (g : Got (Both × Taken)) → bind g (λ x r. bind (flag r) (λ n r2. bind (R n x.0 r2) (λ u r3. K (u, x.1) r3))) ≡ bind (bind {B = Both × Taken} g (λ x r. bind (flag r) (λ n r2. bind (R n x.0 r2) (λ u r3. ok (u, x.1) r3)))) K
    after-pairs (ok x r) = after-flag x (flag r)
    after-pairs (no e) = refl

    after-count : (P : ℕ → List ℕ → Got (Both × Taken)) (g : Got ℕ) → bind g (λ k r. bind (P k r) (λ x r1. bind (flag r1) (λ n r2. bind (R n x.0 r2) (λ u r3. K (u, x.1) r3)))) ≡ bind (bind {B = Both × Taken} g (λ k r. bind (P k r) (λ x r1. bind (flag r1) (λ n r2. bind (R n x.0 r2) (λ u r3. ok (u, x.1) r3))))) K
    after-count P (ok k r) = after-pairs (P k r)
    after-count P (no e) = refl

with-as : (c : Context) (m : Mode) (a b : ℕ) (sorts : Bool) (id : ℕ → ℕ) (s : Both) (r : List ℕ) →
    with_at c m sorts a b id s r ≡ bind (filtered_at c m id nothing s r) (λ x r2. sort_go (world_at c id) (names_in c) m a b sorts s (rooted_by (world_at c id) (names_in c) m a b (all_of x.1 s.names.visible) x.0) r2)
unfolding with_go
with-as c m a b sorts id s r =
    let w = world_at c id in
    let t = names_in c in
    after-count (λ x r2. sort_go w t m a b sorts s (rooted_by w t m a b (all_of x.1 s.names.visible) x.0) r2) (λ n u r3. row_go (within w t m) n plain u r3) (λ k r1. projections_go w t (takes w) m k nothing s r1) (any_word r)

-- ---- nothing is taken at first
abbrev none_held : MutBor (List ℕ) → Pairs
none_held l = record { words = l; count = 0; star = false }

-- what projections and filter leave
pub record Filtered (m : Mode) (c : Context) (l : MutBor (List ℕ)) (w w' : Walk) (p : Pairs) : Type 0 where
  pub still : Still w w'
  pub size : length p.words.now ≡ length l.now
  pub from : w.at ≤ w'.at
  pub paid : kept_of p + w.at ≤ w'.at
  pub top : w.visible.top ≤ w'.visible.top
  pub below : seens w'.visible.names w.visible.top w'.visible.words.now ≡ entries w.visible
  pub grows : Grows w.rowless w'.rowless
  pub named : InNames (names_in c) (pairs_of p)
  pub fit : (k : ℕ) → Fit k c w → Fit (k + kept_of p) c w'
  pub goes : (id : ℕ → ℕ) (s : Both) → Holds id c w s → ComesHolding id c w' p (filtered_at c m id nothing s (rest_in c w))

module _ {c : Context} {l : MutBor (List ℕ)} {w w' : Walk} {p : Pairs} (m : Mode) where
  pub filtered : {u : Unit {0}} → Carries 0 c w (none_held l) w' p (filtered_at c m) (Ok u) → Filtered m c l w w' p
  unfolding pairs_in InNames
  filtered x =
      let y = x.carries in
      record {
        still = x.still;
        size = x.held.size;
        from = y.from;
        paid = omega (arith, y.paid);
        top = y.top;
        below = rw x.still.visible.names y.below;
        grows = y.grows;
        named = y.named tt;
        fit = λ k f. y.fit k (lower (omega arith) (omega arith) (omega arith) f);
        goes = y.goes;
      }

  pub with-refused : {e : Refusal} (sorts : Bool) (a b : ℕ) (r : Result (Unit {0}) Refusal) → Carries 0 c w (none_held l) w' p (filtered_at c m) (Err e) → IsErr r × IsErrAnd r (λ y. y ≡ e) → Passes 3 c w w' (with_at c m sorts a b) r
  unfolding pairs_in
  with-refused sorts a b (Err y) x q =
      record { still = x.still; passes = record { same = λ id s h. with-as c m a b sorts id s (rest_in c w) ∙ rw (x.carries id s h, q.1) } }
  with-refused sorts a b (Ok u) x q = absurd q.1

-- out of a scope, where names are resolved
left-live : (m : Mode) (s u : Both) → m.resolves ≡ true → left m s u ≡ on_names (leave s.names) u
left-live m s u e = rw e

-- ---- what was taken is bound anew
low-before : (b : Bool) (top : ℕ) → cond b top 0 ≤ top
low-before true top = omega arith
low-before false top = omega arith

module _ {m : Mode} {c : Context} {l : MutBor (List ℕ)} {w w2 : Walk} {p : Pairs} (given : Held c l.now m) (ready : Ready 3 c w) (x : Filtered m c l w w2 p) where
  -- the names before
  before : first_seen w.visible.top w2 ≡ as_named w.rowless (entries w.visible)
  before = ap (λ (s : List Seen). as_named w2.rowless s) x.below ∙ named-grows (entries w.visible) x.grows ready.fit.below

  pub with-asks : {top : ℕ} → top ≤ w.visible.top → BindsIn top w2 p × Ready (2 + kept_of p) c w2
  with-asks h =
      let f = x.fit 3 ready.fit in
      let a = x.paid in
      let b = x.top in
      let v = f.within in
      let d = given.room in
      let e = x.size in
      let s = ready.fit.stack in
      let n = x.grows.listed in
      (record { wide = omega arith; named = rw f.listed x.named; low = omega arith; room = omega arith }, record { fine = ready.fine; fit = lower (omega arith) (omega arith) (omega arith) f })

  module _ {w3 : Walk} {a b top : ℕ} (y : Rebinds c p w2 w3 a b top) (low : top ≤ w.visible.top) where
    root-fits : (k : ℕ) → Fit (3 + k) c w → Fit k c w3
    root-fits k f =
        let d = x.paid in
        let s = f.stack in
        let n = x.grows.listed in
        y.fit k (lower (omega arith) (omega arith) (omega arith) (x.fit (3 + k) f)) (omega arith)

    pub keys-ask : Ready 0 c w3
    keys-ask = record { fine = ready.fine; fit = root-fits 0 ready.fit }

  -- the names before, where a star carries them or nothing of them is seen
  all-of : (t : Bool) (top : ℕ) (ps : List Pair) (r : List Seen) → first_seen top w2 ≡ r →
      (under_star t (first_seen (cond t top 0) w2) ≡ []) × (all_of (record { star = t; pairs = ps }) (first_seen (cond t top 0) w2) ≡ all_of (record { star = t; pairs = ps }) r)
  unfolding seens as_named
  all-of true top ps r e = (refl, ap (λ (v : List Seen). all_of (record { star = true; pairs = ps }) v) e)
  all-of false top ps r e = (refl, refl)

  pub with-passes : {w3 : Walk} {a b top : ℕ} {u : Unit {0}} → top ≡ cond p.star w.visible.top 0 → Rebinds c p w2 w3 a b top → Passes 3 c w w3 (with_at c m false a b) (Ok u)
  unfolding fresh
  with-passes {a = a} {b} q y =
      let y = rw q at y in
      let d = y.at in
      record {
        still = still-then x.still y.still;
        passes = record {
          from = omega (arith, x.from, d);
          fit = root-fits y (low-before p.star w.visible.top);
          goes = λ id s h. let g = x.goes id s h in let z = all-of p.star w.visible.top (pairs_of p) s.names.visible (before ∙ h.visible) in
              record {
                state = on_names (renewed (world_at c id) a b (all_of (taken_by p) s.names.visible)) g.state;
                holds = rw (z.0, z.1) at (y.goes id g.state g.holds);
                same = with-as c m a b false id s (rest_in c w) ∙ rw (g.same, names-step m (renewed (world_at c id) a b (all_of (taken_by p) s.names.visible)) g.state given.resolves, d);
              };
        };
      }

  -- ---- sort keys
  -- where they are walked: above the names before, unless a star carries these
  abbrev keyed : Bool → (ℕ → ℕ) → (a b : ℕ) → Both → Both → Both
  keyed t id a b s u = on_names (rooted_on (under_star t s.names.visible) (world_at c id) a b (all_of (record { star = t; pairs = pairs_of p }) s.names.visible)) u

  -- what is visible after them
  abbrev ended : Bool → (ℕ → ℕ) → (a b : ℕ) → Both → Both → Both
  ended t id a b s u = on_names (renewed (world_at c id) a b (all_of (record { star = t; pairs = pairs_of p }) s.names.visible)) u

  -- the names before are of scopes before the new Root
  outside : (id : ℕ → ℕ) (s : Both) (h : Holds id c w s) → Descends w2.cur s.names.visible
  outside id s h =
      let f = x.fit 3 ready.fit in
      rw (before, h.visible) at (named-descends w2.rowless w2.cur (seens w2.visible.names w.visible.top w2.visible.words.now) (below-descends w2.visible.names w.visible.top w2.visible.top w2.cur w2.visible.words.now x.top f.descends))

  keys-as : (t : Bool) (a b : ℕ) (id : ℕ → ℕ) (s : Both) (h : Holds id c w s) → p.star ≡ t → let u = (x.goes id s h).state in
      with_at c m true a b id s (rest_in c w) ≡ bind (counted_at c m id (keyed t id a b s u) (rest_in c w2)) (λ z r. ok (left m (ended t id a b s u) z) r)
  unfolding fresh
  keys-as true a b id s h e =
      let g = x.goes id s h in
      let W = world_at c id in
      let f = x.fit 3 ready.fit in
      let q : Taken = record { star = true; pairs = pairs_of p } in
      with-as c m a b true id s (rest_in c w)
      ∙ rw (g.same, e)
      (star-sort W (names_in c) m a b q s g.state w2.cur (rest_in c w2) given.resolves refl (λ d y n. unbound w2.cur d y s.names.visible n (outside id s h)) (omega (arith, f.cur, g.holds.last))
      ∙ ap (λ (v : Both). bind (counted_row W (names_in c) m v (rest_in c w2)) (λ z r. ok (left m v z) r)) (names-step m (renewed W a b (all_of q s.names.visible)) g.state given.resolves))
  keys-as false a b id s h e =
      let g = x.goes id s h in
      let W = world_at c id in
      let f = x.fit 3 ready.fit in
      let ps = pairs_of p in
      let n = barrier-last W a b (pairs_of p) g.state.names in
      let free : (y : Name) → binds (suc (barrier W a b (pairs_of p) g.state.names).last) y s.names.visible ≡ false = λ y. unbound w2.cur _ y s.names.visible (omega (arith, f.cur, g.holds.last, n)) (outside id s h) in
      with-as c m a b true id s (rest_in c w)
      ∙ rw (g.same, e)
      (ap (λ (v : Both). sort_go W (names_in c) m a b true s v (rest_in c w2)) (names-step m (renewed W a b ps) g.state given.resolves)
      ∙ ap (λ (k : Both). bind (counted_row W (names_in c) m k (rest_in c w2)) (λ z r. ok (left m (on_names (renewed W a b ps) g.state) z) r)) (rooted-beside W a b ps m s g.state given.resolves free))

  module _ {w3 : Walk} {a b : ℕ} (y : Rebinds c p w2 w3 a b w.visible.top) where
    keyed-holds : (t : Bool) (id : ℕ → ℕ) (s : Both) (h : Holds id c w s) → p.star ≡ t → let u = (x.goes id s h).state in Holds id c w3 (keyed t id a b s u)
    keyed-holds t id s h e = let g = x.goes id s h in rw (e, before, h.visible) at (y.goes id g.state g.holds)

    -- the keys are read from where the WITH came to
    keys-at : (t : Bool) (id : ℕ → ℕ) (s : Both) (h : Holds id c w s) → p.star ≡ t → let u = (x.goes id s h).state in
        with_at c m true a b id s (rest_in c w) ≡ bind (counted_at c m id (keyed t id a b s u) (rest_in c w3)) (λ z r. ok (left m (ended t id a b s u) z) r)
    keys-at t id s h e =
        let u = (x.goes id s h).state in
        keys-as t a b id s h e ∙ ap (λ (n : ℕ). bind (counted_at c m id (keyed t id a b s u) (drop n (words_in c))) (λ z r. ok (left m (ended t id a b s u) z) r)) (sym y.at)

    still3 : Still w w3
    still3 = still-then x.still y.still

    module _ {w4 : Walk} where
      pub keys-refused : {e : Refusal} (r : Result (Unit {0}) Refusal) → Walked max_depth c w3 w4 (counted_at c m) (Err e) → IsErr r × IsErrAnd r (λ v. v ≡ e) → Passes 3 c w w4 (with_at c m true a b) r
      keys-refused (Err e) k q =
          record {
            still = still-then still3 k.still;
            passes = record { same = λ id s h. keys-at p.star id s h refl ∙ rw (k.goes.same id _ (keyed-holds p.star id s h refl), q.1) };
          }
      keys-refused (Ok u) k q = absurd q.1

      module _ {u : Unit {0}} (k : Walked max_depth c w3 w4 (counted_at c m) (Ok u)) where
        walked-fits : (i : ℕ) → Fit (3 + i) c w → Fit i c w4
        walked-fits i f = k.goes.fit i (root-fits y (omega arith) i f)

        still4 : Still w w4
        still4 = still-then still3 k.still

        pub again-asks : SeesAgainIn w3.visible.top w3.cur w4 p
        again-asks =
            let f = walked-fits 0 ready.fit in
            let g = root-fits y (omega arith) 0 ready.fit in
            let d = x.paid in
            let h = given.room in
            let i = ready.fine.short in
            let v = (x.fit 3 ready.fit).within in
            let o = x.size in
            let r = f.names in
            let s = ready.fit.stack in
            let j = ready.fit.listed in
            let e = f.listed in
            let t = f.heads in
            record { short = omega (arith, g.cur, g.last, g.within, ready.fine.short); sound = f.sound; low = k.goes.frame.top; wide = omega arith; named = rw e x.named; few = omega arith; places = omega arith; room = omega arith }

        module _ {w5 : Walk} {o : Unit {0}} (z : SeesAgain p w3.visible.top w3.cur w4 w5) where
          -- ---- after the keys: all that a star carries is still seen
          star-passes : p.star ≡ true → Passes 3 c w w5 (with_at c m true a b) (Ok o)
          unfolding fresh
          star-passes e =
              let l = z.yes e in
              let fit3 = root-fits y (omega arith) 0 ready.fit in
              let at5 = ap (λ (v : Walk). v.at) l.same in
              record {
                still = still-then still4 (left-still fit3 (walked-fits 0 ready.fit) k.still k.goes.frame l);
                passes = record {
                  from = omega (arith, x.from, y.at, k.goes.from, at5);
                  fit = λ i f. left-fits (root-fits y (omega arith) i f) (walked-fits i f) k.still k.goes.frame l;
                  goes = λ id s h. let u = (x.goes id s h).state in let b3 = keyed-holds true id s h e in let g = k.goes.goes id _ b3 in
                      record {
                        state = on_names (leave (ended true id a b s u).names) g.state;
                        holds = left-holds fit3 (walked-fits 0 ready.fit) k.still k.goes.frame l b3 g.holds;
                        same = keys-at true id s h e ∙ rw (g.same, at5) (ap (λ (t : Both). ok t (rest_in c w4)) (left-live m (ended true id a b s u) g.state given.resolves));
                      };
                };
              }

          -- or the pairs are seen again, and alone
          pair-passes : p.star ≡ false → Passes 3 c w w5 (with_at c m true a b) (Ok o)
          unfolding seens as_named
          pair-passes e =
              let n = z.no e in
              let l = n.left in
              let v = n.sees.all c in
              let named : InNames n.between.rowless.listed (pairs_of p) = let e = ap (λ (v : Walk). v.rowless.listed) l.same ∙ (walked-fits 0 ready.fit).listed in rw e x.named in
              let at5 : w5.at ≡ w4.at = ap (λ (v : Walk). v.at) n.sees.same ∙ cut_at l in
              record {
                still = still-then still4 (still-then (cut_still l) n.sees.still);
                passes = record {
                  from = omega (arith, x.from, y.at, k.goes.from, at5);
                  fit = λ i f. let g = root-fits y (omega arith) i f in let d = cleared-fits (walked-fits i f) l (omega (arith, g.cur, k.goes.frame.last)) in
                      v.fit i i i d named (omega (arith, l.visible.back, d.listed, f.listed, cut_at l, x.paid, f.stack, y.at, k.goes.from));
                  goes = λ id s h. let u = (x.goes id s h).state in let b3 = keyed-holds false id s h e in let g = k.goes.goes id _ b3 in
                      record {
                        state = on_names (seen_by (pairs_of p)) (on_names (standing [] w3.cur) g.state);
                        holds = v.goes id _ named (cut_holds l g.holds);
                        same = keys-at false id s h e ∙ rw (g.same, at5) (ap (λ (t : Both). ok t (drop w4.at (words_in c))) (seen-again (world_at c id) a b (pairs_of p) m s.names.visible u g.state given.resolves b3.cur));
                      };
                };
              }

          pub sorted-passes : Passes 3 c w w5 (with_at c m true a b) (Ok o)
          sorted-passes = go p.star refl
            where
              go : (t : Bool) → p.star ≡ t → Passes 3 c w w5 (with_at c m true a b) (Ok o)
              go true e = star-passes e
              go false e = pair-passes e
