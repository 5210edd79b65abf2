-- A RETURN: its projections are walked as rounds, from outside its scope, where a walk may begin (`outside-ready`). They are refused
-- (`return_refused`), or its scope is current after them (`leave-asks`, `return-passes`).
use Rattle.std.specs.Prelude.{Result, Ok, Err}
use Rattle.std.specs.Result.{IsErr, IsErrAnd}
use Prim.Native.Nat.{ℕ, zero, suc, ◌+◌, ◌≤◌}
use native.Mathlib.Omega.{arith}
use mathlib.Core.Path.{◌≡◌, refl, ap, sym, subst, ◌∙◌}
use mathlib.Core.Bool.{Bool, true, false}
use mathlib.Core.List.{List, [], ◌++◌}
use lib.ListN.{drop}
use Rattle.refusal.specs.declared.Refusal.{Refusal}
use Rattle.heads.specs.Got.{Got, ok, no, bind, word_in, any_word}
use Rattle.clauses.specs.Read.{max_depth, alias_of}
use Rattle.semantics.specs.World.{World}
use Rattle.semantics.specs.Resolve.{Seen, enter, leave, standing, alias_in}
use Rattle.semantics.specs.Kinds.{general}
use Rattle.fused.specs.Fused.{Both, Mode, Go, rounds, step}
use Rattle.fused.specs.Clauses.{within, aliased, projections_go, returned, return_go}
use Rattle.visible.specs.Visible.{seens}
use Rattle.visible.specs.Stack.{entries, Sound}
use Rattle.steps.specs.Named.{as_named}
use Rattle.steps.specs.Memory.{words_in, names_in, world_at}
use Rattle.steps.specs.Hold.{Fit, Holds, Frame, Still, Steps, Ready, Left, on_names}
use Rattle.steps.specs.declared.Walk.{Walk}
use Rattle.steps.specs.declared.context.Context.{Context}
use Rattle.steps.proofs.Named.{named-grows}
use Rattle.steps.proofs.Held.{lower, framed, frame-more, still-then}
use Rattle.steps.proofs.Moved.{left-fits, left-frame, left-holds}
use Rattle.walk.specs.Goes.{Walked, rest_in}
use Rattle.clause_parts.specs.Passes.{Passes, Held, Clear}
use Rattle.clause_parts.proofs.Cleared.{below-descends, cut_still, cut_fits, cut_holds, cut_at, names-step}
use Rattle.return_walk.specs.Returns.{KeysIn, output_at, hushed_at, outside_at, return_at}

-- ---- projections whose aliases nobody asks for
module _ (P : List ℕ → Both → List ℕ → Got (Both × List ℕ)) (R : Go) (f : Both → Both) (same : (xs : List ℕ) (s : Both) (r : List ℕ) → bind (P xs s r) (λ x r2. ok (f x.0) r2) ≡ bind (R s r) (λ u r2. ok (f u) r2))
    (E : List ℕ → Got Both) (c : ℕ → List ℕ) where
  after-expr : (a : ℕ) (g : Got Both) → bind (bind g (λ u r2. P (c a) u r2)) (λ x r2. ok (f x.0) r2) ≡ bind (bind g (λ u r2. R u r2)) (λ u r2. ok (f u) r2)
  after-expr a (ok u r2) = same (c a) u r2
  after-expr a (no e) = refl

  after-word : (g : Got ℕ) → bind (bind g (λ a r1. bind (E r1) (λ u r2. P (c a) u r2))) (λ x r2. ok (f x.0) r2) ≡ bind (bind (bind g (λ a r1. E r1)) (λ u r2. R u r2)) (λ u r2. ok (f u) r2)
  after-word (ok a r) = after-expr a (E r)
  after-word (no e) = refl

module _ (w : World) (names : ℕ) (m : Mode) (f : Both → Both) where
  abbrev one : Go
  one s r = bind (word_in 0 (suc names) r) (λ a r1. within w names m general s r1)

  outputs-as : (n : ℕ) (xs : List ℕ) (s : Both) (r : List ℕ) → bind (projections_go w names aliased m n xs s r) (λ x r2. ok (f x.0) r2) ≡ bind (rounds n one s r) (λ u r2. ok (f u) r2)
  unfolding projections_go rounds
  outputs-as zero xs s r = refl
  outputs-as (suc n) xs s r =
      after-word (projections_go w names aliased m n) (rounds n one) f (outputs-as n) (within w names m general s) (λ a. xs ++ alias_in (alias_of a)) (word_in 0 (suc names) r)

-- ---- a RETURN
-- what is walked from outside the scope, and then its scope is current
module _ (c : Context) (m : Mode) (a b : ℕ) (id : ℕ → ℕ) (s : Both) where
  abbrev outside : Both
  outside = step m (λ y. leave y (enter 8 a b y)) [] s

  abbrev ended : Both → List ℕ → Got Both
  ended u r = ok (returned m s u) r

  return-as : (sorts : Bool) (r : List ℕ) → return_at c m sorts a b id s r ≡ bind (outside_at c m sorts id outside r) ended
  unfolding return_go
  return-as false r = go (any_word r)
    where
      go : (g : Got ℕ) → bind g (λ n r1. bind (projections_go (world_at c id) (names_in c) aliased m n [] outside r1) (λ x r2. ended x.0 r2)) ≡ bind (bind g (λ n r1. rounds n (output_at c m id) outside r1)) ended
      go (ok n r1) = outputs-as (world_at c id) (names_in c) m (returned m s) n [] outside r1
      go (no e) = refl
  return-as true r = go (any_word r)
    where
      P : ℕ → List ℕ → Got (Both × List ℕ)
      P n r1 = projections_go (world_at c id) (names_in c) aliased m n [] outside r1

      inner : (g : Got (Both × List ℕ)) → bind g (λ x r2. bind (hushed_at c m x.1 id x.0 r2) ended) ≡ bind (bind g (λ x r2. hushed_at c m x.1 id x.0 r2)) ended
      inner (ok x r2) = refl
      inner (no e) = refl

      go : (g : Got ℕ) → bind g (λ n r1. bind (P n r1) (λ x r2. bind (hushed_at c m x.1 id x.0 r2) ended)) ≡ bind (bind g (λ n r1. bind (P n r1) (λ x r2. hushed_at c m x.1 id x.0 r2))) ended
      go (ok n r1) = inner (P n r1)
      go (no e) = refl

-- the names before it are visible again, and its scope is current
returned-as : (m : Mode) (s u : Both) {l : List Seen} {k : ℕ} → m.resolves ≡ true → l ≡ s.names.visible → k ≡ suc s.names.last → on_names (standing l k) u ≡ returned m s u
returned-as m s u q e f = rw (e, f, q)

-- the scope is opened (w1) and left (w2), the expressions are walked (w3), and its scope is current with the names that were visible (w4)
module _ {c : Context} {w w1 w2 : Walk} {a b : ℕ} (ready : Ready 3 c w) (x : Steps 1 c w w1 (λ id. on_names (enter 8 a b))) (p : Left w1 w2 w.visible.top w.cur) where
  opened-fits : (k : ℕ) → Fit (3 + k) c w → Fit (2 + k) c w1
  opened-fits k f = x.fit (2 + k) (2 + k) (2 + k) (lower (omega arith) (omega arith) (omega arith) f)

  inner-fits : (k : ℕ) → Fit (3 + k) c w → Fit (2 + k) c w2
  inner-fits k f = left-fits f (opened-fits k f) x.still x.frame p

  -- an expression may be walked from outside it
  pub outside-ready : Ready 0 c w2
  outside-ready = record { fine = ready.fine; fit = lower (omega arith) (omega arith) (omega arith) (inner-fits 0 ready.fit) }

  inner-frame : Frame 0 w w2
  inner-frame = left-frame ready.fit (opened-fits 0 ready.fit) x.still x.frame p

  inner-still : Still w w2
  inner-still = still-then x.still (cut_still p)

  inner-at : w2.at ≡ w.at
  inner-at = cut_at p ∙ x.at

  inner-holds : {id : ℕ → ℕ} {s : Both} → Holds id c w s → Holds id c w2 (on_names (λ y. leave y (enter 8 a b y)) s)
  inner-holds {id} {s} h = left-holds ready.fit (opened-fits 0 ready.fit) x.still x.frame p h (x.goes id s h)

  inner-go : (m : Mode) (sorts : Bool) → m.resolves ≡ true → (id : ℕ → ℕ) (s : Both) →
      return_at c m sorts a b id s (rest_in c w) ≡ bind (outside_at c m sorts id (on_names (λ y. leave y (enter 8 a b y)) s) (rest_in c w2)) (ended c m a b id s)
  inner-go m sorts live id s =
      return-as c m a b id s sorts (rest_in c w)
      ∙ rw (names-step m (λ y. leave y (enter 8 a b y)) s live) (ap (λ (k : ℕ). bind (outside_at c m sorts id (on_names (λ y. leave y (enter 8 a b y)) s) (drop k (words_in c))) (ended c m a b id s)) (sym inner-at))

  module _ (m : Mode) (sorts : Bool) (live : m.resolves ≡ true) {w3 : Walk} where
    pub return_refused : {e : Refusal} (r : Result (Unit {0}) Refusal) → Walked max_depth c w2 w3 (outside_at c m sorts) (Err e) → IsErr r × IsErrAnd r (λ y. y ≡ e) → Passes 3 c w w3 (return_at c m sorts a b) r
    return_refused (Err e) y q =
        record {
          still = still-then inner-still y.still;
          passes = record { same = λ id s h. inner-go m sorts live id s ∙ rw (y.goes.same id _ (inner-holds h), q.1) };
        }
    return_refused (Ok u) y q = absurd q.1

    pub leave-asks : {u : Unit {0}} → Walked max_depth c w2 w3 (outside_at c m sorts) (Ok u) → (w.visible.top ≤ w3.visible.top) × Sound w3.visible
    leave-asks y = (omega (arith, inner-frame.top, y.goes.frame.top), (y.goes.fit 2 (inner-fits 0 ready.fit)).sound)

    pub return-passes : {w4 : Walk} {u : Unit {0}} → Walked max_depth c w2 w3 (outside_at c m sorts) (Ok u) → Left w3 w4 w.visible.top w1.cur → Passes 3 c w w4 (return_at c m sorts a b) (Ok u)
    return-passes {w4} {u} y l =
        let z = y.goes in
        let frame = framed {room = max_depth} inner-still (frame-more {j = max_depth} (omega arith) inner-frame) z.frame in
        let still = still-then inner-still y.still in
        let see : seens w3.visible.names w.visible.top w3.visible.words.now ≡ entries w.visible = rw still.visible.names frame.below in
        record {
          still = still-then still (cut_still l);
          passes = record {
            from = omega (arith, z.from, inner-at, cut_at l);
            fit = λ k f. let g1 = opened-fits k f in let g = z.fit (2 + k) (inner-fits k f) in
                cut_fits l (lower (omega arith) (omega arith) (omega arith) g) frame.top
                (rw (see, ← x.frame.below, ← x.still.visible.names) (below-descends w1.visible.names w.visible.top w1.visible.top w1.cur w1.visible.words.now x.frame.top g1.descends))
                (omega (arith, g1.cur, ap (λ (v : Walk). v.last) p.same, z.frame.last));
            goes = λ id s h. let v = z.goes id _ (inner-holds h) in
                record {
                  state = returned m s v.state;
                  holds = subst (λ t. Holds id c w4 t) (returned-as m s v.state live (ap (λ l. as_named w3.rowless l) see ∙ named-grows (entries w.visible) frame.grows ready.fit.below ∙ h.visible) (x.goes id s h).cur) (cut_holds l v.holds);
                  same = inner-go m sorts live id s ∙ rw v.same (ap (λ (k : ℕ). ok (returned m s v.state) (drop k (words_in c))) (sym (cut_at l)));
                };
          };
        }

-- words that serve for sort keys serve without them
pub keys_in : (b : Bool) {c : Context} {m : Mode} {held marks : List ℕ} → Held c held m × Clear c marks → KeysIn b c m held marks
keys_in true h = h
keys_in false h = tt
