-- Projections of a WITH, on the way to what it takes. A Var or a name is its use (`var-within`, `name-within`, paid by two words: `var-paid`,
-- `name-paid`) and what it adds (`form-ready`, `form-holding`, `direct-passes`), any other expression (`other-form`) is walked, and its alias is held
-- (`other-passes`), no head is refused (`form-refused`). The alias comes first (`first-as`, a name: `alias-within`). A loop of them has
-- carried the first ones: none (`begun`), one more (`turn`), or is refused at its `?` (`fall`), since all are the first ones and then the
-- others (`split`).
use Rattle.std.specs.Prelude.{Option, None, Some, Result, Ok, Err}
use Rattle.std.specs.Result.{IsErr, IsErrAnd}
use Prim.Native.Nat.{ℕ, zero, suc, ◌+◌, ◌-◌, ◌<◌, ◌≤◌}
use native.Mathlib.Omega.{arith}
use native.Mathlib.Numerals.{add-one}
use mathlib.Core.Path.{◌≡◌, refl, ap, sym}
use mathlib.Core.Bool.{true, or-false}
use mathlib.Core.List.{List, append-nil}
use lib.ListN.{drop}
use Rattle.refusal.specs.Number.{number_of}
use Rattle.refusal.specs.declared.Refusal.{Refusal}
use Rattle.heads.specs.Got.{Got, ok, no, bind, word_in}
use Rattle.heads.specs.Answer.{Ans}
use Rattle.heads.specs.Form.{read_form}
use Rattle.heads.specs.declared.Form.{Form}
use Rattle.heads.specs.declared.Form.TheVariants.{Var, Unresolved, Leaf, Prop, Two, Slice, Many, BinOp, UnaryOp, Case, IsNull, PatternPredicate, ListComprehension, PatternComprehension, ListPredicate, MapProjection}
use Rattle.clauses.specs.Read.{max_depth, alias_of}
use Rattle.clauses.specs.Write.{alias_word}
use Rattle.semantics.specs.World.{World, Direct, other}
use Rattle.semantics.specs.Resolve.{carries, is_all, use_var}
use Rattle.semantics.specs.Kinds.{general, at_row}
use Rattle.fused.specs.Fused.{Both, Mode, step, name_use, row_go, rounds, rest_go, expr_go}
use Rattle.fused.specs.Clauses.{within, direct_form, direct_of, Taken, takes, projections_go}
use Rattle.steps.specs.Memory.{words_in, names_in, use_in, world_at}
use Rattle.steps.specs.Hold.{Ready, on_names}
use Rattle.steps.specs.declared.Walk.{Walk}
use Rattle.steps.specs.declared.context.Context.{Context}
use Rattle.steps.proofs.Named.{grows-idle}
use Rattle.steps.proofs.Held.{lower, still-idle, still-then}
use Rattle.walk.specs.Goes.{Walked, rest_in, expr_at}
use Rattle.walk.proofs.Paid.{form-paid}
use Rattle.walk.proofs.Stage.{placed, placed-fit, placed-holds, placed-still}
use Rattle.clause_parts.proofs.Cleared.{names-step}
use Rattle.projection_walk.specs.Pairs.{pairs_of, kept_of, KeptOther}
use Rattle.projection_walk.specs.Carries.{Holding, Adds, Within, Carries, carried_at, projections_at}
use Rattle.projection_walk.specs.declared.pairs.Pairs.{Pairs}
use Rattle.projection_walk.proofs.Carrying.{still_idle, kept-more, names_more}
use Rattle.projection_walk.proofs.Chained.{as-passes, first-refused, then-passes}

-- ---- the two forms of an expression that may be carried are their use
module _ (w : World) (t : ℕ) (m : Mode) (s : Both) (r : List ℕ) {r2 : List ℕ} where
  var-at : (d : ℕ) {v : ℕ} → read_form t r ≡ ok (Var v) r2 → expr_go w t (suc d) m general s r ≡ ok (step m (use_var w v (w.row v)) (at_row general (w.row v)) s) r2
  unfolding expr_go rest_go row_go rounds
  var-at d q = rw q refl

  name-at : (d : ℕ) {x : ℕ} → m.resolves ≡ true → read_form t r ≡ ok (Unresolved x) r2 → expr_go w t (suc d) m general s r ≡ ok (on_names (name_use w x) s) r2
  unfolding expr_go rest_go row_go rounds
  name-at d {x} live q = rw q (ap (λ (u : Both). ok u r2) (names-step m (name_use w x) s live))

  pub var-within : {v : ℕ} → read_form t r ≡ ok (Var v) r2 → within w t m general s r ≡ ok (step m (use_var w v (w.row v)) (at_row general (w.row v)) s) r2
  var-within q = var-at (max_depth - 1) q

  pub name-within : {x : ℕ} → m.resolves ≡ true → read_form t r ≡ ok (Unresolved x) r2 → within w t m general s r ≡ ok (on_names (name_use w x) s) r2
  name-within live q = name-at (max_depth - 1) live q

none_within : (w : World) (t : ℕ) (m : Mode) (s : Both) (r : List ℕ) {n : ℕ} → read_form t r ≡ no n → within w t m general s r ≡ no n
unfolding expr_go
none_within w t m s r q = rw q

-- two words were read of it, and a name is in range
module _ {ws : List ℕ} {at p : ℕ} {f : Form} (names : ℕ) (a : Ans ws at (read_form names (drop at ws)) (ok f (drop p ws)) p) where
  pub var-paid : {v : ℕ} → f ≡ Var v → at + 2 ≤ p
  var-paid e = let z = rw e at (form-paid ws at p names f a).0 in omega (arith, z)

  pub name-paid : {x : ℕ} → f ≡ Unresolved x → (at + 2 ≤ p) × (x < names)
  name-paid e = let z = rw e at (form-paid ws at p names f a) in (omega (arith, z.0), z.1)

-- ---- after the alias
module _ {c : Context} {w : Walk} {f : Form} {q : ℕ} (l : w.at + 2 ≤ q) (a : Ans (words_in c) w.at (read_form (names_in c) (rest_in c w)) (ok f (drop q (words_in c))) q) where
  pub form-ready : Ready 1 c w → Ready 3 c (placed w q)
  form-ready h = record { fine = h.fine; fit = placed-fit a.from a.within (omega arith) h.fit }

  pub form-holding : {p : Pairs} → Holding 1 c w p → Holding 3 c (placed w q) p
  form-holding o = record { room = o.room; few = omega (arith, o.few); unhushed = o.unhushed }

  pub direct-passes : {p : Pairs} {w' : Walk} {p' : Pairs} {F : (ℕ → ℕ) → Both → Both} {d : Direct} {u : Unit {0}} (alias : Option ℕ) (m : Mode) → Adds c (placed w q) p w' p' F alias d → direct_form f ≡ d →
      ((id : ℕ → ℕ) (s : Both) → within (world_at c id) (names_in c) m general s (rest_in c w) ≡ ok (F id s) (drop q (words_in c))) → Carries 1 c w p w' p' (carried_at c m alias) (Ok u)
  direct-passes {F = F} alias m x e g =
      record {
        still = still-then placed-still x.still;
        held = x.held;
        carries = record {
          from = omega (arith, x.at, a.from);
          paid = omega (arith, x.more, x.at);
          top = x.frame.top;
          below = x.frame.below;
          grows = x.frame.grows;
          named = x.named;
          fit = λ k b. x.fit k (placed-fit a.from a.within (omega arith) b);
          goes = λ id s b. let h = placed-holds b in
              record {
                state = F id s;
                holds = x.goes id s h;
                same = rw (g id s, a.same, e, x.at) (ap (λ (o : Taken). ok (F id s, o) (drop q (words_in c))) (sym (x.taken id s h)));
              };
        };
      }

-- no head
pub form-refused : {c : Context} {w : Walk} {p : Pairs} (e : Refusal) {k : ℕ} (alias : Option ℕ) (m : Mode) (r : Result (Unit {0}) Refusal) → Ans (words_in c) w.at (read_form (names_in c) (rest_in c w)) (no (number_of e)) k → IsErr r × IsErrAnd r (λ y. y ≡ e) →
    Carries 1 c w p w p (carried_at c m alias) r
form-refused {c} {w} e alias m (Err y) a q =
    record { still = still-idle; held = still_idle; carries = λ id s b. rw (none_within (world_at c id) (names_in c) m s (rest_in c w) a.same, q.1) }
form-refused e alias m (Ok u) a q = absurd q.1

-- any other expression, and its alias
pub other-form : (f : Form) → ((v : ℕ) → f ≡ Var v → ⊥) → ((x : ℕ) → f ≡ Unresolved x → ⊥) → direct_form f ≡ other
other-form (Var v) p q = absurd (p v refl)
other-form (Unresolved x) p q = absurd (q x refl)
other-form (Leaf k) p q = refl
other-form (Prop x) p q = refl
other-form (Two k) p q = refl
other-form (Slice b) p q = refl
other-form (Many k n) p q = refl
other-form (BinOp o) p q = refl
other-form (UnaryOp o) p q = refl
other-form (Case b n) p q = refl
other-form IsNull p q = refl
other-form PatternPredicate p q = refl
other-form (ListComprehension g) p q = refl
other-form (PatternComprehension a b g) p q = refl
other-form (ListPredicate g) p q = refl
other-form (MapProjection n) p q = refl

module _ {c : Context} {w w' : Walk} {p : Pairs} {u v : Unit {0}} (m : Mode) (x : Walked max_depth c w w' (expr_at c max_depth m general) (Ok u)) where
  pub other-passes : {p' : Pairs} (alias : Option ℕ) → Within (names_in c) alias → Ready 1 c w → KeptOther c alias p p' → direct_of (read_form (names_in c) (rest_in c w)) ≡ other → Carries 1 c w p w' p' (carried_at c m alias) (Ok v)
  unfolding carries is_all
  other-passes None l h k d =
      let y = x.goes in
      rw k.kept
      (record {
        still = x.still;
        held = still_idle;
        carries = record {
          from = y.from;
          paid = omega (arith, y.from);
          top = y.frame.top;
          below = y.frame.below;
          grows = y.frame.grows;
          named = λ n. n;
          fit = λ i b. lower (omega arith) (omega arith) (omega arith) (y.fit (1 + i + kept_of p) b);
          goes = λ id s b. let g = y.goes id s b in
              record { state = g.state; holds = g.holds; same = rw (g.same, d, or-false p.star, append-nil (pairs_of p)) };
        };
      })
  other-passes {p'} (Some z) l h k d =
      let y = x.goes in
      let o = k.kept in
      let n = kept-more o in
      record {
        still = x.still;
        held = o.still;
        carries = record {
          from = y.from;
          paid = omega (arith, n, y.from);
          top = y.frame.top;
          below = y.frame.below;
          grows = y.frame.grows;
          named = λ b. rw o.same (names_more (use_in c z) (pairs_of p) l b);
          fit = λ i b. lower (omega (arith, n)) (omega (arith, n)) (omega (arith, n)) (y.fit (1 + i + kept_of p) b);
          goes = λ id s b. let g = y.goes id s b in
              record { state = g.state; holds = g.holds; same = rw (g.same, d, o.same, o.star, or-false p.star, b.uses z l) };
        };
      }

-- ---- a projection
pub first-as : (w : World) (t : ℕ) (m : Mode) (q : Taken) (s : Both) (r : List ℕ) →
    projections_go w t (takes w) m 1 q s r ≡ bind (word_in 0 (t + 1) r) (λ a r1. bind (within w t m general s r1) (λ u r2. ok (u, takes w (alias_of a) (direct_of (read_form t r1)) u.names.visible q) r2))
unfolding projections_go
first-as w t m q s r = rw (add-one t)

pub alias-within : (names : ℕ) (a : Option ℕ) → alias_word a < names + 1 → Within names a
alias-within names None h = tt
alias-within names (Some x) h = omega arith

-- ---- a loop
-- n projections are a, and then b
module _ (w : World) (t : ℕ) (m : Mode) where
  one-more : (n a b : ℕ) → ((q : Taken) (s : Both) (r : List ℕ) → projections_go w t (takes w) m n q s r ≡ bind (projections_go w t (takes w) m a q s r) (λ x r2. projections_go w t (takes w) m b x.1 x.0 r2)) →
      (q : Taken) (s : Both) (r : List ℕ) → projections_go w t (takes w) m (suc n) q s r ≡ bind (projections_go w t (takes w) m (suc a) q s r) (λ x r2. projections_go w t (takes w) m b x.1 x.0 r2)
  unfolding projections_go
  one-more n a b h q s r = first (word_in 0 (suc t) r)
    where
      second : (y : ℕ) (r1 : List ℕ) (g : Got Both) → bind g (λ u r2. projections_go w t (takes w) m n (takes w (alias_of y) (direct_of (read_form t r1)) u.names.visible q) u r2)
          ≡ bind {A = Both × Taken} (bind g (λ u r2. projections_go w t (takes w) m a (takes w (alias_of y) (direct_of (read_form t r1)) u.names.visible q) u r2)) (λ x r2. projections_go w t (takes w) m b x.1 x.0 r2)
      second y r1 (ok u r2) = h (takes w (alias_of y) (direct_of (read_form t r1)) u.names.visible q) u r2
      second y r1 (no e) = refl

      first : (g : Got ℕ) → bind g (λ y r1. bind (within w t m general s r1) (λ u r2. projections_go w t (takes w) m n (takes w (alias_of y) (direct_of (read_form t r1)) u.names.visible q) u r2))
          ≡ bind {A = Both × Taken} (bind g (λ y r1. bind (within w t m general s r1) (λ u r2. projections_go w t (takes w) m a (takes w (alias_of y) (direct_of (read_form t r1)) u.names.visible q) u r2))) (λ x r2. projections_go w t (takes w) m b x.1 x.0 r2)
      first (ok y r1) = second y r1 (within w t m general s r1)
      first (no e) = refl

  split : (n a b : ℕ) → n ≡ a + b → (q : Taken) (s : Both) (r : List ℕ) → projections_go w t (takes w) m n q s r ≡ bind (projections_go w t (takes w) m a q s r) (λ x r2. projections_go w t (takes w) m b x.1 x.0 r2)
  unfolding projections_go
  split n zero b e q s r =
      let z : n ≡ b = omega arith in
      rw z
  split zero (suc a) b e q s r = absurd (omega arith)
  split (suc n) (suc a) b e q s r = one-more n a b (split n a b (omega arith)) q s r

pub begun : {c : Context} {w : Walk} {p : Pairs} {u : Unit {0}} (m : Mode) → Carries 0 c w p w p (projections_at c m 0) (Ok u)
unfolding projections_go
begun m =
    record {
      still = still-idle;
      held = still_idle;
      carries = record {
        from = omega arith;
        paid = omega arith;
        top = omega arith;
        below = refl;
        grows = grows-idle;
        named = λ n. n;
        fit = λ k f. lower (omega arith) (omega arith) (omega arith) f;
        goes = λ id s b. record { state = s; holds = b; same = refl };
      };
    }

module _ {c : Context} {w₀ : Walk} {p₀ : Pairs} {w : Walk} {p : Pairs} (m : Mode) (k : ℕ) {u : Unit {0}} (o : Carries 0 c w₀ p₀ w p (projections_at c m k) (Ok u)) {w' : Walk} {p' : Pairs} where
  pub turn : (r : Result (Unit {0}) Refusal) → Carries 0 c w p w' p' (projections_at c m 1) r → Carries 0 c w₀ p₀ w' p' (projections_at c m (k + 1)) r
  turn r x = as-passes (projections_at c m (k + 1)) r (λ id q s. split (world_at c id) (names_in c) m (k + 1) k 1 refl q s (rest_in c w₀)) (then-passes o r x)

  pub fall : {e : Refusal} (n : ℕ) (r : Result (Unit {0}) Refusal) → k < n → Carries 0 c w p w' p' (projections_at c m 1) (Err e) → IsErr r × IsErrAnd r (λ y. y ≡ e) → Carries 0 c w₀ p₀ w' p' (projections_at c m n) r
  fall {e} n r l x q =
      as-passes (projections_at c m n) r (λ id t s. split (world_at c id) (names_in c) m n (k + 1) (n - (k + 1)) (omega arith) t s (rest_in c w₀))
      (first-refused (λ id y r2. projections_at c m (n - (k + 1)) id y.1 y.0 r2) r (turn (Err e) x) q)
