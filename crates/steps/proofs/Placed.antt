-- Laws of binders: the place of a variable's name (`placed-row`, `placed-rowless`); a name that its scope binds already (`anew`, `anew-not`, `anew-no`);
-- a name in the place of its variable's (`named-path`, `named-new`); a part's path (`path-steps`), an element (`elem-steps`, and `elem-none` where it
-- has no variable): its name is bound, its kind is checked.
use Rattle.std.specs.Prelude.{Option, None, Some}
use Prim.Native.Nat.{ℕ, zero, suc, ◌+◌, ◌/◌, ◌<◌, ◌≤◌}
use native.Mathlib.Numerals.{add-one}
use native.Mathlib.Omega.{arith}
use mathlib.Core.Path.{◌≡◌, refl, ap, sym, subst, ◌∙◌}
use mathlib.Core.Bool.{Bool, true, false, ◌&&◌}
use mathlib.Core.List.{List, [], ◌∷◌}
use Rattle.scope.specs.Answer as scopes
use Rattle.scope.specs.Graph.{name, indexed}
use Rattle.scope.specs.declared.Name.{Name}
use Rattle.tables.specs.Row.{Row, row}
use Rattle.semantics.specs.Log.{Finding, finding, find}
use Rattle.semantics.specs.World.{variable, name_of, listed_name, row_name}
use Rattle.semantics.specs.Resolve.{State, lookup, say_if, bind_anew, bind_new, bind_path, bind_elem}
use Rattle.semantics.specs.Kinds.{misplaced, row_for}
use Rattle.fused.specs.Fused.{Both, when, told, step}
use Rattle.finding.specs.Logged.{shadow_words}
use Rattle.rows.specs.Rows.{shown}
use Rattle.rows.specs.Table.{row_in}
use Rattle.rowless.specs.Rowless.{named, places, most, Places}
use Rattle.rowless.specs.declared.Rowless.{Rowless}
use Rattle.visible.specs.Stack.{entries}
use Rattle.steps.specs.Modes.{mode_of}
use Rattle.steps.specs.Memory.{names_in, named_in, world_at}
use Rattle.steps.specs.Said.{event_by, Says}
use Rattle.steps.specs.Hold.{Fits, Able, Costs, Steps, Binds, Placed, TellsIf, ShownTo, InRange, on_names, logged, path_step, name_in, kind_in, misplaced_in}
use Rattle.steps.specs.declared.Walk.{Walk}
use Rattle.steps.specs.declared.context.Context.{Context}
use Rattle.steps.specs.declared.log.Log.{Log}
use Rattle.steps.specs.declared.mode.Mode.{Mode}
use Rattle.steps.proofs.Named.{named-index, named-grows, below-more}
use Rattle.steps.proofs.Held.{seen-idle, log-idle, recounted, idle-step, then-steps, more-costs, instead, as-steps, says-costs, find-uncounted, always, tells-if}
use Rattle.steps.proofs.Moved.{again-named}
use Rattle.steps.proofs.Shown.{misplaced-as}

and-false : (b : Bool) → b && false ≡ false
and-false true = refl
and-false false = refl

-- ---- the place of a variable's name
module _ {c : Context} {w : Walk} {e t u : ℕ} (f : Fits e t u c w) {v : ℕ} {r : Option (ℕ × ℕ)} (shows : ShownTo (names_in c) (row_in c.rows v) r) where
  pub placed-row : {x k : ℕ} → r ≡ Some (x, k) → Placed c v w w x
  unfolding name_of row_name
  placed-row {x} {k} q =
      record {
        below = omega (arith, listed);
        name = λ id. named-index w.rowless x (omega (arith, listed)) ∙ go (row_in c.rows v) (sym shows.same ∙ q);
        costs = idle-step _ (λ id s h. h);
      }
    where
      range : InRange (names_in c) (Some (x, k))
      range = subst (λ o. InRange (names_in c) o) q shows.range

      listed : x < w.rowless.listed
      listed = omega (arith, range.0, f.listed)

      go : (o : Option Row) → shown o ≡ Some (x, k) → indexed x ≡ row_name v (named_in c v) o
      go None e = absurd (cc e)
      go (Some (row i y l a b)) e = let z : y ≡ x = ap first e in rw z
        where
          first : Option (ℕ × ℕ) → ℕ
          first (Some p) = p.0
          first None = 0

  pub placed-rowless : {x : ℕ} {n : Rowless} → r ≡ None → Places v w.rowless n x → Placed c v w (record w { rowless = n }) x
  unfolding name_of row_name
  placed-rowless {x} {n} q p =
      record {
        below = p.below;
        name = λ id. p.name (named_in c) f.right ∙ go (row_in c.rows v) (sym shows.same ∙ q);
        costs = record {
          at = refl;
          still = record { visible = seen-idle; rowless = p.grows.still; log = log-idle };
          fit = λ i k l f.
              record {
                listed = p.grows.listed ∙ f.listed;
                heads = omega (arith, f.heads, p.grows.listed, size);
                numbered = p.sound;
                right = p.right (named_in c) f.right;
                below = below-more (entries w.visible) (omega (arith, p.grows.listed, p.grows.count)) f.below;
                sound = f.sound;
                descends = f.descends;
                cur = f.cur;
                last = omega (arith, f.last);
                count = omega (arith, f.count);
                stack = omega (arith, f.stack, p.grows.listed);
                rowless = omega (arith, f.rowless, p.few);
                olds = omega (arith, f.olds);
                needs = omega (arith, f.needs);
                within = f.within;
                names = omega (arith, f.names, size);
                binders = omega (arith, f.binders, size);
                room = f.room;
              };
          frame = record { top = omega arith; last = omega arith; below = refl; grows = p.grows; levels = λ d h. refl };
          goes = λ id s h.
              record {
                visible = named-grows (entries w.visible) p.grows f.below ∙ h.visible;
                cur = h.cur;
                last = h.last;
                log = h.log;
                kinds = h.kinds;
                olds = h.olds;
                counts = recounted refl refl h.counts;
                uses = h.uses;
              };
        };
      }
    where
      size : most n ≡ most w.rowless
      size = ap (λ (k : ℕ). k / 2) p.grows.still.slots

      go : (o : Option Row) → shown o ≡ None → listed_name v (named_in c v) ≡ row_name v (named_in c v) o
      go None e = refl
      go (Some (row i y l a b)) e = absurd (cc e)

-- ---- E1002 follows the binding
shadow-said : (id : ℕ → ℕ) (n : Name) (a b : ℕ) → n.mark ≤ 1 → event_by id (shadow_words (scopes.name_of n) a b) ≡ find (finding 1002 a b (Some (scopes.name_of n)) 0 0)
shadow-said id n a b h = go n.mark n.word h
  where
    go : (m x : ℕ) → m ≤ 1 → event_by id (shadow_words (name m x) a b) ≡ find (finding 1002 a b (Some (name m x)) 0 0)
    go zero x h = refl
    go (suc zero) x h = refl
    go (suc (suc m)) x h = absurd (omega arith)

module _ {c : Context} {w w1 : Walk} {x v k : ℕ} {t : Bool} (a b : ℕ) (able : (x < places w.rowless) × Able 3 c w) (y : Binds c w w1 x v k t) where
  pub anew : {l : Log} (n : Name) → n.mark ≤ 1 → scopes.name_of n ≡ named w1.rowless x → t ≡ true → c.warns ≡ true → Says (shadow_words (scopes.name_of n) a b) w1.log l →
      Costs 2 3 0 c w (logged w1 l) (λ id. on_names (bind_anew (world_at c id) a b (named w.rowless x) v k))
  unfolding bind_anew say_if
  anew n m q z e p =
      instead _ (then-steps y.costs (says-costs p (λ id l. rw (shadow-said id n a b m) (always c.wants _ l)) (λ id. rw (shadow-said id n a b m) (find-uncounted _))))
      (λ id s h. rw (shadow-said id n a b m, q, y.rowless, ← (again-named able y.again id s h), z, e))

  pub anew-not : c.warns && t ≡ false → Costs 1 3 0 c w w1 (λ id. on_names (bind_anew (world_at c id) a b (named w.rowless x) v k))
  unfolding bind_anew say_if
  anew-not z = instead _ y.costs (λ id s h. rw (← (again-named able y.again id s h), z))

  pub anew-no : t ≡ false → Costs 1 3 0 c w w1 (λ id. on_names (bind_anew (world_at c id) a b (named w.rowless x) v k))
  anew-no z = anew-not (rw z (and-false c.warns))

both-same : {n n' : State} {k k' : List Finding} (o : ℕ) → n ≡ n' → k ≡ k' → ◌≡◌ {A = Both} (record { names = n; kinds = k; olds = o }) (record { names = n'; kinds = k'; olds = o })
both-same o p q = rw (p, q)

-- ---- a name in the place of its variable's
module _ {c : Context} {w w1 w2 : Walk} {v x : ℕ} (p : Placed c v w w1 x) where
  pub named-path : (a b k : ℕ) {e t u : ℕ} → Costs e t u c w1 w2 (λ id. on_names (bind_anew (world_at c id) a b (named w1.rowless x) v k)) →
      Costs e t (3 + u) c w w2 (λ id. on_names (bind_anew (world_at c id) a b (name_of (world_at c id) v) v k))
  named-path a b k y = as-steps _ (more-costs (omega arith) (omega arith) (omega arith) (then-steps p.costs y)) (λ id s. rw (p.name id))

  pub named-new : (k : ℕ) {e t u : ℕ} → Costs e t u c w1 w2 (λ id. on_names (λ y. bind_new (world_at c id) (lookup (named w1.rowless x) y.visible) (named w1.rowless x) v k y)) →
      Costs e t (3 + u) c w w2 (λ id. on_names (λ y. bind_new (world_at c id) (lookup (name_of (world_at c id) v) y.visible) (name_of (world_at c id) v) v k y))
  named-new k y = as-steps _ (more-costs (omega arith) (omega arith) (omega arith) (then-steps p.costs y)) (λ id s. rw (p.name id))

-- ---- a binder
module _ {c : Context} {w w1 w2 : Walk} {r : Option (ℕ × ℕ)} (v : ℕ) (m : Mode) (shows : ShownTo (names_in c) (row_in c.rows v) r) where
  pub path-steps : Costs 2 3 3 c w w1 (λ id. on_names (when (mode_of m).resolves (bind_anew (world_at c id) 0 0 (name_of (world_at c id) v) v 3))) →
      TellsIf (misplaced_in m.checks 3 r) (2008 ∷ 0 ∷ 0 ∷ suc (name_in r) ∷ 1 ∷ kind_in r ∷ []) w1 w2 → Steps 3 c w w2 (λ id. path_step (world_at c id) (mode_of m) (Some v))
  unfolding variable bind_path row_for
  path-steps b t =
      as-steps _ (then-steps b (tells-if t))
      (λ id s. both-same _ refl (rw shows.same (misplaced-as m.checks (row_in c.rows v) 1 3 0 0 s.kinds)))

  pub elem-steps : {va : Option ℕ} (kind start end : ℕ) → va ≡ Some v →
      Costs 1 3 3 c w w1 (λ id. on_names (when (mode_of m).resolves (λ y. bind_new (world_at c id) (lookup (name_of (world_at c id) v) y.visible) (name_of (world_at c id) v) v kind y))) →
      TellsIf (misplaced_in m.checks kind r) (2008 ∷ start ∷ end ∷ suc (name_in r) ∷ (kind + 1) ∷ kind_in r ∷ []) w1 w2 →
      Costs 2 3 3 c w w2 (λ id. step (mode_of m) (bind_elem (world_at c id) kind (variable va)) (misplaced (suc kind) kind start end (row_for (world_at c id) va)))
  unfolding variable bind_elem row_for
  elem-steps kind start end e b t =
      rw e
      (as-steps _ (then-steps b (tells-if t))
      (λ id s. both-same _ refl (rw (shows.same, add-one kind) (misplaced-as m.checks (row_in c.rows v) (suc kind) kind start end s.kinds))))

-- no variable
when-same : {A : Type 0} (b : Bool) (f : A → A) (a : A) → f a ≡ a → when b f a ≡ a
when-same true f a q = q
when-same false f a q = refl

pub elem-none : {e t u : ℕ} {c : Context} {w : Walk} {va : Option ℕ} (kind start end : ℕ) (m : Mode) → va ≡ None →
    Costs e t u c w w (λ id. step (mode_of m) (bind_elem (world_at c id) kind (variable va)) (misplaced (suc kind) kind start end (row_for (world_at c id) va)))
unfolding variable bind_elem row_for misplaced told
elem-none {c = c} kind start end m q =
    rw q
    (idle-step _
    (λ id s h. rw (when-same m.resolves (bind_elem (world_at c id) kind None) s.names refl, when-same m.checks (told []) s.kinds refl) h))
