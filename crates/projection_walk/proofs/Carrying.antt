-- What a WITH takes. A pair is held (`held_one`, `kept-more`, `names_more`), or a star is kept in mind, so a projection that is a Var or a name
-- adds what the definition takes (`adds-pair`, `adds_none`, `adds-star`; what that is: `Gives`, `var-aliased`, `var-named`, `var-none`,
-- `name-carried`, `name-missing`, by `looked` and `unlooked`; `name-all`, by `the_star`; the name of its pair: `under-named`). The use of a name
-- that is visible: `name-found`.
use Rattle.std.specs.Prelude.{Option, None, Some}
use Rattle.std.specs.Option.{option_eq, unwrap_or, is_some}
use Prim.Native.Nat.{ℕ, zero, suc, ◌+◌, ◌*◌, ◌<◌, ◌≤◌}
use native.Mathlib.Omega.{arith}
use native.Mathlib.Numerals.{add-one}
use mathlib.Core.Path.{◌≡◌, refl, ap, sym, ◌∙◌}
use mathlib.Core.Bool.{Bool, true, false, cond, not, ◌||◌, or-true, or-false}
use mathlib.Core.List.{List, [], ◌∷◌, ◌++◌, append-nil}
use lib.Dec.{eqb}
use borrow.Author.Tests.{eq-eqb, eqb-true}
use lib.ListN.{length, get_or, set, length-set}
use lib.Seq.{get_or-set_same, get_or-set_other}
use Rattle.scope.specs.Graph.{name, indexed}
use Rattle.tables.specs.Row.{Row, row}
use Rattle.semantics.specs.Log.{finding, missing, write, find}
use Rattle.semantics.specs.Log.{answer as answer'}
use Rattle.semantics.specs.World.{World, Direct, a_var, a_name}
use Rattle.semantics.specs.Resolve.{Hit, hit, variable_of, State, Seen, Pair, pair, lookup, if_row, if_some, say, say_if, use_name, visit, carries, is_all}
use Rattle.fused.specs.Fused.{Both, name_use}
use Rattle.fused.specs.Clauses.{takes}
use Rattle.rows.specs.Rows.{shown}
use Rattle.visible.specs.Stack.{entries}
use Rattle.visible.proofs.Pairs.{same_pair}
use Rattle.steps.specs.Memory.{names_in, is_the, hushed_in, world_at}
use Rattle.steps.specs.Hold.{Fits, Holds, Steps, on_names, name_record}
use Rattle.steps.specs.declared.Walk.{Walk}
use Rattle.steps.specs.declared.context.Context.{Context}
use Rattle.steps.proofs.Named.{lookup-index}
use Rattle.steps.proofs.Held.{lower, instead}
use Rattle.projection_walk.specs.Pairs.{pairs_in, pairs_of, taken_by, kept_of, Still, Kept, InNames}
use Rattle.projection_walk.specs.Carries.{Adds, Within, NoStar}
use Rattle.projection_walk.specs.declared.pairs.Pairs.{Pairs}

-- ---- a pair is held
pairs-alike : (n : ℕ) (a b : List ℕ) → ((i : ℕ) → i < n * 2 → get_or a i 0 ≡ get_or b i 0) → pairs_in n a ≡ pairs_in n b
unfolding pairs_in
pairs-alike zero a b e = refl
pairs-alike (suc n) a b e = rw (pairs-alike n a b (λ i h. e i (omega arith)), e (n * 2) (omega arith), e (n * 2 + 1) (omega arith))

pub held_one : (n x v : ℕ) (l : List ℕ) → (n + 1) * 2 ≤ length l → pairs_in (n + 1) (set (set l (n * 2) x) (n * 2 + 1) v) ≡ pairs_in n l ++ (pair (indexed x) v ∷ [])
unfolding pairs_in
held_one n x v l h =
    let m = set l (n * 2) x in
    let z : length m ≡ length l = length-set l (n * 2) x in
    let one : get_or (set m (n * 2 + 1) v) (n * 2) 0 ≡ x = get_or-set_other m (n * 2 + 1) (n * 2) v 0 (λ e. omega arith) ∙ get_or-set_same l (n * 2) x 0 (omega arith) in
    let two : get_or (set m (n * 2 + 1) v) (n * 2 + 1) 0 ≡ v = get_or-set_same m (n * 2 + 1) v 0 (omega arith) in
    rw (add-one n, one, two, pairs-alike n (set m (n * 2 + 1) v) l (λ i g. get_or-set_other m (n * 2 + 1) i v 0 (λ e. omega arith) ∙ get_or-set_other l (n * 2) i x 0 (λ e. omega arith)))

pub still_idle : {p : Pairs} → Still p p
still_idle = record { lent = refl; size = refl }

-- a word more is left for it
pub kept-more : {x v : ℕ} {p p' : Pairs} → Kept x v p p' → kept_of p' ≡ suc (kept_of p)
kept-more {p = p} {p'} k =
    let e : ◌≡◌ {A = ℕ} (cond p'.star 1 0) (cond p.star 1 0) = ap (λ (b : Bool). cond b 1 0) k.star in
    omega (arith, k.count)

pub names_more : {slots x : ℕ} (v : ℕ) (ps : List Pair) → x < slots → InNames slots ps → InNames slots (ps ++ (pair (indexed x) v ∷ []))
unfolding InNames
names_more v [] h n = ((refl, h), tt)
names_more v (pair (name m y) u ∷ ps) h n = (n.0, names_more v ps h n.1)

-- ---- what a projection adds
-- what the definition takes of it: whether it is a star, and its pairs
pub record Gives (w : World) (alias : Option ℕ) (d : Direct) (vis : List Seen) (b : Bool) (ps : List Pair) : Type 0 where
  pub all : is_all w alias d ≡ b
  pub pairs : carries w alias d vis ≡ ps

taken : (p p' : Pairs) {w : World} {alias : Option ℕ} {d : Direct} {vis : List Seen} {b : Bool} {ps : List Pair} → Gives w alias d vis b ps → p'.star ≡ (p.star || b) → pairs_of p' ≡ pairs_of p ++ ps → taken_by p' ≡ takes w alias d vis (taken_by p)
taken p p' g e q = rw (g.all, g.pairs) (λ i. record { star = e i; pairs = q i })

-- in a state of the walk
abbrev Given : Context → Walk → ((ℕ → ℕ) → Both → Both) → Option ℕ → Direct → Bool → List Pair → Type 0
Given c w F alias d b ps = (id : ℕ → ℕ) (s : Both) → Holds id c w s → Gives (world_at c id) alias d (F id s).names.visible b ps

module _ {c : Context} {w w' : Walk} {p : Pairs} {F : (ℕ → ℕ) → Both → Both} (alias : Option ℕ) (d : Direct) where
  pub adds-pair : {p' : Pairs} {x v j : ℕ} → x < names_in c → j ≤ 2 → Steps j c w w' F → Kept x v p p' → Given c w F alias d false (pair (indexed x) v ∷ []) → Adds c w p w' p' F alias d
  adds-pair {p'} {v = v} h l y k g =
      let m = kept-more k in
      record {
        at = y.at;
        still = y.still;
        held = k.still;
        frame = y.frame;
        more = omega (arith, m);
        named = λ n. rw k.same (names_more v (pairs_of p) h n);
        fit = λ i f. y.fit (i + kept_of p') (i + kept_of p') (i + kept_of p') (lower (omega (arith, m)) (omega (arith, m)) (omega (arith, m)) f);
        goes = y.goes;
        taken = λ id s b. taken p p' (g id s b) (k.star ∙ sym (or-false p.star)) k.same;
      }

  pub adds_none : {j : ℕ} → j ≤ 3 → Steps j c w w' F → Given c w F alias d false [] → Adds c w p w' p F alias d
  adds_none l y g =
      record {
        at = y.at;
        still = y.still;
        held = still_idle;
        frame = y.frame;
        more = omega arith;
        named = λ n. n;
        fit = λ i f. y.fit (i + kept_of p) (i + kept_of p) (i + kept_of p) (lower (omega arith) (omega arith) (omega arith) f);
        goes = y.goes;
        taken = λ id s b. taken p p (g id s b) (sym (or-false p.star)) (sym (append-nil (pairs_of p)));
      }

  pub adds-star : Steps 2 c w w' F → Given c w F alias d true [] → Adds c w p w' (record p { star = true }) F alias d
  adds-star y g =
      record {
        at = y.at;
        still = y.still;
        held = record { lent = refl; size = refl };
        frame = y.frame;
        more = omega arith;
        named = λ n. n;
        fit = λ i f. y.fit (i + kept_of (record p { star = true })) (i + kept_of (record p { star = true })) (i + kept_of (record p { star = true })) (lower (omega arith) (omega arith) (omega arith) f);
        goes = y.goes;
        taken = λ id s b. taken p (record p { star = true }) (g id s b) (sym (or-true p.star)) (sym (append-nil (pairs_of p)));
      }

-- ---- a Var
module _ (w : World) (vis : List Seen) (v : ℕ) {alias : Option ℕ} where
  pub var-aliased : {x : ℕ} → alias ≡ Some x → Gives w alias (a_var v) vis false (pair (indexed x) v ∷ [])
  unfolding carries is_all
  var-aliased e = rw e (record { all = refl; pairs = refl })

  pub var-named : {x k : ℕ} → alias ≡ None → Some (x, k) ≡ shown (w.row v) → Gives w alias (a_var v) vis false (pair (indexed x) v ∷ [])
  unfolding carries is_all if_row
  var-named {x} e q = rw e (record { all = refl; pairs = go (w.row v) q })
    where
      go : (o : Option Row) {k : ℕ} → Some (x, k) ≡ shown o → if_row o v ≡ pair (indexed x) v ∷ []
      go None q = cc
      go (Some (row i y l a b)) q = let z : x ≡ y = (same_pair q).0 in rw z

  pub var-none : alias ≡ None → None ≡ shown (w.row v) → Gives w alias (a_var v) vis false []
  unfolding carries is_all if_row
  var-none e q = rw e (record { all = refl; pairs = go (w.row v) q })
    where
      go : (o : Option Row) → None ≡ shown o → if_row o v ≡ []
      go None q = refl
      go (Some (row i y l a b)) q = cc

-- ---- a name
use-visible : (w : World) (x : ℕ) (o : Option Hit) (s : State) → (use_name w x o s).visible ≡ s.visible
unfolding use_name say_if
use-visible w x None s = go (not (w.is_star x))
  where
    go : (b : Bool) → (say_if b (find (finding 1001 0 0 (Some (indexed x)) 0 0)) (say (answer' (write (w.id x) missing)) s)).visible ≡ s.visible
    go true = refl
    go false = refl
use-visible w x (Some (hit v u)) s = refl

visit-visible : (w : World) (b : Bool) (x : ℕ) (o : Option Hit) (s : State) → (visit w b x o s).visible ≡ s.visible
unfolding visit
visit-visible w true x o s = refl
visit-visible w false x o s = use-visible w x o s

-- under its alias, or else its own name
none-star : (c : Context) (x : ℕ) → NoStar c None x → is_the x c.star ≡ false
none-star c x n = go (is_the x c.star) (n refl)
  where
    go : (b : Bool) → (b ≡ true → ⊥) → b ≡ false
    go true h = absurd (h refl)
    go false h = refl

-- what is visible after its use
seen_then : (c : Context) (x : ℕ) (id : ℕ → ℕ) (s : Both) → (name_use (world_at c id) x s.names).visible ≡ s.names.visible
seen_then c x id s = visit-visible (world_at c id) (hushed_in c x) x (lookup (indexed x) s.names.visible) s.names

module _ {c : Context} {w : Walk} (x : ℕ) where
  module _ {i j k : ℕ} (at : x < names_in c) (f : Fits i j k c w) where
    sought : (id : ℕ → ℕ) (s : Both) → Holds id c w s → lookup (indexed x) s.names.visible ≡ lookup (indexed x) (entries w.visible)
    sought id s h = ap (λ l. lookup (indexed x) l) (sym h.visible) ∙ lookup-index f.numbered x (entries w.visible) (omega (arith, f.listed)) f.below

    module _ {v u : ℕ} (q : lookup (indexed x) (entries w.visible) ≡ Some (hit v u)) where
      pub name-found : {w' : Walk} → hushed_in c x ≡ false → Steps 1 c w w' (λ id. on_names (λ y. name_record (world_at c id) x (lookup (indexed x) y.visible) y)) → Steps 1 c w w' (λ id. on_names (name_use (world_at c id) x))
      unfolding use_name visit
      name-found e s = instead _ s (λ id t h. let z : lookup (indexed x) t.names.visible ≡ Some (hit v u) = sought id t h ∙ q in rw (z, e))

      pub name-carried : (alias : Option ℕ) → NoStar c alias x → Given c w (λ id. on_names (name_use (world_at c id) x)) alias (a_name x) false (pair (indexed (unwrap_or alias x)) v ∷ [])
      unfolding carries is_all if_some variable_of
      name-carried None e id s h =
          let z : lookup (indexed x) s.names.visible ≡ Some (hit v u) = sought id s h ∙ q in
          let n : is_the x c.star ≡ false = none-star c x e in
          record { all = n; pairs = rw (n, seen_then c x id s, z) }
      name-carried (Some a) e id s h =
          let z : lookup (indexed x) s.names.visible ≡ Some (hit v u) = sought id s h ∙ q in
          record { all = refl; pairs = rw (seen_then c x id s, z) }

    pub name-missing : (alias : Option ℕ) → NoStar c alias x → lookup (indexed x) (entries w.visible) ≡ None → Given c w (λ id. on_names (name_use (world_at c id) x)) alias (a_name x) false []
    unfolding carries is_all if_some
    name-missing None e q id s h =
        let z : lookup (indexed x) s.names.visible ≡ None = sought id s h ∙ q in
        let n : is_the x c.star ≡ false = none-star c x e in
        record { all = n; pairs = rw (n, seen_then c x id s, z) }
    name-missing (Some a) e q id s h =
        let z : lookup (indexed x) s.names.visible ≡ None = sought id s h ∙ q in
        record { all = refl; pairs = rw (seen_then c x id s, z) }

  pub name-all : (alias : Option ℕ) → is_some alias ≡ false → is_the x c.star ≡ true → Given c w (λ id. on_names (name_use (world_at c id) x)) alias (a_name x) true []
  unfolding carries is_all
  name-all None e q id s h = record { all = q; pairs = rw q }
  name-all (Some a) e q id s h = cc

-- the test of a star
pub the_star : (x : ℕ) (o : Option ℕ) → true ≡ option_eq eqb o (Some x) → is_the x o ≡ true
the_star x None e = cc
the_star x (Some y) e = eq-eqb x y (sym (eqb-true y x (sym e)))

-- the name that it is held under
pub under-named : {names : ℕ} (alias : Option ℕ) (x : ℕ) → Within names alias → x < names → unwrap_or alias x < names
under-named None x a h = h
under-named (Some y) x a h = a
