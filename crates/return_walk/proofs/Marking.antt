-- Aliases that are held (`hold-none`, `hold-one`) and marked (`none-marked`, `one-marked`). A name is marked where it is among the aliases, so
-- these are no use by their marks (`hushed-world`).
use Rattle.std.proofs.Common.{Bor}
use Rattle.std.specs.Prelude.{Option, None, Some}
use Prim.Native.Nat.{ℕ, zero, suc, ◌+◌, ◌<◌, ◌≤◌}
use native.Mathlib.Omega.{arith}
use native.Mathlib.Numerals.{add-one}
use mathlib.Core.Path.{◌≡◌, refl, sym, ◌∙◌}
use mathlib.Core.Bool.{Bool, true, false, cond, ◌||◌}
use mathlib.Core.List.{List, [], ◌∷◌, ◌++◌, append-nil}
use lib.Dec.{eqb}
use lib.ListN.{length, get_or, set, length-set}
use lib.Seq.{get_or-set_same, get_or-set_other}
use borrow.Author.Tests.{eqb-true, eqb-false}
use Rattle.heads.specs.Answer.{is_in}
use Rattle.semantics.specs.World.{hush}
use Rattle.semantics.specs.Resolve.{alias_in}
use Rattle.steps.specs.Memory.{world_at}
use Rattle.steps.specs.declared.context.Context.{Context}
use Rattle.clause_parts.specs.Passes.{Clear}
use Rattle.return_walk.specs.Returns.{aliases_in, AllNamed, HeldAlias, is_marked, Marked}

-- ---- held
aliases-set : (k j v : ℕ) (held : List ℕ) → k ≤ j → aliases_in k (set held j v) ≡ aliases_in k held
unfolding aliases_in
aliases-set zero j v held h = refl
aliases-set (suc k) j v held h = rw (get_or-set_other held j k v 0 (λ e. omega arith), aliases-set k j v held (omega arith))

pub hold-none : {k : ℕ} {alias : Option ℕ} {held : List ℕ} → alias ≡ None → HeldAlias k alias held held k
unfolding alias_in
hold-none {k} {held = held} e = record { kept = refl; more = omega arith; same = rw e (sym (append-nil (aliases_in k held))); named = λ names h l. h }

pub hold-one : {k x : ℕ} {alias : Option ℕ} {held : List ℕ} → alias ≡ Some x → k < length held → HeldAlias k alias held (set held k x) (k + 1)
unfolding aliases_in alias_in
hold-one {k} {x} {held = held} q l =
    record {
      kept = length-set held k x;
      more = omega arith;
      same = rw (q, add-one k, aliases-set k k x held (omega arith), get_or-set_same held k x 0 l);
      named = λ names h m. record { named = λ j i. go names h (m x q) j i (eqb j k) refl };
    }
  where
    go : (names : ℕ) → AllNamed names k held → x < names → (j : ℕ) → j < k + 1 → (t : Bool) → eqb j k ≡ t → get_or (set held k x) j 0 < names
    go names h m j i true e =
        let z : j ≡ k = eqb-true j k e in
        rw (z, get_or-set_same held k x 0 l) m
    go names h m j i false e = rw (get_or-set_other held k j x 0 (eqb-false j k e)) (h.named j (omega (arith, eqb-false j k e)))

-- ---- marked
pub none-marked : {to : ℕ} {held marks : List ℕ} → Marked to 0 held marks marks
unfolding is_marked
none-marked = record { kept = refl; at = λ x. refl }

pub one-marked : {to k y : ℕ} {held marks marks' : List ℕ} → Marked to k held marks marks' → get_or held k 0 ≡ y → y < length marks → Marked to (k + 1) held marks (set marks' y to)
unfolding is_marked
one-marked {to} {k} {y} {held} {marks} {marks'} o q l = record { kept = length-set marks' y to ∙ o.kept; at = λ x. rw (add-one k, q) (go x (eqb x y) refl) }
  where
    go : (x : ℕ) (t : Bool) → eqb x y ≡ t → get_or (set marks' y to) x 0 ≡ cond (t || is_marked x k held) to (get_or marks x 0)
    go x true e =
        let z : x ≡ y = eqb-true x y e in
        rw z (get_or-set_same marks' y to 0 (omega (arith, o.kept)))
    go x false e = get_or-set_other marks' y x to 0 (eqb-false x y e) ∙ o.at x

-- one more at the end of a list
in-last : (x y : ℕ) (l : List ℕ) → is_in x (l ++ (y ∷ [])) ≡ (eqb x y || is_in x l)
unfolding is_in
in-last x y [] = go (eqb x y)
  where
    go : (b : Bool) → cond b true false ≡ (b || false)
    go true = refl
    go false = refl
in-last x y (z ∷ l) = rw (in-last x y l) (go (eqb x z) (eqb x y))
  where
    go : (a b : Bool) → cond a true (b || is_in x l) ≡ (b || cond a true (is_in x l))
    go true true = refl
    go true false = refl
    go false b = refl

-- a name is marked where it is among the aliases
own : (x k : ℕ) (held : List ℕ) → is_marked x k held ≡ is_in x (aliases_in k held)
unfolding is_marked aliases_in is_in
own x zero held = refl
own x (suc k) held = rw (own x k held) (sym (in-last x (get_or held k 0) (aliases_in k held)))

module _ {c : Context} {k : ℕ} {held marks marks1 : List ℕ} (clear : Clear c marks) (o : Marked 1 k held marks marks1) where
  marked-is : (x : ℕ) → eqb (get_or marks1 x 0) 1 ≡ is_in x (aliases_in k held)
  marked-is x = rw (o.at x, clear.clear x, own x k held) (go (is_in x (aliases_in k held)))
    where
      go : (b : Bool) → eqb (cond b 1 0) 1 ≡ b
      go true = refl
      go false = refl

-- a Context in which these are the marks
abbrev pub hushing : Context → Bor (List ℕ) → Context
hushing c marks = record c { hushed = marks }

pub hushed-world : {c : Context} {k : ℕ} {held marks : List ℕ} (marks1 : Bor (List ℕ)) → Clear c marks → Marked 1 k held marks marks1.now → (id : ℕ → ℕ) → world_at (hushing c marks1) id ≡ hush (aliases_in k held) (world_at c id)
hushed-world {c} marks1 clear o id = λ i. record (world_at c id) { hushed = λ x. marked-is clear o x i }
