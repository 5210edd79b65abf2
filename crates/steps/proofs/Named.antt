-- Laws of the places of names. What was lent stays (`unmoved-idle`, `unmoved-then`, `grows-idle`, `grows-then`); a place has one name
-- (`same-named`), so what is visible is sought by its place (`lookup-named`, `binds-named`), the sheet's names by their indices (`named-index`,
-- `lookup-index`); entries keep their names (`named-grows`) and their
-- places (`below-more`, `below-less`).
use Prim.Native.Nat.{ℕ, zero, suc, ◌+◌, ◌-◌, ◌<◌, ◌≤◌}
use native.Mathlib.Omega.{arith}
use mathlib.Core.Path.{◌≡◌, refl, ap, sym, subst, ◌∙◌}
use mathlib.Core.Bool.{Bool, true, false, cond}
use mathlib.Core.List.{List, [], ◌∷◌}
use lib.Dec.{T, eqb, ltb}
use borrow.Author.Tests.{eqb-true, eqb-false, ltb-true, ltb-false}
use Rattle.scope.specs.Graph.{Name, name, indexed, generated, same_name}
use Rattle.semantics.specs.Resolve.{Seen, seen, lookup, binds}
use Rattle.theorems.proofs.Names.{same→eq, same_refl}
use Rattle.rowless.specs.Rowless.{variable_at, named, places, Sound, Grows, Still}
use Rattle.rowless.specs.declared.Rowless.{Rowless}
use Rattle.visible.specs.Visible.{seens}
use Rattle.steps.specs.Named.{as_named, Below}

pub unmoved-idle : {r : Rowless} → Still r r
unmoved-idle = record { hung = refl; listed = refl; slots = refl; room = refl }

pub unmoved-then : {r r1 r2 : Rowless} → Still r r1 → Still r1 r2 → Still r r2
unmoved-then x y = record { hung = y.hung ∙ x.hung; listed = y.listed ∙ x.listed; slots = y.slots ∙ x.slots; room = y.room ∙ x.room }

pub grows-idle : {r : Rowless} → Grows r r
grows-idle = record { still = unmoved-idle; listed = refl; count = omega arith; same = λ x h. refl }

pub grows-then : {r r1 r2 : Rowless} → Grows r r1 → Grows r1 r2 → Grows r r2
grows-then x y =
    record {
      still = unmoved-then x.still y.still;
      listed = y.listed ∙ x.listed;
      count = omega (arith, x.count, y.count);
      same = λ n h. y.same n (omega (arith, h, x.listed, x.count)) ∙ x.same n h;
    }

-- ---- a place has one name
abbrev word_of : Name → ℕ
word_of (name m x) = x

abbrev mark_of : Name → ℕ
mark_of (name m x) = m

module _ {r : Rowless} (s : Sound r) where
  apart : (i j : ℕ) → i < r.count → j < r.count → variable_at r.entries.now i ≡ variable_at r.entries.now j → i ≡ j
  apart i j h k e = go (ltb i j) (ltb j i) refl refl
    where
      go : (b c : Bool) → ltb i j ≡ b → ltb j i ≡ c → i ≡ j
      go true c p q = absurd (s.apart i j (ltb-true i j p) k e)
      go false true p q = absurd (s.apart j i (ltb-true j i q) h (sym e))
      go false false p q = omega (arith, ltb-false i j p, ltb-false j i q)

  one-place : (x y : ℕ) → x < places r → y < places r → named r x ≡ named r y → x ≡ y
  unfolding named
  one-place x y h k e = go (ltb x r.listed) (ltb y r.listed) refl refl e
    where
      go : (b c : Bool) → ltb x r.listed ≡ b → ltb y r.listed ≡ c →
          cond b (indexed x) (generated (variable_at r.entries.now (x - r.listed))) ≡ cond c (indexed y) (generated (variable_at r.entries.now (y - r.listed))) → x ≡ y
      go true true p q e = ap word_of e
      go true false p q e = let z : ◌≡◌ {A = ℕ} 0 1 = ap mark_of e in absurd (omega arith)
      go false true p q e = let z : ◌≡◌ {A = ℕ} 1 0 = ap mark_of e in absurd (omega arith)
      go false false p q e =
          let a : r.listed ≤ x = ltb-false x r.listed p in
          let b : r.listed ≤ y = ltb-false y r.listed q in
          let z : x - r.listed ≡ y - r.listed = apart (x - r.listed) (y - r.listed) (omega arith) (omega arith) (ap word_of e) in
          omega arith

  pub same-named : (x y : ℕ) → x < places r → y < places r → same_name (named r x) (named r y) ≡ eqb x y
  same-named x y h k = go (eqb x y) (same_name (named r x) (named r y)) refl refl
    where
      go : (b c : Bool) → eqb x y ≡ b → same_name (named r x) (named r y) ≡ c → c ≡ b
      go true true p q = refl
      go false false p q = refl
      go true false p q = sym q ∙ ap (λ (z : ℕ). same_name (named r x) (named r z)) (sym (eqb-true x y p)) ∙ same_refl (named r x)
      go false true p q = absurd (eqb-false x y p (one-place x y h k (same→eq _ _ (subst T (sym q) tt))))

  pub lookup-named : (x : ℕ) (l : List Seen) → x < places r → Below (places r) l → lookup (named r x) (as_named r l) ≡ lookup (indexed x) l
  unfolding lookup as_named Below same_name
  lookup-named x [] h b = refl
  lookup-named x (seen (name zero y) g p ∷ l) h b = rw (same-named x y h b.0.1, lookup-named x l h b.1) refl
  lookup-named x (seen (name (suc m) y) g p ∷ l) h b = absurd (omega (arith, b.0.0))

  pub binds-named : (c x : ℕ) (l : List Seen) → x < places r → Below (places r) l → binds c (named r x) (as_named r l) ≡ binds c (indexed x) l
  unfolding binds as_named Below same_name
  binds-named c x [] h b = refl
  binds-named c x (seen (name zero y) g p ∷ l) h b = rw (same-named x y h b.0.1, binds-named c x l h b.1) refl
  binds-named c x (seen (name (suc m) y) g p ∷ l) h b = absurd (omega (arith, b.0.0))

-- the sheet's own names
pub named-index : (r : Rowless) (x : ℕ) → x < r.listed → named r x ≡ indexed x
unfolding named
named-index r x h = go (ltb x r.listed) refl
  where
    go : (b : Bool) → ltb x r.listed ≡ b → cond b (indexed x) (generated (variable_at r.entries.now (x - r.listed))) ≡ indexed x
    go true p = refl
    go false p = absurd (omega (arith, ltb-false x r.listed p))

-- so a name of the sheet is sought as it stands
pub lookup-index : {r : Rowless} → Sound r → (x : ℕ) (l : List Seen) → x < r.listed → Below (places r) l → lookup (indexed x) (as_named r l) ≡ lookup (indexed x) l
lookup-index {r} s x l h b = ap (λ (n : Name). lookup n (as_named r l)) (sym (named-index r x h)) ∙ lookup-named s x l (omega arith) b

-- ---- entries
pub below-more : {n m : ℕ} (l : List Seen) → n ≤ m → Below n l → Below m l
unfolding Below
below-more [] h b = tt
below-more (seen (name k x) g p ∷ l) h b = ((b.0.0, omega (arith, b.0.1)), below-more l h b.1)

pub below-less : (n k d t : ℕ) (m : List ℕ) → Below n (seens k (d + t) m) → Below n (seens k t m)
unfolding Below seens
below-less n k zero t m b = b'
  where
    b' : Below n (seens k t m)
    b' = let z : zero + t ≡ t = omega arith in rw z at b
below-less n k (suc d) t m b = let z : suc d + t ≡ suc (d + t) = omega arith in below-less n k d t m ((rw z at b).1)

pub named-grows : {r r1 : Rowless} (l : List Seen) → Grows r r1 → Below (places r) l → as_named r1 l ≡ as_named r l
unfolding as_named Below
named-grows [] g b = refl
named-grows (seen (name m x) h p ∷ l) g b = rw (g.same x b.0.1, named-grows l g b.1) refl
