-- Rows of an accepted sheet: a row that a variable has is within the tables, and so is its name, or it is generated. And what holds of every one of
-- a list: of pieces, of members.
use Rattle.std.specs.Prelude.{Option, None, Some}
use Prim.Native.Nat.{ℕ, zero, suc, ◌≤◌, ◌<◌}
use native.Mathlib.Omega.{arith}
use mathlib.Core.Path.{◌≡◌, refl}
use mathlib.Core.Bool.{Bool, true, false, cond, ◌&&◌}
use mathlib.Core.List.{List, [], ◌∷◌, ◌++◌, Memᴰ}
use lib.Dec.{eqb}
use lib.ListN.{length}
use Rattle.expr.proofs.Inverse.{never}
use Rattle.clauses.specs.Well.{Each}
use Rattle.tables.specs.Distinct.{same_bytes}
use Rattle.tables.specs.Index.{later, index_of}
use Rattle.tables.specs.Row.{Row, row}
use Rattle.tables.specs.VarName.{var_name}
use Rattle.sheet.specs.Write.{WellRow}
use Rattle.semantics.specs.World.{listed_name, row_of, row_name}
use Rattle.told.specs.Pushed.{IsName}

pub data All {A : Type 0} (P : A → Type 0) : List A → Type 0 where
  nil : All P []
  cons : {x : A} {xs : List A} → P x → All P xs → All P (x ∷ xs)

module _ {A : Type 0} {P : A → Type 0} where
  pub join : {xs ys : List A} → All P xs → All P ys → All P (xs ++ ys)
  join nil g = g
  join (cons p h) g = cons p (join h g)

  pub member : {a : A} {xs : List A} → All P xs → Memᴰ a xs → P a
  member {a = a} nil x3 = elim x3 [ ]
  member (cons p h) (Memᴰ.head e) = rw e p
  member (cons p h) (Memᴰ.tail m) = member h m

-- two tests that are both passed
pub both_true : (a b : Bool) → (a && b) ≡ true → (a ≡ true) × (b ≡ true)
both_true true b e = (refl, e)
both_true false b e = never (cc)

-- a row within the tables
abbrev pub RowIn : ℕ → Option Row → Type 0
RowIn names None = Unit {0}
RowIn names (Some (row i x k a b)) = (x < names) × (1 ≤ k) × (k ≤ 4)

pub row_in : (names v : ℕ) (t : List Row) → Each (WellRow names) t → RowIn names (row_of v t)
unfolding row_of Each WellRow
row_in names v [] h = tt
row_in names v (row i x k a b ∷ t) h = go (eqb v i) (row_in names v t h.1)
  where
    go : (q : Bool) → RowIn names (row_of v t) → RowIn names (cond q (Some (row i x k a b)) (row_of v t))
    go true g = (h.0.1, h.0.2.0, h.0.2.1)
    go false g = g

-- the index of a name that is found is within the table
later-le : (n m : ℕ) → n ≤ m → later n ≤ suc m
later-le zero m h = omega arith
later-le (suc n) m h = omega arith

index-within : (x : List ℕ) (names : List (List ℕ)) → index_of x names ≤ length names
unfolding index_of
index-within x [] = omega arith
index-within x (y ∷ ys) = go (same_bytes x y) (index-within x ys)
  where
    go : (b : Bool) → index_of x ys ≤ length ys → cond b 1 (later (index_of x ys)) ≤ suc (length ys)
    go true h = omega arith
    go false h = later-le (index_of x ys) (length ys) h

-- so a variable's name is one of the table, or generated
module _ (names : List (List ℕ)) (v : ℕ) where
  listed-name : (i : ℕ) → i ≤ length names → IsName names (listed_name v i)
  unfolding listed_name
  listed-name zero h = tt
  listed-name (suc i) h = omega arith

  named : (r : Option Row) → RowIn (length names) r → IsName names (row_name v (index_of (var_name v) names) r)
  unfolding row_name
  named None h = listed-name (index_of (var_name v) names) (index-within (var_name v) names)
  named (Some (row i x k a b)) h = h.0

  pub is-name : (t : List Row) → Each (WellRow (length names)) t → IsName names (row_name v (index_of (var_name v) names) (row_of v t))
  is-name t h = named (row_of v t) (row_in (length names) v t h)
