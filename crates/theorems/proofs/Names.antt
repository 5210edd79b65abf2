-- Tests of names as equations: `same→eq`, names that pass are equal; `eq→same`, equal names pass; `same_refl` and `same_comm`, a name against
-- itself, and turned round.
use mathlib.Core.Path.{◌≡◌, sym, ap₂, subst}
use mathlib.Core.Bool.{true}
use lib.Dec.{T, eqb, eqb→eq}
use Rattle.scope.specs.Graph.{Name, name, same_name}
use Rattle.theorems.proofs.Tests.{bool-ext, both, eqb_same}

pub same→eq : (x y : Name) → T (same_name x y) → x ≡ y
unfolding same_name
same→eq (name m x) (name n y) t = let p = both (eqb m n) (eqb x y) t in ap₂ name (eqb→eq m n p.0) (eqb→eq x y p.1)

pub same_refl : (x : Name) → same_name x x ≡ true
unfolding same_name
same_refl (name m x) = rw (eqb_same m) (eqb_same x)

pub eq→same : (x y : Name) → x ≡ y → T (same_name x y)
eq→same x y p = subst (λ (z : Name). T (same_name x z)) p (subst T (sym (same_refl x)) tt)

pub same_comm : (x y : Name) → same_name x y ≡ same_name y x
same_comm x y = bool-ext (same_name x y) (same_name y x) (λ t. eq→same y x (sym (same→eq x y t))) (λ t. eq→same x y (sym (same→eq y x t)))
