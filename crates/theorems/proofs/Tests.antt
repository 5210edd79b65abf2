-- Tests as equations, for the laws of lists: `bool-ext`, two tests that pass together are equal; `holds`, a test that passes is true; `both`, of
-- two that pass at once each does. Of numbers: `eq→eqb`, equal ones pass; `ne→eqb`, different ones fail; `eqb_same` and `eqb_comm`, a number
-- against itself, and turned round.
use Prim.Native.Nat.{ℕ}
use mathlib.Core.Path.{◌≡◌, refl, sym, subst}
use mathlib.Core.Bool.{Bool, true, false, ◌&&◌}
use lib.Dec.{T, eqb, eqb→eq, eqb_refl}

pub bool-ext : (a b : Bool) → (T a → T b) → (T b → T a) → a ≡ b
bool-ext true true f g = refl
bool-ext true false f g = absurd (f tt)
bool-ext false true f g = absurd (g tt)
bool-ext false false f g = refl

pub holds : (b : Bool) → T b → b ≡ true
holds b t = bool-ext b true (λ u. tt) (λ u. t)

pub both : (a b : Bool) → T (a && b) → (T a) × (T b)
both true true t = (tt, tt)
both true false t = absurd t
both false b t = absurd t

pub eq→eqb : (m n : ℕ) → m ≡ n → T (eqb m n)
eq→eqb m n p = subst (λ (x : ℕ). T (eqb m x)) p (eqb_refl m)

pub ne→eqb : (m n : ℕ) → (m ≡ n → ⊥) → eqb m n ≡ false
ne→eqb m n f = bool-ext (eqb m n) false (λ t. f (eqb→eq m n t)) (λ t. absurd t)

pub eqb_same : (n : ℕ) → eqb n n ≡ true
eqb_same n = holds (eqb n n) (eqb_refl n)

pub eqb_comm : (m n : ℕ) → eqb m n ≡ eqb n m
eqb_comm m n = bool-ext (eqb m n) (eqb n m) (λ t. eq→eqb n m (sym (eqb→eq m n t))) (λ t. eq→eqb m n (sym (eqb→eq n m t)))
