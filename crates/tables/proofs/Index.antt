-- Laws of a name's index: counted from some names on, as the search counts it; and that of distinct names the one with an index has
-- the text of that index.
use Prim.Native.Nat.{ℕ, zero, suc, ◌+◌}
use native.Mathlib.Omega.{arith}
use mathlib.Core.Path.{◌≡◌, refl, sym, ◌∙◌}
use mathlib.Core.Bool.{Bool, true, false, false≢true, not, cond, ◌||◌, or-true, or-false, or_assoc}
use mathlib.Core.List.{List, [], ◌∷◌, ◌++◌}
use borrow.Author.Tests.{not-true, ne_eqb}
use lib.Dec.{eqb, eqb-suc-suc}
use lib.ListN.{get_or}
use Rattle.tables.specs.Distinct.{same_bytes, name_in, fresh_after, distinct}
use Rattle.std.specs.Prelude.{Option, Some}
use Rattle.std.specs.List.{position_from}
use Rattle.std.specs.Str.{bytes_eq}
use Rattle.tables.specs.Name.{name_at}
use Rattle.tables.specs.Answer.{names_at}
use Rattle.tables.specs.Index.{later, number_of, index_of}
use Rattle.tables.proofs.Fresh.{is-not, both, same-eq, same-pointwise}

-- an index + 1 or 0 among names of which i stand before
abbrev pub past : ℕ → ℕ → ℕ
past i zero = zero
past i (suc n) = i + suc n

-- none before, and one more
pub past-none : (m : ℕ) → m ≡ past 0 m
past-none zero = refl
past-none (suc n) = omega arith

pub past-later : (i m : ℕ) → past i (later m) ≡ past (i + 1) m
past-later i zero = refl
past-later i (suc n) = omega arith

-- the first place where a name is x, counted from i on
pub first_from : (s x : List ℕ) (i : ℕ) (places : List ℕ) → number_of (position_from (λ p. bytes_eq x (name_at s p)) i places) ≡ past i (index_of x (names_at s places))
unfolding index_of
first_from s x i [] = refl
first_from s x i (p ∷ places) = rw (same-pointwise x (name_at s p)) (go (bytes_eq x (name_at s p)) (index_of x (names_at s places)) _ (first_from s x (i + 1) places))
  where
    go : (t : Bool) (m : ℕ) (o : Option ℕ) → number_of o ≡ past (i + 1) m → number_of (cond t (Some i) o) ≡ past i (cond t 1 (later m))
    go true m o e = omega arith
    go false m o e = e ∙ sym (past-later i m)

-- a text that is no name has no index
pub index-none : (x : List ℕ) (ys : List (List ℕ)) → name_in x ys ≡ false → 0 ≡ index_of x ys
unfolding name_in index_of
index-none x [] e = refl
index-none x (y ∷ ys) e = go (same_bytes x y) (name_in x ys) (index-none x ys) e
  where
    go : (t u : Bool) → (u ≡ false → 0 ≡ index_of x ys) → t || u ≡ false → 0 ≡ cond t 1 (later (index_of x ys))
    go true u f e = absurd (false≢true (sym e))
    go false u f e = rw (← f e) refl

-- an index by whether the first name is sought: the first, and one after it
first : (t : Bool) (m : ℕ) → eqb 1 (cond t 1 (later m)) ≡ t
first true m = refl
first false zero = refl
first false (suc n) = ne_eqb 1 (suc (suc n)) (λ e. omega arith)

later_same : (x m : ℕ) → eqb (suc (suc x)) (later m) ≡ eqb (suc x) m
later_same x zero = ne_eqb (suc (suc x)) 0 (λ e. omega arith) ∙ sym (ne_eqb (suc x) 0 (λ e. omega arith))
later_same x (suc n) = eqb-suc-suc (suc x) (suc n)

further : (t : Bool) (x m : ℕ) {r : Bool} → (t ≡ true → r ≡ false) → eqb (suc x) m ≡ r → eqb (suc (suc x)) (cond t 1 (later m)) ≡ r
further true x m f e = ne_eqb (suc (suc x)) 1 (λ e. omega arith) ∙ sym (f refl)
further false x m f e = later_same x m ∙ e

-- a text among names and one more
in-more : (x z : List ℕ) (ys : List (List ℕ)) → name_in x (ys ++ (z ∷ [])) ≡ (name_in x ys || same_bytes x z)
unfolding name_in
in-more x z [] = or-false (same_bytes x z)
in-more x z (y ∷ ys) = rw (in-more x z ys) (sym (or_assoc (same_bytes x y) (name_in x ys) (same_bytes x z)))

module _ (b : ℕ) (bs : List ℕ) where
  -- a text that stands among the names before is none of those after
  none_after : (ys before : List (List ℕ)) → name_in (b ∷ bs) before ≡ true → fresh_after name_in before ys ≡ true → (x : ℕ) → same_bytes (b ∷ bs) (get_or ys x []) ≡ false
  unfolding same_bytes fresh_after
  none_after [] before e f x = refl
  none_after (y ∷ ys) before e f zero =
      let new = not-true (name_in y before) (both (not (name_in y before)) _ f).0 in
      is-not (same_bytes (b ∷ bs) y) (λ h. (let t = same-eq (b ∷ bs) y h in false≢true (cc)))
  none_after (y ∷ ys) before e f (suc x) =
      none_after ys (before ++ (y ∷ [])) (rw (in-more (b ∷ bs) y before, e)) (both (not (name_in y before)) _ f).1 x

  index-after : (ns before : List (List ℕ)) → fresh_after name_in before ns ≡ true → (x : ℕ) → eqb (suc x) (index_of (b ∷ bs) ns) ≡ same_bytes (b ∷ bs) (get_or ns x [])
  unfolding same_bytes fresh_after index_of
  index-after [] before f x = ne_eqb (suc x) 0 (λ e. omega arith)
  index-after (y ∷ ys) before f zero = first (same_bytes (b ∷ bs) y) (index_of (b ∷ bs) ys)
  index-after (y ∷ ys) before f (suc x) =
      let new = (both (not (name_in y before)) _ f).1 in
      further (same_bytes (b ∷ bs) y) x (index_of (b ∷ bs) ys)
      (λ e. none_after ys (before ++ (y ∷ [])) (rw (in-more (b ∷ bs) y before, e) (or-true (name_in (b ∷ bs) before))) new x)
      (index-after ys (before ++ (y ∷ [])) new x)

-- of distinct names, the one with the index x is a text that is not empty exactly where suc x is found for that text
pub index_is : (t : List ℕ) (ns : List (List ℕ)) → distinct name_in ns ≡ true → (b : ℕ) (bs : List ℕ) → t ≡ b ∷ bs → (x : ℕ) → eqb (suc x) (index_of t ns) ≡ same_bytes t (get_or ns x [])
unfolding distinct
index_is t ns d b bs e x = rw e (index-after b bs ns [] d x)
