-- Laws of byte strings and names that are the same, and of names of which none stands among those before it.
pub use Rattle.std.proofs.lemmas.Bool.{and_parts as both}
use Prim.Native.Nat.{ℕ, ◌+◌, ◌<◌, ◌≤◌}
use native.Mathlib.Numerals.{add-one}
use native.Mathlib.Omega.{arith}
use mathlib.Core.Path.{◌≡◌, refl, sym, ap, ◌∙◌}
use mathlib.Core.Bool.{Bool, true, false, false≢true, not, ◌&&◌, ◌||◌, cond}
use mathlib.Core.List.{List, [], ◌∷◌, map, map-append}
use borrow.Author.Tests.{eqb-true, eq-eqb}
use lib.Dec.{eqb}
use lib.ListN.{length, take, drop, get_or, length-map}
use lib.Seq.{take-suc, take-length}
use Rattle.std.specs.Str.{bytes_eq}
use Rattle.std.specs.List.{list_any}
use Rattle.std.proofs.lemmas.Bool.Decides.{nat_tests}
use Rattle.words.specs.Fnv.{use_id}
use Rattle.heads.specs.Answer.{is_in}
use Rattle.tables.specs.Distinct.{same_bytes, name_in, fresh_after}
use Rattle.tables.specs.Name.{name_at}
use Rattle.tables.specs.Answer.{names_at, names_in}
use Rattle.tables.proofs.Front.{front-more, take-map, get_d_map}

pub is-not : (t : Bool) → (t ≡ true → ⊥) → t ≡ false
is-not true h = absurd (h refl)
is-not false h = refl

-- strings that are the same are equal: which comes first is no matter, and their lengths are equal
pub same-eq : (a b : List ℕ) → same_bytes a b ≡ true → a ≡ b
unfolding same_bytes
same-eq [] [] e = refl
same-eq [] (y ∷ b) e = cc
same-eq (x ∷ a) [] e = cc
same-eq (x ∷ a) (y ∷ b) e =
    let h = both (eqb x y) (same_bytes a b) e in
    let hx = eqb-true x y h.0 in
    let ha = same-eq a b h.1 in
    cc

pub same-comm : (a b : List ℕ) → same_bytes a b ≡ same_bytes b a
same-comm a b = go (same_bytes a b) refl (same_bytes b a) refl
  where
    go : (t : Bool) → same_bytes a b ≡ t → (u : Bool) → same_bytes b a ≡ u → same_bytes a b ≡ same_bytes b a
    go true e u f = let h = same-eq a b e in cc
    go false e true f = let h = same-eq b a f in cc
    go false e false f = cc

-- they are the same where `==` on slices says so
pub same-pointwise : (a b : List ℕ) → same_bytes a b ≡ bytes_eq a b
unfolding same_bytes
same-pointwise [] [] = refl
same-pointwise [] (y ∷ b) = refl
same-pointwise (x ∷ a) [] = refl
same-pointwise (x ∷ a) (y ∷ b) = ap (◌&&◌ (eqb x y)) (same-pointwise a b)

-- what `contains` says of ids
pub any-in : (v : ℕ) (xs : List ℕ) → list_any (λ x. eqb x v) xs ≡ is_in v xs
unfolding is_in
any-in v [] = refl
any-in v (x ∷ xs) = rw (any-in v xs) (grind (arith, nat_tests))

-- a name that stands among others has its use id among theirs
or_else : (a b d e : Bool) → (a ≡ true → d ≡ true) → (b ≡ true → e ≡ true) → a || b ≡ true → cond d true e ≡ true
or_else true b d e f g h = rw (f refl)
or_else false b true e f g h = refl
or_else false b false e f g h = g h

id-in : (x : List ℕ) (ys : List (List ℕ)) → name_in x ys ≡ true → is_in (use_id x) (map use_id ys) ≡ true
unfolding name_in is_in
id-in x [] e = e
id-in x (y ∷ ys) e =
    or_else (same_bytes x y) (name_in x ys) (eqb (use_id x) (use_id y)) (is_in (use_id x) (map use_id ys)) (λ h. eq-eqb _ _ (ap use_id (same-eq x y h))) (id-in x ys) e

-- one whose use id is not among theirs doesn't
pub id-new : (x : List ℕ) (ys : List (List ℕ)) → is_in (use_id x) (map use_id ys) ≡ false → name_in x ys ≡ false
id-new x ys e = is-not (name_in x ys) (λ h. false≢true (sym e ∙ id-in x ys h))

-- one name on: it doesn't stand among those before it, and none after it does
pub fresh-more : (s tab : List ℕ) (n i : ℕ) → n ≤ length tab → i < n → fresh_after name_in (names_in s i tab) (map (name_at s) (drop i (take n tab))) ≡ (not (name_in (name_at s (get_or tab i 0)) (names_in s i tab)) && fresh_after name_in (names_in s (i + 1) tab) (map (name_at s) (drop (i + 1) (take n tab))))
unfolding fresh_after
fresh-more s tab n i h lt = rw (front-more tab n i h lt, add-one i, take-suc tab i 0 (omega arith), map-append)

pub fresh-next : (s places : List ℕ) (i : ℕ) → i < length places → fresh_after name_in (names_at s (take i places)) (names_at s (drop i places)) ≡ (not (name_in (name_at s (get_or places i 0)) (names_at s (take i places))) && fresh_after name_in (names_at s (take (i + 1) places)) (names_at s (drop (i + 1) places)))
fresh-next s places i h = rw (take-length places) at (fresh-more s places (length places) i (omega arith) h)

-- what `any` says of names
pub any_name : (s x places : List ℕ) → list_any (λ p. bytes_eq x (name_at s p)) places ≡ name_in x (names_at s places)
unfolding name_in
any_name s x [] = refl
any_name s x (p ∷ places) = rw (same-pointwise x (name_at s p), any_name s x places)

-- a name whose use id is new is new
module _ (s places ids : List ℕ) (pre : ids ≡ map use_id (names_at s places)) where
  id-at : (i : ℕ) → i < length places → get_or ids i 0 ≡ use_id (name_at s (get_or places i 0))
  id-at i h =
      rw (pre, get_d_map use_id (names_at s places) i [] 0 (simp length-map (omega arith)), get_d_map (name_at s) places i 0 [] h)

  ids-before : (i : ℕ) → take i ids ≡ map use_id (names_at s (take i places))
  ids-before i = rw (pre, take-map use_id i (names_at s places), take-map (name_at s) i places)

  pub new-by-id : (i : ℕ) → i < length places → is_in (get_or ids i 0) (take i ids) ≡ false → name_in (name_at s (get_or places i 0)) (names_at s (take i places)) ≡ false
  new-by-id i h e = id-new (name_at s (get_or places i 0)) (names_at s (take i places)) (rw (id-at i h, ids-before i) at e)
