-- What a plain head is by its code: the tables of bits say which form it has, how many words it takes and how many parts follow.
use Prim.Native.Nat.{ℕ, ◌+◌, ◌<◌}
use native.Mathlib.Omega.{arith}
use mathlib.Core.Path.{◌≡◌, refl, sym, subst}
use mathlib.Core.Bool.{Bool, true, false, cond}
use lib.Dec.{eqb, ltb}
use borrow.Author.Tests.{ltb-true, eqb-true, eqb-false}
use Rattle.heads.specs.Form.{shape_of, form_none, form_one}
use Rattle.heads.specs.declared.Form.{Form}
use Rattle.heads.specs.declared.Form.TheVariants.{Many}
pub use Rattle.expr.proofs.Heads.{Each, ◌▹◌}
use Rattle.expr.proofs.Inverse.{never}
use Rattle.flat.specs.Plain.{plain_codes, word_codes, bit_of, has, parts_of, Parts, Simple}

-- a head of one word and one of two, of which Q holds with the number of its parts
pub data Sort (Q : Form → ℕ → Type 0) (code : ℕ) : Type 0 where
  bare : bit_of word_codes code ≡ 0 → shape_of code ≡ 1 → ((a : ℕ) → Q (form_none code) (parts_of code a)) → Sort Q code
  worded : bit_of word_codes code ≡ 1 → shape_of code ≡ 2 → ((a : ℕ) → Q (form_one code a) (parts_of code a)) → Sort Q code

-- a table has no code from 26 on
pub has-below : (table code : ℕ) → has table code ≡ true → code < 26
has-below table code h = go (ltb code 26) refl h
  where
    go : (b : Bool) → ltb code 26 ≡ b → cond b (eqb (bit_of table code) 1) false ≡ true → code < 26
    go true e h = ltb-true code 26 e
    go false e h = never (cc)

-- a word that counts parts
module _ {code : ℕ} (a : ℕ) where
  counts : Parts (Many code a) (0 + a)
  counts = let e : a ≡ 0 + a = omega arith in subst (λ (n : ℕ). Parts (Many code a) n) e Parts.many

parted : Each (λ code. code < 26 → has plain_codes code ≡ true → (code ≡ 7 → ⊥) → (code ≡ 8 → ⊥) → Sort Parts code)
unfolding shape_of form_none form_one
parted =
    (λ p h x y. never (cc))
    ▹ (λ p h x y. bare refl refl (λ a. Parts.leaf))  -- 1 Leaf
    ▹ (λ p h x y. bare refl refl (λ a. Parts.leaf))  -- 2 Leaf
    ▹ (λ p h x y. bare refl refl (λ a. Parts.leaf))  -- 3 Leaf
    ▹ (λ p h x y. bare refl refl (λ a. Parts.leaf))  -- 4 Leaf
    ▹ (λ p h x y. bare refl refl (λ a. Parts.leaf))  -- 5 Leaf
    ▹ (λ p h x y. bare refl refl (λ a. Parts.leaf))  -- 6 Leaf
    ▹ (λ p h x y. absurd (x refl))  -- 7 Var
    ▹ (λ p h x y. absurd (y refl))  -- 8 Unresolved
    ▹ (λ p h x y. worded refl refl (λ a. Parts.prop))  -- 9 Prop
    ▹ (λ p h x y. bare refl refl (λ a. Parts.two))  -- 10 Two
    ▹ (λ p h x y. never (cc))  -- 11 Slice
    ▹ (λ p h x y. worded refl refl counts)  -- 12 Many
    ▹ (λ p h x y. worded refl refl counts)  -- 13 Many
    ▹ (λ p h x y. worded refl refl counts)  -- 14 Many
    ▹ (λ p h x y. worded refl refl (λ a. Parts.binary))  -- 15 BinOp
    ▹ (λ p h x y. worded refl refl (λ a. Parts.unary))  -- 16 UnaryOp
    ▹ (λ p h x y. never (cc))  -- 17 Case
    ▹ (λ p h x y. bare refl refl (λ a. Parts.is-null))  -- 18 IsNull
    ▹ (λ p h x y. bare refl refl (λ a. Parts.two))  -- 19 Two
    ▹ (λ p h x y. never (cc))  -- 20 PatternPredicate
    ▹ (λ p h x y. worded refl refl (λ a. Parts.list-comprehension))  -- 21 ListComprehension
    ▹ (λ p h x y. never (cc))  -- 22 PatternComprehension
    ▹ (λ p h x y. worded refl refl (λ a. Parts.list-predicate))  -- 23 ListPredicate
    ▹ (λ p h x y. never (cc))  -- 24 MapProjection
    ▹ (λ p h x y. bare refl refl (λ a. Parts.leaf))  -- 25 Leaf
    ▹ record { at = λ k p h x y. absurd (omega arith) }

pub parts-sort : (code : ℕ) → has plain_codes code ≡ true → (code ≡ 7 → ⊥) → (code ≡ 8 → ⊥) → Sort Parts code
parts-sort code h = parted.at code (has-below plain_codes code h) h

pub simple-sort : (code : ℕ) → has plain_codes code ≡ true → Sort Simple code
unfolding shape_of form_one
simple-sort code h = go (eqb code 7) refl (eqb code 8) refl
  where
    made : Sort Parts code → Sort Simple code
    made (bare w s q) = bare w s (λ a. Simple.parts (q a))
    made (worded w s q) = worded w s (λ a. Simple.parts (q a))

    go : (b : Bool) → eqb code 7 ≡ b → (d : Bool) → eqb code 8 ≡ d → Sort Simple code
    go true e d f = subst (Sort Simple) (sym (eqb-true code 7 e)) (worded refl refl (λ a. Simple.variable))
    go false e true f = subst (Sort Simple) (sym (eqb-true code 8 f)) (worded refl refl (λ a. Simple.name))
    go false e false f = made (parts-sort code h (eqb-false code 7 e) (eqb-false code 8 f))
