-- An operator and an operand before a written text, and a unary operator before one: the tree takes them in along its left side.
use Prim.Native.Nat.{ℕ, zero, suc, ◌<◌, ◌≤◌}
use native.Mathlib.Omega.{arith}
use mathlib.Core.Path.{◌≡◌, refl, sym}
use mathlib.Core.Bool.{Bool, true, false, ◌&&◌, false≢true}
use mathlib.Core.List.{List, ◌++◌, append_assoc}
use lib.Dec.{eqb, ltb, leb}
use borrow.Author.Tests.{leb-true, leb-false, ltb-true, eqb-true, eqb-false}
use Rattle.condition.specs.Cond.{Cond, atom, unary, binary, binary_level, unary_level, left_level, binary_sign, unary_sign, atom_text, bracketed}
use Rattle.condition.specs.Written.{Written, an-atom, a-unary, a-binary, in-brackets}
use Rattle.condition.specs.Tokens.{pick}
use Rattle.condition.specs.Judge.{is_there, unary_mode, may_join, flag_after}
use Rattle.condition.specs.declared.Mode.{Mode}
use Rattle.condition.specs.declared.Mode.TheVariants as mode
use Rattle.condition.proofs.Levels.{binary-high, left-suc, left-level}
use Rattle.condition.proofs.Complete.{mode_of}

-- whether a comparison stands in the row at the left
unfoldable pub chained : {m : ℕ} {s : List ℕ} {t : Cond} → Written m s t → Bool
chained (an-atom n h) = false
chained (a-unary o h le w) = chained w
chained (a-binary o h le v w) = pick (eqb (binary_level o) 4) true (chained v)
chained (in-brackets w) = false

-- an atom or a bracketed text: bare in every place
pub data Primary : List ℕ → Cond → Type 0 where
  p_atom : (n : ℕ) → n < 2048 → Primary (atom_text n) (atom n)
  p-bracket : {s : List ℕ} {t : Cond} → Written 0 s t → Primary (bracketed s) t

unfoldable pub at : {s : List ℕ} {t : Cond} → Primary s t → (m : ℕ) → Written m s t
at (p_atom n h) m = an-atom n h
at (p-bracket w) m = in-brackets w

pub at-mode : {s : List ℕ} {t : Cond} (p : Primary s t) (m : ℕ) → mode_of (at p m) ≡ mode.There
unfolding at mode_of
at-mode (p_atom n h) m = refl
at-mode (p-bracket w) m = refl

pub at-chained : {s : List ℕ} {t : Cond} (p : Primary s t) (m : ℕ) → chained (at p m) ≡ false
unfolding at chained
at-chained (p_atom n h) m = refl
at-chained (p-bracket w) m = refl

-- a text whose tree begins in this mode, with a comparison in its first row only where f is up
pub record Have (m : ℕ) (x : Mode) (f : Bool) (s : List ℕ) : Type 0 where
  pub tree : Cond
  pub made : List ℕ
  pub written : Written m made tree
  pub text : made ≡ s
  pub mode : mode_of written ≡ x
  pub chain : f ≡ false → chained written ≡ false

-- what an operator at the top leaves of the flag
top-chain : (level : ℕ) (f g : Bool) → f ≡ false → flag_after level g ≡ false → pick (eqb level 4) true f ≡ false
top-chain level f g e h = go (eqb level 4) (ltb level 3) refl refl h
  where
    go : (b a : Bool) → eqb level 4 ≡ b → ltb level 3 ≡ a → pick a false (pick b true g) ≡ false → pick b true f ≡ false
    go false a x y h = e
    go true true x y h = absurd (omega (arith, eqb-true level 4 x, ltb-true level 3 y))
    go true false x y h = absurd (false≢true (sym h))

module _ {u : List ℕ} {x : Cond} (p : Primary u x) (o : ℕ) (h : o < 20) where
  -- the operator at the top
  on-top : {m : ℕ} {s : List ℕ} {t : Cond} (g : Bool) → m ≤ binary_level o → Written (suc (binary_level o)) s t → Have m mode.There (flag_after (binary_level o) g) (u ++ (binary_sign o ++ s))
  unfolding mode_of chained
  on-top {s = s} {t = t} g le w =
      record {
        tree = binary o x t;
        made = u ++ (binary_sign o ++ s);
        written = a-binary o h le (at p (left_level o)) w;
        text = refl;
        mode = at-mode p (left_level o);
        chain = λ e. top-chain (binary_level o) (chained (at p (left_level o))) g (at-chained p (left_level o)) e;
      }

  -- further left
  further : {m : ℕ} (s : List ℕ) {s' : List ℕ} {r : Cond} (q : ℕ) → q < 20 → m ≤ binary_level q → (f : Bool) → Written (suc (binary_level q)) s' r → binary_level q ≤ binary_level o → Have (left_level q) mode.There (flag_after (binary_level o) f) (u ++ (binary_sign o ++ s)) → Have m mode.There (flag_after (binary_level o) (pick (eqb (binary_level q) 4) true f)) (u ++ (binary_sign o ++ (s ++ (binary_sign q ++ s'))))
  unfolding mode_of chained
  further s {s' = s'} {r = r} q hq le f w low j =
      record {
        tree = binary q j.tree r;
        made = j.made ++ (binary_sign q ++ s');
        written = a-binary q hq le j.written w;
        text = rw j.text (simp append_assoc);
        mode = j.mode;
        chain = λ e. go (eqb (binary_level q) 4) refl e;
      }
    where
      no-loose : binary_level q ≡ 4 → (c d : Bool) → ltb (binary_level o) 3 ≡ c → pick c false (pick d true true) ≡ false → ⊥
      no-loose four true d lt e = omega (arith, ltb-true (binary_level o) 3 lt)
      no-loose four false true lt e = false≢true (sym e)
      no-loose four false false lt e = false≢true (sym e)

      go : (b : Bool) → eqb (binary_level q) 4 ≡ b → flag_after (binary_level o) (pick b true f) ≡ false → pick b true (chained j.written) ≡ false
      go false a e = j.chain e
      go true a e = absurd (no-loose (eqb-true (binary_level q) 4 a) (ltb (binary_level o) 3) (eqb (binary_level o) 4) refl e)

  left_le : (q : ℕ) → q < 20 → (f : Bool) → binary_level q ≤ binary_level o → (eqb (binary_level o) 4 && pick (eqb (binary_level q) 4) true f) ≡ false → left_level q ≤ binary_level o
  left_le q hq f le e = go (eqb (binary_level q) 4) (eqb (binary_level o) 4) refl refl (left-level q hq) e
    where
      go : (b a : Bool) → eqb (binary_level q) 4 ≡ b → eqb (binary_level o) 4 ≡ a → left_level q ≡ pick b 5 (binary_level q) → (a && pick b true f) ≡ false → left_level q ≤ binary_level o
      go false a x y l e = omega arith
      go true true x y l e = absurd (false≢true (sym e))
      go true false x y l e = omega (arith, eqb-true (binary_level q) 4 x, eqb-false (binary_level o) 4 y)

  quiet : (a b f : Bool) → (a && pick b true f) ≡ false → (a && f) ≡ false
  quiet false b f e = refl
  quiet true true f e = absurd (false≢true (sym e))
  quiet true false f e = e

  side : {m : ℕ} {s s' : List ℕ} {l r : Cond} (q : ℕ) (f : Bool) → q < 20 → m ≤ binary_level q → Written (left_level q) s l → Written (suc (binary_level q)) s' r → m ≤ binary_level o → (eqb (binary_level o) 4 && pick (eqb (binary_level q) 4) true f) ≡ false → (left_level q ≤ binary_level o → (eqb (binary_level o) 4 && f) ≡ false → Have (left_level q) mode.There (flag_after (binary_level o) f) (u ++ (binary_sign o ++ s))) → Have m mode.There (flag_after (binary_level o) (pick (eqb (binary_level q) 4) true f)) (u ++ (binary_sign o ++ (s ++ (binary_sign q ++ s'))))
  side {m} {s} {s'} q f hq lq v w le e k = go (leb (binary_level q) (binary_level o)) refl
    where
      go : (c : Bool) → leb (binary_level q) (binary_level o) ≡ c → Have m mode.There (flag_after (binary_level o) (pick (eqb (binary_level q) 4) true f)) (u ++ (binary_sign o ++ (s ++ (binary_sign q ++ s'))))
      go true c = let low = leb-true (binary_level q) (binary_level o) c in further s q hq lq f w low (k (left_le q hq f low e) (quiet (eqb (binary_level o) 4) (eqb (binary_level q) 4) f e))
      go false c = on-top (pick (eqb (binary_level q) 4) true f) le (a-binary q hq (leb-false (binary_level q) (binary_level o) c) v w)

  tighter : (q : ℕ) → q < 2 → may_join (pick (eqb q 1) mode.Negated mode.There) (binary_level o) ≡ true → suc (binary_level o) ≤ unary_level q
  tighter zero hq a = omega (arith, binary-high o h)
  tighter (suc zero) hq a = ltb-true (binary_level o) 3 a
  tighter (suc (suc q)) hq a = absurd (omega arith)

  pub join : {m : ℕ} {s : List ℕ} {t : Cond} (w : Written m s t) → m ≤ binary_level o → may_join (mode_of w) (binary_level o) ≡ true → (eqb (binary_level o) 4 && chained w) ≡ false → Have m mode.There (flag_after (binary_level o) (chained w)) (u ++ (binary_sign o ++ s))
  unfolding mode_of chained
  join (an-atom n g) le a b = on-top false le (an-atom n g)
  join (a-unary q hq l w) le a b = on-top (chained w) le (a-unary q hq (tighter q hq a) w)
  join (a-binary q hq l v w) le a b = side q (chained v) hq l v w le b (λ le' b'. join v le' a b')
  join (in-brackets w) le a b = on-top false le (in-brackets w)

-- before another: NOT before any, a minus before a minus
before-unary : (u q : ℕ) → u < 2 → q < 2 → is_there (unary_mode (pick (eqb q 1) mode.Negated mode.There) u) ≡ true → (unary_level u ≤ unary_level q) × (pick (eqb u 1) mode.Negated mode.There ≡ unary_mode (pick (eqb q 1) mode.Negated mode.There) u)
before-unary zero zero hu hq a = (omega arith, refl)
before-unary zero (suc zero) hu hq a = absurd (false≢true a)
before-unary (suc zero) zero hu hq a = (omega arith, refl)
before-unary (suc zero) (suc zero) hu hq a = (omega arith, refl)
before-unary zero (suc (suc q)) hu hq a = absurd (omega arith)
before-unary (suc zero) (suc (suc q)) hu hq a = absurd (omega arith)
before-unary (suc (suc u)) zero hu hq a = absurd (omega arith)
before-unary (suc (suc u)) (suc q) hu hq a = absurd (omega arith)

is-not : (u : ℕ) → u < 2 → unary_level u ≤ 8 → eqb u 1 ≡ true
is-not zero h le = absurd (omega arith)
is-not (suc zero) h le = refl
is-not (suc (suc u)) h le = absurd (omega arith)

-- a unary operator before a text
module _ (u : ℕ) (h : u < 2) where
  over : {m : ℕ} {s : List ℕ} {t : Cond} {x : Mode} {f : Bool} (w : Written (unary_level u) s t) → m ≤ unary_level u → (f ≡ false → chained w ≡ false) → pick (eqb u 1) mode.Negated mode.There ≡ x → Have m x f (unary_sign u ++ s)
  unfolding mode_of chained
  over {s = s} {t = t} w le c e = record { tree = unary u t; made = unary_sign u ++ s; written = a-unary u h le w; text = refl; mode = e; chain = c }

  deeper : {m : ℕ} (s : List ℕ) {s' : List ℕ} {r : Cond} {x : Mode} (q : ℕ) (f : Bool) → q < 20 → m ≤ binary_level q → Written (suc (binary_level q)) s' r → Have (left_level q) x f (unary_sign u ++ s) → Have m x (pick (eqb (binary_level q) 4) true f) (unary_sign u ++ (s ++ (binary_sign q ++ s')))
  unfolding mode_of chained
  deeper s {s'} {r} q f hq le w j =
      record {
        tree = binary q j.tree r;
        made = j.made ++ (binary_sign q ++ s');
        written = a-binary q hq le j.written w;
        text = rw j.text (simp append_assoc);
        mode = j.mode;
        chain = λ e. go (eqb (binary_level q) 4) e;
      }
    where
      go : (b : Bool) → pick b true f ≡ false → pick b true (chained j.written) ≡ false
      go true e = e
      go false e = j.chain e

  unary-mode : (x : Mode) → is_there (unary_mode x u) ≡ true → eqb u 1 ≡ true → pick (eqb u 1) mode.Negated mode.There ≡ unary_mode x u
  unary-mode mode.Wanted a e = absurd (false≢true a)
  unary-mode mode.There a e = refl
  unary-mode mode.Negated a e = rw e
  unary-mode mode.Wrong a e = absurd (false≢true a)

  beside : {m : ℕ} {s s' : List ℕ} {l r : Cond} (x : Mode) (q : ℕ) (f : Bool) → q < 20 → m ≤ binary_level q → (v : Written (left_level q) s l) → Written (suc (binary_level q)) s' r → m ≤ unary_level u → is_there (unary_mode x u) ≡ true → (f ≡ chained v) → (left_level q ≤ unary_level u → Have (left_level q) (unary_mode x u) f (unary_sign u ++ s)) → Have m (unary_mode x u) (pick (eqb (binary_level q) 4) true f) (unary_sign u ++ (s ++ (binary_sign q ++ s')))
  unfolding chained
  beside {m} {s} {s'} x q f hq lq v w le a same k = go (leb (unary_level u) (binary_level q)) refl
    where
      go : (c : Bool) → leb (unary_level u) (binary_level q) ≡ c → Have m (unary_mode x u) (pick (eqb (binary_level q) 4) true f) (unary_sign u ++ (s ++ (binary_sign q ++ s')))
      go true c =
          let low = leb-true (unary_level u) (binary_level q) c in
          over (a-binary q hq low v w) le (λ e. rw (← same) e) (unary-mode x a (is-not u h (omega (arith, binary-high q hq))))
      go false c = let high = leb-false (unary_level u) (binary_level q) c in deeper s q f hq lq w (k (omega (arith, left-suc q hq)))

  pub prefix : {m : ℕ} {s : List ℕ} {t : Cond} (w : Written m s t) → m ≤ unary_level u → is_there (unary_mode (mode_of w) u) ≡ true → Have m (unary_mode (mode_of w) u) (chained w) (unary_sign u ++ s)
  unfolding mode_of chained
  prefix (an-atom n g) le a = over (an-atom n g) le (λ e. refl) refl
  prefix (a-unary q hq l w) le a = let b = before-unary u q h hq a in over (a-unary q hq b.0 w) le (λ e. e) b.1
  prefix (a-binary q hq l v w) le a = beside (mode_of v) q (chained v) hq l v w le a refl (λ le'. prefix v le' a)
  prefix (in-brackets w) le a = over (in-brackets w) le (λ e. refl) refl
