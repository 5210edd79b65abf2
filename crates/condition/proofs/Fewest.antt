-- The printed text of a tree is written as that tree, and has the fewest brackets of all texts that are: so no pair can be left out.
use Prim.Native.Nat.{ℕ, suc, ◌+◌, ◌<◌, ◌≤◌}
use native.Mathlib.Omega.{arith}
use mathlib.Core.Path.{◌≡◌, refl, ap}
use mathlib.Core.Bool.{Bool, true, false, cond}
use mathlib.Core.List.{List, [], ◌∷◌, ◌++◌}
use lib.Dec.{eqb, ltb}
use borrow.Author.Tests.{ltb-false, le-ltb, eqb-true}
use Rattle.condition.specs.Cond.{Cond, atom, unary, binary, binary_level, unary_level, left_level, binary_sign, unary_sign, bracketed, Well}
use Rattle.condition.specs.Printed.{wrap, printed}
use Rattle.condition.specs.Written.{Written, an-atom, a-unary, a-binary, in-brackets}
use Rattle.condition.proofs.Tables.{all-below}

wrapped : (b : Bool) {m : ℕ} (level : ℕ) {s : List ℕ} {t : Cond} → ltb level m ≡ b → ((k : ℕ) → k ≤ level → Written k s t) → Written m (wrap b s) t
wrapped true level e w = in-brackets (w 0 (omega arith))
wrapped false {m} level e w = w m (ltb-false level m e)

-- every printed tree is written as that tree
pub printed-written : (m : ℕ) (t : Cond) → Well t → Written m (printed m t) t
unfolding printed Well
printed-written m (atom n) h = an-atom n h
printed-written m (unary o x) h =
    let w = printed-written (unary_level o) x h.1 in
    wrapped (ltb (unary_level o) m) (unary_level o) refl (λ k le. a-unary o h.0 le w)
printed-written m (binary o l r) h =
    let a = printed-written (left_level o) l h.1.0 in
    let b = printed-written (suc (binary_level o)) r h.1.1 in
    wrapped (ltb (binary_level o) m) (binary_level o) refl (λ k le. a-binary o h.0 le a b)

-- how many brackets a text opens
unfoldable pub opens : List ℕ → ℕ
opens [] = 0
opens (c ∷ s) = cond (eqb c 40) 1 0 + opens s

pub opens-append : (s u : List ℕ) → opens (s ++ u) ≡ opens s + opens u
unfolding opens
opens-append [] u = omega arith
opens-append (c ∷ s) u = rw (opens-append s u) (omega arith)

binary-none : (o : ℕ) → o < 20 → opens (binary_sign o) ≡ 0
unfolding opens
binary-none o h = eqb-true _ _ (all-below 20 (λ k. eqb (opens (binary_sign k)) 0) refl o h)

unary-none : (o : ℕ) → o < 2 → opens (unary_sign o) ≡ 0
unfolding opens
unary-none o h = eqb-true _ _ (all-below 2 (λ k. eqb (opens (unary_sign k)) 0) refl o h)

wrap-opens : (b : Bool) (s : List ℕ) → opens (wrap b s) ≡ cond b 1 0 + opens s
unfolding opens
wrap-opens true s = rw opens-append (omega arith)
wrap-opens false s = omega arith

le-one : (b : Bool) → cond b 1 0 ≤ 1
le-one true = omega arith
le-one false = omega arith

-- a bare place needs no pair, any other at most one
at_most_one : (m : ℕ) (t : Cond) → opens (printed m t) ≤ 1 + opens (printed 0 t)
unfolding printed
at_most_one m (atom n) = omega arith
at_most_one m (unary o x) =
    let b = ltb (unary_level o) m in
    let a = ltb (unary_level o) 0 in
    let s = unary_sign o ++ printed (unary_level o) x in
    omega (arith, wrap-opens b s, wrap-opens a s, le-one b)
at_most_one m (binary o l r) =
    let b = ltb (binary_level o) m in
    let a = ltb (binary_level o) 0 in
    let s = printed (left_level o) l ++ (binary_sign o ++ printed (suc (binary_level o)) r) in
    omega (arith, wrap-opens b s, wrap-opens a s, le-one b)

-- bare parts: what stands around the operands has no bracket
unary-opens : (o : ℕ) (s : List ℕ) → o < 2 → opens (unary_sign o ++ s) ≡ opens s
unary-opens o s h = rw (opens-append, unary-none o h) (omega arith)

binary-opens : (o : ℕ) (s u : List ℕ) → o < 20 → opens (s ++ (binary_sign o ++ u)) ≡ opens s + opens u
binary-opens o s u h = rw (opens-append s (binary_sign o ++ u), opens-append (binary_sign o) u, binary-none o h) (omega arith)

bracket-opens : (s : List ℕ) → opens (bracketed s) ≡ 1 + opens s
bracket-opens s = wrap-opens true s

-- every text of a tree has at least as many brackets as the printed one
pub fewest : {m : ℕ} {s : List ℕ} {t : Cond} → Written m s t → opens (printed m t) ≤ opens s
unfolding printed
fewest (an-atom n h) = omega arith
fewest {m} (a-unary {s = s} {x = x} o h le w) =
    let i = fewest w in
    rw (le-ltb (unary_level o) m le) (omega (arith, unary-opens o s h, unary-opens o (printed (unary_level o) x) h))
fewest {m} (a-binary {s = s} {u = u} {l = l} {r = r} o h le v w) =
    let i = fewest v in
    let j = fewest w in
    rw (le-ltb (binary_level o) m le) (omega (arith, binary-opens o s u h, binary-opens o (printed (left_level o) l) (printed (suc (binary_level o)) r) h))
fewest {m} (in-brackets {s = s} {t = t} w) =
    let i = fewest w in
    omega (arith, bracket-opens s, at_most_one m t)

-- leaving out any bracket that opens, with any that closes, gives no text of the tree
pub none-spare : {m : ℕ} {t : Cond} (a b c : List ℕ) → printed m t ≡ a ++ (40 ∷ (b ++ (41 ∷ c))) → Written m (a ++ (b ++ c)) t → ⊥
unfolding opens
none-spare {m} {t} a b c e w =
    let f = fewest w in
    let p = ap opens e in
    omega (arith, opens-append a (40 ∷ (b ++ (41 ∷ c))), opens-append b (41 ∷ c), opens-append a (b ++ c), opens-append b c)

spare : (b : Bool) (s body : List ℕ) → (opens s ≤ opens body → s ≡ body) → opens body ≤ opens s → 1 + opens s ≤ opens (wrap b body) → bracketed s ≡ wrap b body
spare true s body k f le = let n = bracket-opens body in rw (k (omega arith))
spare false s body k f le = absurd (omega arith)

pair : (m : ℕ) (t : Cond) {s : List ℕ} → (opens s ≤ opens (printed 0 t) → s ≡ printed 0 t) → opens (printed 0 t) ≤ opens s → 1 + opens s ≤ opens (printed m t) → bracketed s ≡ printed m t
unfolding printed
pair m (atom n) k f le = absurd (omega arith)
pair m (unary o x) {s} k f le =
    let z = le-ltb (unary_level o) 0 (omega arith) in
    spare (ltb (unary_level o) m) s (unary_sign o ++ printed (unary_level o) x) (rw z at k) (rw z at f) le
pair m (binary o l r) {s} k f le =
    let z = le-ltb (binary_level o) 0 (omega arith) in
    spare (ltb (binary_level o) m) s (printed (left_level o) l ++ (binary_sign o ++ printed (suc (binary_level o)) r)) (rw z at k) (rw z at f) le

-- and every text of the tree with no more brackets than the printed one is the printed one
pub only-printed : {m : ℕ} {s : List ℕ} {t : Cond} → Written m s t → opens s ≤ opens (printed m t) → s ≡ printed m t
unfolding printed
only-printed (an-atom n h) le = refl
only-printed {m} (a-unary {s = s} {x = x} o h l w) le =
    let t = rw (le-ltb (unary_level o) m l) at le in
    rw (le-ltb (unary_level o) m l) (ap (◌++◌ (unary_sign o)) (only-printed w (omega (arith, unary-opens o s h, unary-opens o (printed (unary_level o) x) h))))
only-printed {m} (a-binary {s = s} {u = u} {l = l} {r = r} o h k v w) le =
    let t = rw (le-ltb (binary_level o) m k) at le in
    let i = fewest v in
    let j = fewest w in
    let b = binary-opens o s u h in
    let p = binary-opens o (printed (left_level o) l) (printed (suc (binary_level o)) r) h in
    let x = only-printed v (omega arith) in
    let y = only-printed w (omega arith) in
    rw (le-ltb (binary_level o) m k, x, y)
only-printed {m} (in-brackets {s = s} {t = t} w) le = pair m t (λ h. only-printed w h) (fewest w) (rw (bracket-opens s) at le)
