-- What an accepted reading says. A reading is accepted where it `is_ok`: then what it begins with is, and a word of it is the word there; an
-- expression has room left, and its head decides.
use Prim.Native.Nat.{ℕ, zero, suc, ◌+◌, ◌-◌, ◌<◌}
use native.Mathlib.Omega.{arith}
use mathlib.Core.Path.{◌≡◌, refl, ap, sym, ◌∙◌}
use mathlib.Core.Bool.{true}
use mathlib.Core.List.{List, ◌∷◌}
use lib.ListN.{length, get_or, drop, length-drop}
use Rattle.words.proofs.Words.{drop-word}
use Rattle.heads.specs.Got.{Got, ok, no, bind, bare, is_ok, word_in}
use Rattle.heads.specs.Form.{read_form}
use Rattle.heads.specs.declared.Form.{Form}
use Rattle.expr.specs.Read.{after_form, read_expr}
use Rattle.expr.proofs.Inverse.{never, word-gives}

pub ok-inverse : {A : Type 0} (g : Got A) → is_ok g ≡ true → (a : A) × ((r : List ℕ) × (g ≡ ok a r))
ok-inverse (ok a r) h = (a, (r, refl))
ok-inverse (no c) h = never (cc)

pub ok-left : {A B : Type 0} (g : Got A) (k : A → List ℕ → Got B) → is_ok (bind g k) ≡ true → is_ok g ≡ true
ok-left (ok a r) k h = refl
ok-left (no c) k h = h

pub refused : {A X : Type 0} (g : Got A) (c : ℕ) → is_ok g ≡ true → bare g ≡ no c → X
refused (ok a r) c o e = never (cc)
refused (no d) c o e = never (cc)

-- a word that is accepted is the word there
pub word-there : (lo hi : ℕ) (ws : List ℕ) (at : ℕ) → is_ok (word_in lo hi (drop at ws)) ≡ true → (at < length ws) × (word_in lo hi (drop at ws) ≡ ok (get_or ws at 0) (drop (at + 1) ws))
word-there lo hi ws at o =
    let i = ok-inverse (word_in lo hi (drop at ws)) o in
    let g = (word-gives lo hi (drop at ws)).given i.0 i.1.0 i.1.1 in
    let l : at < length ws = omega (arith, ap length g.0, length-drop at ws) in
    let d : get_or ws at 0 ∷ drop (at + 1) ws ≡ i.0 ∷ i.1.0 = sym (drop-word ws at l) ∙ g.0 in
    (l, i.1.1 ∙ (cc))

-- an expression: room is left, and its head decides
pub room-left : (names room : ℕ) (r : List ℕ) → is_ok (read_expr names room r) ≡ true → 0 < room
unfolding read_expr
room-left names zero r o = never (cc)
room-left names (suc d) r o = omega arith

expr-suc : (names room : ℕ) (r : List ℕ) → 0 < room → read_expr names room r ≡ bind (read_form names r) (λ f r1. after_form (read_expr names (room - 1)) f r1)
unfolding read_expr
expr-suc names room r h = let e : room ≡ suc (room - 1) = omega arith in ap (λ (d : ℕ). read_expr names d r) e

pub expr-is : (names room : ℕ) (r : List ℕ) (f : Form) (r1 : List ℕ) → 0 < room → read_form names r ≡ ok f r1 → read_expr names room r ≡ after_form (read_expr names (room - 1)) f r1
expr-is names room r f r1 h e = expr-suc names room r h ∙ ap (λ (g : Got Form). bind g (λ f r1. after_form (read_expr names (room - 1)) f r1)) e
