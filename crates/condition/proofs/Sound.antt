-- What the judge takes is a written text: by the tokens from the last to the first, each level of brackets holds a text that is written, or
-- nothing yet, or an operator before such a text.
use Prim.Native.Nat.{ℕ, ◌<◌}
use native.Mathlib.Omega.{arith}
use mathlib.Core.Path.{◌≡◌, refl, sym, subst, ◌∙◌}
use mathlib.Core.Bool.{Bool, true, false, not, ◌&&◌, false≢true}
use mathlib.Core.List.{List, [], ◌∷◌, ◌++◌, append_assoc, append-nil}
use lib.Dec.{eqb, ltb}
use borrow.Author.Tests.{not-true}
use Rattle.condition.specs.Cond.{Cond, binary_level, binary_sign, unary_sign, atom_text, bracketed}
use Rattle.condition.specs.Written.{Written}
use Rattle.condition.specs.Tokens.{Tok, open', close', bad, number, un, bin, tok_text, pick}
use Rattle.condition.specs.Judge.{is_wanted, is_there, unary_mode, may_join, flag_after, judge}
use Rattle.condition.specs.declared.Mode.{Mode}
use Rattle.condition.specs.declared.Mode.TheVariants as mode
use Rattle.condition.proofs.Tables.{both}
use Rattle.condition.proofs.Joining.{Have, Primary, p_atom, p-bracket, at, at-mode, at-chained, chained, join, prefix}

-- which tokens there are
abbrev pub WellTok : Tok → Type 0
WellTok open' = Unit {0}
WellTok close' = Unit {0}
WellTok bad = Unit {0}
WellTok (number n) = n < 2048
WellTok (un o) = o < 2
WellTok (bin o) = o < 20

unfoldable pub Wells : List Tok → Type 0
Wells [] = Unit {0}
Wells (t ∷ ts) = WellTok t × Wells ts

-- the text of tokens, before a text
unfoldable pub spell : List Tok → List ℕ → List ℕ
spell [] s = s
spell (t ∷ ts) s = spell ts (tok_text t ++ s)

-- a level of brackets where an operand is wanted
data Want : Bool → List ℕ → Type 0 where
  none_yet : {f : Bool} → Want f []
  after : (o : ℕ) {x : Mode} {f : Bool} {s : List ℕ} → o < 20 → Have 0 x f s → may_join x (binary_level o) ≡ true → (eqb (binary_level o) 4 && f) ≡ false → Want (flag_after (binary_level o) f) (binary_sign o ++ s)

-- the levels around, from the bracket on
data Outer : List Bool → List ℕ → Type 0 where
  whole : Outer [] []
  within : {g : Bool} {fs : List Bool} {s k : List ℕ} → Want g s → Outer fs k → Outer (g ∷ fs) (41 ∷ (s ++ k))

State : Mode → Bool → List ℕ → Type 0
State mode.Wanted f s = Want f s
State mode.There f s = Have 0 mode.There f s
State mode.Negated f s = Have 0 mode.Negated f s
State mode.Wrong f s = ⊥

-- some tree is written so
abbrev pub Some : List ℕ → Type 0
Some s = (t : Cond) × Written 0 s t

quiet : (a f c : Bool) → (f ≡ false → c ≡ false) → (a && f) ≡ false → (a && c) ≡ false
quiet false f c k e = refl
quiet true f c k e = k e

flag-less : (l : ℕ) (f c : Bool) → (f ≡ false → c ≡ false) → flag_after l f ≡ false → flag_after l c ≡ false
flag-less l f c k e = go (ltb l 3) (eqb l 4) e
  where
    go : (a b : Bool) → pick a false (pick b true f) ≡ false → pick a false (pick b true c) ≡ false
    go true b e = refl
    go false true e = e
    go false false e = k e

plug : {u : List ℕ} {x : Cond} {f : Bool} {s : List ℕ} → Primary u x → Want f s → Have 0 mode.There f (u ++ s)
plug {u} {x} p none_yet =
    record { tree = x; made = u; written = at p 0; text = sym (append-nil u); mode = at-mode p 0; chain = λ e. at-chained p 0 }
plug {u} {x} p (after o {f = f} h v a b) =
    let j = join p o h v.written (omega arith) (rw v.mode a) (quiet (eqb (binary_level o) 4) f (chained v.written) v.chain b) in
    record {
      tree = j.tree;
      made = j.made;
      written = j.written;
      text = j.text ∙ rw v.text;
      mode = j.mode;
      chain = λ e. j.chain (flag-less (binary_level o) f (chained v.written) v.chain e);
    }

prefixed : {x : Mode} {f : Bool} {s : List ℕ} (u : ℕ) → u < 2 → Have 0 x f s → is_there (unary_mode x u) ≡ true → Have 0 (unary_mode x u) f (unary_sign u ++ s)
prefixed {x} {f} {s} u h v a =
    let j = prefix u h v.written (omega arith) (rw v.mode a) in
    record {
      tree = j.tree;
      made = j.made;
      written = j.written;
      text = j.text ∙ rw v.text;
      mode = j.mode ∙ rw v.mode;
      chain = λ e. j.chain (v.chain e);
    }

bracket : {x : Mode} {f : Bool} {s : List ℕ} (v : Have 0 x f s) → Primary (bracketed s) v.tree
bracket v = rw v.text at (p-bracket v.written)

want-of : {f : Bool} {s : List ℕ} (x : Mode) → is_wanted x ≡ true → State x f s → Want f s
unfolding State
want-of mode.Wanted e st = st
want-of mode.There e st = absurd (false≢true e)
want-of mode.Negated e st = absurd (false≢true e)
want-of mode.Wrong e st = absurd st

have-of : {f : Bool} {s : List ℕ} (x : Mode) → is_there x ≡ true → State x f s → Have 0 x f s
unfolding State
have-of mode.Wanted e st = absurd (false≢true e)
have-of mode.There e st = st
have-of mode.Negated e st = st
have-of mode.Wrong e st = absurd st

state-of : {f : Bool} {s : List ℕ} (x : Mode) → is_there x ≡ true → Have 0 x f s → State x f s
unfolding State
state-of mode.Wanted e v = absurd (false≢true e)
state-of mode.There e v = v
state-of mode.Negated e v = v
state-of mode.Wrong e v = absurd (false≢true e)

unary-there : (x : Mode) (o : ℕ) → is_there (unary_mode x o) ≡ true → is_there x ≡ true
unary-there mode.Wanted o e = e
unary-there mode.There o e = refl
unary-there mode.Negated o e = refl
unary-there mode.Wrong o e = e

join-there : (x : Mode) (l : ℕ) → may_join x l ≡ true → is_there x ≡ true
join-there mode.Wanted l e = e
join-there mode.There l e = refl
join-there mode.Negated l e = refl
join-there mode.Wrong l e = e

recast : {a b : List ℕ} {t : Cond} → a ≡ b → Written 0 a t → Some b
recast {t = t} e w = (t, rw e at w)

moved : (ts : List Tok) (a b : List ℕ) → a ≡ b → Some (spell ts a) → Some (spell ts b)
moved ts a b e x = subst (λ (l : List ℕ). Some (spell ts l)) e x

sound : (ts : List Tok) (x : Mode) (f : Bool) (fs : List Bool) (s : List ℕ) {k : List ℕ} → Wells ts → judge ts x f fs ≡ true → State x f s → Outer fs k → Some (spell ts (s ++ k))
unfolding judge spell Wells State
sound [] x f [] s w e st whole = let v = have-of x e st in recast (v.text ∙ sym (append-nil s)) v.written
sound [] x f (g ∷ fs) s w e st k = absurd (false≢true e)
sound (open' ∷ ts) x f [] s w e st k = absurd (false≢true e)
sound (open' ∷ ts) x f (g ∷ fs) s w e st (within {s = u} {k = k} want out) =
    let b = both (is_there x) _ e in
    let v = plug (bracket (have-of x b.0 st)) want in
    moved ts ((bracketed s ++ u) ++ k) (40 ∷ (s ++ (41 ∷ (u ++ k)))) (simp append_assoc) (sound ts mode.There g fs (bracketed s ++ u) w.1 b.1 v out)
sound (close' ∷ ts) x f fs s {k} w e st out =
    let b = both (is_wanted x) _ e in
    sound ts mode.Wanted false (f ∷ fs) [] w.1 b.1 none_yet (within (want-of x b.0 st) out)
sound (bad ∷ ts) x f fs s w e st k = absurd (false≢true e)
sound (number n ∷ ts) x f fs s {k} w e st out =
    let b = both (is_wanted x) _ e in
    let v = plug (p_atom n w.0) (want-of x b.0 st) in
    moved ts ((atom_text n ++ s) ++ k) (atom_text n ++ (s ++ k)) (append_assoc (atom_text n) s k) (sound ts mode.There f fs (atom_text n ++ s) w.1 b.1 v out)
sound (un o ∷ ts) x f fs s {k} w e st out =
    let b = both (is_there (unary_mode x o)) _ e in
    let v = prefixed o w.0 (have-of x (unary-there x o b.0) st) b.0 in
    moved ts ((unary_sign o ++ s) ++ k) (unary_sign o ++ (s ++ k)) (append_assoc (unary_sign o) s k) (sound ts (unary_mode x o) f fs (unary_sign o ++ s) w.1 b.1 (state-of (unary_mode x o) b.0 v) out)
sound (bin o ∷ ts) x f fs s {k} w e st out =
    let b = both (may_join x (binary_level o)) _ e in
    let c = both (not (eqb (binary_level o) 4 && f)) _ b.1 in
    let v = after o w.0 (have-of x (join-there x (binary_level o) b.0) st) b.0 (not-true _ c.0) in
    moved ts ((binary_sign o ++ s) ++ k) (binary_sign o ++ (s ++ k)) (append_assoc (binary_sign o) s k) (sound ts mode.Wanted (flag_after (binary_level o) f) fs (binary_sign o ++ s) w.1 c.1 v out)

-- tokens that the judge takes spell a text that is written
pub judged : (ts : List Tok) → Wells ts → judge ts mode.Wanted false [] ≡ true → Some (spell ts [])
unfolding State
judged ts w e = sound ts mode.Wanted false [] [] w e none_yet whole
