-- What `message` accepts is one of the pushes: a text stands for one code and detail one, and the tests that are passed are the push's.
use Prim.Native.Nat.{ℕ, zero, suc, ◌≤◌, ◌<◌}
use native.Mathlib.Omega.{arith}
use mathlib.Core.Path.{◌≡◌, refl}
use mathlib.Core.Bool.{Bool, true, false, cond, not, ◌&&◌, beq}
use mathlib.Core.List.{List, []}
use lib.Dec.{eqb, leb, ltb}
use lib.ListN.{length, get_or}
use borrow.Author.Tests.{eqb-true, eqb-false, leb-true, ltb-true, lt-ltb, not-true}
use Rattle.expr.proofs.Inverse.{never}
use Rattle.sheet.specs.Statement.{Statement}
use Rattle.sheet.specs.Read.{Sheet, accepted, refused, then', unless, read_sheet}
use Rattle.scope.specs.Graph.{Name, generated}
use Rattle.tables.specs.VarName.{var_name}
use Rattle.semantics.specs.Log.{finding, cited}
use Rattle.finding.specs.Flat.{cited_by}
use Rattle.texts.specs.Codes.{of2007, of2008, of5010, unused, text_for}
use Rattle.texts.specs.Texts.{text_of}
use Rattle.texts.specs.declared.Text.{Text}
use Rattle.texts.specs.declared.Text.TheVariants as text
use Rattle.std.specs.declared.option.Option.{Option}
use Rattle.std.specs.declared.option.Option.TheVariants as option
use Rattle.message.specs.declared.pushes.Push.{Push}
use Rattle.message.specs.Pushes.{push_of, gives}
use Rattle.message.specs.Message.{name_or9, name_text, starred, text_if, message}
use Rattle.told.specs.Pushed as pushed
use Rattle.told.specs.Pushed.{Pushed}
use Rattle.told.specs.Told.{OnlyPushed}
use Rattle.told.proofs.Texts.{star-same, text-read, nameless-text}
use Rattle.told.proofs.Rows.{both_true}

-- The code and the detail one of each text.
data Stands : ℕ → ℕ → Text → Type 0 where
  of-unresolved : Stands 1001 0 text.Unresolved
  of-shadows : Stands 1002 0 text.Shadows
  of-arithmetic : Stands 2007 1 text.Arithmetic
  of-property : Stands 2007 2 text.PropAccess
  of-path : Stands 2008 1 text.PathBinder
  of_node : Stands 2008 2 text.NodePosition
  of-relationship : Stands 2008 3 text.RelPosition
  of-predicate : Stands 2011 0 text.BoolPredicate
  of-index : Stands 5010 1 text.Index
  of-slice : Stands 5010 2 text.Slice
  of-iterate : Stands 5010 3 text.IterateOver
  of-iterable : Stands 5011 0 text.ListIterable

-- a test of a number, by its outcome
test : {x y : Option Text} {t : Text} {C : Type 0} (m n : ℕ) → (m ≡ n → x ≡ option.Some t → C) → (y ≡ option.Some t → C) → cond (eqb m n) x y ≡ option.Some t → C
test {x} {y} {t} {C} m n f g = go (eqb m n) (eqb-true m n)
  where
    go : (b : Bool) → (b ≡ true → m ≡ n) → cond b x y ≡ option.Some t → C
    go true h e = f (h refl) e
    go false h e = g e

module _ (code one : ℕ) (t : Text) where
  -- the detail one is the last that is tested, and the code is known
  last : (n : ℕ) (u : Text) → Stands code n u → one ≡ n → option.Some u ≡ option.Some t → Stands code one t
  last n u s e h = let q : u ≡ t = cc in rw (e, ← q) s

  stands : text_for code one ≡ option.Some t → Stands code one t
  unfolding text_for of2007 of2008 of5010 unused
  stands =
      test code 1001 (λ e. test one 0 (last 0 text.Unresolved (rw e of-unresolved)) none)
      (test code 1002 (λ e. test one 0 (last 0 text.Shadows (rw e of-shadows)) none)
      (test code 2007 (λ e. test one 1 (last 1 text.Arithmetic (rw e of-arithmetic)) (test one 2 (last 2 text.PropAccess (rw e of-property)) none))
      (test code 2008 (λ e. test one 1 (last 1 text.PathBinder (rw e of-path)) (test one 2 (last 2 text.NodePosition (rw e of_node)) (test one 3 (last 3 text.RelPosition (rw e of-relationship)) none)))
      (test code 2011 (λ e. test one 0 (last 0 text.BoolPredicate (rw e of-predicate)) none)
      (test code 5010 (λ e. test one 1 (last 1 text.Index (rw e of-index)) (test one 2 (last 2 text.Slice (rw e of-slice)) (test one 3 (last 3 text.IterateOver (rw e of-iterate)) none)))
      (test code 5011 (λ e. test one 0 (last 0 text.ListIterable (rw e of-iterable)) none) none))))))
    where
      none : option.None ≡ option.Some t → Stands code one t
      none h = never (cc)

-- What a push's tests say where they are passed.
record Given (p : Push) (named : Bool) (two : ℕ) : Type 0 where
  same : p.named ≡ named
  low : p.low ≤ two
  high : two ≤ p.high
  but : two ≡ p.but → ⊥

same-named : (a b : Bool) → beq a b ≡ true → a ≡ b
same-named true true e = refl
same-named true false e = never (cc)
same-named false true e = never (cc)
same-named false false e = refl

given : (p : Push) (named : Bool) (two : ℕ) → gives p named two ≡ true → Given p named two
unfolding gives
given p named two e =
    let a = both_true (beq p.named named) _ e in
    let b = both_true (leb p.low two) _ a.1 in
    let c = both_true (leb two p.high) _ b.1 in
    record { same = same-named p.named named a.0; low = leb-true p.low two b.0; high = leb-true two p.high c.0; but = eqb-false two p.but (not-true (eqb two p.but) c.1) }

-- no name, or one of the table with its text
data Cited (names : List (List ℕ)) : ℕ → List ℕ → Type 0 where
  nameless' : Cited names 0 []
  named' : {i : ℕ} → i < length names → Cited names (suc i) (get_or names i [])

module _ (s : List ℕ) (st : Statement) (e : read_sheet s ≡ accepted st) where
  table-text : (name : ℕ) (x : List ℕ) → name_text s name ≡ accepted x → Cited st.names name x
  unfolding name_text
  table-text zero x h = let q : [] ≡ x = cc (nameless-text s st e) in rw (← q) nameless'
  table-text (suc i) x h = go (ltb i (length st.names)) (ltb-true i (length st.names)) (rw (text-read s st e i) at h)
    where
      go : (b : Bool) → (b ≡ true → i < length st.names) → name_or9 (unless 5 b (accepted (get_or st.names i []))) ≡ accepted x → Cited st.names (suc i) x
      go true l h = let q : get_or st.names i [] ≡ x = cc in rw (← q) (named' (l refl))
      go false l h = never (cc)

-- a push with some span
abbrev Some : List (List ℕ) → (code : ℕ) → Option Name → (one two : ℕ) → Type 0
Some names code x one two = (start : ℕ) × (stop : ℕ) × Pushed names (finding code start stop x one two)

module _ {names : List (List ℕ)} where
  -- where a push has a name, and where it has none
  with-name : {name : ℕ} {x : List ℕ} → Cited names name x → true ≡ ltb 0 name → (i : ℕ) × (i < length names) × (name ≡ suc i) × (x ≡ get_or names i [])
  with-name nameless' h = never (cc)
  with-name (named' {i} l) h = (i, l, refl, refl)

  without : {name : ℕ} {x : List ℕ} → Cited names name x → false ≡ ltb 0 name → name ≡ 0
  without nameless' h = refl
  without (named' {i} l) h = never (cc (lt-ltb 0 (suc i) (omega arith)))

  some-push : {code one name two : ℕ} {t : Text} {x : List ℕ} → Stands code one t → Cited names name x → Given (push_of t) (ltb 0 name) two → starred code x ≡ false → Some names code (cited name) one two
  unfolding push_of
  some-push {two} of-unresolved c g s =
      let n = with-name c g.same in
      let z : two ≡ 0 = omega (arith, g.low, g.high) in
      (0, 0, rw (n.2, z) (pushed.unresolved n.1 (rw (← star-same (get_or names n.0 []), ← n.3) s)))
  some-push {two} of-shadows c g s =
      let n = with-name c g.same in
      let z : two ≡ 0 = omega (arith, g.low, g.high) in
      (0, 0, rw (n.2, z) (pushed.shadows n.1))
  some-push {two} of-arithmetic c g s = let n = with-name c g.same in (0, 0, rw n.2 (pushed.arithmetic {k = two} n.1 (omega (arith, g.low)) (omega (arith, g.high))))
  some-push {two} of-property c g s =
      let n = with-name c g.same in
      let z : two ≡ 3 = omega (arith, g.low, g.high) in
      (0, 0, rw (n.2, z) (pushed.property n.1))
  some-push of-path c g s = let n = with-name c g.same in (0, 0, rw n.2 (pushed.path n.1 (g.low, g.high, g.but)))
  some-push of_node c g s = let n = with-name c g.same in (0, 0, rw n.2 (pushed.element {want = 1} n.1 (omega arith) (omega arith) (g.low, g.high, g.but)))
  some-push of-relationship c g s = let n = with-name c g.same in (0, 0, rw n.2 (pushed.element {want = 2} n.1 (omega arith) (omega arith) (g.low, g.high, g.but)))
  some-push of-predicate c g s = (0, 0, rw (without c g.same) (pushed.predicate g.low g.high))
  some-push of-index c g s = (0, 0, rw (without c g.same) (pushed.listed {o = 1} (omega arith) (omega arith) (g.low, g.high)))
  some-push of-slice c g s = (0, 0, rw (without c g.same) (pushed.listed {o = 2} (omega arith) (omega arith) (g.low, g.high)))
  some-push of-iterate c g s = (0, 0, rw (without c g.same) (pushed.listed {o = 3} (omega arith) (omega arith) (g.low, g.high)))
  some-push of-iterable c g s = (0, 0, rw (without c g.same) (pushed.iterable (g.low, g.high)))

  -- the tests of `text_if`, and of the name before it
  some-text : {y : List ℕ} (code name one two : ℕ) (x : List ℕ) (o : Option Text) → text_for code one ≡ o → Cited names name x → text_if o (ltb 0 name) code x two ≡ accepted y → Some names code (cited name) one two
  unfolding text_if
  some-text code name one two x option.None t c h = never (cc)
  some-text {y} code name one two x (option.Some t) e c h = go (gives (push_of t) (ltb 0 name) two && not (starred code x)) refl h
    where
      go : (b : Bool) → (gives (push_of t) (ltb 0 name) two && not (starred code x)) ≡ b → unless 9 b (accepted (text_of t x two)) ≡ accepted y → Some names code (cited name) one two
      go true q h =
          let p = both_true (gives (push_of t) (ltb 0 name) two) _ q in
          some-push (stands code one t e) c (given (push_of t) (ltb 0 name) two p.0) (not-true (starred code x) p.1)
      go false q h = never (cc)

  some-name : {y : List ℕ} (code name one two : ℕ) (n : Sheet (List ℕ)) → ((x : List ℕ) → n ≡ accepted x → Cited names name x) → then' n (λ x. text_if (text_for code one) (ltb 0 name) code x two) ≡ accepted y → Some names code (cited name) one two
  some-name code name one two (accepted x) c h = some-text code name one two x (text_for code one) refl (c x refl) h
  some-name code name one two (refused k) c h = never (cc)

-- Of a generated name the code is 1002, whose text has no details.
module _ {names : List (List ℕ)} (v : ℕ) where
  some-shadow : {y : List ℕ} (one two : ℕ) → text_if (text_for 1002 one) true 1002 (var_name v) two ≡ accepted y → Some names 1002 (option.Some (generated v)) one two
  unfolding text_if text_for unused push_of
  some-shadow {y} one two h = by-one (eqb one 0) (eqb-true one 0) h
    where
      by-two : (b : Bool) → (gives (push_of text.Shadows) true two && not (starred 1002 (var_name v))) ≡ b → unless 9 b (accepted (text_of text.Shadows (var_name v) two)) ≡ accepted y → two ≡ 0
      by-two true q h = let g = given (push_of text.Shadows) true two (both_true (gives (push_of text.Shadows) true two) _ q).0 in omega (arith, g.low, g.high)
      by-two false q h = never (cc)

      by-one : (b : Bool) → (b ≡ true → one ≡ 0) → text_if (cond b (option.Some text.Shadows) option.None) true 1002 (var_name v) two ≡ accepted y → Some names 1002 (option.Some (generated v)) one two
      by-one true e h = (0, 0, rw (e refl, by-two _ refl h) (pushed.shadows tt))
      by-one false e h = never (cc)

  some-generated : {y : List ℕ} (code one two mark : ℕ) → unless 9 (eqb mark 1 && eqb code 1002) (text_if (text_for code one) true code (var_name v) two) ≡ accepted y → Some names code (cited_by mark v) one two
  some-generated {y} code one two mark = go (eqb mark 1 && eqb code 1002) refl
    where
      go : (b : Bool) → (eqb mark 1 && eqb code 1002) ≡ b → unless 9 b (text_if (text_for code one) true code (var_name v) two) ≡ accepted y → Some names code (cited_by mark v) one two
      go true q h =
          let p = both_true (eqb mark 1) (eqb code 1002) q in
          let c = eqb-true code 1002 p.1 in
          rw (eqb-true mark 1 p.0, c) (some-shadow one two (rw c at h))
      go false q h = never (cc)

pub only-pushed : OnlyPushed
unfolding message
only-pushed s st e code word one two mark y = go (eqb mark 0) (eqb-true mark 0)
  where
    go : (b : Bool) → (b ≡ true → mark ≡ 0)
        → cond b (then' (name_text s word) (λ x. text_if (text_for code one) (ltb 0 word) code x two)) (then' (name_text s 0) (λ x. unless 9 (eqb mark 1 && eqb code 1002) (text_if (text_for code one) true code (var_name word) two))) ≡ accepted y
        → Some st.names code (cited_by mark word) one two
    go true z h = rw (z refl) (some-name code word one two (name_text s word) (table-text s st e word) h)
    go false z h = some-generated word code one two mark (rw (nameless-text s st e) at h)
