-- Each push has its text: the sheet's names are the table that `message` reads, its tests are passed, and a line has the text
-- that the same code and detail stand for.
use Prim.Native.Nat.{ℕ, zero, suc, ◌≤◌, ◌<◌}
use native.Mathlib.Omega.{arith}
use mathlib.Core.Path.{◌≡◌, refl}
use mathlib.Core.Bool.{Bool, true, false, ◌&&◌, and-false, beq}
use mathlib.Core.List.{List, [], ◌∷◌}
use lib.Dec.{eqb, ltb}
use lib.ListN.{length, get_or}
use borrow.Author.Tests.{lt-ltb, le-leb, ne_eqb}
use Rattle.words.specs.Words.{words}
use Rattle.expr.proofs.Inverse.{never}
use Rattle.tables.specs.Distinct.{same_bytes}
use Rattle.sheet.specs.Trailer.{sized, in_place, places_of}
use Rattle.sheet.specs.Statement.{Statement}
use Rattle.sheet.specs.Read.{Sheet, accepted, then', unless, read_names, locate, read_sections, read_sheet, read_text}
use Rattle.sheet.specs.declared.trailer.Places.{Places}
use Rattle.sheet.proofs.Walked.{walked}
use Rattle.semantics.specs.Log.{Finding, finding}
use Rattle.semantics.specs.World.{star_name}
use Rattle.texts.specs.Codes.{of2007, of2008, of5010, unused, text_for}
use Rattle.texts.specs.Texts.{text_of}
use Rattle.texts.specs.declared.Text.{Text}
use Rattle.texts.specs.declared.Text.TheVariants as text
use Rattle.std.specs.declared.option.Option.{Option}
use Rattle.std.specs.declared.option.Option.TheVariants as option
use Rattle.scope.specs.Graph.{Name, name, indexed}
use Rattle.tables.specs.VarName.{var_name}
use Rattle.finding.specs.Flat.{name_word, mark_word}
use Rattle.message.specs.declared.pushes.Push.{Push}
use Rattle.message.specs.Pushes.{push_of, gives}
use Rattle.message.specs.Message.{nameless, name_text, starred, text_if, message}
use Rattle.lines.specs.Lines.{name_of, line_for, line}
use Rattle.told.specs.Pushed.{IsName, Pushed, IsType, IsOther, unresolved, shadows, arithmetic, property, path, element, predicate, listed, iterable}
use Rattle.told.specs.Told.{message_of, front_of, Told}

-- the name `*`, as the walk and as the message compare it
pub star-same : (bs : List ℕ) → same_bytes bs (42 ∷ []) ≡ star_name bs
unfolding same_bytes star_name
star-same [] = refl
star-same (b ∷ []) = go (eqb b 42)
  where
    go : (t : Bool) → (t && true) ≡ t
    go true = refl
    go false = refl
star-same (b ∷ c ∷ bs) = and-false (eqb b 42)

-- a push gives a detail two in its range
same_bool : (b : Bool) → beq b b ≡ true
same_bool true = refl
same_bool false = refl

in-range : (p : Push) (two : ℕ) → p.low ≤ two → two ≤ p.high → (two ≡ p.but → ⊥) → gives p p.named two ≡ true
unfolding gives
in-range p two h g n = rw (same_bool p.named, le-leb p.low two h, le-leb two p.high g, ne_eqb two p.but n) refl

-- the sheet's trailer is in place
placed : {A : Type 0} {x : A} (k : Places → Sheet A) (a b : Bool) (p : Places) → then' (unless 1 a (unless 2 b (accepted p))) k ≡ accepted x → unless 1 a (unless 2 b (accepted p)) ≡ accepted p
placed k true true p h = refl
placed k true false p h = never (cc)
placed k false b p h = never (cc)

module _ (s : List ℕ) (st : Statement) (e : read_sheet s ≡ accepted st) where
  -- a name's text is the statement's name
  pub text-read : (i : ℕ) → read_text s i ≡ unless 5 (ltb i (length st.names)) (accepted (get_or st.names i []))
  unfolding read_sheet read_text locate read_names
  text-read i =
      let w = walked s st e in
      rw (placed (read_sections s (words s)) (sized s) (in_place (words s)) (places_of (words s)) e, w.tabled.names_read, w.tabled.apart, w.named) refl

  named-text : (i : ℕ) → i < length st.names → name_text s (suc i) ≡ accepted (get_or st.names i [])
  unfolding name_text
  named-text i h = rw (text-read i, lt-ltb i (length st.names) h) refl

  pub nameless-text : name_text s 0 ≡ accepted []
  unfolding name_text
  nameless-text = rw (text-read 0) (go (ltb 0 (length st.names)) (get_or st.names 0 []))
    where
      go : (b : Bool) (x : List ℕ) → nameless (unless 5 b (accepted x)) ≡ accepted []
      go true x = refl
      go false x = refl

  -- a finding whose code and detail one stand for t
  says : (t : Text) (code a b : ℕ) (x : Option Name) (one two : ℕ) → text_for code one ≡ option.Some t → mark_word x ≡ 0 → name_text s (name_word x) ≡ accepted (name_of st.names x) → ltb 0 (name_word x) ≡ (push_of t).named → (push_of t).low ≤ two →
      two ≤ (push_of t).high → (two ≡ (push_of t).but → ⊥) → starred code (name_of st.names x) ≡ false → Told s st.names (finding code a b x one two)
  unfolding message_of front_of message text_if line line_for
  says t code a b x one two h z g n low high but star = record {
    text = text_of t (name_of st.names x) two;
    message = rw (z, g, h, n, in-range (push_of t) two low high but, star) refl;
    line = rw h refl;
  }

  -- with a name, and without one
  module _ (t : Text) (code a b one two : ℕ) (h : text_for code one ≡ option.Some t) (low : (push_of t).low ≤ two) (high : two ≤ (push_of t).high) (but : two ≡ (push_of t).but → ⊥) where
    says-named : (x : ℕ) → (push_of t).named ≡ true → x < length st.names → starred code (get_or st.names x []) ≡ false → Told s st.names (finding code a b (option.Some (indexed x)) one two)
    says-named x n i star = says t code a b (option.Some (indexed x)) one two h refl (named-text x i) (rw n (lt-ltb 0 (suc x) (omega arith))) low high but star

    says-nameless : (push_of t).named ≡ false → starred code [] ≡ false → Told s st.names (finding code a b option.None one two)
    says-nameless n star = says t code a b option.None one two h refl nameless-text (rw n refl) low high but star

  element-told : (a b x want k : ℕ) → x < length st.names → 1 ≤ want → want ≤ 2 → IsOther want k → Told s st.names (finding 2008 a b (option.Some (indexed x)) (suc want) k)
  unfolding text_for of2008 push_of
  element-told a b x zero k i h g o = absurd (omega arith)
  element-told a b x (suc zero) k i h g o = says-named text.NodePosition 2008 a b 2 k refl o.0 o.1 o.2 x refl i refl
  element-told a b x (suc (suc zero)) k i h g o = says-named text.RelPosition 2008 a b 3 k refl o.0 o.1 o.2 x refl i refl
  element-told a b x (suc (suc (suc n))) k i h g o = absurd (omega arith)

  listed-told : (o t : ℕ) → 1 ≤ o → o ≤ 3 → IsType t → Told s st.names (finding 5010 0 0 option.None o t)
  unfolding text_for of5010 push_of same_bytes
  listed-told zero t h g i = absurd (omega arith)
  listed-told (suc zero) t h g i = says-nameless text.Index 5010 0 0 1 t refl i.0 i.1 (λ n. omega arith) refl refl
  listed-told (suc (suc zero)) t h g i = says-nameless text.Slice 5010 0 0 2 t refl i.0 i.1 (λ n. omega arith) refl refl
  listed-told (suc (suc (suc zero))) t h g i = says-nameless text.IterateOver 5010 0 0 3 t refl i.0 i.1 (λ n. omega arith) refl refl
  listed-told (suc (suc (suc (suc n)))) t h g i = absurd (omega arith)

  -- E1002, also of a generated name
  shadow-told : (a b : ℕ) (x : Name) → IsName st.names x → Told s st.names (finding 1002 a b (option.Some x) 0 0)
  unfolding text_for unused push_of message_of front_of message text_if line line_for gives
  shadow-told a b (name zero x) i = says-named text.Shadows 1002 a b 0 0 refl (omega arith) (omega arith) (λ e. omega arith) x refl i refl
  shadow-told a b (name (suc zero) v) i = record { text = text_of text.Shadows (var_name v) 0; message = rw nameless-text refl; line = refl }
  shadow-told a b (name (suc (suc m)) v) i = absurd i

  pub pushed-told : {f : Finding} → Pushed st.names f → Told s st.names f
  unfolding text_for of2007 of2008 unused push_of same_bytes
  pushed-told (unresolved {x} i n) = says-named text.Unresolved 1001 0 0 0 0 refl (omega arith) (omega arith) (λ e. omega arith) x refl i (rw (star-same (get_or st.names x [])) n)
  pushed-told (shadows {a} {b} {x} i) = shadow-told a b x i
  pushed-told (arithmetic {x} {k} i h g) = says-named text.Arithmetic 2007 0 0 1 k refl (omega arith) (omega arith) (λ e. omega arith) x refl i refl
  pushed-told (property {x} i) = says-named text.PropAccess 2007 0 0 2 3 refl (omega arith) (omega arith) (λ e. omega arith) x refl i refl
  pushed-told (path {x} {k} i o) = says-named text.PathBinder 2008 0 0 1 k refl o.0 o.1 o.2 x refl i refl
  pushed-told (element {a} {b} {x} {want} {k} i h g o) = element-told a b x want k i h g o
  pushed-told (predicate {t} h g) = says-nameless text.BoolPredicate 2011 0 0 0 t refl h g (λ e. omega arith) refl refl
  pushed-told (listed {o} {t} h g i) = listed-told o t h g i
  pushed-told (iterable {t} i) = says-nameless text.ListIterable 5011 0 0 0 t refl i.0 i.1 (λ e. omega arith) refl refl
