-- Laws of where the sections stand: what the tests of causes 1 and 2 say of the trailer's words, and that what is accepted lies within
-- the sheet.
pub use Rattle.std.proofs.lemmas.Bool.{and_parts as both}
use Prim.Native.Nat.{ℕ, ◌+◌, ◌%◌, ◌<◌, ◌≤◌}
use native.Mathlib.Omega.{arith}
use mathlib.Core.Path.{◌≡◌, refl, sym, subst}
use mathlib.Core.Bool.{Bool, true, false, ◌&&◌, and-false}
use mathlib.Core.List.{List}
use borrow.Author.Tests.{leb-true, eqb-true, le-leb, lt-leb, eq-eqb}
use lib.Dec.{leb, eqb}
use lib.ListN.{length, get_or}
use Rattle.words.specs.Words.{words}
use Rattle.words.proofs.Words.{length-words}
use Rattle.sheet.specs.Trailer.{max_bytes, sized, trailer_at, trailer, in_place, places_of}
use Rattle.sheet.specs.Read.{accepted, refused, unless, locate}
use Rattle.sheet.specs.Answer.{sheet_of, InPlaces}
use Rattle.sheet.specs.declared.trailer.Places.{Places}
use Rattle.std.specs.Prelude.{Ok}

-- cause 1's test
pub record Sized (s : List ℕ) : Type 0 where
  pub whole : length s % 4 ≡ 0
  pub least : 40 ≤ length s
  pub most : length s ≤ 8192

pub size_of : (s : List ℕ) → sized s ≡ true → Sized s
unfolding sized
size_of s e =
    let a = both (eqb (length s % 4) 0) (leb 40 (length s) && leb (length s) 8192) e in
    let b = both (leb 40 (length s)) (leb (length s) 8192) a.1 in
    record { whole = eqb-true _ _ a.0; least = leb-true _ _ b.0; most = leb-true _ _ b.1 }

pub is-sized : (s : List ℕ) → Sized s → sized s ≡ true
unfolding sized
is-sized s z = rw (eq-eqb (length s % 4) 0 z.whole, le-leb 40 (length s) z.least, le-leb (length s) 8192 z.most)

-- what is longer fails it
pub too_long : (s : List ℕ) → max_bytes < length s → locate s ≡ refused 1
unfolding locate sized
too_long s h = rw (lt-leb (length s) max_bytes h, and-false, and-false)

-- cause 2's test, where the trailer's first word is t: how far back each section begins, and the span
pub record Falling (ws : List ℕ) (t : ℕ) : Type 0 where
  pub names : get_or ws (t + 0) 0 ≡ t
  pub rows : get_or ws (t + 2) 0 ≤ get_or ws (t + 0) 0
  pub head : get_or ws (t + 4) 0 ≤ get_or ws (t + 2) 0
  pub tail : get_or ws (t + 6) 0 ≤ get_or ws (t + 4) 0
  pub span : get_or ws (t + 8) 0 ≤ get_or ws (t + 9) 0

pub is-falling : (ws : List ℕ) → in_place ws ≡ true → Falling ws (trailer_at ws)
unfolding in_place
is-falling ws e =
    let a = both (eqb (trailer ws 0) (trailer_at ws)) _ e in
    let b = both (leb (trailer ws 2) (trailer ws 0)) _ a.1 in
    let d = both (leb (trailer ws 4) (trailer ws 2)) _ b.1 in
    let f = both (leb (trailer ws 6) (trailer ws 4)) (leb (trailer ws 8) (trailer ws 9)) d.1 in
    record {
      names = eqb-true _ _ a.0;
      rows = leb-true _ _ b.0;
      head = leb-true _ _ d.0;
      tail = leb-true _ _ f.0;
      span = leb-true _ _ f.1;
    }

pub falls-in-place : (ws : List ℕ) → Falling ws (trailer_at ws) → in_place ws ≡ true
unfolding in_place
falls-in-place ws f =
    rw (eq-eqb _ _ f.names, le-leb _ _ f.rows, le-leb _ _ f.head, le-leb _ _ f.tail, le-leb _ _ f.span)

pub falling : (ws : List ℕ) (t : ℕ) → (t + 10 ≡ length ws) × (in_place ws ≡ true) → Falling ws t
falling ws t pre = let at : trailer_at ws ≡ t = omega arith in subst (Falling ws) at (is-falling ws pre.1)

-- what is accepted passed both tests
passed : {A : Type 0} (a b : Bool) (x y : A) → unless 1 a (unless 2 b (accepted x)) ≡ accepted y → (a ≡ true) × (b ≡ true) × (x ≡ y)
passed true true x y e = (refl, refl, cc)
passed true false x y e = (refl, cc, cc)
passed false b x y e = (cc, cc, cc)

pub within : (s : List ℕ) → Sized s → Falling (words s) (trailer_at (words s)) → InPlaces s (places_of (words s))
unfolding places_of
within s z f = omega (arith, length-words s)

-- what is accepted lies within the sheet
pub in-places : (s : List ℕ) (p : Places) → locate s ≡ accepted p → InPlaces s p
unfolding locate
in-places s p e =
    let h = passed (sized s) (in_place (words s)) (places_of (words s)) p e in
    subst (InPlaces s) h.2 (within s (size_of s h.0) (is-falling (words s) h.1))

pub places-of : (s : List ℕ) (p : Places) → locate s ≡ accepted p → p ≡ places_of (words s)
unfolding locate
places-of s p e = sym (passed (sized s) (in_place (words s)) (places_of (words s)) p e).2

-- the same of an answer
pub placed_at : (s : List ℕ) {p : Places} → sheet_of (Ok p) ≡ locate s → (locate s ≡ accepted p) × InPlaces s p
placed_at s {p} e = let h : locate s ≡ accepted p = cc in (h, in-places s p h)

-- what tells how many words there are
pub ruleset lengths = (length-words, size_of, falling)
