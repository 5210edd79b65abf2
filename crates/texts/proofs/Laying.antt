-- Texts laid one after the other: what is laid first, then what follows where it ended, is both of them (`lays-then`). What is laid at the
-- front of the rest of a page, as `&mut page[at..]` lends it, is laid there in the page (`lays-rest`).
use Prim.Native.Nat.{ℕ, suc, ◌+◌, ◌-◌, ◌≤◌}
use native.Mathlib.Nat.{add-zero, zero-add}
use native.Mathlib.Omega.{arith}
use mathlib.Core.Path.{◌≡◌, refl, sym, ◌∙◌}
use mathlib.Core.List.{List, [], ◌∷◌, ◌++◌, append_assoc, append-nil}
use lib.ListN.{length, set, take, drop, length-append, length-take, length-drop}
use lib.Seq.{sets, length-sets, sets-eq, take-length, drop-length, drop-drop}
use borrow.Author.Tests.{le-leb}
use borrow.Rule.Slice.PartMut.{put_mid}
use Rattle.words.specs.Front.{put_front, put_length}
use Rattle.texts.specs.Laid.{laid, Lays}

-- the bytes from r on, as `&mut page[r..]` lends them, and the page where they came back
abbrev pub rest : ℕ → List ℕ → List ℕ
rest r page = take (length page - r) (drop r page)

abbrev pub back : ℕ → List ℕ → List ℕ → List ℕ
back r page part = take r page ++ (part ++ drop (length page - r) (drop r page))

pub lays-none : (old : List ℕ) (at : ℕ) → Lays [] old at old at
unfolding laid
lays-none old at = record { next = omega arith; wrote = refl; same = refl }

laid_then : (a b page : List ℕ) (at : ℕ) → laid (laid page at a) (at + length a) b ≡ laid page at (a ++ b)
unfolding laid
laid_then [] b page at = rw add-zero
laid_then (x ∷ a) b page at = let e : at + suc (length a) ≡ suc at + length a = omega arith in rw e (laid_then a b (set page at x) (suc at))

-- a text after a text
pub lays-then : {a b old mid new : List ℕ} {at p r : ℕ} → Lays a old at mid p → Lays b mid p new r → Lays (a ++ b) old at new r
lays-then {a} {b} {old} {at = at} f g = record {
  next = rw length-append (omega (arith, f.next, g.next));
  wrote = g.wrote ∙ rw (f.wrote, f.next) (laid_then a b old at);
  same = g.same ∙ f.same;
}

-- a text that is copied to its place
pub lays-copied : (text old : List ℕ) (at k : ℕ) → k ≡ length text → at + length text ≤ length old → Lays text old at (put_mid at k old text) (at + length text)
unfolding laid
lays-copied text old at k e h =
    let same : put_mid at k old text ≡ sets old at text = rw (sets-eq text old at h, e, drop-drop, append_assoc) in
    record { next = refl; wrote = same; same = rw same (length-sets old at text) }

pub front-laid : (text page : List ℕ) → length text ≤ length page → laid page 0 text ≡ text ++ drop (length text) page
unfolding laid
front-laid text page h = rw (sets-eq text page 0 (omega arith), zero-add (length text))

-- what is laid at the front of the rest of the page is laid there
pub lays-rest : {text old after : List ℕ} {at q : ℕ} → Lays text (rest at old) 0 after q → at + length text ≤ length old → Lays text old at (back at old after) (at + q)
unfolding laid
lays-rest {text} {old} {at = at} p h =
    let room : length text ≤ length (rest at old) = simp (length-take, length-drop) (omega arith) in
    let e : back at old (laid (rest at old) 0 text) ≡ sets old at text =
    rw (front-laid text (rest at old) room, sets-eq text old at h, ← length-drop at old, take-length, drop-length, append-nil, drop-drop, append_assoc) in
    record { next = rw p.next (omega arith); wrote = rw p.wrote e; same = rw (p.wrote, e) (length-sets old at text) }

-- what words' `put_decimal` answers and leaves, where the text fits
pub lays-put : {text old new : List ℕ} {r : ℕ} → (r ≡ put_length text old) × (new ≡ put_front text old) → length text ≤ length old → Lays text old 0 new r
unfolding put_length put_front laid
lays-put {text} {old} e h =
    let fits = le-leb (length text) (length old) h in
    let wrote = rw fits at e.1 ∙ sym (front-laid text old h) in
    record { next = rw fits at e.0 ∙ sym (zero-add (length text)); wrote = wrote; same = rw wrote (length-sets old 0 text) }
