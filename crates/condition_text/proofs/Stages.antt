-- How far a text has come: the laws by which pieces (`piece`) and parts that are read and written by a call (`part`) follow each other, when
-- there is room for the next (`fits`, `ready`), and what is told at the end (`put`). They serve operators, clauses, arms and rows of these.
use Prim.Native.Nat.{ℕ, ◌+◌, ◌*◌, ◌-◌, ◌≤◌}
use native.Mathlib.Omega.{arith}
use mathlib.Core.Path.{◌≡◌, refl, sym, ap, ◌∙◌}
use mathlib.Core.Bool.{true}
use mathlib.Core.List.{List, [], ◌∷◌, ◌++◌, append_assoc, append-nil}
use lib.ListN.{length, take, drop, length-append, length-drop, take-append-drop}
use lib.Seq.{take_at, drop_at, drop-drop, length-take-le, take_all, drop-length}
use borrow.Author.Tests.{le-leb}
use Rattle.heads.specs.Got.{Got, ok, is_ok}
use Rattle.words.specs.Decimal.{decimal}
use Rattle.words.specs.Front.{put_front, put_length}
use Rattle.condition.specs.Cond.{atom_text}
use Rattle.condition_text.specs.Write.{Wrote, Adds, Ready, Put}
use Rattle.condition_text.specs.declared.page.Page.{Page}

pub keeps : {t old new : List ℕ} {k r : ℕ} → Wrote t k old new r → length new ≡ length old
keeps {t} {old} {k = k} w =
    rw w.wrote
    (omega (arith, w.ends, w.fits, length-append (take k old) (t ++ drop (k + length t) old), length-append t (drop (k + length t) old), length-drop (k + length t) old, length-take-le k old (omega (arith, w.ends, w.fits))))

-- nothing is written
pub wrote_none : (k : ℕ) (old : List ℕ) → k ≤ length old → Wrote [] k old old k
wrote_none k old h =
    let e : k + 0 ≡ k = omega arith in
    record { ends = omega arith; fits = h; wrote = rw e (sym (take-append-drop k old)) }

-- a text after another
pub then-wrote : {t u old mid new : List ℕ} {k r q : ℕ} → Wrote t k old mid r → Wrote u r mid new q → Wrote (t ++ u) k old new q
then-wrote {t} {u} {old} {mid} {new} {k} {r} {q} a b =
    let n = length-take-le k old (omega (arith, a.ends, a.fits)) in
    let e : length (take k old ++ t) ≡ r = omega (arith, a.ends, length-append (take k old) t) in
    let m : mid ≡ (take k old ++ t) ++ drop (k + length t) old = a.wrote ∙ sym (append_assoc (take k old) t (drop (k + length t) old)) in
    let x : take r mid ≡ take k old ++ t = rw m (take_at (take k old ++ t) (drop (k + length t) old) r e) in
    let y : drop r mid ≡ drop (k + length t) old = rw m (drop_at (take k old ++ t) (drop (k + length t) old) r e) in
    let i : k + length t + length u ≡ k + length (t ++ u) = omega (arith, length-append t u) in
    let z : drop (r + length u) mid ≡ drop (k + length (t ++ u)) old = sym (drop-drop (length u) r mid) ∙ (ap (drop (length u)) y ∙ (drop-drop (length u) (k + length t) old ∙ ap (λ (j : ℕ). drop j old) i)) in
    record {
      ends = omega (arith, a.ends, b.ends, length-append t u);
      fits = omega (arith, b.fits, keeps a);
      wrote = b.wrote ∙ (rw (x, z) (simp append_assoc));
    }

-- the bytes from k on, as `&mut bytes[k..]` lends them, and all of them with these given back
abbrev rest : ℕ → List ℕ → List ℕ
rest k bytes = take (length bytes - k) (drop k bytes)

abbrev back : ℕ → List ℕ → List ℕ → List ℕ
back k bytes part = take k bytes ++ (part ++ drop (length bytes - k) (drop k bytes))

-- a text written at the front of the rest of the bytes, where it fits
pub from-rest : (t old : List ℕ) (k : ℕ) {after : List ℕ} {q : ℕ} → (q ≡ put_length t (rest k old)) × (after ≡ put_front t (rest k old)) → k + length t ≤ length old → Wrote t k old (back k old after) (k + q)
unfolding put_front put_length
from-rest t old k {after} {q} p h =
    let e : length (drop k old) ≡ length old - k = length-drop k old in
    let r : rest k old ≡ drop k old = take_all (length old - k) (drop k old) (omega arith) in
    let l = le-leb (length t) (length (drop k old)) (omega arith) in
    let n : q ≡ length t = rw (r, l) at p.0 in
    let d : drop (length old - k) (drop k old) ≡ [] = ap (λ (i : ℕ). drop i (drop k old)) (sym e) ∙ drop-length (drop k old) in
    let w : after ≡ t ++ drop (k + length t) old = (rw (r, l) at p.1) ∙ ap (◌++◌ t) (drop-drop (length t) k old) in
    record { ends = omega (arith, n); fits = omega (arith, n); wrote = rw (d, append-nil after) (ap (◌++◌ (take k old)) w) }

-- nothing is added to a page
pub none_added : (page : Page) → Adds [] page page
none_added page = record { wrote = wrote_none page.end page.bytes.now page.within; lent = refl }

-- a letter, and a number's digits after it
pub atom-wrote : (n : ℕ) (old mid : Page) → Adds (101 ∷ []) old mid → old.end + length (atom_text n) ≤ length old.bytes.now → {after : List ℕ} {q : ℕ} → (q ≡ put_length (decimal n) (rest mid.end mid.bytes.now)) × (after ≡ put_front (decimal n) (rest mid.end mid.bytes.now)) → Wrote (atom_text n) old.end old.bytes.now (back mid.end mid.bytes.now after) (mid.end + q)
atom-wrote n old mid a h p = then-wrote a.wrote (from-rest (decimal n) mid.bytes.now mid.end p (omega (arith, a.wrote.ends, keeps a.wrote)))

-- the text t stands from byte k on up to j; the words from `at` up to p are done, with `spare` bytes left of their 15 each
pub record Stage (ws : List ℕ) (at k : ℕ) (old t : List ℕ) (p spare : ℕ) (new : List ℕ) (j : ℕ) : Type 0 where
  pub wrote : Wrote t k old new j
  pub short : j + spare ≤ k + 15 * (p - at)
  pub from : at ≤ p
  pub within : p ≤ length ws
  pub room : k + 15 * (length ws - at) ≤ length old

-- some words are done that have no text
pub begin : {A : Type 0} {g : Got A} {ws old : List ℕ} {at k : ℕ} (p spare : ℕ) → Ready g ws at k (length old) → at ≤ p → p ≤ length ws → spare ≤ 15 * (p - at) → Stage ws at k old [] p spare old k
begin {old = old} {k = k} p spare h f w s = record { wrote = wrote_none k old (omega (arith, h.room)); short = omega arith; from = f; within = w; room = h.room }

-- where what is read ends: its words stand before what is left
pub ends_at : (ws : List ℕ) (at next : ℕ) (u r : List ℕ) → at ≤ length ws → next ≤ length ws → drop at ws ≡ u ++ r → r ≡ drop next ws → next ≡ at + length u
ends_at ws at next u r h l e d = omega (arith, ap length e, length-drop at ws, length-append u r, ap length d, length-drop next ws)

module _ {ws old t new : List ℕ} {at k p spare j : ℕ} (s : Stage ws at k old t p spare new j) where
  -- a piece of no more than n bytes fits
  pub fits : (n u : ℕ) → u ≤ n → n ≤ spare → j + u ≤ length new
  fits n u l h = omega (arith, s.short, s.within, s.from, s.room, keeps s.wrote)

  pub piece : {u new' : List ℕ} {j' : ℕ} (n left : ℕ) → Wrote u j new new' j' → length u ≤ n → n + left ≤ spare → Stage ws at k old (t ++ u) p left new' j'
  piece n left w l h = record { wrote = then-wrote s.wrote w; short = omega (arith, s.short, w.ends); from = s.from; within = s.within; room = s.room }

  -- what is read at the next word can be written
  pub ready : {A : Type 0} (g : Got A) → is_ok g ≡ true → length ws ≤ 2048 → Ready g ws p j (length new)
  ready g o f = record { fine = o; inside = s.within; few = f; room = omega (arith, s.short, s.within, s.from, s.room, keeps s.wrote) }

  pub part : {A : Type 0} {g : Got A} {write text : A → List ℕ} {new' : List ℕ} {next end : ℕ} → Put g write text ws p j new new' next end → (x : A) (r : List ℕ) → g ≡ ok x r → Stage ws at k old (t ++ text x) next spare new' end
  part q x r e = record { wrote = then-wrote s.wrote (q.is x r e).1.1; short = omega (arith, s.short, s.from, q.short, q.from); from = omega (arith, s.from, q.from); within = q.within; room = s.room }

  -- words that have no text
  pub further : (p' : ℕ) → p ≤ p' → p' ≤ length ws → Stage ws at k old t p' spare new j
  further p' f w = record { wrote = s.wrote; short = omega (arith, s.short, s.from); from = omega (arith, s.from); within = w; room = s.room }

  -- what was read ends here, and this is its text
  pub put : {A : Type 0} {g : Got A} {write text : A → List ℕ} (x : A) {r : List ℕ} → g ≡ ok x r → r ≡ drop p ws → drop at ws ≡ write x ++ r → at ≤ length ws → t ≡ text x → Put g write text ws at k old new p j
  put {A} {g} {write} {text} x {r} e d w i u =
      record { is = same; from = s.from; within = s.within; short = omega (arith, s.short) }
    where
      same : (y : A) (q : List ℕ) → g ≡ ok y q → (q ≡ drop p ws) × ((p ≡ at + length (write y)) × Wrote (text y) k old new j)
      same y q f =
          let a : x ≡ y = cc in
          let b : r ≡ q = cc in
          (sym b ∙ d, (rw (← a) (ends_at ws at p (write x) r i s.within w d), rw (← a, ← u) s.wrote))
