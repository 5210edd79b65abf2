-- From the text to the page: 12 where it is too short, and else the text at its front.
use Prim.Native.Nat.{ℕ, ◌+◌, ◌<◌, ◌≤◌}
use native.Mathlib.Omega.{arith}
use mathlib.Core.Path.{◌≡◌, refl, ap}
use mathlib.Core.List.{List, ◌++◌}
use lib.ListN.{length, take, drop}
use lib.Seq.{take_at}
use borrow.Author.Tests.{le-leb, lt-leb}
use Rattle.words.specs.Front.{put_front}
use Rattle.expr.proofs.Inverse.{never}
use Rattle.sheet.specs.Read.{Sheet, accepted, refused}
use Rattle.condition.specs.Cond.{Cond}
use Rattle.condition_text.specs.Write.{Wrote}
use Rattle.condition_printer.specs.Page.{page_of, conditions_as, page_as, conds_in}

-- what a call answers and leaves
abbrev pub Shows : Sheet (List Cond) → List ℕ → List ℕ → Sheet ℕ → Type 0
Shows x page page' r = (r ≡ conditions_as x (length page)) × (page' ≡ page_as x page)

pub shown-refused : (x : Sheet (List Cond)) (page : List ℕ) {c : ℕ} → x ≡ refused c → Shows x page page (refused c)
unfolding conditions_as page_as
shown-refused x page e = rw e (refl, refl)

-- the text at the front of what it was written to
pub front-text : {t old new : List ℕ} {n : ℕ} → Wrote t 0 old new n → take n new ≡ t
front-text {t} {old} {new} {n} w = let e : n ≡ length t = omega (arith, w.ends) in rw (w.wrote, e) (take_at t (drop (0 + length t) old) (length t) refl)

module _ (page : List ℕ) {cs : List Cond} {old text : List ℕ} {n : ℕ} where
  pub shown-short : (x : Sheet (List Cond)) → x ≡ accepted cs → Wrote (page_of (conds_in x)) 0 old text n → length page < n → Shows x page page (refused 12)
  unfolding conditions_as page_as put_front
  shown-short (accepted ds) e w h = let l = lt-leb (length (page_of ds)) (length page) (omega (arith, w.ends)) in (rw l, rw l)
  shown-short (refused c) e w h = never (cc)

  pub shown-fits : (x : Sheet (List Cond)) {page' : List ℕ} → x ≡ accepted cs → Wrote (page_of (conds_in x)) 0 old text n → n ≤ length page → page' ≡ take n text ++ drop n page → Shows x page page' (accepted n)
  unfolding conditions_as page_as put_front
  shown-fits (accepted ds) e w h u =
      let l = le-leb (length (page_of ds)) (length page) (omega (arith, w.ends)) in
      let k : n ≡ length (page_of ds) = omega (arith, w.ends) in
      (rw l (ap (λ (m : ℕ). accepted m) k), rw l (rw (front-text w, k) at u))
  shown-fits (refused c) e w h u = never (cc)
