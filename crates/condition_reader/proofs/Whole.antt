-- From passes to the judge, and from the list to the tree.
use Prim.Native.Nat.{ℕ, max, ◌+◌, ◌*◌, ◌^◌, ◌<◌, ◌≤◌}
use native.Mathlib.Omega.{arith}
use mathlib.Core.Path.{◌≡◌, sym, ap, ◌∙◌}
use mathlib.Core.Bool.{Bool, true, false, false≢true}
use mathlib.Core.List.{List, [], ◌++◌}
use lib.ListN.{length, drop, length-append, length-drop}
use Rattle.condition.specs.Cond.{Cond, entries}
use Rattle.condition.specs.Written.{Reads}
use Rattle.condition.specs.Judge.{judge}
use Rattle.condition.specs.Machine.{count_of}
use Rattle.condition.specs.declared.Mode.TheVariants as mode
use Rattle.condition.proofs.Reading.{clean, judged-reads, reads-judged, reads-entries, reads-count}
use Rattle.condition_reader.specs.Window.{window}
use Rattle.condition_reader.specs.Pass.{judge_in, peak, toks_of}
use Rattle.condition_reader.proofs.Passes.{below, judge-every, widen, begin, enough, peak-max}
use Rattle.condition_reader.specs.Fill.{Fillable, Filled}

-- the levels that the passes so far looked at
pub data Passed (s : List ℕ) : ℕ → Type 0 where
  none_yet : Passed s 0
  up_to : {low : ℕ} → judge_in (below low) (toks_of s) mode.Wanted false [] ≡ true → Passed s low

pub next : {s : List ℕ} {low : ℕ} → Passed s low → judge_in (window low) (toks_of s) mode.Wanted false [] ≡ true → Passed s (low + 524288)
next {s} none_yet a = up_to (widen 0 (toks_of s) mode.Wanted false [] (begin (toks_of s) mode.Wanted false [] a) a)
next {s} (up_to {low = low} b) a = up_to (widen low (toks_of s) mode.Wanted false [] b a)

-- the deepest level, from any other on
pub deepest-is : (s : List ℕ) (low : ℕ) → peak (toks_of s) 0 low ≡ max low (peak (toks_of s) 0 0)
deepest-is s low = let e : max low 0 ≡ low = omega arith in ap (λ (x : ℕ). peak (toks_of s) 0 x) (sym e) ∙ peak-max (toks_of s) 0 low 0

pub all-passed : {s : List ℕ} {n : ℕ} → Passed s n → peak (toks_of s) 0 0 < n → judge (toks_of s) mode.Wanted false [] ≡ true
all-passed none_yet h = absurd (omega arith)
all-passed {s} (up_to {low = n} a) h = sym (judge-every (toks_of s) mode.Wanted false []) ∙ enough n (toks_of s) mode.Wanted false [] 0 (omega arith) h a

pub reads : (s : List ℕ) → judge (toks_of s) mode.Wanted false [] ≡ true → (t : Cond) × Reads s t
reads s e = judged-reads s e

pub unread : (s : List ℕ) → judge (toks_of s) mode.Wanted false [] ≡ false → (t : Cond) → Reads s t → ⊥
unread s e t w = let x : ◌≡◌ {A = Bool} false true = sym e ∙ reads-judged w in false≢true x

pub fillable : (s : List ℕ) (n : ℕ) (list : List ℕ) → judge (toks_of s) mode.Wanted false [] ≡ true → n ≡ count_of (toks_of s) → n * 2 ≤ length list → length s * 10 + 20 < 2 ^ 64 → Fillable s n list
fillable s n list e c f k = record { clean = clean (toks_of s) mode.Wanted false [] e; count = c; fits = f; short = k }

pub filled : (s : List ℕ) (n : ℕ) (old new : List ℕ) → judge (toks_of s) mode.Wanted false [] ≡ true → n ≡ count_of (toks_of s) → n * 2 ≤ length old → Filled s n old new → (t : Cond) × (Reads s t × ((length (entries t) ≡ n * 2) × (new ≡ entries t ++ drop (n * 2) old)))
filled s n old new e c f x =
    let r = reads s e in
    let t = r.0 in
    let m = reads-entries (drop (n * 2) old) r.1 in
    let k : length (entries t) ≡ n * 2 = reads-count r.1 ∙ ap (λ (i : ℕ). i * 2) (sym c) in
    let g : drop x.at new ≡ entries t ++ drop (n * 2) old = x.same ∙ m in
    let z : x.at ≡ 0 = omega (arith, ap length g, length-drop x.at new, length-append (entries t) (drop (n * 2) old), length-drop (n * 2) old, x.size, x.within) in
    (t, (r.1, (k, rw z at g)))
