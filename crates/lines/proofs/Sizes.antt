-- How long a line and a listing are, and that a line is short, since a number has few digits and a name is a part of its section.
use Prim.Native.Nat.{ℕ, zero, suc, ◌+◌, ◌^◌, ◌<◌, ◌≤◌}
use native.Mathlib.Omega.{arith}
use mathlib.Core.Path.{◌≡◌, refl}
use mathlib.Core.Bool.{Bool, true, false, cond}
use mathlib.Core.List.{List, [], ◌∷◌, ◌++◌, flat_map, map}
use lib.Dec.{leb}
use lib.ListN.{length, get_or, take, drop, length-append, length-take, length-drop}
use Rattle.std.specs.Prelude.{Option, None, Some}
use Rattle.words.specs.Decimal.{width_within, width, decimal}
use Rattle.words.proofs.Digits.{width-le, length-decimal}
use Rattle.tables.specs.Name.{text_at, length_at, name_at}
use Rattle.tables.specs.VarName.{var_name}
use Rattle.semantics.specs.Log.{e1002, Finding, cited}
use Rattle.finding.specs.Flat.{cited_by}
use Rattle.texts.specs.Bytes.{bytes}
use Rattle.texts.specs.Texts.{text_of}
use Rattle.texts.specs.Codes.{unused, text_for}
use Rattle.texts.specs.declared.Text.{Text}
use Rattle.texts.proofs.Short.{text-short}
use Rattle.lines.specs.Lines.{name_of, said_text, front, line_for, line, old_line, listed}

-- a number that a word holds
abbrev pub Small : ℕ → Type 0
Small n = n < 2 ^ 32

pub said-short : (t : Option Text) (x : List ℕ) (two : ℕ) → length (said_text t x two) ≤ length x + 132
said-short (Some t) x two = text-short t x two
said-short None x two = omega arith

module _ (code a b : ℕ) where
  pub front_long : length (front code a b) ≡ 4 + width code + width a + width b
  unfolding front
  front_long = simp length-append (omega (arith, length-decimal code, length-decimal a, length-decimal b))

  module _ (one two : ℕ) (x : List ℕ) where
    pub line-long : length (line_for code a b one two x) ≡ length (front code a b) + length (said_text (text_for code one) x two) + 1
    unfolding line_for
    line-long = simp length-append (omega arith)

    pub line-most : Small code → Small a → Small b → length (line_for code a b one two x) ≤ 167 + length x
    line-most h g f = omega (arith, line-long, front_long, width-le code h, width-le a g, width-le b f, said-short (text_for code one) x two)

-- the line of an E1002
pub shadow-most : (a b : ℕ) (x : List ℕ) → Small a → Small b → length (line_for e1002 a b 0 0 x) ≤ 67 + length x
unfolding text_for unused text_of width width_within
shadow-most a b x h g =
    let said : length (said_text (text_for e1002 0) x 0) ≡ 38 + length x = simp length-append (omega arith) in
    omega (arith, line-long e1002 a b 0 0 x, front_long e1002 a b, width-le a h, width-le b g, said)

-- the line of the expressions 25, and that there is none without them
pub old-none : {n : ℕ} → n ≡ 0 → old_line n ≡ []
unfolding old_line
old-none e = rw e

pub old-some : (n : ℕ) → 0 < n → old_line n ≡ bytes "old exists " ++ (decimal n ++ bytes "\n")
unfolding old_line
old-some zero h = absurd (omega arith)
old-some (suc n) h = refl

pub old-long : (n : ℕ) → 0 < n → length (old_line n) ≡ 12 + width n
old-long n h = rw (old-some n h) (simp length-append (omega (arith, length-decimal n)))

pub old-short : (n : ℕ) → Small n → length (old_line n) ≤ 22
unfolding old_line
old-short zero h = omega arith
old-short (suc n) h = omega (arith, old-long (suc n) (omega arith), width-le (suc n) h)

pub listed-long : (names : List (List ℕ)) (fs : List Finding) (olds : ℕ) →
    length (listed names fs olds) ≡ 10 + width (length fs) + length (flat_map (line names) fs) + length (old_line olds)
unfolding listed
listed-long names fs olds = simp length-append (omega (arith, length-decimal (length fs)))

-- a name of the sheet is no longer than its section
name-short : (s : List ℕ) (p : ℕ) → length (name_at s p) ≤ length s
unfolding name_at text_at
name-short s p = picked (leb (p + 4 + length_at s p) (length s))
  where
    picked : (b : Bool) → length (cond b (take (length_at s p) (drop (p + 4) s)) []) ≤ length s
    picked true = simp (length-take, length-drop) (omega arith)
    picked false = omega arith

listed-short : (s places : List ℕ) (i : ℕ) → length (get_or (map (name_at s) places) i []) ≤ length s
listed-short s [] i = omega arith
listed-short s (p ∷ places) zero = name-short s p
listed-short s (p ∷ places) (suc i) = listed-short s places i

pub cited-short : (s places : List ℕ) (word : ℕ) → length (name_of (map (name_at s) places) (cited word)) ≤ length s
cited-short s places zero = omega arith
cited-short s places (suc i) = listed-short s places i

-- a generated one has no more digits than a word
pub generated-short : (v : ℕ) → Small v → length (var_name v) ≤ 15
unfolding var_name
generated-short v h = omega (arith, length-decimal v, width-le v h)

-- so each is short
pub name-most : (s places : List ℕ) (mark word : ℕ) → Small word → length s ≤ 8192 → length (name_of (map (name_at s) places) (cited_by mark word)) ≤ 8192
name-most s places zero word h g = omega (arith, cited-short s places word)
name-most s places (suc m) v h g = omega (arith, generated-short v h)

-- how long the parts of a listing are
pub ruleset sizes = (front_long, line-long, length-decimal, length-append, length-take, length-drop)

-- that a sum of them is small
pub ruleset widths = (front_long, line-long, width-le, said-short)
