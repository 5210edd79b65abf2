-- How long a listing is at most, where the first i of its lines are measured: so much is room enough.
use Prim.Native.Nat.{ℕ, zero, suc, ◌+◌, ◌-◌, ◌*◌, ◌<◌, ◌≤◌}
use native.Mathlib.Nat.{zero-add, suc-add, suc-mul, mul-le-mul}
use native.Mathlib.Omega.{arith}
use mathlib.Core.Path.{◌≡◌, ap, ◌∙◌}
use mathlib.Core.Bool.{Bool, true, false, cond}
use mathlib.Core.List.{List, flat_map}
use Rattle.std.specs.Prelude.{Some, eqb}
use lib.ListN.{length, get_or, length-append, length-take, length-drop}
use Rattle.words.specs.Decimal.{width}
use Rattle.words.proofs.Digits.{width-le, length-decimal}
use Rattle.scope.specs.Graph.{generated}
use Rattle.semantics.specs.Log.{e1002, finding, cited}
use Rattle.tables.specs.VarName.{var_name}
use Rattle.finding.specs.declared.Finding.{Finding}
use Rattle.finding.specs.Flat.{cited_by}
use Rattle.finding.specs.Records.{finding_by}
use Rattle.finding.specs.Logged.{shadow_code, logged}
use Rattle.lines.specs.Lines.{name_of, line_for, line, old_line}
use Rattle.lines.specs.Given.{texts_of, word_of, nth, findings_in, first, text_of}
use Rattle.lines.specs.declared.names.Names.{Names}
use Rattle.lines.specs.declared.found.Found.{Found}
use Rattle.lines.proofs.Sizes.{Small, line-most, shadow-most, cited-short, generated-short, old-short, listed-long}
use Rattle.lines.proofs.Told.{told, told_more, length-findings}

next : (d most a b c z : ℕ) → c ≡ a + b → a ≤ z + d * most → b ≤ most → c ≤ z + suc d * most
next d most a b c z e h g = rw suc-mul (omega arith)

one_less : (n i most : ℕ) → i < n → (n - i) * most ≡ most + (n - (i + 1)) * most
one_less n i most h = let e : n - i ≡ suc (n - (i + 1)) = omega arith in rw (e, suc-mul) (omega arith)

module _ (names : Names) (found : Found) where
  abbrev n : ℕ
  n = found.count

  -- the most that a line may have
  abbrev pub most : ℕ
  most = 167 + length names.section.now

  -- the first i lines and the last as they are, and each other one with the most that it may have
  abbrev pub needed : ℕ → ℕ
  needed i = 10 + width n + length (old_line found.olds) + length (told names found i) + (n - i) * most

  pub needed-first : 10 + width n + length (old_line found.olds) + n * most ≡ needed 0
  unfolding findings_in flat_map
  needed-first = let e : n - 0 ≡ n = omega arith in rw e (omega arith)

  pub first-small : Small found.olds → 10 + width n + length (old_line found.olds) + n * most ≤ 17119274
  first-small h = let bound : n * most ≤ 2048 * 8359 = mul-le-mul {m₂ = 8359} found.few (omega (arith, names.short)) in omega (arith, width-le n (omega (arith, found.few)), old-short found.olds h, bound)

  pub needed-one : (i : ℕ) → i < n → most ≤ needed i
  needed-one i h = omega (arith, one_less n i most h)

  pub needed-next : (i b : ℕ) → i < n → length (told names found (i + 1)) ≡ length (told names found i) + b → needed i - most + b ≡ needed (i + 1)
  needed-next i b h e = omega (arith, one_less n i most h, e)

  pub listed-told : length (text_of names found) ≡ 10 + width n + length (told names found n) + length (old_line found.olds)
  listed-told = omega (arith, listed-long (texts_of names) (first found n) found.olds, ap width (length-findings found n))

  pub needed-last : needed n ≡ length (text_of names found)
  needed-last = let e : n - n ≡ 0 = omega arith in rw e (omega (arith, listed-told))

  -- a line of the six words of a finding: of a generated name it is short
  line-logged : (code a b c d e : ℕ) → Small code → Small a → Small b → Small c → length (line (texts_of names) (logged code a b c d e)) ≤ most
  unfolding line
  line-logged code a b c d e h i j k = go (eqb code shadow_code)
    where
      go : (t : Bool) → length (line (texts_of names) (cond t (finding e1002 b c (Some (generated a)) 0 0) (finding code a b (cited c) d e))) ≤ most
      go true = omega (arith, shadow-most b c (var_name a) j k, generated-short a i)
      go false = omega (arith, line-most code a b d e (name_of (texts_of names) (cited c)) h i j, cited-short names.section.now names.places.now c)

  line-within : (i : ℕ) → length (line (texts_of names) (nth found i)) ≤ most
  line-within i =
      let w = word_of found.front found.words.now i in
      let l = found.words.now in
      line-logged (get_or l w 0) (get_or l (w + 1) 0) (get_or l (w + 2) 0) (get_or l (w + 3) 0) (get_or l (w + 4) 0) (get_or l (w + 5) 0) (found.small w) (found.small (w + 1)) (found.small (w + 2)) (found.small (w + 3))

  pub line-fits : (i : ℕ) (f : Finding) {x : List ℕ} → finding_by f ≡ nth found i → x ≡ name_of (texts_of names) (cited_by f.mark f.name) → length (line_for f.code f.start f.end f.one f.two x) ≤ most
  unfolding line
  line-fits i f e h =
      let same : length (line_for f.code f.start f.end f.one f.two (name_of (texts_of names) (cited_by f.mark f.name))) ≡ length (line (texts_of names) (nth found i)) = ap (λ g. length (line (texts_of names) g)) e in
      rw h (omega (arith, same, line-within i))

  told-most : (i d : ℕ) → length (told names found (d + i)) ≤ length (told names found i) + d * most
  told-most i zero = rw (zero-add i) (omega arith)
  told-most i (suc d) = rw (suc-add d i) (next d most _ _ _ _ (ap length (told_more names found (d + i)) ∙ rw length-append) (told-most i d) (line-within (d + i)))

  pub needed-enough : (i : ℕ) → i ≤ n → length (text_of names found) ≤ needed i
  needed-enough i h =
      let e : n - i + i ≡ n = omega arith in
      let m : length (told names found n) ≤ length (told names found i) + (n - i) * most = rw e at (told-most i (n - i)) in
      omega (arith, listed-told, m)

  pub listed_small : Small found.olds → length (text_of names found) ≤ 17119274
  listed_small h = omega (arith, needed-enough 0 (omega arith), needed-first, first-small h)

-- how long a listing and its parts are
pub ruleset lengths = (listed-told, first-small, length-decimal, length-append, length-take, length-drop)
