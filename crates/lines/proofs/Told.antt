-- The lines of a sheet's findings, one more at a time: each is the line of the record at that place, with the name that it cites.
use Prim.Native.Nat.{ℕ, zero, suc, ◌+◌, ◌-◌, ◌≤◌}
use native.Mathlib.Nat.{zero-add, suc-add}
use native.Mathlib.Numerals.{add-one}
use native.Mathlib.Omega.{arith}
use mathlib.Core.Path.{◌≡◌, refl, ap, sym, ◌∙◌}
use mathlib.Core.List.{List, [], ◌∷◌, ◌++◌, flat_map, append_assoc, append-nil}
use lib.ListN.{length, length-append}
use Rattle.finding.specs.declared.Finding.{Finding}
use Rattle.finding.specs.Flat.{cited_by}
use Rattle.finding.specs.Records.{finding_by}
use Rattle.lines.specs.Lines.{name_of, line_for, line}
use Rattle.lines.specs.Given.{texts_of, nth, findings_in, first}
use Rattle.lines.specs.declared.names.Names.{Names}
use Rattle.lines.specs.declared.found.Found.{Found}

flat_append : {A : Type 0} (f : A → List ℕ) (xs ys : List A) → flat_map f (xs ++ ys) ≡ flat_map f xs ++ flat_map f ys
unfolding flat_map
flat_append f [] ys = refl
flat_append f (x ∷ xs) ys = rw (flat_append f xs ys, append_assoc)

module _ (names : Names) (found : Found) where
  -- the lines of the first n findings
  abbrev pub told : ℕ → List ℕ
  told n = flat_map (line (texts_of names)) (first found n)

  pub told_more : (n : ℕ) → told (suc n) ≡ told n ++ line (texts_of names) (nth found n)
  unfolding findings_in flat_map
  told_more n = flat_append (line (texts_of names)) (first found n) (nth found n ∷ []) ∙ rw append-nil

  told-by : (i d : ℕ) → length (told i) ≤ length (told (d + i))
  told-by i zero = rw (zero-add i) (omega arith)
  told-by i (suc d) = rw (suc-add d i, told_more (d + i), length-append) (omega (arith, told-by i d))

  pub told-within : (i n : ℕ) → i ≤ n → length (told i) ≤ length (told n)
  told-within i n h = let e : n ≡ n - i + i = omega arith in rw e (told-by i (n - i))

  -- one more line, of the record that is read and the name that is found
  pub told-next : (i : ℕ) (f : Finding) {x : List ℕ} → finding_by f ≡ nth found i → x ≡ name_of (texts_of names) (cited_by f.mark f.name) → told (i + 1) ≡ told i ++ line_for f.code f.start f.end f.one f.two x
  unfolding line
  told-next i f e h = rw (add-one i, h) (told_more i ∙ ap (λ g. told i ++ line (texts_of names) g) (sym e))

pub length-findings : (found : Found) (n : ℕ) → length (first found n) ≡ n
unfolding findings_in
length-findings found zero = refl
length-findings found (suc n) = simp length-append (omega (arith, length-findings found n))
