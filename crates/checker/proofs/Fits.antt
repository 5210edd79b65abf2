-- Cause 8, tested and defined.
--     fits_by     what the code looks at is what the definition does: scopes, recorded uses and findings never need more than an entry a word
--     Long, long  lists that fit, by their lengths
use Prim.Native.Nat.{ℕ, zero, suc, ◌*◌, ◌/◌, ◌≤◌}
use native.Mathlib.Nat.{le-div_iff_mul-le}
use native.Mathlib.Omega.{arith}
use mathlib.Core.Path.{◌≡◌, refl}
use mathlib.Core.Bool.{Bool, true, false, ◌&&◌}
use mathlib.Core.List.{List}
use borrow.Author.Tests.{leb-true, le-leb}
use lib.Dec.{leb}
use lib.ListN.{length}
use Rattle.words.specs.Words.{words}
use Rattle.expr.proofs.Inverse.{never}
use Rattle.sheet.specs.Statement.{Statement}
use Rattle.sheet.specs.Read.{accepted, read_sheet}
use Rattle.sheet.proofs.Placing.{both}
use Rattle.semantics.specs.Lists.{bindings, carried_list}
use Rattle.theorems.proofs.Sizes as sizes
use Rattle.scope.specs.Flat.{scope_width, binding_width, carried_width}
use Rattle.finding.specs.Flat.{finding_width}
use Rattle.entries.specs.Filled.{recorded_width}
use Rattle.checker.specs.Room.{enough}
use Rattle.checker.specs.Checked.{Lent, roomy, each, counts_of, fits}
use Rattle.checker.specs.Filling.{fitting}
use Rattle.checker.specs.declared.Counts.{Counts}

-- room for n entries by the words that they take, and room for fewer
entries_fit : (n len w : ℕ) → enough n len w ≡ true → n * w ≤ len
unfolding enough
entries_fit n len zero h = never (cc)
entries_fit n len (suc w) h = (le-div_iff_mul-le {k = suc w} (omega arith)).0 (leb-true n (len / suc w) h)

fewer : {m n : ℕ} (len w : ℕ) → m ≤ n → enough n len w ≡ true → enough m len w ≡ true
unfolding enough
fewer len zero l h = never (cc)
fewer {m} {n} len (suc w) l h = let g = leb-true n (len / suc w) h in le-leb m (len / suc w) (omega arith)

-- lists that have room for w entries each
record Roomy (w : ℕ) (l : Lent ℕ) : Type 0 where
  pub scopes : enough w (length l.scopes) scope_width ≡ true
  pub recorded : enough w (length l.recorded) recorded_width ≡ true
  pub findings : enough w (length l.findings) finding_width ≡ true

rooms : (w : ℕ) (l : Lent ℕ) → roomy (each w) l ≡ true → Roomy w l
unfolding roomy each
rooms w l h =
    let a = both (enough w (length l.scopes) scope_width) _ h in
    let b = both (enough w (length l.bindings) binding_width) _ a.1 in
    let c = both (enough w (length l.carried) carried_width) _ b.1 in
    let d = both (enough w (length l.recorded) recorded_width) _ c.1 in
    record { scopes = a.0; recorded = d.0; findings = d.1 }

-- where three of the lists need at most w entries, two are left to look at
module _ (w room : ℕ) (need : Counts) (l : Lent ℕ) (scopes : need.scopes ≤ w) (recorded : need.recorded ≤ w) (findings : need.findings ≤ w) where
  rest-fits : roomy (each w) l ≡ true → leb w room ≡ true → (enough need.bindings (length l.bindings) binding_width && enough need.carried (length l.carried) carried_width) ≡ (roomy need l && leb need.findings room)
  unfolding roomy
  rest-fits h g =
      let r = rooms w l h in
      let f = leb-true w room g in
      let m : leb need.findings room ≡ true = le-leb need.findings room (omega arith) in
      rw (fewer (length l.scopes) scope_width scopes r.scopes, fewer (length l.recorded) recorded_width recorded r.recorded, fewer (length l.findings) finding_width findings r.findings, m)
      (two (enough need.bindings (length l.bindings) binding_width) (enough need.carried (length l.carried) carried_width))
    where
      two : (a b : Bool) → (a && b) ≡ ((a && (b && true)) && true)
      two true true = refl
      two true false = refl
      two false b = refl

  tested : fitting w need.bindings need.carried l room ≡ fits w need l room
  unfolding fits
  tested = go (roomy (each w) l) (leb w room) rest-fits
    where
      go : (a b : Bool) → {x y : Bool} → (a ≡ true → b ≡ true → x ≡ y) → ((a && b) && x) ≡ ((a && b) && y)
      go true true h = h refl refl
      go true false h = refl
      go false b h = refl

pub fits_by : (warns : Bool) (s : List ℕ) (st : Statement) → read_sheet s ≡ accepted st → (l : Lent ℕ) (room : ℕ) {made taken : ℕ} → made ≡ length (bindings warns st) → taken ≡ length (carried_list warns st) → fitting (length (words s)) made taken l room ≡ fits (length (words s)) (counts_of warns st) l room
unfolding counts_of
fits_by warns s st e l room b c = let f = sizes.fits warns s st e in rw (b, c) (tested (length (words s)) room (counts_of warns st) l f.scopes f.recorded f.findings)

pub record Long (w : ℕ) (need : Counts) (l : Lent ℕ) : Type 0 where
  pub scopes : w * scope_width ≤ length l.scopes
  pub bindings : need.bindings * binding_width ≤ length l.bindings
  pub carried : need.carried * carried_width ≤ length l.carried
  pub recorded : w * recorded_width ≤ length l.recorded
  pub findings : w * finding_width ≤ length l.findings

pub long : (w : ℕ) (need : Counts) (l : Lent ℕ) (room : ℕ) → fits w need l room ≡ true → Long w need l
unfolding fits roomy
long w need l room h =
    let a = both (roomy (each w) l && leb w room) _ h in
    let r = rooms w l (both (roomy (each w) l) _ a.0).0 in
    let b = both (enough need.scopes (length l.scopes) scope_width) _ (both (roomy need l) _ a.1).0 in
    let c = both (enough need.bindings (length l.bindings) binding_width) _ b.1 in
    let d = both (enough need.carried (length l.carried) carried_width) _ c.1 in
    record {
      scopes = entries_fit w (length l.scopes) scope_width r.scopes;
      bindings = entries_fit need.bindings (length l.bindings) binding_width c.0;
      carried = entries_fit need.carried (length l.carried) carried_width d.0;
      recorded = entries_fit w (length l.recorded) recorded_width r.recorded;
      findings = entries_fit w (length l.findings) finding_width r.findings;
    }
