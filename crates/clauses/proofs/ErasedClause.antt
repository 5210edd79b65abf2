-- A clause without its spans is as well-formed as the clause: erasing changes no count and no word but a span's, and 0 to 0 is a span.
-- So clauses that differ in no word but a span's are the same without their spans.
use Prim.Native.Nat.{ℕ}
use native.Mathlib.Omega.{arith}
use mathlib.Core.Path.{◌≡◌, refl, sym, ◌∙◌, ap}
use mathlib.Core.List.{List, [], ◌∷◌, ◌++◌, flat_map, map, append-nil}
use lib.ListN.{length-map}
use Rattle.heads.specs.Got.{Got, ok, no, word_in}
use Rattle.expr.specs.Tree.{Exprs, Steps, kid_count, mark_count}
use Rattle.expr.specs.Write.{writes}
use Rattle.expr.specs.Erase.{erases, erase_s}
use Rattle.expr.specs.Well.{WellPattern, Wells}
use Rattle.expr.proofs.Erased.{erase-kids, erase-marks, erase-elems, erase-parts, erase-well, erase-wells, erase-well_s}
use Rattle.clauses.specs.Tree.{Projection, projection, Reading, where', set, remove, delete, Keys, unsorted, sorted, Clause, opening, reading, with', return, unwind, call, Arm, arm, keys_of}
use Rattle.clauses.specs.Read.{max_depth, counted_exprs, read_clause, read_arm}
use Rattle.clauses.specs.Write.{write_clause, write_arm}
use Rattle.clauses.specs.Well.{Each, WellProjection, WellReading, WellMany, WellKeys, WellClause, WellArm}
use Rattle.clauses.specs.Erase.{erase_projection, erase_keys, erase_c, erase_a}
use Rattle.clauses.proofs.ReadsBackClause.{same-many, exprs-back, clause-back, arm_back}

module _ {A : Type 0} (Well : A → Type 0) (erase : A → A) (keeps : (x : A) → Well x → Well (erase x)) where
  pub erase-each : (xs : List A) → Each Well xs → Each Well (map erase xs)
  unfolding Each
  erase-each [] h = tt
  erase-each (x ∷ xs) h = (keeps x h.0, erase-each xs h.1)

  erase-many : (xs : List A) → WellMany Well xs → WellMany Well (map erase xs)
  unfolding WellMany
  erase-many xs h = (omega (arith, length-map xs erase), erase-each xs h.1)

-- lists that differ in no word but a span's are one list without their spans
erase-words : {A : Type 0} (one : List ℕ → Got A) {c : ℕ} → one [] ≡ no c → (write : A → List ℕ) (Well : A → Type 0) →
    ((x : A) (r : List ℕ) → Well x → one (write x ++ r) ≡ ok x r) →
    (erase : A → A) → ((x : A) → Well x → Well (erase x)) →
    (xs ys : List A) → Each Well xs → Each Well ys → flat_map write (map erase xs) ≡ flat_map write (map erase ys) → map erase xs ≡ map erase ys
erase-words one e write Well back erase keeps xs ys h i p =
    same-many one write Well back e _ _ (erase-each Well erase keeps xs h) (erase-each Well erase keeps ys i) p

module _ (names : ℕ) where
  erase-projection : (p : Projection) → WellProjection names p → WellProjection names (erase_projection p)
  unfolding erase_projection WellProjection
  erase-projection (projection a e) h = (h.0, erase-well names e max_depth h.1)

  erase-reading : (r : Reading) (es : Exprs) → WellReading names r es → WellReading names r (erases es)
  unfolding WellReading
  erase-reading where' es h = (erase-kids es ∙ h.0, erase-marks es ∙ h.1, erase-wells names 0 es max_depth h.2)
  erase-reading set es h = (erase-kids es ∙ h.0, rw (erase-marks es) h.1, erase-wells names 1 es max_depth h.2)
  erase-reading remove es h = (erase-kids es ∙ h.0, rw (erase-marks es) h.1, erase-wells names 2 es max_depth h.2)
  erase-reading delete es h = (erase-marks es ∙ h.0, rw (erase-kids es) h.1, erase-wells names 0 es max_depth h.2)

  erase-pattern : (s : Steps) → WellPattern names s max_depth → WellPattern names (erase_s s) max_depth
  unfolding WellPattern
  erase-pattern s h = (rw (erase-elems s, erase-parts s) h.0, erase-well_s names s max_depth h.1)

  erase-keys : (ks : Keys) → WellKeys names ks → WellKeys names (erase_keys ks)
  unfolding erase_keys WellKeys
  erase-keys unsorted h = tt
  erase-keys (sorted es) h = erase-reading delete es h

  -- sort keys are a counted row, an empty one where the clause has none
  well-keys : (ks : Keys) → WellKeys names ks → WellReading names delete (keys_of ks)
  unfolding WellKeys WellReading keys_of kid_count mark_count Wells
  well-keys unsorted h = (refl, omega arith, tt)
  well-keys (sorted es) h = h

  -- the same words are of the same row
  same-exprs : (es fs : Exprs) → WellReading names delete es → WellReading names delete fs → kid_count es ∷ writes es ≡ kid_count fs ∷ writes fs → es ≡ fs
  same-exprs es fs h i p =
      let x : counted_exprs names (kid_count es ∷ writes es) ≡ ok es [] = ap (λ (r : List ℕ). counted_exprs names (kid_count es ∷ r)) (sym (append-nil (writes es))) ∙ exprs-back names es [] h in
      let y : counted_exprs names (kid_count fs ∷ writes fs) ≡ ok fs [] = ap (λ (r : List ℕ). counted_exprs names (kid_count fs ∷ r)) (sym (append-nil (writes fs))) ∙ exprs-back names fs [] i in
      let z : ok es [] ≡ ok fs [] = sym x ∙ ap (counted_exprs names) p ∙ y in
      cc

  pub erase-keys-words : (ks js : Keys) → WellKeys names ks → WellKeys names js →
      kid_count (erases (keys_of ks)) ∷ writes (erases (keys_of ks)) ≡ kid_count (erases (keys_of js)) ∷ writes (erases (keys_of js)) → erases (keys_of ks) ≡ erases (keys_of js)
  erase-keys-words ks js h i =
      same-exprs (erases (keys_of ks)) (erases (keys_of js)) (erase-reading delete (keys_of ks) (well-keys ks h)) (erase-reading delete (keys_of js) (well-keys js i))

  pub erase-clause-well : (c : Clause) → WellClause names c → WellClause names (erase_c c)
  unfolding erase_c WellClause
  erase-clause-well (opening o a b s) h = (omega arith, h.1, erase-pattern s h.2)
  erase-clause-well (reading r a b es) h = (omega arith, erase-reading r es h.1)
  erase-clause-well (with' a b ps f ks) h =
      (omega arith, erase-many (WellProjection names) erase_projection erase-projection ps h.1, rw (erase-kids f) h.2, erase-marks f ∙ h.3, erase-wells names 0 f max_depth h.4, erase-keys ks h.5)
  erase-clause-well (return a b ps ks) h = (omega arith, erase-many (WellProjection names) erase_projection erase-projection ps h.1, erase-keys ks h.2)
  erase-clause-well (unwind a b v e) h = (omega arith, h.1, erase-well names e max_depth h.2)
  erase-clause-well (call a b es ys) h = (omega arith, erase-reading delete es h.1, h.2)

  pub erase-arm-well : (a : Arm) → WellArm names a → WellArm names (erase_a a)
  unfolding erase_a WellArm
  erase-arm-well (arm a b cs) h = (omega arith, erase-many (WellClause names) erase_c erase-clause-well cs h.1)

  pub erase-clauses-words : (cs ds : List Clause) → Each (WellClause names) cs → Each (WellClause names) ds →
      flat_map write_clause (map erase_c cs) ≡ flat_map write_clause (map erase_c ds) → map erase_c cs ≡ map erase_c ds
  unfolding read_clause word_in
  erase-clauses-words = erase-words (read_clause names) refl write_clause (WellClause names) (clause-back names) erase_c erase-clause-well

  pub erase-arms-words : (xs ys : List Arm) → Each (WellArm names) xs → Each (WellArm names) ys →
      flat_map write_arm (map erase_a xs) ≡ flat_map write_arm (map erase_a ys) → map erase_a xs ≡ map erase_a ys
  unfolding read_arm word_in
  erase-arms-words = erase-words (read_arm names) refl write_arm (WellArm names) (arm_back names) erase_a erase-arm-well
