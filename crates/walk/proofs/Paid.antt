-- What is read pays for what is done: a head has as many words as its act costs and its name is in range (`form-paid`), a part as
-- many as its path costs (`part-paid`), an element three (`elem-paid`); a mark counts few expressions (`mark-few`).
use Rattle.std.specs.Prelude.{Option, None, Some}
use Prim.Native.Nat.{ℕ, ◌+◌, ◌<◌, ◌≤◌}
use native.Mathlib.Omega.{arith}
use mathlib.Core.Bool.{Bool, true, false, cond}
use lib.Dec.{eqb}
use mathlib.Core.Path.{◌≡◌, ap}
use mathlib.Core.List.{List, [], ◌∷◌, ◌++◌}
use lib.ListN.{length, drop, length-append, length-drop}
use Rattle.heads.specs.Got.{ok, word_in}
use Rattle.heads.specs.Answer.{Ans}
use Rattle.heads.specs.Form.{read_form, form_words}
use Rattle.heads.specs.Head.{read_part, read_elem, mark_low, mark_high, mark_kids}
use Rattle.heads.specs.declared.Form.{Form}
use Rattle.heads.specs.declared.Form.TheVariants.{Leaf, Var, Unresolved, Prop, Two, Slice, Many, BinOp, UnaryOp, Case, IsNull, PatternPredicate, ListComprehension, PatternComprehension, ListPredicate, MapProjection}
use Rattle.heads.specs.declared.Part.{Part}
use Rattle.heads.specs.declared.Elem.{Elem}
use Rattle.expr.specs.Well.{WellForm}
use Rattle.expr.specs.Write.{maybe_words}
use Rattle.expr.proofs.Inverse.{word-gives}
use Rattle.expr.proofs.Heads.{form-gives, part_gives, elem-gives}
use Rattle.steps.specs.Hold.{cost_of, Named}
use Rattle.walk.specs.Goes.{path_cost}

-- the words from at to p are l
passed : (ws l : List ℕ) (at p : ℕ) → drop at ws ≡ l ++ drop p ws → at ≤ p → p ≤ length ws → length l + at ≤ p
passed ws l at p e h w =
    let z = ap length e in
    omega (arith, simp (length-append, length-drop) at z)

worth : (f : Form) → cost_of f ≤ length (form_words f)
unfolding form_words
worth (Leaf k) = omega arith
worth (Var v) = omega arith
worth (Unresolved x) = omega arith
worth (Prop x) = omega arith
worth (Two k) = omega arith
worth (Slice b) = omega arith
worth (Many k n) = omega arith
worth (BinOp o) = omega arith
worth (UnaryOp o) = omega arith
worth (Case b n) = omega arith
worth IsNull = omega arith
worth PatternPredicate = omega arith
worth (ListComprehension g) = omega arith
worth (PatternComprehension a b g) = omega arith
worth (ListPredicate g) = omega arith
worth (MapProjection n) = omega arith

named : (names : ℕ) (f : Form) → WellForm names f → Named names f
named names (Leaf k) h = tt
named names (Var v) h = tt
named names (Unresolved x) h = h
named names (Prop x) h = tt
named names (Two k) h = tt
named names (Slice b) h = tt
named names (Many k n) h = tt
named names (BinOp o) h = tt
named names (UnaryOp o) h = tt
named names (Case b n) h = tt
named names IsNull h = tt
named names PatternPredicate h = tt
named names (ListComprehension g) h = tt
named names (PatternComprehension a b g) h = tt
named names (ListPredicate g) h = tt
named names (MapProjection n) h = tt

module _ (ws : List ℕ) (at p : ℕ) where
  pub form-paid : (names : ℕ) (f : Form) → Ans ws at (read_form names (drop at ws)) (ok f (drop p ws)) p → (cost_of f + at ≤ p) × Named names f
  form-paid names f a =
      let g = (form-gives names (drop at ws)).given f (drop p ws) a.same in
      (omega (arith, worth f, passed ws (form_words f) at p g.0 a.from a.within), named names f g.1)

  pub part-paid : (h : Part) → Ans ws at (read_part (drop at ws)) (ok h (drop p ws)) p → (path_cost h.path + at ≤ p) × (at < p)
  unfolding maybe_words
  part-paid h a = path-paid h.path ((part_gives (drop at ws)).given h (drop p ws) a.same).0
    where
      path-paid : (x : Option ℕ) → drop at ws ≡ maybe_words x ++ h.count ∷ drop p ws → (path_cost x + at ≤ p) × (at < p)
      path-paid (Some v) g = let z = passed ws (1 ∷ v ∷ h.count ∷ []) at p g a.from a.within in (omega (arith, z), omega (arith, z))
      path-paid None g = let z = passed ws (0 ∷ h.count ∷ []) at p g a.from a.within in (omega (arith, z), omega (arith, z))

  pub elem-paid : (h : Elem) → Ans ws at (read_elem (drop at ws)) (ok h (drop p ws)) p → (3 + at ≤ p) × (h.property < 2) × (h.kind < 4294967295)
  elem-paid h a =
      let g = (elem-gives (drop at ws)).given h (drop p ws) a.same in
      let z = ap length g.0 in
      let b = a.from in
      let w = a.within in
      (omega (arith, simp (length-append, length-drop) at z), g.4, omega (arith, g.1.1))

  -- a mark counts few expressions
  pub mark-few : (kind w : ℕ) → word_in (mark_low kind) (mark_high kind) (drop at ws) ≡ ok w (drop p ws) → mark_kids kind w ≤ 2
  mark-few kind w e = few kind w ((word-gives (mark_low kind) (mark_high kind) (drop at ws)).given w (drop p ws) e).2
    where
      bound : (w : ℕ) (z o one two : Bool) → w < cond z 2 (cond o 4 3) → cond z w (cond o (cond one 2 (cond two 0 1)) (cond one 1 0)) ≤ 2
      bound w true o one two h = omega arith
      bound w false true true two h = omega arith
      bound w false true false true h = omega arith
      bound w false true false false h = omega arith
      bound w false false true two h = omega arith
      bound w false false false two h = omega arith

      few : (kind w : ℕ) → w < mark_high kind → mark_kids kind w ≤ 2
      few kind w h = bound w (eqb kind 0) (eqb kind 1) (eqb w 1) (eqb w 2) h
