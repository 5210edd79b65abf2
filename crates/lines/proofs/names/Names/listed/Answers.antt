-- The place that is found is that of the name.
use Prim.Native.Nat.{ℕ, zero, suc, ◌<◌, ◌≤◌}
use native.Mathlib.Omega.{arith}
use mathlib.Core.Path.{◌≡◌, refl, ap, sym, ◌∙◌}
use mathlib.Core.List.{List, [], ◌∷◌, map}
use lib.ListN.{length, get_or}
use denote.Bor.{Bor}
use Rattle.std.proofs.Common.{rules}
use Rattle.std.specs.Prelude.{Option, Some, None}
use Rattle.tables.specs.Name.{name_at}
use Rattle.lines.proofs.names.Names.listed.Goals as goal

past : (s places : List ℕ) (i : ℕ) → length places ≤ i → get_or (map (name_at s) places) i [] ≡ []
past s [] i h = refl
past s (p ∷ places) zero h = absurd (omega arith)
past s (p ∷ places) (suc i) h = past s places i (omega arith)

found : (s places : List ℕ) (i p : ℕ) → i < length places → p ≡ get_or places i p → name_at s p ≡ get_or (map (name_at s) places) i []
found s [] i p h e = absurd (omega arith)
found s (q ∷ places) zero p h e = ap (name_at s) e
found s (q ∷ places) (suc i) p h e = found s places i p (omega arith) e

-- an answer by whether a place is found
by : (P : Type 0) (o : Option (Bor ℕ)) → (o ≡ None → P) → ((p : Bor ℕ) → o ≡ Some p → P) → P
by P None n f = n refl
by P (Some p) n f = f p refl

pub returns : goal.returns
returns c =
    let names = c.args.self.now in
    let g = c.get.ensures.lookup in
    let next : c.args.name ≡ suc c.in-Some.i = search rules in
    rw next (by _ c.get.result
    (λ e. let h : length names.places.now ≤ c.in-Some.i = rw e at g.3 in ap (λ (b : Bor (List ℕ)). b.now) (rw e at c.map_or.ensures) ∙ sym (past names.section.now names.places.now c.in-Some.i h))
    (λ p e.
    let g1 = rw e at g.1 in
    let g3 = rw e at g.3 in
    let m = rw e at c.map_or.ensures in
    let told : c.map_or.result.now ≡ name_at names.section.now p.now = search rules in
    told ∙ found names.section.now names.places.now c.in-Some.i p.now g3.0 g1))
