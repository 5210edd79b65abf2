-- What a WITH binds, by places and by names: a place has one name. Each place that is visible, once, is each name once (`spread-named`; as many:
-- `length-named`). Pairs of the sheet's names, seen above a list, are seen above its names (`above-named`), and as many of them are first
-- (`firsts-named`). Places stay in range (`spread-below`, `above-below`), and scopes descend alike (`named-descends`).
use Prim.Native.Nat.{ℕ, zero, suc, ◌<◌, ◌≤◌}
use native.Mathlib.Omega.{arith}
use mathlib.Core.Path.{◌≡◌, refl, ap, sym, ◌∙◌}
use mathlib.Core.Bool.{Bool, true, false, cond}
use mathlib.Core.List.{List, [], ◌∷◌}
use lib.Dec.{eqb}
use lib.ListN.{length}
use Rattle.scope.specs.Graph.{Name, name, indexed, same_name}
use Rattle.semantics.specs.Resolve.{hit, Seen, seen, variable_of, binds, Pair, pair, without, once}
use Rattle.rowless.specs.Rowless.{named, places, Sound}
use Rattle.rowless.specs.declared.Rowless.{Rowless}
use Rattle.visible.specs.Visible.{Descends, seen_once}
use Rattle.steps.specs.Named.{name_of, as_named, Below}
use Rattle.steps.proofs.Named.{same-named, binds-named, named-index}
use Rattle.projection_walk.specs.Pairs.{InNames}
use Rattle.with_walk.specs.Binds.{firsts}

-- pairs by their names
abbrev by_names : Rowless → List Pair → List Pair
by_names r [] = []
by_names r (pair n v ∷ ps) = pair (name_of r n) v ∷ by_names r ps

length-names : (r : Rowless) (ps : List Pair) → length (by_names r ps) ≡ length ps
length-names r [] = refl
length-names r (pair n v ∷ ps) = ap suc (length-names r ps)

-- ---- each name once
in_without : (n : ℕ) (x : Name) (ps : List Pair) → InNames n ps → InNames n (without x ps)
unfolding InNames without
in_without n x [] h = tt
in_without n x (pair (name m y) v ∷ ps) h = go (same_name x (name m y)) (in_without n x ps h.1)
  where
    go : (b : Bool) → InNames n (without x ps) → InNames n (cond b (without x ps) (pair (name m y) v ∷ without x ps))
    go true z = z
    go false z = (h.0, z)

in_once : (n : ℕ) (l : List Seen) → Below n l → InNames n (once l)
unfolding InNames Below once
in_once n [] b = tt
in_once n (seen (name m x) h p ∷ l) b = (b.0, in_without n (name m x) (once l) (in_once n l b.1))

once-below : (n c : ℕ) (ps : List Pair) → InNames n ps → Below n (seen_once c ps)
unfolding InNames Below seen_once
once-below n c [] h = tt
once-below n c (pair (name m x) v ∷ ps) h = (h.0, once-below n c ps h.1)

seens-named : (r : Rowless) (c : ℕ) (ps : List Pair) → as_named r (seen_once c ps) ≡ seen_once c (by_names r ps)
unfolding as_named seen_once
seens-named r c [] = refl
seens-named r c (pair n v ∷ ps) = ap (λ (l : List Seen). seen (name_of r n) (hit v 1) c ∷ l) (seens-named r c ps)

module _ {r : Rowless} (s : Sound r) where
  without-named : (x : ℕ) (ps : List Pair) → x < places r → InNames (places r) ps → without (named r x) (by_names r ps) ≡ by_names r (without (indexed x) ps)
  unfolding InNames without same_name
  without-named x [] h i = refl
  without-named x (pair (name zero y) v ∷ ps) h i = rw (same-named s x y h i.0.1) (go (eqb x y) (without-named x ps h i.1))
    where
      go : (b : Bool) → without (named r x) (by_names r ps) ≡ by_names r (without (indexed x) ps) →
          cond b (without (named r x) (by_names r ps)) (pair (named r y) v ∷ without (named r x) (by_names r ps)) ≡ by_names r (cond b (without (indexed x) ps) (pair (name zero y) v ∷ without (indexed x) ps))
      go true z = z
      go false z = ap (λ (qs : List Pair). pair (named r y) v ∷ qs) z
  without-named x (pair (name (suc m) y) v ∷ ps) h i = absurd (omega (arith, i.0.0))

  once-named : (l : List Seen) → Below (places r) l → once (as_named r l) ≡ by_names r (once l)
  unfolding Below as_named once
  once-named [] b = refl
  once-named (seen (name zero x) h p ∷ l) b =
      ap (λ (ps : List Pair). pair (named r x) (variable_of h) ∷ ps) (ap (λ (ps : List Pair). without (named r x) ps) (once-named l b.1) ∙ without-named x (once l) b.0.1 (in_once (places r) l b.1))
  once-named (seen (name (suc m) x) h p ∷ l) b = absurd (omega (arith, b.0.0))

  pub length-named : (l : List Seen) → Below (places r) l → length (once (as_named r l)) ≡ length (once l)
  length-named l b = ap (λ (ps : List Pair). length ps) (once-named l b) ∙ length-names r (once l)

  pub spread-named : (c : ℕ) (l : List Seen) → Below (places r) l → as_named r (seen_once c (once l)) ≡ seen_once c (once (as_named r l))
  spread-named c l b = seens-named r c (once l) ∙ ap (λ (ps : List Pair). seen_once c ps) (sym (once-named l b))

  pub spread-below : (c : ℕ) (l : List Seen) → Below (places r) l → Below (places r) (seen_once c (once l))
  spread-below c l b = once-below (places r) c (once l) (in_once (places r) l b)

-- ---- pairs seen in the scope c, above a list
abbrev pub above : ℕ → List Pair → List Seen → List Seen
above c [] l = l
above c (pair x v ∷ ps) l = above c ps (seen x (hit v 1) c ∷ l)

pub above-below : (n k c : ℕ) (ps : List Pair) (l : List Seen) → k ≤ n → InNames k ps → Below n l → Below n (above c ps l)
unfolding InNames Below
above-below n k c [] l e h b = b
above-below n k c (pair (name m x) v ∷ ps) l e h b = above-below n k c ps (seen (name m x) (hit v 1) c ∷ l) e h.1 ((h.0.0, omega (arith, h.0.1)), b)

pub above-named : (r : Rowless) (c : ℕ) (ps : List Pair) (l : List Seen) → InNames r.listed ps → as_named r (above c ps l) ≡ above c ps (as_named r l)
unfolding InNames as_named
above-named r c [] l h = refl
above-named r c (pair (name zero x) v ∷ ps) l h =
    above-named r c ps (seen (indexed x) (hit v 1) c ∷ l) h.1 ∙ ap (λ (n : Name). above c ps (seen n (hit v 1) c ∷ as_named r l)) (named-index r x h.0.1)
above-named r c (pair (name (suc m) x) v ∷ ps) l h = absurd (omega (arith, h.0.0))

pub firsts-named : {r : Rowless} → Sound r → (c : ℕ) (ps : List Pair) (l : List Seen) → InNames r.listed ps → Below (places r) l → firsts c ps l ≡ firsts c ps (as_named r l)
unfolding InNames Below as_named firsts
firsts-named s c [] l h b = refl
firsts-named {r} s c (pair (name zero x) v ∷ ps) l h b =
    let i : named r x ≡ indexed x = named-index r x h.0.1 in
    let one : binds c (indexed x) l ≡ binds c (indexed x) (as_named r l) = sym (binds-named s c x l (omega (arith, h.0.1)) b) ∙ ap (λ (n : Name). binds c n (as_named r l)) i in
    let rest = firsts-named s c ps (seen (indexed x) (hit v 1) c ∷ l) h.1 ((refl, omega (arith, h.0.1)), b) in
    rw (one, rest, i) refl
firsts-named s c (pair (name (suc m) x) v ∷ ps) l h b = absurd (omega (arith, h.0.0))

-- ---- scopes
pub named-descends : (r : Rowless) (c : ℕ) (l : List Seen) → Descends c l → Descends c (as_named r l)
unfolding Descends as_named
named-descends r c [] d = tt
named-descends r c (seen n h p ∷ l) d = (d.0, named-descends r p l d.1)
