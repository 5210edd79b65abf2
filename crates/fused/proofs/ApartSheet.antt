-- The head and the arms of a sheet: reading and both walks in one is reading, and then the two walks over what was read (`apart-sheet`).
use Prim.Native.Nat.{ℕ, ◌+◌}
use native.Mathlib.Nat.{zero-add}
use mathlib.Core.Path.{◌≡◌, refl, ap, ◌∙◌}
use mathlib.Core.List.{List, [], ◌∷◌}
use Rattle.heads.specs.Got.{Got, ok, no, bind, many}
use Rattle.clauses.specs.Tree.{Clause, Arm}
use Rattle.clauses.specs.Read.{read_clause, read_arm}
use Rattle.clauses.specs.Olds.{olds_cs, olds_as}
use Rattle.sheet.specs.Trailer.{section}
use Rattle.sheet.specs.Read.{Sheet, accepted, refused, then', used_up, read_clauses}
use Rattle.sheet.specs.declared.trailer.Places.{Places}
use Rattle.semantics.specs.World.{World}
use Rattle.semantics.specs.Resolve.{clauses, arms}
use Rattle.semantics.specs.Kinds.{kinds}
use Rattle.fused.specs.Fused.{Both, told}
use Rattle.fused.specs.Sheet.{every_walk, begun, head_go, arms_go, sheet_go}
use Rattle.fused.proofs.ApartClauses.{walks_all, walks_arms, apart-clauses, apart-arms}

-- what the two walks leave of clauses and arms
abbrev pub leaves : World → Places → List Clause × List Arm → Both
leaves w p x = record { names = arms w x.1 (clauses w x.0 (begun p).names); kinds = told (kinds w x.0) []; olds = olds_cs x.0 + olds_as x.1 }

-- a section that is walked is used up where it is read to its end
used-map : {A B : Type 0} (g : Got A) (f : A → B) → used_up (bind g (λ a r. ok (f a) r)) ≡ then' (used_up g) (λ a. accepted (f a))
used-map (ok a []) f = refl
used-map (ok a (v ∷ r)) f = refl
used-map (no c) f = refl

module _ (w : World) where
  head_apart : (names n : ℕ) (s : Both) (r : List ℕ) → head_go w names n s r ≡ then' (used_up (many (read_clause names) n r)) (λ cs. accepted (walks_all w every_walk cs s))
  unfolding head_go
  head_apart names n s r = ap used_up (apart-clauses w names every_walk n s r) ∙ used-map (many (read_clause names) n r) (λ cs. walks_all w every_walk cs s)

  arms-apart : (names n : ℕ) (s : Both) (r : List ℕ) → arms_go w names n s r ≡ then' (used_up (many (read_arm names) n r)) (λ xs. accepted (walks_arms w every_walk xs s))
  unfolding arms_go
  arms-apart names n s r = ap used_up (apart-arms w names every_walk n s r) ∙ used-map (many (read_arm names) n r) (λ xs. walks_arms w every_walk xs s)

  pub apart-sheet : (p : Places) (ws : List ℕ) → sheet_go w p ws ≡ then' (read_clauses ws p) (λ x. accepted (leaves w p x))
  unfolding sheet_go read_clauses
  apart-sheet p ws = ap (λ (h : Sheet Both). then' h later) (head_apart p.names p.clauses (begun p) (section ws p.head p.tail)) ∙ first (used_up (many (read_clause p.names) p.clauses (section ws p.head p.tail)))
    where
      later : Both → Sheet Both
      later s = arms_go w p.names p.arms s (section ws p.tail p.trailer)

      both_of : List Clause → List Arm → Sheet (List Clause × List Arm)
      both_of cs xs = accepted (cs, xs)

      second : (cs : List Clause) (g : Sheet (List Arm)) → then' g (λ xs. accepted (walks_arms w every_walk xs (walks_all w every_walk cs (begun p)))) ≡ then' (then' g (both_of cs)) (λ x. accepted (leaves w p x))
      second cs (accepted xs) = ap accepted (λ i. record { names = (leaves w p (cs, xs)).names; kinds = (leaves w p (cs, xs)).kinds; olds = zero-add (olds_cs cs) i + olds_as xs })
      second cs (refused c) = refl

      first : (g : Sheet (List Clause)) → then' (then' g (λ cs. accepted (walks_all w every_walk cs (begun p)))) later ≡ then' (then' g (λ cs. then' (used_up (many (read_arm p.names) p.arms (section ws p.tail p.trailer))) (both_of cs))) (λ x. accepted (leaves w p x))
      first (accepted cs) =
          arms-apart p.names p.arms (walks_all w every_walk cs (begun p)) (section ws p.tail p.trailer)
          ∙ second cs (used_up (many (read_arm p.names) p.arms (section ws p.tail p.trailer)))
      first (refused c) = refl
