-- Demand 3 for sheets: equal sections hold equal tables, since a section that is read to its end is read in one way; and equal words
-- are of equal sort keys, clauses and arms, since what is written reads back. So the statements agree, and `apart` compares them.
use Prim.Native.Nat.{ℕ}
use mathlib.Core.Path.{◌≡◌, refl}
use mathlib.Core.Bool.{Bool}
use mathlib.Core.List.{List, [], ◌∷◌, ◌++◌}
use Rattle.words.specs.Words.{words}
use Rattle.heads.specs.Got.{ok, word_in, many}
use Rattle.clauses.specs.Tree.{with', arm}
use Rattle.clauses.specs.Well.{Each, WellMany, WellKeys, WellClause, WellArm}
use Rattle.clauses.proofs.ReadsBackClause.{many-once}
use Rattle.clauses.proofs.ErasedClause.{erase-keys-words, erase-clauses-words, erase-arms-words}
use Rattle.tables.specs.Name.{read_name}
use Rattle.tables.specs.Row.{read_row}
use Rattle.sheet.specs.Trailer.{places_of}
use Rattle.sheet.specs.Statement.{Statement}
use Rattle.sheet.specs.Read.{accepted, read_sheet}
use Rattle.sheet.specs.Write.{bytes_of}
use Rattle.theorems.specs.Site.{Cut, Site, in_head, in_arm, cut_of, Stands, later_arms, new_root, whole}
use Rattle.theorems.specs.With.{Agree, Same}
use Rattle.theorems.specs.Sheets.{names_section, bindings_section, key_words, later_clause_words, later_arm_words, AgreeSheets}
use Rattle.sheet.proofs.Accepted.{accepted-words}
use Rattle.sheet.proofs.NameBytes.{names-told}
use Rattle.theorems.proofs.Apart.{apart}

-- what holds of every one holds of those after one
each_after : {A : Type 0} (P : A → Type 0) (xs : List A) (y : A) (ys : List A) → Each P (xs ++ y ∷ ys) → P y × Each P ys
unfolding Each
each_after P [] y ys h = h
each_after P (x ∷ xs) y ys h = each_after P xs y ys h.1

-- a WITH's sort keys, and the part after it, are as well-formed as the statement
cut-well : (w : ℕ) (c : Cut) → Each (WellClause w) (whole c) → WellKeys w c.keys × Each (WellClause w) c.after
unfolding whole WellClause
cut-well w c h = let x = each_after (WellClause w) c.before (with' c.start c.stop c.projections c.filter c.keys) c.after h in (x.0.5, x.1)

later-well : (w : ℕ) (st : Statement) (p : Site) → Stands st p → Each (WellClause w) st.head → Each (WellArm w) st.arms →
    WellKeys w (cut_of p).keys × Each (WellClause w) (cut_of p).after × Each (WellArm w) (later_arms st p)
unfolding WellArm WellMany
later-well w st (in_head c) q h g = let x = cut-well w c (rw q at h) in (x.0, x.1, g)
later-well w st (in_arm e a b c l) q h g =
    let x = each_after (WellArm w) e (arm a b (whole c)) l (rw q at g) in
    let y = cut-well w c x.0.1.1 in
    (y.0, y.1, x.1)

-- each table is what its section's words give
module _ (s : List ℕ) (st : Statement) (e : read_sheet s ≡ accepted st) where
  names-given : many read_name (places_of (words s)).names (bytes_of (names_section s)) ≡ ok st.names []
  unfolding names_section
  names-given = names-told (places_of (words s)).names (places_of (words s)).rows s st.names (accepted-words s st e).2.names_read

  rows-given : many (read_row (places_of (words s)).names) (places_of (words s)).bindings (bindings_section s) ≡ ok st.bindings []
  unfolding bindings_section
  rows-given = (accepted-words s st e).2.rows_read

module _ {warns : Bool} {s₁ s₂ : List ℕ} {st₁ st₂ : Statement} {p₁ p₂ : Site} (h : AgreeSheets warns s₁ s₂ st₁ st₂ p₁ p₂) where
  -- as many names, and the same
  names-eq : ((places_of (words s₁)).names ≡ (places_of (words s₂)).names) × (st₁.names ≡ st₂.names)
  unfolding read_name
  names-eq = many-once read_name refl _ _ _ _ _ (names-given s₁ st₁ h.reads₁) (rw h.names (names-given s₂ st₂ h.reads₂))

  rows_eq : st₁.bindings ≡ st₂.bindings
  unfolding read_row word_in
  rows_eq =
      let first = rw (names-eq.0, h.table) at (rows-given s₁ st₁ h.reads₁) in
      (many-once (read_row (places_of (words s₂)).names) refl _ _ (bindings_section s₂) _ _ first (rows-given s₂ st₂ h.reads₂)).1

  agree : Agree warns st₁ st₂ p₁ p₂
  unfolding key_words later_clause_words later_arm_words
  agree =
      let w = (places_of (words s₁)).names in
      let x = (accepted-words s₁ st₁ h.reads₁).1 in
      let y = (accepted-words s₂ st₂ h.reads₂).1 in
      let u = later-well w st₁ p₁ h.stands₁ x.head_well x.arms_well in
      let v = later-well w st₂ p₂ h.stands₂ (rw names-eq.0 y.head_well) (rw names-eq.0 y.arms_well) in
      record {
        stands₁ = h.stands₁;
        stands₂ = h.stands₂;
        sort = h.sort;
        names = names-eq.1;
        table = rows_eq;
        carried = h.carried;
        keys = erase-keys-words w _ _ u.0 v.0 h.keys;
        clauses = erase-clauses-words w _ _ u.1 v.1 h.clauses;
        arms = erase-arms-words w _ _ u.2 v.2 h.arms;
      }

  -- Before and after a WITH, of two sheets.
  pub apart-sheets : Same warns st₁ st₂ p₁ p₂ (new_root warns st₁ p₁) (new_root warns st₂ p₂)
  apart-sheets = apart warns st₁ st₂ p₁ p₂ agree
