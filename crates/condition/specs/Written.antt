-- The texts that a tree is written as by the levels, spare brackets allowed, blanks only where the printer puts them.
use Rattle.std.specs.Prelude.{ℕ, suc, ◌<◌, ◌≤◌, List, ◌++◌}
use Rattle.condition.specs.Cond.{Cond, atom, unary, binary, binary_level, unary_level, left_level, binary_sign, unary_sign, atom_text, bracketed}

-- in a place whose bare operands have at least this level
pub data Written : ℕ → List ℕ → Cond → Type 0 where
  an-atom : {m : ℕ} (n : ℕ) → n < 2048 → Written m (atom_text n) (atom n)
  a-unary : {m : ℕ} {s : List ℕ} {x : Cond} (o : ℕ) → o < 2 → m ≤ unary_level o → Written (unary_level o) s x → Written m (unary_sign o ++ s) (unary o x)
  a-binary : {m : ℕ} {s u : List ℕ} {l r : Cond} (o : ℕ) → o < 20 → m ≤ binary_level o → Written (left_level o) s l → Written (suc (binary_level o)) u r → Written m (s ++ (binary_sign o ++ u)) (binary o l r)
  in-brackets : {m : ℕ} {s : List ℕ} {t : Cond} → Written 0 s t → Written m (bracketed s) t

-- "a text ... reads": some tree is written so
abbrev pub Reads : List ℕ → Cond → Type 0
Reads s t = Written 0 s t
