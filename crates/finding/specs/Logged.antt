-- Findings in a log, six words each: those of a list but the mark, where a name is cited by its index. E1002 of a generated name has 6 for its code,
-- the id and the span: no other finding has a generated name.
use Rattle.std.specs.Prelude.{ℕ, zero, suc, ◌+◌, ◌<◌, ◌≤◌, cond, List, [], ◌∷◌, eqb, get_or, Some}
use Rattle.scope.specs.Graph.{name, generated}
use Rattle.scope.specs.Graph as graph
use Rattle.scope.specs.declared.Name.{Name}
use Rattle.semantics.specs.Log.{e1002, Finding, finding, cited}

abbrev pub shadow_code : ℕ
shadow_code = 6

abbrev pub logged : (code a b c d e : ℕ) → Finding
logged code a b c d e = cond (eqb code shadow_code) (finding e1002 b c (Some (generated a)) 0 0) (finding code a b (cited c) d e)

abbrev pub logged_at : List ℕ → ℕ → Finding
logged_at l k = logged (get_or l k 0) (get_or l (k + 1) 0) (get_or l (k + 2) 0) (get_or l (k + 3) 0) (get_or l (k + 4) 0) (get_or l (k + 5) 0)

abbrev pub logged_in : List ℕ → Finding
logged_in words = logged_at words 0

-- E1002 of a name
abbrev pub shadow_words : graph.Name → (start stop : ℕ) → List ℕ
shadow_words (name zero x) a b = e1002 ∷ a ∷ b ∷ suc x ∷ 0 ∷ 0 ∷ []
shadow_words (name (suc m) x) a b = shadow_code ∷ x ∷ a ∷ b ∷ 0 ∷ 0 ∷ []

-- a name that six words can cite: an index whose number + 1 is a word, or a generated one
pub record Cites (n : Name) : Type 0 where
  pub marked : n.mark ≤ 1
  pub indexed : n.mark < 1 → n.word < 4294967295
