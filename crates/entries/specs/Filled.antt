-- The lists as flat words, as the check call leaves them: the words of the entries, and then what was there.
use Rattle.std.specs.Prelude.{ℕ, suc, length, drop, Option, None, Some}
use mathlib.Core.List.{List, [], ◌∷◌, ◌++◌, flat_map}
use Rattle.scope.specs.Graph.{Scope, scope, name, Entry, entry, Carried, carried}
use Rattle.semantics.specs.Log.{Answer, found, missing, Write, write, Finding}
use Rattle.finding.specs.Flat.{finding_words}

-- a list that begins with these words, and "entries past a count are untouched"
unfoldable pub filled : List ℕ → List ℕ → List ℕ
filled old ws = ws ++ drop (length ws) old

-- "parent + 1 or 0"
abbrev pub parent_word : Option ℕ → ℕ
parent_word None = 0
parent_word (Some p) = suc p

-- "1 if it replaced one, the variable replaced or 0"
abbrev pub replaced_flag : Option ℕ → ℕ
replaced_flag None = 0
replaced_flag (Some v) = 1

abbrev pub replaced_word : Option ℕ → ℕ
replaced_word None = 0
replaced_word (Some v) = v

-- "1 found or 0 unresolved, variable, kind, via_projection; zeros where unresolved"
abbrev pub answer_words : Answer → List ℕ
answer_words (found v k via) = 1 ∷ v ∷ k ∷ via ∷ []
answer_words missing = 0 ∷ 0 ∷ 0 ∷ 0 ∷ []

unfoldable pub scope_words : Scope → List ℕ
scope_words (scope k p a b) = k ∷ parent_word p ∷ a ∷ b ∷ []

-- of a name the word in its place, and the mark as the entry's last word (document 02, CR 5)
unfoldable pub binding_words : Entry → List ℕ
binding_words (entry s (name m x) v k r) = s ∷ x ∷ v ∷ k ∷ replaced_flag r ∷ replaced_word r ∷ m ∷ []

unfoldable pub carried_words : Carried → List ℕ
carried_words (carried b (name m x) v) = b ∷ x ∷ v ∷ m ∷ []

abbrev pub recorded_width : ℕ
recorded_width = 5

unfoldable pub recorded_words : Write → List ℕ
recorded_words (write i a) = i ∷ answer_words a

-- each list with its entries
unfoldable pub with_scopes : List ℕ → List Scope → List ℕ
with_scopes old l = filled old (flat_map scope_words l)

unfoldable pub with_bindings : List ℕ → List Entry → List ℕ
with_bindings old l = filled old (flat_map binding_words l)

unfoldable pub with_carried : List ℕ → List Carried → List ℕ
with_carried old l = filled old (flat_map carried_words l)

unfoldable pub with_recorded : List ℕ → List Write → List ℕ
with_recorded old l = filled old (flat_map recorded_words l)

unfoldable pub with_findings : List ℕ → List Finding → List ℕ
with_findings old l = filled old (flat_map finding_words l)
