-- A lent list is flat words, so many to an entry; the first n entries are in use. A name's mark is the last word of its entry (document 02, CR 5).
use Rattle.std.specs.Prelude.{ℕ, zero, suc, ◌/◌, cond, List, [], ◌∷◌, eqb, length, get_or, drop, Option, None, Some}
use Rattle.scope.specs.Graph.{Scope, scope, name, Entry, entry, Carried, carried}

abbrev pub scope_width : ℕ
scope_width = 4

abbrev pub binding_width : ℕ
binding_width = 7

abbrev pub carried_width : ℕ
carried_width = 4

-- "entries" of a flat list
abbrev pub room : ℕ → List ℕ → ℕ
room width ws = length ws / width

-- n entries of a width, each made by `one` from the words that begin with it
unfoldable pub entries_of : {A : Type 0} → ℕ → (List ℕ → A) → ℕ → List ℕ → List A
entries_of width one zero ws = []
entries_of width one (suc n) ws = one ws ∷ entries_of width one n (drop width ws)

-- "parent + 1 or 0"
abbrev pub parent_of : ℕ → Option ℕ
parent_of zero = None
parent_of (suc p) = Some p

-- "1 if it replaced one, the variable replaced or 0"
abbrev pub replaced_of : ℕ → ℕ → Option ℕ
replaced_of flag v = cond (eqb flag 0) None (Some v)

abbrev pub scope_of : List ℕ → Scope
scope_of ws = scope (get_or ws 0 0) (parent_of (get_or ws 1 0)) (get_or ws 2 0) (get_or ws 3 0)

abbrev pub binding_of : List ℕ → Entry
binding_of ws = entry (get_or ws 0 0) (name (get_or ws 6 0) (get_or ws 1 0)) (get_or ws 2 0) (get_or ws 3 0) (replaced_of (get_or ws 4 0) (get_or ws 5 0))

abbrev pub carried_of : List ℕ → Carried
carried_of ws = carried (get_or ws 0 0) (name (get_or ws 3 0) (get_or ws 1 0)) (get_or ws 2 0)

abbrev pub scopes_of : ℕ → List ℕ → List Scope
scopes_of = entries_of scope_width scope_of

abbrev pub bindings_of : ℕ → List ℕ → List Entry
bindings_of = entries_of binding_width binding_of

abbrev pub carrieds_of : ℕ → List ℕ → List Carried
carrieds_of = entries_of carried_width carried_of
