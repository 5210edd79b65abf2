-- What the code's lists and answers say, in the definition's terms.
use Rattle.std.specs.Prelude.{ℕ, List, map, Some, None, Ok, Err, Result, Option}
use Rattle.std.specs.Prelude as code
use Rattle.refusal.specs.Number.{number_of}
use Rattle.refusal.specs.declared.Refusal.{Refusal}
use Rattle.scope.specs.Flat.{scope_of, binding_of, carried_of}
use Rattle.scope.specs.Graph.{Scope, Name, Entry, Carried}
use Rattle.scope.specs.Graph as graph
use Rattle.scope.specs.Lookup.{Looked, at, nothing, refused}
use Rattle.scope.specs.Offset.{Best, none', best, Offset, in', nowhere}
use Rattle.scope.specs.Offset as offsets
use Rattle.scope.specs.declared.Found.{Found}
use Rattle.scope.specs.declared.Graph.{Graph}
use Rattle.scope.specs.declared.Name.{Name as Name'}

abbrev pub scopes_in : Graph → List Scope
scopes_in g = map scope_of g.scopes.now

abbrev pub bindings_in : Graph → List Entry
bindings_in g = map binding_of g.bindings.now

abbrev pub carried_in : Graph → List Carried
carried_in g = map carried_of g.carried.now

abbrev pub name_of : Name' → Name
name_of n = graph.name n.mark n.word

abbrev pub bound_as : code.Option ℕ → Option ℕ
bound_as (Some v) = Some v
bound_as None = None

abbrev pub looked_as : Result (code.Option Found) Refusal → Looked
looked_as (Ok (Some found)) = at found.variable found.scope
looked_as (Ok None) = nothing
looked_as (Err cause) = refused (number_of cause)

abbrev pub best_as : code.Option (ℕ × ℕ) → Best
best_as (Some held) = best held.0 held.1
best_as None = none'

abbrev pub offset_as : Result (code.Option ℕ) Refusal → Offset
offset_as (Ok (Some s)) = in' s
offset_as (Ok None) = nowhere
offset_as (Err cause) = offsets.refused (number_of cause)
