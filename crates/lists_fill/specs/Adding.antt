-- An event by its six words.
use Rattle.std.specs.Prelude.{ℕ, false}
use Rattle.scope.specs.Graph.{scope}
use Rattle.scope.specs.Flat.{parent_of}
use Rattle.semantics.specs.Log.{Event, open', bind, answer, find, write, found}
use Rattle.finding.specs.Records.{finding_by}
use Rattle.entries.specs.Adding as entries
use Rattle.entries.specs.Stamps.{bound_of}
use Rattle.lists_fill.specs.declared.Logged.{Logged}
use Rattle.lists_fill.specs.declared.Logged.TheVariants.{Scope, Binding, Variable, Name, Finding}

-- what was left as an event of the definition's
abbrev pub said : (ℕ → ℕ) → Logged → Event
said id (Scope k p a b) = open' (scope k (parent_of p) a b)
said id (Binding again b) = bind false again (bound_of b)
said id (Variable f) = answer (write f.variable (found f.variable f.kind f.via))
said id (Name x f) = answer (write (id x) (entries.answer f))
said id (Finding f) = find (finding_by f)
