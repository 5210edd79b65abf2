-- The number of each kind of scope.
use Rattle.std.specs.Prelude.{ℕ}
use Rattle.scope.specs.declared.kind.ScopeKind.{ScopeKind}
use Rattle.scope.specs.declared.kind.ScopeKind.TheVariants.{Root, Match, Create, Merge, Unwind, Call, WithBarrier, Return, PatternComprehension}
use Rattle.scope.specs.Graph.{root_scope, match_scope, create_scope, merge_scope, unwind_scope, call_scope, with_barrier, return_scope, comprehension_scope}

abbrev pub number_of : ScopeKind → ℕ
number_of Root = root_scope
number_of Match = match_scope
number_of Create = create_scope
number_of Merge = merge_scope
number_of Unwind = unwind_scope
number_of Call = call_scope
number_of WithBarrier = with_barrier
number_of Return = return_scope
number_of PatternComprehension = comprehension_scope
