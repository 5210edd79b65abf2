-- The loop's invariant: what the scope `from` answers is what the present scope answers, which lies not above it.
use Rattle.std.specs.Prelude.{None}
use Rattle.std.proofs.Common.{◌≡◌, ℕ, Bool, false, true, refl, ◌∙◌, sym, ap, arith}
use Rattle.std.proofs.lemmas.Bool.Decides.{nat_tests}
use Rattle.scope.specs.Flat.{parent_of}
use Rattle.scope.specs.Lookup.{Looked, nothing, answer_at}
use Rattle.scope.specs.Answer.{name_of}
use Rattle.scope.proofs.Climbing.{answers, parent-of}
use Rattle.scope.proofs.Listed.{bound_found}
use Rattle.scope.proofs.Graph.climb.Goals as goal
use Rattle.scope.proofs.Graph.climb.Goals.{then-parent-eq0-via-then-parent-eq0, then-parent-eq0-via-else-parent-eq0+then-not-passes}

pub returns-in-Some : goal.returns-in-Some
unfolding answer_at
returns-in-Some c =
    sym (c.loop-variable.invariant.1 ∙ answers c.args.self.now (name_of c.args.name) _ (omega arith) (c.in-Some.ensures ∙ bound_found c.args.self.now.bindings.now _ c.args.name.mark c.args.name.word) refl refl)

-- a scope that binds nothing and has no parent
no_parent : (s : ℕ) (goes_on : Bool) (above : ℕ → Looked) → answer_at s None goes_on None above ≡ nothing
unfolding answer_at
no_parent s true above = refl
no_parent s false above = refl

pub returns-then-parent-eq0 : goal.returns-then-parent-eq0
unfolding answer_at
returns-then-parent-eq0 c =
    sym (c.loop-variable.invariant.1 ∙ elim c.then-parent-eq0.branch [
      | then-parent-eq0-via-then-parent-eq0 w ↦ answers c.args.self.now (name_of c.args.name) _ (omega arith) (c.in_default.ensures ∙ bound_found c.args.self.now.bindings.now _ c.args.name.mark c.args.name.word) refl (ap parent_of w.if-parent-eq0.true) ∙ no_parent _ _ _
      | then-parent-eq0-via-else-parent-eq0+then-not-passes w ↦ answers c.args.self.now (name_of c.args.name) _ (omega arith) (c.in_default.ensures ∙ bound_found c.args.self.now.bindings.now _ c.args.name.mark c.args.name.word) w.passes.ensures refl ∙ rw w.if-not-passes.true
    ])

pub returns-then-scope-parent : goal.returns-then-scope-parent
unfolding answer_at
returns-then-scope-parent c =
    sym (c.loop-variable.invariant.1 ∙ answers c.args.self.now (name_of c.args.name) _ (omega arith) (c.in_default.ensures ∙ bound_found c.args.self.now.bindings.now _ c.args.name.mark c.args.name.word) c.passes.ensures (parent-of _ c.if-parent-eq0.false) ∙ rw c.if-not-passes.false (grind (arith, nat_tests)))

pub loop-variable-preserved : goal.loop-variable-preserved
unfolding answer_at
loop-variable-preserved c = (
  omega arith,
  c.loop-variable.invariant.1 ∙ answers c.args.self.now (name_of c.args.name) _ (omega arith) (c.in_default.ensures ∙ bound_found c.args.self.now.bindings.now _ c.args.name.mark c.args.name.word) c.passes.ensures (parent-of _ c.if-parent-eq0.false) ∙ rw c.if-not-passes.false (grind (arith, nat_tests)),
)
