-- A token a turn (`Judging`).
use native.Mathlib.Omega.{arith}
use Rattle.std.proofs.Common.{inl, inr}
use Rattle.std.proofs.lemmas.Bool.Decides.{eqb_tells}
use mathlib.Core.Path.{sym, ◌∙◌}
use Rattle.condition_reader.proofs.FillTurns.{tells}
use Rattle.condition_reader.proofs.JudgeTurns.{open-mode, open-depth, open_turn, close-mode, close-turn, number-mode, number-turn, unary-mode, unary-turn, binary-mode, binary-chain, binary-turn, bad-token, end-mode, end-depth, end_reads, begins}
use Rattle.condition_reader.proofs.judging.judge.Goals as goal
use Rattle.condition_reader.proofs.judging.judge.Goals.{then-not-is_there-via-then-not-is_there, then-not-is_there-via-else-not-is_there+then-depth-eq0, then-not-may_join-via-then-not-may_join, then-not-may_join-via-else-not-may_join+then-chains, then-is_there, else-is_there}

pub loop-rest-init : goal.loop-rest-init
loop-rest-init c = begins c.new-window.ensures

pub returns-then-not-is_there : goal.returns-then-not-is_there
returns-then-not-is_there c =
    let told = rw c.in-Open.is at (tells c.loop-rest.rest.now c.in_ok-token.token c.in_ok-token.before (rw c.in_ok-token.was at c.last_token.ensures.found)) in
    elim c.then-not-is_there.branch [
      | then-not-is_there-via-then-not-is_there w ↦ open-mode c.loop-rest.invariant told (sym c.is_there.ensures ∙ w.if-not-is_there.true)
      | then-not-is_there-via-else-not-is_there+then-depth-eq0 w ↦ open-depth c.loop-rest.invariant told w.if-depth-eq0.true
    ]

pub loop-rest-preserved-in-Open : goal.loop-rest-preserved-in-Open
loop-rest-preserved-in-Open c =
    let told = rw c.in-Open.is at (tells c.loop-rest.rest.now c.in_ok-token.token c.in_ok-token.before (rw c.in_ok-token.was at c.last_token.ensures.found)) in
    open_turn c.loop-rest.invariant told (sym c.is_there.ensures ∙ c.if-not-is_there.false) (omega arith)

pub returns-then-not-is_wanted : goal.returns-then-not-is_wanted
returns-then-not-is_wanted c =
    let told = rw c.in-Close.is at (tells c.loop-rest.rest.now c.in_ok-token.token c.in_ok-token.before (rw c.in_ok-token.was at c.last_token.ensures.found)) in
    close-mode c.loop-rest.invariant told (sym c.is_wanted.ensures ∙ c.if-not-is_wanted.true)

pub loop-rest-preserved-in-Close : goal.loop-rest-preserved-in-Close
loop-rest-preserved-in-Close c =
    let told = rw c.in-Close.is at (tells c.loop-rest.rest.now c.in_ok-token.token c.in_ok-token.before (rw c.in_ok-token.was at c.last_token.ensures.found)) in
    close-turn c.loop-rest.invariant told (sym c.is_wanted.ensures ∙ c.if-not-is_wanted.false) c.mark.ensures c.max-deepest.ensures

pub returns-then-not-is_wanted-2 : goal.returns-then-not-is_wanted-2
returns-then-not-is_wanted-2 c =
    let told = rw c.in-Atom.is at (tells c.loop-rest.rest.now c.in_ok-token.token c.in_ok-token.before (rw c.in_ok-token.was at c.last_token.ensures.found)) in
    number-mode c.loop-rest.invariant told (sym c.is_wanted-in-Atom.ensures ∙ c.if-not-is_wanted-2.true)

pub loop-rest-preserved-in-Atom : goal.loop-rest-preserved-in-Atom
loop-rest-preserved-in-Atom c =
    let told = rw c.in-Atom.is at (tells c.loop-rest.rest.now c.in_ok-token.token c.in_ok-token.before (rw c.in_ok-token.was at c.last_token.ensures.found)) in
    number-turn c.loop-rest.invariant told (sym c.is_wanted-in-Atom.ensures ∙ c.if-not-is_wanted-2.false)

pub returns-then-not-is_there-2 : goal.returns-then-not-is_there-2
returns-then-not-is_there-2 c =
    let told = rw c.in-Unary.is at (tells c.loop-rest.rest.now c.in_ok-token.token c.in_ok-token.before (rw c.in_ok-token.was at c.last_token.ensures.found)) in
    unary-mode c.loop-rest.invariant told c.before_unary-mode.ensures (sym c.is_there-in-Unary.ensures ∙ c.if-not-is_there-2.true)

pub loop-rest-preserved-in-Unary : goal.loop-rest-preserved-in-Unary
loop-rest-preserved-in-Unary c =
    let told = rw c.in-Unary.is at (tells c.loop-rest.rest.now c.in_ok-token.token c.in_ok-token.before (rw c.in_ok-token.was at c.last_token.ensures.found)) in
    unary-turn c.loop-rest.invariant told c.before_unary-mode.ensures (sym c.is_there-in-Unary.ensures ∙ c.if-not-is_there-2.false)

pub returns-then-not-may_join : goal.returns-then-not-may_join
returns-then-not-may_join c =
    let told = rw c.in-Binary.is at (tells c.loop-rest.rest.now c.in_ok-token.token c.in_ok-token.before (rw c.in_ok-token.was at c.last_token.ensures.found)) in
    elim c.then-not-may_join.branch [
      | then-not-may_join-via-then-not-may_join w ↦ binary-mode c.loop-rest.invariant told c.binary_level-level.ensures (sym c.may_join.ensures ∙ w.if-not-may_join.true)
      | then-not-may_join-via-else-not-may_join+then-chains w ↦ binary-chain c.loop-rest.invariant told c.binary_level-level.ensures (sym w.chains.ensures ∙ w.if-chains.true)
    ]

pub loop-rest-preserved : goal.loop-rest-preserved
loop-rest-preserved c =
    let told = rw c.in-Binary.is at (tells c.loop-rest.rest.now c.in_ok-token.token c.in_ok-token.before (rw c.in_ok-token.was at c.last_token.ensures.found)) in
    binary-turn c.loop-rest.invariant told c.binary_level-level.ensures (sym c.may_join.ensures ∙ c.if-not-may_join.false) (sym c.chains.ensures ∙ c.if-chains.false) c.pass.ensures

pub returns-in_err-token : goal.returns-in_err-token
returns-in_err-token c =
    rw c.from_residual.ensures (bad-token c.loop-rest.invariant (grind arith) (rw c.in_err-token.was at c.last_token.ensures.found))

pub returns : goal.returns
returns c =
    let there = sym c.is_there-2.ensures in
    elim c.if-is_there.branch [
      | then-is_there w ↦ elim (eqb_tells c.loop-rest.depth 0) [
        | inl h ↦ rw (c.then_some.ensures, w.then_some-is, h.0) (end_reads c.loop-rest.invariant (grind arith) (there ∙ w.if-is_there.true) h.1)
        | inr h ↦ rw (c.then_some.ensures, w.then_some-is, h.0) (end-depth c.loop-rest.invariant (grind arith) (omega (arith, h.1)))
      ]
      | else-is_there w ↦ rw (c.then_some.ensures, w.then_some-is, w.if-is_there.false) (end-mode c.loop-rest.invariant (grind arith) (there ∙ w.if-is_there.false))
    ]
