-- The oldest finding stands at the end, and each later one before it.
use Rattle.std.proofs.Common.{◌≡◌, ◌∙◌, suc, ◌+◌, ◌-◌, ◌*◌, ◌≤◌, [], ◌∷◌, length, append-nil, add-zero, add-one, arith}
use Rattle.finding.specs.Flat.{finding_width}
use Rattle.finding.specs.Records.{finding_by}
use Rattle.finding.specs.Logged.{logged_at}
use Rattle.steps.specs.Said.{findings}
use Rattle.entries.specs.Adding.{after}
use Rattle.lists_fill.specs.Said.{told_in}
use Rattle.lists_fill.proofs.Adding.{begin, turn, finish, told-after}
use Rattle.lists_fill.proofs.Sorts.{one_told}
use Rattle.lists_fill.proofs.append_findings.Goals as goal

pub loop-i-init : goal.loop-i-init
unfolding told_in findings
loop-i-init c =
    rw (add-zero c.args.m) (begin (λ id es. append-nil es))

pub loop-i-preserved : goal.loop-i-preserved
loop-i-preserved c =
    let l = c.args.found.now in
    let i = c.loop-i.i in
    let p = length l - suc i * 6 in
    let next : c.args.m + (i + 1) ≡ c.args.m + i + 1 = omega arith in
    let room : (c.args.m + i + 1) * finding_width ≤ length c.loop-i.out = omega (arith, c.loop-i.invariant.kept) in
    let told : finding_by c.from-told.result ≡ logged_at l p = c.from-told.ensures ∙ rw (c.six_at.ensures, add-one i) in
    rw next
    (turn {g = λ id. after (logged_at l p ∷ [])} c.loop-i.invariant c.loop-i-test.true
    (λ id. rw c.words_at.ensures (one_told _ _ c.from-told.result told room)) (λ id es. told-after _ _ es))

pub returns : goal.returns
returns c =
    let all : c.loop-i.i ≡ c.args.k = omega (arith, c.loop-i.invariant.within) in
    rw all at (finish c.loop-i.invariant c.loop-i-test.false (λ x. x))
