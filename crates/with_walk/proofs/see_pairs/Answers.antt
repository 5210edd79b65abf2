-- After i turns the first i pairs are seen, and as many of them counted as are the first of their name (`Seeing`).
use mathlib.Core.Path.{◌≡◌, ap}
use native.Mathlib.Omega.{arith}
use Rattle.with_walk.proofs.Names.{names_at}
use Rattle.with_walk.proofs.Seeing.{none_seen, same-cur, first-as, one_seen, all_seen}
use Rattle.with_walk.proofs.see_pairs.Goals as goal

pub loop-i-init : goal.loop-i-init
loop-i-init c = none_seen c.args.pairs.now c.requires.binding

pub bind-requires : goal.bind-requires
bind-requires c =
    let q = c.requires in
    let b = c.loop-i.invariant in
    let n = names_at c.args.walk.now.rowless.listed c.args.pairs.now.words.now _ _ c.loop-i-test.true q.named in
    let s = b.still in
    (omega (arith, ap (λ p. p.0) c.pair-x.ensures, n, q.places, s.names), (omega (arith, q.short, same-cur b), (omega (arith, q.few, b.top), (omega (arith, q.room, b.top, s.names, s.size), b.sound))))

pub loop-i-preserved : goal.loop-i-preserved
loop-i-preserved c =
    one_seen c.loop-i.invariant (ap (λ p. p.0) c.pair-x.ensures) (ap (λ p. p.1) c.pair-x.ensures) (first-as c.from-made.ensures c.is_again.ensures) c.bind.ensures

pub returns : goal.returns
returns c =
    let all : c.loop-i.i ≡ c.args.pairs.now.count = omega arith in
    all_seen (rw all at c.loop-i.invariant)
