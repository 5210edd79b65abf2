-- The first four bytes are the length, and the body follows.
use native.Mathlib.Omega.{arith}
use lib.ListN.{drop, length-drop}
use mathlib.Core.Path.{◌≡◌}
use mathlib.Core.List.{List}
use Prim.Native.Nat.{ℕ, ◌+◌}
use Rattle.std.specs.Prelude.{Result, Ok, Err}
use Rattle.refusal.specs.declared.Refusal.{Refusal}
use Rattle.tables.specs.Name.{text_at, length_at, name_at}
use Rattle.tables.specs.Answer.{ending, Names}
use Rattle.tables.proofs.Text.{refuse, name-short, named}
use Rattle.tables.proofs.names.read_name.Goals as goal

pub returns-then-s-at-lt4 : goal.returns-then-s-at-lt4
returns-then-s-at-lt4 c =
    let a = c.args in
    record { ends = tt; names = tt; ans = refuse (omega arith) (name-short (drop a.at a.s.now) (omega (arith, length-drop a.at a.s.now))) }

-- the use id of the text at p, where it ends within s, is that of the name there
id-named : (s : List ℕ) (p n : ℕ) (r : Result (ℕ × ℕ) Refusal) → n ≡ length_at s p → Names (text_at s (p + 4) n) r → Names (name_at s p) r
unfolding name_at
id-named s p n (Ok (q, id)) e k = rw (← e) k
id-named s p n (Err x) e k = tt

pub returns : goal.returns
returns c =
    let l = c.length_at in
    let b = c.read_body in
    let a = c.args in
    let whole = named a.s.now a.at l.result (ending b.result) l.ensures (omega arith) b.ensures.ends b.ensures.ans in
    record { ends = whole.0; names = id-named a.s.now a.at l.result b.result l.ensures b.ensures.names; ans = whole.1 }
