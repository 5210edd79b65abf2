-- Four words on top, and the name's head.
use Prim.Native.Nat.{ℕ, ◌+◌, ◌*◌, ◌≤◌}
use native.Mathlib.Omega.{arith}
use native.Mathlib.Numerals.{add-one}
use mathlib.Core.Path.{◌≡◌, refl}
use mathlib.Core.Bool.{Bool, true, false, cond}
use Rattle.std.specs.Int.{from_bool}
use Rattle.visible.proofs.Places.{write, more-seens, more-tabled}
use Rattle.visible.proofs.Visible.bind.Goals as goal

-- whether it came over a WITH, as a number
flag : {n : ℕ} (b : Bool) → n ≡ from_bool b → (n ≤ 1) × (n ≡ cond b 1 0)
flag true e = (omega arith, e)
flag false e = (omega arith, e)

pub returns : goal.returns
returns c =
    let v = c.args.self.now in
    let r = c.requires in
    let f = flag c.args.over c.from.ensures in
    let q = write v.names v.top c.args.x c.args.v (c.args.scope * 2 + c.from.result) _ v.words.now r.0 r.1.1.1.0 in
    record {
      still = record { names = refl; lent = refl; size = q.len };
      height = add-one v.top;
      same = rw (← f.1) (more-seens _ _ _ _ _ _ f.0 _ _ r.1.1.1.1 r.0 r.1.1.1.0 q);
      sound = more-tabled _ _ _ _ _ _ f.0 _ _ r.1.1.1.1 r.0 r.1.1.1.0 q;
    }
