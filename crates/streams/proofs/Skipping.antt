-- Reading past a part, and past a part more.
use Rattle.std.proofs.Common.{◌≡◌, ℕ, ◌+◌, ◌-◌, min, Bool, true, List, ◌++◌, length, take, drop, eqb, leb, sym, ap, ◌∙◌, arith, Option, Some, None, IfSome}
use Rattle.std.specs.Io.KnownBytes.{Consumes}
use Rattle.std.proofs.lemmas.Bool.Decides.{nat_tests}
use Rattle.std.proofs.lemmas.List.{append_cancel_left, drop-drop, length-drop, length-take, take-append-drop}
use Rattle.streams.specs.Skip.{Skips}

tests : (k n l : ℕ) → k ≡ min n l → eqb k n ≡ leb n l
tests k n l h = grind (arith, nat_tests)

more : (a b l : ℕ) → true ≡ leb a l → leb b (l - a) ≡ leb (a + b) l
more a b l h = grind (arith, nat_tests)

-- a full read, which gave k bytes
read : (k n : ℕ) (old new : Option (List ℕ)) (room : List ℕ) → k ≡ length (take k room) → Consumes old new (take k room) → IfSome old (λ xs. take k room ≡ take n xs) → Skips n old new (eqb k n)
read k n None new room h e f = _
read k n (Some xs) None room h e f = elim e [ ]
read k n (Some xs) (Some ys) room h e f =
    (append_cancel_left (take n xs) ys (drop n xs) (ap (λ l. l ++ ys) (sym f) ∙ sym e ∙ sym (take-append-drop n xs)), tests k n (length xs) (h ∙ ap length f ∙ length-take n xs))

add : (a b : ℕ) (old mid new : Option (List ℕ)) (all : Bool) → Skips a old mid true → Skips b mid new all → Skips (a + b) old new all
add a b None mid new all h g = _
add a b (Some xs) None new all h g = elim h [ ]
add a b (Some xs) (Some ys) None all h g = elim g [ ]
add a b (Some xs) (Some ys) (Some zs) all h g =
    (g.0 ∙ ap (drop b) h.0 ∙ drop-drop b a xs, g.1 ∙ ap (λ l. leb b (length l)) h.0 ∙ ap (leb b) (length-drop a xs) ∙ more a b (length xs) h.1)

-- after a bytes a full read, which gave k
pub Skips-add_read : (a k n : ℕ) (old mid new : Option (List ℕ)) (room : List ℕ) → Skips a old mid true → k ≡ length (take k room) → Consumes mid new (take k room) → IfSome mid (λ xs. take k room ≡ take (length room) xs) → a + length room ≡ n → (all : Bool) → eqb k (length room) ≡ all → Skips n old new all
Skips-add_read a k n old mid new room h l e f size all got =
    rw (← size, ← got) (add a (length room) old mid new (eqb k (length room)) h (read k (length room) mid new room l e f))
