-- The findings that both walks left in words, in the order of the listing: those of the name walk, which stand from the front on, then those
-- of the kind walk, which stand from the end back.
use Prim.Native.Nat.{ℕ, zero, suc, ◌+◌, ◌-◌, ◌*◌, ◌≤◌}
use native.Mathlib.Nat.{add-zero, add-suc}
use native.Mathlib.Omega.{arith}
use mathlib.Core.Path.{◌≡◌, refl, ap, sym, ◌∙◌}
use mathlib.Core.Bool.{Bool, true, false, cond}
use mathlib.Core.List.{List, [], ◌∷◌, ◌++◌, map, reverse, append_assoc, append-nil, reverse-cons, reverse-append, reverse-reverse}
use borrow.Author.Tests.{lt-ltb, le-ltb}
use lib.Dec.{eqb}
use lib.ListN.{length}
use Rattle.expr.proofs.Inverse.{never}
use Rattle.scope.specs.Graph.{scope, name}
use Rattle.scope.specs.Flat.{parent_of}
use Rattle.finding.specs.Logged.{logged, logged_at}
use Rattle.semantics.specs.Log.{Finding, found, bound, write, Event, open', bind, carry, answer, find, finds_in, logs}
use Rattle.steps.specs.Said.{answered, event_of, event_at, events, findings, kept}
use Rattle.lines.specs.Given.{findings_in}

-- a log of which findings alone are kept
kept-finds : (l : List Event) → kept false l ≡ map find (finds_in l)
unfolding kept logs
kept-finds [] = refl
kept-finds (open' s ∷ l) = kept-finds l
kept-finds (bind o g b ∷ l) = kept-finds l
kept-finds (carry c ∷ l) = kept-finds l
kept-finds (answer a ∷ l) = kept-finds l
kept-finds (find f ∷ l) = ap (λ k. find f ∷ k) (kept-finds l)

-- six words that are a finding as an event are that finding
is-find : (id : ℕ → ℕ) (tag a b c d e : ℕ) (f : Finding) → event_of id tag a b c d e ≡ find f → logged tag a b c d e ≡ f
is-find id tag a b c d e f q = go (eqb tag 1) (eqb tag 2) (eqb tag 3) (eqb tag 4) (eqb tag 5) (logged tag a b c d e) q
  where
    go : (i j k m n : Bool) (x : Finding) → cond i (open' (scope a (parent_of b) c d)) (cond j (bind false false (bound a (name e b) c d)) (cond k (bind false true (bound a (name e b) c d)) (cond m (answer (write a (found a b 0))) (cond n (answer (write (id a) (answered b c d e))) (find x))))) ≡ find f → x ≡ f
    go true j k m n x q = never (cc)
    go false true k m n x q = never (cc)
    go false false true m n x q = never (cc)
    go false false false true n x q = never (cc)
    go false false false false true x q = never (cc)
    go false false false false false x q = cc

-- from the front
fronted : (id : ℕ → ℕ) (n front : ℕ) (l : List ℕ) (fs : List Finding) → n ≤ front → events id n l ≡ map find fs → findings_in front n l ≡ reverse fs
unfolding events findings_in
fronted id zero front l [] h e = refl
fronted id zero front l (f ∷ fs) h e = never (cc)
fronted id (suc n) front l [] h e = never (cc)
fronted id (suc n) front l (f ∷ fs) h e =
    let one : event_at id l (n * 6) ≡ find f = cc in
    let rest : events id n l ≡ map find fs = cc in
    let same : logged_at l (n * 6) ≡ f = is-find id _ _ _ _ _ _ f one in
    rw (lt-ltb n front h, same, fronted id n front l fs (omega arith) rest) (sym (reverse-cons f fs))

-- and then from the end
backed : (front j : ℕ) (l : List ℕ) → findings_in front (front + j) l ≡ findings_in front front l ++ reverse (findings j l)
unfolding findings_in findings
backed front zero l = rw (add-zero front) (sym (append-nil (findings_in front front l)))
backed front (suc j) l =
    let z : front + j - front ≡ j = omega arith in
    rw (add-suc front j, le-ltb (front + j) front (omega arith), z, backed front j l, reverse-cons (logged_at l (length l - suc j * 6)) (findings j l))
    (append_assoc (findings_in front front l) (reverse (findings j l)) (logged_at l (length l - suc j * 6) ∷ []))

finds-append : (a b : List Event) → finds_in (a ++ b) ≡ finds_in a ++ finds_in b
unfolding logs
finds-append [] b = refl
finds-append (e ∷ a) b = rw (finds-append a b, append_assoc)

finds-one : (e : Event) (l : List Event) → finds_in (e ∷ l) ≡ finds_in (e ∷ []) ++ finds_in l
finds-one e l = finds-append (e ∷ []) l

one-reversed : (e : Event) → reverse (finds_in (e ∷ [])) ≡ finds_in (e ∷ [])
unfolding logs
one-reversed (open' s) = refl
one-reversed (bind o g b) = refl
one-reversed (carry c) = refl
one-reversed (answer a) = refl
one-reversed (find f) = refl

finds-reverse : (l : List Event) → finds_in (reverse l) ≡ reverse (finds_in l)
unfolding logs
finds-reverse [] = refl
finds-reverse (e ∷ l) =
    rw (reverse-cons e l, finds-append (reverse l) (e ∷ []), finds-reverse l, finds-one e l, reverse-append (finds_in (e ∷ [])) (finds_in l), one-reversed e)

-- what both walks left is the list of findings
pub laid : (id : ℕ → ℕ) (said told : ℕ) (l : List ℕ) (log : List Event) (ks : List Finding) → events id said l ≡ kept false log → findings told l ≡ reverse ks → findings_in said (said + told) l ≡ finds_in (reverse log) ++ ks
laid id said told l log ks e k =
    rw (backed said told l, fronted id said said l (finds_in log) (omega arith) (e ∙ kept-finds log), k, reverse-reverse ks, finds-reverse log)
