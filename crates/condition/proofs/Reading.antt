-- The theorems on texts. Reading a text is the judge and the machine over its tokens, from its end.
use Prim.Native.Nat.{ℕ, zero, suc, ◌*◌, ◌≤◌}
use native.Mathlib.Omega.{arith}
use mathlib.Core.Path.{◌≡◌, refl, sym, ap, ap₂, ◌∙◌}
use mathlib.Core.Bool.{Bool, true, false, not, ◌&&◌, false≢true}
use mathlib.Core.List.{List, [], ◌∷◌, ◌++◌, reverse, reverse_aux, reverse_aux-reverse_aux-nil, append_assoc}
use lib.Dec.{eqb}
use lib.ListN.{length}
use Rattle.condition.specs.Cond.{Cond, atom, unary, binary, binary_level, Well, entries}
use Rattle.condition.specs.Printed.{printed}
use Rattle.condition.specs.Written.{Reads}
use Rattle.condition.specs.Tokens.{Tok, open', close', bad, number, un, bin, tok_text, Last, found, nothing, last, tokens, after_operand, lex}
use Rattle.condition.specs.Judge.{is_wanted, is_there, unary_mode, may_join, judge}
use Rattle.condition.specs.Machine.{empty, work, run, count_of}
use Rattle.condition.specs.declared.Mode.{Mode}
use Rattle.condition.specs.declared.Mode.TheVariants as mode
use Rattle.condition.proofs.Tables.{both}
use Rattle.condition.proofs.Fewest.{printed-written}
use Rattle.condition.proofs.Entries.{toks, runs, count-of}
use Rattle.condition.proofs.Complete.{taken}
use Rattle.condition.proofs.Sound.{Wells, spell, judged}
use Rattle.condition.proofs.Lexing.{Found, last_found, lex-found, lex-none, lexed}

-- no token is bad
unfoldable pub Clean : List Tok → Type 0
Clean [] = Unit {0}
Clean (open' ∷ ts) = Clean ts
Clean (close' ∷ ts) = Clean ts
Clean (bad ∷ ts) = ⊥
Clean (number n ∷ ts) = Clean ts
Clean (un o ∷ ts) = Clean ts
Clean (bin o ∷ ts) = Clean ts

pub clean : (ts : List Tok) (x : Mode) (f : Bool) (fs : List Bool) → judge ts x f fs ≡ true → Clean ts
unfolding judge Clean
clean [] x f fs e = tt
clean (open' ∷ ts) x f [] e = absurd (false≢true e)
clean (open' ∷ ts) x f (g ∷ fs) e = clean ts mode.There g fs (both (is_there x) _ e).1
clean (close' ∷ ts) x f fs e = clean ts mode.Wanted false (f ∷ fs) (both (is_wanted x) _ e).1
clean (bad ∷ ts) x f fs e = absurd (false≢true e)
clean (number n ∷ ts) x f fs e = clean ts mode.There f fs (both (is_wanted x) _ e).1
clean (un o ∷ ts) x f fs e = clean ts (unary_mode x o) f fs (both (is_there (unary_mode x o)) _ e).1
clean (bin o ∷ ts) x f fs e = clean ts mode.Wanted _ fs (both (not (eqb (binary_level o) 4 && f)) _ (both (may_join x (binary_level o)) _ e).1).1

pub clean-tail : (t : Tok) (ts : List Tok) → Clean (t ∷ ts) → Clean ts
unfolding Clean
clean-tail open' ts c = c
clean-tail close' ts c = c
clean-tail bad ts c = absurd c
clean-tail (number n) ts c = c
clean-tail (un o) ts c = c
clean-tail (bin o) ts c = c

turned : (a q s : List ℕ) → reverse_aux (reverse_aux a q) s ≡ reverse_aux q (a ++ s)
turned [] q s = refl
turned (x ∷ a) q s = turned a (x ∷ q) s

-- clean tokens spell the text that they were found in
record Spelt (r : List ℕ) : Type 0 where
  wells : Wells (lex r)
  same : (s : List ℕ) → spell (lex r) s ≡ reverse_aux r s

spelt-none : Spelt []
unfolding lex tokens Wells spell
spelt-none = record { wells = tt; same = λ s. refl }

spelt-more : {t : Tok} {r q : List ℕ} → lex r ≡ t ∷ lex q → Found r t q → Spelt q → Spelt r
unfolding Wells spell
spelt-more {t} {r} {q} e f i =
    record { wells = rw e (f.well, i.wells); same = λ s. rw e (i.same (tok_text t ++ s) ∙ (sym (turned (tok_text t) q s) ∙ ap (λ (l : List ℕ). reverse_aux l s) (sym f.text))) }

spelt : (n : ℕ) (r : List ℕ) → length r ≤ n → Clean (lex r) → Spelt r
unfolding Clean
spelt zero [] h c = spelt-none
spelt zero (b ∷ r) h c = absurd (omega arith)
spelt (suc n) [] h c = spelt-none
spelt (suc n) (b ∷ r) h c = go (last (b ∷ r)) refl (λ q h' c'. spelt n q h' c')
  where
    go : (x : Last) → last (b ∷ r) ≡ x → ((q : List ℕ) → length q ≤ n → Clean (lex q) → Spelt q) → Spelt (b ∷ r)
    go (found t q) e k =
        let l = lex-found (b ∷ r) e in
        let f = last_found (b ∷ r) t q e in
        spelt-more l f (k q (omega (arith, f.shorter)) (clean-tail t (lex q) (rw l at c)))
    go nothing e k = absurd (rw (lex-none b r e) at c)

-- a text reads exactly where the judge takes its tokens
pub judged-reads : (s : List ℕ) → judge (lex (reverse s)) mode.Wanted false [] ≡ true → (t : Cond) × Reads s t
judged-reads s e =
    let p = spelt (length (reverse s)) (reverse s) (omega arith) (clean (lex (reverse s)) mode.Wanted false [] e) in
    let j = judged (lex (reverse s)) p.wells e in
    (j.0, rw (p.same [], reverse_aux-reverse_aux-nil s []) at j.1)

reads-toks : {s : List ℕ} {t : Cond} (w : Reads s t) → lex (reverse s) ≡ toks w []
unfolding lex tokens after_operand
reads-toks w = lexed w [] refl

pub reads-judged : {s : List ℕ} {t : Cond} → Reads s t → judge (lex (reverse s)) mode.Wanted false [] ≡ true
reads-judged w = rw (reads-toks w) (taken w)

-- and the machine then gives the tree's entries
pub reads-entries : {s : List ℕ} {t : Cond} (tail : List ℕ) → Reads s t → run (lex (reverse s)) 0 (work empty tail) ≡ entries t ++ tail
reads-entries tail w = rw (reads-toks w) (runs w tail)

pub reads-count : {s : List ℕ} {t : Cond} → Reads s t → length (entries t) ≡ count_of (lex (reverse s)) * 2
reads-count w = rw (reads-toks w) (count-of w)

-- entries tell their tree
pub entries-tell : (t t' : Cond) (a b : List ℕ) → entries t ++ a ≡ entries t' ++ b → (t ≡ t') × (a ≡ b)
unfolding entries
entries-tell (atom n) (atom m) a b e = (cc, cc)
entries-tell (atom n) (unary o x) a b e = let z : ◌≡◌ {A = ℕ} 0 16 = cc in absurd (omega arith)
entries-tell (atom n) (binary o l r) a b e = let z : ◌≡◌ {A = ℕ} 0 15 = cc in absurd (omega arith)
entries-tell (unary o x) (atom m) a b e = let z : ◌≡◌ {A = ℕ} 16 0 = cc in absurd (omega arith)
entries-tell (unary o x) (unary p y) a b e =
    let h : entries x ++ a ≡ entries y ++ b = cc in
    let q : o ≡ p = cc in
    let i = entries-tell x y a b h in
    (ap₂ unary q i.0, i.1)
entries-tell (unary o x) (binary p l r) a b e = let z : ◌≡◌ {A = ℕ} 16 15 = cc in absurd (omega arith)
entries-tell (binary o l r) (atom m) a b e = let z : ◌≡◌ {A = ℕ} 15 0 = cc in absurd (omega arith)
entries-tell (binary o l r) (unary p y) a b e = let z : ◌≡◌ {A = ℕ} 15 16 = cc in absurd (omega arith)
entries-tell (binary o l r) (binary p k q) a b e =
    let h : (entries l ++ entries r) ++ a ≡ (entries k ++ entries q) ++ b = cc in
    let g : o ≡ p = cc in
    let i = entries-tell l k (entries r ++ a) (entries q ++ b) (sym (append_assoc (entries l) (entries r) a) ∙ (h ∙ append_assoc (entries k) (entries q) b)) in
    let j = entries-tell r q a b i.1 in
    let x = i.0 in
    let y = j.0 in
    (cc, j.1)

-- a text is written as at most one tree
pub one-tree : {s : List ℕ} {t t' : Cond} → Reads s t → Reads s t' → t ≡ t'
one-tree {t = t} {t' = t'} v w = (entries-tell t t' [] [] (sym (reads-entries [] v) ∙ reads-entries [] w)).0

-- a printed condition reads back as its tree, and as no other
pub reads-back : (t : Cond) → Well t → Reads (printed 0 t) t
reads-back t h = printed-written 0 t h
