-- A row of things that are read and printed one after the other: what a turn of the loop keeps (`Row`), where it begins, what the next thing
-- is asked, and what is told at the end. It serves clauses and arms.
use Prim.Native.Nat.{ℕ, zero, suc, ◌+◌, ◌-◌, ◌<◌, ◌≤◌}
use native.Mathlib.Omega.{arith}
use mathlib.Core.Path.{◌≡◌, refl, sym, ap, ◌∙◌}
use mathlib.Core.List.{List, [], ◌∷◌, ◌++◌, append_assoc, append-nil, flat_map}
use lib.ListN.{length, drop}
use Rattle.heads.specs.Got.{Got, ok, no, bind, is_ok, many}
use Rattle.expr.proofs.Inverse.{never}
use Rattle.expr.proofs.Accepted.{ok-inverse}
use Rattle.clauses.proofs.WrittenClause.{many-written}
use Rattle.condition.specs.Cond.{Cond}
use Rattle.condition_text.specs.Write.{Ready, PutOn}
use Rattle.condition_text.specs.declared.page.Page.{Page}
use Rattle.condition_text.proofs.Stages.{Stage, begin, ready, part, put}
use Rattle.condition_printer.specs.Conditions.{in_row}
use Rattle.condition_printer.specs.Page.{line, page_of, text_of, row_words}

pub page-append : (a b : List Cond) → page_of (a ++ b) ≡ page_of a ++ page_of b
unfolding page_of flat_map
page-append [] b = refl
page-append (c ∷ a) b = rw (page-append a b) (sym (append_assoc (line c) (page_of a) (page_of b)))

-- things of a kind: how one is read, its words, and its conditions
pub record Things (A : Type 0) : Type 0 where
  pub one : List ℕ → Got A
  pub write : A → List ℕ
  pub of : A → ℕ → List Cond
  pub spelt : (l : List ℕ) (x : A) (r : List ℕ) → one l ≡ ok x r → l ≡ write x ++ r

-- the text of a row from that of its first and of the others
turn-text : {A : Type 0} (T : Things A) (all : List A) (x : A) (xs : List A) (p q : ℕ) → all ≡ x ∷ xs → q ≡ p + length (T.write x) → page_of (in_row T.write T.of all p) ≡ page_of (T.of x p) ++ page_of (in_row T.write T.of xs q)
unfolding in_row
turn-text T all x xs p q e n = rw (e, n) (page-append (T.of x p) (in_row T.write T.of xs (p + length (T.write x))))

-- the first of a row that is read
record First {A : Type 0} (T : Things A) (n : ℕ) (l : List ℕ) (all : List A) (last : List ℕ) : Type 0 where
  item : A
  after : List ℕ
  others : List A
  first : T.one l ≡ ok item after
  rest : many T.one (n - 1) after ≡ ok others last
  is : all ≡ item ∷ others

first_of : {A : Type 0} (T : Things A) (n : ℕ) (l : List ℕ) (all : List A) (last : List ℕ) → 0 < n → many T.one n l ≡ ok all last → First T n l all last
unfolding many
first_of T zero l all last h e = absurd (omega arith)
first_of {A} T (suc n) l all last h e = go (T.one l) refl e
  where
    second : (x : A) (r : List ℕ) → T.one l ≡ ok x r → (y : Got (List A)) → many T.one n r ≡ y → bind y (λ xs r2. ok (x ∷ xs) r2) ≡ ok all last → First T (suc n) l all last
    second x r f (ok xs q) g e =
        let a : x ∷ xs ≡ all = cc in
        let b : q ≡ last = cc in
        let s : suc n - 1 ≡ n = omega arith in
        record { item = x; after = r; others = xs; first = f; rest = rw s (rw b at g); is = sym a }
    second x r f (no c) g e = never (cc)

    go : (y : Got A) → T.one l ≡ y → bind y (λ x r. bind (many T.one n r) (λ xs r2. ok (x ∷ xs) r2)) ≡ ok all last → First T (suc n) l all last
    go (ok x r) f e = second x r f (many T.one n r) refl e
    go (no c) f e = never (cc)

-- n things from the word `at` on, of which those before the word p are printed, and `left` are still to come
pub record Row {A : Type 0} (T : Things A) (ws : List ℕ) (at n : ℕ) (old : Page) (p left : ℕ) (new : Page) : Type 0 where
  pub all : List A
  pub last : List ℕ
  pub whole : many T.one n (drop at ws) ≡ ok all last
  pub others : List A
  pub reads : many T.one left (drop p ws) ≡ ok others last
  pub text : List ℕ
  pub so : page_of (in_row T.write T.of all at) ≡ text ++ page_of (in_row T.write T.of others p)
  pub stage : Stage ws at old.end old.bytes.now text p 0 new.bytes.now new.end
  pub lent : new.bytes.ghost_name ≡ old.bytes.ghost_name
  pub inside : at ≤ length ws
  pub few : length ws ≤ 2048

module _ {A : Type 0} (T : Things A) where
  pub row-begins : {ws : List ℕ} {at n left : ℕ} (page : Page) → left ≡ n → Ready (many T.one n (drop at ws)) ws at page.end (length page.bytes.now) → Row T ws at n page at left page
  row-begins {ws} {at} {n} page e h =
      let i = ok-inverse (many T.one n (drop at ws)) h.fine in
      record { all = i.0; last = i.1.0; whole = i.1.1; others = i.0; reads = rw e i.1.1; text = []; so = refl; stage = begin at 0 h (omega arith) h.inside (omega arith); lent = refl; inside = h.inside; few = h.few }

  module _ {ws : List ℕ} {at n p left : ℕ} {old new : Page} (r : Row T ws at n old p left new) where
    pub row-ready : 0 < left → Ready (T.one (drop p ws)) ws p new.end (length new.bytes.now)
    row-ready h = let f = first_of T left (drop p ws) r.others r.last h r.reads in ready r.stage (T.one (drop p ws)) (ap is_ok f.first) r.few

    pub row-turns : {new' : Page} {q rest : ℕ} → 0 < left → rest ≡ left - 1 → PutOn (T.one (drop p ws)) T.write (text_of T.of p) ws p new new' q → Row T ws at n old q rest new'
    row-turns {q = q} h e u =
        let f = first_of T left (drop p ws) r.others r.last h r.reads in
        let x = u.put.is f.item f.after f.first in
        let a = T.of f.item p in
        let t = turn-text T r.others f.item f.others p q f.is x.1.0 in
        record {
          all = r.all;
          last = r.last;
          whole = r.whole;
          others = f.others;
          reads = rw (x.0, ← e) at f.rest;
          text = r.text ++ page_of a;
          so = r.so ∙ (rw t (sym (append_assoc r.text (page_of a) (page_of (in_row T.write T.of f.others q)))));
          stage = part r.stage u.put f.item f.after f.first;
          lent = u.lent ∙ r.lent;
          inside = r.inside;
          few = r.few;
        }

    pub row_put : left ≡ 0 → PutOn (many T.one n (drop at ws)) (row_words T.write) (text_of (in_row T.write T.of) at) ws at old new p
    unfolding many in_row page_of flat_map
    row_put z =
        let e : ok [] (drop p ws) ≡ ok r.others r.last = rw z at r.reads in
        let o : [] ≡ r.others = cc in
        let l : drop p ws ≡ r.last = cc in
        let s = (many-written T.write (λ x. Unit {0}) (λ l x q h. (T.spelt l x q h, tt)) n (drop at ws) r.all r.last r.whole).0 in
        let t : r.text ≡ page_of (in_row T.write T.of r.all at) = sym (r.so ∙ (rw (← o) (append-nil r.text))) in
        record { put = put r.stage r.all r.whole (sym l) s r.inside t; lent = r.lent }
