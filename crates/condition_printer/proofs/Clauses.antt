-- Where the condition of a clause stands: the clause's words, opened by its kind.
use Prim.Native.Nat.{ℕ, ◌+◌, ◌<◌, ◌≤◌}
use native.Mathlib.Omega.{arith}
use mathlib.Core.Path.{◌≡◌, refl, sym, ap, ◌∙◌}
use mathlib.Core.Bool.{true, false, cond}
use mathlib.Core.Logic.{inl, inr, ⊎_elim}
use lib.Dec.{eqb}
use mathlib.Core.List.{List, [], ◌∷◌, ◌++◌}
use lib.ListN.{length, get_or, drop, length-append, length-drop}
use lib.Seq.{get_or-drop}
use Rattle.heads.specs.Got.{Got, ok, bind, bare, is_ok, word_in, any_word, flag, counted, many}
use Rattle.heads.specs.Answer.{Reads}
use Rattle.std.specs.Prelude.{◌≢◌, Result, Ok, Err}
use Rattle.std.specs.Result.{IsOk}
use Rattle.refusal.specs.Number.{number_of}
use Rattle.refusal.specs.declared.Refusal.{Refusal}
use Rattle.heads.proofs.Reading.{was_read}
use Rattle.expr.specs.Tree.{Expr, Exprs, done, more, kid_count}
use Rattle.expr.specs.Read.{Reader, no_more, times}
use Rattle.expr.specs.Write.{write_e}
use Rattle.expr.proofs.Inverse.{Gives, gave, so, after, word-gives}
use Rattle.expr.proofs.Accepted.{ok-left, refused, word-there}
use Rattle.expr.proofs.Written.{expr-gives, row_gives, written}
use Rattle.clauses.specs.Kind.{code_of, Decodes}
use Rattle.clauses.specs.declared.kind.ClauseKind.{ClauseKind}
use Rattle.clauses.specs.declared.kind.ClauseKind.TheVariants.{Match, Where, With, Return, Unwind, Create, Merge, Set, Remove, Delete, Call, SortedWith, SortedReturn}
use Rattle.clauses.specs.Tree.{Projection, where', set, remove, delete, Keys, unsorted, sorted, Clause, opening, reading, with', return, unwind, call, arm}
use Rattle.clauses.specs.Read.{max_depth, clause_expr, read_projection, counted_exprs, no_keys, some_keys, read_where, read_with, read_body, read_clause, read_arm}
use Rattle.clauses.specs.Write.{write_projection, counted_words, write_clause, reading_code, key_code, write_keys}
use Rattle.clauses.proofs.WrittenClause.{clause-written}
use Rattle.condition_text.specs.Tree.{cond_e}
use Rattle.condition_printer.specs.Conditions.{of_clause}
use Rattle.condition_printer.specs.Page.{IsWith, Stands}

-- a clause's kind and span, and what follows
record Opened (names : ℕ) (ws : List ℕ) (at : ℕ) : Type 0 where
  same : read_clause names (drop at ws) ≡ read_body names (get_or ws (at + 1) 0) (get_or ws (at + 2) 0) (get_or ws at 0) (drop (at + 3) ws)
  inside : at + 3 ≤ length ws

opens : (names : ℕ) (ws : List ℕ) (at : ℕ) → is_ok (read_clause names (drop at ws)) ≡ true → Opened names ws at
unfolding read_clause
opens names ws at o =
    let a = word-there 0 4294967296 ws at (ok-left (any_word (drop at ws)) _ o) in
    let p = rw a.1 at o in
    let b = word-there 0 4294967296 ws (at + 1) (ok-left (any_word (drop (at + 1) ws)) _ p) in
    let q = rw b.1 at p in
    let d = word-there (get_or ws (at + 1) 0) 4294967296 ws (at + 1 + 1) (ok-left (word_in (get_or ws (at + 1) 0) 4294967296 (drop (at + 1 + 1) ws)) _ q) in
    let y : at + 1 + 1 ≡ at + 2 = omega arith in
    let z : at + 1 + 1 + 1 ≡ at + 3 = omega arith in
    record { same = rw (a.1, b.1, d.1, z, y); inside = omega (arith, d.0) }

-- a row of one expression
one-row : (P : Reader) (l : List ℕ) {e : Expr} {r : List ℕ} → P l ≡ ok e r → times 1 P no_more l ≡ ok (more e done) r
unfolding times
one-row P l h = rw h

one-fine : (P : Reader) (l : List ℕ) → is_ok (times 1 P no_more l) ≡ true → is_ok (P l) ≡ true
unfolding times
one-fine P l o = ok-left (P l) _ o

-- clauses of other kinds have none: their first word tells
no-condition : (c : Clause) (at : ℕ) (l r : List ℕ) → l ≡ write_clause c ++ r → (get_or l 0 0 ≡ 2 → ⊥) → (IsWith (get_or l 0 0) → ⊥) → of_clause c at ≡ []
unfolding of_clause write_clause reading_code key_code
no-condition (opening o a b s) at l r e x y = refl
no-condition (reading where' a b es) at l r e x y = absurd (x (rw e))
no-condition (reading set a b es) at l r e x y = refl
no-condition (reading remove a b es) at l r e x y = refl
no-condition (reading delete a b es) at l r e x y = refl
no-condition (with' a b ps f unsorted) at l r e x y = absurd (y (inl (rw e)))
no-condition (with' a b ps f (sorted ks)) at l r e x y = absurd (y (inr (rw e)))
no-condition (return a b ps ks) at l r e x y = refl
no-condition (unwind a b v e') at l r e x y = refl
no-condition (call a b es ys) at l r e x y = refl

-- a code apart from those of the kinds that may have a condition
apart : (n : ℕ) → cond (eqb n 2) true (cond (eqb n 3) true (eqb n 12)) ≡ false → (n ≡ 2 → ⊥) × (IsWith n → ⊥)
apart n h = (λ e. (let b = rw e at h in cc), ⊎_elim (λ e. (let b = rw e at h in cc)) (λ e. (let b = rw e at h in cc)))

other-code : (k : ClauseKind) → (k ≡ Where → ⊥) → (k ≡ With → ⊥) → (k ≡ SortedWith → ⊥) → (code_of k ≡ 2 → ⊥) × (IsWith (code_of k) → ⊥)
other-code Match x y z = apart 1 refl
other-code Where x y z = absurd (x refl)
other-code With x y z = absurd (y refl)
other-code Return x y z = apart 4 refl
other-code Unwind x y z = apart 5 refl
other-code Create x y z = apart 6 refl
other-code Merge x y z = apart 7 refl
other-code Set x y z = apart 8 refl
other-code Remove x y z = apart 9 refl
other-code Delete x y z = apart 10 refl
other-code Call x y z = apart 11 refl
other-code SortedWith x y z = absurd (z refl)
other-code SortedReturn x y z = apart 13 refl

no-code : (n : ℕ) → ((k : ClauseKind) → code_of k ≢ n) → (n ≡ 2 → ⊥) × (IsWith n → ⊥)
no-code n h = (λ e. h Where (sym e), ⊎_elim (λ e. h With (sym e)) (λ e. h SortedWith (sym e)))

-- where a WITH's filter begins, by the words of the clause and of the filter
filter-begins : (ws : List ℕ) (at q a b : ℕ) (ps : List Projection) (e : Expr) (ks : Keys) (r : List ℕ) → at ≤ length ws → q < length ws → drop at ws ≡ write_clause (with' a b ps (more e done) ks) ++ r → drop (q + 1) ws ≡ write_e e ++ (write_keys ks ++ r) → at + 3 + length (counted_words write_projection ps) + 1 ≡ q + 1
unfolding write_clause write_e
filter-begins ws at q a b ps e ks r l m x y =
    let c = counted_words write_projection ps in
    let f = write_e e ++ [] in
    let k = write_keys ks in
    omega (arith, length-drop at ws, length-drop (q + 1) ws, ap length x, ap length y, length-append (key_code 3 12 ks ∷ a ∷ b ∷ c ++ (kid_count (more e done) ∷ f ++ k)) r, length-append c (kid_count (more e done) ∷ f ++ k), length-append f k, length-append (write_e e) [], length-append (write_e e) (k ++ r), length-append k r)

-- how a WITH's sort keys are read, by its kind: their words are those up to the end of the clause
module _ (names : ℕ) {kind : ℕ} where
  abbrev keys_read : IsWith kind → List ℕ → Got Keys
  keys_read (inl k) = no_keys names
  keys_read (inr k) = some_keys names

  with-body : (k : IsWith kind) (a b : ℕ) (l : List ℕ) → read_body names a b kind l ≡ read_with names a b (keys_read k) l
  unfolding read_body
  with-body (inl k) a b l = rw k
  with-body (inr k) a b l = rw k

  keys-give : (k : IsWith kind) (l : List ℕ) → Gives (keys_read k l) (λ ks r. l ≡ write_keys ks ++ r)
  unfolding no_keys some_keys counted_exprs write_keys
  keys-give (inl k) l = gave refl
  keys-give (inr k) l = after (after (word-gives 0 4294967296 l) (λ n r p. so (row_gives names max_depth (clause_expr names) (expr-gives names max_depth) n r) (λ es u q. cc))) (λ es r p. gave p)

module _ (ws : List ℕ) (names at : ℕ) (o : is_ok (read_clause names (drop at ws)) ≡ true) where
  abbrev P : Reader
  P = clause_expr names

  other-word : (get_or ws at 0 ≡ 2 → ⊥) × (IsWith (get_or ws at 0) → ⊥) → (c : Clause) (r : List ℕ) → read_clause names (drop at ws) ≡ ok c r → of_clause c at ≡ []
  other-word h c r e =
      let g : get_or (drop at ws) 0 0 ≡ get_or ws at 0 = get_or-drop at ws 0 0 ∙ (let z : at + 0 ≡ at = omega arith in rw z) in
      no-condition c at (drop at ws) r (clause-written names (drop at ws) c r e).0 (λ q. h.0 (sym g ∙ q)) (λ q. h.1 (rw g at q))

  -- a kind that has none, and a code that no kind has
  pub other-kind : (k : ClauseKind) → code_of k ≡ get_or ws at 0 → (k ≡ Where → ⊥) → (k ≡ With → ⊥) → (k ≡ SortedWith → ⊥) → (c : Clause) (r : List ℕ) → read_clause names (drop at ws) ≡ ok c r → of_clause c at ≡ []
  other-kind k e x y z = other-word (rw e at (other-code k x y z))

  pub no-kind : {e : Refusal} → Decodes (get_or ws at 0) (Err e) → (c : Clause) (r : List ℕ) → read_clause names (drop at ws) ≡ ok c r → of_clause c at ≡ []
  no-kind h = other-word (no-code (get_or ws at 0) h.1)

  -- a WHERE
  where-is : get_or ws at 0 ≡ 2 → read_clause names (drop at ws) ≡ read_where names (get_or ws (at + 1) 0) (get_or ws (at + 2) 0) (drop (at + 3) ws)
  unfolding read_body
  where-is k = (opens names ws at o).same ∙ rw k

  pub where-stands : get_or ws at 0 ≡ 2 → Stands ws names at (at + 3)
  unfolding read_where of_clause cond_e
  where-stands k =
      let s = where-is k in
      record {
        fine = one-fine P (drop (at + 3) ws) (ok-left (times 1 P no_more (drop (at + 3) ws)) _ (rw s at o));
        from = omega arith;
        within = (opens names ws at o).inside;
        is = λ c r e q h g. (
            let w : ok (reading where' (get_or ws (at + 1) 0) (get_or ws (at + 2) 0) (more e done)) q ≡ ok c r = rw (s, one-row P (drop (at + 3) ws) g) at h in
            let x : reading where' (get_or ws (at + 1) 0) (get_or ws (at + 2) 0) (more e done) ≡ c = cc in
            let y : q ≡ r = cc in
            (ap (λ (z : Clause). of_clause z at) (sym x), rw y (omega arith)));
      }

  -- a WITH, its projections read up to the word q
  module _ (k : IsWith (get_or ws at 0)) where
    with-is : read_clause names (drop at ws) ≡ read_with names (get_or ws (at + 1) 0) (get_or ws (at + 2) 0) (keys_read names k) (drop (at + 3) ws)
    with-is = (opens names ws at o).same ∙ with-body names k _ _ _

    pub projections-begin : at + 3 ≤ length ws
    projections-begin = (opens names ws at o).inside

    projections-fine : is_ok (counted (read_projection names) (drop (at + 3) ws)) ≡ true
    unfolding read_with
    projections-fine = ok-left (counted (read_projection names) (drop (at + 3) ws)) _ (rw with-is at o)

    pub projections-there : (r : Result ℕ Refusal) → Reads ws (at + 3) (counted (read_projection names)) r → IsOk r
    projections-there (Ok p) u = refl
    projections-there (Err e) u = refused (counted (read_projection names) (drop (at + 3) ws)) (number_of e) projections-fine u.same

    module _ (q : ℕ) (h : bare (counted (read_projection names) (drop (at + 3) ws)) ≡ ok tt (drop q ws)) where
      abbrev ps : List Projection
      ps = (was_read (counted (read_projection names) (drop (at + 3) ws)) h).0

      abbrev filtered : ℕ → List ℕ → Got Clause
      filtered g l = bind (times g P no_more l) (λ es r3. bind (keys_read names k r3) (λ ks r4. ok (with' (get_or ws (at + 1) 0) (get_or ws (at + 2) 0) ps es ks) r4))

      -- after the filter its sort keys follow
      keyed : (es : Exprs) (l : List ℕ) → Gives (bind (keys_read names k l) (λ ks r4. ok (with' (get_or ws (at + 1) 0) (get_or ws (at + 2) 0) ps es ks) r4)) (λ c r. (ks : Keys) × ((c ≡ with' (get_or ws (at + 1) 0) (get_or ws (at + 2) 0) ps es ks) × (l ≡ write_keys ks ++ r)))
      keyed es l = after (keys-give names k l) (λ ks r p. gave (ks, (refl, p)))

      flag_is : (q < length ws) × ((get_or ws q 0 < 2) × (read_clause names (drop at ws) ≡ filtered (get_or ws q 0) (drop (q + 1) ws)))
      unfolding read_with
      flag_is =
          let i = (was_read (counted (read_projection names) (drop (at + 3) ws)) h).1 in
          let s = rw i at with-is in
          let w = word-there 0 2 ws q (ok-left (flag (drop q ws)) _ (rw s at o)) in
          (w.0, (((word-gives 0 2 (drop q ws)).given (get_or ws q 0) (drop (q + 1) ws) w.1).2, rw w.1 at s))

      pub flag-inside : q < length ws
      flag-inside = flag_is.0

      pub filter-stands : at + 3 ≤ q → get_or ws q 0 ≡ 1 → Stands ws names at (q + 1)
      unfolding of_clause cond_e
      filter-stands f g =
          let s : read_clause names (drop at ws) ≡ filtered 1 (drop (q + 1) ws) = rw g at flag_is.1.1 in
          record {
            fine = one-fine P (drop (q + 1) ws) (ok-left (times 1 P no_more (drop (q + 1) ws)) _ (rw s at o));
            from = omega arith;
            within = omega (arith, flag_is.0);
            is = λ c r e u x y. (
                let w = (keyed (more e done) u).given c r (rw (s, one-row P (drop (q + 1) ws) y) at x) in
                let n = filter-begins ws at q (get_or ws (at + 1) 0) (get_or ws (at + 2) 0) ps e w.0 r (omega (arith, projections-begin)) flag_is.0 (clause-written names (drop at ws) _ r (rw w.1.0 at x)).0 (rw w.1.1 at (written names max_depth (drop (q + 1) ws) e u y).0) in
                (ap (λ (z : Clause). of_clause z at) w.1.0 ∙ ap (λ (i : ℕ). cond_e e i ∷ []) n, omega (arith, ap length w.1.1, length-append (write_keys w.0) r)));
          }

      pub no-filter : (get_or ws q 0 ≡ 1 → ⊥) → (c : Clause) (r : List ℕ) → read_clause names (drop at ws) ≡ ok c r → of_clause c at ≡ []
      unfolding of_clause times cond_e
      no-filter g c r x =
          let z : get_or ws q 0 ≡ 0 = omega (arith, flag_is.1.0, g) in
          let s : read_clause names (drop at ws) ≡ filtered 0 (drop (q + 1) ws) = rw z at flag_is.1.1 in
          ap (λ (u : Clause). of_clause u at) ((keyed done (drop (q + 1) ws)).given c r (rw s at x)).1.0

-- an arm: its clauses, after its span and their count
module _ (ws : List ℕ) (names at : ℕ) (o : is_ok (read_arm names (drop at ws)) ≡ true) where
  pub record ArmAt : Type 0 where
    pub start : ℕ
    pub stop : ℕ
    pub same : read_arm names (drop at ws) ≡ bind (many (read_clause names) (get_or ws (at + 2) 0) (drop (at + 3) ws)) (λ cs r. ok (arm start stop cs) r)
    pub inside : at + 3 ≤ length ws

  pub arm_at : ArmAt
  unfolding read_arm counted
  arm_at =
      let a = word-there 0 4294967296 ws at (ok-left (any_word (drop at ws)) _ o) in
      let p = rw a.1 at o in
      let b = word-there (get_or ws at 0) 4294967296 ws (at + 1) (ok-left (word_in (get_or ws at 0) 4294967296 (drop (at + 1) ws)) _ p) in
      let q = rw b.1 at p in
      let d = word-there 0 4294967296 ws (at + 1 + 1) (ok-left (any_word (drop (at + 1 + 1) ws)) _ (ok-left (bind (any_word (drop (at + 1 + 1) ws)) _) _ q)) in
      let y : at + 1 + 1 ≡ at + 2 = omega arith in
      let z : at + 1 + 1 + 1 ≡ at + 3 = omega arith in
      record { start = get_or ws at 0; stop = get_or ws (at + 1) 0; same = rw (a.1, b.1, d.1, z, y); inside = omega (arith, d.0) }
