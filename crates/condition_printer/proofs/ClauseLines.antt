-- A clause's line: its condition's text where it has one, and a line feed; an arm's lines are its clauses'.
use Prim.Native.Nat.{ℕ, ◌+◌, ◌≤◌}
use native.Mathlib.Omega.{arith}
use mathlib.Core.Path.{◌≡◌, refl, sym, ap, ◌∙◌}
use mathlib.Core.Bool.{true}
use mathlib.Core.List.{List, [], ◌∷◌, ◌++◌, append-nil, flat_map}
use lib.ListN.{length, get_or, drop, length-drop}
use Rattle.heads.specs.Got.{Got, ok, bind, bare, is_ok, many}
use Rattle.expr.specs.Tree.{Expr}
use Rattle.expr.specs.Read.{read_expr}
use Rattle.expr.specs.Write.{write_e}
use Rattle.expr.proofs.Accepted.{ok-inverse, ok-left}
use Rattle.clauses.specs.Tree.{Clause, arm}
use Rattle.clauses.specs.Read.{max_depth, read_clause, read_arm}
use Rattle.clauses.specs.Write.{write_clause, write_arm}
use Rattle.clauses.proofs.WrittenClause.{clause-written, arm_written}
use Rattle.condition_text.specs.Tree.{printed_at}
use Rattle.condition_text.specs.Write.{Wrote, Ready, Put}
use Rattle.condition_text.proofs.Stages.{Stage, begin, fits, piece, ready, part, further, put}
use Rattle.condition_printer.specs.Conditions.{of_clause, of_arm, in_row}
use Rattle.condition_printer.specs.Page.{page_of, text_of, row_words, Stands}
use Rattle.condition_printer.proofs.Clauses.{ArmAt, arm_at}

rest-is : {A : Type 0} {g : Got A} {x : A} {r q : List ℕ} → g ≡ ok x r → bare g ≡ ok tt q → r ≡ q
rest-is p q = let z = rw p at q in cc

module _ (ws : List ℕ) (names at k : ℕ) (old : List ℕ) (h : Ready (read_clause names (drop at ws)) ws at k (length old)) where
  abbrev found : Got Clause
  found = read_clause names (drop at ws)

  abbrev clause : Clause
  clause = (ok-inverse found h.fine).0

  abbrev after : List ℕ
  after = (ok-inverse found h.fine).1.0

  reads_so : found ≡ ok clause after
  reads_so = (ok-inverse found h.fine).1.1

  spelt : drop at ws ≡ write_clause clause ++ after
  spelt = (clause-written names (drop at ws) clause after reads_so).0

  -- the clause ends at the word `next`
  module _ (next : ℕ) (e : bare found ≡ ok tt (drop next ws)) (f : at ≤ next) (w : next ≤ length ws) where
    pub line-none : ((c : Clause) (r : List ℕ) → found ≡ ok c r → of_clause c at ≡ []) → Put found write_clause (text_of of_clause at) ws at k old old next k
    unfolding page_of flat_map
    line-none n = put (begin next 0 h f w (omega arith)) clause reads_so (rest-is reads_so e) spelt h.inside (sym (ap page_of (n clause after reads_so)))

    -- its condition stands at the word q
    module _ (q : ℕ) (s : Stands ws names at q) where
      abbrev condition : Expr
      condition = (ok-inverse (read_expr names max_depth (drop q ws)) s.fine).0

      abbrev behind : List ℕ
      behind = (ok-inverse (read_expr names max_depth (drop q ws)) s.fine).1.0

      condition-is : read_expr names max_depth (drop q ws) ≡ ok condition behind
      condition-is = (ok-inverse (read_expr names max_depth (drop q ws)) s.fine).1.1

      begun : Stage ws at k old [] q 15 old k
      begun = begin q 15 h (omega (arith, s.from)) s.within (omega (arith, s.from))

      module _ {x j : ℕ} {mid : List ℕ} (u : Put (read_expr names max_depth (drop q ws)) write_e (printed_at 0 q) ws q k old mid x j) where
        pub line-fits : j + 1 ≤ length mid
        line-fits = fits (part begun u condition behind condition-is) 1 1 (omega arith) (omega arith)

        pub line-put : {new : List ℕ} {end : ℕ} → Wrote (10 ∷ []) j mid new end → Put found write_clause (text_of of_clause at) ws at k old new next end
        unfolding page_of flat_map
        line-put v =
            let i = s.is clause after condition behind reads_so condition-is in
            let b = (u.is condition behind condition-is).0 in
            let d = rest-is reads_so e in
            let n : x ≤ next = omega (arith, i.1, ap length b, ap length d, length-drop x ws, length-drop next ws, u.within) in
            let g = further (piece (part begun u condition behind condition-is) 1 0 v (omega arith) (omega arith)) next n w in
            put g clause reads_so d spelt h.inside (sym (ap page_of i.0 ∙ append-nil (printed_at 0 q condition ++ (10 ∷ []))))

bind_ok : {A B : Type 0} {g : Got A} {x : A} {r : List ℕ} (f : A → B) → g ≡ ok x r → bind g (λ a q. ok (f a) q) ≡ ok (f x) r
bind_ok f e = rw e

-- an arm's clauses stand from the word at + 3 on
module _ (ws : List ℕ) (names at k : ℕ) (old : List ℕ) (h : Ready (read_arm names (drop at ws)) ws at k (length old)) where
  abbrev clauses : Got (List Clause)
  clauses = many (read_clause names) (get_or ws (at + 2) 0) (drop (at + 3) ws)

  an-arm : ArmAt ws names at h.fine
  an-arm = arm_at ws names at h.fine

  clauses-fine : is_ok clauses ≡ true
  clauses-fine = ok-left clauses _ (rw an-arm.same at h.fine)

  arm-begun : Stage ws at k old [] (at + 3) 0 old k
  arm-begun = begin (at + 3) 0 h (omega arith) an-arm.inside (omega arith)

  pub arm-ready : Ready clauses ws (at + 3) k (length old)
  arm-ready = ready arm-begun clauses clauses-fine h.few

  pub arm-put : {new : List ℕ} {next end : ℕ} → Put clauses (row_words write_clause) (text_of (in_row write_clause of_clause) (at + 3)) ws (at + 3) k old new next end → Put (read_arm names (drop at ws)) write_arm (text_of of_arm at) ws at k old new next end
  unfolding of_arm
  arm-put u =
      let i = ok-inverse clauses clauses-fine in
      let e : read_arm names (drop at ws) ≡ ok (arm an-arm.start an-arm.stop i.0) i.1.0 = an-arm.same ∙ bind_ok (arm an-arm.start an-arm.stop) i.1.1 in
      put (part arm-begun u i.0 i.1.0 i.1.1) (arm an-arm.start an-arm.stop i.0) e (u.is i.0 i.1.0 i.1.1).0 (arm_written names (drop at ws) _ i.1.0 e).0 h.inside refl
