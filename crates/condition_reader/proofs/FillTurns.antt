-- Filling, a token a turn: what is left for the machine is the same.
use Prim.Native.Nat.{ℕ, pred, ◌+◌, ◌*◌, ◌<◌, ◌≤◌}
use native.Mathlib.Omega.{arith}
use mathlib.Core.Path.{◌≡◌, refl, sym, ap, ◌∙◌}
use mathlib.Core.List.{List, [], ◌∷◌, reverse}
use mathlib.Core.Bool.{Bool, true, false}
use lib.Dec.{ltb}
use borrow.Author.Tests.{ltb-true, ltb-false}
use denote.Ref.{Bor}
use lib.ListN.{length, drop}
use Rattle.std.specs.Prelude.{Some}
use Rattle.condition_lexer.specs.Seen.{tok_of, last_of}
use Rattle.condition_lexer.specs.declared.Token.{Token}
use Rattle.std.proofs.lemmas.List.{length-reverse}
use Rattle.condition.specs.Tokens.{Tok, open', close', bad, number, un, bin, nothing, last, tokens, lex}
use Rattle.condition.specs.Machine.{empty, Work, work, depth_at, turn, run, weight, count_of}
use Rattle.condition.proofs.Lexing.{last_found, lex-found, lex-none}
use Rattle.condition.proofs.Reading.{Clean, clean-tail}
use Rattle.condition_lexer.proofs.Ends.{reverse_last, reverse_none}
use Rattle.condition_reader.specs.Fill.{stack_of, work_of, HasRoom, Starts, Unwound, Turned, Fillable, Filled}
use Rattle.condition_reader.specs.declared.machine.Machine.{Machine}

-- what a token tells of the text before it
pub record Tells (rest : List ℕ) (t : Tok) (before : List ℕ) : Type 0 where
  pub lexed : lex (reverse rest) ≡ t ∷ lex (reverse before)
  pub earlier : length before < length rest

pub tells : (rest : List ℕ) (token : Token) (before : Bor (List ℕ)) → last (reverse rest) ≡ last_of (Some (token, before)) → Tells rest (tok_of token) before.now
tells rest token before e =
    let g = last_found (reverse rest) (tok_of token) (reverse before.now) e in
    record { lexed = lex-found (reverse rest) e; earlier = omega (arith, g.shorter, length-reverse rest, length-reverse before.now) }

-- no token, and yet a text
pub none_left : (rest : List ℕ) → 1 ≤ length rest → last (reverse rest) ≡ nothing → lex (reverse rest) ≡ bad ∷ []
none_left rest h e = rw (reverse_last rest h) (lex-none _ _ (rw (reverse_last rest h) at e))

pub all_read : (rest : List ℕ) → length rest < 1 → lex (reverse rest) ≡ []
unfolding lex tokens
all_read rest h = rw (reverse_none rest h)

pub count-cons : (t : Tok) (ts us : List Tok) → us ≡ t ∷ ts → count_of us ≡ weight t + count_of ts
unfolding count_of
count-cons t ts us e = rw e

pub record Filling (text : List ℕ) (n : ℕ) (old : List ℕ) (rest : List ℕ) (m : Machine) : Type 0 where
  pub same : run (lex (reverse text)) 0 (work empty (drop (n * 2) old)) ≡ run (lex (reverse rest)) m.depth (work_of m)
  pub room : m.first ≡ m.waiting * 2 + count_of (lex (reverse rest)) * 2
  pub size : length m.list.now ≡ length old
  pub deep : m.depth + length rest ≤ length text
  pub clean : Clean (lex (reverse rest))

pub begins : {text : List ℕ} {n : ℕ} {old : List ℕ} {m : Machine} → Fillable text n old → Starts old n m → Filling text n old text m
unfolding stack_of
begins f s = record { same = rw (s.list, s.waiting, s.first, s.depth); room = omega (arith, f.count, s.waiting, s.first); size = rw s.list; deep = omega (arith, s.depth); clean = f.clean }

run-cons : (t : Tok) (ts us : List Tok) (d : ℕ) (w : Work) → us ≡ t ∷ ts → run us d w ≡ run ts (depth_at t d) (turn t d w)
unfolding run
run-cons t ts us d w e = rw e

deeper : (t : Tok) (d p q n : ℕ) → q < p → d + p ≤ n → depth_at t d + q ≤ n
deeper open' d p q n h g = let z : pred d + q ≤ n = omega arith in z
deeper close' d p q n h g = omega arith
deeper bad d p q n h g = omega arith
deeper (number k) d p q n h g = omega arith
deeper (un o) d p q n h g = omega arith
deeper (bin o) d p q n h g = omega arith

module _ {text : List ℕ} {n : ℕ} {old rest : List ℕ} {m : Machine} (f : Filling text n old rest m) where
  pub roomy : {t : Tok} {before : List ℕ} → Tells rest t before → HasRoom (weight t) m
  roomy {t} {before} x = omega (arith, f.room, count-cons t (lex (reverse before)) (lex (reverse rest)) x.lexed)

  pub turns : {t : Tok} {before : List ℕ} {m' : Machine} → Tells rest t before → Turned t m m' → Filling text n old before m'
  turns {t} {before} {m'} x u =
      let c = count-cons t (lex (reverse before)) (lex (reverse rest)) x.lexed in
      let l = u.lent in
      record {
        same = f.same ∙ (run-cons t (lex (reverse before)) (lex (reverse rest)) m.depth (work_of m) x.lexed ∙ rw (u.same, u.depth));
        room = omega (arith, f.room, u.room);
        size = l.size ∙ f.size;
        deep = rw u.depth (deeper t m.depth (length rest) (length before) (length text) x.earlier f.deep);
        clean = clean-tail t (lex (reverse before)) (rw x.lexed at f.clean);
      }

  pub done : {new : Machine} → last (reverse rest) ≡ nothing → Unwound 0 m new → Filled text n old new.list.now
  unfolding run Clean
  done {new} e u = go (ltb (length rest) 1) refl
    where
      go : (b : Bool) → ltb (length rest) 1 ≡ b → Filled text n old new.list.now
      go true h =
          let l = u.lent in
          record {
            at = new.first;
            same = sym (f.same ∙ (rw (all_read rest (ltb-true (length rest) 1 h)) (ap (λ (v : Work). v.out) u.same)));
            size = l.size ∙ f.size;
            within = new.within;
          }
      go false h = absurd (rw (none_left rest (ltb-false (length rest) 1 h) e) at f.clean)
