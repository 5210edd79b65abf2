-- Judging, a token a turn: what is left to be judged is the same, and the window has the flag of every open level that it looks at.
use Prim.Native.Nat.{ℕ, suc, pred, max, ◌+◌, ◌-◌, ◌<◌, ◌≤◌}
use native.Mathlib.Omega.{arith}
use native.Mathlib.Numerals.{add-one}
use mathlib.Core.Path.{◌≡◌, refl, sym, ap, ◌∙◌}
use mathlib.Core.Bool.{Bool, true, false, not, ◌&&◌}
use mathlib.Core.List.{List, [], ◌∷◌, reverse}
use lib.Dec.{eqb}
use lib.ListN.{length}
use Rattle.condition.specs.Cond.{binary_level}
use Rattle.condition.specs.Tokens.{Tok, open', close', number, un, bin, nothing, last, lex}
use Rattle.condition.specs.Machine.{weight, count_of}
use Rattle.condition.specs.Judge.{is_wanted, is_there, unary_mode, may_join, flag_after}
use Rattle.condition.specs.declared.Mode.{Mode}
use Rattle.condition.specs.declared.Mode.TheVariants as mode
use Rattle.condition_reader.specs.Window.{window, flag_at, marked, Clear, Changes}
use Rattle.condition_reader.specs.Pass.{judge_in, peak, toks_of}
use Rattle.condition_reader.specs.declared.window.Window.{Window}
use Rattle.condition_reader.proofs.FillTurns.{Tells, count-cons, none_left, all_read}

-- the window has the flags of all levels, the deepest first
unfoldable pub Levels : Window → Bool → List Bool → Type 0
Levels w f [] = marked w 0 ≡ (window w.low 0 && f)
Levels w f (g ∷ fs) = (marked w (suc (length fs)) ≡ (window w.low (suc (length fs)) && f)) × Levels w g fs

levels-top : (w : Window) (f : Bool) (fs : List Bool) → Levels w f fs → marked w (length fs) ≡ (window w.low (length fs) && f)
unfolding Levels
levels-top w f [] h = h
levels-top w f (g ∷ fs) h = h.0

-- the same from an equal level on
moved : (a b : ℕ) → a ≡ b → (x : Bool) (d : ℕ) (f : Bool) → x ≡ (window b d && f) → x ≡ (window a d && f)
moved a b e x d f h = rw e h

and-false : (b : Bool) → false ≡ (b && false)
and-false true = refl
and-false false = refl

levels-clear : {low : ℕ} {w : Window} → Clear low w → Levels w false []
unfolding Levels
levels-clear {w = w} c = c.none 0 ∙ and-false (window w.low 0)

module _ {g : Bool → Bool} {old new : Window} where
  levels-other : {d : ℕ} → Changes d g old new → (f : Bool) (fs : List Bool) → length fs < d → Levels old f fs → Levels new f fs
  unfolding Levels
  levels-other c f [] lt h = moved new.low old.low c.from (marked new 0) 0 f (c.elsewhere 0 (λ e. omega arith) ∙ h)
  levels-other c f (k ∷ fs) lt h = (
    moved new.low old.low c.from (marked new (suc (length fs))) (suc (length fs)) f (c.elsewhere (suc (length fs)) (λ e. omega arith) ∙ h.0),
    levels-other c k fs (omega arith) h.1,
  )

  levels-here : (f : Bool) (fs : List Bool) → Changes (length fs) g old new → Levels old f fs → Levels new (g f) fs
  unfolding Levels
  levels-here f [] c h = moved new.low old.low c.from (marked new 0) 0 (g f) (c.here f h)
  levels-here f (k ∷ fs) c h = (
    moved new.low old.low c.from (marked new (suc (length fs))) (suc (length fs)) (g f) (c.here f h.0),
    levels-other c k fs (omega arith) h.1,
  )

  levels-close : (f : Bool) (fs : List Bool) → Changes (suc (length fs)) g old new → Levels old f fs → Levels new (g (flag_at old.flags (suc (length fs) - old.low))) (f ∷ fs)
  unfolding Levels
  levels-close f fs c h = (
    moved new.low old.low c.from (marked new (suc (length fs))) (suc (length fs)) (g (flag_at old.flags (suc (length fs) - old.low))) (c.here (flag_at old.flags (suc (length fs) - old.low)) refl),
    levels-other c f fs (omega arith) h,
  )

pub record Judging (text : List ℕ) (low : ℕ) (rest : List ℕ) (w : Window) (m : Mode) (depth deepest n : ℕ) : Type 0 where
  pub flag : Bool
  pub around : List Bool
  pub same : judge_in (window low) (toks_of text) mode.Wanted false [] ≡ judge_in (window low) (lex (reverse rest)) m flag around
  pub count : count_of (toks_of text) ≡ n + count_of (lex (reverse rest))
  pub deep : peak (toks_of text) 0 low ≡ peak (lex (reverse rest)) depth deepest
  pub level : depth ≡ length around
  pub from : w.low ≡ low
  pub levels : Levels w flag around
  pub room : (depth + length rest ≤ length text) × (n + length rest ≤ length text)

pub begins : {text : List ℕ} {low : ℕ} {w : Window} → Clear low w → Judging text low text w mode.Wanted 0 low 0
begins c = record { flag = false; around = []; same = refl; count = omega arith; deep = refl; level = refl; from = c.from; levels = levels-clear c; room = (omega arith, omega arith) }

is-wanted : (m : Mode) → is_wanted m ≡ true → m ≡ mode.Wanted
is-wanted mode.Wanted e = refl
is-wanted mode.There e = cc
is-wanted mode.Negated e = cc
is-wanted mode.Wrong e = cc

-- the first token, judged
module _ (W : ℕ → Bool) (ts : List Tok) (m : Mode) (f : Bool) (fs : List Bool) where
  judge-open-mode : is_there m ≡ false → judge_in W (open' ∷ ts) m f fs ≡ false
  unfolding judge_in
  judge-open-mode e = go fs
    where
      go : (gs : List Bool) → judge_in W (open' ∷ ts) m f gs ≡ false
      go [] = refl
      go (g ∷ gs) = rw e

  judge-open-none : length fs ≡ 0 → judge_in W (open' ∷ ts) m f fs ≡ false
  unfolding judge_in
  judge-open-none e = go fs e
    where
      go : (gs : List Bool) → length gs ≡ 0 → judge_in W (open' ∷ ts) m f gs ≡ false
      go [] z = refl
      go (g ∷ gs) z = absurd (omega arith)

  judge-close : (b : Bool) → is_wanted m ≡ b → judge_in W (close' ∷ ts) m f fs ≡ b && judge_in W ts mode.Wanted false (f ∷ fs)
  unfolding judge_in
  judge-close b e = rw e

  judge-number : (n : ℕ) (b : Bool) → is_wanted m ≡ b → judge_in W (number n ∷ ts) m f fs ≡ b && judge_in W ts mode.There f fs
  unfolding judge_in
  judge-number n b e = rw e

  judge-unary : (o : ℕ) (b : Bool) → is_there (unary_mode m o) ≡ b → judge_in W (un o ∷ ts) m f fs ≡ b && judge_in W ts (unary_mode m o) f fs
  unfolding judge_in
  judge-unary o b e = rw e

  judge-binary : (o : ℕ) (b c : Bool) → may_join m (binary_level o) ≡ b → (eqb (binary_level o) 4 && (W (length fs) && f)) ≡ c → judge_in W (bin o ∷ ts) m f fs ≡ b && (not c && judge_in W ts mode.Wanted (flag_after (binary_level o) f) fs)
  unfolding judge_in
  judge-binary o b c e g = rw (e, g)

  judge-none-mode : is_there m ≡ false → judge_in W [] m f fs ≡ false
  unfolding judge_in
  judge-none-mode e = go fs
    where
      go : (gs : List Bool) → judge_in W [] m f gs ≡ false
      go [] = e
      go (g ∷ gs) = refl

  judge-none-deep : 0 < length fs → judge_in W [] m f fs ≡ false
  unfolding judge_in
  judge-none-deep h = go fs h
    where
      go : (gs : List Bool) → 0 < length gs → judge_in W [] m f gs ≡ false
      go [] z = absurd (omega arith)
      go (g ∷ gs) z = refl

  judge-none : length fs ≡ 0 → judge_in W [] m f fs ≡ is_there m
  unfolding judge_in
  judge-none h = go fs h
    where
      go : (gs : List Bool) → length gs ≡ 0 → judge_in W [] m f gs ≡ is_there m
      go [] z = refl
      go (g ∷ gs) z = absurd (omega arith)

-- the levels around a bracket
record Opened (W : ℕ → Bool) (w : Window) (ts : List Tok) (m : Mode) (f : Bool) (fs : List Bool) : Type 0 where
  flag : Bool
  around : List Bool
  same : judge_in W (open' ∷ ts) m f fs ≡ judge_in W ts mode.There flag around
  level : length fs ≡ suc (length around)
  levels : Levels w flag around

opens : (W : ℕ → Bool) (w : Window) (ts : List Tok) (m : Mode) (f : Bool) (fs : List Bool) → 0 < length fs → is_there m ≡ true → Levels w f fs → Opened W w ts m f fs
unfolding judge_in Levels
opens W w ts m f [] h e l = absurd (omega arith)
opens W w ts m f (g ∷ fs) h e l = record { flag = g; around = fs; same = rw e; level = refl; levels = l.1 }

peak-cons : (t : Tok) (ts us : List Tok) (d b : ℕ) → us ≡ t ∷ ts → peak us d b ≡ peak (t ∷ ts) d b
peak-cons t ts us d b e = rw e

module _ {text : List ℕ} {low : ℕ} {rest : List ℕ} {w : Window} {m : Mode} {depth deepest n : ℕ} (j : Judging text low rest w m depth deepest n) where
  abbrev pub Whole : Bool → Type 0
  Whole b = judge_in (window low) (toks_of text) mode.Wanted false [] ≡ b

  module _ {before : List ℕ} {t : Tok} (x : Tells rest t before) where
    -- a token that can't stand here, or its turn
    refused : judge_in (window low) (t ∷ lex (reverse before)) m j.flag j.around ≡ false → Whole false
    refused e = (rw x.lexed at j.same) ∙ e

    taken : (w' : Window) (m' : Mode) (depth' deepest' n' : ℕ) (flag : Bool) (around : List Bool) → judge_in (window low) (t ∷ lex (reverse before)) m j.flag j.around ≡ judge_in (window low) (lex (reverse before)) m' flag around → peak (t ∷ lex (reverse before)) depth deepest ≡ peak (lex (reverse before)) depth' deepest' → depth' ≡ length around → w'.low ≡ w.low → Levels w' flag around → n' ≡ n + weight t → (depth' ≤ depth + 1) × (weight t ≤ 1) → Judging text low before w' m' depth' deepest' n'
    taken w' m' depth' deepest' n' flag around same deep level from levels count room =
        let c = count-cons t (lex (reverse before)) (lex (reverse rest)) x.lexed in
        let r = j.room in
        let e = x.earlier in
        record {
          flag = flag;
          around = around;
          same = (rw x.lexed at j.same) ∙ same;
          count = omega (arith, j.count);
          deep = j.deep ∙ (peak-cons t (lex (reverse before)) (lex (reverse rest)) depth deepest x.lexed ∙ deep);
          level = level;
          from = from ∙ j.from;
          levels = levels;
          room = (omega arith, omega arith);
        }

  pub open-mode : {before : List ℕ} → Tells rest open' before → is_there m ≡ false → Whole false
  open-mode {before} x e = refused x (judge-open-mode (window low) (lex (reverse before)) m j.flag j.around e)

  pub open-depth : {before : List ℕ} → Tells rest open' before → depth ≡ 0 → Whole false
  open-depth {before} x e = refused x (judge-open-none (window low) (lex (reverse before)) m j.flag j.around (omega (arith, j.level)))

  pub open_turn : {before : List ℕ} → Tells rest open' before → is_there m ≡ true → 0 < depth → Judging text low before w mode.There (depth - 1) deepest n
  unfolding peak
  open_turn {before} x e h =
      let o = opens (window low) w (lex (reverse before)) m j.flag j.around (omega (arith, j.level)) e j.levels in
      let s : pred depth ≡ depth - 1 = omega arith in
      taken x w mode.There (depth - 1) deepest n o.flag o.around o.same (ap (λ (d : ℕ). peak (lex (reverse before)) d deepest) s) (omega (arith, j.level, o.level)) refl o.levels (omega arith) (omega arith, omega arith)

  pub close-mode : {before : List ℕ} → Tells rest close' before → is_wanted m ≡ false → Whole false
  close-mode {before} x e = refused x (judge-close (window low) (lex (reverse before)) m j.flag j.around false e)

  pub close-turn : {before : List ℕ} {w' : Window} {deepest' : ℕ} → Tells rest close' before → is_wanted m ≡ true → Changes (depth + 1) (λ f. false) w w' → deepest' ≡ max deepest (depth + 1) → Judging text low before w' m (depth + 1) deepest' n
  unfolding peak
  close-turn {before} {w'} {deepest'} x e c k =
      taken x w' m (depth + 1) deepest' n false (j.flag ∷ j.around) (judge-close (window low) (lex (reverse before)) m j.flag j.around true e ∙ rw (is-wanted m e)) (rw (k, add-one depth)) (omega (arith, j.level)) c.from (levels-close j.flag j.around (rw (add-one depth, j.level) at c) j.levels) (omega arith) (omega arith, omega arith)

  pub number-mode : {before : List ℕ} {place : ℕ} → Tells rest (number place) before → is_wanted m ≡ false → Whole false
  number-mode {before} {place} x e = refused x (judge-number (window low) (lex (reverse before)) m j.flag j.around place false e)

  pub number-turn : {before : List ℕ} {place : ℕ} → Tells rest (number place) before → is_wanted m ≡ true → Judging text low before w mode.There depth deepest (n + 1)
  unfolding peak
  number-turn {before} {place} x e =
      taken x w mode.There depth deepest (n + 1) j.flag j.around (judge-number (window low) (lex (reverse before)) m j.flag j.around place true e) refl j.level refl j.levels (omega arith) (omega arith, omega arith)

  pub unary-mode : {before : List ℕ} {o : ℕ} {m' : Mode} → Tells rest (un o) before → m' ≡ unary_mode m o → is_there m' ≡ false → Whole false
  unary-mode {before} {o} x g e = refused x (judge-unary (window low) (lex (reverse before)) m j.flag j.around o false (rw g at e))

  pub unary-turn : {before : List ℕ} {o : ℕ} {m' : Mode} → Tells rest (un o) before → m' ≡ unary_mode m o → is_there m' ≡ true → Judging text low before w m' depth deepest (n + 1)
  unfolding peak
  unary-turn {before} {o} {m'} x g e =
      taken x w m' depth deepest (n + 1) j.flag j.around (judge-unary (window low) (lex (reverse before)) m j.flag j.around o true (rw g at e) ∙ rw g) refl j.level refl j.levels (omega arith) (omega arith, omega arith)

  -- what the window tells of a second comparison
  flag-read : marked w depth ≡ (window low (length j.around) && j.flag)
  flag-read = rw j.level (moved low w.low (sym j.from) (marked w (length j.around)) (length j.around) j.flag (levels-top w j.flag j.around j.levels))

  pub binary-mode : {before : List ℕ} {o l : ℕ} → Tells rest (bin o) before → l ≡ binary_level o → may_join m l ≡ false → Whole false
  binary-mode {before} {o} x g e = refused x (judge-binary (window low) (lex (reverse before)) m j.flag j.around o false (eqb (binary_level o) 4 && (window low (length j.around) && j.flag)) (rw g at e) refl)

  pub binary-chain : {before : List ℕ} {o l : ℕ} → Tells rest (bin o) before → l ≡ binary_level o → (eqb l 4 && marked w depth) ≡ true → Whole false
  binary-chain {before} {o} {l} x g r =
      refused x (judge-binary (window low) (lex (reverse before)) m j.flag j.around o (may_join m (binary_level o)) true refl (rw (g, flag-read) at r) ∙ sym (and-false (may_join m (binary_level o))))

  pub binary-turn : {before : List ℕ} {o l : ℕ} {w' : Window} → Tells rest (bin o) before → l ≡ binary_level o → may_join m l ≡ true → (eqb l 4 && marked w depth) ≡ false → Changes depth (flag_after l) w w' → Judging text low before w' mode.Wanted depth deepest (n + 1)
  unfolding peak
  binary-turn {before} {o} {l} {w'} x g a r c =
      taken x w' mode.Wanted depth deepest (n + 1) (flag_after l j.flag) j.around (judge-binary (window low) (lex (reverse before)) m j.flag j.around o true false (rw g at a) (rw (g, flag-read) at r) ∙ rw g) refl j.level c.from (levels-here j.flag j.around (rw j.level at c) j.levels) (omega arith) (omega arith, omega arith)

  pub bad-token : 1 ≤ length rest → last (reverse rest) ≡ nothing → Whole false
  unfolding judge_in
  bad-token h e = j.same ∙ rw (none_left rest h e)

  pub end-mode : length rest < 1 → is_there m ≡ false → Whole false
  end-mode e g = j.same ∙ rw (all_read rest e) (judge-none-mode (window low) [] m j.flag j.around g)

  pub end-depth : length rest < 1 → 0 < depth → Whole false
  end-depth e g = j.same ∙ rw (all_read rest e) (judge-none-deep (window low) [] m j.flag j.around (omega (arith, j.level)))

  pub end_reads : length rest < 1 → is_there m ≡ true → depth ≡ 0 → Whole true × ((n ≡ count_of (toks_of text)) × ((deepest ≡ peak (toks_of text) 0 low) × (n ≤ length text)))
  unfolding count_of peak
  end_reads e g h = (
    j.same ∙ rw (all_read rest e) (judge-none (window low) [] m j.flag j.around (omega (arith, j.level)) ∙ g),
    (let c = rw (all_read rest e) at j.count in omega arith, (sym (rw (all_read rest e) at j.deep), omega (arith, j.room))),
  )
