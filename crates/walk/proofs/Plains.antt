-- What a plain head is by its code (`laws`, one line for each code): how it is read, its parts, their settings, and what it does itself.
-- `plain-read`: it is read there. `plain-expr`: an expression with such a head is what the head does, and then its parts in a row, a level
-- lower. `plain-calm`: where the shape has no bit for a setting, the head does nothing there.
use Prim.Native.Nat.{ℕ, zero, suc, ◌+◌, ◌/◌, ◌%◌, ◌^◌, ◌≤◌, ◌<◌}
use native.Mathlib.Omega.{arith}
use mathlib.Core.Path.{◌≡◌, refl, ap, ◌∙◌}
use mathlib.Core.Bool.{Bool, true, false, cond, ◌&&◌}
use mathlib.Core.List.{List, [], ◌∷◌}
use lib.Dec.{eqb}
use lib.ListN.{length, get_or, drop}
use borrow.Author.Tests.{lt-ltb, le-leb, eqb-true, eqb-false}
use Rattle.words.proofs.Words.{drop-word}
use Rattle.heads.specs.Got.{Got, ok, no, bind, word_in}
use Rattle.heads.specs.Form.{shape_of, limit_of, form_none, form_one, rest_of, read_form, kids_of, items_of}
use Rattle.heads.specs.declared.Form.{Form}
use Rattle.semantics.specs.Log.{Finding, e5010, e5011}
use Rattle.semantics.specs.World.{World}
use Rattle.semantics.specs.Resolve.{State}
use Rattle.semantics.specs.Kinds.{Setting, Pair, general, arithmetic, property, boolean, listed, both, passes, is_arithmetic, settings, type_of, at_type}
use Rattle.fused.specs.Fused.{Both, Mode, Go, when, told, step, same, tail_of, head_of, inner_go, rounds, row_go, rest_go, expr_go}
use Rattle.expr.proofs.Inverse.{never}
use Rattle.flat.proofs.Codes.{Each, ◌▹◌}
use Rattle.steps.specs.Modes.{setting_of, pair_of}
use Rattle.steps.specs.Hold.{cost_of}
use Rattle.steps.specs.declared.mode.Setting.{Setting as Setting'}
use Rattle.steps.specs.declared.mode.Setting.TheVariants.{General, Arithmetic, Property, Boolean, Indexed, Sliced, Iterated, Quantified}
use Rattle.steps.specs.declared.mode.Settings.{Settings}
use Rattle.steps.proofs.Heads.{none-counted}
use Rattle.walk.proofs.Codes.{both_true}
use Rattle.walk.specs.Plain.{shape, limit, headed, parts_of, type_by, number_of, Plain, Plainly}

-- ---- settings by their numbers in the shapes
abbrev setting_by : ℕ → Setting
setting_by n = get_or (general ∷ arithmetic ∷ property ∷ boolean ∷ listed e5010 1 ∷ listed e5010 2 ∷ listed e5010 3 ∷ listed e5011 0 ∷ []) n general

numbered : (s : Setting') → (number_of s < 8) × (setting_by (number_of s) ≡ setting_of s)
numbered General = (omega arith, refl)
numbered Arithmetic = (omega arith, refl)
numbered Property = (omega arith, refl)
numbered Boolean = (omega arith, refl)
numbered Indexed = (omega arith, refl)
numbered Sliced = (omega arith, refl)
numbered Iterated = (omega arith, refl)
numbered Quantified = (omega arith, refl)

-- the two that a shape has
abbrev pub pair_by : ℕ → Pair
pair_by t = both (setting_by (t / 256 % 8)) (setting_by (t / 2048 % 8))

pub paired : (p : Settings) (t : ℕ) → number_of p.first ≡ t / 256 % 8 → number_of p.later ≡ t / 2048 % 8 → pair_of p ≡ pair_by t
paired p t e f = rw (← e, ← f, (numbered p.first).1, (numbered p.later).1)

-- ---- each code
-- a head of one word and one of two, whose second word is in range
pub data Sort (code a : ℕ) : Type 0 where
  bare : shape_of code ≡ 1 → shape code % 2 ≡ 0 → Sort code a
  worded : shape_of code ≡ 2 → shape code % 2 ≡ 1 → ((names : ℕ) → (shape code / 64 % 2 ≡ 1 → a < names) → a < limit_of names code) → Sort code a

-- nothing stands between a head and its parts, nor after them
pub record Simple (f : Form) : Type 0 where
  pub items : items_of f ≡ 0
  pub inner : (w : World) (E : Mode → Setting → Go) (m : Mode) (s : Both) (r : List ℕ) → inner_go w E m f s r ≡ ok s r
  pub tail : (m : Mode) (s t : Both) → tail_of m f s t ≡ t

pub record Law (code a : ℕ) : Type 0 where
  pub sort : Sort code a
  pub kids : kids_of (headed code a) ≡ parts_of (shape code) a
  pub few : parts_of (shape code) a ≤ 524287
  pub cost : cost_of (headed code a) ≤ 1 + shape code % 2
  pub small : shape code < 16777216
  pub halved : shape code / 32 % 2 ≤ shape code / 16 % 2
  pub pair : (code ≡ 9 → ⊥) → (code ≡ 15 → ⊥) → (code ≡ 16 → ⊥) → (i : ℕ → Bool) (c : Setting) → pair_by (shape code) ≡ settings i (headed code a) c
  pub type : (code ≡ 7 → ⊥) → (code ≡ 8 → ⊥) → (w : World) (m : Mode) (c : Setting) (s : Both) → head_of w m (headed code a) c s ≡ step m same (at_type c (type_by code)) s
  pub simple : Simple (headed code a)

module _ {code a : ℕ} where
  of : Sort code a → kids_of (headed code a) ≡ parts_of (shape code) a → parts_of (shape code) a ≤ 524287 → cost_of (headed code a) ≤ 1 + shape code % 2 → shape code < 16777216 → shape code / 32 % 2 ≤ shape code / 16 % 2 → ((code ≡ 9 → ⊥) → (code ≡ 15 → ⊥) → (code ≡ 16 → ⊥) → (i : ℕ → Bool) (c : Setting) → pair_by (shape code) ≡ settings i (headed code a) c) → ((code ≡ 7 → ⊥) → (code ≡ 8 → ⊥) → (w : World) (m : Mode) (c : Setting) (s : Both) → head_of w m (headed code a) c s ≡ step m same (at_type c (type_by code)) s) → ((w : World) (E : Mode → Setting → Go) (m : Mode) (s : Both) (r : List ℕ) → inner_go w E m (headed code a) s r ≡ ok s r) → ((m : Mode) (s t : Both) → tail_of m (headed code a) s t ≡ t) → items_of (headed code a) ≡ 0 → Law code a
  of x k f o m h p t i l n = record { sort = x; kids = k; few = f; cost = o; small = m; halved = h; pair = p; type = t; simple = record { items = n; inner = i; tail = l } }

laws : Each (λ code. (a : ℕ) → 0 < shape code → a ≤ limit code → Law code a)
unfolding shape_of limit_of form_none form_one type_of settings
laws =
    (λ a h l. absurd (omega arith))  -- none
    ▹ (λ a h l. of (bare refl refl) (omega arith) (omega arith) (omega arith) (omega arith) (omega arith) (λ x y z i c. refl) (λ x y w m c s. none-counted _) (λ w E m s r. refl) (λ m s t. refl) refl)  -- 1 Null
    ▹ (λ a h l. of (bare refl refl) (omega arith) (omega arith) (omega arith) (omega arith) (omega arith) (λ x y z i c. refl) (λ x y w m c s. none-counted _) (λ w E m s r. refl) (λ m s t. refl) refl)  -- 2 Bool
    ▹ (λ a h l. of (bare refl refl) (omega arith) (omega arith) (omega arith) (omega arith) (omega arith) (λ x y z i c. refl) (λ x y w m c s. none-counted _) (λ w E m s r. refl) (λ m s t. refl) refl)  -- 3 Int
    ▹ (λ a h l. of (bare refl refl) (omega arith) (omega arith) (omega arith) (omega arith) (omega arith) (λ x y z i c. refl) (λ x y w m c s. none-counted _) (λ w E m s r. refl) (λ m s t. refl) refl)  -- 4 Float
    ▹ (λ a h l. of (bare refl refl) (omega arith) (omega arith) (omega arith) (omega arith) (omega arith) (λ x y z i c. refl) (λ x y w m c s. none-counted _) (λ w E m s r. refl) (λ m s t. refl) refl)  -- 5 String
    ▹ (λ a h l. of (bare refl refl) (omega arith) (omega arith) (omega arith) (omega arith) (omega arith) (λ x y z i c. refl) (λ x y w m c s. none-counted _) (λ w E m s r. refl) (λ m s t. refl) refl)  -- 6 Param
    ▹ (λ a h l. of (worded refl refl (λ names n. omega arith)) (omega arith) (omega arith) (omega arith) (omega arith) (omega arith) (λ x y z i c. refl) (λ x y w m c s. absurd (x refl)) (λ w E m s r. refl) (λ m s t. refl) refl)  -- 7 Var
    ▹ (λ a h l. of (worded refl refl (λ names n. n refl)) (omega arith) (omega arith) (omega arith) (omega arith) (omega arith) (λ x y z i c. refl) (λ x y w m c s. absurd (y refl)) (λ w E m s r. refl) (λ m s t. refl) refl)  -- 8 Unresolved
    ▹ (λ a h l. of (worded refl refl (λ names n. n refl)) (omega arith) (omega arith) (omega arith) (omega arith) (omega arith) (λ x y z i c. absurd (x refl)) (λ x y w m c s. refl) (λ w E m s r. refl) (λ m s t. refl) refl)  -- 9 Prop
    ▹ (λ a h l. of (bare refl refl) (omega arith) (omega arith) (omega arith) (omega arith) (omega arith) (λ x y z i c. refl) (λ x y w m c s. refl) (λ w E m s r. refl) (λ m s t. refl) refl)  -- 10 Index
    ▹ (λ a h l. of (worded refl refl (λ names n. omega arith)) (omega arith) (omega arith) (omega arith) (omega arith) (omega arith) (λ x y z i c. refl) (λ x y w m c s. refl) (λ w E m s r. refl) (λ m s t. refl) refl)  -- 11 Slice
    ▹ (λ a h l. of (worded refl refl (λ names n. omega arith)) (omega arith) (omega arith) (omega arith) (omega arith) (omega arith) (λ x y z i c. refl) (λ x y w m c s. refl) (λ w E m s r. refl) (λ m s t. refl) refl)  -- 12 List
    ▹ (λ a h l. of (worded refl refl (λ names n. omega arith)) (omega arith) (omega arith) (omega arith) (omega arith) (omega arith) (λ x y z i c. refl) (λ x y w m c s. refl) (λ w E m s r. refl) (λ m s t. refl) refl)  -- 13 Map
    ▹ (λ a h l. of (worded refl refl (λ names n. omega arith)) (omega arith) (omega arith) (omega arith) (omega arith) (omega arith) (λ x y z i c. refl) (λ x y w m c s. refl) (λ w E m s r. refl) (λ m s t. refl) refl)  -- 14 Call
    ▹ (λ a h l. of (worded refl refl (λ names n. omega arith)) (omega arith) (omega arith) (omega arith) (omega arith) (omega arith) (λ x y z i c. absurd (y refl)) (λ x y w m c s. refl) (λ w E m s r. refl) (λ m s t. refl) refl)  -- 15 BinOp
    ▹ (λ a h l. of (worded refl refl (λ names n. omega arith)) (omega arith) (omega arith) (omega arith) (omega arith) (omega arith) (λ x y z i c. absurd (z refl)) (λ x y w m c s. refl) (λ w E m s r. refl) (λ m s t. refl) refl)  -- 16 UnaryOp
    ▹ (λ a h l. absurd (omega arith))  -- 17 Case
    ▹ (λ a h l. of (bare refl refl) (omega arith) (omega arith) (omega arith) (omega arith) (omega arith) (λ x y z i c. refl) (λ x y w m c s. refl) (λ w E m s r. refl) (λ m s t. refl) refl)  -- 18 IsNull
    ▹ (λ a h l. of (bare refl refl) (omega arith) (omega arith) (omega arith) (omega arith) (omega arith) (λ x y z i c. refl) (λ x y w m c s. refl) (λ w E m s r. refl) (λ m s t. refl) refl)  -- 19 InList
    ▹ (λ a h l. absurd (omega arith))  -- 20 PatternPredicate
    ▹ (λ a h l. of (worded refl refl (λ names n. omega arith)) (omega arith) (omega arith) (omega arith) (omega arith) (omega arith) (λ x y z i c. refl) (λ x y w m c s. refl) (λ w E m s r. refl) (λ m s t. refl) refl)  -- 21 ListComprehension
    ▹ (λ a h l. absurd (omega arith))  -- 22 PatternComprehension
    ▹ (λ a h l. of (worded refl refl (λ names n. omega arith)) (omega arith) (omega arith) (omega arith) (omega arith) (omega arith) (λ x y z i c. refl) (λ x y w m c s. refl) (λ w E m s r. refl) (λ m s t. refl) refl)  -- 23 ListPredicate
    ▹ (λ a h l. absurd (omega arith))  -- 24 MapProjection
    ▹ (λ a h l. absurd (omega arith))  -- 25 ExistsSubqueryDeferred
    ▹ record { at = λ k a h l. absurd (omega arith) }

pub law : (code a : ℕ) → 0 < shape code → a ≤ limit code → Law code a
law code a h l = laws.at code a h l

-- ---- reading
module _ (ws : List ℕ) (at names : ℕ) where
  abbrev code : ℕ
  code = get_or ws at 0

  abbrev next : ℕ
  next = get_or ws (at + 1) 0

  read_as : Sort code next → at + 2 ≤ length ws → code < 4294967296 → (shape code / 64 % 2 ≡ 1 → next < names) → read_form names (drop at ws) ≡ ok (headed code next) (drop (at + 1 + shape code % 2) ws)
  unfolding read_form rest_of word_in
  read_as (bare e z) h l n =
      let here : at < length ws = omega arith in
      let end : at + 1 + 0 ≡ at + 1 = omega arith in
      rw (drop-word ws at here, le-leb 0 code (omega arith), lt-ltb code 4294967296 l, e, z, end)
  read_as (worded e z r) h l n =
      let here : at < length ws = omega arith in
      let there : at + 1 < length ws = omega arith in
      rw (drop-word ws at here, le-leb 0 code (omega arith), lt-ltb code 4294967296 l, e, z, drop-word ws (at + 1) there, le-leb 0 next (omega arith), lt-ltb next (limit_of names code) (r names n))

  pub plain-read : at + 2 ≤ length ws → code < 4294967296 → 0 < shape code → next ≤ limit code → (shape code / 64 % 2 ≡ 1 → next < names) → read_form names (drop at ws) ≡ ok (headed code next) (drop (at + 1 + shape code % 2) ws)
  plain-read h l p q n = read_as (law code next p q).sort h l n

-- what the words and the tests of the code say of the head there
pub plain-made : (ws : List ℕ) (names room at t : ℕ) → 0 < room → t ≡ shape (get_or ws at 0) → at + 2 ≤ length ws → get_or ws at 0 < 4294967296 → get_or ws (at + 1) 0 ≤ limit (get_or ws at 0) → (t / 64 % 2 ≡ 1 → get_or ws (at + 1) 0 < names) → Plainly ws names room at t
plain-made ws names room at zero r e h l q n = tt
plain-made ws names room at (suc t) r e h l q n =
    record { level = r; shaped = e; same = rw e (plain-read ws at names h l (omega arith) q (rw e at n)); within = h; limited = q; named = n }

pub plain-some : {ws : List ℕ} {names room at : ℕ} (t : ℕ) → (t ≡ 0 → ⊥) → Plainly ws names room at t → Plain ws names room at t
plain-some zero h p = absurd (h refl)
plain-some (suc t) h p = p

-- ---- what follows the head
ends : (g : Got Both) (F : Both → Both) → ((t : Both) → F t ≡ t) → bind (bind g (λ s2 r2. ok s2 r2)) (λ s2 r2. ok (F s2) r2) ≡ g
ends (ok u r) F e = ap (λ x. ok x r) (e u)
ends (no c) F e = refl

simple-rest : (w : World) (E : Mode → Setting → Go) (m : Mode) (f : Form) (c : Setting) (u s : Both) (r : List ℕ) → Simple f → bind (rest_go w E m f c s r) (λ s2 r2. ok (tail_of m f u s2) r2) ≡ row_go (E m) (kids_of f) (settings w.is_id f c) s r
unfolding rest_go rounds
simple-rest w E m f c u s r h =
    rw (h.inner w E m s r, h.items) (ends (row_go (E m) (kids_of f) (settings w.is_id f c) s r) (tail_of m f u) (h.tail m u))

pub plain-expr : (w : World) (names : ℕ) (d : ℕ) (m : Mode) (code a : ℕ) (c : Setting) (s : Both) (r p : List ℕ) → 0 < shape code → a ≤ limit code → read_form names r ≡ ok (headed code a) p → expr_go w names (suc d) m c s r ≡ row_go (expr_go w names d m) (parts_of (shape code) a) (settings w.is_id (headed code a) c) (head_of w m (headed code a) c s) p
unfolding expr_go
plain-expr w names d m code a c s r p h l q =
    let k = law code a h l in
    rw (q, ← k.kids) (simple-rest w (expr_go w names d) m (headed code a) c s (head_of w m (headed code a) c s) p k.simple)

-- ---- where the head does nothing
abbrev empty : List Finding → Bool
empty [] = true
empty (f ∷ fs) = false

abbrev below : ℕ → (ℕ → Bool) → Bool
below zero P = true
below (suc k) P = P k && below k P

below_at : (k : ℕ) (P : ℕ → Bool) (n : ℕ) → below k P ≡ true → n < k → P n ≡ true
below_at zero P n e h = absurd (omega arith)
below_at (suc k) P n e h = let x = both_true (P k) (below k P) e in go (eqb n k) refl x.0 (below_at k P n x.1)
  where
    go : (b : Bool) → eqb n k ≡ b → P k ≡ true → (n < k → P n ≡ true) → P n ≡ true
    go true q x y = rw (eqb-true n k q) x
    go false q x y = let z = eqb-false n k q in y (omega (arith, z))

-- the bit of a shape for a setting; where it is 0, the head's type finds nothing there
abbrev bit : ℕ → ℕ → ℕ
bit code n = shape code / 2 ^ (16 + n) % 2

abbrev calm : ℕ → ℕ → Bool
calm code n = cond (eqb (bit code n) 0) (empty (at_type (setting_by n) (type_by code))) true

calms : Each (λ code. 0 < shape code → below 8 (calm code) ≡ true)
unfolding at_type
calms =
    (λ h. refl) ▹ (λ h. refl) ▹ (λ h. refl) ▹ (λ h. refl) ▹ (λ h. refl) ▹ (λ h. refl) ▹ (λ h. refl) ▹ (λ h. refl) ▹ (λ h. refl) ▹ (λ h. refl) ▹ (λ h. refl) ▹ (λ h. refl) ▹ (λ h. refl) ▹ (λ h. refl) ▹ (λ h. refl) ▹ (λ h. refl) ▹ (λ h. refl) ▹ (λ h. refl) ▹ (λ h. refl) ▹ (λ h. refl) ▹ (λ h. refl) ▹ (λ h. refl) ▹ (λ h. refl) ▹ (λ h. refl) ▹ (λ h. refl) ▹ (λ h. refl) ▹ record { at = λ k h. absurd (omega arith) }

-- a use always does something
uses : (n : ℕ) → n < 8 → (bit 7 n ≡ 1) × (bit 8 n ≡ 1)
uses n h = (eqb-true _ _ (below_at 8 (λ n. eqb (bit 7 n) 1) n refl h), eqb-true _ _ (below_at 8 (λ n. eqb (bit 8 n) 1) n refl h))

still : (m : Mode) (l : List Finding) (s : Both) → empty l ≡ true → step m same l s ≡ s
unfolding told
still m (f ∷ fs) s e = never (cc)
still m [] s e = go m.resolves m.checks s.names s.kinds
  where
    go : (b d : Bool) (n : State) (k : List Finding) → ◌≡◌ {A = Both} (record { names = when b same n; kinds = when d (told []) k; olds = s.olds }) (record { names = n; kinds = k; olds = s.olds })
    go true true n k = refl
    go true false n k = refl
    go false true n k = refl
    go false false n k = refl

pub plain-calm : (code a : ℕ) (set : Setting') → 0 < shape code → a ≤ limit code → eqb (shape code / 2 ^ (16 + number_of set) % 2) 1 ≡ false → (w : World) (m : Mode) (s : Both) → head_of w m (headed code a) (setting_of set) s ≡ s
plain-calm code a set h l z w m s =
    let n = numbered set in
    let k = eqb-false (bit code (number_of set)) 1 z in
    let seven : code ≡ 7 → ⊥ = λ e. k (rw e (uses (number_of set) n.0).0) in
    let eight : code ≡ 8 → ⊥ = λ e. k (rw e (uses (number_of set) n.0).1) in
    let none : bit code (number_of set) ≡ 0 = omega (arith, k) in
    (law code a h l).type seven eight w m (setting_of set) s ∙ still m _ s (rw (none, n.1) at (below_at 8 (calm code) (number_of set) (calms.at code h) n.0))

-- ---- the settings that go by the word or by the head's own setting
module _ (i : ℕ → Bool) (code a : ℕ) (c : Setting) where
  pub prop-pair : code ≡ 9 → both (cond (i a) general property) general ≡ settings i (headed code a) c
  unfolding shape_of form_one settings
  prop-pair e = rw e

  pub binary-pair : code ≡ 15 → both (cond (is_arithmetic a) arithmetic general) (cond (is_arithmetic a) arithmetic general) ≡ settings i (headed code a) c
  unfolding shape_of form_one settings
  binary-pair e = rw e

  pub unary-pair : code ≡ 16 → both (passes c) general ≡ settings i (headed code a) c
  unfolding shape_of form_one settings
  unary-pair e = rw e
