-- Laws of beginning with the sheet's names. The entries are those of the first i names (`Begun`): so it is at first (`begin`), a name that has the
-- text of a variable is one more (`room`, `one_more`), another is passed (`pass`), and at the end all are told (`done`). Since the names are distinct,
-- a name has an index exactly where its text stands there (`text-at`, `index-at`).
use Rattle.std.proofs.Common.{ℕ, zero, suc, ◌≡◌, ◌+◌, ◌*◌, ◌/◌, ◌^◌, ◌<◌, ◌≤◌, Bool, true, false, List, [], ◌∷◌, length, drop, get_or, refl, sym, ap, ◌∙◌, add-one, arith}
use mathlib.Core.List.{flat_map}
use Rattle.std.proofs.lemmas.List.{length-append, get_or_past}
use Rattle.std.proofs.lemmas.Slice.Eq.{bytes_eq-Decides}
use Rattle.std.proofs.Math.Seq.{drop-cons}
use borrow.Author.Count.{below_more}
use borrow.Author.Tests.{eq-eqb, eqb-true, ltb-true, ltb-false}
use lib.Dec.{eqb, ltb}
use Rattle.words.specs.Decimal.{decimal}
use Rattle.tables.specs.Distinct.{same_bytes, name_in, distinct}
use Rattle.tables.specs.Name.{name_words}
use Rattle.tables.specs.VarName.{var_name}
use Rattle.tables.proofs.Fresh.{same-eq, same-pointwise}
use Rattle.tables.proofs.Index.{index_is}
use Rattle.tables.proofs.Text.{padded-length}
use Rattle.tables.proofs.VarNames.{spelt, injective}
use Rattle.semantics.specs.World.{listed_name}
use Rattle.rows.proofs.Chains.{none-chained}
use Rattle.rows.specs.Slot.{slot_of}
use Rattle.rowless.specs.Rowless.{variable_at, place_at, most, Sound, Lacks, Still, Room, Adds, index_in, Fresh, Begins}
use Rattle.rowless.specs.declared.Rowless.{Rowless}
use Rattle.rowless.proofs.Entries.{named-listed}

-- a name with the text of a variable takes three words at least
three : (v : ℕ) → 3 ≤ length (name_words (var_name v))
unfolding name_words
three v = omega (arith, padded-length (var_name v), ap length (spelt v (var_name v) refl))

-- the words of the names from i on
abbrev pub words_from : List (List ℕ) → ℕ → ℕ
words_from names i = length (flat_map name_words (drop i names))

words-next : (names : List (List ℕ)) (i : ℕ) → i < length names → words_from names i ≡ length (name_words (get_or names i [])) + words_from names (i + 1)
unfolding flat_map
words-next names i h = rw (drop-cons names i [] h, add-one i) (length-append _ _)

module _ (names : List (List ℕ)) (d : distinct name_in names ≡ true) where
  found-at : (v x : ℕ) → eqb (suc x) (index_in names v) ≡ same_bytes (var_name v) (get_or names x [])
  found-at v x = index_is (var_name v) names d 95 (95 ∷ 118 ∷ 97 ∷ 114 ∷ decimal v) (spelt v (var_name v) refl) x

  text-at : (v x : ℕ) → index_in names v ≡ suc x → get_or names x [] ≡ var_name v
  text-at v x e = sym (same-eq _ _ (sym (found-at v x) ∙ eq-eqb (suc x) _ (sym e)))

  index-at : (v x : ℕ) → get_or names x [] ≡ var_name v → index_in names v ≡ suc x
  index-at v x e =
      let same : same_bytes (var_name v) (get_or names x []) ≡ true = same-pointwise _ _ ∙ (bytes_eq-Decides _ _).1 (sym e) in
      sym (eqb-true (suc x) _ (found-at v x ∙ same))

  index-low : (v x : ℕ) → index_in names v ≡ suc x → x < length names
  index-low v x e = go (ltb x (length names)) refl
    where
      go : (b : Bool) → ltb x (length names) ≡ b → x < length names
      go true l = ltb-true x _ l
      go false l =
          let none : [] ≡ var_name v = sym (get_or_past names x [] (ltb-false x _ l)) ∙ text-at v x e in
          let some = spelt v [] none in
          absurd (cc)

-- the entries are those of the first i names, and three words pay for each
pub record Begun (names : List (List ℕ)) (old r : Rowless) (i : ℕ) : Type 0 where
  pub still : Still old r
  pub listed : r.listed ≡ length names
  pub sound : Sound r
  pub paid : 3 * r.count + words_from names i ≤ length (flat_map name_words names)
  pub named : (j : ℕ) → j < r.count → index_in names (variable_at r.entries.now j) ≡ suc (place_at r.entries.now j)
  pub before : (j : ℕ) → j < r.count → place_at r.entries.now j < i
  pub all : (v : ℕ) → v < 2 ^ 32 → (x : ℕ) → x < i → index_in names v ≡ suc x → Lacks r v → ⊥

module _ {names : List (List ℕ)} {old r : Rowless} where
  pub begin : Fresh names old → Still old r → r.chains.now ≡ old.chains.now → r.listed ≡ length names → r.count ≡ 0 → Begun names old r 0
  begin f still same listed none =
      let slots : most r ≡ most old = ap (λ (k : ℕ). k / 2) still.slots in
      let whole : words_from names 0 ≡ length (flat_map name_words names) = refl in
      record {
        still = still;
        listed = listed;
        sound = record {
          some = omega (arith, f.fit, slots);
          small = rw slots f.small;
          few = omega arith;
          room = omega (arith, f.room, still.room, slots);
          chained = rw (slots, none) (none-chained (slot_of r.mult (most old)) (variable_at r.entries.now) (most old) r.chains.now (omega (arith, still.slots)) (rw same f.clear));
          apart = λ i j l h. absurd (omega arith);
          placed = λ i h. absurd (omega arith);
        };
        paid = omega arith;
        named = λ j h. absurd (omega arith);
        before = λ j h. absurd (omega arith);
        all = λ v h x l. absurd (omega arith);
      }

  -- a name that is no variable's
  pub pass : {i : ℕ} → Fresh names old → Begun names old r i → i < length names → ((v : ℕ) → v < 2 ^ 32 → get_or names i [] ≡ var_name v → ⊥) → Begun names old r (i + 1)
  pass {i} f b h other = record {
    still = b.still;
    listed = b.listed;
    sound = b.sound;
    paid = omega (arith, b.paid, words-next names i h);
    named = b.named;
    before = λ j l. omega (arith, b.before j l);
    all = λ v k. below_more (λ x. index_in names v ≡ suc x → Lacks r v → ⊥) i (b.all v k) (λ e lacks. other v k (text-at names f.apart v i e));
  }

  -- a name that has the text of a variable: no name before it has, so no entry is the variable's, and there is room for one
  module _ (i v : ℕ) (f : Fresh names old) (b : Begun names old r i) (h : i < length names) (text : get_or names i [] ≡ var_name v) where
    index : index_in names v ≡ suc i
    index = index-at names f.apart v i text

    words : 3 + words_from names (i + 1) ≤ words_from names i
    words = omega (arith, words-next names i h, three v, ap (λ (t : List ℕ). length (name_words t)) text)

    pub room : Room v i r
    room = record {
      sound = b.sound;
      lacks = λ j l e. omega (arith, b.before j l, b.named j l, ap (index_in names) e, index);
      few = omega (arith, words, b.paid, f.fit, b.still.slots);
      placed = omega (arith, b.listed);
    }

    pub one_more : {new : Rowless} → v < 2 ^ 32 → Adds v i r new → Begun names old new (i + 1)
    one_more {new} k a = record {
      still = record { hung = a.still.hung ∙ b.still.hung; listed = a.still.listed ∙ b.still.listed; slots = a.still.slots ∙ b.still.slots; room = a.still.room ∙ b.still.room };
      listed = a.listed ∙ b.listed;
      sound = a.sound;
      paid = omega (arith, words, b.paid, a.count);
      named = λ j l. below_more (λ j. index_in names (variable_at new.entries.now j) ≡ suc (place_at new.entries.now j)) r.count
          (λ j l. rw (a.variables j l, a.places j l) (b.named j l)) (rw (a.variable, a.place) index) j (omega (arith, a.count));
      before = λ j l. below_more (λ j. place_at new.entries.now j < i + 1) r.count
          (λ j l. omega (arith, a.places j l, b.before j l)) (omega (arith, a.place)) j (omega (arith, a.count));
      all = λ w m. below_more (λ x. index_in names w ≡ suc x → Lacks new w → ⊥) i
          (λ x l e lacks. b.all w m x l e (λ j l q. lacks j (omega (arith, a.count)) (a.variables j l ∙ q)))
          (λ e lacks. lacks r.count (omega (arith, a.count)) (a.variable ∙ injective v w k m (sym text ∙ text-at names f.apart w i e)));
    }

  -- all names
  pub done : {i : ℕ} → Fresh names old → Begun names old r i → length names ≤ i → Begins names old r
  unfolding listed_name
  done {i} f b h = record {
    still = b.still;
    listed = b.listed;
    sound = b.sound;
    right = record {
      here = λ j l. rw (b.named j l) (named-listed r (place_at r.entries.now j) (low j l));
      all = λ v k lacks. go v k lacks (index_in names v) refl;
    };
    paid = omega (arith, b.paid);
  }
    where
      low : (j : ℕ) → j < r.count → place_at r.entries.now j < r.listed
      low j l = omega (arith, b.listed, index-low names f.apart _ _ (b.named j l))

      go : (v : ℕ) → v < 2 ^ 32 → Lacks r v → (n : ℕ) → index_in names v ≡ n → index_in names v ≡ 0
      go v k lacks zero e = e
      go v k lacks (suc x) e = absurd (b.all v k x (omega (arith, index-low names f.apart v x e)) e lacks)
