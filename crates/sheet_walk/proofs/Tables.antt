-- The two tables. A sheet is refused by the names first (`names-no`), then by the bindings (`rows-refuse`); where both are right, they are the
-- definition's (`both-read`), for with distinct variables the row that is found is the table's. The walks then go by the World of the names and
-- the bindings (`world`), their context is in order (`set`), and it has the names' use ids (`uses`): distinct names have `*` and `id` at one
-- index at most.
use Rattle.std.specs.Prelude.{Option, None, Some, Result, Ok, Err}
use Rattle.refusal.specs.declared.Refusal.{Refusal}
use Prim.Native.Nat.{ℕ, zero, suc, ◌+◌, ◌*◌, ◌<◌, ◌≤◌}
use native.Mathlib.Omega.{arith}
use mathlib.Core.Path.{◌≡◌, refl, ap, sym, subst, ◌∙◌}
use mathlib.Core.Bool.{Bool, true, false, ◌&&◌, and-true, and-false}
use mathlib.Core.List.{List, [], ◌∷◌, flat_map, append-nil}
use lib.Dec.{eqb, eqb-suc-suc}
use lib.ListN.{length, take, drop, get_or, length-take, length-drop, length-map}
use lib.Seq.{get_or-take, length-take-le}
use borrow.Author.Tests.{ne_eqb}
use Rattle.words.specs.Words.{words}
use Rattle.words.specs.Fnv.{use_id}
use Rattle.words.proofs.Words.{length-words}
use Rattle.heads.specs.Got.{ok, many}
use Rattle.heads.specs.Answer.{row_ids, is_in}
use Rattle.tables.specs.Distinct.{same_bytes, name_in, distinct}
use Rattle.tables.specs.Name.{name_words}
use Rattle.tables.specs.VarName.{var_name}
use Rattle.tables.specs.Row.{Row, read_row}
use Rattle.tables.proofs.Fresh.{same-comm}
use Rattle.tables.proofs.Front.{get_d_map}
use Rattle.tables.proofs.Index.{index_is}
use Rattle.sheet.specs.Trailer.{section}
use Rattle.sheet.specs.Read.{accepted, refused, locate, read_rows, read_sections, read_sheet}
use Rattle.sheet.specs.Answer.{InPlaces, Tabled}
use Rattle.sheet.specs.declared.trailer.Places.{Places}
use Rattle.sheet.proofs.Placing.{in-places}
use Rattle.sheet.proofs.Cutting.{ids-take}
use Rattle.sheet.proofs.Reading.{rows-read}
use Rattle.sheet.proofs.NameBytes.{names-words, names-give}
use Rattle.sheet.proofs.Accepted.{names-hold, rows-hold}
use Rattle.semantics.specs.World.{star_name, id_name, bytes_of, world_of}
use Rattle.fused.proofs.ApartStatement.{world_by, world_same}
use Rattle.rows.specs.Rows.{id_at, seek, shown, row_told}
use Rattle.rows.specs.Table.{row_by}
use Rattle.rows.specs.declared.Index.{Index}
use Rattle.rows.proofs.Chains.{seek-le}
use Rattle.rows.proofs.Found.{row-found}
use Rattle.steps.specs.Memory.{is_the, texts_in, world_at}
use Rattle.steps.specs.Hold.{Fine}
use Rattle.steps.specs.declared.context.Context.{Context}
use Rattle.tables.specs.Index as index
use Rattle.sheet_walk.specs.Parts.{Rowed, RowedAs, names_by, Reads, ReadsAs, Settles, Set, Uses}
use Rattle.sheet_walk.specs.declared.Choice.{Choice}
use Rattle.sheet_walk.proofs.Rows.{row_words_lem}

-- cause 3, and cause 4
pub names-no : (s : List ℕ) (p : Places) {places ids : List ℕ} → locate s ≡ accepted p → Tabled p.names (take (p.rows * 4) s) places ids false → read_sheet s ≡ refused 3
unfolding read_sheet read_sections
names-no s p placed t = rw (placed, t.same)

pub rows-refuse : (s : List ℕ) (p : Places) {places ids : List ℕ} {c : ℕ} → locate s ≡ accepted p → Tabled p.names (take (p.rows * 4) s) places ids true → read_rows p.names p.bindings (section (words s) p.rows p.head) ≡ refused c → read_sheet s ≡ refused c
unfolding read_sheet read_sections
rows-refuse s p placed t r = rw (placed, t.same, r)

-- each name takes a word at least
pub names-few : (n e : ℕ) (s : List ℕ) {places ids : List ℕ} → Tabled n (take (e * 4) s) places ids true → n ≤ e
names-few n e s t = omega (arith, t.many refl, length-take (e * 4) s)

-- ---- the bindings
module _ (s : List ℕ) (p : Places) (inside : InPlaces s p) (rs : List Row) (read : read_rows p.names p.bindings (section (words s) p.rows p.head) ≡ accepted rs) where
  -- they are read to the end of their section
  pub rows-all : many (read_row p.names) p.bindings (section (words s) p.rows p.head) ≡ ok rs []
  rows-all = ((rows-hold p.names p.bindings (section (words s) p.rows p.head)).held rs read).0

  pub rows-fill : p.rows + p.bindings * 5 ≤ p.head
  rows-fill =
      omega (arith, inside.rows, inside.head, inside.tail, inside.trailer, length-words s, length-take p.head (words s), length-drop p.rows (take p.head (words s)), (rows-read p.names p.bindings (section (words s) p.rows p.head) rs rows-all).1)

  long : p.head ≤ length (words s)
  long = omega (arith, inside.head, inside.tail, inside.trailer, length-words s)

  once : distinct is_in (row_ids p.bindings (drop p.rows (words s))) ≡ true
  once =
      sym (ap (distinct is_in) ((rows-read p.names p.bindings (section (words s) p.rows p.head) rs rows-all).0 ∙ ids-take p.bindings p.rows p.head (words s) rows-fill long))
      ∙ ((rows-hold p.names p.bindings (section (words s) p.rows p.head)).held rs read).1

  pub row-is : (ns : List (List ℕ)) (x : Index) → x.first ≡ p.rows → x.count ≡ p.bindings → (v : ℕ) → row_by x (words s) v ≡ (world_by true ns rs).row v
  unfolding world_of
  row-is ns x first count v =
      rw (first, count) (sym (row-found p.names p.bindings p.head (words s) [] rs p.rows v rows-all (omega (arith, rows-fill, long)) once))

  -- a row that is found has a name and a kind
  pub row-named : (x : Index) → x.first ≡ p.rows → x.count ≡ p.bindings → (v y k : ℕ) → shown (row_by x (words s) v) ≡ Some (y, k) → (y < p.names) × (k ≤ 4)
  row-named x first count v y k e = go (seek (id_at (words s) p.rows) v p.bindings) (seek-le (id_at (words s) p.rows) v p.bindings) (rw (first, count) at e)
    where
      go : (t : ℕ) → t ≤ p.bindings → shown (row_told (words s) p.rows t) ≡ Some (y, k) → (y < p.names) × (k ≤ 4)
      go zero h e = cc
      go (suc j) h e =
          let z = row_words_lem p.names p.bindings p.head p.rows (words s) rs rows-all j (omega arith) in
          let o : (get_or (words s) (p.rows + j * 5 + 1) 0, get_or (words s) (p.rows + j * 5 + 2) 0) ≡ (y, k) = cc in
          subst (λ (r : ℕ × ℕ). (r.0 < p.names) × (r.1 ≤ 4)) o z

-- where both tables are right
pub both-read : {s : List ℕ} {p : Places} {places ids chains : List ℕ} {x : Index} → locate s ≡ accepted p → Tabled p.names (take (p.rows * 4) s) places ids true → Rowed s p chains x → Reads s p places ids chains x
both-read {s} {p} {places} {x = x} placed t r =
    record {
      rows = r.rows;
      has = record { places = placed; names = t.same; rows = r.read };
      tabled = t;
      first = r.first;
      count = r.count;
      stands = r.stands;
      named = row-is s p (in-places s p placed) r.rows r.read (names_by s p places) x r.first r.count;
    }

pub reads-as : {s : List ℕ} {p : Places} {places ids old chains : List ℕ} → locate s ≡ accepted p → Tabled p.names (take (p.rows * 4) s) places ids true → (r : Result Index Refusal) → RowedAs s p old chains r → ReadsAs s p places ids chains r
reads-as placed t (Ok x) h = both-read placed t h.rowed
reads-as {s} {p} placed t (Err e) h = rows-refuse s p placed t h.rowed

-- ---- what the walks go by
-- the names `*` and `id` as texts that are the same
star-is : (y : List ℕ) → same_bytes (42 ∷ []) y ≡ star_name y
unfolding same_bytes star_name
star-is [] = refl
star-is (b ∷ []) = same-comm (42 ∷ []) (b ∷ []) ∙ and-true (eqb b 42)
star-is (b ∷ c ∷ s) = and-false (eqb 42 b)

id-is : (y : List ℕ) → same_bytes (105 ∷ 100 ∷ []) y ≡ id_name y
unfolding same_bytes id_name
id-is [] = refl
id-is (b ∷ []) = and-false (eqb 105 b)
id-is (b ∷ c ∷ []) = same-comm (105 ∷ 100 ∷ []) (b ∷ c ∷ []) ∙ ap (λ (t : Bool). eqb b 105 && t) (and-true (eqb c 100))
id-is (b ∷ c ∷ d ∷ s) = ap (λ (t : Bool). eqb 105 b && t) (and-false (eqb 100 c)) ∙ and-false (eqb 105 b)

-- a name by its number + 1
numbered-is : (x n : ℕ) (o : Option ℕ) → index.number_of o ≡ n → is_the x o ≡ eqb (suc x) n
numbered-is x n None e = rw (← e) (sym (ne_eqb (suc x) 0 (λ k. omega arith)))
numbered-is x n (Some y) e = rw (← e) (sym (eqb-suc-suc x y))

module _ {s : List ℕ} {p : Places} {choice : Choice} {x : Index} {places ids chains : List ℕ} {c : Context} (t : Reads s p places ids chains x) (q : Settles s p choice x places ids chains c) (used : length (words s) ≤ length ids) where
  inside : InPlaces s p
  inside = in-places s p t.has.places

  few : p.names ≤ p.rows
  few = names-few p.names p.rows s t.tabled

  enough : p.names ≤ length ids
  enough = omega (arith, used, few, inside.rows, inside.head, inside.tail, inside.trailer, length-words s)

  apart : distinct name_in (names_by s p places) ≡ true
  apart = ((names-hold p.names (take (p.rows * 4) s)).held (names_by s p places) t.has.names).1

  counted : length (names_by s p places) ≡ p.names
  counted =
      let ns = names_by s p places in
      sym (length-map ns use_id) ∙ ap length (sym (t.tabled.uses refl)) ∙ length-take-le p.names ids enough

  -- the names stand before the bindings
  before : length (flat_map name_words (names_by s p places)) ≤ p.rows
  before =
      let e = take (p.rows * 4) s in
      let h = (names-give p.names e).given (names_by s p places) [] ((names-hold p.names e).held (names_by s p places) t.has.names).0 in
      let y : words e ≡ flat_map name_words (names_by s p places) = ap words (h.0 ∙ append-nil _) ∙ names-words (names_by s p places) in
      omega (arith, ap length y, length-words e, length-take (p.rows * 4) s)

  texts : texts_in c ≡ names_by s p places
  texts = rw (q.texts, q.placed) refl

  fine : Fine c
  fine =
      record {
        short = rw q.bytes (omega (arith, inside.short, length-words s));
        standing = rw (q.indexed, q.rows, q.hung) t.stands;
        named = λ v y k e. rw q.names (row-named s p inside t.rows t.has.rows x t.first t.count v y k (rw (q.indexed, q.rows) at e));
        used = rw (q.names, q.uses) enough;
        texts = ap (λ (l : List (List ℕ)). length l) texts ∙ counted ∙ sym q.names;
      }

  pub set : Set p c
  set =
      record {
        places = rw q.bytes inside;
        fine = fine;
        names = q.names;
        few = omega (arith, few, inside.rows);
        short = rw q.texts (omega (arith, length-words (take (p.rows * 4) s), length-take (p.rows * 4) s, inside.short));
        apart = rw texts apart;
        before = rw texts (omega (arith, before, inside.rows));
        unhushed = λ x. rw q.hushed refl;
      }

  -- the use ids of the names
  abbrev pub id_by : ℕ → ℕ
  id_by x = use_id (get_or (names_by s p places) x [])

  pub world : world_at c id_by ≡ world_by choice.warns (names_by s p places) t.rows
  unfolding world_of bytes_of
  world =
      let ns = names_by s p places in
      world_same (world_at c id_by) (world_by choice.warns ns t.rows) (λ x. refl)
      (λ x. numbered-is x _ c.star q.star ∙ index_is (42 ∷ []) ns apart 42 [] refl x ∙ star-is (get_or ns x []))
      (λ x. numbered-is x _ c.ident q.ident ∙ index_is (105 ∷ 100 ∷ []) ns apart 105 (100 ∷ []) refl x ∙ id-is (get_or ns x []))
      (λ x. rw q.hushed refl)
      (λ v. rw (q.indexed, q.rows) (t.named v))
      (λ v. ap (λ (l : List (List ℕ)). index.index_of (var_name v) l) texts)
      q.warns

  pub uses : Uses c id_by
  uses y l =
      let k : y < p.names = omega (arith, l, q.names) in
      let ns = names_by s p places in
      ap (λ (a : List ℕ). get_or a y 0) q.uses ∙ sym (get_or-take p.names ids y 0 k) ∙ ap (λ (a : List ℕ). get_or a y 0) (t.tabled.uses refl) ∙ get_d_map use_id ns y [] 0 (omega (arith, counted))
