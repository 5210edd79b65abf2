-- What an accepted sheet gives the printer: where its sections stand, its head and arms as the walks read them, and its conditions from these.
use Prim.Native.Nat.{ℕ, ◌≤◌}
use native.Mathlib.Omega.{arith}
use mathlib.Core.Path.{◌≡◌, refl, ap}
use mathlib.Core.List.{List, []}
use lib.ListN.{length, drop, length-take}
use Rattle.words.specs.Words.{words}
use Rattle.words.proofs.Words.{length-words}
use Rattle.heads.specs.Got.{ok, is_ok, many}
use Rattle.heads.specs.Answer.{words_of}
use Rattle.heads.specs.declared.Section.{Section}
use Rattle.expr.proofs.Inverse.{never}
use Rattle.clauses.specs.Tree.{Clause, Arm}
use Rattle.clauses.specs.Read.{read_clause, read_arm}
use Rattle.clauses.specs.Write.{write_clause, write_arm}
use Rattle.sheet.specs.Trailer.{places_of, section}
use Rattle.sheet.specs.Statement.{Statement}
use Rattle.sheet.specs.Read.{Sheet, accepted, refused, then', read_sheet}
use Rattle.sheet.specs.Answer.{InPlaces, Part, opened_as, with_value}
use Rattle.sheet.specs.declared.trailer.Places.{Places}
use Rattle.sheet.proofs.Walked.{walked}
use Rattle.sheet.proofs.Cutting.{part-words, holds}
use Rattle.condition_text.specs.Write.{Wrote, Ready, Put}
use Rattle.condition_text.proofs.Stages.{keeps, then-wrote}
use Rattle.condition_printer.specs.Conditions.{of_clause, of_arm, in_row, conditions_of, read_conditions}
use Rattle.condition_printer.specs.Page.{page_of, text_of, row_words, conds_in}
use Rattle.condition_printer.proofs.Rows.{page-append}

pub record Laid (s : List ℕ) (p : Places) : Type 0 where
  pub places : InPlaces s p
  pub head : List Clause
  pub arms : List Arm
  pub head_read : many (read_clause p.names) p.clauses (section (words s) p.head p.tail) ≡ ok head []
  pub arms_read : many (read_arm p.names) p.arms (section (words s) p.tail p.trailer) ≡ ok arms []
  pub conds : read_conditions s ≡ accepted (conditions_of p head arms)

module _ (s : List ℕ) where
  pub laid : (p : Places) → accepted p ≡ opened_as s → Laid s p
  unfolding read_conditions
  laid p f = go (read_sheet s) refl f
    where
      go : (x : Sheet Statement) → read_sheet s ≡ x → accepted p ≡ with_value (places_of (words s)) x → Laid s p
      go (accepted st) e f =
          let here : p ≡ places_of (words s) = cc in
          let w = walked s st e in
          rw here (record { places = w.places; head = st.head; arms = st.arms; head_read = w.head_read; arms_read = w.arms_read; conds = rw e })
      go (refused c) e f = never (cc)

  -- a sheet that is refused has none
  pub not-laid : {c : ℕ} → refused c ≡ opened_as s → read_conditions s ≡ refused c
  unfolding read_conditions
  not-laid {c} f = go (read_sheet s) f
    where
      go : (x : Sheet Statement) → refused c ≡ with_value (places_of (words s)) x → then' x (λ st. accepted (conditions_of (places_of (words s)) st.head st.arms)) ≡ refused c
      go (accepted st) f = never (cc)
      go (refused d) f = cc

module _ {s : List ℕ} {p : Places} (l : Laid s p) {x y : Section} (hx : Part s p p.tail x) (hy : Part s p p.trailer y) where
  head-long : length (words_of x) ≡ p.tail
  head-long =
      let i = l.places in
      omega (arith, ap length (part-words hx), length-take p.tail (words s), length-words s, i.tail, i.trailer)

  arms-long : length (words_of y) ≡ p.trailer
  arms-long =
      let i = l.places in
      omega (arith, ap length (part-words hy), length-take p.trailer (words s), length-words s, i.trailer)

  head-reads : many (read_clause x.names) p.clauses (drop p.head (words_of x)) ≡ ok l.head []
  head-reads = holds hx (λ ws names rows. many (read_clause names) p.clauses (drop p.head ws) ≡ ok l.head []) l.head_read

  arms-reads : many (read_arm y.names) p.arms (drop p.tail (words_of y)) ≡ ok l.arms []
  arms-reads = holds hy (λ ws names rows. many (read_arm names) p.arms (drop p.tail ws) ≡ ok l.arms []) l.arms_read

  pub head-ready : (k size : ℕ) → k ≡ 0 → 30720 ≤ size → Ready (many (read_clause x.names) p.clauses (drop p.head (words_of x))) (words_of x) p.head k size
  head-ready k size z h =
      let i = l.places in
      let n = head-long in
      record { fine = ap is_ok head-reads; inside = omega (arith, n, i.head); few = omega (arith, n, i.tail, i.trailer, i.short); room = omega (arith, n, i.tail, i.trailer, i.short) }

  -- the head was put
  module _ {old mid : List ℕ} {k next j : ℕ} (z : k ≡ 0) (u : Put (many (read_clause x.names) p.clauses (drop p.head (words_of x))) (row_words write_clause) (text_of (in_row write_clause of_clause) p.head) (words_of x) p.head k old mid next j) where
    head-wrote : Wrote (page_of (in_row write_clause of_clause l.head p.head)) k old mid j
    head-wrote = (u.is l.head [] head-reads).1.1

    pub arms-ready : 30720 ≤ length old → Ready (many (read_arm y.names) p.arms (drop p.tail (words_of y))) (words_of y) p.tail j (length mid)
    arms-ready h =
        let i = l.places in
        let n = arms-long in
        let m = head-long in
        let k = keeps head-wrote in
        record { fine = ap is_ok arms-reads; inside = omega (arith, n, i.tail); few = omega (arith, n, i.trailer, i.short); room = omega (arith, n, m, k, u.short, u.within, i.trailer, i.tail, i.head, i.short) }

    pub all-put : {new : List ℕ} {last end : ℕ} → Put (many (read_arm y.names) p.arms (drop p.tail (words_of y))) (row_words write_arm) (text_of (in_row write_arm of_arm) p.tail) (words_of y) p.tail j mid new last end → Wrote (page_of (conds_in (read_conditions s))) k old new end
    all-put v = rw (l.conds, page-append (in_row write_clause of_clause l.head p.head) (in_row write_arm of_arm l.arms p.tail)) (then-wrote head-wrote (v.is l.arms [] arms-reads).1.1)
