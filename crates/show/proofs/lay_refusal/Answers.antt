-- The number is laid where the word ended, and the line feed where the number did.
use Rattle.std.proofs.Common.{◌≡◌, ℕ, ◌+◌, ◌≤◌, List, ◌++◌, length, arith, subst, length-take, length-drop}
use Rattle.words.specs.Decimal.{decimal}
use Rattle.words.specs.Front.{put_front, put_length}
use Rattle.refusal.specs.Number.{number_of}
use Rattle.texts.specs.Bytes.{bytes}
use Rattle.texts.specs.Laid.{Lays}
use Rattle.texts.proofs.Laying.{rest, back, lays-then, lays-rest, lays-put}
use Rattle.show.specs.Printed.{refusal_text}
use Rattle.show.proofs.Printing.{refusal-long}
use Rattle.show.proofs.lay_refusal.Goals as goal

-- the digits, put into the rest of the page
number : (n : ℕ) {old mid after : List ℕ} {a q : ℕ} → Lays (bytes "refused ") old 0 mid a → length (refusal_text n) ≤ length old
    → (q ≡ put_length (decimal n) (rest a mid)) × (after ≡ put_front (decimal n) (rest a mid))
    → Lays (decimal n) mid a (back a mid after) (a + q)
number n {mid = mid} {a = a} p h e =
    let fits : a + length (decimal n) ≤ length mid = omega (arith, p.next, p.same, refusal-long n) in
    lays-rest (lays-put e (simp (length-take, length-drop) (omega (arith, fits)))) fits

pub lay-a-requires : goal.lay-a-requires
lay-a-requires c = omega (arith, refusal-long (number_of c.args.refusal), c.requires)

pub slice_bounds-put_decimal-count : goal.slice_bounds-put_decimal-count
slice_bounds-put_decimal-count c = omega (arith, refusal-long (number_of c.args.refusal), c.requires, c.lay-a.ensures.next, c.lay-a.ensures.same)

pub slice_bounds-put_decimal-start : goal.slice_bounds-put_decimal-start
slice_bounds-put_decimal-start c = omega (arith, refusal-long (number_of c.args.refusal), c.requires, c.lay-a.ensures.next, c.lay-a.ensures.same)

pub overflow_add-b : goal.overflow_add-b
overflow_add-b c =
    let room : length (refusal_text c.from.result) ≤ length c.args.page.now = rw c.from.ensures c.requires in
    let laid = number c.from.result c.lay-a.ensures room c.put_decimal.ensures in
    omega (arith, laid.next, c.lay-a.ensures.next, refusal-long c.from.result, room, c.well_formed)

pub lay-requires : goal.lay-requires
lay-requires c =
    let room : length (refusal_text c.from.result) ≤ length c.args.page.now = rw c.from.ensures c.requires in
    let laid = number c.from.result c.lay-a.ensures room c.put_decimal.ensures in
    omega (arith, laid.next, laid.same, c.lay-a.ensures.next, c.lay-a.ensures.same, refusal-long c.from.result, room)

pub returns : goal.returns
unfolding refusal_text
returns c =
    let room : length (refusal_text c.from.result) ≤ length c.args.page.now = rw c.from.ensures c.requires in
    let laid = number c.from.result c.lay-a.ensures room c.put_decimal.ensures in
    subst (λ n. Lays ((bytes "refused " ++ decimal n) ++ bytes "\n") c.args.page.now 0 c.lay.new.out c.lay.result) c.from.ensures
    (lays-then (lays-then c.lay-a.ensures laid) c.lay.ensures)
