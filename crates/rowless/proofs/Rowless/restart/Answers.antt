-- The loop's invariant: the entries are those of the first i names.
use Rattle.std.proofs.Common.{◌≡◌, ◌<◌, sym, ◌∙◌, ℕ, List, [], length, get_or, refl, arith}
use Rattle.std.proofs.lemmas.List.{length-map}
use Rattle.tables.specs.Name.{name_at}
use Rattle.tables.specs.Answer.{names_at}
use Rattle.tables.proofs.Front.{get_d_map}
use Rattle.rowless.proofs.Listed.{begin, pass, room, one_more, done}
use Rattle.rowless.proofs.Rowless.restart.Goals.{in-Some, in_default}
use Rattle.rowless.proofs.Rowless.restart.Goals as goal

-- the name i by its place
low : (s places : List ℕ) (i : ℕ) → i < length places → i < length (names_at s places)
low s places i h = omega (arith, length-map places (name_at s))

text : (s places : List ℕ) (i : ℕ) {t : List ℕ} → i < length places → t ≡ name_at s (get_or places i 0) → get_or (names_at s places) i [] ≡ t
text s places i h e = get_d_map (name_at s) places i 0 [] h ∙ sym e

pub loop-i-init : goal.loop-i-init
loop-i-init c =
    begin c.requires.1 (record { hung = refl; listed = refl; slots = refl; room = refl }) refl (sym (length-map _ _)) refl

pub add-requires : goal.add-requires
add-requires c =
    (c.requires.0.0, room c.loop-i.i c.in-Some.v c.requires.1 c.loop-i.invariant (low _ _ _ c.loop-i-test.true) (text _ _ _ c.loop-i-test.true refl ∙ c.in-Some.ensures))

pub loop-i-preserved : goal.loop-i-preserved
loop-i-preserved c =
    let below = low c.args.section.now c.args.names.now c.loop-i.i c.loop-i-test.true in
    let here = text c.args.section.now c.args.names.now c.loop-i.i c.loop-i-test.true refl in
    elim c.match-var_at.branch
    [ in-Some w ↦ rw w.self-is (one_more c.loop-i.i w.in-Some.v c.requires.1 c.loop-i.invariant below (here ∙ w.in-Some.ensures) (omega arith) w.add.ensures) | in_default w ↦ rw w.self-is (pass c.requires.1 c.loop-i.invariant below (λ v h e. w.in_default.ensures v h (sym here ∙ e))) ]

pub returns : goal.returns
returns c =
    done c.requires.1 c.loop-i.invariant (omega (arith, length-map c.args.names.now (name_at c.args.section.now)))
