-- The words that are left fall, and where they don't, a rank of the function. A loop keeps how far its walk has come (`Turning`, `Counting`, `Rowing`).
use Rattle.std.proofs.Common.{◌*◌, ◌-◌, ◌+◌, length}
use Rattle.std.specs.Prelude.{Some}
use Rattle.heads.specs.Answer.{kind_of}
use Rattle.steps.specs.Memory.{words_in}
use Rattle.steps.specs.Modes.{mode_of}
use Rattle.walk.specs.Goes.{elem_at, mark_at, part_at}
use Rattle.walk.proofs.Stage.{Turning}
use Rattle.walk.proofs.Climb.{Counting, Rowing}
use Rattle.walk.proofs.+walks.Given as goal

-- eight for each word that is left, and the function's rank
abbrev pub decreases-walk_elem : goal.decreases-walk_elem
decreases-walk_elem l = 8 * (length (words_in l.context.now) - l.walk.now.at) + 2

abbrev pub decreases-walk_elems : goal.decreases-walk_elems
decreases-walk_elems l = 8 * (length (words_in l.context.now) - l.walk.now.at) + 3

abbrev pub decreases-walk_expr : goal.decreases-walk_expr
decreases-walk_expr l = 8 * (length (words_in l.context.now) - l.walk.now.at) + 0

abbrev pub decreases-walk_inner : goal.decreases-walk_inner
decreases-walk_inner l = 8 * (length (words_in l.context.now) - l.walk.now.at) + 2

abbrev pub decreases-walk_many : goal.decreases-walk_many
decreases-walk_many l = 8 * (length (words_in l.context.now) - l.walk.now.at) + 2

abbrev pub decreases-walk_mark : goal.decreases-walk_mark
decreases-walk_mark l = 8 * (length (words_in l.context.now) - l.walk.now.at) + 2

abbrev pub decreases-walk_marks : goal.decreases-walk_marks
decreases-walk_marks l = 8 * (length (words_in l.context.now) - l.walk.now.at) + 3

abbrev pub decreases-walk_part : goal.decreases-walk_part
decreases-walk_part l = 8 * (length (words_in l.context.now) - l.walk.now.at) + 2

abbrev pub decreases-walk_parts : goal.decreases-walk_parts
decreases-walk_parts l = 8 * (length (words_in l.context.now) - l.walk.now.at) + 3

abbrev pub decreases-walk_pattern : goal.decreases-walk_pattern
decreases-walk_pattern l = 8 * (length (words_in l.context.now) - l.walk.now.at) + 0

abbrev pub decreases-walk_rest : goal.decreases-walk_rest
decreases-walk_rest l = 8 * (length (words_in l.context.now) - l.walk.now.at) + 4

abbrev pub decreases-walk_row : goal.decreases-walk_row
decreases-walk_row l = 8 * (length (words_in l.context.now) - l.walk.now.at) + 1

abbrev pub invariant-walk_elems-loop : goal.invariant-walk_elems-loop
invariant-walk_elems-loop l = Turning (Some l.room) l.context l.initial.walk l.n (elem_at l.context l.room (mode_of l.mode)) l.walk l.counter

abbrev pub invariant-walk_marks-loop : goal.invariant-walk_marks-loop
invariant-walk_marks-loop l = Turning (Some l.room) l.context l.initial.walk l.n (mark_at l.context l.room (mode_of l.mode) (kind_of l.kind)) l.walk l.counter

abbrev pub invariant-walk_parts-loop : goal.invariant-walk_parts-loop
invariant-walk_parts-loop l = Turning (Some l.room) l.context l.initial.walk l.n (part_at l.context l.room (mode_of l.mode)) l.walk l.counter

-- the setting is the first one's until one is walked
abbrev pub invariant-walk_many-loop : goal.invariant-walk_many-loop
invariant-walk_many-loop l = Counting l.context l.initial.walk l.room l.mode l.n l.settings l.walk l.counter l.set

abbrev pub invariant-walk_row-loop-left : goal.invariant-walk_row-loop-left
invariant-walk_row-loop-left l = Rowing l.context l.initial.walk l.room l.mode l.n l.fn.settings l.walk l.left l.set l.later l.d

-- a word outweighs a level, and a level what is left there
abbrev pub decreases-walk_row-loop-left : goal.decreases-walk_row-loop-left
decreases-walk_row-loop-left l = (64 * (length (words_in l.context) - l.walk.at) + (l.room - l.d)) * 4294967296 + l.left
