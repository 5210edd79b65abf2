-- Small statements, computed: `traps`, document 01's example and its traps; `sight`, what is visible where, and which names are bound twice;
-- `keys`, what sort keys see; `stars` and `over_star`, what a WITH carries by a star or an alias; `rowless`, variables without a row; `both` and
-- `sorted_kinds`, the findings of both walks. The definitions' edits are refused here.
use Rattle.std.specs.Prelude.{◌≡◌, refl, true, false, List, [], ◌∷◌, map, ℕ, None, Some}
use Rattle.words.specs.Decimal.{low_digits, width_within, width, decimal}
use Rattle.words.specs.Fnv.{use_id, fnv1_of, fnv_from, fnv_step}
use Rattle.heads.specs.declared.Form.TheVariants.{Leaf, Prop, ListPredicate}
use Rattle.expr.specs.Tree.{Expr, var, unresolved, node, predicate, comprehension, done, more, Steps, end, part, elem}
use Rattle.clauses.specs.Tree.{Clause, unsorted, sorted, Projection, projection, yield, match, opening, reading, where', with', return, unwind, call, arm}
use Rattle.tables.specs.Distinct.{same_bytes}
use Rattle.tables.specs.Index.{index_of}
use Rattle.tables.specs.Row.{row}
use Rattle.tables.specs.VarName.{var_name}
use Rattle.sheet.specs.Statement.{Statement}
use Rattle.scope.specs.Graph.{scope, indexed, generated, Carried, carried}
use Rattle.semantics.specs.Log.{Event, open', bind, carry, answer, find, finding, bound, write, found, missing, carries_in, logs}
use Rattle.semantics.specs.Resolve.{log, walk}
use Rattle.semantics.specs.Kinds.{kind_walk}
use Rattle.semantics.specs.Lists.{findings, lists}

-- two names, a and b, with a node each: variables 1 and 2
unfoldable pub small : List Clause → List Clause → Statement
small head other =
    record {
      names = (97 ∷ []) ∷ (98 ∷ []) ∷ [];
      bindings = row 1 0 1 0 0 ∷ row 2 1 1 0 0 ∷ [];
      head = head;
      arms = arm 0 0 other ∷ [];
      start = 0;
      stop = 9;
    }

-- (a) and (b), as patterns
unfoldable pub node_a : Steps
node_a = part None (elem 1 0 0 (Some 1) done end)

unfoldable pub node_b : Steps
node_b = part None (elem 1 0 0 (Some 2) done end)

-- a path with the variable 1
abbrev path : Steps → Steps
path p = part (Some 1) p

-- the use of the name b, and of a
unfoldable pub name_b : Expr
name_b = unresolved 1

unfoldable pub name_a : Expr
name_a = unresolved 0

abbrev root : Event
root = open' (scope 1 None 0 9)

-- the first MATCH of each, and a name that is not found
abbrev matched : List Event → List Event
matched l = root ∷ open' (scope 2 (Some 0) 1 2) ∷ bind false false (bound 1 (indexed 0) 1 1) ∷ l

abbrev lost : ℕ → ℕ → List Event
lost id x = answer (write id missing) ∷ find (finding 1001 0 0 (Some (indexed x)) 0 0) ∷ []

-- MATCH (a) WITH a RETURN b; MATCH (a) WITH nothing WHERE a: the old name is gone; RETURN a AS b WHERE b: the alias is not bound;
-- MATCH (a) OPTIONAL MATCH (a) UNWIND .. AS a: a visible node is not bound anew, an Unwind is, without a warning;
-- MATCH (a) UNION MATCH (a): the arm begins at scope 0, with the next number
pub traps : map (log true)
    (small (opening (match 0) 1 2 node_a ∷ with' 3 4 (projection None (var 1) ∷ []) done unsorted ∷ return 5 6 (projection None name_b ∷ []) unsorted ∷ []) []
    ∷ small (opening (match 0) 1 2 node_a ∷ with' 3 4 [] done unsorted ∷ reading where' 5 6 (more name_a done) ∷ []) []
    ∷ small (return 1 2 (projection (Some 1) (var 1) ∷ []) unsorted ∷ reading where' 3 4 (more name_b done) ∷ []) []
    ∷ small (opening (match 0) 1 2 node_a ∷ opening (match 1) 3 4 node_a ∷ unwind 5 6 1 (var 1) ∷ []) []
    ∷ small (opening (match 0) 1 2 node_a ∷ []) (opening (match 0) 3 4 node_a ∷ [])
    ∷ [])
    ≡ matched (answer (write 1 (found 1 1 0)) ∷ open' (scope 7 (Some 1) 3 4) ∷ carry (carried 2 (indexed 0) 1) ∷ open' (scope 1 (Some 2) 4 4) ∷ bind true false (bound 3 (indexed 0) 1 1) ∷ open' (scope 8 (Some 3) 5 6) ∷ lost 0xFAF3A282 1)
    ∷ matched (open' (scope 7 (Some 1) 3 4) ∷ open' (scope 1 (Some 2) 4 4) ∷ lost 0xFAF3A281 0)
    ∷ (root ∷ open' (scope 8 (Some 0) 1 2) ∷ answer (write 1 (found 1 1 0)) ∷ lost 0xFAF3A282 1)
    ∷ matched (open' (scope 2 (Some 1) 3 4) ∷ open' (scope 5 (Some 2) 5 6) ∷ bind false false (bound 3 (indexed 0) 1 4) ∷ [])
    ∷ matched (open' (scope 2 (Some 0) 3 4) ∷ bind false false (bound 2 (indexed 0) 1 1) ∷ [])
    ∷ []
unfolding small node_a name_a name_b logs walk use_id fnv1_of fnv_from fnv_step
traps = refl

-- WHERE [(b) | b], b after MATCH (a): the comprehension's b is visible within it alone; WHERE (a), a: a PatternPredicate is not resolved;
-- MATCH (a) UNION WHERE a: an arm sees nothing of the head; CALL .. YIELD a, a: one E1002; WITH a AS a, b AS a WHERE a: both are carried,
-- the later replaces; MATCH a = .., a = .. and MATCH a = .. MATCH a = ..: E1002 for the scope's own name alone
pub sight : map (log true)
    (small (opening (match 0) 1 2 node_a ∷ reading where' 3 4 (more (comprehension 5 6 node_b (more name_b done)) (more name_b done)) ∷ []) []
    ∷ small (reading where' 1 2 (more (predicate node_a) (more name_a done)) ∷ []) []
    ∷ small (opening (match 0) 1 2 node_a ∷ []) (reading where' 3 4 (more name_a done) ∷ [])
    ∷ small (call 1 2 done (yield 0 None 1 ∷ yield 0 None 2 ∷ []) ∷ []) []
    ∷ small (with' 1 2 (projection (Some 0) (var 1) ∷ projection (Some 0) (var 2) ∷ []) done unsorted ∷ reading where' 3 4 (more name_a done) ∷ []) []
    ∷ small (opening (match 0) 1 2 (path (path end)) ∷ []) []
    ∷ small (opening (match 0) 1 2 (path end) ∷ opening (match 0) 3 4 (path end) ∷ []) []
    ∷ [])
    ≡ matched (open' (scope 9 (Some 1) 5 6) ∷ bind false false (bound 2 (indexed 1) 2 1) ∷ answer (write 0xFAF3A282 (found 2 1 0)) ∷ lost 0xFAF3A282 1)
    ∷ (root ∷ lost 0xFAF3A281 0)
    ∷ matched (lost 0xFAF3A281 0)
    ∷ (root ∷ open' (scope 6 (Some 0) 1 2) ∷ bind false false (bound 1 (indexed 0) 1 4) ∷ bind false true (bound 1 (indexed 0) 2 4) ∷ find (finding 1002 1 2 (Some (indexed 0)) 0 0) ∷ [])
    ∷ (root ∷ answer (write 1 (found 1 1 0)) ∷ answer (write 2 (found 2 1 0)) ∷ open' (scope 7 (Some 0) 1 2) ∷ carry (carried 1 (indexed 0) 1) ∷ carry (carried 1 (indexed 0) 2) ∷ open' (scope 1 (Some 1) 2 2) ∷ bind true false (bound 2 (indexed 0) 1 1) ∷ bind true true (bound 2 (indexed 0) 2 1) ∷ answer (write 0xFAF3A281 (found 2 1 1)) ∷ [])
    ∷ (root ∷ open' (scope 2 (Some 0) 1 2) ∷ bind false false (bound 1 (indexed 0) 1 3) ∷ bind false true (bound 1 (indexed 0) 1 3) ∷ find (finding 1002 0 0 (Some (indexed 0)) 0 0) ∷ [])
    ∷ (root ∷ open' (scope 2 (Some 0) 1 2) ∷ bind false false (bound 1 (indexed 0) 1 3) ∷ open' (scope 2 (Some 1) 3 4) ∷ bind false false (bound 2 (indexed 0) 1 3) ∷ [])
    ∷ []
unfolding small node_a node_b name_a name_b logs walk use_id fnv1_of fnv_from fnv_step
sight = refl

-- Sort keys (document 02, CR 1). MATCH (a) WITH nothing ORDER BY a WHERE a: the key sees the list before the WITH, the Where doesn't;
-- MATCH (a) WITH b AS a ORDER BY a, [(b) | b]: the key sees the new scope first, and opens its scope under it;
-- RETURN 1 AS b ORDER BY b, [(b) | b], a: the alias is no use, also where a pattern binds its name; other names are
pub keys : map (log true)
    (small (opening (match 0) 1 2 node_a ∷ with' 3 4 [] done (sorted (more name_a done)) ∷ reading where' 5 6 (more name_a done) ∷ []) []
    ∷ small (opening (match 0) 1 2 node_a ∷ with' 3 4 (projection (Some 0) (var 2) ∷ []) done (sorted (more name_a (more (comprehension 5 6 node_b (more name_b done)) done))) ∷ []) []
    ∷ small (return 1 2 (projection (Some 1) (node (Leaf 3) done) ∷ []) (sorted (more name_b (more (comprehension 5 6 node_b (more name_b done)) (more name_a done)))) ∷ []) []
    ∷ [])
    ≡ matched (open' (scope 7 (Some 1) 3 4) ∷ open' (scope 1 (Some 2) 4 4) ∷ answer (write 0xFAF3A281 (found 1 1 0)) ∷ lost 0xFAF3A281 0)
    ∷ matched (answer (write 2 (found 2 1 0)) ∷ open' (scope 7 (Some 1) 3 4) ∷ carry (carried 2 (indexed 0) 2) ∷ open' (scope 1 (Some 2) 4 4) ∷ bind true false (bound 3 (indexed 0) 2 1) ∷ answer (write 0xFAF3A281 (found 2 1 1)) ∷ open' (scope 9 (Some 3) 5 6) ∷ bind false false (bound 4 (indexed 1) 2 1) ∷ answer (write 0xFAF3A282 (found 2 1 0)) ∷ [])
    ∷ (root ∷ open' (scope 8 (Some 0) 1 2) ∷ open' (scope 9 (Some 0) 5 6) ∷ bind false false (bound 2 (indexed 1) 2 1) ∷ lost 0xFAF3A281 0)
    ∷ []
unfolding small node_a node_b name_a name_b logs walk use_id fnv1_of fnv_from fnv_step
keys = refl

-- Carried or fresh (document 02, CR 3). MATCH (a) WITH a MATCH (b) WHERE a, b, and a by its variable: a came over the WITH, b didn't, a Var
-- says nothing; MATCH (a) WITH a WITH nothing ORDER BY a: the key's a came over the WITH before
pub over_with : map (log true)
    (small (opening (match 0) 1 2 node_a ∷ with' 3 4 (projection None name_a ∷ []) done unsorted ∷ opening (match 0) 5 6 node_b ∷ reading where' 7 8 (more name_a (more name_b (more (var 1) done))) ∷ []) []
    ∷ small (opening (match 0) 1 2 node_a ∷ with' 3 4 (projection None name_a ∷ []) done unsorted ∷ with' 5 6 [] done (sorted (more name_a done)) ∷ []) []
    ∷ [])
    ≡ matched (answer (write 0xFAF3A281 (found 1 1 0)) ∷ open' (scope 7 (Some 1) 3 4) ∷ carry (carried 2 (indexed 0) 1) ∷ open' (scope 1 (Some 2) 4 4) ∷ bind true false (bound 3 (indexed 0) 1 1) ∷ open' (scope 2 (Some 3) 5 6) ∷ bind false false (bound 4 (indexed 1) 2 1) ∷ answer (write 0xFAF3A281 (found 1 1 1)) ∷ answer (write 0xFAF3A282 (found 2 1 0)) ∷ answer (write 1 (found 1 1 0)) ∷ [])
    ∷ matched (answer (write 0xFAF3A281 (found 1 1 0)) ∷ open' (scope 7 (Some 1) 3 4) ∷ carry (carried 2 (indexed 0) 1) ∷ open' (scope 1 (Some 2) 4 4) ∷ bind true false (bound 3 (indexed 0) 1 1) ∷ open' (scope 7 (Some 3) 5 6) ∷ open' (scope 1 (Some 4) 6 6) ∷ answer (write 0xFAF3A281 (found 1 1 1)) ∷ [])
    ∷ []
unfolding small node_a node_b name_a name_b logs walk use_id fnv1_of fnv_from fnv_step
over_with = refl

-- the names a, b, `*` and c, with variables 1 and 3 of a, 2 of b, 4 of `*`; the use id of c is a variable, a relationship
unfoldable pub starry : List Clause → Statement
starry head =
    record {
      names = (97 ∷ []) ∷ (98 ∷ []) ∷ (42 ∷ []) ∷ (99 ∷ []) ∷ [];
      bindings = row 1 0 1 0 0 ∷ row 2 1 1 0 0 ∷ row 3 0 4 0 0 ∷ row 4 2 4 0 0 ∷ row 0xFAF3A283 3 2 0 0 ∷ [];
      head = head;
      arms = [];
      start = 0;
      stop = 9;
    }

abbrev all : Projection
all = projection None (unresolved 2)

-- MATCH (a) UNWIND .. AS b UNWIND .. AS a, and what a WITH carries after it
abbrev carried_after : List Projection → List Carried
carried_after ps = carries_in (log true (starry (opening (match 0) 1 2 node_a ∷ unwind 3 4 2 (var 1) ∷ unwind 5 6 3 (var 1) ∷ with' 7 8 ps done unsorted ∷ [])))

-- Stars (document 02, CR 2). WITH *: b, then a with its newest variable; WITH *, *: the same; WITH b AS c, *: the star's pairs first;
-- WITH b AS c, c AS b, * AS b: a name that is found under its alias, not those that are not; WITH 1 AS c: the use id of c;
-- UNWIND .. AS `*` UNWIND .. AS b WITH *: `*` is carried as any name, once; UNWIND .. AS `*` WITH * AS b: under its alias; UNWIND .. AS 9, which has no row,
-- WITH *: its generated name
pub stars :
    carried_after (all ∷ [])
    ∷ carried_after (all ∷ all ∷ [])
    ∷ carried_after (projection (Some 3) name_b ∷ all ∷ [])
    ∷ carried_after (projection (Some 3) name_b ∷ projection (Some 1) (unresolved 3) ∷ projection (Some 1) (unresolved 2) ∷ [])
    ∷ carried_after (projection (Some 3) (node (Leaf 3) done) ∷ [])
    ∷ carries_in (log true (starry (unwind 1 2 4 (var 1) ∷ unwind 3 4 2 (var 1) ∷ with' 5 6 (all ∷ []) done unsorted ∷ [])))
    ∷ carries_in (log true (starry (unwind 1 2 4 (var 1) ∷ with' 3 4 (projection (Some 1) (unresolved 2) ∷ []) done unsorted ∷ [])))
    ∷ carries_in (log true (starry (unwind 1 2 9 (var 1) ∷ with' 3 4 (all ∷ []) done unsorted ∷ [])))
    ∷ []
    ≡ (carried 4 (indexed 1) 2 ∷ carried 4 (indexed 0) 3 ∷ [])
    ∷ (carried 4 (indexed 1) 2 ∷ carried 4 (indexed 0) 3 ∷ [])
    ∷ (carried 4 (indexed 1) 2 ∷ carried 4 (indexed 0) 3 ∷ carried 4 (indexed 3) 2 ∷ [])
    ∷ (carried 4 (indexed 3) 2 ∷ [])
    ∷ (carried 4 (indexed 3) 0xFAF3A283 ∷ [])
    ∷ (carried 3 (indexed 2) 4 ∷ carried 3 (indexed 1) 2 ∷ [])
    ∷ (carried 2 (indexed 1) 4 ∷ [])
    ∷ (carried 2 (generated 9) 9 ∷ [])
    ∷ []
unfolding starry node_a name_b logs walk index_of same_bytes var_name decimal width width_within low_digits use_id fnv1_of fnv_from fnv_step
stars = refl

-- MATCH (a) WITH * RETURN a: a is found after the star; WITH 1 AS c RETURN c: the alias is found, with the table's kind
pub over_star : map (log true)
    (starry (opening (match 0) 1 2 node_a ∷ with' 3 4 (all ∷ []) done unsorted ∷ return 5 6 (projection None name_a ∷ []) unsorted ∷ [])
    ∷ starry (with' 3 4 (projection (Some 3) (node (Leaf 3) done) ∷ []) done unsorted ∷ return 5 6 (projection None (unresolved 3) ∷ []) unsorted ∷ [])
    ∷ [])
    ≡ matched (answer (write 0xFAF3A2CA missing) ∷ open' (scope 7 (Some 1) 3 4) ∷ carry (carried 2 (indexed 0) 1) ∷ open' (scope 1 (Some 2) 4 4) ∷ bind true false (bound 3 (indexed 0) 1 1) ∷ open' (scope 8 (Some 3) 5 6) ∷ answer (write 0xFAF3A281 (found 1 1 1)) ∷ [])
    ∷ (root ∷ open' (scope 7 (Some 0) 3 4) ∷ carry (carried 1 (indexed 3) 0xFAF3A283) ∷ open' (scope 1 (Some 1) 4 4) ∷ bind true false (bound 2 (indexed 3) 0xFAF3A283 2) ∷ open' (scope 8 (Some 2) 5 6) ∷ answer (write 0xFAF3A283 (found 0xFAF3A283 2 1)) ∷ [])
    ∷ []
unfolding starry node_a name_a logs walk use_id fnv1_of fnv_from fnv_step
over_star = refl

-- the names `__var7` and `__var07`, and no row
unfoldable pub unbound : List Clause → Statement
unbound head =
    record {
      names = (95 ∷ 95 ∷ 118 ∷ 97 ∷ 114 ∷ 55 ∷ []) ∷ (95 ∷ 95 ∷ 118 ∷ 97 ∷ 114 ∷ 48 ∷ 55 ∷ []) ∷ [];
      bindings = [];
      head = head;
      arms = [];
      start = 0;
      stop = 9;
    }

-- Variables without a row (document 02, CR 5). MATCH 7 = (5), 7 = ..: the text `__var7` is a name of the sheet, E1002 of which has its index; 5 has
-- a generated one; kinds by position. MATCH 5 = .., 5 = ..: E1002 of a generated name. MATCH (5)-[0]- MATCH (5), `__var7`: a visible name is not bound
-- anew, a leading zero is no part of it, a name that is not bound is not found. UNWIND .. AS 7 WITH 7 WHERE `__var7`: without an alias nothing is
-- carried. UNWIND .. AS 5 WITH 5 AS `__var7` WHERE `__var7`: what is carried and recorded is a Value
pub rowless : map (log true)
    (unbound (opening (match 0) 1 2 (part (Some 7) (elem 1 3 4 (Some 5) done (part (Some 7) end))) ∷ [])
    ∷ unbound (opening (match 0) 1 2 (part (Some 5) (part (Some 5) end)) ∷ [])
    ∷ unbound (opening (match 0) 1 2 (part None (elem 1 0 0 (Some 5) done (elem 2 0 0 (Some 0) done end))) ∷ opening (match 0) 3 4 (part None (elem 1 0 0 (Some 5) done end)) ∷ reading where' 5 6 (more (unresolved 0) done) ∷ [])
    ∷ unbound (unwind 1 2 7 (var 7) ∷ with' 3 4 (projection None (var 7) ∷ []) done unsorted ∷ reading where' 5 6 (more (unresolved 0) done) ∷ [])
    ∷ unbound (unwind 1 2 5 (var 5) ∷ with' 3 4 (projection (Some 0) (var 5) ∷ []) done unsorted ∷ reading where' 5 6 (more (unresolved 0) done) ∷ [])
    ∷ [])
    ≡ (root ∷ open' (scope 2 (Some 0) 1 2) ∷ bind false false (bound 1 (indexed 0) 7 3) ∷ bind false false (bound 1 (generated 5) 5 1) ∷ bind false true (bound 1 (indexed 0) 7 3) ∷ find (finding 1002 0 0 (Some (indexed 0)) 0 0) ∷ [])
    ∷ (root ∷ open' (scope 2 (Some 0) 1 2) ∷ bind false false (bound 1 (generated 5) 5 3) ∷ bind false true (bound 1 (generated 5) 5 3) ∷ find (finding 1002 0 0 (Some (generated 5)) 0 0) ∷ [])
    ∷ (root ∷ open' (scope 2 (Some 0) 1 2) ∷ bind false false (bound 1 (generated 5) 5 1) ∷ bind false false (bound 1 (generated 0) 0 2) ∷ open' (scope 2 (Some 1) 3 4) ∷ lost 0xDBD4A33E 0)
    ∷ (root ∷ open' (scope 5 (Some 0) 1 2) ∷ bind false false (bound 1 (indexed 0) 7 4) ∷ open' (scope 7 (Some 1) 3 4) ∷ open' (scope 1 (Some 2) 4 4) ∷ lost 0xDBD4A33E 0)
    ∷ (root ∷ open' (scope 5 (Some 0) 1 2) ∷ bind false false (bound 1 (generated 5) 5 4) ∷ open' (scope 7 (Some 1) 3 4) ∷ carry (carried 2 (indexed 0) 5) ∷ open' (scope 1 (Some 2) 4 4) ∷ bind true false (bound 3 (indexed 0) 5 4) ∷ answer (write 0xDBD4A33E (found 5 4 1)) ∷ [])
    ∷ []
unfolding unbound logs walk index_of same_bytes var_name decimal width width_within low_digits use_id fnv1_of fnv_from fnv_step
rowless = refl

-- the path p, and the names `id`, x and `*`
unfoldable pub pathed : List Clause → List Clause → Statement
pathed head other =
    record {
      names = (112 ∷ []) ∷ (105 ∷ 100 ∷ []) ∷ (120 ∷ []) ∷ (42 ∷ []) ∷ [];
      bindings = row 1 0 3 0 0 ∷ [];
      head = head;
      arms = arm 0 0 other ∷ [];
      start = 0;
      stop = 9;
    }

-- a property of the path
abbrev property : ℕ → Expr
property x = node (Prop x) (more (var 1) done)

-- RETURN p.id, p.x, any(y IN p WHERE 1) UNION RETURN x, *, p.x: the resolve walk's findings first, in them x alone; p.id has none; E2011
-- follows the iterable's; "arms get no kind check"
pub both : findings true
    (pathed
    (return 1 2 (projection None (property 1) ∷ projection None (property 2) ∷ projection None (node (ListPredicate 1) (more (var 1) (more (node (Leaf 3) done) done))) ∷ []) unsorted ∷ [])
    (return 3 4 (projection None (unresolved 2) ∷ projection None (unresolved 3) ∷ projection None (property 2) ∷ []) unsorted ∷ []))
    ≡ finding 1001 0 0 (Some (indexed 2)) 0 0 ∷ finding 2007 0 0 (Some (indexed 0)) 2 3 ∷ finding 5011 0 0 None 0 10 ∷ finding 2011 0 0 None 0 2 ∷ []
unfolding pathed logs walk kind_walk lists use_id fnv1_of fnv_from fnv_step
both = refl

-- WITH p.x ORDER BY p, any(y IN p WHERE 1) RETURN nothing ORDER BY p.x UNION RETURN nothing ORDER BY p.x: sort keys are general, after the clause's other expressions
pub sorted_kinds : findings true
    (pathed
    (with' 1 2 (projection None (property 2) ∷ []) done (sorted (more (var 1) (more (node (ListPredicate 1) (more (var 1) (more (node (Leaf 3) done) done))) done)))
    ∷ return 3 4 [] (sorted (more (property 2) done))
    ∷ [])
    (return 5 6 [] (sorted (more (property 2) done)) ∷ []))
    ≡ finding 2007 0 0 (Some (indexed 0)) 2 3 ∷ finding 5011 0 0 None 0 10 ∷ finding 2011 0 0 None 0 2 ∷ finding 2007 0 0 (Some (indexed 0)) 2 3 ∷ []
unfolding pathed logs walk kind_walk lists use_id fnv1_of fnv_from fnv_step
sorted_kinds = refl
