-- Worked examples: given tables, declarations and numbers of cells plan by plan, names with too many cells, and numbers in 64 bits.
use Rattle.std.specs.Prelude.{◌≡◌, refl, ℕ, true, false, List, [], ◌∷◌, pos, negsuc, Some, None, codes}
use Rattle.std.specs.Fmt.{digits}
use Rattle.ess_semantics.specs.declared.words.ReprKind.{ReprKind}
use Rattle.ess_semantics.specs.Values.{Text, item, node, a_set, of_list}
use Rattle.ess_semantics.specs.Names.{Names}
use Rattle.ess_semantics.specs.Trees.{repr, no_reprs, name_dom, Stm, given, given_enum, find}
use Rattle.ess_semantics.specs.Tables.{Table, one_cell, row_of}
use Rattle.ess_semantics.specs.Assignments.{Assignment}
use Rattle.ess_semantics.specs.Plans.{Options, givens_side, Plan, size_plan, value_plan, plans, declared_under, given_tables}
use Rattle.ess_semantics.proofs.Shorthands.{N, n, range, upto, set, v}
use Rattle.conjure_laws.specs.Premises.{here}
use Rattle.ess_translate_given_laws.specs.ByPlans.{tables_by_plans, declared_by_plans, cells_by_plans}
use Rattle.ess_translate_given_laws.specs.Counts.{first_above, first_plan_above}
use Rattle.ess_translate_given_laws.specs.Printable.{are_in_64_bits}

-- given E new type enum / given k : int(1..3) / given s : set of int(1..k) / given e : E / find t : set of E
abbrev small : List Stm
small =
    given_enum (codes "E") ∷ given (codes "k") (upto 3) ∷ given (codes "s") (set (range (n 1) (N (codes "k")))) ∷
    given (codes "e") (name_dom (codes "E")) ∷ find (codes "t") (set (name_dom (codes "E"))) ∷ []

-- The set is kept twice, by its occurrences.
abbrev twice : Options
twice = (codes "s", repr ReprKind.Occurrence no_reprs ∷ repr ReprKind.Occurrence no_reprs ∷ []) ∷ []

-- letting E be new type enum {a, b} / letting k be 2 / letting s be {2} / letting e be b
abbrev some_values : Assignment
some_values = record {
  types = (codes "E", codes "a" ∷ codes "b" ∷ []) ∷ [];
  vals =
      (codes "k", Some (v 2)) ∷ (codes "s", Some (node a_set (of_list (v 2 ∷ [])))) ∷ (codes "e", Some (item (codes "E") 2)) ∷ [];
}

-- The cell for the number of values, then the values: the named one by its position.
abbrev its_tables : Names Table
its_tables =
    (codes "E_Size", one_cell (pos 2)) ∷ (codes "k", one_cell (pos 2)) ∷
    (codes "s_Occurrence", row_of (pos 1 ∷ pos 2 ∷ []) (pos 0 ∷ pos 1 ∷ [])) ∷
    (codes "s_Occurrence_", row_of (pos 1 ∷ pos 2 ∷ []) (pos 0 ∷ pos 1 ∷ [])) ∷ (codes "e", one_cell (pos 2)) ∷ []

has_tables : given_tables small twice some_values ≡ Some its_tables
unfolding digits
has_tables = refl

-- Plan by plan they are the same, and the find adds none.
plan_by_plan : tables_by_plans givens_side (here small some_values) some_values (plans small twice) ≡ Some its_tables
unfolding digits
plan_by_plan = refl

declared_too : declared_by_plans givens_side (here small some_values) (plans small twice) ≡
    declared_under givens_side small twice some_values
unfolding digits
declared_too = refl

-- Both tables of `s` count, and nothing else does.
cells_of_s : cells_by_plans (codes "s") (here small some_values) (plans small twice) ≡ 4
unfolding digits
cells_of_s = refl

-- Where a value is missing there are no tables.
abbrev fewer_values : Assignment
fewer_values = record some_values { vals = (codes "k", Some (v 2)) ∷ [] }

no_tables : given_tables small twice fewer_values ≡ None
unfolding digits
no_tables = refl

-- ---- too many cells

abbrev plan_named : Text → Plan
plan_named x = value_plan givens_side x (repr ReprKind.Atom no_reprs) (upto 3) []

-- One cell more than may be in the second of the names alone.
abbrev numbers : Text → ℕ
numbers (a ∷ b ∷ []) = 16777217
numbers x = 16777216

at_the_limit : first_above numbers (codes "a" ∷ codes "b" ∷ []) ≡ None
at_the_limit = refl

above_it : first_above numbers (codes "a" ∷ codes "bb" ∷ codes "cc" ∷ []) ≡ Some (codes "bb", 16777217)
above_it = refl

-- Plans of one name count once, and sizes of types don't.
by_its_plan : first_plan_above numbers
    (size_plan (codes "TT") (codes "TT_Size") ∷ plan_named (codes "a") ∷ plan_named (codes "bb") ∷ plan_named (codes "bb") ∷ []) ≡
    Some (codes "bb", 16777217)
by_its_plan = refl

-- ---- numbers in 64 bits

greatest : are_in_64_bits ((codes "a", row_of (pos 1 ∷ []) (pos 9223372036854775807 ∷ [])) ∷ []) ≡ true
greatest = refl

too_great : are_in_64_bits ((codes "a", row_of (pos 1 ∷ []) (pos 9223372036854775808 ∷ [])) ∷ []) ≡ false
too_great = refl

great_index : are_in_64_bits ((codes "a", row_of (negsuc 9223372036854775807 ∷ []) (pos 1 ∷ [])) ∷ []) ≡ false
great_index = refl
