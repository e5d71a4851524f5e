-- What type soundness asks of a tree beside its type: something of each cell and view, each pattern has the form of what it is
-- bound at, and an index domain is an atom. Of an index it is asked of what is indexed alone: a step chooses among what is
-- there. The tuples of a relation literal have parts, as they have in each text.
use Rattle.std.specs.Prelude.{◌≡◌, Bool, true, false, not, List, Option, Some, IsTrue}
use Rattle.ess_semantics.specs.Lists.{and_then, all_some}
use Rattle.ess_semantics.specs.Values.{a_tuple, Value}
use Rattle.ess_semantics.specs.Names.{Names}
use Rattle.ess_semantics.specs.Trees.{Op, index, relation_literal, Ex, Exs, number_ex, truth_ex, name_ex, node_ex, matrix_ex, comp_ex, cell_ex, seen_ex, no_exs, more_exs, Gens, no_gens, over, from, cond}
use Rattle.ess_semantics.specs.Types.{Ty, compound, no_tys, join_all, type_of_dom, bind_types}
use Rattle.ess_semantics.specs.Typing.{type_of, types_of, source_ty}
use Rattle.ess_semantics.specs.Kinds.{is_atom}
use Rattle.ess_semantics.specs.ExpressionJudgements.{pattern_fits}
use Rattle.ess_semantics.specs.NamesAt.{names_behind}
use Rattle.ess_semantics.specs.Meaning.{Env, meaning}
use Rattle.ess_semantics.specs.TypeMembers.{is_of_type}
use Rattle.ess_semantics.specs.Typed.{Typed}

-- Whether this is the type of tuples without parts. No text has such a tuple.
abbrev pub is_empty_tuple : Option Ty → Bool
is_empty_tuple (Some (compound a_tuple no_tys)) = true
is_empty_tuple t = false

-- The tuples of a relation literal have parts.
abbrev pub tuples_have_parts : Op → List (Option Ty) → Bool
tuples_have_parts relation_literal us = not (is_empty_tuple (and_then (all_some us) join_all))
tuples_have_parts op us = true

-- V says what is asked of a cell or a view under the types of names.
module _ (V : Ex → Names Ty → Type 0) where
  abbrev mutual
    -- The expression is so, under the types of names.
    pub BoundWith : Ex → Names Ty → Type 0
    BoundWith (number_ex n) g = Unit {0}
    BoundWith (truth_ex b) g = Unit {0}
    BoundWith (name_ex a) g = Unit {0}
    BoundWith (node_ex b (index qs) es) g = FirstBoundWith es g
    BoundWith (node_ex b op es) g = IsTrue (tuples_have_parts op (types_of es g)) × AreBoundWith es g
    BoundWith (matrix_ex es d) g = IsTrue (is_atom d) × AreBoundWith es g
    BoundWith (comp_ex e gs) g = GensBoundWith gs g × BoundWith e (names_behind gs g)
    BoundWith (cell_ex b n es) g = V (cell_ex b n es) g
    BoundWith (seen_ex r d ns es) g = V (seen_ex r d ns es) g

    -- The same of the first operand.
    pub FirstBoundWith : Exs → Names Ty → Type 0
    FirstBoundWith no_exs g = Unit {0}
    FirstBoundWith (more_exs e es) g = BoundWith e g

    -- The same of operands.
    pub AreBoundWith : Exs → Names Ty → Type 0
    AreBoundWith no_exs g = Unit {0}
    AreBoundWith (more_exs e es) g = BoundWith e g × AreBoundWith es g

    -- The same of generators.
    pub GensBoundWith : Gens → Names Ty → Type 0
    GensBoundWith no_gens g = Unit {0}
    GensBoundWith (over p d gs) g = IsTrue (pattern_fits p (type_of_dom d)) × GensBoundWith gs (bind_types p (type_of_dom d) g)
    GensBoundWith (from p e gs) g = IsTrue (pattern_fits p (source_ty e g)) × BoundWith e g × GensBoundWith gs (bind_types p (source_ty e g) g)
    GensBoundWith (cond e gs) g = BoundWith e g × GensBoundWith gs g

-- There are no cells and views.
abbrev pub no_tables : Ex → Names Ty → Type 0
no_tables e g = ⊥

-- The expression has none.
abbrev pub WellBound : Ex → Names Ty → Type 0
WellBound = BoundWith no_tables

-- The same of operands.
abbrev pub AreWellBound : Exs → Names Ty → Type 0
AreWellBound = AreBoundWith no_tables

-- The same of generators.
abbrev pub GensWellBound : Gens → Names Ty → Type 0
GensWellBound = GensBoundWith no_tables

-- Over the tables of the env, and under any values of names that have their types, the expression has nothing or a value of
-- its type. This is what is asked of a cell or a view where there are tables.
abbrev pub HasItsType : Env → Ex → Names Ty → Type 0
HasItsType env e g =
    (vals : Names Value) → Typed g (record env { vals = vals }) → (t : Ty) (v : Value) → type_of e g ≡ Some t → meaning e (record env { vals = vals }) ≡ Some v →
    IsTrue (is_of_type t env v)
