-- What the trees of a text of cells stand for over declared tables (the Conjure manual, chapter on its output, has them as the
-- parameters and solutions of Essence Prime): nested lists are tables. A list has one value for each member of the declared
-- axis, in order, and its index domain, where it has one, has the same members as the axis, however it is written.
use Rattle.std.specs.Prelude.{Bool, true, false, ◌&&◌, if◌then◌else◌, List, [], ◌∷◌, map, length, ℤ, Option, Some, None, nat_eq, option_map}
use Rattle.ess_semantics.specs.Lists.{and_then, when, is_some_and, each_of, append_all}
use Rattle.ess_semantics.specs.Values.{Text, Value, number, truth}
use Rattle.ess_semantics.specs.Order.{same_ints}
use Rattle.ess_semantics.specs.Names.{Names, keys, look, is_among, without}
use Rattle.ess_semantics.specs.Trees.{matrix_literal, Ex, Exs, node_ex, matrix_ex, no_exs, more_exs, Dom}
use Rattle.ess_semantics.specs.Meaning.{meaning, domain_of, empty_env, is_bool_dom}
use Rattle.ess_semantics.specs.DeclaredTables.{TableDecl, axis_members}
use Rattle.ess_semantics.specs.Tables.{Table, truth_number}
use Rattle.ess_semantics.specs.Satisfaction.{axis_of, in_declared}

-- ---- one table

-- The item that a value is: a truth value, as 0 or 1, in a table of truth values, a number in any other. Neither stands for
-- the other.
abbrev pub item_of_value : Bool → Option Value → Option ℤ
item_of_value true (Some (truth b)) = Some (truth_number b)
item_of_value false (Some (number n)) = Some n
item_of_value _ _ = None

-- Several expressions as a list.
abbrev pub exs_list : Exs → List Ex
exs_list no_exs = []
exs_list (more_exs e es) = e ∷ exs_list es

-- Whether an index domain has exactly the members of the axis.
abbrev pub is_index_of : List ℤ → Dom → Bool
is_index_of a d = is_some_and (axis_members (domain_of d empty_env)) (λ is. same_ints is a)

-- The values of a list over this axis.
abbrev pub list_over : List ℤ → Ex → Option (List Ex)
list_over a (node_ex b matrix_literal es) = when (nat_eq (length (exs_list es)) (length a)) (exs_list es)
list_over a (matrix_ex es d) = when (is_index_of a d && nat_eq (length (exs_list es)) (length a)) (exs_list es)
list_over a e = None

-- The items of lists over these axes, nested one in the other, row by row.
abbrev pub items_over : List (List ℤ) → Bool → Ex → Option (List ℤ)
items_over [] b e = option_map (λ n. n ∷ []) (item_of_value b (meaning e empty_env))
items_over (a ∷ as') b e = and_then (list_over a e) (λ es. option_map append_all (each_of es (items_over as' b)))

-- The table over these axes that an expression stands for, where it is one.
abbrev pub table_of : List (List ℤ) → Bool → Ex → Option Table
table_of as' b e = option_map (λ is. record { axes = as'; items = is }) (items_over as' b e)

-- ---- declared tables

-- The declared table that an expression stands for: over the declared axes, with items in the declared domain of cells, where
-- these have their meaning under the declarations `known` and the tables q. Nothing stands over an axis without a meaning, and
-- no item is in a domain without one.
abbrev pub declared_table : List TableDecl → Names Table → TableDecl → Ex → Option Table
declared_table known q d e =
    and_then (each_of d.axes (axis_of known q)) (λ as'.
    and_then (table_of as' (is_bool_dom d.cell) e) (λ t. when (in_declared known q d t) t))

-- What a text of cells is for declared tables: these tables, in order of declaration, or its first failure.
pub data CellsAnswer : Type 0 where
  tables : Names Table → CellsAnswer
  missing_letting extra_letting outside_domain : Text → CellsAnswer

-- The first declared name that no letting names.
abbrev pub first_missing : List TableDecl → List Text → Option Text
first_missing [] ns = None
first_missing (d ∷ ds) ns = if is_among ns d.name then first_missing ds ns else Some d.name

-- The first name that is none of those that are left: it isn't declared, or an earlier letting names it.
abbrev pub first_extra : List Text → List Text → Option Text
first_extra left [] = None
first_extra left (a ∷ ns) = if is_among left a then first_extra (without a left) ns else Some a

-- One more table in front.
abbrev pub with_table : Text → Table → CellsAnswer → CellsAnswer
with_table a t (tables ts) = tables ((a, t) ∷ ts)
with_table a t failure = failure

-- The tables in order of declaration, up to the first value that stands for none. The first letting of a name counts.
abbrev pub tables_of : List TableDecl → Names Table → List TableDecl → Names Ex → CellsAnswer
tables_of known q [] cs = tables []
tables_of known q (d ∷ ds) cs =
    elim (and_then (look cs d.name) (declared_table known q d)) [
      | None ↦ outside_domain d.name
      | Some t ↦ with_table d.name t (tables_of known q ds cs)
    ]

-- What the values cs of names are for the declared tables ds: first a name that is missing is looked for, then one too many,
-- then a value that stands for no declared table.
abbrev pub cells_answer : List TableDecl → Names Table → List TableDecl → Names Ex → CellsAnswer
cells_answer known q ds cs =
    elim (first_missing ds (keys cs)) [
      | Some x ↦ missing_letting x
      | None ↦ elim (first_extra (map (λ d. d.name) ds) (keys cs)) [
        | Some x ↦ extra_letting x
        | None ↦ tables_of known q ds cs
      ]
    ]
