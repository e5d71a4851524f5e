-- Worked examples of the tables of a header: a given number, a set with a letting before it, and a constraint that doesn't count.
use Rattle.std.specs.Prelude.{◌≡◌, refl, true, List, [], ◌∷◌, codes}
use Rattle.ess_semantics.specs.declared.words.ReprKind.{ReprKind}
use Rattle.ess_semantics.specs.Trees.{Repr, repr, no_reprs, more_reprs, Stm, truth_ex, such_that, given, given_enum, find, no_exs, bool_dom, set_dom}
use Rattle.ess_semantics.specs.Plans.{givens_side, finds_side, table_list}
use Rattle.ess_semantics.specs.ModelTrees.{header_of, Header, no_goal}
use Rattle.ess_translate_tables_laws.specs.HeaderTables.{DeclaresTables}

abbrev occurrence : Repr
occurrence = repr ReprKind.Occurrence no_reprs

abbrev marker : Repr
marker = repr ReprKind.ExplicitVarSizeWithMarker (more_reprs (repr ReprKind.Atom no_reprs) no_reprs)

-- given E new type enum, given b : bool, find s : set of bool, such that true
abbrev some : List Stm
some = given_enum (codes "E") ∷ given (codes "b") bool_dom ∷ find (codes "s") (set_dom [] no_exs bool_dom) ∷ such_that (truth_ex true) ∷ []

abbrev head : Header
head = header_of some ((codes "s", occurrence ∷ marker ∷ []) ∷ [])

-- The constraint doesn't stand in the header.
statements : head.statements ≡ given_enum (codes "E") ∷ given (codes "b") bool_dom ∷ find (codes "s") (set_dom [] no_exs bool_dom) ∷ []
statements = refl

-- The given tables: the number of the type's values, and one cell.
given_tables : table_list givens_side head.statements head.reprs ≡ (codes "E_Size", 0) ∷ (codes "b", 0) ∷ []
given_tables = refl

-- The tables of both representations.
found_tables : table_list finds_side head.statements head.reprs ≡
    (codes "s_Occurrence", 1) ∷ (codes "s_ExplicitVarSizeWithMarker_Marker", 0) ∷ (codes "s_ExplicitVarSizeWithMarker_Values", 1) ∷ []
found_tables = refl

-- A model without tables doesn't declare them.
none_declared : DeclaresTables head (record { givens = []; finds = []; goal = no_goal; rules = [] }) → ⊥
none_declared d = let k = d.givens in cc
