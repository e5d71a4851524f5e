-- What the code goes through, at the pure views: statements in their places, and what the lettings before a letting have named.
use Rattle.std.specs.Prelude.{ℕ, List, [], map}
use Rattle.ess_semantics.specs.Values.{Text}
use Rattle.ess_semantics.specs.Names.{Names}
use Rattle.ess_semantics.specs.Trees as pure
use Rattle.ess_semantics.specs.Assignments.{Placed}
use Rattle.ess_semantics.specs.Parameters.{taken_value_names}
use Rattle.ess_core.specs.declared.statements.Stm.{Stm}
use Rattle.ess_core.specs.StatementViews.{pure_stm}
use Rattle.ess_domains.specs.declared.assignments.TypeNames.{TypeNames}
use Rattle.ess_domains.specs.declared.assignments.Assignment.{Assignment}
use Rattle.ess_domains.specs.declared.unnamed.TypeSize.{TypeSize}
use Rattle.ess_domains.specs.Assignments.{pure_type_names, pure_assignment}
use Rattle.ess_domains.specs.Earlier.{names_behind, values_behind}
use Rattle.ess_domains.specs.Prepared.{places}
use Rattle.ess_domains.specs.Sizes.{pure_size}

-- The statements.
abbrev pub pure_stms : List Stm → List pure.Stm
pure_stms stms = map pure_stm stms

-- The statements in their places, under a parameter and a solution.
abbrev pub walked : List Stm → Assignment → Assignment → List Placed
walked stms p a = places (pure_stms stms) (pure_assignment p) (pure_assignment a)

-- The sizes of unnamed types.
abbrev pub pure_sizes : List TypeSize → Names ℕ
pure_sizes us = map pure_size us

-- The lettings of types.
abbrev pub pure_types : List TypeNames → Names (List Text)
pure_types ts = map pure_type_names ts

-- The names of the types before, the newest first.
abbrev pub named_before : List TypeNames → List Text
named_before ts = names_behind (pure_types ts) []

-- The names that stand already, behind these types: those of their values, of declarations, and of values of unnamed types.
abbrev pub taken_before : List Stm → List TypeSize → List TypeNames → List Text
taken_before stms us ts = values_behind (pure_types ts) (taken_value_names (pure_stms stms) (pure_sizes us))
