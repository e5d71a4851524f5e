-- The verdicts over statements that are prepared: what they ask of names is the same before and after.
use Rattle.std.specs.Prelude.{ℕ, Bool, false, ◌||◌, if◌then◌else◌, List, [], Option, Some, None, is_some, option_map}
use Rattle.std.specs.List.{list_any}
use Rattle.ess_semantics.specs.Lists.{or_else}
use Rattle.ess_semantics.specs.Values.{Text}
use Rattle.ess_semantics.specs.Names.{Names, keys}
use Rattle.ess_semantics.specs.Trees.{Stm}
use Rattle.ess_semantics.specs.Meaning.{empty_env}
use Rattle.ess_semantics.specs.Assignments.{Assignment, nothing_given, Placed, placed_from, unnamed_sizes}
use Rattle.ess_semantics.specs.Parameters.{ParamVerdict, missing_given, extra_name, first_missing, givens, given_enums, taken_value_names, first_extra_type, first_extra_value, first_verdict}
use Rattle.ess_semantics.specs.Solutions.{Verdict, valid, missing_find, extra_find, not_in_domain, false_constraint, no_objective, finds, first_extra_list, first_failing, find_is_member, constraint_holds, objective_has_value, name_of_find}
use Rattle.ess_semantics.specs.LargeSpecifications.{declares_large_number, asks_large_number}

-- The statements in their places.
abbrev pub places : List Stm → Assignment → Assignment → List Placed
places T p a = placed_from 1 T p a empty_env

-- The sizes of the unnamed types.
abbrev pub sizes : List Stm → Assignment → Assignment → Names ℕ
sizes T p a = unnamed_sizes (places T p a)

-- ---- a parameter

-- The first name of a parameter that is too many, where the unnamed types have these sizes.
abbrev pub extra_given_of : List Stm → Names ℕ → Assignment → Option Text
extra_given_of T us p =
    or_else (first_extra_type (givens T) (given_enums T) us p.types [] (taken_value_names T us))
    (first_extra_value (givens T) p.vals (keys p.types))

-- The same with the sizes that they have.
abbrev pub extra_given : List Stm → Assignment → Option Text
extra_given T p = extra_given_of T (sizes T p nothing_given) p

-- The verdict on a parameter.
abbrev pub param_verdict_over : List Stm → Assignment → ParamVerdict
param_verdict_over T p =
    elim (first_missing (givens T) p) [
      | Some x ↦ missing_given x
      | None ↦ elim (extra_given T p) [ Some x ↦ extra_name x | None ↦ first_verdict p (places T p nothing_given) ]
    ]

-- ---- a solution

-- The first name of a solution that is too many, where the unnamed types have these sizes.
abbrev pub extra_found_of : List Stm → Names ℕ → Assignment → Option Text
extra_found_of T us a = or_else (first_extra_list (finds T) us a.types []) (first_extra_value (finds T) a.vals (keys a.types))

-- The same with the sizes that they have.
abbrev pub extra_found : List Stm → Assignment → Assignment → Option Text
extra_found T p a = extra_found_of T (sizes T p a) a

-- The verdict of kinds: a find outside its domain; else the number of a false constraint; else whether an objective has no
-- value.
abbrev pub verdict_of_kinds : Option Placed → Option ℕ → Bool → Verdict
verdict_of_kinds (Some l) k b = not_in_domain (name_of_find l.stm)
verdict_of_kinds None (Some k) b = false_constraint k
verdict_of_kinds None None b = if b then no_objective else valid

-- What is left to say behind the names, where c is the first false constraint before these statements, and v says whether an
-- objective before them has no value.
abbrev pub values_verdict : Option ℕ → Bool → Assignment → List Placed → Verdict
values_verdict c v a ls =
    verdict_of_kinds (first_failing (find_is_member a) ls) (or_else c (option_map (λ l. l.number) (first_failing constraint_holds ls)))
    (v || is_some (first_failing objective_has_value ls))

-- The verdict on a solution.
abbrev pub verdict_over : List Stm → Assignment → Assignment → Verdict
verdict_over T p a =
    elim (first_missing (finds T) a) [
      | Some x ↦ missing_find x
      | None ↦ elim (extra_found T p a) [ Some x ↦ extra_find x | None ↦ values_verdict None false a (places T p a) ]
    ]

-- ---- numbers outside 64 bits

-- Whether what a parameter is asked has one.
abbrev pub has_large_declared : List Placed → Bool
has_large_declared ls = list_any (λ l. declares_large_number l.stm l.env) ls

-- Whether what a solution is asked has one.
abbrev pub has_large : List Placed → Bool
has_large ls = list_any (λ l. declares_large_number l.stm l.env || asks_large_number l.stm l.env) ls
