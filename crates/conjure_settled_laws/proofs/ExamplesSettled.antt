-- Worked examples: a specification says at each place what it says behind all statements, one that uses a name before its statement
-- doesn't, and no more does one that uses a name which a parameter could give.
use Rattle.std.specs.Prelude.{◌≡◌, refl, true, List, [], ◌∷◌, Some, None, codes}
use Rattle.ess_semantics.specs.declared.words.Op2.{Op2}
use Rattle.ess_semantics.specs.Values.{a_set, of_list, truth, item, node}
use Rattle.ess_semantics.specs.Names.{look}
use Rattle.ess_semantics.specs.Trees.{name_dom, bool_dom, Stm, given, given_enum, let_ex, let_enum, find, such_that}
use Rattle.ess_semantics.specs.Meaning.{meaning, empty_env}
use Rattle.ess_semantics.specs.Assignments.{Assignment, env_of}
use Rattle.ess_semantics.specs.Parameters.{Param}
use Rattle.ess_semantics.specs.Judgements.{unknown_name, fault}
use Rattle.ess_semantics.proofs.Shorthands.{N, n, bi, range, set, v}
use Rattle.conjure_laws.specs.Premises.{Settled}
use Rattle.conjure_settled_laws.specs.EndValues.{AreItems, valued_in, HasEndValues}
use Rattle.conjure_settled_laws.proofs.EndValues.{typed-has-end-values}
use Rattle.conjure_settled_laws.proofs.SettledStatements.{typed-is-settled}

-- given E new type enum / given k : int(1..3) / letting two be k + k / find s : set of int(1..two) / find e : E / such that k in s
abbrev typed_spec : List Stm
typed_spec =
    given_enum (codes "E") ∷ given (codes "k") (range (n 1) (n 3)) ∷ let_ex (codes "two") (bi Op2.Plus (N (codes "k")) (N (codes "k"))) ∷
    find (codes "s") (set (range (n 1) (N (codes "two")))) ∷ find (codes "e") (name_dom (codes "E")) ∷
    such_that (bi Op2.Member (N (codes "k")) (N (codes "s"))) ∷ []

-- It has no fault, so it is settled.
its_settled : Settled typed_spec
its_settled = typed-is-settled typed_spec refl

-- such that a / find a : bool: the name isn't known at its place.
abbrev too_early : List Stm
too_early = such_that (N (codes "a")) ∷ find (codes "a") bool_dom ∷ []

early_fault : fault too_early ≡ Some (unknown_name, 1)
early_fault = refl

-- At its place the constraint means nothing, behind all statements it is true: the specification isn't settled.
abbrev found_true : Assignment
found_true = record { types = []; vals = (codes "a", Some (truth true)) ∷ [] }

early_here : meaning (N (codes "a")) empty_env ≡ None
early_here = refl

early_behind : meaning (N (codes "a")) (env_of too_early found_true found_true) ≡ Some (truth true)
early_behind = refl

-- find b : bool / such that b / given E new type enum, where a file gives the type a value `b`: behind all statements the name is the
-- type's value. So a parameter gives new names alone.
abbrev type_last : List Stm
type_last = find (codes "b") bool_dom ∷ such_that (N (codes "b")) ∷ given_enum (codes "E") ∷ []

abbrev names_again : Assignment
names_again = record { types = (codes "E", codes "b" ∷ []) ∷ []; vals = [] }

abbrev b_is_true : Assignment
b_is_true = record { types = []; vals = (codes "b", Some (truth true)) ∷ [] }

hidden_behind : meaning (N (codes "b")) (env_of type_last names_again b_is_true) ≡ Some (item (codes "E") 1)
hidden_behind = refl

-- letting E be new type enum {a, b} / letting k be 2, and a solution with s = {2} and e = b
abbrev some_values : Assignment
some_values = record { types = (codes "E", codes "a" ∷ codes "b" ∷ []) ∷ []; vals = (codes "k", Some (v 2)) ∷ [] }

abbrev some_finds : Assignment
some_finds = record {
  types = [];
  vals = (codes "s", Some (node a_set (of_list (v 2 ∷ [])))) ∷ (codes "e", Some (item (codes "E") 2)) ∷ [];
}

some_param : Param typed_spec some_values
some_param = record {
  all_givens = refl;
  nothing_else = refl;
  have_meaning = refl;
  not_below_0 = refl;
  are_members = refl;
  needs_hold = refl;
}

-- Behind all statements the given and the finds have their values, the letting has none.
its_end_values : HasEndValues typed_spec some_values some_finds
its_end_values = typed-has-end-values typed_spec some_values some_finds refl some_param

k_behind : look (env_of typed_spec some_values some_finds).vals (codes "k") ≡ Some (v 2)
k_behind = refl

e_behind : look (env_of typed_spec some_values some_finds).vals (codes "e") ≡ Some (item (codes "E") 2)
e_behind = refl

two_behind : look (env_of typed_spec some_values some_finds).vals (codes "two") ≡ None
two_behind = refl

-- The names that get values, and the values of a type of the specification.
valued_names : valued_in (given (codes "k") bool_dom ∷ let_enum (codes "T") (codes "x" ∷ codes "y" ∷ []) ∷ find (codes "b") bool_dom ∷ []) ≡
    codes "k" ∷ codes "x" ∷ codes "y" ∷ codes "b" ∷ []
valued_names = refl

items_behind : AreItems (env_of (let_enum (codes "T") (codes "x" ∷ codes "y" ∷ []) ∷ []) some_values some_finds) (codes "T") 1
    (codes "x" ∷ codes "y" ∷ [])
items_behind = (refl, (refl, tt))
