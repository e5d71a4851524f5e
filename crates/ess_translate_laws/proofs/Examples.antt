-- Worked examples of files under specifications.
use Rattle.std.specs.Prelude.{◌≡◌, refl, true, List, [], ◌∷◌, codes}
use Rattle.ess_semantics.specs.declared.words.Op2.{Op2}
use Rattle.ess_semantics.specs.Values.{Text}
use Rattle.ess_semantics.specs.Trees.{name_ex, truth_ex, name_dom, Stm, given, given_enum, let_ex, let_enum, find, such_that}
use Rattle.ess_semantics.specs.Parameters.{missing_given, extra_name, not_member}
use Rattle.ess_semantics.specs.Solutions.{valid, missing_find, extra_find, not_in_domain, false_constraint}
use Rattle.ess_semantics.proofs.Shorthands.{n, bi, range, from_1}
use Rattle.ess_translate_laws.specs.FileAssignments.{unfit, judged, files_verdict}

abbrev x : Text
x = codes "x"

abbrev y : Text
y = codes "y"

abbrev k : Text
k = codes "k"

abbrev E : Text
E = codes "E"

abbrev red : Text
red = codes "red"

abbrev blue : Text
blue = codes "blue"

-- `given k : int(1..)`, `find x : int(1..k)`, `such that x = k`
abbrev same_number : List Stm
same_number = given k from_1 ∷ find x (range (n 1) (name_ex k)) ∷ such_that (bi Op2.Eq (name_ex x) (name_ex k)) ∷ []

-- `given E new type enum`, `given y : E`, `find x : E`, `such that x = y`
abbrev same_item : List Stm
same_item = given_enum E ∷ given y (name_dom E) ∷ find x (name_dom E) ∷ such_that (bi Op2.Eq (name_ex x) (name_ex y)) ∷ []

-- `letting E be new type enum {red, blue}`
abbrev colours : Stm
colours = let_enum E (red ∷ blue ∷ [])

pub each_letting_has_its_value : files_verdict same_number (let_ex k (n 3) ∷ []) (let_ex x (n 3) ∷ []) ≡ judged valid
each_letting_has_its_value = refl

pub a_false_constraint_is_named : files_verdict same_number (let_ex k (n 3) ∷ []) (let_ex x (n 2) ∷ []) ≡ judged (false_constraint 3)
a_false_constraint_is_named = refl

pub the_parameter_decides_the_domain : files_verdict same_number (let_ex k (n 3) ∷ []) (let_ex x (n 4) ∷ []) ≡ judged (not_in_domain x)
the_parameter_decides_the_domain = refl

pub another_kind_of_value_is_no_member : files_verdict same_number (let_ex k (truth_ex true) ∷ []) (let_ex x (n 4) ∷ []) ≡ unfit (not_member 1)
another_kind_of_value_is_no_member = refl

pub a_given_without_letting_is_missing : files_verdict same_number [] (let_ex x (n 4) ∷ []) ≡ unfit (missing_given k)
a_given_without_letting_is_missing = refl

pub a_find_without_letting_is_missing : files_verdict same_number (let_ex k (n 3) ∷ []) [] ≡ judged (missing_find x)
a_find_without_letting_is_missing = refl

pub a_name_of_nothing_is_extra : files_verdict same_number (let_ex k (n 3) ∷ let_ex y (n 3) ∷ []) [] ≡ unfit (extra_name y)
a_name_of_nothing_is_extra = refl

pub a_second_letting_is_extra :
    files_verdict same_number (let_ex k (n 3) ∷ []) (let_ex x (n 3) ∷ let_ex x (n 3) ∷ []) ≡ judged (extra_find x)
a_second_letting_is_extra = refl

-- The letting of a type may stand behind one that uses its values.
pub values_of_a_given_type_are_read :
    files_verdict same_item (let_ex y (name_ex blue) ∷ colours ∷ []) (let_ex x (name_ex blue) ∷ []) ≡ judged valid
values_of_a_given_type_are_read = refl

pub another_value_of_the_type_differs :
    files_verdict same_item (colours ∷ let_ex y (name_ex blue) ∷ []) (let_ex x (name_ex red) ∷ []) ≡ judged (false_constraint 4)
another_value_of_the_type_differs = refl

pub a_name_of_no_value_is_no_member :
    files_verdict same_item (colours ∷ let_ex y (name_ex blue) ∷ []) (let_ex x (name_ex k) ∷ []) ≡ judged (not_in_domain x)
a_name_of_no_value_is_no_member = refl
