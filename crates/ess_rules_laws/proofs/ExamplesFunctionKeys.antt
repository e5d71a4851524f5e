-- Worked examples of shorter forms of views of functions kept by argument.
use Rattle.std.specs.Prelude.{◌≡◌, refl, true, false, [], Some, None, Option, List, option_map}
use Rattle.ess_semantics.specs.declared.words.Op2.{Op2}
use Rattle.ess_semantics.specs.declared.words.Fun.{Fun}
use Rattle.ess_semantics.specs.Values.{Value, truth, items_of}
use Rattle.ess_semantics.specs.Trees.{tuple_literal, Ex, node_ex, truth_ex}
use Rattle.ess_semantics.specs.Meaning.{Env, meaning}
use Rattle.ess_semantics.proofs.Shorthands.{n, v, upto, es2, app, bi, fn}
use Rattle.ess_rules_laws.specs.Lookups.{found}
use Rattle.ess_rules_laws.specs.FunctionKeys.{result_at_argument, defined_everywhere, defined_where_flagged, lookup_behind_flag}
use Rattle.ess_rules_laws.proofs.ExamplesFunctionViews.{from_two, total, flags, partial, four, both, some}

-- What an answer means, and what a lookup finds.
abbrev means : Env → Option Ex → Option Value
means here None = None
means here (Some e) = meaning e here

abbrev finds : Env → Option Ex → Option (List Value)
finds here None = None
finds here (Some l) = option_map items_of (meaning l here)

-- ---- a total function

seven_at_1 : means from_two (result_at_argument (app (total (upto 2)) (n 1))) ≡ Some (v 7)
seven_at_1 = refl

-- At a number that is no argument there is no view, and no result.
no_view_at_3 : means from_two (result_at_argument (app (total (upto 2)) (n 3))) ≡ None
no_view_at_3 = refl

one_is_defined : defined_everywhere (bi Op2.Member (n 1) (fn Fun.Defined (total (upto 2)))) ≡ Some (truth_ex true)
one_is_defined = refl

-- So it is of members alone: 3 is no argument, and the form is asked only where the term is one.
three_is_not : meaning (bi Op2.Member (n 3) (fn Fun.Defined (total (upto 2)))) from_two ≡ Some (truth false)
three_is_not = refl

-- ---- with flags

flag_of_1 : means flags (defined_where_flagged (bi Op2.Member (n 1) (fn Fun.Defined partial))) ≡ Some (truth false)
flag_of_1 = refl

flag_of_2 : means flags (defined_where_flagged (bi Op2.Member (n 2) (fn Fun.Defined partial))) ≡
    meaning (bi Op2.Member (n 2) (fn Fun.Defined partial)) flags
flag_of_2 = refl

-- 3 has no flag, and is no argument.
flag_of_3 : means flags (defined_where_flagged (bi Op2.Member (n 3) (fn Fun.Defined partial))) ≡ Some (truth false)
flag_of_3 = refl

-- True has the number of 1: so the law asks for a term that its number tells from all other members.
true_for_2 : means flags (defined_where_flagged (bi Op2.Member (truth_ex true) (fn Fun.Defined partial))) ≡ Some (truth false)
true_for_2 = refl

eight_behind_a_flag : finds flags (lookup_behind_flag (app partial (n 2))) ≡ Some (found (meaning (app partial (n 2)) flags))
eight_behind_a_flag = refl

nothing_behind_a_flag : finds flags (lookup_behind_flag (app partial (n 1))) ≡ Some []
nothing_behind_a_flag = refl

-- ---- from pairs

abbrev pair_of : Ex → Ex → Ex
pair_of a b = node_ex false tuple_literal (es2 a b)

seven_at_a_pair : means four (result_at_argument (app both (pair_of (truth_ex true) (truth_ex false)))) ≡ Some (v 7)
seven_at_a_pair = refl

-- Of a pair that is no literal the indices are not written.
name_as_pair : result_at_argument (app both (n 1)) ≡ None
name_as_pair = refl

flag_of_a_pair : means four (defined_where_flagged (bi Op2.Member (pair_of (truth_ex true) (truth_ex false)) (fn Fun.Defined some))) ≡
    Some (truth true)
flag_of_a_pair = refl
