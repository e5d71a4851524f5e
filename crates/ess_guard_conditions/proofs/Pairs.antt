-- Pairs agree, and have different arguments, as their parts say.
use Rattle.std.proofs.Common.{◌≡◌, refl, false}
use Rattle.ess_semantics.specs.Trees.{tuple_literal, Ex, node_ex, no_exs, more_exs}
use Rattle.ess_guard_laws.specs.Conditions.{agree, have_other_arguments}
use Rattle.ess_guard_conditions.specs.ConditionForms.{pair_of, pairs_agree, are_pairs_apart}

-- Two trees agree as their parts say, where both are pairs.
pub agreeing : (p q : Ex) → agree p q ≡ pairs_agree (pair_of p) (pair_of q)
agreeing (node_ex false tuple_literal (more_exs a (more_exs b no_exs))) (node_ex false tuple_literal (more_exs c (more_exs d no_exs))) = refl
agreeing p q = refl

-- Two trees have different arguments as their first parts say, where both are pairs.
pub other_arguments_by_parts : (p q : Ex) → have_other_arguments p q ≡ are_pairs_apart (pair_of p) (pair_of q)
other_arguments_by_parts (node_ex false tuple_literal (more_exs a (more_exs b no_exs)))
    (node_ex false tuple_literal (more_exs c (more_exs d no_exs))) = refl
other_arguments_by_parts p q = refl
