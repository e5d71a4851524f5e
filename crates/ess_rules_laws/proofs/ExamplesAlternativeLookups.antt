-- Worked examples of lookups by alternatives.
use Rattle.std.specs.Prelude.{◌≡◌, refl, true, false, [], ◌∷◌, Some, None, Option, List}
use Rattle.ess_semantics.specs.declared.words.Op2.{Op2}
use Rattle.ess_semantics.specs.Values.{Value}
use Rattle.ess_semantics.specs.Trees.{matrix_literal, set_literal, function_literal, index, by_value, Ex, node_ex, ex2, Exs, more_exs, no_gens, cond}
use Rattle.ess_semantics.specs.Meaning.{empty_env, meaning}
use Rattle.ess_semantics.proofs.Shorthands.{N, n, v, es1, es2, app, at, bi}
use Rattle.ess_rules_laws.specs.FunctionMembershipRules.{pair_ex}
use Rattle.ess_rules_laws.specs.Listings.{Alternative, all_listed}
use Rattle.ess_rules_laws.specs.Lookups.{found}
use Rattle.ess_rules_laws.specs.IndexSteps.{step_apart}
use Rattle.ess_rules_laws.specs.AlternativeLookups.{list_lookup, function_literal_lookup, select_each, members_of_each}
use Rattle.ess_rules_laws.proofs.ExamplesLookups.{x, f}
use Rattle.ess_rules_laws.proofs.ExamplesSetListings.{s}

abbrev list_ex : Exs → Ex
list_ex es = node_ex false matrix_literal es

-- What alternatives find.
abbrev finds : Option (List Alternative) → Option (List Value)
finds None = None
finds (Some l) = all_listed l empty_env

-- What a rule's answer means.
abbrev means : Option Ex → Option Value
means None = None
means (Some e) = meaning e empty_env

-- ---- lists

abbrev sevens : Ex
sevens = list_ex (es2 (n 7) (n 8))

-- `[7, 8][i]` is 7 where i is 1, and 8 where i is 2.
two_cases : list_lookup (at sevens (N x)) ≡
    Some (record { gens = cond (ex2 true Op2.Eq (N x) (n 1)) no_gens; item = n 7 } ∷
    record { gens = cond (ex2 true Op2.Eq (N x) (n 2)) no_gens; item = n 8 } ∷ [])
two_cases = refl

eight_at_2 : finds (list_lookup (at sevens (n 2))) ≡ Some (v 8 ∷ [])
eight_at_2 = refl

nothing_at_3 : finds (list_lookup (at sevens (n 3))) ≡ Some (found (meaning (at sevens (n 3)) empty_env))
nothing_at_3 = refl

-- A list with an item that has no value has none itself, and the cases do: so the law asks for its value.
abbrev broken : Ex
broken = list_ex (es2 (bi Op2.Div (n 1) (n 0)) (n 8))

no_list : meaning (at broken (n 2)) empty_env ≡ None
no_list = refl

a_case_still : finds (list_lookup (at broken (n 2))) ≡ Some (v 8 ∷ [])
a_case_still = refl

-- `[7, 8][2] + 1` over the cases is 9.
nine : means (select_each x 1 (record { gens = cond (ex2 true Op2.Eq (n 2) (n 1)) no_gens; item = n 7 } ∷
    record { gens = cond (ex2 true Op2.Eq (n 2) (n 2)) no_gens; item = n 8 } ∷ []) (bi Op2.Plus (at sevens (n 2)) (n 1))) ≡ Some (v 9)
nine = refl

-- The members of `[{3}, {4, 5}][2]` over the cases.
abbrev set_ex : Exs → Ex
set_ex es = node_ex false set_literal es

abbrev listed : Option (List Alternative) → Option (List Value)
listed None = None
listed (Some l) = all_listed (members_of_each s x l) empty_env

members_of_the_second : listed (list_lookup (at (list_ex (es2 (set_ex (es1 (n 3))) (set_ex (es2 (n 5) (n 4))))) (n 2))) ≡
    Some (v 4 ∷ v 5 ∷ [])
members_of_the_second = refl

-- ---- functions

abbrev twice : Ex
twice = node_ex false function_literal (more_exs (pair_ex (n 1) (n 5)) (more_exs (pair_ex (n 2) (n 6)) (es1 (pair_ex (n 1) (n 5)))))

-- A pair that stands twice is one case.
five_once : finds (function_literal_lookup (app twice (n 1))) ≡ Some (v 5 ∷ [])
five_once = refl

six_at_2 : finds (function_literal_lookup (app twice (n 2))) ≡ Some (found (meaning (app twice (n 2)) empty_env))
six_at_2 = refl

none_at_3 : finds (function_literal_lookup (app twice (n 3))) ≡ Some []
none_at_3 = refl

-- A pair that is no literal is in no case.
name_as_pair : function_literal_lookup (app (node_ex false function_literal (es1 (N f))) (n 1)) ≡ None
name_as_pair = refl

-- ---- several steps

-- `m[1, 2]` is `m[1][2]`.
two_steps : step_apart (node_ex false (index (by_value ∷ by_value ∷ [])) (more_exs (N f) (es2 (n 1) (n 2)))) ≡
    Some (at (at (N f) (n 1)) (n 2))
two_steps = refl

one_step : step_apart (at (N f) (n 1)) ≡ None
one_step = refl
