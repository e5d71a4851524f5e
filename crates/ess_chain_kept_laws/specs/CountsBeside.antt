-- What each rule counts on beside new names, which the reserved ones are: types, values, and names that are apart.
use Rattle.std.specs.Prelude.{Bool, true, false}
use Rattle.ess_semantics.specs.Names.{Names}
use Rattle.ess_semantics.specs.Trees.{Ex, ex2}
use Rattle.ess_semantics.specs.Types.{Ty}
use Rattle.ess_semantics.specs.Typed.{Typed}
use Rattle.ess_semantics.specs.Meaning.{Env}
use Rattle.ess_rules_laws.specs.Rules.{SoundOperands, OperandsThere}
use Rattle.ess_rules_laws.specs.ShortSizeRules.{SoundWithin}
use Rattle.ess_rules_laws.specs.MatrixRules.{BothIndexed}
use Rattle.ess_refine_laws.specs.WhatRulesCountOn.{CountsOn}
use Rattle.ess_refine_laws.specs.AllRules.{Rule, over_nothing, over_a_term, over_a_made_set, over_a_tuple, over_a_record, over_a_condition, turned, strictly, equal_tuples, equal_records, equal_sets, equal_multisets, equal_functions, equal_partitions, with_nothing, equal_matrices_at, included_sets, included_multisets, in_one_made_of_another, in_what_a_function_has, in_its_pairs, in_a_term, size_of_one_made_of_another, size, frequency_in_one_made_of_another, frequency, together, least_of_a_literal, list_of_a_term, lists_on_both_sides, all_different, results, Supply}

-- Rules that count on new names alone, or on nothing.
abbrev pub needs_names : Rule → Bool
needs_names over_nothing = true
needs_names over_a_term = true
needs_names over_a_made_set = true
needs_names over_a_tuple = true
needs_names over_a_record = true
needs_names over_a_condition = true
needs_names turned = true
needs_names in_one_made_of_another = true
needs_names in_its_pairs = true
needs_names in_a_term = true
needs_names together = true
needs_names least_of_a_literal = true
needs_names list_of_a_term = true
needs_names lists_on_both_sides = true
needs_names all_different = true
needs_names r = false

-- The operands are matrices over the index domains that the rule takes.
abbrev pub TakenIndexed : Supply → Ex → Env → Type 0
TakenIndexed s (ex2 m o a b) env = BothIndexed (s.index_domain a) (s.index_domain b) (ex2 m o a b) env
TakenIndexed s e env = Unit {0}

-- What the rule counts on beside new names, under an env that gives names values of their types where types are read.
abbrev pub CountsBeside : Supply → Names Ty → Rule → Ex → Env → Type 0
CountsBeside s g over_nothing e env = Unit {0}
CountsBeside s g over_a_term e env = Unit {0}
CountsBeside s g over_a_made_set e env = Unit {0}
CountsBeside s g over_a_tuple e env = Unit {0}
CountsBeside s g over_a_record e env = Unit {0}
CountsBeside s g over_a_condition e env = Unit {0}
CountsBeside s g turned e env = Unit {0}
CountsBeside s g in_one_made_of_another e env = Unit {0}
CountsBeside s g in_its_pairs e env = Unit {0}
CountsBeside s g in_a_term e env = Unit {0}
CountsBeside s g together e env = Unit {0}
CountsBeside s g least_of_a_literal e env = Unit {0}
CountsBeside s g list_of_a_term e env = Unit {0}
CountsBeside s g lists_on_both_sides e env = Unit {0}
CountsBeside s g all_different e env = Unit {0}
CountsBeside s g strictly e env = Typed g env × SoundOperands g e
CountsBeside s g equal_sets e env = Typed g env × SoundOperands g e
CountsBeside s g equal_multisets e env = Typed g env × SoundOperands g e
CountsBeside s g equal_functions e env = Typed g env × SoundOperands g e
CountsBeside s g equal_partitions e env = Typed g env × SoundOperands g e
CountsBeside s g size e env = Typed g env × SoundOperands g e
CountsBeside s g results e env = Typed g env × SoundOperands g e
CountsBeside s g in_what_a_function_has e env = Typed g env × SoundWithin g e
CountsBeside s g size_of_one_made_of_another e env = Typed g env × SoundWithin g e
CountsBeside s g equal_tuples e env = Typed g env × SoundOperands g e × OperandsThere e env
CountsBeside s g equal_records e env = Typed g env × SoundOperands g e × OperandsThere e env
CountsBeside s g with_nothing e env = Typed g env × SoundOperands g e × OperandsThere e env
CountsBeside s g included_sets e env = Typed g env × SoundOperands g e × OperandsThere e env
CountsBeside s g equal_matrices_at e env = Typed g env × SoundOperands g e × OperandsThere e env × TakenIndexed s e env
CountsBeside s g frequency_in_one_made_of_another e env = Typed g env × SoundWithin g e × OperandsThere e env
CountsBeside s g included_multisets e env = OperandsThere e env
CountsBeside s g frequency e env = OperandsThere e env
CountsBeside s g r e env = Typed g env × CountsOn s g r e env
