-- Rules of comparisons, membership, sizes and lists that keep at their root that each part of the tree has a value wherever its context
-- holds, but for numbers in natural places.
use Rattle.std.specs.Prelude.{◌≡◌, Bool, true, false, ◌&&◌, not, Some}
use Rattle.ess_semantics.specs.declared.words.Op2.{Op2}
use Rattle.ess_semantics.specs.Names.{Names}
use Rattle.ess_semantics.specs.Trees.{Ex, Exs, node_ex, ex2, no_exs, more_exs}
use Rattle.ess_semantics.specs.Types.{Ty}
use Rattle.ess_semantics.specs.Meaning.{Env, meaning}
use Rattle.ess_rules_laws.specs.Rules.{Unused}
use Rattle.ess_refine_laws.specs.AllRules.{Rule, equal_tuples, equal_records, equal_sets, equal_multisets, equal_functions, included_multisets, in_what_a_function_has, in_its_pairs, size_of_one_made_of_another, size, frequency_in_one_made_of_another, frequency_in_a_literal, frequency, together, least_of_a_literal, all_different, results, Supply, rewrite}
use Rattle.ess_values_along_laws.specs.Valued.{Valued}
use Rattle.ess_values_along_laws.specs.ValuesAlong.{may_lack_there}

-- Rules of which it is shown here.
abbrev pub is_of_terms : Rule → Bool
is_of_terms equal_tuples = true
is_of_terms equal_records = true
is_of_terms equal_sets = true
is_of_terms equal_multisets = true
is_of_terms equal_functions = true
is_of_terms included_multisets = true
is_of_terms in_what_a_function_has = true
is_of_terms in_its_pairs = true
is_of_terms size_of_one_made_of_another = true
is_of_terms size = true
is_of_terms frequency_in_one_made_of_another = true
is_of_terms frequency_in_a_literal = true
is_of_terms frequency = true
is_of_terms together = true
is_of_terms least_of_a_literal = true
is_of_terms all_different = true
is_of_terms results = true
is_of_terms r = false

-- Whether the expression is, by its form, neither a cell nor a number that an operator makes, but for a difference of two such ones: so is
-- each that stands for a set.
abbrev pub is_compound : Ex → Bool
is_compound (ex2 false Op2.Minus a b) = is_compound a && is_compound b
is_compound e = not (may_lack_there e)

-- Whether all of these are.
abbrev pub are_compound : Exs → Bool
are_compound no_exs = true
are_compound (more_exs e es) = is_compound e && are_compound es

-- The operands of compared containers, tuples and records, and those whose members are counted, are.
abbrev pub ComparesTerms : Rule → Ex → Type 0
ComparesTerms equal_tuples (node_ex b op es) = are_compound es ≡ true
ComparesTerms equal_records (node_ex b op es) = are_compound es ≡ true
ComparesTerms equal_sets (node_ex b op es) = are_compound es ≡ true
ComparesTerms equal_multisets (node_ex b op es) = are_compound es ≡ true
ComparesTerms equal_functions (node_ex b op es) = are_compound es ≡ true
ComparesTerms size (node_ex b op es) = are_compound es ≡ true
ComparesTerms r e = Unit {0}

-- Such a rule keeps values where the name that it binds is new and it keeps the meaning.
abbrev pub TermsKeepValues : Type 0
TermsKeepValues = (s : Supply) (g : Names Ty) (r : Rule) (e f : Ex) → rewrite s g r e ≡ Some f → is_of_terms r ≡ true → Unused s.one e →
    ComparesTerms r e → (env : Env) → meaning e env ≡ meaning f env → (w : Bool) → Valued w e env → Valued w f env
