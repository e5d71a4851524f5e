-- What rules count on beside new names follows where each part of the tree has a value wherever its context holds, but for numbers in
-- natural places, and where operands have values of their types.
use Rattle.std.specs.Prelude.{◌≡◌, Bool, true, false, Some}
use Rattle.ess_semantics.specs.Names.{Names}
use Rattle.ess_semantics.specs.Trees.{Ex, node_ex}
use Rattle.ess_semantics.specs.Types.{Ty}
use Rattle.ess_semantics.specs.Typed.{Typed}
use Rattle.ess_semantics.specs.Meaning.{Env}
use Rattle.ess_rules_laws.specs.Rules.{SoundOperands}
use Rattle.ess_rules_laws.specs.ShortSizeRules.{SoundWithin}
use Rattle.ess_refine_laws.specs.AllRules.{Rule, not_equal, strictly, equal_tuples, equal_records, equal_sets, equal_multisets, equal_functions, equal_partitions, with_nothing, included_sets, included_multisets, in_a_literal, in_what_a_function_has, size_of_one_made_of_another, size, frequency_in_one_made_of_another, frequency_in_a_literal, frequency, different_items, results, Supply, rewrite}
use Rattle.ess_chain_kept_laws.specs.CountsBeside.{CountsBeside, needs_names}
use Rattle.ess_values_along_laws.specs.Valued.{Valued}
use Rattle.ess_values_along_laws.specs.ValuesAlong.{none_may_lack}

-- Rules that count on nothing but new names, types and values.
abbrev pub counts_on_values : Rule → Bool
counts_on_values not_equal = true
counts_on_values strictly = true
counts_on_values equal_tuples = true
counts_on_values equal_records = true
counts_on_values equal_sets = true
counts_on_values equal_multisets = true
counts_on_values equal_functions = true
counts_on_values equal_partitions = true
counts_on_values with_nothing = true
counts_on_values included_sets = true
counts_on_values included_multisets = true
counts_on_values in_a_literal = true
counts_on_values in_what_a_function_has = true
counts_on_values size_of_one_made_of_another = true
counts_on_values size = true
counts_on_values frequency_in_one_made_of_another = true
counts_on_values frequency_in_a_literal = true
counts_on_values frequency = true
counts_on_values different_items = true
counts_on_values results = true
counts_on_values r = needs_names r

-- The operands of compared compound values are, by their form, neither numbers nor cells.
abbrev pub ComparesCompound : Rule → Ex → Type 0
ComparesCompound not_equal (node_ex b op es) = none_may_lack es ≡ true
ComparesCompound equal_tuples (node_ex b op es) = none_may_lack es ≡ true
ComparesCompound equal_records (node_ex b op es) = none_may_lack es ≡ true
ComparesCompound with_nothing (node_ex b op es) = none_may_lack es ≡ true
ComparesCompound r e = Unit {0}

-- So each of these rules that fires has what it counts on, where operands and what stands directly in them have values of their types.
abbrev pub ValuesAreCountedOn : Type 0
ValuesAreCountedOn = (s : Supply) (g : Names Ty) (r : Rule) (e f : Ex) → rewrite s g r e ≡ Some f → counts_on_values r ≡ true →
    ComparesCompound r e → (env : Env) → Typed g env → SoundOperands g e → SoundWithin g e → (w : Bool) → Valued w e env →
    CountsBeside s g r e env
