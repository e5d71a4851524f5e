-- The laws of the rules, a record for each group of rules.
use Rattle.std.specs.Prelude.{◌≡◌, List, Some}
use Rattle.ess_semantics.specs.Values.{Text}
use Rattle.ess_semantics.specs.Names.{Names}
use Rattle.ess_semantics.specs.Trees.{Ex}
use Rattle.ess_semantics.specs.Types.{Ty}
use Rattle.ess_semantics.specs.Typed.{Typed}
use Rattle.ess_semantics.specs.Meaning.{Env}
use Rattle.ess_rules_laws.specs.Listings.{Alternative, Lists, listing}
use Rattle.ess_rules_laws.specs.Rules.{Unused, SoundOperands, RuleKeeps, RuleKeepsWhere, RuleKeepsNew, RuleKeepsNewThere, RuleKeepsTyped, RuleKeepsTypedThere, OperandsThere}
use Rattle.ess_rules_laws.specs.FoldRules.{fold_alone, fold_nothing, fold_one, fold_bare, fold_term, ItemFits, BareFits}
use Rattle.ess_rules_laws.specs.FieldLiterals.{field_listed, FieldFits}
use Rattle.ess_rules_laws.specs.LiteralRules.{component_listed, different_listed, extreme_listed, ComponentFits, ListThere}
use Rattle.ess_rules_laws.specs.MembershipRules.{member_term, member_combined, member_changed, member_listed, CombinedThere, ItemsThere}
use Rattle.ess_rules_laws.specs.FunctionMembershipRules.{member_of_function, member_related}
use Rattle.ess_rules_laws.specs.InclusionRules.{unequal, included_turned, included_strictly, included_members, included_often, equal_members, equal_often, equal_pairs}
use Rattle.ess_rules_laws.specs.ComponentRules.{equal_components, equal_fields}
use Rattle.ess_rules_laws.specs.SizeRules.{size_term, frequency_term, together_term}
use Rattle.ess_rules_laws.specs.ShortSizeRules.{RuleKeepsWithin, RuleKeepsWithinThere, size_made, frequency_made, frequency_listed}

-- Rules of `and`, `or`, `sum` and `product` over a condition alone, over literals of no item or one, over a comprehension
-- without generators, and over any term.
pub record FoldRulesKeep : Type 0 where
  pub over_a_condition : RuleKeeps fold_alone
  pub over_nothing : RuleKeeps fold_nothing
  pub over_one : RuleKeepsWhere ItemFits fold_one
  pub over_one_binding : RuleKeepsWhere BareFits fold_bare
  pub over_a_term : RuleKeepsNew fold_term

-- Rules of `in`: of any container, of unions, intersections and differences, of containers made of others, of literals, and of
-- what is made of functions.
pub record MembershipRulesKeep : Type 0 where
  pub in_a_term : RuleKeepsNew member_term
  pub in_two : RuleKeepsWhere CombinedThere member_combined
  pub in_one_made_of_another : (g : Names Ty) → RuleKeepsNew (member_changed g)
  pub in_a_literal : RuleKeepsWhere ItemsThere member_listed
  pub in_what_a_function_has : RuleKeepsWithin member_of_function
  pub in_its_pairs : RuleKeepsNew member_related

-- Rules of `!=`, of the signs of inclusion, and of `=` between sets, relations, multisets and functions.
pub record InclusionRulesKeep : Type 0 where
  pub not_equal : RuleKeepsWhere OperandsThere unequal
  pub turned : RuleKeeps included_turned
  pub strictly : RuleKeepsTyped included_strictly
  pub of_sets : RuleKeepsTypedThere included_members
  pub of_multisets : RuleKeepsNewThere included_often
  pub equal_sets : RuleKeepsTyped equal_members
  pub equal_multisets : RuleKeepsTyped equal_often
  pub equal_functions : RuleKeepsTyped equal_pairs

-- Rules of `|..|`, `freq` and `together`: of any container, of containers made of others, and of literals.
pub record SizeRulesKeep : Type 0 where
  pub size : RuleKeepsTyped size_term
  pub frequency : RuleKeepsNewThere frequency_term
  pub together : RuleKeepsNew together_term
  pub size_of_one_made_of_another : RuleKeepsWithin size_made
  pub frequency_in_one_made_of_another : RuleKeepsWithinThere frequency_made
  pub frequency_in_a_literal : RuleKeepsWhere OperandsThere frequency_listed

-- Rules of `=` by components.
pub record ComponentRulesKeep : Type 0 where
  pub equal_tuples : RuleKeepsTypedThere equal_components
  pub equal_records : RuleKeepsTypedThere equal_fields

-- Rules of operators on literals: a component of a tuple, a field of a record, `allDiff` of a list, `min` and `max` of a set or multiset.
pub record LiteralRulesKeep : Type 0 where
  pub component_of_a_tuple : RuleKeepsWhere ComponentFits component_listed
  pub field_of_a_record : RuleKeepsWhere FieldFits field_listed
  pub different_items : RuleKeepsWhere ListThere different_listed
  pub least_and_greatest : RuleKeeps extreme_listed

-- What a container term offers lists its members: comprehensions, literals, unions, intersections and differences of sets and
-- of relations, and containers with the members of another one.
abbrev pub ListingsList : Type 0
ListingsList = (g : Names Ty) (x : Text) (e : Ex) (l : List Alternative) → listing g x e ≡ Some l → Unused x e → SoundOperands g e →
    (env : Env) → Typed g env → OperandsThere e env → Lists e l env
