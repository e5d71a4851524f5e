-- Rules at the root that bring no new free name.
use Rattle.std.specs.Prelude.{◌≡◌, Option, Some}
use Rattle.ess_semantics.specs.Values.{Text}
use Rattle.ess_semantics.specs.Names.{Names}
use Rattle.ess_semantics.specs.Trees.{Ex}
use Rattle.ess_semantics.specs.Types.{Ty}
use Rattle.ess_rules_laws.specs.FoldRules.{fold_alone, fold_nothing, fold_one, fold_bare, fold_term}
use Rattle.ess_rules_laws.specs.MembershipRules.{member_term, member_combined, member_changed, member_listed}
use Rattle.ess_rules_laws.specs.InclusionRules.{unequal, included_turned, included_strictly, included_members, included_often, equal_members, equal_often, equal_pairs}
use Rattle.ess_rules_laws.specs.SizeRules.{size_term, frequency_term, together_term}
use Rattle.ess_rules_laws.specs.PartitionRules.{equal_parts}
use Rattle.ess_rules_laws.specs.ListRules.{list_term, lex_both, different_term}
use Rattle.ess_rules_laws.specs.LooseRules.{fold_loosely}
use Rattle.ess_rules_laws.specs.NamesStay.{AddsNoNames}

-- Where the rule fires it brings no new free name.
abbrev pub RuleAddsNone : (Ex → Option Ex) → Type 0
RuleAddsNone rule = (e f : Ex) → rule e ≡ Some f → AddsNoNames e f

-- The same of a rule that binds a name.
abbrev pub RuleAddsNoneNew : (Text → Ex → Option Ex) → Type 0
RuleAddsNoneNew rule = (x : Text) → RuleAddsNone (rule x)

-- The same of one that reads types too.
abbrev pub RuleAddsNoneTyped : (Names Ty → Text → Ex → Option Ex) → Type 0
RuleAddsNoneTyped rule = (g : Names Ty) (x : Text) → RuleAddsNone (rule g x)

-- So it is with these.
pub record RulesAddNoNames : Type 0 where
  pub folds_alone : RuleAddsNone fold_alone
  pub folds_of_nothing : RuleAddsNone fold_nothing
  pub folds_of_one : RuleAddsNone fold_one
  pub folds_of_one_binding : RuleAddsNone fold_bare
  pub folds_of_a_term : RuleAddsNoneNew fold_term
  pub loose_folds : RuleAddsNone fold_loosely
  pub in_a_term : RuleAddsNoneNew member_term
  pub in_two : RuleAddsNone member_combined
  pub in_one_made_of_another : RuleAddsNoneTyped member_changed
  pub in_a_literal : RuleAddsNone member_listed
  pub not_equal : RuleAddsNone unequal
  pub turned : RuleAddsNone included_turned
  pub strictly : RuleAddsNoneTyped included_strictly
  pub of_sets : RuleAddsNoneTyped included_members
  pub of_multisets : RuleAddsNoneNew included_often
  pub equal_sets : RuleAddsNoneTyped equal_members
  pub equal_multisets : RuleAddsNoneTyped equal_often
  pub equal_functions : RuleAddsNoneTyped equal_pairs
  pub equal_partitions : RuleAddsNoneTyped equal_parts
  pub size : RuleAddsNoneTyped size_term
  pub frequency : RuleAddsNoneNew frequency_term
  pub together : RuleAddsNoneNew together_term
  pub lists_of_a_term : RuleAddsNoneNew list_term
  pub lists_on_both_sides : RuleAddsNoneNew lex_both
  pub all_different : RuleAddsNoneNew different_term
