-- What the rules that need no kind count on, and that each so keeps the value of what it rewrites.
use Rattle.std.specs.Prelude.{◌≡◌, Bool, false, List, map, Some, IsTrue, is_some}
use Rattle.ess_semantics.specs.Values.{Text}
use Rattle.ess_semantics.specs.Order.{same_text}
use Rattle.ess_semantics.specs.Names.{Names}
use Rattle.ess_semantics.specs.Trees.{name_pat, Ex, comp_ex, ex2, fun1, from}
use Rattle.ess_semantics.specs.Types.{Ty}
use Rattle.ess_semantics.specs.Typed.{Typed}
use Rattle.ess_semantics.specs.Meaning.{Env, meaning}
use Rattle.ess_semantics.specs.Contexts.{Each, EachOf}
use Rattle.ess_semantics.specs.Kept.{Keeps}
use Rattle.ess_rules_laws.specs.Rules.{IsNumber, Unused, SoundOperands, OperandsThere}
use Rattle.ess_rules_laws.specs.FoldRules.{ItemFits, BareFits}
use Rattle.ess_rules_laws.specs.SourceRules.{ItemsApart}
use Rattle.ess_rules_laws.specs.SpliceRules.{SourceThere, NamesApart}
use Rattle.ess_rules_laws.specs.SplitRules.{DomainThere, DomainApart}
use Rattle.ess_rules_laws.specs.Listings.{Alternative, all_listed}
use Rattle.ess_rules_laws.specs.ListedSources.{SourceApart, SourceOffers}
use Rattle.ess_rules_laws.specs.LiteralRules.{ComponentFits, ListThere}
use Rattle.ess_rules_laws.specs.FieldLiterals.{FieldFits}
use Rattle.ess_rules_laws.specs.MatrixRules.{BothIndexed, UnusedDom}
use Rattle.ess_rules_laws.specs.MembershipRules.{CombinedThere, ItemsThere}
use Rattle.ess_rules_laws.specs.ShortSizeRules.{SoundWithin}
use Rattle.ess_rules_laws.specs.ChoiceRules.{ChoicesFit}
use Rattle.ess_refine_laws.specs.LeavingConditions.{LeavesFits}
use Rattle.ess_refine_laws.specs.Copies.{CopyFits}
use Rattle.ess_refine_laws.specs.ExtremeAlternatives.{put_alternative}
use Rattle.ess_refine_laws.specs.MovingConditions.{LaterFits}
use Rattle.ess_refine_laws.specs.AllRules.{Rule, over_nothing, over_one, over_one_binding, over_a_term, over_a_literal, over_a_made_set, over_a_source, of_one_source, over_a_comprehension, over_tuples, over_a_tuple, over_a_record, over_a_condition, component_of_a_tuple, field_of_a_record, not_equal, turned, strictly, equal_tuples, equal_records, equal_sets, equal_multisets, equal_functions, equal_partitions, with_nothing, equal_matrices_at, included_sets, included_multisets, in_two, in_one_made_of_another, in_a_literal, in_what_a_function_has, in_its_pairs, in_a_term, size_of_one_made_of_another, size, frequency_in_one_made_of_another, frequency_in_a_literal, frequency, together, least_of_a_literal, different_items, list_of_a_term, lists_on_both_sides, all_different, results, choice, condition, condition_behind, least_under_a_condition, least_of_alternatives, Supply, offered, opposite_copied, rewrite, OfSome, all_rules, rule_at}

-- Names are told apart, and the first source is there and offers the alternatives.
abbrev pub ListedApart : List Alternative → Ex → Env → Type 0
ListedApart l e env = (r : Text → Bool) × (u : Text → Bool) × SourceApart r u l e × SourceOffers l e env

-- What the first source offers.
abbrev pub SourceListed : Supply → Names Ty → Ex → Env → Type 0
SourceListed s g (fun1 m f (comp_ex e (from (name_pat y) t hs))) env =
    OfSome (offered s g t) (λ l. ListedApart l (fun1 m f (comp_ex e (from (name_pat y) t hs))) env)
SourceListed s g e env = Unit {0}

-- The first source offers the alternatives, by which the items are numbers.
abbrev pub NumbersListed : Supply → Names Ty → Ex → Env → Type 0
NumbersListed s g (fun1 m f (comp_ex e (from (name_pat y) t hs))) env =
    OfSome (offered s g t) (λ l. ListedApart l (fun1 m f (comp_ex e (from (name_pat y) t hs))) env
    × EachOf (all_listed (map (put_alternative y e hs) l) env) (λ v. IsNumber (Some v)))
NumbersListed s g e env = Unit {0}

-- The index domains are those of the operands, and the first new name stands in neither.
abbrev pub MatricesIndexed : Supply → Ex → Env → Type 0
MatricesIndexed s (ex2 m o a b) env =
    (same_text s.other s.one ≡ false) × UnusedDom s.one (s.index_domain a) × UnusedDom s.one (s.index_domain b)
    × BothIndexed (s.index_domain a) (s.index_domain b) (ex2 m o a b) env
MatricesIndexed s e env = Unit {0}

-- What the rule counts on at a root, beside that names have values of their types.
abbrev pub CountsOn : Supply → Names Ty → Rule → Ex → Env → Type 0
CountsOn s g over_nothing e env = Unit {0}
CountsOn s g over_one e env = ItemFits e env
CountsOn s g over_one_binding e env = BareFits e env
CountsOn s g over_a_term e env = Unused s.one e
CountsOn s g over_a_literal e env = (u : Text → Bool) × ItemsApart u e × OperandsThere e env
CountsOn s g over_a_made_set e env = Unit {0}
CountsOn s g over_a_source e env = SourceListed s g e env × OperandsThere e env
CountsOn s g of_one_source e env = SourceListed s g e env
CountsOn s g over_a_comprehension e env = (r : Text → Bool) × (u : Text → Bool) × NamesApart r u e × SourceThere e env
CountsOn s g over_tuples e env = (r : Text → Bool) × DomainApart r e × DomainThere e env
CountsOn s g over_a_tuple e env = Unit {0}
CountsOn s g over_a_record e env = Unit {0}
CountsOn s g over_a_condition e env = Unit {0}
CountsOn s g component_of_a_tuple e env = ComponentFits e env
CountsOn s g field_of_a_record e env = FieldFits e env
CountsOn s g not_equal e env = OperandsThere e env
CountsOn s g turned e env = Unit {0}
CountsOn s g strictly e env = Unused s.one e × SoundOperands g e
CountsOn s g equal_tuples e env = Unused s.one e × SoundOperands g e × OperandsThere e env
CountsOn s g equal_records e env = Unused s.one e × SoundOperands g e × OperandsThere e env
CountsOn s g equal_sets e env = Unused s.one e × SoundOperands g e
CountsOn s g equal_multisets e env = Unused s.one e × SoundOperands g e
CountsOn s g equal_functions e env = Unused s.one e × SoundOperands g e
CountsOn s g equal_partitions e env = Unused s.one e × SoundOperands g e
CountsOn s g with_nothing e env = Unused s.one e × SoundOperands g e × OperandsThere e env
CountsOn s g equal_matrices_at e env = Unused s.one e × SoundOperands g e × OperandsThere e env × MatricesIndexed s e env
CountsOn s g included_sets e env = Unused s.one e × SoundOperands g e × OperandsThere e env
CountsOn s g included_multisets e env = Unused s.one e × OperandsThere e env
CountsOn s g in_two e env = CombinedThere e env
CountsOn s g in_one_made_of_another e env = Unused s.one e
CountsOn s g in_a_literal e env = ItemsThere e env
CountsOn s g in_what_a_function_has e env = Unused s.one e × SoundWithin g e
CountsOn s g in_its_pairs e env = Unused s.one e
CountsOn s g in_a_term e env = Unused s.one e
CountsOn s g size_of_one_made_of_another e env = Unused s.one e × SoundWithin g e
CountsOn s g size e env = Unused s.one e × SoundOperands g e
CountsOn s g frequency_in_one_made_of_another e env = Unused s.one e × SoundWithin g e × OperandsThere e env
CountsOn s g frequency_in_a_literal e env = OperandsThere e env
CountsOn s g frequency e env = Unused s.one e × OperandsThere e env
CountsOn s g together e env = Unused s.one e
CountsOn s g least_of_a_literal e env = Unit {0}
CountsOn s g different_items e env = ListThere e env
CountsOn s g list_of_a_term e env = Unused s.one e
CountsOn s g lists_on_both_sides e env = Unused s.one e
CountsOn s g all_different e env = Unused s.one e
CountsOn s g results e env = Unused s.one e × SoundOperands g e
CountsOn s g choice e env = ChoicesFit e env
CountsOn s g condition e env = LeavesFits e env
CountsOn s g condition_behind e env = (r : Text → Bool) × LaterFits r e env
CountsOn s g least_of_alternatives e env = IsTrue (is_some (meaning e env)) × OperandsThere e env × NumbersListed s g e env
CountsOn s g least_under_a_condition e env = (r : Text → Bool) × CopyFits r (opposite_copied s e) e env

-- Each rule that fires has what it counts on.
abbrev pub FiringFit : Supply → Names Ty → List Rule → Ex → Env → Type 0
FiringFit s g rs e env = Each rs (λ r. IsTrue (is_some (rewrite s g r e)) → CountsOn s g r e env)

-- So each rule keeps what it rewrites, and so do all together.
pub record AllRulesKeep : Type 0 where
  pub each : (s : Supply) (g : Names Ty) (r : Rule) (e f : Ex) → rewrite s g r e ≡ Some f → (env : Env) → Typed g env →
      CountsOn s g r e env → Keeps e f env
  pub together : (s : Supply) (g : Names Ty) (e f : Ex) → rule_at s g e ≡ Some f → (env : Env) → Typed g env →
      FiringFit s g all_rules e env → Keeps e f env
