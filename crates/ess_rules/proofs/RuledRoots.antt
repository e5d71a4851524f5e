-- Each rule that fires is one of all rules.
use Rattle.std.proofs.Common.{◌≡◌, refl, sym, ap, ◌∙◌, Bool, true, false, List, Option, Some, None, if◌then◌else◌}
use Rattle.std.specs.Prelude.{option_map}
use Rattle.ess_semantics.specs.declared.words.Op2.{Op2}
use Rattle.ess_semantics.specs.Values.{Text}
use Rattle.ess_semantics.specs.Names.{Names}
use Rattle.ess_semantics.specs.Trees.{Ex, name_ex, ex2, Dom}
use Rattle.ess_semantics.specs.Types.{Ty}
use Rattle.ess_semantics.specs.Typing.{type_of}
use Rattle.ess_core_nodes.specs.declared.nodes.Node.{Node}
use Rattle.ess_core_nodes.specs.NodeViews.{pure_node}
use Rattle.ess_refine_laws.specs.AllRules as rules
use Rattle.ess_refine_laws.specs.AllRules.{Supply, source_listed, matrices_at, compares_compound, tells_scalars_apart}
use Rattle.ess_rules_listings.specs.Offered.{supply_of}
use Rattle.ess_refine_laws.specs.LeavingConditions.{condition_leaves}
use Rattle.ess_refine_laws.specs.MovingConditions.{condition_later}
use Rattle.ess_rules_laws.specs.ChoiceRules.{choice_shorter}
use Rattle.ess_rules_laws.specs.ComponentRules.{equal_components, equal_fields}
use Rattle.ess_rules_laws.specs.ContainerListings.{range_as_set}
use Rattle.ess_rules_laws.specs.FieldLiterals.{field_listed}
use Rattle.ess_rules_laws.specs.FoldRules.{fold_nothing, fold_one, fold_bare, fold_alone, fold_term}
use Rattle.ess_rules_laws.specs.FunctionMembershipRules.{member_of_function, member_related}
use Rattle.ess_rules_laws.specs.InclusionRules.{
  every,
  both_sets,
  included_turned,
  included_strictly,
  equal_members,
  equal_often,
  equal_pairs,
  included_members,
  included_often,
  unequal,
}
use Rattle.ess_rules_laws.specs.ListRules.{list_term, lex_both, different_term}
use Rattle.ess_rules_laws.specs.LiteralRules.{component_listed, extreme_listed, different_listed}
use Rattle.ess_rules_laws.specs.LooseRules.{fold_loosely}
use Rattle.ess_rules_laws.specs.MatrixRules.{equal_to_nothing}
use Rattle.ess_rules_laws.specs.MembershipRules.{member_combined, member_changed, member_listed, member_term}
use Rattle.ess_rules_laws.specs.PartitionRules.{equal_parts}
use Rattle.ess_rules_laws.specs.ShortSizeRules.{size_made, frequency_made, frequency_listed}
use Rattle.ess_rules_laws.specs.SizeRules.{size_term, frequency_term, together_term}
use Rattle.ess_gathered_laws.specs.GatheredConditions.{conditions_gathered}
use Rattle.ess_rules.specs.Ruled.{Ruling, plainly, gathering, both_told, compares_sets}
use Rattle.ess_rules.specs.WaitingConditions.{may_leave}
use Rattle.ess_rules.specs.Supplies.{IsRewritten, IsSourced}

-- Where there is something under a test, the test holds.
is-chosen : (b : Bool) (o : Option Ex) (e : Ex) → (if b then o else None) ≡ Some e → b ≡ true
is-chosen true o e h = refl
is-chosen false o e h = cc

chosen-is : (b : Bool) (o : Option Ex) (e : Ex) → (if b then o else None) ≡ Some e → o ≡ Some e
chosen-is true o e h = h
chosen-is false o e h = cc

-- Where the rule of members doesn't fire that of how often they are there doesn't compare sets.
no-sets : (g : Names Ty) (y : Text) (a b : Ex) → included_members g y a ≡ None → included_often y a ≡ Some b → compares_sets g a ≡ false
no-sets g y (ex2 true Op2.SubsetEq a c) b h k = unless-chosen (every y a (ex2 true Op2.Member (name_ex y) c)) (both_sets (type_of a g) (type_of c g)) h
  where
    unless-chosen : (e : Ex) (t : Bool) → (if t then Some e else None) ≡ None → t ≡ false
    unless-chosen e true q = cc
    unless-chosen e false q = refl
no-sets g y a b h k = cc

-- One that puts a source in.
pub ruled_over_a_source : (s : Supply) (g : Names Ty) (a : Ex) (o : Option Node) (x : Node) → option_map pure_node o ≡ source_listed s g a
    → o ≡ Some x → IsSourced s g a (Some (pure_node x))
ruled_over_a_source s g a o x h e = (plainly rules.over_a_source, sym h ∙ ap (option_map pure_node) e, λ j e. refl, λ e. tt, refl)

module _ (asked : List Ruling) (y z w : Text) (ys : List Text) (d : Ex → Dom) (c : Ex → Ex) (g : Names Ty) (a : Ex) (o : Option Node)
    (x : Node) where
  pub ruled_over_nothing : option_map pure_node o ≡ fold_nothing a → o ≡ Some x
      → IsRewritten asked (supply_of y z w ys d c) g a (Some (pure_node x))
  ruled_over_nothing h e = (plainly rules.over_nothing, sym h ∙ ap (option_map pure_node) e, λ j. refl, tt, refl)

  pub ruled_over_one : option_map pure_node o ≡ fold_one a → o ≡ Some x
      → IsRewritten asked (supply_of y z w ys d c) g a (Some (pure_node x))
  ruled_over_one h e = (plainly rules.over_one, sym h ∙ ap (option_map pure_node) e, λ j. refl, tt, refl)

  pub ruled_over_one_binding : option_map pure_node o ≡ fold_bare a → o ≡ Some x
      → IsRewritten asked (supply_of y z w ys d c) g a (Some (pure_node x))
  ruled_over_one_binding h e = (plainly rules.over_one_binding, sym h ∙ ap (option_map pure_node) e, λ j. refl, tt, refl)

  pub ruled_over_a_condition : option_map pure_node o ≡ fold_alone a → o ≡ Some x
      → IsRewritten asked (supply_of y z w ys d c) g a (Some (pure_node x))
  ruled_over_a_condition h e = (plainly rules.over_a_condition, sym h ∙ ap (option_map pure_node) e, λ j. refl, tt, refl)

  pub ruled_over_a_made_set : option_map pure_node o ≡ fold_loosely a → o ≡ Some x
      → IsRewritten asked (supply_of y z w ys d c) g a (Some (pure_node x))
  ruled_over_a_made_set h e = (plainly rules.over_a_made_set, sym h ∙ ap (option_map pure_node) e, λ j. refl, tt, refl)

  pub ruled_over_a_term : option_map pure_node o ≡ fold_term y a → o ≡ Some x
      → IsRewritten asked (supply_of y z w ys d c) g a (Some (pure_node x))
  ruled_over_a_term h e = (plainly rules.over_a_term, sym h ∙ ap (option_map pure_node) e, λ j. refl, tt, refl)

  pub ruled_not_equal : option_map pure_node o ≡ (if compares_compound g a then unequal a else None) → o ≡ Some x
      → IsRewritten asked (supply_of y z w ys d c) g a (Some (pure_node x))
  ruled_not_equal h e = (plainly rules.not_equal, sym h ∙ ap (option_map pure_node) e, λ j. refl, tt, refl)

  pub ruled_turned : option_map pure_node o ≡ included_turned a → o ≡ Some x
      → IsRewritten asked (supply_of y z w ys d c) g a (Some (pure_node x))
  ruled_turned h e = (plainly rules.turned, sym h ∙ ap (option_map pure_node) e, λ j. refl, tt, refl)

  pub ruled_strictly : option_map pure_node o ≡ included_strictly g y a → o ≡ Some x
      → IsRewritten asked (supply_of y z w ys d c) g a (Some (pure_node x))
  ruled_strictly h e = (plainly rules.strictly, sym h ∙ ap (option_map pure_node) e, λ j. refl, tt, refl)

  pub ruled_equal_tuples : option_map pure_node o ≡ equal_components g y a → o ≡ Some x
      → IsRewritten asked (supply_of y z w ys d c) g a (Some (pure_node x))
  ruled_equal_tuples h e = (plainly rules.equal_tuples, sym h ∙ ap (option_map pure_node) e, λ j. refl, tt, refl)

  pub ruled_equal_records : option_map pure_node o ≡ equal_fields g y a → o ≡ Some x
      → IsRewritten asked (supply_of y z w ys d c) g a (Some (pure_node x))
  ruled_equal_records h e = (plainly rules.equal_records, sym h ∙ ap (option_map pure_node) e, λ j. refl, tt, refl)

  pub ruled_equal_sets : option_map pure_node o ≡ equal_members g y a → o ≡ Some x
      → IsRewritten asked (supply_of y z w ys d c) g a (Some (pure_node x))
  ruled_equal_sets h e = (plainly rules.equal_sets, sym h ∙ ap (option_map pure_node) e, λ j. refl, tt, refl)

  pub ruled_equal_multisets : option_map pure_node o ≡ equal_often g y a → o ≡ Some x
      → IsRewritten asked (supply_of y z w ys d c) g a (Some (pure_node x))
  ruled_equal_multisets h e = (plainly rules.equal_multisets, sym h ∙ ap (option_map pure_node) e, λ j. refl, tt, refl)

  pub ruled_equal_functions : option_map pure_node o ≡ equal_pairs g y a → o ≡ Some x
      → IsRewritten asked (supply_of y z w ys d c) g a (Some (pure_node x))
  ruled_equal_functions h e = (plainly rules.equal_functions, sym h ∙ ap (option_map pure_node) e, λ j. refl, tt, refl)

  pub ruled_equal_partitions : option_map pure_node o ≡ equal_parts g y a → o ≡ Some x
      → IsRewritten asked (supply_of y z w ys d c) g a (Some (pure_node x))
  ruled_equal_partitions h e = (plainly rules.equal_partitions, sym h ∙ ap (option_map pure_node) e, λ j. refl, tt, refl)

  pub ruled_with_nothing : option_map pure_node o ≡ equal_to_nothing g y a → o ≡ Some x
      → IsRewritten asked (supply_of y z w ys d c) g a (Some (pure_node x))
  ruled_with_nothing h e = (plainly rules.with_nothing, sym h ∙ ap (option_map pure_node) e, λ j. refl, tt, refl)

  pub ruled_equal_matrices_at : option_map pure_node o
      ≡ (if both_told a then matrices_at (supply_of y z w ys d c) g a else None) → o ≡ Some x
      → IsRewritten asked (supply_of y z w ys d c) g a (Some (pure_node x))
  ruled_equal_matrices_at h e =
      let u : (if both_told a then matrices_at (supply_of y z w ys d c) g a else None) ≡ Some (pure_node x) =
      sym h ∙ ap (option_map pure_node) e in (
        plainly rules.equal_matrices_at,
        chosen-is (both_told a) (matrices_at (supply_of y z w ys d c) g a) (pure_node x) u,
        λ j. refl,
        is-chosen (both_told a) (matrices_at (supply_of y z w ys d c) g a) (pure_node x) u,
        refl,
      )

  pub ruled_included_sets : option_map pure_node o ≡ included_members g y a → o ≡ Some x
      → IsRewritten asked (supply_of y z w ys d c) g a (Some (pure_node x))
  ruled_included_sets h e = (plainly rules.included_sets, sym h ∙ ap (option_map pure_node) e, λ j. refl, tt, refl)

  pub ruled_included_multisets : (p : Option Node) → option_map pure_node p ≡ included_members g y a → p ≡ None
      → option_map pure_node o ≡ included_often y a → o ≡ Some x → IsRewritten asked (supply_of y z w ys d c) g a (Some (pure_node x))
  ruled_included_multisets p k q h e =
      let f : included_often y a ≡ Some (pure_node x) = sym h ∙ ap (option_map pure_node) e in
      (plainly rules.included_multisets, f, λ j. refl, no-sets g y a (pure_node x) (sym k ∙ ap (option_map pure_node) q) f, refl)

  pub ruled_component_of_a_tuple : option_map pure_node o ≡ component_listed a → o ≡ Some x
      → IsRewritten asked (supply_of y z w ys d c) g a (Some (pure_node x))
  ruled_component_of_a_tuple h e = (plainly rules.component_of_a_tuple, sym h ∙ ap (option_map pure_node) e, λ j. refl, tt, refl)

  pub ruled_field_of_a_record : option_map pure_node o ≡ field_listed a → o ≡ Some x
      → IsRewritten asked (supply_of y z w ys d c) g a (Some (pure_node x))
  ruled_field_of_a_record h e = (plainly rules.field_of_a_record, sym h ∙ ap (option_map pure_node) e, λ j. refl, tt, refl)

  pub ruled_in_two : option_map pure_node o ≡ member_combined a → o ≡ Some x
      → IsRewritten asked (supply_of y z w ys d c) g a (Some (pure_node x))
  ruled_in_two h e = (plainly rules.in_two, sym h ∙ ap (option_map pure_node) e, λ j. refl, tt, refl)

  pub ruled_in_one_made_of_another : option_map pure_node o ≡ member_changed g y a → o ≡ Some x
      → IsRewritten asked (supply_of y z w ys d c) g a (Some (pure_node x))
  ruled_in_one_made_of_another h e = (plainly rules.in_one_made_of_another, sym h ∙ ap (option_map pure_node) e, λ j. refl, tt, refl)

  pub ruled_in_a_literal : option_map pure_node o ≡ member_listed a → o ≡ Some x
      → IsRewritten asked (supply_of y z w ys d c) g a (Some (pure_node x))
  ruled_in_a_literal h e = (plainly rules.in_a_literal, sym h ∙ ap (option_map pure_node) e, λ j. refl, tt, refl)

  pub ruled_in_what_a_function_has : option_map pure_node o ≡ member_of_function g y a → o ≡ Some x
      → IsRewritten asked (supply_of y z w ys d c) g a (Some (pure_node x))
  ruled_in_what_a_function_has h e = (plainly rules.in_what_a_function_has, sym h ∙ ap (option_map pure_node) e, λ j. refl, tt, refl)

  pub ruled_in_its_pairs : option_map pure_node o ≡ member_related y a → o ≡ Some x
      → IsRewritten asked (supply_of y z w ys d c) g a (Some (pure_node x))
  ruled_in_its_pairs h e = (plainly rules.in_its_pairs, sym h ∙ ap (option_map pure_node) e, λ j. refl, tt, refl)

  pub ruled_in_a_term : option_map pure_node o ≡ member_term y a → o ≡ Some x
      → IsRewritten asked (supply_of y z w ys d c) g a (Some (pure_node x))
  ruled_in_a_term h e = (plainly rules.in_a_term, sym h ∙ ap (option_map pure_node) e, λ j. refl, tt, refl)

  pub ruled_size_of_one_made_of_another : option_map pure_node o ≡ size_made g y a → o ≡ Some x
      → IsRewritten asked (supply_of y z w ys d c) g a (Some (pure_node x))
  ruled_size_of_one_made_of_another h e =
      (plainly rules.size_of_one_made_of_another, sym h ∙ ap (option_map pure_node) e, λ j. refl, tt, refl)

  pub ruled_size : option_map pure_node o ≡ size_term g y a → o ≡ Some x
      → IsRewritten asked (supply_of y z w ys d c) g a (Some (pure_node x))
  ruled_size h e = (plainly rules.size, sym h ∙ ap (option_map pure_node) e, λ j. refl, tt, refl)

  pub ruled_frequency_in_one_made_of_another : option_map pure_node o ≡ frequency_made g y a → o ≡ Some x
      → IsRewritten asked (supply_of y z w ys d c) g a (Some (pure_node x))
  ruled_frequency_in_one_made_of_another h e =
      (plainly rules.frequency_in_one_made_of_another, sym h ∙ ap (option_map pure_node) e, λ j. refl, tt, refl)

  pub ruled_frequency_in_a_literal : option_map pure_node o ≡ frequency_listed a → o ≡ Some x
      → IsRewritten asked (supply_of y z w ys d c) g a (Some (pure_node x))
  ruled_frequency_in_a_literal h e = (plainly rules.frequency_in_a_literal, sym h ∙ ap (option_map pure_node) e, λ j. refl, tt, refl)

  pub ruled_frequency : option_map pure_node o ≡ frequency_term y a → o ≡ Some x
      → IsRewritten asked (supply_of y z w ys d c) g a (Some (pure_node x))
  ruled_frequency h e = (plainly rules.frequency, sym h ∙ ap (option_map pure_node) e, λ j. refl, tt, refl)

  pub ruled_together : option_map pure_node o ≡ together_term y a → o ≡ Some x
      → IsRewritten asked (supply_of y z w ys d c) g a (Some (pure_node x))
  ruled_together h e = (plainly rules.together, sym h ∙ ap (option_map pure_node) e, λ j. refl, tt, refl)

  pub ruled_least_of_a_literal : option_map pure_node o ≡ extreme_listed a → o ≡ Some x
      → IsRewritten asked (supply_of y z w ys d c) g a (Some (pure_node x))
  ruled_least_of_a_literal h e = (plainly rules.least_of_a_literal, sym h ∙ ap (option_map pure_node) e, λ j. refl, tt, refl)

  pub ruled_different_items : option_map pure_node o ≡ (if tells_scalars_apart g a then None else different_listed a) → o ≡ Some x
      → IsRewritten asked (supply_of y z w ys d c) g a (Some (pure_node x))
  ruled_different_items h e = (plainly rules.different_items, sym h ∙ ap (option_map pure_node) e, λ j. refl, tt, refl)

  pub ruled_list_of_a_term : option_map pure_node o ≡ list_term y a → o ≡ Some x
      → IsRewritten asked (supply_of y z w ys d c) g a (Some (pure_node x))
  ruled_list_of_a_term h e = (plainly rules.list_of_a_term, sym h ∙ ap (option_map pure_node) e, λ j. refl, tt, refl)

  pub ruled_lists_on_both_sides : option_map pure_node o ≡ lex_both y a → o ≡ Some x
      → IsRewritten asked (supply_of y z w ys d c) g a (Some (pure_node x))
  ruled_lists_on_both_sides h e = (plainly rules.lists_on_both_sides, sym h ∙ ap (option_map pure_node) e, λ j. refl, tt, refl)

  pub ruled_all_different : option_map pure_node o ≡ (if tells_scalars_apart g a then None else different_term y a) → o ≡ Some x
      → IsRewritten asked (supply_of y z w ys d c) g a (Some (pure_node x))
  ruled_all_different h e = (plainly rules.all_different, sym h ∙ ap (option_map pure_node) e, λ j. refl, tt, refl)

  pub ruled_results : option_map pure_node o ≡ range_as_set g y a → o ≡ Some x
      → IsRewritten asked (supply_of y z w ys d c) g a (Some (pure_node x))
  ruled_results h e = (plainly rules.results, sym h ∙ ap (option_map pure_node) e, λ j. refl, tt, refl)

  pub ruled_choice : option_map pure_node o ≡ choice_shorter a → o ≡ Some x
      → IsRewritten asked (supply_of y z w ys d c) g a (Some (pure_node x))
  ruled_choice h e = (plainly rules.choice, sym h ∙ ap (option_map pure_node) e, λ j. refl, tt, refl)

  pub ruled_condition : true ≡ may_leave a → option_map pure_node o ≡ condition_leaves a → o ≡ Some x
      → IsRewritten asked (supply_of y z w ys d c) g a (Some (pure_node x))
  ruled_condition m h e = (plainly rules.condition, sym h ∙ ap (option_map pure_node) e, λ j. refl, sym m, refl)

  pub ruled_condition_behind : true ≡ may_leave a → option_map pure_node o ≡ condition_later a → o ≡ Some x
      → IsRewritten asked (supply_of y z w ys d c) g a (Some (pure_node x))
  ruled_condition_behind m h e = (plainly rules.condition_behind, sym h ∙ ap (option_map pure_node) e, λ j. refl, sym m, refl)

  pub ruled_gathering : true ≡ may_leave a → option_map pure_node o ≡ conditions_gathered a → o ≡ Some x
      → IsRewritten asked (supply_of y z w ys d c) g a (Some (pure_node x))
  ruled_gathering m h e = (gathering, sym h ∙ ap (option_map pure_node) e, λ j. refl, sym m, refl)
