-- Each rule that fires is one of the rules of kinds.
use Rattle.std.proofs.Common.{◌≡◌, refl, sym, true, false, ap, ◌∙◌, List, Option, Some, None, if◌then◌else◌}
use Rattle.std.specs.Prelude.{option_map}
use Rattle.ess_semantics.specs.Names.{Names}
use Rattle.ess_semantics.specs.Trees.{Ex}
use Rattle.ess_semantics.specs.Types.{Ty}
use Rattle.ess_core_nodes.specs.declared.nodes.Node.{Node}
use Rattle.ess_core_nodes.specs.NodeViews.{pure_node}
use Rattle.ess_refine_laws.specs.AllRules.{Supply}
use Rattle.ess_kind_rules_laws.specs.KindRules as kinds
use Rattle.ess_open_rules_laws.specs.OpenRules as openings
use Rattle.ess_kind_rules_laws.specs.KindRules.{function_size, asks_truth}
use Rattle.ess_kind_rules_laws.specs.ViewListings.{slots_of_operand, partitioned_second}
use Rattle.ess_open_rules_laws.specs.OpenGenerators.{nested}
use Rattle.ess_open_rules_laws.specs.OpenRules.{KindRuling, related, over_a_pick, pick_alone, of_kind, of_opening}
use Rattle.ess_open_rules_laws.specs.OpenSources.{
  seen_loosely,
  over_one_opened,
  over_each_picked,
  kept_behind,
  least_of_several,
  set_of_several,
  counted_apart,
  listed_plainly,
  set_of_term,
}
use Rattle.ess_rules_laws.specs.AtomViews.{atom_cell}
use Rattle.ess_rules_laws.specs.FunctionKeys.{defined_where_flagged, result_at_argument, lookup_behind_flag}
use Rattle.ess_rules_laws.specs.IndexSteps.{step_apart}
use Rattle.ess_rules_laws.specs.Lookups.{select_whole}
use Rattle.ess_rules_laws.specs.OccurrenceViews.{member_by_cell}
use Rattle.ess_rules_laws.specs.SetSizes.{size_by_marker, size_by_slots}
use Rattle.ess_semantics.specs.Lists.{and_then}
use Rattle.ess_views_laws.specs.ChildViews.{asked_of_child}
use Rattle.ess_views_laws.specs.ComponentViews.{component_view}
use Rattle.ess_views_laws.specs.MatrixViews.{item_view}
use Rattle.ess_views_laws.specs.MultisetViews.{multiset_member, multiset_size, multiset_frequency}
use Rattle.ess_views_laws.specs.PartitionViews.{is_participant, number_of_parts, are_together, partition_party}
use Rattle.ess_kind_rules.specs.Kinds.{IsOfKind}

module _ (asked : List KindRuling) (s : Supply) (g : Names Ty) (a : Ex) (o : Option Node) (x : Node) where
  pub kind_step_by_step : option_map pure_node o ≡ step_apart a → o ≡ Some x
      → IsOfKind false asked s g a (Some (pure_node x))
  kind_step_by_step h e = (of_opening openings.step_by_step, sym h ∙ ap (option_map pure_node) e, refl)

  pub kind_applied_relation : option_map pure_node o ≡ related g a → o ≡ Some x
      → IsOfKind false asked s g a (Some (pure_node x))
  kind_applied_relation h e = (of_opening openings.applied_relation, sym h ∙ ap (option_map pure_node) e, refl)

  pub kind_cell_of_an_atom : option_map pure_node o ≡ atom_cell a → o ≡ Some x
      → IsOfKind false asked s g a (Some (pure_node x))
  kind_cell_of_an_atom h e = (of_kind kinds.cell_of_an_atom, sym h ∙ ap (option_map pure_node) e, refl)

  pub kind_component_of_a_view : option_map pure_node o ≡ component_view a → o ≡ Some x
      → IsOfKind false asked s g a (Some (pure_node x))
  kind_component_of_a_view h e = (of_kind kinds.component_of_a_view, sym h ∙ ap (option_map pure_node) e, refl)

  pub kind_truth_in_a_matrix : option_map pure_node o ≡ (if asks_truth a then item_view a else None) → o ≡ Some x
      → IsOfKind false asked s g a (Some (pure_node x))
  kind_truth_in_a_matrix h e = (of_kind kinds.truth_in_a_matrix, sym h ∙ ap (option_map pure_node) e, refl)

  pub kind_truth_at_an_argument : option_map pure_node o ≡ (if asks_truth a then result_at_argument a else None) → o ≡ Some x
      → IsOfKind false asked s g a (Some (pure_node x))
  kind_truth_at_an_argument h e = (of_kind kinds.truth_at_an_argument, sym h ∙ ap (option_map pure_node) e, refl)

  pub kind_truth_behind_a_flag : option_map pure_node o
      ≡ (if asks_truth a then and_then (lookup_behind_flag a) (λ l. select_whole s.one l a) else None) → o ≡ Some x
      → IsOfKind false asked s g a (Some (pure_node x))
  kind_truth_behind_a_flag h e = (of_kind kinds.truth_behind_a_flag, sym h ∙ ap (option_map pure_node) e, refl)

  pub kind_asked_of_its_child : option_map pure_node o ≡ asked_of_child a → o ≡ Some x
      → IsOfKind false asked s g a (Some (pure_node x))
  kind_asked_of_its_child h e = (of_kind kinds.asked_of_its_child, sym h ∙ ap (option_map pure_node) e, refl)

  pub kind_member_at_a_cell : option_map pure_node o ≡ member_by_cell a → o ≡ Some x
      → IsOfKind false asked s g a (Some (pure_node x))
  kind_member_at_a_cell h e = (of_kind kinds.member_at_a_cell, sym h ∙ ap (option_map pure_node) e, refl)

  pub kind_member_of_a_multiset : option_map pure_node o ≡ multiset_member s.one a → o ≡ Some x
      → IsOfKind false asked s g a (Some (pure_node x))
  kind_member_of_a_multiset h e = (of_kind kinds.member_of_a_multiset, sym h ∙ ap (option_map pure_node) e, refl)

  pub kind_argument_with_a_flag : option_map pure_node o ≡ defined_where_flagged a → o ≡ Some x
      → IsOfKind false asked s g a (Some (pure_node x))
  kind_argument_with_a_flag h e = (of_kind kinds.argument_with_a_flag, sym h ∙ ap (option_map pure_node) e, refl)

  pub kind_member_of_a_part : option_map pure_node o ≡ is_participant s.one a → o ≡ Some x
      → IsOfKind false asked s g a (Some (pure_node x))
  kind_member_of_a_part h e = (of_kind kinds.member_of_a_part, sym h ∙ ap (option_map pure_node) e, refl)

  pub kind_size_at_the_marker : option_map pure_node o ≡ size_by_marker a → o ≡ Some x
      → IsOfKind false asked s g a (Some (pure_node x))
  kind_size_at_the_marker h e = (of_kind kinds.size_at_the_marker, sym h ∙ ap (option_map pure_node) e, refl)

  pub kind_size_of_slots : option_map pure_node o ≡ size_by_slots (slots_of_operand a) a → o ≡ Some x
      → IsOfKind false asked s g a (Some (pure_node x))
  kind_size_of_slots h e = (of_kind kinds.size_of_slots, sym h ∙ ap (option_map pure_node) e, refl)

  pub kind_size_of_a_multiset : option_map pure_node o ≡ multiset_size s.one (slots_of_operand a) a → o ≡ Some x
      → IsOfKind false asked s g a (Some (pure_node x))
  kind_size_of_a_multiset h e = (of_kind kinds.size_of_a_multiset, sym h ∙ ap (option_map pure_node) e, refl)

  pub kind_size_of_a_function : option_map pure_node o ≡ function_size a → o ≡ Some x
      → IsOfKind false asked s g a (Some (pure_node x))
  kind_size_of_a_function h e = (of_kind kinds.size_of_a_function, sym h ∙ ap (option_map pure_node) e, refl)

  pub kind_size_of_the_parts : option_map pure_node o ≡ number_of_parts a → o ≡ Some x
      → IsOfKind false asked s g a (Some (pure_node x))
  kind_size_of_the_parts h e = (of_kind kinds.size_of_the_parts, sym h ∙ ap (option_map pure_node) e, refl)

  pub kind_frequency_by_cells : option_map pure_node o ≡ multiset_frequency s.one (slots_of_operand a) a → o ≡ Some x
      → IsOfKind false asked s g a (Some (pure_node x))
  kind_frequency_by_cells h e = (of_kind kinds.frequency_by_cells, sym h ∙ ap (option_map pure_node) e, refl)

  pub kind_lie_together : option_map pure_node o ≡ are_together s.one s.other (partitioned_second a) a → o ≡ Some x
      → IsOfKind false asked s g a (Some (pure_node x))
  kind_lie_together h e = (of_kind kinds.lie_together, sym h ∙ ap (option_map pure_node) e, refl)

  pub kind_party_by_number : option_map pure_node o ≡ partition_party (partitioned_second a) a → o ≡ Some x
      → IsOfKind false asked s g a (Some (pure_node x))
  kind_party_by_number h e = (of_kind kinds.party_by_number, sym h ∙ ap (option_map pure_node) e, refl)

  pub kind_of_a_pick : option_map pure_node o ≡ over_a_pick s g a → o ≡ Some x
      → IsOfKind false asked s g a (Some (pure_node x))
  kind_of_a_pick h e = (of_opening openings.of_a_pick, sym h ∙ ap (option_map pure_node) e, refl)

  pub kind_without_repeats : option_map pure_node o ≡ seen_loosely a → o ≡ Some x
      → IsOfKind false asked s g a (Some (pure_node x))
  kind_without_repeats h e = (of_opening openings.without_repeats, sym h ∙ ap (option_map pure_node) e, refl)

  pub kind_a_pick_alone : option_map pure_node o ≡ pick_alone s g a → o ≡ Some x
      → IsOfKind false asked s g a (Some (pure_node x))
  kind_a_pick_alone h e = (of_opening openings.a_pick_alone, sym h ∙ ap (option_map pure_node) e, refl)

  pub kind_over_one_source : option_map pure_node o ≡ over_one_opened s g a → o ≡ Some x
      → IsOfKind true asked s g a (Some (pure_node x))
  kind_over_one_source h e = (of_opening openings.over_one_source, sym h ∙ ap (option_map pure_node) e, refl)

  pub kind_over_what_is_picked : option_map pure_node o ≡ over_each_picked s g a → o ≡ Some x
      → IsOfKind true asked s g a (Some (pure_node x))
  kind_over_what_is_picked h e = (of_opening openings.over_what_is_picked, sym h ∙ ap (option_map pure_node) e, refl)

  pub kind_in_order_of_its_source : option_map pure_node o ≡ kept_behind s g a → o ≡ Some x
      → IsOfKind true asked s g a (Some (pure_node x))
  kind_in_order_of_its_source h e = (of_opening openings.in_order_of_its_source, sym h ∙ ap (option_map pure_node) e, refl)

  pub kind_least_over_several : option_map pure_node o ≡ least_of_several s g a → o ≡ Some x
      → IsOfKind true asked s g a (Some (pure_node x))
  kind_least_over_several h e = (of_opening openings.least_over_several, sym h ∙ ap (option_map pure_node) e, refl)

  pub kind_set_over_several : option_map pure_node o ≡ set_of_several s g a → o ≡ Some x
      → IsOfKind true asked s g a (Some (pure_node x))
  kind_set_over_several h e = (of_opening openings.set_over_several, sym h ∙ ap (option_map pure_node) e, refl)

  pub kind_different_by_counts : option_map pure_node o ≡ counted_apart s g a → o ≡ Some x
      → IsOfKind false asked s g a (Some (pure_node x))
  kind_different_by_counts h e = (of_opening openings.different_by_counts, sym h ∙ ap (option_map pure_node) e, refl)

  pub kind_fold_of_folds : option_map pure_node o ≡ nested a → o ≡ Some x
      → IsOfKind false asked s g a (Some (pure_node x))
  kind_fold_of_folds h e = (of_opening openings.fold_of_folds, sym h ∙ ap (option_map pure_node) e, refl)

  pub kind_without_its_indices : option_map pure_node o ≡ listed_plainly a → o ≡ Some x
      → IsOfKind false asked s g a (Some (pure_node x))
  kind_without_its_indices h e = (of_opening openings.without_its_indices, sym h ∙ ap (option_map pure_node) e, refl)

  pub kind_set_of_a_term : option_map pure_node o ≡ set_of_term s a → o ≡ Some x
      → IsOfKind false asked s g a (Some (pure_node x))
  kind_set_of_a_term h e = (of_opening openings.set_of_a_term, sym h ∙ ap (option_map pure_node) e, refl)
