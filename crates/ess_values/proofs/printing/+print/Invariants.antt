use Rattle.std.proofs.Common.{◌≡◌, ◌++◌, map, drop}
use Rattle.ess_semantics.specs.Values.{of_list}
use Rattle.ess_semantics.specs.Names.{keys}
use Rattle.ess_core.specs.ValueViews.{pure_vals, pure_field_val, pure_pair}
use Rattle.ess_core.specs.TableViews.{pure_type_entries}
use Rattle.ess_grammar.specs.ValueTexts.{value_texts, field_texts, with_commas}
use Rattle.ess_values_laws.specs.ItemNames.{item_name}
use Rattle.ess_values.specs.Printing.{pair_text}
use Rattle.ess_values.proofs.Commas.{behind}
use Rattle.ess_values.proofs.printing.+print.Given as goal

abbrev pub invariant-push_vals-loop-i : goal.invariant-push_vals-loop-i
invariant-push_vals-loop-i l =
    l.out ++ behind l.i (value_texts (item_name (pure_type_entries l.env.types)) (pure_vals (drop l.i l.vals)))
    ≡ l.initial.out ++ with_commas (value_texts (item_name (pure_type_entries l.env.types)) (pure_vals l.vals))

abbrev pub invariant-push_pairs-loop-i : goal.invariant-push_pairs-loop-i
invariant-push_pairs-loop-i l =
    l.out ++ behind l.i (map (pair_text (item_name (pure_type_entries l.env.types))) (map pure_pair (drop l.i l.pairs)))
    ≡ l.initial.out ++ with_commas (map (pair_text (item_name (pure_type_entries l.env.types))) (map pure_pair l.pairs))

abbrev pub invariant-push_record-loop-i : goal.invariant-push_record-loop-i
invariant-push_record-loop-i l =
    l.out ++ behind l.i (field_texts (keys (map pure_field_val (drop l.i l.fields))) (value_texts (item_name (pure_type_entries l.env.types)) (of_list (map (λ f. f.1) (map pure_field_val (drop l.i l.fields))))))
    ≡ l.initial.out ++ with_commas (field_texts (keys (map pure_field_val l.fields)) (value_texts (item_name (pure_type_entries l.env.types)) (of_list (map (λ f. f.1) (map pure_field_val l.fields)))))
