-- What a domain stands for, variant by variant.
use Rattle.std.proofs.Common.{◌≡◌, refl, sym, ap, ◌∙◌, Bool, false, ◌||◌, List, map, Option, Some, None, ℤ, ℕ}
use Rattle.std.specs.Option.{option_map}
use Rattle.ess_semantics.specs.declared.words.Op1.{Op1}
use Rattle.ess_semantics.specs.declared.words.Op2.{Op2}
use Rattle.ess_semantics.specs.declared.words.Fun.{Fun}
use Rattle.ess_semantics.specs.declared.words.Key.{Key}
use Rattle.ess_semantics.specs.Values.{Text}
use Rattle.ess_semantics.specs.Names.{keys}
use Rattle.ess_semantics.specs.Kinds.{doms_of}
use Rattle.ess_semantics.specs.Trees as pure
use Rattle.ess_semantics.specs.Trees.{by_value, to_component, to_field, word, index, application, tuple_literal, set_literal, mset_literal, function_literal, relation_literal, partition_literal, matrix_literal, record_literal, Ends, one_value, Mark, name_pat, tuple_pat, number_ex, truth_ex, name_ex, node_ex, matrix_ex, comp_ex, cell_ex, seen_ex, no_exs, more_exs, bool_dom, int_dom, name_dom, tuple_dom, record_dom, matrix_dom, set_dom, mset_dom, function_dom, relation_dom, partition_dom, ex1, ex2, is_truth_op1, is_truth_op2, is_truth_word}
use Rattle.ess_core.specs.TreeViews.{With, words_of, within, Item, over_item, from_item, cond_item, exs_of, field_values, matrix_literal_of, span, attribute, pat_step, pats_of, dom_step, field_dom_step, range_step, attr_step, ex_step, step_step, field_ex_step, pair_ex_step, gen_step, view_step, pure_repr, pure_pat, pure_dom, pure_field_dom, pure_range, pure_attr, pure_ex, pure_step, pure_field_ex, pure_pair_ex, pure_gen, pure_view, pure_exs, pure_doms, pure_gens}
use Rattle.ess_core.specs.declared.domains.Dom.{Dom}
use Rattle.ess_core.specs.declared.domains.FieldDom.{FieldDom}
use Rattle.ess_core.specs.declared.domains.Range.{Range}
use Rattle.ess_core.specs.declared.domains.Attr.{Attr}
use Rattle.ess_core.specs.declared.expressions.Ex.{Ex}
use Rattle.ess_core.specs.declared.expressions.Step.{Step}
use Rattle.ess_core.specs.declared.expressions.FieldEx.{FieldEx}
use Rattle.ess_core.specs.declared.expressions.PairEx.{PairEx}
use Rattle.ess_core.specs.declared.expressions.Gen.{Gen}
use Rattle.ess_core.specs.declared.expressions.View.{View}
use Rattle.ess_core.specs.declared.domains.Dom.TheOpen.{Dom-F, FieldDom-F, Range-F, Attr-F, Ex-F, Step-F, FieldEx-F, PairEx-F, Gen-F, View-F}
use Rattle.ess_core.specs.declared.domains.Dom.TheVariants as variant
use Rattle.ess_core.specs.declared.domains.Dom.TheFolds.{fold-roll-Dom}

pub pure_bool : pure_dom variant.Bool ≡ bool_dom
pure_bool = ap pure_dom (sym variant.rolls-Bool) ∙ fold-roll-Dom pure.Dom (With Ends) pure.Ex Item (With pure.Step) (With Mark) (Text × pure.Dom) (Text × pure.Ex) pure.Ex pure.Ex dom_step range_step ex_step gen_step step_step attr_step field_dom_step field_ex_step pair_ex_step view_step Dom-F.Bool

pub pure_int : (rs : List Range) → pure_dom (variant.Int rs) ≡ int_dom (words_of (map pure_range rs)) (exs_of (within (map pure_range rs)))
pure_int rs = ap pure_dom (sym (variant.rolls-Int rs)) ∙ fold-roll-Dom pure.Dom (With Ends) pure.Ex Item (With pure.Step) (With Mark) (Text × pure.Dom) (Text × pure.Ex) pure.Ex pure.Ex dom_step range_step ex_step gen_step step_step attr_step field_dom_step field_ex_step pair_ex_step view_step (Dom-F.Int rs)

pub pure_name : (a : Text) → pure_dom (variant.Name a) ≡ name_dom a
pure_name a = ap pure_dom (sym (variant.rolls-Name a)) ∙ fold-roll-Dom pure.Dom (With Ends) pure.Ex Item (With pure.Step) (With Mark) (Text × pure.Dom) (Text × pure.Ex) pure.Ex pure.Ex dom_step range_step ex_step gen_step step_step attr_step field_dom_step field_ex_step pair_ex_step view_step (Dom-F.Dom::Name a)

pub pure_tuple : (ds : List Dom) → pure_dom (variant.Tuple ds) ≡ tuple_dom (pure_doms ds)
pure_tuple ds = ap pure_dom (sym (variant.rolls-Tuple ds)) ∙ fold-roll-Dom pure.Dom (With Ends) pure.Ex Item (With pure.Step) (With Mark) (Text × pure.Dom) (Text × pure.Ex) pure.Ex pure.Ex dom_step range_step ex_step gen_step step_step attr_step field_dom_step field_ex_step pair_ex_step view_step (Dom-F.Dom::Tuple ds)

pub pure_rec : (fs : List FieldDom) → pure_dom (variant.Rec fs) ≡ record_dom (keys (map pure_field_dom fs)) (doms_of (field_values (map pure_field_dom fs)))
pure_rec fs = ap pure_dom (sym (variant.rolls-Rec fs)) ∙ fold-roll-Dom pure.Dom (With Ends) pure.Ex Item (With pure.Step) (With Mark) (Text × pure.Dom) (Text × pure.Ex) pure.Ex pure.Ex dom_step range_step ex_step gen_step step_step attr_step field_dom_step field_ex_step pair_ex_step view_step (Dom-F.Dom::Rec fs)

pub pure_matrix : (ds : List Dom) (d : Dom) → pure_dom (variant.Matrix ds d) ≡ matrix_dom (pure_doms ds) (pure_dom d)
pure_matrix ds d = ap pure_dom (sym (variant.rolls-Matrix ds d)) ∙ fold-roll-Dom pure.Dom (With Ends) pure.Ex Item (With pure.Step) (With Mark) (Text × pure.Dom) (Text × pure.Ex) pure.Ex pure.Ex dom_step range_step ex_step gen_step step_step attr_step field_dom_step field_ex_step pair_ex_step view_step (Dom-F.Dom::Matrix ds d)

pub pure_set : (ms : List Attr) (d : Dom) → pure_dom (variant.Set ms d) ≡ set_dom (words_of (map pure_attr ms)) (exs_of (within (map pure_attr ms))) (pure_dom d)
pure_set ms d = ap pure_dom (sym (variant.rolls-Set ms d)) ∙ fold-roll-Dom pure.Dom (With Ends) pure.Ex Item (With pure.Step) (With Mark) (Text × pure.Dom) (Text × pure.Ex) pure.Ex pure.Ex dom_step range_step ex_step gen_step step_step attr_step field_dom_step field_ex_step pair_ex_step view_step (Dom-F.Dom::Set ms d)

pub pure_mset : (ms : List Attr) (d : Dom) → pure_dom (variant.MSet ms d) ≡ mset_dom (words_of (map pure_attr ms)) (exs_of (within (map pure_attr ms))) (pure_dom d)
pure_mset ms d = ap pure_dom (sym (variant.rolls-MSet ms d)) ∙ fold-roll-Dom pure.Dom (With Ends) pure.Ex Item (With pure.Step) (With Mark) (Text × pure.Dom) (Text × pure.Ex) pure.Ex pure.Ex dom_step range_step ex_step gen_step step_step attr_step field_dom_step field_ex_step pair_ex_step view_step (Dom-F.Dom::MSet ms d)

pub pure_function : (ms : List Attr) (c d : Dom) → pure_dom (variant.Function ms c d) ≡ function_dom (words_of (map pure_attr ms)) (exs_of (within (map pure_attr ms))) (pure_dom c) (pure_dom d)
pure_function ms c d = ap pure_dom (sym (variant.rolls-Function ms c d)) ∙ fold-roll-Dom pure.Dom (With Ends) pure.Ex Item (With pure.Step) (With Mark) (Text × pure.Dom) (Text × pure.Ex) pure.Ex pure.Ex dom_step range_step ex_step gen_step step_step attr_step field_dom_step field_ex_step pair_ex_step view_step (Dom-F.Dom::Function ms c d)

pub pure_relation : (ms : List Attr) (ds : List Dom) → pure_dom (variant.Relation ms ds) ≡ relation_dom (words_of (map pure_attr ms)) (exs_of (within (map pure_attr ms))) (pure_doms ds)
pure_relation ms ds = ap pure_dom (sym (variant.rolls-Relation ms ds)) ∙ fold-roll-Dom pure.Dom (With Ends) pure.Ex Item (With pure.Step) (With Mark) (Text × pure.Dom) (Text × pure.Ex) pure.Ex pure.Ex dom_step range_step ex_step gen_step step_step attr_step field_dom_step field_ex_step pair_ex_step view_step (Dom-F.Dom::Relation ms ds)

pub pure_partition : (ms : List Attr) (d : Dom) → pure_dom (variant.Partition ms d) ≡ partition_dom (words_of (map pure_attr ms)) (exs_of (within (map pure_attr ms))) (pure_dom d)
pure_partition ms d = ap pure_dom (sym (variant.rolls-Partition ms d)) ∙ fold-roll-Dom pure.Dom (With Ends) pure.Ex Item (With pure.Step) (With Mark) (Text × pure.Dom) (Text × pure.Ex) pure.Ex pure.Ex dom_step range_step ex_step gen_step step_step attr_step field_dom_step field_ex_step pair_ex_step view_step (Dom-F.Dom::Partition ms d)
