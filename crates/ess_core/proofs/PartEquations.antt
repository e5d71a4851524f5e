-- What each part of an expression or a domain stands for, variant by variant.
use Rattle.std.proofs.Common.{◌≡◌, refl, sym, ap, ◌∙◌, Bool, false, ◌||◌, List, [], ◌∷◌, map, Option, Some, None, ℤ, ℕ}
use Rattle.std.specs.Option.{option_map}
use Rattle.ess_semantics.specs.declared.words.Op1.{Op1}
use Rattle.ess_semantics.specs.declared.words.Op2.{Op2}
use Rattle.ess_semantics.specs.declared.words.Fun.{Fun}
use Rattle.ess_semantics.specs.declared.words.Key.{Key}
use Rattle.ess_semantics.specs.Values.{Text}
use Rattle.ess_semantics.specs.Names.{keys}
use Rattle.ess_semantics.specs.Kinds.{doms_of}
use Rattle.ess_semantics.specs.Trees as pure
use Rattle.ess_semantics.specs.Trees.{by_value, to_component, to_field, word, index, application, tuple_literal, set_literal, mset_literal, function_literal, relation_literal, partition_literal, matrix_literal, record_literal, Ends, one_value, Mark, name_pat, tuple_pat, number_ex, truth_ex, name_ex, node_ex, matrix_ex, comp_ex, cell_ex, seen_ex, no_exs, more_exs, bool_dom, int_dom, name_dom, tuple_dom, record_dom, matrix_dom, set_dom, mset_dom, function_dom, relation_dom, partition_dom, ex1, ex2, is_truth_op1, is_truth_op2, is_truth_word}
use Rattle.ess_core.specs.TreeViews.{With, words_of, within, Item, over_item, from_item, cond_item, exs_of, field_values, matrix_literal_of, span, attribute, pat_step, pats_of, dom_step, field_dom_step, range_step, attr_step, ex_step, step_step, field_ex_step, pair_ex_step, gen_step, view_step, pure_repr, pure_pat, pure_dom, pure_field_dom, pure_range, pure_attr, pure_ex, pure_step, pure_field_ex, pure_pair_ex, pure_gen, pure_view, pure_exs, pure_doms, pure_gens}
use Rattle.ess_core.specs.declared.domains.Dom.{Dom}
use Rattle.ess_core.specs.declared.domains.FieldDom.{FieldDom}
use Rattle.ess_core.specs.declared.domains.Range.{Range}
use Rattle.ess_core.specs.declared.domains.Attr.{Attr}
use Rattle.ess_core.specs.declared.expressions.Ex.{Ex}
use Rattle.ess_core.specs.declared.expressions.Step.{Step}
use Rattle.ess_core.specs.declared.expressions.FieldEx.{FieldEx}
use Rattle.ess_core.specs.declared.expressions.PairEx.{PairEx}
use Rattle.ess_core.specs.declared.expressions.Gen.{Gen}
use Rattle.ess_core.specs.declared.expressions.View.{View}
use Rattle.ess_core.specs.declared.domains.Dom.TheOpen.{Dom-F, FieldDom-F, Range-F, Attr-F, Ex-F, Step-F, FieldEx-F, PairEx-F, Gen-F, View-F}
use Rattle.ess_core.specs.declared.expressions.Pat.{Pat}
use Rattle.ess_core.specs.declared.expressions.Pat.TheOpen.{Pat-F}
use Rattle.ess_core.specs.declared.expressions.Pat.TheFolds.{fold-roll-Pat}
use Rattle.ess_core.specs.declared.expressions.Pat.TheVariants as pat
use Rattle.ess_core.specs.declared.domains.Range.TheVariants as range
use Rattle.ess_core.specs.declared.expressions.Gen.TheVariants as gen
use Rattle.ess_core.specs.declared.expressions.Step.TheVariants as step
use Rattle.ess_core.specs.declared.domains.Dom.TheViews.{out-FieldDom, roll-out-FieldDom, out-FieldEx, roll-out-FieldEx, out-PairEx, roll-out-PairEx, out-Attr, roll-Attr, roll-out-Attr, out-View, roll-out-View}
use Rattle.ess_core.specs.declared.domains.Dom.TheFolds.{fold-roll-Range, fold-roll-Gen, fold-roll-Step, fold-roll-FieldDom, fold-roll-FieldEx, fold-roll-PairEx, fold-roll-Attr, fold-roll-View}

pub pure_range_one : (e : Ex) → pure_range (range.One e) ≡ (one_value, pure_ex e ∷ [])
pure_range_one e = ap pure_range (sym (range.rolls-One e)) ∙ fold-roll-Range pure.Dom (With Ends) pure.Ex Item (With pure.Step) (With Mark) (Text × pure.Dom) (Text × pure.Ex) pure.Ex pure.Ex dom_step range_step ex_step gen_step step_step attr_step field_dom_step field_ex_step pair_ex_step view_step (Range-F.Range::One e)

pub pure_range_span : (low high : Option Ex) → pure_range (range.Span low high) ≡ span (option_map pure_ex low) (option_map pure_ex high)
pure_range_span None None = ap pure_range (sym (range.rolls-Span None None)) ∙ fold-roll-Range pure.Dom (With Ends) pure.Ex Item (With pure.Step) (With Mark) (Text × pure.Dom) (Text × pure.Ex) pure.Ex pure.Ex dom_step range_step ex_step gen_step step_step attr_step field_dom_step field_ex_step pair_ex_step view_step (Range-F.Span None None)
pure_range_span None (Some b) = ap pure_range (sym (range.rolls-Span None (Some b))) ∙ fold-roll-Range pure.Dom (With Ends) pure.Ex Item (With pure.Step) (With Mark) (Text × pure.Dom) (Text × pure.Ex) pure.Ex pure.Ex dom_step range_step ex_step gen_step step_step attr_step field_dom_step field_ex_step pair_ex_step view_step (Range-F.Span None (Some b))
pure_range_span (Some a) None = ap pure_range (sym (range.rolls-Span (Some a) None)) ∙ fold-roll-Range pure.Dom (With Ends) pure.Ex Item (With pure.Step) (With Mark) (Text × pure.Dom) (Text × pure.Ex) pure.Ex pure.Ex dom_step range_step ex_step gen_step step_step attr_step field_dom_step field_ex_step pair_ex_step view_step (Range-F.Span (Some a) None)
pure_range_span (Some a) (Some b) = ap pure_range (sym (range.rolls-Span (Some a) (Some b))) ∙ fold-roll-Range pure.Dom (With Ends) pure.Ex Item (With pure.Step) (With Mark) (Text × pure.Dom) (Text × pure.Ex) pure.Ex pure.Ex dom_step range_step ex_step gen_step step_step attr_step field_dom_step field_ex_step pair_ex_step view_step (Range-F.Span (Some a) (Some b))

pub pure_gen_over : (p : Pat) (d : Dom) → pure_gen (gen.Over p d) ≡ over_item (pure_pat p) (pure_dom d)
pure_gen_over p d = ap pure_gen (sym (gen.rolls-Over p d)) ∙ fold-roll-Gen pure.Dom (With Ends) pure.Ex Item (With pure.Step) (With Mark) (Text × pure.Dom) (Text × pure.Ex) pure.Ex pure.Ex dom_step range_step ex_step gen_step step_step attr_step field_dom_step field_ex_step pair_ex_step view_step (Gen-F.Over p d)

pub pure_gen_from : (p : Pat) (e : Ex) → pure_gen (gen.From p e) ≡ from_item (pure_pat p) (pure_ex e)
pure_gen_from p e = ap pure_gen (sym (gen.rolls-From p e)) ∙ fold-roll-Gen pure.Dom (With Ends) pure.Ex Item (With pure.Step) (With Mark) (Text × pure.Dom) (Text × pure.Ex) pure.Ex pure.Ex dom_step range_step ex_step gen_step step_step attr_step field_dom_step field_ex_step pair_ex_step view_step (Gen-F.From p e)

pub pure_gen_if : (e : Ex) → pure_gen (gen.If e) ≡ cond_item (pure_ex e)
pure_gen_if e = ap pure_gen (sym (gen.rolls-If e)) ∙ fold-roll-Gen pure.Dom (With Ends) pure.Ex Item (With pure.Step) (With Mark) (Text × pure.Dom) (Text × pure.Ex) pure.Ex pure.Ex dom_step range_step ex_step gen_step step_step attr_step field_dom_step field_ex_step pair_ex_step view_step (Gen-F.If e)

pub pure_step_value : (e : Ex) → pure_step (step.Value e) ≡ (by_value, pure_ex e ∷ [])
pure_step_value e = ap pure_step (sym (step.rolls-Value e)) ∙ fold-roll-Step pure.Dom (With Ends) pure.Ex Item (With pure.Step) (With Mark) (Text × pure.Dom) (Text × pure.Ex) pure.Ex pure.Ex dom_step range_step ex_step gen_step step_step attr_step field_dom_step field_ex_step pair_ex_step view_step (Step-F.Value e)

pub pure_step_component : (k : ℕ) → pure_step (step.Component k) ≡ (to_component k, [])
pure_step_component k = ap pure_step (sym (step.rolls-Component k)) ∙ fold-roll-Step pure.Dom (With Ends) pure.Ex Item (With pure.Step) (With Mark) (Text × pure.Dom) (Text × pure.Ex) pure.Ex pure.Ex dom_step range_step ex_step gen_step step_step attr_step field_dom_step field_ex_step pair_ex_step view_step (Step-F.Component k)

pub pure_step_field : (a : Text) → pure_step (step.Field a) ≡ (to_field a, [])
pure_step_field a = ap pure_step (sym (step.rolls-Field a)) ∙ fold-roll-Step pure.Dom (With Ends) pure.Ex Item (With pure.Step) (With Mark) (Text × pure.Dom) (Text × pure.Ex) pure.Ex pure.Ex dom_step range_step ex_step gen_step step_step attr_step field_dom_step field_ex_step pair_ex_step view_step (Step-F.Field a)

pub pure_field_dom_is : (x : FieldDom) → pure_field_dom x ≡ ((out-FieldDom x).name, pure_dom (out-FieldDom x).dom)
pure_field_dom_is x = ap pure_field_dom (sym (roll-out-FieldDom x)) ∙ fold-roll-FieldDom pure.Dom (With Ends) pure.Ex Item (With pure.Step) (With Mark) (Text × pure.Dom) (Text × pure.Ex) pure.Ex pure.Ex dom_step range_step ex_step gen_step step_step attr_step field_dom_step field_ex_step pair_ex_step view_step (out-FieldDom x)

pub pure_field_ex_is : (x : FieldEx) → pure_field_ex x ≡ ((out-FieldEx x).name, pure_ex (out-FieldEx x).ex)
pure_field_ex_is x = ap pure_field_ex (sym (roll-out-FieldEx x)) ∙ fold-roll-FieldEx pure.Dom (With Ends) pure.Ex Item (With pure.Step) (With Mark) (Text × pure.Dom) (Text × pure.Ex) pure.Ex pure.Ex dom_step range_step ex_step gen_step step_step attr_step field_dom_step field_ex_step pair_ex_step view_step (out-FieldEx x)

pub pure_pair_ex_is : (x : PairEx) → pure_pair_ex x ≡ node_ex false tuple_literal (more_exs (pure_ex (out-PairEx x).from) (more_exs (pure_ex (out-PairEx x).to) no_exs))
pure_pair_ex_is x = ap pure_pair_ex (sym (roll-out-PairEx x)) ∙ fold-roll-PairEx pure.Dom (With Ends) pure.Ex Item (With pure.Step) (With Mark) (Text × pure.Dom) (Text × pure.Ex) pure.Ex pure.Ex dom_step range_step ex_step gen_step step_step attr_step field_dom_step field_ex_step pair_ex_step view_step (out-PairEx x)

pure_attr_of : (k : Key) (v : Option Ex) → pure_attr (roll-Attr (record { key = k; value = v })) ≡ attribute k (option_map pure_ex v)
pure_attr_of k None = fold-roll-Attr pure.Dom (With Ends) pure.Ex Item (With pure.Step) (With Mark) (Text × pure.Dom) (Text × pure.Ex) pure.Ex pure.Ex dom_step range_step ex_step gen_step step_step attr_step field_dom_step field_ex_step pair_ex_step view_step (record { key = k; value = None })
pure_attr_of k (Some e) = fold-roll-Attr pure.Dom (With Ends) pure.Ex Item (With pure.Step) (With Mark) (Text × pure.Dom) (Text × pure.Ex) pure.Ex pure.Ex dom_step range_step ex_step gen_step step_step attr_step field_dom_step field_ex_step pair_ex_step view_step (record { key = k; value = Some e })

pub pure_attr_is : (x : Attr) → pure_attr x ≡ attribute (out-Attr x).key (option_map pure_ex (out-Attr x).value)
pure_attr_is x = ap pure_attr (sym (roll-out-Attr x)) ∙ pure_attr_of (out-Attr x).key (out-Attr x).value

pub pure_view_is : (x : View) → pure_view x ≡ seen_ex (pure_repr (out-View x).repr) (pure_dom (out-View x).dom) (out-View x).cells (pure_exs (out-View x).at)
pure_view_is x = ap pure_view (sym (roll-out-View x)) ∙ fold-roll-View pure.Dom (With Ends) pure.Ex Item (With pure.Step) (With Mark) (Text × pure.Dom) (Text × pure.Ex) pure.Ex pure.Ex dom_step range_step ex_step gen_step step_step attr_step field_dom_step field_ex_step pair_ex_step view_step (out-View x)

pub pure_pat_name : (a : Text) → pure_pat (pat.Name a) ≡ name_pat a
pure_pat_name a = ap pure_pat (sym (pat.rolls-Name a)) ∙ fold-roll-Pat pure.Pat pat_step (Pat-F.Name a)

pub pure_pat_tuple : (ps : List Pat) → pure_pat (pat.Tuple ps) ≡ tuple_pat (pats_of (map pure_pat ps))
pure_pat_tuple ps = ap pure_pat (sym (pat.rolls-Tuple ps)) ∙ fold-roll-Pat pure.Pat pat_step (Pat-F.Tuple ps)
