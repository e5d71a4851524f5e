-- What an expression stands for, variant by variant.
use Rattle.std.proofs.Common.{◌≡◌, refl, sym, ap, ◌∙◌, Bool, false, List, map, Option, Some, None, ℤ, ℕ}
use Rattle.std.specs.Option.{option_map}
use Rattle.ess_semantics.specs.declared.words.Op1.{Op1}
use Rattle.ess_semantics.specs.declared.words.Op2.{Op2}
use Rattle.ess_semantics.specs.declared.words.Fun.{Fun}
use Rattle.ess_semantics.specs.declared.words.Key.{Key}
use Rattle.ess_semantics.specs.Values.{Text}
use Rattle.ess_semantics.specs.Names.{keys}
use Rattle.ess_semantics.specs.Kinds.{doms_of}
use Rattle.ess_semantics.specs.Trees as pure
use Rattle.ess_semantics.specs.Trees.{by_value, to_component, to_field, word, index, application, tuple_literal, set_literal, mset_literal, function_literal, relation_literal, partition_literal, matrix_literal, record_literal, Ends, one_value, Mark, name_pat, tuple_pat, number_ex, truth_ex, name_ex, node_ex, matrix_ex, comp_ex, cell_ex, seen_ex, no_exs, more_exs, bool_dom, int_dom, name_dom, tuple_dom, record_dom, matrix_dom, set_dom, mset_dom, function_dom, relation_dom, partition_dom, ex1, ex2, is_truth_op1, is_truth_op2}
use Rattle.ess_core.specs.TreeViews.{With, words_of, within, Item, over_item, from_item, cond_item, exs_of, field_values, matrix_literal_of, span, attribute, pat_step, pats_of, dom_step, field_dom_step, range_step, attr_step, ex_step, step_step, field_ex_step, pair_ex_step, gen_step, view_step, call_mark, pure_repr, pure_pat, pure_dom, pure_field_dom, pure_range, pure_attr, pure_ex, pure_step, pure_field_ex, pure_pair_ex, pure_gen, pure_view, pure_exs, pure_doms, pure_gens}
use Rattle.ess_core.specs.declared.domains.Dom.{Dom}
use Rattle.ess_core.specs.declared.domains.FieldDom.{FieldDom}
use Rattle.ess_core.specs.declared.domains.Range.{Range}
use Rattle.ess_core.specs.declared.domains.Attr.{Attr}
use Rattle.ess_core.specs.declared.expressions.Ex.{Ex}
use Rattle.ess_core.specs.declared.expressions.Step.{Step}
use Rattle.ess_core.specs.declared.expressions.FieldEx.{FieldEx}
use Rattle.ess_core.specs.declared.expressions.PairEx.{PairEx}
use Rattle.ess_core.specs.declared.expressions.Gen.{Gen}
use Rattle.ess_core.specs.declared.expressions.View.{View}
use Rattle.ess_core.specs.declared.domains.Dom.TheOpen.{Dom-F, FieldDom-F, Range-F, Attr-F, Ex-F, Step-F, FieldEx-F, PairEx-F, Gen-F, View-F}
use Rattle.ess_core.specs.declared.expressions.Ex.TheVariants as variant
use Rattle.ess_core.specs.declared.domains.Dom.TheFolds.{fold-roll-Ex}

pub pure_num : (n : ℤ) → pure_ex (variant.Num n) ≡ number_ex n
pure_num n = ap pure_ex (sym (variant.rolls-Num n)) ∙ fold-roll-Ex pure.Dom (With Ends) pure.Ex Item (With pure.Step) (With Mark) (Text × pure.Dom) (Text × pure.Ex) pure.Ex pure.Ex dom_step range_step ex_step gen_step step_step attr_step field_dom_step field_ex_step pair_ex_step view_step (Ex-F.Num n)

pub pure_truth : (b : Bool) → pure_ex (variant.Truth b) ≡ truth_ex b
pure_truth b = ap pure_ex (sym (variant.rolls-Truth b)) ∙ fold-roll-Ex pure.Dom (With Ends) pure.Ex Item (With pure.Step) (With Mark) (Text × pure.Dom) (Text × pure.Ex) pure.Ex pure.Ex dom_step range_step ex_step gen_step step_step attr_step field_dom_step field_ex_step pair_ex_step view_step (Ex-F.Truth b)

pub pure_name : (a : Text) → pure_ex (variant.Name a) ≡ name_ex a
pure_name a = ap pure_ex (sym (variant.rolls-Name a)) ∙ fold-roll-Ex pure.Dom (With Ends) pure.Ex Item (With pure.Step) (With Mark) (Text × pure.Dom) (Text × pure.Ex) pure.Ex pure.Ex dom_step range_step ex_step gen_step step_step attr_step field_dom_step field_ex_step pair_ex_step view_step (Ex-F.Ex::Name a)

pub pure_one : (o : Op1) (a : Ex) → pure_ex (variant.One o a) ≡ ex1 (is_truth_op1 o) o (pure_ex a)
pure_one o a = ap pure_ex (sym (variant.rolls-One o a)) ∙ fold-roll-Ex pure.Dom (With Ends) pure.Ex Item (With pure.Step) (With Mark) (Text × pure.Dom) (Text × pure.Ex) pure.Ex pure.Ex dom_step range_step ex_step gen_step step_step attr_step field_dom_step field_ex_step pair_ex_step view_step (Ex-F.Ex::One o a)

pub pure_two : (o : Op2) (a b : Ex) → pure_ex (variant.Two o a b) ≡ ex2 (is_truth_op2 o) o (pure_ex a) (pure_ex b)
pure_two o a b = ap pure_ex (sym (variant.rolls-Two o a b)) ∙ fold-roll-Ex pure.Dom (With Ends) pure.Ex Item (With pure.Step) (With Mark) (Text × pure.Dom) (Text × pure.Ex) pure.Ex pure.Ex dom_step range_step ex_step gen_step step_step attr_step field_dom_step field_ex_step pair_ex_step view_step (Ex-F.Two o a b)

pub pure_call : (b : Bool) (f : Fun) (es : List Ex) → pure_ex (variant.Call b f es) ≡ node_ex (call_mark b f) (word f) (pure_exs es)
pure_call b f es = ap pure_ex (sym (variant.rolls-Call b f es)) ∙ fold-roll-Ex pure.Dom (With Ends) pure.Ex Item (With pure.Step) (With Mark) (Text × pure.Dom) (Text × pure.Ex) pure.Ex pure.Ex dom_step range_step ex_step gen_step step_step attr_step field_dom_step field_ex_step pair_ex_step view_step (Ex-F.Call b f es)

pub pure_at : (b : Bool) (e : Ex) (ss : List Step) → pure_ex (variant.At b e ss) ≡ node_ex b (index (words_of (map pure_step ss))) (more_exs (pure_ex e) (exs_of (within (map pure_step ss))))
pure_at b e ss = ap pure_ex (sym (variant.rolls-At b e ss)) ∙ fold-roll-Ex pure.Dom (With Ends) pure.Ex Item (With pure.Step) (With Mark) (Text × pure.Dom) (Text × pure.Ex) pure.Ex pure.Ex dom_step range_step ex_step gen_step step_step attr_step field_dom_step field_ex_step pair_ex_step view_step (Ex-F.At b e ss)

pub pure_apply : (b : Bool) (f : Ex) (es : List Ex) → pure_ex (variant.Apply b f es) ≡ node_ex b application (more_exs (pure_ex f) (pure_exs es))
pure_apply b f es = ap pure_ex (sym (variant.rolls-Apply b f es)) ∙ fold-roll-Ex pure.Dom (With Ends) pure.Ex Item (With pure.Step) (With Mark) (Text × pure.Dom) (Text × pure.Ex) pure.Ex pure.Ex dom_step range_step ex_step gen_step step_step attr_step field_dom_step field_ex_step pair_ex_step view_step (Ex-F.Apply b f es)

pub pure_tuple : (es : List Ex) → pure_ex (variant.Tuple es) ≡ node_ex false tuple_literal (pure_exs es)
pure_tuple es = ap pure_ex (sym (variant.rolls-Tuple es)) ∙ fold-roll-Ex pure.Dom (With Ends) pure.Ex Item (With pure.Step) (With Mark) (Text × pure.Dom) (Text × pure.Ex) pure.Ex pure.Ex dom_step range_step ex_step gen_step step_step attr_step field_dom_step field_ex_step pair_ex_step view_step (Ex-F.Ex::Tuple es)

pub pure_rec : (fs : List FieldEx) → pure_ex (variant.Rec fs) ≡ node_ex false (record_literal (keys (map pure_field_ex fs))) (exs_of (field_values (map pure_field_ex fs)))
pure_rec fs = ap pure_ex (sym (variant.rolls-Rec fs)) ∙ fold-roll-Ex pure.Dom (With Ends) pure.Ex Item (With pure.Step) (With Mark) (Text × pure.Dom) (Text × pure.Ex) pure.Ex pure.Ex dom_step range_step ex_step gen_step step_step attr_step field_dom_step field_ex_step pair_ex_step view_step (Ex-F.Ex::Rec fs)

pub pure_set : (es : List Ex) → pure_ex (variant.Set es) ≡ node_ex false set_literal (pure_exs es)
pure_set es = ap pure_ex (sym (variant.rolls-Set es)) ∙ fold-roll-Ex pure.Dom (With Ends) pure.Ex Item (With pure.Step) (With Mark) (Text × pure.Dom) (Text × pure.Ex) pure.Ex pure.Ex dom_step range_step ex_step gen_step step_step attr_step field_dom_step field_ex_step pair_ex_step view_step (Ex-F.Ex::Set es)

pub pure_mset : (es : List Ex) → pure_ex (variant.MSet es) ≡ node_ex false mset_literal (pure_exs es)
pure_mset es = ap pure_ex (sym (variant.rolls-MSet es)) ∙ fold-roll-Ex pure.Dom (With Ends) pure.Ex Item (With pure.Step) (With Mark) (Text × pure.Dom) (Text × pure.Ex) pure.Ex pure.Ex dom_step range_step ex_step gen_step step_step attr_step field_dom_step field_ex_step pair_ex_step view_step (Ex-F.Ex::MSet es)

pub pure_function : (ps : List PairEx) → pure_ex (variant.Function ps) ≡ node_ex false function_literal (exs_of (map pure_pair_ex ps))
pure_function ps = ap pure_ex (sym (variant.rolls-Function ps)) ∙ fold-roll-Ex pure.Dom (With Ends) pure.Ex Item (With pure.Step) (With Mark) (Text × pure.Dom) (Text × pure.Ex) pure.Ex pure.Ex dom_step range_step ex_step gen_step step_step attr_step field_dom_step field_ex_step pair_ex_step view_step (Ex-F.Ex::Function ps)

pub pure_relation : (es : List Ex) → pure_ex (variant.Relation es) ≡ node_ex false relation_literal (pure_exs es)
pure_relation es = ap pure_ex (sym (variant.rolls-Relation es)) ∙ fold-roll-Ex pure.Dom (With Ends) pure.Ex Item (With pure.Step) (With Mark) (Text × pure.Dom) (Text × pure.Ex) pure.Ex pure.Ex dom_step range_step ex_step gen_step step_step attr_step field_dom_step field_ex_step pair_ex_step view_step (Ex-F.Ex::Relation es)

pub pure_partition : (es : List Ex) → pure_ex (variant.Partition es) ≡ node_ex false partition_literal (pure_exs es)
pure_partition es = ap pure_ex (sym (variant.rolls-Partition es)) ∙ fold-roll-Ex pure.Dom (With Ends) pure.Ex Item (With pure.Step) (With Mark) (Text × pure.Dom) (Text × pure.Ex) pure.Ex pure.Ex dom_step range_step ex_step gen_step step_step attr_step field_dom_step field_ex_step pair_ex_step view_step (Ex-F.Ex::Partition es)

pub pure_comp : (e : Ex) (gs : List Gen) → pure_ex (variant.Comp e gs) ≡ comp_ex (pure_ex e) (pure_gens gs)
pure_comp e gs = ap pure_ex (sym (variant.rolls-Comp e gs)) ∙ fold-roll-Ex pure.Dom (With Ends) pure.Ex Item (With pure.Step) (With Mark) (Text × pure.Dom) (Text × pure.Ex) pure.Ex pure.Ex dom_step range_step ex_step gen_step step_step attr_step field_dom_step field_ex_step pair_ex_step view_step (Ex-F.Comp e gs)

pub pure_cell : (b : Bool) (a : Text) (es : List Ex) → pure_ex (variant.Cell b a es) ≡ cell_ex b a (pure_exs es)
pure_cell b a es = ap pure_ex (sym (variant.rolls-Cell b a es)) ∙ fold-roll-Ex pure.Dom (With Ends) pure.Ex Item (With pure.Step) (With Mark) (Text × pure.Dom) (Text × pure.Ex) pure.Ex pure.Ex dom_step range_step ex_step gen_step step_step attr_step field_dom_step field_ex_step pair_ex_step view_step (Ex-F.Cell b a es)

pub pure_seen : (v : View) → pure_ex (variant.Seen v) ≡ pure_view v
pure_seen v = ap pure_ex (sym (variant.rolls-Seen v)) ∙ fold-roll-Ex pure.Dom (With Ends) pure.Ex Item (With pure.Step) (With Mark) (Text × pure.Dom) (Text × pure.Ex) pure.Ex pure.Ex dom_step range_step ex_step gen_step step_step attr_step field_dom_step field_ex_step pair_ex_step view_step (Ex-F.Seen v)

pub pure_plain_matrix : (es : List Ex) → pure_ex (variant.Matrix es None) ≡ node_ex false matrix_literal (pure_exs es)
pure_plain_matrix es = ap pure_ex (sym (variant.rolls-Matrix es None)) ∙ fold-roll-Ex pure.Dom (With Ends) pure.Ex Item (With pure.Step) (With Mark) (Text × pure.Dom) (Text × pure.Ex) pure.Ex pure.Ex dom_step range_step ex_step gen_step step_step attr_step field_dom_step field_ex_step pair_ex_step view_step (Ex-F.Ex::Matrix es None)

pub pure_matrix_on : (es : List Ex) (d : Dom) → pure_ex (variant.Matrix es (Some d)) ≡ matrix_ex (pure_exs es) (pure_dom d)
pure_matrix_on es d = ap pure_ex (sym (variant.rolls-Matrix es (Some d))) ∙ fold-roll-Ex pure.Dom (With Ends) pure.Ex Item (With pure.Step) (With Mark) (Text × pure.Dom) (Text × pure.Ex) pure.Ex pure.Ex dom_step range_step ex_step gen_step step_step attr_step field_dom_step field_ex_step pair_ex_step view_step (Ex-F.Ex::Matrix es (Some d))
