-- The equations of the view of models: the pure tree of each variant, from those of its parts.
use Rattle.std.proofs.Common.{◌≡◌, Bool, false, List, [], ◌∷◌, map, Option, Some, None, sym, ap, ◌∙◌}
use Rattle.std.specs.Prelude.{ℤ}
use Rattle.std.specs.Option.{option_map}
use Rattle.ess_semantics.specs.Values.{Text}
use Rattle.ess_semantics.specs.Trees as pure
use Rattle.ess_semantics.specs.Trees.{binary, word, matrix_literal, one_value, number_ex, truth_ex, name_ex, node_ex, comp_ex, cell_ex, no_exs, more_exs, bool_dom, plain_node}
use Rattle.ess_grammar.specs.Grammar.{one_ex, two_exs}
use Rattle.ess_grammar.specs.Models.{Scope, is_truth_table}
use Rattle.eprime_tree.specs.declared.words.POp1.{POp1}
use Rattle.eprime_tree.specs.declared.words.POp2.{POp2}
use Rattle.eprime_tree.specs.declared.words.PFun.{PFun}
use Rattle.eprime_tree.specs.declared.expressions.PEx.{PEx}
use Rattle.eprime_tree.specs.declared.expressions.PList.{PList}
use Rattle.eprime_tree.specs.declared.expressions.PGen.{PGen}
use Rattle.eprime_tree.specs.declared.expressions.PDom.{PDom}
use Rattle.eprime_tree.specs.declared.expressions.PRange.{PRange}
use Rattle.eprime_tree.specs.declared.expressions.PEx.TheVariants as ex
use Rattle.eprime_tree.specs.declared.expressions.PList.TheVariants as list
use Rattle.eprime_tree.specs.declared.expressions.PGen.TheVariants as gen
use Rattle.eprime_tree.specs.declared.expressions.PDom.TheVariants as dom
use Rattle.eprime_tree.specs.declared.expressions.PRange.TheVariants as range
use Rattle.eprime_tree.specs.declared.expressions.PDom.TheOpen.{PEx-F, PList-F, PGen-F, PDom-F, PRange-F}
use Rattle.eprime_tree.specs.declared.expressions.PDom.TheFolds.{fold-roll-PEx, fold-roll-PList, fold-roll-PGen, fold-roll-PDom, fold-roll-PRange}
use Rattle.eprime_tree.specs.Views.{pure_op1, pure_op2, pure_fun, Item, over_item, cond_item, Bounds, exs_of, gens_of, span, int_of, ex_step, list_step, gen_step, dom_step, range_step, pure_ex, pure_list, pure_gen, pure_dom, pure_range}

-- ---- expressions

pub pure_ex-Num : (s : Scope) (n : ℤ) → pure_ex s (ex.Num n) ≡ number_ex n
pure_ex-Num s n = ap (pure_ex s) (sym (ex.rolls-Num n)) ∙ fold-roll-PEx pure.Dom pure.Ex Item pure.Ex Bounds dom_step (ex_step s) gen_step list_step range_step (PEx-F.Num n)

pub pure_ex-Truth : (s : Scope) (b : Bool) → pure_ex s (ex.Truth b) ≡ truth_ex b
pure_ex-Truth s b = ap (pure_ex s) (sym (ex.rolls-Truth b)) ∙ fold-roll-PEx pure.Dom pure.Ex Item pure.Ex Bounds dom_step (ex_step s) gen_step list_step range_step (PEx-F.Truth b)

pub pure_ex-Name : (s : Scope) (a : Text) → pure_ex s (ex.Name a) ≡ name_ex a
pure_ex-Name s a = ap (pure_ex s) (sym (ex.rolls-Name a)) ∙ fold-roll-PEx pure.Dom pure.Ex Item pure.Ex Bounds dom_step (ex_step s) gen_step list_step range_step (PEx-F.Name a)

pub pure_ex-Cell : (s : Scope) (a : Text) (es : List PEx) → pure_ex s (ex.Cell a es) ≡ cell_ex (is_truth_table s a) a (exs_of (map (pure_ex s) es))
pure_ex-Cell s a es = ap (pure_ex s) (sym (ex.rolls-Cell a es)) ∙ fold-roll-PEx pure.Dom pure.Ex Item pure.Ex Bounds dom_step (ex_step s) gen_step list_step range_step (PEx-F.Cell a es)

pub pure_ex-One : (s : Scope) (o : POp1) (e : PEx) → pure_ex s (ex.One o e) ≡ plain_node (pure_op1 o) (one_ex (pure_ex s e))
pure_ex-One s o e = ap (pure_ex s) (sym (ex.rolls-One o e)) ∙ fold-roll-PEx pure.Dom pure.Ex Item pure.Ex Bounds dom_step (ex_step s) gen_step list_step range_step (PEx-F.PEx::One o e)

pub pure_ex-Two : (s : Scope) (o : POp2) (a b : PEx) → pure_ex s (ex.Two o a b) ≡ plain_node (binary (pure_op2 o)) (two_exs (pure_ex s a) (pure_ex s b))
pure_ex-Two s o a b = ap (pure_ex s) (sym (ex.rolls-Two o a b)) ∙ fold-roll-PEx pure.Dom pure.Ex Item pure.Ex Bounds dom_step (ex_step s) gen_step list_step range_step (PEx-F.Two o a b)

pub pure_ex-Fold : (s : Scope) (f : PFun) (l : PList) → pure_ex s (ex.Fold f l) ≡ plain_node (word (pure_fun f)) (one_ex (pure_list s l))
pure_ex-Fold s f l = ap (pure_ex s) (sym (ex.rolls-Fold f l)) ∙ fold-roll-PEx pure.Dom pure.Ex Item pure.Ex Bounds dom_step (ex_step s) gen_step list_step range_step (PEx-F.Fold f l)

pub pure_ex-Lex : (s : Scope) (o : POp2) (a b : PList) → pure_ex s (ex.Lex o a b) ≡ plain_node (binary (pure_op2 o)) (two_exs (pure_list s a) (pure_list s b))
pure_ex-Lex s o a b = ap (pure_ex s) (sym (ex.rolls-Lex o a b)) ∙ fold-roll-PEx pure.Dom pure.Ex Item pure.Ex Bounds dom_step (ex_step s) gen_step list_step range_step (PEx-F.Lex o a b)

-- ---- lists

pub pure_list-Items : (s : Scope) (es : List PEx) → pure_list s (list.Items es) ≡ node_ex false matrix_literal (exs_of (map (pure_ex s) es))
pure_list-Items s es = ap (pure_list s) (sym (list.rolls-Items es)) ∙ fold-roll-PList pure.Dom pure.Ex Item pure.Ex Bounds dom_step (ex_step s) gen_step list_step range_step (PList-F.Items es)

pub pure_list-Comp : (s : Scope) (e : PEx) (gs : List PGen) → pure_list s (list.Comp e gs) ≡ comp_ex (pure_ex s e) (gens_of (map (pure_gen s) gs))
pure_list-Comp s e gs = ap (pure_list s) (sym (list.rolls-Comp e gs)) ∙ fold-roll-PList pure.Dom pure.Ex Item pure.Ex Bounds dom_step (ex_step s) gen_step list_step range_step (PList-F.Comp e gs)

-- ---- generators and conditions

pub pure_gen-Over : (s : Scope) (a : Text) (d : PDom) → pure_gen s (gen.Over a d) ≡ over_item a (pure_dom s d)
pure_gen-Over s a d = ap (pure_gen s) (sym (gen.rolls-Over a d)) ∙ fold-roll-PGen pure.Dom pure.Ex Item pure.Ex Bounds dom_step (ex_step s) gen_step list_step range_step (PGen-F.Over a d)

pub pure_gen-If : (s : Scope) (e : PEx) → pure_gen s (gen.If e) ≡ cond_item (pure_ex s e)
pure_gen-If s e = ap (pure_gen s) (sym (gen.rolls-If e)) ∙ fold-roll-PGen pure.Dom pure.Ex Item pure.Ex Bounds dom_step (ex_step s) gen_step list_step range_step (PGen-F.If e)

-- ---- domains

pub pure_dom-Bool : (s : Scope) → pure_dom s dom.Bool ≡ bool_dom
pure_dom-Bool s = ap (pure_dom s) (sym dom.rolls-Bool) ∙ fold-roll-PDom pure.Dom pure.Ex Item pure.Ex Bounds dom_step (ex_step s) gen_step list_step range_step PDom-F.Bool

pub pure_dom-Int : (s : Scope) (rs : List PRange) → pure_dom s (dom.Int rs) ≡ int_of (map (pure_range s) rs)
pure_dom-Int s rs = ap (pure_dom s) (sym (dom.rolls-Int rs)) ∙ fold-roll-PDom pure.Dom pure.Ex Item pure.Ex Bounds dom_step (ex_step s) gen_step list_step range_step (PDom-F.Int rs)

pub pure_range-One : (s : Scope) (e : PEx) → pure_range s (range.One e) ≡ (one_value, pure_ex s e ∷ [])
pure_range-One s e = ap (pure_range s) (sym (range.rolls-One e)) ∙ fold-roll-PRange pure.Dom pure.Ex Item pure.Ex Bounds dom_step (ex_step s) gen_step list_step range_step (PRange-F.PRange::One e)

pub pure_range-Span : (s : Scope) (a b : Option PEx) → pure_range s (range.Span a b) ≡ span (option_map (pure_ex s) a) (option_map (pure_ex s) b)
pure_range-Span s None None = ap (pure_range s) (sym (range.rolls-Span None None)) ∙ fold-roll-PRange pure.Dom pure.Ex Item pure.Ex Bounds dom_step (ex_step s) gen_step list_step range_step (PRange-F.Span None None)
pure_range-Span s None (Some b) = ap (pure_range s) (sym (range.rolls-Span None (Some b))) ∙ fold-roll-PRange pure.Dom pure.Ex Item pure.Ex Bounds dom_step (ex_step s) gen_step list_step range_step (PRange-F.Span None (Some b))
pure_range-Span s (Some a) None = ap (pure_range s) (sym (range.rolls-Span (Some a) None)) ∙ fold-roll-PRange pure.Dom pure.Ex Item pure.Ex Bounds dom_step (ex_step s) gen_step list_step range_step (PRange-F.Span (Some a) None)
pure_range-Span s (Some a) (Some b) = ap (pure_range s) (sym (range.rolls-Span (Some a) (Some b))) ∙ fold-roll-PRange pure.Dom pure.Ex Item pure.Ex Bounds dom_step (ex_step s) gen_step list_step range_step (PRange-F.Span (Some a) (Some b))
