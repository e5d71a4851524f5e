-- What the nodes of a model stand for.
use Rattle.std.proofs.Common.{◌≡◌, ap, List, map, Some, None}
use Rattle.std.specs.Option.{option_map}
use Rattle.ess_semantics.specs.Trees.{Op, binary, cell_ex}
use Rattle.ess_grammar.specs.Models.{Scope, is_truth_table}
use Rattle.eprime_tree.specs.declared.words.POp1.{POp1}
use Rattle.eprime_tree.specs.declared.words.POp2.{POp2}
use Rattle.eprime_tree.specs.declared.words.PFun.{PFun}
use Rattle.eprime_tree.specs.declared.expressions.PEx.{PEx}
use Rattle.eprime_tree.specs.declared.expressions.PList.{PList}
use Rattle.eprime_tree.specs.declared.expressions.PGen.{PGen}
use Rattle.eprime_tree.specs.declared.expressions.PDom.{PDom}
use Rattle.eprime_tree.specs.declared.expressions.PRange.{PRange}
use Rattle.ess_semantics.specs.Values.{Text}
use Rattle.eprime_tree.specs.declared.expressions.PEx.TheVariants as ex
use Rattle.eprime_tree.specs.declared.expressions.PList.TheVariants as list
use Rattle.eprime_tree.specs.declared.expressions.PGen.TheVariants as gen
use Rattle.eprime_tree.specs.declared.expressions.PDom.TheVariants as dom
use Rattle.eprime_tree.specs.declared.expressions.PRange.TheVariants as range
use Rattle.eprime_tree.specs.Views.{pure_op1, pure_op2, pure_fun, pure_ex, pure_list, pure_gen, pure_dom, pure_range, exs_of, over_item, cond_item, int_of}
use Rattle.eprime_read_convert.specs.Converted.{under, between, comprehension, as_value, as_span, as_low, as_high, items_ex}
use Rattle.eprime_read_convert.proofs.Equations.{pure_ex-One, pure_ex-Two, pure_ex-Lex, pure_ex-Fold, pure_ex-Cell, pure_list-Items, pure_list-Comp, pure_gen-Over, pure_gen-If, pure_dom-Int, pure_range-One, pure_range-Span}

pub one_there : (s : Scope) (op : POp1) (a : PEx) → option_map (pure_ex s) (Some (ex.One op a)) ≡ under (pure_op1 op) (option_map (pure_ex s) (Some a))
one_there s op a = ap (λ e. Some e) (pure_ex-One s op a)

pub two_there : (s : Scope) (op : POp2) (a b : PEx) → option_map (pure_ex s) (Some (ex.Two op a b)) ≡ between (binary (pure_op2 op)) (option_map (pure_ex s) (Some a)) (option_map (pure_ex s) (Some b))
two_there s op a b = ap (λ e. Some e) (pure_ex-Two s op a b)

pub lex_there : (s : Scope) (op : POp2) (a b : PList) → option_map (pure_ex s) (Some (ex.Lex op a b)) ≡ between (binary (pure_op2 op)) (option_map (pure_list s) (Some a)) (option_map (pure_list s) (Some b))
lex_there s op a b = ap (λ e. Some e) (pure_ex-Lex s op a b)

pub fold_there : (s : Scope) (f : PFun) (l : PList) → option_map (pure_ex s) (Some (ex.Fold f l)) ≡ under (Op.word (pure_fun f)) (option_map (pure_list s) (Some l))
fold_there s f l = ap (λ e. Some e) (pure_ex-Fold s f l)

pub cell_there : (s : Scope) (a : Text) (es : List PEx) → option_map (pure_ex s) (Some (ex.Cell a es)) ≡ option_map (λ es. cell_ex (is_truth_table s a) a (exs_of es)) (option_map (map (pure_ex s)) (Some es))
cell_there s a es = ap (λ e. Some e) (pure_ex-Cell s a es)

pub items_there : (s : Scope) (es : List PEx) → option_map (pure_list s) (Some (list.Items es)) ≡ option_map items_ex (option_map (map (pure_ex s)) (Some es))
items_there s es = ap (λ e. Some e) (pure_list-Items s es)

pub comp_there : (s : Scope) (e : PEx) (gs : List PGen) → option_map (pure_list s) (Some (list.Comp e gs)) ≡ comprehension (option_map (pure_ex s) (Some e)) (option_map (map (pure_gen s)) (Some gs))
comp_there s e gs = ap (λ e. Some e) (pure_list-Comp s e gs)

pub over_there : (s : Scope) (a : Text) (d : PDom) → option_map (pure_gen s) (Some (gen.Over a d)) ≡ option_map (over_item a) (option_map (pure_dom s) (Some d))
over_there s a d = ap (λ g. Some g) (pure_gen-Over s a d)

pub test_there : (s : Scope) (e : PEx) → option_map (pure_gen s) (Some (gen.If e)) ≡ option_map cond_item (option_map (pure_ex s) (Some e))
test_there s e = ap (λ g. Some g) (pure_gen-If s e)

pub int_there : (s : Scope) (rs : List PRange) → option_map (pure_dom s) (Some (dom.Int rs)) ≡ option_map int_of (option_map (map (pure_range s)) (Some rs))
int_there s rs = ap (λ d. Some d) (pure_dom-Int s rs)

pub value_there : (s : Scope) (e : PEx) → option_map (pure_range s) (Some (range.One e)) ≡ as_value (option_map (pure_ex s) (Some e))
value_there s e = ap (λ r. Some r) (pure_range-One s e)

pub span_there : (s : Scope) (a b : PEx) → option_map (pure_range s) (Some (range.Span (Some a) (Some b))) ≡ as_span (option_map (pure_ex s) (Some a)) (option_map (pure_ex s) (Some b))
span_there s a b = ap (λ r. Some r) (pure_range-Span s (Some a) (Some b))

pub low_there : (s : Scope) (a : PEx) → option_map (pure_range s) (Some (range.Span (Some a) None)) ≡ as_low (option_map (pure_ex s) (Some a))
low_there s a = ap (λ r. Some r) (pure_range-Span s (Some a) None)

pub high_there : (s : Scope) (b : PEx) → option_map (pure_range s) (Some (range.Span None (Some b))) ≡ as_high (option_map (pure_ex s) (Some b))
high_there s b = ap (λ r. Some r) (pure_range-Span s None (Some b))
