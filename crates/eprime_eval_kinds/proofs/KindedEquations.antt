-- The equations of the view: the pure tree of each variant, from those of its parts.
use Rattle.std.proofs.Common.{◌≡◌, ℕ, Bool, false, List, [], ◌∷◌, map, sym, ap, ◌∙◌}
use Rattle.std.specs.Prelude.{ℤ}
use Rattle.ess_semantics.specs.Values.{Text}
use Rattle.ess_semantics.specs.Trees as pure
use Rattle.ess_semantics.specs.Trees.{binary, word, matrix_literal, one_value, both_ends, low_end, high_end, number_ex, truth_ex, name_ex, node_ex, comp_ex, cell_ex, no_exs, more_exs, bool_dom, plain_node}
use Rattle.eprime_tree.specs.declared.words.POp1.{POp1}
use Rattle.eprime_tree.specs.declared.words.POp2.{POp2}
use Rattle.eprime_tree.specs.declared.words.PFun.{PFun}
use Rattle.eprime_tree.specs.Views.{pure_op1, pure_op2, pure_fun, Item, over_item, cond_item, Bounds, exs_of, gens_of, int_of}
use Rattle.eprime_eval_kinds.specs.declared.tree.KEx.{KEx}
use Rattle.eprime_eval_kinds.specs.declared.tree.KList.{KList}
use Rattle.eprime_eval_kinds.specs.declared.tree.KGen.{KGen}
use Rattle.eprime_eval_kinds.specs.declared.tree.KDom.{KDom}
use Rattle.eprime_eval_kinds.specs.declared.tree.KRange.{KRange}
use Rattle.eprime_eval_kinds.specs.declared.tree.KEx.TheVariants as ex
use Rattle.eprime_eval_kinds.specs.declared.tree.KList.TheVariants as list
use Rattle.eprime_eval_kinds.specs.declared.tree.KGen.TheVariants as gen
use Rattle.eprime_eval_kinds.specs.declared.tree.KDom.TheVariants as dom
use Rattle.eprime_eval_kinds.specs.declared.tree.KRange.TheVariants as range
use Rattle.eprime_eval_kinds.specs.declared.tree.KDom.TheOpen.{KEx-F, KList-F, KGen-F, KDom-F, KRange-F}
use Rattle.eprime_eval_kinds.specs.declared.tree.KDom.TheFolds.{fold-roll-KEx, fold-roll-KList, fold-roll-KGen, fold-roll-KDom, fold-roll-KRange}
use Rattle.eprime_eval_kinds.specs.KindedViews.{name_at, kex_step, klist_step, kgen_step, kdom_step, krange_step, pure_kex, pure_klist, pure_kgen, pure_kdom, pure_krange}

-- ---- expressions

pub pure_kex_num : (ns : List Text) (n : ℤ) → pure_kex ns (ex.Num n) ≡ number_ex n
pure_kex_num ns n = ap (pure_kex ns) (sym (ex.rolls-Num n))
    ∙ fold-roll-KEx pure.Dom pure.Ex Item pure.Ex Bounds kdom_step (kex_step ns) kgen_step klist_step krange_step (KEx-F.Num n)

pub pure_kex_truth : (ns : List Text) (b : Bool) → pure_kex ns (ex.Truth b) ≡ truth_ex b
pure_kex_truth ns b = ap (pure_kex ns) (sym (ex.rolls-Truth b))
    ∙ fold-roll-KEx pure.Dom pure.Ex Item pure.Ex Bounds kdom_step (kex_step ns) kgen_step klist_step krange_step (KEx-F.Truth b)

pub pure_kex_nothing : (ns : List Text) → pure_kex ns ex.Nothing ≡ name_ex []
pure_kex_nothing ns = ap (pure_kex ns) (sym ex.rolls-Nothing)
    ∙ fold-roll-KEx pure.Dom pure.Ex Item pure.Ex Bounds kdom_step (kex_step ns) kgen_step klist_step krange_step KEx-F.Nothing

pub pure_kex_name : (ns : List Text) (a : Text) → pure_kex ns (ex.Name a) ≡ name_ex a
pure_kex_name ns a = ap (pure_kex ns) (sym (ex.rolls-Name a))
    ∙ fold-roll-KEx pure.Dom pure.Ex Item pure.Ex Bounds kdom_step (kex_step ns) kgen_step klist_step krange_step (KEx-F.Name a)

pub pure_kex_cell : (ns : List Text) (b : Bool) (n : ℕ) (es : List KEx)
    → pure_kex ns (ex.Cell b n es) ≡ cell_ex b (name_at ns n) (exs_of (map (pure_kex ns) es))
pure_kex_cell ns b n es = ap (pure_kex ns) (sym (ex.rolls-Cell b n es))
    ∙ fold-roll-KEx pure.Dom pure.Ex Item pure.Ex Bounds kdom_step (kex_step ns) kgen_step klist_step krange_step (KEx-F.Cell b n es)

pub pure_kex_one : (ns : List Text) (o : POp1) (e : KEx)
    → pure_kex ns (ex.One o e) ≡ plain_node (pure_op1 o) (more_exs (pure_kex ns e) no_exs)
pure_kex_one ns o e = ap (pure_kex ns) (sym (ex.rolls-One o e))
    ∙ fold-roll-KEx pure.Dom pure.Ex Item pure.Ex Bounds kdom_step (kex_step ns) kgen_step klist_step krange_step (KEx-F.KEx::One o e)

pub pure_kex_two : (ns : List Text) (o : POp2) (a b : KEx)
    → pure_kex ns (ex.Two o a b) ≡ plain_node (binary (pure_op2 o)) (more_exs (pure_kex ns a) (more_exs (pure_kex ns b) no_exs))
pure_kex_two ns o a b = ap (pure_kex ns) (sym (ex.rolls-Two o a b))
    ∙ fold-roll-KEx pure.Dom pure.Ex Item pure.Ex Bounds kdom_step (kex_step ns) kgen_step klist_step krange_step (KEx-F.Two o a b)

pub pure_kex_fold : (ns : List Text) (f : PFun) (l : KList)
    → pure_kex ns (ex.Fold f l) ≡ plain_node (word (pure_fun f)) (more_exs (pure_klist ns l) no_exs)
pure_kex_fold ns f l = ap (pure_kex ns) (sym (ex.rolls-Fold f l))
    ∙ fold-roll-KEx pure.Dom pure.Ex Item pure.Ex Bounds kdom_step (kex_step ns) kgen_step klist_step krange_step (KEx-F.Fold f l)

pub pure_kex_lex : (ns : List Text) (o : POp2) (a b : KList)
    → pure_kex ns (ex.Lex o a b) ≡ plain_node (binary (pure_op2 o)) (more_exs (pure_klist ns a) (more_exs (pure_klist ns b) no_exs))
pure_kex_lex ns o a b = ap (pure_kex ns) (sym (ex.rolls-Lex o a b))
    ∙ fold-roll-KEx pure.Dom pure.Ex Item pure.Ex Bounds kdom_step (kex_step ns) kgen_step klist_step krange_step (KEx-F.Lex o a b)

-- ---- lists

pub pure_klist_items : (ns : List Text) (es : List KEx)
    → pure_klist ns (list.Items es) ≡ node_ex false matrix_literal (exs_of (map (pure_kex ns) es))
pure_klist_items ns es = ap (pure_klist ns) (sym (list.rolls-Items es))
    ∙ fold-roll-KList pure.Dom pure.Ex Item pure.Ex Bounds kdom_step (kex_step ns) kgen_step klist_step krange_step (KList-F.Items es)

pub pure_klist_comp : (ns : List Text) (e : KEx) (gs : List KGen)
    → pure_klist ns (list.Comp e gs) ≡ comp_ex (pure_kex ns e) (gens_of (map (pure_kgen ns) gs))
pure_klist_comp ns e gs = ap (pure_klist ns) (sym (list.rolls-Comp e gs))
    ∙ fold-roll-KList pure.Dom pure.Ex Item pure.Ex Bounds kdom_step (kex_step ns) kgen_step klist_step krange_step (KList-F.Comp e gs)

-- ---- generators and conditions

pub pure_kgen_over : (ns : List Text) (a : Text) (d : KDom) → pure_kgen ns (gen.Over a d) ≡ over_item a (pure_kdom ns d)
pure_kgen_over ns a d = ap (pure_kgen ns) (sym (gen.rolls-Over a d))
    ∙ fold-roll-KGen pure.Dom pure.Ex Item pure.Ex Bounds kdom_step (kex_step ns) kgen_step klist_step krange_step (KGen-F.Over a d)

pub pure_kgen_if : (ns : List Text) (e : KEx) → pure_kgen ns (gen.If e) ≡ cond_item (pure_kex ns e)
pure_kgen_if ns e = ap (pure_kgen ns) (sym (gen.rolls-If e))
    ∙ fold-roll-KGen pure.Dom pure.Ex Item pure.Ex Bounds kdom_step (kex_step ns) kgen_step klist_step krange_step (KGen-F.If e)

-- ---- domains

pub pure_kdom_bool : (ns : List Text) → pure_kdom ns dom.Bool ≡ bool_dom
pure_kdom_bool ns = ap (pure_kdom ns) (sym dom.rolls-Bool)
    ∙ fold-roll-KDom pure.Dom pure.Ex Item pure.Ex Bounds kdom_step (kex_step ns) kgen_step klist_step krange_step KDom-F.Bool

pub pure_kdom_int : (ns : List Text) (rs : List KRange) → pure_kdom ns (dom.Int rs) ≡ int_of (map (pure_krange ns) rs)
pure_kdom_int ns rs = ap (pure_kdom ns) (sym (dom.rolls-Int rs))
    ∙ fold-roll-KDom pure.Dom pure.Ex Item pure.Ex Bounds kdom_step (kex_step ns) kgen_step klist_step krange_step (KDom-F.Int rs)

-- ---- ranges

pub pure_krange_one : (ns : List Text) (e : KEx) → pure_krange ns (range.One e) ≡ (one_value, pure_kex ns e ∷ [])
pure_krange_one ns e = ap (pure_krange ns) (sym (range.rolls-One e))
    ∙ fold-roll-KRange pure.Dom pure.Ex Item pure.Ex Bounds kdom_step (kex_step ns) kgen_step klist_step krange_step
    (KRange-F.KRange::One e)

pub pure_krange_between : (ns : List Text) (a b : KEx)
    → pure_krange ns (range.Between a b) ≡ (both_ends, pure_kex ns a ∷ pure_kex ns b ∷ [])
pure_krange_between ns a b = ap (pure_krange ns) (sym (range.rolls-Between a b))
    ∙ fold-roll-KRange pure.Dom pure.Ex Item pure.Ex Bounds kdom_step (kex_step ns) kgen_step klist_step krange_step (KRange-F.Between a b)

pub pure_krange_from : (ns : List Text) (a : KEx) → pure_krange ns (range.From a) ≡ (low_end, pure_kex ns a ∷ [])
pure_krange_from ns a = ap (pure_krange ns) (sym (range.rolls-From a))
    ∙ fold-roll-KRange pure.Dom pure.Ex Item pure.Ex Bounds kdom_step (kex_step ns) kgen_step klist_step krange_step (KRange-F.From a)

pub pure_krange_up_to : (ns : List Text) (b : KEx) → pure_krange ns (range.UpTo b) ≡ (high_end, pure_kex ns b ∷ [])
pure_krange_up_to ns b = ap (pure_krange ns) (sym (range.rolls-UpTo b))
    ∙ fold-roll-KRange pure.Dom pure.Ex Item pure.Ex Bounds kdom_step (kex_step ns) kgen_step klist_step krange_step (KRange-F.UpTo b)
