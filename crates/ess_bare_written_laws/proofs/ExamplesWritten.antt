-- Worked examples: what is written for small bare trees.
use Rattle.std.proofs.Common.{◌≡◌, refl, ℕ, Bool, true, false, if◌then◌else◌, List, [], ◌∷◌, ◌++◌, pos, codes, decimal, Option, Some, None, arith}
use Rattle.ess_semantics.specs.declared.words.Op2.{Op2}
use Rattle.ess_semantics.specs.declared.words.Fun.{Fun}
use Rattle.ess_semantics.specs.Values.{Text}
use Rattle.ess_semantics.specs.Order.{same_text}
use Rattle.ess_semantics.specs.Names.{Names}
use Rattle.ess_semantics.specs.Trees.{both_ends, matrix_literal, name_pat, Ex, number_ex, name_ex, node_ex, comp_ex, cell_ex, no_exs, more_exs, Gens, no_gens, over, cond, Dom, bool_dom, int_dom, ex2, fun1}
use Rattle.ess_semantics.specs.Tables.{Table}
use Rattle.ess_semantics.specs.DeclaredTables.{TableDecl}
use Rattle.ess_semantics.specs.Meaning.{meaning}
use Rattle.ess_semantics.specs.Scoped.{Scoped}
use Rattle.ess_semantics.specs.ModelMeaning.{env_of_tables, model_value}
use Rattle.conjure_model_laws.specs.Printed.{binders}
use Rattle.ess_depth_laws.specs.Depth.{NestsWithin}
use Rattle.ess_flat_laws.specs.Flat.{equal}
use Rattle.ess_bare_laws.specs.Bare.{Bare, before, some_holds, number, named, cell, two, folded, ordered, no_index, one_index, row, at_end, through, where_holds, no_axis, truths, numbers, no_bound, one_bound}
use Rattle.ess_bare_laws.specs.Lean.{of_some, of_sum, as_scalar, as_number, Ended, a_number, a_name, a_cell, by_power, by_fold, by_items, by_greatest, last_lean, more_leans, no_terms, more_terms, behind_all, over_truths, over_numbers, under}
use Rattle.ess_bare_written_laws.specs.Laws.{as_written, AreDeclared, IsReady, IsEndedTree}
use Rattle.ess_bare_written_laws.proofs.Written.{bare-trees-are-written, ended-trees-are-written}

-- A table x of truth values over one axis, and a number n.
abbrev cells : Text → Option (Bool × ℕ)
cells a = if same_text a (codes "x") then Some (true, 1) else (if same_text a (codes "n") then Some (false, 0) else None)

abbrev x_at : Ex → Ex
x_at e = cell_ex true (codes "x") (more_exs e no_exs)

abbrev n_ex : Ex
n_ex = cell_ex false (codes "n") no_exs

abbrev i : Text
i = codes "i"

abbrev q1 : Text
q1 = codes "q" ++ decimal 1

abbrev or_over : Ex → Gens → Ex
or_over e gs = fun1 true Fun.Or (comp_ex e gs)

-- `or([x[i] | i : bool])` is written as `or([x[toInt(q1)] | q1 : bool])`.
abbrev of_truths : Ex
of_truths = or_over (x_at (name_ex i)) (over (name_pat i) bool_dom no_gens)

bare-truths : Bare cells [] of_truths true
bare-truths = folded some_holds (through truths at_end) (cell refl (one_index (named refl) no_index))

written-truths : as_written [] of_truths ≡ or_over (x_at (fun1 false Fun.ToInt (name_ex q1))) (over (name_pat q1) bool_dom no_gens)
written-truths = refl

-- `or([x[i] | i : int(0..1), i = 1])` as `x[1]`.
abbrev zero_one : Dom
zero_one = int_dom (both_ends ∷ []) (more_exs (number_ex (pos 0)) (more_exs (number_ex (pos 1)) no_exs))

abbrev of_key : Ex
of_key = or_over (x_at (name_ex i)) (over (name_pat i) zero_one (cond (ex2 true Op2.Eq (name_ex i) (number_ex (pos 1))) no_gens))

bare-key : Bare cells [] of_key true
bare-key = folded some_holds (through (numbers refl (one_bound number (one_bound number no_bound)))
    (where_holds (two equal (named refl) number) at_end))
    (cell refl (one_index (named refl) no_index))

written-key : as_written [] of_key ≡ x_at (number_ex (pos 1))
written-key = refl

-- `[n | ] <lex [n | ]` as `[n] <lex [n]`, which is no bare tree.
abbrev one_item : Ex
one_item = node_ex false matrix_literal (more_exs n_ex no_exs)

bare-rows : Bare cells [] (ex2 true Op2.LexLt (comp_ex n_ex no_gens) (comp_ex n_ex no_gens)) true
bare-rows = ordered before (row no_axis (cell refl no_index)) (row no_axis (cell refl no_index))

written-rows : as_written [] (ex2 true Op2.LexLt (comp_ex n_ex no_gens) (comp_ex n_ex no_gens)) ≡ ex2 true Op2.LexLt one_item one_item
written-rows = refl

-- The first tree is ready, and says over declared tables what it means.
abbrev none : Text → Bool
none a = false

scoped-truths : Scoped none none none of_truths
scoped-truths = ((refl, tt, (refl, tt)), tt)

ready : IsReady cells [] of_truths true
ready = record {
  bare = bare-truths;
  unbound = none;
  around = none;
  ranging = none;
  scoped = scoped-truths;
  few = omega arith;
}

says : (ds : List TableDecl) → AreDeclared ds cells → (tc : Names Table) →
    model_value ds tc (as_written [] of_truths) ≡ meaning of_truths (env_of_tables tc)
says ds d tc = bare-trees-are-written.value cells [] of_truths true ready ds d tc (env_of_tables tc) refl

-- ---- what rules end in

-- `sum([1 | i : int(0..1), x[i]])` keeps its condition, and `or([or([x[i] | i : bool])])` is its item.
abbrev counted : Text → Ex
counted a = fun1 false Fun.Sum (comp_ex (number_ex (pos 1)) (over (name_pat a) zero_one (cond (x_at (name_ex a)) no_gens)))

ended-count : Ended cells [] (counted i) false
ended-count = by_fold of_sum
    (over_numbers refl refl (more_terms as_number (a_number refl) (more_terms as_number (a_number refl) no_terms))
    (under (a_cell refl (more_terms as_scalar (a_name refl) no_terms)) behind_all)) (a_number refl)

written-count : as_written [] (counted i) ≡ counted q1
written-count = refl

abbrev of_one : Ex
of_one = fun1 true Fun.Or (node_ex false matrix_literal (more_exs of_truths no_exs))

ended-one : Ended cells [] of_one true
ended-one = by_items of_some (last_lean (by_fold of_some (over_truths refl behind_all)
    (a_cell refl (more_terms as_scalar (a_name refl) no_terms))))

written-one : as_written [] of_one ≡ as_written [] of_truths
written-one = refl

-- `or([or([x[i] | i : bool]), or([x[i] | i : bool])])` stays a list, as the two parts of a union are folded. Both bind one printed name.
abbrev of_both : Ex
of_both = fun1 true Fun.Or (node_ex false matrix_literal (more_exs of_truths (more_exs of_truths no_exs)))

ended-truths-there : Ended cells [] of_truths true
ended-truths-there = by_fold of_some (over_truths refl behind_all) (a_cell refl (more_terms as_scalar (a_name refl) no_terms))

ended-both : Ended cells [] of_both true
ended-both = by_items of_some (more_leans ended-truths-there (last_lean ended-truths-there))

written-both : as_written [] of_both ≡
    fun1 true Fun.Or (node_ex false matrix_literal (more_exs (as_written [] of_truths) (more_exs (as_written [] of_truths) no_exs)))
written-both = refl

-- `sum([1 | i : int(1..max([2 ** 3, 0]))])`, where a size bounds a range, is written as it is.
abbrev greatest_of : Ex → Ex → Ex
greatest_of x y = fun1 false Fun.Max (node_ex false matrix_literal (more_exs x (more_exs y no_exs)))

abbrev size_ex : Ex
size_ex = greatest_of (ex2 false Op2.Pow (number_ex (pos 2)) (number_ex (pos 3))) (number_ex (pos 0))

abbrev to_size : Text → Ex
to_size a = fun1 false Fun.Sum (comp_ex (number_ex (pos 1))
    (over (name_pat a) (int_dom (both_ends ∷ []) (more_exs (number_ex (pos 1)) (more_exs size_ex no_exs))) no_gens))

ended-size : Ended cells [] (to_size i) false
ended-size = by_fold of_sum
    (over_numbers refl refl (more_terms as_number (a_number refl)
    (more_terms as_number (by_greatest (by_power (a_number refl) (a_number refl)) (a_number refl)) no_terms)) behind_all) (a_number refl)

written-size : as_written [] (to_size i) ≡ to_size q1
written-size = refl

-- One name is bound around a place in it, and two are bound in it.
nests-truths : NestsWithin 1 of_truths
nests-truths = ((tt, (tt, tt)), tt)

nests-both : NestsWithin 1 of_both
nests-both = ((nests-truths, (nests-truths, tt)), tt)

binders-both : binders of_both ≡ 2
binders-both = refl

ready-both : IsEndedTree cells [] of_both true
ready-both = record {
  ended = ended-both;
  unbound = none;
  around = none;
  ranging = none;
  scoped = ((scoped-truths, (scoped-truths, tt)), tt);
  depth = 1;
  nests = nests-both;
  few = omega arith;
}

says-both : (ds : List TableDecl) → AreDeclared ds cells → (tc : Names Table) →
    model_value ds tc (as_written [] of_both) ≡ meaning of_both (env_of_tables tc)
says-both ds d tc = ended-trees-are-written.value cells [] of_both true ready-both ds d tc (env_of_tables tc) refl
