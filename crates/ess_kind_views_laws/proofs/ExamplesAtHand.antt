-- Worked examples: views by their kinds, and values by themselves.
use Rattle.std.proofs.Common.{◌≡◌, refl, true, false, [], ◌∷◌, pos, None}
use Rattle.ess_semantics.specs.declared.words.Op2.{Op2}
use Rattle.ess_semantics.specs.declared.words.ReprKind.{ReprKind}
use Rattle.ess_semantics.specs.Operators.{value_of_node}
use Rattle.ess_semantics.specs.Trees.{by_value, index, matrix_literal, repr, no_reprs, Ex, number_ex, truth_ex, node_ex, seen_ex, ex2, no_exs, more_exs, bool_dom, matrix_dom, no_doms, more_doms}
use Rattle.ess_semantics.specs.Meaning.{empty_env, meanings}
use Rattle.ess_kind_views_laws.specs.PartsAtHand.{has_no_index, is_kept_view}
use Rattle.ess_kind_views_laws.specs.TuplesAtHand.{is_by_tuple, is_by_argument}
use Rattle.ess_kind_views_laws.specs.TruthsAtHand.{HasOwnValue}
use Rattle.ess_kind_views_laws.specs.OffersApart.{is_own_kind}

-- A view of this kind.
abbrev of_kind : ReprKind → Ex
of_kind k = seen_ex (repr k no_reprs) bool_dom [] no_exs

-- ---- kinds

kept : is_kept_view (of_kind ReprKind.FunctionAsRelation) ≡ true
kept = refl

kept-has-no-own : is_own_kind (of_kind ReprKind.FunctionAsRelation) ≡ false
kept-has-no-own = refl

by-argument : is_by_argument (of_kind ReprKind.Function1D) ≡ true
by-argument = refl

no-tuple : is_by_tuple (of_kind ReprKind.Function1D) ≡ false
no-tuple = refl

by-tuple : is_by_tuple (of_kind ReprKind.FunctionND) ≡ true
by-tuple = refl

-- ---- matrices without an index

without-index : has_no_index (matrix_dom no_doms bool_dom) ≡ true
without-index = refl

with-index : has_no_index (matrix_dom (more_doms bool_dom no_doms) bool_dom) ≡ false
with-index = refl

-- ---- values by themselves

-- 1 = 1 has one.
equal-numbers : HasOwnValue (ex2 true Op2.Eq (number_ex (pos 1)) (number_ex (pos 1))) empty_env
equal-numbers = refl

-- `[true][2]` has none: as a Boolean it is false for want of one.
beyond-the-list : value_of_node (index (by_value ∷ []))
    (meanings (more_exs (node_ex false matrix_literal (more_exs (truth_ex true) no_exs)) (more_exs (number_ex (pos 2)) no_exs)) empty_env)
    ≡ None
beyond-the-list = refl
