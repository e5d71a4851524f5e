-- Views of matrices by their first index domain.
use Rattle.std.specs.Prelude.{true, false, Option, Some, None, option_map}
use Rattle.ess_semantics.specs.declared.words.Op2.{Op2}
use Rattle.ess_semantics.specs.declared.words.ReprKind.{ReprKind}
use Rattle.ess_semantics.specs.Values.{Text}
use Rattle.ess_semantics.specs.Trees.{repr, no_reprs, more_reprs, name_pat, Ex, name_ex, comp_ex, seen_ex, no_gens, over, cond, Dom, more_doms, matrix_dom, at1, ex2}
use Rattle.ess_rules_laws.specs.Listings.{Alternative}
use Rattle.ess_views_laws.specs.MatrixViews.{item_view}

-- The first index domain of a view of a matrix.
abbrev pub first_axis : Ex → Option Dom
first_axis (seen_ex (repr ReprKind.Matrix (more_reprs r no_reprs)) (matrix_dom (more_doms i is) d) ns js) = Some i
first_axis v = None

-- The view at x, with x over the domain.
abbrev pub listed_over : Text → Dom → Ex → Option Alternative
listed_over x i v = option_map (λ e. record { gens = over (name_pat x) i no_gens; item = e }) (item_view (at1 false v (name_ex x)))

-- The view at x, where x runs over the domain and is a.
abbrev pub item_where : Text → Dom → Ex → Ex → Option Ex
item_where x i v a =
    option_map (λ e. comp_ex e (over (name_pat x) i (cond (ex2 true Op2.Eq (name_ex x) a) no_gens))) (item_view (at1 false v (name_ex x)))
