-- Worked examples of rules that fire where something abstract is left: in folds over a set of numbers that is kept by occurrence.
use Rattle.std.proofs.Common.{◌≡◌, refl, Bool, true, false, List, [], ◌∷◌, map, pos, is_some, codes}
use Rattle.ess_semantics.specs.declared.words.Op2.{Op2}
use Rattle.ess_semantics.specs.declared.words.Fun.{Fun}
use Rattle.ess_semantics.specs.declared.words.ReprKind.{ReprKind}
use Rattle.ess_semantics.specs.Values.{Text, a_set}
use Rattle.ess_semantics.specs.Names.{Names}
use Rattle.ess_semantics.specs.Trees.{both_ends, repr, no_reprs, name_pat, Ex, number_ex, name_ex, comp_ex, seen_ex, no_exs, more_exs, Gens, no_gens, over, from, Dom, bool_dom, int_dom, set_dom, ex2, fun1}
use Rattle.ess_semantics.specs.Types.{Ty, int_ty, compound1}
use Rattle.ess_semantics.specs.Refined.{is_refined}
use Rattle.ess_refine_laws.specs.AllRules.{Supply, over_a_source, rewrite}
use Rattle.ess_open_rules_laws.specs.OpenRules.{over_one_source, fold_of_folds, of_opening, kind_ruled}

abbrev x : Text
x = codes "x"

abbrev y : Text
y = codes "y"

abbrev numbers : Dom
numbers = int_dom (both_ends ∷ []) (more_exs (number_ex (pos 1)) (more_exs (number_ex (pos 4)) no_exs))

abbrev s_view : Ex
s_view = seen_ex (repr ReprKind.Occurrence no_reprs) (set_dom [] no_exs numbers) (codes "o" ∷ []) no_exs

abbrev names : Supply
names = record {
  one = codes "q1";
  other = codes "q2";
  third = codes "q3";
  parts = [];
  index_domain = λ e. bool_dom;
  copy = λ e. e;
}

-- `and([x > 0 | ..])` over these generators.
abbrev each : Gens → Ex
each gs = fun1 true Fun.And (comp_ex (ex2 true Op2.Gt (name_ex x) (number_ex (pos 0))) gs)

-- Which of the rules of folds fire there: that of one source, that of several alternatives, and that of folds of folds.
abbrev fires : Names Ty → Gens → List Bool
fires g gs =
    is_some (kind_ruled names g (of_opening over_one_source) (each gs)) ∷ is_some (rewrite names g over_a_source (each gs))
    ∷ is_some (kind_ruled names g (of_opening fold_of_folds) (each gs)) ∷ []

-- Over a view, over a union of two, behind a range, and over a range alone, where nothing abstract is left.
folds : map (fires [])
    (from (name_pat x) s_view no_gens ∷ from (name_pat x) (ex2 false Op2.Union s_view s_view) no_gens
    ∷ over (name_pat y) numbers (from (name_pat x) s_view no_gens) ∷ over (name_pat x) numbers no_gens ∷ [])
    ≡ (true ∷ false ∷ false ∷ []) ∷ (false ∷ true ∷ false ∷ []) ∷ (true ∷ false ∷ true ∷ []) ∷ (false ∷ false ∷ false ∷ []) ∷ []
folds = refl

refined : map (λ gs. is_refined (each gs)) (from (name_pat x) s_view no_gens ∷ over (name_pat x) numbers no_gens ∷ []) ≡ false ∷ true ∷ []
refined = refl

-- Over a set that is drawn from another one no rule fires: the fold that binds its name is rewritten first.
drawn_sets : fires ((y, compound1 a_set int_ty) ∷ []) (from (name_pat x) (name_ex y) no_gens) ≡ false ∷ false ∷ false ∷ []
drawn_sets = refl
