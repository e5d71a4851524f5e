-- Each cell in a condition is one of a given where rewriting ends.
use Rattle.std.proofs.Common.{◌≡◌, refl, sym, ◌∙◌, ℕ, ◌≤◌, ◌^◌, Bool, true, false, ◌&&◌, ◌||◌, not, List, [], ◌∷◌}
use Rattle.std.specs.List.{list_all, list_any}
use Rattle.std.proofs.lemmas.List.Folds.{list_all-append}
use Rattle.ess_semantics.specs.Values.{Text}
use Rattle.ess_semantics.specs.Names.{Names}
use Rattle.ess_semantics.specs.Operators.{iff}
use Rattle.ess_semantics.specs.Trees.{one_value, Op, word, binary, matrix_literal, is_truth_op, name_pat, Ex, Exs, number_ex, truth_ex, name_ex, node_ex, matrix_ex, comp_ex, cell_ex, seen_ex, no_exs, more_exs, Gens, no_gens, over, from, cond, bool_dom, int_dom, name_dom}
use Rattle.ess_semantics.specs.Types.{Ty}
use Rattle.ess_semantics.specs.Kinds.{is_bounded}
use Rattle.ess_semantics.specs.ExpressionJudgements.{forgets_order}
use Rattle.ess_semantics.specs.Occurrences.{parts_of, is_cell_or_view, has_cells}
use Rattle.ess_semantics.specs.Refined.{is_scalar_op, is_list_op, is_refined, are_refined, is_refined_list, are_refined_lists, are_refined_gens}
use Rattle.ess_semantics.proofs.Tests.{and-left, and-right, and-both}
use Rattle.ess_given_laws.specs.ess_chain_names_laws.Steps.{Chain}
use Rattle.ess_given_laws.specs.Given.{is_fixed, GivenIn}
use Rattle.ess_given_laws.specs.GivenEnds.{reads_given, conditions_read_none}
use Rattle.ess_given_laws.proofs.GivenEnds.{given-ends}
use Rattle.ess_given_conditions_laws.specs.GrowingNames.{HasNoneFrom}
use Rattle.ess_given_conditions_laws.specs.GivenChains.{IsGivenStep, SparesAll}
use Rattle.ess_given_conditions_laws.specs.ConditionsEnd.{IsSettled, SettledIn, AllSettled, GensSettled}
use Rattle.ess_given_conditions_laws.proofs.ConditionsEnd.{own-read, either-way}
use Rattle.ess_given_order_laws.specs.InOrder.{in_order, gens_in_order, Ordered, AllOrdered, GensOrdered}
use Rattle.ess_given_order_laws.specs.OrderEnds.{conditions_read_given, lists_read_given, own_read_given, given_conditions, all_given_conditions, gens_given_conditions, AllGiven, OrderEnds}
use Rattle.ess_given_order_laws.proofs.OrderStays.{order-stays}

module _ (u : Text → Bool) where
  -- ---- what reads no table, and what is fixed

  no-table : (e : Ex) → is_cell_or_view e ≡ false → reads_given u e ≡ true
  no-table (cell_ex b n es) h = cc
  no-table (seen_ex r d ns es) h = cc
  no-table (number_ex n) h = refl
  no-table (truth_ex b) h = refl
  no-table (name_ex a) h = refl
  no-table (node_ex b op es) h = refl
  no-table (matrix_ex es d) h = refl
  no-table (comp_ex e gs) h = refl

  no-tables : (es : List Ex) → list_any is_cell_or_view es ≡ false → list_all (reads_given u) es ≡ true
  no-tables [] h = refl
  no-tables (e ∷ es) h = go (is_cell_or_view e) refl h (no-tables es)
    where
      go : (b : Bool) → is_cell_or_view e ≡ b → b || list_any is_cell_or_view es ≡ false →
          (list_any is_cell_or_view es ≡ false → list_all (reads_given u) es ≡ true) → reads_given u e && list_all (reads_given u) es ≡ true
      go true q k f = cc
      go false q k f = and-both (reads_given u e) (list_all (reads_given u) es) (no-table e q) (f k)

  not-so : (b : Bool) → not b ≡ true → b ≡ false
  not-so true h = cc
  not-so false h = refl

  none-given : (gs : Gens) → conditions_read_none gs ≡ true → conditions_read_given u gs ≡ true
  none-given no_gens h = refl
  none-given (over p d gs) h = none-given gs h
  none-given (from p e gs) h = none-given gs h
  none-given (cond c gs) h = and-both (list_all (reads_given u) (parts_of c)) (conditions_read_given u gs)
      (no-tables (parts_of c) (not-so (has_cells c) (and-left (not (has_cells c)) (conditions_read_none gs) h)))
      (none-given gs (and-right (not (has_cells c)) (conditions_read_none gs) h))

  fixed-reads : (c : Ex) → is_fixed u c ≡ true → list_all (reads_given u) (parts_of c) ≡ true
  fixed-reads c h = and-left (list_all (reads_given u) (parts_of c)) true (sym (list_all-append (reads_given u) (parts_of c) []) ∙
      given-ends.domains u (matrix_ex no_exs (int_dom (one_value ∷ []) (more_exs c no_exs))) (tt, and-both (is_fixed u c) true h refl))

  order-given : (gs : Gens) → gens_in_order u gs ≡ true → conditions_read_given u gs ≡ true
  order-given no_gens h = refl
  order-given (over p d gs) h = order-given gs h
  order-given (from p e gs) h = order-given gs (and-right (in_order u e) (gens_in_order u gs) h)
  order-given (cond c gs) h = and-both (list_all (reads_given u) (parts_of c)) (conditions_read_given u gs)
      (fixed-reads c (and-left (is_fixed u c) (gens_in_order u gs) h)) (order-given gs (and-right (is_fixed u c) (gens_in_order u gs) h))

  -- ---- at a node

  signs-given : (es : Exs) → AllOrdered u es false → lists_read_given u es ≡ true
  signs-given no_exs h = refl
  signs-given (more_exs (comp_ex e gs) es) h =
      and-both (conditions_read_given u gs) (lists_read_given u es) (order-given gs h.0.0) (signs-given es h.1)
  signs-given (more_exs (number_ex n) es) h = signs-given es h.1
  signs-given (more_exs (truth_ex b) es) h = signs-given es h.1
  signs-given (more_exs (name_ex a) es) h = signs-given es h.1
  signs-given (more_exs (node_ex b op fs) es) h = signs-given es h.1
  signs-given (more_exs (matrix_ex fs d) es) h = signs-given es h.1
  signs-given (more_exs (cell_ex b n fs) es) h = signs-given es h.1
  signs-given (more_exs (seen_ex r d ns fs) es) h = signs-given es h.1

  own-given : (b : Bool) (op : Op) (es : Exs) → is_refined (node_ex b op es) ≡ true → IsSettled (node_ex b op es) →
      AllOrdered u es (forgets_order op) → own_read_given u op es ≡ true
  own-given b (word f) (more_exs (comp_ex e gs) no_exs) h s o = none-given gs (own-read b (word f) (more_exs (comp_ex e gs) no_exs) h s)
  own-given b (binary p) es h s o = signs-given es o
  own-given b op es h s o = refl

  -- ---- everywhere

  mutual
    read-given : (e : Ex) → is_refined e ≡ true → SettledIn e → Ordered u e → given_conditions u e ≡ true
    read-given (number_ex n) h s o = refl
    read-given (truth_ex b) h s o = refl
    read-given (name_ex a) h s o = refl
    read-given (node_ex b op es) h s o = and-both (own_read_given u op es) (all_given_conditions u es) (own-given b op es h s.0 o)
        (either-way (is_scalar_op op) (are_refined es) (is_list_op op) (are_refined_lists es)
        (λ k. all-read-given es k s.1 (forgets_order op) o)
        (λ k. lists-given es k s.1 (forgets_order op) o) (and-right (iff b (is_truth_op op)) _ h))
    read-given (cell_ex b n es) h s o = all-read-given es h s false o
    read-given (matrix_ex es d) h s o = cc
    read-given (comp_ex e gs) h s o = cc
    read-given (seen_ex r d ns es) h s o = cc

    all-read-given : (es : Exs) → are_refined es ≡ true → AllSettled es → (c : Bool) → AllOrdered u es c → all_given_conditions u es ≡ true
    all-read-given no_exs h s c o = refl
    all-read-given (more_exs e es) h s true o = and-both (given_conditions u e) (all_given_conditions u es)
        (read-given e (and-left (is_refined e) (are_refined es) h) s.0 o.0)
        (all-read-given es (and-right (is_refined e) (are_refined es) h) s.1 true o.1)
    all-read-given (more_exs e es) h s false o = and-both (given_conditions u e) (all_given_conditions u es)
        (read-given e (and-left (is_refined e) (are_refined es) h) s.0 o.0.1)
        (all-read-given es (and-right (is_refined e) (are_refined es) h) s.1 false o.1)

    lists-given : (es : Exs) → are_refined_lists es ≡ true → AllSettled es → (c : Bool) → AllOrdered u es c → all_given_conditions u es ≡
        true
    lists-given no_exs h s c o = refl
    lists-given (more_exs e es) h s true o = and-both (given_conditions u e) (all_given_conditions u es)
        (list-given e (and-left (is_refined_list e) (are_refined_lists es) h) s.0 o.0)
        (lists-given es (and-right (is_refined_list e) (are_refined_lists es) h) s.1 true o.1)
    lists-given (more_exs e es) h s false o = and-both (given_conditions u e) (all_given_conditions u es)
        (list-given e (and-left (is_refined_list e) (are_refined_lists es) h) s.0 o.0.1)
        (lists-given es (and-right (is_refined_list e) (are_refined_lists es) h) s.1 false o.1)

    list-given : (e : Ex) → is_refined_list e ≡ true → SettledIn e → Ordered u e → given_conditions u e ≡ true
    list-given (comp_ex e gs) h s o = and-both (given_conditions u e) (gens_given_conditions u gs)
        (read-given e (and-left (is_refined e) (are_refined_gens gs) h) s.0 o.0.1)
        (gens-given gs (and-right (is_refined e) (are_refined_gens gs) h) s.1 o.1)
    list-given (node_ex false matrix_literal es) h s o = all-read-given es h s.1 false o
    list-given e h s o = cc

    gens-given : (gs : Gens) → are_refined_gens gs ≡ true → GensSettled gs → GensOrdered u gs → gens_given_conditions u gs ≡ true
    gens-given no_gens h s o = refl
    gens-given (over (name_pat a) bool_dom gs) h s o = gens-given gs h s o
    gens-given (over (name_pat a) (name_dom t) gs) h s o = gens-given gs h s o
    gens-given (over (name_pat a) (int_dom rs es) gs) h s o =
        gens-given gs (and-right (is_bounded rs && are_refined es) (are_refined_gens gs) h) s o
    gens-given (cond c gs) h s o = and-both (given_conditions u c) (gens_given_conditions u gs)
        (read-given c (and-left (is_refined c) (are_refined_gens gs) h) s.0 o.0.1)
        (gens-given gs (and-right (is_refined c) (are_refined_gens gs) h) s.1 o.1)
    gens-given gs h s o = cc

ends-along : (t : Text → Bool) (n m : ℕ) (g : Names Ty) (old new : Ex) → HasNoneFrom n t → SparesAll n old → GivenIn t old → Ordered t old →
    Chain IsGivenStep n g old new m → m ≤ 2 ^ 64 → is_refined new ≡ true → SettledIn new → AllGiven n m t new
ends-along t n m g old new f s h o c l r e = let x = order-stays.along t n m g old new c l f s h o in record {
  names = x.names;
  grow = x.grow;
  domains = given-ends.domains x.names new x.given;
  conditions = read-given x.names new r e x.ordered;
}

-- What is proved of the ends.
pub order-ends : OrderEnds
order-ends = record { everywhere = read-given; along = ends-along }
