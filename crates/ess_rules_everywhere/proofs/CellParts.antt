-- What reads a table is what has a cell or a view among its parts.
use Rattle.std.proofs.Common.{◌≡◌, refl, ap, ◌∙◌, Bool, true, false, ◌||◌, List, [], ◌∷◌, ◌++◌}
use Rattle.std.specs.List.{list_any}
use Rattle.ess_semantics.specs.Trees.{Ex, Exs, number_ex, truth_ex, name_ex, node_ex, matrix_ex, comp_ex, cell_ex, seen_ex, no_exs, more_exs, Gens, no_gens, over, from, cond, Dom, Doms, bool_dom, int_dom, name_dom, tuple_dom, record_dom, matrix_dom, set_dom, mset_dom, function_dom, relation_dom, partition_dom, no_doms, more_doms}
use Rattle.ess_semantics.specs.Occurrences.{has_cells, is_cell_or_view, parts_of, parts_of_all, parts_of_gens, parts_of_dom, parts_of_doms}
use Rattle.ess_core.specs.TreeViews.{Item, over_item, from_item, cond_item, gens_of}
use Rattle.ess_rules_everywhere.specs.TableParts.{reads, any_reads, gens_read, dom_reads, doms_read, any_item_reads}

or-step : (a b c : Bool) → (a || b) || c ≡ a || (b || c)
or-step true b c = refl
or-step false b c = refl

-- Of two lists one after the other.
any-both : (xs ys : List Ex) → list_any is_cell_or_view xs || list_any is_cell_or_view ys ≡ list_any is_cell_or_view (xs ++ ys)
any-both [] ys = refl
any-both (x ∷ xs) ys =
    or-step (is_cell_or_view x) (list_any is_cell_or_view xs) (list_any is_cell_or_view ys)
    ∙ ap (λ b. is_cell_or_view x || b) (any-both xs ys)

both : (a b : Bool) (xs ys : List Ex) → a ≡ list_any is_cell_or_view xs → b ≡ list_any is_cell_or_view ys
    → a || b ≡ list_any is_cell_or_view (xs ++ ys)
both a b xs ys h g = ap (λ c. c || b) h ∙ ap (λ c. list_any is_cell_or_view xs || c) g ∙ any-both xs ys

mutual
  reads-is : (e : Ex) → reads e ≡ has_cells e
  reads-is (number_ex n) = refl
  reads-is (truth_ex b) = refl
  reads-is (name_ex a) = refl
  reads-is (node_ex b op es) = all-is es
  reads-is (matrix_ex es d) = both (any_reads es) (dom_reads d) (parts_of_all es) (parts_of_dom d) (all-is es) (dom-is d)
  reads-is (comp_ex e gs) = both (reads e) (gens_read gs) (parts_of e) (parts_of_gens gs) (reads-is e) (gens-is gs)
  reads-is (cell_ex b n es) = refl
  reads-is (seen_ex r d ns es) = refl

  all-is : (es : Exs) → any_reads es ≡ list_any is_cell_or_view (parts_of_all es)
  all-is no_exs = refl
  all-is (more_exs e es) = both (reads e) (any_reads es) (parts_of e) (parts_of_all es) (reads-is e) (all-is es)

  gens-is : (gs : Gens) → gens_read gs ≡ list_any is_cell_or_view (parts_of_gens gs)
  gens-is no_gens = refl
  gens-is (over p d gs) = both (dom_reads d) (gens_read gs) (parts_of_dom d) (parts_of_gens gs) (dom-is d) (gens-is gs)
  gens-is (from p e gs) = both (reads e) (gens_read gs) (parts_of e) (parts_of_gens gs) (reads-is e) (gens-is gs)
  gens-is (cond e gs) = both (reads e) (gens_read gs) (parts_of e) (parts_of_gens gs) (reads-is e) (gens-is gs)

  dom-is : (d : Dom) → dom_reads d ≡ list_any is_cell_or_view (parts_of_dom d)
  dom-is bool_dom = refl
  dom-is (int_dom rs es) = all-is es
  dom-is (name_dom a) = refl
  dom-is (tuple_dom ds) = doms-is ds
  dom-is (record_dom fs ds) = doms-is ds
  dom-is (matrix_dom is d) = both (doms_read is) (dom_reads d) (parts_of_doms is) (parts_of_dom d) (doms-is is) (dom-is d)
  dom-is (set_dom ms es d) = both (any_reads es) (dom_reads d) (parts_of_all es) (parts_of_dom d) (all-is es) (dom-is d)
  dom-is (mset_dom ms es d) = both (any_reads es) (dom_reads d) (parts_of_all es) (parts_of_dom d) (all-is es) (dom-is d)
  dom-is (function_dom ms es d c) =
      both (any_reads es || dom_reads d) (dom_reads c) (parts_of_all es ++ parts_of_dom d) (parts_of_dom c)
      (both (any_reads es) (dom_reads d) (parts_of_all es) (parts_of_dom d) (all-is es) (dom-is d)) (dom-is c)
  dom-is (relation_dom ms es ds) = both (any_reads es) (doms_read ds) (parts_of_all es) (parts_of_doms ds) (all-is es) (doms-is ds)
  dom-is (partition_dom ms es d) = both (any_reads es) (dom_reads d) (parts_of_all es) (parts_of_dom d) (all-is es) (dom-is d)

  doms-is : (ds : Doms) → doms_read ds ≡ list_any is_cell_or_view (parts_of_doms ds)
  doms-is no_doms = refl
  doms-is (more_doms d ds) = both (dom_reads d) (doms_read ds) (parts_of_dom d) (parts_of_doms ds) (dom-is d) (doms-is ds)

-- So it is of an expression.
pub reads_where_cells : (e : Ex) → reads e ≡ has_cells e
reads_where_cells e = reads-is e

-- Generators one by one, or as one list.
pub items_read : (is : List Item) → any_item_reads is ≡ gens_read (gens_of is)
items_read [] = refl
items_read (over_item p d ∷ is) = ap (λ b. dom_reads d || b) (items_read is)
items_read (from_item p e ∷ is) = ap (λ b. reads e || b) (items_read is)
items_read (cond_item e ∷ is) = ap (λ b. reads e || b) (items_read is)
