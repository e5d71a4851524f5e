-- A name stands in an expression where it is among the parts.
use Rattle.std.proofs.Common.{◌≡◌, refl, ap, ◌∙◌, Bool, true, false, ◌||◌, not, List, [], ◌∷◌, ◌++◌}
use Rattle.std.specs.List.{list_any}
use Rattle.ess_semantics.specs.Values.{Text}
use Rattle.ess_semantics.specs.Trees.{Ex, Exs, number_ex, truth_ex, name_ex, node_ex, matrix_ex, comp_ex, cell_ex, seen_ex, no_exs, more_exs, Gens, no_gens, over, from, cond, Dom, Doms, bool_dom, int_dom, name_dom, tuple_dom, record_dom, matrix_dom, set_dom, mset_dom, function_dom, relation_dom, partition_dom, no_doms, more_doms}
use Rattle.ess_semantics.specs.Occurrences.{is_name, free_of, parts_of, parts_of_all, parts_of_gens, parts_of_dom, parts_of_doms}
use Rattle.ess_core.specs.TreeViews.{Item, over_item, from_item, cond_item, gens_of}
use Rattle.ess_rules_numbered.specs.NamedParts.{names, any_names, gens_name, dom_names, doms_name, any_item_names}

or-step : (a b c : Bool) → (a || b) || c ≡ a || (b || c)
or-step true b c = refl
or-step false b c = refl

or-none : (b : Bool) → b ≡ b || false
or-none true = refl
or-none false = refl

-- Of two lists one after the other.
any-both : (a : Text) (xs ys : List Ex) → list_any (is_name a) xs || list_any (is_name a) ys ≡ list_any (is_name a) (xs ++ ys)
any-both a [] ys = refl
any-both a (x ∷ xs) ys =
    or-step (is_name a x) (list_any (is_name a) xs) (list_any (is_name a) ys)
    ∙ ap (λ b. is_name a x || b) (any-both a xs ys)

both : (n : Text) (a b : Bool) (xs ys : List Ex) → a ≡ list_any (is_name n) xs → b ≡ list_any (is_name n) ys
    → a || b ≡ list_any (is_name n) (xs ++ ys)
both n a b xs ys h g = ap (λ c. c || b) h ∙ ap (λ c. list_any (is_name n) xs || c) g ∙ any-both n xs ys

mutual
  names-is : (n : Text) (e : Ex) → names n e ≡ list_any (is_name n) (parts_of e)
  names-is n (number_ex k) = refl
  names-is n (truth_ex b) = refl
  names-is n (name_ex a) = or-none (is_name n (name_ex a))
  names-is n (node_ex b op es) = all-is n es
  names-is n (matrix_ex es d) = both n (any_names n es) (dom_names n d) (parts_of_all es) (parts_of_dom d) (all-is n es) (dom-is n d)
  names-is n (comp_ex e gs) = both n (names n e) (gens_name n gs) (parts_of e) (parts_of_gens gs) (names-is n e) (gens-is n gs)
  names-is n (cell_ex b a es) = all-is n es
  names-is n (seen_ex r d ns es) = both n (dom_names n d) (any_names n es) (parts_of_dom d) (parts_of_all es) (dom-is n d) (all-is n es)

  all-is : (n : Text) (es : Exs) → any_names n es ≡ list_any (is_name n) (parts_of_all es)
  all-is n no_exs = refl
  all-is n (more_exs e es) = both n (names n e) (any_names n es) (parts_of e) (parts_of_all es) (names-is n e) (all-is n es)

  gens-is : (n : Text) (gs : Gens) → gens_name n gs ≡ list_any (is_name n) (parts_of_gens gs)
  gens-is n no_gens = refl
  gens-is n (over p d gs) = both n (dom_names n d) (gens_name n gs) (parts_of_dom d) (parts_of_gens gs) (dom-is n d) (gens-is n gs)
  gens-is n (from p e gs) = both n (names n e) (gens_name n gs) (parts_of e) (parts_of_gens gs) (names-is n e) (gens-is n gs)
  gens-is n (cond e gs) = both n (names n e) (gens_name n gs) (parts_of e) (parts_of_gens gs) (names-is n e) (gens-is n gs)

  dom-is : (n : Text) (d : Dom) → dom_names n d ≡ list_any (is_name n) (parts_of_dom d)
  dom-is n bool_dom = refl
  dom-is n (int_dom rs es) = all-is n es
  dom-is n (name_dom a) = refl
  dom-is n (tuple_dom ds) = doms-is n ds
  dom-is n (record_dom fs ds) = doms-is n ds
  dom-is n (matrix_dom is d) = both n (doms_name n is) (dom_names n d) (parts_of_doms is) (parts_of_dom d) (doms-is n is) (dom-is n d)
  dom-is n (set_dom ms es d) = both n (any_names n es) (dom_names n d) (parts_of_all es) (parts_of_dom d) (all-is n es) (dom-is n d)
  dom-is n (mset_dom ms es d) = both n (any_names n es) (dom_names n d) (parts_of_all es) (parts_of_dom d) (all-is n es) (dom-is n d)
  dom-is n (function_dom ms es d c) =
      both n (any_names n es || dom_names n d) (dom_names n c) (parts_of_all es ++ parts_of_dom d) (parts_of_dom c)
      (both n (any_names n es) (dom_names n d) (parts_of_all es) (parts_of_dom d) (all-is n es) (dom-is n d)) (dom-is n c)
  dom-is n (relation_dom ms es ds) = both n (any_names n es) (doms_name n ds) (parts_of_all es) (parts_of_doms ds) (all-is n es) (doms-is n ds)
  dom-is n (partition_dom ms es d) = both n (any_names n es) (dom_names n d) (parts_of_all es) (parts_of_dom d) (all-is n es) (dom-is n d)

  doms-is : (n : Text) (ds : Doms) → doms_name n ds ≡ list_any (is_name n) (parts_of_doms ds)
  doms-is n no_doms = refl
  doms-is n (more_doms d ds) = both n (dom_names n d) (doms_name n ds) (parts_of_dom d) (parts_of_doms ds) (dom-is n d) (doms-is n ds)

-- So it stands in an expression where that isn't free of it.
pub names_where_not_free : (n : Text) (e : Ex) → names n e ≡ not (free_of (n ∷ []) (more_exs e no_exs))
names_where_not_free n e = names-is n e ∙ go (list_any (is_name n) (parts_of e)) ∙ ap (λ l. not (not (list_any (is_name n) l || false))) (alone (parts_of e))
  where
    go : (b : Bool) → b ≡ not (not (b || false))
    go true = refl
    go false = refl

    alone : (l : List Ex) → l ≡ l ++ []
    alone [] = refl
    alone (x ∷ l) = ap (λ m. x ∷ m) (alone l)

-- Generators one by one, or as one list.
pub items_name : (n : Text) (is : List Item) → any_item_names n is ≡ gens_name n (gens_of is)
items_name n [] = refl
items_name n (over_item p d ∷ is) = ap (λ b. dom_names n d || b) (items_name n is)
items_name n (from_item p e ∷ is) = ap (λ b. names n e || b) (items_name n is)
items_name n (cond_item e ∷ is) = ap (λ b. names n e || b) (items_name n is)
