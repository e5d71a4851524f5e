-- Worked examples of comprehensions over what is picked.
use Rattle.std.specs.Prelude.{◌≡◌, refl, true, false, ℕ, [], ◌∷◌, codes, Some, None}
use Rattle.ess_semantics.specs.declared.words.Op2.{Op2}
use Rattle.ess_semantics.specs.declared.words.Fun.{Fun}
use Rattle.ess_semantics.specs.Values.{truth}
use Rattle.ess_semantics.specs.Trees.{function_literal, to_component, index, name_pat, Ex, Exs, node_ex, comp_ex, Gens, no_gens, over, from, cond}
use Rattle.ess_semantics.specs.Meaning.{empty_env, meaning}
use Rattle.ess_semantics.proofs.Shorthands.{N, n, es1, es2, bi, fn, upto, app, at}
use Rattle.ess_rules_laws.specs.SourceRules.{list_of}
use Rattle.ess_rules_laws.specs.Listings.{Alternative}
use Rattle.ess_kind_rules_laws.specs.TermLookups.{looked_up}
use Rattle.ess_ordered_laws.specs.PickedSources.{is_untold, picked_source}
use Rattle.ess_ordered_laws.specs.OrderedRules.{of_an_item, keeps_order, ordered_rewrite}
use Rattle.ess_ordered_laws.proofs.ExamplesOrdered.{q, y, z, r, a, b, names, over_item_means, tuple}

-- `[q | q <- t]`.
abbrev copied : Ex → Ex
copied t = comp_ex (N q) (from (name_pat q) t no_gens)

-- `[[1, 2], [3]]`.
abbrev uneven : Ex
uneven = list_of (es2 (list_of (es2 (n 1) (n 2))) (list_of (es1 (n 3))))

-- Its items have no length that a form tells; a literal and a view have.
untold_lengths : (is_untold names [] (at uneven (n 2)) ≡ true) × (is_untold names [] uneven ≡ false) × (is_untold names [] (N q) ≡ false)
untold_lengths = (refl, refl, refl)

-- `[q | q <- [[1, 2], [3]][2]]` is `[[q | q <- o] | o <- [[1, 2] | 2 = 1]]` and the same of `[3]` where 2 is 2.
abbrev where_item : ℕ → Ex → Alternative
where_item k t = record {
  gens = from (name_pat (codes "o")) (comp_ex t (cond (bi Op2.Eq (n 2) (n k)) no_gens)) no_gens;
  item = copied (N (codes "o"));
}

each_alternative : picked_source names [] (copied (at uneven (n 2)))
    ≡ Some (where_item 1 (list_of (es2 (n 1) (n 2))) ∷ where_item 2 (list_of (es1 (n 3))) ∷ [])
each_alternative = refl

-- `[q | q <- [[1, 2], [3]][2]] = [3]`, and not `[1, 2]`, from both sides.
picked_means : (meaning (bi Op2.Eq (copied (at uneven (n 2))) (list_of (es1 (n 3)))) empty_env ≡ Some (truth true))
    × (over_item_means (bi Op2.Eq (copied (at uneven (n 2))) (list_of (es1 (n 3)))) ≡ Some (truth true))
    × (over_item_means (bi Op2.Eq (list_of (es1 (n 3))) (copied (at uneven (n 2)))) ≡ Some (truth true))
    × (over_item_means (bi Op2.Eq (copied (at uneven (n 2))) (list_of (es2 (n 1) (n 2)))) ≡ Some (truth false))
picked_means = (refl, refl, refl, refl)

-- A word that forgets order has rules of its own: of `sum([q | q <- [[1, 2], [3]][2]])` nothing is made here.
forgets_order_stays : (keeps_order (fn Fun.Sum (copied (at uneven (n 2)))) ≡ false)
    × (ordered_rewrite names [] of_an_item (fn Fun.Sum (copied (at uneven (n 2)))) ≡ None)
forgets_order_stays = (refl, refl)

-- `[q | q <- function(1 --> [1, 2], 2 --> [4])(1), q > 1] <lex [3]`; at 3 the function has nothing, and both are false.
abbrev applied : Exs → ℕ → Ex
applied ps k = app (node_ex false function_literal ps) (n k)

abbrev two_results : Exs
two_results = es2 (tuple (n 1) (list_of (es2 (n 1) (n 2)))) (tuple (n 2) (list_of (es1 (n 4))))

abbrev applied_above : ℕ → Ex
applied_above k = comp_ex (N q) (from (name_pat q) (applied two_results k) (cond (bi Op2.Gt (N q) (n 1)) no_gens))

abbrev before_three : ℕ → Ex
before_three k = bi Op2.LexLt (applied_above k) (list_of (es1 (n 3)))

lex_means : (meaning (before_three 1) empty_env ≡ Some (truth true)) × (over_item_means (before_three 1) ≡ Some (truth true))
    × (meaning (before_three 2) empty_env ≡ Some (truth false)) × (over_item_means (before_three 2) ≡ Some (truth false))
    × (meaning (before_three 3) empty_env ≡ Some (truth false)) × (over_item_means (before_three 3) ≡ Some (truth false))
lex_means = (refl, refl, refl, refl, refl, refl)

-- What has one result alone is taken in order as it is.
one_result : (is_untold names [] (applied two_results 1) ≡ true)
    × (is_untold names [] (applied (es1 (tuple (n 1) (list_of (es1 (n 4))))) 1) ≡ false)
one_result = (refl, refl)

-- ---- items of comprehensions

-- `[q | q <- [[r, r + 1] | r : int(1..3)][2]]` is `[[q | q <- o] | o <- [[r, r + 1] | r : int(1..3), r = 2]]`.
abbrev two_from : Gens → Ex
two_from gs = comp_ex (list_of (es2 (N r) (bi Op2.Plus (N r) (n 1)))) (over (name_pat r) (upto 3) gs)

abbrev numbered : ℕ → Ex
numbered k = at (two_from no_gens) (n k)

by_number : (is_untold names [] (numbered 2) ≡ true) × (looked_up [] z (y ∷ a ∷ b ∷ []) (numbered 2) ≡ None)
    × (picked_source names [] (copied (numbered 2)) ≡ Some (record {
      gens = from (name_pat (codes "o")) (two_from (cond (bi Op2.Eq (N r) (n 2)) no_gens)) no_gens;
      item = copied (N (codes "o"));
    } ∷ []))
by_number = (refl, refl, refl)

-- It is `[2, 3]` and not `[1, 2]`, from both sides. There is no fourth item: then both are false.
abbrev pair_of : ℕ → ℕ → Ex
pair_of k m = list_of (es2 (n k) (n m))

numbered_means : (meaning (bi Op2.Eq (copied (numbered 2)) (pair_of 2 3)) empty_env ≡ Some (truth true))
    × (over_item_means (bi Op2.Eq (copied (numbered 2)) (pair_of 2 3)) ≡ Some (truth true))
    × (over_item_means (bi Op2.Eq (pair_of 2 3) (copied (numbered 2))) ≡ Some (truth true))
    × (over_item_means (bi Op2.Eq (copied (numbered 2)) (pair_of 1 2)) ≡ Some (truth false))
    × (meaning (bi Op2.Eq (copied (numbered 4)) (pair_of 4 5)) empty_env ≡ Some (truth false))
    × (over_item_means (bi Op2.Eq (copied (numbered 4)) (pair_of 4 5)) ≡ Some (truth false))
numbered_means = (refl, refl, refl, refl, refl, refl)

-- `[(r, [r]) | r : int(1..3)][2][2]` picks a component of such an item.
abbrev of_a_pair : Ex
of_a_pair = node_ex false (index (to_component 2 ∷ []))
    (es1 (at (comp_ex (tuple (N r) (list_of (es1 (N r)))) (over (name_pat r) (upto 3) no_gens)) (n 2)))

component_means : (over_item_means (bi Op2.Eq (copied of_a_pair) (list_of (es1 (n 2)))) ≡ Some (truth true))
    × (over_item_means (bi Op2.Eq (copied of_a_pair) (list_of (es1 (n 1)))) ≡ Some (truth false))
component_means = (refl, refl)
