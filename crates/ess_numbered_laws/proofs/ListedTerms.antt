-- Lists in place of matrices that aren't numbered from 1: what is picked has the same items, in order.
use Rattle.std.proofs.Common.{refl, sym, subst, ℕ, zero, suc, Bool, true, false, if◌then◌else◌, [], ◌∷◌, Option, Some, None}
use Rattle.std.specs.Prelude.{IsTrue, is_some}
use Rattle.ess_semantics.specs.Lists.{all_some}
use Rattle.ess_semantics.specs.Values.{Text, a_matrix, of_list, matrix}
use Rattle.ess_semantics.specs.Trees.{by_value, index, matrix_literal, Ex, Exs, node_ex, matrix_ex, seen_ex, no_exs, more_exs, Dom}
use Rattle.ess_semantics.specs.Types.{Ty, compound2, type_of_dom}
use Rattle.ess_semantics.specs.Meaning.{Env, meaning, meanings, domain_of, members_in}
use Rattle.ess_semantics.specs.Meets.{Meets, MeetsAll}
use Rattle.ess_guard_laws.specs.IndexDomains.{first_index, plain_axis}
use Rattle.ess_rules_laws.specs.Rules.{Unused}
use Rattle.ess_rules_laws.specs.SourceRules.{list_of}
use Rattle.ess_ordered_laws.specs.Laws.{IndicesTold}
use Rattle.ess_numbered_laws.specs.ListedPicks.{shifted_axis, literal_as_list, view_as_list, with_lists, each_with_lists}
use Rattle.ess_numbered_laws.specs.ListedLaws.{PicksTold, EachTold, ListsHaveTheItems}
use Rattle.ess_numbered_laws.proofs.AlikeValues.{Both, BothPairs, Alike, alike-same, alike-items, one-more-pair, lists-alike, matrices-alike, picked-alike, matrix-as-list}
use Rattle.ess_numbered_laws.proofs.ItemsInOrder.{in-order-means, in-order-met}

module _ (z : Text) (env : Env) where
  -- ---- one matrix

  -- A literal over a domain has the same items as a list.
  literal-alike : (es : Exs) (d : Dom) → IsTrue (is_some (meaning (matrix_ex es d) env)) →
      Both (Alike zero) (meaning (matrix_ex es d) env) (meaning (literal_as_list es d) env)
  literal-alike no_exs d t = alike-same zero (meaning (matrix_ex no_exs d) env)
  literal-alike (more_exs e es) d t = go (is_some (shifted_axis (Some d)))
    where
      go : (b : Bool) → Both (Alike zero) (meaning (matrix_ex (more_exs e es) d) env)
          (meaning (if b then list_of (more_exs e es) else matrix_ex (more_exs e es) d) env)
      go true = matrix-as-list (members_in (domain_of d env)) (all_some (meanings (more_exs e es) env)) t
      go false = alike-same zero (meaning (matrix_ex (more_exs e es) d) env)

  literal-met : (es : Exs) (d : Dom) → Meets (matrix_ex es d) env → Meets (literal_as_list es d) env
  literal-met no_exs d m = m
  literal-met (more_exs e es) d m = go (is_some (shifted_axis (Some d)))
    where
      go : (b : Bool) → Meets (if b then list_of (more_exs e es) else matrix_ex (more_exs e es) d) env
      go true = m.0
      go false = m

  -- And so has a view over its index domain.
  view-alike : (v : Ex) (t : Ty) (o : Option Dom) → Unused z v → IndicesTold o (Some t) v env →
      Both (Alike zero) (meaning v env) (meaning (view_as_list z v t o) env)
  view-alike v t None new h = alike-same zero (meaning v env)
  view-alike v (compound2 a_matrix j u) (Some i) new h =
      subst (λ o. Both (Alike zero) o (meaning (view_as_list z v (compound2 a_matrix j u) (Some i)) env)) (sym h.0.value)
      (subst (λ o. Both (Alike zero) (Some (matrix (of_list h.0.indices) (of_list h.0.items))) o)
      (sym (in-order-means z u v i env new h.0 h.1)) refl)
  view-alike v _ (Some i) new h = alike-same zero (meaning v env)

  view-met : (v : Ex) (t : Ty) (o : Option Dom) → Unused z v → IndicesTold o (Some t) v env → Meets v env → Meets (view_as_list z v t o) env
  view-met v t None new h m = m
  view-met v (compound2 a_matrix j u) (Some i) new h m = in-order-met z u v i env new h.0 h.1 m
  view-met v _ (Some i) new h m = m

  -- ---- what is picked

  mutual
    -- Indices lead to the same items.
    pub with-lists-alike : (k : ℕ) (t : Ex) → PicksTold z k t env → Both (Alike k) (meaning t env) (meaning (with_lists z k t) env)
    with-lists-alike k (node_ex false (index (by_value ∷ [])) (more_exs t (more_exs i no_exs))) h =
        picked-alike k (meaning t env) (meaning (with_lists z (suc k) t) env) (meaning i env) (with-lists-alike (suc k) t h)
    with-lists-alike (suc k) (node_ex false matrix_literal es) h =
        lists-alike k (all_some (meanings es env)) (all_some (meanings (each_with_lists z k es) env)) (each-alike k es h)
    with-lists-alike (suc k) (matrix_ex es d) h =
        matrices-alike k (members_in (domain_of d env)) (all_some (meanings es env)) (all_some (meanings (each_with_lists z k es) env))
        (each-alike k es h)
    with-lists-alike zero (matrix_ex es d) h = literal-alike es d h
    with-lists-alike zero (seen_ex r d ns es) h = view-alike (seen_ex r d ns es) (type_of_dom d)
        (shifted_axis (plain_axis (first_index (Some d)))) h.0 h.1
    with-lists-alike k e h = alike-same k (meaning e env)

    each-alike : (k : ℕ) (es : Exs) → EachTold z k es env →
        BothPairs (Alike k) (all_some (meanings es env)) (all_some (meanings (each_with_lists z k es) env))
    each-alike k no_exs h = tt
    each-alike k (more_exs e es) h = one-more-pair (Alike k) (meaning e env) (meaning (with_lists z k e) env) (all_some (meanings es env))
        (all_some (meanings (each_with_lists z k es) env)) (with-lists-alike k e h.0) (each-alike k es h.1)

  mutual
    -- Structures are met still.
    pub with-lists-met : (k : ℕ) (t : Ex) → PicksTold z k t env → Meets t env → Meets (with_lists z k t) env
    with-lists-met k (node_ex false (index (by_value ∷ [])) (more_exs t (more_exs i no_exs))) h m =
        (with-lists-met (suc k) t h m.0, m.1)
    with-lists-met (suc k) (node_ex false matrix_literal es) h m = each-met k es h m
    with-lists-met (suc k) (matrix_ex es d) h m = (each-met k es h m.0, m.1)
    with-lists-met zero (matrix_ex es d) h m = literal-met es d m
    with-lists-met zero (seen_ex r d ns es) h m = view-met (seen_ex r d ns es) (type_of_dom d)
        (shifted_axis (plain_axis (first_index (Some d)))) h.0 h.1 m
    with-lists-met k e h m = m

    each-met : (k : ℕ) (es : Exs) → EachTold z k es env → MeetsAll false es env → MeetsAll false (each_with_lists z k es) env
    each-met k no_exs h m = tt
    each-met k (more_exs e es) h m = (with-lists-met k e h.0 m.0, each-met k es h.1 m.1)

-- So the term has the same items.
pub lists-have-the-items : ListsHaveTheItems
lists-have-the-items z t env h = alike-items (meaning t env) (meaning (with_lists z zero t) env) (with-lists-alike z env zero t h)
