-- A part that spells no more numbers makes the whole spell no more.
use Rattle.std.proofs.Common.{◌≡◌, refl, ap, subst, suc, Bool, true, false, List, [], ◌∷◌, ◌++◌, ℤ}
use Rattle.std.specs.List.{list_all}
use Rattle.ess_semantics.specs.Names.{Names}
use Rattle.ess_semantics.specs.Numbers.{one_to}
use Rattle.ess_semantics.specs.Trees.{Ex}
use Rattle.ess_semantics.specs.Types.{Ty}
use Rattle.ess_semantics.specs.Typed.{Typed}
use Rattle.ess_semantics.specs.Constants.{operand_count, counted_op, drops_items, tree_constants, operand_constants, gens_constants, dom_constants, doms_constants}
use Rattle.ess_semantics.specs.Contexts.{In, Ins, InGens, InDom, InDoms, hole, in_operand, in_item, in_index_domain, in_body, in_generators, in_cell_index, in_view_domain, in_view_index, in_first, in_later, in_generator_domain, behind_over, in_source, behind_from, in_condition, behind_condition, in_bound, in_component, in_field, in_index, in_element, in_set_number, in_set_member, in_mset_number, in_mset_member, in_function_number, in_argument, in_result, in_relation_number, in_relation_component, in_partition_number, in_partition_member, in_first_domain, in_later_domain, fill, fill_exs, fill_gens, fill_dom, fill_doms}
use Rattle.ess_semantics.specs.Kept.{Kept}
use Rattle.ess_semantics.proofs.Tests.{and-left, and-right, and-both}
use Rattle.ess_rules_laws.proofs.Kept.{kept-itself, kept-chain}
use Rattle.ess_refine_laws.specs.ConstantsStay.{dropping_at, dropping_at_exs, dropping_at_gens, dropping_at_dom, dropping_at_doms, SpellsNoMore, SparingRewriting, same_numbers, sparing_at, WholesKeepConstants}

module _ (q : ℤ → Bool) where
  abbrev pub All : List ℤ → Type 0
  All ns = list_all q ns ≡ true

  pub all-left : (ns ms : List ℤ) → All (ns ++ ms) → All ns
  all-left [] ms h = refl
  all-left (n ∷ ns) ms h =
      and-both (q n) (list_all q ns) (and-left (q n) (list_all q (ns ++ ms)) h) (all-left ns ms (and-right (q n) (list_all q (ns ++ ms)) h))

  pub all-right : (ns ms : List ℤ) → All (ns ++ ms) → All ms
  all-right [] ms h = h
  all-right (n ∷ ns) ms h = all-right ns ms (and-right (q n) (list_all q (ns ++ ms)) h)

  pub all-both : (ns ms : List ℤ) → All ns → All ms → All (ns ++ ms)
  all-both [] ms h k = k
  all-both (n ∷ ns) ms h k =
      and-both (q n) (list_all q (ns ++ ms)) (and-left (q n) (list_all q ns) h) (all-both ns ms (and-right (q n) (list_all q ns) h) k)

  -- The first part changes, or the second.
  first-part : (ns ks ms : List ℤ) → (All ns → All ks) → All (ns ++ ms) → All (ks ++ ms)
  first-part ns ks ms f h = all-both ks ms (f (all-left ns ms h)) (all-right ns ms h)

  second-part : (ns ms ks : List ℤ) → (All ms → All ks) → All (ns ++ ms) → All (ns ++ ks)
  second-part ns ms ks f h = all-both ns ks (all-left ns ms h) (f (all-right ns ms h))

  module _ (a b : Ex) where
    -- There are as many operands.
    same-count : (c : Ins) → operand_count (fill_exs c a) ≡ operand_count (fill_exs c b)
    same-count (in_first c es) = refl
    same-count (in_later x c) = ap suc (same-count c)

    -- What is asked at the part.
    abbrev Here : Bool → Type 0
    Here m = All (tree_constants m a) → All (tree_constants m b)

    mutual
      part-numbers : (c : In) (m : Bool) → Here (dropping_at c m) → All (tree_constants m (fill c a)) → All (tree_constants m (fill c b))
      part-numbers hole m k h = k h
      part-numbers (in_operand t op c) m k h =
          subst (λ n. All (counted_op m op n ++ operand_constants (drops_items op) (fill_exs c b))) (same-count c)
          (second-part (counted_op m op (operand_count (fill_exs c a))) (operand_constants (drops_items op) (fill_exs c a))
          (operand_constants (drops_items op) (fill_exs c b)) (exs-numbers c (drops_items op) k) h)
      part-numbers (in_item c d) m k h =
          subst (λ n. All ((one_to n ++ operand_constants false (fill_exs c b)) ++ dom_constants d)) (same-count c)
          (first-part (one_to (operand_count (fill_exs c a)) ++ operand_constants false (fill_exs c a))
          (one_to (operand_count (fill_exs c a)) ++ operand_constants false (fill_exs c b)) (dom_constants d)
          (second-part (one_to (operand_count (fill_exs c a))) (operand_constants false (fill_exs c a))
          (operand_constants false (fill_exs c b)) (exs-numbers c false k)) h)
      part-numbers (in_index_domain es c) m k h =
          second-part (one_to (operand_count es) ++ operand_constants false es) (dom_constants (fill_dom c a)) (dom_constants
          (fill_dom c b))
          (dom-numbers c k) h
      part-numbers (in_body c gs) m k h =
          first-part (tree_constants false (fill c a)) (tree_constants false (fill c b)) (gens_constants gs) (part-numbers c false k) h
      part-numbers (in_generators x c) m k h =
          second-part (tree_constants false x) (gens_constants (fill_gens c a)) (gens_constants (fill_gens c b)) (gens-numbers c k) h
      part-numbers (in_cell_index t n c) m k h = exs-numbers c false k h
      part-numbers (in_view_domain r c ns es) m k h =
          first-part (dom_constants (fill_dom c a)) (dom_constants (fill_dom c b)) (operand_constants false es) (dom-numbers c k) h
      part-numbers (in_view_index r d ns c) m k h =
          second-part (dom_constants d) (operand_constants false (fill_exs c a)) (operand_constants false (fill_exs c b))
          (exs-numbers c false k) h

      exs-numbers : (c : Ins) (m : Bool) → Here (dropping_at_exs c m) → All (operand_constants m (fill_exs c a)) →
          All (operand_constants m (fill_exs c b))
      exs-numbers (in_first c es) m k h =
          first-part (tree_constants m (fill c a)) (tree_constants m (fill c b)) (operand_constants m es) (part-numbers c m k) h
      exs-numbers (in_later x c) m k h =
          second-part (tree_constants m x) (operand_constants m (fill_exs c a)) (operand_constants m (fill_exs c b)) (exs-numbers c m k) h

      gens-numbers : (c : InGens) → Here (dropping_at_gens c) → All (gens_constants (fill_gens c a)) → All (gens_constants (fill_gens c b))
      gens-numbers (in_generator_domain p c gs) k h =
          first-part (dom_constants (fill_dom c a)) (dom_constants (fill_dom c b)) (gens_constants gs) (dom-numbers c k) h
      gens-numbers (behind_over p d c) k h =
          second-part (dom_constants d) (gens_constants (fill_gens c a)) (gens_constants (fill_gens c b)) (gens-numbers c k) h
      gens-numbers (in_source p c gs) k h =
          first-part (tree_constants false (fill c a)) (tree_constants false (fill c b)) (gens_constants gs) (part-numbers c false k) h
      gens-numbers (behind_from p x c) k h =
          second-part (tree_constants false x) (gens_constants (fill_gens c a)) (gens_constants (fill_gens c b)) (gens-numbers c k) h
      gens-numbers (in_condition c gs) k h =
          first-part (tree_constants false (fill c a)) (tree_constants false (fill c b)) (gens_constants gs) (part-numbers c false k) h
      gens-numbers (behind_condition x c) k h =
          second-part (tree_constants false x) (gens_constants (fill_gens c a)) (gens_constants (fill_gens c b)) (gens-numbers c k) h

      dom-numbers : (c : InDom) → Here (dropping_at_dom c) → All (dom_constants (fill_dom c a)) → All (dom_constants (fill_dom c b))
      dom-numbers (in_bound rs c) k h = exs-numbers c false k h
      dom-numbers (in_component c) k h = doms-numbers c k h
      dom-numbers (in_field fs c) k h = doms-numbers c k h
      dom-numbers (in_index c d) k h =
          first-part (doms_constants (fill_doms c a)) (doms_constants (fill_doms c b)) (dom_constants d) (doms-numbers c k) h
      dom-numbers (in_element is c) k h =
          second-part (doms_constants is) (dom_constants (fill_dom c a)) (dom_constants (fill_dom c b)) (dom-numbers c k) h
      dom-numbers (in_set_number ms c d) k h =
          first-part (operand_constants false (fill_exs c a)) (operand_constants false (fill_exs c b)) (dom_constants d)
          (exs-numbers c false k) h
      dom-numbers (in_set_member ms es c) k h =
          second-part (operand_constants false es) (dom_constants (fill_dom c a)) (dom_constants (fill_dom c b)) (dom-numbers c k) h
      dom-numbers (in_mset_number ms c d) k h =
          first-part (operand_constants false (fill_exs c a)) (operand_constants false (fill_exs c b)) (dom_constants d)
          (exs-numbers c false k) h
      dom-numbers (in_mset_member ms es c) k h =
          second-part (operand_constants false es) (dom_constants (fill_dom c a)) (dom_constants (fill_dom c b)) (dom-numbers c k) h
      dom-numbers (in_function_number ms c d r) k h =
          first-part (operand_constants false (fill_exs c a) ++ dom_constants d) (operand_constants false (fill_exs c b) ++ dom_constants d)
          (dom_constants r)
          (first-part (operand_constants false (fill_exs c a)) (operand_constants false (fill_exs c b)) (dom_constants d)
          (exs-numbers c false k)) h
      dom-numbers (in_argument ms es c r) k h =
          first-part (operand_constants false es ++ dom_constants (fill_dom c a)) (operand_constants false es ++ dom_constants
          (fill_dom c b))
          (dom_constants r)
          (second-part (operand_constants false es) (dom_constants (fill_dom c a)) (dom_constants (fill_dom c b)) (dom-numbers c k)) h
      dom-numbers (in_result ms es d c) k h =
          second-part (operand_constants false es ++ dom_constants d) (dom_constants (fill_dom c a)) (dom_constants (fill_dom c b))
          (dom-numbers c k) h
      dom-numbers (in_relation_number ms c ds) k h =
          first-part (operand_constants false (fill_exs c a)) (operand_constants false (fill_exs c b)) (doms_constants ds)
          (exs-numbers c false k) h
      dom-numbers (in_relation_component ms es c) k h =
          second-part (operand_constants false es) (doms_constants (fill_doms c a)) (doms_constants (fill_doms c b)) (doms-numbers c k) h
      dom-numbers (in_partition_number ms c d) k h =
          first-part (operand_constants false (fill_exs c a)) (operand_constants false (fill_exs c b)) (dom_constants d)
          (exs-numbers c false k) h
      dom-numbers (in_partition_member ms es c) k h =
          second-part (operand_constants false es) (dom_constants (fill_dom c a)) (dom_constants (fill_dom c b)) (dom-numbers c k) h

      doms-numbers : (c : InDoms) → Here (dropping_at_doms c) → All (doms_constants (fill_doms c a)) → All (doms_constants (fill_doms c b))
      doms-numbers (in_first_domain c ds) k h =
          first-part (dom_constants (fill_dom c a)) (dom_constants (fill_dom c b)) (doms_constants ds) (dom-numbers c k) h
      doms-numbers (in_later_domain d c) k h =
          second-part (dom_constants d) (doms_constants (fill_doms c a)) (doms_constants (fill_doms c b)) (doms-numbers c k) h

-- Any number of rules, each at some part.
rewritten-numbers : (g : Names Ty) (old new : Ex) → SparingRewriting g old new → SpellsNoMore false old new
rewritten-numbers g e d same_numbers q o i t h = h
rewritten-numbers g old e (sparing_at a b c k r u) q o i t h =
    rewritten-numbers g (fill c b) e u q o i t (part-numbers q a b c false (k q o i t) h)

rewritten-kept-too : (g : Names Ty) (old new : Ex) → SparingRewriting g old new → Kept g old new
rewritten-kept-too g e d same_numbers = kept-itself (Typed g) e
rewritten-kept-too g old e (sparing_at a b c k r u) =
    kept-chain (Typed g) (fill c a) (fill c b) e r (rewritten-kept-too g (fill c b) e u)

-- What stays.
pub constants-stay : WholesKeepConstants
constants-stay = record {
  at_a_part = λ c m a b k q o i t h. part-numbers q a b c m (k q o i t) h;
  by_any_rules = λ g old new u. (rewritten-kept-too g old new u, rewritten-numbers g old new u);
}
