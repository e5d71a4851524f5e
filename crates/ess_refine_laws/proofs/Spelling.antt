-- Trees that may spell numbers: parts that are replaced, lists that are laid open, and what stands for a name.
use Rattle.std.proofs.Common.{◌≡◌, refl, ap, subst, ℕ, suc, Bool, true, false, ◌&&◌, if◌then◌else◌, [], ◌∷◌, ◌++◌, ℤ}
use Rattle.ess_semantics.specs.Numbers.{one_to}
use Rattle.ess_semantics.specs.Values.{Text}
use Rattle.ess_semantics.specs.Names.{Names}
use Rattle.ess_semantics.specs.Order.{same_text}
use Rattle.ess_semantics.specs.Trees.{Op, unary, binary, word, index, application, tuple_literal, set_literal, mset_literal, function_literal, relation_literal, partition_literal, matrix_literal, record_literal, Ex, Exs, number_ex, truth_ex, name_ex, node_ex, matrix_ex, comp_ex, cell_ex, seen_ex, no_exs, more_exs, Gens, no_gens, over, from, cond, Dom, Doms, bool_dom, int_dom, name_dom, tuple_dom, record_dom, matrix_dom, set_dom, mset_dom, function_dom, relation_dom, partition_dom, no_doms, more_doms}
use Rattle.ess_semantics.specs.Types.{Ty}
use Rattle.ess_semantics.specs.Typed.{Typed}
use Rattle.ess_semantics.specs.Substitution.{substitute, substitute_exs, substitute_gens, substitute_dom, substitute_doms, for_name}
use Rattle.ess_semantics.specs.Constants.{operand_count, counted_op, drops_items, tree_constants, operand_constants, gens_constants, dom_constants, doms_constants}
use Rattle.ess_semantics.specs.Contexts.{In, Ins, InGens, InDom, InDoms, hole, in_operand, in_item, in_index_domain, in_body, in_generators, in_cell_index, in_view_domain, in_view_index, in_first, in_later, in_generator_domain, behind_over, in_source, behind_from, in_condition, behind_condition, in_bound, in_component, in_field, in_index, in_element, in_set_number, in_set_member, in_mset_number, in_mset_member, in_function_number, in_argument, in_result, in_relation_number, in_relation_component, in_partition_number, in_partition_member, in_first_domain, in_later_domain, fill, fill_exs, fill_gens, fill_dom, fill_doms}
use Rattle.ess_semantics.specs.Kept.{Kept}
use Rattle.ess_rules_laws.specs.SpliceRules.{append_gens}
use Rattle.ess_rules_laws.proofs.Kept.{kept-itself, kept-chain}
use Rattle.ess_refine_laws.specs.ConstantsStay.{dropping_at, dropping_at_exs, dropping_at_gens, dropping_at_dom, dropping_at_doms}
use Rattle.ess_refine_laws.specs.Spelling.{counts_at, Spells, SpellsEach, SpellsGens, SpellsDom, SpellsDoms, is_list_literal, SparesNumbers, SpelledRewriting, as_spelled, spelled_at}
use Rattle.ess_refine_laws.proofs.ConstantsStay.{All, all-both}

module _ (q : ℤ → Bool) where
  -- ---- where items may be dropped

  -- Where items may be dropped no more is counted than elsewhere.
  counts-inside : (b : Bool) (op : Op) (n : ℕ) → All q (counts_at op false b n) → All q (counts_at op true b n)
  counts-inside b tuple_literal n h = h
  counts-inside b (record_literal fs) n h = h
  counts-inside false matrix_literal n h = refl
  counts-inside true matrix_literal n h = h
  counts-inside b (unary o) n h = h
  counts-inside b (binary o) n h = h
  counts-inside b (word f) n h = h
  counts-inside b (index qs) n h = h
  counts-inside b application n h = h
  counts-inside b set_literal n h = h
  counts-inside b mset_literal n h = h
  counts-inside b function_literal n h = h
  counts-inside b relation_literal n h = h
  counts-inside b partition_literal n h = h

  pub inside : (m : Bool) (e : Ex) → Spells q false e → Spells q m e
  inside false e h = h
  inside true (number_ex n) h = h
  inside true (truth_ex b) h = h
  inside true (name_ex a) h = h
  inside true (node_ex b op es) h = (counts-inside b op (operand_count es) h.0, h.1)
  inside true (matrix_ex es d) h = h
  inside true (comp_ex e gs) h = h
  inside true (cell_ex b n es) h = h
  inside true (seen_ex r d ns es) h = h

  -- What is no list literal is counted everywhere.
  counts-outside : (b : Bool) (op : Op) (es : Exs) → is_list_literal (node_ex b op es) ≡ false →
      All q (counts_at op true b (operand_count es)) →
      All q (counts_at op false b (operand_count es))
  counts-outside b tuple_literal es k h = h
  counts-outside b (record_literal fs) es k h = h
  counts-outside false matrix_literal es k h = cc
  counts-outside true matrix_literal es k h = h
  counts-outside b (unary o) es k h = h
  counts-outside b (binary o) es k h = h
  counts-outside b (word f) es k h = h
  counts-outside b (index qs) es k h = h
  counts-outside b application es k h = h
  counts-outside b set_literal es k h = h
  counts-outside b mset_literal es k h = h
  counts-outside b function_literal es k h = h
  counts-outside b relation_literal es k h = h
  counts-outside b partition_literal es k h = h

  pub outside : (e : Ex) → is_list_literal e ≡ false → Spells q true e → Spells q false e
  outside (number_ex n) k h = h
  outside (truth_ex b) k h = h
  outside (name_ex a) k h = h
  outside (node_ex b op es) k h = (counts-outside b op es k h.0, h.1)
  outside (matrix_ex es d) k h = h
  outside (comp_ex e gs) k h = h
  outside (cell_ex b n es) k h = h
  outside (seen_ex r d ns es) k h = h

  -- ---- a part that is replaced

  module _ (a b : Ex) where
    -- There are as many operands.
    same-count : (c : Ins) → operand_count (fill_exs c a) ≡ operand_count (fill_exs c b)
    same-count (in_first c es) = refl
    same-count (in_later x c) = ap suc (same-count c)

    -- What is asked at the part.
    abbrev Here : Bool → Type 0
    Here m = Spells q m a → Spells q m b

    mutual
      pub part-spells : (c : In) (m : Bool) → Here (dropping_at c m) → Spells q m (fill c a) → Spells q m (fill c b)
      part-spells hole m k h = k h
      part-spells (in_operand t op c) m k h =
          (subst (λ n. All q (counts_at op m t n)) (same-count c) h.0, exs-spell c (drops_items op) k h.1)
      part-spells (in_item c d) m k h = (subst (λ n. All q (one_to n)) (same-count c) h.0, exs-spell c false k h.1, h.2)
      part-spells (in_index_domain es c) m k h = (h.0, h.1, dom-spells c k h.2)
      part-spells (in_body c gs) m k h = (part-spells c false k h.0, h.1)
      part-spells (in_generators x c) m k h = (h.0, gens-spell c k h.1)
      part-spells (in_cell_index t n c) m k h = exs-spell c false k h
      part-spells (in_view_domain r c ns es) m k h = (dom-spells c k h.0, h.1)
      part-spells (in_view_index r d ns c) m k h = (h.0, exs-spell c false k h.1)

      exs-spell : (c : Ins) (m : Bool) → Here (dropping_at_exs c m) → SpellsEach q m (fill_exs c a) → SpellsEach q m (fill_exs c b)
      exs-spell (in_first c es) m k h = (part-spells c m k h.0, h.1)
      exs-spell (in_later x c) m k h = (h.0, exs-spell c m k h.1)

      gens-spell : (c : InGens) → Here (dropping_at_gens c) → SpellsGens q (fill_gens c a) → SpellsGens q (fill_gens c b)
      gens-spell (in_generator_domain p c gs) k h = (dom-spells c k h.0, h.1)
      gens-spell (behind_over p d c) k h = (h.0, gens-spell c k h.1)
      gens-spell (in_source p c gs) k h = (part-spells c false k h.0, h.1)
      gens-spell (behind_from p x c) k h = (h.0, gens-spell c k h.1)
      gens-spell (in_condition c gs) k h = (part-spells c false k h.0, h.1)
      gens-spell (behind_condition x c) k h = (h.0, gens-spell c k h.1)

      dom-spells : (c : InDom) → Here (dropping_at_dom c) → SpellsDom q (fill_dom c a) → SpellsDom q (fill_dom c b)
      dom-spells (in_bound rs c) k h = exs-spell c false k h
      dom-spells (in_component c) k h = doms-spell c k h
      dom-spells (in_field fs c) k h = doms-spell c k h
      dom-spells (in_index c d) k h = (doms-spell c k h.0, h.1)
      dom-spells (in_element is c) k h = (h.0, dom-spells c k h.1)
      dom-spells (in_set_number ms c d) k h = (exs-spell c false k h.0, h.1)
      dom-spells (in_set_member ms es c) k h = (h.0, dom-spells c k h.1)
      dom-spells (in_mset_number ms c d) k h = (exs-spell c false k h.0, h.1)
      dom-spells (in_mset_member ms es c) k h = (h.0, dom-spells c k h.1)
      dom-spells (in_function_number ms c d r) k h = (exs-spell c false k h.0, h.1, h.2)
      dom-spells (in_argument ms es c r) k h = (h.0, dom-spells c k h.1, h.2)
      dom-spells (in_result ms es d c) k h = (h.0, h.1, dom-spells c k h.2)
      dom-spells (in_relation_number ms c ds) k h = (exs-spell c false k h.0, h.1)
      dom-spells (in_relation_component ms es c) k h = (h.0, doms-spell c k h.1)
      dom-spells (in_partition_number ms c d) k h = (exs-spell c false k h.0, h.1)
      dom-spells (in_partition_member ms es c) k h = (h.0, dom-spells c k h.1)

      doms-spell : (c : InDoms) → Here (dropping_at_doms c) → SpellsDoms q (fill_doms c a) → SpellsDoms q (fill_doms c b)
      doms-spell (in_first_domain c ds) k h = (dom-spells c k h.0, h.1)
      doms-spell (in_later_domain d c) k h = (h.0, doms-spell c k h.1)

  -- Any number of rules.
  pub rewritten-spells : (g : Names Ty) (old new : Ex) → SpelledRewriting q g old new → SparesNumbers q false old new
  rewritten-spells g e d as_spelled o i h = h
  rewritten-spells g old e (spelled_at a b c k r u) o i h = rewritten-spells g (fill c b) e u o i (part-spells a b c false (k o i) h)

  pub rewritten-kept-so : (g : Names Ty) (old new : Ex) → SpelledRewriting q g old new → Kept g old new
  rewritten-kept-so g e d as_spelled = kept-itself (Typed g) e
  rewritten-kept-so g old e (spelled_at a b c k r u) = kept-chain (Typed g) (fill c a) (fill c b) e r (rewritten-kept-so g (fill c b) e u)

  -- ---- what stands for a name

  module _ (f : Text → Ex) (each : (a : Text) → Spells q false (f a)) where
    put-count : (es : Exs) → operand_count es ≡ operand_count (substitute_exs f es)
    put-count no_exs = refl
    put-count (more_exs e es) = ap suc (put-count es)

    mutual
      pub put-spells : (e : Ex) (m : Bool) → Spells q m e → Spells q m (substitute f e)
      put-spells (number_ex n) m h = h
      put-spells (truth_ex b) m h = tt
      put-spells (name_ex a) m h = inside m (f a) (each a)
      put-spells (node_ex b op es) m h =
          (subst (λ n. All q (counts_at op m b n)) (put-count es) h.0, put-exs es (drops_items op) h.1)
      put-spells (matrix_ex es d) m h = (subst (λ n. All q (one_to n)) (put-count es) h.0, put-exs es false h.1, put-dom d h.2)
      put-spells (comp_ex e gs) m h = (put-spells e false h.0, put-gens gs h.1)
      put-spells (cell_ex b n es) m h = put-exs es false h
      put-spells (seen_ex r d ns es) m h = (put-dom d h.0, put-exs es false h.1)

      pub put-exs : (es : Exs) (m : Bool) → SpellsEach q m es → SpellsEach q m (substitute_exs f es)
      put-exs no_exs m h = tt
      put-exs (more_exs e es) m h = (put-spells e m h.0, put-exs es m h.1)

      pub put-gens : (gs : Gens) → SpellsGens q gs → SpellsGens q (substitute_gens f gs)
      put-gens no_gens h = tt
      put-gens (over p d gs) h = (put-dom d h.0, put-gens gs h.1)
      put-gens (from p e gs) h = (put-spells e false h.0, put-gens gs h.1)
      put-gens (cond e gs) h = (put-spells e false h.0, put-gens gs h.1)

      put-dom : (d : Dom) → SpellsDom q d → SpellsDom q (substitute_dom f d)
      put-dom bool_dom h = tt
      put-dom (int_dom rs es) h = put-exs es false h
      put-dom (name_dom a) h = tt
      put-dom (tuple_dom ds) h = put-doms ds h
      put-dom (record_dom fs ds) h = put-doms ds h
      put-dom (matrix_dom is d) h = (put-doms is h.0, put-dom d h.1)
      put-dom (set_dom ms es d) h = (put-exs es false h.0, put-dom d h.1)
      put-dom (mset_dom ms es d) h = (put-exs es false h.0, put-dom d h.1)
      put-dom (function_dom ms es d c) h = (put-exs es false h.0, put-dom d h.1, put-dom c h.2)
      put-dom (relation_dom ms es ds) h = (put-exs es false h.0, put-doms ds h.1)
      put-dom (partition_dom ms es d) h = (put-exs es false h.0, put-dom d h.1)

      put-doms : (ds : Doms) → SpellsDoms q ds → SpellsDoms q (substitute_doms f ds)
      put-doms no_doms h = tt
      put-doms (more_doms d ds) h = (put-dom d h.0, put-doms ds h.1)

  pub for-name : (x : Text) (w : Ex) → Spells q false w → (a : Text) → Spells q false (for_name x w a)
  for-name x w h a = go (same_text x a)
    where
      go : (b : Bool) → Spells q false (if b then w else name_ex a)
      go true = h
      go false = tt

  -- Generators one behind the other.
  pub append-spells : (gs hs : Gens) → SpellsGens q gs → SpellsGens q hs → SpellsGens q (append_gens gs hs)
  append-spells no_gens hs h k = k
  append-spells (over p d gs) hs h k = (h.0, append-spells gs hs h.1 k)
  append-spells (from p e gs) hs h k = (h.0, append-spells gs hs h.1 k)
  append-spells (cond e gs) hs h k = (h.0, append-spells gs hs h.1 k)

  -- ---- the numbers of a tree

  none : (m : Bool) → All q (if m then [] else [])
  none true = refl
  none false = refl

  counted-fewer : (m b : Bool) (op : Op) (n : ℕ) → All q (counts_at op m b n) → All q (counted_op m op n)
  counted-fewer m b tuple_literal n h = refl
  counted-fewer m b (record_literal fs) n h = refl
  counted-fewer true b matrix_literal n h = refl
  counted-fewer false b matrix_literal n h = h
  counted-fewer m b (unary o) n h = none m
  counted-fewer m b (binary o) n h = none m
  counted-fewer m b (word f) n h = none m
  counted-fewer m b (index qs) n h = none m
  counted-fewer m b application n h = none m
  counted-fewer true b set_literal n h = refl
  counted-fewer false b set_literal n h = h
  counted-fewer true b mset_literal n h = refl
  counted-fewer false b mset_literal n h = h
  counted-fewer true b function_literal n h = refl
  counted-fewer false b function_literal n h = h
  counted-fewer true b relation_literal n h = refl
  counted-fewer false b relation_literal n h = h
  counted-fewer true b partition_literal n h = refl
  counted-fewer false b partition_literal n h = h

  mutual
    pub constants-of : (m : Bool) (e : Ex) → Spells q m e → All q (tree_constants m e)
    constants-of m (number_ex n) h = all-both q (n ∷ []) [] (ap (λ b. b && true) h) refl
    constants-of m (truth_ex b) h = refl
    constants-of m (name_ex a) h = refl
    constants-of m (node_ex b op es) h =
        all-both q (counted_op m op (operand_count es)) (operand_constants (drops_items op) es)
        (counted-fewer m b op (operand_count es) h.0) (constants-each (drops_items op) es h.1)
    constants-of m (matrix_ex es d) h =
        all-both q (one_to (operand_count es) ++ operand_constants false es) (dom_constants d)
        (all-both q (one_to (operand_count es)) (operand_constants false es) h.0 (constants-each false es h.1)) (constants-dom d h.2)
    constants-of m (comp_ex e gs) h = all-both q (tree_constants false e) (gens_constants gs) (constants-of false e h.0)
        (constants-gens gs h.1)
    constants-of m (cell_ex b n es) h = constants-each false es h
    constants-of m (seen_ex r d ns es) h =
        all-both q (dom_constants d) (operand_constants false es) (constants-dom d h.0) (constants-each false es h.1)

    constants-each : (m : Bool) (es : Exs) → SpellsEach q m es → All q (operand_constants m es)
    constants-each m no_exs h = refl
    constants-each m (more_exs e es) h =
        all-both q (tree_constants m e) (operand_constants m es) (constants-of m e h.0) (constants-each m es h.1)

    constants-gens : (gs : Gens) → SpellsGens q gs → All q (gens_constants gs)
    constants-gens no_gens h = refl
    constants-gens (over p d gs) h = all-both q (dom_constants d) (gens_constants gs) (constants-dom d h.0) (constants-gens gs h.1)
    constants-gens (from p e gs) h = all-both q (tree_constants false e) (gens_constants gs) (constants-of false e h.0)
        (constants-gens gs h.1)
    constants-gens (cond e gs) h = all-both q (tree_constants false e) (gens_constants gs) (constants-of false e h.0)
        (constants-gens gs h.1)

    constants-dom : (d : Dom) → SpellsDom q d → All q (dom_constants d)
    constants-dom bool_dom h = refl
    constants-dom (int_dom rs es) h = constants-each false es h
    constants-dom (name_dom a) h = refl
    constants-dom (tuple_dom ds) h = constants-doms ds h
    constants-dom (record_dom fs ds) h = constants-doms ds h
    constants-dom (matrix_dom is d) h = all-both q (doms_constants is) (dom_constants d) (constants-doms is h.0) (constants-dom d h.1)
    constants-dom (set_dom ms es d) h =
        all-both q (operand_constants false es) (dom_constants d) (constants-each false es h.0) (constants-dom d h.1)
    constants-dom (mset_dom ms es d) h =
        all-both q (operand_constants false es) (dom_constants d) (constants-each false es h.0) (constants-dom d h.1)
    constants-dom (function_dom ms es d c) h =
        all-both q (operand_constants false es ++ dom_constants d) (dom_constants c)
        (all-both q (operand_constants false es) (dom_constants d) (constants-each false es h.0) (constants-dom d h.1))
        (constants-dom c h.2)
    constants-dom (relation_dom ms es ds) h =
        all-both q (operand_constants false es) (doms_constants ds) (constants-each false es h.0) (constants-doms ds h.1)
    constants-dom (partition_dom ms es d) h =
        all-both q (operand_constants false es) (dom_constants d) (constants-each false es h.0) (constants-dom d h.1)

    constants-doms : (ds : Doms) → SpellsDoms q ds → All q (doms_constants ds)
    constants-doms no_doms h = refl
    constants-doms (more_doms d ds) h = all-both q (dom_constants d) (doms_constants ds) (constants-dom d h.0) (constants-doms ds h.1)
