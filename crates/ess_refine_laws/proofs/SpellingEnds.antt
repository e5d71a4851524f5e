-- A tree may spell its constants, and spells what it may.
use Rattle.std.proofs.Common.{◌≡◌, refl, ℕ, Bool, true, false, ◌&&◌, List, [], ◌∷◌, ◌++◌, map, ℤ}
use Rattle.std.specs.List.{list_all}
use Rattle.ess_semantics.specs.Lists.{append_all}
use Rattle.ess_semantics.specs.Numbers.{one_to}
use Rattle.ess_semantics.specs.Trees.{Op, unary, binary, word, index, application, tuple_literal, set_literal, mset_literal, function_literal, relation_literal, partition_literal, matrix_literal, record_literal, Ex, Exs, number_ex, truth_ex, name_ex, node_ex, matrix_ex, comp_ex, cell_ex, seen_ex, no_exs, more_exs, Gens, no_gens, over, from, cond, Dom, Doms, bool_dom, int_dom, name_dom, tuple_dom, record_dom, matrix_dom, set_dom, mset_dom, function_dom, relation_dom, partition_dom, no_doms, more_doms}
use Rattle.ess_semantics.specs.Occurrences.{parts_of, parts_of_all, parts_of_gens, parts_of_dom, parts_of_doms}
use Rattle.ess_semantics.specs.Constants.{operand_count, drops_items, counts_of_op, constants_of_part, numbers_of_part}
use Rattle.ess_semantics.proofs.Tests.{and-left, and-both}
use Rattle.ess_refine_laws.specs.Spelling.{counts_at, Spells, SpellsEach, SpellsGens, SpellsDom, SpellsDoms}
use Rattle.ess_refine_laws.specs.SpellingEnds.{SpellingBeginsAndEnds}
use Rattle.ess_refine_laws.proofs.ConstantsStay.{All, all-left, all-right, all-both}
use Rattle.ess_refine_laws.proofs.Spelling.{rewritten-spells}

module _ (q : ℤ → Bool) where
  -- ---- what all parts have

  module _ (f : Ex → List ℤ) where
    -- q has what f finds in these parts.
    abbrev Of : List Ex → Type 0
    Of ps = All q (append_all (map f ps))

    of-left : (ps rs : List Ex) → Of (ps ++ rs) → Of ps
    of-left [] rs h = refl
    of-left (p ∷ ps) rs h = all-both q (f p) (append_all (map f ps)) (all-left q (f p) (append_all (map f (ps ++ rs))) h)
        (of-left ps rs (all-right q (f p) (append_all (map f (ps ++ rs))) h))

    of-right : (ps rs : List Ex) → Of (ps ++ rs) → Of rs
    of-right [] rs h = h
    of-right (p ∷ ps) rs h = of-right ps rs (all-right q (f p) (append_all (map f (ps ++ rs))) h)

    of-both : (ps rs : List Ex) → Of ps → Of rs → Of (ps ++ rs)
    of-both [] rs h k = k
    of-both (p ∷ ps) rs h k = all-both q (f p) (append_all (map f (ps ++ rs))) (all-left q (f p) (append_all (map f ps)) h)
        (of-both ps rs (all-right q (f p) (append_all (map f ps)) h) k)

  -- ---- the beginning

  abbrev Begins : List Ex → Type 0
  Begins ps = Of constants_of_part ps

  left : (ps rs : List Ex) → Begins (ps ++ rs) → Begins ps
  left ps rs h = of-left constants_of_part ps rs h

  right : (ps rs : List Ex) → Begins (ps ++ rs) → Begins rs
  right ps rs h = of-right constants_of_part ps rs h

  -- No more is counted than in a specification.
  counts-less : (op : Op) (m b : Bool) (n : ℕ) → All q (counts_of_op op n) → All q (counts_at op m b n)
  counts-less tuple_literal m b n h = refl
  counts-less (record_literal fs) m b n h = refl
  counts-less matrix_literal true false n h = refl
  counts-less matrix_literal true true n h = h
  counts-less matrix_literal false b n h = h
  counts-less (unary o) m b n h = h
  counts-less (binary o) m b n h = h
  counts-less (word f) m b n h = h
  counts-less (index qs) m b n h = h
  counts-less application m b n h = h
  counts-less set_literal m b n h = h
  counts-less mset_literal m b n h = h
  counts-less function_literal m b n h = h
  counts-less relation_literal m b n h = h
  counts-less partition_literal m b n h = h

  mutual
    begin : (m : Bool) (e : Ex) → Begins (parts_of e) → Spells q m e
    begin m (number_ex n) h = and-left (q n) true h
    begin m (truth_ex b) h = tt
    begin m (name_ex a) h = tt
    begin m (node_ex b op es) h = (
      counts-less op m b (operand_count es)
          (all-left q (counts_of_op op (operand_count es)) (append_all (map constants_of_part (parts_of_all es))) h),
      begin-all (drops_items op) es
          (all-right q (counts_of_op op (operand_count es)) (append_all (map constants_of_part (parts_of_all es))) h),
    )
    begin m (matrix_ex es d) h =
        let k = all-right q (one_to (operand_count es)) (append_all (map constants_of_part (parts_of_all es ++ parts_of_dom d))) h in (
          all-left q (one_to (operand_count es)) (append_all (map constants_of_part (parts_of_all es ++ parts_of_dom d))) h,
          begin-all false es (left (parts_of_all es) (parts_of_dom d) k),
          begin-dom d (right (parts_of_all es) (parts_of_dom d) k),
        )
    begin m (comp_ex e gs) h = (begin false e (left (parts_of e) (parts_of_gens gs) h), begin-gens gs (right (parts_of e) (parts_of_gens gs) h))
    begin m (cell_ex b n es) h = begin-all false es h
    begin m (seen_ex r d ns es) h =
        (begin-dom d (left (parts_of_dom d) (parts_of_all es) h), begin-all false es (right (parts_of_dom d) (parts_of_all es) h))

    begin-all : (m : Bool) (es : Exs) → Begins (parts_of_all es) → SpellsEach q m es
    begin-all m no_exs h = tt
    begin-all m (more_exs e es) h =
        (begin m e (left (parts_of e) (parts_of_all es) h), begin-all m es (right (parts_of e) (parts_of_all es) h))

    begin-gens : (gs : Gens) → Begins (parts_of_gens gs) → SpellsGens q gs
    begin-gens no_gens h = tt
    begin-gens (over p d gs) h =
        (begin-dom d (left (parts_of_dom d) (parts_of_gens gs) h), begin-gens gs (right (parts_of_dom d) (parts_of_gens gs) h))
    begin-gens (from p e gs) h =
        (begin false e (left (parts_of e) (parts_of_gens gs) h), begin-gens gs (right (parts_of e) (parts_of_gens gs) h))
    begin-gens (cond e gs) h =
        (begin false e (left (parts_of e) (parts_of_gens gs) h), begin-gens gs (right (parts_of e) (parts_of_gens gs) h))

    begin-dom : (d : Dom) → Begins (parts_of_dom d) → SpellsDom q d
    begin-dom bool_dom h = tt
    begin-dom (int_dom rs es) h = begin-all false es h
    begin-dom (name_dom a) h = tt
    begin-dom (tuple_dom ds) h = begin-doms ds h
    begin-dom (record_dom fs ds) h = begin-doms ds h
    begin-dom (matrix_dom is d) h =
        (begin-doms is (left (parts_of_doms is) (parts_of_dom d) h), begin-dom d (right (parts_of_doms is) (parts_of_dom d) h))
    begin-dom (set_dom ms es d) h =
        (begin-all false es (left (parts_of_all es) (parts_of_dom d) h), begin-dom d (right (parts_of_all es) (parts_of_dom d) h))
    begin-dom (mset_dom ms es d) h =
        (begin-all false es (left (parts_of_all es) (parts_of_dom d) h), begin-dom d (right (parts_of_all es) (parts_of_dom d) h))
    begin-dom (function_dom ms es d c) h =
        let k = left (parts_of_all es ++ parts_of_dom d) (parts_of_dom c) h in (
          begin-all false es (left (parts_of_all es) (parts_of_dom d) k),
          begin-dom d (right (parts_of_all es) (parts_of_dom d) k),
          begin-dom c (right (parts_of_all es ++ parts_of_dom d) (parts_of_dom c) h),
        )
    begin-dom (relation_dom ms es ds) h =
        (begin-all false es (left (parts_of_all es) (parts_of_doms ds) h), begin-doms ds (right (parts_of_all es) (parts_of_doms ds) h))
    begin-dom (partition_dom ms es d) h =
        (begin-all false es (left (parts_of_all es) (parts_of_dom d) h), begin-dom d (right (parts_of_all es) (parts_of_dom d) h))

    begin-doms : (ds : Doms) → Begins (parts_of_doms ds) → SpellsDoms q ds
    begin-doms no_doms h = tt
    begin-doms (more_doms d ds) h =
        (begin-dom d (left (parts_of_dom d) (parts_of_doms ds) h), begin-doms ds (right (parts_of_dom d) (parts_of_doms ds) h))

  -- ---- the end

  abbrev Ends : List Ex → Type 0
  Ends ps = Of numbers_of_part ps

  both : (ps rs : List Ex) → Ends ps → Ends rs → Ends (ps ++ rs)
  both ps rs h k = of-both numbers_of_part ps rs h k

  mutual
    end : (m : Bool) (e : Ex) → Spells q m e → Ends (parts_of e)
    end m (number_ex n) h = and-both (q n) true h refl
    end m (truth_ex b) h = refl
    end m (name_ex a) h = refl
    end m (node_ex b op es) h = end-all (drops_items op) es h.1
    end m (matrix_ex es d) h = both (parts_of_all es) (parts_of_dom d) (end-all false es h.1) (end-dom d h.2)
    end m (comp_ex e gs) h = both (parts_of e) (parts_of_gens gs) (end false e h.0) (end-gens gs h.1)
    end m (cell_ex b n es) h = end-all false es h
    end m (seen_ex r d ns es) h = both (parts_of_dom d) (parts_of_all es) (end-dom d h.0) (end-all false es h.1)

    end-all : (m : Bool) (es : Exs) → SpellsEach q m es → Ends (parts_of_all es)
    end-all m no_exs h = refl
    end-all m (more_exs e es) h = both (parts_of e) (parts_of_all es) (end m e h.0) (end-all m es h.1)

    end-gens : (gs : Gens) → SpellsGens q gs → Ends (parts_of_gens gs)
    end-gens no_gens h = refl
    end-gens (over p d gs) h = both (parts_of_dom d) (parts_of_gens gs) (end-dom d h.0) (end-gens gs h.1)
    end-gens (from p e gs) h = both (parts_of e) (parts_of_gens gs) (end false e h.0) (end-gens gs h.1)
    end-gens (cond e gs) h = both (parts_of e) (parts_of_gens gs) (end false e h.0) (end-gens gs h.1)

    end-dom : (d : Dom) → SpellsDom q d → Ends (parts_of_dom d)
    end-dom bool_dom h = refl
    end-dom (int_dom rs es) h = end-all false es h
    end-dom (name_dom a) h = refl
    end-dom (tuple_dom ds) h = end-doms ds h
    end-dom (record_dom fs ds) h = end-doms ds h
    end-dom (matrix_dom is d) h = both (parts_of_doms is) (parts_of_dom d) (end-doms is h.0) (end-dom d h.1)
    end-dom (set_dom ms es d) h = both (parts_of_all es) (parts_of_dom d) (end-all false es h.0) (end-dom d h.1)
    end-dom (mset_dom ms es d) h = both (parts_of_all es) (parts_of_dom d) (end-all false es h.0) (end-dom d h.1)
    end-dom (function_dom ms es d c) h = both (parts_of_all es ++ parts_of_dom d) (parts_of_dom c)
        (both (parts_of_all es) (parts_of_dom d) (end-all false es h.0) (end-dom d h.1)) (end-dom c h.2)
    end-dom (relation_dom ms es ds) h = both (parts_of_all es) (parts_of_doms ds) (end-all false es h.0) (end-doms ds h.1)
    end-dom (partition_dom ms es d) h = both (parts_of_all es) (parts_of_dom d) (end-all false es h.0) (end-dom d h.1)

    end-doms : (ds : Doms) → SpellsDoms q ds → Ends (parts_of_doms ds)
    end-doms no_doms h = refl
    end-doms (more_doms d ds) h = both (parts_of_dom d) (parts_of_doms ds) (end-dom d h.0) (end-doms ds h.1)

-- From the constants of the first tree to the numbers of the last one.
pub spelling-ends : SpellingBeginsAndEnds
spelling-ends = record {
  begins = λ q m e h. begin q m e h;
  ends = λ q m e h. end q m e h;
  from_end_to_end = λ q g old new o i h u. end q false new (rewritten-spells q g old new u o i (begin q false old h));
}
