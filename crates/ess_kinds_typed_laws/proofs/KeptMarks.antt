-- Domains of children have marks: those of sets of tuples, of relations of pairs and of sets of parts.
use Rattle.std.proofs.Common.{Bool, true, false, List, [], ◌∷◌, ◌||◌, if◌then◌else◌}
use Rattle.ess_semantics.specs.declared.words.Key.{Key}
use Rattle.ess_semantics.specs.declared.words.ReprKind.{ReprKind}
use Rattle.ess_semantics.specs.Domains.{same_key}
use Rattle.ess_semantics.specs.Kinds.{has_key}
use Rattle.ess_semantics.specs.Names.{Names}
use Rattle.ess_semantics.specs.Trees.{Ex, Exs, Dom, Mark, repr, no_reprs, more_reprs, Doms, valued, no_exs, more_exs, function_dom, relation_dom, partition_dom, flag, seen_ex}
use Rattle.ess_semantics.specs.Types.{Ty}
use Rattle.ess_kind_types_laws.proofs.SizesTyped.{slots-marked}
use Rattle.ess_kind_types_laws.specs.SetsTyped.{IntsIn}
use Rattle.ess_refine_laws.specs.AllRules.{OfSome}
use Rattle.ess_refine_laws.specs.MarksStay.{HasMarks, HaveMarks, DomHasMarks, DomsHaveMarks}
use Rattle.ess_repr_declare_laws.specs.SizeTerms.{size_terms, bound_ex}
use Rattle.ess_repr_laws.specs.StructureParts.{tuple_set_dom, number_of_key}
use Rattle.ess_repr_laws.specs.ViewParts.{pair_relation_dom, part_set_dom, number_as, part_dom}
use Rattle.ess_views_laws.specs.ChildViews.{kept_as}
use Rattle.ess_kinds_typed_laws.specs.KindsTyped.{KeptTyped}

module _ (g : Names Ty) where
  -- The numbers of attributes.
  abbrev NumbersMarked : List Mark × Exs → Type 0
  NumbersMarked p = HaveMarks p.1 g

  chosen-marks : (c : Bool) (p q : List Mark × Exs) → NumbersMarked p → NumbersMarked q → NumbersMarked (if c then p else q)
  chosen-marks true p q h k = h
  chosen-marks false p q h k = k

  key-marks : (k : Key) (ms : List Mark) (es : Exs) (ns : List Mark) (os : Exs) → HaveMarks es g → HaveMarks os g →
      NumbersMarked (number_of_key k ms es ns os)
  key-marks k [] es ns os h l = l
  key-marks k (flag j ∷ ms) es ns os h l = key-marks k ms es ns os h l
  key-marks k (valued j ∷ ms) no_exs ns os h l = l
  key-marks k (valued j ∷ ms) (more_exs e es) ns os h l =
      chosen-marks (same_key j k) (valued k ∷ ns, more_exs e os) (number_of_key k ms es ns os) (h.0, l) (key-marks k ms es ns os h.1 l)

  named-marks : (k i : Key) (ms : List Mark) (es : Exs) (ns : List Mark) (os : Exs) → HaveMarks es g → HaveMarks os g →
      NumbersMarked (number_as k i ms es ns os)
  named-marks k i [] es ns os h l = l
  named-marks k i (flag j ∷ ms) es ns os h l = named-marks k i ms es ns os h l
  named-marks k i (valued j ∷ ms) no_exs ns os h l = l
  named-marks k i (valued j ∷ ms) (more_exs e es) ns os h l =
      chosen-marks (same_key j k) (valued i ∷ ns, more_exs e os) (number_as k i ms es ns os) (h.0, l) (named-marks k i ms es ns os h.1 l)

  -- The set of a relation's tuples.
  pub tuple-set-marks : (ms : List Mark) (es : Exs) (ds : Doms) → HaveMarks es g → DomsHaveMarks ds g →
      DomHasMarks (tuple_set_dom ms es ds) g
  tuple-set-marks ms es ds h k =
      let a : List Mark × Exs = number_of_key Key.MaxSize ms es [] no_exs in
      let b : List Mark × Exs = number_of_key Key.MinSize ms es a.0 a.1 in
      let i : HaveMarks a.1 g = key-marks Key.MaxSize ms es [] no_exs h tt in
      let j : HaveMarks b.1 g = key-marks Key.MinSize ms es a.0 a.1 h i in
      (key-marks Key.Size ms es b.0 b.1 h j, k)

  -- The count of a domain's members.
  pub count-marks : (d : Dom) → IntsIn g d → DomHasMarks d g → HasMarks (bound_ex d) g
  count-marks d i h = slots-marked g [] no_exs d (tt, i) (tt, h)

  -- The relation of a function's pairs.
  pub pair-relation-marks : (ms : List Mark) (es : Exs) (d c : Dom) → IntsIn g d → HaveMarks es g → DomHasMarks d g → DomHasMarks c g →
      DomHasMarks (pair_relation_dom size_terms ms es d c) g
  pair-relation-marks ms es d c i h k l =
      let n : HasMarks (bound_ex d) g = count-marks d i k in
      let a : List Mark × Exs = if has_key Key.MaxSize ms || (has_key Key.Total ms || has_key Key.Size ms)
      then number_of_key Key.MaxSize ms es [] no_exs else (valued Key.MaxSize ∷ [], more_exs (bound_ex d) no_exs) in
      let b : List Mark × Exs = number_of_key Key.MinSize ms es a.0 a.1 in
      let p : HaveMarks a.1 g = chosen-marks (has_key Key.MaxSize ms || (has_key Key.Total ms || has_key Key.Size ms))
      (number_of_key Key.MaxSize ms es [] no_exs) (valued Key.MaxSize ∷ [], more_exs (bound_ex d) no_exs)
      (key-marks Key.MaxSize ms es [] no_exs h tt) (n, tt) in
      let q : HaveMarks b.1 g = key-marks Key.MinSize ms es a.0 a.1 h p in (
        chosen-marks (has_key Key.Total ms) (valued Key.Size ∷ b.0, more_exs (bound_ex d) b.1) (number_of_key Key.Size ms es b.0 b.1) (n, q)
            (key-marks Key.Size ms es b.0 b.1 h q),
        (k, (l, tt)),
      )

  -- A part of a partition.
  part-marks : (ms : List Mark) (es : Exs) (d : Dom) → HaveMarks es g → DomHasMarks d g → DomHasMarks (part_dom ms es d) g
  part-marks ms es d h k =
      let a : List Mark × Exs = number_as Key.MaxPartSize Key.MaxSize ms es [] no_exs in
      let b : List Mark × Exs = number_as Key.MinPartSize Key.MinSize ms es a.0 a.1 in
      let p : HaveMarks a.1 g = named-marks Key.MaxPartSize Key.MaxSize ms es [] no_exs h tt in
      let q : HaveMarks b.1 g = named-marks Key.MinPartSize Key.MinSize ms es a.0 a.1 h p in
      (named-marks Key.PartSize Key.Size ms es b.0 b.1 h q, k)

  -- The set of its parts.
  pub part-set-marks : (ms : List Mark) (es : Exs) (d : Dom) → IntsIn g d → HaveMarks es g → DomHasMarks d g →
      DomHasMarks (part_set_dom size_terms ms es d) g
  part-set-marks ms es d i h k =
      let n : HasMarks (bound_ex d) g = count-marks d i k in
      let a : List Mark × Exs = if has_key Key.MaxNumParts ms || has_key Key.NumParts ms
      then number_as Key.MaxNumParts Key.MaxSize ms es [] no_exs else (valued Key.MaxSize ∷ [], more_exs (bound_ex d) no_exs) in
      let b : List Mark × Exs = number_as Key.MinNumParts Key.MinSize ms es a.0 a.1 in
      let p : HaveMarks a.1 g = chosen-marks (has_key Key.MaxNumParts ms || has_key Key.NumParts ms)
      (number_as Key.MaxNumParts Key.MaxSize ms es [] no_exs) (valued Key.MaxSize ∷ [], more_exs (bound_ex d) no_exs)
      (named-marks Key.MaxNumParts Key.MaxSize ms es [] no_exs h tt) (n, tt) in
      let q : HaveMarks b.1 g = named-marks Key.MinNumParts Key.MinSize ms es a.0 a.1 h p in
      (named-marks Key.NumParts Key.Size ms es b.0 b.1 h q, part-marks ms es d h k)

  -- What a view is kept as has marks where the view has them.
  pub kept-marks : (v : Ex) → KeptTyped g v → HasMarks v g → OfSome (kept_as v) (λ c. HasMarks c g)
  kept-marks (seen_ex (repr ReprKind.RelationAsSet (more_reprs r no_reprs)) (relation_dom ms es ds) ns js) i h =
      (tuple-set-marks ms es ds h.0.0 h.0.1, h.1)
  kept-marks (seen_ex (repr ReprKind.FunctionAsRelation (more_reprs r no_reprs)) (function_dom ms es d c) ns js) i h =
      (pair-relation-marks ms es d c i h.0.0 h.0.1 h.0.2, h.1)
  kept-marks (seen_ex (repr ReprKind.PartitionAsSet (more_reprs r no_reprs)) (partition_dom ms es d) ns js) i h =
      (part-set-marks ms es d i h.0.0 h.0.1, h.1)
  kept-marks _ i h = tt
