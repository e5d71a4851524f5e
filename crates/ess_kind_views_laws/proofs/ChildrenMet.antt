-- Tables meet the structures of the domain of a child as which a value is kept, where they meet those of the value's domain.
use Rattle.std.proofs.Common.{sym, subst, Bool, true, false, ◌||◌, if◌then◌else◌, List, Option, Some, None}
use Rattle.ess_semantics.specs.declared.words.Key.{Key}
use Rattle.ess_semantics.specs.Kinds.{has_key}
use Rattle.ess_semantics.specs.Trees.{Mark, Ex, Exs, no_exs, more_exs, Dom, Doms, function_dom, relation_dom, partition_dom}
use Rattle.ess_semantics.specs.Meaning.{Env}
use Rattle.ess_semantics.specs.Meets.{Meets, MeetsAll, MeetsDom}
use Rattle.ess_repr_laws.specs.StructureParts.{tuple_set_dom}
use Rattle.ess_repr_laws.specs.ViewParts.{pair_relation_dom, part_dom, part_set_dom}
use Rattle.ess_repr_declare_laws.specs.SizeTerms.{number_of, bound_ex, size_terms}
use Rattle.ess_repr_declare_laws.proofs.ChildTrees.{three, sets-are, pairs_size, pairs_greatest, pairs-are, part-is, parts_greatest, parts-are}
use Rattle.ess_kind_sizes_laws.proofs.SizesHave.{AllHave, MayHave, number-has}
use Rattle.ess_kind_steps_laws.proofs.SizesMet.{bound-met}

module _ (env : Env) where
  -- Tables meet the structures of the expression, and of the domain.
  abbrev Met : Ex → Type 0
  Met e = Meets e env

  abbrev MetDom : Dom → Type 0
  MetDom d = MeetsDom d env

  -- Those of an attribute's number, if it is there.
  abbrev MayMeet : Option Ex → Type 0
  MayMeet o = MayHave Met MetDom o

  each-met : (es : Exs) → MeetsAll false es env → AllHave Met MetDom es
  each-met no_exs h = tt
  each-met (more_exs e es) h = (h.0, each-met es h.1)

  number-met : (k : Key) (ms : List Mark) (es : Exs) → MeetsAll false es env → MayMeet (number_of k ms es)
  number-met k ms es h = number-has Met MetDom k ms es (each-met es h)

  -- The numbers of three attributes.
  three-met : (s a b : Option Ex) → MayMeet s → MayMeet a → MayMeet b → MeetsAll false (three s a b).1 env
  three-met None None None g h k = tt
  three-met None None (Some c) g h k = (k, tt)
  three-met None (Some b) None g h k = (h, tt)
  three-met None (Some b) (Some c) g h k = (h, (k, tt))
  three-met (Some a) None None g h k = (g, tt)
  three-met (Some a) None (Some c) g h k = (g, (k, tt))
  three-met (Some a) (Some b) None g h k = (g, (h, tt))
  three-met (Some a) (Some b) (Some c) g h k = (g, (h, (k, tt)))

  either : (b : Bool) (o p : Option Ex) → MayMeet o → MayMeet p → MayMeet (if b then o else p)
  either true o p h k = h
  either false o p h k = k

  -- ---- the children

  -- The set of a relation's tuples.
  pub tuples-met : (ms : List Mark) (es : Exs) (ds : Doms) → MeetsDom (relation_dom ms es ds) env → MeetsDom (tuple_set_dom ms es ds) env
  tuples-met ms es ds h = subst MetDom (sym (sets-are ms es ds)) (
    three-met (number_of Key.Size ms es) (number_of Key.MinSize ms es) (number_of Key.MaxSize ms es) (number-met Key.Size ms es h.0)
        (number-met Key.MinSize ms es h.0) (number-met Key.MaxSize ms es h.0),
    h.1,
  )

  -- The relation of a function's pairs.
  pub pairs-met : (ms : List Mark) (es : Exs) (d c : Dom) → MeetsDom (function_dom ms es d c) env →
      MeetsDom (pair_relation_dom size_terms ms es d c) env
  pairs-met ms es d c h = subst MetDom (sym (pairs-are ms es d c)) (
    three-met (pairs_size ms es d) (number_of Key.MinSize ms es) (pairs_greatest ms es d)
        (either (has_key Key.Total ms) (Some (bound_ex d)) (number_of Key.Size ms es) (bound-met env d h.1) (number-met Key.Size ms es h.0))
        (number-met Key.MinSize ms es h.0)
        (either (has_key Key.MaxSize ms || (has_key Key.Total ms || has_key Key.Size ms)) (number_of Key.MaxSize ms es) (Some (bound_ex d))
        (number-met Key.MaxSize ms es h.0) (bound-met env d h.1)),
    (h.1, (h.2, tt)),
  )

  -- A part of a partition.
  part-met : (ms : List Mark) (es : Exs) (d : Dom) → MeetsDom (partition_dom ms es d) env → MeetsDom (part_dom ms es d) env
  part-met ms es d h = subst MetDom (sym (part-is ms es d)) (
    three-met (number_of Key.PartSize ms es) (number_of Key.MinPartSize ms es) (number_of Key.MaxPartSize ms es)
        (number-met Key.PartSize ms es h.0) (number-met Key.MinPartSize ms es h.0) (number-met Key.MaxPartSize ms es h.0),
    h.1,
  )

  -- The set of a partition's parts.
  pub parts-met : (ms : List Mark) (es : Exs) (d : Dom) → MeetsDom (partition_dom ms es d) env →
      MeetsDom (part_set_dom size_terms ms es d) env
  parts-met ms es d h = subst MetDom (sym (parts-are ms es d)) (
    three-met (number_of Key.NumParts ms es) (number_of Key.MinNumParts ms es) (parts_greatest ms es d)
        (number-met Key.NumParts ms es h.0) (number-met Key.MinNumParts ms es h.0)
        (either (has_key Key.MaxNumParts ms || has_key Key.NumParts ms) (number_of Key.MaxNumParts ms es) (Some (bound_ex d))
        (number-met Key.MaxNumParts ms es h.0) (bound-met env d h.1)),
    part-met ms es d h,
  )
