-- Worked examples of attributes whose numbers are there or not, and of what stands below layers.
use Rattle.std.proofs.Common.{◌≡◌, refl, [], ◌∷◌, pos, Some, None}
use Rattle.ess_semantics.specs.declared.words.Key.{Key}
use Rattle.ess_semantics.specs.declared.words.ReprKind.{ReprKind}
use Rattle.ess_semantics.specs.Trees.{valued, number_ex, no_exs, more_exs, bool_dom, set_dom, tuple_dom, function_dom, no_doms, more_doms}
use Rattle.ess_repr_laws.specs.StructureParts.{upto}
use Rattle.ess_structure_domains.specs.Inner.{inner, inner_of}
use Rattle.ess_structure_domains.specs.Sized.{size_marks_with, size_numbers_with}

-- `size` and `maxSize`, without `minSize`.
marks_there : size_marks_with (Some (number_ex (pos 2))) None (Some (number_ex (pos 5))) ≡ valued Key.Size ∷ valued Key.MaxSize ∷ []
marks_there = refl

numbers_there : size_numbers_with (Some (number_ex (pos 2))) None (Some (number_ex (pos 5))) ≡ number_ex (pos 2) ∷ number_ex (pos 5) ∷ []
numbers_there = refl

nothing_there : size_marks_with None None None ≡ []
nothing_there = refl

-- Sets of exactly two truth values, in two slots.
two_slots : inner_of ReprKind.Explicit (set_dom (valued Key.Size ∷ []) (more_exs (number_ex (pos 2)) no_exs) bool_dom)
    ≡ Some (inner bool_dom (upto (number_ex (pos 2)) ∷ []))
two_slots = refl

-- A function of pairs of truth values has an axis for each component; as a kind of one axis it has that of the pairs.
two_axes : inner_of ReprKind.FunctionND (function_dom [] no_exs (tuple_dom (more_doms bool_dom (more_doms bool_dom no_doms))) bool_dom)
    ≡ Some (inner bool_dom (bool_dom ∷ bool_dom ∷ []))
two_axes = refl

-- No kind of sets is one for bool, and functions of truth values aren't functions of tuples.
no_set : inner_of ReprKind.Explicit bool_dom ≡ None
no_set = refl

no_tuples : inner_of ReprKind.FunctionND (function_dom [] no_exs bool_dom bool_dom) ≡ None
no_tuples = refl
