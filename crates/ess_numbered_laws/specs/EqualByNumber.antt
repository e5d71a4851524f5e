-- Equality of matrices, one of which is a comprehension over a counted source: by how many items there are, and item by item.
use Rattle.std.specs.Prelude.{true, Option, Some, None, option_map, if◌then◌else◌}
use Rattle.ess_semantics.specs.declared.words.Op2.{Op2}
use Rattle.ess_semantics.specs.declared.words.Fun.{Fun}
use Rattle.ess_semantics.specs.Lists.{and_then, or_else}
use Rattle.ess_semantics.specs.Values.{Text}
use Rattle.ess_semantics.specs.Names.{Names}
use Rattle.ess_semantics.specs.Trees.{Ex, name_ex, comp_ex, no_gens, Dom, ex2, fun1}
use Rattle.ess_semantics.specs.Types.{Ty}
use Rattle.ess_semantics.specs.Typing.{type_of}
use Rattle.ess_rules_laws.specs.FoldRules.{is_laid_open}
use Rattle.ess_rules_laws.specs.MatrixRules.{item_of, some_over, both_matrices}
use Rattle.ess_refine_laws.specs.AllRules.{Supply}
use Rattle.ess_ordered_laws.specs.ToldAxes.{told_axis}
use Rattle.ess_numbered_laws.specs.MostItems.{members_counted}
use Rattle.ess_numbered_laws.specs.CountedSources.{items_counted, numbers_of, counted_list}

-- `and([body | x : int(1..n), x <= sum([1 | z <- a])])`: so it is at the number of each item of a.
abbrev pub at_each_number : Text → Text → Ex → Ex → Ex → Ex
at_each_number x z n a body = fun1 true Fun.And (comp_ex body (numbers_of x z n a no_gens))

-- `a[x] o b[x]`; t and u are the types of the items.
abbrev pub items_compared : Op2 → Ty → Ty → Text → Ex → Ex → Ex
items_compared o t u x a b = ex2 true o (item_of t a (name_ex x)) (item_of u b (name_ex x))

-- That a has as many items as so many.
abbrev pub as_many_items : Text → Ex → Ex → Ex
as_many_items z a m = ex2 true Op2.Eq (items_counted z a) m

-- `a = b` of lists: they have as many items, and these are equal at each number.
abbrev pub equal_lists : Text → Text → Ex → Ty → Ty → Ex → Ex → Ex
equal_lists x z n t u a b =
    ex2 true Op2.And (as_many_items z a (items_counted z b)) (at_each_number x z n a (items_compared Op2.Eq t u x a b))

-- `a = b` of a list and a matrix over d: each number is a member of d, too.
abbrev pub equal_over : Dom → Text → Text → Ex → Ty → Ty → Ex → Ex → Ex
equal_over d x z n t u a b =
    ex2 true Op2.And
    (ex2 true Op2.And (as_many_items z a (members_counted z d))
    (at_each_number x z n a (some_over z d (ex2 true Op2.Eq (name_ex z) (name_ex x)))))
    (at_each_number x z n a (items_compared Op2.Eq t u x a b))

-- What b is: a list, without a domain, or a matrix whose index domain is told.
abbrev pub other_side : Ex → Option (Option Dom)
other_side b = if is_laid_open b then Some None else option_map Some (told_axis b)

-- By what b is.
abbrev pub equal_as : Option Dom → Text → Text → Ex → Ex → Ex → Ty → Ty → Ex
equal_as None x z n a b t u = equal_lists x z n t u a b
equal_as (Some d) x z n a b t u = equal_over d x z n t u a b

-- `a = b` of matrices, where a is such a comprehension.
abbrev pub equal_counted : Supply → Names Ty → Ex → Ex → Option Ex
equal_counted s g a b = and_then (counted_list s g a)
    (λ n. and_then (other_side b) (λ o. both_matrices (type_of a g) (type_of b g) (equal_as o s.one s.other n a b)))

-- `a = b`, where a is such a comprehension, or b.
abbrev pub equal_by_number : Supply → Names Ty → Ex → Option Ex
equal_by_number s g (ex2 true Op2.Eq a b) = or_else (equal_counted s g a b) (equal_counted s g b a)
equal_by_number s g e = None
