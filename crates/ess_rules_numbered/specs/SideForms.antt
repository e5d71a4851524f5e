-- Two matrices with the types of their items, as the code holds them, and what is said of them.
use Rattle.std.specs.Prelude.{true, Option, option_map}
use Rattle.ess_semantics.specs.declared.words.Op2.{Op2}
use Rattle.ess_semantics.specs.Lists.{and_then}
use Rattle.ess_semantics.specs.Values.{Text}
use Rattle.ess_semantics.specs.Names.{Names}
use Rattle.ess_semantics.specs.Trees.{Ex, name_ex, Gens, no_gens, cond, Dom, ex2}
use Rattle.ess_semantics.specs.Types.{Ty}
use Rattle.ess_semantics.specs.Typing.{type_of}
use Rattle.ess_core.specs.TypeViews.{pure_ty}
use Rattle.ess_core_nodes.specs.NodeViews.{pure_node}
use Rattle.ess_rules_laws.specs.MatrixRules.{some_over}
use Rattle.ess_refine_laws.specs.AllRules.{Supply}
use Rattle.ess_rules_ordered.specs.IndexForms.{item_of_matrix}
use Rattle.ess_numbered_laws.specs.CountedSources.{is_number_of, numbers_of}
use Rattle.ess_numbered_laws.specs.EqualByNumber.{at_each_number, items_compared, as_many_items, equal_as, other_side}
use Rattle.ess_numbered_laws.specs.OrderByNumber.{lower_list, ordered_lists, counted_operand}
use Rattle.ess_rules_numbered.specs.declared.comparing.Sides.{Sides}

-- ---- what is said of two sides

-- That the body holds at the number of each item of the first.
abbrev pub at_numbers : Sides → Ex → Ex
at_numbers s body = at_each_number s.one.now s.other.now (pure_node s.most.now) (pure_node s.first.matrix.now) body

-- The items of both at the number of this name.
abbrev pub items_at : Op2 → Text → Sides → Ex
items_at o x s =
    items_compared o (pure_ty s.first.ty.now) (pure_ty s.second.ty.now) x (pure_node s.first.matrix.now) (pure_node s.second.matrix.now)

-- That the first has as many items.
abbrev pub as_many : Sides → Ex → Ex
as_many s m = as_many_items s.other.now (pure_node s.first.matrix.now) m

-- A statement by all parts.
abbrev pub of_sides : {A : Type 0} → (Text → Text → Ex → Ty → Ty → Ex → Ex → A) → Sides → A
of_sides f s = f s.one.now s.other.now (pure_node s.most.now) (pure_ty s.first.ty.now) (pure_ty s.second.ty.now)
    (pure_node s.first.matrix.now) (pure_node s.second.matrix.now)

-- That they are equal, by what the second is.
abbrev pub equal_told : Sides → Option Ex
equal_told s = option_map (λ o. of_sides (λ x z n t u a b. equal_as o x z n a b t u) s) (other_side (pure_node s.second.matrix.now))

-- That each number is a member of a domain.
abbrev pub numbers_lie : Dom → Sides → Ex
numbers_lie d s = at_numbers s (some_over s.other.now d (ex2 true Op2.Eq (name_ex s.other.now) (name_ex s.one.now)))

-- The numbers at which both have an item.
abbrev pub both_numbered : Sides → Gens
both_numbered s = numbers_of s.one.now s.other.now (pure_node s.most.now) (pure_node s.first.matrix.now)
    (cond (is_number_of s.one.now s.other.now (pure_node s.second.matrix.now)) no_gens)

-- That the first is lower, or equal where the sign is so.
abbrev pub lower_side : Op2 → Sides → Ex
lower_side o s = of_sides (λ x z n t u a b. lower_list o x z n a b t u) s

-- By the sign.
abbrev pub ordered_sides : Op2 → Sides → Option Ex
ordered_sides o s = of_sides (λ x z n t u a b. ordered_lists o x z n a b t u) s

-- ---- by the types of both

-- What is made of the types of items, where both are matrices.
abbrev pub of_both_items : Option Ty → Option Ty → (Ty → Ty → Option Ex) → Option Ex
of_both_items p q f = and_then (item_of_matrix p) (λ t. and_then (item_of_matrix q) (λ u. f t u))

-- Equality with a list that has n items at most.
abbrev pub equal_most : Supply → Names Ty → Ex → Ex → Ex → Option Ex
equal_most s g n a b = of_both_items (type_of a g) (type_of b g)
    (λ t u. option_map (λ o. equal_as o s.one s.other n a b t u) (other_side b))

-- A sign between lists, one of which has n items at most.
abbrev pub ordered_most : Supply → Names Ty → Op2 → Ex → Ex → Ex → Option Ex
ordered_most s g o n a b = of_both_items (type_of a g) (type_of b g) (ordered_lists o s.one s.other n a b)

-- A sign between two operands.
abbrev pub ordered_pair : Supply → Names Ty → Op2 → Ex → Ex → Option Ex
ordered_pair s g o a b = and_then (counted_operand s g a b) (λ n. ordered_most s g o n a b)
