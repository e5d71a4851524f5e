-- Signs between lists, one of which is a comprehension over a counted source: by the first number at which items differ, or how many there are.
use Rattle.std.specs.Prelude.{true, ◌&&◌, Option, Some, None, if◌then◌else◌}
use Rattle.ess_semantics.specs.declared.words.Op2.{Op2}
use Rattle.ess_semantics.specs.declared.words.Fun.{Fun}
use Rattle.ess_semantics.specs.Lists.{and_then, or_else}
use Rattle.ess_semantics.specs.Values.{Text, a_matrix}
use Rattle.ess_semantics.specs.Names.{Names}
use Rattle.ess_semantics.specs.Trees.{name_pat, Ex, name_ex, comp_ex, no_gens, over, cond, ex2, fun1}
use Rattle.ess_semantics.specs.Types.{Ty, compound2}
use Rattle.ess_semantics.specs.Typing.{type_of}
use Rattle.ess_guard_laws.specs.IndexDomains.{one_up_to}
use Rattle.ess_rules_laws.specs.FoldRules.{is_laid_open}
use Rattle.ess_refine_laws.specs.AllRules.{Supply}
use Rattle.ess_numbered_laws.specs.CountedSources.{items_counted, is_number_of, numbers_of, counted_list}
use Rattle.ess_numbered_laws.specs.EqualByNumber.{at_each_number, items_compared}

-- `and([a[z] = b[z] | z : int(1..n), z < x])`: the items before the number x are equal.
abbrev pub equal_before : Text → Text → Ex → Ty → Ty → Ex → Ex → Ex
equal_before x z n t u a b = fun1 true Fun.And
    (comp_ex (items_compared Op2.Eq t u z a b) (over (name_pat z) (one_up_to n) (cond (ex2 true Op2.Lt (name_ex z) (name_ex x)) no_gens)))

-- `or([a[x] < b[x] /\ .. | x : int(1..n), x <= sum([1 | z <- a]), x <= sum([1 | z <- b])])`: at some number both have an item, that of a is
-- lower, and the items before it are equal.
abbrev pub lower_at_a_number : Text → Text → Ex → Ty → Ty → Ex → Ex → Ex
lower_at_a_number x z n t u a b = fun1 true Fun.Or
    (comp_ex (ex2 true Op2.And (items_compared Op2.Lt t u x a b) (equal_before x z n t u a b))
    (numbers_of x z n a (cond (is_number_of x z b) no_gens)))

-- a has fewer items than b, or no more, and these are equal; o is `<` or `<=`.
abbrev pub begins_equally : Op2 → Text → Text → Ex → Ty → Ty → Ex → Ex → Ex
begins_equally o x z n t u a b = ex2 true Op2.And (ex2 true o (items_counted z a) (items_counted z b))
    (at_each_number x z n a (items_compared Op2.Eq t u x a b))

-- a is lower than b, or equal where o is `<=`.
abbrev pub lower_list : Op2 → Text → Text → Ex → Ex → Ex → Ty → Ty → Ex
lower_list o x z n a b t u = ex2 true Op2.Or (lower_at_a_number x z n t u a b) (begins_equally o x z n t u a b)

-- By the sign.
abbrev pub ordered_lists : Op2 → Text → Text → Ex → Ex → Ex → Ty → Ty → Option Ex
ordered_lists Op2.LexLt x z n a b t u = Some (lower_list Op2.Lt x z n a b t u)
ordered_lists Op2.LexLe x z n a b t u = Some (lower_list Op2.Le x z n a b t u)
ordered_lists Op2.LexGt x z n a b t u = Some (lower_list Op2.Lt x z n b a u t)
ordered_lists Op2.LexGe x z n a b t u = Some (lower_list Op2.Le x z n b a u t)
ordered_lists o x z n a b t u = None

-- The types of the items, where both are matrices.
abbrev pub with_items : {A : Type 0} → Option Ty → Option Ty → (Ty → Ty → Option A) → Option A
with_items (Some (compound2 a_matrix i t)) (Some (compound2 a_matrix j u)) f = f t u
with_items o p f = None

-- How many items the one that is such a comprehension has at most, where both are lists.
abbrev pub counted_operand : Supply → Names Ty → Ex → Ex → Option Ex
counted_operand s g a b =
    if is_laid_open a && is_laid_open b then or_else (counted_list s g a) (counted_list s g b) else None

-- `a <lex b`, and so with the other signs.
abbrev pub order_by_number : Supply → Names Ty → Ex → Option Ex
order_by_number s g (ex2 true o a b) = and_then (counted_operand s g a b)
    (λ n. with_items (type_of a g) (type_of b g) (ordered_lists o s.one s.other n a b))
order_by_number s g e = None
