-- Sources whose items are counted: of a term that nothing tells the index domain of, as `[1, 2]` or `[3]` picked out of `[[1, 2], [3]]` by
-- a table, no table may say how many items it has in the domain of a generator. So the generator runs up to the most items that the term may
-- have, and a condition says which numbers are its indices.
use Rattle.std.specs.Prelude.{Bool, true, false, ◌&&◌, not, [], ◌∷◌, pos, Option, Some, None, option_map, is_some, if◌then◌else◌}
use Rattle.ess_semantics.specs.declared.words.Op2.{Op2}
use Rattle.ess_semantics.specs.declared.words.Fun.{Fun}
use Rattle.ess_semantics.specs.Lists.{and_then, or_else}
use Rattle.ess_semantics.specs.Values.{Text}
use Rattle.ess_semantics.specs.Names.{Names}
use Rattle.ess_semantics.specs.Trees.{by_value, index, name_pat, Ex, number_ex, name_ex, node_ex, comp_ex, no_exs, more_exs, Gens, no_gens, over, from, cond, ex2, fun1}
use Rattle.ess_semantics.specs.Types.{Ty}
use Rattle.ess_semantics.specs.Typing.{type_of}
use Rattle.ess_semantics.specs.NamesAt.{names_behind}
use Rattle.ess_guard_laws.specs.IndexDomains.{one_up_to}
use Rattle.ess_rules_laws.specs.MatrixRules.{item_of}
use Rattle.ess_rules_laws.specs.ListRules.{is_lex}
use Rattle.ess_refine_laws.specs.AllRules.{Supply}
use Rattle.ess_refine_laws.specs.IndexedLists.{of_matrix}
use Rattle.ess_open_rules_laws.specs.OpenGenerators.{Opened, at_first_open, behind_plain}
use Rattle.ess_ordered_laws.specs.ToldAxes.{picked_axis}
use Rattle.ess_ordered_laws.specs.PickedSources.{is_untold}
use Rattle.ess_numbered_laws.specs.MostItems.{most_items}

-- Whether the term is picked, and neither its form nor a domain tells its index domain.
abbrev pub is_counted : Supply → Names Ty → Ex → Bool
is_counted s g t = is_untold s g t && not (is_some (picked_axis t))

-- `sum([1 | z <- t])`: how many items t has.
abbrev pub items_counted : Text → Ex → Ex
items_counted z t = fun1 false Fun.Sum (comp_ex (number_ex (pos 1)) (from (name_pat z) t no_gens))

-- `x <= sum([1 | z <- t])`.
abbrev pub is_number_of : Text → Text → Ex → Ex
is_number_of x z t = ex2 true Op2.Le (name_ex x) (items_counted z t)

-- `x : int(1..n), x <= sum([1 | z <- t])`: the numbers of the items of t, where these are n at most.
abbrev pub numbers_of : Text → Text → Ex → Ex → Gens → Gens
numbers_of x z n t gs = over (name_pat x) (one_up_to n) (cond (is_number_of x z t) gs)

-- ---- a source

-- `[t[x] | x : int(1..n), x <= sum([1 | z <- t])]`; u is the type of the items.
abbrev pub numbered_items : Text → Text → Ex → Ex → Ty → Ex
numbered_items x z t n u = comp_ex (item_of u t (name_ex x)) (numbers_of x z n t no_gens)

-- The term so, where it is counted.
abbrev pub numbered_term : Supply → Names Ty → Ex → Option Ex
numbered_term s g t =
    if is_counted s g t then and_then (most_items s.third t) (λ n. of_matrix (type_of t g) (numbered_items s.one s.other t n)) else None

-- A comprehension whose first generator runs over such a term.
abbrev pub numbered_source : Supply → Names Ty → Ex → Option Ex
numbered_source s g (comp_ex e (from (name_pat y) t hs)) = option_map (λ l. comp_ex e (from (name_pat y) l hs)) (numbered_term s g t)
numbered_source s g e = None

-- The same at the first generator that isn't plain.
abbrev pub numbered_behind : Supply → Names Ty → Ex → Option Ex
numbered_behind s g e = behind_plain (λ gs. numbered_source s (names_behind gs g)) e

-- An item of such a comprehension by its number.
abbrev pub within_an_item : Supply → Names Ty → Ex → Option Ex
within_an_item s g (node_ex b (index (by_value ∷ [])) (more_exs a (more_exs i no_exs))) =
    option_map (λ c. node_ex b (index (by_value ∷ [])) (more_exs c (more_exs i no_exs))) (numbered_behind s g a)
within_an_item s g e = None

-- Whether order counts between matrices: equality, or a sign between lists.
abbrev pub sees_order : Op2 → Bool
sees_order Op2.Eq = true
sees_order o = is_lex o

-- A side by the numbers of its first source that isn't plain, where nothing tells how many items the side has at most.
abbrev pub numbered_side : Supply → Names Ty → Ex → Option Ex
numbered_side s g a = if is_some (most_items s.third a) then None else numbered_behind s g a

-- `a = b`, and signs between lists, where a is such a side, or b.
abbrev pub within_a_pair : Supply → Names Ty → Ex → Option Ex
within_a_pair s g (ex2 true o a b) =
    if sees_order o
    then or_else (option_map (λ c. ex2 true o c b) (numbered_side s g a)) (option_map (λ c. ex2 true o a c) (numbered_side s g b))
    else None
within_a_pair s g e = None

-- ---- the whole comprehension

-- Whether the first generator runs over a counted term.
abbrev pub begins_counted : Supply → Names Ty → Gens → Bool
begins_counted s g (from (name_pat y) t hs) = is_counted s g t
begins_counted s g gs = false

-- Whether the first generator that isn't plain does.
abbrev pub is_over_counted : Supply → Names Ty → Option Opened → Bool
is_over_counted s g None = false
is_over_counted s g (Some t) = begins_counted s (names_behind t.before g) t.after

-- How many items such a comprehension has at most.
abbrev pub counted_list : Supply → Names Ty → Ex → Option Ex
counted_list s g (comp_ex e gs) = if is_over_counted s g (at_first_open gs) then most_items s.third (comp_ex e gs) else None
counted_list s g e = None
