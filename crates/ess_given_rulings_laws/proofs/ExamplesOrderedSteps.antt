-- Worked examples of what steps count on at a source that isn't fixed: of a list that is picked out of written ones, and of an item of a
-- comprehension. i is a name over a domain, p one over what is found, f a number that is found.
use Rattle.std.specs.Prelude.{◌≡◌, refl, Bool, false, ◌||◌, codes}
use Rattle.ess_semantics.specs.declared.words.Fun.{Fun}
use Rattle.ess_semantics.specs.Values.{Text}
use Rattle.ess_semantics.specs.Order.{same_text}
use Rattle.ess_semantics.specs.Trees.{matrix_literal, name_pat, Ex, Exs, node_ex, comp_ex, cell_ex, no_exs, no_gens, over, from, fun1}
use Rattle.ess_semantics.proofs.Shorthands.{N, es1, es2, upto, at}
use Rattle.ess_ordered_laws.specs.OrderedRules.{an_item, source_by_indices, source_of_an_item}
use Rattle.ess_given_laws.specs.Given.{is_fixed}
use Rattle.ess_given_rulings_laws.specs.OrderedSteps.{SourcesKept}

abbrev i : Text
i = codes "i"

abbrev p : Text
p = codes "p"

-- The name that is fixed.
abbrev over_a_domain : Text → Bool
over_a_domain a = same_text a i

-- A number that is found.
abbrev found : Ex
found = cell_ex false (codes "f") no_exs

abbrev list_of : Exs → Ex
list_of es = node_ex false matrix_literal es

-- `[y | y <- t]`
abbrev through : Ex → Ex
through t = comp_ex (N (codes "y")) (from (name_pat (codes "y")) t no_gens)

-- ---- `[[f, f], [f]][i]`, by its indices

abbrev lists : Text → Ex
lists a = at (list_of (es2 (list_of (es2 found found)) (list_of (es1 found)))) (N a)

-- How many items it has is told by i alone.
counts-kept : SourcesKept over_a_domain 0 2 over_a_domain source_by_indices (through (lists i))
counts-kept = λ q. refl

-- By p it would be told by what is found: the source waits until that is opened.
counts-wait : is_fixed over_a_domain (lists p) ≡ false
counts-wait = refl

-- ---- `[f | x : int(1..2)][i]`, an item

abbrev item : Text → Ex
item a = at (comp_ex (list_of (es1 found)) (over (name_pat (codes "x")) (upto 2) no_gens)) (N a)

abbrev with_x : Text → Bool
with_x a = same_text a i || same_text a (codes "x")

-- It is picked by `x = i`.
item-kept : SourcesKept with_x 0 2 with_x source_of_an_item (through (item i))
item-kept = λ q s n. (λ c. refl, tt)

-- Under a word nothing is asked, nor of other rules.
under-a-word : SourcesKept with_x 0 2 with_x source_of_an_item (fun1 false Fun.Sum (through (item p)))
under-a-word = tt

other-rules : SourcesKept with_x 0 2 with_x an_item (item p)
other-rules = tt
