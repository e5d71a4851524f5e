-- Worked examples of generators over terms with listings.
use Rattle.std.specs.Prelude.{◌≡◌, refl, true, [], ◌∷◌, pos, Option, Some, None, option_map}
use Rattle.ess_semantics.specs.declared.words.Op1.{Op1}
use Rattle.ess_semantics.specs.declared.words.Op2.{Op2}
use Rattle.ess_semantics.specs.declared.words.Fun.{Fun}
use Rattle.ess_semantics.specs.Lists.{and_then}
use Rattle.ess_semantics.specs.Values.{number, items_of}
use Rattle.ess_semantics.specs.Trees.{name_pat, Ex, comp_ex, ex1, no_gens, from, cond}
use Rattle.ess_semantics.specs.Meaning.{empty_env, meaning}
use Rattle.ess_semantics.proofs.Shorthands.{N, n, v, es2, bi, fn}
use Rattle.ess_rules_laws.specs.Listings.{those, listing, all_listed}
use Rattle.ess_rules_laws.specs.SourceRules.{list_of}
use Rattle.ess_rules_laws.specs.ListedSources.{source_in_order, source_alone, source_parts}
use Rattle.ess_rules_laws.proofs.ExamplesRules.{a, b, x, y, g, set2}

-- `[y + 1 | y <- s]`
abbrev each_more : Ex → Ex
each_more s = comp_ex (bi Op2.Plus (N y) (n 1)) (from (name_pat y) s no_gens)

-- With the listing of the source.
abbrev offered : Ex → Ex → Option Ex
offered s e = and_then (listing g x s) (λ l. source_parts l e)

in_order : source_in_order (those x (N a) no_gens) (each_more (fn Fun.ToSet (N a)))
    ≡ Some (comp_ex (bi Op2.Plus (N x) (n 1)) (from (name_pat x) (N a) no_gens))
in_order = refl

-- `max([y + 1 | y <- a - b])`
alone : source_alone (those x (N a) (cond (ex1 true Op1.Not (bi Op2.Member (N x) (N b))) no_gens))
    (fn Fun.Max (each_more (bi Op2.Minus (N a) (N b))))
    ≡ Some (fn Fun.Max (comp_ex (bi Op2.Plus (N x) (n 1))
    (from (name_pat x) (N a) (cond (ex1 true Op1.Not (bi Op2.Member (N x) (N b))) no_gens))))
alone = refl

-- `min` forgets order, and isn't made of the least of parts.
no_fold : source_parts (those x (N a) no_gens ∷ []) (fn Fun.Min (each_more (N a))) ≡ None
no_fold = refl

-- `sum([y + 1 | y <- {1, b}])` counts b where it isn't 1.
parts : offered (set2 (n 1) (N b)) (fn Fun.Sum (each_more (set2 (n 1) (N b))))
    ≡ Some (fn Fun.Sum (list_of (es2 (fn Fun.Sum (comp_ex (bi Op2.Plus (n 1) (n 1)) no_gens))
    (fn Fun.Sum (comp_ex (bi Op2.Plus (N b) (n 1)) (cond (ex1 true Op1.Not (bi Op2.Eq (n 1) (N b))) no_gens))))))
parts = refl

-- `{2, 1}` has 1 before 2, its listing has 2 before 1: so a list over it would change.
members_in_order : option_map items_of (meaning (set2 (n 2) (n 1)) empty_env) ≡ Some (v 1 ∷ v 2 ∷ [])
members_in_order = refl

listed_as_written : and_then (listing g x (set2 (n 2) (n 1))) (λ l. all_listed l empty_env) ≡ Some (v 2 ∷ v 1 ∷ [])
listed_as_written = refl

sums_of_both : (meaning (fn Fun.Sum (each_more (set2 (n 2) (n 1)))) empty_env ≡ Some (number (pos 5)))
    × (and_then (offered (set2 (n 2) (n 1)) (fn Fun.Sum (each_more (set2 (n 2) (n 1))))) (λ e. meaning e empty_env) ≡ Some (number (pos 5)))
sums_of_both = (refl, refl)
