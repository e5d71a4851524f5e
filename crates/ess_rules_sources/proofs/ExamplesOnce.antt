-- Worked examples of what rules make of alternatives and of sets of items.
use Rattle.std.specs.Prelude.{◌≡◌, refl, false, [], ◌∷◌, codes, Some, None}
use Rattle.ess_semantics.specs.declared.words.Op1.{Op1}
use Rattle.ess_semantics.specs.declared.words.Fun.{Fun}
use Rattle.ess_semantics.specs.Values.{Text}
use Rattle.ess_semantics.specs.Trees.{name_pat, tuple_pat, no_pats, comp_ex, ex1, fun1, no_exs, no_gens, over, from, bool_dom}
use Rattle.ess_semantics.proofs.Shorthands.{N, n, es1}
use Rattle.ess_rules_folds.specs.Forms.{FoldParts}
use Rattle.ess_rules_sources.specs.PureAlternatives.{alternative_of, put_fold, alone_put, parts_put, item_size}
use Rattle.ess_rules_sources.specs.OnceParts.{set_comp, once_by}

abbrev x : Text
x = codes "x"

abbrev y : Text
y = codes "y"

-- The parts of `F([x | x <- s])`, where F is this word.
abbrev parts : Fun → FoldParts
parts f = record { mark = false; fun = f; body = N x; name = x; source = N y; rest = no_gens; others = no_exs }

-- The item 3 stands in the place of x.
put : put_fold false Fun.Sum x (N x) no_gens (alternative_of no_gens (n 3)) ≡ fun1 false Fun.Sum (comp_ex (n 3) no_gens)
put = refl

-- A sum forgets order, a size doesn't read a list so.
alone : alone_put (alternative_of no_gens (n 3)) (parts Fun.Sum) ≡ Some (fun1 false Fun.Sum (comp_ex (n 3) no_gens))
alone = refl

not_alone : alone_put (alternative_of no_gens (n 3)) (parts Fun.Defined) ≡ None
not_alone = refl

-- The least of several parts isn't the fold of folds: a part may be empty.
not_in_parts : parts_put (alternative_of no_gens (n 3) ∷ []) (parts Fun.Min) ≡ None
not_in_parts = refl

-- The sum of the sizes of items.
size : item_size (alternative_of no_gens (n 3)) ≡ fun1 false Fun.Sum (comp_ex (ex1 false Op1.Bar (n 3)) no_gens)
size = refl

-- A multiset of items has them as often as they are there, so it offers nothing here.
of_a_set : set_comp false Fun.ToSet (es1 (comp_ex (N x) no_gens)) ≡ Some (N x, no_gens, no_exs)
of_a_set = refl

of_a_multiset : set_comp false Fun.ToMSet (es1 (comp_ex (N x) no_gens)) ≡ None
of_a_multiset = refl

-- Without a generator there is one item; over a value nothing is offered, nor over a pattern that is no name.
one : once_by y y y (n 3) no_gens no_exs ≡ Some (alternative_of no_gens (n 3) ∷ [])
one = refl

over_a_value : once_by y y y (N x) (from (name_pat x) (N y) no_gens) no_exs ≡ None
over_a_value = refl

over_a_pattern : once_by y y y (N x) (over (tuple_pat no_pats) bool_dom no_gens) no_exs ≡ None
over_a_pattern = refl
