-- Worked examples: trees that are written with printed names and plain keys, and two for which nothing is.
use Rattle.std.proofs.Common.{◌≡◌, refl, true, Some, None, List, [], ◌∷◌, codes, arith}
use Rattle.std.specs.Fmt.{digits}
use Rattle.ess_semantics.specs.declared.words.Op1.{Op1}
use Rattle.ess_semantics.specs.declared.words.Op2.{Op2}
use Rattle.ess_semantics.specs.declared.words.Fun.{Fun}
use Rattle.ess_semantics.specs.Values.{Text}
use Rattle.ess_semantics.specs.Trees.{name_pat, Ex, truth_ex, comp_ex, cell_ex, no_exs, no_gens, over, cond}
use Rattle.ess_semantics.proofs.Shorthands.{N, n, es1, un, bi, fn, upto}
use Rattle.ess_grammar.specs.Models.{empty_scope}
use Rattle.conjure_model_laws.specs.ToldApart.{reserved}
use Rattle.conjure_model_laws.specs.Shown.{shows_nothing}
use Rattle.ess_refine.specs.Chains.{as_it_was}
use Rattle.ess_refine.specs.Refinements.{IsGivenUp}
use Rattle.ess_model_trees.specs.Written.{written_for, IsWrittenBy, Prints, stuck, unlowered, Comes, ComesFrom, PrintsFrom, next_behind}
use Rattle.ess_model_trees.proofs.Rests.{rests-settled}

-- sum([x | x : int(1..3)]) = 6
abbrev six : Text → Ex
six x = bi Op2.Eq (fn Fun.Sum (comp_ex (N x) (over (name_pat x) (upto 3) no_gens))) (n 6)

abbrev one_taken : List Text
one_taken = codes "q1" ∷ []

-- its bound name takes the one reserved name that is behind those for conditions
behind_it : next_behind shows_nothing (six (codes "x")) ≡ 3
behind_it = refl

-- no rule is needed: `true` and a conjunction are simplified away, and the bound name is printed as the first that isn't taken
is_written : IsWrittenBy one_taken 3 (bi Op2.And (truth_ex true) (six (reserved 2))) (six (codes "q2")) 3
unfolding digits
is_written = record {
  last = bi Op2.And (truth_ex true) (six (reserved 2));
  leads = as_it_was (omega arith);
  few = omega arith;
  refined = refl;
  writes = refl;
}

-- so it is printed, however many reserved names there are
prints : PrintsFrom one_taken 3 (bi Op2.And (truth_ex true) (six (reserved 2))) (Some (six (codes "q2")))
prints = (3, is_written)

-- it is an expression of a model
comes : Comes empty_scope one_taken 3 (bi Op2.And (truth_ex true) (six (reserved 2))) (Some (six (codes "q2"))) 3
unfolding digits
comes = (is_written, refl)

comes_from : ComesFrom empty_scope one_taken 3 (bi Op2.And (truth_ex true) (six (reserved 2))) (Some (six (codes "q2")))
comes_from = (3, comes)

-- s[e], a truth value
abbrev s : Ex → Ex
s e = cell_ex true (codes "s") (es1 e)

-- `s[true]` is written as `s[1]`. A generator goes where a condition says which member it is, and so does what that leaves:
-- `s[true] /\ or([true | x : int(1..3), x = 2])` is `s[1]`, since simplifying comes behind it once more.
plain_keys : written_for one_taken (bi Op2.And (s (truth_ex true)) (fn Fun.Or (comp_ex (truth_ex true)
    (over (name_pat (reserved 2)) (upto 3) (cond (bi Op2.Eq (N (reserved 2)) (n 2)) no_gens)))))
    ≡ s (n 1)
unfolding digits
plain_keys = refl

-- |s union t| = k
abbrev counted : Ex
counted = bi Op2.Eq (un Op1.Bar (bi Op2.Union (N (codes "s")) (N (codes "t")))) (N (codes "k"))

-- no rule fires at any part of it where s and t are only names: nothing tells what their members are
none_fires : IsGivenUp counted 2
unfolding digits
none_fires = record { abstract_left = refl; settled = rests-settled 2 counted refl }

-- so nothing is printed for it
sticks : Prints one_taken 2 counted None 2
sticks = record { last = counted; leads = as_it_was (omega arith); few = omega arith; given_up = none_fires }

-- and nothing is written
abstract_left : Comes empty_scope one_taken 2 counted None 2
abstract_left = stuck sticks

-- nor is anything written for a cell that is a truth value where no line declares one
undeclared : Comes empty_scope one_taken 2 (cell_ex true (codes "c") no_exs) None 2
undeclared = unlowered record {
  new = cell_ex true (codes "c") no_exs;
  written = record {
    last = cell_ex true (codes "c") no_exs;
    leads = as_it_was (omega arith);
    few = omega arith;
    refined = refl;
    writes = refl;
  };
  not_lowerable = refl;
}
