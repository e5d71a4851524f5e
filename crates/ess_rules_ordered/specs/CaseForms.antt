-- What a term is, case by case: the term itself, one case, and the number of items in it.
use Rattle.std.specs.Prelude.{ℕ, true, false, pos, Option, option_map}
use Rattle.ess_semantics.specs.declared.words.Op2.{Op2}
use Rattle.ess_semantics.specs.declared.words.Fun.{Fun}
use Rattle.ess_semantics.specs.Trees.{Ex, number_ex, comp_ex, ex2, fun1, Gens, no_gens, cond}
use Rattle.ess_rules_laws.specs.SpliceRules.{append_gens}
use Rattle.ess_rules_laws.specs.Listings.{Alternative}
use Rattle.ess_ordered_laws.specs.ToldAxes.{number_written}

-- The term itself.
abbrev pub itself : Ex → Alternative
itself e = record { gens = no_gens; item = e }

-- An item where i is its number, behind generators.
abbrev pub case_at : Gens → ℕ → Ex → Ex → Alternative
case_at gs k i e = record { gens = append_gens gs (cond (ex2 true Op2.Eq i (number_ex (pos k))) no_gens); item = e }

-- The number of items in a case: 0 in the others.
abbrev pub number_of_case : Alternative → Option Ex
number_of_case a = option_map (λ n. fun1 false Fun.Sum (comp_ex n a.gens)) (number_written a.item)
