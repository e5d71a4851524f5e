-- Worked examples: x is 0, so `1 / x + [1, 2][1]` has nothing, though what is picked is there.
use Rattle.std.proofs.Common.{◌≡◌, refl, true, false, [], ◌∷◌, Some, pos, codes}
use Rattle.std.specs.Prelude.{is_some}
use Rattle.ess_semantics.specs.declared.words.Op2.{Op2}
use Rattle.ess_semantics.specs.Values.{number}
use Rattle.ess_semantics.specs.Trees.{by_value, index, matrix_literal, Ex, node_ex, no_exs, more_exs}
use Rattle.ess_semantics.specs.Meaning.{Env, empty_env, meaning}
use Rattle.ess_semantics.proofs.Shorthands.{N, n, bi}
use Rattle.ess_rules_laws.specs.Lookups.{FitsNumber}
use Rattle.ess_values_along_laws.specs.Valued.{Valued}
use Rattle.ess_open_rules_laws.specs.OpenRules.{of_a_pick, a_pick_alone, step_by_step}
use Rattle.ess_open_counted_laws.specs.PicksThere.{FitsOverThere}
use Rattle.ess_open_counted_laws.specs.OpensCounted.{is_of_picks}

abbrev here : Env
here = record empty_env { vals = (codes "x", number (pos 0)) ∷ [] }

abbrev picked : Ex
picked = node_ex false (index (by_value ∷ []))
    (more_exs (node_ex false matrix_literal (more_exs (n 1) (more_exs (n 2) no_exs))) (more_exs (n 1) no_exs))

abbrev total : Ex
total = bi Op2.Plus (bi Op2.Div (n 1) (N (codes "x"))) picked

nothing-there : is_some (meaning total here) ≡ false
nothing-there = refl

-- In a natural place the sum and the quotient may have nothing, what is picked may not.
valued : Valued true total here
valued = (tt, ((tt, (tt, (refl, tt))), ((refl, ((refl, (tt, (tt, tt))), (tt, tt))), tt)))

-- So the root isn't a number, but it fits.
no-number : FitsNumber false (meaning total here) ≡ ⊥
no-number = refl

fits : FitsOverThere false (Some picked) total here
fits = (refl, tt)

picks-alone : (is_of_picks of_a_pick ≡ true) × (is_of_picks a_pick_alone ≡ true) × (is_of_picks step_by_step ≡ false)
picks-alone = (refl, refl, refl)
