-- Worked examples: x is 0, so `1 / x` has no value.
use Rattle.std.proofs.Common.{◌≡◌, refl, true, false, [], ◌∷◌, pos, codes}
use Rattle.std.specs.Prelude.{is_some}
use Rattle.ess_semantics.specs.declared.words.Op2.{Op2}
use Rattle.ess_semantics.specs.Values.{number}
use Rattle.ess_semantics.specs.Trees.{binary, Ex, cell_ex, no_exs, more_exs}
use Rattle.ess_semantics.specs.Meaning.{Env, empty_env, meaning}
use Rattle.ess_semantics.specs.Contexts.{hole, in_operand, in_first}
use Rattle.ess_semantics.proofs.Shorthands.{N, n, bi}
use Rattle.ess_values_along_laws.specs.Valued.{Valued}
use Rattle.ess_values_along_laws.specs.ValuesAlong.{natural_at, may_lack_there, none_may_lack}

abbrev here : Env
here = record empty_env { vals = (codes "x", number (pos 0)) ∷ [] }

abbrev quotient : Ex
quotient = bi Op2.Div (n 1) (N (codes "x"))

nothing-there : is_some (meaning quotient here) ≡ false
nothing-there = refl

-- `1 / x = 2` has a value at each part but the quotient, which stands in a natural place.
compared : Valued false (bi Op2.Eq quotient (n 2)) here
compared = (tt, ((tt, (tt, (refl, tt))), (tt, tt)))

place : natural_at quotient (in_operand true (binary Op2.Eq) (in_first hole (more_exs (n 2) no_exs))) false ≡ true
place = refl

-- An operand of `in` stands in none.
no-place : natural_at quotient (in_operand true (binary Op2.Member) (in_first hole (more_exs (n 2) no_exs))) true ≡ false
no-place = refl

-- By their form a quotient and a cell may have nothing in such a place; a name and a Boolean may not.
forms : (may_lack_there quotient ≡ true) × (may_lack_there (cell_ex false (codes "c") no_exs) ≡ true) × (may_lack_there (N
    (codes "x")) ≡ false)
    × (none_may_lack (more_exs (N (codes "x")) (more_exs (bi Op2.Eq quotient (n 2)) no_exs)) ≡ true)
forms = (refl, refl, refl, refl)
