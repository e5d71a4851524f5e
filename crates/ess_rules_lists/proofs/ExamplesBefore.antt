-- Worked examples: operands behind others.
use Rattle.std.proofs.Common.{◌≡◌, refl, [], ◌∷◌, pos}
use Rattle.ess_semantics.specs.Trees.{number_ex, no_exs, more_exs}
use Rattle.ess_rules_lists.specs.Before.{exs_before}

before_others : exs_before (number_ex (pos 1) ∷ []) (more_exs (number_ex (pos 2)) no_exs)
    ≡ more_exs (number_ex (pos 1)) (more_exs (number_ex (pos 2)) no_exs)
before_others = refl

before_nothing : exs_before [] no_exs ≡ no_exs
before_nothing = refl
