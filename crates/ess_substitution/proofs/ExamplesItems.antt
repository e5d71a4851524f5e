-- Worked examples of what generators and conditions become.
use Rattle.std.specs.Prelude.{◌≡◌, refl, codes}
use Rattle.ess_semantics.specs.Values.{Text}
use Rattle.ess_semantics.specs.Trees.{name_pat}
use Rattle.ess_semantics.specs.Substitution.{for_name}
use Rattle.ess_semantics.proofs.Shorthands.{N, n}
use Rattle.ess_core.specs.TreeViews.{from_item, cond_item}
use Rattle.ess_substitution.specs.Items.{substitute_item}

abbrev x : Text
x = codes "x"

abbrev y : Text
y = codes "y"

-- The source of a generator has 3 in the place of x. Its pattern stays, whatever it binds.
of_a_source : substitute_item (for_name x (n 3)) (from_item (name_pat x) (N x)) ≡ from_item (name_pat x) (n 3)
of_a_source = refl

-- Another name stays.
of_a_condition : substitute_item (for_name x (n 3)) (cond_item (N y)) ≡ cond_item (N y)
of_a_condition = refl
