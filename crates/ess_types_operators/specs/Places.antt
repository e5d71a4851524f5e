-- Where a name stands among names that rise.
use Rattle.std.specs.Prelude.{ℕ, suc, [], ◌∷◌}
use Rattle.std.specs.declared.cmp.Ordering.{Ordering}
use Rattle.std.specs.declared.cmp.Ordering.TheVariants.{Greater}
use Rattle.ess_semantics.specs.Values.{Text}
use Rattle.ess_semantics.specs.Order.{order_text}
use Rattle.ess_semantics.specs.Names.{Names}

-- One more place, behind a name that is below.
abbrev pub place_by : Ordering → ℕ → ℕ
place_by Greater k = suc k
place_by _ k = 0

-- How many entries in front have names below this one.
abbrev pub place_in : {A : Type 0} → Text → Names A → ℕ
place_in n [] = 0
place_in n (c ∷ cs) = place_by (order_text n c.0) (place_in n cs)
