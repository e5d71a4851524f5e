-- Index domains that count the items of a comprehension over domains alone count what is fixed: so matrices may be compared over them.
use Rattle.std.specs.Prelude.{◌≡◌, Bool, true}
use Rattle.ess_semantics.specs.declared.words.Op2.{Op2}
use Rattle.ess_semantics.specs.Values.{Text}
use Rattle.ess_semantics.specs.Trees.{Ex, comp_ex, ex2, Gens, no_gens, over, from, cond}
use Rattle.ess_open_rules_laws.specs.OpenGenerators.{has_no_source}
use Rattle.ess_given_laws.specs.Given.{all_bound, GivenIn}
use Rattle.ess_given_order_laws.specs.InOrder.{Ordered}
use Rattle.ess_given_rulings_laws.specs.RulingChains.{BothCountFixed}

module _ (u : Text → Bool) where
  -- The names that generators bind over domains are fixed.
  abbrev pub OverFixed : Gens → Type 0
  OverFixed no_gens = Unit {0}
  OverFixed (over p d gs) = (all_bound u p ≡ true) × OverFixed gs
  OverFixed (from p e gs) = OverFixed gs
  OverFixed (cond c gs) = OverFixed gs

  -- Those of a comprehension are.
  abbrev pub BindsFixed : Ex → Type 0
  BindsFixed (comp_ex e gs) = OverFixed gs
  BindsFixed e = Unit {0}

-- So two operands of a sign that are no comprehensions over sources count what is fixed, where what is given is given, comprehensions are
-- in order where order counts, as it does under `=`, and names that they bind over domains are fixed.
abbrev pub AxesCountFixed : Type 0
AxesCountFixed = (u : Text → Bool) (m : Bool) (o : Op2) (a b : Ex) → has_no_source a ≡ true → has_no_source b ≡ true →
    GivenIn u (ex2 m o a b) → Ordered u (ex2 m o a b) → BindsFixed u a → BindsFixed u b → BothCountFixed u (ex2 m o a b)
