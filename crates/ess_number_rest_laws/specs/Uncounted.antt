-- Rules of sources whose items are counted ask for an operand that is a comprehension whose first generator which isn't plain runs over
-- what is picked. So where no operand is one, none of them fires.
use Rattle.std.specs.Prelude.{◌≡◌, false, Option, Some, None}
use Rattle.ess_semantics.specs.Names.{Names}
use Rattle.ess_semantics.specs.Trees.{name_pat, Ex, node_ex, comp_ex, no_exs, more_exs, Gens, from}
use Rattle.ess_semantics.specs.Types.{Ty}
use Rattle.ess_refine_laws.specs.AllRules.{Supply}
use Rattle.ess_kind_rules_laws.specs.TermLookups.{picks}
use Rattle.ess_open_rules_laws.specs.OpenGenerators.{Opened, at_first_open}
use Rattle.ess_numbered_laws.specs.NumberRules.{NumberRule, number_rewrite}

-- The first generator binds no name over what is picked.
abbrev pub BeginsUnpicked : Gens → Type 0
BeginsUnpicked (from (name_pat y) t hs) = picks t ≡ false
BeginsUnpicked gs = Unit {0}

-- Nor does the first that isn't plain, where there is one.
abbrev pub OpensUnpicked : Option Opened → Type 0
OpensUnpicked None = Unit {0}
OpensUnpicked (Some t) = BeginsUnpicked t.after

-- The expression is no comprehension whose first generator that isn't plain runs over what is picked.
abbrev pub Uncounted : Ex → Type 0
Uncounted (comp_ex e gs) = OpensUnpicked (at_first_open gs)
Uncounted e = Unit {0}

-- Of two operands of the root neither is one.
abbrev pub OperandsUncounted : Ex → Type 0
OperandsUncounted (node_ex b op (more_exs x (more_exs y no_exs))) = Uncounted x × Uncounted y
OperandsUncounted e = Unit {0}

-- No rule of counted sources fires at such a root, whatever it takes and whatever the types of names are.
abbrev pub UncountedOperandsRest : Type 0
UncountedOperandsRest = (s : Supply) (g : Names Ty) (r : NumberRule) (e : Ex) → OperandsUncounted e → number_rewrite s g r e ≡ None
