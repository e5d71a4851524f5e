-- The types of names under generators, as the code answers them.
use Rattle.std.specs.Prelude.{Option, Some, None}
use Rattle.ess_semantics.specs.Names.{Names}
use Rattle.ess_semantics.specs.Types.{Ty}
use Rattle.ess_types_names.specs.declared.under.Under.{Under}
use Rattle.ess_types_names.specs.declared.under.Under.TheVariants.{Fits, Misfits}

-- The types of names, where the generators' types fit.
abbrev pub under : Under → Names Ty → Option (Names Ty)
under Fits g = Some g
under Misfits g = None
