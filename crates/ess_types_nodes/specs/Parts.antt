-- The types of several parts, and whether types of generators fit.
use Rattle.std.specs.Prelude.{List, ◌++◌, Option, Some, None}
use Rattle.ess_types_names.specs.declared.under.Under.{Under}
use Rattle.ess_types_names.specs.declared.under.Under.TheVariants.{Fits, Misfits}

-- Items in front of others, where both are there.
abbrev pub joined : {A : Type 0} → Option (List A) → Option (List A) → Option (List A)
joined None o = None
joined (Some xs) None = None
joined (Some xs) (Some ys) = Some (xs ++ ys)

-- What there is where the types fit.
abbrev pub fitting : {A : Type 0} → Under → Option A → Option A
fitting Fits o = o
fitting Misfits o = None

-- Whether the types of the first and of the second fit.
abbrev pub both_fit : Under → Under → Under
both_fit Fits u = u
both_fit Misfits u = Misfits

-- Whether there is something.
abbrev pub fits_of : {A : Type 0} → Option A → Under
fits_of None = Misfits
fits_of (Some x) = Fits
