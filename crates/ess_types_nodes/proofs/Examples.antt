-- Worked examples: the types of several parts, and whether types of generators fit.
use Rattle.std.proofs.Common.{◌≡◌, refl, true, false, [], ◌∷◌, Some, None}
use Rattle.ess_types_names.specs.declared.under.Under.TheVariants.{Fits, Misfits}
use Rattle.ess_types_nodes.specs.Parts.{joined, fitting, both_fit, fits_of}

both-there : joined (Some (true ∷ [])) (Some (false ∷ [])) ≡ Some (true ∷ false ∷ [])
both-there = refl

second-missing : joined (Some (true ∷ [])) None ≡ None
second-missing = refl

first-missing : joined None (Some (true ∷ [])) ≡ None
first-missing = refl

item-where_all_fit : fitting Fits (Some true) ≡ Some true
item-where_all_fit = refl

no_item-where_one_misfits : fitting Misfits (Some true) ≡ None
no_item-where_one_misfits = refl

both-fit : both_fit Fits Fits ≡ Fits
both-fit = refl

second-misfits : both_fit Fits Misfits ≡ Misfits
second-misfits = refl

first-misfits : both_fit Misfits Fits ≡ Misfits
first-misfits = refl

there-fits : fits_of (Some true) ≡ Fits
there-fits = refl
