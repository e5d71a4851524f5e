-- The type of a comprehension, from the types of its parts.
use Rattle.std.proofs.Common.{◌≡◌, sym, ap, Some, None, option_map}
use Rattle.ess_semantics.specs.Lists.{and_then}
use Rattle.ess_semantics.specs.Values.{a_matrix}
use Rattle.ess_semantics.specs.Names.{Names}
use Rattle.ess_semantics.specs.Trees.{Ex, Gens}
use Rattle.ess_semantics.specs.Types.{Ty, compound2, int_ty}
use Rattle.ess_semantics.specs.Typing.{type_of, types_under}

-- A comprehension whose generators don't fit.
pub comp_none : (e : Ex) (gs : Gens) (g : Names Ty) → None ≡ types_under gs g
    → and_then (types_under gs g) (λ h. option_map (compound2 a_matrix int_ty) (type_of e h)) ≡ None
comp_none e gs g h = ap (λ o. and_then o (λ h. option_map (compound2 a_matrix int_ty) (type_of e h))) (sym h)

-- A comprehension whose generators leave the names u.
pub comp_some : (e : Ex) (gs : Gens) (g u : Names Ty) → Some u ≡ types_under gs g
    → and_then (types_under gs g) (λ h. option_map (compound2 a_matrix int_ty) (type_of e h)) ≡ option_map (compound2 a_matrix int_ty) (type_of e u)
comp_some e gs g u h = ap (λ o. and_then o (λ h. option_map (compound2 a_matrix int_ty) (type_of e h))) (sym h)
