-- The representations that are chosen for finds of sets.
use Rattle.std.proofs.Common.{◌≡◌, refl, true, List, [], ◌∷◌, map}
use Rattle.ess_semantics.specs.declared.words.ReprKind.{ReprKind}
use Rattle.ess_semantics.specs.Lists.{append_all}
use Rattle.ess_semantics.specs.Names.{Names}
use Rattle.ess_semantics.specs.Trees.{Repr, repr, no_reprs, Dom}
use Rattle.ess_semantics.specs.Plans.{Options, chosen_reprs, domain_of_stm}
use Rattle.conjure_laws.specs.SetsOfAtoms.{Line, spec}
use Rattle.ess_member_headers_laws.specs.KeptSets.{is_occurrence_alone}

-- A set by which members occur.
abbrev pub Occ : Repr
Occ = repr ReprKind.Occurrence no_reprs

-- The one representation is this one.
pub alone-is : (rs : List Repr) → is_occurrence_alone rs ≡ true → rs ≡ Occ ∷ []
alone-is (repr ReprKind.Occurrence no_reprs ∷ []) h = refl
alone-is rs h = cc

-- The names with their representations.
abbrev pub chosen_of : Options → Names Dom → Options
chosen_of o xs = map (λ x. (x.0, chosen_reprs o x.0 x.1)) xs

-- The names of the finds, with their domains.
abbrev pub found_in : List Line → Names Dom
found_in T = append_all (map domain_of_stm (spec T))
