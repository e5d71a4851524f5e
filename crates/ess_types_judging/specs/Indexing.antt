-- What is found of an index behind some of its steps.
use Rattle.std.specs.Prelude.{true, List, option_map}
use Rattle.ess_semantics.specs.Lists.{and_then}
use Rattle.ess_semantics.specs.Trees.{Step}
use Rattle.ess_semantics.specs.Typing.{statics, path_ty}
use Rattle.ess_semantics.specs.Lettings.{field_steps}
use Rattle.ess_semantics.specs.Scopes.{Scope}
use Rattle.ess_core.specs.TypeViews.{pure_ty}
use Rattle.ess_core.specs.TreeViews.{With, words_of, within, exs_of}
use Rattle.ess_types_judging_laws.specs.Found.{both}
use Rattle.ess_types_judging_laws.specs.Judged.{Judged, types_in, judged_all}
use Rattle.ess_types_judging_laws.specs.Combined.{operands_found}
use Rattle.ess_types_judging_laws.specs.Accumulated.{over_parts}
use Rattle.ess_types_judging_laws.specs.Reached as pure
use Rattle.ess_types_judging.specs.declared.indices.Reached.{Reached}
use Rattle.ess_types_judging.specs.Findings.{pure_found}

-- The type that is reached, and what is found on the way.
abbrev pub pure_reached : Reached → pure.Reached
pure_reached r = record { ty = option_map pure_ty r.ty; found = pure_found r.found }

-- What is found of an index, where p is reached before these steps.
abbrev pub index_on : pure.Reached → List (With Step) → Scope → Judged
index_on p ws s =
    let ss = statics (exs_of (within ws)) in
    let us = types_in (judged_all (exs_of (within ws)) s) in
    over_parts (and_then p.ty (λ t. path_ty t (words_of ws) ss us)) true
    (both p.found (operands_found true (field_steps p.ty (words_of ws) ss us) (judged_all (exs_of (within ws)) s)))

-- What is found of an index, where p is reached behind its last step.
abbrev pub index_end : pure.Reached → Judged
index_end p = over_parts p.ty true p.found
