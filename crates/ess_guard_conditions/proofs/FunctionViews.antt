-- Whether a term is sure to be an argument of a view of functions.
use Rattle.std.proofs.Common.{◌≡◌, refl, List, ◌&&◌}
use Rattle.ess_semantics.specs.declared.words.ReprKind.{ReprKind}
use Rattle.ess_semantics.specs.Values.{Text}
use Rattle.ess_semantics.specs.Names.{Names}
use Rattle.ess_semantics.specs.Trees.{Repr, repr, more_reprs, Ex, Exs, seen_ex, Dom, function_dom}
use Rattle.ess_guard_laws.specs.Origins.{Origin}
use Rattle.ess_guard_laws.specs.Conditions.{is_argument}
use Rattle.ess_guard_conditions.specs.ConditionForms.{is_by_argument, is_among_arguments}

-- It is where the functions are kept by argument, and the term is among the arguments of their domain.
pub argument_of_view : (k : Names Origin) (r : Repr) (d : Dom) (ns : List Text) (is : Exs) (a : Ex)
    → is_argument k (seen_ex r d ns is) a ≡ (is_by_argument r && is_among_arguments k a d)
argument_of_view k (repr ReprKind.Function1D (more_reprs r rs)) (function_dom ms es d c) ns is a = refl
argument_of_view k r d ns is a = refl
