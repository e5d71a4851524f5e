-- The judgements of a statement, from what is found of it as it was written and with lettings put in.
use Rattle.std.specs.Prelude.{Bool, true, ◌&&◌, not, if◌then◌else◌, List, [], ◌∷◌, Option, Some, None, is_some}
use Rattle.std.specs.List.{list_any}
use Rattle.ess_semantics.specs.Lists.{is_some_and, is_none_or}
use Rattle.ess_semantics.specs.Names.{is_among, all_distinct}
use Rattle.ess_semantics.specs.Trees.{Ex, Stm, given, let_ex, let_dom, let_unnamed, needs, find, such_that, minimise, maximise}
use Rattle.ess_semantics.specs.Types.{Ty, bool_ty, int_ty, join}
use Rattle.ess_semantics.specs.Scopes.{Scope, names_in_scope}
use Rattle.ess_semantics.specs.DomainJudgements.{is_finite, needs_known_slots}
use Rattle.ess_semantics.specs.Judgements.{Judgement, unknown_name, double_name, ill_typed, not_finite, not_enumerable, open_given, declares, no_value_name, is_objective, is_letting, found_domain, given_domain}
use Rattle.ess_types_judging_laws.specs.Found.{Found, all_well}
use Rattle.ess_types_judging_laws.specs.Judged.{judged, judged_dom}

-- What is found of a statement: of its expression, with its type, or of its domain.
pub record Findings : Type 0 where
  pub ty : Option Ty
  pub found : Found

-- What is found of a statement's expression.
abbrev pub expression_findings : Ex → Scope → Findings
expression_findings e s = record { ty = (judged e s).ty; found = (judged e s).found }

-- What is found of a statement.
abbrev pub findings : Stm → Scope → Findings
findings (given x d) s = record { ty = None; found = judged_dom d s }
findings (let_ex x e) s = expression_findings e s
findings (let_dom x d) s = record { ty = None; found = judged_dom d s }
findings (let_unnamed t e) s = expression_findings e s
findings (needs e) s = expression_findings e s
findings (find x d) s = record { ty = None; found = judged_dom d s }
findings (such_that e) s = expression_findings e s
findings (minimise e) s = expression_findings e s
findings (maximise e) s = expression_findings e s
findings t s = record { ty = None; found = all_well }

-- The type that was found agrees with this one.
abbrev pub agrees : Option Ty → Ty → Bool
agrees o t = is_some_and o (λ u. is_some (join u t))

-- The type that was found is the one that the statement's place asks for.
abbrev pub place_agrees : Stm → Findings → Bool
place_agrees (let_unnamed t e) f = agrees f.ty int_ty
place_agrees (needs e) f = agrees f.ty bool_ty && f.found.fixed
place_agrees (such_that e) f = agrees f.ty bool_ty
place_agrees (minimise e) f = agrees f.ty int_ty
place_agrees (maximise e) f = agrees f.ty int_ty
place_agrees t f = true

-- The size of an unnamed type was found to be fixed.
abbrev pub size_found : Stm → Findings → Bool
size_found (let_unnamed t e) f = f.found.fixed
size_found t f = true

-- The names that a statement declares are new.
abbrev pub declares_new : Stm → Scope → Bool
declares_new w s =
    all_distinct (declares w) && not (list_any (is_among (names_in_scope s)) (declares w)) && no_value_name w s &&
    not (is_objective w && s.objective)

-- Whether a statement meets a judgement, where f is found of it as it was written and g with lettings put in.
abbrev pub meets_found : Judgement → Stm → Stm → Findings → Findings → Scope → Bool
meets_found unknown_name w t f g s = g.found.known
meets_found double_name w t f g s = declares_new w s && f.found.new
meets_found ill_typed w t f g s =
    g.found.fits && place_agrees t g && (if is_letting t then g.found.unordered else g.found.in_order)
meets_found not_finite w t f g s = is_none_or (found_domain t) is_finite && g.found.finite
meets_found not_enumerable w t f g s = g.found.enumerable && size_found t g
meets_found open_given w t f g s = is_none_or (given_domain t) needs_known_slots

-- The first judgement that the statement fails.
abbrev pub first_found : List Judgement → Stm → Stm → Findings → Findings → Scope → Option Judgement
first_found [] w t f g s = None
first_found (j ∷ js) w t f g s = if meets_found j w t f g s then first_found js w t f g s else Some j
