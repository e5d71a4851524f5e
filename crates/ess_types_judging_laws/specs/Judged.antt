-- What judging needs of a part of a statement in its scope, each field by its definition.
use Rattle.std.specs.Prelude.{Bool, true, false, List, [], ◌∷◌, map, Option}
use Rattle.ess_semantics.specs.Trees.{Ex, Exs, no_exs, more_exs, Dom, Doms, no_doms, more_doms}
use Rattle.ess_semantics.specs.Types.{Ty}
use Rattle.ess_semantics.specs.Typing.{type_of}
use Rattle.ess_semantics.specs.Scopes.{Scope, Asked, asking, nothing_asked, every, every_dom, depends_on_no_find, is_fixed}
use Rattle.ess_semantics.specs.DomainJudgements.{dom_fits, is_finite, is_enumerable, dom_is_enumerable}
use Rattle.ess_semantics.specs.ExpressionJudgements.{ex_fits, pattern_fits, is_ordered_source, orders_fit, dom_orders_fit}
use Rattle.ess_semantics.specs.Judgements.{name_is_known, domain_is_known, binds_new}
use Rattle.ess_types_judging_laws.specs.Found.{Found, all_well, both}

-- ---- what is asked of each part

-- Names are known.
abbrev pub known_names : Asked
known_names = record nothing_asked { of_ex = name_is_known; of_dom = domain_is_known }

-- Patterns bind new names.
abbrev pub new_names : Asked
new_names = record nothing_asked { of_pattern = binds_new }

-- Types fit.
abbrev pub fitting_types : Asked
fitting_types = record asking { of_ex = ex_fits; of_dom = dom_fits; of_pattern = λ p u z. pattern_fits p u }

-- No find is mentioned.
abbrev pub no_finds : Asked
no_finds = record nothing_asked { of_ex = depends_on_no_find }

-- Domains of generators are finite.
abbrev pub finite_domains : Asked
finite_domains = record asking { of_generator = λ d z. is_finite d }

-- Domains that are listed are enumerable.
abbrev pub enumerable_domains : Asked
enumerable_domains = record asking { of_dom = dom_is_enumerable; of_generator = λ d z. is_enumerable d }

-- ---- what is found

-- What is found of an expression: its type, whether it is a source that has an order, and the rest.
pub record Judged : Type 0 where
  pub ty : Option Ty
  pub ordered : Bool
  pub found : Found

-- What is found of an expression.
abbrev pub found_in : Ex → Scope → Found
found_in e s =
    record {
      known = every known_names e s;
      new = every new_names e s;
      fits = every fitting_types e s;
      fixed = is_fixed e s;
      in_order = orders_fit true e s;
      unordered = orders_fit false e s;
      finite = every finite_domains e s;
      enumerable = every enumerable_domains e s;
    }

-- The expression, judged in a scope.
abbrev pub judged : Ex → Scope → Judged
judged e s = record { ty = type_of e s.tys; ordered = is_ordered_source e s; found = found_in e s }

-- Several expressions, judged in a scope.
abbrev pub judged_all : Exs → Scope → List Judged
judged_all no_exs s = []
judged_all (more_exs e es) s = judged e s ∷ judged_all es s

-- The types that were found.
abbrev pub types_in : List Judged → List (Option Ty)
types_in js = map (λ j. j.ty) js

-- A domain, judged in a scope.
abbrev pub judged_dom : Dom → Scope → Found
judged_dom d s =
    record {
      known = every_dom known_names d s;
      new = every_dom new_names d s;
      fits = every_dom fitting_types d s;
      fixed = every_dom no_finds d s;
      in_order = dom_orders_fit d s;
      unordered = dom_orders_fit d s;
      finite = every_dom finite_domains d s;
      enumerable = every_dom enumerable_domains d s;
    }

-- Several domains, judged in a scope.
abbrev pub judged_doms : Doms → Scope → Found
judged_doms no_doms s = all_well
judged_doms (more_doms d ds) s = both (judged_dom d s) (judged_doms ds s)
