-- What is found of a part, from what is found of the parts in it: one layer of a tree at a time.
use Rattle.std.specs.Prelude.{Bool, true, false, ◌&&◌, ◌||◌, not, if◌then◌else◌, List, [], ◌∷◌, Option, Some, None, option_map, is_some}
use Rattle.std.specs.List.{list_all}
use Rattle.ess_semantics.specs.Lists.{and_then, all_some, is_some_and}
use Rattle.ess_semantics.specs.Values.{Text, a_matrix}
use Rattle.ess_semantics.specs.Names.{look, is_among, all_distinct}
use Rattle.ess_semantics.specs.Trees.{Op, index, record_literal, Pat, Gens, no_gens, over, from, cond, Dom}
use Rattle.ess_semantics.specs.Types.{Ty, compound2, bool_ty, int_ty, join, join_all, or_any, type_of_dom}
use Rattle.ess_semantics.specs.OperatorTypes.{member_ty}
use Rattle.ess_semantics.specs.Typing.{Static, type_of_node, number_cell_ty}
use Rattle.ess_semantics.specs.Lettings.{field_steps}
use Rattle.ess_semantics.specs.Kinds.{is_atom}
use Rattle.ess_semantics.specs.Scopes.{Scope, names_in_scope, with_bound}
use Rattle.ess_semantics.specs.DomainJudgements.{ranges_fit, ranges_of, marks_fit, index_domains, fields_distinct, is_finite, is_enumerable, listed_domains}
use Rattle.ess_semantics.specs.ExpressionJudgements.{compares, is_ordered_ty, pattern_fits, is_list, forgets_order}
use Rattle.ess_semantics.specs.Judgements.{domain_is_known, binds_new}
use Rattle.ess_types_judging_laws.specs.Found.{Found, all_well, both, at_place}
use Rattle.ess_types_judging_laws.specs.Judged.{Judged, types_in, judged, judged_dom}

-- ---- operands

-- Of each operand of a node whether it is a field, from what the operands say and from their types.
abbrev pub flags_of : Op → List Static → List (Option Ty) → List Bool
flags_of (index qs) (s ∷ ss) (u ∷ us) = false ∷ field_steps u qs ss us
flags_of op ss us = []

-- What is found of operands but those that are flagged. `counts` says whether order counts at their places.
abbrev pub operands_found : Bool → List Bool → List Judged → Found
operands_found counts bs [] = all_well
operands_found counts [] (j ∷ js) = both (at_place counts j.found) (operands_found counts [] js)
operands_found counts (true ∷ bs) (j ∷ js) = operands_found counts bs js
operands_found counts (false ∷ bs) (j ∷ js) = both (at_place counts j.found) (operands_found counts bs js)

-- ---- expressions

-- A part of which is asked by itself whether types fit.
abbrev pub layer : Bool → Found
layer b = record all_well { fits = b }

-- A literal of a type.
abbrev pub literal_judged : Ty → Judged
literal_judged t = record { ty = Some t; ordered = is_list t; found = all_well }

-- A name.
abbrev pub name_judged : Text → Scope → Judged
name_judged a s =
    record {
      ty = look s.tys a;
      ordered = is_some_and (look s.tys a) is_list;
      found =
          record all_well {
            known = is_among (names_in_scope s) a;
            fits = is_some (look s.tys a);
            fixed = not (is_among s.depends_on_finds a);
          };
    }

-- Whether the operands' types fit a node beside its own type: fields stand once, and what is compared has an order.
abbrev pub node_fits : Op → List (Option Ty) → Scope → Bool
node_fits (record_literal fs) us s = all_distinct fs
node_fits op us s = not (compares op) || list_all (λ t. is_some_and t (λ u. is_ordered_ty u s)) us

-- A node whose type is t, from its operands.
abbrev pub node_of_type : Option Ty → Op → List Static → List Judged → Scope → Judged
node_of_type t op ss js s =
    record {
      ty = t;
      ordered = is_some_and t is_list;
      found =
          both (layer (is_some t && node_fits op (types_in js) s))
          (operands_found (not (forgets_order op)) (flags_of op ss (types_in js)) js);
    }

-- A node, from its operands and what they say.
abbrev pub node_judged : Op → List Static → List Judged → Scope → Judged
node_judged op ss js s = node_of_type (type_of_node op ss (types_in js)) op ss js s

-- The type of a matrix literal with an index domain whose members are of type i.
abbrev pub matrix_ty : Ty → List (Option Ty) → Option Ty
matrix_ty i us = and_then (all_some us) (λ ts. option_map (compound2 a_matrix i) (join_all ts))

-- A matrix literal with its index domain, of which f is found.
abbrev pub matrix_judged : Dom → Found → List Judged → Judged
matrix_judged d f js =
    let t : Option Ty = matrix_ty (type_of_dom d) (types_in js) in
    record {
      ty = t;
      ordered = is_some_and t is_list;
      found = both (both (layer (is_some t && is_atom d)) (operands_found true [] js)) f;
    }

-- A cell.
abbrev pub cell_judged : Bool → Text → List Judged → Scope → Judged
cell_judged b n js s =
    let t : Ty = if b then bool_ty else number_cell_ty (look s.tys n) in
    record { ty = Some t; ordered = is_list t; found = operands_found true [] js }

-- A view with its domain, of which f is found.
abbrev pub view_judged : Dom → Found → List Judged → Judged
view_judged d f js =
    record { ty = Some (type_of_dom d); ordered = is_list (type_of_dom d); found = both f (operands_found true [] js) }

-- ---- generators

-- What is found of generators: whether their own types fit, whether each has an order, the rest, and the scope behind them.
pub record Gathered : Type 0 where
  pub typed : Bool
  pub ordered : Bool
  pub found : Found
  pub scope : Scope

-- Before the first generator.
abbrev pub nothing_gathered : Scope → Gathered
nothing_gathered s = record { typed = true; ordered = true; found = all_well; scope = s }

-- What is asked of a pattern at a type.
abbrev pub pattern_found : Pat → Ty → Scope → Found
pattern_found p t s = record all_well { new = binds_new p t s; fits = pattern_fits p t }

-- What is asked of a generator over a domain beside its domain.
abbrev pub over_found : Pat → Dom → Scope → Found
over_found p d s = record (pattern_found p (type_of_dom d) s) { finite = is_finite d; enumerable = is_enumerable d }

-- Behind a generator over a domain, of which f is found.
abbrev pub over_gathered : Pat → Dom → Found → Gathered → Gathered
over_gathered p d f a =
    record a { found = both a.found (both f (over_found p d a.scope)); scope = with_bound false p (type_of_dom d) a.scope }

-- Behind a generator from a source.
abbrev pub from_gathered : Pat → Judged → Gathered → Gathered
from_gathered p j a =
    let t : Option Ty = and_then j.ty member_ty in
    record {
      typed = a.typed && is_some t;
      ordered = a.ordered && j.ordered;
      found = both a.found (both j.found (pattern_found p (or_any t) a.scope));
      scope = with_bound (not j.found.fixed) p (or_any t) a.scope;
    }

-- Behind a condition.
abbrev pub cond_gathered : Judged → Gathered → Gathered
cond_gathered j a =
    record a {
      typed = a.typed && is_some_and j.ty (λ t. is_some (join t bool_ty));
      ordered = a.ordered && j.found.fixed;
      found = both a.found (at_place true j.found);
    }

-- Behind generators.
abbrev pub gathered : Gens → Gathered → Gathered
gathered no_gens a = a
gathered (over p d gs) a = gathered gs (over_gathered p d (judged_dom d a.scope) a)
gathered (from p e gs) a = gathered gs (from_gathered p (judged e a.scope) a)
gathered (cond e gs) a = gathered gs (cond_gathered (judged e a.scope) a)

-- A comprehension, from its generators and its body.
abbrev pub comp_judged : Gathered → Judged → Judged
comp_judged a j =
    let t : Option Ty = if a.typed then option_map (compound2 a_matrix int_ty) j.ty else None in
    record {
      ty = t;
      ordered = a.ordered;
      found = both (record all_well { fits = is_some t; in_order = a.ordered }) (both a.found (at_place true j.found));
    }

-- ---- domains

-- Each type that was found is that of ints.
abbrev pub types_are_ints : List (Option Ty) → Bool
types_are_ints us = list_all (λ t. is_some_and t (λ u. is_some (join u int_ty))) us

-- What is asked of one layer of a domain, where js is found of its numbers.
abbrev pub dom_layer : Dom → List Judged → Scope → Found
dom_layer d js s =
    record all_well {
      known = domain_is_known d s;
      fits =
          types_are_ints (types_in js) && ranges_fit (ranges_of d) && marks_fit d && list_all is_atom (index_domains d) && fields_distinct d;
      enumerable = list_all is_enumerable (listed_domains d) && list_all (λ j. j.found.fixed) js;
    }

-- A layer of a domain with its numbers.
abbrev pub numbered_layer : Dom → List Judged → Scope → Found
numbered_layer d js s = both (dom_layer d js s) (operands_found true [] js)
