-- What is found of operands, gathered one after another, and what is found of a node from it.
use Rattle.std.specs.Prelude.{Bool, true, false, ◌&&◌, ◌||◌, not, if◌then◌else◌, List, [], ◌∷◌, ◌++◌, Option, Some, None, option_map, is_some}
use Rattle.std.specs.List.{list_all}
use Rattle.ess_semantics.specs.Lists.{and_then, is_some_and}
use Rattle.ess_semantics.specs.Names.{all_distinct}
use Rattle.ess_semantics.specs.Trees.{Op, index, record_literal, Dom}
use Rattle.ess_semantics.specs.Types.{Ty, int_ty, join}
use Rattle.ess_semantics.specs.OperatorTypes.{type_of_op}
use Rattle.ess_semantics.specs.Kinds.{is_atom}
use Rattle.ess_semantics.specs.Scopes.{Scope}
use Rattle.ess_semantics.specs.DomainJudgements.{ranges_fit, ranges_of, marks_fit, index_domains, fields_distinct, is_enumerable, listed_domains}
use Rattle.ess_semantics.specs.ExpressionJudgements.{compares, is_ordered_ty, is_list, forgets_order}
use Rattle.ess_semantics.specs.Judgements.{domain_is_known}
use Rattle.ess_types_judging_laws.specs.Found.{Found, all_well, both, at_place}
use Rattle.ess_types_judging_laws.specs.Judged.{Judged}
use Rattle.ess_types_judging_laws.specs.Combined.{layer}

-- ---- operands

-- What is found of operands: their types, where each has one, and the rest.
pub record Several : Type 0 where
  pub tys : Option (List Ty)
  pub found : Found

-- Before the first operand.
abbrev pub none_yet : Several
none_yet = record { tys = Some []; found = all_well }

-- With one operand more.
abbrev pub added : Several → Judged → Several
added v j = record { tys = and_then v.tys (λ ts. option_map (λ t. ts ++ t ∷ []) j.ty); found = both v.found j.found }

-- With several operands more.
abbrev pub several_on : List Judged → Several → Several
several_on [] v = v
several_on (j ∷ js) v = several_on js (added v j)

-- What is found of operands.
abbrev pub several : List Judged → Several
several js = several_on js none_yet

-- ---- nodes

-- A part whose type is t, where b says whether its own form fits, and f is found of the parts in it.
abbrev pub over_parts : Option Ty → Bool → Found → Judged
over_parts t b f = record { ty = t; ordered = is_some_and t is_list; found = both (layer (is_some t && b)) f }

-- Whether operands of these types fit a node beside its own type: fields stand once, and what is compared has an order.
abbrev pub typed_fits : Op → Option (List Ty) → Scope → Bool
typed_fits (record_literal fs) o s = all_distinct fs
typed_fits op o s = not (compares op) || is_some_and o (λ ts. list_all (λ u. is_ordered_ty u s) ts)

-- A node but an index, from what is found of its operands.
abbrev pub plain_judged : Op → Several → Scope → Judged
plain_judged op v s =
    over_parts (and_then v.tys (type_of_op op)) (typed_fits op v.tys s) (at_place (not (forgets_order op)) v.found)

-- Whether the node is an index.
abbrev pub is_index : Op → Bool
is_index (index qs) = true
is_index op = false

-- ---- numbers of domains

-- What is found of the numbers of a domain: whether each is an int, and the rest.
pub record Numbers : Type 0 where
  pub ints : Bool
  pub found : Found

-- Before the first number.
abbrev pub no_number : Numbers
no_number = record { ints = true; found = all_well }

-- With one number more.
abbrev pub with_number : Numbers → Judged → Numbers
with_number v j = record { ints = v.ints && is_some_and j.ty (λ u. is_some (join u int_ty)); found = both v.found j.found }

-- With several numbers more.
abbrev pub numbers_on : List Judged → Numbers → Numbers
numbers_on [] v = v
numbers_on (j ∷ js) v = numbers_on js (with_number v j)

-- What is found of numbers.
abbrev pub numbers : List Judged → Numbers
numbers js = numbers_on js no_number

-- One layer of a domain, of whose numbers it is said whether they are ints and whether they are fixed.
abbrev pub layer_over : Dom → Bool → Bool → Scope → Found
layer_over d ints fixed s =
    record all_well {
      known = domain_is_known d s;
      fits = ints && ranges_fit (ranges_of d) && marks_fit d && list_all is_atom (index_domains d) && fields_distinct d;
      enumerable = list_all is_enumerable (listed_domains d) && fixed;
    }

-- A layer of a domain with its numbers.
abbrev pub layer_with : Dom → Numbers → Scope → Found
layer_with d v s = both (layer_over d v.ints v.found.fixed s) (at_place true v.found)
