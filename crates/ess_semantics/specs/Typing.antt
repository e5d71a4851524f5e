-- The type of an expression under the types of its names, as it is read or resolved.
use Rattle.std.specs.Prelude.{ℕ, zero, suc, if◌then◌else◌, List, [], ◌∷◌, pos, Option, Some, None, option_map}
use Rattle.ess_semantics.specs.Lists.{and_then, all_some, tail_of}
use Rattle.ess_semantics.specs.Values.{Text, a_tuple, a_matrix, a_record}
use Rattle.ess_semantics.specs.Order.{same_text}
use Rattle.ess_semantics.specs.Names.{Names, look}
use Rattle.ess_semantics.specs.Trees.{Step, by_value, to_component, to_field, Op, index, Ex, Exs, Gens, number_ex, truth_ex, name_ex, node_ex, matrix_ex, comp_ex, cell_ex, seen_ex, no_exs, more_exs, no_gens, over, from, cond}
use Rattle.ess_semantics.specs.Types.{Ty, Tys, any_ty, bool_ty, int_ty, named_ty, compound, more_tys, compound2, fit, join, join_all, or_any, type_of_dom, bind_types}
use Rattle.ess_semantics.specs.OperatorTypes.{member_ty, type_of_op}

-- ---- indices

-- What an index says without its meaning: a number, for a tuple, or a name, for a field.
pub data Static : Type 0 where
  a_number : ℕ → Static
  a_name : Text → Static
  other : Static

-- What one index says.
abbrev pub static : Ex → Static
static (number_ex (pos n)) = a_number n
static (name_ex a) = a_name a
static _ = other

-- What each index says.
abbrev pub statics : Exs → List Static
statics no_exs = []
statics (more_exs e es) = static e ∷ statics es

-- The type of the n-th component, from 1.
abbrev pub component_ty : Tys → ℕ → Option Ty
component_ty (more_tys t ts) (suc zero) = Some t
component_ty (more_tys t ts) (suc n) = component_ty ts n
component_ty _ _ = None

-- The type of a field.
abbrev pub field_ty : List Text → Tys → Text → Option Ty
field_ty (f ∷ fs) (more_tys t ts) a = if same_text f a then Some t else field_ty fs ts a
field_ty _ _ a = None

-- One step into a matrix, tuple or record, by the type reached.
abbrev pub step_ty : Ty → Static → Option Ty → Option Ty
step_ty (compound2 a_matrix i e) s (Some t) = fit i t e
step_ty (compound a_tuple ts) (a_number k) t = component_ty ts k
step_ty (compound (a_record fs) ts) (a_name a) t = field_ty fs ts a
step_ty any_ty s (Some t) = Some any_ty
step_ty _ s t = None

-- The type of a component or a field, by its number or name. A part of what has no values has none either.
abbrev pub part_ty : Ty → Static → Option Ty
part_ty any_ty s = Some any_ty
part_ty t s = step_ty t s None

-- The type that a step reaches from a place of this type, where `s` and `u` are what the index says and its type.
abbrev pub type_behind : Option Ty → Static → Option Ty → Option Ty
type_behind t s u = and_then t (λ p. step_ty p s u)

-- The type of a component or a field of what has this type.
abbrev pub part_behind : Option Ty → Static → Option Ty
part_behind t s = and_then t (λ p. part_ty p s)

-- The type behind a list of steps, from what the indices by value say and from their types.
abbrev pub path_ty : Ty → List Step → List Static → List (Option Ty) → Option Ty
path_ty t [] [] [] = Some t
path_ty t (by_value ∷ qs) (s ∷ ss) (u ∷ us) = and_then (step_ty t s u) (λ v. path_ty v qs ss us)
path_ty t (to_component k ∷ qs) ss us = and_then (part_ty t (a_number k)) (λ v. path_ty v qs ss us)
path_ty t (to_field a ∷ qs) ss us = and_then (part_ty t (a_name a)) (λ v. path_ty v qs ss us)
path_ty t _ _ _ = None

-- The type of a node, from what its operands say and from their types.
abbrev pub type_of_node : Op → List Static → List (Option Ty) → Option Ty
type_of_node (index qs) ss (Some t ∷ us) = path_ty t qs (tail_of ss) us
type_of_node op ss us = and_then (all_some us) (type_of_op op)

-- ---- expressions

-- The type of a cell that isn't a Boolean: the named type that its table's name has, else int.
abbrev pub number_cell_ty : Option Ty → Ty
number_cell_ty (Some (named_ty t)) = named_ty t
number_cell_ty _ = int_ty

abbrev mutual
  -- The type of an expression. A cell is a Boolean where it says so.
  pub type_of : Ex → Names Ty → Option Ty
  type_of (number_ex n) g = Some int_ty
  type_of (truth_ex b) g = Some bool_ty
  type_of (name_ex a) g = look g a
  type_of (node_ex b op es) g = type_of_node op (statics es) (types_of es g)
  type_of (matrix_ex es d) g = and_then (all_some (types_of es g)) (λ ts. option_map (compound2 a_matrix (type_of_dom d)) (join_all ts))
  type_of (comp_ex e gs) g = and_then (types_under gs g) (λ h. option_map (compound2 a_matrix int_ty) (type_of e h))
  type_of (cell_ex b n es) g = Some (if b then bool_ty else number_cell_ty (look g n))
  type_of (seen_ex r d ns es) g = Some (type_of_dom d)

  -- The types of operands, each there or not.
  pub types_of : Exs → Names Ty → List (Option Ty)
  types_of no_exs g = []
  types_of (more_exs e es) g = type_of e g ∷ types_of es g

  -- The types of names under generators, where the generators' own types fit.
  pub types_under : Gens → Names Ty → Option (Names Ty)
  types_under no_gens g = Some g
  types_under (over p d gs) g = types_under gs (bind_types p (type_of_dom d) g)
  types_under (from p e gs) g = and_then (and_then (type_of e g) member_ty) (λ t. types_under gs (bind_types p t g))
  types_under (cond e gs) g = and_then (type_of e g) (λ t. and_then (join t bool_ty) (λ u. types_under gs g))

-- The type of what a generator takes from a source.
abbrev pub source_ty : Ex → Names Ty → Ty
source_ty e g = or_any (and_then (type_of e g) member_ty)
