-- Terms at one component or field, and views of tuples and records by their parts.
use Rattle.std.specs.Prelude.{ℕ, List, [], ◌∷◌, Option, Some, None}
use Rattle.ess_semantics.specs.declared.words.ReprKind.{ReprKind}
use Rattle.ess_semantics.specs.Values.{Text}
use Rattle.ess_semantics.specs.Trees.{Step, by_value, to_component, to_field, Repr, Reprs, repr, index, Ex, Exs, node_ex, seen_ex, Dom, Doms, tuple_dom, record_dom}
use Rattle.ess_rules_forms.specs.Forms.{only_operand}
use Rattle.ess_views_laws.specs.ComponentViews.{child_at, child_of_field}

-- ---- terms at one step

-- The only step.
abbrev pub only_step : List Step → Option Step
only_step (s ∷ []) = Some s
only_step ss = None

-- The step and what it is taken in, where both are there.
abbrev pub step_in : Option Step → Option Ex → Option (Ex × Step)
step_in (Some s) (Some v) = Some (v, s)
step_in o p = None

-- The term and its one step.
abbrev pub stepped : Ex → Option (Ex × Step)
stepped (node_ex b (index ss) es) = step_in (only_step ss) (only_operand es)
stepped e = None

-- ---- views of tuples

-- The representations of a tuple's components.
abbrev pub tuple_children : Repr → Option Reprs
tuple_children (repr ReprKind.Tuple rs) = Some rs
tuple_children r = None

-- The domains of a tuple's components.
abbrev pub tuple_parts : Dom → Option Doms
tuple_parts (tuple_dom ds) = Some ds
tuple_parts d = None

-- The child of this number, where both are there.
abbrev pub numbered_in : ℕ → List Text → Exs → Option Reprs → Option Doms → Option Ex
numbered_in k ns js (Some rs) (Some ds) = child_at k rs ds ns js
numbered_in k ns js o p = None

-- The child of this number of a view of a tuple.
abbrev pub numbered : ℕ → Ex → Option Ex
numbered k (seen_ex r d ns js) = numbered_in k ns js (tuple_children r) (tuple_parts d)
numbered k e = None

-- ---- views of records

-- The representations of a record's fields.
abbrev pub field_children : Repr → Option Reprs
field_children (repr ReprKind.Rec rs) = Some rs
field_children r = None

-- The names and domains of a record's fields.
abbrev pub field_parts : Dom → Option (List Text × Doms)
field_parts (record_dom fs ds) = Some (fs, ds)
field_parts d = None

-- The child of this name, where both are there.
abbrev pub named_in : Text → List Text → Exs → Option Reprs → Option (List Text × Doms) → Option Ex
named_in a ns js (Some rs) (Some p) = child_of_field a p.0 rs p.1 ns js
named_in a ns js o p = None

-- The child of a field of a view of a record.
abbrev pub named : Text → Ex → Option Ex
named a (seen_ex r d ns js) = named_in a ns js (field_children r) (field_parts d)
named a e = None

-- ---- by the step

-- The child of a step.
abbrev pub component_of : Ex → Step → Option Ex
component_of v (to_component k) = numbered k v
component_of v (to_field a) = named a v
component_of v by_value = None
