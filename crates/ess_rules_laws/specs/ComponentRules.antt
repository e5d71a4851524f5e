-- Rules of `=` between tuples and between records, by their components.
use Rattle.std.specs.Prelude.{ℕ, suc, Bool, true, false, ◌&&◌, ◌||◌, not, if◌then◌else◌, List, [], ◌∷◌, Option, Some, None}
use Rattle.ess_semantics.specs.declared.words.Op2.{Op2}
use Rattle.ess_semantics.specs.Values.{Text, a_tuple, a_record}
use Rattle.ess_semantics.specs.Order.{same_text, same_texts}
use Rattle.ess_semantics.specs.Names.{Names}
use Rattle.ess_semantics.specs.Trees.{to_component, to_field, index, Ex, truth_ex, node_ex, ex2, no_exs, more_exs}
use Rattle.ess_semantics.specs.Types.{Ty, Tys, no_tys, more_tys, compound, is_bool}
use Rattle.ess_semantics.specs.Typing.{type_of}

-- The k-th component of a tuple, from 1; t is its type.
abbrev pub component_of : Ty → ℕ → Ex → Ex
component_of t k a = node_ex (is_bool (Some t)) (index (to_component k ∷ [])) (more_exs a no_exs)

-- That the components from the k-th on are equal, where the tuples have these components there.
abbrev pub equal_from : ℕ → Tys → Tys → Ex → Ex → Ex
equal_from k no_tys no_tys a b = truth_ex true
equal_from k (more_tys t ts) (more_tys u us) a b = ex2 true Op2.And (ex2 true Op2.Eq (component_of t k a) (component_of u k b)) (equal_from (suc k) ts us a b)
equal_from k ts us a b = truth_ex false

-- The types of a tuple's components.
abbrev pub components : Option Ty → Option Tys
components (Some (compound a_tuple ts)) = Some ts
components t = None

-- Where both have components.
abbrev pub equal_where : Option Tys → Option Tys → Ex → Ex → Option Ex
equal_where (Some ts) (Some us) a b = Some (equal_from 1 ts us a b)
equal_where t u a b = None

-- Of tuples `a = b` is `a[1] = b[1] /\ .. /\ true`.
abbrev pub equal_components : Names Ty → Text → Ex → Option Ex
equal_components g x (ex2 true Op2.Eq a b) = equal_where (components (type_of a g)) (components (type_of b g)) a b
equal_components g x e = None

-- ---- records

-- The field of a record; t is its type.
abbrev pub field_of : Ty → Text → Ex → Ex
field_of t f a = node_ex (is_bool (Some t)) (index (to_field f ∷ [])) (more_exs a no_exs)

-- Whether the name is one of these.
abbrev pub has_text : List Text → Text → Bool
has_text [] a = false
has_text (f ∷ fs) a = same_text f a || has_text fs a

-- Whether these are names of fields that differ, with as many types on both sides.
abbrev pub are_fields : List Text → Tys → Tys → Bool
are_fields [] no_tys no_tys = true
are_fields (f ∷ fs) (more_tys t ts) (more_tys u us) = not (has_text fs f) && are_fields fs ts us
are_fields fs ts us = false

-- That these fields are equal.
abbrev pub equal_each : List Text → Tys → Tys → Ex → Ex → Ex
equal_each (f ∷ fs) (more_tys t ts) (more_tys u us) a b = ex2 true Op2.And (ex2 true Op2.Eq (field_of t f a) (field_of u f b)) (equal_each fs ts us a b)
equal_each fs ts us a b = truth_ex true

-- Where both are records with the same fields.
abbrev pub equal_where_fields : Option Ty → Option Ty → Ex → Ex → Option Ex
equal_where_fields (Some (compound (a_record fs) ts)) (Some (compound (a_record gs) us)) a b = if same_texts fs gs && are_fields fs ts us then Some (equal_each fs ts us a b) else None
equal_where_fields t u a b = None

-- Of records `a = b` is `a[f] = b[f] /\ .. /\ true`.
abbrev pub equal_fields : Names Ty → Text → Ex → Option Ex
equal_fields g x (ex2 true Op2.Eq a b) = equal_where_fields (type_of a g) (type_of b g) a b
equal_fields g x e = None
