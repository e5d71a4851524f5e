-- Lookups of what one step of an index picks, from the step and the operands.
use Rattle.std.specs.Prelude.{Bool, true, false, [], ◌∷◌, Option, Some, None, if◌then◌else◌}
use Rattle.ess_semantics.specs.declared.words.Op2.{Op2}
use Rattle.ess_semantics.specs.Lists.{and_then}
use Rattle.ess_semantics.specs.Values.{Text}
use Rattle.ess_semantics.specs.Names.{Names}
use Rattle.ess_semantics.specs.Trees.{Step, by_value, to_component, to_field, index, name_pat, Ex, Exs, name_ex, node_ex, comp_ex, ex2}
use Rattle.ess_semantics.specs.Trees.{no_exs, more_exs, no_gens, over, from, cond, Dom}
use Rattle.ess_semantics.specs.Types.{Ty}
use Rattle.ess_semantics.specs.Typing.{type_of}
use Rattle.ess_rules_laws.specs.PartLookups.{fits_place, component_type_of, field_type_of, item_type_of}
use Rattle.ess_rules_forms.specs.Forms.{only_operand, both_operands}

-- An index of one step: whether it is Boolean, the step, and the operands.
abbrev pub stepped : Ex → Option (Bool × (Step × Exs))
stepped (node_ex b (index (q ∷ [])) es) = Some (b, (q, es))
stepped e = None

-- ---- components and fields

-- `[x[q] | x <- l]`: the step from what the lookup l gives.
abbrev pub part_behind : Bool → Step → Text → Ex → Ex
part_behind b q x l = comp_ex (node_ex b (index (q ∷ [])) (more_exs (name_ex x) no_exs)) (from (name_pat x) l no_gens)

-- Whether the type has the component or field to which the step goes, and that fits the place.
abbrev pub part_fits : Option Ty → Bool → Step → Bool
part_fits t b by_value = false
part_fits t b (to_component k) = fits_place b (component_type_of t k)
part_fits t b (to_field a) = fits_place b (field_type_of t a)

-- The lookup of what the step picks, where the type has it, and that fits the place.
abbrev pub part_where : Option Ty → Bool → Step → Text → Ex → Option Ex
part_where t b q x l = if part_fits t b q then Some (part_behind b q x l) else None

-- The same of an index of one step.
abbrev pub part_from : Names Ty → Text → Ex → Bool × (Step × Exs) → Option Ex
part_from g x l p = and_then (only_operand p.1.1) (λ t. part_where (type_of t g) p.0 p.1.0 x l)

-- ---- items

-- `[m[x] | x : d, x = i]`.
abbrev pub item_behind : Bool → Text → Dom → Ex → Ex → Ex
item_behind b x d m i = comp_ex (node_ex b (index (by_value ∷ [])) (more_exs m (more_exs (name_ex x) no_exs)))
    (over (name_pat x) d (cond (ex2 true Op2.Eq (name_ex x) i) no_gens))

-- The same where the type has items, and these fit the place.
abbrev pub item_where : Option Ty → Bool → Text → Dom → Ex → Ex → Option Ex
item_where t b x d m i = if fits_place b (item_type_of t) then Some (item_behind b x d m i) else None

-- The same where the step is by a value.
abbrev pub item_at : Names Ty → Text → Dom → Bool → Step → Option (Ex × Ex) → Option Ex
item_at g x d b by_value (Some p) = item_where (type_of p.0 g) b x d p.0 p.1
item_at g x d b q o = None

-- The same of an index of one step.
abbrev pub item_from : Names Ty → Text → Dom → Bool × (Step × Exs) → Option Ex
item_from g x d p = item_at g x d p.0 p.1.0 (both_operands p.1.1)
