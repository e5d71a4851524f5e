-- Further rules that keep types: of components and fields, of names over tuples and records, of matrices, and of conditions.
use Rattle.std.specs.Prelude.{◌≡◌, Bool, true, false, not, List, [], ◌∷◌, Option, Some, None, is_some}
use Rattle.ess_semantics.specs.declared.words.Op1.{Op1}
use Rattle.ess_semantics.specs.Values.{Text, a_matrix}
use Rattle.ess_semantics.specs.Order.{same_text}
use Rattle.ess_semantics.specs.Names.{Names}
use Rattle.ess_semantics.specs.Trees.{Op, unary, Ex, Exs, node_ex, comp_ex, ex2, fun1, no_exs, more_exs, Gens, over, Dom}
use Rattle.ess_semantics.specs.Types.{Ty, any_ty, int_ty, compound2, join, type_of_dom}
use Rattle.ess_semantics.specs.Typing.{type_of, types_of}
use Rattle.ess_semantics.specs.NamesAt.{names_behind}
use Rattle.ess_semantics.specs.Substitution.{Binds}
use Rattle.ess_refine_laws.specs.TypesStay.{KeepsType}
use Rattle.ess_refine_laws.specs.LeavingConditions.{Parted, at_last_condition}
use Rattle.ess_refine_laws.specs.AllRules.{Rule, over_a_tuple, over_a_record, field_of_a_record, equal_tuples, equal_records, equal_matrices_at, condition, condition_behind, least_under_a_condition, Supply, opposite_copied, rewrite}
use Rattle.ess_refine_types_laws.specs.TypeNames.{TypeNamesAre, IsUntyped}

-- Rules that are shown to keep types here.
abbrev pub is_other : Rule → Bool
is_other over_a_tuple = true
is_other over_a_record = true
is_other field_of_a_record = true
is_other equal_tuples = true
is_other equal_records = true
is_other equal_matrices_at = true
is_other condition = true
is_other condition_behind = true
is_other least_under_a_condition = true
is_other r = false

-- ---- numbers

-- Whether the type is of numbers, or that of an empty literal's members.
abbrev pub is_numeric : Option Ty → Bool
is_numeric (Some any_ty) = true
is_numeric (Some int_ty) = true
is_numeric t = false

-- Whether the operator isn't `|x|` of what is no number.
abbrev pub sizes_number : Op → List (Option Ty) → Bool
sizes_number (unary Op1.Bar) (t ∷ []) = is_numeric t
sizes_number op ts = true

abbrev mutual
  -- Each `|x|` of the number is of a number, as in refined trees.
  pub SizesNumbers : Ex → Names Ty → Type 0
  SizesNumbers (node_ex b op es) g = (sizes_number op (types_of es g) ≡ true) × AllSizeNumbers es g
  SizesNumbers (comp_ex e gs) g = SizesNumbers e (names_behind gs g)
  SizesNumbers e g = Unit {0}

  -- The same of operands.
  pub AllSizeNumbers : Exs → Names Ty → Type 0
  AllSizeNumbers no_exs g = Unit {0}
  AllSizeNumbers (more_exs e es) g = SizesNumbers e g × AllSizeNumbers es g

-- ---- what rules count on

-- Whether the type is that of a matrix with such indices.
abbrev pub has_indices : Option Ty → Ty → Bool
has_indices (Some (compound2 a_matrix i t)) u = is_some (join i u)
has_indices t u = false

-- Both matrices may be indexed by members of the first domain, and members of the two domains may be compared.
abbrev pub IndicesFit : Names Ty → Dom → Dom → Ex → Ex → Type 0
IndicesFit g d c a b =
    (has_indices (type_of a g) (type_of_dom d) ≡ true) × (has_indices (type_of b g) (type_of_dom d) ≡ true)
    × (is_some (join (type_of_dom c) (type_of_dom d)) ≡ true)

-- What a condition leaves out holds numbers.
abbrev pub LeavesNumbers : Names Ty → Ex → Option Parted → Type 0
LeavesNumbers g e None = Unit {0}
LeavesNumbers g e (Some t) = SizesNumbers (comp_ex e t.after) (names_behind t.before g)

-- The generator behind a condition binds no name on which the type of the condition depends.
abbrev pub StaysTyped : Ex → Gens → Type 0
StaysTyped c (over p d hs) = (r : Text → Bool) × Binds r p × TypeNamesAre (λ a. not (r a)) c
StaysTyped c hs = Unit {0}

abbrev pub LaterTyped : Option Parted → Type 0
LaterTyped None = Unit {0}
LaterTyped (Some t) = StaysTyped t.condition t.after

-- The number that stands for what a condition leaves out is one behind the generators, and so is the item.
abbrev pub OppositeTyped : Names Ty → Ex → Ex → Option Parted → Type 0
OppositeTyped g m e None = Unit {0}
OppositeTyped g m e (Some t) =
    (is_numeric (type_of m (names_behind t.before g)) ≡ true) × SizesNumbers e (names_behind t.before g)

-- What each rule asks.
abbrev pub OthersFit : Supply → Names Ty → Rule → Ex → Type 0
OthersFit s g equal_matrices_at (ex2 m o a b) =
    IsUntyped s.one a × IsUntyped s.one b × (same_text s.other s.one ≡ false) × IndicesFit g (s.index_domain a) (s.index_domain b) a b
OthersFit s g condition (fun1 m f (comp_ex e gs)) = LeavesNumbers g e (at_last_condition gs)
OthersFit s g condition_behind (fun1 m f (comp_ex e gs)) = LaterTyped (at_last_condition gs)
OthersFit s g least_under_a_condition (fun1 m f (comp_ex e gs)) =
    (type_of (fun1 m f (comp_ex e gs)) g ≡ Some int_ty)
    × OppositeTyped g (opposite_copied s (fun1 m f (comp_ex e gs))) e (at_last_condition gs)
OthersFit s g r e = Unit {0}

-- So each of them keeps the type where it fires.
abbrev pub OtherRulesKeepTypes : Type 0
OtherRulesKeepTypes = (s : Supply) (g : Names Ty) (r : Rule) (e f : Ex) → rewrite s g r e ≡ Some f → is_other r ≡ true →
    OthersFit s g r e → KeepsType g e f
