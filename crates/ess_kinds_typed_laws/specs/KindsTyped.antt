-- The rules of kinds that offer no listing keep types and marks at their root: parts of views, tests of members, sizes, parts of partitions
-- and results at a place for truth values. What each asks of the types of tables and numbers, and of names.
use Rattle.std.specs.Prelude.{◌≡◌, true, false, ◌∷◌, Bool, Some, ◌&&◌, not}
use Rattle.ess_semantics.specs.declared.words.Fun.{Fun}
use Rattle.ess_semantics.specs.declared.words.Op1.{Op1}
use Rattle.ess_semantics.specs.declared.words.Op2.{Op2}
use Rattle.ess_semantics.specs.Names.{look, Names}
use Rattle.ess_semantics.specs.Order.{same_text}
use Rattle.ess_semantics.specs.Trees.{Ex, fun1, more_exs, function_dom, relation_dom, partition_dom, ex1, ex2, seen_ex, node_ex}
use Rattle.ess_semantics.specs.Types.{Ty, type_of_dom, Tys, no_tys, more_tys, compound, int_ty, types_of_doms, any_ty, bool_ty, is_open}
use Rattle.ess_semantics.specs.Typing.{type_of, number_cell_ty}
use Rattle.ess_semantics.specs.Values.{Text, a_relation}
use Rattle.ess_kind_rules_laws.specs.KindRules.{KindRule, component_of_a_view, truth_in_a_matrix, asked_of_its_child, member_of_a_multiset, argument_with_a_flag, member_of_a_part, size_of_a_multiset, size_of_a_function, size_of_the_parts, frequency_by_cells, lie_together, party_by_number, truth_at_an_argument, truth_behind_a_flag, kind_rewrite}
use Rattle.ess_kind_types_laws.specs.SetsTyped.{IntsIn, has_no_table, SeenInts}
use Rattle.ess_refine_laws.specs.AllRules.{Supply}
use Rattle.ess_refine_laws.specs.MarksStay.{HasMarks}
use Rattle.ess_refine_laws.specs.TypesStay.{KeepsType}
use Rattle.ess_refine_types_laws.specs.MarksOfContainers.{IsNewTo}

-- The rules that offer no listing, those of views of sets apart.
abbrev pub has_no_listing : KindRule → Bool
has_no_listing component_of_a_view = true
has_no_listing truth_in_a_matrix = true
has_no_listing asked_of_its_child = true
has_no_listing member_of_a_multiset = true
has_no_listing argument_with_a_flag = true
has_no_listing member_of_a_part = true
has_no_listing size_of_a_multiset = true
has_no_listing size_of_a_function = true
has_no_listing size_of_the_parts = true
has_no_listing frequency_by_cells = true
has_no_listing lie_together = true
has_no_listing party_by_number = true
has_no_listing truth_at_an_argument = true
has_no_listing truth_behind_a_flag = true
has_no_listing r = false

-- ---- types of tables and of members

-- The cells of the view's first table are ints.
abbrev pub FirstInt : Names Ty → Ex → Type 0
FirstInt g (seen_ex r d (n ∷ ns) js) = number_cell_ty (look g n) ≡ int_ty
FirstInt g e = Unit {0}

-- So are those of its second one.
abbrev pub SecondInt : Names Ty → Ex → Type 0
SecondInt g (seen_ex r d (m ∷ n ∷ ns) js) = number_cell_ty (look g n) ≡ int_ty
SecondInt g e = Unit {0}

abbrev mutual
  -- Whether no part of the type is that of members of an empty literal, or a relation of unknown arity: it is the one with which all
  -- that agree with it agree.
  pub is_whole : Ty → Bool
  is_whole any_ty = false
  is_whole (compound k ts) = not (is_open k ts) && are_whole ts
  is_whole t = true

  -- The same of several types.
  pub are_whole : Tys → Bool
  are_whole no_tys = true
  are_whole (more_tys t ts) = is_whole t && are_whole ts

-- What a partition seen has parts of has such a type.
abbrev pub MembersWhole : Ex → Type 0
MembersWhole (seen_ex r (partition_dom ms es d) ns js) = is_whole (type_of_dom d) ≡ true
MembersWhole e = Unit {0}

-- The members of a function's first domain and of a partition are counted by ints.
abbrev pub CountedInts : Names Ty → Ex → Type 0
CountedInts g (seen_ex r (function_dom ms es d c) ns js) = IntsIn g d
CountedInts g (seen_ex r (partition_dom ms es d) ns js) = IntsIn g d
CountedInts g e = Unit {0}

-- A relation that is kept as the set of its tuples has a component, and the members of others are counted by ints.
abbrev pub KeptTyped : Names Ty → Ex → Type 0
KeptTyped g (seen_ex r (relation_dom ms es ds) ns js) = is_open a_relation (types_of_doms ds) ≡ false
KeptTyped g e = CountedInts g e

-- The name is new to the tree, and no table of the view has it.
abbrev pub IsNewBeside : Text → Ex → Ex → Type 0
IsNewBeside x e v = IsNewTo x e × (has_no_table x v ≡ true)

-- ---- what rules ask

-- What each rule asks.
abbrev pub KindsTyped : Supply → Names Ty → KindRule → Ex → Type 0
KindsTyped s g asked_of_its_child (ex2 true Op2.Member a (fun1 false Fun.ToRelation v)) = KeptTyped g v
KindsTyped s g asked_of_its_child (ex2 true Op2.Member a v) = KeptTyped g v
KindsTyped s g asked_of_its_child (ex1 false Op1.Bar (fun1 false Fun.Parts v)) = KeptTyped g v
KindsTyped s g asked_of_its_child (ex1 false Op1.Bar v) = KeptTyped g v
KindsTyped s g member_of_a_multiset (ex2 b o a v) = IsNewBeside s.one (ex2 b o a v) v × FirstInt g v
KindsTyped s g member_of_a_part e = IsNewTo s.one e
KindsTyped s g size_of_a_multiset (ex1 b o v) = IsNewBeside s.one v v × FirstInt g v × SeenInts g v
KindsTyped s g size_of_a_function (ex1 b o v) = CountedInts g v
KindsTyped s g size_of_the_parts (ex1 b o (fun1 c f v)) = FirstInt g v
KindsTyped s g frequency_by_cells (node_ex b op (more_exs v es)) =
    IsNewBeside s.one (node_ex b op (more_exs v es)) v × FirstInt g v × SeenInts g v
KindsTyped s g lie_together (node_ex b op (more_exs p (more_exs v es))) =
    IsNewBeside s.one (node_ex b op (more_exs p (more_exs v es))) v × IsNewBeside s.other (node_ex b op (more_exs p (more_exs v es))) v
    × (same_text s.other s.one ≡ false) × FirstInt g v × SecondInt g v × CountedInts g v
KindsTyped s g party_by_number (node_ex b op (more_exs a (more_exs v es))) = SecondInt g v × CountedInts g v × MembersWhole v
KindsTyped s g truth_behind_a_flag e = type_of e g ≡ Some bool_ty
KindsTyped s g r e = Unit {0}

-- ---- what is said

-- So each of these rules keeps the type where it fires.
abbrev pub KindRulesKeepTypes : Type 0
KindRulesKeepTypes = (s : Supply) (g : Names Ty) (r : KindRule) (e f : Ex) → kind_rewrite s g r e ≡ Some f → has_no_listing r ≡ true →
    KindsTyped s g r e → KeepsType g e f

-- And marks, where what it rewrites has a type.
abbrev pub KindRulesKeepMarks : Type 0
KindRulesKeepMarks = (s : Supply) (g : Names Ty) (r : KindRule) (e f : Ex) → kind_rewrite s g r e ≡ Some f → has_no_listing r ≡ true →
    KindsTyped s g r e → (t : Ty) → type_of e g ≡ Some t → HasMarks e g → HasMarks f g
