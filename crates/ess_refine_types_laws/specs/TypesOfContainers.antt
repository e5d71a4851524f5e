-- Rules of membership, inclusion, equality, frequencies and lists that keep types at the root.
use Rattle.std.specs.Prelude.{◌≡◌, Bool, true, false, Some, IsTrue, is_some}
use Rattle.ess_semantics.specs.Lists.{and_then}
use Rattle.ess_semantics.specs.Names.{Names}
use Rattle.ess_semantics.specs.Trees.{Ex, node_ex, ex2, no_exs, more_exs}
use Rattle.ess_semantics.specs.Types.{Ty}
use Rattle.ess_semantics.specs.OperatorTypes.{member_ty}
use Rattle.ess_semantics.specs.Typing.{type_of}
use Rattle.ess_rules_laws.specs.InclusionRules.{both_msets}
use Rattle.ess_refine_laws.specs.TypesStay.{KeepsType}
use Rattle.ess_refine_laws.specs.AllRules.{Rule, included_sets, included_multisets, equal_sets, equal_multisets, equal_functions, equal_partitions, in_two, in_one_made_of_another, in_what_a_function_has, in_its_pairs, in_a_term, frequency, together, lists_on_both_sides, all_different, Supply, rewrite}
use Rattle.ess_refine_types_laws.specs.TypeNames.{IsUntyped}

-- Rules that are shown to keep types.
abbrev pub is_of_containers : Rule → Bool
is_of_containers included_sets = true
is_of_containers included_multisets = true
is_of_containers equal_sets = true
is_of_containers equal_multisets = true
is_of_containers equal_functions = true
is_of_containers equal_partitions = true
is_of_containers in_two = true
is_of_containers in_one_made_of_another = true
is_of_containers in_what_a_function_has = true
is_of_containers in_its_pairs = true
is_of_containers in_a_term = true
is_of_containers frequency = true
is_of_containers together = true
is_of_containers lists_on_both_sides = true
is_of_containers all_different = true
is_of_containers r = false

-- The type is one whose values have members, where the expression has one.
abbrev pub HasMemberType : Names Ty → Ex → Type 0
HasMemberType g e = IsTrue (is_some (and_then (type_of e g) member_ty))

-- Both operands have such types.
abbrev pub BothHaveMembers : Names Ty → Ex → Type 0
BothHaveMembers g (ex2 m o a b) = HasMemberType g a × HasMemberType g b
BothHaveMembers g e = Unit {0}

-- Both terms of the combination of which `in` asks have such types.
abbrev pub CombinedHaveMembers : Names Ty → Ex → Type 0
CombinedHaveMembers g (ex2 m o x (ex2 n p a b)) = HasMemberType g a × HasMemberType g b
CombinedHaveMembers g e = Unit {0}

-- Both operands of `together` have such types.
abbrev pub PartsHaveMembers : Names Ty → Ex → Type 0
PartsHaveMembers g (node_ex b op (more_exs s (more_exs p no_exs))) = HasMemberType g s × HasMemberType g p
PartsHaveMembers g e = Unit {0}

-- Both operands are multisets.
abbrev pub AreMultisets : Names Ty → Ex → Type 0
AreMultisets g (ex2 m o a b) = both_msets (type_of a g) (type_of b g) ≡ true
AreMultisets g e = Unit {0}

-- What they count on: containers that are compared or combined have members; and the rule of multisets, which comes after that of sets, is tried at
-- multisets.
abbrev pub MembersTold : Names Ty → Rule → Ex → Type 0
MembersTold g included_sets e = BothHaveMembers g e
MembersTold g included_multisets e = BothHaveMembers g e × AreMultisets g e
MembersTold g equal_sets e = BothHaveMembers g e
MembersTold g equal_multisets e = BothHaveMembers g e
MembersTold g equal_functions e = BothHaveMembers g e
MembersTold g equal_partitions e = BothHaveMembers g e
MembersTold g in_two e = CombinedHaveMembers g e
MembersTold g together e = PartsHaveMembers g e
MembersTold g lists_on_both_sides e = BothHaveMembers g e
MembersTold g r e = Unit {0}

-- So each of them keeps the type where it fires and the name that it binds is new.
abbrev pub ContainerRulesKeepTypes : Type 0
ContainerRulesKeepTypes = (s : Supply) (g : Names Ty) (r : Rule) (e f : Ex) → rewrite s g r e ≡ Some f → is_of_containers r ≡ true →
    IsUntyped s.one e → MembersTold g r e → KeepsType g e f
