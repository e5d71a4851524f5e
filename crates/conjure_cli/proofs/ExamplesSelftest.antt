-- Worked examples of the definitions.
use Rattle.std.specs.Prelude.{◌≡◌, ℕ, refl, true, false, List, [], ◌∷◌, ◌++◌, codes, pos, zero, suc}
use Rattle.std.specs.Fmt.{digits}
use Rattle.ess_semantics.specs.Trees.{Ex, Stm, let_ex, number_ex, node_ex, set_literal, no_exs, more_exs}
use Rattle.ess_domains.specs.declared.verdicts.Verdict.{Verdict}
use Rattle.conjure_modelling.specs.declared.refusal.ModelNo.{ModelNo}
use Rattle.conjure_cli.specs.Texts.{pairs, value, is_member, set_line, specification_text}
use Rattle.conjure_cli.specs.CellTexts.{separator, occurrence_line, values_line}
use Rattle.conjure_cli.specs.Members.{set_name, set_members, all_members}
use Rattle.conjure_cli.specs.Counted.{is_valid, IsToldOfModel}
use Rattle.conjure_cli.specs.Line.{text_of_counts}

-- ---- numbers

one_set : pairs 0 ≡ 1
one_set = refl

as_many_sets_as_can_be : pairs 99 ≡ 100
as_many_sets_as_can_be = refl

one_set_again : pairs 100 ≡ 1
one_set_again = refl

value_of_the_first_function : value 0 1 ≡ 1
value_of_the_first_function = refl

values_begin_again : value 99 1 ≡ 0
values_begin_again = refl

three_is_a_member : is_member 0 1 3 ≡ true
three_is_a_member = refl

four_is_none : is_member 0 1 4 ≡ false
four_is_none = refl

all_are_members : is_member 99 3 20 ≡ true
all_are_members = refl

-- ---- texts

line_of_a_set : set_line 12 ≡ codes "find s12 : set of int(1..n)\n"
unfolding digits
line_of_a_set = refl

specification_of_zero : specification_text 0 ≡
    codes "language Essence 1.3\ngiven n : int(1..)\nfind s1 : set of int(1..n)\n"
    ++ codes "find f1 : function int(1..n) --> int(0..9)\nsuch that forAll i in s1 . f1(i) = 1\n"
unfolding digits
specification_of_zero = refl

no_comma_before_the_first : separator 1 ≡ []
no_comma_before_the_first = refl

comma_before_the_second : separator 2 ≡ codes ", "
comma_before_the_second = refl

every_third_number : occurrence_line 0 1 ≡
    codes "letting s1_Occurrence be [false, false, true, false, false, true, false, false, true, false, "
    ++ codes "false, true, false, false, true, false, false, true, false, false; int(1..20)]\n"
unfolding digits
every_third_number = refl

values_at_the_members : values_line 0 1 ≡ codes
    "letting f1_Function1DPartial_Values be [0, 0, 1, 0, 0, 1, 0, 0, 1, 0, 0, 1, 0, 0, 1, 0, 0, 1, 0, 0; int(1..20)]\n"
unfolding digits
values_at_the_members = refl

-- ---- members

-- a set of two numbers
two_numbers : ℕ → ℕ → Ex
two_numbers a b = node_ex false set_literal (more_exs (number_ex (pos a)) (more_exs (number_ex (pos b)) no_exs))

-- a file of two sets and one more letting
file : List Stm
file = let_ex (codes "s2") (two_numbers 5 5) ∷ let_ex (codes "s1") (two_numbers 3 6) ∷ let_ex (codes "f1") (number_ex (pos 4)) ∷ []

name_of_a_set : set_name 10 ≡ codes "s10"
unfolding digits
name_of_a_set = refl

two_members : set_members file 1 ≡ 2
unfolding digits file two_numbers
two_members = refl

member_is_counted_once : set_members file 2 ≡ 1
unfolding digits file two_numbers
member_is_counted_once = refl

no_such_set : set_members file 3 ≡ 0
unfolding digits file two_numbers
no_such_set = refl

three_members_in_all : all_members file (suc (suc zero)) ≡ 3
unfolding digits file two_numbers
three_members_in_all = refl

-- ---- what isn't counted

no_other_verdict_is_valid : is_valid Verdict.NoObjective ≡ false
no_other_verdict_is_valid = refl

memory_is_no_refusal : IsToldOfModel ModelNo.NoMemory → ⊥
memory_is_no_refusal h = h

-- ---- the line

line_of_zero : text_of_counts (record { statements = 4; cells = 60; constraints = 2; members = 6 })
    ≡ codes "statements 4, cells 60, constraints 2, members 6"
unfolding digits
line_of_zero = refl
