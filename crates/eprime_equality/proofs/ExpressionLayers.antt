-- One layer of an expression of a model, a list, a generator, a domain or a range whose own parts `==` knows: `==` knows the whole.
use Rattle.std.proofs.Common.{sym, subst, Bool, true, ◌&&◌, None, Some, int_eq}
use Rattle.std.specs.Option.{option_eq}
use Rattle.std.specs.Cmp.Lexicographic.{pointwise}
use mathlib.Core.Bool.{beq}
use denote.Enum.Declared.{Choice}
use denote.Enum.Compared.{Each}
use Rattle.ess_core_equality.proofs.Known.{Knows, Known, known_none, known_last, known_field, known_text, known_bool, known_int, known_row}
use Rattle.ess_core_equality.proofs.Known.{known_no, known_some, Chooses, here, later, later5, ◌▹◌, known_enum, text_same}
use Rattle.eprime_equality.proofs.KnownWords.{op1_same, op2_same, fun_same, known_op1, known_op2, known_fun}
use Rattle.eprime_tree.specs.declared.expressions.PDom.{PDom}
use Rattle.eprime_tree.specs.declared.expressions.PEx.{PEx}
use Rattle.eprime_tree.specs.declared.expressions.PGen.{PGen}
use Rattle.eprime_tree.specs.declared.expressions.PList.{PList}
use Rattle.eprime_tree.specs.declared.expressions.PRange.{PRange}
use Rattle.eprime_tree.specs.declared.expressions.PDom.TheOpen.{PDom-F, PEx-F, PGen-F, PList-F, PRange-F}
use Rattle.eprime_tree.specs.declared.expressions.PDom.TheBlock.{the_family, join-PDom, join-PEx, join-PGen, join-PList, join-PRange}
use Rattle.eprime_tree.specs.declared.expressions.PDom.TheViews.{roll-PDom, whole-PDom, whole_is-PDom, parts_whole-PDom}
use Rattle.eprime_tree.specs.declared.expressions.PDom.TheViews.{roll-PEx, whole-PEx, whole_is-PEx, parts_whole-PEx}
use Rattle.eprime_tree.specs.declared.expressions.PDom.TheViews.{roll-PGen, whole-PGen, whole_is-PGen, parts_whole-PGen}
use Rattle.eprime_tree.specs.declared.expressions.PDom.TheViews.{roll-PList, whole-PList, whole_is-PList, parts_whole-PList}
use Rattle.eprime_tree.specs.declared.expressions.PDom.TheViews.{roll-PRange, whole-PRange, whole_is-PRange, parts_whole-PRange}
use Rattle.eprime_tree.specs.declared.expressions.PDom.TheFolds.{map-PDom, map-PEx, map-PGen, map-PList, map-PRange}
use Rattle.eprime_tree.specs.contracts.expressions.PDom as dom_of
use Rattle.eprime_tree.specs.contracts.expressions.PEx as ex_of
use Rattle.eprime_tree.specs.contracts.expressions.PGen as gen_of
use Rattle.eprime_tree.specs.contracts.expressions.PList as list_of
use Rattle.eprime_tree.specs.contracts.expressions.PRange as range_of
use Rattle.eprime_tree.specs.contracts.expressions.PDomPartialEq.TheImpl as dom_test
use Rattle.eprime_tree.specs.contracts.expressions.PExPartialEq.TheImpl as ex_test
use Rattle.eprime_tree.specs.contracts.expressions.PGenPartialEq.TheImpl as gen_test
use Rattle.eprime_tree.specs.contracts.expressions.PListPartialEq.TheImpl as list_test
use Rattle.eprime_tree.specs.contracts.expressions.PRangePartialEq.TheImpl as range_test
use Rattle.eprime_tree.specs.contracts.expressions.PDomPartialEq.TheImpl.Laws as dom_laws
use Rattle.eprime_tree.specs.contracts.expressions.PExPartialEq.TheImpl.Laws as ex_laws
use Rattle.eprime_tree.specs.contracts.expressions.PGenPartialEq.TheImpl.Laws as gen_laws
use Rattle.eprime_tree.specs.contracts.expressions.PListPartialEq.TheImpl.Laws as list_laws
use Rattle.eprime_tree.specs.contracts.expressions.PRangePartialEq.TheImpl.Laws as range_laws

-- ---- the derived tests

-- Of domains.
abbrev pub dom_same : PDom → PDom → Bool
dom_same = dom_test.ghosts.eq

-- Of expressions.
abbrev pub ex_same : PEx → PEx → Bool
ex_same = ex_test.ghosts.eq

-- Of generators and conditions.
abbrev pub gen_same : PGen → PGen → Bool
gen_same = gen_test.ghosts.eq

-- Of lists.
abbrev pub list_same : PList → PList → Bool
list_same = list_test.ghosts.eq

-- Of ranges.
abbrev pub range_same : PRange → PRange → Bool
range_same = range_test.ghosts.eq

-- ---- one layer, with parts that are known

-- One layer over known parts.
abbrev pub Of_known : (Type 0 → Type 0 → Type 0 → Type 0 → Type 0 → Type 0) → Type 0
Of_known F = F (Known PDom dom_same) (Known PEx ex_same) (Known PGen gen_same) (Known PList list_same) (Known PRange range_same)

-- One layer over parts alone.
abbrev pub Of_trees : (Type 0 → Type 0 → Type 0 → Type 0 → Type 0 → Type 0) → Type 0
Of_trees F = F PDom PEx PGen PList PRange

-- The layer without what is known of its parts: of a domain, an expression, a generator, a list, a range.
abbrev pub of_dom : Of_known PDom-F → Of_trees PDom-F
of_dom = map-PDom _ _ _ _ _ _ _ _ _ _ (λ e. e.0) (λ e. e.0) (λ e. e.0) (λ e. e.0) (λ e. e.0)

abbrev pub of_ex : Of_known PEx-F → Of_trees PEx-F
of_ex = map-PEx _ _ _ _ _ _ _ _ _ _ (λ e. e.0) (λ e. e.0) (λ e. e.0) (λ e. e.0) (λ e. e.0)

abbrev pub of_gen : Of_known PGen-F → Of_trees PGen-F
of_gen = map-PGen _ _ _ _ _ _ _ _ _ _ (λ e. e.0) (λ e. e.0) (λ e. e.0) (λ e. e.0) (λ e. e.0)

abbrev pub of_list : Of_known PList-F → Of_trees PList-F
of_list = map-PList _ _ _ _ _ _ _ _ _ _ (λ e. e.0) (λ e. e.0) (λ e. e.0) (λ e. e.0) (λ e. e.0)

abbrev pub of_range : Of_known PRange-F → Of_trees PRange-F
of_range = map-PRange _ _ _ _ _ _ _ _ _ _ (λ e. e.0) (λ e. e.0) (λ e. e.0) (λ e. e.0) (λ e. e.0)

-- ---- domains

abbrev dom_tests : Each Bool dom_of.enum.parts
dom_tests =
    (λ a b. true) ▹
    (λ a b. pointwise range_same a.0 b.0) ▹
    tt

layer_dom : (c : Choice dom_of.enum.parts) → Chooses dom_of.enum.parts dom_tests c → Knows dom_same (roll-PDom (join-PDom the_family c))
layer_dom c k = subst (Knows dom_same) (whole_is-PDom c) (known_enum dom_of.enum dom_tests dom_laws.is (whole-PDom c)
    (subst (Chooses dom_of.enum.parts dom_tests) (sym (parts_whole-PDom c)) k))

-- A domain of known ranges is known.
pub made_dom : (y : Of_known PDom-F) → Knows dom_same (roll-PDom (of_dom y))
made_dom PDom-F.Bool = layer_dom _ (here known_none)
made_dom (PDom-F.Int a) = layer_dom _ (later (here (known_last (known_row a))))

-- ---- ranges

abbrev range_tests : Each Bool range_of.enum.parts
range_tests =
    (λ a b. ex_same a.0 b.0) ▹
    (λ a b. option_eq ex_same a.0 b.0 && option_eq ex_same a.1.0 b.1.0) ▹
    tt

layer_range : (c : Choice range_of.enum.parts) → Chooses range_of.enum.parts range_tests c
    → Knows range_same (roll-PRange (join-PRange the_family c))
layer_range c k = subst (Knows range_same) (whole_is-PRange c) (known_enum range_of.enum range_tests range_laws.is (whole-PRange c)
    (subst (Chooses range_of.enum.parts range_tests) (sym (parts_whole-PRange c)) k))

-- A range of known bounds is known.
pub made_range : (y : Of_known PRange-F) → Knows range_same (roll-PRange (of_range y))
made_range (PRange-F.PRange::One a) = layer_range _ (here (known_last a.1))
made_range (PRange-F.Span None None) = layer_range _ (later (here (known_field known_no (known_last known_no))))
made_range (PRange-F.Span None (Some b)) = layer_range _ (later (here (known_field known_no (known_last (known_some b.1)))))
made_range (PRange-F.Span (Some a) None) = layer_range _ (later (here (known_field (known_some a.1) (known_last known_no))))
made_range (PRange-F.Span (Some a) (Some b)) =
    layer_range _ (later (here (known_field (known_some a.1) (known_last (known_some b.1)))))

-- ---- expressions

abbrev ex_tests : Each Bool ex_of.enum.parts
ex_tests =
    (λ a b. int_eq a.0 b.0) ▹
    (λ a b. beq a.0 b.0) ▹
    (λ a b. text_same a.0 b.0) ▹
    (λ a b. text_same a.0 b.0 && pointwise ex_same a.1.0 b.1.0) ▹
    (λ a b. op1_same a.0 b.0 && ex_same a.1.0 b.1.0) ▹
    (λ a b. op2_same a.0 b.0 && (ex_same a.1.0 b.1.0 && ex_same a.1.1.0 b.1.1.0)) ▹
    (λ a b. fun_same a.0 b.0 && list_same a.1.0 b.1.0) ▹
    (λ a b. op2_same a.0 b.0 && (list_same a.1.0 b.1.0 && list_same a.1.1.0 b.1.1.0)) ▹
    tt

layer_ex : (c : Choice ex_of.enum.parts) → Chooses ex_of.enum.parts ex_tests c → Knows ex_same (roll-PEx (join-PEx the_family c))
layer_ex c k = subst (Knows ex_same) (whole_is-PEx c) (known_enum ex_of.enum ex_tests ex_laws.is (whole-PEx c)
    (subst (Chooses ex_of.enum.parts ex_tests) (sym (parts_whole-PEx c)) k))

-- An expression of known parts is known.
pub made_ex : (y : Of_known PEx-F) → Knows ex_same (roll-PEx (of_ex y))
made_ex (PEx-F.Num a) = layer_ex _ (here (known_last (known_int a)))
made_ex (PEx-F.Truth a) = layer_ex _ (later (here (known_last (known_bool a))))
made_ex (PEx-F.Name a) = layer_ex _ (later (later (here (known_last (known_text a)))))
made_ex (PEx-F.Cell a b) = layer_ex _ (later (later (later (here (known_field (known_text a) (known_last (known_row b)))))))
made_ex (PEx-F.PEx::One a b) = layer_ex _ (later (later (later (later (here (known_field (known_op1 a) (known_last b.1)))))))
made_ex (PEx-F.Two a b c) = layer_ex _ (later5 (here (known_field (known_op2 a) (known_field b.1 (known_last c.1)))))
made_ex (PEx-F.Fold a b) = layer_ex _ (later5 (later (here (known_field (known_fun a) (known_last b.1)))))
made_ex (PEx-F.Lex a b c) = layer_ex _ (later5 (later (later (here (known_field (known_op2 a) (known_field b.1 (known_last c.1)))))))

-- ---- lists, generators and conditions

abbrev list_tests : Each Bool list_of.enum.parts
list_tests =
    (λ a b. pointwise ex_same a.0 b.0) ▹
    (λ a b. ex_same a.0 b.0 && pointwise gen_same a.1.0 b.1.0) ▹
    tt

layer_list : (c : Choice list_of.enum.parts) → Chooses list_of.enum.parts list_tests c
    → Knows list_same (roll-PList (join-PList the_family c))
layer_list c k = subst (Knows list_same) (whole_is-PList c) (known_enum list_of.enum list_tests list_laws.is (whole-PList c)
    (subst (Chooses list_of.enum.parts list_tests) (sym (parts_whole-PList c)) k))

-- A list of known parts is known.
pub made_list : (y : Of_known PList-F) → Knows list_same (roll-PList (of_list y))
made_list (PList-F.Items a) = layer_list _ (here (known_last (known_row a)))
made_list (PList-F.Comp a b) = layer_list _ (later (here (known_field a.1 (known_last (known_row b)))))

abbrev gen_tests : Each Bool gen_of.enum.parts
gen_tests =
    (λ a b. text_same a.0 b.0 && dom_same a.1.0 b.1.0) ▹
    (λ a b. ex_same a.0 b.0) ▹
    tt

layer_gen : (c : Choice gen_of.enum.parts) → Chooses gen_of.enum.parts gen_tests c → Knows gen_same (roll-PGen (join-PGen the_family c))
layer_gen c k = subst (Knows gen_same) (whole_is-PGen c) (known_enum gen_of.enum gen_tests gen_laws.is (whole-PGen c)
    (subst (Chooses gen_of.enum.parts gen_tests) (sym (parts_whole-PGen c)) k))

-- A generator over a known domain is known, and so is a known condition.
pub made_gen : (y : Of_known PGen-F) → Knows gen_same (roll-PGen (of_gen y))
made_gen (PGen-F.Over a b) = layer_gen _ (here (known_field (known_text a) (known_last b.1)))
made_gen (PGen-F.If a) = layer_gen _ (later (here (known_last a.1)))
