-- One layer of an expression, a domain or a part of these, whose own parts `==` knows: `==` knows the whole.
use Rattle.std.proofs.Common.{sym, subst, Bool, true, ◌&&◌, Option, None, Some, nat_eq, int_eq}
use Rattle.std.specs.Option.{option_eq}
use Rattle.std.specs.Cmp.Lexicographic.{pointwise}
use mathlib.Core.Bool.{beq}
use denote.Enum.Declared.{Choice}
use denote.Enum.Compared.{Each}
use Rattle.ess_core_equality.proofs.Known.{Knows, Known, known_none, known_last, known_field, known_struct, known_text, known_texts, known_bool, known_int, known_nat, known_row, known_no, known_some, Chooses, here, later, later5, ◌▹◌, known_enum, text_same}
use Rattle.ess_core_equality.proofs.KnownWords.{op1_same, op2_same, fun_same, known_op1, known_op2, known_fun, known_key}
use Rattle.ess_core_equality.proofs.KnownPatterns.{pat_same, known_pat}
use Rattle.ess_core_equality.proofs.KnownRepresentations.{known_repr}
use Rattle.ess_semantics.specs.declared.words.Key.{Key}
use Rattle.ess_core.specs.declared.domains.Dom.{Dom}
use Rattle.ess_core.specs.declared.domains.Range.{Range}
use Rattle.ess_core.specs.declared.expressions.Ex.{Ex}
use Rattle.ess_core.specs.declared.expressions.Gen.{Gen}
use Rattle.ess_core.specs.declared.expressions.Step.{Step}
use Rattle.ess_core.specs.declared.domains.Attr.{Attr}
use Rattle.ess_core.specs.declared.domains.FieldDom.{FieldDom}
use Rattle.ess_core.specs.declared.expressions.FieldEx.{FieldEx}
use Rattle.ess_core.specs.declared.expressions.PairEx.{PairEx}
use Rattle.ess_core.specs.declared.expressions.View.{View}
use Rattle.ess_core.specs.declared.domains.Dom.TheOpen.{Dom-F, Range-F, Ex-F, Gen-F, Step-F, Attr-F, FieldDom-F, FieldEx-F, PairEx-F, View-F}
use Rattle.ess_core.specs.declared.domains.Dom.TheBlock.{the_family, join-Dom, join-Range, join-Ex, join-Gen, join-Step}
use Rattle.ess_core.specs.declared.domains.Dom.TheViews.{roll-Dom, whole-Dom, whole_is-Dom, parts_whole-Dom, roll-Range, whole-Range, whole_is-Range, parts_whole-Range, roll-Ex, whole-Ex, whole_is-Ex, parts_whole-Ex, roll-Gen, whole-Gen, whole_is-Gen, parts_whole-Gen, roll-Step, whole-Step, whole_is-Step, parts_whole-Step, roll-Attr, parts-Attr, whole-Attr, whole_parts-Attr, parts_whole-Attr, roll-FieldDom, parts-FieldDom, whole-FieldDom, whole_parts-FieldDom, parts_whole-FieldDom, roll-FieldEx, parts-FieldEx, whole-FieldEx, whole_parts-FieldEx, parts_whole-FieldEx, roll-PairEx, parts-PairEx, whole-PairEx, whole_parts-PairEx, parts_whole-PairEx, roll-View, parts-View, whole-View, whole_parts-View, parts_whole-View}
use Rattle.ess_core.specs.declared.domains.Dom.TheFolds.{map-Dom, map-Range, map-Ex, map-Gen, map-Step, map-Attr, map-FieldDom, map-FieldEx, map-PairEx, map-View}
use Rattle.ess_core.specs.contracts.domains.Dom as dom_of
use Rattle.ess_core.specs.contracts.domains.Range as range_of
use Rattle.ess_core.specs.contracts.expressions.Ex as ex_of
use Rattle.ess_core.specs.contracts.expressions.Gen as gen_of
use Rattle.ess_core.specs.contracts.expressions.Step as step_of
use Rattle.ess_core.specs.contracts.domains.DomPartialEq.TheImpl as dom_test
use Rattle.ess_core.specs.contracts.domains.RangePartialEq.TheImpl as range_test
use Rattle.ess_core.specs.contracts.expressions.ExPartialEq.TheImpl as ex_test
use Rattle.ess_core.specs.contracts.expressions.GenPartialEq.TheImpl as gen_test
use Rattle.ess_core.specs.contracts.expressions.StepPartialEq.TheImpl as step_test
use Rattle.ess_core.specs.contracts.domains.AttrPartialEq.TheImpl as attr_test
use Rattle.ess_core.specs.contracts.domains.FieldDomPartialEq.TheImpl as field_dom_test
use Rattle.ess_core.specs.contracts.expressions.FieldExPartialEq.TheImpl as field_ex_test
use Rattle.ess_core.specs.contracts.expressions.PairExPartialEq.TheImpl as pair_ex_test
use Rattle.ess_core.specs.contracts.expressions.ViewPartialEq.TheImpl as view_test
use Rattle.ess_core.specs.contracts.domains.DomPartialEq.TheImpl.Laws as dom_laws
use Rattle.ess_core.specs.contracts.domains.RangePartialEq.TheImpl.Laws as range_laws
use Rattle.ess_core.specs.contracts.expressions.ExPartialEq.TheImpl.Laws as ex_laws
use Rattle.ess_core.specs.contracts.expressions.GenPartialEq.TheImpl.Laws as gen_laws
use Rattle.ess_core.specs.contracts.expressions.StepPartialEq.TheImpl.Laws as step_laws
use Rattle.ess_core.specs.contracts.domains.AttrPartialEq.TheImpl.Laws as attr_laws
use Rattle.ess_core.specs.contracts.domains.FieldDomPartialEq.TheImpl.Laws as field_dom_laws
use Rattle.ess_core.specs.contracts.expressions.FieldExPartialEq.TheImpl.Laws as field_ex_laws
use Rattle.ess_core.specs.contracts.expressions.PairExPartialEq.TheImpl.Laws as pair_ex_laws
use Rattle.ess_core.specs.contracts.expressions.ViewPartialEq.TheImpl.Laws as view_laws

-- ---- the derived tests

abbrev pub dom_same : Dom → Dom → Bool
dom_same = dom_test.ghosts.eq

abbrev pub range_same : Range → Range → Bool
range_same = range_test.ghosts.eq

abbrev pub ex_same : Ex → Ex → Bool
ex_same = ex_test.ghosts.eq

abbrev pub gen_same : Gen → Gen → Bool
gen_same = gen_test.ghosts.eq

abbrev pub step_same : Step → Step → Bool
step_same = step_test.ghosts.eq

abbrev pub attr_same : Attr → Attr → Bool
attr_same = attr_test.ghosts.eq

abbrev pub field_dom_same : FieldDom → FieldDom → Bool
field_dom_same = field_dom_test.ghosts.eq

abbrev pub field_ex_same : FieldEx → FieldEx → Bool
field_ex_same = field_ex_test.ghosts.eq

abbrev pub pair_ex_same : PairEx → PairEx → Bool
pair_ex_same = pair_ex_test.ghosts.eq

abbrev pub view_same : View → View → Bool
view_same = view_test.ghosts.eq

-- ---- one layer, with parts that are known

-- One layer over known parts, and over parts alone.
abbrev pub Of_known : (Type 0 → Type 0 → Type 0 → Type 0 → Type 0 → Type 0 → Type 0 → Type 0 → Type 0 → Type 0 → Type 0) → Type 0
Of_known F = F (Known Dom dom_same) (Known Range range_same) (Known Ex ex_same) (Known Gen gen_same) (Known Step step_same) (Known Attr attr_same) (Known FieldDom field_dom_same) (Known FieldEx field_ex_same) (Known PairEx pair_ex_same) (Known View view_same)

abbrev pub Of_trees : (Type 0 → Type 0 → Type 0 → Type 0 → Type 0 → Type 0 → Type 0 → Type 0 → Type 0 → Type 0 → Type 0) → Type 0
Of_trees F = F Dom Range Ex Gen Step Attr FieldDom FieldEx PairEx View

abbrev pub of_dom : Of_known Dom-F → Of_trees Dom-F
of_dom = map-Dom _ _ _ _ _ _ _ _ _ _ _ _ _ _ _ _ _ _ _ _ (λ e. e.0) (λ e. e.0) (λ e. e.0) (λ e. e.0) (λ e. e.0) (λ e. e.0) (λ e. e.0) (λ e. e.0) (λ e. e.0) (λ e. e.0)

abbrev pub of_range : Of_known Range-F → Of_trees Range-F
of_range = map-Range _ _ _ _ _ _ _ _ _ _ _ _ _ _ _ _ _ _ _ _ (λ e. e.0) (λ e. e.0) (λ e. e.0) (λ e. e.0) (λ e. e.0) (λ e. e.0) (λ e. e.0) (λ e. e.0) (λ e. e.0) (λ e. e.0)

abbrev pub of_ex : Of_known Ex-F → Of_trees Ex-F
of_ex = map-Ex _ _ _ _ _ _ _ _ _ _ _ _ _ _ _ _ _ _ _ _ (λ e. e.0) (λ e. e.0) (λ e. e.0) (λ e. e.0) (λ e. e.0) (λ e. e.0) (λ e. e.0) (λ e. e.0) (λ e. e.0) (λ e. e.0)

abbrev pub of_gen : Of_known Gen-F → Of_trees Gen-F
of_gen = map-Gen _ _ _ _ _ _ _ _ _ _ _ _ _ _ _ _ _ _ _ _ (λ e. e.0) (λ e. e.0) (λ e. e.0) (λ e. e.0) (λ e. e.0) (λ e. e.0) (λ e. e.0) (λ e. e.0) (λ e. e.0) (λ e. e.0)

abbrev pub of_step : Of_known Step-F → Of_trees Step-F
of_step = map-Step _ _ _ _ _ _ _ _ _ _ _ _ _ _ _ _ _ _ _ _ (λ e. e.0) (λ e. e.0) (λ e. e.0) (λ e. e.0) (λ e. e.0) (λ e. e.0) (λ e. e.0) (λ e. e.0) (λ e. e.0) (λ e. e.0)

abbrev pub of_attr : Of_known Attr-F → Of_trees Attr-F
of_attr = map-Attr _ _ _ _ _ _ _ _ _ _ _ _ _ _ _ _ _ _ _ _ (λ e. e.0) (λ e. e.0) (λ e. e.0) (λ e. e.0) (λ e. e.0) (λ e. e.0) (λ e. e.0) (λ e. e.0) (λ e. e.0) (λ e. e.0)

abbrev pub of_field_dom : Of_known FieldDom-F → Of_trees FieldDom-F
of_field_dom = map-FieldDom _ _ _ _ _ _ _ _ _ _ _ _ _ _ _ _ _ _ _ _ (λ e. e.0) (λ e. e.0) (λ e. e.0) (λ e. e.0) (λ e. e.0) (λ e. e.0) (λ e. e.0) (λ e. e.0) (λ e. e.0) (λ e. e.0)

abbrev pub of_field_ex : Of_known FieldEx-F → Of_trees FieldEx-F
of_field_ex = map-FieldEx _ _ _ _ _ _ _ _ _ _ _ _ _ _ _ _ _ _ _ _ (λ e. e.0) (λ e. e.0) (λ e. e.0) (λ e. e.0) (λ e. e.0) (λ e. e.0) (λ e. e.0) (λ e. e.0) (λ e. e.0) (λ e. e.0)

abbrev pub of_pair_ex : Of_known PairEx-F → Of_trees PairEx-F
of_pair_ex = map-PairEx _ _ _ _ _ _ _ _ _ _ _ _ _ _ _ _ _ _ _ _ (λ e. e.0) (λ e. e.0) (λ e. e.0) (λ e. e.0) (λ e. e.0) (λ e. e.0) (λ e. e.0) (λ e. e.0) (λ e. e.0) (λ e. e.0)

abbrev pub of_view : Of_known View-F → Of_trees View-F
of_view = map-View _ _ _ _ _ _ _ _ _ _ _ _ _ _ _ _ _ _ _ _ (λ e. e.0) (λ e. e.0) (λ e. e.0) (λ e. e.0) (λ e. e.0) (λ e. e.0) (λ e. e.0) (λ e. e.0) (λ e. e.0) (λ e. e.0)

abbrev dom_tests : Each Bool dom_of.enum.parts
dom_tests =
    (λ a b. true) ▹
    (λ a b. pointwise range_same a.0 b.0) ▹
    (λ a b. text_same a.0 b.0) ▹
    (λ a b. pointwise dom_same a.0 b.0) ▹
    (λ a b. pointwise field_dom_same a.0 b.0) ▹
    (λ a b. pointwise dom_same a.0 b.0 && dom_same a.1.0 b.1.0) ▹
    (λ a b. pointwise attr_same a.0 b.0 && dom_same a.1.0 b.1.0) ▹
    (λ a b. pointwise attr_same a.0 b.0 && dom_same a.1.0 b.1.0) ▹
    (λ a b. pointwise attr_same a.0 b.0 && (dom_same a.1.0 b.1.0 && dom_same a.1.1.0 b.1.1.0)) ▹
    (λ a b. pointwise attr_same a.0 b.0 && pointwise dom_same a.1.0 b.1.0) ▹
    (λ a b. pointwise attr_same a.0 b.0 && dom_same a.1.0 b.1.0) ▹
    tt

layer_dom : (c : Choice dom_of.enum.parts) → Chooses dom_of.enum.parts dom_tests c → Knows dom_same (roll-Dom (join-Dom the_family c))
layer_dom c k = subst (Knows dom_same) (whole_is-Dom c) (known_enum dom_of.enum dom_tests dom_laws.is (whole-Dom c) (subst (Chooses dom_of.enum.parts dom_tests) (sym (parts_whole-Dom c)) k))

pub made_dom : (y : Of_known Dom-F) → Knows dom_same (roll-Dom (of_dom y))
made_dom Dom-F.Bool = layer_dom _ (here known_none)
made_dom (Dom-F.Int a) = layer_dom _ (later (here (known_last (known_row a))))
made_dom (Dom-F.Dom::Name a) = layer_dom _ (later (later (here (known_last (known_text a)))))
made_dom (Dom-F.Dom::Tuple a) = layer_dom _ (later (later (later (here (known_last (known_row a))))))
made_dom (Dom-F.Dom::Rec a) = layer_dom _ (later (later (later (later (here (known_last (known_row a)))))))
made_dom (Dom-F.Dom::Matrix a b) = layer_dom _ (later5 (here (known_field (known_row a) (known_last b.1))))
made_dom (Dom-F.Dom::Set a b) = layer_dom _ (later5 (later (here (known_field (known_row a) (known_last b.1)))))
made_dom (Dom-F.Dom::MSet a b) = layer_dom _ (later5 (later (later (here (known_field (known_row a) (known_last b.1))))))
made_dom (Dom-F.Dom::Function a b c) = layer_dom _ (later5 (later (later (later (here (known_field (known_row a) (known_field b.1 (known_last c.1))))))))
made_dom (Dom-F.Dom::Relation a b) = layer_dom _ (later5 (later (later (later (later (here (known_field (known_row a) (known_last (known_row b)))))))))
made_dom (Dom-F.Dom::Partition a b) = layer_dom _ (later5 (later5 (here (known_field (known_row a) (known_last b.1)))))

abbrev range_tests : Each Bool range_of.enum.parts
range_tests =
    (λ a b. ex_same a.0 b.0) ▹
    (λ a b. option_eq ex_same a.0 b.0 && option_eq ex_same a.1.0 b.1.0) ▹
    tt

layer_range : (c : Choice range_of.enum.parts) → Chooses range_of.enum.parts range_tests c → Knows range_same (roll-Range (join-Range the_family c))
layer_range c k = subst (Knows range_same) (whole_is-Range c) (known_enum range_of.enum range_tests range_laws.is (whole-Range c) (subst (Chooses range_of.enum.parts range_tests) (sym (parts_whole-Range c)) k))

pub made_range : (y : Of_known Range-F) → Knows range_same (roll-Range (of_range y))
made_range (Range-F.Range::One a) = layer_range _ (here (known_last a.1))
made_range (Range-F.Span None None) = layer_range _ (later (here (known_field known_no (known_last known_no))))
made_range (Range-F.Span None (Some b)) = layer_range _ (later (here (known_field known_no (known_last (known_some b.1)))))
made_range (Range-F.Span (Some a) None) = layer_range _ (later (here (known_field (known_some a.1) (known_last known_no))))
made_range (Range-F.Span (Some a) (Some b)) = layer_range _ (later (here (known_field (known_some a.1) (known_last (known_some b.1)))))

abbrev ex_tests : Each Bool ex_of.enum.parts
ex_tests =
    (λ a b. int_eq a.0 b.0) ▹
    (λ a b. beq a.0 b.0) ▹
    (λ a b. text_same a.0 b.0) ▹
    (λ a b. op1_same a.0 b.0 && ex_same a.1.0 b.1.0) ▹
    (λ a b. op2_same a.0 b.0 && (ex_same a.1.0 b.1.0 && ex_same a.1.1.0 b.1.1.0)) ▹
    (λ a b. beq a.0 b.0 && (fun_same a.1.0 b.1.0 && pointwise ex_same a.1.1.0 b.1.1.0)) ▹
    (λ a b. beq a.0 b.0 && (ex_same a.1.0 b.1.0 && pointwise step_same a.1.1.0 b.1.1.0)) ▹
    (λ a b. beq a.0 b.0 && (ex_same a.1.0 b.1.0 && pointwise ex_same a.1.1.0 b.1.1.0)) ▹
    (λ a b. pointwise ex_same a.0 b.0) ▹
    (λ a b. pointwise field_ex_same a.0 b.0) ▹
    (λ a b. pointwise ex_same a.0 b.0) ▹
    (λ a b. pointwise ex_same a.0 b.0) ▹
    (λ a b. pointwise pair_ex_same a.0 b.0) ▹
    (λ a b. pointwise ex_same a.0 b.0) ▹
    (λ a b. pointwise ex_same a.0 b.0) ▹
    (λ a b. pointwise ex_same a.0 b.0 && option_eq dom_same a.1.0 b.1.0) ▹
    (λ a b. ex_same a.0 b.0 && pointwise gen_same a.1.0 b.1.0) ▹
    (λ a b. beq a.0 b.0 && (text_same a.1.0 b.1.0 && pointwise ex_same a.1.1.0 b.1.1.0)) ▹
    (λ a b. view_same a.0 b.0) ▹
    tt

layer_ex : (c : Choice ex_of.enum.parts) → Chooses ex_of.enum.parts ex_tests c → Knows ex_same (roll-Ex (join-Ex the_family c))
layer_ex c k = subst (Knows ex_same) (whole_is-Ex c) (known_enum ex_of.enum ex_tests ex_laws.is (whole-Ex c) (subst (Chooses ex_of.enum.parts ex_tests) (sym (parts_whole-Ex c)) k))

pub made_ex : (y : Of_known Ex-F) → Knows ex_same (roll-Ex (of_ex y))
made_ex (Ex-F.Num a) = layer_ex _ (here (known_last (known_int a)))
made_ex (Ex-F.Truth a) = layer_ex _ (later (here (known_last (known_bool a))))
made_ex (Ex-F.Ex::Name a) = layer_ex _ (later (later (here (known_last (known_text a)))))
made_ex (Ex-F.Ex::One a b) = layer_ex _ (later (later (later (here (known_field (known_op1 a) (known_last b.1))))))
made_ex (Ex-F.Two a b c) = layer_ex _ (later (later (later (later (here (known_field (known_op2 a) (known_field b.1 (known_last c.1))))))))
made_ex (Ex-F.Call a b c) = layer_ex _ (later5 (here (known_field (known_bool a) (known_field (known_fun b) (known_last (known_row c))))))
made_ex (Ex-F.At a b c) = layer_ex _ (later5 (later (here (known_field (known_bool a) (known_field b.1 (known_last (known_row c)))))))
made_ex (Ex-F.Apply a b c) = layer_ex _ (later5 (later (later (here (known_field (known_bool a) (known_field b.1 (known_last (known_row c))))))))
made_ex (Ex-F.Ex::Tuple a) = layer_ex _ (later5 (later (later (later (here (known_last (known_row a)))))))
made_ex (Ex-F.Ex::Rec a) = layer_ex _ (later5 (later (later (later (later (here (known_last (known_row a))))))))
made_ex (Ex-F.Ex::Set a) = layer_ex _ (later5 (later5 (here (known_last (known_row a)))))
made_ex (Ex-F.Ex::MSet a) = layer_ex _ (later5 (later5 (later (here (known_last (known_row a))))))
made_ex (Ex-F.Ex::Function a) = layer_ex _ (later5 (later5 (later (later (here (known_last (known_row a)))))))
made_ex (Ex-F.Ex::Relation a) = layer_ex _ (later5 (later5 (later (later (later (here (known_last (known_row a))))))))
made_ex (Ex-F.Ex::Partition a) = layer_ex _ (later5 (later5 (later (later (later (later (here (known_last (known_row a)))))))))
made_ex (Ex-F.Ex::Matrix a None) = layer_ex _ (later5 (later5 (later5 (here (known_field (known_row a) (known_last known_no))))))
made_ex (Ex-F.Ex::Matrix a (Some b)) = layer_ex _ (later5 (later5 (later5 (here (known_field (known_row a) (known_last (known_some b.1)))))))
made_ex (Ex-F.Comp a b) = layer_ex _ (later5 (later5 (later5 (later (here (known_field a.1 (known_last (known_row b))))))))
made_ex (Ex-F.Cell a b c) = layer_ex _ (later5 (later5 (later5 (later (later (here (known_field (known_bool a) (known_field (known_text b) (known_last (known_row c))))))))))
made_ex (Ex-F.Seen a) = layer_ex _ (later5 (later5 (later5 (later (later (later (here (known_last a.1))))))))

abbrev gen_tests : Each Bool gen_of.enum.parts
gen_tests =
    (λ a b. pat_same a.0 b.0 && dom_same a.1.0 b.1.0) ▹
    (λ a b. pat_same a.0 b.0 && ex_same a.1.0 b.1.0) ▹
    (λ a b. ex_same a.0 b.0) ▹
    tt

layer_gen : (c : Choice gen_of.enum.parts) → Chooses gen_of.enum.parts gen_tests c → Knows gen_same (roll-Gen (join-Gen the_family c))
layer_gen c k = subst (Knows gen_same) (whole_is-Gen c) (known_enum gen_of.enum gen_tests gen_laws.is (whole-Gen c) (subst (Chooses gen_of.enum.parts gen_tests) (sym (parts_whole-Gen c)) k))

pub made_gen : (y : Of_known Gen-F) → Knows gen_same (roll-Gen (of_gen y))
made_gen (Gen-F.Over a b) = layer_gen _ (here (known_field (known_pat a) (known_last b.1)))
made_gen (Gen-F.From a b) = layer_gen _ (later (here (known_field (known_pat a) (known_last b.1))))
made_gen (Gen-F.If a) = layer_gen _ (later (later (here (known_last a.1))))

abbrev step_tests : Each Bool step_of.enum.parts
step_tests =
    (λ a b. ex_same a.0 b.0) ▹
    (λ a b. nat_eq a.0 b.0) ▹
    (λ a b. text_same a.0 b.0) ▹
    tt

layer_step : (c : Choice step_of.enum.parts) → Chooses step_of.enum.parts step_tests c → Knows step_same (roll-Step (join-Step the_family c))
layer_step c k = subst (Knows step_same) (whole_is-Step c) (known_enum step_of.enum step_tests step_laws.is (whole-Step c) (subst (Chooses step_of.enum.parts step_tests) (sym (parts_whole-Step c)) k))

pub made_step : (y : Of_known Step-F) → Knows step_same (roll-Step (of_step y))
made_step (Step-F.Value a) = layer_step _ (here (known_last a.1))
made_step (Step-F.Component a) = layer_step _ (later (here (known_last (known_nat a))))
made_step (Step-F.Field a) = layer_step _ (later (later (here (known_last (known_text a)))))

fields_attr : (a : Key) → (b : Option (Known Ex ex_same)) → Knows attr_same (roll-Attr (of_attr record { key = a; value = b }))
fields_attr a None = known_struct parts-Attr whole-Attr whole_parts-Attr parts_whole-Attr attr_laws.is (known_field (known_key a) (known_last known_no))
fields_attr a (Some b) = known_struct parts-Attr whole-Attr whole_parts-Attr parts_whole-Attr attr_laws.is (known_field (known_key a) (known_last (known_some b.1)))

pub made_attr : (y : Of_known Attr-F) → Knows attr_same (roll-Attr (of_attr y))
made_attr y = fields_attr y.key y.value

pub made_field_dom : (y : Of_known FieldDom-F) → Knows field_dom_same (roll-FieldDom (of_field_dom y))
made_field_dom y = known_struct parts-FieldDom whole-FieldDom whole_parts-FieldDom parts_whole-FieldDom field_dom_laws.is (known_field (known_text y.name) (known_last y.dom.1))

pub made_field_ex : (y : Of_known FieldEx-F) → Knows field_ex_same (roll-FieldEx (of_field_ex y))
made_field_ex y = known_struct parts-FieldEx whole-FieldEx whole_parts-FieldEx parts_whole-FieldEx field_ex_laws.is (known_field (known_text y.name) (known_last y.ex.1))

pub made_pair_ex : (y : Of_known PairEx-F) → Knows pair_ex_same (roll-PairEx (of_pair_ex y))
made_pair_ex y = known_struct parts-PairEx whole-PairEx whole_parts-PairEx parts_whole-PairEx pair_ex_laws.is (known_field y.from.1 (known_last y.to.1))

pub made_view : (y : Of_known View-F) → Knows view_same (roll-View (of_view y))
made_view y = known_struct parts-View whole-View whole_parts-View parts_whole-View view_laws.is (known_field (known_repr y.repr) (known_field y.dom.1 (known_field (known_texts y.cells) (known_last (known_row y.at)))))
