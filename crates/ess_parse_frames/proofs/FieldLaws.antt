-- Fields and attributes that are put behind others.
use Rattle.std.proofs.Common.{◌≡◌, ap, ◌∙◌, List, [], ◌∷◌, ◌++◌, Option, Some, None}
use Rattle.ess_semantics.specs.declared.words.Key.{Key}
use Rattle.ess_semantics.specs.Values.{Text}
use Rattle.ess_semantics.specs.Trees as pure
use Rattle.ess_semantics.specs.Trees.{Ends, Mark, more_exs, flag, valued}
use Rattle.ess_core.specs.TreeViews.{With, Item, dom_step, field_dom_step, range_step, attr_step, ex_step, step_step, field_ex_step, pair_ex_step, gen_step, view_step, pure_ex, pure_dom, pure_field_ex, pure_field_dom, pure_attr}
use Rattle.ess_core.specs.declared.domains.Dom.{Dom}
use Rattle.ess_core.specs.declared.domains.FieldDom.{FieldDom}
use Rattle.ess_core.specs.declared.domains.Attr.{Attr}
use Rattle.ess_core.specs.declared.expressions.Ex.{Ex}
use Rattle.ess_core.specs.declared.expressions.FieldEx.{FieldEx}
use Rattle.ess_core.specs.declared.domains.Dom.TheViews.{roll-FieldDom, roll-FieldEx, roll-Attr}
use Rattle.ess_core.specs.declared.domains.Dom.TheFolds.{fold-roll-FieldDom, fold-roll-FieldEx, fold-roll-Attr}
use Rattle.ess_parse_frames.specs.Rows.{back_field_names, back_field_values, back_dom_names, back_field_doms, back_marks, back_numbers}
use Rattle.ess_parse_frames.proofs.RowLaws.{field_names_push, field_values_push, dom_names_push, field_doms_push, marks_push, numbers_push_flag, numbers_push_valued}

abbrev field : Text → Ex → FieldEx
field a e = roll-FieldEx (record { name = a; ex = e })

field_is : (a : Text) (e : Ex) → pure_field_ex (field a e) ≡ (a, pure_ex e)
field_is a e = fold-roll-FieldEx pure.Dom (With Ends) pure.Ex Item (With pure.Step) (With Mark) (Text × pure.Dom) (Text × pure.Ex) pure.Ex pure.Ex dom_step range_step ex_step gen_step step_step attr_step field_dom_step field_ex_step pair_ex_step view_step (record { name = a; ex = e })

pub field_name_push : (fs : List FieldEx) (a : Text) (e : Ex) → back_field_names (fs ++ field a e ∷ []) ≡ a ∷ back_field_names fs
field_name_push fs a e = field_names_push fs (field a e) ∙ ap (λ f. f.0 ∷ back_field_names fs) (field_is a e)

pub field_value_push : (fs : List FieldEx) (a : Text) (e : Ex) → back_field_values (fs ++ field a e ∷ []) ≡ more_exs (pure_ex e) (back_field_values fs)
field_value_push fs a e = field_values_push fs (field a e) ∙ ap (λ f. more_exs f.1 (back_field_values fs)) (field_is a e)

abbrev field_domain : Text → Dom → FieldDom
field_domain a d = roll-FieldDom (record { name = a; dom = d })

field_domain_is : (a : Text) (d : Dom) → pure_field_dom (field_domain a d) ≡ (a, pure_dom d)
field_domain_is a d = fold-roll-FieldDom pure.Dom (With Ends) pure.Ex Item (With pure.Step) (With Mark) (Text × pure.Dom) (Text × pure.Ex) pure.Ex pure.Ex dom_step range_step ex_step gen_step step_step attr_step field_dom_step field_ex_step pair_ex_step view_step (record { name = a; dom = d })

pub dom_name_push : (fs : List FieldDom) (a : Text) (d : Dom) → back_dom_names (fs ++ field_domain a d ∷ []) ≡ a ∷ back_dom_names fs
dom_name_push fs a d = dom_names_push fs (field_domain a d) ∙ ap (λ f. f.0 ∷ back_dom_names fs) (field_domain_is a d)

pub field_dom_push : (fs : List FieldDom) (a : Text) (d : Dom) → back_field_doms (fs ++ field_domain a d ∷ []) ≡ pure.more_doms (pure_dom d) (back_field_doms fs)
field_dom_push fs a d = field_doms_push fs (field_domain a d) ∙ ap (λ f. pure.more_doms f.1 (back_field_doms fs)) (field_domain_is a d)

abbrev attribute_of : Key → Option Ex → Attr
attribute_of k v = roll-Attr (record { key = k; value = v })

flag_is : (k : Key) → pure_attr (attribute_of k None) ≡ (flag k, [])
flag_is k = fold-roll-Attr pure.Dom (With Ends) pure.Ex Item (With pure.Step) (With Mark) (Text × pure.Dom) (Text × pure.Ex) pure.Ex pure.Ex dom_step range_step ex_step gen_step step_step attr_step field_dom_step field_ex_step pair_ex_step view_step (record { key = k; value = None })

number_is : (k : Key) (e : Ex) → pure_attr (attribute_of k (Some e)) ≡ (valued k, pure_ex e ∷ [])
number_is k e = fold-roll-Attr pure.Dom (With Ends) pure.Ex Item (With pure.Step) (With Mark) (Text × pure.Dom) (Text × pure.Ex) pure.Ex pure.Ex dom_step range_step ex_step gen_step step_step attr_step field_dom_step field_ex_step pair_ex_step view_step (record { key = k; value = Some e })

pub flag_mark : (xs : List Attr) (k : Key) → back_marks (xs ++ attribute_of k None ∷ []) ≡ flag k ∷ back_marks xs
flag_mark xs k = marks_push xs (attribute_of k None) ∙ ap (λ w. w.0 ∷ back_marks xs) (flag_is k)

pub flag_number : (xs : List Attr) (k : Key) → back_numbers (xs ++ attribute_of k None ∷ []) ≡ back_numbers xs
flag_number xs k = numbers_push_flag xs (attribute_of k None) (ap (λ w. w.1) (flag_is k))

pub number_mark : (xs : List Attr) (k : Key) (e : Ex) → back_marks (xs ++ attribute_of k (Some e) ∷ []) ≡ valued k ∷ back_marks xs
number_mark xs k e = marks_push xs (attribute_of k (Some e)) ∙ ap (λ w. w.0 ∷ back_marks xs) (number_is k e)

pub number_number : (xs : List Attr) (k : Key) (e : Ex) → back_numbers (xs ++ attribute_of k (Some e) ∷ []) ≡ more_exs (pure_ex e) (back_numbers xs)
number_number xs k e = numbers_push_valued xs (attribute_of k (Some e)) (pure_ex e) (ap (λ w. w.1) (number_is k e))
