-- Rows of the parser, as lists of the machine: no item, one more, and all in their order again.
use Rattle.std.proofs.Common.{◌≡◌, refl, sym, ap, ◌∙◌, List, [], ◌∷◌, ◌++◌, map, Some, None, append_assoc}
use Rattle.ess_semantics.specs.Values.{Text}
use Rattle.ess_semantics.specs.Lists.{append_all}
use Rattle.ess_semantics.specs.Names.{keys}
use Rattle.ess_semantics.specs.Kinds.{doms_of}
use Rattle.ess_semantics.specs.Trees as pure
use Rattle.ess_semantics.specs.Trees.{no_exs, more_exs, no_doms, more_doms, no_gens, over, from, cond, one_value, both_ends, low_end, high_end, plain_node, function_literal}
use Rattle.ess_parse_laws.specs.Reversed.{reverse_exs, reverse_list, reverse_doms, reverse_gens}
use Rattle.ess_core.specs.TreeViews.{With, Item, over_item, from_item, cond_item, pure_ex, pure_exs, pure_dom, pure_doms, pure_gen, pure_gens, pure_pat, pure_pair_ex, pure_field_ex, pure_field_dom, pure_range, pure_attr, exs_of, gens_of, words_of, within, field_values}
use Rattle.ess_core.specs.StatementViews.{pure_stm}
use Rattle.ess_core.proofs.PartEquations.{pure_gen_over, pure_gen_from, pure_gen_if, pure_range_one, pure_range_span}
use Rattle.ess_core.proofs.ExpressionEquations.{pure_function}
use Rattle.ess_core.specs.declared.domains.Dom.{Dom}
use Rattle.ess_core.specs.declared.domains.FieldDom.{FieldDom}
use Rattle.ess_core.specs.declared.domains.Range.{Range}
use Rattle.ess_core.specs.declared.domains.Range.TheVariants as range
use Rattle.ess_core.specs.declared.domains.Attr.{Attr}
use Rattle.ess_core.specs.declared.expressions.Ex.{Ex}
use Rattle.ess_core.specs.declared.expressions.Ex.TheVariants as ex
use Rattle.ess_core.specs.declared.expressions.FieldEx.{FieldEx}
use Rattle.ess_core.specs.declared.expressions.PairEx.{PairEx}
use Rattle.ess_core.specs.declared.expressions.Pat.{Pat}
use Rattle.ess_core.specs.declared.expressions.Gen.{Gen}
use Rattle.ess_core.specs.declared.expressions.Gen.TheVariants as gen
use Rattle.ess_core.specs.declared.statements.Stm.{Stm}
use Rattle.ess_parse_frames.specs.Rows.{back_exs, back_pairs, back_names, back_field_names, back_field_values, back_gens, back_ends, back_bounds, back_doms, back_dom_names, back_field_doms, marks_of, numbers_of, back_marks, back_numbers, back_stms}
use Rattle.ess_parse_frames.proofs.StackLaws.{reverse_push}
use Rattle.ess_parse_frames.proofs.TwiceReversed.{append-none, closed_list, exs-push, exs-closed, map-push, reverse-push, doms-push, doms-closed, item_before, gens-push, gens-before_none, gens-twice}

-- ---- expressions

pub exs_none : (before : pure.Exs) → back_exs [] before ≡ before
unfolding back_exs
exs_none before = refl

pub exs_push : (es : List Ex) (e : Ex) (before : pure.Exs) → back_exs (es ++ e ∷ []) before ≡ more_exs (pure_ex e) (back_exs es before)
unfolding back_exs
exs_push es e before = ap (λ xs. reverse_exs (exs_of xs) before) (map-push pure_ex es e) ∙ exs-push (map pure_ex es) (pure_ex e) before

pub exs_closed : (es : List Ex) (before : pure.Exs) → reverse_exs (back_exs es before) no_exs ≡ reverse_exs before (pure_exs es)
unfolding back_exs
exs_closed es before = exs-closed (pure_exs es) before

-- the last item and the whole list
pub exs_whole : (es : List Ex) (e : Ex) (before : pure.Exs) → reverse_exs (back_exs es before) (more_exs (pure_ex e) no_exs) ≡ reverse_exs before (pure_exs (es ++ e ∷ []))
exs_whole es e before = sym (ap (λ xs. reverse_exs xs no_exs) (exs_push es e before)) ∙ exs_closed (es ++ e ∷ []) before

-- ---- pairs of a function literal

pub pairs_none : back_pairs [] ≡ no_exs
unfolding back_pairs
pairs_none = refl

pub pairs_push : (ps : List PairEx) (p : PairEx) → back_pairs (ps ++ p ∷ []) ≡ more_exs (pure_pair_ex p) (back_pairs ps)
unfolding back_pairs
pairs_push ps p = ap (λ xs. reverse_exs (exs_of xs) no_exs) (map-push pure_pair_ex ps p) ∙ exs-push (map pure_pair_ex ps) (pure_pair_ex p) no_exs

pub pairs_closed : (ps : List PairEx) → pure_ex (ex.Function ps) ≡ plain_node function_literal (reverse_exs (back_pairs ps) no_exs)
unfolding back_pairs
pairs_closed ps = pure_function ps ∙ ap (plain_node function_literal) (sym (exs-closed (exs_of (map pure_pair_ex ps)) no_exs))

-- ---- names

pub names_none : back_names [] ≡ []
unfolding back_names
names_none = refl

pub names_push : (ns : List Text) (a : Text) → back_names (ns ++ a ∷ []) ≡ a ∷ back_names ns
unfolding back_names
names_push ns a = reverse-push ns a []

pub names_closed : (ns : List Text) → reverse_list (back_names ns) [] ≡ ns
unfolding back_names
names_closed ns = sym (closed_list ns)

-- ---- fields of a record literal

pub field_names_none : back_field_names [] ≡ []
unfolding back_field_names
field_names_none = refl

pub field_values_none : back_field_values [] ≡ no_exs
unfolding back_field_values
field_values_none = refl

pub field_names_push : (fs : List FieldEx) (f : FieldEx) → back_field_names (fs ++ f ∷ []) ≡ (pure_field_ex f).0 ∷ back_field_names fs
unfolding back_field_names
field_names_push fs f = ap (λ xs. reverse_list (keys xs) []) (map-push pure_field_ex fs f) ∙ ap (λ xs. reverse_list xs []) (map-push (λ x. x.0) (map pure_field_ex fs) (pure_field_ex f)) ∙ reverse-push (keys (map pure_field_ex fs)) (pure_field_ex f).0 []

pub field_values_push : (fs : List FieldEx) (f : FieldEx) → back_field_values (fs ++ f ∷ []) ≡ more_exs (pure_field_ex f).1 (back_field_values fs)
unfolding back_field_values
field_values_push fs f = ap (λ xs. reverse_exs (exs_of (field_values xs)) no_exs) (map-push pure_field_ex fs f) ∙ ap (λ xs. reverse_exs (exs_of xs) no_exs) (map-push (λ x. x.1) (map pure_field_ex fs) (pure_field_ex f)) ∙ exs-push (field_values (map pure_field_ex fs)) (pure_field_ex f).1 no_exs

pub field_names_closed : (fs : List FieldEx) → keys (map pure_field_ex fs) ≡ reverse_list (back_field_names fs) []
unfolding back_field_names
field_names_closed fs = closed_list (keys (map pure_field_ex fs))

pub field_values_closed : (fs : List FieldEx) → exs_of (field_values (map pure_field_ex fs)) ≡ reverse_exs (back_field_values fs) no_exs
unfolding back_field_values
field_values_closed fs = sym (exs-closed (exs_of (field_values (map pure_field_ex fs))) no_exs)

-- ---- domains

pub doms_none : back_doms [] ≡ no_doms
unfolding back_doms
doms_none = refl

pub doms_push : (ds : List Dom) (d : Dom) → back_doms (ds ++ d ∷ []) ≡ more_doms (pure_dom d) (back_doms ds)
unfolding back_doms
doms_push ds d = ap (λ xs. reverse_doms (doms_of xs) no_doms) (map-push pure_dom ds d) ∙ doms-push (map pure_dom ds) (pure_dom d) no_doms

pub doms_closed : (ds : List Dom) → reverse_doms (back_doms ds) no_doms ≡ pure_doms ds
unfolding back_doms
doms_closed ds = doms-closed (pure_doms ds)

-- the last domain and the whole list
pub doms_whole : (ds : List Dom) (d : Dom) → reverse_doms (back_doms ds) (more_doms (pure_dom d) no_doms) ≡ pure_doms (ds ++ d ∷ [])
doms_whole ds d = sym (ap (λ xs. reverse_doms xs no_doms) (doms_push ds d)) ∙ doms_closed (ds ++ d ∷ [])

-- ---- fields of a record domain

pub dom_names_none : back_dom_names [] ≡ []
unfolding back_dom_names
dom_names_none = refl

pub field_doms_none : back_field_doms [] ≡ no_doms
unfolding back_field_doms
field_doms_none = refl

pub dom_names_push : (fs : List FieldDom) (f : FieldDom) → back_dom_names (fs ++ f ∷ []) ≡ (pure_field_dom f).0 ∷ back_dom_names fs
unfolding back_dom_names
dom_names_push fs f = ap (λ xs. reverse_list (keys xs) []) (map-push pure_field_dom fs f) ∙ ap (λ xs. reverse_list xs []) (map-push (λ x. x.0) (map pure_field_dom fs) (pure_field_dom f)) ∙ reverse-push (keys (map pure_field_dom fs)) (pure_field_dom f).0 []

pub field_doms_push : (fs : List FieldDom) (f : FieldDom) → back_field_doms (fs ++ f ∷ []) ≡ more_doms (pure_field_dom f).1 (back_field_doms fs)
unfolding back_field_doms
field_doms_push fs f = ap (λ xs. reverse_doms (doms_of (field_values xs)) no_doms) (map-push pure_field_dom fs f) ∙ ap (λ xs. reverse_doms (doms_of xs) no_doms) (map-push (λ x. x.1) (map pure_field_dom fs) (pure_field_dom f)) ∙ doms-push (field_values (map pure_field_dom fs)) (pure_field_dom f).1 no_doms

pub dom_names_closed : (fs : List FieldDom) → reverse_list (back_dom_names fs) [] ≡ keys (map pure_field_dom fs)
unfolding back_dom_names
dom_names_closed fs = sym (closed_list (keys (map pure_field_dom fs)))

pub field_doms_closed : (fs : List FieldDom) → reverse_doms (back_field_doms fs) no_doms ≡ doms_of (field_values (map pure_field_dom fs))
unfolding back_field_doms
field_doms_closed fs = doms-closed (doms_of (field_values (map pure_field_dom fs)))

-- ---- generators and conditions

pub gens_none : back_gens [] ≡ no_gens
unfolding back_gens
gens_none = refl

gens-push_item : (gs : List Gen) (g : Gen) (i : Item) → pure_gen g ≡ i → back_gens (gs ++ g ∷ []) ≡ item_before i (back_gens gs)
unfolding back_gens
gens-push_item gs g i h = ap (λ xs. reverse_gens (gens_of xs) no_gens) (map-push pure_gen gs g) ∙ gens-push (map pure_gen gs) (pure_gen g) no_gens ∙ ap (λ j. item_before j (reverse_gens (gens_of (map pure_gen gs)) no_gens)) h

pub gens_push_over : (gs : List Gen) (p : Pat) (d : Dom) → back_gens (gs ++ gen.Over p d ∷ []) ≡ over (pure_pat p) (pure_dom d) (back_gens gs)
gens_push_over gs p d = gens-push_item gs (gen.Over p d) (over_item (pure_pat p) (pure_dom d)) (pure_gen_over p d)

pub gens_push_from : (gs : List Gen) (p : Pat) (e : Ex) → back_gens (gs ++ gen.From p e ∷ []) ≡ from (pure_pat p) (pure_ex e) (back_gens gs)
gens_push_from gs p e = gens-push_item gs (gen.From p e) (from_item (pure_pat p) (pure_ex e)) (pure_gen_from p e)

pub gens_push_if : (gs : List Gen) (e : Ex) → back_gens (gs ++ gen.If e ∷ []) ≡ cond (pure_ex e) (back_gens gs)
gens_push_if gs e = gens-push_item gs (gen.If e) (cond_item (pure_ex e)) (pure_gen_if e)

pub gens_closed : (gs : List Gen) → reverse_gens (back_gens gs) no_gens ≡ pure_gens gs
unfolding back_gens
gens_closed gs = gens-twice (pure_gens gs) no_gens no_gens ∙ gens-before_none (pure_gens gs)

-- ---- words with the expressions that stand in them

words-push : {A B : Type 0} (f : A → With B) (xs : List A) (x : A) → reverse_list (words_of (map f (xs ++ x ∷ []))) [] ≡ (f x).0 ∷ reverse_list (words_of (map f xs)) []
words-push f xs x = ap (λ ys. reverse_list (words_of ys) []) (map-push f xs x) ∙ ap (λ ys. reverse_list ys []) (map-push (λ w. w.0) (map f xs) (f x)) ∙ reverse-push (words_of (map f xs)) (f x).0 []

append_all-push : {A : Type 0} (xss : List (List A)) (xs : List A) → append_all (xss ++ xs ∷ []) ≡ append_all xss ++ xs
append_all-push [] xs = append-none xs
append_all-push (ys ∷ xss) xs = ap (λ zs. ys ++ zs) (append_all-push xss xs) ∙ sym (append_assoc ys (append_all xss) xs)

within-push : {A B : Type 0} (f : A → With B) (xs : List A) (x : A) → within (map f (xs ++ x ∷ [])) ≡ within (map f xs) ++ (f x).1
within-push f xs x = ap within (map-push f xs x) ∙ ap append_all (map-push (λ w. w.1) (map f xs) (f x)) ∙ append_all-push (map (λ w. w.1) (map f xs)) (f x).1

within-none : {A B : Type 0} (f : A → With B) (xs : List A) (x : A) → (f x).1 ≡ [] → reverse_exs (exs_of (within (map f (xs ++ x ∷ [])))) no_exs ≡ reverse_exs (exs_of (within (map f xs))) no_exs
within-none f xs x h = ap (λ es. reverse_exs (exs_of es) no_exs) (within-push f xs x ∙ ap (λ es. within (map f xs) ++ es) h ∙ append-none (within (map f xs)))

within-one : {A B : Type 0} (f : A → With B) (xs : List A) (x : A) (e : pure.Ex) → (f x).1 ≡ e ∷ [] → reverse_exs (exs_of (within (map f (xs ++ x ∷ [])))) no_exs ≡ more_exs e (reverse_exs (exs_of (within (map f xs))) no_exs)
within-one f xs x e h = ap (λ es. reverse_exs (exs_of es) no_exs) (within-push f xs x ∙ ap (λ es. within (map f xs) ++ es) h) ∙ exs-push (within (map f xs)) e no_exs

within-two : {A B : Type 0} (f : A → With B) (xs : List A) (x : A) (d e : pure.Ex) → (f x).1 ≡ d ∷ e ∷ [] → reverse_exs (exs_of (within (map f (xs ++ x ∷ [])))) no_exs ≡ more_exs e (more_exs d (reverse_exs (exs_of (within (map f xs))) no_exs))
within-two f xs x d e h = ap (λ es. reverse_exs (exs_of es) no_exs) (within-push f xs x ∙ ap (λ es. within (map f xs) ++ es) h ∙ sym (append_assoc (within (map f xs)) (d ∷ []) (e ∷ []))) ∙ exs-push (within (map f xs) ++ d ∷ []) e no_exs ∙ ap (more_exs e) (exs-push (within (map f xs)) d no_exs)

-- ---- ranges

pub ends_none : back_ends [] ≡ []
unfolding back_ends
ends_none = refl

pub bounds_none : back_bounds [] ≡ no_exs
unfolding back_bounds
bounds_none = refl

pub ends_push_value : (rs : List Range) (e : Ex) → back_ends (rs ++ range.One e ∷ []) ≡ one_value ∷ back_ends rs
unfolding back_ends
ends_push_value rs e = words-push pure_range rs (range.One e) ∙ ap (λ r. r.0 ∷ reverse_list (words_of (map pure_range rs)) []) (pure_range_one e)

pub bounds_push_value : (rs : List Range) (e : Ex) → back_bounds (rs ++ range.One e ∷ []) ≡ more_exs (pure_ex e) (back_bounds rs)
unfolding back_bounds
bounds_push_value rs e = within-one pure_range rs (range.One e) (pure_ex e) (ap (λ r. r.1) (pure_range_one e))

pub ends_push_both : (rs : List Range) (d e : Ex) → back_ends (rs ++ range.Span (Some d) (Some e) ∷ []) ≡ both_ends ∷ back_ends rs
unfolding back_ends
ends_push_both rs d e = words-push pure_range rs (range.Span (Some d) (Some e)) ∙ ap (λ r. r.0 ∷ reverse_list (words_of (map pure_range rs)) []) (pure_range_span (Some d) (Some e))

pub bounds_push_both : (rs : List Range) (d e : Ex) → back_bounds (rs ++ range.Span (Some d) (Some e) ∷ []) ≡ more_exs (pure_ex e) (more_exs (pure_ex d) (back_bounds rs))
unfolding back_bounds
bounds_push_both rs d e = within-two pure_range rs (range.Span (Some d) (Some e)) (pure_ex d) (pure_ex e) (ap (λ r. r.1) (pure_range_span (Some d) (Some e)))

pub ends_push_low : (rs : List Range) (d : Ex) → back_ends (rs ++ range.Span (Some d) None ∷ []) ≡ low_end ∷ back_ends rs
unfolding back_ends
ends_push_low rs d = words-push pure_range rs (range.Span (Some d) None) ∙ ap (λ r. r.0 ∷ reverse_list (words_of (map pure_range rs)) []) (pure_range_span (Some d) None)

pub bounds_push_low : (rs : List Range) (d : Ex) → back_bounds (rs ++ range.Span (Some d) None ∷ []) ≡ more_exs (pure_ex d) (back_bounds rs)
unfolding back_bounds
bounds_push_low rs d = within-one pure_range rs (range.Span (Some d) None) (pure_ex d) (ap (λ r. r.1) (pure_range_span (Some d) None))

pub ends_push_high : (rs : List Range) (e : Ex) → back_ends (rs ++ range.Span None (Some e) ∷ []) ≡ high_end ∷ back_ends rs
unfolding back_ends
ends_push_high rs e = words-push pure_range rs (range.Span None (Some e)) ∙ ap (λ r. r.0 ∷ reverse_list (words_of (map pure_range rs)) []) (pure_range_span None (Some e))

pub bounds_push_high : (rs : List Range) (e : Ex) → back_bounds (rs ++ range.Span None (Some e) ∷ []) ≡ more_exs (pure_ex e) (back_bounds rs)
unfolding back_bounds
bounds_push_high rs e = within-one pure_range rs (range.Span None (Some e)) (pure_ex e) (ap (λ r. r.1) (pure_range_span None (Some e)))

pub ends_closed : (rs : List Range) → words_of (map pure_range rs) ≡ reverse_list (back_ends rs) []
unfolding back_ends
ends_closed rs = closed_list (words_of (map pure_range rs))

pub bounds_closed : (rs : List Range) → exs_of (within (map pure_range rs)) ≡ reverse_exs (back_bounds rs) no_exs
unfolding back_bounds
bounds_closed rs = sym (exs-closed (exs_of (within (map pure_range rs))) no_exs)

-- ---- attributes

pub marks_none : back_marks [] ≡ []
unfolding back_marks
marks_none = refl

pub numbers_none : back_numbers [] ≡ no_exs
unfolding back_numbers
numbers_none = refl

pub no_marks : marks_of [] ≡ []
unfolding marks_of
no_marks = refl

pub no_numbers : numbers_of [] ≡ no_exs
unfolding numbers_of
no_numbers = refl

pub marks_push : (xs : List Attr) (x : Attr) → back_marks (xs ++ x ∷ []) ≡ (pure_attr x).0 ∷ back_marks xs
unfolding back_marks
marks_push xs x = words-push pure_attr xs x

pub numbers_push_flag : (xs : List Attr) (x : Attr) → (pure_attr x).1 ≡ [] → back_numbers (xs ++ x ∷ []) ≡ back_numbers xs
unfolding back_numbers
numbers_push_flag xs x h = within-none pure_attr xs x h

pub numbers_push_valued : (xs : List Attr) (x : Attr) (e : pure.Ex) → (pure_attr x).1 ≡ e ∷ [] → back_numbers (xs ++ x ∷ []) ≡ more_exs e (back_numbers xs)
unfolding back_numbers
numbers_push_valued xs x e h = within-one pure_attr xs x e h

pub marks_closed : (xs : List Attr) → reverse_list (back_marks xs) [] ≡ marks_of xs
unfolding back_marks marks_of
marks_closed xs = sym (closed_list (words_of (map pure_attr xs)))

pub numbers_closed : (xs : List Attr) → reverse_exs (back_numbers xs) no_exs ≡ numbers_of xs
unfolding back_numbers numbers_of
numbers_closed xs = exs-closed (exs_of (within (map pure_attr xs))) no_exs

-- ---- statements

pub stms_none : back_stms [] ≡ []
unfolding back_stms
stms_none = refl

pub stms_push : (ss : List Stm) (s : Stm) → back_stms (ss ++ s ∷ []) ≡ pure_stm s ∷ back_stms ss
unfolding back_stms
stms_push ss s = reverse_push pure_stm ss s []

pub stms_closed : (ss : List Stm) → reverse_list (back_stms ss) [] ≡ map pure_stm ss
unfolding back_stms
stms_closed ss = sym (closed_list (map pure_stm ss))
