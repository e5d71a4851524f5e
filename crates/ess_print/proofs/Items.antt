-- The printers of lists of trees, item by item.
use Rattle.std.proofs.Common.{◌≡◌, refl, sym, ap, ◌∙◌, subst, ℕ, zero, suc, Bool, false, ◌+◌, ◌<◌, ◌≤◌, List, [], ◌∷◌, ◌++◌, map, length, drop, get_or, codes, arith, Option, Some, None}
use Rattle.std.specs.Option.{option_map}
use Rattle.std.proofs.lemmas.List.{append-nil, at_drop_more}
use Rattle.std.proofs.Math.ListN.{drop_of_length-le}
use Rattle.ess_semantics.specs.Names.{keys}
use Rattle.ess_semantics.specs.Kinds.{doms_of}
use Rattle.ess_semantics.specs.Choice.{reprs_of}
use Rattle.ess_semantics.specs.Trees as pure
use Rattle.ess_semantics.specs.Trees.{Ends, one_value, Mark, to_component, to_field, tuple_literal, node_ex, no_exs, more_exs}
use Rattle.ess_semantics.specs.declared.words.Key.{Key}
use Rattle.ess_semantics.specs.declared.words.Op2.{Op2}
use Rattle.ess_semantics.specs.Values.{Text}
use Rattle.ess_grammar.specs.Words.{operator, colon, maps_to}
use Rattle.ess_print_laws.specs.Pieces.{Piece, token, space, Printer, sign, named}
use Rattle.ess_print_laws.specs.Parts.{comma_space, commas, bracketed, pat_printers, pat_pieces, name_printers}
use Rattle.ess_print_laws.specs.Brackets.{starts_generator}
use Rattle.ess_print_laws.specs.Expressions.{ex_pieces, gens_pieces, before_items, pair_pieces, dom_pieces, wholes, operands, domains, call_printers, range_printers, mark_printers, field_printers, field_domains}
use Rattle.ess_print_laws.specs.Statements.{repr_pieces, children}
use Rattle.ess_core.specs.TreeViews.{With, words_of, within, Item, over_item, from_item, cond_item, exs_of, gens_of, field_values, pats_of, span, attribute, pure_range, pure_attr, pure_step, pure_gen, pure_gens, pure_ex, pure_exs, pure_dom, pure_doms, pure_pat, pure_repr, pure_field_dom, pure_field_ex, pure_pair_ex}
use Rattle.ess_core.specs.declared.representations.Repr.{Repr}
use Rattle.ess_core.specs.declared.expressions.Pat.{Pat}
use Rattle.ess_core.specs.declared.domains.Dom.{Dom}
use Rattle.ess_core.specs.declared.domains.FieldDom.{FieldDom, out-FieldDom}
use Rattle.ess_core.specs.declared.expressions.Ex.{Ex}
use Rattle.ess_core.specs.declared.expressions.FieldEx.{FieldEx, out-FieldEx}
use Rattle.ess_core.specs.declared.expressions.PairEx.{PairEx, out-PairEx}
use Rattle.ess_core.specs.declared.domains.Range.{Range, out-Range, roll-Range, roll-out-Range}
use Rattle.ess_core.specs.declared.domains.Range.TheVariants as range
use Rattle.ess_core.specs.declared.domains.Attr.{Attr, out-Attr}
use Rattle.ess_core.specs.declared.expressions.Step.{Step}
use Rattle.ess_core.specs.declared.expressions.Step.TheVariants as step
use Rattle.ess_core.specs.declared.expressions.Gen.{Gen}
use Rattle.ess_core.specs.declared.expressions.View.{View}
use Rattle.ess_core.specs.declared.domains.Dom.TheOpen.{Range-F}
use Rattle.ess_core.proofs.PartEquations.{pure_range_one, pure_range_span, pure_attr_is, pure_pair_ex_is, pure_field_ex_is, pure_field_dom_is, pure_step_value, pure_step_component, pure_step_field}
use Rattle.ess_print.specs.Written.{Puts, only_first, item_pieces, range_pieces, attr_pieces}
use Rattle.ess_print.proofs.Writing.{ByItem, Writing, rest, ends-writing, puts-pieces, puts-text, puts-then, puts-as}

abbrev pub exs_printers : List Ex → List Printer
exs_printers es = wholes (operands (pure_exs es))

pub exs-by-item : ByItem exs_printers (λ e. ex_pieces (pure_ex e))
exs-by-item = record { none = refl; more = λ e es. refl }

abbrev pub doms_printers : List Dom → List Printer
doms_printers ds = domains (pure_doms ds)

pub doms-by-item : ByItem doms_printers (λ d. dom_pieces (pure_dom d))
doms-by-item = record { none = refl; more = λ d ds. refl }

abbrev pub pats_printers : List Pat → List Printer
pats_printers ps = pat_printers (pats_of (map pure_pat ps))

pub pats-by-item : ByItem pats_printers (λ p. pat_pieces (pure_pat p))
pats-by-item = record { none = refl; more = λ p ps. refl }

pub names-by-item : ByItem name_printers (λ a us. named a ∷ us)
names-by-item = record { none = refl; more = λ a ns. refl }

pub name-put : {a b s t : Text} → b ≡ a ++ s → s ≡ t → Puts a b (λ us. named t ∷ us)
name-put {a} {b} {s} {t} f e = puts-text (named t ∷ []) f (e ∙ sym (append-nil t))

abbrev pub reprs_printers : List Repr → List Printer
reprs_printers rs = children (reprs_of (map pure_repr rs))

pub reprs-by-item : ByItem reprs_printers (λ r. repr_pieces (pure_repr r))
reprs-by-item = record { none = refl; more = λ r rs. refl }

-- fields of a record's literal
abbrev pub fields_printers : List FieldEx → List Printer
fields_printers fs = field_printers (keys (map pure_field_ex fs)) (operands (exs_of (field_values (map pure_field_ex fs))))

abbrev pub field_pieces : FieldEx → Printer
field_pieces f us = named (pure_field_ex f).0 ∷ space ∷ token (operator Op2.Eq) ∷ space ∷ ex_pieces (pure_field_ex f).1 us

pub fields-by-item : ByItem fields_printers field_pieces
fields-by-item = record { none = refl; more = λ f fs. refl }

-- pairs of a function's literal
abbrev pub pairs_printers : List PairEx → List Printer
pairs_printers ps = map (λ o. o.pair) (operands (exs_of (map pure_pair_ex ps)))

pub pairs-by-item : ByItem pairs_printers (λ p. pair_pieces (pure_pair_ex p))
pairs-by-item = record { none = refl; more = λ p ps. refl }

-- fields of a record's domain
abbrev pub field_doms_printers : List FieldDom → List Printer
field_doms_printers fs = field_domains (keys (map pure_field_dom fs)) (domains (doms_of (field_values (map pure_field_dom fs))))

abbrev pub field_dom_pieces : FieldDom → Printer
field_dom_pieces f us = named (pure_field_dom f).0 ∷ space ∷ sign colon ∷ space ∷ dom_pieces (pure_field_dom f).1 us

pub field-doms-by-item : ByItem field_doms_printers field_dom_pieces
field-doms-by-item = record { none = refl; more = λ f fs. refl }

-- ---- ranges and attributes

abbrev pub ranges_printers : List Range → List Printer
ranges_printers rs = range_printers (words_of (map pure_range rs)) (operands (exs_of (within (map pure_range rs))))

-- A range takes its own bounds, whatever ranges are behind it.
abbrev RangeFits : With Ends → Type 0
RangeFits r = (ws : List Ends) (vs : List pure.Ex) → range_printers (r.0 ∷ ws) (operands (exs_of (r.1 ++ vs))) ≡ range_pieces r ∷ range_printers ws (operands (exs_of vs))

span-fits : (low high : Option pure.Ex) → RangeFits (span low high)
span-fits None None = λ ws vs. refl
span-fits None (Some b) = λ ws vs. refl
span-fits (Some a) None = λ ws vs. refl
span-fits (Some a) (Some b) = λ ws vs. refl

one-fits : (a : pure.Ex) → RangeFits (one_value, a ∷ [])
one-fits a = λ ws vs. refl

range-layer : (x : Range-F Dom Range Ex Gen Step Attr FieldDom FieldEx PairEx View) → RangeFits (pure_range (roll-Range x))
range-layer (Range-F.Range::One e) = subst RangeFits (sym (ap pure_range (range.rolls-One e) ∙ pure_range_one e)) (one-fits (pure_ex e))
range-layer (Range-F.Span low high) =
    subst RangeFits (sym (ap pure_range (range.rolls-Span low high) ∙ pure_range_span low high)) (span-fits (option_map pure_ex low) (option_map pure_ex high))

range-fits : (r : Range) → RangeFits (pure_range r)
range-fits r = let P : Range → Type 0 = λ x. RangeFits (pure_range x) in subst P (roll-out-Range r) (range-layer (out-Range r))

pub ranges-by-item : ByItem ranges_printers (λ r. range_pieces (pure_range r))
ranges-by-item = record { none = refl; more = λ r rs. range-fits r (words_of (map pure_range rs)) (within (map pure_range rs)) }

abbrev pub attrs_printers : List Attr → List Printer
attrs_printers ms = mark_printers (words_of (map pure_attr ms)) (operands (exs_of (within (map pure_attr ms))))

-- An attribute takes its own number, whatever attributes are behind it.
abbrev AttrFits : With Mark → Type 0
AttrFits m = (ws : List Mark) (vs : List pure.Ex) → mark_printers (m.0 ∷ ws) (operands (exs_of (m.1 ++ vs))) ≡ attr_pieces m ∷ mark_printers ws (operands (exs_of vs))

attribute-fits : (k : Key) (v : Option pure.Ex) → AttrFits (attribute k v)
attribute-fits k None = λ ws vs. refl
attribute-fits k (Some a) = λ ws vs. refl

attr-fits : (m : Attr) → AttrFits (pure_attr m)
attr-fits m = subst AttrFits (sym (pure_attr_is m)) (attribute-fits (out-Attr m).key (option_map pure_ex (out-Attr m).value))

pub attrs-by-item : ByItem attrs_printers (λ m. attr_pieces (pure_attr m))
attrs-by-item = record { none = refl; more = λ m ms. attr-fits m (words_of (map pure_attr ms)) (within (map pure_attr ms)) }

-- ---- steps of an index: only those by a value are printed

abbrev pub steps_printers : List Step → List Printer
steps_printers ss = wholes (operands (exs_of (within (map pure_step ss))))

-- ---- operands of a call: the first may stand in brackets

-- What is left of them behind the first i.
abbrev pub args_printers : Bool → ℕ → List Ex → List Printer
args_printers b zero es = call_printers b (operands (pure_exs es))
args_printers b (suc i) es = wholes (operands (pure_exs es))

whole-bracketed : (e : pure.Ex) (ps : List Printer) → ◌≡◌ {A = List Printer} (ex_pieces e ∷ ps) (bracketed false (ex_pieces e) ∷ ps)
whole-bracketed e ps = refl

pub args-first : (b : Bool) (i : ℕ) (e : Ex) (es : List Ex) → args_printers b i (e ∷ es) ≡ bracketed (only_first b i) (ex_pieces (pure_ex e)) ∷ args_printers b (suc i) es
args-first b zero e es = refl
args-first b (suc i) e es = whole-bracketed (pure_ex e) (wholes (operands (pure_exs es)))

-- ---- generators and conditions

abbrev pub items_printers : List Item → List Printer
items_printers [] = []
items_printers (i ∷ is) = item_pieces (starts_generator (gens_of is)) i ∷ items_printers is

listed-more : (p : Printer) (ps : List Printer) (us : List Piece) → commas (p ∷ ps) us ≡ p (rest comma_space 1 ps us)
listed-more p [] us = refl
listed-more p (q ∷ qs) us = refl

before-rest : (is : List Item) (us : List Piece) → commas (items_printers is) us ≡ gens_pieces (gens_of is) us → rest comma_space 1 (items_printers is) us ≡ before_items (gens_of is) (gens_pieces (gens_of is) us)
before-rest [] us h = refl
before-rest (over_item p d ∷ is) us h = ap comma_space h
before-rest (from_item p e ∷ is) us h = ap comma_space h
before-rest (cond_item e ∷ is) us h = ap comma_space h

pub items-written : (is : List Item) (us : List Piece) → commas (items_printers is) us ≡ gens_pieces (gens_of is) us
items-written [] us = refl
items-written (over_item p d ∷ is) us =
    let q : Printer = item_pieces (starts_generator (gens_of is)) (over_item p d) in
    listed-more q (items_printers is) us ∙ ap q (before-rest is us (items-written is us))
items-written (from_item p e ∷ is) us =
    let q : Printer = item_pieces (starts_generator (gens_of is)) (from_item p e) in
    listed-more q (items_printers is) us ∙ ap q (before-rest is us (items-written is us))
items-written (cond_item e ∷ is) us =
    let q : Printer = item_pieces (starts_generator (gens_of is)) (cond_item e) in
    listed-more q (items_printers is) us ∙ ap q (before-rest is us (items-written is us))

-- those of a list of generators and conditions
abbrev pub gens_printers : List Gen → List Printer
gens_printers gs = items_printers (map pure_gen gs)

-- ---- items of several pieces

pub pair-put : (p : PairEx) {t0 t1 t2 t3 : Text} → Puts t0 t1 (ex_pieces (pure_ex (out-PairEx p).from)) → t2 ≡ t1 ++ codes " --> " → Puts t2 t3 (ex_pieces (pure_ex (out-PairEx p).to)) →
    Puts t0 t3 (pair_pieces (pure_pair_ex p))
pair-put p {t0} {t1} {t2} {t3} h f g =
    let P : pure.Ex → Type 0 = λ e. Puts t0 t3 (pair_pieces e) in
    subst P (sym (pure_pair_ex_is p)) (puts-as (pair_pieces (node_ex false tuple_literal (more_exs (pure_ex (out-PairEx p).from) (more_exs (pure_ex (out-PairEx p).to) no_exs)))) (λ us. refl)
    (puts-then h (puts-then (puts-pieces (space ∷ sign maps_to ∷ space ∷ []) f) g)))

pub field-put : (f : FieldEx) {t0 t1 t2 t3 s : Text} → t1 ≡ t0 ++ s → s ≡ (out-FieldEx f).name → t2 ≡ t1 ++ codes " = " → Puts t2 t3 (ex_pieces (pure_ex (out-FieldEx f).ex)) → Puts t0 t3 (field_pieces f)
field-put f {t0} {t1} {t2} {t3} n k g h =
    let P : Text × pure.Ex → Type 0 = λ x. Puts t0 t3 (λ us. named x.0 ∷ space ∷ token (operator Op2.Eq) ∷ space ∷ ex_pieces x.1 us) in
    subst P (sym (pure_field_ex_is f)) (puts-then (name-put n k) (puts-then (puts-pieces (space ∷ token (operator Op2.Eq) ∷ space ∷ []) g) h))

pub field-dom-put : (f : FieldDom) {t0 t1 t2 t3 s : Text} → t1 ≡ t0 ++ s → s ≡ (out-FieldDom f).name → t2 ≡ t1 ++ codes " : " → Puts t2 t3 (dom_pieces (pure_dom (out-FieldDom f).dom)) →
    Puts t0 t3 (field_dom_pieces f)
field-dom-put f {t0} {t1} {t2} {t3} n k g h =
    let P : Text × pure.Dom → Type 0 = λ x. Puts t0 t3 (λ us. named x.0 ∷ space ∷ sign colon ∷ space ∷ dom_pieces x.1 us) in
    subst P (sym (pure_field_dom_is f)) (puts-then (name-put n k) (puts-then (puts-pieces (space ∷ sign colon ∷ space ∷ []) g) h))

-- ---- one item more, and the end

pub next-arg : (b : Bool) (es : List Ex) (i : ℕ) (e : Ex) → i < length es → e ≡ get_or es i e →
    args_printers b i (drop i es) ≡ bracketed (only_first b i) (ex_pieces (pure_ex e)) ∷ args_printers b (i + 1) (drop (i + 1) es)
next-arg b es i e lt is =
    let next : suc i ≡ i + 1 = omega arith in
    at_drop_more (λ xs. args_printers b i xs) es i e lt ∙ ap (λ x. args_printers b i (x ∷ drop (i + 1) es)) (sym is) ∙ args-first b i e (drop (i + 1) es)
    ∙ ap (λ j. bracketed (only_first b i) (ex_pieces (pure_ex e)) ∷ args_printers b j (drop (i + 1) es)) next

no-args : (b : Bool) (i : ℕ) → args_printers b i [] ≡ []
no-args b zero = refl
no-args b (suc i) = refl

pub args-end : (b : Bool) (es : List Ex) (i : ℕ) {t u : Text} → length es ≤ i → Writing comma_space t u i (args_printers b 0 es) (args_printers b i (drop i es)) → Puts t u (commas (args_printers b 0 es))
args-end b es i {t} {u} ge w =
    let P : List Printer → Type 0 = λ left. Writing comma_space t u i (args_printers b 0 es) left in
    ends-writing (subst P (ap (λ xs. args_printers b i xs) (drop_of_length-le es ge) ∙ no-args b i) w)

pub next-gen : (gs : List Gen) (i : ℕ) (g : Gen) → i < length gs → g ≡ get_or gs i g →
    gens_printers (drop i gs) ≡ item_pieces (starts_generator (pure_gens (drop (i + 1) gs))) (pure_gen g) ∷ gens_printers (drop (i + 1) gs)
next-gen gs i g lt is = at_drop_more gens_printers gs i g lt ∙ ap (λ x. gens_printers (x ∷ drop (i + 1) gs)) (sym is)

pub gens-end : (gs : List Gen) (i : ℕ) {t u : Text} → length gs ≤ i → Writing comma_space t u i (gens_printers gs) (gens_printers (drop i gs)) → Puts t u (gens_pieces (pure_gens gs))
gens-end gs i {t} {u} ge w =
    let P : List Printer → Type 0 = λ left. Writing comma_space t u i (gens_printers gs) left in
    puts-as (gens_pieces (pure_gens gs)) (λ us. items-written (map pure_gen gs) us) (ends-writing (subst P (ap gens_printers (drop_of_length-le gs ge)) w))

pub step-value : (ss : List Step) (i : ℕ) (s : Step) (e : Ex) → i < length ss → s ≡ get_or ss i s → s ≡ step.Value e → steps_printers (drop i ss) ≡ ex_pieces (pure_ex e) ∷ steps_printers (drop (i + 1) ss)
step-value ss i s e lt is v =
    at_drop_more steps_printers ss i s lt ∙ ap (λ x. steps_printers (x ∷ drop (i + 1) ss)) (sym is ∙ v)
    ∙ ap (λ x. wholes (operands (exs_of (x.1 ++ within (map pure_step (drop (i + 1) ss)))))) (pure_step_value e)

step-none : (ss : List Step) (i : ℕ) (s s' : Step) (q : pure.Step) → i < length ss → s ≡ get_or ss i s → s ≡ s' → pure_step s' ≡ (q, []) → steps_printers (drop i ss) ≡ steps_printers (drop (i + 1) ss)
step-none ss i s s' q lt is v h =
    at_drop_more steps_printers ss i s lt ∙ ap (λ x. steps_printers (x ∷ drop (i + 1) ss)) (sym is ∙ v)
    ∙ ap (λ x. wholes (operands (exs_of (x.1 ++ within (map pure_step (drop (i + 1) ss)))))) h

pub step-component : (ss : List Step) (i : ℕ) (s : Step) (k : ℕ) → i < length ss → s ≡ get_or ss i s → s ≡ step.Component k → steps_printers (drop i ss) ≡ steps_printers (drop (i + 1) ss)
step-component ss i s k lt is v = step-none ss i s (step.Component k) (to_component k) lt is v (pure_step_component k)

pub step-field : (ss : List Step) (i : ℕ) (s : Step) (a : Text) → i < length ss → s ≡ get_or ss i s → s ≡ step.Field a → steps_printers (drop i ss) ≡ steps_printers (drop (i + 1) ss)
step-field ss i s a lt is v = step-none ss i s (step.Field a) (to_field a) lt is v (pure_step_field a)

pub steps-end : (ss : List Step) (i : ℕ) {n : ℕ} {t u : Text} → length ss ≤ i → Writing comma_space t u n (steps_printers ss) (steps_printers (drop i ss)) → Puts t u (commas (steps_printers ss))
steps-end ss i {n} {t} {u} ge w =
    let P : List Printer → Type 0 = λ left. Writing comma_space t u n (steps_printers ss) left in
    ends-writing (subst P (ap steps_printers (drop_of_length-le ss ge)) w)
