-- The numbers of domains and the domains in them, judged one after another.
use Rattle.std.proofs.Common.{◌≡◌, refl, sym, ap, ◌∙◌, ℕ, ◌+◌, ◌<◌, ◌≤◌, List, [], ◌∷◌, ◌++◌, map, drop, length, get_or, Option, Some, None, option_map}
use Rattle.std.proofs.lemmas.List.{at_drop_more, at_drop_all}
use Rattle.ess_semantics.specs.declared.words.Key.{Key}
use Rattle.ess_semantics.specs.Trees as pure
use Rattle.ess_semantics.specs.Kinds.{doms_of}
use Rattle.ess_semantics.specs.Scopes.{Scope}
use Rattle.ess_core.specs.TreeViews.{within, exs_of, field_values, span, attribute, no_bound, pure_ex, pure_dom, pure_doms, pure_attr, pure_range, pure_field_dom}
use Rattle.ess_core.specs.declared.domains.Attr.{Attr}
use Rattle.ess_core.specs.declared.domains.Range.{Range}
use Rattle.ess_core.specs.declared.domains.Dom.{Dom}
use Rattle.ess_core.specs.declared.domains.FieldDom.{FieldDom}
use Rattle.ess_core.specs.declared.domains.Dom.TheViews.{out-Attr, out-FieldDom}
use Rattle.ess_core.proofs.PartEquations.{pure_attr_is, pure_field_dom_is}
use Rattle.ess_types_judging_laws.specs.Found.{Found, both}
use Rattle.ess_types_judging_laws.specs.Judged.{judged, judged_all, judged_dom, judged_doms}
use Rattle.ess_types_judging_laws.specs.Accumulated.{Numbers, with_number, numbers_on}
use Rattle.ess_types_judging_laws.proofs.Truths.{both_assoc, both_well, and_true}
use Rattle.ess_types_judging.specs.Forms.{bound_on}

-- What is found of the numbers among these expressions, behind others.
abbrev pub on_list : List pure.Ex → Scope → Numbers → Numbers
on_list es s v = numbers_on (judged_all (exs_of es) s) v

on-append : (es fs : List pure.Ex) (s : Scope) (v : Numbers) → on_list (es ++ fs) s v ≡ on_list fs s (on_list es s v)
on-append [] fs s v = refl
on-append (e ∷ es) fs s v = on-append es fs s (with_number v (judged e s))

-- ---- attributes

-- What is found of the numbers of a row of attributes, behind others.
abbrev pub on_attrs : List Attr → Scope → Numbers → Numbers
on_attrs ms s v = on_list (within (map pure_attr ms)) s v

attr-number : (k : Key) (o : Option pure.Ex) (s : Scope) (v : Numbers) → on_list (attribute k o).1 s v ≡ bound_on o s v
attr-number k None s v = refl
attr-number k (Some e) s v = refl

one-attr : (a : Attr) (s : Scope) (v : Numbers) → on_list (pure_attr a).1 s v ≡ bound_on (option_map pure_ex (out-Attr a).value) s v
one-attr a s v =
    ap (λ w. on_list w.1 s v) (pure_attr_is a) ∙ attr-number (out-Attr a).key (option_map pure_ex (out-Attr a).value) s v

pub attrs_more : (ms : List Attr) (s : Scope) (v w : Numbers) (i : ℕ) (a : Attr) → i < length ms → a ≡ get_or ms i a →
    w ≡ bound_on (option_map pure_ex (out-Attr a).value) s v →
    on_attrs (drop i ms) s v ≡ on_attrs (drop (i + 1) ms) s w
attrs_more ms s v w i a h is q =
    at_drop_more (λ l. on_attrs l s v) ms i a h ∙ ap (λ x. on_attrs (x ∷ drop (i + 1) ms) s v) (sym is)
    ∙ on-append (pure_attr a).1 (within (map pure_attr (drop (i + 1) ms))) s v
    ∙ ap (on_attrs (drop (i + 1) ms) s) (one-attr a s v ∙ sym q)

pub attrs_all : (ms : List Attr) (s : Scope) (v : Numbers) (i : ℕ) → length ms ≤ i → on_attrs (drop i ms) s v ≡ v
attrs_all ms s v i h = at_drop_all (λ l. on_attrs l s v) ms i h

-- ---- ranges

-- What is found of the numbers of a row of ranges, behind others.
abbrev pub on_ranges : List Range → Scope → Numbers → Numbers
on_ranges rs s v = on_list (within (map pure_range rs)) s v

pub ranges_more : (rs : List Range) (s : Scope) (v w : Numbers) (i : ℕ) (r : Range) → i < length rs → r ≡ get_or rs i r →
    w ≡ on_list (pure_range r).1 s v →
    on_ranges (drop i rs) s v ≡ on_ranges (drop (i + 1) rs) s w
ranges_more rs s v w i r h is q =
    at_drop_more (λ l. on_ranges l s v) rs i r h ∙ ap (λ x. on_ranges (x ∷ drop (i + 1) rs) s v) (sym is)
    ∙ on-append (pure_range r).1 (within (map pure_range (drop (i + 1) rs))) s v
    ∙ ap (on_ranges (drop (i + 1) rs) s) (sym q)

pub ranges_all : (rs : List Range) (s : Scope) (v : Numbers) (i : ℕ) → length rs ≤ i → on_ranges (drop i rs) s v ≡ v
ranges_all rs s v i h = at_drop_all (λ l. on_ranges l s v) rs i h

numbers-same : (v w : Numbers) → v.ints ≡ w.ints → v.found ≡ w.found → v ≡ w
numbers-same v w p q = ap (λ x. record v { ints = x }) p ∙ ap (λ x. record v { ints = w.ints; found = x }) q

no-number : (s : Scope) (v : Numbers) → with_number v (judged no_bound s) ≡ v
no-number s v = numbers-same (with_number v (judged no_bound s)) v (and_true v.ints) (both_well v.found)

-- A bound that is missing where both are is a number in which nothing is amiss.
pub span_on : (low high : Option pure.Ex) (s : Scope) (v : Numbers) → on_list (span low high).1 s v ≡ bound_on high s (bound_on low s v)
span_on None None s v = no-number s (with_number v (judged no_bound s)) ∙ no-number s v
span_on None (Some b) s v = refl
span_on (Some a) None s v = refl
span_on (Some a) (Some b) s v = refl

-- ---- domains

-- What is found of a row of domains, behind f.
abbrev pub on_doms : List Dom → Scope → Found → Found
on_doms ds s f = both f (judged_doms (pure_doms ds) s)

pub doms_more : (ds : List Dom) (s : Scope) (f g : Found) (i : ℕ) (d : Dom) → i < length ds → d ≡ get_or ds i d →
    g ≡ both f (judged_dom (pure_dom d) s) →
    on_doms (drop i ds) s f ≡ on_doms (drop (i + 1) ds) s g
doms_more ds s f g i d h is q =
    at_drop_more (λ l. on_doms l s f) ds i d h ∙ ap (λ x. on_doms (x ∷ drop (i + 1) ds) s f) (sym is)
    ∙ sym (both_assoc f (judged_dom (pure_dom d) s) (judged_doms (pure_doms (drop (i + 1) ds)) s))
    ∙ ap (on_doms (drop (i + 1) ds) s) (sym q)

pub doms_all : (ds : List Dom) (s : Scope) (f : Found) (i : ℕ) → length ds ≤ i → on_doms (drop i ds) s f ≡ f
doms_all ds s f i h = at_drop_all (λ l. on_doms l s f) ds i h ∙ both_well f

-- What is found of the domains of a row of fields, behind f.
abbrev pub on_field_doms : List FieldDom → Scope → Found → Found
on_field_doms fs s f = both f (judged_doms (doms_of (field_values (map pure_field_dom fs))) s)

field-dom : (x : FieldDom) → (pure_field_dom x).1 ≡ pure_dom (out-FieldDom x).dom
field-dom x = ap (λ f. f.1) (pure_field_dom_is x)

pub field_doms_more : (fs : List FieldDom) (s : Scope) (f g : Found) (i : ℕ) (x : FieldDom) → i < length fs → x ≡ get_or fs i x →
    g ≡ both f (judged_dom (pure_dom (out-FieldDom x).dom) s) →
    on_field_doms (drop i fs) s f ≡ on_field_doms (drop (i + 1) fs) s g
field_doms_more fs s f g i x h is q =
    at_drop_more (λ l. on_field_doms l s f) fs i x h ∙ ap (λ y. on_field_doms (y ∷ drop (i + 1) fs) s f) (sym is)
    ∙ sym (both_assoc f (judged_dom (pure_field_dom x).1 s) (judged_doms (doms_of (field_values (map pure_field_dom (drop (i + 1) fs)))) s))
    ∙ ap (λ d. on_field_doms (drop (i + 1) fs) s (both f (judged_dom d s))) (field-dom x)
    ∙ ap (on_field_doms (drop (i + 1) fs) s) (sym q)

pub field_doms_all : (fs : List FieldDom) (s : Scope) (f : Found) (i : ℕ) → length fs ≤ i → on_field_doms (drop i fs) s f ≡ f
field_doms_all fs s f i h = at_drop_all (λ l. on_field_doms l s f) fs i h ∙ both_well f
