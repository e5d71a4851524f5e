-- The laws of replacement for what expressions and domains consist of.
use Rattle.std.proofs.Common.{◌≡◌, ℕ, List, [], ◌∷◌, map, Option, Some, None, refl, sym, ap, ◌∙◌, subst}
use Rattle.ess_core.specs.declared.domains.Dom.{Dom, roll-Dom}
use Rattle.ess_core.specs.declared.domains.FieldDom.{FieldDom, roll-FieldDom}
use Rattle.ess_core.specs.declared.domains.Range.{Range, out-Range, roll-Range, roll-out-Range, out-roll-Range}
use Rattle.ess_core.specs.declared.domains.Attr.{Attr, out-Attr, roll-Attr, roll-out-Attr}
use Rattle.ess_core.specs.declared.expressions.Ex.{Ex, out-Ex, roll-Ex, roll-out-Ex, out-roll-Ex}
use Rattle.ess_core.specs.declared.expressions.Step.{Step, out-Step, roll-Step, roll-out-Step}
use Rattle.ess_core.specs.declared.expressions.FieldEx.{FieldEx, out-FieldEx, roll-FieldEx, roll-out-FieldEx}
use Rattle.ess_core.specs.declared.expressions.PairEx.{PairEx, out-PairEx, roll-PairEx, roll-out-PairEx}
use Rattle.ess_core.specs.declared.expressions.Gen.{Gen, out-Gen, roll-Gen, roll-out-Gen}
use Rattle.ess_core.specs.declared.expressions.View.{View, out-View, roll-View, roll-out-View}
use Rattle.ess_core.specs.declared.domains.Dom.TheVariants as dom
use Rattle.ess_core.specs.declared.domains.Range.TheVariants as range
use Rattle.ess_core.specs.declared.expressions.Ex.TheVariants as ex
use Rattle.ess_core.specs.declared.expressions.Step.TheVariants as step
use Rattle.ess_core.specs.declared.expressions.Gen.TheVariants as gen
use Rattle.ess_core.specs.declared.domains.Dom.TheOpen.{Dom-F, FieldDom-F, Range-F, Attr-F, Ex-F, Step-F, FieldEx-F, PairEx-F, Gen-F, View-F}
use Rattle.ess_core.specs.declared.domains.Dom.TheFolds.{ind-Dom, map-Dom}
use Rattle.ess_core_parts.specs.Numbered.{Parted, bare, itself, made, beside, both, row, maybe}
use Rattle.ess_core_parts.specs.Parts.{range_parts, parted_range, parted_attr, parted_step, parted_field_ex, parted_pair_ex, parted_dom, parted_field_dom, parted_gen, parted_view, parted_ex, ex_parts}
use Rattle.ess_core_parts.proofs.DomainParts.{bool_split, int_split, name_split, tuple_split, record_split, matrix_split, set_split, mset_split, function_split, relation_split, partition_split, field_split}
use Rattle.ess_core_parts.proofs.Lawful.{Lawful, bare-lawful, itself-lawful, made-lawful, both-lawful, row-lawful-of, row-lawful, maybe-lawful, beside-lawful}

pub range-split : (x : Range-F Dom Range Ex Gen Step Attr FieldDom FieldEx PairEx View) (r : Range) → roll-Range x ≡ r → parted_range r ≡ range_parts x
range-split x r is = ap parted_range (sym is) ∙ ap range_parts (out-roll-Range x)

range-layer : (x : Range-F Dom Range Ex Gen Step Attr FieldDom FieldEx PairEx View) → Lawful parted_range (roll-Range x)
range-layer (Range-F.Range::One e) =
    subst (Lawful parted_range) (sym (range.rolls-One e)) (made-lawful range.One itself parted_range (λ e. range-split (Range-F.Range::One e) (range.One e) (range.rolls-One e)) e (itself-lawful e))
range-layer (Range-F.Span low high) =
    subst (Lawful parted_range) (sym (range.rolls-Span low high))
    (both-lawful range.Span (maybe itself) (maybe itself) parted_range (λ low high. range-split (Range-F.Span low high) (range.Span low high) (range.rolls-Span low high)) low high
    (maybe-lawful itself itself-lawful low) (maybe-lawful itself itself-lawful high))

pub range-lawful : (r : Range) → Lawful parted_range r
range-lawful r = subst (Lawful parted_range) (roll-out-Range r) (range-layer (out-Range r))

attr-layer : (x : Attr-F Dom Range Ex Gen Step Attr FieldDom FieldEx PairEx View) → Lawful parted_attr (roll-Attr x)
attr-layer x = made-lawful (λ v. roll-Attr (record { key = x.key; value = v })) (maybe itself) parted_attr (λ v. refl) x.value (maybe-lawful itself itself-lawful x.value)

pub attr-lawful : (a : Attr) → Lawful parted_attr a
attr-lawful a = subst (Lawful parted_attr) (roll-out-Attr a) (attr-layer (out-Attr a))

step-layer : (x : Step-F Dom Range Ex Gen Step Attr FieldDom FieldEx PairEx View) → Lawful parted_step (roll-Step x)
unfolding roll-Step denote.Hole.Carrier.roll out-Step denote.Hole.Carrier.out
step-layer (Step-F.Value e) = made-lawful step.Value itself parted_step (λ e. refl) e (itself-lawful e)
step-layer (Step-F.Component k) = bare-lawful parted_step (step.Component k) refl
step-layer (Step-F.Field a) = bare-lawful parted_step (step.Field a) refl

pub step-lawful : (s : Step) → Lawful parted_step s
step-lawful s = subst (Lawful parted_step) (roll-out-Step s) (step-layer (out-Step s))

field-ex-layer : (x : FieldEx-F Dom Range Ex Gen Step Attr FieldDom FieldEx PairEx View) → Lawful parted_field_ex (roll-FieldEx x)
field-ex-layer x = made-lawful (λ e. roll-FieldEx (record { name = x.name; ex = e })) itself parted_field_ex (λ e. refl) x.ex (itself-lawful x.ex)

pub field-ex-lawful : (f : FieldEx) → Lawful parted_field_ex f
field-ex-lawful f = subst (Lawful parted_field_ex) (roll-out-FieldEx f) (field-ex-layer (out-FieldEx f))

pair-ex-layer : (x : PairEx-F Dom Range Ex Gen Step Attr FieldDom FieldEx PairEx View) → Lawful parted_pair_ex (roll-PairEx x)
pair-ex-layer x = both-lawful (λ a b. roll-PairEx (record { from = a; to = b })) itself itself parted_pair_ex (λ a b. refl) x.from x.to (itself-lawful x.from) (itself-lawful x.to)

pub pair-ex-lawful : (p : PairEx) → Lawful parted_pair_ex p
pair-ex-lawful p = subst (Lawful parted_pair_ex) (roll-out-PairEx p) (pair-ex-layer (out-PairEx p))

-- ---- domains

abbrev WithLaw : Type 0
WithLaw = (d : Dom) × Lawful parted_dom d

abbrev FieldWithLaw : Type 0
FieldWithLaw = (f : FieldDom) × Lawful parted_field_dom f

abbrev Bare : Type 0 → Type 0
Bare A = (x : A) × Unit {0}

dom-layer : (y : Dom-F WithLaw (Bare Range) (Bare Ex) (Bare Gen) (Bare Step) (Bare Attr) FieldWithLaw (Bare FieldEx) (Bare PairEx) (Bare View))
    → Lawful parted_dom (roll-Dom (map-Dom WithLaw (Bare Range) (Bare Ex) (Bare Gen) (Bare Step) (Bare Attr) FieldWithLaw (Bare FieldEx) (Bare PairEx) (Bare View)
    Dom Range Ex Gen Step Attr FieldDom FieldEx PairEx View
    (λ e. e.0) (λ e. e.0) (λ e. e.0) (λ e. e.0) (λ e. e.0) (λ e. e.0) (λ e. e.0) (λ e. e.0) (λ e. e.0) (λ e. e.0) y))
unfolding roll-Dom denote.Hole.Carrier.roll
dom-layer Dom-F.Bool = bare-lawful parted_dom dom.Bool bool_split
dom-layer (Dom-F.Int rs) = made-lawful dom.Int (row parted_range) parted_dom int_split (map (λ x. x.0) rs) (row-lawful parted_range range-lawful (map (λ x. x.0) rs))
dom-layer (Dom-F.Dom::Name a) = bare-lawful parted_dom (dom.Name a) (name_split a)
dom-layer (Dom-F.Dom::Tuple ds) = made-lawful dom.Tuple (row parted_dom) parted_dom tuple_split (map (λ x. x.0) ds) (row-lawful-of parted_dom ds)
dom-layer (Dom-F.Dom::Rec fs) = made-lawful dom.Rec (row parted_field_dom) parted_dom record_split (map (λ x. x.0) fs) (row-lawful-of parted_field_dom fs)
dom-layer (Dom-F.Dom::Matrix is d) = both-lawful dom.Matrix (row parted_dom) parted_dom parted_dom matrix_split (map (λ x. x.0) is) d.0 (row-lawful-of parted_dom is) d.1
dom-layer (Dom-F.Dom::Set ms d) = both-lawful dom.Set (row parted_attr) parted_dom parted_dom set_split (map (λ x. x.0) ms) d.0 (row-lawful parted_attr attr-lawful (map (λ x. x.0) ms)) d.1
dom-layer (Dom-F.Dom::MSet ms d) = both-lawful dom.MSet (row parted_attr) parted_dom parted_dom mset_split (map (λ x. x.0) ms) d.0 (row-lawful parted_attr attr-lawful (map (λ x. x.0) ms)) d.1
dom-layer (Dom-F.Dom::Function ms d e) =
    both-lawful (λ md x. dom.Function md.0 md.1 x) (λ md. beside (row parted_attr md.0) md.1 (parted_dom md.1)) parted_dom parted_dom (λ md x. function_split md.0 md.1 x)
    (map (λ x. x.0) ms, d.0) e.0 (beside-lawful (row parted_attr) parted_dom (map (λ x. x.0) ms) d.0 (row-lawful parted_attr attr-lawful (map (λ x. x.0) ms)) d.1) e.1
dom-layer (Dom-F.Dom::Relation ms ds) = both-lawful dom.Relation (row parted_attr) (row parted_dom) parted_dom relation_split (map (λ x. x.0) ms) (map (λ x. x.0) ds) (row-lawful parted_attr attr-lawful (map (λ x. x.0) ms)) (row-lawful-of parted_dom ds)
dom-layer (Dom-F.Dom::Partition ms d) = both-lawful dom.Partition (row parted_attr) parted_dom parted_dom partition_split (map (λ x. x.0) ms) d.0 (row-lawful parted_attr attr-lawful (map (λ x. x.0) ms)) d.1

field-layer : (y : FieldDom-F WithLaw (Bare Range) (Bare Ex) (Bare Gen) (Bare Step) (Bare Attr) FieldWithLaw (Bare FieldEx) (Bare PairEx) (Bare View))
    → Lawful parted_field_dom (roll-FieldDom (record { name = y.name; dom = y.dom.0 }))
field-layer y = made-lawful (λ d. roll-FieldDom (record { name = y.name; dom = d })) parted_dom parted_field_dom (λ d. field_split (record { name = y.name; dom = d })) y.dom.0 y.dom.1

pub dom-lawful : (d : Dom) → Lawful parted_dom d
dom-lawful =
    ind-Dom (Lawful parted_dom) (λ r. Unit {0}) (λ e. Unit {0}) (λ g. Unit {0}) (λ s. Unit {0}) (λ a. Unit {0}) (Lawful parted_field_dom) (λ f. Unit {0}) (λ p. Unit {0}) (λ v. Unit {0})
    (λ x y is. subst (λ z. Lawful parted_dom (roll-Dom z)) is (dom-layer y)) (λ x y is. tt) (λ x y is. tt) (λ x y is. tt) (λ x y is. tt) (λ x y is. tt)
    (λ x y is. subst (λ z. Lawful parted_field_dom (roll-FieldDom z)) is (field-layer y)) (λ x y is. tt) (λ x y is. tt) (λ x y is. tt)

-- ---- what holds domains

gen-layer : (x : Gen-F Dom Range Ex Gen Step Attr FieldDom FieldEx PairEx View) → Lawful parted_gen (roll-Gen x)
unfolding roll-Gen denote.Hole.Carrier.roll out-Gen denote.Hole.Carrier.out
gen-layer (Gen-F.Over p d) = made-lawful (gen.Over p) parted_dom parted_gen (λ d. refl) d (dom-lawful d)
gen-layer (Gen-F.From p e) = made-lawful (gen.From p) itself parted_gen (λ e. refl) e (itself-lawful e)
gen-layer (Gen-F.If e) = made-lawful gen.If itself parted_gen (λ e. refl) e (itself-lawful e)

pub gen-lawful : (g : Gen) → Lawful parted_gen g
gen-lawful g = subst (Lawful parted_gen) (roll-out-Gen g) (gen-layer (out-Gen g))

exs-lawful : (es : List Ex) → Lawful (row itself) es
exs-lawful = row-lawful itself itself-lawful

view-layer : (x : View-F Dom Range Ex Gen Step Attr FieldDom FieldEx PairEx View) → Lawful parted_view (roll-View x)
view-layer x =
    both-lawful (λ d es. roll-View (record { repr = x.repr; dom = d; cells = x.cells; at = es })) parted_dom (row itself) parted_view (λ d es. refl) x.dom x.at (dom-lawful x.dom) (exs-lawful x.at)

pub view-lawful : (v : View) → Lawful parted_view v
view-lawful v = subst (Lawful parted_view) (roll-out-View v) (view-layer (out-View v))

-- ---- expressions

pub ex-split : (x : Ex-F Dom Range Ex Gen Step Attr FieldDom FieldEx PairEx View) (e : Ex) → roll-Ex x ≡ e → parted_ex e ≡ ex_parts x
ex-split x e is = ap parted_ex (sym is) ∙ ap ex_parts (out-roll-Ex x)

ex-layer : (x : Ex-F Dom Range Ex Gen Step Attr FieldDom FieldEx PairEx View) → Lawful parted_ex (roll-Ex x)
ex-layer (Ex-F.Num n) = subst (Lawful parted_ex) (sym (ex.rolls-Num n))
    (bare-lawful parted_ex (ex.Num n) (ex-split (Ex-F.Num n) (ex.Num n) (ex.rolls-Num n)))
ex-layer (Ex-F.Truth b) = subst (Lawful parted_ex) (sym (ex.rolls-Truth b))
    (bare-lawful parted_ex (ex.Truth b) (ex-split (Ex-F.Truth b) (ex.Truth b) (ex.rolls-Truth b)))
ex-layer (Ex-F.Ex::Name a) = subst (Lawful parted_ex) (sym (ex.rolls-Name a))
    (bare-lawful parted_ex (ex.Name a) (ex-split (Ex-F.Ex::Name a) (ex.Name a) (ex.rolls-Name a)))
ex-layer (Ex-F.Ex::One o a) = subst (Lawful parted_ex) (sym (ex.rolls-One o a))
    (made-lawful (ex.One o) itself parted_ex (λ a. ex-split (Ex-F.Ex::One o a) (ex.One o a) (ex.rolls-One o a)) a (itself-lawful a))
ex-layer (Ex-F.Two o a b) = subst (Lawful parted_ex) (sym (ex.rolls-Two o a b))
    (both-lawful (ex.Two o) itself itself parted_ex (λ a b. ex-split (Ex-F.Two o a b) (ex.Two o a b) (ex.rolls-Two o a b)) a b (itself-lawful a) (itself-lawful b))
ex-layer (Ex-F.Call b f es) = subst (Lawful parted_ex) (sym (ex.rolls-Call b f es))
    (made-lawful (ex.Call b f) (row itself) parted_ex (λ es. ex-split (Ex-F.Call b f es) (ex.Call b f es) (ex.rolls-Call b f es)) es (exs-lawful es))
ex-layer (Ex-F.At b e ss) = subst (Lawful parted_ex) (sym (ex.rolls-At b e ss))
    (both-lawful (ex.At b) itself (row parted_step) parted_ex (λ e ss. ex-split (Ex-F.At b e ss) (ex.At b e ss) (ex.rolls-At b e ss)) e ss (itself-lawful e) (row-lawful parted_step step-lawful ss))
ex-layer (Ex-F.Apply b f es) = subst (Lawful parted_ex) (sym (ex.rolls-Apply b f es))
    (both-lawful (ex.Apply b) itself (row itself) parted_ex (λ f es. ex-split (Ex-F.Apply b f es) (ex.Apply b f es) (ex.rolls-Apply b f es)) f es (itself-lawful f) (exs-lawful es))
ex-layer (Ex-F.Ex::Tuple es) = subst (Lawful parted_ex) (sym (ex.rolls-Tuple es))
    (made-lawful ex.Tuple (row itself) parted_ex (λ es. ex-split (Ex-F.Ex::Tuple es) (ex.Tuple es) (ex.rolls-Tuple es)) es (exs-lawful es))
ex-layer (Ex-F.Ex::Rec fs) = subst (Lawful parted_ex) (sym (ex.rolls-Rec fs))
    (made-lawful ex.Rec (row parted_field_ex) parted_ex (λ fs. ex-split (Ex-F.Ex::Rec fs) (ex.Rec fs) (ex.rolls-Rec fs)) fs (row-lawful parted_field_ex field-ex-lawful fs))
ex-layer (Ex-F.Ex::Set es) = subst (Lawful parted_ex) (sym (ex.rolls-Set es))
    (made-lawful ex.Set (row itself) parted_ex (λ es. ex-split (Ex-F.Ex::Set es) (ex.Set es) (ex.rolls-Set es)) es (exs-lawful es))
ex-layer (Ex-F.Ex::MSet es) = subst (Lawful parted_ex) (sym (ex.rolls-MSet es))
    (made-lawful ex.MSet (row itself) parted_ex (λ es. ex-split (Ex-F.Ex::MSet es) (ex.MSet es) (ex.rolls-MSet es)) es (exs-lawful es))
ex-layer (Ex-F.Ex::Function ps) = subst (Lawful parted_ex) (sym (ex.rolls-Function ps))
    (made-lawful ex.Function (row parted_pair_ex) parted_ex (λ ps. ex-split (Ex-F.Ex::Function ps) (ex.Function ps) (ex.rolls-Function ps)) ps (row-lawful parted_pair_ex pair-ex-lawful ps))
ex-layer (Ex-F.Ex::Relation es) = subst (Lawful parted_ex) (sym (ex.rolls-Relation es))
    (made-lawful ex.Relation (row itself) parted_ex (λ es. ex-split (Ex-F.Ex::Relation es) (ex.Relation es) (ex.rolls-Relation es)) es (exs-lawful es))
ex-layer (Ex-F.Ex::Partition es) = subst (Lawful parted_ex) (sym (ex.rolls-Partition es))
    (made-lawful ex.Partition (row itself) parted_ex (λ es. ex-split (Ex-F.Ex::Partition es) (ex.Partition es) (ex.rolls-Partition es)) es (exs-lawful es))
ex-layer (Ex-F.Ex::Matrix es d) = subst (Lawful parted_ex) (sym (ex.rolls-Matrix es d))
    (both-lawful ex.Matrix (row itself) (maybe parted_dom) parted_ex (λ es d. ex-split (Ex-F.Ex::Matrix es d) (ex.Matrix es d) (ex.rolls-Matrix es d)) es d (exs-lawful es) (maybe-lawful parted_dom dom-lawful d))
ex-layer (Ex-F.Comp e gs) = subst (Lawful parted_ex) (sym (ex.rolls-Comp e gs))
    (both-lawful ex.Comp itself (row parted_gen) parted_ex (λ e gs. ex-split (Ex-F.Comp e gs) (ex.Comp e gs) (ex.rolls-Comp e gs)) e gs (itself-lawful e) (row-lawful parted_gen gen-lawful gs))
ex-layer (Ex-F.Cell b n es) = subst (Lawful parted_ex) (sym (ex.rolls-Cell b n es))
    (made-lawful (ex.Cell b n) (row itself) parted_ex (λ es. ex-split (Ex-F.Cell b n es) (ex.Cell b n es) (ex.rolls-Cell b n es)) es (exs-lawful es))
ex-layer (Ex-F.Seen v) = subst (Lawful parted_ex) (sym (ex.rolls-Seen v))
    (made-lawful ex.Seen parted_view parted_ex (λ v. ex-split (Ex-F.Seen v) (ex.Seen v) (ex.rolls-Seen v)) v (view-lawful v))

-- An expression after one of its parts is replaced.
pub ex-lawful : (e : Ex) → Lawful parted_ex e
ex-lawful e = subst (Lawful parted_ex) (roll-out-Ex e) (ex-layer (out-Ex e))
