-- The parts of expressions and domains: the outermost expressions in them, numbered from 0 in the order of the text.
use Rattle.std.specs.Prelude.{◌≡◌, ℕ, false, List, [], ◌∷◌, map, Option, Some, None, slice_get, option_and_then}
use Rattle.ess_core_parts.specs.Numbered.{Parted, bare, itself, made, beside, both, row, maybe, held_row}
use Rattle.ess_core.specs.declared.domains.Dom.{Dom}
use Rattle.ess_core.specs.declared.domains.FieldDom.{FieldDom, roll-FieldDom}
use Rattle.ess_core.specs.declared.domains.Range.{Range, out-Range}
use Rattle.ess_core.specs.declared.domains.Attr.{Attr, out-Attr, roll-Attr}
use Rattle.ess_core.specs.declared.expressions.Ex.{Ex, out-Ex}
use Rattle.ess_core.specs.declared.expressions.Step.{Step, out-Step}
use Rattle.ess_core.specs.declared.expressions.FieldEx.{FieldEx, out-FieldEx, roll-FieldEx}
use Rattle.ess_core.specs.declared.expressions.PairEx.{PairEx, out-PairEx, roll-PairEx}
use Rattle.ess_core.specs.declared.expressions.Gen.{Gen, out-Gen}
use Rattle.ess_core.specs.declared.expressions.View.{View, out-View, roll-View}
use Rattle.ess_core.specs.declared.domains.Dom.TheVariants as dom
use Rattle.ess_core.specs.declared.domains.Range.TheVariants as range
use Rattle.ess_core.specs.declared.expressions.Ex.TheVariants as ex
use Rattle.ess_core.specs.declared.expressions.Step.TheVariants as step
use Rattle.ess_core.specs.declared.expressions.Gen.TheVariants as gen
use Rattle.ess_core.specs.declared.domains.Dom.TheOpen.{Dom-F, FieldDom-F, Range-F, Attr-F, Ex-F, Step-F, FieldEx-F, PairEx-F, Gen-F, View-F}
use Rattle.ess_core.specs.declared.domains.Dom.TheFolds.{para-Dom, para-FieldDom}

-- ---- what holds expressions alone

abbrev pub range_parts : Range-F Dom Range Ex Gen Step Attr FieldDom FieldEx PairEx View → Parted Range
range_parts (Range-F.Range::One e) = made range.One (itself e)
range_parts (Range-F.Span low high) = both range.Span (maybe itself low) high (maybe itself high)

-- A range: its bounds.
abbrev pub parted_range : Range → Parted Range
parted_range r = range_parts (out-Range r)

abbrev attr_parts : Attr-F Dom Range Ex Gen Step Attr FieldDom FieldEx PairEx View → Parted Attr
attr_parts a = made (λ v. roll-Attr (record { key = a.key; value = v })) (maybe itself a.value)

-- An attribute: its number, where it has one.
abbrev pub parted_attr : Attr → Parted Attr
parted_attr a = attr_parts (out-Attr a)

abbrev step_parts : Step-F Dom Range Ex Gen Step Attr FieldDom FieldEx PairEx View → Parted Step
step_parts (Step-F.Value e) = made step.Value (itself e)
step_parts (Step-F.Component k) = bare (step.Component k)
step_parts (Step-F.Field a) = bare (step.Field a)

-- A step of an index: its value.
abbrev pub parted_step : Step → Parted Step
parted_step s = step_parts (out-Step s)

abbrev field_ex_parts : FieldEx-F Dom Range Ex Gen Step Attr FieldDom FieldEx PairEx View → Parted FieldEx
field_ex_parts f = made (λ e. roll-FieldEx (record { name = f.name; ex = e })) (itself f.ex)

-- A field of a record literal: its expression.
abbrev pub parted_field_ex : FieldEx → Parted FieldEx
parted_field_ex f = field_ex_parts (out-FieldEx f)

abbrev pair_ex_parts : PairEx-F Dom Range Ex Gen Step Attr FieldDom FieldEx PairEx View → Parted PairEx
pair_ex_parts p = both (λ a b. roll-PairEx (record { from = a; to = b })) (itself p.from) p.to (itself p.to)

-- A pair of a function literal: the argument, then the value there.
abbrev pub parted_pair_ex : PairEx → Parted PairEx
parted_pair_ex p = pair_ex_parts (out-PairEx p)

-- ---- domains, by a recursion over the domains in them: each inner domain stands beside its parts

abbrev pub Beside : Type 0 → Type 0
Beside A = A × Unit {0}

abbrev pub Held : Type 0 → Type 0
Held A = A × Parted A

abbrev pub dom_parts : Dom-F (Held Dom) (Beside Range) (Beside Ex) (Beside Gen) (Beside Step) (Beside Attr) (Held FieldDom) (Beside FieldEx) (Beside PairEx) (Beside View) → Parted Dom
dom_parts Dom-F.Bool = bare dom.Bool
dom_parts (Dom-F.Int rs) = let ranges = map (λ r. r.0) rs in made dom.Int (row parted_range ranges)
dom_parts (Dom-F.Dom::Name a) = bare (dom.Name a)
dom_parts (Dom-F.Dom::Tuple ds) = made dom.Tuple (held_row ds)
dom_parts (Dom-F.Dom::Rec fs) = made dom.Rec (held_row fs)
dom_parts (Dom-F.Dom::Matrix is d) = both dom.Matrix (held_row is) d.0 d.1
dom_parts (Dom-F.Dom::Set ms d) = let attrs = map (λ m. m.0) ms in both dom.Set (row parted_attr attrs) d.0 d.1
dom_parts (Dom-F.Dom::MSet ms d) = let attrs = map (λ m. m.0) ms in both dom.MSet (row parted_attr attrs) d.0 d.1
dom_parts (Dom-F.Dom::Function ms d e) = let attrs = map (λ m. m.0) ms in
    both (λ md e. dom.Function md.0 md.1 e) (beside (row parted_attr attrs) d.0 d.1) e.0 e.1
dom_parts (Dom-F.Dom::Relation ms ds) = let attrs = map (λ m. m.0) ms in
    both dom.Relation (row parted_attr attrs) (map (λ d. d.0) ds) (held_row ds)
dom_parts (Dom-F.Dom::Partition ms d) = let attrs = map (λ m. m.0) ms in both dom.Partition (row parted_attr attrs) d.0 d.1

abbrev pub field_dom_parts : FieldDom-F (Held Dom) (Beside Range) (Beside Ex) (Beside Gen) (Beside Step) (Beside Attr) (Held FieldDom) (Beside FieldEx) (Beside PairEx) (Beside View) → Parted FieldDom
field_dom_parts f = made (λ d. roll-FieldDom (record { name = f.name; dom = d })) f.dom.1

-- A domain: the expressions in its ranges, its attributes and its inner domains.
abbrev pub parted_dom : Dom → Parted Dom
parted_dom = para-Dom (Parted Dom) (Unit {0}) (Unit {0}) (Unit {0}) (Unit {0}) (Unit {0}) (Parted FieldDom) (Unit {0}) (Unit {0}) (Unit {0})
    dom_parts (λ x. tt) (λ x. tt) (λ x. tt) (λ x. tt) (λ x. tt) field_dom_parts (λ x. tt) (λ x. tt) (λ x. tt)

-- A field of a record's domain: the parts of its domain.
abbrev pub parted_field_dom : FieldDom → Parted FieldDom
parted_field_dom = para-FieldDom (Parted Dom) (Unit {0}) (Unit {0}) (Unit {0}) (Unit {0}) (Unit {0}) (Parted FieldDom) (Unit {0}) (Unit {0}) (Unit {0})
    dom_parts (λ x. tt) (λ x. tt) (λ x. tt) (λ x. tt) (λ x. tt) field_dom_parts (λ x. tt) (λ x. tt) (λ x. tt)

-- ---- what holds domains

abbrev gen_parts : Gen-F Dom Range Ex Gen Step Attr FieldDom FieldEx PairEx View → Parted Gen
gen_parts (Gen-F.Over p d) = made (gen.Over p) (parted_dom d)
gen_parts (Gen-F.From p e) = made (gen.From p) (itself e)
gen_parts (Gen-F.If e) = made gen.If (itself e)

-- A generator or condition: the parts of its domain, or its expression.
abbrev pub parted_gen : Gen → Parted Gen
parted_gen g = gen_parts (out-Gen g)

abbrev view_parts : View-F Dom Range Ex Gen Step Attr FieldDom FieldEx PairEx View → Parted View
view_parts v = both (λ d es. roll-View (record { repr = v.repr; dom = d; cells = v.cells; at = es })) (parted_dom v.dom) v.at (row itself v.at)

-- A view: the parts of its domain, then its index list.
abbrev pub parted_view : View → Parted View
parted_view v = view_parts (out-View v)

-- ---- expressions

abbrev pub ex_parts : Ex-F Dom Range Ex Gen Step Attr FieldDom FieldEx PairEx View → Parted Ex
ex_parts (Ex-F.Num n) = bare (ex.Num n)
ex_parts (Ex-F.Truth b) = bare (ex.Truth b)
ex_parts (Ex-F.Ex::Name a) = bare (ex.Name a)
ex_parts (Ex-F.Ex::One o a) = made (ex.One o) (itself a)
ex_parts (Ex-F.Two o a b) = both (ex.Two o) (itself a) b (itself b)
ex_parts (Ex-F.Call b f es) = made (ex.Call b f) (row itself es)
ex_parts (Ex-F.At b e ss) = both (ex.At b) (itself e) ss (row parted_step ss)
ex_parts (Ex-F.Apply b f es) = both (ex.Apply b) (itself f) es (row itself es)
ex_parts (Ex-F.Ex::Tuple es) = made ex.Tuple (row itself es)
ex_parts (Ex-F.Ex::Rec fs) = made ex.Rec (row parted_field_ex fs)
ex_parts (Ex-F.Ex::Set es) = made ex.Set (row itself es)
ex_parts (Ex-F.Ex::MSet es) = made ex.MSet (row itself es)
ex_parts (Ex-F.Ex::Function ps) = made ex.Function (row parted_pair_ex ps)
ex_parts (Ex-F.Ex::Relation es) = made ex.Relation (row itself es)
ex_parts (Ex-F.Ex::Partition es) = made ex.Partition (row itself es)
ex_parts (Ex-F.Ex::Matrix es d) = both ex.Matrix (row itself es) d (maybe parted_dom d)
ex_parts (Ex-F.Comp e gs) = both ex.Comp (itself e) gs (row parted_gen gs)
ex_parts (Ex-F.Cell b n es) = made (ex.Cell b n) (row itself es)
ex_parts (Ex-F.Seen v) = made ex.Seen (parted_view v)

-- An expression: its direct parts.
abbrev pub parted_ex : Ex → Parted Ex
parted_ex e = ex_parts (out-Ex e)

-- The parts of an expression, in the order of the text.
abbrev pub parts : Ex → List Ex
parts e = (parted_ex e).parts

-- The part of a number, if there is one.
abbrev pub part : Ex → ℕ → Option Ex
part e k = slice_get (parts e) k

-- The expression with w in place of the part of a number. Where there is no such part it is as it was.
abbrev pub with_part : Ex → ℕ → Ex → Ex
with_part e k w = (parted_ex e).put k w

-- What stands for a part that is taken out.
abbrev pub hole : Ex
hole = ex.Truth false

-- ---- paths

-- The part at a path, if there is one: of the part that the first number names, the one at the rest of the path.
abbrev pub at : Ex → List ℕ → Option Ex
at e [] = Some e
at e (k ∷ ks) = option_and_then (λ c. at c ks) (part e k)

abbrev pub plug : Option Ex → Ex → (Ex → Ex) → Ex
plug None e f = e
plug (Some c) e f = f c

-- The expression with the part at a path changed by f. Where the path leaves it, it is as it was.
abbrev pub edited : (Ex → Ex) → Ex → List ℕ → Ex
edited f e [] = f e
edited f e (k ∷ ks) = plug (part e k) e (λ c. with_part e k (edited f c ks))

-- The expression with w as its part at a path.
abbrev pub with_at : Ex → List ℕ → Ex → Ex
with_at e ks w = edited (λ c. w) e ks

-- ---- editors

-- What one step of an editor says of the part at a path: of the editor and the part before it, of the answer, and of the
-- editor and the part after it. Where nothing stands at the path, no step is made: there is no answer, and the editor is as
-- it was.
abbrev pub Steps : {E A : Type 0} → (E → Ex → A → E → Ex → Type 0) → E → Option Ex → Option A → E → Option Ex → Type 0
Steps step f None None g None = g ≡ f
Steps step f (Some c) (Some a) g (Some d) = step f c a g d
Steps step f _ _ g _ = ⊥

-- The expression with what stands at a path after a step. Where nothing stands there, it is as it was.
abbrev pub filled : Ex → List ℕ → Option Ex → Ex
filled e ks None = e
filled e ks (Some d) = with_at e ks d
