-- The parts of a domain of each kind, and what it becomes where one of them is replaced.
use Rattle.std.proofs.Common.{◌≡◌, ℕ, List, [], ◌∷◌, ◌++◌, ◌-◌, length, map, refl, sym, ap, ◌∙◌, nat_lt, Result}
use Rattle.std.specs.Prelude.{if◌then◌else◌}
use Rattle.ess_core.specs.declared.expressions.Ex.{Ex}
use Rattle.ess_core.specs.declared.domains.Dom.{Dom, roll-Dom}
use Rattle.ess_core.specs.declared.domains.FieldDom.{FieldDom, out-FieldDom, roll-FieldDom, roll-out-FieldDom}
use Rattle.ess_core.specs.declared.domains.Range.{Range}
use Rattle.ess_core.specs.declared.domains.Attr.{Attr}
use Rattle.ess_core.specs.declared.expressions.Step.{Step}
use Rattle.ess_core.specs.declared.expressions.FieldEx.{FieldEx}
use Rattle.ess_core.specs.declared.expressions.PairEx.{PairEx}
use Rattle.ess_core.specs.declared.expressions.Gen.{Gen}
use Rattle.ess_core.specs.declared.expressions.View.{View}
use Rattle.ess_core.specs.declared.domains.Dom.TheVariants as dom
use Rattle.ess_core.specs.declared.domains.Dom.TheOpen.{Dom-F, FieldDom-F}
use Rattle.ess_core.specs.declared.domains.Dom.TheFolds.{para-Dom, para-roll-Dom, para-roll-FieldDom}
use Rattle.ess_core_parts.specs.Numbered.{Parted, bare, made, beside, both, row, held_row, found}
use Rattle.ess_core_parts.proofs.Searches.{pair-same}
use Rattle.ess_core_parts.specs.Parts.{parted_dom, parted_field_dom, parted_range, parted_attr, dom_parts, field_dom_parts}

-- a list beside something is the list
firsts : {A B : Type 0} (f : A → B) (xs : List A) → map {A = A × B} (λ y. y.0) (map {B = A × B} (λ x. (x, f x)) xs) ≡ xs
firsts f [] = refl
firsts f (x ∷ xs) = ap (λ ys. x ∷ ys) (firsts f xs)

-- trees that stand beside their parts are trees in a row
held-row : {A : Type 0} (split : A → Parted A) (xs : List A) → held_row (map (λ x. (x, split x)) xs) ≡ row split xs
held-row split [] = refl
held-row split (x ∷ xs) = ap (λ ys. both (λ y z. y ∷ z) (split x) ys (held_row (map (λ y. (y, split y)) xs))) (firsts split xs) ∙ ap (both (λ y z. y ∷ z) (split x) xs) (held-row split xs)

pub bool_split : parted_dom dom.Bool ≡ bare dom.Bool
unfolding roll-Dom denote.Hole.Carrier.roll
bool_split =
    para-roll-Dom (Parted Dom) (Unit {0}) (Unit {0}) (Unit {0}) (Unit {0}) (Unit {0}) (Parted FieldDom) (Unit {0}) (Unit {0}) (Unit {0})
    dom_parts (λ x. tt) (λ x. tt) (λ x. tt) (λ x. tt) (λ x. tt) field_dom_parts (λ x. tt) (λ x. tt) (λ x. tt) Dom-F.Bool

pub parts_of_bool : (parted_dom dom.Bool).parts ≡ (bare dom.Bool).parts
parts_of_bool = ap (λ p. p.parts) bool_split

pub put_in_bool : (k : ℕ) (w : Ex) → (parted_dom dom.Bool).put k w ≡ (bare dom.Bool).put k w
put_in_bool k w = ap (λ p. p.put k w) bool_split

pub int_split : (rs : List Range) → parted_dom (dom.Int rs) ≡ made dom.Int (row parted_range rs)
unfolding roll-Dom denote.Hole.Carrier.roll
int_split rs =
    para-roll-Dom (Parted Dom) (Unit {0}) (Unit {0}) (Unit {0}) (Unit {0}) (Unit {0}) (Parted FieldDom) (Unit {0}) (Unit {0}) (Unit {0})
    dom_parts (λ x. tt) (λ x. tt) (λ x. tt) (λ x. tt) (λ x. tt) field_dom_parts (λ x. tt) (λ x. tt) (λ x. tt) (Dom-F.Int rs)
    ∙ ap (λ ys. made dom.Int (row parted_range ys)) (firsts (λ x. tt {0}) rs)

pub parts_of_int : (rs : List Range) → (parted_dom (dom.Int rs)).parts ≡ (made dom.Int (row parted_range rs)).parts
parts_of_int rs = ap (λ p. p.parts) (int_split rs)

pub put_in_int : (rs : List Range) → (k : ℕ) (w : Ex) → (parted_dom (dom.Int rs)).put k w ≡ (made dom.Int (row parted_range rs)).put k w
put_in_int rs k w = ap (λ p. p.put k w) (int_split rs)

pub name_split : (a : List ℕ) → parted_dom (dom.Name a) ≡ bare (dom.Name a)
unfolding roll-Dom denote.Hole.Carrier.roll
name_split a =
    para-roll-Dom (Parted Dom) (Unit {0}) (Unit {0}) (Unit {0}) (Unit {0}) (Unit {0}) (Parted FieldDom) (Unit {0}) (Unit {0}) (Unit {0})
    dom_parts (λ x. tt) (λ x. tt) (λ x. tt) (λ x. tt) (λ x. tt) field_dom_parts (λ x. tt) (λ x. tt) (λ x. tt) (Dom-F.Dom::Name a)

pub parts_of_name : (a : List ℕ) → (parted_dom (dom.Name a)).parts ≡ (bare (dom.Name a)).parts
parts_of_name a = ap (λ p. p.parts) (name_split a)

pub put_in_name : (a : List ℕ) → (k : ℕ) (w : Ex) → (parted_dom (dom.Name a)).put k w ≡ (bare (dom.Name a)).put k w
put_in_name a k w = ap (λ p. p.put k w) (name_split a)

pub tuple_split : (ds : List Dom) → parted_dom (dom.Tuple ds) ≡ made dom.Tuple (row parted_dom ds)
unfolding roll-Dom denote.Hole.Carrier.roll
tuple_split ds =
    para-roll-Dom (Parted Dom) (Unit {0}) (Unit {0}) (Unit {0}) (Unit {0}) (Unit {0}) (Parted FieldDom) (Unit {0}) (Unit {0}) (Unit {0})
    dom_parts (λ x. tt) (λ x. tt) (λ x. tt) (λ x. tt) (λ x. tt) field_dom_parts (λ x. tt) (λ x. tt) (λ x. tt) (Dom-F.Dom::Tuple ds)
    ∙ ap (made dom.Tuple) (held-row parted_dom ds)

pub parts_of_tuple : (ds : List Dom) → (parted_dom (dom.Tuple ds)).parts ≡ (made dom.Tuple (row parted_dom ds)).parts
parts_of_tuple ds = ap (λ p. p.parts) (tuple_split ds)

pub put_in_tuple : (ds : List Dom) → (k : ℕ) (w : Ex) → (parted_dom (dom.Tuple ds)).put k w ≡ (made dom.Tuple (row parted_dom ds)).put k w
put_in_tuple ds k w = ap (λ p. p.put k w) (tuple_split ds)

pub record_split : (fs : List FieldDom) → parted_dom (dom.Rec fs) ≡ made dom.Rec (row parted_field_dom fs)
unfolding roll-Dom denote.Hole.Carrier.roll
record_split fs =
    para-roll-Dom (Parted Dom) (Unit {0}) (Unit {0}) (Unit {0}) (Unit {0}) (Unit {0}) (Parted FieldDom) (Unit {0}) (Unit {0}) (Unit {0})
    dom_parts (λ x. tt) (λ x. tt) (λ x. tt) (λ x. tt) (λ x. tt) field_dom_parts (λ x. tt) (λ x. tt) (λ x. tt) (Dom-F.Dom::Rec fs)
    ∙ ap (made dom.Rec) (held-row parted_field_dom fs)

pub parts_of_record : (fs : List FieldDom) → (parted_dom (dom.Rec fs)).parts ≡ (made dom.Rec (row parted_field_dom fs)).parts
parts_of_record fs = ap (λ p. p.parts) (record_split fs)

pub put_in_record : (fs : List FieldDom) → (k : ℕ) (w : Ex) → (parted_dom (dom.Rec fs)).put k w ≡ (made dom.Rec (row parted_field_dom fs)).put k w
put_in_record fs k w = ap (λ p. p.put k w) (record_split fs)

pub matrix_split : (is : List Dom) (d : Dom) → parted_dom (dom.Matrix is d) ≡ both dom.Matrix (row parted_dom is) d (parted_dom d)
unfolding roll-Dom denote.Hole.Carrier.roll
matrix_split is d =
    para-roll-Dom (Parted Dom) (Unit {0}) (Unit {0}) (Unit {0}) (Unit {0}) (Unit {0}) (Parted FieldDom) (Unit {0}) (Unit {0}) (Unit {0})
    dom_parts (λ x. tt) (λ x. tt) (λ x. tt) (λ x. tt) (λ x. tt) field_dom_parts (λ x. tt) (λ x. tt) (λ x. tt) (Dom-F.Dom::Matrix is d)
    ∙ ap (λ p. both dom.Matrix p d (parted_dom d)) (held-row parted_dom is)

pub parts_of_matrix : (is : List Dom) (d : Dom) → (parted_dom (dom.Matrix is d)).parts ≡ (both dom.Matrix (row parted_dom is) d (parted_dom d)).parts
parts_of_matrix is d = ap (λ p. p.parts) (matrix_split is d)

pub put_in_matrix : (is : List Dom) (d : Dom) → (k : ℕ) (w : Ex) → (parted_dom (dom.Matrix is d)).put k w ≡ (both dom.Matrix (row parted_dom is) d (parted_dom d)).put k w
put_in_matrix is d k w = ap (λ p. p.put k w) (matrix_split is d)

pub set_split : (ms : List Attr) (d : Dom) → parted_dom (dom.Set ms d) ≡ both dom.Set (row parted_attr ms) d (parted_dom d)
unfolding roll-Dom denote.Hole.Carrier.roll
set_split ms d =
    para-roll-Dom (Parted Dom) (Unit {0}) (Unit {0}) (Unit {0}) (Unit {0}) (Unit {0}) (Parted FieldDom) (Unit {0}) (Unit {0}) (Unit {0})
    dom_parts (λ x. tt) (λ x. tt) (λ x. tt) (λ x. tt) (λ x. tt) field_dom_parts (λ x. tt) (λ x. tt) (λ x. tt) (Dom-F.Dom::Set ms d)
    ∙ ap (λ ys. both dom.Set (row parted_attr ys) d (parted_dom d)) (firsts (λ x. tt {0}) ms)

pub parts_of_set : (ms : List Attr) (d : Dom) → (parted_dom (dom.Set ms d)).parts ≡ (both dom.Set (row parted_attr ms) d (parted_dom d)).parts
parts_of_set ms d = ap (λ p. p.parts) (set_split ms d)

pub put_in_set : (ms : List Attr) (d : Dom) → (k : ℕ) (w : Ex) → (parted_dom (dom.Set ms d)).put k w ≡ (both dom.Set (row parted_attr ms) d (parted_dom d)).put k w
put_in_set ms d k w = ap (λ p. p.put k w) (set_split ms d)

pub mset_split : (ms : List Attr) (d : Dom) → parted_dom (dom.MSet ms d) ≡ both dom.MSet (row parted_attr ms) d (parted_dom d)
unfolding roll-Dom denote.Hole.Carrier.roll
mset_split ms d =
    para-roll-Dom (Parted Dom) (Unit {0}) (Unit {0}) (Unit {0}) (Unit {0}) (Unit {0}) (Parted FieldDom) (Unit {0}) (Unit {0}) (Unit {0})
    dom_parts (λ x. tt) (λ x. tt) (λ x. tt) (λ x. tt) (λ x. tt) field_dom_parts (λ x. tt) (λ x. tt) (λ x. tt) (Dom-F.Dom::MSet ms d)
    ∙ ap (λ ys. both dom.MSet (row parted_attr ys) d (parted_dom d)) (firsts (λ x. tt {0}) ms)

pub parts_of_mset : (ms : List Attr) (d : Dom) → (parted_dom (dom.MSet ms d)).parts ≡ (both dom.MSet (row parted_attr ms) d (parted_dom d)).parts
parts_of_mset ms d = ap (λ p. p.parts) (mset_split ms d)

pub put_in_mset : (ms : List Attr) (d : Dom) → (k : ℕ) (w : Ex) → (parted_dom (dom.MSet ms d)).put k w ≡ (both dom.MSet (row parted_attr ms) d (parted_dom d)).put k w
put_in_mset ms d k w = ap (λ p. p.put k w) (mset_split ms d)

pub partition_split : (ms : List Attr) (d : Dom) → parted_dom (dom.Partition ms d) ≡ both dom.Partition (row parted_attr ms) d (parted_dom d)
unfolding roll-Dom denote.Hole.Carrier.roll
partition_split ms d =
    para-roll-Dom (Parted Dom) (Unit {0}) (Unit {0}) (Unit {0}) (Unit {0}) (Unit {0}) (Parted FieldDom) (Unit {0}) (Unit {0}) (Unit {0})
    dom_parts (λ x. tt) (λ x. tt) (λ x. tt) (λ x. tt) (λ x. tt) field_dom_parts (λ x. tt) (λ x. tt) (λ x. tt) (Dom-F.Dom::Partition ms d)
    ∙ ap (λ ys. both dom.Partition (row parted_attr ys) d (parted_dom d)) (firsts (λ x. tt {0}) ms)

pub parts_of_partition : (ms : List Attr) (d : Dom) → (parted_dom (dom.Partition ms d)).parts ≡ (both dom.Partition (row parted_attr ms) d (parted_dom d)).parts
parts_of_partition ms d = ap (λ p. p.parts) (partition_split ms d)

pub put_in_partition : (ms : List Attr) (d : Dom) → (k : ℕ) (w : Ex) → (parted_dom (dom.Partition ms d)).put k w ≡ (both dom.Partition (row parted_attr ms) d (parted_dom d)).put k w
put_in_partition ms d k w = ap (λ p. p.put k w) (partition_split ms d)

pub function_split : (ms : List Attr) (d e : Dom) → parted_dom (dom.Function ms d e) ≡ both (λ md x. dom.Function md.0 md.1 x) (beside (row parted_attr ms) d (parted_dom d)) e (parted_dom e)
unfolding roll-Dom denote.Hole.Carrier.roll
function_split ms d e =
    para-roll-Dom (Parted Dom) (Unit {0}) (Unit {0}) (Unit {0}) (Unit {0}) (Unit {0}) (Parted FieldDom) (Unit {0}) (Unit {0}) (Unit {0})
    dom_parts (λ x. tt) (λ x. tt) (λ x. tt) (λ x. tt) (λ x. tt) field_dom_parts (λ x. tt) (λ x. tt) (λ x. tt) (Dom-F.Dom::Function ms d e)
    ∙ ap (λ ys. both (λ md x. dom.Function md.0 md.1 x) (beside (row parted_attr ys) d (parted_dom d)) e (parted_dom e)) (firsts (λ x. tt {0}) ms)

pub parts_of_function : (ms : List Attr) (d e : Dom) → (parted_dom (dom.Function ms d e)).parts ≡ (both (λ md x. dom.Function md.0 md.1 x) (beside (row parted_attr ms) d (parted_dom d)) e (parted_dom e)).parts
parts_of_function ms d e = ap (λ p. p.parts) (function_split ms d e)

pub put_in_function : (ms : List Attr) (d e : Dom) → (k : ℕ) (w : Ex) → (parted_dom (dom.Function ms d e)).put k w ≡ (both (λ md x. dom.Function md.0 md.1 x) (beside (row parted_attr ms) d (parted_dom d)) e (parted_dom e)).put k w
put_in_function ms d e k w = ap (λ p. p.put k w) (function_split ms d e)

pub relation_split : (ms : List Attr) (ds : List Dom) → parted_dom (dom.Relation ms ds) ≡ both dom.Relation (row parted_attr ms) ds (row parted_dom ds)
unfolding roll-Dom denote.Hole.Carrier.roll
relation_split ms ds =
    para-roll-Dom (Parted Dom) (Unit {0}) (Unit {0}) (Unit {0}) (Unit {0}) (Unit {0}) (Parted FieldDom) (Unit {0}) (Unit {0}) (Unit {0})
    dom_parts (λ x. tt) (λ x. tt) (λ x. tt) (λ x. tt) (λ x. tt) field_dom_parts (λ x. tt) (λ x. tt) (λ x. tt) (Dom-F.Dom::Relation ms ds)
    ∙ ap (λ ys. both dom.Relation (row parted_attr ys) (map (λ x. x.0) (map (λ x. (x, parted_dom x)) ds)) (held_row (map (λ x. (x, parted_dom x)) ds))) (firsts (λ x. tt {0}) ms)
    ∙ ap (λ ys. both dom.Relation (row parted_attr ms) ys (held_row (map (λ x. (x, parted_dom x)) ds))) (firsts parted_dom ds)
    ∙ ap (both dom.Relation (row parted_attr ms) ds) (held-row parted_dom ds)

pub parts_of_relation : (ms : List Attr) (ds : List Dom) → (parted_dom (dom.Relation ms ds)).parts ≡ (both dom.Relation (row parted_attr ms) ds (row parted_dom ds)).parts
parts_of_relation ms ds = ap (λ p. p.parts) (relation_split ms ds)

pub put_in_relation : (ms : List Attr) (ds : List Dom) → (k : ℕ) (w : Ex) → (parted_dom (dom.Relation ms ds)).put k w ≡ (both dom.Relation (row parted_attr ms) ds (row parted_dom ds)).put k w
put_in_relation ms ds k w = ap (λ p. p.put k w) (relation_split ms ds)

pub field_split : (x : FieldDom-F Dom Range Ex Gen Step Attr FieldDom FieldEx PairEx View) → parted_field_dom (roll-FieldDom x) ≡ made (λ d. roll-FieldDom (record { name = x.name; dom = d })) (parted_dom x.dom)
field_split x =
    para-roll-FieldDom (Parted Dom) (Unit {0}) (Unit {0}) (Unit {0}) (Unit {0}) (Unit {0}) (Parted FieldDom) (Unit {0}) (Unit {0}) (Unit {0})
    dom_parts (λ x. tt) (λ x. tt) (λ x. tt) (λ x. tt) (λ x. tt) field_dom_parts (λ x. tt) (λ x. tt) (λ x. tt) x

pub field_is : (f : FieldDom) → parted_field_dom f ≡ made (λ d. roll-FieldDom (record { name = (out-FieldDom f).name; dom = d })) (parted_dom (out-FieldDom f).dom)
field_is f = ap parted_field_dom (sym (roll-out-FieldDom f)) ∙ field_split (out-FieldDom f)

pub parts_of_field : (f : FieldDom) → (parted_field_dom f).parts ≡ (parted_dom (out-FieldDom f).dom).parts
parts_of_field f = ap (λ p. p.parts) (field_is f)

pub put_in_field : (f : FieldDom) (k : ℕ) (w : Ex) → (parted_field_dom f).put k w ≡ roll-FieldDom (record { name = (out-FieldDom f).name; dom = (parted_dom (out-FieldDom f).dom).put k w })
put_in_field f k w = ap (λ p. p.put k w) (field_is f)

-- the same answers at lists and domains that are known by equations
pub known_was : (ms ns : List Attr) (d e : Dom) → ns ≡ ms → e ≡ d → (k : ℕ) (w : Ex) (r : Result Ex (ℕ × Ex))
    → r ≡ found ((row parted_attr ns).parts ++ (parted_dom e).parts) k w → r ≡ found ((row parted_attr ms).parts ++ (parted_dom d).parts) k w
known_was ms ns d e p q k w r h = rw (← p, ← q) h

pub known_put : (ms ns : List Attr) (d e : Dom) → ns ≡ ms → e ≡ d → (k : ℕ) (w : Ex) (x : List Attr) (y : Dom)
    → x ≡ (row parted_attr ns).put k w
    → y ≡ (if nat_lt k (length (row parted_attr ns).parts) then e else (parted_dom e).put (k - length (row parted_attr ns).parts) w)
    → ◌≡◌ {A = List Attr × Dom} (x, y) ((beside (row parted_attr ms) d (parted_dom d)).put k w)
known_put ms ns d e p q k w x y h i = rw (← p, ← q) (pair-same x _ y _ h i)
