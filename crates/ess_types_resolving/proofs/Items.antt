-- Rows of resolved parts, item by item.
use Rattle.std.proofs.Common.{◌≡◌, refl, ap, ◌∙◌, ℕ, ◌+◌, ◌<◌, ◌≤◌, List, [], ◌∷◌, ◌++◌, length, map, drop, get_or, Option, Some, None, option_map}
use Rattle.ess_semantics.specs.declared.words.Key.{Key}
use Rattle.ess_semantics.specs.Names.{Names, keys}
use Rattle.ess_semantics.specs.Kinds.{doms_of}
use Rattle.ess_semantics.specs.Types.{Ty}
use Rattle.ess_semantics.specs.Trees as tree
use Rattle.ess_semantics.specs.Resolving.{resolve, resolve_exs, resolve_dom, resolve_doms}
use Rattle.ess_core.specs.TreeViews.{words_of, within, exs_of, field_values, span, attribute, pure_ex, pure_exs, pure_dom, pure_doms, pure_range, pure_attr, pure_pair_ex, pure_field_ex, pure_field_dom}
use Rattle.ess_core.specs.declared.expressions.Ex.{Ex}
use Rattle.ess_core.specs.declared.expressions.PairEx.{PairEx}
use Rattle.ess_core.specs.declared.expressions.FieldEx.{FieldEx}
use Rattle.ess_core.specs.declared.domains.Dom.{Dom}
use Rattle.ess_core.specs.declared.domains.FieldDom.{FieldDom}
use Rattle.ess_core.specs.declared.domains.Range.{Range}
use Rattle.ess_core.specs.declared.domains.Attr.{Attr}
use Rattle.ess_types_resolving.specs.Parts.{resolved_with, resolved_field, resolved_field_dom}
use Rattle.ess_types_resolving.proofs.Ahead.{exs_ahead, doms_ahead, more, all, doms-more, doms-all, words-more, words-all}

-- ---- expressions

-- One more expression is resolved.
pub exs_more : (xs ys zs : List Ex) (i : ℕ) (x y : Ex) (g : Names Ty) → i < length xs → x ≡ get_or xs i x
    → pure_ex y ≡ resolve (pure_ex x) g → zs ≡ ys ++ y ∷ []
    → exs_ahead (map pure_ex zs) (resolve_exs (pure_exs (drop (i + 1) xs)) g)
    ≡ exs_ahead (map pure_ex ys) (resolve_exs (pure_exs (drop i xs)) g)
exs_more xs ys zs i x y g l is e =
    more (map pure_ex) (λ x. pure_ex x ∷ []) refl (λ x xs. refl) xs ys zs i x y g l is (ap (λ w. w ∷ []) e)

-- All expressions are.
pub exs_all : (xs ys : List Ex) (i : ℕ) (g : Names Ty) → length xs ≤ i
    → exs_ahead (map pure_ex ys) (resolve_exs (pure_exs (drop i xs)) g) ≡ pure_exs ys
exs_all xs ys i g = all (map pure_ex) (λ x. pure_ex x ∷ []) refl (λ x xs. refl) xs ys i g

-- ---- pairs

-- One more pair is resolved.
pub pairs_more : (xs ys zs : List PairEx) (i : ℕ) (x y : PairEx) (g : Names Ty) → i < length xs → x ≡ get_or xs i x
    → pure_pair_ex y ≡ resolve (pure_pair_ex x) g → zs ≡ ys ++ y ∷ []
    → exs_ahead (map pure_pair_ex zs) (resolve_exs (exs_of (map pure_pair_ex (drop (i + 1) xs))) g)
    ≡ exs_ahead (map pure_pair_ex ys) (resolve_exs (exs_of (map pure_pair_ex (drop i xs))) g)
pairs_more xs ys zs i x y g l is e =
    more (map pure_pair_ex) (λ x. pure_pair_ex x ∷ []) refl (λ x xs. refl) xs ys zs i x y g l is (ap (λ w. w ∷ []) e)

-- All pairs are.
pub pairs_all : (xs ys : List PairEx) (i : ℕ) (g : Names Ty) → length xs ≤ i
    → exs_ahead (map pure_pair_ex ys) (resolve_exs (exs_of (map pure_pair_ex (drop i xs))) g) ≡ exs_of (map pure_pair_ex ys)
pairs_all xs ys i g = all (map pure_pair_ex) (λ x. pure_pair_ex x ∷ []) refl (λ x xs. refl) xs ys i g

-- ---- fields of records

-- One more field is resolved.
pub fields_more : (xs ys zs : List FieldEx) (i : ℕ) (x y : FieldEx) (g : Names Ty) → i < length xs → x ≡ get_or xs i x
    → pure_field_ex y ≡ resolved_field (pure_field_ex x) g → zs ≡ ys ++ y ∷ []
    → exs_ahead (field_values (map pure_field_ex zs)) (resolve_exs (exs_of (field_values (map pure_field_ex (drop (i + 1) xs)))) g)
    ≡ exs_ahead (field_values (map pure_field_ex ys)) (resolve_exs (exs_of (field_values (map pure_field_ex (drop i xs)))) g)
fields_more xs ys zs i x y g l is e =
    more (λ l. field_values (map pure_field_ex l)) (λ x. (pure_field_ex x).1 ∷ []) refl (λ x xs. refl) xs ys zs i x y g l is
    (ap (λ w. w.1 ∷ []) e)

-- All fields are.
pub fields_all : (xs ys : List FieldEx) (i : ℕ) (g : Names Ty) → length xs ≤ i
    → exs_ahead (field_values (map pure_field_ex ys)) (resolve_exs (exs_of (field_values (map pure_field_ex (drop i xs)))) g)
    ≡ exs_of (field_values (map pure_field_ex ys))
fields_all xs ys i g = all (λ l. field_values (map pure_field_ex l)) (λ x. (pure_field_ex x).1 ∷ []) refl (λ x xs. refl) xs ys i g

-- One more name stays.
pub field_names_more : (xs ys zs : List FieldEx) (i : ℕ) (x y : FieldEx) (g : Names Ty) → i < length xs → x ≡ get_or xs i x
    → pure_field_ex y ≡ resolved_field (pure_field_ex x) g → zs ≡ ys ++ y ∷ []
    → keys (map pure_field_ex zs) ++ keys (map pure_field_ex (drop (i + 1) xs))
    ≡ keys (map pure_field_ex ys) ++ keys (map pure_field_ex (drop i xs))
field_names_more xs ys zs i x y g l is e =
    words-more (λ l. keys (map pure_field_ex l)) (λ x. (pure_field_ex x).0) refl (λ x xs. refl) xs ys zs i x y l is (ap (λ w. w.0) e)

-- All names of fields stay.
pub field_names_all : (xs ys : List FieldEx) (i : ℕ) → length xs ≤ i
    → keys (map pure_field_ex ys) ++ keys (map pure_field_ex (drop i xs)) ≡ keys (map pure_field_ex ys)
field_names_all = words-all (λ l. keys (map pure_field_ex l)) (λ x. (pure_field_ex x).0) refl (λ x xs. refl)

-- ---- domains

-- One more domain is resolved.
pub doms_more : (xs ys zs : List Dom) (i : ℕ) (x y : Dom) (g : Names Ty) → i < length xs → x ≡ get_or xs i x
    → pure_dom y ≡ resolve_dom (pure_dom x) g → zs ≡ ys ++ y ∷ []
    → doms_ahead (map pure_dom zs) (resolve_doms (pure_doms (drop (i + 1) xs)) g)
    ≡ doms_ahead (map pure_dom ys) (resolve_doms (pure_doms (drop i xs)) g)
doms_more xs ys zs i x y g l is e =
    doms-more (map pure_dom) pure_dom refl (λ x xs. refl) xs ys zs i x y g l is e

-- All domains are.
pub doms_all : (xs ys : List Dom) (i : ℕ) (g : Names Ty) → length xs ≤ i
    → doms_ahead (map pure_dom ys) (resolve_doms (pure_doms (drop i xs)) g) ≡ pure_doms ys
doms_all xs ys i g = doms-all (map pure_dom) pure_dom refl (λ x xs. refl) xs ys i g

-- ---- fields of records' domains

-- One more field is resolved.
pub dom_fields_more : (xs ys zs : List FieldDom) (i : ℕ) (x y : FieldDom) (g : Names Ty) → i < length xs → x ≡ get_or xs i x
    → pure_field_dom y ≡ resolved_field_dom (pure_field_dom x) g → zs ≡ ys ++ y ∷ []
    → doms_ahead (field_values (map pure_field_dom zs)) (resolve_doms (doms_of (field_values (map pure_field_dom (drop (i + 1) xs)))) g)
    ≡ doms_ahead (field_values (map pure_field_dom ys)) (resolve_doms (doms_of (field_values (map pure_field_dom (drop i xs)))) g)
dom_fields_more xs ys zs i x y g l is e =
    doms-more (λ l. field_values (map pure_field_dom l)) (λ x. (pure_field_dom x).1) refl (λ x xs. refl) xs ys zs i x y g l is
    (ap (λ w. w.1) e)

-- All fields are.
pub dom_fields_all : (xs ys : List FieldDom) (i : ℕ) (g : Names Ty) → length xs ≤ i
    → doms_ahead (field_values (map pure_field_dom ys)) (resolve_doms (doms_of (field_values (map pure_field_dom (drop i xs)))) g)
    ≡ doms_of (field_values (map pure_field_dom ys))
dom_fields_all xs ys i g = doms-all (λ l. field_values (map pure_field_dom l)) (λ x. (pure_field_dom x).1) refl (λ x xs. refl) xs ys i g

-- One more name stays.
pub dom_field_names_more : (xs ys zs : List FieldDom) (i : ℕ) (x y : FieldDom) (g : Names Ty) → i < length xs → x ≡ get_or xs i x
    → pure_field_dom y ≡ resolved_field_dom (pure_field_dom x) g → zs ≡ ys ++ y ∷ []
    → keys (map pure_field_dom zs) ++ keys (map pure_field_dom (drop (i + 1) xs))
    ≡ keys (map pure_field_dom ys) ++ keys (map pure_field_dom (drop i xs))
dom_field_names_more xs ys zs i x y g l is e =
    words-more (λ l. keys (map pure_field_dom l)) (λ x. (pure_field_dom x).0) refl (λ x xs. refl) xs ys zs i x y l is (ap (λ w. w.0) e)

-- All names of fields stay.
pub dom_field_names_all : (xs ys : List FieldDom) (i : ℕ) → length xs ≤ i
    → keys (map pure_field_dom ys) ++ keys (map pure_field_dom (drop i xs)) ≡ keys (map pure_field_dom ys)
dom_field_names_all = words-all (λ l. keys (map pure_field_dom l)) (λ x. (pure_field_dom x).0) refl (λ x xs. refl)

-- ---- ranges

-- One more range is resolved.
pub ranges_more : (xs ys zs : List Range) (i : ℕ) (x y : Range) (g : Names Ty) → i < length xs → x ≡ get_or xs i x
    → pure_range y ≡ resolved_with (pure_range x) g → zs ≡ ys ++ y ∷ []
    → exs_ahead (within (map pure_range zs)) (resolve_exs (exs_of (within (map pure_range (drop (i + 1) xs)))) g)
    ≡ exs_ahead (within (map pure_range ys)) (resolve_exs (exs_of (within (map pure_range (drop i xs)))) g)
ranges_more xs ys zs i x y g l is e =
    more (λ l. within (map pure_range l)) (λ x. (pure_range x).1) refl (λ x xs. refl) xs ys zs i x y g l is (ap (λ w. w.1) e)

-- All ranges are.
pub ranges_all : (xs ys : List Range) (i : ℕ) (g : Names Ty) → length xs ≤ i
    → exs_ahead (within (map pure_range ys)) (resolve_exs (exs_of (within (map pure_range (drop i xs)))) g)
    ≡ exs_of (within (map pure_range ys))
ranges_all xs ys i g = all (λ l. within (map pure_range l)) (λ x. (pure_range x).1) refl (λ x xs. refl) xs ys i g

-- One more word of a range stays.
pub range_words_more : (xs ys zs : List Range) (i : ℕ) (x y : Range) (g : Names Ty) → i < length xs → x ≡ get_or xs i x
    → pure_range y ≡ resolved_with (pure_range x) g → zs ≡ ys ++ y ∷ []
    → words_of (map pure_range zs) ++ words_of (map pure_range (drop (i + 1) xs))
    ≡ words_of (map pure_range ys) ++ words_of (map pure_range (drop i xs))
range_words_more xs ys zs i x y g l is e =
    words-more (λ l. words_of (map pure_range l)) (λ x. (pure_range x).0) refl (λ x xs. refl) xs ys zs i x y l is (ap (λ w. w.0) e)

-- All words of ranges stay.
pub range_words_all : (xs ys : List Range) (i : ℕ) → length xs ≤ i
    → words_of (map pure_range ys) ++ words_of (map pure_range (drop i xs)) ≡ words_of (map pure_range ys)
range_words_all = words-all (λ l. words_of (map pure_range l)) (λ x. (pure_range x).0) refl (λ x xs. refl)

-- The bounds of a range.
pub span_resolved : (low high : Option Ex) (low' high' : Option tree.Ex) (g : Names Ty) → low' ≡ option_map (λ e. resolve (pure_ex e) g) low
    → high' ≡ option_map (λ e. resolve (pure_ex e) g) high
    → span low' high' ≡ resolved_with (span (option_map pure_ex low) (option_map pure_ex high)) g
span_resolved low high low' high' g p q = ap (λ l. span l high') p ∙ ap (span (option_map (λ e. resolve (pure_ex e) g) low)) q ∙ go low high
  where
    go : (low high : Option Ex) → span (option_map (λ e. resolve (pure_ex e) g) low) (option_map (λ e. resolve (pure_ex e) g) high)
        ≡ resolved_with (span (option_map pure_ex low) (option_map pure_ex high)) g
    go None None = refl
    go None (Some b) = refl
    go (Some a) None = refl
    go (Some a) (Some b) = refl

-- ---- attributes

-- One more attribute is resolved.
pub attrs_more : (xs ys zs : List Attr) (i : ℕ) (x y : Attr) (g : Names Ty) → i < length xs → x ≡ get_or xs i x
    → pure_attr y ≡ resolved_with (pure_attr x) g → zs ≡ ys ++ y ∷ []
    → exs_ahead (within (map pure_attr zs)) (resolve_exs (exs_of (within (map pure_attr (drop (i + 1) xs)))) g)
    ≡ exs_ahead (within (map pure_attr ys)) (resolve_exs (exs_of (within (map pure_attr (drop i xs)))) g)
attrs_more xs ys zs i x y g l is e =
    more (λ l. within (map pure_attr l)) (λ x. (pure_attr x).1) refl (λ x xs. refl) xs ys zs i x y g l is (ap (λ w. w.1) e)

-- All attributes are.
pub attrs_all : (xs ys : List Attr) (i : ℕ) (g : Names Ty) → length xs ≤ i
    → exs_ahead (within (map pure_attr ys)) (resolve_exs (exs_of (within (map pure_attr (drop i xs)))) g)
    ≡ exs_of (within (map pure_attr ys))
attrs_all xs ys i g = all (λ l. within (map pure_attr l)) (λ x. (pure_attr x).1) refl (λ x xs. refl) xs ys i g

-- One more word of an attribute stays.
pub attr_words_more : (xs ys zs : List Attr) (i : ℕ) (x y : Attr) (g : Names Ty) → i < length xs → x ≡ get_or xs i x
    → pure_attr y ≡ resolved_with (pure_attr x) g → zs ≡ ys ++ y ∷ []
    → words_of (map pure_attr zs) ++ words_of (map pure_attr (drop (i + 1) xs))
    ≡ words_of (map pure_attr ys) ++ words_of (map pure_attr (drop i xs))
attr_words_more xs ys zs i x y g l is e =
    words-more (λ l. words_of (map pure_attr l)) (λ x. (pure_attr x).0) refl (λ x xs. refl) xs ys zs i x y l is (ap (λ w. w.0) e)

-- All words of attributes stay.
pub attr_words_all : (xs ys : List Attr) (i : ℕ) → length xs ≤ i
    → words_of (map pure_attr ys) ++ words_of (map pure_attr (drop i xs)) ≡ words_of (map pure_attr ys)
attr_words_all = words-all (λ l. words_of (map pure_attr l)) (λ x. (pure_attr x).0) refl (λ x xs. refl)

-- The number of an attribute.
pub attribute_resolved : (k : Key) (v : Option Ex) (w : Option tree.Ex) (g : Names Ty) → w ≡ option_map (λ e. resolve (pure_ex e) g) v
    → attribute k w ≡ resolved_with (attribute k (option_map pure_ex v)) g
attribute_resolved k v w g p = ap (attribute k) p ∙ go v
  where
    go : (v : Option Ex) → attribute k (option_map (λ e. resolve (pure_ex e) g) v) ≡ resolved_with (attribute k (option_map pure_ex v)) g
    go None = refl
    go (Some e) = refl
