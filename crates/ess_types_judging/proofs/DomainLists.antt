-- Loops over domains and fields: whether each has a property.
use Rattle.std.proofs.Common.{◌≡◌, refl, sym, ap, ◌∙◌, ℕ, ◌+◌, ◌<◌, ◌≤◌, Bool, true, false, ◌||◌, ◌&&◌, not, if◌then◌else◌, List, [], ◌∷◌, ◌++◌, map, drop, length, get_or, Some, None}
use Rattle.std.specs.List.{list_all}
use Rattle.std.proofs.lemmas.List.{at_drop_more, at_drop_all}
use Rattle.std.specs.Prelude.{slice_get}
use Rattle.ess_semantics.specs.Lists.{is_some_and}
use Rattle.ess_types_judging_laws.proofs.Truths.{and_true}
use Rattle.ess_types_judging.specs.Listed.{function_is_listable, first_is_enumerable, relation_is_listable}
use Rattle.ess_semantics.specs.declared.words.Key.{Key}
use Rattle.ess_semantics.specs.Trees as pure
use Rattle.ess_semantics.specs.Trees.{Mark, Exs, Doms, function_dom, relation_dom, partition_dom}
use Rattle.ess_semantics.specs.Kinds.{has_key, doms_of, dom_list, is_atom}
use Rattle.ess_semantics.specs.DomainJudgements.{are_finite, is_finite, is_enumerable, are_enumerable, listed_domains, needs_known_slots, all_need_known_slots}
use Rattle.ess_core.specs.declared.domains.Attr.{Attr}
use Rattle.ess_core.specs.declared.domains.Dom.TheVariants as variant
use Rattle.ess_core.proofs.DomainEquations.{pure_relation}
use Rattle.ess_core.specs.TreeViews.{words_of, within, exs_of, pure_attr, field_values, pure_dom, pure_doms, pure_field_dom}
use Rattle.ess_core.specs.declared.domains.Dom.{Dom}
use Rattle.ess_core.specs.declared.domains.FieldDom.{FieldDom}
use Rattle.ess_core.specs.declared.domains.Dom.TheViews.{out-FieldDom}
use Rattle.ess_core.proofs.PartEquations.{pure_field_dom_is}

-- A property of the pure domains of a row.
abbrev pub of_doms : (Doms → Bool) → List Dom → Bool
of_doms f ds = f (pure_doms ds)

-- A property of the pure domains of the fields of a row.
abbrev pub of_fields : (Doms → Bool) → List FieldDom → Bool
of_fields f fs = f (doms_of (field_values (map pure_field_dom fs)))

-- The domain of a field.
field-dom : (x : FieldDom) → (pure_field_dom x).1 ≡ pure_dom (out-FieldDom x).dom
field-dom x = ap (λ f. f.1) (pure_field_dom_is x)

-- A test of all that is a test of the first and of the others.
module _ (one : pure.Dom → Bool) (all : Doms → Bool)
    (step : (d : pure.Dom) (ds : Doms) → all (pure.more_doms d ds) ≡ one d && all ds) (end : all pure.no_doms ≡ true) where
  doms-first : (ds : List Dom) (i : ℕ) (d : Dom) → i < length ds → d ≡ get_or ds i d →
      of_doms all (drop i ds) ≡ one (pure_dom d) && of_doms all (drop (i + 1) ds)
  doms-first ds i d h is = at_drop_more (of_doms all) ds i d h ∙ ap (λ b. of_doms all (b ∷ drop (i + 1) ds)) (sym is)
      ∙ step (pure_dom d) (pure_doms (drop (i + 1) ds))

  doms-more : (ds : List Dom) (i : ℕ) (d : Dom) → i < length ds → d ≡ get_or ds i d → one (pure_dom d) ≡ true →
      of_doms all (drop i ds) ≡ of_doms all (drop (i + 1) ds)
  doms-more ds i d h is e = doms-first ds i d h is ∙ ap (λ b. b && of_doms all (drop (i + 1) ds)) e

  doms-none : (ds : List Dom) (i : ℕ) (d : Dom) → i < length ds → d ≡ get_or ds i d → one (pure_dom d) ≡ false →
      of_doms all (drop i ds) ≡ false
  doms-none ds i d h is e = doms-first ds i d h is ∙ ap (λ b. b && of_doms all (drop (i + 1) ds)) e

  doms-all : (ds : List Dom) (i : ℕ) → length ds ≤ i → of_doms all (drop i ds) ≡ true
  doms-all ds i h = at_drop_all (of_doms all) ds i h ∙ end

  fields-first : (fs : List FieldDom) (i : ℕ) (f : FieldDom) → i < length fs → f ≡ get_or fs i f →
      of_fields all (drop i fs) ≡ one (pure_dom (out-FieldDom f).dom) && of_fields all (drop (i + 1) fs)
  fields-first fs i f h is =
      at_drop_more (of_fields all) fs i f h ∙ ap (λ b. of_fields all (b ∷ drop (i + 1) fs)) (sym is)
      ∙ step (pure_field_dom f).1 (doms_of (field_values (map pure_field_dom (drop (i + 1) fs))))
      ∙ ap (λ d. one d && of_fields all (drop (i + 1) fs)) (field-dom f)

  fields-more : (fs : List FieldDom) (i : ℕ) (f : FieldDom) → i < length fs → f ≡ get_or fs i f →
      one (pure_dom (out-FieldDom f).dom) ≡ true →
      of_fields all (drop i fs) ≡ of_fields all (drop (i + 1) fs)
  fields-more fs i f h is e = fields-first fs i f h is ∙ ap (λ b. b && of_fields all (drop (i + 1) fs)) e

  fields-none : (fs : List FieldDom) (i : ℕ) (f : FieldDom) → i < length fs → f ≡ get_or fs i f →
      one (pure_dom (out-FieldDom f).dom) ≡ false →
      of_fields all (drop i fs) ≡ false
  fields-none fs i f h is e = fields-first fs i f h is ∙ ap (λ b. b && of_fields all (drop (i + 1) fs)) e

  fields-all : (fs : List FieldDom) (i : ℕ) → length fs ≤ i → of_fields all (drop i fs) ≡ true
  fields-all fs i h = at_drop_all (of_fields all) fs i h ∙ end

-- Whether each domain is an atom.
abbrev pub each_atom : Doms → Bool
each_atom ds = list_all is_atom (dom_list ds)

-- ---- finite

pub finite_more : (ds : List Dom) (i : ℕ) (d : Dom) → i < length ds → d ≡ get_or ds i d → is_finite (pure_dom d) ≡ true →
    of_doms are_finite (drop i ds) ≡ of_doms are_finite (drop (i + 1) ds)
finite_more = doms-more is_finite are_finite (λ d ds. refl) refl

pub finite_none : (ds : List Dom) (i : ℕ) (d : Dom) → i < length ds → d ≡ get_or ds i d → is_finite (pure_dom d) ≡ false →
    of_doms are_finite (drop i ds) ≡ false
finite_none = doms-none is_finite are_finite (λ d ds. refl) refl

pub finite_all : (ds : List Dom) (i : ℕ) → length ds ≤ i → of_doms are_finite (drop i ds) ≡ true
finite_all = doms-all is_finite are_finite (λ d ds. refl) refl

pub fields_finite_more : (fs : List FieldDom) (i : ℕ) (f : FieldDom) → i < length fs → f ≡ get_or fs i f →
    is_finite (pure_dom (out-FieldDom f).dom) ≡ true →
    of_fields are_finite (drop i fs) ≡ of_fields are_finite (drop (i + 1) fs)
fields_finite_more = fields-more is_finite are_finite (λ d ds. refl) refl

pub fields_finite_none : (fs : List FieldDom) (i : ℕ) (f : FieldDom) → i < length fs → f ≡ get_or fs i f →
    is_finite (pure_dom (out-FieldDom f).dom) ≡ false →
    of_fields are_finite (drop i fs) ≡ false
fields_finite_none = fields-none is_finite are_finite (λ d ds. refl) refl

pub fields_finite_all : (fs : List FieldDom) (i : ℕ) → length fs ≤ i → of_fields are_finite (drop i fs) ≡ true
fields_finite_all = fields-all is_finite are_finite (λ d ds. refl) refl

-- ---- enumerable

pub enumerable_more : (ds : List Dom) (i : ℕ) (d : Dom) → i < length ds → d ≡ get_or ds i d → is_enumerable (pure_dom d) ≡ true →
    of_doms are_enumerable (drop i ds) ≡ of_doms are_enumerable (drop (i + 1) ds)
enumerable_more = doms-more is_enumerable are_enumerable (λ d ds. refl) refl

pub enumerable_none : (ds : List Dom) (i : ℕ) (d : Dom) → i < length ds → d ≡ get_or ds i d → is_enumerable (pure_dom d) ≡ false →
    of_doms are_enumerable (drop i ds) ≡ false
enumerable_none = doms-none is_enumerable are_enumerable (λ d ds. refl) refl

pub enumerable_all : (ds : List Dom) (i : ℕ) → length ds ≤ i → of_doms are_enumerable (drop i ds) ≡ true
enumerable_all = doms-all is_enumerable are_enumerable (λ d ds. refl) refl

pub fields_enumerable_more : (fs : List FieldDom) (i : ℕ) (f : FieldDom) → i < length fs → f ≡ get_or fs i f →
    is_enumerable (pure_dom (out-FieldDom f).dom) ≡ true →
    of_fields are_enumerable (drop i fs) ≡ of_fields are_enumerable (drop (i + 1) fs)
fields_enumerable_more = fields-more is_enumerable are_enumerable (λ d ds. refl) refl

pub fields_enumerable_none : (fs : List FieldDom) (i : ℕ) (f : FieldDom) → i < length fs → f ≡ get_or fs i f →
    is_enumerable (pure_dom (out-FieldDom f).dom) ≡ false →
    of_fields are_enumerable (drop i fs) ≡ false
fields_enumerable_none = fields-none is_enumerable are_enumerable (λ d ds. refl) refl

pub fields_enumerable_all : (fs : List FieldDom) (i : ℕ) → length fs ≤ i → of_fields are_enumerable (drop i fs) ≡ true
fields_enumerable_all = fields-all is_enumerable are_enumerable (λ d ds. refl) refl

-- ---- slots

pub slots_more : (ds : List Dom) (i : ℕ) (d : Dom) → i < length ds → d ≡ get_or ds i d → needs_known_slots (pure_dom d) ≡ true →
    of_doms all_need_known_slots (drop i ds) ≡ of_doms all_need_known_slots (drop (i + 1) ds)
slots_more = doms-more needs_known_slots all_need_known_slots (λ d ds. refl) refl

pub slots_none : (ds : List Dom) (i : ℕ) (d : Dom) → i < length ds → d ≡ get_or ds i d → needs_known_slots (pure_dom d) ≡ false →
    of_doms all_need_known_slots (drop i ds) ≡ false
slots_none = doms-none needs_known_slots all_need_known_slots (λ d ds. refl) refl

pub slots_all : (ds : List Dom) (i : ℕ) → length ds ≤ i → of_doms all_need_known_slots (drop i ds) ≡ true
slots_all = doms-all needs_known_slots all_need_known_slots (λ d ds. refl) refl

pub fields_slots_more : (fs : List FieldDom) (i : ℕ) (f : FieldDom) → i < length fs → f ≡ get_or fs i f →
    needs_known_slots (pure_dom (out-FieldDom f).dom) ≡ true →
    of_fields all_need_known_slots (drop i fs) ≡ of_fields all_need_known_slots (drop (i + 1) fs)
fields_slots_more = fields-more needs_known_slots all_need_known_slots (λ d ds. refl) refl

pub fields_slots_none : (fs : List FieldDom) (i : ℕ) (f : FieldDom) → i < length fs → f ≡ get_or fs i f →
    needs_known_slots (pure_dom (out-FieldDom f).dom) ≡ false →
    of_fields all_need_known_slots (drop i fs) ≡ false
fields_slots_none = fields-none needs_known_slots all_need_known_slots (λ d ds. refl) refl

pub fields_slots_all : (fs : List FieldDom) (i : ℕ) → length fs ≤ i → of_fields all_need_known_slots (drop i fs) ≡ true
fields_slots_all = fields-all needs_known_slots all_need_known_slots (λ d ds. refl) refl

-- ---- atoms

pub atoms_more : (ds : List Dom) (i : ℕ) (d : Dom) → i < length ds → d ≡ get_or ds i d → is_atom (pure_dom d) ≡ true →
    of_doms each_atom (drop i ds) ≡ of_doms each_atom (drop (i + 1) ds)
atoms_more = doms-more is_atom each_atom (λ d ds. refl) refl

pub atoms_none : (ds : List Dom) (i : ℕ) (d : Dom) → i < length ds → d ≡ get_or ds i d → is_atom (pure_dom d) ≡ false →
    of_doms each_atom (drop i ds) ≡ false
atoms_none = doms-none is_atom each_atom (λ d ds. refl) refl

pub atoms_all : (ds : List Dom) (i : ℕ) → length ds ≤ i → of_doms each_atom (drop i ds) ≡ true
atoms_all = doms-all is_atom each_atom (λ d ds. refl) refl

-- ---- listed domains

if-listed : (t u : Bool) (d c : pure.Dom) →
    list_all is_enumerable ((if t then d ∷ [] else []) ++ (if u then c ∷ [] else []))
    ≡ (not t || is_enumerable d) && (not u || is_enumerable c)
if-listed true true d c = ap (λ b. is_enumerable d && b) (and_true (is_enumerable c))
if-listed true false d c = refl
if-listed false true d c = and_true (is_enumerable c)
if-listed false false d c = refl

pub function_listed : (ms : List Mark) (es : Exs) (d c : pure.Dom) →
    list_all is_enumerable (listed_domains (function_dom ms es d c)) ≡ function_is_listable ms d c
function_listed ms es d c = if-listed (has_key Key.Total ms) (has_key Key.Surjective ms || has_key Key.Bijective ms) d c

pub relation_listed : (ms : List Mark) (es : Exs) (ds : Doms) →
    list_all is_enumerable (listed_domains (relation_dom ms es ds)) ≡ relation_is_listable ms ds
relation_listed ms es pure.no_doms = go (has_key Key.Reflexive ms)
  where
    go : (b : Bool) → true ≡ not b || true
    go true = refl
    go false = refl
relation_listed ms es (pure.more_doms d ds) = go (has_key Key.Reflexive ms)
  where
    go : (b : Bool) → list_all is_enumerable (if b then d ∷ [] else []) ≡ not b || is_enumerable d
    go true = and_true (is_enumerable d)
    go false = refl

pub partition_listed : (ms : List Mark) (es : Exs) (d : pure.Dom) →
    list_all is_enumerable (listed_domains (partition_dom ms es d)) ≡ is_enumerable d
partition_listed ms es d = and_true (is_enumerable d)

pub no_first : (ds : List Dom) → slice_get ds 0 ≡ None → first_is_enumerable (pure_doms ds) ≡ true
no_first [] h = refl
no_first (d ∷ ds) h = cc

pub first_listed : (ds : List Dom) (d : Dom) → slice_get ds 0 ≡ Some d → first_is_enumerable (pure_doms ds) ≡ is_enumerable (pure_dom d)
first_listed [] d h = cc
first_listed (e ∷ ds) d h = ap (λ o. is_some_and o (λ x. is_enumerable (pure_dom x))) h

pub relation_there : (ms : List Attr) (ds : List Dom) →
    list_all is_enumerable (listed_domains (pure_dom (variant.Relation ms ds)))
    ≡ relation_is_listable (words_of (map pure_attr ms)) (pure_doms ds)
relation_there ms ds =
    ap (λ d. list_all is_enumerable (listed_domains d)) (pure_relation ms ds)
    ∙ relation_listed (words_of (map pure_attr ms)) (exs_of (within (map pure_attr ms))) (pure_doms ds)
