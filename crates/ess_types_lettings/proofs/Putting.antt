-- Lettings put into several parts.
use Rattle.std.proofs.Common.{◌≡◌, refl, sym, ap, ◌∙◌, ℕ, ◌+◌, ◌<◌, List, [], ◌∷◌, ◌++◌, length, map, take, get_or, Option, Some, None, option_map}
use Rattle.std.proofs.lemmas.List.{map_push, map_more}
use Rattle.ess_semantics.specs.Values.{Text}
use Rattle.ess_semantics.specs.Names.{Names, keys}
use Rattle.ess_semantics.specs.declared.words.Key.{Key}
use Rattle.ess_semantics.specs.Kinds.{doms_of}
use Rattle.ess_semantics.specs.Types.{Ty}
use Rattle.ess_semantics.specs.Trees as tree
use Rattle.ess_semantics.specs.Trees.{more_exs, more_doms}
use Rattle.ess_semantics.specs.Lettings.{Lettings, put_ex, put_exs, put_dom, put_doms}
use Rattle.ess_core.specs.declared.expressions.Ex.{Ex}
use Rattle.ess_core.specs.declared.expressions.PairEx.{PairEx}
use Rattle.ess_core.specs.declared.expressions.FieldEx.{FieldEx}
use Rattle.ess_core.specs.declared.domains.Dom.{Dom}
use Rattle.ess_core.specs.declared.domains.FieldDom.{FieldDom}
use Rattle.ess_core.specs.TreeViews.{With, words_of, within, exs_of, field_values, span, attribute, pure_ex, pure_exs, pure_pair_ex, pure_field_ex, pure_dom, pure_doms, pure_field_dom}
use Rattle.ess_core.proofs.PartEquations.{pure_range_one, pure_range_span}
use Rattle.ess_types_lettings.specs.Putting.{put_field, put_field_dom, put_with}

-- ---- one by one

-- One part more: with y the parts ys stand for what is made of one item more.
pub part_more : {A C : Type 0} (v w : A → C) (xs ys zs : List A) (i : ℕ) (x y : A) → i < length xs → x ≡ get_or xs i x
    → zs ≡ ys ++ y ∷ []
    → v y ≡ w x → map v ys ≡ map w (take i xs) → map v zs ≡ map w (take (i + 1) xs)
part_more v w xs ys zs i x y lt is p e h =
    ap (map v) p
    ∙ map_push v ys y
    ∙ ap (λ s. s ++ v y ∷ []) h
    ∙ ap (λ z. map w (take i xs) ++ z ∷ []) (e ∙ ap w is)
    ∙ sym (map_more w xs i x lt)

-- ---- operands

exs-each : {A : Type 0} (v : A → tree.Ex) (es : List A) (l : Lettings) (g : Names Ty)
    → exs_of (map (λ e. put_ex (v e) l g) es) ≡ put_exs (exs_of (map v es)) l g
exs-each v [] l g = refl
exs-each v (e ∷ es) l g = ap (λ fs. more_exs (put_ex (v e) l g) fs) (exs-each v es l g)

-- Several expressions.
pub exs_put : (es rs : List Ex) (l : Lettings) (g : Names Ty) → map pure_ex rs ≡ map (λ e. put_ex (pure_ex e) l g) es
    → pure_exs rs ≡ put_exs (pure_exs es) l g
exs_put es rs l g h = ap exs_of h ∙ exs-each pure_ex es l g

-- Several pairs.
pub pairs_put : (ps rs : List PairEx) (l : Lettings) (g : Names Ty) → map pure_pair_ex rs ≡ map (λ p. put_ex (pure_pair_ex p) l g) ps
    → exs_of (map pure_pair_ex rs) ≡ put_exs (exs_of (map pure_pair_ex ps)) l g
pairs_put ps rs l g h = ap exs_of h ∙ exs-each pure_pair_ex ps l g

-- ---- fields

field-names : {A : Type 0} (v : A → Text × tree.Ex) (fs : List A) (l : Lettings) (g : Names Ty)
    → keys (map (λ f. put_field (v f) l g) fs) ≡ keys (map v fs)
field-names v [] l g = refl
field-names v (f ∷ fs) l g = ap (λ ns. (v f).0 ∷ ns) (field-names v fs l g)

field-exs : {A : Type 0} (v : A → Text × tree.Ex) (fs : List A) (l : Lettings) (g : Names Ty)
    → exs_of (field_values (map (λ f. put_field (v f) l g) fs)) ≡ put_exs (exs_of (field_values (map v fs))) l g
field-exs v [] l g = refl
field-exs v (f ∷ fs) l g = ap (λ es. more_exs (put_ex (v f).1 l g) es) (field-exs v fs l g)

-- The names of fields stay.
pub fields_named : (fs rs : List FieldEx) (l : Lettings) (g : Names Ty)
    → map pure_field_ex rs ≡ map (λ f. put_field (pure_field_ex f) l g) fs
    → keys (map pure_field_ex rs) ≡ keys (map pure_field_ex fs)
fields_named fs rs l g h = ap keys h ∙ field-names pure_field_ex fs l g

-- The values of fields.
pub fields_put : (fs rs : List FieldEx) (l : Lettings) (g : Names Ty) → map pure_field_ex rs ≡ map (λ f. put_field (pure_field_ex f) l g) fs
    → exs_of (field_values (map pure_field_ex rs)) ≡ put_exs (exs_of (field_values (map pure_field_ex fs))) l g
fields_put fs rs l g h = ap (λ ns. exs_of (field_values ns)) h ∙ field-exs pure_field_ex fs l g

-- ---- domains

doms-each : (ds : List Dom) (l : Lettings) (g : Names Ty) → doms_of (map (λ d. put_dom (pure_dom d) l g) ds) ≡ put_doms (pure_doms ds) l g
doms-each [] l g = refl
doms-each (d ∷ ds) l g = ap (λ cs. more_doms (put_dom (pure_dom d) l g) cs) (doms-each ds l g)

-- Several domains.
pub doms_put : (ds rs : List Dom) (l : Lettings) (g : Names Ty) → map pure_dom rs ≡ map (λ d. put_dom (pure_dom d) l g) ds
    → pure_doms rs ≡ put_doms (pure_doms ds) l g
doms_put ds rs l g h = ap doms_of h ∙ doms-each ds l g

dom-names : (fs : List FieldDom) (l : Lettings) (g : Names Ty)
    → keys (map (λ f. put_field_dom (pure_field_dom f) l g) fs) ≡ keys (map pure_field_dom fs)
dom-names [] l g = refl
dom-names (f ∷ fs) l g = ap (λ ns. (pure_field_dom f).0 ∷ ns) (dom-names fs l g)

field-doms : (fs : List FieldDom) (l : Lettings) (g : Names Ty)
    → doms_of (field_values (map (λ f. put_field_dom (pure_field_dom f) l g) fs))
    ≡ put_doms (doms_of (field_values (map pure_field_dom fs))) l g
field-doms [] l g = refl
field-doms (f ∷ fs) l g = ap (λ ds. more_doms (put_dom (pure_field_dom f).1 l g) ds) (field-doms fs l g)

-- The names of a record's fields stay.
pub field_doms_named : (fs rs : List FieldDom) (l : Lettings) (g : Names Ty)
    → map pure_field_dom rs ≡ map (λ f. put_field_dom (pure_field_dom f) l g) fs
    → keys (map pure_field_dom rs) ≡ keys (map pure_field_dom fs)
field_doms_named fs rs l g h = ap keys h ∙ dom-names fs l g

-- The domains of a record's fields.
pub field_doms_put : (fs rs : List FieldDom) (l : Lettings) (g : Names Ty)
    → map pure_field_dom rs ≡ map (λ f. put_field_dom (pure_field_dom f) l g) fs
    → doms_of (field_values (map pure_field_dom rs)) ≡ put_doms (doms_of (field_values (map pure_field_dom fs))) l g
field_doms_put fs rs l g h = ap (λ ns. doms_of (field_values ns)) h ∙ field-doms fs l g

-- ---- words with expressions

module _ {A W : Type 0} (v : A → With W) where
  words-each : (xs : List A) (l : Lettings) (g : Names Ty) → words_of (map (λ x. put_with (v x) l g) xs) ≡ words_of (map v xs)
  words-each [] l g = refl
  words-each (x ∷ xs) l g = ap (λ ws. (v x).0 ∷ ws) (words-each xs l g)

  -- The words stay.
  pub words_named : (xs rs : List A) (l : Lettings) (g : Names Ty) → map v rs ≡ map (λ x. put_with (v x) l g) xs
      → words_of (map v rs) ≡ words_of (map v xs)
  words_named xs rs l g h = ap words_of h ∙ words-each xs l g

  within-one : (es : List tree.Ex) (xs : List A) (l : Lettings) (g : Names Ty)
      → exs_of (within (map (λ x. put_with (v x) l g) xs)) ≡ put_exs (exs_of (within (map v xs))) l g
      → exs_of (map (λ e. put_ex e l g) es ++ within (map (λ x. put_with (v x) l g) xs)) ≡ put_exs (exs_of (es ++ within (map v xs))) l g
  within-one [] xs l g h = h
  within-one (e ∷ es) xs l g h = ap (λ fs. more_exs (put_ex e l g) fs) (within-one es xs l g h)

  within-each : (xs : List A) (l : Lettings) (g : Names Ty)
      → exs_of (within (map (λ x. put_with (v x) l g) xs)) ≡ put_exs (exs_of (within (map v xs))) l g
  within-each [] l g = refl
  within-each (x ∷ xs) l g = within-one (v x).1 xs l g (within-each xs l g)

  -- The expressions that stand in the words.
  pub within_put : (xs rs : List A) (l : Lettings) (g : Names Ty) → map v rs ≡ map (λ x. put_with (v x) l g) xs
      → exs_of (within (map v rs)) ≡ put_exs (exs_of (within (map v xs))) l g
  within_put xs rs l g h = ap (λ ws. exs_of (within ws)) h ∙ within-each xs l g

-- A range.
pub span_put : (a b : Option tree.Ex) (l : Lettings) (g : Names Ty)
    → span (option_map (λ e. put_ex e l g) a) (option_map (λ e. put_ex e l g) b) ≡ put_with (span a b) l g
span_put None None l g = refl
span_put None (Some b) l g = refl
span_put (Some a) None l g = refl
span_put (Some a) (Some b) l g = refl

-- What a range stands for, with lettings put in.
pub ruleset ranges_put = (span_put, pure_range_one, pure_range_span)

-- An attribute.
pub attribute_put : (k : Key) (a : Option tree.Ex) (l : Lettings) (g : Names Ty)
    → attribute k (option_map (λ e. put_ex e l g) a) ≡ put_with (attribute k a) l g
attribute_put k None l g = refl
attribute_put k (Some e) l g = refl
