-- Names of fields.
use Rattle.std.proofs.Common.{◌≡◌, sym, ap, ◌∙◌, ℕ, ◌+◌, ◌<◌, ◌≤◌, Bool, true, false, ◌&&◌, ◌||◌, not, List, ◌∷◌, map, drop, length, get_or}
use Rattle.std.proofs.lemmas.List.{at_drop_more, at_drop_all}
use Rattle.ess_semantics.specs.Values.{Text}
use Rattle.ess_semantics.specs.Order.{same_text}
use Rattle.ess_semantics.specs.Names.{keys, is_among, all_distinct}
use Rattle.ess_core.specs.TreeViews.{pure_field_ex, pure_field_dom}
use Rattle.ess_core.specs.declared.expressions.FieldEx.{FieldEx}
use Rattle.ess_core.specs.declared.domains.FieldDom.{FieldDom}
use Rattle.ess_core.specs.declared.domains.Dom.TheViews.{out-FieldEx, out-FieldDom}
use Rattle.ess_core.proofs.PartEquations.{pure_field_ex_is, pure_field_dom_is}

-- ---- fields of a record literal

-- Whether a field has the name.
abbrev pub ex_named : List FieldEx → Text → Bool
ex_named fs a = is_among (keys (map pure_field_ex fs)) a

-- Whether no field stands twice.
abbrev pub exs_differ : List FieldEx → Bool
exs_differ fs = all_distinct (keys (map pure_field_ex fs))

ex-name : (f : FieldEx) → (pure_field_ex f).0 ≡ (out-FieldEx f).name
ex-name f = ap (λ x. x.0) (pure_field_ex_is f)

ex-first : (fs : List FieldEx) (a : Text) (i : ℕ) (f : FieldEx) → i < length fs → f ≡ get_or fs i f →
    ex_named (drop i fs) a ≡ same_text (out-FieldEx f).name a || ex_named (drop (i + 1) fs) a
ex-first fs a i f h is =
    at_drop_more (λ l. ex_named l a) fs i f h ∙ ap (λ m. ex_named (m ∷ drop (i + 1) fs) a) (sym is)
    ∙ ap (λ n. same_text n a || ex_named (drop (i + 1) fs) a) (ex-name f)

pub ex_here : (fs : List FieldEx) (a : Text) (i : ℕ) (f : FieldEx) → i < length fs → f ≡ get_or fs i f →
    same_text (out-FieldEx f).name a ≡ true →
    ex_named (drop i fs) a ≡ true
ex_here fs a i f h is e = ex-first fs a i f h is ∙ ap (λ b. b || ex_named (drop (i + 1) fs) a) e

pub ex_later : (fs : List FieldEx) (a : Text) (i : ℕ) (f : FieldEx) → i < length fs → f ≡ get_or fs i f →
    same_text (out-FieldEx f).name a ≡ false →
    ex_named (drop i fs) a ≡ ex_named (drop (i + 1) fs) a
ex_later fs a i f h is e = ex-first fs a i f h is ∙ ap (λ b. b || ex_named (drop (i + 1) fs) a) e

pub ex_none : (fs : List FieldEx) (a : Text) (i : ℕ) → length fs ≤ i → ex_named (drop i fs) a ≡ false
ex_none fs a i h = at_drop_all (λ l. ex_named l a) fs i h

exs-first : (fs : List FieldEx) (i : ℕ) (f : FieldEx) → i < length fs → f ≡ get_or fs i f →
    exs_differ (drop i fs) ≡ not (ex_named (drop (i + 1) fs) (out-FieldEx f).name) && exs_differ (drop (i + 1) fs)
exs-first fs i f h is =
    at_drop_more exs_differ fs i f h ∙ ap (λ m. exs_differ (m ∷ drop (i + 1) fs)) (sym is)
    ∙ ap (λ n. not (ex_named (drop (i + 1) fs) n) && exs_differ (drop (i + 1) fs)) (ex-name f)

pub exs_later : (fs : List FieldEx) (i : ℕ) (f : FieldEx) → i < length fs → f ≡ get_or fs i f →
    ex_named (drop (i + 1) fs) (out-FieldEx f).name ≡ false →
    exs_differ (drop i fs) ≡ exs_differ (drop (i + 1) fs)
exs_later fs i f h is e = exs-first fs i f h is ∙ ap (λ b. not b && exs_differ (drop (i + 1) fs)) e

pub exs_here : (fs : List FieldEx) (i : ℕ) (f : FieldEx) → i < length fs → f ≡ get_or fs i f →
    ex_named (drop (i + 1) fs) (out-FieldEx f).name ≡ true →
    exs_differ (drop i fs) ≡ false
exs_here fs i f h is e = exs-first fs i f h is ∙ ap (λ b. not b && exs_differ (drop (i + 1) fs)) e

pub exs_all : (fs : List FieldEx) (i : ℕ) → length fs ≤ i → exs_differ (drop i fs) ≡ true
exs_all fs i h = at_drop_all exs_differ fs i h

-- ---- fields of a record's domain

-- Whether a field has the name.
abbrev pub dom_named : List FieldDom → Text → Bool
dom_named fs a = is_among (keys (map pure_field_dom fs)) a

-- Whether no field stands twice.
abbrev pub doms_differ : List FieldDom → Bool
doms_differ fs = all_distinct (keys (map pure_field_dom fs))

dom-name : (f : FieldDom) → (pure_field_dom f).0 ≡ (out-FieldDom f).name
dom-name f = ap (λ x. x.0) (pure_field_dom_is f)

dom-first : (fs : List FieldDom) (a : Text) (i : ℕ) (f : FieldDom) → i < length fs → f ≡ get_or fs i f →
    dom_named (drop i fs) a ≡ same_text (out-FieldDom f).name a || dom_named (drop (i + 1) fs) a
dom-first fs a i f h is =
    at_drop_more (λ l. dom_named l a) fs i f h ∙ ap (λ m. dom_named (m ∷ drop (i + 1) fs) a) (sym is)
    ∙ ap (λ n. same_text n a || dom_named (drop (i + 1) fs) a) (dom-name f)

pub dom_here : (fs : List FieldDom) (a : Text) (i : ℕ) (f : FieldDom) → i < length fs → f ≡ get_or fs i f →
    same_text (out-FieldDom f).name a ≡ true →
    dom_named (drop i fs) a ≡ true
dom_here fs a i f h is e = dom-first fs a i f h is ∙ ap (λ b. b || dom_named (drop (i + 1) fs) a) e

pub dom_later : (fs : List FieldDom) (a : Text) (i : ℕ) (f : FieldDom) → i < length fs → f ≡ get_or fs i f →
    same_text (out-FieldDom f).name a ≡ false →
    dom_named (drop i fs) a ≡ dom_named (drop (i + 1) fs) a
dom_later fs a i f h is e = dom-first fs a i f h is ∙ ap (λ b. b || dom_named (drop (i + 1) fs) a) e

pub dom_none : (fs : List FieldDom) (a : Text) (i : ℕ) → length fs ≤ i → dom_named (drop i fs) a ≡ false
dom_none fs a i h = at_drop_all (λ l. dom_named l a) fs i h

doms-first : (fs : List FieldDom) (i : ℕ) (f : FieldDom) → i < length fs → f ≡ get_or fs i f →
    doms_differ (drop i fs) ≡ not (dom_named (drop (i + 1) fs) (out-FieldDom f).name) && doms_differ (drop (i + 1) fs)
doms-first fs i f h is =
    at_drop_more doms_differ fs i f h ∙ ap (λ m. doms_differ (m ∷ drop (i + 1) fs)) (sym is)
    ∙ ap (λ n. not (dom_named (drop (i + 1) fs) n) && doms_differ (drop (i + 1) fs)) (dom-name f)

pub doms_later : (fs : List FieldDom) (i : ℕ) (f : FieldDom) → i < length fs → f ≡ get_or fs i f →
    dom_named (drop (i + 1) fs) (out-FieldDom f).name ≡ false →
    doms_differ (drop i fs) ≡ doms_differ (drop (i + 1) fs)
doms_later fs i f h is e = doms-first fs i f h is ∙ ap (λ b. not b && doms_differ (drop (i + 1) fs)) e

pub doms_here : (fs : List FieldDom) (i : ℕ) (f : FieldDom) → i < length fs → f ≡ get_or fs i f →
    dom_named (drop (i + 1) fs) (out-FieldDom f).name ≡ true →
    doms_differ (drop i fs) ≡ false
doms_here fs i f h is e = doms-first fs i f h is ∙ ap (λ b. not b && doms_differ (drop (i + 1) fs)) e

pub doms_all : (fs : List FieldDom) (i : ℕ) → length fs ≤ i → doms_differ (drop i fs) ≡ true
doms_all fs i h = at_drop_all doms_differ fs i h
