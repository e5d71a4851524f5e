-- The name of each find that is a set of any nesting over numbers and truth values has a plan, whose representation fits and which has a
-- name for each table.
use Rattle.std.proofs.Common.{◌≡◌, refl, sym, ap, ◌∙◌, subst, suc, Bool, true, false, if◌then◌else◌, List, [], ◌∷◌, inl, inr, length, Some, None}
use Rattle.ess_semantics.specs.Values.{Text}
use Rattle.ess_semantics.specs.Order.{same_text}
use Rattle.ess_semantics.specs.Names.{keys}
use Rattle.ess_semantics.specs.Trees.{Mark, Repr, Exs, no_exs, Dom, bool_dom, set_dom, Stm}
use Rattle.ess_semantics.specs.Kinds.{fits}
use Rattle.ess_semantics.specs.Contexts.{Each}
use Rattle.ess_semantics.specs.Representations.{width}
use Rattle.ess_semantics.specs.TableNames.{Named, table_names, named_tables}
use Rattle.ess_semantics.specs.Plans.{Options, Side, finds_side, Plan, size_plan, value_plan, plans}
use Rattle.ess_semantics.proofs.Texts.{same_text-equal}
use Rattle.conjure_laws.specs.Fields.{HasFields}
use Rattle.conjure_laws.specs.Members.{In}
use Rattle.conjure_laws.proofs.SetPlans.{Occ}
use Rattle.conjure_laws.proofs.TableCounts.{names-wide, named-long}
use Rattle.ess_flat_models_laws.proofs.ScalarDomains.{Atom, is_shape}
use Rattle.ess_nested_laws.specs.NestedDomains.{is_nested_dom}
use Rattle.ess_nested_laws.proofs.NestedForms.{WrittenAtom, written_truths, written_numbers, NestedSet, of_atoms, of_sets, nested-form}
use Rattle.ess_mixed_models_laws.specs.ess_seen_laws.Seen.{Kind, kind_of}
use Rattle.ess_mixed_models_laws.specs.MixedSpecifications.{kinds, kind_of_members, nested_kind, are_mixed_statements}
use Rattle.ess_mixed_models_laws.proofs.NamedKinds.{no-yes, no-some, MemberDom, of_numbers, of_truths, of_type}
use Rattle.ess_mixed_models_laws.proofs.MixedPlans.{PlanFact, size_fact, atom_fact, set_fact, nested_fact, all-facts}

-- ---- domains

-- The domain is one of nested sets with members of this kind.
pub record SetsOf (d : Dom) (k : Kind) : Type 0 where
  pub attributes : List Mark
  pub sizes : Exs
  pub inner : Dom
  pub is : d ≡ set_dom attributes sizes inner
  pub nested : is_nested_dom d ≡ true
  pub kind : kind_of inner ≡ k

sets-of : (d : Dom) (k : Kind) → kind_of_members d ≡ Some k → SetsOf d k
sets-of (set_dom ms es d) k e = go (is_nested_dom (set_dom ms es d)) refl e
  where
    same : {i j : Kind} → Some i ≡ Some j → i ≡ j
    same q = cc

    go : (b : Bool) → is_nested_dom (set_dom ms es d) ≡ b → (if b then Some (kind_of d) else None) ≡ Some k → SetsOf (set_dom ms es d) k
    go true q e = record { attributes = ms; sizes = es; inner = d; is = refl; nested = q; kind = same e }
    go false q e = absurd (no-some e)
sets-of d k e = absurd (no-some e)

atom-fields : {d : Dom} → WrittenAtom d → HasFields d
atom-fields written_truths = tt
atom-fields written_numbers = tt

-- A domain of nested sets has no records without fields.
pub nested-fields : {d : Dom} → NestedSet d → HasFields d
nested-fields (of_atoms s a) = atom-fields a
nested-fields (of_sets s n) = nested-fields n

-- There are as many names as named tables.
pub keys-long : (ns : List Named) → length (keys ns) ≡ length ns
keys-long [] = refl
keys-long (m ∷ ns) = ap suc (keys-long ns)

-- ---- plans

module _ (S : List Stm) (o : Options) where
  -- What a plan is whose domain is one of nested sets: one of a find, whose representation fits, with a name for each table.
  pub record NestedPlan (f : Side) (r : Repr) (d : Dom) (ns : List Named) : Type 0 where
    pub found : f ≡ finds_side
    pub fit : fits r d ≡ true
    pub named : length (keys ns) ≡ width r

  shape-none : (d : Dom) (k : Kind) → is_shape d ≡ true → kind_of_members d ≡ Some k → ⊥
  shape-none (set_dom ms es d) k s e = no-yes s
  shape-none d k s e = no-some e

  set-plan : {A : Dom} (m : MemberDom (kinds S) A) (k : Kind) (n : Text) → kind_of_members (set_dom [] no_exs A) ≡ Some k →
      NestedPlan finds_side Occ (set_dom [] no_exs A) ((n, 1) ∷ [])
  set-plan of_numbers k n e = record { found = refl; fit = refl; named = refl }
  set-plan of_truths k n e = record { found = refl; fit = refl; named = refl }
  set-plan (of_type q) k n e = absurd (no-some e)

  abbrev dom-of : Plan → Dom
  dom-of (size_plan t n) = bool_dom
  dom-of (value_plan f x r d ns) = d

  abbrev PlanIs : Plan → Type 0
  PlanIs (size_plan t n) = Unit {0}
  PlanIs (value_plan f x r d ns) = NestedPlan f r d ns

  nested-plan : (P : Plan) → PlanFact S o P → (f : Side) (x : Text) (r : Repr) (d : Dom) (ns : List Named) → P ≡ value_plan f x r d ns →
      (k : Kind) → kind_of_members d ≡ Some k → NestedPlan f r d ns
  nested-plan P (size_fact t n e) f x r d ns q k m =
      let z : size_plan t n ≡ value_plan f x r d ns = sym e ∙ q in cc
  nested-plan P (atom_fact w) f x r d ns q k m =
      let z : value_plan w.f w.x Atom w.d ((w.n, 0) ∷ []) ≡ value_plan f x r d ns = sym w.is ∙ q in
      absurd (shape-none d k (ap is_shape (sym (same z)) ∙ w.scalar) m)
    where
      same : {g h : Side} {y z : Text} {p q : Repr} {b c : Dom} {ms ns : List Named} →
          value_plan g y p b ms ≡ value_plan h z q c ns → b ≡ c
      same e = cc
  nested-plan P (set_fact y A n e w a) f x r d ns q k m =
      subst (λ P. kind_of_members (dom-of P) ≡ Some k → PlanIs P) (sym e ∙ q) (λ m. set-plan w k n m) m
  nested-plan P (nested_fact y p c taken e n g z w) f x r d ns q k m =
      subst PlanIs (sym e ∙ q) (record {
        found = refl;
        fit = g;
        named = keys-long (named_tables y (table_names p c) taken) ∙ named-long y (table_names p c) taken
            ∙ names-wide p c (nested-fields (nested-form 250 c n)) g;
      })

  -- ---- names

  -- The name has such a plan among these, with members of this kind.
  pub record NestedAmong (Qs : List Plan) (a : Text) (k : Kind) : Type 0 where
    pub r : Repr
    pub d : Dom
    pub ns : List Named
    pub planned : In (value_plan finds_side a r d ns) Qs
    pub fit : fits r d ≡ true
    pub named : length (keys ns) ≡ width r
    pub sets : SetsOf d k

  later : (P : Plan) (Qs : List Plan) (a : Text) (k : Kind) → NestedAmong Qs a k → NestedAmong (P ∷ Qs) a k
  later P Qs a k w = record { r = w.r; d = w.d; ns = w.ns; planned = inr w.planned; fit = w.fit; named = w.named; sets = w.sets }

  here : (Qs : List Plan) (f : Side) (x : Text) (r : Repr) (d : Dom) (ns : List Named) (a : Text) (k : Kind) → x ≡ a →
      kind_of_members d ≡ Some k → NestedPlan f r d ns → NestedAmong (value_plan f x r d ns ∷ Qs) a k
  here Qs f x r d ns a k q m w = record {
    r = r;
    d = d;
    ns = ns;
    planned = inl (ap (λ z. value_plan finds_side z r d ns) (sym q) ∙ ap (λ g. value_plan g x r d ns) (sym w.found));
    fit = w.fit;
    named = w.named;
    sets = sets-of d k m;
  }

  among : (Qs : List Plan) → Each Qs (PlanFact S o) → (a : Text) (k : Kind) → nested_kind Qs a ≡ Some k → NestedAmong Qs a k
  among [] w a k e = absurd (no-some e)
  among (size_plan t n ∷ Qs) w a k e = later (size_plan t n) Qs a k (among Qs w.1 a k e)
  among (value_plan f x r d ns ∷ Qs) w a k e = go (same_text x a) refl e (λ e. among Qs w.1 a k e)
    where
      go : (b : Bool) → same_text x a ≡ b → (if b then kind_of_members d else nested_kind Qs a) ≡ Some k →
          (nested_kind Qs a ≡ Some k → NestedAmong Qs a k) → NestedAmong (value_plan f x r d ns ∷ Qs) a k
      go true q e g =
          here Qs f x r d ns a k (same_text-equal x a q) e (nested-plan (value_plan f x r d ns) w.0 f x r d ns refl k e)
      go false q e g = later (value_plan f x r d ns) Qs a k (g e)

  -- The name of a find that is such a set has such a plan.
  pub nested-name : are_mixed_statements S o ≡ true → (a : Text) (k : Kind) → nested_kind (plans S o) a ≡ Some k →
      NestedAmong (plans S o) a k
  nested-name h a k e = among (plans S o) (all-facts S o h) a k e
