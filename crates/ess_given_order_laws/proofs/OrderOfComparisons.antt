-- Rules of components and comparisons keep comprehensions in order where order counts.
use Rattle.std.proofs.Common.{◌≡◌, refl, ℕ, zero, suc, Bool, true, false, ◌&&◌, ◌||◌, if◌then◌else◌, List, [], ◌∷◌, Option, Some, None}
use Rattle.ess_semantics.specs.declared.words.Op2.{Op2}
use Rattle.ess_semantics.specs.Values.{Text, a_record}
use Rattle.ess_semantics.specs.Order.{same_text, same_texts}
use Rattle.ess_semantics.specs.Names.{Names}
use Rattle.ess_semantics.specs.Trees.{to_component, to_field, index, tuple_literal, record_literal, Ex, Exs, node_ex, ex2, no_exs, more_exs, from}
use Rattle.ess_semantics.specs.Types.{Ty, Tys, no_tys, more_tys, compound}
use Rattle.ess_semantics.specs.Typing.{type_of}
use Rattle.ess_rules_laws.specs.LiteralRules.{nth, component_listed}
use Rattle.ess_rules_laws.specs.FieldLiterals.{field_term, field_listed}
use Rattle.ess_rules_laws.specs.InclusionRules.{both_sets, both_msets, unequal, included_turned, included_strictly}
use Rattle.ess_rules_laws.specs.ComponentRules.{components, equal_from, equal_where, equal_components, are_fields, equal_each, equal_where_fields, equal_fields}
use Rattle.ess_given_order_laws.specs.InOrder.{Ordered, AllOrdered, InOrder}
use Rattle.ess_given_order_laws.proofs.OrderOfFolds.{Answered, when}

module _ (u : Text → Bool) where
  abbrev A : Option Ex → Type 0
  A r = Answered u r

  -- ---- components

  nth-kept : (es : Exs) (k : ℕ) → AllOrdered u es false → A (nth es k)
  nth-kept no_exs k h = tt
  nth-kept (more_exs a es) zero h = tt
  nth-kept (more_exs a es) (suc zero) h = h.0
  nth-kept (more_exs a es) (suc (suc k)) h = nth-kept es (suc k) h.1

  pub component : (e : Ex) → Ordered u e → A (component_listed e)
  component (node_ex b (index (to_component k ∷ [])) (more_exs (node_ex false tuple_literal es) no_exs)) h = nth-kept es k h.0.1
  component _ h = tt

  field-kept : (fs : List Text) (es : Exs) (a : Text) → AllOrdered u es false → A (field_term fs es a)
  field-kept [] es a h = tt
  field-kept (f ∷ fs) no_exs a h = tt
  field-kept (f ∷ fs) (more_exs e es) a h = go (same_text f a) (field-kept fs es a h.1)
    where
      go : (b : Bool) → A (field_term fs es a) → A (if b then Some e else field_term fs es a)
      go true k = h.0
      go false k = k

  pub field : (e : Ex) → Ordered u e → A (field_listed e)
  field (node_ex b (index (to_field a ∷ [])) (more_exs (node_ex false (record_literal fs) es) no_exs)) h = field-kept fs es a h.0.1
  field _ h = tt

  -- ---- comparisons

  pub apart : (e : Ex) → Ordered u e → A (unequal e)
  apart (ex2 true Op2.Ne a b) h = (refl, ((refl, h), tt))
  apart _ h = tt

  pub turns : (e : Ex) → Ordered u e → A (included_turned e)
  turns (ex2 true Op2.SupsetEq a b) h = (refl, (h.1.0, (h.0, tt)))
  turns (ex2 true Op2.Supset a b) h = (refl, (h.1.0, (h.0, tt)))
  turns _ h = tt

  pub strict : (g : Names Ty) (x : Text) (e : Ex) → Ordered u e → A (included_strictly g x e)
  strict g x (ex2 true Op2.Subset a b) h = when u (both_sets (type_of a g) (type_of b g) || both_msets (type_of a g) (type_of b g)) _
      (refl, ((refl, h), ((refl, ((refl, (h.1.0, (h.0, tt))), tt)), tt)))
  strict g x _ h = tt

  equal-kept : (k : ℕ) (ts us : Tys) (a b : Ex) → InOrder u a → InOrder u b → InOrder u (equal_from k ts us a b)
  equal-kept k no_tys no_tys a b h j = (refl, tt)
  equal-kept k (more_tys t ts) (more_tys v us) a b h j =
      (refl, ((refl, ((refl, (h, tt)), ((refl, (j, tt)), tt))), (equal-kept (suc k) ts us a b h j, tt)))
  equal-kept k no_tys (more_tys v us) a b h j = (refl, tt)
  equal-kept k (more_tys t ts) no_tys a b h j = (refl, tt)

  pub tuples : (g : Names Ty) (x : Text) (e : Ex) → Ordered u e → A (equal_components g x e)
  tuples g x (ex2 true Op2.Eq a b) h = go (components (type_of a g)) (components (type_of b g))
    where
      go : (t v : Option Tys) → A (equal_where t v a b)
      go (Some ts) (Some us) = equal-kept 1 ts us a b h.0 h.1.0
      go None v = tt
      go (Some ts) None = tt
  tuples g x _ h = tt

  fields-kept : (fs : List Text) (ts us : Tys) (a b : Ex) → InOrder u a → InOrder u b → InOrder u (equal_each fs ts us a b)
  fields-kept (f ∷ fs) (more_tys t ts) (more_tys v us) a b h j =
      (refl, ((refl, ((refl, (h, tt)), ((refl, (j, tt)), tt))), (fields-kept fs ts us a b h j, tt)))
  fields-kept _ _ _ a b h j = (refl, tt)

  pub records : (g : Names Ty) (x : Text) (e : Ex) → Ordered u e → A (equal_fields g x e)
  records g x (ex2 true Op2.Eq a b) h = go (type_of a g) (type_of b g)
    where
      go : (t v : Option Ty) → A (equal_where_fields t v a b)
      go (Some (compound (a_record fs) ts)) (Some (compound (a_record gs) us)) =
          when u (same_texts fs gs && are_fields fs ts us) (equal_each fs ts us a b) (fields-kept fs ts us a b h.0 h.1.0)
      go _ _ = tt
  records g x _ h = tt
