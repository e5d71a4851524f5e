-- Rules of comprehensions whose items have an order keep what they rewrite, where there are values.
use Rattle.std.proofs.Common.{◌≡◌, refl, Bool, true, false, if◌then◌else◌, List, Option, Some, None, option_map}
use Rattle.std.specs.Prelude.{IsTrue, is_some}
use Rattle.ess_semantics.specs.Lists.{and_then, or_else}
use Rattle.ess_semantics.specs.Names.{Names}
use Rattle.ess_semantics.specs.Trees.{word, name_pat, Ex, comp_ex, fun1, Gens, from}
use Rattle.ess_semantics.specs.Types.{Ty}
use Rattle.ess_semantics.specs.Typed.{Typed}
use Rattle.ess_semantics.specs.ExpressionJudgements.{forgets_order}
use Rattle.ess_semantics.specs.NamesAt.{names_behind}
use Rattle.ess_semantics.specs.Contexts.{AtEach}
use Rattle.ess_semantics.specs.Meaning.{Env}
use Rattle.ess_semantics.specs.Meets.{Meets, MeetsGens}
use Rattle.ess_semantics.specs.Kept.{Keeps}
use Rattle.ess_rules_laws.specs.Listings.{Alternative}
use Rattle.ess_rules_laws.specs.AlternativeLookups.{select_whole_each}
use Rattle.ess_rules_laws.proofs.Places.{at-each-join}
use Rattle.ess_refine_laws.specs.AllRules.{Supply, OfSome, only_one}
use Rattle.ess_values_along_laws.specs.Valued.{Valued, UnderValued}
use Rattle.ess_values_terms_laws.proofs.ValuedForms.{there}
use Rattle.ess_counted_more_laws.proofs.MoreCounted.{on}
use Rattle.ess_open_rules_laws.specs.OpenGenerators.{Opened, at_first_open, put_before}
use Rattle.ess_open_rules_laws.specs.OpenRules.{gives_scalar}
use Rattle.ess_open_counted_laws.specs.PicksBeside.{RootTyped}
use Rattle.ess_open_counted_laws.proofs.PlainBindings.{Here, at-plain}
use Rattle.ess_ordered_laws.specs.NumberedItems.{ordered_lookup}
use Rattle.ess_ordered_laws.specs.SourcesOfItems.{may_be_taken, over_the_item, item_source, item_behind}
use Rattle.ess_ordered_laws.specs.OrderedRules.{an_item, of_an_item, source_by_indices, source_of_an_item, item_alone, at_operand, ordered_rewrite}
use Rattle.ess_ordered_kept_laws.specs.OrderedAsks.{BehindAsks, ItemAsks, ItemBehindAsks}
use Rattle.ess_ordered_kept_laws.proofs.OperandLookups.{chosen-is}
use Rattle.ess_ordered_kept_laws.proofs.OrderedRulesKeep.{ordered-rules-keep}
use Rattle.ess_ordered_counted_laws.specs.OrderedCounted.{OrderedLookupBeside, ItemBeside, ItemBehindBeside, OrdersAreCountedOn}
use Rattle.ess_ordered_counted_laws.proofs.OrderedLookupsCounted.{ordered-asked}
use Rattle.ess_ordered_counted_laws.proofs.ItemsCounted.{item-keeps, at-keeps}

module _ (s : Supply) (g : Names Ty) (env : Env) (typed : Typed g env) where
  -- ---- items

  alone : (e f : Ex) → item_alone s g e ≡ Some f → OrderedLookupBeside s.third s.parts e → RootTyped g e → (w : Bool) → Valued w e env →
      Keeps e f env
  alone e f q c r w v = go (ordered_lookup s.third s.parts e) refl q
    where
      go : (o : Option (List Alternative)) → ordered_lookup s.third s.parts e ≡ o →
          and_then o (λ l. if gives_scalar g e then select_whole_each s.one l e else None) ≡ Some f → Keeps e f env
      go None p q = cc
      go (Some l) p q = item-keeps g env typed s.one s.third s.parts e f l r c w v p
          (chosen-is (gives_scalar g e) (select_whole_each s.one l e) f q)

  -- The first of two operands.
  either : (e f : Ex) → (o p : Option Ex) → or_else o p ≡ Some f → (o ≡ Some f → Keeps e f env) → (p ≡ Some f → Keeps e f env) →
      Keeps e f env
  either e f None p q h k = k q
  either e f (Some x) p q h k = h q

  is-there : (o : Option Ex) (f : Ex) → o ≡ Some f → IsTrue (is_some o)
  is-there None f q = cc
  is-there (Some x) f q = refl

-- ---- a source that is an item

-- It has what it asks, since its lookup fires.
item-fires : (s : Supply) (any : Bool) (x f : Ex) (gs : Gens) (env : Env) → item_source s any (comp_ex x gs) ≡ Some f →
    ItemBeside s (comp_ex x gs) env → (P : Env → Type 0) → UnderValued gs env P → ItemAsks s (comp_ex x gs) env
item-fires s any x f (from (name_pat y) t hs) env q c P v = go (ordered_lookup s.third s.parts t) refl q
  where
    go : (o : Option (List Alternative)) → ordered_lookup s.third s.parts t ≡ o →
        and_then (only_one o) (λ a. if may_be_taken any a then Some (over_the_item s.other y x hs a) else None) ≡ Some f →
        ItemAsks s (comp_ex x (from (name_pat y) t hs)) env
    go None p q = cc
    go (Some l) p q = (c.0, c.1, there t env v.0, ordered-asked env s.third s.parts t l p c.1 false v.0 c.2)
item-fires s any x f _ env q c P v = cc

module _ (s : Supply) (g : Names Ty) (env : Env) (typed : Typed g env) where
  behind-asked : (any : Bool) (e : Ex) (gs : Gens) (f : Ex) → item_behind s any (comp_ex e gs) ≡ Some f →
      BehindAsks (λ ks. ItemBeside s) (comp_ex e gs) env → UnderValued gs env (λ here. Valued false e here) →
      MeetsGens gs env (λ here. Meets e here) → BehindAsks (λ ks. ItemAsks s) (comp_ex e gs) env
  behind-asked any e gs f q c v m = go (at_first_open gs) refl q c
    where
      V : Env → Type 0
      V here = Valued false e here

      M : Env → Type 0
      M here = Meets e here

      put : (t : Opened) → at_first_open gs ≡ Some t → (o : Option Ex) → item_source s any (comp_ex e t.after) ≡ o →
          and_then o (put_before t.before) ≡ Some f → AtEach t.before env (ItemBeside s (comp_ex e t.after)) →
          AtEach t.before env (ItemAsks s (comp_ex e t.after))
      put t a None k q c = cc
      put t a (Some x) k q c = at-each-join t.before env (Here t.after (names_behind t.before g) V M) (ItemBeside s (comp_ex e t.after))
          (ItemAsks s (comp_ex e t.after)) (λ here h c. item-fires s any e x t.after here k c V h.under)
          (at-plain gs t a g env typed V M v m) c

      go : (o : Option Opened) → at_first_open gs ≡ o →
          and_then o (λ t. and_then (item_source s any (comp_ex e t.after)) (put_before t.before)) ≡ Some f →
          OfSome o (λ t. AtEach t.before env (ItemBeside s (comp_ex e t.after))) →
          OfSome o (λ t. AtEach t.before env (ItemAsks s (comp_ex e t.after)))
      go None a q c = cc
      go (Some t) a q c = put t a (item_source s any (comp_ex e t.after)) refl q c

  item-asked : (w : Bool) (e f : Ex) → ordered_rewrite s g source_of_an_item e ≡ Some f → ItemBehindBeside s e env → Valued w e env →
      Meets e env → ItemBehindAsks s e env
  item-asked w (fun1 b h (comp_ex e gs)) f q c v m = go (item_behind s true (comp_ex e gs)) refl
      (chosen-is (forgets_order (word h)) (option_map (fun1 b h) (item_behind s true (comp_ex e gs))) f q)
    where
      k : Valued false (comp_ex e gs) env
      k = on g env typed b w h (comp_ex e gs) v

      go : (o : Option Ex) → item_behind s true (comp_ex e gs) ≡ o → option_map (fun1 b h) o ≡ Some f →
          BehindAsks (λ ks. ItemAsks s) (comp_ex e gs) env
      go None p q = cc
      go (Some x) p q = behind-asked true e gs x p c k.1 m.0
  item-asked w (comp_ex e gs) f q c v m = behind-asked false e gs f q c v.1 m
  item-asked w _ f q c v m = cc

-- ---- each rule

-- What is proved of these rules.
pub orders-are-counted-on : OrdersAreCountedOn
orders-are-counted-on s g an_item e f q env t c w v = alone s g env t e f q c.0 c.1 w v
orders-are-counted-on s g of_an_item e f q env t c w v = either s g env t e f (at_operand s g 1 e) (at_operand s g 2 e) q
    (λ p. at-keeps s g env t 1 e f p c.0 c.1 (c.2 (is-there s g env t (at_operand s g 1 e) f p)) w v)
    (λ p. at-keeps s g env t 2 e f p c.0 c.1 (c.3 (is-there s g env t (at_operand s g 2 e) f p)) w v)
orders-are-counted-on s g source_by_indices e f q env t c w v = ordered-rules-keep s g source_by_indices e f q env c
orders-are-counted-on s g source_of_an_item e f q env t c w v =
    λ m. ordered-rules-keep s g source_of_an_item e f q env (item-asked s g env t w e f q c v m) m
