-- Which of the reserved names that a rule of comprehensions whose items have an order takes are fixed; so assigned they are as it asks, and
-- sources are.
use Rattle.std.proofs.Common.{◌≡◌, sym, ◌∙◌, subst, ℕ, ◌+◌, Bool, true, false, if◌then◌else◌, ◌∷◌, length, Option, Some, None}
use Rattle.ess_semantics.specs.Values.{Text}
use Rattle.ess_semantics.specs.Names.{Names}
use Rattle.ess_semantics.specs.Trees.{name_pat, tuple_pat, Ex, comp_ex, Gens, no_gens, over, from, cond, fun1}
use Rattle.ess_semantics.specs.Types.{Ty}
use Rattle.ess_refine_laws.specs.AllRules.{Supply, OfSome}
use Rattle.ess_chain_names_laws.specs.Steps.{supply_at}
use Rattle.ess_open_rules_laws.specs.OpenGenerators.{Opened, at_first_open}
use Rattle.ess_ordered_laws.specs.NumberedItems.{ordered_lookup}
use Rattle.ess_ordered_laws.specs.OrderedRules.{OrderedRule, an_item, of_an_item, source_by_indices, source_of_an_item}
use Rattle.ess_given_laws.specs.PartsHave.{PartsHave, GensHave}
use Rattle.ess_given_laws.specs.Given.{is_fixed}
use Rattle.ess_given_laws.proofs.FixedTrees.{fixed, fixed-has, has-fixed}
use Rattle.ess_given_conditions_laws.proofs.Assigned.{Assigned}
use Rattle.ess_given_ordered_laws.specs.ess_given_opened_laws.OpenedStays.{EachAs}
use Rattle.ess_given_ordered_laws.proofs.ess_given_opened_laws.PartsOfOpenings.{OpenedHas, opened-has}
use Rattle.ess_given_ordered_laws.specs.OrderedNames.{OfEither, rewritten_operand, AtSource, ItemNames, TermNames, CountKept, ItemSourceNames, ItemSourceKept, SourceItemNames, NewOrdered}
use Rattle.ess_given_ordered_laws.proofs.PartsOfOperands.{rewritten-has}
use Rattle.ess_given_rulings_laws.specs.OrderedSteps.{CountsKept, ItemKept, SourcesKept}
use Rattle.ess_given_rulings_laws.proofs.Roles.{same, same-length, outs, outs-length, Roles, all_alike, same-names, all-names, along-names, NamesAs}
use Rattle.ess_given_rulings_laws.proofs.NamesServe.{fixed-alike}

-- ---- roles

module _ (z : Text → Bool) (s : Supply) (k : ℕ) where
  -- Where a term is picked out of an item, in a root that is fixed or isn't.
  abbrev pub item_roles : Bool → Ex → Roles
  item_roles b t = record { one = b; other = true; third = true; parts = if is_fixed z t then same true k else outs k t }

  -- At a source that is picked, out of an item or not.
  abbrev pub picked_source_roles : {X : Type 0} → Bool → Ex → Option X → Roles
  picked_source_roles b t None = record { one = b; other = is_fixed z t; third = is_fixed z t; parts = same (is_fixed z t) k }
  picked_source_roles b t (Some l) = record (item_roles b t) { other = is_fixed z t }

  -- At a term at which a root is rewritten.
  abbrev pub term_roles : Bool → Ex → Roles
  term_roles b (comp_ex e (from (name_pat y) t hs)) = picked_source_roles b t (ordered_lookup s.third s.parts t)
  term_roles b t = item_roles b t

  -- At an operand, if there is one.
  abbrev pub operand_roles : Bool → Option Ex → Roles
  operand_roles b None = all_alike b k
  operand_roles b (Some t) = term_roles b t

  -- At a source that is an item, and behind the plain generators.
  abbrev pub item_source_roles : Gens → Roles
  item_source_roles (from (name_pat y) t hs) = record (item_roles (is_fixed z t) t) { other = is_fixed z t }
  item_source_roles gs = all_alike false k

  abbrev pub behind_roles : Option Opened → Roles
  behind_roles None = all_alike false k
  behind_roles (Some t) = item_source_roles t.after

  abbrev pub source_item_roles : Ex → Roles
  source_item_roles (fun1 m f (comp_ex e gs)) = behind_roles (at_first_open gs)
  source_item_roles (comp_ex e gs) = behind_roles (at_first_open gs)
  source_item_roles e = all_alike false k

  -- Of each rule.
  abbrev pub ordered_roles : Names Ty → OrderedRule → Ex → Roles
  ordered_roles g an_item e = term_roles (is_fixed z e) e
  ordered_roles g of_an_item e = operand_roles (is_fixed z e) (rewritten_operand s g e)
  ordered_roles g source_by_indices e = all_alike true k
  ordered_roles g source_of_an_item e = source_item_roles e

  -- There are as many as names.
  item-number : (b : Bool) (t : Ex) → length (item_roles b t).parts ≡ k
  item-number b t = go (is_fixed z t)
    where
      go : (c : Bool) → length (if c then same true k else outs k t) ≡ k
      go true = same-length true k
      go false = outs-length k t

  picked-source-number : {X : Type 0} (b : Bool) (t : Ex) (o : Option X) → length (picked_source_roles b t o).parts ≡ k
  picked-source-number b t None = same-length (is_fixed z t) k
  picked-source-number b t (Some l) = item-number b t

  term-number : (b : Bool) (t : Ex) → length (term_roles b t).parts ≡ k
  term-number b (comp_ex e (from (name_pat y) t hs)) = picked-source-number b t (ordered_lookup s.third s.parts t)
  term-number b t = item-number b t

  operand-number : (b : Bool) (o : Option Ex) → length (operand_roles b o).parts ≡ k
  operand-number b None = same-length b k
  operand-number b (Some t) = term-number b t

  item-source-number : (gs : Gens) → length (item_source_roles gs).parts ≡ k
  item-source-number (from (name_pat y) t hs) = item-number (is_fixed z t) t
  item-source-number (from (tuple_pat ps) t hs) = same-length false k
  item-source-number no_gens = same-length false k
  item-source-number (over p d hs) = same-length false k
  item-source-number (cond c hs) = same-length false k

  behind-number : (o : Option Opened) → length (behind_roles o).parts ≡ k
  behind-number None = same-length false k
  behind-number (Some t) = item-source-number t.after

  source-item-number : (e : Ex) → length (source_item_roles e).parts ≡ k
  source-item-number (fun1 m f (comp_ex e gs)) = behind-number (at_first_open gs)
  source-item-number (comp_ex e gs) = behind-number (at_first_open gs)
  source-item-number _ = same-length false k

  pub ordered-number : (g : Names Ty) (r : OrderedRule) (e : Ex) → length (ordered_roles g r e).parts ≡ k
  ordered-number g an_item e = term-number (is_fixed z e) e
  ordered-number g of_an_item e = operand-number (is_fixed z e) (rewritten_operand s g e)
  ordered-number g source_by_indices e = same-length true k
  ordered-number g source_of_an_item e = source-item-number e

-- ---- names that are assigned

-- z are names that are fixed, v these with new ones, and w has the names of the tree, none of which is new.
module _ (z v w : Text → Bool) (more : (a : Text) → z a ≡ true → v a ≡ true) (same-there : (a : Text) → w a ≡ true → v a ≡ z a)
    (n k : ℕ) where
  abbrev s : Supply
  s = supply_at n k

  alike : (e : Ex) → is_fixed w e ≡ true → is_fixed v e ≡ is_fixed z e
  alike e h = fixed-alike z v w more same-there n k e h

  -- The truth values of names by whether the term is fixed.
  abbrev PartsAs : Bool → Ex → Type 0
  PartsAs c t = Assigned v (n + 3) (if c then same true k else outs k t)

  parts-as : (t : Ex) (c : Bool) → is_fixed z t ≡ c → PartsAs (is_fixed z t) t → PartsAs c t
  parts-as t c f a = subst (λ c. PartsAs c t) f a

  item-serves : (t : Ex) → is_fixed w t ≡ true → v s.third ≡ true → PartsAs (is_fixed z t) t → ItemNames v s t
  item-serves t h i a = record {
    third = i;
    where_fixed = λ f. all-names v (n + 3) k (parts-as t true (sym (alike t h) ∙ f) a);
    else_along = λ f. along-names v (n + 3) k t (parts-as t false (sym (alike t h) ∙ f) a);
  }

  picked-source-serves : {X : Type 0} (b : Bool) (t : Ex) → is_fixed w t ≡ true → (o : Option X) →
      NamesAs v n k (picked_source_roles z s k b t o) →
      (v s.other ≡ is_fixed v t) × OfEither o (EachAs v (is_fixed v t) (s.third ∷ s.parts)) (λ l. ItemNames v s t)
  picked-source-serves b t h None a = (
    a.other ∙ sym (alike t h),
    subst (λ c. EachAs v c (s.third ∷ s.parts)) (sym (alike t h)) (a.third, same-names v (is_fixed z t) (n + 3) k a.parts),
  )
  picked-source-serves b t h (Some l) a = (a.other ∙ sym (alike t h), item-serves t h a.third a.parts)

  term-serves : (b : Bool) (t : Ex) → PartsHave (fixed w) t → NamesAs v n k (term_roles z s k b t) → TermNames v s t
  term-serves b (comp_ex e (from (name_pat y) t hs)) h a =
      picked-source-serves b t (has-fixed w t h.1.1) (ordered_lookup s.third s.parts t) a
  term-serves b t h a = item-serves t (has-fixed w t h) a.third a.parts

  operand-serves : (b : Bool) (o : Option Ex) → OfSome o (PartsHave (fixed w)) → NamesAs v n k (operand_roles z s k b o) →
      OfSome o (TermNames v s)
  operand-serves b None h a = tt
  operand-serves b (Some t) h a = term-serves b t h a

  picked-source-one : {X : Type 0} (b : Bool) (t : Ex) (o : Option X) → NamesAs v n k (picked_source_roles z s k b t o) → v s.one ≡ b
  picked-source-one b t None a = a.one
  picked-source-one b t (Some l) a = a.one

  term-one : (b : Bool) (t : Ex) → NamesAs v n k (term_roles z s k b t) → v s.one ≡ b
  term-one b (comp_ex e (from (name_pat y) t hs)) a = picked-source-one b t (ordered_lookup s.third s.parts t) a
  term-one b t a = a.one

  operand-one : (b : Bool) (o : Option Ex) → NamesAs v n k (operand_roles z s k b o) → v s.one ≡ b
  operand-one b None a = a.one
  operand-one b (Some t) a = term-one b t a

  -- ---- sources

  item-source-serves : (hs : Gens) → GensHave (fixed w) hs → NamesAs v n k (item_source_roles z s k hs) → ItemSourceNames v s hs
  item-source-serves (from (name_pat y) t hs) h a = let q = has-fixed w t h.1 in
      (a.other ∙ sym (alike t q), item-serves t q a.third a.parts)
  item-source-serves (from (tuple_pat ps) t hs) h a = tt
  item-source-serves no_gens h a = tt
  item-source-serves (over p d hs) h a = tt
  item-source-serves (cond c hs) h a = tt

  item-kept-serves : (hs : Gens) → GensHave (fixed w) hs → ItemKept z n k v hs → NamesAs v n k (item_source_roles z s k hs) →
      ItemSourceKept v s hs
  item-kept-serves (from (name_pat y) t hs) h p a = λ f. let q = sym (alike t (has-fixed w t h.1)) ∙ f in
      p q a.third (along-names v (n + 3) k t (parts-as t false q a.parts))
  item-kept-serves (from (tuple_pat ps) t hs) h p a = tt
  item-kept-serves no_gens h p a = tt
  item-kept-serves (over r d hs) h p a = tt
  item-kept-serves (cond c hs) h p a = tt

  count-serves : (hs : Gens) → GensHave (fixed w) hs → CountsKept z v hs → CountKept v hs
  count-serves (from (name_pat y) t hs) h p = λ f. p (sym (alike t (has-fixed w t h.1)) ∙ f)
  count-serves (from (tuple_pat ps) t hs) h p = tt
  count-serves no_gens h p = tt
  count-serves (over r d hs) h p = tt
  count-serves (cond c hs) h p = tt

  names-behind : (o : Option Opened) → OpenedHas (fixed w) o → NamesAs v n k (behind_roles z s k o) →
      OfSome o (λ t. ItemSourceNames v s t.after)
  names-behind None h a = tt
  names-behind (Some t) h a = item-source-serves t.after h.1 a

  kept-behind : (o : Option Opened) → OpenedHas (fixed w) o → OfSome o (λ t. ItemKept z n k v t.after) →
      NamesAs v n k (behind_roles z s k o) → OfSome o (λ t. ItemSourceKept v s t.after)
  kept-behind None h p a = tt
  kept-behind (Some t) h p a = item-kept-serves t.after h.1 p a

  source-item-serves : (e : Ex) → PartsHave (fixed w) e → AtSource (ItemKept z n k v) e → NamesAs v n k (source_item_roles z s k e) →
      SourceItemNames v s e
  source-item-serves (fun1 m f (comp_ex e gs)) h p a = names-behind (at_first_open gs) (opened-has (fixed w) gs h.0.1) a
  source-item-serves (comp_ex e gs) h p a = let o = opened-has (fixed w) gs h.1 in
      (names-behind (at_first_open gs) o a, kept-behind (at_first_open gs) o p a)
  source-item-serves _ h p a = tt

  counts-serve : (e : Ex) → PartsHave (fixed w) e → AtSource (CountsKept z v) e → AtSource (CountKept v) e
  counts-serve (comp_ex e gs) h p = go (at_first_open gs) (opened-has (fixed w) gs h.1) p
    where
      go : (o : Option Opened) → OpenedHas (fixed w) o → OfSome o (λ t. CountsKept z v t.after) → OfSome o (λ t. CountKept v t.after)
      go None h p = tt
      go (Some t) h p = count-serves t.after h.1 p
  counts-serve _ h p = tt

  -- Of each rule.
  pub ordered-serve : (g : Names Ty) (r : OrderedRule) (e : Ex) → is_fixed w e ≡ true → SourcesKept z n k v r e →
      NamesAs v n k (ordered_roles z s k g r e) → NewOrdered v s g r e
  ordered-serve g an_item e h p a =
      (term-one (is_fixed z e) e a ∙ sym (alike e h), term-serves (is_fixed z e) e (fixed-has w e h) a)
  ordered-serve g of_an_item e h p a = (
    operand-one (is_fixed z e) (rewritten_operand s g e) a ∙ sym (alike e h),
    operand-serves (is_fixed z e) (rewritten_operand s g e) (rewritten-has (fixed w) s g e (fixed-has w e h)) a,
  )
  ordered-serve g source_by_indices e h p a = (a.one, counts-serve e (fixed-has w e h) p)
  ordered-serve g source_of_an_item e h p a = source-item-serves e (fixed-has w e h) p a
