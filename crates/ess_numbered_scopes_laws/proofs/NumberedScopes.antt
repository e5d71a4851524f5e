-- Rules of comprehensions over sources whose items are counted keep scopes.
use Rattle.std.proofs.Common.{◌≡◌, subst, Bool, true, false, ◌&&◌, not, if◌then◌else◌, [], ◌∷◌, Option, Some, None, option_map, is_some}
use Rattle.ess_semantics.specs.declared.words.Op2.{Op2}
use Rattle.ess_semantics.specs.Lists.{and_then, or_else}
use Rattle.ess_semantics.specs.Values.{Text, a_matrix}
use Rattle.ess_semantics.specs.Order.{same_text}
use Rattle.ess_semantics.specs.Names.{Names}
use Rattle.ess_semantics.specs.Trees.{by_value, index, name_pat, tuple_pat, Ex, node_ex, comp_ex, no_exs, more_exs, Gens, no_gens, over, from, cond, Dom, ex2}
use Rattle.ess_semantics.specs.Types.{Ty, compound2}
use Rattle.ess_semantics.specs.Typing.{type_of}
use Rattle.ess_semantics.specs.NamesAt.{names_behind}
use Rattle.ess_semantics.specs.Scoped.{with_names, Scoped, ScopedDom}
use Rattle.ess_semantics.specs.Substitution.{NamesAreDom}
use Rattle.ess_rules_laws.specs.FoldRules.{is_laid_open}
use Rattle.ess_rules_laws.specs.MatrixRules.{both_matrices}
use Rattle.ess_refine_laws.specs.AllRules.{Supply, OfSome}
use Rattle.ess_refine_laws.specs.IndexedLists.{of_matrix}
use Rattle.ess_refine_laws.specs.ScopesStay.{Scope}
use Rattle.ess_refine_laws.specs.ScopesOfRules.{BindsNone}
use Rattle.ess_numbered_laws.specs.MostItems.{most_items}
use Rattle.ess_numbered_laws.specs.CountedSources.{is_counted, numbered_items, numbered_source, numbered_behind, within_an_item, counted_list, numbered_side, sees_order, within_a_pair}
use Rattle.ess_numbered_laws.specs.EqualByNumber.{other_side, equal_as, equal_counted, equal_by_number}
use Rattle.ess_numbered_laws.specs.OrderByNumber.{lower_list, ordered_lists, with_items, counted_operand, order_by_number}
use Rattle.ess_numbered_laws.specs.NumberRules.{NumberRule, equality_of_lists, sign_between_lists, item_of_a_list, number_rewrite, side_of_a_pair, lists_of_what_is_picked}
use Rattle.ess_numbered_scopes_laws.specs.NumberedScopes.{ThreeNew, SideScoped, NumberScoped, DeclaredInScope, NumberRulesKeepScopes}
use Rattle.ess_numbered_scopes_laws.proofs.ScopesBehind.{InScope, under, IsClear, clear-behind}
use Rattle.ess_numbered_scopes_laws.proofs.ScopesMoved.{dom-behind}
use Rattle.ess_numbered_scopes_laws.proofs.MostScoped.{most-scoped}
use Rattle.ess_numbered_scopes_laws.proofs.PlainScoped.{Clear, NoneBound, plain-scoped}
use Rattle.ess_numbered_scopes_laws.proofs.ListedScopes.{picked-scoped}
use Rattle.ess_numbered_scopes_laws.proofs.ListsScoped.{within, items, lists-scoped, over-scoped, lower-scoped}

module _ (z : Text → Bool) (t : Supply) (g : Names Ty) where
  -- What is counted of the list.
  list-scoped : (u o : Text → Bool) → IsClear t.third z u → (a : Ex) → BindsNone (same_text t.third) a → Scoped z u o a →
      InScope z u o (counted_list t g a)
  list-scoped u o c (comp_ex e gs) b h = under z u o _ (most_items t.third (comp_ex e gs))
      (most-scoped z t.third [] (comp_ex e gs) u o c b h)
  list-scoped u o c _ b h = tt

  -- ---- an item of a list

  module _ (apart : same_text t.one t.other ≡ false) where
    at-source : (k : Names Ty) (e : Ex) (gs : Gens) → NoneBound z t t.one gs → NoneBound z t t.third gs → (u o : Text → Bool) →
        Clear z t u → Scoped z u o (comp_ex e gs) → InScope z u o (numbered_source t k (comp_ex e gs))
    at-source k e (from (name_pat y) a hs) b d u o c h = go (is_counted t k a) (most_items t.third a)
        (most-scoped z t.third [] a u o c.2 d.1 h.1)
      where
        listed : (n : Ex) → Scoped z u o n → (r : Option Ty) → InScope z u o
            (option_map (λ l. comp_ex e (from (name_pat y) l hs)) (of_matrix r (numbered_items t.one t.other a n)))
        listed n m (Some (compound2 a_matrix i v)) = (
          h.0,
          items z u o t.one t.other c.0.0 c.1.0 apart a n v m (within z u o t.one t.other c.0.0 c.1.0 apart a b.1 h.1),
          h.2,
        )
        listed n m _ = tt

        go : (p : Bool) (r : Option Ex) → InScope z u o r → InScope z u o (option_map (λ l. comp_ex e (from (name_pat y) l hs))
            (if p then and_then r (λ n. of_matrix (type_of a k) (numbered_items t.one t.other a n)) else None))
        go false r m = tt
        go true None m = tt
        go true (Some n) m = listed n m (type_of a k)
    at-source k e (from (tuple_pat ps) a hs) b d u o c h = tt
    at-source k e no_gens b d u o c h = tt
    at-source k e (over p a hs) b d u o c h = tt
    at-source k e (cond a hs) b d u o c h = tt

    behind-scoped : (u o : Text → Bool) → Clear z t u → (a : Ex) → BindsNone (same_text t.one) a → BindsNone (same_text t.other) a →
        BindsNone (same_text t.third) a → Scoped z u o a → InScope z u o (numbered_behind t g a)
    behind-scoped u o c (comp_ex e gs) b l d h = plain-scoped z t (λ ks. numbered_source t (names_behind ks g))
        (λ ks e gs b d. at-source (names_behind ks g) e gs b d) u o c (comp_ex e gs) b l d h
    behind-scoped u o c _ b l d h = tt

    item-scoped : (u o : Text → Bool) → Clear z t u → (e : Ex) → BindsNone (same_text t.one) e → BindsNone (same_text t.other) e →
        BindsNone (same_text t.third) e → Scoped z u o e → InScope z u o (within_an_item t g e)
    item-scoped u o c (node_ex b (index (by_value ∷ [])) (more_exs a (more_exs i no_exs))) p l d h =
        go (numbered_behind t g a) (behind-scoped u o c a p.0 l.0 d.0 h.0)
      where
        go : (r : Option Ex) → InScope z u o r →
            InScope z u o (option_map (λ f. node_ex b (index (by_value ∷ [])) (more_exs f (more_exs i no_exs))) r)
        go None k = tt
        go (Some f) k = (k, h.1)
    item-scoped u o c _ p l d h = tt

    -- ---- a side

    side-scoped : (u o : Text → Bool) → Clear z t u → (a : Ex) → BindsNone (same_text t.one) a → BindsNone (same_text t.other) a →
        BindsNone (same_text t.third) a → Scoped z u o a → InScope z u o (numbered_side t g a)
    side-scoped u o c a p l d h = go (is_some (most_items t.third a))
      where
        go : (b : Bool) → InScope z u o (if b then None else numbered_behind t g a)
        go true = tt
        go false = behind-scoped u o c a p l d h

    pair-scoped : (u o : Text → Bool) → Clear z t u → (e : Ex) → BindsNone (same_text t.one) e → BindsNone (same_text t.other) e →
        BindsNone (same_text t.third) e → Scoped z u o e → InScope z u o (within_a_pair t g e)
    pair-scoped u o c (ex2 true w a b) p l d h = go (sees_order w) (numbered_side t g a) (numbered_side t g b)
        (side-scoped u o c a p.0 l.0 d.0 h.0) (side-scoped u o c b p.1.0 l.1.0 d.1.0 h.1.0)
      where
        go : (v : Bool) (r q : Option Ex) → InScope z u o r → InScope z u o q →
            InScope z u o (if v then or_else (option_map (λ f. ex2 true w f b) r) (option_map (λ f. ex2 true w a f) q) else None)
        go false r q k m = tt
        go true (Some f) q k m = (k, h.1)
        go true None (Some f) k m = (h.0, (m, tt))
        go true None None k m = tt
    pair-scoped u o c _ p l d h = tt

  -- ---- comparisons

  either : (u o : Text → Bool) (r q : Option Ex) → InScope z u o r → InScope z u o q → InScope z u o (or_else r q)
  either u o None q h k = k
  either u o (Some f) q h k = h

  module _ (s : Scope) (e : Ex) (w : DeclaredInScope z s) (new : ThreeNew t s e) where
    third : IsClear t.third z s.all
    third = (new.2.0, w)

    -- A side of a pair, behind the name for numbers too.
    behind : (a : Ex) → BindsNone (same_text t.one) a → Scoped z s.all s.over_domains a →
        Scoped z (with_names s.all (name_pat t.one)) (with_names s.over_domains (name_pat t.one)) a
    behind a b h = within z s.all s.over_domains t.one t.other new.0.0 new.1.0 new.3 a b h

    one-way : (a b : Ex) → BindsNone (same_text t.one) a → BindsNone (same_text t.one) b → BindsNone (same_text t.third) a →
        SideScoped z t s b → Scoped z s.all s.over_domains a → Scoped z s.all s.over_domains b →
        InScope z s.all s.over_domains (equal_counted t g a b)
    one-way a b na nb d f h k =
        go (counted_list t g a) (list-scoped s.all s.over_domains third a d h) (other_side b) f
      where
        made : (n : Ex) → Scoped z s.all s.over_domains n → (r : Option Dom) →
            OfSome r (λ c. ScopedDom z s.all s.over_domains c × NamesAreDom (λ a. true) (λ a. not (same_text t.one a)) c) → (p q : Ty) →
            Scoped z s.all s.over_domains (equal_as r t.one t.other n a b p q)
        made n m None l p q = lists-scoped z s.all s.over_domains t.one t.other new.0.0 new.1.0 new.3 n a b p q m h k (behind a na h)
            (behind b nb k)
        made n m (Some c) l p q = over-scoped z s.all s.over_domains t.one t.other new.0.0 new.1.0 new.3 n a b p q m h k (behind a na h)
            (behind b nb k) c l.0 (dom-behind t.one z s.all s.over_domains c l.1 l.0)

        typed : (n : Ex) → Scoped z s.all s.over_domains n → (r : Option Dom) →
            OfSome r (λ c. ScopedDom z s.all s.over_domains c × NamesAreDom (λ a. true) (λ a. not (same_text t.one a)) c) →
            (v y : Option Ty) → InScope z s.all s.over_domains (both_matrices v y (equal_as r t.one t.other n a b))
        typed n m r l (Some (compound2 a_matrix i p)) (Some (compound2 a_matrix j q)) = made n m r l p q
        typed n m r l _ _ = tt

        go : (c : Option Ex) → InScope z s.all s.over_domains c → (r : Option (Option Dom)) → OfSome r (λ y. OfSome y
            (λ c. ScopedDom z s.all s.over_domains c × NamesAreDom (λ a. true) (λ a. not (same_text t.one a)) c)) →
            InScope z s.all s.over_domains
            (and_then c (λ n. and_then r (λ y. both_matrices (type_of a g) (type_of b g) (equal_as y t.one t.other n a b))))
        go None m r l = tt
        go (Some n) m None l = tt
        go (Some n) m (Some y) l = typed n m y l (type_of a g) (type_of b g)

    -- The first list is the lower one.
    lower : (p : Op2) (n a b : Ex) (v y : Ty) → BindsNone (same_text t.one) a → BindsNone (same_text t.one) b →
        BindsNone (same_text t.other) a → BindsNone (same_text t.other) b → Scoped z s.all s.over_domains a →
        Scoped z s.all s.over_domains b → Scoped z s.all s.over_domains n →
        Scoped z (with_names s.all (name_pat t.one)) (with_names s.over_domains (name_pat t.one)) n →
        Scoped z s.all s.over_domains (lower_list p t.one t.other n a b v y)
    lower p n a b v y na nb oa ob h k m l = lower-scoped z s.all s.over_domains t.one t.other new.0.0 new.1.0 new.3 n a b v y m h k
        (behind a na h) (behind b nb k) oa ob l p

  equality-scoped : (s : Scope) (e : Ex) → DeclaredInScope z s → ThreeNew t s e → NumberScoped z t s equality_of_lists e →
      Scoped z s.all s.over_domains e → InScope z s.all s.over_domains (equal_by_number t g e)
  equality-scoped s (ex2 true Op2.Eq a b) w n f h =
      either s.all s.over_domains (equal_counted t g a b) (equal_counted t g b a)
      (one-way s (ex2 true Op2.Eq a b) w n a b n.0.1.0 n.0.1.1.0 n.2.1.0 f.1 h.0 h.1.0)
      (one-way s (ex2 true Op2.Eq a b) w n b a n.0.1.1.0 n.0.1.0 n.2.1.1.0 f.0 h.1.0 h.0)
  equality-scoped s _ w n f h = tt

  sign-scoped : (s : Scope) (e : Ex) → DeclaredInScope z s → ThreeNew t s e → Scoped z s.all s.over_domains e →
      InScope z s.all s.over_domains (order_by_number t g e)
  sign-scoped s (ex2 true o a b) w n h =
      go (counted_operand t g a b) (operand s.all s.over_domains (n.2.0, w) h.0 h.1.0)
      (operand (with_names s.all (name_pat t.one)) (with_names s.over_domains (name_pat t.one))
      (clear-behind t.third z s.all (name_pat t.one) n.4 (n.2.0, w)) (behind s (ex2 true o a b) w n a n.0.1.0 h.0)
      (behind s (ex2 true o a b) w n b n.0.1.1.0 h.1.0))
    where
      operand : (u i : Text → Bool) → IsClear t.third z u → Scoped z u i a → Scoped z u i b → InScope z u i (counted_operand t g a b)
      operand u i c k l = under z u i (is_laid_open a && is_laid_open b) (or_else (counted_list t g a) (counted_list t g b))
          (either u i (counted_list t g a) (counted_list t g b) (list-scoped u i c a n.2.1.0 k) (list-scoped u i c b n.2.1.1.0 l))

      signed : (p : Op2) (m : Ex) → Scoped z s.all s.over_domains m →
          Scoped z (with_names s.all (name_pat t.one)) (with_names s.over_domains (name_pat t.one)) m → (v y : Ty) →
          InScope z s.all s.over_domains (ordered_lists p t.one t.other m a b v y)
      signed Op2.LexLt m k l v y =
          lower s (ex2 true o a b) w n Op2.Lt m a b v y n.0.1.0 n.0.1.1.0 n.1.1.0 n.1.1.1.0 h.0 h.1.0 k l
      signed Op2.LexLe m k l v y =
          lower s (ex2 true o a b) w n Op2.Le m a b v y n.0.1.0 n.0.1.1.0 n.1.1.0 n.1.1.1.0 h.0 h.1.0 k l
      signed Op2.LexGt m k l v y =
          lower s (ex2 true o a b) w n Op2.Lt m b a y v n.0.1.1.0 n.0.1.0 n.1.1.1.0 n.1.1.0 h.1.0 h.0 k l
      signed Op2.LexGe m k l v y =
          lower s (ex2 true o a b) w n Op2.Le m b a y v n.0.1.1.0 n.0.1.0 n.1.1.1.0 n.1.1.0 h.1.0 h.0 k l
      signed _ m k l v y = tt

      typed : (m : Ex) → Scoped z s.all s.over_domains m →
          Scoped z (with_names s.all (name_pat t.one)) (with_names s.over_domains (name_pat t.one)) m → (v y : Option Ty) →
          InScope z s.all s.over_domains (with_items v y (ordered_lists o t.one t.other m a b))
      typed m k l (Some (compound2 a_matrix i v)) (Some (compound2 a_matrix j y)) = signed o m k l v y
      typed m k l _ _ = tt

      go : (r : Option Ex) → InScope z s.all s.over_domains r →
          InScope z (with_names s.all (name_pat t.one)) (with_names s.over_domains (name_pat t.one)) r →
          InScope z s.all s.over_domains (and_then r (λ m. with_items (type_of a g) (type_of b g) (ordered_lists o t.one t.other m a b)))
      go None k l = tt
      go (Some m) k l = typed m k l (type_of a g) (type_of b g)
  sign-scoped s _ w n h = tt

  -- ---- each rule

  each-scoped : (r : NumberRule) (s : Scope) (e : Ex) → DeclaredInScope z s → ThreeNew t s e → NumberScoped z t s r e →
      Scoped z s.all s.over_domains e → InScope z s.all s.over_domains (number_rewrite t g r e)
  each-scoped equality_of_lists s e w n f h = equality-scoped s e w n f h
  each-scoped sign_between_lists s e w n f h = sign-scoped s e w n h
  each-scoped item_of_a_list s e w n f h =
      item-scoped n.3 s.all s.over_domains ((n.0.0, w), (n.1.0, w), (n.2.0, w)) e n.0.1 n.1.1 n.2.1 h
  each-scoped side_of_a_pair s e w n f h =
      pair-scoped n.3 s.all s.over_domains ((n.0.0, w), (n.1.0, w), (n.2.0, w)) e n.0.1 n.1.1 n.2.1 h
  each-scoped lists_of_what_is_picked s e w n f h =
      picked-scoped z t g s.all s.over_domains ((n.0.0, w), (n.1.0, w), (n.2.0, w)) e n.0.1 n.1.1 n.2.1 h

pub number-rules-keep-scopes : NumberRulesKeepScopes
number-rules-keep-scopes z t g r s e f q w n k h =
    subst (λ o. InScope z s.all s.over_domains o) q (each-scoped z t g r s e w n k h)
