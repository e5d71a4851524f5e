-- None of the rules of a list fires: by each of them, and by the lists that it is made of.
use Rattle.std.proofs.Common.{◌≡◌, ◌∙◌, subst, Bool, true, false, if◌then◌else◌, List, [], ◌∷◌, ◌++◌, map, Option, Some, None}
use Rattle.std.specs.Prelude.{option_map}
use Rattle.ess_semantics.specs.Lists.{append_all}
use Rattle.ess_semantics.specs.Names.{Names}
use Rattle.ess_semantics.specs.Trees.{Ex}
use Rattle.ess_semantics.specs.Types.{Ty}
use Rattle.ess_core_nodes.specs.declared.nodes.Node.{Node}
use Rattle.ess_core_nodes.specs.NodeViews.{pure_node}
use Rattle.ess_refine_laws.specs.AllRules.{Supply}
use Rattle.ess_open_rules_laws.specs.OpenRules.{KindRuling}
use Rattle.ess_kind_rules.specs.Kinds.{NoneOfKinds, IsOfKind}
use Rattle.ess_kind_rules.specs.AskedKinds.{views_asked, tests_asked, view_sizes_asked, picks_asked, folds_behind_asked}
use Rattle.ess_kind_rules.proofs.NoneOfKinds.{none_fires}
use Rattle.ess_rules.specs.Ruled.{
  Ruling,
  by_kind,
  ruled,
  folds_asked,
  ordered_asked,
  numbered_asked,
  terms_asked,
  comparing_asked,
  equality_asked,
  membership_asked,
  sizes_asked,
  lists_asked,
  conditions_asked,
  first_asked,
  later_asked,
  NoneOf,
}
use Rattle.ess_rules.specs.Supplies.{IsRewritten}

-- ---- one rule, and those behind it

module _ {T : Type 0} where
  -- A rule that makes nothing doesn't fire where it may be used.
  pub none_may : {M : Type 0} {r : Option Ex} (o : Option Node) → option_map pure_node o ≡ r → o ≡ None → T → (M → r ≡ None) × T
  none_may o h e t = (λ m. none_fires o h e, t)

  -- One that is only asked where a test holds, which has to hold where it may be used.
  pub none_told : (b : Bool) (r : Option Ex) (o : Option Node) → option_map pure_node o ≡ (if b then r else None) → o ≡ None → T
      → (b ≡ true → r ≡ None) × T
  none_told b r o h e t = (told b r (none_fires o h e), t)
    where
      told : (b : Bool) (r : Option Ex) → (if b then r else None) ≡ None → b ≡ true → r ≡ None
      told true r k m = k
      told false r k m = cc

  -- One that has to wait isn't used.
  pub none_waiting : {r : Option Ex} {b : Bool} → false ≡ b → T → (b ≡ true → r ≡ None) × T
  none_waiting h t = (λ m. let n : false ≡ true = h ∙ m in cc, t)

-- ---- groups

-- Where none of two lists fires, none of both together does.
pub none_both : (f : Ruling → Ex → Option Ex) (g : Names Ty) (a : Ex) (rs qs : List Ruling) → NoneOf f g rs a → NoneOf f g qs a
    → NoneOf f g (rs ++ qs) a
none_both f g a [] qs h k = k
none_both f g a (r ∷ rs) qs h k = (h.0, none_both f g a rs qs h.1 k)

-- None of the rules of each list fires; then none of all of them does.
abbrev NoneOfEach : (Ruling → Ex → Option Ex) → Names Ty → List (List Ruling) → Ex → Type 0
NoneOfEach f g [] a = Unit {0}
NoneOfEach f g (rs ∷ qss) a = NoneOf f g rs a × NoneOfEach f g qss a

none_joined : (f : Ruling → Ex → Option Ex) (g : Names Ty) (a : Ex) (qss : List (List Ruling)) → NoneOfEach f g qss a
    → NoneOf f g (append_all qss) a
none_joined f g a [] h = tt
none_joined f g a (rs ∷ qss) h = none_both f g a rs (append_all qss) h.0 (none_joined f g a qss h.1)

-- What is said of the first and of those behind it is said of all.
beside : {A B : Type 0} → A → B → A × B
beside a b = (a, b)

-- Rules of kinds are rules.
pub none_of_kinds : (s : Supply) (g : Names Ty) (a : Ex) (rs : List KindRuling) → NoneOfKinds s g rs a
    → NoneOf (ruled s g) g (map by_kind rs) a
none_of_kinds s g a [] h = tt
none_of_kinds s g a (r ∷ rs) h = (λ m. h.0, none_of_kinds s g a rs h.1)

module _ (s : Supply) (g : Names Ty) (a : Ex) (o : Option Node) where
  -- A group of kinds that answers nothing.
  pub none_by_kind : (p : Bool) (rs : List KindRuling) → IsOfKind p rs s g a (option_map pure_node o) → o ≡ None
      → NoneOf (ruled s g) g (map by_kind rs) a
  none_by_kind p rs h e = none_of_kinds s g a rs (subst (λ v. IsOfKind p rs s g a (option_map pure_node v)) e h)

  -- A group of rules that put no source in.
  pub none_rewritten : (rs : List Ruling) → IsRewritten rs s g a (option_map pure_node o) → o ≡ None → NoneOf (ruled s g) g rs a
  none_rewritten rs h e = subst (λ v. IsRewritten rs s g a (option_map pure_node v)) e h

  -- What a group makes of the root, a longer list does.
  pub rewritten_too : (rs qs : List Ruling) (x : Node) → IsRewritten rs s g a (option_map pure_node o) → o ≡ Some x
      → IsRewritten qs s g a (Some (pure_node x))
  rewritten_too rs qs x h e = subst (λ v. IsRewritten rs s g a (option_map pure_node v)) e h

-- ---- the lists before and behind sources

module _ (s : Supply) (g : Names Ty) (a : Ex) (o p q t u v w : Option Node) where
  -- Where no group before the rules that put a source in fires.
  pub none_first : IsOfKind false views_asked s g a (option_map pure_node o) → o ≡ None
      → IsOfKind false tests_asked s g a (option_map pure_node p) → p ≡ None
      → IsOfKind false view_sizes_asked s g a (option_map pure_node q) → q ≡ None
      → IsOfKind false picks_asked s g a (option_map pure_node t) → t ≡ None
      → IsRewritten folds_asked s g a (option_map pure_node u) → u ≡ None
      → IsRewritten ordered_asked s g a (option_map pure_node v) → v ≡ None
      → IsRewritten numbered_asked s g a (option_map pure_node w) → w ≡ None → NoneOf (ruled s g) g first_asked a
  none_first b c d e f h i j k l m n x y =
      none_joined (ruled s g) g a
      (map by_kind views_asked ∷ map by_kind tests_asked ∷ map by_kind view_sizes_asked ∷ map by_kind picks_asked ∷ folds_asked
      ∷ ordered_asked ∷ numbered_asked ∷ [])
      (beside (none_by_kind s g a o false views_asked b c)
      (beside (none_by_kind s g a p false tests_asked d e)
      (beside (none_by_kind s g a q false view_sizes_asked f h)
      (beside (none_by_kind s g a t false picks_asked i j)
      (beside (none_rewritten s g a u folds_asked k l)
      (beside (none_rewritten s g a v ordered_asked m n)
      (beside (none_rewritten s g a w numbered_asked x y) tt)))))))

module _ (s : Supply) (g : Names Ty) (a : Ex) (o p q t u v w z : Option Node) where
  -- Where no group behind them does.
  pub none_later : IsOfKind false folds_behind_asked s g a (option_map pure_node o) → o ≡ None
      → IsRewritten terms_asked s g a (option_map pure_node p) → p ≡ None
      → IsRewritten comparing_asked s g a (option_map pure_node q) → q ≡ None
      → IsRewritten equality_asked s g a (option_map pure_node t) → t ≡ None
      → IsRewritten membership_asked s g a (option_map pure_node u) → u ≡ None
      → IsRewritten sizes_asked s g a (option_map pure_node v) → v ≡ None
      → IsRewritten lists_asked s g a (option_map pure_node w) → w ≡ None
      → IsRewritten conditions_asked s g a (option_map pure_node z) → z ≡ None → NoneOf (ruled s g) g later_asked a
  none_later b c d e f h i j k l m n x y aa bb =
      none_joined (ruled s g) g a
      (map by_kind folds_behind_asked ∷ terms_asked ∷ comparing_asked ∷ equality_asked ∷ membership_asked ∷ sizes_asked ∷ lists_asked
      ∷ conditions_asked ∷ [])
      (beside (none_by_kind s g a o false folds_behind_asked b c)
      (beside (none_rewritten s g a p terms_asked d e)
      (beside (none_rewritten s g a q comparing_asked f h)
      (beside (none_rewritten s g a t equality_asked i j)
      (beside (none_rewritten s g a u membership_asked k l)
      (beside (none_rewritten s g a v sizes_asked m n)
      (beside (none_rewritten s g a w lists_asked x y)
      (beside (none_rewritten s g a z conditions_asked aa bb) tt))))))))
