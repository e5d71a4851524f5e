-- An operator's own conditions are total but for tests, each under those before it, and where they hold it has its value.
use Rattle.ess_guard_laws.proofs.NumberTells.{both-there}
use Rattle.ess_guard_laws.specs.Conditions.{at_step, function_conditions, has_item, has_items, image_conditions, in_dom, index_conditions, is_argument, own, partition_conditions, party_conditions, path_conditions, power_conditions, quotient_conditions, some_item}
use Rattle.ess_guard_laws.specs.Covered.{has_axis}
use Rattle.ess_guard_laws.specs.IndexDomains.{index_dom}
use Rattle.ess_guard_laws.specs.Origins.{Origin, is_sure}
use Rattle.ess_rules_laws.proofs.Simulation.{E, Vals}
use Rattle.ess_semantics.specs.Lists.{and_then, all_some}
use Rattle.ess_semantics.specs.Meaning.{Env, TypeEntry, meaning, meanings}
use Rattle.ess_semantics.specs.Names.{Names}
use Rattle.ess_semantics.specs.Operators.{at_index, value_of_node, value_of_op, value_of_application}
use Rattle.ess_semantics.specs.Tables.{Table}
use Rattle.ess_semantics.specs.Totality.{HasValue}
use Rattle.ess_semantics.specs.Trees.{Dom, Ex, Exs, Op, Step, application, binary, by_value, ex2, fun1, function_literal, index, more_exs, no_exs, partition_literal, to_component, to_field, word}
use Rattle.ess_semantics.specs.Values.{a_relation, Text, Value, Values, node}
use Rattle.ess_semantics.specs.declared.words.Fun.{Fun}
use Rattle.ess_semantics.specs.declared.words.Op2.{Op2}
use Rattle.std.proofs.Common.{Bool, List, None, Option, Some, [], ap, false, inl, inr, is_some, option_map, refl, subst, sym, true, ◌∙◌, ◌∷◌, ◌≡◌}
use Rattle.ess_guard_laws.proofs.KnownNames as K
use Rattle.ess_guard_laws.proofs.RowsTell as R
use Rattle.ess_guard_laws.proofs.Holding.{the-value}
use Rattle.ess_guard_laws.proofs.Safe.{node-some, all-there}
use Rattle.ess_guard_tests_laws.specs.TotalButTests.{item_of, IsTest, HasItsValue}
use Rattle.ess_guard_natural_laws.specs.TotalButNatural.{opens_places}
use Rattle.ess_guard_places_laws.specs.TotalInPlaces.{TotalInPlaces}
use Rattle.ess_guard_tests_laws.specs.FormsKnown.{holds_pairs}
use Rattle.ess_guard_places_laws.proofs.Places.{T, TA, all-placed, node-total, safe-total}
use Rattle.ess_guard_places_laws.proofs.Axes.{axis-of}
use Rattle.ess_guard_places_laws.proofs.Behind.{Behind, EachTotal, each-total-unless, behind-append, behind-unless, behind-asked, behind-told}
use Rattle.ess_guard_places_laws.proofs.ConditionRows.{quotient-asked, power-asked, has-item-total, party-asked, agreement-total, parts-total, in-dom-total}

-- What follows behind conditions.
pub behind-map : (cs : List Ex) (env : Env) (P Q : Type 0) → (P → Q) → Behind cs env P → Behind cs env Q
behind-map [] env P Q f b = f b
behind-map (c ∷ cs) env P Q f b = (b.0, λ t. behind-map cs env P Q f (b.1 t))

module _ (x y : Text) (pl : Bool) (ts : List TypeEntry) (cs : Names Table) where
  abbrev M : Vals → Env
  M g = E pl ts cs g

  abbrev Known : Names Origin → Vals → Type 0
  Known k g = K.Known pl ts cs k g

  abbrev ItemThere : Ex → Ex → Vals → Type 0
  ItemThere = R.ItemThere x y pl ts cs

  -- ---- indices

  -- A test of an index.
  test-total : (m i : Ex) (g : Vals) → has_axis m ≡ false → T m (M g) → T i (M g) →
      T (ex2 true Op2.Eq (item_of m i) (item_of m i)) (M g)
  test-total m i g u tm ti =
      let sides : Exs = more_exs (item_of m i) (more_exs (item_of m i) no_exs) in
      let test : IsTest true (binary Op2.Eq) sides = record { m = m; i = i; marked = refl; equation = refl; sides = refl; untold = u } in
      let parts : Exs = more_exs m (more_exs i no_exs) in
      let side : TotalInPlaces true (IsTest true (binary Op2.Eq) sides) (item_of m i) (M g) = (
        inr test,
        all-placed (opens_places true false (index (by_value ∷ []))) (IsTest false (index (by_value ∷ [])) parts) parts (M g)
            (tm, (ti, tt)),
      ) in
      (inl (λ h. node-some (binary Op2.Eq) (meanings sides (M g)) refl h), (side, (side, tt)))

  index-asked : (k : Names Origin) (m i : Ex) (g : Vals) → T m (M g) → T i (M g) →
      Behind (index_conditions k x (index_dom m) m i) (M g) (Unit {0})
  index-asked k m i g tm ti = go (has_axis m) refl
    where
      none : (o : Option Dom) → is_some o ≡ false → o ≡ None
      none None e = refl
      none (Some d) e = cc

      go : (t : Bool) → has_axis m ≡ t → Behind (index_conditions k x (index_dom m) m i) (M g) (Unit {0})
      go true t =
          let a = axis-of m (M g) t tm in
          subst (λ o. Behind (index_conditions k x o m i) (M g) (Unit {0})) (sym a.1)
          (behind-unless (is_sure k i a.0) (in_dom x i a.0) (M g) (Unit {0}) (λ z. tt) (in-dom-total x i a.0 (M g) ti a.2) (λ h. tt))
      go false t = subst (λ o. Behind (index_conditions k x o m i) (M g) (Unit {0})) (sym (none (index_dom m) t))
          (test-total m i g t tm ti, λ h. tt)

  index-total : (k : Names Origin) (m i : Ex) (g : Vals) → Known k g → T m (M g) → T i (M g) →
      Behind (index_conditions k x (index_dom m) m i) (M g) (ItemThere m i g)
  index-total k m i g n tm ti =
      behind-told (index_conditions k x (index_dom m) m i) (M g) (ItemThere m i g) (index-asked k m i g tm ti)
      (R.index-tells x y pl ts cs k m i g n)

  step-total : (m i : Ex) (g : Vals) → T m (M g) → T i (M g) → ItemThere m i g → T (item_of m i) (M g)
  step-total m i g tm ti f = node-total false false (index (by_value ∷ [])) (more_exs m (more_exs i no_exs)) (M g)
      (λ h. both-there (λ o p. is_some (value_of_node (index (by_value ∷ [])) (o ∷ p ∷ [])) ≡ true) (meaning m (M g)) (meaning i (M g))
      (λ v w p q. one (at_index v w) (f v w p q)) h) (tm, (ti, tt))
    where
      one : (o : Option Value) → is_some o ≡ true → is_some (and_then o (λ z. Some z)) ≡ true
      one None e = cc
      one (Some z) e = refl

  path-asked : (k : Names Origin) (m : Ex) (qs : List Step) (is : Exs) (g : Vals) → Known k g → T m (M g) →
      TA is (M g) → Behind (path_conditions k x m qs is) (M g) (Unit {0})
  path-asked k m [] is g n tm ti = tt
  path-asked k m (by_value ∷ qs) no_exs g n tm ti = tt
  path-asked k m (by_value ∷ qs) (more_exs i is) g n tm ti =
      behind-append (index_conditions k x (index_dom m) m i) (path_conditions k x (at_step by_value m (more_exs i no_exs)) qs is) (M g)
      (ItemThere m i g) (Unit {0})
      (λ f. path-asked k (at_step by_value m (more_exs i no_exs)) qs is g n (step-total m i g tm ti.0 f) ti.1)
      (index-total k m i g n tm ti.0)
  path-asked k m (to_component c ∷ qs) is g n tm ti =
      path-asked k (at_step (to_component c) m no_exs) qs is g n
      (safe-total false (index (to_component c ∷ [])) (more_exs m no_exs) (M g) refl (tm, tt)) ti
  path-asked k m (to_field a ∷ qs) is g n tm ti =
      path-asked k (at_step (to_field a) m no_exs) qs is g n
      (safe-total false (index (to_field a ∷ [])) (more_exs m no_exs) (M g) refl (tm, tt)) ti

  -- ---- all operators

  by-themselves : (cs : List Ex) (g : Vals) → EachTotal cs (M g) → Behind cs (M g) (Unit {0})
  by-themselves cs g t = behind-asked cs (M g) (Unit {0}) t (λ h. tt)

  image-asked : (k : Names Origin) (f a : Ex) (g : Vals) → T f (M g) → T a (M g) → EachTotal (image_conditions k f a) (M g)
  image-asked k f a g tf ta = each-total-unless (is_argument k f a) (ex2 true Op2.Member a (fun1 false Fun.Defined f)) (M g)
      (safe-total true (binary Op2.Member) (more_exs a (more_exs (fun1 false Fun.Defined f) no_exs)) (M g) refl
      (ta, (safe-total false (word Fun.Defined) (more_exs f no_exs) (M g) refl (tf, tt), tt)))

  -- The conditions are total.
  own-asked : (k : Names Origin) (op : Op) (es : Exs) (g : Vals) → Known k g → TA es (M g) →
      Behind (own k x y op es) (M g) (Unit {0})
  own-asked k (binary Op2.Div) (more_exs a (more_exs b no_exs)) g n t =
      by-themselves (quotient_conditions k b) g (quotient-asked k b (M g) t.1.0)
  own-asked k (binary Op2.Mod) (more_exs a (more_exs b no_exs)) g n t =
      by-themselves (quotient_conditions k b) g (quotient-asked k b (M g) t.1.0)
  own-asked k (binary Op2.Pow) (more_exs a (more_exs b no_exs)) g n t =
      by-themselves (power_conditions k a b) g (power-asked k a b (M g) t.0 t.1.0)
  own-asked k (word Fun.Min) (more_exs s no_exs) g n t =
      by-themselves (some_item x s) g (each-total-unless (has_items s) (has_item x s) (M g) (has-item-total x s (M g) t.0))
  own-asked k (word Fun.Max) (more_exs s no_exs) g n t =
      by-themselves (some_item x s) g (each-total-unless (has_items s) (has_item x s) (M g) (has-item-total x s (M g) t.0))
  own-asked k (word Fun.Image) (more_exs f (more_exs a no_exs)) g n t =
      by-themselves (image_conditions k f a) g (image-asked k f a g t.0 t.1.0)
  own-asked k (word Fun.Party) (more_exs a (more_exs p no_exs)) g n t =
      by-themselves (party_conditions a p) g (party-asked a p (M g) t.0 t.1.0)
  own-asked k (index qs) no_exs g n t = tt
  own-asked k (index qs) (more_exs m is) g n t = path-asked k m qs is g n t.0 t.1
  own-asked k function_literal es g n t = by-themselves (function_conditions es) g (agreement-total es (M g) t)
  own-asked k partition_literal es g n t = by-themselves (partition_conditions x y es) g (parts-total x y es (M g) t)
  own-asked k op es g n t = tt

  -- An application of a relation has a value.
  applied : (o : Option Value) (os : List (Option Value)) (ps : Values) → o ≡ Some (node a_relation ps) →
      HasValue (value_of_node application (o ∷ os)) (o ∷ os)
  applied None os ps e h = cc
  applied (Some v) os ps e h =
      let q : v ≡ node a_relation ps = cc in
      let ws = the-value (all_some os) (all-there os h) in
      ap (λ z. is_some (and_then (option_map (λ xs. v ∷ xs) z) (value_of_op application))) ws.1
      ∙ ap (λ z. is_some (value_of_application z ws.0)) q

  application-total : (es : Exs) (g : Vals) → HasItsValue application (meanings es (M g))
  application-total no_exs g = λ ps e. cc
  application-total (more_exs f es) g = λ ps e. applied (meaning f (M g)) (meanings es (M g)) ps e

  -- Under its own conditions an operator has a value.
  pub own-total : (k : Names Origin) (op : Op) (es : Exs) (g : Vals) → Known k g → holds_pairs op es ≡ true → TA es (M g) →
      Behind (own k x y op es) (M g) (HasItsValue op (meanings es (M g)))
  own-total k application es g n v t = application-total es g
  own-total k function_literal es g n v t =
      behind-told (own k x y function_literal es) (M g) _ (own-asked k function_literal es g n t)
      (R.own-tells x y pl ts cs k function_literal es g n v)
  own-total k op es g n v t =
      behind-told (own k x y op es) (M g) _ (own-asked k op es g n t) (R.own-tells x y pl ts cs k op es g n refl)
