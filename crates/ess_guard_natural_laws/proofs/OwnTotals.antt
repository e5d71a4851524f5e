-- Out of natural places an operator's own conditions are total, each under those before it, and where they hold it has a value.
use Rattle.ess_guard_laws.proofs.NumberTells.{both-there}
use Rattle.ess_guard_laws.proofs.TotalIndices.{in-dom-tells}
use Rattle.ess_guard_laws.specs.Conditions.{at_step, function_conditions, has_item, has_items, image_conditions, in_dom, index_conditions, is_argument, own, partition_conditions, party_conditions, path_conditions, power_conditions, quotient_conditions, some_item}
use Rattle.ess_guard_laws.specs.Covered.{covers, has_axis, path_has_axes}
use Rattle.ess_guard_laws.specs.IndexDomains.{index_dom}
use Rattle.ess_guard_laws.specs.Origins.{Origin, is_sure}
use Rattle.ess_guard_laws.specs.Supplied.{is_known}
use Rattle.ess_rules_laws.proofs.Simulation.{E, Vals}
use Rattle.ess_semantics.proofs.Tests.{and-left, and-right}
use Rattle.ess_semantics.specs.Lists.{and_then}
use Rattle.ess_semantics.specs.Meaning.{Env, TypeEntry, meaning, meanings}
use Rattle.ess_semantics.specs.Names.{Names}
use Rattle.ess_semantics.specs.Operators.{at_index, value_of_node}
use Rattle.ess_semantics.specs.Tables.{Table}
use Rattle.ess_semantics.specs.Totality.{HasValue}
use Rattle.ess_semantics.specs.Trees.{Ex, Exs, Op, Step, application, binary, by_value, ex2, fun1, function_literal, index, more_exs, no_exs, partition_literal, to_component, to_field, word}
use Rattle.ess_semantics.specs.Values.{Text, Value}
use Rattle.ess_semantics.specs.declared.words.Fun.{Fun}
use Rattle.ess_semantics.specs.declared.words.Op2.{Op2}
use Rattle.std.proofs.Common.{Bool, List, None, Option, Some, [], false, is_some, refl, subst, sym, true, ◌∷◌, ◌≡◌}
use Rattle.ess_guard_laws.proofs.KnownNames as K
use Rattle.ess_guard_laws.proofs.RowsTell as R
use Rattle.ess_guard_natural_laws.proofs.Places.{T, TA, node-total, safe-total}
use Rattle.ess_guard_natural_laws.proofs.Axes.{axis-of}
use Rattle.ess_guard_natural_laws.proofs.Behind.{Behind, EachTotal, each-total-unless, behind-append, behind-unless, behind-asked, behind-told}
use Rattle.ess_guard_natural_laws.proofs.ConditionRows.{quotient-asked, power-asked, has-item-total, party-asked, agreement-total, parts-total, in-dom-total}

-- What follows behind conditions.
pub behind-map : (cs : List Ex) (env : Env) (P Q : Type 0) → (P → Q) → Behind cs env P → Behind cs env Q
behind-map [] env P Q f b = f b
behind-map (c ∷ cs) env P Q f b = (b.0, λ t. behind-map cs env P Q f (b.1 t))

module _ (x y : Text) (pl : Bool) (ts : List TypeEntry) (cs : Names Table) where
  abbrev M : Vals → Env
  M g = E pl ts cs g

  abbrev Known : Names Origin → Vals → Type 0
  Known k g = K.Known pl ts cs k g

  abbrev ItemThere : Ex → Ex → Vals → Type 0
  ItemThere = R.ItemThere x y pl ts cs

  -- ---- indices

  index-total : (k : Names Origin) (m i : Ex) (g : Vals) → Known k g → has_axis m ≡ true → T m (M g) → T i (M g) →
      Behind (index_conditions k x (index_dom m) m i) (M g) (ItemThere m i g)
  index-total k m i g n t tm ti =
      let a = axis-of m (M g) t tm in
      subst (λ o. Behind (index_conditions k x o m i) (M g) (ItemThere m i g)) (sym a.1)
      (behind-unless (is_sure k i a.0) (in_dom x i a.0) (M g) (ItemThere m i g)
      (λ z v w p q. let u = K.sure-member pl ts cs k i a.0 g w n z q in a.3 v w u.0 p u.1 u.2)
      (in-dom-total x i a.0 (M g) ti a.2)
      (λ h v w p q. let u = in-dom-tells x i a.0 (M g) w q h in a.3 v w u.0 p u.1 u.2))

  step-total : (m i : Ex) (g : Vals) → T m (M g) → T i (M g) → ItemThere m i g →
      T (at_step by_value m (more_exs i no_exs)) (M g)
  step-total m i g tm ti f = node-total false false (index (by_value ∷ [])) (more_exs m (more_exs i no_exs)) (M g)
      (λ h. both-there (λ o p. is_some (value_of_node (index (by_value ∷ [])) (o ∷ p ∷ [])) ≡ true) (meaning m (M g)) (meaning i (M g))
      (λ v w p q. one (at_index v w) (f v w p q)) h) (tm, (ti, tt))
    where
      one : (o : Option Value) → is_some o ≡ true → is_some (and_then o (λ z. Some z)) ≡ true
      one None e = cc
      one (Some z) e = refl

  path-asked : (k : Names Origin) (m : Ex) (qs : List Step) (is : Exs) (g : Vals) → Known k g → path_has_axes m qs is ≡ true → T m (M g) →
      TA is (M g) → Behind (path_conditions k x m qs is) (M g) (Unit {0})
  path-asked k m [] is g n t tm ti = tt
  path-asked k m (by_value ∷ qs) no_exs g n t tm ti = tt
  path-asked k m (by_value ∷ qs) (more_exs i is) g n t tm ti =
      behind-append (index_conditions k x (index_dom m) m i) (path_conditions k x (at_step by_value m (more_exs i no_exs)) qs is) (M g)
      (ItemThere m i g) (Unit {0})
      (λ f. path-asked k (at_step by_value m (more_exs i no_exs)) qs is g n
      (and-right (has_axis m) (path_has_axes (at_step by_value m (more_exs i no_exs)) qs is) t) (step-total m i g tm ti.0 f) ti.1)
      (index-total k m i g n (and-left (has_axis m) (path_has_axes (at_step by_value m (more_exs i no_exs)) qs is) t) tm ti.0)
  path-asked k m (to_component c ∷ qs) is g n t tm ti =
      path-asked k (at_step (to_component c) m no_exs) qs is g n t
      (safe-total false (index (to_component c ∷ [])) (more_exs m no_exs) (M g) refl (tm, tt)) ti
  path-asked k m (to_field a ∷ qs) is g n t tm ti =
      path-asked k (at_step (to_field a) m no_exs) qs is g n t
      (safe-total false (index (to_field a ∷ [])) (more_exs m no_exs) (M g) refl (tm, tt)) ti

  -- ---- all operators

  by-themselves : (cs : List Ex) (g : Vals) → EachTotal cs (M g) → Behind cs (M g) (Unit {0})
  by-themselves cs g t = behind-asked cs (M g) (Unit {0}) t (λ h. tt)

  image-asked : (k : Names Origin) (f a : Ex) (g : Vals) → T f (M g) → T a (M g) → EachTotal (image_conditions k f a) (M g)
  image-asked k f a g tf ta = each-total-unless (is_argument k f a) (ex2 true Op2.Member a (fun1 false Fun.Defined f)) (M g)
      (safe-total true (binary Op2.Member) (more_exs a (more_exs (fun1 false Fun.Defined f) no_exs)) (M g) refl
      (ta, (safe-total false (word Fun.Defined) (more_exs f no_exs) (M g) refl (tf, tt), tt)))

  -- The conditions are total.
  own-asked : (k : Names Origin) (op : Op) (es : Exs) (g : Vals) → Known k g → covers op es ≡ true → TA es (M g) →
      Behind (own k x y op es) (M g) (Unit {0})
  own-asked k (binary Op2.Div) (more_exs a (more_exs b no_exs)) g n v t =
      by-themselves (quotient_conditions k b) g (quotient-asked k b (M g) t.1.0)
  own-asked k (binary Op2.Mod) (more_exs a (more_exs b no_exs)) g n v t =
      by-themselves (quotient_conditions k b) g (quotient-asked k b (M g) t.1.0)
  own-asked k (binary Op2.Pow) (more_exs a (more_exs b no_exs)) g n v t =
      by-themselves (power_conditions k a b) g (power-asked k a b (M g) t.0 t.1.0)
  own-asked k (word Fun.Min) (more_exs s no_exs) g n v t =
      by-themselves (some_item x s) g (each-total-unless (has_items s) (has_item x s) (M g) (has-item-total x s (M g) t.0))
  own-asked k (word Fun.Max) (more_exs s no_exs) g n v t =
      by-themselves (some_item x s) g (each-total-unless (has_items s) (has_item x s) (M g) (has-item-total x s (M g) t.0))
  own-asked k (word Fun.Image) (more_exs f (more_exs a no_exs)) g n v t =
      by-themselves (image_conditions k f a) g (image-asked k f a g t.0 t.1.0)
  own-asked k (word Fun.Party) (more_exs a (more_exs p no_exs)) g n v t =
      by-themselves (party_conditions a p) g (party-asked a p (M g) t.0 t.1.0)
  own-asked k (index qs) no_exs g n v t = tt
  own-asked k (index qs) (more_exs m is) g n v t = path-asked k m qs is g n v t.0 t.1
  own-asked k function_literal es g n v t = by-themselves (function_conditions es) g (agreement-total es (M g) t)
  own-asked k partition_literal es g n v t = by-themselves (partition_conditions x y es) g (parts-total x y es (M g) t)
  own-asked k op es g n v t = tt

  covered-known : (op : Op) (es : Exs) → covers op es ≡ true → is_known op es ≡ true
  covered-known application (more_exs f es) v = v
  covered-known function_literal es v = v
  covered-known op es v = refl

  -- Under its own conditions an operator has a value.
  pub own-total : (k : Names Origin) (op : Op) (es : Exs) (g : Vals) → Known k g → covers op es ≡ true → TA es (M g) →
      Behind (own k x y op es) (M g) (HasValue (value_of_node op (meanings es (M g))) (meanings es (M g)))
  own-total k op es g n v t =
      behind-told (own k x y op es) (M g) _ (own-asked k op es g n v t) (R.own-tells x y pl ts cs k op es g n (covered-known op es v))
