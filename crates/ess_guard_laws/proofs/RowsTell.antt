-- Row by row: where an operator's own conditions hold it has a value wherever its operands have values.
use Rattle.std.proofs.Common.{◌≡◌, refl, sym, ap, ◌∙◌, ℕ, Bool, true, false, List, [], ◌∷◌, length, Option, Some, None, option_map, is_some}
use Rattle.ess_semantics.specs.declared.words.Op2.{Op2}
use Rattle.ess_semantics.specs.declared.words.Fun.{Fun}
use Rattle.ess_semantics.specs.declared.words.ReprKind.{ReprKind}
use Rattle.ess_semantics.specs.Lists.{and_then, all_some}
use Rattle.ess_semantics.specs.Values.{Text, Value, items_of}
use Rattle.ess_semantics.specs.Names.{Names}
use Rattle.ess_semantics.specs.Collections.{value_at}
use Rattle.ess_semantics.specs.Numbers.{div_down, mod_down}
use Rattle.ess_semantics.specs.Trees.{Step, by_value, to_component, to_field, Op, binary, word, index, application, function_literal, partition_literal, repr, more_reprs, Ex, Exs, seen_ex, no_exs, more_exs, Dom, function_dom, ex2, fun1}
use Rattle.ess_semantics.specs.Operators.{as_truth, value_of_node, value_of_op, path_value, at_index, at_component, at_field, least, greatest, false_where_undefined}
use Rattle.ess_semantics.specs.Tables.{Table}
use Rattle.ess_semantics.specs.Meaning.{Env, TypeEntry, meaning, meanings, domain_of}
use Rattle.ess_semantics.specs.Totality.{HasValue}
use Rattle.ess_semantics.specs.Constants.{operand_count}
use Rattle.ess_rules_laws.proofs.Simulation.{Vals, E}
use Rattle.ess_guard_laws.specs.Origins.{Origin, is_sure}
use Rattle.ess_guard_laws.specs.IndexDomains.{index_dom}
use Rattle.ess_guard_laws.specs.Conditions.{unless, is_argument, image_conditions, in_dom, index_conditions, at_step, path_conditions, own}
use Rattle.ess_guard_laws.specs.Guard.{connects}
use Rattle.ess_guard_laws.specs.Holds.{Hold}
use Rattle.ess_guard_laws.specs.Supplied.{is_known}
use Rattle.ess_guard_laws.proofs.Holding.{node-value, the-value, hold-left, hold-right}
use Rattle.ess_guard_laws.proofs.LiteralRows.{number-of-values, first-value, no-values}
use Rattle.ess_guard_laws.proofs.IndexRows.{item-means}
use Rattle.ess_guard_laws.proofs.TotalIndices.{in-dom-tells}
use Rattle.ess_guard_laws.proofs.AxisItems.{axis-items}
use Rattle.ess_guard_laws.proofs.ItemRows.{defined-means}
use Rattle.ess_guard_laws.proofs.Safe.{node-some, all-there}
use Rattle.ess_guard_laws.proofs.NumberTells.{both-there, quotient-tells, div-some, mod-some, power-tells}
use Rattle.ess_guard_laws.proofs.TotalRows.{item-tells, least-there, greatest-there, party-tells}
use Rattle.ess_guard_laws.proofs.FunctionLiterals.{agreement-function}
use Rattle.ess_guard_laws.proofs.PartitionLiterals.{parts-partition}
use Rattle.ess_guard_laws.proofs.RelationTerms.{application-tells}
use Rattle.ess_guard_laws.proofs.KnownNames as K
use Rattle.ess_guard_laws.proofs.Arguments.{view-full, full-value}

-- ---- operators on another number of operands

odd-there : (op : Op) (es : Exs) (env : Env) → connects op ≡ false →
    ((xs : List Value) → length xs ≡ operand_count es → is_some (value_of_op op xs) ≡ true) →
    HasValue (value_of_node op (meanings es env)) (meanings es env)
odd-there op es env c f h =
    let r = the-value (all_some (meanings es env)) (all-there (meanings es env) h) in
    ap is_some (node-value op (meanings es env) c) ∙ ap (λ o. is_some (and_then o (value_of_op op))) r.1
    ∙ f r.0 (sym (number-of-values es env r.0 r.1))

not-two : (o : Op2) (xs : List Value) → (length xs ≡ 2 → ⊥) → is_some (value_of_op (binary o) xs) ≡ true
not-two o [] h = refl
not-two o (a ∷ []) h = refl
not-two o (a ∷ b ∷ []) h = absurd (h refl)
not-two o (a ∷ b ∷ c ∷ xs) h = refl

min-odd : (xs : List Value) → (length xs ≡ 1 → ⊥) → is_some (value_of_op (word Fun.Min) xs) ≡ true
min-odd [] h = refl
min-odd (a ∷ []) h = absurd (h refl)
min-odd (a ∷ b ∷ []) h = refl
min-odd (a ∷ b ∷ c ∷ xs) h = refl

max-odd : (xs : List Value) → (length xs ≡ 1 → ⊥) → is_some (value_of_op (word Fun.Max) xs) ≡ true
max-odd [] h = refl
max-odd (a ∷ []) h = absurd (h refl)
max-odd (a ∷ b ∷ []) h = refl
max-odd (a ∷ b ∷ c ∷ xs) h = refl

image-odd : (xs : List Value) → (length xs ≡ 2 → ⊥) → is_some (value_of_op (word Fun.Image) xs) ≡ true
image-odd [] h = refl
image-odd (a ∷ []) h = refl
image-odd (a ∷ b ∷ []) h = absurd (h refl)
image-odd (a ∷ b ∷ c ∷ xs) h = refl

party-odd : (xs : List Value) → (length xs ≡ 2 → ⊥) → is_some (value_of_op (word Fun.Party) xs) ≡ true
party-odd [] h = refl
party-odd (a ∷ []) h = refl
party-odd (a ∷ b ∷ []) h = absurd (h refl)
party-odd (a ∷ b ∷ c ∷ xs) h = refl

other-number : (n m : ℕ) (xs : List Value) → length xs ≡ n → (n ≡ m → ⊥) → length xs ≡ m → ⊥
other-number n m xs e h q = h (sym e ∙ q)

module _ (x y : Text) (pl : Bool) (ts : List TypeEntry) (cs : Names Table) where
  abbrev M : Vals → Env
  M g = E pl ts cs g

  abbrev Known : Names Origin → Vals → Type 0
  Known k g = K.Known pl ts cs k g

  -- What is told of an operator: a value, where its operands have values.
  abbrev pub Told : Op → Exs → Vals → Type 0
  Told op es g = HasValue (value_of_node op (meanings es (M g))) (meanings es (M g))

  -- A sure argument of a total function.
  argument-there : (k : Names Origin) (f a : Ex) (g : Vals) (v w : Value) → Known k g → is_argument k f a ≡ true → meaning f (M g) ≡ Some v →
      meaning a (M g) ≡ Some w → is_some (value_at (items_of v) w) ≡ true
  argument-there k (seen_ex (repr ReprKind.Function1D (more_reprs r rs)) (function_dom ms fs d c) ns is) a g v w n t p q =
      let z = view-full r rs ms fs d c ns is (M g) v p in
      let u = K.sure-member pl ts cs k a d g w n t q in
      full-value z.0 v w z.2 (K.listed-list (domain_of d (M g)) u.0 w z.0 u.1 z.1 u.2)
  argument-there k f a g v w n t p q = cc

  image-tells : (k : Names Origin) (f a : Ex) (g : Vals) → Known k g → Hold (image_conditions k f a) (M g) →
      Told (word Fun.Image) (more_exs f (more_exs a no_exs)) g
  image-tells k f a g n h = go (is_argument k f a) refl h
    where
      go : (t : Bool) → is_argument k f a ≡ t → Hold (unless t (ex2 true Op2.Member a (fun1 false Fun.Defined f))) (M g) →
          Told (word Fun.Image) (more_exs f (more_exs a no_exs)) g
      go true t h = both-there (λ o p. is_some (value_of_node (word Fun.Image) (o ∷ p ∷ [])) ≡ true) (meaning f (M g)) (meaning a (M g))
          (λ v w p q. argument-there k f a g v w n t p q)
      go false t h = both-there (λ o p. is_some (value_of_node (word Fun.Image) (o ∷ p ∷ [])) ≡ true) (meaning f (M g)) (meaning a (M g))
          (λ v w p q. sym (defined-means f a (M g) v w p q) ∙ h.0)

  -- ---- indices

  -- What is told of an index: there is an item.
  abbrev pub ItemThere : Ex → Ex → Vals → Type 0
  ItemThere m i g = (v w : Value) → meaning m (M g) ≡ Some v → meaning i (M g) ≡ Some w → is_some (at_index v w) ≡ true

  -- What is told of a path: it leads to a value.
  abbrev pub PathThere : Ex → List Step → Exs → Vals → Type 0
  PathThere m qs is g = (v : Value) (ws : List Value) → meaning m (M g) ≡ Some v → all_some (meanings is (M g)) ≡ Some ws →
      is_some (path_value v qs ws) ≡ true

  same-there : (o : Option Value) → as_truth (false_where_undefined true (value_of_node (binary Op2.Eq) (o ∷ o ∷ []))) ≡ true →
      is_some o ≡ true
  same-there None h = cc
  same-there (Some v) h = refl

  -- The conditions of an index tell that there is an item.
  pub index-tells : (k : Names Origin) (m i : Ex) (g : Vals) → Known k g → Hold (index_conditions k x (index_dom m) m i) (M g) →
      ItemThere m i g
  index-tells k m i g n h = go (index_dom m) refl h
    where
      within : (d : Dom) (t : Bool) → index_dom m ≡ Some d → is_sure k i d ≡ t → Hold (unless t (in_dom x i d)) (M g) → ItemThere m i g
      within d true e z h v w p q = let u = K.sure-member pl ts cs k i d g w n z q in axis-items m d (M g) e v w u.0 p u.1 u.2
      within d false e z h v w p q = let u = in-dom-tells x i d (M g) w q h.0 in axis-items m d (M g) e v w u.0 p u.1 u.2

      go : (o : Option Dom) → index_dom m ≡ o → Hold (index_conditions k x o m i) (M g) → ItemThere m i g
      go (Some d) e h = within d (is_sure k i d) e refl h
      go None e h = λ v w p q. ap is_some (sym (item-means m i (M g) v w p q))
          ∙ same-there (meaning (at_step by_value m (more_exs i no_exs)) (M g)) h.0

  -- The conditions of a path tell that it leads to a value.
  pub path-tells : (k : Names Origin) (m : Ex) (qs : List Step) (is : Exs) (g : Vals) → Known k g → Hold (path_conditions k x m qs is) (M g) →
      PathThere m qs is g
  path-tells k m [] is g n h = λ v ws e p. ends v ws
    where
      ends : (v : Value) (ws : List Value) → is_some (path_value v [] ws) ≡ true
      ends v [] = refl
      ends v (w ∷ ws) = refl
  path-tells k m (by_value ∷ qs) no_exs g n h = λ v ws e p. ap (λ l. is_some (path_value v (by_value ∷ qs) l)) (no-values ws p)
  path-tells k m (by_value ∷ qs) (more_exs i is) g n h = λ v ws e p.
      let r = first-value (meaning i (M g)) (all_some (meanings is (M g))) ws p in
      let a = the-value (at_index v r.0)
      (index-tells k m i g n (hold-left (index_conditions k x (index_dom m) m i) _ (M g) h) v r.0 e r.2) in
      ap (λ l. is_some (path_value v (by_value ∷ qs) l)) r.4 ∙ ap (λ o. is_some (and_then o (λ z. path_value z qs r.1))) a.1
      ∙ path-tells k (at_step by_value m (more_exs i no_exs)) qs is g n
      (hold-right (index_conditions k x (index_dom m) m i) _ (M g) h) a.0 r.1 (item-means m i (M g) v r.0 e r.2 ∙ a.1) r.3
  path-tells k m (to_component c ∷ qs) is g n h = λ v ws e p.
      path-tells k (at_step (to_component c) m no_exs) qs is g n h (at_component v c) ws
      (ap (λ o. value_of_node (index (to_component c ∷ [])) (o ∷ [])) e) p
  path-tells k m (to_field a ∷ qs) is g n h = λ v ws e p.
      path-tells k (at_step (to_field a) m no_exs) qs is g n h (at_field v a) ws
      (ap (λ o. value_of_node (index (to_field a ∷ [])) (o ∷ [])) e) p

  path-there : (qs : List Step) (o : Option Value) (l : List (Option Value)) →
      ((v : Value) (ws : List Value) → o ≡ Some v → all_some l ≡ Some ws → is_some (path_value v qs ws) ≡ true) →
      HasValue (value_of_node (index qs) (o ∷ l)) (o ∷ l)
  path-there qs None l f h = cc
  path-there qs (Some v) l f h =
      let r = the-value (all_some l) (all-there l h) in
      ap (λ q. is_some (and_then (option_map (λ xs. v ∷ xs) q) (value_of_op (index qs)))) r.1 ∙ f v r.0 refl r.1

  -- ---- all operators

  -- An operator has a value where its own conditions hold.
  pub own-tells : (k : Names Origin) (op : Op) (es : Exs) (g : Vals) → Known k g → is_known op es ≡ true → Hold (own k x y op es) (M g) →
      Told op es g
  own-tells k (binary Op2.Div) (more_exs a (more_exs b no_exs)) g n v h =
      quotient-tells Op2.Div div_down k a b (M g) (K.known-numbers pl ts cs k g n) (λ v w. refl) div-some h
  own-tells k (binary Op2.Mod) (more_exs a (more_exs b no_exs)) g n v h =
      quotient-tells Op2.Mod mod_down k a b (M g) (K.known-numbers pl ts cs k g n) (λ v w. refl) mod-some h
  own-tells k (binary Op2.Pow) (more_exs a (more_exs b no_exs)) g n v h = power-tells k a b (M g) (K.known-numbers pl ts cs k g n) h
  own-tells k (binary Op2.Div) no_exs g n v h =
      odd-there (binary Op2.Div) no_exs (M g) refl (λ xs e. not-two Op2.Div xs (λ z. let q = sym e ∙ z in cc))
  own-tells k (binary Op2.Div) (more_exs a no_exs) g n v h =
      odd-there (binary Op2.Div) (more_exs a no_exs) (M g) refl (λ xs e. not-two Op2.Div xs (λ z. let q = sym e ∙ z in cc))
  own-tells k (binary Op2.Div) (more_exs a (more_exs b (more_exs c es))) g n v h =
      odd-there (binary Op2.Div) (more_exs a (more_exs b (more_exs c es))) (M g) refl
      (λ xs e. not-two Op2.Div xs (λ z. let q = sym e ∙ z in cc))
  own-tells k (binary Op2.Mod) no_exs g n v h =
      odd-there (binary Op2.Mod) no_exs (M g) refl (λ xs e. not-two Op2.Mod xs (λ z. let q = sym e ∙ z in cc))
  own-tells k (binary Op2.Mod) (more_exs a no_exs) g n v h =
      odd-there (binary Op2.Mod) (more_exs a no_exs) (M g) refl (λ xs e. not-two Op2.Mod xs (λ z. let q = sym e ∙ z in cc))
  own-tells k (binary Op2.Mod) (more_exs a (more_exs b (more_exs c es))) g n v h =
      odd-there (binary Op2.Mod) (more_exs a (more_exs b (more_exs c es))) (M g) refl
      (λ xs e. not-two Op2.Mod xs (λ z. let q = sym e ∙ z in cc))
  own-tells k (binary Op2.Pow) no_exs g n v h =
      odd-there (binary Op2.Pow) no_exs (M g) refl (λ xs e. not-two Op2.Pow xs (λ z. let q = sym e ∙ z in cc))
  own-tells k (binary Op2.Pow) (more_exs a no_exs) g n v h =
      odd-there (binary Op2.Pow) (more_exs a no_exs) (M g) refl (λ xs e. not-two Op2.Pow xs (λ z. let q = sym e ∙ z in cc))
  own-tells k (binary Op2.Pow) (more_exs a (more_exs b (more_exs c es))) g n v h =
      odd-there (binary Op2.Pow) (more_exs a (more_exs b (more_exs c es))) (M g) refl
      (λ xs e. not-two Op2.Pow xs (λ z. let q = sym e ∙ z in cc))
  own-tells k (word Fun.Min) no_exs g n v h = odd-there (word Fun.Min) no_exs (M g) refl (λ xs e. min-odd xs (λ z. let q = sym e ∙ z in cc))
  own-tells k (word Fun.Min) (more_exs a (more_exs b es)) g n v h =
      odd-there (word Fun.Min) (more_exs a (more_exs b es)) (M g) refl (λ xs e. min-odd xs (λ z. let q = sym e ∙ z in cc))
  own-tells k (word Fun.Max) no_exs g n v h = odd-there (word Fun.Max) no_exs (M g) refl (λ xs e. max-odd xs (λ z. let q = sym e ∙ z in cc))
  own-tells k (word Fun.Max) (more_exs a (more_exs b es)) g n v h =
      odd-there (word Fun.Max) (more_exs a (more_exs b es)) (M g) refl (λ xs e. max-odd xs (λ z. let q = sym e ∙ z in cc))
  own-tells k (word Fun.Image) no_exs g n v h =
      odd-there (word Fun.Image) no_exs (M g) refl (λ xs e. image-odd xs (λ z. let q = sym e ∙ z in cc))
  own-tells k (word Fun.Image) (more_exs a no_exs) g n v h =
      odd-there (word Fun.Image) (more_exs a no_exs) (M g) refl (λ xs e. image-odd xs (λ z. let q = sym e ∙ z in cc))
  own-tells k (word Fun.Image) (more_exs a (more_exs b (more_exs c es))) g n v h =
      odd-there (word Fun.Image) (more_exs a (more_exs b (more_exs c es))) (M g) refl (λ xs e. image-odd xs (λ z. let q = sym e ∙ z in cc))
  own-tells k (word Fun.Party) no_exs g n v h =
      odd-there (word Fun.Party) no_exs (M g) refl (λ xs e. party-odd xs (λ z. let q = sym e ∙ z in cc))
  own-tells k (word Fun.Party) (more_exs a no_exs) g n v h =
      odd-there (word Fun.Party) (more_exs a no_exs) (M g) refl (λ xs e. party-odd xs (λ z. let q = sym e ∙ z in cc))
  own-tells k (word Fun.Party) (more_exs a (more_exs b (more_exs c es))) g n v h =
      odd-there (word Fun.Party) (more_exs a (more_exs b (more_exs c es))) (M g) refl (λ xs e. party-odd xs (λ z. let q = sym e ∙ z in cc))
  own-tells k (word Fun.Min) (more_exs s no_exs) g n v h = item-tells Fun.Min least x s (M g) (λ v. refl) least-there h
  own-tells k (word Fun.Max) (more_exs s no_exs) g n v h = item-tells Fun.Max greatest x s (M g) (λ v. refl) greatest-there h
  own-tells k (word Fun.Image) (more_exs f (more_exs a no_exs)) g n v h = image-tells k f a g n h
  own-tells k (word Fun.Party) (more_exs a (more_exs p no_exs)) g n v h = party-tells a p (M g) h
  own-tells k (index qs) no_exs g n v h = λ q. refl
  own-tells k (index qs) (more_exs m is) g n v h = path-there qs (meaning m (M g)) (meanings is (M g)) (path-tells k m qs is g n h)
  own-tells k application no_exs g n v h = λ q. refl
  own-tells k application (more_exs f es) g n v h = application-tells f es (M g) v
  own-tells k function_literal es g n v h = agreement-function es (M g) v h
  own-tells k partition_literal es g n v h = parts-partition x y es (M g) h
  own-tells k op es g n v h = λ q. node-some op (meanings es (M g)) refl q
