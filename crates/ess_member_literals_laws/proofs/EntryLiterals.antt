-- Functions, relations and partitions of values whose own literal has them.
use Rattle.std.proofs.Common.{◌≡◌, refl, sym, ap, ◌∙◌, subst, ℕ, Bool, true, false, ◌&&◌, ◌||◌, not, List, [], ◌∷◌, Some, ◌⊎◌, inl, inr}
use Rattle.std.specs.List.{list_all, list_any}
use Rattle.ess_semantics.specs.Lists.{and_then, when, is_empty}
use Rattle.ess_semantics.specs.Values.{Text, a_tuple, a_set, a_function, a_relation, a_partition, Value, node, Values, to_list, of_list, pair, from_of, to_of, items_of, itself}
use Rattle.ess_semantics.specs.Order.{same}
use Rattle.ess_semantics.specs.Collections.{rises, sorted_once, no_twice, relation_of, function_of, has_empty_part, has_overlap, partition_of}
use Rattle.ess_semantics.specs.Membership.{is_pair, is_set, is_part}
use Rattle.ess_semantics.specs.Types.{Ty, any_ty, compound, Tys, no_tys, more_tys, compound1, compound2}
use Rattle.ess_semantics.specs.OperatorTypes.{function_ty, relation_ty, partition_ty}
use Rattle.ess_semantics.specs.Meaning.{Env}
use Rattle.ess_semantics.proofs.Orders.{of_list-to_list}
use Rattle.ess_semantics.proofs.Sorting.{sorted-of, sorted_once-itself, distinct-twice}
use Rattle.ess_semantics.proofs.Repeats.{sorted-distinct}
use Rattle.ess_semantics.proofs.Tests.{and-left, and-right, and-both}
use Rattle.ess_repr_laws.proofs.FunctionPairs.{firsts, rises-firsts}
use Rattle.ess_repr_laws.proofs.FunctionsAsRelations.{pairs-rise}
use Rattle.ess_repr_laws.proofs.CanonicalPlaces.{AllOf}
use Rattle.ess_values_laws.proofs.TypeOrder.{Within}
use Rattle.ess_values_laws.proofs.JoinedTypes.{has_parts}
use Rattle.ess_values_laws.proofs.LiteralTypes.{function-within, relation-within, partition-within}
use Rattle.ess_values_laws.proofs.SetLiterals.{function-literal-printed, relation-literal-printed, partition-literal-printed}
use Rattle.ess_member_literals_laws.proofs.PartLiterals.{AreFit, HasLiteral, HasWhole, literal-at, EachWhole, each-whole, Types, whole-types, set-has, tuple-has, each-has}

-- ---- lists

-- Items that pass a test, one by one.
all-of : (f : Value → Bool) (xs : List Value) → list_all f xs ≡ true → AllOf xs (λ x. f x ≡ true)
all-of f [] e = tt
all-of f (x ∷ xs) e = (and-left (f x) (list_all f xs) e, all-of f xs (and-right (f x) (list_all f xs) e))

-- A test that another one follows from.
all-weaker : (f g : Value → Bool) (xs : List Value) → ((x : Value) → f x ≡ true → g x ≡ true) → list_all f xs ≡ true →
    list_all g xs ≡ true
all-weaker f g [] h e = refl
all-weaker f g (x ∷ xs) h e =
    and-both (g x) (list_all g xs) (h x (and-left (f x) (list_all f xs) e)) (all-weaker f g xs h (and-right (f x) (list_all f xs) e))

any-first : (p : Value) (ps : List Value) → list_any (λ y. same (from_of p) y) (firsts ps) ≡ list_any (λ y. same (from_of p) (from_of y)) ps
any-first p [] = refl
any-first p (q ∷ ps) = ap (λ b. same (from_of p) (from_of q) || b) (any-first p ps)

twice-first : (ps : List Value) → no_twice itself (firsts ps) ≡ no_twice from_of ps
twice-first [] = refl
twice-first (p ∷ ps) = ap (λ b. not b && no_twice itself (firsts ps)) (any-first p ps)
    ∙ ap (λ b. not (list_any (λ y. same (from_of p) (from_of y)) ps) && b) (twice-first ps)

-- Pairs whose first parts rise have no first part twice.
firsts-once : (ps : List Value) → rises from_of ps ≡ true → no_twice from_of ps ≡ true
firsts-once ps r =
    sym (twice-first ps) ∙ distinct-twice (firsts ps) (sorted-distinct (firsts ps) (sorted-of (firsts ps) (rises-firsts ps r)))

not-empty : (ps : List Value) → list_all (λ p. not (is_empty (items_of p))) ps ≡ true → has_empty_part ps ≡ false
not-empty [] h = refl
not-empty (p ∷ ps) h = go (is_empty (items_of p)) h (not-empty ps)
  where
    go : (b : Bool) → not b && list_all (λ p. not (is_empty (items_of p))) ps ≡ true →
        (list_all (λ p. not (is_empty (items_of p))) ps ≡ true → has_empty_part ps ≡ false) → b || has_empty_part ps ≡ false
    go true h k = cc
    go false h k = k h

module _ (env : Env) (name_of : Text → ℕ → Text) where
  -- ---- functions

  -- The type of a function's literal, by that of its pairs together.
  function-type : (w s u : Ty) → Within w (compound2 a_tuple s u) → (w ≡ any_ty) ⊎ (has_parts w ≡ true) →
      (t : Ty) × (function_ty w ≡ Some t) × Within t (compound2 a_function s u) × (has_parts t ≡ true)
  function-type w s u h (inl e) = (compound2 a_function any_ty any_ty, ap function_ty e, (refl, (tt, (tt, tt))), refl)
  function-type w s u h (inr k) = function-within (compound2 a_tuple s u) (compound2 a_function s u) w refl h (λ q. k)

  function-again : (ps : List Value) → list_all is_pair ps ≡ true → rises from_of ps ≡ true →
      function_of ps ≡ Some (node a_function (of_list ps))
  function-again ps k r =
      let s : sorted_once ps ≡ ps = sorted_once-itself ps (pairs-rise ps (all-of is_pair ps k) r) in
      ap (λ l. when (not (not (no_twice from_of l))) (node a_function (of_list l))) s
      ∙ ap (λ b. when (not (not b)) (node a_function (of_list ps))) (firsts-once ps r)

  -- A function of such pairs.
  pub function-has : (ps : Values) (s u : Ty) → list_all is_pair (to_list ps) ≡ true → rises from_of (to_list ps) ≡ true →
      EachWhole env name_of (to_list ps) (compound2 a_tuple s u) → HasLiteral env name_of (node a_function ps) (compound2 a_function s u)
  function-has ps s u k r h =
      let x = whole-types env name_of (to_list ps) (compound2 a_tuple s u) h in
      let t : Types env name_of (to_list ps) (compound2 a_tuple s u) = x.0 in
      let f = function-type t.w s u t.within x.1 in
      literal-at env name_of (node a_function (of_list (to_list ps))) (node a_function ps) f.0 (compound2 a_function s u)
      (function-literal-printed env (to_list ps) t.ts t.printed f.0 (node a_function (of_list (to_list ps)))
      (ap (λ o. and_then o function_ty) t.join ∙ f.1) (function-again (to_list ps) k r)) (ap (node a_function) (of_list-to_list ps)) f.2
      (subst (AreFit env name_of) (of_list-to_list ps) t.fits)

  -- A pair.
  pub pair-has : (p : Value) (s u : Ty) → is_pair p ≡ true → HasLiteral env name_of (from_of p) s → HasLiteral env name_of (to_of p) u →
      HasWhole env name_of p (compound2 a_tuple s u)
  pair-has (pair a b) s u e h k = tuple-has env name_of _ s (more_tys u no_tys) (h, (k, tt))
  pair-has _ s u e h k = cc

  -- ---- relations

  relation-type : (w s : Ty) (ss : Tys) → Within w (compound a_tuple (more_tys s ss)) → (w ≡ any_ty) ⊎ (has_parts w ≡ true) →
      (t : Ty) × (relation_ty w ≡ Some t) × Within t (compound a_relation (more_tys s ss))
  relation-type w s ss h (inl e) = (compound a_relation no_tys, ap relation_ty e, (refl, tt))
  relation-type w s ss h (inr k) =
      let r = relation-within (compound a_tuple (more_tys s ss)) (compound a_relation (more_tys s ss)) w refl h (λ q. k) in (r.0, r.1, r.2)

  -- A relation of such tuples.
  pub relation-has : (xs : Values) (s : Ty) (ss : Tys) → rises itself (to_list xs) ≡ true →
      EachWhole env name_of (to_list xs) (compound a_tuple (more_tys s ss)) → HasLiteral env name_of (node a_relation xs) (compound a_relation (more_tys s ss))
  relation-has xs s ss r h =
      let S : Ty = compound a_tuple (more_tys s ss) in
      let x = whole-types env name_of (to_list xs) S h in
      let t : Types env name_of (to_list xs) S = x.0 in
      let f = relation-type t.w s ss t.within x.1 in
      literal-at env name_of (relation_of (to_list xs)) (node a_relation xs) f.0 (compound a_relation (more_tys s ss))
      (relation-literal-printed env (to_list xs) t.ts t.printed f.0 (ap (λ o. and_then o relation_ty) t.join ∙ f.1))
      (ap (λ l. node a_relation (of_list l)) (sorted_once-itself (to_list xs) r) ∙ ap (node a_relation) (of_list-to_list xs)) f.2
      (subst (AreFit env name_of) (of_list-to_list xs) t.fits)

  -- ---- partitions

  partition-type : (w s : Ty) → Within w (compound1 a_set s) → (w ≡ any_ty) ⊎ (has_parts w ≡ true) →
      (t : Ty) × (partition_ty w ≡ Some t) × Within t (compound1 a_partition s)
  partition-type w s h (inl e) = (compound1 a_partition any_ty, ap partition_ty e, (refl, (tt, tt)))
  partition-type w s h (inr k) =
      let r = partition-within (compound1 a_set s) (compound1 a_partition s) w refl h (λ q. k) in (r.0, r.1, r.2)

  partition-again : (f : Value → Bool) (ps : List Value) → list_all (is_part f) ps ≡ true → rises itself ps ≡ true →
      not (has_overlap ps) ≡ true → partition_of ps ≡ Some (node a_partition (of_list ps))
  partition-again f ps k r o =
      let e : has_empty_part ps ≡ false = not-empty ps (all-weaker (is_part f) (λ p. not (is_empty (items_of p))) ps
      (λ p h. and-right (is_set p && rises itself (items_of p)) (not (is_empty (items_of p)))
      (and-left (is_set p && rises itself (items_of p) && not (is_empty (items_of p))) (list_all f (items_of p)) h)) k) in
      ap (λ b. when (not b && not (has_overlap ps)) (node a_partition (of_list (sorted_once ps)))) e
      ∙ ap (λ b. when b (node a_partition (of_list (sorted_once ps)))) o
      ∙ ap (λ l. Some (node a_partition (of_list l))) (sorted_once-itself ps r)

  -- A part.
  pub part-has : (f : Value → Bool) (p : Value) (s : Ty) → ((w : Value) → f w ≡ true → HasLiteral env name_of w s) → is_part f p ≡ true →
      HasWhole env name_of p (compound1 a_set s)
  part-has f (node a_set xs) s g h =
      let a = and-left (rises itself (to_list xs) && not (is_empty (to_list xs))) (list_all f (to_list xs)) h in
      set-has env name_of xs s (and-left (rises itself (to_list xs)) (not (is_empty (to_list xs))) a)
      (each-has env name_of f (to_list xs) s g (and-right (rises itself (to_list xs) && not (is_empty (to_list xs))) (list_all f (to_list xs)) h))
  part-has f _ s g h = cc

  -- A partition of such parts.
  pub partition-has : (f : Value → Bool) (ps : Values) (s : Ty) → ((w : Value) → f w ≡ true → HasLiteral env name_of w s) →
      rises itself (to_list ps) ≡ true → list_all (is_part f) (to_list ps) ≡ true → not (has_overlap (to_list ps)) ≡ true →
      HasLiteral env name_of (node a_partition ps) (compound1 a_partition s)
  partition-has f ps s g r k o =
      let h = each-whole env name_of (is_part f) (to_list ps) (compound1 a_set s) (λ p q. part-has f p s g q) k in
      let x = whole-types env name_of (to_list ps) (compound1 a_set s) h in
      let t : Types env name_of (to_list ps) (compound1 a_set s) = x.0 in
      let y = partition-type t.w s t.within x.1 in
      literal-at env name_of (node a_partition (of_list (to_list ps))) (node a_partition ps) y.0 (compound1 a_partition s)
      (partition-literal-printed env (to_list ps) t.ts t.printed y.0 (node a_partition (of_list (to_list ps)))
      (ap (λ q. and_then q partition_ty) t.join ∙ y.1) (partition-again f (to_list ps) k r o)) (ap (node a_partition) (of_list-to_list ps)) y.2
      (subst (AreFit env name_of) (of_list-to_list ps) t.fits)
