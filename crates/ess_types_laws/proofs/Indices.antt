-- A list of steps from a value of a type leads to a value of the type that it leads to, where no step could be resolved
-- further.
use Rattle.std.proofs.Common.{◌≡◌, refl, sym, ap, ◌∙◌, subst, ℕ, zero, suc, Bool, true, false, if◌then◌else◌, List, [], ◌∷◌, length, Option, Some, None}
use Rattle.std.specs.List.{list_all}
use Rattle.ess_semantics.specs.Lists.{and_then, or_default}
use Rattle.ess_semantics.specs.Values.{Text, a_tuple, a_matrix, a_record, Value, node, Values, nil, cons, to_list, tuple, matrix}
use Rattle.ess_semantics.specs.Order.{order_texts, same, same_text, same_texts}
use Rattle.ess_semantics.specs.Trees.{Step, by_value, to_component, to_field}
use Rattle.ess_semantics.specs.Types.{Ty, Tys, any_ty, compound, no_tys, more_tys}
use Rattle.ess_semantics.specs.Typing.{Static, a_number, a_name, other, component_ty, field_ty, step_ty, part_ty, path_ty}
use Rattle.ess_semantics.specs.Operators.{misfit, item_at, component, field_at, at_index, at_component, at_field, path_value}
use Rattle.ess_semantics.specs.Resolving.{step_at, steps_from}
use Rattle.ess_semantics.specs.Meaning.{TypeEntry}
use Rattle.ess_semantics.specs.TypeMembers.{is_of, are_of}
use Rattle.ess_semantics.proofs.Tests.{and-left, and-right}
use Rattle.ess_semantics.proofs.Orders.{texts_exact, equal-of}
use Rattle.ess_types_laws.proofs.Joins.{Of}
use Rattle.ess_types_laws.proofs.Items.{matrix-items}
use Rattle.ess_types_laws.proofs.Words.{fit-result}

-- The item at an index is one of the items.
item-at-all : (h : Value → Bool) (is xs : Values) (i v : Value) → list_all h (to_list xs) ≡ true → item_at is xs i ≡ Some v → h v ≡ true
item-at-all h nil xs i v a e = cc
item-at-all h (cons j is) nil i v a e = cc
item-at-all h (cons j is) (cons x xs) i v a e = go (same j i)
    (λ r. item-at-all h is xs i v (and-right (h x) (list_all h (to_list xs)) a) r) e
  where
    go : (b : Bool) → (item_at is xs i ≡ Some v → h v ≡ true) → (if b then Some x else item_at is xs i) ≡ Some v → h v ≡ true
    go true ih r = let q : x ≡ v = cc in subst (λ z. h z ≡ true) q (and-left (h x) (list_all h (to_list xs)) a)
    go false ih r = ih r

module _ (p : Bool) (es : List TypeEntry) where
  component-fits : (ts : Tys) (vs : Values) (k : ℕ) (t : Ty) → are_of p es ts (to_list vs) ≡ true → component_ty ts k ≡ Some t →
      Of p es t (or_default (component vs k) misfit)
  component-fits (more_tys u ts) (cons v vs) (suc zero) t o e = let q : u ≡ t = cc in
      subst (λ x. Of p es x v) q (and-left (is_of p es u v) (are_of p es ts (to_list vs)) o)
  component-fits (more_tys u ts) (cons v vs) (suc (suc k)) t o e = component-fits ts vs (suc k) t
      (and-right (is_of p es u v) (are_of p es ts (to_list vs)) o) e
  component-fits (more_tys u ts) (cons v vs) zero t o e = cc
  component-fits (more_tys u ts) nil k t o e = cc
  component-fits no_tys vs k t o e = cc

  field-fits : (fs : List Text) (ts : Tys) (vs : Values) (a : Text) (t : Ty) → are_of p es ts (to_list vs) ≡ true →
      field_ty fs ts a ≡ Some t → Of p es t (or_default (field_at fs vs a) misfit)
  field-fits (f ∷ fs) (more_tys u ts) (cons v vs) a t o e =
      go (same_text f a) (λ r. field-fits fs ts vs a t (and-right (is_of p es u v) (are_of p es ts (to_list vs)) o) r) e
    where
      go : (b : Bool) → (field_ty fs ts a ≡ Some t → Of p es t (or_default (field_at fs vs a) misfit)) →
          (if b then Some u else field_ty fs ts a) ≡ Some t →
          Of p es t (or_default (if b then Some v else field_at fs vs a) misfit)
      go true ih r = let q : u ≡ t = cc in subst (λ x. Of p es x v) q (and-left (is_of p es u v) (are_of p es ts (to_list vs)) o)
      go false ih r = ih r
  field-fits (f ∷ fs) (more_tys u ts) nil a t o e = cc
  field-fits (f ∷ fs) no_tys vs a t o e = cc
  field-fits [] ts vs a t o e = cc

  -- ---- one step

  -- The step into a matrix.
  value-step : (t u : Ty) (s : Static) (w : Option Ty) (v i x : Value) → step_at (Some t) s ≡ by_value → step_ty t s w ≡ Some u →
      Of p es t v → at_index v i ≡ Some x → Of p es u x
  value-step (compound a_matrix (more_tys j (more_tys e no_tys))) u s (Some w) (matrix is xs) i x q r o h =
      let z : e ≡ u = fit-result j w e u r in
      subst (λ y. Of p es y x) z (item-at-all (is_of p es e) is xs i x (matrix-items p es j e (matrix is xs) o) h)
  value-step (compound a_matrix (more_tys j (more_tys e no_tys))) u s None v i x q r o h = cc
  value-step (compound a_matrix (more_tys j (more_tys e no_tys))) u s (Some w) _ i x q r o h = cc
  value-step (compound a_tuple ts) u (a_number k) w v i x q r o h = cc
  value-step (compound a_tuple ts) u (a_name a) w v i x q r o h = cc
  value-step (compound a_tuple ts) u other w v i x q r o h = cc
  value-step (compound (a_record fs) ts) u (a_name a) w v i x q r o h = cc
  value-step (compound (a_record fs) ts) u (a_number k) w v i x q r o h = cc
  value-step (compound (a_record fs) ts) u other w v i x q r o h = cc
  value-step any_ty u s w v i x q r o h = cc
  value-step _ u s w v i x q r o h = cc

  component-step : (t u : Ty) (k : ℕ) (v : Value) → part_ty t (a_number k) ≡ Some u → Of p es t v → Of p es u (at_component v k)
  component-step (compound a_tuple ts) u k (tuple vs) r o = component-fits ts vs k u o r
  component-step (compound a_tuple ts) u k _ r o = cc
  component-step (compound a_matrix no_tys) u k v r o = cc
  component-step (compound a_matrix (more_tys b no_tys)) u k v r o = cc
  component-step (compound a_matrix (more_tys b (more_tys c no_tys))) u k v r o = cc
  component-step (compound a_matrix (more_tys b (more_tys c (more_tys d ts)))) u k v r o = cc
  component-step any_ty u k v r o = cc
  component-step _ u k v r o = cc

  field-step : (t u : Ty) (a : Text) (v : Value) → part_ty t (a_name a) ≡ Some u → Of p es t v → Of p es u (at_field v a)
  field-step (compound (a_record fs) ts) u a (node (a_record gs) vs) r o =
      let z : fs ≡ gs = texts_exact fs gs (equal-of (order_texts fs gs) (and-left (same_texts fs gs) (are_of p es ts (to_list vs)) o)) in
      subst (λ hs. Of p es u (or_default (field_at hs vs a) misfit)) z
      (field-fits fs ts vs a u (and-right (same_texts fs gs) (are_of p es ts (to_list vs)) o) r)
  field-step (compound (a_record fs) ts) u a _ r o = cc
  field-step (compound a_matrix no_tys) u a v r o = cc
  field-step (compound a_matrix (more_tys b no_tys)) u a v r o = cc
  field-step (compound a_matrix (more_tys b (more_tys c no_tys))) u a v r o = cc
  field-step (compound a_matrix (more_tys b (more_tys c (more_tys d ts)))) u a v r o = cc
  field-step any_ty u a v r o = cc
  field-step _ u a v r o = cc

  -- ---- all steps

  first-by-value : (s : Step) (qs rs : List Step) → s ∷ rs ≡ by_value ∷ qs → (s ≡ by_value) × (rs ≡ qs)
  first-by-value s qs rs e = (cc, cc)

  some-behind : (o : Option Ty) (f : Ty → Option Ty) (t : Ty) → and_then o f ≡ Some t → (j : Ty) × (o ≡ Some j) × (f j ≡ Some t)
  some-behind None f t e = cc
  some-behind (Some j) f t e = (j, refl, e)

  value-behind : (o : Option Value) (f : Value → Option Value) (t : Value) → and_then o f ≡ Some t →
      (j : Value) × (o ≡ Some j) × (f j ≡ Some t)
  value-behind None f t e = cc
  value-behind (Some j) f t e = (j, refl, e)

  -- The value behind all steps has the type behind them.
  pub path-fits : (t u : Ty) (qs : List Step) (ss : List Static) (us : List (Option Ty)) (v : Value) (is : List Value) (x : Value) →
      length is ≡ length us → steps_from (Some t) qs ss us ≡ qs → path_ty t qs ss us ≡ Some u → Of p es t v →
      path_value v qs is ≡ Some x → Of p es u x
  path-fits t u [] [] [] v [] x n q r o h = let z : t ≡ u = cc in let y : v ≡ x = cc in
      subst (λ a. Of p es a x) z (subst (λ b. Of p es t b) y o)
  path-fits t u [] [] [] v (i ∷ is) x n q r o h = cc
  path-fits t u [] (s ∷ ss) us v is x n q r o h = cc
  path-fits t u [] [] (w ∷ us) v is x n q r o h = cc
  path-fits t u (by_value ∷ qs) (s ∷ ss) (w ∷ us) v (i ∷ is) x n q r o h =
      let m : length is ≡ length us = cc in
      let f = first-by-value (step_at (Some t) s) qs (steps_from (step_ty t s w) qs ss us) q in
      let a = some-behind (step_ty t s w) (λ j. path_ty j qs ss us) u r in
      let b = value-behind (at_index v i) (λ y. path_value y qs is) x h in
      path-fits a.0 u qs ss us b.0 is x m (ap (λ c. steps_from c qs ss us) (sym a.1)
      ∙ f.1) a.2 (value-step t a.0 s w v i b.0 f.0 a.1 o b.1) b.2
  path-fits t u (by_value ∷ qs) (s ∷ ss) (w ∷ us) v [] x n q r o h = cc
  path-fits t u (by_value ∷ qs) [] us v is x n q r o h = cc
  path-fits t u (by_value ∷ qs) (s ∷ ss) [] v is x n q r o h = cc
  path-fits t u (to_component k ∷ qs) ss us v is x n q r o h =
      let f : steps_from (part_ty t (a_number k)) qs ss us ≡ qs = cc in
      let a = some-behind (part_ty t (a_number k)) (λ j. path_ty j qs ss us) u r in
      path-fits a.0 u qs ss us (at_component v k) is x n (ap (λ c. steps_from c qs ss us) (sym a.1)
      ∙ f) a.2 (component-step t a.0 k v a.1 o) h
  path-fits t u (to_field a' ∷ qs) ss us v is x n q r o h =
      let f : steps_from (part_ty t (a_name a')) qs ss us ≡ qs = cc in
      let a = some-behind (part_ty t (a_name a')) (λ j. path_ty j qs ss us) u r in
      path-fits a.0 u qs ss us (at_field v a') is x n (ap (λ c. steps_from c qs ss us) (sym a.1) ∙ f) a.2 (field-step t a.0 a' v a.1 o) h
