-- The index of an item of a view of a matrix is a member of the first index domain, where there is an item; and the view at it fits the
-- place, where marks are right.
use Rattle.std.proofs.Common.{◌≡◌, refl, sym, ap, ◌∙◌, subst, Bool, true, false, ◌||◌, if◌then◌else◌, List, [], ◌∷◌, Option, Some, None, option_map}
use Rattle.std.specs.Prelude.{IsTrue, is_some}
use Rattle.ess_semantics.specs.declared.words.ReprKind.{ReprKind}
use Rattle.ess_semantics.specs.Lists.{and_then, all_some}
use Rattle.ess_semantics.specs.Values.{a_matrix, Text, Value, Values, nil, cons, to_list}
use Rattle.ess_semantics.specs.Order.{same}
use Rattle.ess_semantics.specs.Collections.{holds}
use Rattle.ess_semantics.specs.Domains.{Domain, Domains, no_domains, more_domains, matrices}
use Rattle.ess_semantics.specs.Membership.{member}
use Rattle.ess_semantics.specs.Operators.{item_at, at_index, path_value, value_of_op}
use Rattle.ess_semantics.specs.Trees.{by_value, index, Repr, repr, no_reprs, more_reprs, Ex, Exs, seen_ex, Dom, Doms, no_doms, more_doms, matrix_dom}
use Rattle.ess_semantics.specs.Types.{Ty, compound2, is_bool, join, type_of_dom, nested_ty}
use Rattle.ess_semantics.specs.Typing.{Static, step_ty, path_ty}
use Rattle.ess_semantics.specs.Meaning.{Env, meaning, domain_of, domains_of, members_in}
use Rattle.ess_semantics.specs.Meets.{Meets}
use Rattle.ess_repr_laws.proofs.CellsOfMatrices.{Shape, shape-of}
use Rattle.ess_repr_laws.proofs.TypesBack.{indices-are}
use Rattle.ess_repr_declare_laws.proofs.SizeNumbers.{mapped, chained}
use Rattle.ess_rules_laws.specs.FunctionKeys.{fits_mark, IsMember}
use Rattle.ess_refine_laws.specs.MarksStay.{MarkFits}
use Rattle.ess_views_laws.specs.MatrixViews.{behind_index}
use Rattle.ess_views_kept_laws.specs.ComponentsKept.{fits_place}
use Rattle.ess_views_kept_laws.proofs.OpenedViews.{Opened, opened, opened-means, opened-value}
use Rattle.ess_views_kept_laws.proofs.SideBySide.{domains-split, domains-some}
use Rattle.ess_kind_rules_laws.specs.ViewListings.{dom_seen}
use Rattle.ess_kind_views_laws.specs.PartsAtHand.{has_no_index}
use Rattle.ess_kind_views_laws.proofs.ComponentsFit.{mark-fits}

-- ---- marks

-- The mark of an item says whether the type of what is behind the index is bool.
pub item-mark : (b : Bool) (s : Static) (o : Option Ty) (i e : Ty) →
    MarkFits b (index (by_value ∷ [])) (and_then (step_ty (compound2 a_matrix i e) s o) (λ v. path_ty v [] [] [])) → b ≡ is_bool (Some e)
item-mark b s None i e h = absurd h
item-mark b s (Some t) i e h = go (join i t) h
  where
    go : (p : Option Ty) →
        MarkFits b (index (by_value ∷ [])) (and_then (option_map (λ v. e) p) (λ v. path_ty v [] [] [])) → b ≡ is_bool (Some e)
    go None h = absurd h
    go (Some v) h = h

-- So the view at the index fits the place.
pub item-fits : (b : Bool) (r : Repr) (is : Doms) (d : Dom) (ns : List Text) (js : Exs) →
    has_no_index (dom_seen (behind_index r is d ns js)) ≡ false → b ≡ is_bool (Some (nested_ty is (type_of_dom d))) →
    IsTrue (fits_place b (behind_index r is d ns js))
item-fits b r no_doms d ns js h q = mark-fits b d h q
item-fits b r (more_doms i is) d ns js h q = ap (λ z. fits_mark z (matrix_dom (more_doms i is) d)) q

-- ---- indices

-- What an item is there for is one of the indices.
held-index : (is xs : Values) (v : Value) → is_some (item_at is xs v) ≡ true → holds (to_list is) v ≡ true
held-index nil xs v h = cc
held-index (cons i is) nil v h = cc
held-index (cons i is) (cons x xs) v h = go (same i v) (held-index is xs v) h
  where
    go : (b : Bool) → (is_some (item_at is xs v) ≡ true → holds (to_list is) v ≡ true) →
        is_some (if b then Some x else item_at is xs v) ≡ true → b || holds (to_list is) v ≡ true
    go true f h = refl
    go false f h = f h

-- A value with an item at an index: this value and the index are there.
record ItemThere (o p : Option Value) : Type 0 where
  pub matrix_value : Value
  pub index_value : Value
  pub is_matrix : o ≡ Some matrix_value
  pub is_index : p ≡ Some index_value
  pub is_item : is_some (at_index matrix_value index_value) ≡ true

item-there : (o p : Option Value) → is_some (and_then (all_some (o ∷ p ∷ [])) (value_of_op (index (by_value ∷ [])))) ≡ true → ItemThere o p
item-there None p h = cc
item-there (Some m) None h = cc
item-there (Some m) (Some u) h = record {
  matrix_value = m;
  index_value = u;
  is_matrix = refl;
  is_index = refl;
  is_item = go (at_index m u) h;
}
  where
    go : (o : Option Value) → is_some (and_then o (λ w. path_value w [] [])) ≡ true → is_some o ≡ true
    go None h = h
    go (Some w) h = refl

-- The index is a member of what the first index domain denotes.
first-held : (js : Domains) (e : Domain) (i : Dom) (is : Doms) (env : Env) (w u : Value) → domains_of (more_doms i is) env ≡ Some js →
    member (matrices js e) w ≡ true → is_some (at_index w u) ≡ true →
    (vs : List Value) × (members_in (domain_of i env) ≡ Some vs) × (holds vs u ≡ true)
first-held no_domains e i is env w u q m h = domains-some (domain_of i env) (domains_of is env) q
first-held (more_domains x xs) e i is env w u q m h =
    let d = domains-split (domain_of i env) (domains_of is env) x xs q in
    let s : Shape x xs (member e) w = shape-of x xs (member e) w m in (
      to_list s.ix,
      ap members_in d.0 ∙ indices-are x s.ix s.indices,
      held-index s.ix s.xs u (subst (λ z. is_some (at_index z u) ≡ true) s.form h),
    )

some-same : {A : Type 0} (o : Option A) (x y : A) → o ≡ Some x → o ≡ Some y → x ≡ y
some-same o x y h k = let q : Some x ≡ Some y = sym h ∙ k in cc

module _ (r : Repr) (i : Dom) (is : Doms) (d : Dom) (ns : List Text) (js : Exs) (a : Ex) (env : Env) where
  abbrev R : Repr
  R = repr ReprKind.Matrix (more_reprs r no_reprs)

  abbrev View : Ex
  View = seen_ex R (matrix_dom (more_doms i is) d) ns js

  -- Where there is an item the index is held.
  pub index-held : Meets View env →
      is_some (and_then (all_some (meaning View env ∷ meaning a env ∷ [])) (value_of_op (index (by_value ∷ [])))) ≡ true → IsMember a i env
  index-held m h =
      let o : Opened R (matrix_dom (more_doms i is) d) ns js env = opened R (matrix_dom (more_doms i is) d) ns js env m in
      let w = opened-value R (matrix_dom (more_doms i is) d) ns js env o in
      let t : ItemThere (meaning View env) (meaning a env) = item-there (meaning View env) (meaning a env) h in
      let c = chained (domains_of (more_doms i is) env) (λ js. option_map (matrices js) (domain_of d env)) o.d o.domain_is in
      let n = mapped (matrices c.0) (domain_of d env) o.d c.2 in
      let k : member (matrices c.0 n.0) t.matrix_value ≡ true =
      ap (λ x. member x t.matrix_value) n.2
      ∙ ap (member o.d) (some-same (meaning View env) t.matrix_value w.0 t.is_matrix
      (opened-means R (matrix_dom (more_doms i is) d) ns js env refl o ∙ w.1)) ∙ w.2 in
      let f = first-held c.0 n.0 i is env t.matrix_value t.index_value c.1 k t.is_item in
      record { value = t.index_value; members = f.0; is_value = t.is_index; are_members = f.1; is_held = f.2 }
