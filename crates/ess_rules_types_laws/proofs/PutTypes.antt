-- With a term of its type for a name a tree keeps its type.
use Rattle.std.proofs.Common.{◌≡◌, refl, sym, ap, ◌∙◌, subst, Bool, true, false, not, if◌then◌else◌, List, [], ◌∷◌, Option, Some, None, option_map}
use Rattle.std.specs.Prelude.{IsTrue}
use Rattle.ess_semantics.specs.Lists.{and_then, all_some}
use Rattle.ess_semantics.specs.Values.{Text, a_tuple, a_record, a_matrix, a_set, a_mset, a_function, a_relation, a_partition}
use Rattle.ess_semantics.specs.Order.{same_text}
use Rattle.ess_semantics.specs.Names.{Names, look}
use Rattle.ess_semantics.specs.Trees.{Step, by_value, to_component, to_field, Op, index, Pat, Pats, name_pat, tuple_pat, no_pats, more_pats, Ex, Exs, number_ex, truth_ex, name_ex, node_ex, matrix_ex, comp_ex, cell_ex, seen_ex, no_exs, more_exs, Gens, no_gens, over, from, cond, Dom, Doms, bool_dom, int_dom, name_dom, tuple_dom, record_dom, matrix_dom, set_dom, mset_dom, function_dom, relation_dom, partition_dom, no_doms, more_doms}
use Rattle.ess_semantics.specs.Types.{Ty, Tys, any_ty, bool_ty, int_ty, named_ty, no_tys, more_tys, compound, compound1, compound2, join, join_all, or_any, parts_of_ty, type_of_dom, types_of_doms, nested_ty, bind_types, bind_all_types}
use Rattle.ess_semantics.specs.OperatorTypes.{member_ty}
use Rattle.ess_semantics.specs.Typing.{Static, a_number, a_name, static, statics, step_ty, part_ty, path_ty, type_of_node, number_cell_ty, type_of, types_of, types_under, source_ty}
use Rattle.ess_semantics.specs.NamesAt.{names_behind}
use Rattle.ess_semantics.specs.Substitution.{substitute, substitute_exs, substitute_gens, substitute_dom, substitute_doms, for_name, Binds, BindsAll, NamesAre, NamesAreExs, NamesAreGens}
use Rattle.ess_semantics.proofs.Tests.{and-left, and-right}
use Rattle.ess_semantics.proofs.Texts.{same_text-equal, same_text-either}
use Rattle.ess_refine_types_laws.specs.TypeNames.{IsUntyped}
use Rattle.ess_refine_types_laws.proofs.TypeNames.{type-behind}
use Rattle.ess_rules_types_laws.specs.PutTypes.{TablesAre, AllTablesAre, GensTablesAre, is_stepped, by_values, is_by_values, IsSteady, AreSteady, GensAreSteady}

-- ---- domains

mutual
  -- A domain's type doesn't depend on its numbers.
  pub dom-put : (f : Text → Ex) (d : Dom) → type_of_dom (substitute_dom f d) ≡ type_of_dom d
  dom-put f bool_dom = refl
  dom-put f (int_dom rs es) = refl
  dom-put f (name_dom a) = refl
  dom-put f (tuple_dom ds) = ap (compound a_tuple) (doms-put f ds)
  dom-put f (record_dom fs ds) = ap (compound (a_record fs)) (doms-put f ds)
  dom-put f (matrix_dom is d) = nested-put f is (type_of_dom (substitute_dom f d)) (type_of_dom d) (dom-put f d)
  dom-put f (set_dom ms es d) = ap (λ t. compound a_set (more_tys t no_tys)) (dom-put f d)
  dom-put f (mset_dom ms es d) = ap (λ t. compound a_mset (more_tys t no_tys)) (dom-put f d)
  dom-put f (function_dom ms es d c) =
      ap (λ t. compound2 a_function t (type_of_dom (substitute_dom f c))) (dom-put f d)
      ∙ ap (compound2 a_function (type_of_dom d)) (dom-put f c)
  dom-put f (relation_dom ms es ds) = ap (compound a_relation) (doms-put f ds)
  dom-put f (partition_dom ms es d) = ap (λ t. compound a_partition (more_tys t no_tys)) (dom-put f d)

  doms-put : (f : Text → Ex) (ds : Doms) → types_of_doms (substitute_doms f ds) ≡ types_of_doms ds
  doms-put f no_doms = refl
  doms-put f (more_doms d ds) = ap (λ t. more_tys t (types_of_doms (substitute_doms f ds))) (dom-put f d)
      ∙ ap (more_tys (type_of_dom d)) (doms-put f ds)

  nested-put : (f : Text → Ex) (is : Doms) (t u : Ty) → t ≡ u → nested_ty (substitute_doms f is) t ≡ nested_ty is u
  nested-put f no_doms t u e = e
  nested-put f (more_doms d is) t u e =
      ap (λ i. compound2 a_matrix i (nested_ty (substitute_doms f is) t)) (dom-put f d)
      ∙ ap (compound2 a_matrix (type_of_dom d)) (nested-put f is t u e)

-- ---- indices

no-step : (b : Bool) → not b ≡ true → b ≡ false
no-step true h = cc
no-step false h = refl

-- A step by value reads only types.
step-same : (t : Ty) (s r : Static) (u : Option Ty) → is_stepped (Some t) ≡ false → step_ty t s u ≡ step_ty t r u
step-same any_ty s r (Some v) h = refl
step-same any_ty s r None h = refl
step-same bool_ty s r u h = refl
step-same int_ty s r u h = refl
step-same (named_ty a) s r u h = refl
step-same (compound2 a_matrix i e) s r (Some v) h = refl
step-same (compound2 a_matrix i e) s r None h = refl
step-same (compound a_tuple ts) s r u h = cc
step-same (compound (a_record fs) ts) s r u h = cc
step-same (compound a_matrix no_tys) s r u h = refl
step-same (compound1 a_matrix i) s r u h = refl
step-same (compound a_matrix (more_tys i (more_tys e (more_tys v ts)))) s r u h = refl
step-same (compound a_set ts) s r u h = refl
step-same (compound a_mset ts) s r u h = refl
step-same (compound a_function ts) s r u h = refl
step-same (compound a_relation ts) s r u h = refl
step-same (compound a_partition ts) s r u h = refl

module _ (f : Text → Ex) where
  path-put : (o : Option Ty) (qs : List Step) (es : Exs) (us : List (Option Ty)) → by_values o qs (statics es) us ≡ true →
      and_then o (λ v. path_ty v qs (statics (substitute_exs f es)) us) ≡ and_then o (λ v. path_ty v qs (statics es) us)
  path-put None qs es us h = refl
  path-put (Some t) [] no_exs us h = refl
  path-put (Some t) [] (more_exs e es) us h = refl
  path-put (Some t) (by_value ∷ qs) no_exs us h = refl
  path-put (Some t) (by_value ∷ qs) (more_exs e es) [] h = refl
  path-put (Some t) (by_value ∷ qs) (more_exs e es) (u ∷ us) h =
      ap (λ o. and_then o (λ v. path_ty v qs (statics (substitute_exs f es)) us))
      (step-same t (static (substitute f e)) (static e) u
      (no-step (is_stepped (Some t)) (and-left (not (is_stepped (Some t))) (by_values (step_ty t (static e) u) qs (statics es) us) h)))
      ∙ path-put (step_ty t (static e) u) qs es us
      (and-right (not (is_stepped (Some t))) (by_values (step_ty t (static e) u) qs (statics es) us) h)
  path-put (Some t) (to_component k ∷ qs) es us h = path-put (part_ty t (a_number k)) qs es us h
  path-put (Some t) (to_field a ∷ qs) es us h = path-put (part_ty t (a_name a)) qs es us h

  node-put : (op : Op) (es : Exs) (us : List (Option Ty)) → is_by_values op (statics es) us ≡ true →
      type_of_node op (statics (substitute_exs f es)) us ≡ type_of_node op (statics es) us
  node-put (index qs) no_exs [] h = refl
  node-put (index qs) no_exs (None ∷ us) h = refl
  node-put (index qs) no_exs (Some t ∷ us) h = refl
  node-put (index qs) (more_exs e es) [] h = refl
  node-put (index qs) (more_exs e es) (None ∷ us) h = refl
  node-put (index qs) (more_exs e es) (Some t ∷ us) h = path-put (Some t) qs es us h
  node-put _ es us h = refl

-- ---- trees

-- What a step and what follows answer, where they do so at the type of the step.
through : (o : Option Ty) (F G : Ty → Option (Names Ty)) (k l : Names Ty → Option Ty) →
    and_then (F (or_any o)) k ≡ and_then (G (or_any o)) l → and_then (and_then o F) k ≡ and_then (and_then o G) l
through None F G k l h = refl
through (Some t) F G k l h = h

through-truth : (o : Option Ty) (p q : Option (Names Ty)) (k l : Names Ty → Option Ty) → and_then p k ≡ and_then q l →
    and_then (and_then o (λ t. and_then (join t bool_ty) (λ v. p))) k ≡ and_then (and_then o (λ t. and_then (join t bool_ty) (λ v. q))) l
through-truth None p q k l h = refl
through-truth (Some t) p q k l h = go (join t bool_ty)
  where
    go : (j : Option Ty) → and_then (and_then j (λ v. p)) k ≡ and_then (and_then j (λ v. q)) l
    go None = refl
    go (Some v) = h

pub look-past : (a c : Text) (t : Ty) (g : Names Ty) → same_text a c ≡ false → look ((a, t) ∷ g) c ≡ look g c
look-past a c t g e = ap (λ b. if b then Some t else look g c) e

-- y is the name, t the term, u has the names that the tree uses, b those that it binds, w its tables.
module _ (y : Text) (t : Ex) (u b w : Text → Bool) (apart : (a : Text) → IsTrue (b a) → same_text y a ≡ false)
    (free : (a : Text) → IsTrue (b a) → IsUntyped a t) (tables : (a : Text) → IsTrue (w a) → (same_text y a ≡ false) × IsTrue (u a)) where
  -- The term has under h the type that the name has under g, and other names have the same types.
  pub record Fits (g h : Names Ty) : Type 0 where
    pub named : type_of t h ≡ look g y
    pub others : (a : Text) → IsTrue (u a) → same_text y a ≡ false → look h a ≡ look g a

  fits-name : (a : Text) (v : Ty) (g h : Names Ty) → IsTrue (b a) → Fits g h → Fits ((a, v) ∷ g) ((a, v) ∷ h)
  fits-name a v g h k r = record {
    named = type-behind a v t h (free a k) ∙ r.named ∙ sym (look-past a y v g (same_text-either a y ∙ apart a k));
    others = λ c i n. ap (λ o. if same_text a c then Some v else o) (r.others c i n);
  }

  mutual
    pub fits-pattern : (p : Pat) (v : Ty) (g h : Names Ty) → Binds b p → Fits g h → Fits (bind_types p v g) (bind_types p v h)
    fits-pattern (name_pat a) v g h k r = fits-name a v g h k r
    fits-pattern (tuple_pat ps) v g h k r = fits-patterns ps (parts_of_ty v) g h k r

    fits-patterns : (ps : Pats) (ts : Tys) (g h : Names Ty) → BindsAll b ps → Fits g h →
        Fits (bind_all_types ps ts g) (bind_all_types ps ts h)
    fits-patterns no_pats ts g h k r = r
    fits-patterns (more_pats p ps) no_tys g h k r =
        fits-patterns ps no_tys (bind_types p any_ty g) (bind_types p any_ty h) k.1 (fits-pattern p any_ty g h k.0 r)
    fits-patterns (more_pats p ps) (more_tys v ts) g h k r =
        fits-patterns ps ts (bind_types p v g) (bind_types p v h) k.1 (fits-pattern p v g h k.0 r)

  -- What generators leave.
  pub record GensPut (gs : Gens) (g h : Names Ty) : Type 0 where
    pub under : (k l : Names Ty → Option Ty) →
        k (names_behind (substitute_gens (for_name y t) gs) h) ≡ l (names_behind gs g) →
        and_then (types_under (substitute_gens (for_name y t) gs) h) k ≡ and_then (types_under gs g) l
    pub fits : Fits (names_behind gs g) (names_behind (substitute_gens (for_name y t) gs) h)

  over-put : (p : Pat) (d : Dom) (gs : Gens) (g h : Names Ty) → type_of_dom (substitute_dom (for_name y t) d) ≡ type_of_dom d →
      GensPut gs (bind_types p (type_of_dom d) g) (bind_types p (type_of_dom d) h) → GensPut (over p d gs) g h
  over-put p d gs g h i r =
      let z = subst (λ v. GensPut gs (bind_types p (type_of_dom d) g) (bind_types p v h)) (sym i) r in
      record { under = z.under; fits = z.fits }

  from-put : (p : Pat) (e : Ex) (gs : Gens) (g h : Names Ty) → type_of (substitute (for_name y t) e) h ≡ type_of e g →
      GensPut gs (bind_types p (source_ty e g) g) (bind_types p (source_ty e g) h) → GensPut (from p e gs) g h
  from-put p e gs g h i r = record {
    under = λ k l z. ap (λ o. and_then (and_then (and_then o member_ty) (λ v. types_under (substitute_gens (for_name y t) gs)
        (bind_types p v h))) k) i
        ∙ through (and_then (type_of e g) member_ty) (λ v. types_under (substitute_gens (for_name y t) gs) (bind_types p v h))
        (λ v. types_under gs (bind_types p v g)) k l
        (r.under k l (subst (λ o. k (names_behind (substitute_gens (for_name y t) gs) (bind_types p (or_any (and_then o member_ty)) h))
        ≡ l (names_behind gs (bind_types p (source_ty e g) g))) i z));
    fits = subst (λ o. Fits (names_behind gs (bind_types p (source_ty e g) g))
        (names_behind (substitute_gens (for_name y t) gs) (bind_types p (or_any (and_then o member_ty)) h))) (sym i) r.fits;
  }

  cond-put : (e : Ex) (gs : Gens) (g h : Names Ty) → type_of (substitute (for_name y t) e) h ≡ type_of e g → GensPut gs g h →
      GensPut (cond e gs) g h
  cond-put e gs g h i r = record {
    under = λ k l z. ap (λ o. and_then (and_then o (λ v. and_then (join v bool_ty) (λ x. types_under (substitute_gens
        (for_name y t) gs) h)))
        k) i
        ∙ through-truth (type_of e g) (types_under (substitute_gens (for_name y t) gs) h) (types_under gs g) k l (r.under k l z);
    fits = r.fits;
  }

  mutual
    -- The type stays.
    pub type-put : (e : Ex) (g h : Names Ty) → NamesAre u b e → TablesAre w e → IsSteady e g → Fits g h →
        type_of (substitute (for_name y t) e) h ≡ type_of e g
    type-put (number_ex n) g h q k s r = refl
    type-put (truth_ex c) g h q k s r = refl
    type-put (name_ex a) g h q k s r = go (same_text y a) refl
      where
        go : (c : Bool) → same_text y a ≡ c → type_of (if c then t else name_ex a) h ≡ look g a
        go true i = r.named ∙ ap (look g) (same_text-equal y a i)
        go false i = r.others a q i
    type-put (node_ex c op es) g h q k s r =
        ap (type_of_node op (statics (substitute_exs (for_name y t) es))) (types-put es g h q k s.1 r)
        ∙ node-put (for_name y t) op es (types_of es g) s.0
    type-put (matrix_ex es d) g h q k s r =
        ap (λ l. and_then (all_some l) (λ ts. option_map (compound2 a_matrix (type_of_dom (substitute_dom (for_name y t) d)))
        (join_all ts)))
        (types-put es g h q.0 k.0 s.0 r)
        ∙ ap (λ i. and_then (all_some (types_of es g)) (λ ts. option_map (compound2 a_matrix i) (join_all ts))) (dom-put (for_name y t) d)
    type-put (comp_ex e gs) g h q k s r =
        let i = gens-put gs g h q.1 k.0 s.0 r in
        i.under (λ j. option_map (compound2 a_matrix int_ty) (type_of (substitute (for_name y t) e) j))
        (λ j. option_map (compound2 a_matrix int_ty) (type_of e j))
        (ap (option_map (compound2 a_matrix int_ty))
        (type-put e (names_behind gs g) (names_behind (substitute_gens (for_name y t) gs) h) q.0 k.1 s.1 i.fits))
    type-put (cell_ex c n es) g h q k s r =
        let i = tables n k.0 in ap (λ o. Some (if c then bool_ty else number_cell_ty o)) (r.others n i.1 i.0)
    type-put (seen_ex z d ns es) g h q k s r = ap Some (dom-put (for_name y t) d)

    pub types-put : (es : Exs) (g h : Names Ty) → NamesAreExs u b es → AllTablesAre w es → AreSteady es g → Fits g h →
        types_of (substitute_exs (for_name y t) es) h ≡ types_of es g
    types-put no_exs g h q k s r = refl
    types-put (more_exs e es) g h q k s r =
        ap (λ o. o ∷ types_of (substitute_exs (for_name y t) es) h) (type-put e g h q.0 k.0 s.0 r)
        ∙ ap (λ l. type_of e g ∷ l) (types-put es g h q.1 k.1 s.1 r)

    pub gens-put : (gs : Gens) (g h : Names Ty) → NamesAreGens u b gs → GensTablesAre w gs → GensAreSteady gs g → Fits g h → GensPut gs g h
    gens-put no_gens g h q k s r = record { under = λ i j z. z; fits = r }
    gens-put (over p d gs) g h q k s r =
        over-put p d gs g h (dom-put (for_name y t) d)
        (gens-put gs (bind_types p (type_of_dom d) g) (bind_types p (type_of_dom d) h) q.2 k.1 s.1
        (fits-pattern p (type_of_dom d) g h q.0 r))
    gens-put (from p e gs) g h q k s r = from-put p e gs g h (type-put e g h q.1 k.0 s.0 r)
        (gens-put gs (bind_types p (source_ty e g) g) (bind_types p (source_ty e g) h) q.2 k.1 s.1
        (fits-pattern p (source_ty e g) g h q.0 r))
    gens-put (cond e gs) g h q k s r = cond-put e gs g h (type-put e g h q.0 k.0 s.0 r) (gens-put gs g h q.1 k.1 s.1 r)
