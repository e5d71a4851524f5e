-- Rules of literals keep types.
use Rattle.std.proofs.Common.{◌≡◌, refl, sym, ap, ◌∙◌, subst, Bool, true, false, not, if◌then◌else◌, List, [], ◌∷◌, Option, Some, None, option_map}
use Rattle.std.specs.Prelude.{IsTrue, is_some}
use Rattle.ess_semantics.specs.declared.words.Op2.{Op2}
use Rattle.ess_semantics.specs.declared.words.Fun.{Fun}
use Rattle.ess_semantics.specs.Lists.{and_then, all_some}
use Rattle.ess_semantics.specs.Values.{a_matrix, a_set, a_mset, a_relation, a_tuple}
use Rattle.ess_semantics.specs.Names.{Names}
use Rattle.ess_semantics.specs.Trees.{Op, binary, word, set_literal, mset_literal, relation_literal, matrix_literal, Ex, Exs, node_ex, ex2, fun1, no_exs, more_exs}
use Rattle.ess_semantics.specs.Types.{Ty, any_ty, bool_ty, int_ty, no_tys, more_tys, compound, compound1, compound2, join, join_all, fit}
use Rattle.ess_semantics.specs.OperatorTypes.{type_of_op, type_of_list, relation_ty, asked_ty, list_ty}
use Rattle.ess_semantics.specs.Typing.{type_of, types_of}
use Rattle.ess_types_laws.specs.WellBound.{is_empty_tuple}
use Rattle.ess_rules_laws.specs.MembershipRules.{equations, member_listed}
use Rattle.ess_rules_laws.specs.ShortSizeRules.{ones_where, frequency_listed}
use Rattle.ess_rules_laws.specs.LiteralRules.{unequal_each, unequal_pairs, different_listed}
use Rattle.ess_guard_types_laws.proofs.JoinedTypes.{Agree, EachAgrees, each-agrees, turned}
use Rattle.ess_refine_laws.specs.AllRules.{Rule, in_a_literal, frequency_in_a_literal, different_items, Supply, tells_scalars_apart, rewrite}
use Rattle.ess_refine_laws.specs.TypesStay.{KeepsType}
use Rattle.ess_refine_types_laws.specs.TypesOfListed.{is_of_literals, PartsTold, LiteralRulesKeepTypes}
use Rattle.ess_refine_types_laws.proofs.TypeParts.{one-is, two-is, one-to, two-to, given-is, given-to, there-is, TypeKept, truth-for, equation-type}
use Rattle.ess_refine_types_laws.proofs.TypesThatAgree.{of-one}

-- ---- types of items

-- The types of the first item and of the others.
pub heads : (o : Option Ty) (p : Option (List Ty)) (ts : List Ty) → and_then o (λ x. option_map (λ xs. x ∷ xs) p) ≡ Some ts →
    (t : Ty) × (us : List Ty) × (o ≡ Some t) × (p ≡ Some us) × (t ∷ us ≡ ts)
heads None p ts e = (any_ty, [], cc, cc, cc)
heads (Some t) None ts e = (any_ty, [], cc, cc, cc)
heads (Some t) (Some us) ts e = (t, us, refl, refl, cc)

-- What all items join to.
pub all-is : (o : Option (List Ty)) (F : List Ty → Option Ty) (s : Ty) → and_then o F ≡ Some s → (ts : List Ty) × (o ≡ Some ts) × (F ts ≡ Some s)
all-is None F s e = ([], cc, cc)
all-is (Some ts) F s e = (ts, refl, e)

pub map-is : (f : Ty → Ty) (o : Option Ty) (s : Ty) → option_map f o ≡ Some s → (j : Ty) × (o ≡ Some j) × (f j ≡ s)
map-is f None s e = (any_ty, cc, cc)
map-is f (Some j) s e = (j, refl, cc)

pub then-is : (o : Option Ty) (f : Ty → Option Ty) (s : Ty) → and_then o f ≡ Some s → (j : Ty) × (o ≡ Some j) × (f j ≡ Some s)
then-is None f s e = (any_ty, cc, cc)
then-is (Some j) f s e = (j, refl, e)

module _ (g : Names Ty) where
  -- Each of these has the type k.
  abbrev pub AllOf : Ty → Exs → Type 0
  AllOf k no_exs = Unit {0}
  AllOf k (more_exs e es) = (type_of e g ≡ Some k) × AllOf k es

  -- A list of truth values or of numbers.
  module _ (k : Ty) (with_any : join k any_ty ≡ Some k) (with_itself : join k k ≡ Some k) where
    abbrev joined : Exs → Ty
    joined no_exs = any_ty
    joined (more_exs e es) = k

    join-next : (es : Exs) → join k (joined es) ≡ Some k
    join-next no_exs = with_any
    join-next (more_exs e es) = with_itself

    all-joined : (es : Exs) → AllOf k es → (ts : List Ty) × (all_some (types_of es g) ≡ Some ts) × (join_all ts ≡ Some (joined es))
    all-joined no_exs h = ([], refl, refl)
    all-joined (more_exs e es) h =
        let r = all-joined es h.1 in (
          k ∷ r.0,
          ap (λ o. and_then o (λ x. option_map (λ xs. x ∷ xs) (all_some (types_of es g)))) h.0 ∙ ap (option_map (λ xs. k ∷ xs)) r.1,
          ap (λ o. and_then o (join k)) r.2 ∙ join-next es,
        )

    pub list-type : (e : Ex) (es : Exs) → AllOf k (more_exs e es) →
        type_of (node_ex false matrix_literal (more_exs e es)) g ≡ Some (compound2 a_matrix int_ty k)
    list-type e es h =
        let r = all-joined es h.1 in
        ap (λ o. and_then o type_of_list) (ap (λ o. and_then o (λ x. option_map (λ xs. x ∷ xs) (all_some (types_of es g)))) h.0
        ∙ ap (option_map (λ xs. k ∷ xs)) r.1)
        ∙ ap (option_map (compound2 a_matrix int_ty)) (ap (λ o. and_then o (join k)) r.2 ∙ join-next es)

  pub some-true : (es : Exs) → AllOf bool_ty es → type_of (fun1 true Fun.Or (node_ex false matrix_literal es)) g ≡ Some bool_ty
  some-true no_exs h = refl
  some-true (more_exs e es) h =
      one-to (type_of (node_ex false matrix_literal (more_exs e es)) g) (type_of_op (word Fun.Or)) (compound2 a_matrix int_ty bool_ty) bool_ty
      (list-type bool_ty refl refl e es h) refl

  pub all-true : (es : Exs) → AllOf bool_ty es → type_of (fun1 true Fun.And (node_ex false matrix_literal es)) g ≡ Some bool_ty
  all-true no_exs h = refl
  all-true (more_exs e es) h =
      one-to (type_of (node_ex false matrix_literal (more_exs e es)) g) (type_of_op (word Fun.And)) (compound2 a_matrix int_ty bool_ty) bool_ty
      (list-type bool_ty refl refl e es h) refl

  pub sum-type : (es : Exs) → AllOf int_ty es → type_of (fun1 false Fun.Sum (node_ex false matrix_literal es)) g ≡ Some int_ty
  sum-type no_exs h = refl
  sum-type (more_exs e es) h =
      one-to (type_of (node_ex false matrix_literal (more_exs e es)) g) (type_of_op (word Fun.Sum)) (compound2 a_matrix int_ty int_ty) int_ty
      (list-type int_ty refl refl e es h) refl

  -- ---- membership

  equations-type : (x : Ex) (t : Ty) → type_of x g ≡ Some t → (es : Exs) (ts : List Ty) → all_some (types_of es g) ≡ Some ts → EachAgrees t ts →
      AllOf bool_ty (equations x es)
  equations-type x t p no_exs ts q h = tt
  equations-type x t p (more_exs a es) ts q h =
      let r = heads (type_of a g) (all_some (types_of es g)) ts q in
      let k : EachAgrees t (r.0 ∷ r.1) = subst (λ z. EachAgrees t z) (sym r.4) h in
      (equation-type g x a t r.0 p r.2 k.0, equations-type x t p es r.1 r.3 k.1)

  -- In a literal of items that join to j.
  in-listed : (op : Op) (x : Ex) (es : Exs) → ((ts : List Ty) (s t w : Ty) → all_some (types_of es g) ≡ Some ts → type_of_op op ts ≡ Some s →
      and_then (asked_ty s) (λ m. fit t m bool_ty) ≡ Some w → EachAgrees t ts × (w ≡ bool_ty)) →
      ((us : List (Option Ty)) → type_of (node_ex false op es) g ≡ and_then (all_some (types_of es g)) (type_of_op op)) → (w : Ty) →
      type_of (ex2 true Op2.Member x (node_ex false op es)) g ≡ Some w →
      (w ≡ bool_ty) × (type_of (fun1 true Fun.Or (node_ex false matrix_literal (equations x es))) g ≡ Some bool_ty)
  in-listed op x es k n w q =
      let r = two-is (type_of x g) (type_of (node_ex false op es) g) (type_of_op (binary Op2.Member)) w q in
      let l = all-is (all_some (types_of es g)) (type_of_op op) r.1 (sym (n []) ∙ r.3) in
      let c = k l.0 r.1 r.0 w l.1 l.2 r.4 in (c.1, some-true (equations x es) (equations-type x r.0 r.2 es l.0 l.1 c.0))

  of-set : (ts : List Ty) (s t w : Ty) → option_map (compound1 a_set) (join_all ts) ≡ Some s →
      and_then (asked_ty s) (λ m. fit t m bool_ty) ≡ Some w → EachAgrees t ts × (w ≡ bool_ty)
  of-set ts s t w q f =
      let j = map-is (compound1 a_set) (join_all ts) s q in
      let r = given-is (join t j.0) bool_ty w (subst (λ z. and_then (asked_ty z) (λ m. fit t m bool_ty) ≡ Some w) (sym j.2) f) in
      (each-agrees ts j.0 j.1 t r.0, r.1)

  of-mset : (ts : List Ty) (s t w : Ty) → option_map (compound1 a_mset) (join_all ts) ≡ Some s →
      and_then (asked_ty s) (λ m. fit t m bool_ty) ≡ Some w → EachAgrees t ts × (w ≡ bool_ty)
  of-mset ts s t w q f =
      let j = map-is (compound1 a_mset) (join_all ts) s q in
      let r = given-is (join t j.0) bool_ty w (subst (λ z. and_then (asked_ty z) (λ m. fit t m bool_ty) ≡ Some w) (sym j.2) f) in
      (each-agrees ts j.0 j.1 t r.0, r.1)

  -- The tuples of a relation.
  of-tuples : (j s t w : Ty) → not (is_empty_tuple (Some j)) ≡ true → relation_ty j ≡ Some s →
      and_then (asked_ty s) (λ m. fit t m bool_ty) ≡ Some w → Agree t j × (w ≡ bool_ty)
  of-tuples (compound a_tuple (more_tys a ts)) s t w n q f =
      let i : compound a_relation (more_tys a ts) ≡ s = cc in
      given-is (join t (compound a_tuple (more_tys a ts))) bool_ty w
      (subst (λ z. and_then (asked_ty z) (λ m. fit t m bool_ty) ≡ Some w) (sym i) f)
  of-tuples any_ty s t w n q f =
      let i : compound a_relation no_tys ≡ s = cc in
      given-is (join t any_ty) bool_ty w (subst (λ z. and_then (asked_ty z) (λ m. fit t m bool_ty) ≡ Some w) (sym i) f)
  of-tuples _ s t w n q f = (cc, cc)

  of-relation : (es : Exs) → not (is_empty_tuple (and_then (all_some (types_of es g)) join_all)) ≡ true → (ts : List Ty) (s t w : Ty) →
      all_some (types_of es g) ≡ Some ts → and_then (join_all ts) relation_ty ≡ Some s →
      and_then (asked_ty s) (λ m. fit t m bool_ty) ≡ Some w → EachAgrees t ts × (w ≡ bool_ty)
  of-relation es n ts s t w p q f =
      let j = then-is (join_all ts) relation_ty s q in
      let k : not (is_empty_tuple (Some j.0)) ≡ true =
      subst (λ z. not (is_empty_tuple z) ≡ true) j.1 (subst (λ z. not (is_empty_tuple (and_then z join_all)) ≡ true) p n) in
      let r = of-tuples j.0 s t w k j.2 f in (each-agrees ts j.0 j.1 t r.0, r.1)

  listed : (e : Ex) → PartsTold g in_a_literal e → TypeKept g e (member_listed e)
  listed (ex2 true Op2.Member x (node_ex false set_literal es)) n = truth-for g (ex2 true Op2.Member x (node_ex false set_literal es))
      (fun1 true Fun.Or (node_ex false matrix_literal (equations x es)))
      (λ w q. in-listed set_literal x es (λ ts s t w p i f. of-set ts s t w i f) (λ us. refl) w q)
  listed (ex2 true Op2.Member x (node_ex false mset_literal es)) n = truth-for g (ex2 true Op2.Member x (node_ex false mset_literal es))
      (fun1 true Fun.Or (node_ex false matrix_literal (equations x es)))
      (λ w q. in-listed mset_literal x es (λ ts s t w p i f. of-mset ts s t w i f) (λ us. refl) w q)
  listed (ex2 true Op2.Member x (node_ex false relation_literal es)) n = truth-for g (ex2 true Op2.Member x (node_ex false relation_literal es))
      (fun1 true Fun.Or (node_ex false matrix_literal (equations x es)))
      (λ w q. in-listed relation_literal x es (λ ts s t w p i f. of-relation es n ts s t w p i f) (λ us. refl) w q)
  listed _ n = tt

  -- ---- frequencies

  ones-type : (a : Ex) (t : Ty) → type_of a g ≡ Some t → (es : Exs) (ts : List Ty) → all_some (types_of es g) ≡ Some ts → EachAgrees t ts →
      AllOf int_ty (ones_where a es)
  ones-type a t p no_exs ts q h = tt
  ones-type a t p (more_exs b es) ts q h =
      let r = heads (type_of b g) (all_some (types_of es g)) ts q in
      let k : EachAgrees t (r.0 ∷ r.1) = subst (λ z. EachAgrees t z) (sym r.4) h in (
        one-to (type_of (ex2 true Op2.Eq b a) g) (type_of_op (word Fun.ToInt)) bool_ty int_ty
            (equation-type g b a r.0 t r.2 p (turned t r.0 k.0)) refl,
        ones-type a t p es r.1 r.3 k.1,
      )

  counted : (e : Ex) → TypeKept g e (frequency_listed e)
  counted (node_ex false (word Fun.Freq) (more_exs (node_ex false mset_literal es) (more_exs a no_exs))) = λ w q.
      let r = two-is (type_of (node_ex false mset_literal es) g) (type_of a g) (type_of_op (word Fun.Freq)) w q in
      let l = all-is (all_some (types_of es g)) (type_of_op mset_literal) r.0 r.2 in
      let j = map-is (compound1 a_mset) (join_all l.0) r.0 l.2 in
      let i = given-is (join (compound1 a_mset j.0) (compound1 a_mset r.1)) int_ty w
      (subst (λ z. fit z (compound1 a_mset r.1) int_ty ≡ Some w) (sym j.2) r.4) in
      let h : Agree r.1 j.0 = turned j.0 r.1 (of-one a_mset (join j.0 r.1) i.0) in
      sum-type (ones_where a es) (ones-type a r.1 r.3 es l.0 l.1 (each-agrees l.0 j.0 j.1 r.1 h)) ∙ ap Some (sym i.1)
  counted _ = tt

  -- ---- items that differ

  each-unequal : (a : Ex) (t : Ty) → type_of a g ≡ Some t → (es rest : Exs) (ts : List Ty) → all_some (types_of es g) ≡ Some ts →
      EachAgrees t ts → AllOf bool_ty rest → AllOf bool_ty (unequal_each a es rest)
  each-unequal a t p no_exs rest ts q h k = k
  each-unequal a t p (more_exs b es) rest ts q h k =
      let r = heads (type_of b g) (all_some (types_of es g)) ts q in
      let n : EachAgrees t (r.0 ∷ r.1) = subst (λ z. EachAgrees t z) (sym r.4) h in (
        two-to (type_of b g) (type_of a g) (type_of_op (binary Op2.Ne)) r.0 t bool_ty r.2 p (given-to (join r.0 t) bool_ty (turned t r.0 n.0)),
        each-unequal a t p es rest r.1 r.3 n.1 k,
      )

  pairs-unequal : (es : Exs) (ts : List Ty) (j : Ty) → all_some (types_of es g) ≡ Some ts → join_all ts ≡ Some j →
      AllOf bool_ty (unequal_pairs es)
  pairs-unequal no_exs ts j q i = tt
  pairs-unequal (more_exs a es) ts j q i =
      let r = heads (type_of a g) (all_some (types_of es g)) ts q in
      let k = then-is (join_all r.1) (join r.0) j (ap join_all r.4 ∙ i) in
      each-unequal a r.0 r.2 es (unequal_pairs es) r.1 r.3 (each-agrees r.1 k.0 k.1 r.0 (ap is_some k.2)) (pairs-unequal es r.1 k.0 r.3 k.1)

  list-joins : (ts : List Ty) (l : Ty) → type_of_list ts ≡ Some l → (j : Ty) × (join_all ts ≡ Some j)
  list-joins [] l q = (any_ty, refl)
  list-joins (t ∷ ts) l q = let r = map-is (compound2 a_matrix int_ty) (join_all (t ∷ ts)) l q in (r.0, r.1)

  differ : (e : Ex) → TypeKept g e (different_listed e)
  differ (fun1 true Fun.AllDiff (node_ex false matrix_literal es)) = truth-for g (fun1 true Fun.AllDiff (node_ex false matrix_literal es))
      (fun1 true Fun.And (node_ex false matrix_literal (unequal_pairs es))) (λ w q.
      let r = one-is (type_of (node_ex false matrix_literal es) g) (type_of_op (word Fun.AllDiff)) w q in
      let l = all-is (all_some (types_of es g)) type_of_list r.0 r.1 in
      let j = list-joins l.0 r.0 l.2 in
      ((given-is (list_ty r.0) bool_ty w r.2).1, all-true (unequal_pairs es) (pairs-unequal es l.0 j.0 l.1 j.1)))
  differ _ = tt

-- ---- each rule

module _ (s : Supply) (g : Names Ty) where
  unless : (c : Bool) (e : Ex) (r : Option Ex) → TypeKept g e r → TypeKept g e (if c then None else r)
  unless true e r h = tt
  unless false e r h = h

  each-typed : (r : Rule) (e : Ex) → is_of_literals r ≡ true → PartsTold g r e → TypeKept g e (rewrite s g r e)
  each-typed in_a_literal e k n = listed g e n
  each-typed frequency_in_a_literal e k n = counted g e
  each-typed different_items e k n = unless (tells_scalars_apart g e) e (different_listed e) (differ g e)
  each-typed _ e k n = cc

  answered : (e f : Ex) (o : Option Ex) → o ≡ Some f → TypeKept g e o → KeepsType g e f
  answered e f o q h = subst (λ z. TypeKept g e z) q h

pub literal-rules-keep-types : LiteralRulesKeepTypes
literal-rules-keep-types s g r e f q k n = answered s g e f (rewrite s g r e) q (each-typed s g r e k n)
