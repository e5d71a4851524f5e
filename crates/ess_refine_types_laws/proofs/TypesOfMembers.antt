-- Rules of membership and frequencies keep types.
use Rattle.std.proofs.Common.{◌≡◌, refl, sym, ap, ◌∙◌, subst, Bool, true, false, if◌then◌else◌, [], ◌∷◌, Option, Some, None, option_map}
use Rattle.std.specs.Prelude.{is_some}
use Rattle.ess_semantics.specs.declared.words.Op2.{Op2}
use Rattle.ess_semantics.specs.declared.words.Fun.{Fun}
use Rattle.ess_semantics.specs.Lists.{and_then}
use Rattle.ess_semantics.specs.Values.{Text, a_matrix, a_set, a_mset, a_function, a_relation, a_partition, a_tuple}
use Rattle.ess_semantics.specs.Names.{Names}
use Rattle.ess_semantics.specs.Trees.{to_component, binary, word, index, tuple_literal, name_pat, Ex, name_ex, node_ex, comp_ex, ex2, fun1, no_exs, more_exs, no_gens, from}
use Rattle.ess_semantics.specs.Types.{Ty, any_ty, bool_ty, no_tys, more_tys, compound, compound1, compound2, join, fit}
use Rattle.ess_semantics.specs.OperatorTypes.{type_of_op, type_of_word1, member_ty, asked_ty, to_set_ty, to_mset_ty, arguments_ty}
use Rattle.ess_semantics.specs.Typing.{a_name, type_of, type_of_node}
use Rattle.ess_rules_laws.specs.MembershipRules.{is_asked, member_of, member_term, member_changed}
use Rattle.ess_rules_laws.specs.FunctionMembershipRules.{some_component, an_argument, a_result, a_source, member_of_function, member_related, pair_ex}
use Rattle.ess_rules_laws.specs.ComponentRules.{component_of}
use Rattle.ess_guard_types_laws.proofs.JoinedTypes.{Agree, turned, join-any}
use Rattle.ess_refine_types_laws.specs.TypeNames.{IsUntyped}
use Rattle.ess_refine_types_laws.proofs.TypeParts.{one-is, two-is, one-to, two-to, given-is, given-to, no, TypeKept, truth-for, some-over, new-name, term-behind, asked-is, some-member}

-- ---- containers made of others

-- Of a container s made of m `in` asks as of the members of m.
abbrev pub Made : Ty → Ty → Type 0
Made m s = (e : Ty) × (member_ty m ≡ Some e) × ((a t : Ty) → and_then (asked_ty s) (λ n. fit a n bool_ty) ≡ Some t → Agree a e × (t ≡ bool_ty))

agrees-with-any : (a : Ty) → Agree a any_ty
agrees-with-any a = ap is_some (join-any a)

-- A set or multiset of the members.
of-members : (o : Option Ty) (s : Ty) → option_map (compound1 a_set) o ≡ Some s →
    (e : Ty) × (o ≡ Some e) × ((a t : Ty) → and_then (asked_ty s) (λ n. fit a n bool_ty) ≡ Some t → Agree a e × (t ≡ bool_ty))
of-members None s q = (any_ty, cc, cc)
of-members (Some e) s q = (e, refl, λ a t h. go a t (let i : compound1 a_set e ≡ s = cc in subst (λ z. and_then (asked_ty z) (λ n. fit a n bool_ty) ≡ Some t) (sym i) h))
  where
    go : (a t : Ty) → fit a e bool_ty ≡ Some t → Agree a e × (t ≡ bool_ty)
    go a t h = given-is (join a e) bool_ty t h

of-often : (o : Option Ty) (s : Ty) → option_map (compound1 a_mset) o ≡ Some s →
    (e : Ty) × (o ≡ Some e) × ((a t : Ty) → and_then (asked_ty s) (λ n. fit a n bool_ty) ≡ Some t → Agree a e × (t ≡ bool_ty))
of-often None s q = (any_ty, cc, cc)
of-often (Some e) s q = (e, refl, λ a t h. go a t (let i : compound1 a_mset e ≡ s = cc in subst (λ z. and_then (asked_ty z) (λ n. fit a n bool_ty) ≡ Some t) (sym i) h))
  where
    go : (a t : Ty) → fit a e bool_ty ≡ Some t → Agree a e × (t ≡ bool_ty)
    go a t h = given-is (join a e) bool_ty t h

pub made-set : (m s : Ty) → to_set_ty m ≡ Some s → Made m s
made-set any_ty s q = of-members (Some any_ty) s q
made-set (compound a_mset ts) s q = of-members (member_ty (compound a_mset ts)) s q
made-set (compound a_function ts) s q = of-members (member_ty (compound a_function ts)) s q
made-set (compound a_relation ts) s q = of-members (member_ty (compound a_relation ts)) s q
made-set (compound a_matrix ts) s q = of-members (member_ty (compound a_matrix ts)) s q
made-set _ s q = (any_ty, cc, cc)

pub made-mset : (m s : Ty) → to_mset_ty m ≡ Some s → Made m s
made-mset any_ty s q = of-often (Some any_ty) s q
made-mset (compound1 a_set a) s q = of-often (Some a) s q
made-mset (compound2 a_matrix i a) s q = of-often (Some a) s q
made-mset _ s q = (any_ty, cc, cc)

pub made-parts : (m s : Ty) → type_of_word1 Fun.Parts m ≡ Some s → Made m s
made-parts (compound1 a_partition a) s q = of-members (Some (compound1 a_set a)) s q
made-parts any_ty s q =
    let r = of-members (Some (compound1 a_set any_ty)) s q in (any_ty, refl, λ a t h. (agrees-with-any a, (r.2 a t h).1))
made-parts _ s q = (any_ty, cc, cc)

pub made-relation : (m s : Ty) → type_of_word1 Fun.ToRelation m ≡ Some s → Made m s
made-relation (compound2 a_function a b) s q = (
  compound2 a_tuple a b,
  refl,
  λ c t h. given-is (join c (compound2 a_tuple a b)) bool_ty t
      (let i : compound2 a_relation a b ≡ s = cc in subst (λ z. and_then (asked_ty z) (λ n. fit c n bool_ty) ≡ Some t) (sym i) h),
)
made-relation any_ty s q = (
  any_ty,
  refl,
  λ c t h. (
    agrees-with-any c,
    (given-is (join c any_ty) bool_ty t
        (let i : compound a_relation no_tys ≡ s = cc in subst (λ z. and_then (asked_ty z) (λ n. fit c n bool_ty) ≡ Some t) (sym i) h)).1,
  ),
)
made-relation _ s q = (any_ty, cc, cc)

-- Where `in` asks of a container it asks of its members.
pub asks-members : (m e : Ty) → is_asked (Some m) ≡ true → member_ty m ≡ Some e → asked_ty m ≡ Some e
asks-members (compound a_set ts) e h q = q
asks-members (compound a_mset ts) e h q = q
asks-members (compound a_relation ts) e h q = q
asks-members _ e h q = no (let i : false ≡ true = cc in i)

pub member-of-type : (o : Option Ty) (m e : Ty) → o ≡ Some m → member_ty m ≡ Some e → and_then o member_ty ≡ Some e
member-of-type o m e p q = ap (λ z. and_then z member_ty) p ∙ q

module _ (g : Names Ty) (y : Text) where
  -- Membership of m, which is typed as that of s.
  of-typed : (a m s : Ex) → IsUntyped y a →
      ((t : Ty) → type_of (ex2 true Op2.Member a s) g ≡ Some t →
      (ta : Ty) × (tm : Ty) × (e : Ty) × (type_of a g ≡ Some ta) × (type_of m g ≡ Some tm) × (member_ty tm ≡ Some e) × Agree ta e × (t ≡ bool_ty)) →
      TypeKept g (ex2 true Op2.Member a s) (member_of g y a m)
  of-typed a m s u k = go (is_asked (type_of m g)) refl
    where
      go : (c : Bool) → is_asked (type_of m g) ≡ c → TypeKept g (ex2 true Op2.Member a s)
          (if c then Some (ex2 true Op2.Member a m) else member_term y (ex2 true Op2.Member a m))
      go true j = truth-for g (ex2 true Op2.Member a s) (ex2 true Op2.Member a m) (λ t q.
          let r = k t q in (
            r.7,
            two-to (type_of a g) (type_of m g) (type_of_op (binary Op2.Member)) r.0 r.1 bool_ty r.3 r.4
                (ap (λ z. and_then z (λ n. fit r.0 n bool_ty)) (asks-members r.1 r.2 (ap is_asked (sym r.4) ∙ j) r.5)
                ∙ given-to (join r.0 r.2) bool_ty r.6),
          ))
      go false j = truth-for g (ex2 true Op2.Member a s)
          (fun1 true Fun.Or (comp_ex (ex2 true Op2.Eq (name_ex y) a) (from (name_pat y) m no_gens))) (λ t q.
          let r = k t q in (r.7, some-member g y m a r.2 r.0 (member-of-type (type_of m g) r.1 r.2 r.4 r.5) r.3 u r.6))

  -- The types of a membership in what a word makes of m.
  pub made-typed : (f : Fun) → ((m s : Ty) → type_of_word1 f m ≡ Some s → Made m s) → (a m : Ex) (t : Ty) →
      type_of (ex2 true Op2.Member a (fun1 false f m)) g ≡ Some t →
      (ta : Ty) × (tm : Ty) × (e : Ty) × (type_of a g ≡ Some ta) × (type_of m g ≡ Some tm) × (member_ty tm ≡ Some e) × Agree ta e × (t ≡ bool_ty)
  made-typed f k a m t q =
      let r = two-is (type_of a g) (type_of (fun1 false f m) g) (type_of_op (binary Op2.Member)) t q in
      let l = one-is (type_of m g) (type_of_op (word f)) r.1 r.3 in
      let d = k l.0 r.1 l.2 in
      let w = d.2 r.0 t r.4 in (r.0, l.0, d.0, r.2, l.1, d.1, w.0, w.1)

  pub changed : (e : Ex) → IsUntyped y e → TypeKept g e (member_changed g y e)
  changed (ex2 true Op2.Member a (fun1 false Fun.ToSet m)) u =
      of-typed a m (fun1 false Fun.ToSet m) u.0 (made-typed Fun.ToSet made-set a m)
  changed (ex2 true Op2.Member a (fun1 false Fun.ToMSet m)) u =
      of-typed a m (fun1 false Fun.ToMSet m) u.0 (made-typed Fun.ToMSet made-mset a m)
  changed (ex2 true Op2.Member a (fun1 false Fun.Parts m)) u =
      of-typed a m (fun1 false Fun.Parts m) u.0 (made-typed Fun.Parts made-parts a m)
  changed _ u = tt

  pub related : (e : Ex) → IsUntyped y e → TypeKept g e (member_related y e)
  related (ex2 true Op2.Member p (fun1 false Fun.ToRelation f)) u = truth-for g (ex2 true Op2.Member p (fun1 false Fun.ToRelation f))
      (fun1 true Fun.Or (comp_ex (ex2 true Op2.Eq (name_ex y) p) (from (name_pat y) f no_gens))) (λ t q.
      let r = made-typed Fun.ToRelation made-relation p f t q in
      (r.7, some-member g y f p r.2 r.0 (member-of-type (type_of f g) r.1 r.2 r.4 r.5) r.3 u.0 r.6))
  related _ u = tt

  pub member : (e : Ex) → IsUntyped y e → TypeKept g e (member_term y e)
  member (ex2 true Op2.Member a s) u = truth-for g (ex2 true Op2.Member a s)
      (fun1 true Fun.Or (comp_ex (ex2 true Op2.Eq (name_ex y) a) (from (name_pat y) s no_gens))) (λ t q.
      let r = two-is (type_of a g) (type_of s g) (type_of_op (binary Op2.Member)) t q in
      let d = asked-is r.1 r.0 t r.4 in
      (d.3, some-member g y s a d.0 r.0 (member-of-type (type_of s g) r.1 d.0 r.3 d.1) r.2 u.0 d.2))
  member _ u = tt

  -- ---- functions

  -- The component of a pair.
  first-type : (t u : Ty) → type_of (component_of t 1 (name_ex y)) ((y, compound2 a_tuple t u) ∷ g) ≡ Some t
  first-type t u = ap (λ o. type_of_node (index (to_component 1 ∷ [])) (a_name y ∷ []) (o ∷ [])) (new-name g y (compound2 a_tuple t u))

  second-type : (t u : Ty) → type_of (component_of u 2 (name_ex y)) ((y, compound2 a_tuple t u) ∷ g) ≡ Some u
  second-type t u = ap (λ o. type_of_node (index (to_component 2 ∷ [])) (a_name y ∷ []) (o ∷ [])) (new-name g y (compound2 a_tuple t u))

  -- Types of a membership in a set of type s.
  in-set : (a s : Ex) (e t : Ty) → type_of s g ≡ Some (compound1 a_set e) → type_of (ex2 true Op2.Member a s) g ≡ Some t →
      (ta : Ty) × (type_of a g ≡ Some ta) × Agree ta e × (t ≡ bool_ty)
  in-set a s e t p q =
      let r = two-is (type_of a g) (type_of s g) (type_of_op (binary Op2.Member)) t q in
      let i : Some r.1 ≡ Some (compound1 a_set e) = sym r.3 ∙ p in
      let j : r.1 ≡ compound1 a_set e = cc in
      let w = given-is (join r.0 e) bool_ty t (subst (λ z. and_then (asked_ty z) (λ n. fit r.0 n bool_ty) ≡ Some t) j r.4) in
      (r.0, r.2, w.0, w.1)

  argument : (a f : Ex) (o : Option Ty) → type_of f g ≡ o → IsUntyped y a →
      TypeKept g (ex2 true Op2.Member a (fun1 false Fun.Defined f)) (an_argument o y a f)
  argument a f (Some (compound2 a_function t u)) p n = truth-for g (ex2 true Op2.Member a (fun1 false Fun.Defined f)) (some_component y 1 t a f)
      (λ w q.
      let r = in-set a (fun1 false Fun.Defined f) t w (one-to (type_of f g) (type_of_op (word Fun.Defined)) _ _ p refl) q in (
        r.3,
        some-over g y f (ex2 true Op2.Eq (component_of t 1 (name_ex y)) a) (compound2 a_tuple t u) (ap (λ z. and_then z member_ty) p)
            (two-to (type_of (component_of t 1 (name_ex y)) ((y, compound2 a_tuple t u) ∷ g)) (type_of a ((y, compound2 a_tuple t u) ∷ g))
            (type_of_op (binary Op2.Eq)) t r.0 bool_ty (first-type t u) (term-behind g y (compound2 a_tuple t u) a r.0 n r.1)
            (given-to (join t r.0) bool_ty (turned r.0 t r.2))),
      ))
  argument a f _ p n = tt

  result : (a f : Ex) (o : Option Ty) → type_of f g ≡ o → IsUntyped y a →
      TypeKept g (ex2 true Op2.Member a (fun1 false Fun.Range f)) (a_result o y a f)
  result a f (Some (compound2 a_function t u)) p n = truth-for g (ex2 true Op2.Member a (fun1 false Fun.Range f)) (some_component y 2 u a f)
      (λ w q.
      let r = in-set a (fun1 false Fun.Range f) u w (one-to (type_of f g) (type_of_op (word Fun.Range)) _ _ p refl) q in (
        r.3,
        some-over g y f (ex2 true Op2.Eq (component_of u 2 (name_ex y)) a) (compound2 a_tuple t u) (ap (λ z. and_then z member_ty) p)
            (two-to (type_of (component_of u 2 (name_ex y)) ((y, compound2 a_tuple t u) ∷ g)) (type_of a ((y, compound2 a_tuple t u) ∷ g))
            (type_of_op (binary Op2.Eq)) u r.0 bool_ty (second-type t u) (term-behind g y (compound2 a_tuple t u) a r.0 n r.1)
            (given-to (join u r.0) bool_ty (turned r.0 u r.2))),
      ))
  result a f _ p n = tt

  -- ---- preimages

  preimage-is : (s : Ty) (o p : Option Ty) → and_then (option_map (compound a_function) (and_then o (λ v. option_map (more_tys v)
      (and_then p (λ w. option_map (more_tys w) (Some no_tys)))))) arguments_ty ≡ Some s →
      (v : Ty) × (o ≡ Some v) × (is_some p ≡ true) × (s ≡ compound1 a_set v)
  preimage-is s None p q = (any_ty, cc, cc, cc)
  preimage-is s (Some v) None q = (any_ty, cc, cc, cc)
  preimage-is s (Some v) (Some w) q = (v, refl, refl, cc)

  pair-fits : (o p : Option Ty) → is_some o ≡ true → is_some p ≡ true → is_some (option_map (compound a_tuple)
      (and_then o (λ v. option_map (more_tys v) (and_then p (λ w. option_map (more_tys w) (Some no_tys)))))) ≡ true
  pair-fits None p h k = h
  pair-fits (Some v) None h k = k
  pair-fits (Some v) (Some w) h k = refl

  source : (a f b : Ex) (o : Option Ty) → type_of f g ≡ o →
      TypeKept g (ex2 true Op2.Member a (node_ex false (word Fun.PreImage) (more_exs f (more_exs b no_exs)))) (a_source o a f b)
  source a f b (Some (compound2 a_function t u)) p = truth-for g
      (ex2 true Op2.Member a (node_ex false (word Fun.PreImage) (more_exs f (more_exs b no_exs))))
      (ex2 true Op2.Member (pair_ex a b) (fun1 false Fun.ToRelation f)) (λ w q.
      let r = two-is (type_of a g) (type_of (node_ex false (word Fun.PreImage) (more_exs f (more_exs b no_exs))) g)
      (type_of_op (binary Op2.Member)) w q in
      let l = two-is (type_of f g) (type_of b g) (type_of_op (word Fun.PreImage)) r.1 r.3 in
      let i : l.0 ≡ compound2 a_function t u = some-same l.0 (compound2 a_function t u) (sym l.2 ∙ p) in
      let d = preimage-is r.1 (join t any_ty) (join u l.1)
      (subst (λ z. and_then (join z (compound2 a_function any_ty l.1)) arguments_ty ≡ Some r.1) i l.4) in
      let j : d.0 ≡ t = some-same d.0 t (sym d.1 ∙ join-any t) in
      let k = given-is (join r.0 t) bool_ty w
      (subst (λ z. and_then (asked_ty (compound1 a_set z)) (λ n. fit r.0 n bool_ty) ≡ Some w) j
      (subst (λ z. and_then (asked_ty z) (λ n. fit r.0 n bool_ty) ≡ Some w) d.3 r.4)) in (
        k.1,
        two-to (type_of (pair_ex a b) g) (type_of (fun1 false Fun.ToRelation f) g) (type_of_op (binary Op2.Member)) (compound2 a_tuple r.0 l.1)
            (compound2 a_relation t u) bool_ty
            (two-to (type_of a g) (type_of b g) (type_of_op tuple_literal) r.0 l.1 (compound2 a_tuple r.0 l.1) r.2 l.3 refl)
            (one-to (type_of f g) (type_of_op (word Fun.ToRelation)) (compound2 a_function t u) (compound2 a_relation t u) p refl)
            (given-to (join (compound2 a_tuple r.0 l.1) (compound2 a_tuple t u)) bool_ty
            (pair-fits (join r.0 t) (join l.1 u) k.0 (turned u l.1 d.2))),
      ))
    where
      some-same : (v w : Ty) → Some v ≡ Some w → v ≡ w
      some-same v w e = cc
  source a f b _ p = tt

  pub of-function : (e : Ex) → IsUntyped y e → TypeKept g e (member_of_function g y e)
  of-function (ex2 true Op2.Member a (fun1 false Fun.Defined f)) u = argument a f (type_of f g) refl u.0
  of-function (ex2 true Op2.Member a (fun1 false Fun.Range f)) u = result a f (type_of f g) refl u.0
  of-function (ex2 true Op2.Member a (node_ex false (word Fun.PreImage) (more_exs f (more_exs b no_exs)))) u =
      source a f b (type_of f g) refl
  of-function _ u = tt
