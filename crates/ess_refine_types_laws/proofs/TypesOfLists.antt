-- Rules of combined sets, frequencies, parts and lists keep types.
use Rattle.std.proofs.Common.{◌≡◌, refl, sym, ap, ◌∙◌, subst, Bool, true, false, if◌then◌else◌, [], ◌∷◌, pos, Option, Some, None, option_map}
use Rattle.std.specs.Prelude.{IsTrue, is_some}
use Rattle.ess_semantics.specs.declared.words.Op1.{Op1}
use Rattle.ess_semantics.specs.declared.words.Op2.{Op2}
use Rattle.ess_semantics.specs.declared.words.Fun.{Fun}
use Rattle.ess_semantics.specs.Lists.{and_then, all_some}
use Rattle.ess_semantics.specs.Values.{Text, Kind, a_matrix, a_set, a_mset, a_function, a_relation, a_partition, a_tuple}
use Rattle.ess_semantics.specs.Order.{same_kind}
use Rattle.ess_semantics.specs.Names.{Names}
use Rattle.ess_semantics.specs.Trees.{unary, binary, word, name_pat, Ex, number_ex, name_ex, node_ex, comp_ex, ex1, ex2, fun1, no_exs, more_exs, no_gens, from, cond}
use Rattle.ess_semantics.specs.Types.{Ty, Tys, any_ty, bool_ty, int_ty, named_ty, is_open, no_tys, more_tys, compound, compound1, compound2, join, joins, fit}
use Rattle.ess_semantics.specs.OperatorTypes.{type_of_op, member_ty, asked_ty, united, subtracted}
use Rattle.ess_semantics.specs.Typing.{type_of, types_under}
use Rattle.ess_rules_laws.specs.MembershipRules.{member_combined}
use Rattle.ess_rules_laws.specs.SizeRules.{frequency_term}
use Rattle.ess_guard_types_laws.proofs.JoinedTypes.{Agree, below, join-any}
use Rattle.ess_refine_types_laws.specs.TypeNames.{IsUntyped}
use Rattle.ess_refine_types_laws.specs.TypesOfContainers.{CombinedHaveMembers}
use Rattle.ess_refine_types_laws.proofs.TypeParts.{two-is, one-to, two-to, given-is, given-to, there-is, TypeKept, truth-for, new-name, term-behind, asked-of}

-- ---- unions, intersections, differences

-- What agrees with what `in` asks of a combination agrees with what it asks of each.
abbrev AskedBoth : Ty → Ty → Ty → Type 0
AskedBoth x a b = (m : Ty) × (n : Ty) × (asked_ty a ≡ Some m) × (asked_ty b ≡ Some n) × Agree x m × Agree x n

one-below : (t u : Ty) (o : Option Ty) → join t u ≡ o → (x w : Ty) →
    and_then (option_map (compound a_set) (and_then o (λ v. option_map (more_tys v) (Some no_tys)))) united ≡ Some w → (m : Ty) →
    asked_ty w ≡ Some m → Agree x m →
    Agree x t × Agree x u
one-below t u None p x w q m i h = (cc, cc)
one-below t u (Some v) p x w q m i h =
    let j : compound1 a_set v ≡ w = cc in
    let k : Some v ≡ Some m = ap asked_ty j ∙ i in
    let l : v ≡ m = cc in below t u v p x (subst (λ z. Agree x z) (sym l) h)

tuples-below : (ts us : Tys) (o : Option Tys) → joins ts us ≡ o → (t : Ty) (rs : Tys) (u : Ty) (ss : Tys) → ts ≡ more_tys t rs →
    us ≡ more_tys u ss → (x w : Ty) → and_then (option_map (compound a_relation) o) united ≡ Some w → (m : Ty) → asked_ty w ≡ Some m →
    Agree x m →
    Agree x (compound a_tuple ts) × Agree x (compound a_tuple us)
tuples-below ts us None p t rs u ss i j x w q m k h = (cc, cc)
tuples-below ts us (Some no_tys) p t rs u ss i j x w q m k h = absurd (never (join t u) (joins rs ss)
    (ap (λ z. joins (more_tys t rs) z) (sym j) ∙ ap (λ z. joins z us) (sym i) ∙ p))
  where
    never : (a : Option Ty) (b : Option Tys) → and_then a (λ v. option_map (more_tys v) b) ≡ Some no_tys → ⊥
    never None b e = cc
    never (Some v) None e = cc
    never (Some v) (Some vs) e = cc
tuples-below ts us (Some (more_tys v vs)) p t rs u ss i j x w q m k h =
    let l : compound a_relation (more_tys v vs) ≡ w = cc in
    let n : Some (compound a_tuple (more_tys v vs)) ≡ Some m = ap asked_ty l ∙ k in
    let r : compound a_tuple (more_tys v vs) ≡ m = cc in
    below (compound a_tuple ts) (compound a_tuple us) (compound a_tuple (more_tys v vs)) (joined i j) x (subst (λ z. Agree x z) (sym r) h)
  where
    joined : ts ≡ more_tys t rs → us ≡ more_tys u ss → join (compound a_tuple ts) (compound a_tuple us) ≡ Some (compound a_tuple (more_tys v vs))
    joined i j = ap (λ z. join (compound a_tuple z) (compound a_tuple us)) i ∙ ap (λ z. join (compound a_tuple (more_tys t rs)) (compound a_tuple z)) j
        ∙ ap (option_map (compound a_tuple)) (ap (λ z. joins (more_tys t rs) z) (sym j) ∙ ap (λ z. joins z us) (sym i) ∙ p)

agrees-any : (x : Ty) → Agree x any_ty
agrees-any x = ap is_some (join-any x)

-- With one of any type.
with-any : (x a m : Ty) → asked_ty a ≡ Some m → Agree x m → AskedBoth x any_ty a
with-any x a m q h = (any_ty, m, refl, q, agrees-any x, h)

any-with : (x a m : Ty) → asked_ty a ≡ Some m → Agree x m → AskedBoth x a any_ty
any-with x a m q h = (m, any_ty, q, refl, h, agrees-any x)

united-same : (a w : Ty) → united a ≡ Some w → (m : Ty) → asked_ty w ≡ Some m → asked_ty a ≡ Some m
united-same any_ty w q m k = let i : any_ty ≡ w = cc in ap asked_ty i ∙ k
united-same (compound a_set ts) w q m k = let i : compound a_set ts ≡ w = cc in ap asked_ty i ∙ k
united-same (compound a_relation ts) w q m k = let i : compound a_relation ts ≡ w = cc in ap asked_ty i ∙ k
united-same _ w q m k = cc

-- No other kind is united.
not-united : (k : Kind) → ((ts : Tys) → united (compound k ts) ≡ None) → (c : Bool) (o : Option Tys) (w : Ty) →
    and_then (if c then option_map (compound k) o else None) united ≡ Some w → ⊥
not-united k n true None w q = cc
not-united k n true (Some ts) w q = let i = n ts in cc
not-united k n false o w q = cc

abbrev parts_joined : Kind → Tys → Tys → Option Tys
parts_joined k ts us = if is_open k ts then Some us else (if is_open k us then Some ts else joins ts us)

asked-both : (a b x w i j : Ty) → member_ty a ≡ Some i → member_ty b ≡ Some j → and_then (join a b) united ≡ Some w → (m : Ty) →
    asked_ty w ≡ Some m → Agree x m → AskedBoth x a b
asked-both any_ty b x w i j e f q m k h = with-any x b m (united-same b w q m k) h
asked-both (compound1 a_set t) any_ty x w i j e f q m k h =
    any-with x (compound1 a_set t) m (united-same (compound1 a_set t) w q m k) h
asked-both (compound a_relation ts) any_ty x w i j e f q m k h =
    any-with x (compound a_relation ts) m (united-same (compound a_relation ts) w q m k) h
asked-both (compound1 a_set t) (compound1 a_set u) x w i j e f q m k h =
    let r = one-below t u (join t u) refl x w q m k h in (t, u, refl, refl, r.0, r.1)
asked-both (compound a_relation no_tys) (compound a_relation us) x w i j e f q m k h =
    (any_ty, m, refl, united-same (compound a_relation us) w q m k, agrees-any x, h)
asked-both (compound a_relation (more_tys t ts)) (compound a_relation no_tys) x w i j e f q m k h =
    (m, any_ty, united-same (compound a_relation (more_tys t ts)) w q m k, refl, h, agrees-any x)
asked-both (compound a_relation (more_tys t ts)) (compound a_relation (more_tys u us)) x w i j e f q m k h =
    let r = tuples-below (more_tys t ts) (more_tys u us) (joins (more_tys t ts) (more_tys u us)) refl t ts u us refl refl x w q m k h in
    (compound a_tuple (more_tys t ts), compound a_tuple (more_tys u us), refl, refl, r.0, r.1)
asked-both (compound a_mset ts) (compound l us) x w i j e f q m k h =
    absurd (not-united a_mset (λ vs. refl) (same_kind a_mset l) (parts_joined a_mset ts us) w q)
asked-both (compound a_function ts) (compound l us) x w i j e f q m k h =
    absurd (not-united a_function (λ vs. refl) (same_kind a_function l) (parts_joined a_function ts us) w q)
asked-both (compound a_partition ts) (compound l us) x w i j e f q m k h =
    absurd (not-united a_partition (λ vs. refl) (same_kind a_partition l) (parts_joined a_partition ts us) w q)
asked-both (compound a_matrix ts) (compound l us) x w i j e f q m k h =
    absurd (not-united a_matrix (λ vs. refl) (same_kind a_matrix l) (parts_joined a_matrix ts us) w q)
asked-both _ _ x w i j e f q m k h = (any_ty, any_ty, cc, cc, cc, cc)

module _ (g : Names Ty) where
  -- A membership of two that are combined by a word that unites them.
  pub combined-types : (c : Op2) → ((a b w m : Ty) → type_of_op (binary c) (a ∷ b ∷ []) ≡ Some w → asked_ty w ≡ Some m →
      and_then (join a b) united ≡ Some w) → (x a b : Ex) → IsTrue (is_some (and_then (type_of a g) member_ty)) →
      IsTrue (is_some (and_then (type_of b g) member_ty)) → (t : Ty) → type_of (ex2 true Op2.Member x (ex2 false c a b)) g ≡ Some t →
      (t ≡ bool_ty) × (type_of (ex2 true Op2.Member x a) g ≡ Some bool_ty) × (type_of (ex2 true Op2.Member x b) g ≡ Some bool_ty)
  combined-types c k x a b ha hb t q =
      let r = two-is (type_of x g) (type_of (ex2 false c a b) g) (type_of_op (binary Op2.Member)) t q in
      let l = two-is (type_of a g) (type_of b g) (type_of_op (binary c)) r.1 r.3 in
      let d = asked-of (asked_ty r.1) r.0 t r.4 in
      let i = there-is (member_ty l.0) (subst (λ z. is_some (and_then z member_ty) ≡ true) l.2 ha) in
      let j = there-is (member_ty l.1) (subst (λ z. is_some (and_then z member_ty) ≡ true) l.3 hb) in
      let s = asked-both l.0 l.1 r.0 r.1 i.0 j.0 i.1 j.1 (k l.0 l.1 r.1 d.0 l.4 d.1) d.0 d.1 d.2 in (
        d.3,
        two-to (type_of x g) (type_of a g) (type_of_op (binary Op2.Member)) r.0 l.0 bool_ty r.2 l.2
            (ap (λ z. and_then z (λ n. fit r.0 n bool_ty)) s.2 ∙ given-to (join r.0 s.0) bool_ty s.4),
        two-to (type_of x g) (type_of b g) (type_of_op (binary Op2.Member)) r.0 l.1 bool_ty r.2 l.3
            (ap (λ z. and_then z (λ n. fit r.0 n bool_ty)) s.3 ∙ given-to (join r.0 s.1) bool_ty s.5),
      )

  -- What `-` unites.
  pub of-minus : (o : Option Ty) (w m : Ty) → and_then o subtracted ≡ Some w → asked_ty w ≡ Some m → and_then o united ≡ Some w
  of-minus None w m q k = q
  of-minus (Some int_ty) w m q k = cc
  of-minus (Some any_ty) w m q k = q
  of-minus (Some bool_ty) w m q k = q
  of-minus (Some (named_ty t)) w m q k = q
  of-minus (Some (compound c ts)) w m q k = q

  pub combined : (e : Ex) → CombinedHaveMembers g e → TypeKept g e (member_combined e)
  combined (ex2 true Op2.Member x (ex2 false Op2.Union a b)) h = truth-for g (ex2 true Op2.Member x (ex2 false Op2.Union a b))
      (ex2 true Op2.Or (ex2 true Op2.Member x a) (ex2 true Op2.Member x b)) (λ t q.
      let r = combined-types Op2.Union (λ a b w m i k. i) x a b h.0 h.1 t q in (
        r.0,
        two-to (type_of (ex2 true Op2.Member x a) g) (type_of (ex2 true Op2.Member x b) g) (type_of_op (binary Op2.Or)) bool_ty bool_ty bool_ty
            r.1 r.2 refl,
      ))
  combined (ex2 true Op2.Member x (ex2 false Op2.Intersect a b)) h = truth-for g (ex2 true Op2.Member x (ex2 false Op2.Intersect a b))
      (ex2 true Op2.And (ex2 true Op2.Member x a) (ex2 true Op2.Member x b)) (λ t q.
      let r = combined-types Op2.Intersect (λ a b w m i k. i) x a b h.0 h.1 t q in (
        r.0,
        two-to (type_of (ex2 true Op2.Member x a) g) (type_of (ex2 true Op2.Member x b) g) (type_of_op (binary Op2.And)) bool_ty bool_ty bool_ty
            r.1 r.2 refl,
      ))
  combined (ex2 true Op2.Member x (ex2 false Op2.Minus a b)) h = truth-for g (ex2 true Op2.Member x (ex2 false Op2.Minus a b))
      (ex2 true Op2.And (ex2 true Op2.Member x a) (ex1 true Op1.Not (ex2 true Op2.Member x b))) (λ t q.
      let r = combined-types Op2.Minus (λ a b w m i k. of-minus (join a b) w m i k) x a b h.0 h.1 t q in (
        r.0,
        two-to (type_of (ex2 true Op2.Member x a) g) (type_of (ex1 true Op1.Not (ex2 true Op2.Member x b)) g) (type_of_op (binary Op2.And))
            bool_ty bool_ty bool_ty r.1 (one-to (type_of (ex2 true Op2.Member x b) g) (type_of_op (unary Op1.Not)) bool_ty bool_ty r.2 refl)
            refl,
      ))
  combined _ h = tt

  -- ---- frequencies and parts

  module _ (x : Text) where
    pub frequencies : (e : Ex) → IsUntyped x e → TypeKept g e (frequency_term x e)
    frequencies (node_ex false (word Fun.Freq) (more_exs m (more_exs a no_exs))) u = λ t q.
        let r = two-is (type_of m g) (type_of a g) (type_of_op (word Fun.Freq)) t q in
        let i = given-is (join r.0 (compound1 a_mset r.1)) int_ty t r.4 in
        let k = of-mset r.0 r.1 i.0 in
        ones-type m a k.0 r.1 (ap (λ z. and_then z member_ty) r.2 ∙ k.1) r.3 k.2 u.1.0 ∙ ap Some (sym i.1)
      where
        -- A multiset with which the value agrees.
        of-mset : (m t : Ty) → Agree m (compound1 a_mset t) → (e : Ty) × (member_ty m ≡ Some e) × Agree e t
        of-mset any_ty t h = (any_ty, refl, refl)
        of-mset (compound a_mset ts) t h = parts ts t h
          where
            parts : (ts : Tys) (t : Ty) → Agree (compound a_mset ts) (compound1 a_mset t) → (e : Ty)
                × (member_ty (compound a_mset ts) ≡ Some e) × Agree e t
            parts no_tys t h = (any_ty, cc, cc)
            parts (more_tys e no_tys) t h = (e, refl, one (join e t) h)
              where
                one : (o : Option Ty) →
                    is_some (option_map (compound a_mset) (and_then o (λ v. option_map (more_tys v) (Some no_tys)))) ≡ true → is_some o ≡ true
                one None h = h
                one (Some v) h = refl
            parts (more_tys e (more_tys f ts)) t h = absurd (two (join e t) h)
              where
                two : (o : Option Ty) → is_some (option_map (compound a_mset) (and_then o (λ v. option_map (more_tys v) None))) ≡ true → ⊥
                two None h = cc
                two (Some v) h = cc
        of-mset _ t h = (any_ty, cc, cc)

        ones-type : (m a : Ex) (e t : Ty) → and_then (type_of m g) member_ty ≡ Some e → type_of a g ≡ Some t → Agree e t → IsUntyped x a →
            type_of (fun1 false Fun.Sum (comp_ex (number_ex (pos 1)) (from (name_pat x) m (cond (ex2 true Op2.Eq (name_ex x) a) no_gens)))) g
            ≡ Some int_ty
        ones-type m a e t p q h n =
            ap (λ o. and_then (all_some (and_then (and_then o (λ c. types_under (cond (ex2 true Op2.Eq (name_ex x) a) no_gens) ((x, c) ∷ g)))
            (λ h. Some (compound2 a_matrix int_ty int_ty)) ∷ [])) (type_of_op (word Fun.Sum))) p
            ∙ ap (λ o. and_then (all_some (and_then (and_then o (λ c. and_then (join c bool_ty) (λ w. Some ((x, e) ∷ g))))
            (λ h. Some (compound2 a_matrix int_ty int_ty)) ∷ [])) (type_of_op (word Fun.Sum)))
            (two-to (type_of (name_ex x) ((x, e) ∷ g)) (type_of a ((x, e) ∷ g)) (type_of_op (binary Op2.Eq)) e t bool_ty (new-name g x e)
            (term-behind g x e a t n q) (given-to (join e t) bool_ty h))
    frequencies _ u = tt
