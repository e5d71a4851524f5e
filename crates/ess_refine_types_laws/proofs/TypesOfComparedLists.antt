-- Rules of lists and of parts keep types.
use Rattle.std.proofs.Common.{◌≡◌, refl, sym, ap, ◌∙◌, subst, Bool, true, false, ◌&&◌, ◌||◌, not, if◌then◌else◌, List, [], ◌∷◌, pos, Option, Some, None, option_map}
use Rattle.std.specs.Prelude.{is_some}
use Rattle.ess_semantics.specs.declared.words.Op2.{Op2}
use Rattle.ess_semantics.specs.declared.words.Fun.{Fun}
use Rattle.ess_semantics.specs.Lists.{and_then, all_some}
use Rattle.ess_semantics.specs.Values.{Text, Kind, a_matrix, a_set, a_mset, a_function, a_relation, a_partition}
use Rattle.ess_semantics.specs.Order.{same_kind}
use Rattle.ess_semantics.specs.Names.{Names}
use Rattle.ess_semantics.specs.Trees.{binary, word, matrix_literal, name_pat, Ex, number_ex, name_ex, node_ex, comp_ex, ex2, fun1, no_exs, more_exs, no_gens, from}
use Rattle.ess_semantics.specs.Types.{Ty, Tys, any_ty, bool_ty, int_ty, no_tys, more_tys, is_open, compound, compound1, compound2, join, joins, fit, join_all}
use Rattle.ess_semantics.specs.OperatorTypes.{type_of_op, type_of_word1, type_of_word2, type_of_list, member_ty, list_ty, to_mset_ty, included, compared, lex_compared}
use Rattle.ess_semantics.specs.Typing.{type_of, types_of, types_under}
use Rattle.ess_rules_laws.specs.FoldRules.{is_laid_open}
use Rattle.ess_rules_laws.specs.InclusionRules.{every, frequency}
use Rattle.ess_rules_laws.specs.SizeRules.{together_term}
use Rattle.ess_rules_laws.specs.ListRules.{members_list, is_lex, as_members, lex_both, different_term}
use Rattle.ess_guard_types_laws.proofs.JoinedTypes.{Agree, turned, itself, join-any}
use Rattle.ess_refine_types_laws.specs.TypeNames.{IsUntyped}
use Rattle.ess_refine_types_laws.specs.TypesOfContainers.{BothHaveMembers, PartsHaveMembers}
use Rattle.ess_refine_types_laws.proofs.TypeParts.{one-is, two-is, one-to, two-to, given-is, given-to, there-is, no, TypeKept, when-so, truth-for, list-over, every-over, some-over, new-name, term-behind}
use Rattle.ess_refine_types_laws.proofs.TypesThatAgree.{to-one, of-one}

-- ---- parts

-- A set beside a part, where the set may lie in one.
included-so : (k : Kind) → ((ts : Tys) → included (compound k ts) ≡ Some bool_ty) → (o : Option Ty) → is_some o ≡ true →
    and_then (option_map (compound k) (and_then o (λ v. option_map (more_tys v) (Some no_tys)))) included ≡ Some bool_ty
included-so k n None h = cc
included-so k n (Some v) h = n (more_tys v no_tys)

agrees-any : (x : Ty) → Agree x any_ty
agrees-any x = ap is_some (join-any x)

abbrev PartsFit : Ty → Ty → Ty → Type 0
PartsFit s p t = (e : Ty) × (type_of_word1 Fun.Parts p ≡ Some (compound1 a_set (compound1 a_set e)))
    × (and_then (join s (compound1 a_set e)) included ≡ Some bool_ty) × (t ≡ bool_ty)

-- Of a set.
parts-of : (d p t j : Ty) → member_ty p ≡ Some j → fit p (compound1 a_partition d) bool_ty ≡ Some t → PartsFit (compound1 a_set d) p t
parts-of d any_ty t j f q =
    (any_ty, refl, included-so a_set (λ ts. refl) (join d any_ty) (agrees-any d), (given-is (join any_ty (compound1 a_partition d)) bool_ty t q).1)
parts-of d (compound1 a_partition c) t j f q =
    let r = given-is (join (compound1 a_partition c) (compound1 a_partition d)) bool_ty t q in
    (c, refl, included-so a_set (λ ts. refl) (join d c) (turned c d (of-one a_partition (join c d) r.0)), r.1)
parts-of d _ t j f q = (any_ty, cc, cc, cc)

parts-fit : (s p t i j : Ty) → member_ty s ≡ Some i → member_ty p ≡ Some j → type_of_word2 Fun.Together s p ≡ Some t → PartsFit s p t
parts-fit any_ty any_ty t i j e f q = (any_ty, refl, refl, (given-is (join any_ty (compound1 a_partition any_ty)) bool_ty t q).1)
parts-fit any_ty (compound1 a_partition c) t i j e f q =
    (c, refl, refl, (given-is (join (compound1 a_partition c) (compound1 a_partition any_ty)) bool_ty t q).1)
parts-fit (compound1 a_set d) p t i j e f q = parts-of d p t j f (read d p q)
  where
    read : (d p : Ty) → type_of_word2 Fun.Together (compound1 a_set d) p ≡ Some t → fit p (compound1 a_partition d) bool_ty ≡ Some t
    read d p q = sym (ap (λ o. and_then (option_map (compound a_set) (and_then o (λ v. option_map (more_tys v) (Some no_tys))))
        (λ z. and_then (member_ty z) (λ n. fit p (compound1 a_partition n) bool_ty))) (join-any d)) ∙ q
parts-fit _ _ t i j e f q = (any_ty, cc, cc, cc)

-- ---- lists

-- The index types of lists: numbers, and that of an empty literal.
abbrev is_of_numbers : Ty → Bool
is_of_numbers int_ty = true
is_of_numbers any_ty = true
is_of_numbers t = false

numbers-agree : (i j : Ty) → is_of_numbers i ≡ true → is_of_numbers j ≡ true → Agree i j
numbers-agree int_ty int_ty h k = refl
numbers-agree int_ty any_ty h k = refl
numbers-agree any_ty j h k = refl
numbers-agree _ _ h k = cc

lex-type : (o : Op2) → is_lex o ≡ true → (a b : Ty) → type_of_op (binary o) (a ∷ b ∷ []) ≡ and_then (join a b) lex_compared
lex-type Op2.LexLt h a b = refl
lex-type Op2.LexLe h a b = refl
lex-type Op2.LexGt h a b = refl
lex-type Op2.LexGe h a b = refl
lex-type _ h a b = cc

-- The parts of two matrices.
abbrev two_joined : Option Ty → Option Ty → Option Ty
two_joined o p = option_map (compound a_matrix) (and_then o (λ v. option_map (more_tys v) (and_then p (λ w. option_map (more_tys w)
    (Some no_tys)))))

items-compared : (o p : Option Ty) (t : Ty) → and_then (two_joined o p) lex_compared ≡ Some t → and_then p compared ≡ Some t
items-compared None p t q = cc
items-compared (Some v) None t q = cc
items-compared (Some v) (Some w) t q = q

lists-compared : (o p : Option Ty) (t : Ty) → is_some o ≡ true → and_then p compared ≡ Some t → and_then (two_joined o p) lex_compared ≡ Some t
lists-compared None p t h q = cc
lists-compared (Some v) None t h q = cc
lists-compared (Some v) (Some w) t h q = q

-- No other kind is compared so.
not-compared : (k : Kind) → ((ts : Tys) → lex_compared (compound k ts) ≡ None) → (c : Bool) (o : Option Tys) (t : Ty) →
    and_then (if c then option_map (compound k) o else None) lex_compared ≡ Some t → ⊥
not-compared k n true None t q = cc
not-compared k n true (Some ts) t q = let i = n ts in cc
not-compared k n false o t q = cc

abbrev parts_joined : Kind → Tys → Tys → Option Tys
parts_joined k ts us = if is_open k ts then Some us else (if is_open k us then Some ts else joins ts us)

abbrev ItemsCompared : Ty → Ty → Ty → Type 0
ItemsCompared a b t = (e : Ty) × (f : Ty) × (list_ty a ≡ Some e) × (list_ty b ≡ Some f) × (and_then (join e f) compared ≡ Some t)

both-lists : (a b t i j : Ty) → member_ty a ≡ Some i → member_ty b ≡ Some j → and_then (join a b) lex_compared ≡ Some t → ItemsCompared a b t
both-lists any_ty any_ty t i j e f q = (any_ty, any_ty, refl, refl, q)
both-lists any_ty (compound2 a_matrix k d) t i j e f q = (any_ty, d, refl, refl, q)
both-lists (compound2 a_matrix k c) any_ty t i j e f q = (c, any_ty, refl, refl, ap (λ o. and_then o compared) (join-any c) ∙ q)
both-lists (compound2 a_matrix k c) (compound2 a_matrix l d) t i j e f q =
    (c, d, refl, refl, items-compared (join k l) (join c d) t q)
both-lists (compound a_set ts) (compound l us) t i j e f q =
    absurd (not-compared a_set (λ vs. refl) (same_kind a_set l) (parts_joined a_set ts us) t q)
both-lists (compound a_mset ts) (compound l us) t i j e f q =
    absurd (not-compared a_mset (λ vs. refl) (same_kind a_mset l) (parts_joined a_mset ts us) t q)
both-lists (compound a_function ts) (compound l us) t i j e f q =
    absurd (not-compared a_function (λ vs. refl) (same_kind a_function l) (parts_joined a_function ts us) t q)
both-lists (compound a_relation ts) (compound l us) t i j e f q =
    absurd (not-compared a_relation (λ vs. refl) (same_kind a_relation l) (parts_joined a_relation ts us) t q)
both-lists (compound a_partition ts) (compound l us) t i j e f q =
    absurd (not-compared a_partition (λ vs. refl) (same_kind a_partition l) (parts_joined a_partition ts us) t q)
both-lists _ _ t i j e f q = (any_ty, any_ty, cc, cc, cc)

list-members : (a e : Ty) → list_ty a ≡ Some e → member_ty a ≡ Some e
list-members any_ty e q = q
list-members (compound2 a_matrix i t) e q = q
list-members _ e q = cc

module _ (g : Names Ty) (x : Text) where
  pub one-part : (e : Ex) → IsUntyped x e → PartsHaveMembers g e → TypeKept g e (together_term x e)
  one-part (node_ex true (word Fun.Together) (more_exs s (more_exs p no_exs))) u k =
      truth-for g (node_ex true (word Fun.Together) (more_exs s (more_exs p no_exs)))
      (fun1 true Fun.Or (comp_ex (ex2 true Op2.SubsetEq s (name_ex x)) (from (name_pat x) (fun1 false Fun.Parts p) no_gens))) (λ t q.
      let r = two-is (type_of s g) (type_of p g) (type_of_op (word Fun.Together)) t q in
      let i = there-is (member_ty r.0) (subst (λ z. is_some (and_then z member_ty) ≡ true) r.2 k.0) in
      let j = there-is (member_ty r.1) (subst (λ z. is_some (and_then z member_ty) ≡ true) r.3 k.1) in
      let d = parts-fit r.0 r.1 t i.0 j.0 i.1 j.1 r.4 in (
        d.3,
        some-over g x (fun1 false Fun.Parts p) (ex2 true Op2.SubsetEq s (name_ex x)) (compound1 a_set d.0)
            (ap (λ o. and_then o member_ty) (one-to (type_of p g) (type_of_op (word Fun.Parts)) r.1 (compound1 a_set (compound1 a_set d.0)) r.3 d.1))
            (two-to (type_of s ((x, compound1 a_set d.0) ∷ g)) (type_of (name_ex x) ((x, compound1 a_set d.0) ∷ g))
            (type_of_op (binary Op2.SubsetEq)) r.0 (compound1 a_set d.0) bool_ty (term-behind g x (compound1 a_set d.0) s r.0 u.0 r.2)
            (new-name g x (compound1 a_set d.0)) d.2),
      ))
  one-part _ u k = tt

  -- The multiset of the items of a list.
  items-often : (l e : Ty) → list_ty l ≡ Some e → to_mset_ty l ≡ Some (compound1 a_mset e)
  items-often any_ty e q = ap (option_map (compound1 a_mset)) q
  items-often (compound2 a_matrix i t) e q = ap (option_map (compound1 a_mset)) q
  items-often _ e q = cc

  pub different : (e : Ex) → IsUntyped x e → TypeKept g e (different_term x e)
  different (fun1 true Fun.AllDiff l) u = truth-for g (fun1 true Fun.AllDiff l)
      (every x l (ex2 true Op2.Eq (frequency (fun1 false Fun.ToMSet l) (name_ex x)) (number_ex (pos 1)))) (λ t q.
      let r = one-is (type_of l g) (type_of_op (word Fun.AllDiff)) t q in
      let d = given-is (list_ty r.0) bool_ty t r.2 in
      let i = there-is (list_ty r.0) d.0 in (
        d.1,
        every-over g x l (ex2 true Op2.Eq (frequency (fun1 false Fun.ToMSet l) (name_ex x)) (number_ex (pos 1))) i.0
            (ap (λ o. and_then o member_ty) r.1 ∙ list-members r.0 i.0 i.1)
            (two-to (type_of (frequency (fun1 false Fun.ToMSet l) (name_ex x)) ((x, i.0) ∷ g)) (Some int_ty) (type_of_op (binary Op2.Eq)) int_ty int_ty
            bool_ty
            (two-to (type_of (fun1 false Fun.ToMSet l) ((x, i.0) ∷ g)) (type_of (name_ex x) ((x, i.0) ∷ g)) (type_of_op (word Fun.Freq))
            (compound1 a_mset i.0) i.0 int_ty
            (one-to (type_of l ((x, i.0) ∷ g)) (type_of_op (word Fun.ToMSet)) r.0 (compound1 a_mset i.0) (term-behind g x i.0 l r.0 u.0 r.1)
            (items-often r.0 i.0 i.1))
            (new-name g x i.0) (given-to (join (compound1 a_mset i.0) (compound1 a_mset i.0)) int_ty (to-one a_mset (join i.0 i.0) (itself i.0))))
            refl refl),
      ))
  different _ u = tt

  -- The type of what is laid open.
  laid-open : (s : Ex) → is_laid_open s ≡ true → (t e : Ty) → type_of s g ≡ Some t → list_ty t ≡ Some e →
      (i : Ty) × (is_of_numbers i ≡ true) × (type_of s g ≡ Some (compound2 a_matrix i e))
  laid-open (comp_ex b gs) h t e q l = (
    int_ty,
    refl,
    items (and_then (types_under gs g) (λ k. option_map (compound2 a_matrix int_ty) (type_of b k)))
        (inside (types_under gs g)) q,
  )
    where
      IsList : Option Ty → Type 0
      IsList o = (c : Ty) → o ≡ Some c → (d : Ty) × (c ≡ compound2 a_matrix int_ty d)

      of-map : (o : Option Ty) → IsList (option_map (compound2 a_matrix int_ty) o)
      of-map None c p = (any_ty, cc)
      of-map (Some d) c p = (d, cc)

      inside : (o : Option (Names Ty)) → IsList (and_then o (λ k. option_map (compound2 a_matrix int_ty) (type_of b k)))
      inside None c p = (any_ty, cc)
      inside (Some k) c p = of-map (type_of b k) c p

      items : (o : Option Ty) → IsList o → o ≡ Some t → o ≡ Some (compound2 a_matrix int_ty e)
      items o k p =
          let r = k t p in
          let m : Some r.0 ≡ Some e = sym (ap list_ty r.1) ∙ l in
          let n : r.0 ≡ e = cc in p ∙ ap Some (r.1 ∙ ap (compound2 a_matrix int_ty) n)
  laid-open (node_ex false matrix_literal es) h t e q l = go (all_some (types_of es g)) q
    where
      go : (o : Option (List Ty)) → and_then o type_of_list ≡ Some t →
          (i : Ty) × (is_of_numbers i ≡ true) × (and_then o type_of_list ≡ Some (compound2 a_matrix i e))
      go None p = (int_ty, refl, cc)
      go (Some []) p =
          let j : compound2 a_matrix any_ty any_ty ≡ t = cc in
          let m : Some any_ty ≡ Some e = ap list_ty j ∙ l in
          let n : any_ty ≡ e = cc in (any_ty, refl, ap (λ z. Some (compound2 a_matrix any_ty z)) n)
      go (Some (c ∷ cs)) p = (int_ty, refl, joined (join_all (c ∷ cs)) p)
        where
          joined : (o : Option Ty) → option_map (compound2 a_matrix int_ty) o ≡ Some t →
              option_map (compound2 a_matrix int_ty) o ≡ Some (compound2 a_matrix int_ty e)
          joined None p = cc
          joined (Some d) p =
              let j : compound2 a_matrix int_ty d ≡ t = cc in
              let m : Some d ≡ Some e = ap list_ty j ∙ l in
              let n : d ≡ e = cc in ap (λ z. Some (compound2 a_matrix int_ty z)) n
  laid-open _ h t e q l = (int_ty, refl, no (let i : false ≡ true = cc in i))

  -- The type of a term as a list.
  as-list : (s : Ex) (t e : Ty) → type_of s g ≡ Some t → list_ty t ≡ Some e →
      (i : Ty) × (is_of_numbers i ≡ true) × (type_of (as_members x s) g ≡ Some (compound2 a_matrix i e))
  as-list s t e q l = go (is_laid_open s) refl
    where
      go : (c : Bool) → is_laid_open s ≡ c →
          (i : Ty) × (is_of_numbers i ≡ true) × (type_of (if c then s else members_list x s) g ≡ Some (compound2 a_matrix i e))
      go true k = laid-open s k t e q l
      go false k = (int_ty, refl, list-over g x s (name_ex x) e e (ap (λ o. and_then o member_ty) q ∙ list-members t e l) (new-name g x e))

  pub both-sides : (e : Ex) → BothHaveMembers g e → TypeKept g e (lex_both x e)
  both-sides (ex2 true o a b) k = when-so g (is_lex o && (not (is_laid_open a) || not (is_laid_open b))) (ex2 true o a b)
      (ex2 true o (as_members x a) (as_members x b)) (λ c t q.
      let h = left (is_lex o) (not (is_laid_open a) || not (is_laid_open b)) c in
      let r = two-is (type_of a g) (type_of b g) (type_of_op (binary o)) t q in
      let i = there-is (member_ty r.0) (subst (λ z. is_some (and_then z member_ty) ≡ true) r.2 k.0) in
      let j = there-is (member_ty r.1) (subst (λ z. is_some (and_then z member_ty) ≡ true) r.3 k.1) in
      let d = both-lists r.0 r.1 t i.0 j.0 i.1 j.1 (sym (lex-type o h r.0 r.1) ∙ r.4) in
      let m = as-list a r.0 d.0 r.2 d.2 in
      let n = as-list b r.1 d.1 r.3 d.3 in
      two-to (type_of (as_members x a) g) (type_of (as_members x b) g) (type_of_op (binary o)) (compound2 a_matrix m.0 d.0)
      (compound2 a_matrix n.0 d.1) t m.2 n.2
      (lex-type o h (compound2 a_matrix m.0 d.0) (compound2 a_matrix n.0 d.1)
      ∙ lists-compared (join m.0 n.0) (join d.0 d.1) t (numbers-agree m.0 n.0 m.1 n.1) d.4))
    where
      left : (c d : Bool) → c && d ≡ true → c ≡ true
      left true d h = refl
      left false d h = h
  both-sides _ k = tt
