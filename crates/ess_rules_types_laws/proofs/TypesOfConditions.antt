-- Rules of conditions that read cells keep types.
use Rattle.std.proofs.Common.{◌≡◌, refl, sym, ap, ◌∙◌, subst, Bool, true, false, not, ◌&&◌, if◌then◌else◌, [], ◌∷◌, pos, Option, Some, None, option_map}
use Rattle.std.specs.Prelude.{is_some}
use Rattle.ess_semantics.specs.declared.words.Op1.{Op1}
use Rattle.ess_semantics.specs.declared.words.Op2.{Op2}
use Rattle.ess_semantics.specs.declared.words.Fun.{Fun}
use Rattle.ess_semantics.specs.Lists.{and_then}
use Rattle.ess_semantics.specs.Values.{a_matrix}
use Rattle.ess_semantics.specs.Names.{Names}
use Rattle.ess_semantics.specs.Trees.{binary, unary, word, Pat, Ex, number_ex, comp_ex, ex1, ex2, fun1, Gens, no_gens, over, from, cond, Dom}
use Rattle.ess_semantics.specs.Types.{Ty, any_ty, bool_ty, int_ty, named_ty, compound, compound2, join, fit, type_of_dom, bind_types}
use Rattle.ess_semantics.specs.OperatorTypes.{type_of_op, type_of_binary}
use Rattle.ess_semantics.specs.Typing.{type_of, types_under}
use Rattle.ess_semantics.specs.NamesAt.{names_behind}
use Rattle.ess_semantics.specs.Refined.{is_refined, are_refined_gens}
use Rattle.ess_semantics.proofs.Tests.{and-left, and-right}
use Rattle.ess_types_laws.proofs.ResolvedTypes.{behind-types}
use Rattle.ess_rules_laws.specs.SourceRules.{is_marked}
use Rattle.ess_rules_laws.specs.SpliceRules.{append_gens}
use Rattle.ess_refine_laws.specs.TypesStay.{KeepsType}
use Rattle.ess_refine_laws.specs.Everywhere.{chosen, everywhere, everywhere_gens, everywhere_dom}
use Rattle.ess_refine_laws.specs.LeavingConditions.{Parted, at_last_condition, under_condition, condition_leaves}
use Rattle.ess_refine_laws.specs.MovingConditions.{one_later, condition_later}
use Rattle.ess_refine_laws.specs.ExtremeRules.{is_extreme, are_none, either_number, extreme_condition}
use Rattle.ess_refine_laws.proofs.LeavingConditions.{MakesUp, made-up}
use Rattle.ess_refine_types_laws.proofs.TypeParts.{one-is, one-to, two-to, TypeKept, when-so}
use Rattle.ess_refine_types_laws.proofs.TypeNames.{type-same}
use Rattle.ess_rules_types_laws.specs.TypesOfOthers.{is_numeric, SizesNumbers, LeavesNumbers, StaysTyped, LaterTyped, OppositeTyped}
use Rattle.ess_rules_types_laws.proofs.PutListed.{append-types, past-pattern}
use Rattle.ess_rules_types_laws.proofs.TypesOfSources.{folded, fold-gives, numbers-of}
use Rattle.ess_rules_types_laws.proofs.TypesOfLeast.{extreme-is}
use Rattle.ess_rules_types_laws.proofs.NumbersEverywhere.{never, number-is, two-numbers}
use Rattle.ess_rules_types_laws.proofs.BehindConditions.{Behind, behind, with-truth, truth-number}
use Rattle.ess_rules_types_laws.proofs.EverywhereTyped.{gens-everywhere, dom-everywhere, number-everywhere}

-- A number times another.
times-is : (u : Ty) → is_numeric (Some u) ≡ true → type_of_binary Op2.Times int_ty u ≡ Some int_ty
times-is any_ty h = refl
times-is int_ty h = refl
times-is _ h = cc

module _ (k : Names Ty) (c : Ex) (t : Ty) (p : type_of c k ≡ Some t) (h : is_some (join t bool_ty) ≡ true) where
  chosen-is : type_of (chosen c) k ≡ Some int_ty
  chosen-is = one-to (type_of c k) (type_of_op (word Fun.ToInt)) t int_ty p (truth-number t h)

  times-chosen : (e : Ex) → is_numeric (type_of e k) ≡ true → type_of (ex2 false Op2.Times (chosen c) e) k ≡ Some int_ty
  times-chosen e n = let r = number-is (type_of e k) n in
      two-to (type_of (chosen c) k) (type_of e k) (type_of_op (binary Op2.Times)) int_ty r.ty int_ty chosen-is r.there
      (times-is r.ty r.fits)

  less-one : (e : Ex) → is_numeric (type_of e k) ≡ true → is_numeric (type_of (ex2 false Op2.Minus e (number_ex (pos 1))) k) ≡ true
  less-one e n = two-numbers Op2.Minus (type_of e k) (Some int_ty) refl n refl

  -- What is folded under the condition.
  under-typed : (m : Bool) (f : Fun) → is_marked m f ≡ true → (e : Ex) → type_of e k ≡ Some (folded m) →
      (m ≡ false → is_numeric (type_of (everywhere e) k) ≡ true) → type_of (under_condition f c e) k ≡ Some (folded m)
  under-typed true Fun.And i e q n =
      two-to (type_of c k) (type_of e k) (type_of_op (binary Op2.Implies)) t bool_ty bool_ty p q (with-truth t h)
  under-typed true Fun.Or i e q n =
      two-to (type_of c k) (type_of e k) (type_of_op (binary Op2.And)) t bool_ty bool_ty p q (with-truth t h)
  under-typed false Fun.Sum i e q n = times-chosen (everywhere e) (n refl)
  under-typed false Fun.Product i e q n =
      two-to (type_of (ex2 false Op2.Times (chosen c) (ex2 false Op2.Minus (everywhere e) (number_ex (pos 1)))) k) (Some int_ty)
      (type_of_op (binary Op2.Plus)) int_ty int_ty int_ty
      (times-chosen (ex2 false Op2.Minus (everywhere e) (number_ex (pos 1))) (less-one (everywhere e) (n refl))) refl refl
  under-typed true _ i e q n = cc
  under-typed false _ i e q n = cc

-- The fold of what a fold gives.
again : (m : Bool) (f : Fun) → is_marked m f ≡ true → type_of_op (word f) (compound2 a_matrix int_ty (folded m) ∷ []) ≡ Some (folded m)
again true Fun.And i = refl
again true Fun.Or i = refl
again false Fun.Sum i = refl
again false Fun.Product i = refl
again true _ i = cc
again false _ i = cc

folded-number : (m : Bool) → m ≡ false → is_numeric (Some (folded m)) ≡ true
folded-number true q = cc
folded-number false q = refl

-- Nothing is asked of a fold but of its list.
fold-sizes : (m : Bool) (f : Fun) (l : Ex) (k : Names Ty) → SizesNumbers l k → SizesNumbers (fun1 m f l) k
fold-sizes m f l k s = (refl, (s, tt))

module _ (g : Names Ty) where
  -- ---- a condition leaves

  parted-leaves : (m : Bool) (f : Fun) (e : Ex) (gs : Gens) → is_marked m f ≡ true → (t : Parted) →
      gs ≡ append_gens t.before (cond t.condition t.after) → LeavesNumbers g e (Some t) →
      KeepsType g (fun1 m f (comp_ex e gs)) (fun1 m f (comp_ex (under_condition f t.condition (fun1 m f (comp_ex e t.after))) t.before))
  parted-leaves m f e gs i t u n v q =
      let r = one-is (type_of (comp_ex e gs) g) (type_of_op (word f)) v q in
      let L : Names Ty → Option Ty = λ h. option_map (compound2 a_matrix int_ty) (type_of e h) in
      let b = behind t.before t.after t.condition g L r.0 (ap (λ z. and_then (types_under z g) L) (sym u) ∙ r.1) in
      let w : v ≡ folded m = fold-gives m f i r.0 v r.2 in
      let inner : type_of (fun1 m f (comp_ex e t.after)) b.names ≡ Some (folded m) =
      one-to (type_of (comp_ex e t.after) b.names) (type_of_op (word f)) r.0 (folded m) b.rest (r.2 ∙ ap Some w) in
      let sizes : SizesNumbers (comp_ex e t.after) b.names =
      subst (SizesNumbers (comp_ex e t.after)) (behind-types t.before g b.names b.under) n in
      let body = under-typed b.names t.condition b.truth b.typed b.is_truth m f i (fun1 m f (comp_ex e t.after)) inner
      (λ z. number-everywhere (fun1 m f (comp_ex e t.after)) b.names (fold-sizes m f (comp_ex e t.after) b.names sizes)
      (ap is_numeric inner ∙ folded-number m z)) in
      one-to (type_of (comp_ex (under_condition f t.condition (fun1 m f (comp_ex e t.after))) t.before) g) (type_of_op (word f))
      (compound2 a_matrix int_ty (folded m)) v
      (ap (λ o. and_then o (λ h. option_map (compound2 a_matrix int_ty) (type_of (under_condition f t.condition (fun1 m f
      (comp_ex e t.after)))
      h))) b.under ∙ ap (option_map (compound2 a_matrix int_ty)) body)
      (again m f i ∙ ap Some (sym w))

  pub leaves : (e : Ex) (m : Bool) (f : Fun) (gs : Gens) → LeavesNumbers g e (at_last_condition gs) →
      TypeKept g (fun1 m f (comp_ex e gs)) (condition_leaves (fun1 m f (comp_ex e gs)))
  leaves e m f gs n = go (at_last_condition gs) (made-up gs) n
    where
      go : (o : Option Parted) → MakesUp o gs → LeavesNumbers g e o → TypeKept g (fun1 m f (comp_ex e gs)) (elim o [
        | None ↦ None
        | Some t ↦ if is_marked m f && (is_refined t.condition && (is_refined e && are_refined_gens t.after))
            then Some (fun1 m f (comp_ex (under_condition f t.condition (fun1 m f (comp_ex e t.after))) t.before)) else None
      ])
      go None u n = tt
      go (Some t) u n = when-so g (is_marked m f && (is_refined t.condition && (is_refined e && are_refined_gens t.after)))
          (fun1 m f (comp_ex e gs)) (fun1 m f (comp_ex (under_condition f t.condition (fun1 m f (comp_ex e t.after))) t.before)) (λ c.
          parted-leaves m f e gs
          (and-left (is_marked m f) (is_refined t.condition && (is_refined e && are_refined_gens t.after)) c) t u n)

  -- ---- a condition moves

  yes-not : (b : Bool) → not b ≡ true → b ≡ false
  yes-not true h = cc
  yes-not false h = refl

  -- The condition has the type that it had behind the generator.
  later-types : (k : Names Ty) (p : Pat) (d : Dom) (c : Ex) (t : Ty) → type_of c k ≡ Some t → StaysTyped c (over p d no_gens) →
      type_of c (bind_types p (type_of_dom d) k) ≡ Some t
  later-types k p d c t q n =
      type-same (λ a. not (n.0 a)) c (bind_types p (type_of_dom d) k) k n.2
      (λ a i. past-pattern n.0 p (type_of_dom d) k a n.1 (yes-not (n.0 a) i)) ∙ q

  truth-then : {A : Type 0} (o : Option Ty) (t : Ty) → o ≡ Some t → is_some (join t bool_ty) ≡ true → (x : Option A) →
      and_then o (λ v. and_then (join v bool_ty) (λ u. x)) ≡ x
  truth-then {A} o t q h x = ap (λ z. and_then z (λ v. and_then (join v bool_ty) (λ u. x))) q ∙ go (join t bool_ty) h
    where
      go : (j : Option Ty) → is_some j ≡ true → and_then j (λ u. x) ≡ x
      go None h = never h
      go (Some u) h = refl

  moved : (before hs ks : Gens) (c : Ex) (L : Names Ty → Option Ty) (v : Ty) → StaysTyped c hs → one_later c hs ≡ Some ks →
      Behind before hs c g L v → and_then (types_under (append_gens before ks) g) L ≡ Some v
  moved before (over p d hs) ks c L v n q b =
      let i : over p (everywhere_dom d) (cond c hs) ≡ ks = cc in
      ap (λ z. and_then (types_under (append_gens before z) g) L) (sym i)
      ∙ ap (λ o. and_then o L) (append-types before (over p (everywhere_dom d) (cond c hs)) g)
      ∙ ap (λ o. and_then (and_then o (types_under (over p (everywhere_dom d) (cond c hs)))) L) b.under
      ∙ ap (λ t. and_then (types_under (cond c hs) (bind_types p t b.names)) L) (dom-everywhere d)
      ∙ ap (λ o. and_then o L) (truth-then (type_of c (bind_types p (type_of_dom d) b.names)) b.truth
      (later-types b.names p d c b.truth b.typed n) b.is_truth (types_under hs (bind_types p (type_of_dom d) b.names))) ∙ b.rest
  moved before (cond a hs) ks c L v n q b =
      let i : cond a (cond c hs) ≡ ks = cc in
      ap (λ z. and_then (types_under (append_gens before z) g) L) (sym i)
      ∙ ap (λ o. and_then o L) (append-types before (cond a (cond c hs)) g)
      ∙ ap (λ o. and_then (and_then o (types_under (cond a (cond c hs)))) L) b.under
      ∙ ap (λ o. and_then (and_then (type_of a b.names) (λ v. and_then (join v bool_ty) (λ u. o))) L)
      (truth-then (type_of c b.names) b.truth b.typed b.is_truth (types_under hs b.names)) ∙ b.rest
  moved before (from p e hs) ks c L v n q b = cc
  moved before no_gens ks c L v n q b = cc

  parted-later : (f : Fun) (e : Ex) (gs : Gens) (t : Parted) (ks : Gens) → gs ≡ append_gens t.before (cond t.condition t.after) →
      StaysTyped t.condition t.after → one_later t.condition t.after ≡ Some ks →
      KeepsType g (fun1 false f (comp_ex e gs)) (fun1 false f (comp_ex e (append_gens t.before ks)))
  parted-later f e gs t ks u n i v q =
      let r = one-is (type_of (comp_ex e gs) g) (type_of_op (word f)) v q in
      let L : Names Ty → Option Ty = λ h. option_map (compound2 a_matrix int_ty) (type_of e h) in
      let b = behind t.before t.after t.condition g L r.0 (ap (λ z. and_then (types_under z g) L) (sym u) ∙ r.1) in
      one-to (type_of (comp_ex e (append_gens t.before ks)) g) (type_of_op (word f)) r.0 v
      (moved t.before t.after ks t.condition L r.0 n i b) r.2

  pub later : (e : Ex) (f : Fun) (gs : Gens) → LaterTyped (at_last_condition gs) →
      TypeKept g (fun1 false f (comp_ex e gs)) (condition_later (fun1 false f (comp_ex e gs)))
  later e f gs n = go (at_last_condition gs) (made-up gs) n
    where
      root : Ex
      root = fun1 false f (comp_ex e gs)

      moves : (t : Parted) → gs ≡ append_gens t.before (cond t.condition t.after) → StaysTyped t.condition t.after → (o : Option Gens) →
          one_later t.condition t.after ≡ o →
          TypeKept g root (option_map (λ hs. fun1 false f (comp_ex e (append_gens t.before hs))) o)
      moves t u n None i = tt
      moves t u n (Some ks) i = parted-later f e gs t ks u n i

      under : (c : Bool) (r : Option Ex) → TypeKept g root r → TypeKept g root (if c then r else None)
      under true r h = h
      under false r h = tt

      go : (o : Option Parted) → MakesUp o gs → LaterTyped o → TypeKept g root (elim o [
        | None ↦ None
        | Some t ↦ if is_extreme f && (is_refined t.condition && (is_refined e && are_refined_gens t.after))
            then option_map (λ hs. fun1 false f (comp_ex e (append_gens t.before hs))) (one_later t.condition t.after) else None
      ])
      go None u n = tt
      go (Some t) u n = under (is_extreme f && (is_refined t.condition && (is_refined e && are_refined_gens t.after)))
          (option_map (λ hs. fun1 false f (comp_ex e (append_gens t.before hs))) (one_later t.condition t.after))
          (moves t u n (one_later t.condition t.after) refl)

  -- ---- the least under a condition

  either-typed : (k : Names Ty) (c n m : Ex) (t : Ty) → type_of c k ≡ Some t → is_some (join t bool_ty) ≡ true →
      is_numeric (type_of n k) ≡ true → is_numeric (type_of m k) ≡ true → type_of (either_number c n m) k ≡ Some int_ty
  either-typed k c n m t p h i j =
      two-to (type_of (ex2 false Op2.Times (chosen c) n) k) (type_of (ex2 false Op2.Times (chosen (ex1 true Op1.Not c)) m) k)
      (type_of_op (binary Op2.Plus)) int_ty int_ty int_ty (times-chosen k c t p h n i)
      (times-chosen k (ex1 true Op1.Not c) bool_ty (one-to (type_of c k) (type_of_op (unary Op1.Not)) t bool_ty p
      (negated t h)) refl m j) refl
    where
      negated : (t : Ty) → is_some (join t bool_ty) ≡ true → fit t bool_ty bool_ty ≡ Some bool_ty
      negated any_ty h = refl
      negated bool_ty h = refl
      negated int_ty h = never h
      negated (named_ty a) h = never h
      negated (compound k ts) h = never h

  parted-least : (m e : Ex) (f : Fun) (gs : Gens) → is_extreme f ≡ true → (t : Parted) → are_none t.after ≡ true →
      gs ≡ append_gens t.before (cond t.condition t.after) → type_of (fun1 false f (comp_ex e gs)) g ≡ Some int_ty →
      OppositeTyped g m e (Some t) →
      type_of (fun1 false f (comp_ex (either_number t.condition (everywhere e) m) (everywhere_gens t.before))) g ≡ Some int_ty
  parted-least m e f gs i t a u q n = go t.after a (ap (λ z. and_then (types_under z g) L) (sym u) ∙ r.1)
    where
      L : Names Ty → Option Ty
      L h = option_map (compound2 a_matrix int_ty) (type_of e h)

      r : (v : Ty) × (type_of (comp_ex e gs) g ≡ Some v) × (type_of_op (word f) (v ∷ []) ≡ Some int_ty)
      r = one-is (type_of (comp_ex e gs) g) (type_of_op (word f)) int_ty q

      go : (after : Gens) → are_none after ≡ true → and_then (types_under (append_gens t.before (cond t.condition after)) g) L ≡ Some r.0 →
          type_of (fun1 false f (comp_ex (either_number t.condition (everywhere e) m) (everywhere_gens t.before))) g ≡ Some int_ty
      go no_gens a w =
          let b = behind t.before no_gens t.condition g L r.0 w in
          let x = numbers-of g f i (Some b.names) (type_of e) (ap (λ o. and_then o (λ z. type_of_op (word f) (z ∷ []))) b.rest ∙ r.2) in
          let y : b.names ≡ x.0 = cc in
          let k : names_behind t.before g ≡ b.names = behind-types t.before g b.names b.under in
          let item = number-everywhere e b.names (subst (SizesNumbers e) k n.1)
          (ap (λ z. is_numeric (type_of e z)) y ∙ ap is_numeric x.2) in
          let body = either-typed b.names t.condition (everywhere e) m b.truth b.typed b.is_truth item
          (ap (λ z. is_numeric (type_of m z)) (sym k) ∙ n.0) in
          one-to (type_of (comp_ex (either_number t.condition (everywhere e) m) (everywhere_gens t.before)) g) (type_of_op (word f))
          (compound2 a_matrix int_ty int_ty) int_ty
          (ap (λ o. and_then o (λ h. option_map (compound2 a_matrix int_ty) (type_of (either_number t.condition (everywhere e) m) h)))
          (gens-everywhere t.before g ∙ b.under) ∙ ap (option_map (compound2 a_matrix int_ty)) body)
          (extreme-is g f i)
      go (over p d hs) a w = never a
      go (from p c hs) a w = never a
      go (cond c hs) a w = never a

  pub least-under : (m e : Ex) (f : Fun) (gs : Gens) → type_of (fun1 false f (comp_ex e gs)) g ≡ Some int_ty →
      OppositeTyped g m e (at_last_condition gs) →
      TypeKept g (fun1 false f (comp_ex e gs)) (extreme_condition m (fun1 false f (comp_ex e gs)))
  least-under m e f gs q n = go (at_last_condition gs) (made-up gs) n
    where
      go : (o : Option Parted) → MakesUp o gs → OppositeTyped g m e o → TypeKept g (fun1 false f (comp_ex e gs)) (elim o [
        | None ↦ None
        | Some t ↦ if (is_extreme f && are_none t.after) && (is_refined t.condition && (is_refined e && (is_refined m
            && are_refined_gens t.before)))
            then Some (fun1 false f (comp_ex (either_number t.condition (everywhere e) m) (everywhere_gens t.before))) else None
      ])
      go None u n = tt
      go (Some t) u n = when-so g ((is_extreme f && are_none t.after) && (is_refined t.condition && (is_refined e && (is_refined m
          && are_refined_gens t.before)))) (fun1 false f (comp_ex e gs))
          (fun1 false f (comp_ex (either_number t.condition (everywhere e) m) (everywhere_gens t.before))) (λ c v w.
          let d = and-left (is_extreme f && are_none t.after) (is_refined t.condition && (is_refined e && (is_refined m
          && are_refined_gens t.before))) c in
          parted-least m e f gs (and-left (is_extreme f) (are_none t.after) d) t (and-right (is_extreme f) (are_none t.after) d) u q n
          ∙ sym q ∙ w)
