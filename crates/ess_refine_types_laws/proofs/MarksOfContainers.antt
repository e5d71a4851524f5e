-- Rules of membership, inclusion and equality keep marks.
use Rattle.std.proofs.Common.{◌≡◌, refl, sym, ap, ◌∙◌, subst, Bool, true, false, not, if◌then◌else◌, [], ◌∷◌, Option, Some, None}
use Rattle.std.specs.Prelude.{is_some}
use Rattle.ess_semantics.specs.declared.words.Op1.{Op1}
use Rattle.ess_semantics.specs.declared.words.Op2.{Op2}
use Rattle.ess_semantics.specs.declared.words.Fun.{Fun}
use Rattle.ess_semantics.specs.Lists.{and_then}
use Rattle.ess_semantics.specs.Values.{Text}
use Rattle.ess_semantics.specs.Order.{same_text}
use Rattle.ess_semantics.specs.Names.{Names}
use Rattle.ess_semantics.specs.Trees.{Op, binary, unary, word, is_truth_op, name_pat, Ex, name_ex, node_ex, comp_ex, ex1, ex2, fun1, no_exs, more_exs, no_gens, from}
use Rattle.ess_semantics.specs.Types.{Ty, bool_ty, or_any, join, fit}
use Rattle.ess_semantics.specs.OperatorTypes.{type_of_op, member_ty, asked_ty}
use Rattle.ess_semantics.specs.Typing.{type_of}
use Rattle.ess_semantics.proofs.Tests.{or-yes}
use Rattle.ess_rules_laws.specs.InclusionRules.{every, both_sets, included_members, equal_members}
use Rattle.ess_rules_laws.specs.MembershipRules.{is_asked, member_of, member_term, member_changed, member_combined}
use Rattle.ess_rules_laws.specs.FunctionMembershipRules.{member_related}
use Rattle.ess_guard_types_laws.proofs.JoinedTypes.{Agree, turned}
use Rattle.ess_refine_laws.specs.AllRules.{Rule, included_sets, equal_sets, in_two, in_one_made_of_another, in_its_pairs, in_a_term, Supply, rewrite}
use Rattle.ess_refine_laws.specs.MarksStay.{MarkFits, HasMarks}
use Rattle.ess_refine_types_laws.specs.TypesOfContainers.{MembersTold, BothHaveMembers, CombinedHaveMembers}
use Rattle.ess_refine_types_laws.specs.MarksOfContainers.{IsNewTo, keeps_marks, ContainerRulesKeepMarks}
use Rattle.ess_refine_types_laws.proofs.TypeParts.{one-to, two-is, two-to, given-to, some-over, every-over, new-name, term-behind, asked-is}
use Rattle.ess_refine_types_laws.proofs.TypesOfMembers.{Made, made-set, made-mset, made-parts, made-relation, made-typed, asks-members, member-of-type}
use Rattle.ess_refine_types_laws.proofs.TypesThatAgree.{sets-ask}
use Rattle.ess_refine_types_laws.proofs.TypesOfEqualities.{of-inclusion, of-equation, source-members, both-and, each-in}
use Rattle.ess_refine_types_laws.proofs.TypesOfLists.{combined-types, of-minus}
use Rattle.ess_refine_types_laws.proofs.MarksBehind.{fewer, marks-behind}

-- ---- nodes that give truth values

fits-bool : (op : Op) (o : Option Ty) → o ≡ Some bool_ty → MarkFits true op o
fits-bool op o p = subst (λ z. MarkFits true op z) (sym p) (sym (or-yes (is_truth_op op)))

-- A node with a mark has a type.
root-type : (b : Bool) (op : Op) (o : Option Ty) → MarkFits b op o → (t : Ty) × (o ≡ Some t)
root-type b op None h = absurd h
root-type b op (Some t) h = (t, refl)

two-marked : (op : Op) (a b : Ex) (g : Names Ty) → type_of (node_ex true op (more_exs a (more_exs b no_exs))) g ≡ Some bool_ty →
    HasMarks a g → HasMarks b g → HasMarks (node_ex true op (more_exs a (more_exs b no_exs))) g
two-marked op a b g p m n = (fits-bool op (type_of (node_ex true op (more_exs a (more_exs b no_exs))) g) p, (m, (n, tt)))

-- What a rule answers has the marks.
abbrev Marked : Names Ty → Option Ex → Type 0
Marked g None = Unit {0}
Marked g (Some f) = HasMarks f g

when-marked : (g : Names Ty) (c : Bool) (f : Ex) → (c ≡ true → HasMarks f g) → Marked g (if c then Some f else None)
when-marked g true f h = h refl
when-marked g false f h = tt

module _ (g : Names Ty) (x : Text) where
  -- A fold over one source.
  over-marked : (f : Fun) (s body : Ex) (m : Ty) → and_then (type_of s g) member_ty ≡ Some m →
      type_of (fun1 true f (comp_ex body (from (name_pat x) s no_gens))) g ≡ Some bool_ty → HasMarks s g → HasMarks body ((x, m) ∷ g) →
      HasMarks (fun1 true f (comp_ex body (from (name_pat x) s no_gens))) g
  over-marked f s body m p t ms mb = (
    fits-bool (word f) (type_of (fun1 true f (comp_ex body (from (name_pat x) s no_gens))) g) t,
    (((ap is_some p, ms, tt), subst (λ z. HasMarks body ((x, z) ∷ g)) (sym (ap or_any p)) mb), tt),
  )

  -- ---- membership

  some-marked : (s a : Ex) (m t : Ty) → and_then (type_of s g) member_ty ≡ Some m → type_of a g ≡ Some t → IsNewTo x a → Agree t m →
      HasMarks a g → HasMarks s g →
      HasMarks (fun1 true Fun.Or (comp_ex (ex2 true Op2.Eq (name_ex x) a) (from (name_pat x) s no_gens))) g
  some-marked s a m t p q u h ma ms =
      let b = two-to (type_of (name_ex x) ((x, m) ∷ g)) (type_of a ((x, m) ∷ g)) (type_of_op (binary Op2.Eq)) m t bool_ty (new-name g x m)
      (term-behind g x m a t (fewer (λ c. not (same_text x c)) a u) q) (given-to (join m t) bool_ty (turned t m h)) in
      over-marked Fun.Or s (ex2 true Op2.Eq (name_ex x) a) m p (some-over g x s (ex2 true Op2.Eq (name_ex x) a) m p b) ms
      (two-marked (binary Op2.Eq) (name_ex x) a ((x, m) ∷ g) b tt (marks-behind x m a g u ma))

  of-marked : (a m : Ex) (ta tm e : Ty) → type_of a g ≡ Some ta → type_of m g ≡ Some tm → member_ty tm ≡ Some e → Agree ta e → IsNewTo x a →
      HasMarks a g → HasMarks m g → Marked g (member_of g x a m)
  of-marked a m ta tm e p q r h u ma mm = go (is_asked (type_of m g)) refl
    where
      go : (c : Bool) → is_asked (type_of m g) ≡ c →
          Marked g (if c then Some (ex2 true Op2.Member a m) else member_term x (ex2 true Op2.Member a m))
      go true j = two-marked (binary Op2.Member) a m g
          (two-to (type_of a g) (type_of m g) (type_of_op (binary Op2.Member)) ta tm bool_ty p q
          (ap (λ z. and_then z (λ n. fit ta n bool_ty)) (asks-members tm e (ap is_asked (sym q) ∙ j) r)
          ∙ given-to (join ta e) bool_ty h)) ma mm
      go false j = some-marked m a e ta (member-of-type (type_of m g) tm e q r) p u h ma mm

  made-marked : (f : Fun) → ((m s : Ty) → type_of_op (word f) (m ∷ []) ≡ Some s → Made m s) → (a m : Ex) → IsNewTo x a →
      HasMarks (ex2 true Op2.Member a (fun1 false f m)) g → Marked g (member_of g x a m)
  made-marked f k a m u h =
      let t = root-type true (binary Op2.Member) (type_of (ex2 true Op2.Member a (fun1 false f m)) g) h.0 in
      let r = made-typed g x f k a m t.0 t.1 in of-marked a m r.0 r.1 r.2 r.3 r.4 r.5 r.6 u h.1.0 h.1.1.0.1.0

  changed : (e : Ex) → IsNewTo x e → HasMarks e g → Marked g (member_changed g x e)
  changed (ex2 true Op2.Member a (fun1 false Fun.ToSet m)) u h = made-marked Fun.ToSet made-set a m u.0 h
  changed (ex2 true Op2.Member a (fun1 false Fun.ToMSet m)) u h = made-marked Fun.ToMSet made-mset a m u.0 h
  changed (ex2 true Op2.Member a (fun1 false Fun.Parts m)) u h = made-marked Fun.Parts made-parts a m u.0 h
  changed _ u h = tt

  related : (e : Ex) → IsNewTo x e → HasMarks e g → Marked g (member_related x e)
  related (ex2 true Op2.Member p (fun1 false Fun.ToRelation f)) u h =
      let t = root-type true (binary Op2.Member) (type_of (ex2 true Op2.Member p (fun1 false Fun.ToRelation f)) g) h.0 in
      let r = made-typed g x Fun.ToRelation made-relation p f t.0 t.1 in
      some-marked f p r.2 r.0 (member-of-type (type_of f g) r.1 r.2 r.4 r.5) r.3 u.0 r.6 h.1.0 h.1.1.0.1.0
  related _ u h = tt

  member : (e : Ex) → IsNewTo x e → HasMarks e g → Marked g (member_term x e)
  member (ex2 true Op2.Member a s) u h =
      let t = root-type true (binary Op2.Member) (type_of (ex2 true Op2.Member a s) g) h.0 in
      let r = two-is (type_of a g) (type_of s g) (type_of_op (binary Op2.Member)) t.0 t.1 in
      let d = asked-is r.1 r.0 t.0 r.4 in
      some-marked s a d.0 r.0 (member-of-type (type_of s g) r.1 d.0 r.3 d.1) r.2 u.0 d.2 h.1.0 h.1.1.0
  member _ u h = tt

  combined : (e : Ex) → CombinedHaveMembers g e → HasMarks e g → Marked g (member_combined e)
  combined (ex2 true Op2.Member a (ex2 false Op2.Union b c)) k h =
      let t = root-type true (binary Op2.Member) (type_of (ex2 true Op2.Member a (ex2 false Op2.Union b c)) g) h.0 in
      let r = combined-types g Op2.Union (λ b c w m i k. i) a b c k.0 k.1 t.0 t.1 in
      two-marked (binary Op2.Or) (ex2 true Op2.Member a b) (ex2 true Op2.Member a c) g
      (two-to (type_of (ex2 true Op2.Member a b) g) (type_of (ex2 true Op2.Member a c) g) (type_of_op (binary Op2.Or)) bool_ty bool_ty bool_ty
      r.1 r.2 refl) (two-marked (binary Op2.Member) a b g r.1 h.1.0 h.1.1.0.1.0) (two-marked (binary Op2.Member) a c g r.2 h.1.0 h.1.1.0.1.1.0)
  combined (ex2 true Op2.Member a (ex2 false Op2.Intersect b c)) k h =
      let t = root-type true (binary Op2.Member) (type_of (ex2 true Op2.Member a (ex2 false Op2.Intersect b c)) g) h.0 in
      let r = combined-types g Op2.Intersect (λ b c w m i k. i) a b c k.0 k.1 t.0 t.1 in
      two-marked (binary Op2.And) (ex2 true Op2.Member a b) (ex2 true Op2.Member a c) g
      (two-to (type_of (ex2 true Op2.Member a b) g) (type_of (ex2 true Op2.Member a c) g) (type_of_op (binary Op2.And)) bool_ty bool_ty bool_ty
      r.1 r.2 refl) (two-marked (binary Op2.Member) a b g r.1 h.1.0 h.1.1.0.1.0) (two-marked (binary Op2.Member) a c g r.2 h.1.0 h.1.1.0.1.1.0)
  combined (ex2 true Op2.Member a (ex2 false Op2.Minus b c)) k h =
      let t = root-type true (binary Op2.Member) (type_of (ex2 true Op2.Member a (ex2 false Op2.Minus b c)) g) h.0 in
      let r = combined-types g Op2.Minus (λ b c w m i k. of-minus g (join b c) w m i k) a b c k.0 k.1 t.0 t.1 in
      let n = one-to (type_of (ex2 true Op2.Member a c) g) (type_of_op (unary Op1.Not)) bool_ty bool_ty r.2 refl in
      two-marked (binary Op2.And) (ex2 true Op2.Member a b) (ex1 true Op1.Not (ex2 true Op2.Member a c)) g
      (two-to (type_of (ex2 true Op2.Member a b) g) (type_of (ex1 true Op1.Not (ex2 true Op2.Member a c)) g) (type_of_op (binary Op2.And)) bool_ty
      bool_ty bool_ty r.1 n refl) (two-marked (binary Op2.Member) a b g r.1 h.1.0 h.1.1.0.1.0) (
        fits-bool (unary Op1.Not) (type_of (ex1 true Op1.Not (ex2 true Op2.Member a c)) g) n,
        (two-marked (binary Op2.Member) a c g r.2 h.1.0 h.1.1.0.1.1.0, tt),
      )
  combined _ k h = tt

  -- ---- inclusion and equality

  -- `and([x in b | x <- a])`.
  each-marked : (a b : Ex) (ta tb m n : Ty) → type_of a g ≡ Some ta → type_of b g ≡ Some tb → member_ty ta ≡ Some m → asked_ty tb ≡ Some n →
      Agree m n → IsNewTo x b → HasMarks a g → HasMarks b g → HasMarks (every x a (ex2 true Op2.Member (name_ex x) b)) g
  each-marked a b ta tb m n p q i j h u ma mb =
      let c = two-to (type_of (name_ex x) ((x, m) ∷ g)) (type_of b ((x, m) ∷ g)) (type_of_op (binary Op2.Member)) m tb bool_ty (new-name g x m)
      (term-behind g x m b tb (fewer (λ c. not (same_text x c)) b u) q)
      (ap (λ z. and_then z (λ k. fit m k bool_ty)) j ∙ given-to (join m n) bool_ty h) in
      over-marked Fun.And a (ex2 true Op2.Member (name_ex x) b) m (source-members g x a ta m p i)
      (every-over g x a (ex2 true Op2.Member (name_ex x) b) m (source-members g x a ta m p i) c) ma
      (two-marked (binary Op2.Member) (name_ex x) b ((x, m) ∷ g) c tt (marks-behind x m b g u mb))

  members : (e : Ex) → IsNewTo x e → BothHaveMembers g e → HasMarks e g → Marked g (included_members g x e)
  members (ex2 true Op2.SubsetEq a b) u k h = when-marked g (both_sets (type_of a g) (type_of b g))
      (every x a (ex2 true Op2.Member (name_ex x) b)) (λ c.
      let t = root-type true (binary Op2.SubsetEq) (type_of (ex2 true Op2.SubsetEq a b) g) h.0 in
      let w = (of-inclusion g x a b t.0 k t.1).0 in
      let s = sets-ask w.ta w.tb w.m w.n (ap (λ z. both_sets z (Some w.tb)) (sym w.left) ∙ ap (both_sets (type_of a g)) (sym w.right) ∙ c)
      w.agree w.of_left w.of_right in
      each-marked a b w.ta w.tb w.m w.n w.left w.right w.of_left s.right s.agree u.1.0 h.1.0 h.1.1.0)
  members _ u k h = tt

  same-members : (e : Ex) → IsNewTo x e → BothHaveMembers g e → HasMarks e g → Marked g (equal_members g x e)
  same-members (ex2 true Op2.Eq a b) u k h = when-marked g (both_sets (type_of a g) (type_of b g))
      (ex2 true Op2.And (every x a (ex2 true Op2.Member (name_ex x) b)) (every x b (ex2 true Op2.Member (name_ex x) a))) (λ c.
      let t = root-type true (binary Op2.Eq) (type_of (ex2 true Op2.Eq a b) g) h.0 in
      let w = (of-equation g x a b t.0 k t.1).0 in
      let s = sets-ask w.ta w.tb w.m w.n (ap (λ z. both_sets z (Some w.tb)) (sym w.left) ∙ ap (both_sets (type_of a g)) (sym w.right) ∙ c)
      w.agree w.of_left w.of_right in
      let ua = fewer (λ c. not (same_text x c)) a u.0 in let ub = fewer (λ c. not (same_text x c)) b u.1.0 in
      two-marked (binary Op2.And) (every x a (ex2 true Op2.Member (name_ex x) b)) (every x b (ex2 true Op2.Member (name_ex x) a)) g
      (both-and g x (every x a (ex2 true Op2.Member (name_ex x) b)) (every x b (ex2 true Op2.Member (name_ex x) a))
      (each-in g x a b w.ta w.tb w.m w.n w.left w.right w.of_left s.right s.agree ub)
      (each-in g x b a w.tb w.ta w.n w.m w.right w.left w.of_right s.left (turned w.m w.n s.agree) ua))
      (each-marked a b w.ta w.tb w.m w.n w.left w.right w.of_left s.right s.agree u.1.0 h.1.0 h.1.1.0)
      (each-marked b a w.tb w.ta w.n w.m w.right w.left w.of_right s.left (turned w.m w.n s.agree) u.0 h.1.1.0 h.1.0))
  same-members _ u k h = tt

-- ---- each rule

module _ (s : Supply) (g : Names Ty) where
  each-marks : (r : Rule) (e : Ex) → keeps_marks r ≡ true → IsNewTo s.one e → MembersTold g r e → HasMarks e g → Marked g (rewrite s g r e)
  each-marks included_sets e k u m h = members g s.one e u m h
  each-marks equal_sets e k u m h = same-members g s.one e u m h
  each-marks in_two e k u m h = combined g s.one e m h
  each-marks in_one_made_of_another e k u m h = changed g s.one e u h
  each-marks in_its_pairs e k u m h = related g s.one e u h
  each-marks in_a_term e k u m h = member g s.one e u h
  each-marks _ e k u m h = cc

  answered : (f : Ex) (o : Option Ex) → o ≡ Some f → Marked g o → HasMarks f g
  answered f o q h = subst (λ z. Marked g z) q h

-- Marks stay.
pub container-rules-keep-marks : ContainerRulesKeepMarks
container-rules-keep-marks = record {
  by_each_rule = λ s g r e f q k u m h. answered s g f (rewrite s g r e) q (each-marks s g r e k u m h);
  behind_a_new_name = λ x t e g q m. marks-behind x t e g q m;
}
