-- Signs between lists by the numbers of their items keep types and marks.
use Rattle.std.proofs.Common.{◌≡◌, refl, sym, ap, ◌∙◌, subst, Bool, true, false, ◌&&◌, if◌then◌else◌, [], ◌∷◌, Option, Some, None, option_map}
use Rattle.ess_semantics.specs.declared.words.Op2.{Op2}
use Rattle.ess_semantics.specs.declared.words.Fun.{Fun}
use Rattle.ess_semantics.specs.Lists.{and_then, or_else}
use Rattle.ess_semantics.specs.Values.{Text, a_matrix}
use Rattle.ess_semantics.specs.Order.{same_text}
use Rattle.ess_semantics.specs.Names.{Names}
use Rattle.ess_semantics.specs.Trees.{binary, word, name_pat, Ex, name_ex, comp_ex, no_gens, over, cond, ex2}
use Rattle.ess_semantics.specs.Types.{Ty, bool_ty, int_ty, compound2, join}
use Rattle.ess_semantics.specs.OperatorTypes.{type_of_op, type_of_binary, compared, lex_compared}
use Rattle.ess_semantics.specs.Typing.{type_of}
use Rattle.ess_semantics.proofs.Tests.{and-left, and-right}
use Rattle.ess_guard_types_laws.proofs.JoinedTypes.{Agree}
use Rattle.ess_guard_laws.specs.IndexDomains.{one_up_to}
use Rattle.ess_rules_laws.specs.FoldRules.{is_laid_open}
use Rattle.ess_rules_laws.proofs.Agreement.{look-itself}
use Rattle.ess_refine_laws.specs.MarksStay.{HasMarks}
use Rattle.ess_refine_laws.specs.AllRules.{Supply}
use Rattle.ess_refine_types_laws.specs.MarksOfContainers.{IsNewTo}
use Rattle.ess_refine_types_laws.proofs.TypeParts.{one-to, two-is, two-to, new-name}
use Rattle.ess_rules_types_laws.proofs.PutTypes.{look-past}
use Rattle.ess_rules_types_laws.proofs.TypesOfComponents.{some-same}
use Rattle.ess_rules_marks_laws.proofs.DecidedOps.{is_fit}
use Rattle.ess_rules_marks_laws.proofs.Grows.{Grows, as_it_is, a_node, a_comp, none_grow, more_grow, no_gens_grow, over_grows, cond_grows, grown}
use Rattle.ess_numbered_laws.specs.CountedSources.{items_counted, is_number_of, numbers_of, counted_list}
use Rattle.ess_numbered_laws.specs.EqualByNumber.{at_each_number, items_compared}
use Rattle.ess_numbered_laws.specs.OrderByNumber.{equal_before, lower_at_a_number, begins_equally, lower_list, ordered_lists, with_items, counted_operand, order_by_number}
use Rattle.ess_numbered_laws.specs.NumberRules.{sign_between_lists}
use Rattle.ess_open_types_laws.proofs.TypesBehind.{KeepsBoth, BothKept}
use Rattle.ess_numbered_types_laws.specs.NumberedTyped.{ListBindsNone, NumberTyped, NumberMarked}
use Rattle.ess_numbered_types_laws.proofs.CountsTyped.{no, laid-indices, Listed, typed-behind, marked-behind, count-typed, count-grows, bound-typed, bound-grows, behind-a-truth, numbers-under, numbers-grow, each-typed, each-grows, equal-typed, lower-typed, equal-grows, lower-grows}
use Rattle.ess_numbered_types_laws.proofs.ComparedTypes.{items-ordered, given-truth, compared-turned}
use Rattle.ess_numbered_types_laws.proofs.EqualTyped.{counted-marked}

-- ---- a lower list

module _ (g : Names Ty) (x z : Text) (apart : same_text z x ≡ false) (n a b : Ex) (t u : Ty) (l : Listed g x a t) (k : Listed g x b u)
    (za : IsNewTo z a) (zb : IsNewTo z b) (below : and_then (join t u) compared ≡ Some bool_ty) where
  agree : Agree t u
  agree = (given-truth (join t u) bool_ty below).0

  abbrev At : Names Ty
  At = (x, int_ty) ∷ g

  -- The lists by the other name, behind x.
  first : Listed At z a t
  first = record { axis = l.axis; typed = typed-behind g x x a t l.new l; new = za; by_numbers = l.by_numbers }

  second : Listed At z b u
  second = record { axis = k.axis; typed = typed-behind g x x b u k.new k; new = zb; by_numbers = k.by_numbers }

  abbrev Before : Ex
  Before = ex2 true Op2.Lt (name_ex z) (name_ex x)

  before-typed : type_of Before ((z, int_ty) ∷ At) ≡ Some bool_ty
  before-typed =
      two-to (type_of (name_ex z) ((z, int_ty) ∷ At)) (type_of (name_ex x) ((z, int_ty) ∷ At)) (type_of_op (binary Op2.Lt)) int_ty
      int_ty bool_ty (new-name At z int_ty) (look-past z x int_ty At apart ∙ look-itself x int_ty g) refl

  equal-before-typed : type_of (equal_before x z n t u a b) At ≡ Some bool_ty
  equal-before-typed =
      let e = items_compared Op2.Eq t u z a b in
      one-to (type_of (comp_ex e (over (name_pat z) (one_up_to n) (cond Before no_gens))) At) (type_of_op (word Fun.And))
      (compound2 a_matrix int_ty bool_ty) bool_ty
      (ap (λ o. and_then o (λ h. option_map (compound2 a_matrix int_ty) (type_of e h)))
      (behind-a-truth g x z Before no_gens ((z, int_ty) ∷ At) before-typed)
      ∙ ap (option_map (compound2 a_matrix int_ty)) (equal-typed At z a b t u first second agree)) refl

  abbrev Lower : Ex
  Lower = ex2 true Op2.And (items_compared Op2.Lt t u x a b) (equal_before x z n t u a b)

  lower-both : type_of Lower At ≡ Some bool_ty
  lower-both = two-to (type_of (items_compared Op2.Lt t u x a b) At) (type_of (equal_before x z n t u a b) At) (type_of_op (binary Op2.And))
      bool_ty bool_ty bool_ty (lower-typed g x a b t u l k below) equal-before-typed refl

  at-a-number-typed : type_of (lower_at_a_number x z n t u a b) g ≡ Some bool_ty
  at-a-number-typed =
      one-to (type_of (comp_ex Lower (numbers_of x z n a (cond (is_number_of x z b) no_gens))) g) (type_of_op (word Fun.Or))
      (compound2 a_matrix int_ty bool_ty) bool_ty
      (ap (λ o. and_then o (λ h. option_map (compound2 a_matrix int_ty) (type_of Lower h)))
      (numbers-under g x z n a t (cond (is_number_of x z b) no_gens) l
      ∙ behind-a-truth g x z (is_number_of x z b) no_gens At (bound-typed g x z b u k))
      ∙ ap (option_map (compound2 a_matrix int_ty)) lower-both) refl

  module _ (o : Op2) (of_numbers : type_of_binary o int_ty int_ty ≡ Some bool_ty) where
    begins-typed : type_of (begins_equally o x z n t u a b) g ≡ Some bool_ty
    begins-typed =
        let e = at_each_number x z n a (items_compared Op2.Eq t u x a b) in
        let c = ex2 true o (items_counted z a) (items_counted z b) in
        two-to (type_of c g) (type_of e g) (type_of_op (binary Op2.And)) bool_ty bool_ty bool_ty
        (two-to (type_of (items_counted z a) g) (type_of (items_counted z b) g) (type_of_op (binary o)) int_ty int_ty bool_ty
        (count-typed g x a t l z) (count-typed g x b u k z) of_numbers)
        (each-typed g x z n a (items_compared Op2.Eq t u x a b) t l (equal-typed g x a b t u l k agree)) refl

    list-typed : type_of (lower_list o x z n a b t u) g ≡ Some bool_ty
    list-typed = two-to (type_of (lower_at_a_number x z n t u a b) g) (type_of (begins_equally o x z n t u a b) g)
        (type_of_op (binary Op2.Or)) bool_ty bool_ty bool_ty at-a-number-typed begins-typed refl

    module _ (m : HasMarks a g) (i : HasMarks b g) (h : HasMarks n g) (j : HasMarks n At) where
      behind-a : HasMarks a At
      behind-a = marked-behind g x a t l m

      behind-b : HasMarks b At
      behind-b = marked-behind g x b u k i

      before-grows : Grows At (equal_before x z n t u a b)
      before-grows = a_node refl (more_grow (a_comp (over_grows (tt, (j, tt))
          (cond_grows (a_node refl (more_grow (as_it_is tt) (more_grow (as_it_is tt) none_grow))) no_gens_grow))
          (equal-grows At z a b t u first second behind-a behind-b)) none_grow)

      at-a-number-grows : Grows g (lower_at_a_number x z n t u a b)
      at-a-number-grows = a_node refl (more_grow (a_comp
          (numbers-grow g x z n a (cond (is_number_of x z b) no_gens) h behind-a
          (cond_grows (bound-grows At x z b behind-b) no_gens_grow))
          (a_node refl (more_grow (lower-grows g x a b t u l k m i) (more_grow before-grows none_grow)))) none_grow)

      list-grows : is_fit true (binary o) ≡ true → Grows g (lower_list o x z n a b t u)
      list-grows f = a_node refl (more_grow at-a-number-grows (more_grow
          (a_node refl (more_grow
          (a_node f (more_grow (count-grows g z a m) (more_grow (count-grows g z b i) none_grow)))
          (more_grow (each-grows g x z n a (items_compared Op2.Eq t u x a b) h behind-a (equal-grows g x a b t u l k m i)) none_grow)))
          none_grow))

-- ---- the operands

module _ (s : Supply) (g : Names Ty) (a b n : Ex) (c : counted_operand s g a b ≡ Some n) where
  both-laid : is_laid_open a && is_laid_open b ≡ true
  both-laid = go (is_laid_open a && is_laid_open b) (or_else (counted_list s g a) (counted_list s g b)) c
    where
      go : (d : Bool) (o : Option Ex) → (if d then o else None) ≡ Some n → d ≡ true
      go true o q = refl
      go false o q = cc

  -- What is counted has marks where both operands have them.
  operand-marked : ListBindsNone s g a × ListBindsNone s g b → (h : Names Ty) (v w : Ty) → type_of a h ≡ Some v → type_of b h ≡ Some w →
      HasMarks a h → HasMarks b h → HasMarks n h
  operand-marked r h v w p q m k = go (is_laid_open a && is_laid_open b) (counted_list s g a) refl (counted_list s g b) refl c
    where
      go : (d : Bool) (o : Option Ex) → counted_list s g a ≡ o → (l : Option Ex) → counted_list s g b ≡ l →
          (if d then or_else o l else None) ≡ Some n → HasMarks n h
      go true (Some y) i l j z = counted-marked s g a n (i ∙ z) r.0 h v p m
      go true None i l j z = counted-marked s g b n (j ∙ z) r.1 h w q k
      go false o i l j z = no (let y : false ≡ true = cc in y)

-- ---- the rule

-- The signs between lists.
abbrev IsSign : Op2 → Type 0
IsSign o = (y w : Ty) → type_of_op (binary o) (y ∷ w ∷ []) ≡ and_then (join y w) lex_compared

-- Those between numbers.
abbrev IsBelow : Op2 → Type 0
IsBelow o = (type_of_binary o int_ty int_ty ≡ Some bool_ty) × (is_fit true (binary o) ≡ true)

module _ (s : Supply) (g : Names Ty) (a b : Ex) (h : (same_text s.other s.one ≡ false) × IsNewTo s.one a × IsNewTo s.one b
    × IsNewTo s.other a × IsNewTo s.other b) (n : Ex) (c : counted_operand s g a b ≡ Some n) (i t j u : Ty)
    (p : type_of a g ≡ Some (compound2 a_matrix i t)) (q : type_of b g ≡ Some (compound2 a_matrix j u)) where
  abbrev Asked : Type 0
  Asked = ListBindsNone s g a × ListBindsNone s g b

  left-list : Listed g s.one a t
  left-list = record {
    axis = i;
    typed = p;
    new = h.1;
    by_numbers = laid-indices a (and-left (is_laid_open a) (is_laid_open b) (both-laid s g a b n c)) g i t p;
  }

  right-list : Listed g s.one b u
  right-list = record {
    axis = j;
    typed = q;
    new = h.2;
    by_numbers = laid-indices b (and-right (is_laid_open a) (is_laid_open b) (both-laid s g a b n c)) g j u q;
  }

  -- The items are compared.
  below : (o : Op2) → IsSign o → (v : Ty) → type_of (ex2 true o a b) g ≡ Some v →
      (and_then (join t u) compared ≡ Some bool_ty) × (v ≡ bool_ty)
  below o f v z =
      let r = two-is (type_of a g) (type_of b g) (type_of_op (binary o)) v z in
      let k : and_then (join r.0 r.1) lex_compared ≡ Some v = sym (f r.0 r.1) ∙ r.4 in
      let l : and_then (join (compound2 a_matrix i t) (compound2 a_matrix j u)) lex_compared ≡ Some v =
      subst (λ y. and_then (join (compound2 a_matrix i t) y) lex_compared ≡ Some v) (some-same r.1 (compound2 a_matrix j u) (sym r.3 ∙ q))
      (subst (λ y. and_then (join y r.1) lex_compared ≡ Some v) (some-same r.0 (compound2 a_matrix i t) (sym r.2 ∙ p)) k) in
      let m = items-ordered (join i j) (join t u) v l in
      let w = given-truth (join t u) v m in (m ∙ ap Some w.1, w.1)

  module _ (r : Asked) (m : HasMarks a g) (k : HasMarks b g) where
    bound : HasMarks n g
    bound = operand-marked s g a b n c r g (compound2 a_matrix i t) (compound2 a_matrix j u) p q m k

    bound-within : HasMarks n ((s.one, int_ty) ∷ g)
    unfolding left-list right-list
    bound-within = operand-marked s g a b n c r ((s.one, int_ty) ∷ g) (compound2 a_matrix i t) (compound2 a_matrix j u)
        (typed-behind g s.one s.one a t h.1 left-list) (typed-behind g s.one s.one b u h.2 right-list)
        (marked-behind g s.one a t left-list m) (marked-behind g s.one b u right-list k)

  -- The first list is the lower one.
  forwards : (o k : Op2) → IsSign o → IsBelow k → KeepsBoth g Asked (ex2 true o a b) (lower_list k s.one s.other n a b t u)
  forwards o k f d = (typed, marked)
    where
      typed : (v : Ty) → type_of (ex2 true o a b) g ≡ Some v → type_of (lower_list k s.one s.other n a b t u) g ≡ Some v
      typed v z = let w = below o f v z in
          list-typed g s.one s.other h.0 n a b t u left-list right-list h.3 h.4 w.0 k d.0 ∙ ap Some (sym w.1)

      marked : Asked → (v : Ty) → type_of (ex2 true o a b) g ≡ Some v → HasMarks (ex2 true o a b) g →
          HasMarks (lower_list k s.one s.other n a b t u) g
      marked r v z m = grown g (lower_list k s.one s.other n a b t u)
          (list-grows g s.one s.other h.0 n a b t u left-list right-list h.3 h.4 (below o f v z).0 k d.0 m.1.0 m.1.1.0
          (bound r m.1.0 m.1.1.0) (bound-within r m.1.0 m.1.1.0) d.1) v (typed v z)

  -- The second list is.
  backwards : (o k : Op2) → IsSign o → IsBelow k → KeepsBoth g Asked (ex2 true o a b) (lower_list k s.one s.other n b a u t)
  backwards o k f d = (typed, marked)
    where
      typed : (v : Ty) → type_of (ex2 true o a b) g ≡ Some v → type_of (lower_list k s.one s.other n b a u t) g ≡ Some v
      typed v z = let w = below o f v z in
          list-typed g s.one s.other h.0 n b a u t right-list left-list h.4 h.3 (compared-turned t u bool_ty w.0) k d.0 ∙ ap Some (sym w.1)

      marked : Asked → (v : Ty) → type_of (ex2 true o a b) g ≡ Some v → HasMarks (ex2 true o a b) g →
          HasMarks (lower_list k s.one s.other n b a u t) g
      marked r v z m = grown g (lower_list k s.one s.other n b a u t)
          (list-grows g s.one s.other h.0 n b a u t right-list left-list h.4 h.3 (compared-turned t u bool_ty (below o f v z).0) k d.0
          m.1.1.0 m.1.0 (bound r m.1.0 m.1.1.0) (bound-within r m.1.0 m.1.1.0) d.1) v (typed v z)

  by-sign : (o : Op2) → BothKept g Asked (ex2 true o a b) (ordered_lists o s.one s.other n a b t u)
  by-sign Op2.LexLt = forwards Op2.LexLt Op2.Lt (λ y w. refl) (refl, refl)
  by-sign Op2.LexLe = forwards Op2.LexLe Op2.Le (λ y w. refl) (refl, refl)
  by-sign Op2.LexGt = backwards Op2.LexGt Op2.Lt (λ y w. refl) (refl, refl)
  by-sign Op2.LexGe = backwards Op2.LexGe Op2.Le (λ y w. refl) (refl, refl)
  by-sign _ = tt

-- The rule of signs.
pub sign : (s : Supply) (g : Names Ty) (e : Ex) → NumberTyped s g sign_between_lists e →
    BothKept g (NumberMarked s g sign_between_lists e) e (order_by_number s g e)
sign s g (ex2 true o a b) h = counted (counted_operand s g a b) refl
  where
    typed : (n : Ex) → counted_operand s g a b ≡ Some n → (v w : Option Ty) → type_of a g ≡ v → type_of b g ≡ w →
        BothKept g (ListBindsNone s g a × ListBindsNone s g b) (ex2 true o a b) (with_items v w (ordered_lists o s.one s.other n a b))
    typed n c (Some (compound2 a_matrix i t)) (Some (compound2 a_matrix j u)) p q = by-sign s g a b h n c i t j u p q o
    typed n c _ _ p q = tt

    counted : (c : Option Ex) → counted_operand s g a b ≡ c → BothKept g (ListBindsNone s g a × ListBindsNone s g b) (ex2 true o a b)
        (and_then c (λ n. with_items (type_of a g) (type_of b g) (ordered_lists o s.one s.other n a b)))
    counted None c = tt
    counted (Some n) c = typed n c (type_of a g) (type_of b g) refl refl
sign s g _ h = tt
