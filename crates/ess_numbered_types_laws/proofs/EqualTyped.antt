-- Equality of lists by the numbers of their items keeps types and marks.
use Rattle.std.proofs.Common.{◌≡◌, refl, sym, ap, ◌∙◌, subst, Bool, true, false, not, if◌then◌else◌, ◌∷◌, Option, Some, None, option_map}
use Rattle.std.specs.Prelude.{is_some}
use Rattle.ess_semantics.specs.declared.words.Op2.{Op2}
use Rattle.ess_semantics.specs.declared.words.Fun.{Fun}
use Rattle.ess_semantics.specs.Lists.{and_then}
use Rattle.ess_semantics.specs.Values.{Text, a_matrix}
use Rattle.ess_semantics.specs.Order.{same_text}
use Rattle.ess_semantics.specs.Names.{Names}
use Rattle.ess_semantics.specs.Trees.{binary, word, name_pat, Ex, number_ex, truth_ex, name_ex, node_ex, matrix_ex, comp_ex, cell_ex, seen_ex, no_exs, no_gens, over, Dom, ex2}
use Rattle.ess_semantics.specs.Types.{Ty, no_tys, more_tys, bool_ty, int_ty, compound, compound2, join, type_of_dom}
use Rattle.ess_semantics.specs.OperatorTypes.{type_of_op}
use Rattle.ess_semantics.specs.Typing.{type_of}
use Rattle.ess_guard_types_laws.proofs.JoinedTypes.{Agree, turned}
use Rattle.ess_rules_laws.specs.FoldRules.{is_laid_open}
use Rattle.ess_rules_laws.specs.MatrixRules.{some_over, both_matrices}
use Rattle.ess_rules_laws.proofs.Agreement.{look-itself}
use Rattle.ess_refine_laws.specs.MarksStay.{HasMarks, DomHasMarks}
use Rattle.ess_refine_laws.specs.AllRules.{Supply, OfSome}
use Rattle.ess_refine_types_laws.specs.MarksOfContainers.{IsNewTo, DomUsesNames}
use Rattle.ess_refine_types_laws.proofs.MarksBehind.{marks-behind}
use Rattle.ess_refine_types_laws.proofs.TypeParts.{one-to, two-is, two-to, given-is, equation-type}
use Rattle.ess_rules_types_laws.specs.TypesOfOthers.{has_indices}
use Rattle.ess_rules_types_laws.proofs.PutTypes.{look-past}
use Rattle.ess_rules_types_laws.proofs.TypesOfComponents.{some-same}
use Rattle.ess_rules_marks_laws.proofs.Grows.{Grows, as_it_is, a_node, a_comp, none_grow, more_grow, no_gens_grow, over_grows, grown}
use Rattle.ess_ordered_laws.specs.ToldAxes.{told_axis}
use Rattle.ess_numbered_laws.specs.MostItems.{members_counted, most_items}
use Rattle.ess_numbered_laws.specs.CountedSources.{items_counted, counted_list}
use Rattle.ess_numbered_laws.specs.EqualByNumber.{at_each_number, items_compared, as_many_items, equal_lists, equal_over, other_side, equal_as, equal_counted, equal_by_number}
use Rattle.ess_numbered_laws.specs.NumberRules.{equality_of_lists}
use Rattle.ess_open_types_laws.proofs.TypesBehind.{KeepsBoth, BothKept}
use Rattle.ess_ordered_types_laws.specs.OrderedTyped.{axis_by_count}
use Rattle.ess_ordered_types_laws.proofs.AxesMarked.{isnt_comprehension, told-axis-marked}
use Rattle.ess_ordered_types_laws.proofs.ItemsTyped.{either}
use Rattle.ess_numbered_types_laws.specs.NumberedTyped.{BindsNoTable, SideFits, SideMarked, ListBindsNone, NumberTyped, NumberMarked}
use Rattle.ess_numbered_types_laws.proofs.MostTyped.{most-marked}
use Rattle.ess_numbered_types_laws.proofs.CountsTyped.{no, laid-indices, Listed, marked-behind, count-typed, count-grows, each-typed, each-grows, equal-typed, equal-grows}

-- ---- operands

-- Matrices that agree have items that do.
items-agree : (i t j u : Ty) → Agree (compound2 a_matrix i t) (compound2 a_matrix j u) → Agree t u
items-agree i t j u h = go (join i j) (join t u) h
  where
    go : (o p : Option Ty) → is_some (option_map (compound a_matrix) (and_then o (λ v. option_map (more_tys v) (and_then p (λ w. option_map
        (more_tys w) (Some no_tys)))))) ≡ true → is_some p ≡ true
    go None p h = cc
    go (Some v) None h = h
    go (Some v) (Some w) h = refl

-- A list over a counted source is laid open, and the most items that it may have are those that are asked for.
pub counted-laid : (s : Supply) (g : Names Ty) (a n : Ex) → counted_list s g a ≡ Some n → is_laid_open a ≡ true
counted-laid s g (comp_ex e gs) n q = refl
counted-laid s g (number_ex i) n q = cc
counted-laid s g (truth_ex b) n q = cc
counted-laid s g (name_ex a) n q = cc
counted-laid s g (node_ex b op es) n q = no (let i : false ≡ true = cc in i)
counted-laid s g (matrix_ex es d) n q = cc
counted-laid s g (cell_ex b a es) n q = cc
counted-laid s g (seen_ex r d ns es) n q = cc

counted-most : (s : Supply) (g : Names Ty) (a n : Ex) → counted_list s g a ≡ Some n → most_items s.third a ≡ Some n
counted-most s g (comp_ex e gs) n q = go _ (most_items s.third (comp_ex e gs)) q
  where
    go : (c : Bool) (o : Option Ex) → (if c then o else None) ≡ Some n → o ≡ Some n
    go true o q = q
    go false o q = cc
counted-most s g _ n q = no (let i : false ≡ true = cc in i)

-- So that has marks, under any names.
pub counted-marked : (s : Supply) (g : Names Ty) (a n : Ex) → counted_list s g a ≡ Some n → ListBindsNone s g a → (h : Names Ty) (v : Ty) →
    type_of a h ≡ Some v → HasMarks a h → HasMarks n h
counted-marked s g a n q b h v i m =
    most-marked s.third a n h v (counted-most s g a n q) i m (subst (λ o. OfSome o (λ c. BindsNoTable a)) q b)

-- ---- the other side

side-laid : (b : Ex) → other_side b ≡ Some None → is_laid_open b ≡ true
side-laid b q = go (is_laid_open b) (told_axis b) q
  where
    go : (c : Bool) (o : Option Dom) → (if c then Some None else option_map Some o) ≡ Some None → c ≡ true
    go true o q = refl
    go false None q = cc
    go false (Some d) q = cc

side-told : (b : Ex) (d : Dom) → other_side b ≡ Some (Some d) → (told_axis b ≡ Some d) × (is_laid_open b ≡ false)
side-told b d q = go (is_laid_open b) (told_axis b) q
  where
    go : (c : Bool) (o : Option Dom) → (if c then Some None else option_map Some o) ≡ Some (Some d) → (o ≡ Some d) × (c ≡ false)
    go true o q = (cc, cc)
    go false None q = (cc, cc)
    go false (Some c) q = (cc, refl)

no-comprehension : (b : Ex) → is_laid_open b ≡ false → isnt_comprehension b ≡ true
no-comprehension (comp_ex e gs) h = cc
no-comprehension _ h = refl

each-of : (P Q : Dom → Type 0) → ((d : Dom) → P d → Q d) → (o : Option Dom) → OfSome o P → OfSome o Q
each-of P Q f None h = tt
each-of P Q f (Some d) h = f d h

-- The domain has marks, also where the new name is bound.
side-marked : (s : Supply) (g : Names Ty) (b : Ex) (d : Dom) → other_side b ≡ Some (Some d) → IsNewTo s.one b → SideMarked s g b →
    HasMarks b g → DomHasMarks d g × DomHasMarks d ((s.one, int_ty) ∷ g)
side-marked s g b d q new k m = (
  at g (each-of Asked (λ c. DomHasMarks c g) (λ c h. h.0) (axis_by_count b) k) m,
  at ((s.one, int_ty) ∷ g) (each-of Asked (λ c. DomHasMarks c ((s.one, int_ty) ∷ g))
      (λ c h. (marks-behind s.one int_ty (matrix_ex no_exs c) g (tt, h.1) (tt, h.0)).1) (axis_by_count b) k)
      (marks-behind s.one int_ty b g new m),
)
  where
    Asked : Dom → Type 0
    Asked c = DomHasMarks c g × DomUsesNames (λ a. not (same_text s.one a)) c

    at : (h : Names Ty) → OfSome (axis_by_count b) (λ c. DomHasMarks c h) → HasMarks b h → DomHasMarks d h
    at h k m = subst (λ o. OfSome o (λ c. DomHasMarks c h)) (side-told b d q).0
        (told-axis-marked h b (no-comprehension b (side-told b d q).1) k m)

-- ---- both lists

module _ (g : Names Ty) (x z : Text) (n a b : Ex) (t u : Ty) (l : Listed g x a t) (k : Listed g x b u) (agree : Agree t u) where
  abbrev Items : Ex
  Items = at_each_number x z n a (items_compared Op2.Eq t u x a b)

  items-typed : type_of Items g ≡ Some bool_ty
  items-typed = each-typed g x z n a (items_compared Op2.Eq t u x a b) t l (equal-typed g x a b t u l k agree)

  items-grow : HasMarks n g → HasMarks a g → HasMarks b g → Grows g Items
  items-grow i m o = each-grows g x z n a (items_compared Op2.Eq t u x a b) i (marked-behind g x a t l m) (equal-grows g x a b t u l k m o)

  lists-typed : type_of (equal_lists x z n t u a b) g ≡ Some bool_ty
  lists-typed = two-to (type_of (as_many_items z a (items_counted z b)) g) (type_of Items g) (type_of_op (binary Op2.And)) bool_ty bool_ty
      bool_ty
      (equation-type g (items_counted z a) (items_counted z b) int_ty int_ty (count-typed g x a t l z) (count-typed g x b u k z) refl)
      items-typed refl

  lists-grow : HasMarks n g → HasMarks a g → HasMarks b g → Grows g (equal_lists x z n t u a b)
  lists-grow i m o = a_node refl (more_grow
      (a_node refl (more_grow (count-grows g z a m) (more_grow (count-grows g z b o) none_grow)))
      (more_grow (items-grow i m o) none_grow))

  -- A matrix over d.
  module _ (d : Dom) (apart : same_text z x ≡ false) (numbers : Agree (type_of_dom d) int_ty) where
    abbrev Lies : Ex
    Lies = some_over z d (ex2 true Op2.Eq (name_ex z) (name_ex x))

    lies-typed : type_of Lies ((x, int_ty) ∷ g) ≡ Some bool_ty
    lies-typed =
        let h : Names Ty = (x, int_ty) ∷ g in
        let w : Ty = type_of_dom d in
        one-to (type_of (comp_ex (ex2 true Op2.Eq (name_ex z) (name_ex x)) (over (name_pat z) d no_gens)) h) (type_of_op (word Fun.Or))
        (compound2 a_matrix int_ty bool_ty) bool_ty
        (ap (option_map (compound2 a_matrix int_ty)) (equation-type ((z, w) ∷ h) (name_ex z) (name_ex x) w int_ty
        (look-itself z w h) (look-past z x w h apart ∙ look-itself x int_ty g) numbers)) refl

    lies-grows : DomHasMarks d ((x, int_ty) ∷ g) → Grows ((x, int_ty) ∷ g) Lies
    lies-grows m = a_node refl (more_grow (a_comp (over_grows m no_gens_grow)
        (a_node refl (more_grow (as_it_is tt) (more_grow (as_it_is tt) none_grow)))) none_grow)

    over-typed : type_of (equal_over d x z n t u a b) g ≡ Some bool_ty
    over-typed =
        let many = as_many_items z a (members_counted z d) in
        let each = at_each_number x z n a Lies in
        two-to (type_of (ex2 true Op2.And many each) g) (type_of Items g) (type_of_op (binary Op2.And)) bool_ty bool_ty bool_ty
        (two-to (type_of many g) (type_of each g) (type_of_op (binary Op2.And)) bool_ty bool_ty bool_ty
        (equation-type g (items_counted z a) (members_counted z d) int_ty int_ty (count-typed g x a t l z) refl refl)
        (each-typed g x z n a Lies t l lies-typed) refl)
        items-typed refl

    over-grows : HasMarks n g → HasMarks a g → HasMarks b g → DomHasMarks d g → DomHasMarks d ((x, int_ty) ∷ g) →
        Grows g (equal_over d x z n t u a b)
    over-grows i m o p q = a_node refl (more_grow
        (a_node refl (more_grow
        (a_node refl (more_grow (count-grows g z a m)
        (more_grow (a_node refl (more_grow (a_comp (over_grows p no_gens_grow) (as_it_is tt)) none_grow)) none_grow)))
        (more_grow (each-grows g x z n a Lies i (marked-behind g x a t l m) (lies-grows q)) none_grow)))
        (more_grow (items-grow i m o) none_grow))

-- ---- the rule

-- Of an equation of two sides, either of which is the list over a counted source.
module _ (s : Supply) (g : Names Ty) (e a b : Ex) (truth : (v : Ty) → type_of e g ≡ Some v → v ≡ bool_ty)
    (agree : (v : Ty) → type_of e g ≡ Some v → (i t j u : Ty) → type_of a g ≡ Some (compound2 a_matrix i t) →
    type_of b g ≡ Some (compound2 a_matrix j u) → Agree t u)
    (marks : HasMarks e g → HasMarks a g × HasMarks b g) (na : IsNewTo s.one a) (nb : IsNewTo s.one b) where
  abbrev Asked : Type 0
  Asked = ListBindsNone s g a × SideMarked s g b

  -- By the types of a truth value and what it grows from.
  made : (f : Ex) → ((v : Ty) → type_of e g ≡ Some v → type_of f g ≡ Some bool_ty) →
      (Asked → (v : Ty) → type_of e g ≡ Some v → HasMarks a g → HasMarks b g → Grows g f) → KeepsBoth g Asked e f
  made f k m = (typed, λ p v q h. grown g f (m p v q (marks h).0 (marks h).1) v (typed v q))
    where
      typed : (v : Ty) → type_of e g ≡ Some v → type_of f g ≡ Some v
      typed v q = k v q ∙ ap Some (sym (truth v q))

  module _ (n : Ex) (c : counted_list s g a ≡ Some n) (i t j u : Ty) (p : type_of a g ≡ Some (compound2 a_matrix i t))
      (q : type_of b g ≡ Some (compound2 a_matrix j u)) where
    first : Listed g s.one a t
    first = record { axis = i; typed = p; new = na; by_numbers = laid-indices a (counted-laid s g a n c) g i t p }

    bound : Asked → HasMarks a g → HasMarks n g
    bound r m = counted-marked s g a n c r.0 g (compound2 a_matrix i t) p m

    with-list : other_side b ≡ Some None → KeepsBoth g Asked e (equal_lists s.one s.other n t u a b)
    with-list o = made (equal_lists s.one s.other n t u a b)
        (λ v r. lists-typed g s.one s.other n a b t u first second (agree v r i t j u p q))
        (λ d v r m k. lists-grow g s.one s.other n a b t u first second (agree v r i t j u p q) (bound d m) m k)
      where
        second : Listed g s.one b u
        second = record { axis = j; typed = q; new = nb; by_numbers = laid-indices b (side-laid b o) g j u q }

    with-matrix : (d : Dom) → other_side b ≡ Some (Some d) → SideFits s g b → KeepsBoth g Asked e (equal_over d s.one s.other n t u a b)
    with-matrix d o f = made (equal_over d s.one s.other n t u a b)
        (λ v r. over-typed g s.one s.other n a b t u first second (agree v r i t j u p q) d fits.0 fits.2)
        (λ y v r m k.
        let w = side-marked s g b d o nb y.1 k in
        over-grows g s.one s.other n a b t u first second (agree v r i t j u p q) d fits.0 fits.2 (bound y m) m k w.0 w.1)
      where
        fits : (same_text s.other s.one ≡ false) × (has_indices (type_of b g) int_ty ≡ true)
            × (is_some (join (type_of_dom d) int_ty) ≡ true)
        fits = subst (λ z. OfSome z (λ y. OfSome y (λ c. (same_text s.other s.one ≡ false) × (has_indices (type_of b g) int_ty ≡ true)
            × (is_some (join (type_of_dom c) int_ty) ≡ true)))) o f

        second : Listed g s.one b u
        second = record { axis = j; typed = q; new = nb; by_numbers = ap (λ z. has_indices z int_ty) (sym q) ∙ fits.1 }

    with-side : (o : Option Dom) → other_side b ≡ Some o → SideFits s g b → KeepsBoth g Asked e (equal_as o s.one s.other n a b t u)
    with-side None o f = with-list o
    with-side (Some d) o f = with-matrix d o f

  -- The equation by the numbers of the first one.
  pub one-way : SideFits s g b → BothKept g Asked e (equal_counted s g a b)
  one-way f = counted (counted_list s g a) refl (other_side b) refl
    where
      typed : (n : Ex) → counted_list s g a ≡ Some n → (o : Option Dom) → other_side b ≡ Some o → (v w : Option Ty) → type_of a g ≡ v →
          type_of b g ≡ w → BothKept g Asked e (both_matrices v w (equal_as o s.one s.other n a b))
      typed n c o r (Some (compound2 a_matrix i t)) (Some (compound2 a_matrix j u)) p q = with-side n c i t j u p q o r f
      typed n c o r _ _ p q = tt

      counted : (c : Option Ex) → counted_list s g a ≡ c → (r : Option (Option Dom)) → other_side b ≡ r → BothKept g Asked e
          (and_then c (λ n. and_then r (λ o. both_matrices (type_of a g) (type_of b g) (equal_as o s.one s.other n a b))))
      counted None c r q = tt
      counted (Some n) c None q = tt
      counted (Some n) c (Some o) q = typed n c o q (type_of a g) (type_of b g) refl refl

-- What an equation says of types.
module _ (g : Names Ty) (a b : Ex) (v : Ty) (q : type_of (ex2 true Op2.Eq a b) g ≡ Some v) where
  equation-truth : v ≡ bool_ty
  equation-truth =
      let r = two-is (type_of a g) (type_of b g) (type_of_op (binary Op2.Eq)) v q in (given-is (join r.0 r.1) bool_ty v r.4).1

  equation-agrees : (i t j u : Ty) → type_of a g ≡ Some (compound2 a_matrix i t) → type_of b g ≡ Some (compound2 a_matrix j u) → Agree t u
  equation-agrees i t j u p k =
      let r = two-is (type_of a g) (type_of b g) (type_of_op (binary Op2.Eq)) v q in
      items-agree i t j u (subst (λ n. Agree (compound2 a_matrix i t) n) (some-same r.1 (compound2 a_matrix j u) (sym r.3 ∙ k))
      (subst (λ n. Agree n r.1) (some-same r.0 (compound2 a_matrix i t) (sym r.2 ∙ p)) (given-is (join r.0 r.1) bool_ty v r.4).0))

-- By those of either side.
pub equality : (s : Supply) (g : Names Ty) (e : Ex) → NumberTyped s g equality_of_lists e →
    BothKept g (NumberMarked s g equality_of_lists e) e (equal_by_number s g e)
equality s g (ex2 true Op2.Eq a b) h =
    either s g (ListBindsNone s g a × SideMarked s g b) (ListBindsNone s g b × SideMarked s g a) (ex2 true Op2.Eq a b)
    (equal_counted s g a b) (equal_counted s g b a)
    (one-way s g (ex2 true Op2.Eq a b) a b (equation-truth g a b) (equation-agrees g a b) (λ m. (m.1.0, m.1.1.0)) h.0 h.1 h.3)
    (one-way s g (ex2 true Op2.Eq a b) b a (equation-truth g a b)
    (λ v q i t j u p k. turned u t (equation-agrees g a b v q j u i t k p)) (λ m. (m.1.1.0, m.1.0)) h.1 h.0 h.2)
equality s g _ h = tt
