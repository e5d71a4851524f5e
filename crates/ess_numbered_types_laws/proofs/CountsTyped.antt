-- Items by number, and how many a list has: their types, and that they grow from what is marked.
use Rattle.std.proofs.Common.{◌≡◌, refl, ap, ◌∙◌, subst, true, false, not, List, [], ◌∷◌, pos, Option, Some, None, option_map}
use Rattle.ess_semantics.specs.declared.words.Op2.{Op2}
use Rattle.ess_semantics.specs.declared.words.Fun.{Fun}
use Rattle.ess_semantics.specs.Lists.{and_then, all_some}
use Rattle.ess_semantics.specs.Values.{Text, a_matrix}
use Rattle.ess_semantics.specs.Order.{same_text}
use Rattle.ess_semantics.specs.Names.{Names}
use Rattle.ess_semantics.specs.Trees.{binary, word, matrix_literal, name_pat, Ex, number_ex, name_ex, node_ex, comp_ex, Gens, no_gens, from}
use Rattle.ess_semantics.specs.Types.{Ty, any_ty, bool_ty, int_ty, compound2, join, join_all}
use Rattle.ess_semantics.specs.OperatorTypes.{type_of_op, type_of_list, member_ty, compared}
use Rattle.ess_semantics.specs.Typing.{type_of, types_of, types_under}
use Rattle.ess_guard_types_laws.proofs.JoinedTypes.{Agree}
use Rattle.ess_rules_laws.specs.FoldRules.{is_laid_open}
use Rattle.ess_rules_laws.specs.MatrixRules.{item_of}
use Rattle.ess_refine_laws.specs.MarksStay.{HasMarks}
use Rattle.ess_refine_types_laws.specs.MarksOfContainers.{IsNewTo}
use Rattle.ess_refine_types_laws.proofs.MarksBehind.{fewer, marks-behind}
use Rattle.ess_refine_types_laws.proofs.TypeParts.{one-to, two-to, list-over, new-name, term-behind, equation-type}
use Rattle.ess_rules_marks_laws.proofs.Grows.{Grows, as_it_is, a_node, a_comp, none_grow, more_grow, GensGrow, no_gens_grow, over_grows, from_grows, cond_grows}
use Rattle.ess_numbered_laws.specs.CountedSources.{items_counted, is_number_of, numbers_of}
use Rattle.ess_numbered_laws.specs.EqualByNumber.{at_each_number, items_compared}
use Rattle.ess_ordered_types_laws.proofs.SourcesTyped.{item-is, item-marks}
use Rattle.ess_numbered_types_laws.proofs.MostTyped.{list-is}

-- Truth values are apart.
pub no : {A : Type 0} → false ≡ true → A
no h = cc

-- ---- lists

-- Numbers are the indices of what is laid open.
pub laid-indices : (a : Ex) → is_laid_open a ≡ true → (g : Names Ty) (i t : Ty) → type_of a g ≡ Some (compound2 a_matrix i t) →
    Agree i int_ty
laid-indices (comp_ex e gs) h g i t q =
    let r = list-is (types_under gs g) (type_of e) (compound2 a_matrix i t) q in let j : int_ty ≡ i = cc in
    subst (λ z. Agree z int_ty) j refl
laid-indices (node_ex false matrix_literal es) h g i t q = go (all_some (types_of es g)) q
  where
    joined : (o : Option Ty) → option_map (compound2 a_matrix int_ty) o ≡ Some (compound2 a_matrix i t) → Agree i int_ty
    joined None p = cc
    joined (Some u) p = let j : int_ty ≡ i = cc in subst (λ z. Agree z int_ty) j refl

    go : (o : Option (List Ty)) → and_then o type_of_list ≡ Some (compound2 a_matrix i t) → Agree i int_ty
    go None p = cc
    go (Some []) p = let j : any_ty ≡ i = cc in subst (λ z. Agree z int_ty) j refl
    go (Some (u ∷ us)) p = joined (join_all (u ∷ us)) p
laid-indices _ h g i t q = no (let j : false ≡ true = cc in j)

-- The term is a matrix of items of the type t over numbers, and doesn't use the name x.
pub record Listed (g : Names Ty) (x : Text) (a : Ex) (t : Ty) : Type 0 where
  pub axis : Ty
  pub typed : type_of a g ≡ Some (compound2 a_matrix axis t)
  pub new : IsNewTo x a
  pub by_numbers : Agree axis int_ty

-- Behind another new name it has its type.
pub typed-behind : (g : Names Ty) (x y : Text) (a : Ex) (t : Ty) → IsNewTo y a → (l : Listed g x a t) →
    type_of a ((y, int_ty) ∷ g) ≡ Some (compound2 a_matrix l.axis t)
typed-behind g x y a t n l = term-behind g y int_ty a (compound2 a_matrix l.axis t) (fewer (λ c. not (same_text y c)) a n) l.typed

-- And is listed so.
pub listed-behind : (g : Names Ty) (x y : Text) (a : Ex) (t : Ty) → IsNewTo y a → Listed g x a t → Listed ((y, int_ty) ∷ g) x a t
listed-behind g x y a t n l = record {
  axis = l.axis;
  typed = typed-behind g x y a t n l;
  new = l.new;
  by_numbers = l.by_numbers;
}

module _ (g : Names Ty) (x : Text) (a : Ex) (t : Ty) (l : Listed g x a t) where
  -- The item at x.
  pub item-typed : type_of (item_of t a (name_ex x)) ((x, int_ty) ∷ g) ≡ Some t
  item-typed = item-is g x a l.new l.axis t int_ty l.typed l.by_numbers

  -- And it has marks.
  pub item-marked : HasMarks a g → HasMarks (item_of t a (name_ex x)) ((x, int_ty) ∷ g)
  item-marked m = item-marks g x a l.new l.axis t int_ty l.typed l.by_numbers m

  pub marked-behind : HasMarks a g → HasMarks a ((x, int_ty) ∷ g)
  marked-behind m = marks-behind x int_ty a g l.new m

  -- How many items there are.
  pub count-typed : (z : Text) → type_of (items_counted z a) g ≡ Some int_ty
  count-typed z = one-to (type_of (comp_ex (number_ex (pos 1)) (from (name_pat z) a no_gens)) g) (type_of_op (word Fun.Sum))
      (compound2 a_matrix int_ty int_ty) int_ty
      (list-over g z a (number_ex (pos 1)) t int_ty (ap (λ o. and_then o member_ty) l.typed) refl) refl

-- It grows from what is marked.
pub count-grows : (g : Names Ty) (z : Text) (a : Ex) → HasMarks a g → Grows g (items_counted z a)
count-grows g z a m = a_node refl (more_grow (a_comp (from_grows (as_it_is m) no_gens_grow) (as_it_is tt)) none_grow)

-- ---- numbers of items

-- That x is such a number.
pub bound-grows : (g : Names Ty) (x z : Text) (a : Ex) → HasMarks a g → Grows g (is_number_of x z a)
bound-grows g x z a m = a_node refl (more_grow (as_it_is tt) (more_grow (count-grows g z a m) none_grow))

module _ (g : Names Ty) (x z : Text) where
  -- Behind the name of numbers.
  abbrev pub Within : Names Ty
  Within = (x, int_ty) ∷ g

  -- It is a truth value there.
  pub bound-typed : (a : Ex) (t : Ty) → Listed g x a t → type_of (is_number_of x z a) Within ≡ Some bool_ty
  bound-typed a t l = two-to (type_of (name_ex x) Within) (type_of (items_counted z a) Within) (type_of_op (binary Op2.Le)) int_ty int_ty
      bool_ty (new-name g x int_ty) (count-typed Within x a t (listed-behind g x x a t l.new l) z) refl

  -- Generators behind a condition.
  pub behind-a-truth : (c : Ex) (gs : Gens) (h : Names Ty) → type_of c h ≡ Some bool_ty →
      and_then (type_of c h) (λ t. and_then (join t bool_ty) (λ u. types_under gs h)) ≡ types_under gs h
  behind-a-truth c gs h q = ap (λ o. and_then o (λ t. and_then (join t bool_ty) (λ u. types_under gs h))) q

  -- The generators of numbers bind that name alone.
  pub numbers-under : (n a : Ex) (t : Ty) (gs : Gens) → Listed g x a t → types_under (numbers_of x z n a gs) g ≡ types_under gs Within
  numbers-under n a t gs l = behind-a-truth (is_number_of x z a) gs Within (bound-typed a t l)

  -- And they grow from what is marked.
  pub numbers-grow : (n a : Ex) (gs : Gens) → HasMarks n g → HasMarks a Within → GensGrow Within gs → GensGrow g (numbers_of x z n a gs)
  numbers-grow n a gs m k r = over_grows (tt, (m, tt)) (cond_grows (bound-grows Within x z a k) r)

  -- ---- at each number

  -- What is true at each number is a truth value.
  pub each-typed : (n a body : Ex) (t : Ty) → Listed g x a t → type_of body Within ≡ Some bool_ty →
      type_of (at_each_number x z n a body) g ≡ Some bool_ty
  each-typed n a body t l q =
      one-to (type_of (comp_ex body (numbers_of x z n a no_gens)) g) (type_of_op (word Fun.And)) (compound2 a_matrix int_ty bool_ty) bool_ty
      (ap (λ o. and_then o (λ h. option_map (compound2 a_matrix int_ty) (type_of body h))) (numbers-under n a t no_gens l)
      ∙ ap (option_map (compound2 a_matrix int_ty)) q) refl

  -- And grows from what is marked.
  pub each-grows : (n a body : Ex) → HasMarks n g → HasMarks a Within → Grows Within body → Grows g (at_each_number x z n a body)
  each-grows n a body m k r = a_node refl (more_grow (a_comp (numbers-grow n a no_gens m k no_gens_grow) r) none_grow)

-- ---- two items

module _ (g : Names Ty) (x : Text) (a b : Ex) (t u : Ty) (l : Listed g x a t) (k : Listed g x b u) where
  -- That they are equal is a truth value.
  pub equal-typed : Agree t u → type_of (items_compared Op2.Eq t u x a b) ((x, int_ty) ∷ g) ≡ Some bool_ty
  equal-typed h = equation-type ((x, int_ty) ∷ g) (item_of t a (name_ex x)) (item_of u b (name_ex x)) t u (item-typed g x a t l)
      (item-typed g x b u k) h

  -- And that the first is lower, where types of items are compared.
  pub lower-typed : and_then (join t u) compared ≡ Some bool_ty → type_of (items_compared Op2.Lt t u x a b) ((x, int_ty) ∷ g) ≡ Some bool_ty
  lower-typed h = two-to (type_of (item_of t a (name_ex x)) ((x, int_ty) ∷ g)) (type_of (item_of u b (name_ex x)) ((x, int_ty) ∷ g))
      (type_of_op (binary Op2.Lt)) t u bool_ty (item-typed g x a t l) (item-typed g x b u k) h

  module _ (m : HasMarks a g) (n : HasMarks b g) where
    -- They grow from what is marked: the equation.
    pub equal-grows : Grows ((x, int_ty) ∷ g) (items_compared Op2.Eq t u x a b)
    equal-grows = a_node refl (more_grow (as_it_is (item-marked g x a t l m)) (more_grow (as_it_is (item-marked g x b u k n)) none_grow))

    -- The sign.
    pub lower-grows : Grows ((x, int_ty) ∷ g) (items_compared Op2.Lt t u x a b)
    lower-grows = a_node refl (more_grow (as_it_is (item-marked g x a t l m)) (more_grow (as_it_is (item-marked g x b u k n)) none_grow))
