-- Refined numbers that are made to be there everywhere have a number's type, and generators bind what they bound.
use Rattle.std.proofs.Common.{◌≡◌, refl, sym, ap, ◌∙◌, subst, true, false, List, [], ◌∷◌, Option, Some, None, option_map}
use Rattle.ess_semantics.specs.declared.words.Op1.{Op1}
use Rattle.ess_semantics.specs.declared.words.Op2.{Op2}
use Rattle.ess_semantics.specs.declared.words.Fun.{Fun}
use Rattle.ess_semantics.specs.Lists.{and_then, all_some}
use Rattle.ess_semantics.specs.Values.{a_matrix}
use Rattle.ess_semantics.specs.Names.{Names}
use Rattle.ess_semantics.specs.Trees.{word, matrix_literal, Ex, Exs, truth_ex, node_ex, comp_ex, ex1, ex2, fun1, no_exs, more_exs, Gens, no_gens, over, from, cond, Dom, int_dom}
use Rattle.ess_semantics.specs.Types.{Ty, any_ty, bool_ty, int_ty, named_ty, compound, compound2, join, join_all, type_of_dom, bind_types}
use Rattle.ess_semantics.specs.OperatorTypes.{type_of_op, type_of_list, list_ty, chosen_ty, member_ty}
use Rattle.ess_semantics.specs.Typing.{type_of, types_of, types_under}
use Rattle.ess_semantics.specs.NamesAt.{names_behind}
use Rattle.ess_types_laws.proofs.ResolvedTypes.{behind-types}
use Rattle.ess_refine_laws.specs.Everywhere.{divisor, extreme, everywhere, everywhere_list, everywhere_exs, everywhere_gens, everywhere_dom}
use Rattle.ess_refine_laws.specs.ExtremeRules.{is_extreme}
use Rattle.ess_refine_types_laws.proofs.TypeParts.{one-to}
use Rattle.ess_refine_types_laws.proofs.TypesOfListed.{heads}
use Rattle.ess_rules_types_laws.specs.TypesOfOthers.{is_numeric, SizesNumbers, AllSizeNumbers}
use Rattle.ess_rules_types_laws.proofs.TypesOfLeast.{guarded-list}
use Rattle.ess_rules_types_laws.proofs.NumbersEverywhere.{never, number-is, joined-number, operands, two-numbers, minus-of, minus-to, bar-to, divides, raised-number, list_numeric, sums-of, sums-to}

-- ---- generators

then-each : {A : Type 0} (o : Option A) (F G : A → Option (Names Ty)) → ((m : A) → F m ≡ G m) → and_then o F ≡ and_then o G
then-each None F G h = refl
then-each (Some m) F G h = h m

pub dom-everywhere : (d : Dom) → type_of_dom (everywhere_dom d) ≡ type_of_dom d
dom-everywhere (int_dom rs es) = refl
dom-everywhere _ = refl

-- Generators with bounds that are there everywhere bind names to the same types.
pub gens-everywhere : (gs : Gens) (g : Names Ty) → types_under (everywhere_gens gs) g ≡ types_under gs g
gens-everywhere no_gens g = refl
gens-everywhere (over p d gs) g =
    ap (λ t. types_under (everywhere_gens gs) (bind_types p t g)) (dom-everywhere d) ∙ gens-everywhere gs (bind_types p (type_of_dom d) g)
gens-everywhere (from p e gs) g =
    then-each (and_then (type_of e g) member_ty) (λ t. types_under (everywhere_gens gs) (bind_types p t g)) (λ t. types_under gs
    (bind_types p t g)) (λ t. gens-everywhere gs (bind_types p t g))
gens-everywhere (cond e gs) g =
    then-each (type_of e g) (λ t. and_then (join t bool_ty) (λ u. types_under (everywhere_gens gs) g)) (λ t. and_then (join t bool_ty)
    (λ u. types_under gs g)) (λ t. then-each (join t bool_ty) (λ u. types_under (everywhere_gens gs) g) (λ u. types_under gs g)
    (λ u. gens-everywhere gs g))

-- ---- comprehensions

-- A list that is a comprehension.
listed-is : (o : Option (Names Ty)) (F : Names Ty → Option Ty) →
    list_numeric (and_then o (λ h. option_map (compound2 a_matrix int_ty) (F h))) ≡ true →
    (k : Names Ty) × (o ≡ Some k) × (is_numeric (F k) ≡ true)
listed-is None F q = ([], cc, cc)
listed-is (Some k) F q = (k, refl, go (F k) q)
  where
    go : (p : Option Ty) → list_numeric (option_map (compound2 a_matrix int_ty) p) ≡ true → is_numeric p ≡ true
    go None q = q
    go (Some t) q = q

of-item : (p : Option Ty) → is_numeric p ≡ true → list_numeric (option_map (compound2 a_matrix int_ty) p) ≡ true
of-item None q = q
of-item (Some t) q = q

pub listed-to : (o : Option (Names Ty)) (F : Names Ty → Option Ty) (k : Names Ty) → o ≡ Some k → is_numeric (F k) ≡ true →
    list_numeric (and_then o (λ h. option_map (compound2 a_matrix int_ty) (F h))) ≡ true
listed-to o F k q h = ap (λ z. list_numeric (and_then z (λ h. option_map (compound2 a_matrix int_ty) (F h)))) q ∙ of-item (F k) h

chosen-of : (t : Ty) → is_numeric (chosen_ty t) ≡ true → is_numeric (Some t) ≡ true
chosen-of any_ty h = refl
chosen-of int_ty h = refl
chosen-of bool_ty h = h
chosen-of (named_ty a) h = h
chosen-of (compound k ts) h = h

-- What is least of a list.
least-is : (f : Fun) → is_extreme f ≡ true → (i t : Ty) → type_of_op (word f) (compound2 a_matrix i t ∷ []) ≡ chosen_ty t
least-is Fun.Min k i t = refl
least-is Fun.Max k i t = refl
least-is _ k i t = cc

chosen-to : (t : Ty) → is_numeric (Some t) ≡ true → is_numeric (chosen_ty t) ≡ true
chosen-to any_ty h = refl
chosen-to int_ty h = refl
chosen-to _ h = cc

least-of : (f : Fun) → is_extreme f ≡ true → (o : Option (Names Ty)) (F : Names Ty → Option Ty) →
    is_numeric (and_then (and_then o (λ h. option_map (compound2 a_matrix int_ty) (F h))) (λ t. type_of_op (word f) (t ∷ []))) ≡ true →
    list_numeric (and_then o (λ h. option_map (compound2 a_matrix int_ty) (F h))) ≡ true
least-of f k None F q = q
least-of f k (Some h) F q = go (F h) q
  where
    go : (p : Option Ty) → is_numeric (and_then (option_map (compound2 a_matrix int_ty) p) (λ t. type_of_op (word f) (t ∷ []))) ≡ true →
        list_numeric (option_map (compound2 a_matrix int_ty) p) ≡ true
    go None q = q
    go (Some t) q = chosen-of t (ap is_numeric (sym (least-is f k int_ty t)) ∙ q)

alone : (f : Fun) (o : Option Ty) → and_then (all_some (o ∷ [])) (type_of_op (word f)) ≡ and_then o (λ t. type_of_op (word f) (t ∷ []))
alone f None = refl
alone f (Some t) = refl

-- The least of a comprehension of numbers, or 0 where there is none.
guarded-least : (f : Fun) → is_extreme f ≡ true → (e : Ex) (gs : Gens) (g k : Names Ty) → types_under gs g ≡ Some k →
    is_numeric (type_of e k) ≡ true → is_numeric (type_of (extreme f (comp_ex e gs)) g) ≡ true
guarded-least f i e gs g k q h =
    let n = number-is (type_of e k) h in
    let l : type_of (comp_ex e gs) g ≡ Some (compound2 a_matrix int_ty n.ty) =
    ap (λ o. and_then o (λ j. option_map (compound2 a_matrix int_ty) (type_of e j))) q
    ∙ ap (option_map (compound2 a_matrix int_ty)) n.there in
    let m = number-is (type_of (fun1 false f (comp_ex e gs)) g)
    (ap (λ o. is_numeric (and_then (all_some (o ∷ [])) (type_of_op (word f)))) l ∙ ap is_numeric (least-is f i int_ty n.ty)
    ∙ chosen-to n.ty n.fits) in
    let c = one-to (type_of (comp_ex (truth_ex true) gs) g) (type_of_op (word Fun.Or)) (compound2 a_matrix int_ty bool_ty) bool_ty
    (ap (λ o. and_then o (λ j. option_map (compound2 a_matrix int_ty) (type_of (truth_ex true) j))) q) refl in
    ap is_numeric (sums-to Fun.Sum (type_of (comp_ex (fun1 false f (comp_ex e gs)) (cond (fun1 true Fun.Or (comp_ex
    (truth_ex true) gs)) no_gens)) g)
    (λ t. refl) (ap list_numeric (guarded-list g (fun1 false f (comp_ex e gs)) (fun1 true Fun.Or (comp_ex
    (truth_ex true) gs)) m.ty m.there c)
    ∙ m.fits))

-- ---- literals

module _ (g : Names Ty) where
  abbrev AllNumeric : Exs → Type 0
  AllNumeric no_exs = Unit {0}
  AllNumeric (more_exs e es) = (is_numeric (type_of e g) ≡ true) × AllNumeric es

  join-both : (t : Ty) (o : Option Ty) → is_numeric (and_then o (join t)) ≡ true → (is_numeric (Some t) ≡ true) × (is_numeric o ≡ true)
  join-both t None h = never h
  join-both t (Some w) h = let n = number-is (join t w) h in joined-number t w n.ty n.there n.fits

  join-to : (t : Ty) (o : Option Ty) → is_numeric (Some t) ≡ true → is_numeric o ≡ true → is_numeric (and_then o (join t)) ≡ true
  join-to any_ty (Some any_ty) h k = refl
  join-to any_ty (Some int_ty) h k = refl
  join-to int_ty (Some any_ty) h k = refl
  join-to int_ty (Some int_ty) h k = refl
  join-to _ _ h k = cc

  items-are : (es : Exs) (ts : List Ty) → all_some (types_of es g) ≡ Some ts → is_numeric (join_all ts) ≡ true → AllNumeric es
  items-are no_exs ts q h = tt
  items-are (more_exs e es) ts q h =
      let r = heads (type_of e g) (all_some (types_of es g)) ts q in
      let b = join-both r.0 (join_all r.1) (ap (λ z. is_numeric (join_all z)) r.4 ∙ h) in
      (ap is_numeric r.2 ∙ b.0, items-are es r.1 r.3 b.1)

  items-to : (es : Exs) → AllNumeric es → (ts : List Ty) × (all_some (types_of es g) ≡ Some ts) × (is_numeric (join_all ts) ≡ true)
  items-to no_exs h = ([], refl, refl)
  items-to (more_exs e es) h =
      let n = number-is (type_of e g) h.0 in
      let r = items-to es h.1 in (
        n.ty ∷ r.0,
        ap (λ o. and_then o (λ x. option_map (λ xs. x ∷ xs) (all_some (types_of es g)))) n.there ∙ ap (option_map (λ xs. n.ty ∷ xs)) r.1,
        join-to n.ty (join_all r.0) n.fits r.2,
      )

  -- A literal that is folded, or of which the least is taken, has numbers.
  literal-is : (es : Exs) (F : Ty → Option Ty) → ((i t : Ty) → is_numeric (F (compound2 a_matrix i t)) ≡ true →
      is_numeric (Some t) ≡ true) →
      is_numeric (and_then (and_then (all_some (types_of es g)) type_of_list) F) ≡ true → AllNumeric es
  literal-is no_exs F k h = tt
  literal-is (more_exs e es) F k h = go (all_some (types_of (more_exs e es) g)) refl h
    where
      joined : (o : Option Ty) → is_numeric (and_then (option_map (compound2 a_matrix int_ty) o) F) ≡ true → is_numeric o ≡ true
      joined None h = h
      joined (Some t) h = k int_ty t h

      go : (o : Option (List Ty)) → all_some (types_of (more_exs e es) g) ≡ o → is_numeric (and_then (and_then o type_of_list) F) ≡ true →
          AllNumeric (more_exs e es)
      go None q h = never h
      go (Some []) q h = items-are (more_exs e es) [] q refl
      go (Some (t ∷ ts)) q h = items-are (more_exs e es) (t ∷ ts) q (joined (join_all (t ∷ ts)) h)

  literal-to : (es : Exs) (F : Ty → Option Ty) → ((i t : Ty) → is_numeric (Some t) ≡ true →
      is_numeric (F (compound2 a_matrix i t)) ≡ true) →
      AllNumeric es → is_numeric (and_then (and_then (all_some (types_of es g)) type_of_list) F) ≡ true
  literal-to es F k h = let r = items-to es h in ap (λ o. is_numeric (and_then (and_then o type_of_list) F)) r.1 ∙ go r.0 r.2
    where
      joined : (o : Option Ty) → is_numeric o ≡ true → is_numeric (and_then (option_map (compound2 a_matrix int_ty) o) F) ≡ true
      joined None h = h
      joined (Some t) h = k int_ty t h

      go : (ts : List Ty) → is_numeric (join_all ts) ≡ true → is_numeric (and_then (type_of_list ts) F) ≡ true
      go [] h = k any_ty any_ty refl
      go (t ∷ ts) h = joined (join_all (t ∷ ts)) h

-- ---- trees

mutual
  -- A number stays one.
  pub number-everywhere : (e : Ex) (g : Names Ty) → SizesNumbers e g → is_numeric (type_of e g) ≡ true →
      is_numeric (type_of (everywhere e) g) ≡ true
  number-everywhere (ex1 false Op1.Minus a) g s h =
      minus-to (type_of (everywhere a) g) (number-everywhere a g s.1.0 (minus-of (type_of a g) h))
  number-everywhere (ex1 false Op1.Bar a) g s h = bar-to (type_of (everywhere a) g) (number-everywhere a g s.1.0 s.0)
  number-everywhere (ex2 false Op2.Plus a b) g s h =
      let r = operands Op2.Plus (type_of a g) (type_of b g) refl h in
      two-numbers Op2.Plus (type_of (everywhere a) g) (type_of (everywhere b) g) refl (number-everywhere a g s.1.0 r.0)
      (number-everywhere b g s.1.1.0 r.1)
  number-everywhere (ex2 false Op2.Minus a b) g s h =
      let r = operands Op2.Minus (type_of a g) (type_of b g) refl h in
      two-numbers Op2.Minus (type_of (everywhere a) g) (type_of (everywhere b) g) refl (number-everywhere a g s.1.0 r.0)
      (number-everywhere b g s.1.1.0 r.1)
  number-everywhere (ex2 false Op2.Times a b) g s h =
      let r = operands Op2.Times (type_of a g) (type_of b g) refl h in
      two-numbers Op2.Times (type_of (everywhere a) g) (type_of (everywhere b) g) refl (number-everywhere a g s.1.0 r.0)
      (number-everywhere b g s.1.1.0 r.1)
  number-everywhere (ex2 false Op2.Div a b) g s h =
      let r = operands Op2.Div (type_of a g) (type_of b g) refl h in
      two-numbers Op2.Div (type_of (everywhere a) g) (type_of (divisor (everywhere b)) g) refl (number-everywhere a g s.1.0 r.0)
      (divides g (everywhere b) (number-everywhere b g s.1.1.0 r.1))
  number-everywhere (ex2 false Op2.Mod a b) g s h =
      let r = operands Op2.Mod (type_of a g) (type_of b g) refl h in
      two-numbers Op2.Mod (type_of (everywhere a) g) (type_of (divisor (everywhere b)) g) refl (number-everywhere a g s.1.0 r.0)
      (divides g (everywhere b) (number-everywhere b g s.1.1.0 r.1))
  number-everywhere (ex2 false Op2.Pow a b) g s h =
      let r = operands Op2.Pow (type_of a g) (type_of b g) refl h in
      raised-number g (everywhere a) (everywhere b) (number-everywhere a g s.1.0 r.0) (number-everywhere b g s.1.1.0 r.1)
  number-everywhere (fun1 false Fun.Sum l) g s h = ap is_numeric (sums-to Fun.Sum (type_of (everywhere_list l) g) (λ t. refl)
      (list-everywhere l g s.1.0 (sums-of Fun.Sum (type_of l g) (λ t. refl) h)))
  number-everywhere (fun1 false Fun.Product l) g s h = ap is_numeric (sums-to Fun.Product (type_of (everywhere_list l) g) (λ t. refl)
      (list-everywhere l g s.1.0 (sums-of Fun.Product (type_of l g) (λ t. refl) h)))
  number-everywhere (fun1 false Fun.Min l) g s h = least-everywhere Fun.Min refl l g s.1.0 h
  number-everywhere (fun1 false Fun.Max l) g s h = least-everywhere Fun.Max refl l g s.1.0 h
  number-everywhere _ g s h = h

  -- So does a list of numbers.
  pub list-everywhere : (l : Ex) (g : Names Ty) → SizesNumbers l g → list_numeric (type_of l g) ≡ true →
      list_numeric (type_of (everywhere_list l) g) ≡ true
  list-everywhere (comp_ex e gs) g s h =
      let r = listed-is (types_under gs g) (type_of e) h in
      let k : names_behind gs g ≡ r.0 = behind-types gs g r.0 r.1 in
      listed-to (types_under (everywhere_gens gs) g) (type_of (everywhere e)) r.0 (gens-everywhere gs g ∙ r.1)
      (number-everywhere e r.0 (subst (SizesNumbers e) k s) r.2)
  list-everywhere (node_ex false matrix_literal es) g s h =
      literal-to g (everywhere_exs es) list_ty (λ i t n. n) (items-everywhere es g s.1 (literal-is g es list_ty (λ i t n. n) h))
  list-everywhere _ g s h = h

  -- So do items.
  items-everywhere : (es : Exs) (g : Names Ty) → AllSizeNumbers es g → AllNumeric g es → AllNumeric g (everywhere_exs es)
  items-everywhere no_exs g s h = tt
  items-everywhere (more_exs e es) g s h = (number-everywhere e g s.0 h.0, items-everywhere es g s.1 h.1)

  -- And so does the least of a list.
  least-everywhere : (f : Fun) → is_extreme f ≡ true → (l : Ex) (g : Names Ty) → SizesNumbers l g →
      is_numeric (and_then (all_some (type_of l g ∷ [])) (type_of_op (word f))) ≡ true →
      is_numeric (type_of (extreme f (everywhere_list l)) g) ≡ true
  least-everywhere f i (comp_ex e gs) g s h =
      let r = listed-is (types_under gs g) (type_of e)
      (least-of f i (types_under gs g) (type_of e) (ap is_numeric (sym (alone f (type_of (comp_ex e gs) g))) ∙ h)) in
      let k : names_behind gs g ≡ r.0 = behind-types gs g r.0 r.1 in
      guarded-least f i (everywhere e) (everywhere_gens gs) g r.0 (gens-everywhere gs g ∙ r.1)
      (number-everywhere e r.0 (subst (SizesNumbers e) k s) r.2)
  least-everywhere f i (node_ex false matrix_literal no_exs) g s h = refl
  least-everywhere f i (node_ex false matrix_literal (more_exs e es)) g s h =
      ap is_numeric (alone f (type_of (node_ex false matrix_literal (everywhere_exs (more_exs e es))) g))
      ∙ literal-to g (everywhere_exs (more_exs e es)) (λ t. type_of_op (word f) (t ∷ []))
      (λ j t n. ap is_numeric (least-is f i j t) ∙ chosen-to t n)
      (items-everywhere (more_exs e es) g s.1 (literal-is g (more_exs e es) (λ t. type_of_op (word f) (t ∷ []))
      (λ j t n. chosen-of t (ap is_numeric (sym (least-is f i j t)) ∙ n))
      (ap is_numeric (sym (alone f (type_of (node_ex false matrix_literal (more_exs e es)) g))) ∙ h)))
  least-everywhere f i _ g s h = h
