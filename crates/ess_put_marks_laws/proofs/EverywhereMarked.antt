-- Refined numbers that are made to be there everywhere keep marks.
use Rattle.std.proofs.Common.{◌≡◌, refl, sym, ap, ◌∙◌, subst, Bool, true, false, if◌then◌else◌}
use Rattle.ess_semantics.specs.declared.words.Op1.{Op1}
use Rattle.ess_semantics.specs.declared.words.Op2.{Op2}
use Rattle.ess_semantics.specs.declared.words.Fun.{Fun}
use Rattle.ess_semantics.specs.Names.{Names}
use Rattle.ess_semantics.specs.Trees.{matrix_literal, Ex, Exs, node_ex, comp_ex, ex1, ex2, fun1, no_exs, more_exs, Gens, no_gens, over, from, cond, Dom, int_dom}
use Rattle.ess_semantics.specs.Types.{Ty, type_of_dom, bind_types}
use Rattle.ess_semantics.specs.Typing.{type_of, source_ty}
use Rattle.ess_semantics.specs.NamesAt.{names_behind}
use Rattle.ess_refine_laws.specs.Everywhere.{is_nonzero, is_positive, chosen, nil_number, divisor, base, exponent, raised, extreme, everywhere, everywhere_list, everywhere_exs, everywhere_gens, everywhere_dom}
use Rattle.ess_refine_laws.specs.ExtremeRules.{is_extreme}
use Rattle.ess_refine_laws.specs.MarksStay.{HasMarks, HaveMarks, GensHaveMarks, DomHasMarks}
use Rattle.ess_rules_types_laws.proofs.NumbersEverywhere.{number-is}
use Rattle.ess_rules_types_laws.proofs.EverywhereTyped.{dom-everywhere, number-everywhere}
use Rattle.ess_rules_marks_laws.proofs.Grows.{Grows, as_it_is, a_node, a_comp, EachGrows, none_grow, more_grow, GensGrow, no_gens_grow, over_grows, from_grows, cond_grows, grown}
use Rattle.ess_put_marks_laws.specs.MarksOfConditions.{BoundsNumbers, AllBoundsNumbers, GensBoundsNumbers, DomBoundsNumbers, EachBoundNumber}
use Rattle.ess_put_marks_laws.proofs.MarksOfTerms.{extreme-fit}

-- Generators bind what they bound.
pub behind-everywhere : (gs : Gens) (g : Names Ty) → names_behind (everywhere_gens gs) g ≡ names_behind gs g
behind-everywhere no_gens g = refl
behind-everywhere (over p d gs) g =
    ap (λ t. names_behind (everywhere_gens gs) (bind_types p t g)) (dom-everywhere d)
    ∙ behind-everywhere gs (bind_types p (type_of_dom d) g)
behind-everywhere (from p e gs) g = behind-everywhere gs (bind_types p (source_ty e g) g)
behind-everywhere (cond e gs) g = behind-everywhere gs g

-- ---- guards

module _ (g : Names Ty) where
  plus-chosen : (b c : Ex) → Grows g b → Grows g c → Grows g (ex2 false Op2.Plus b (chosen c))
  plus-chosen b c k l = a_node refl (more_grow k (more_grow (a_node refl (more_grow l none_grow)) none_grow))

  divisor-grows : (b : Ex) → Grows g b → Grows g (divisor b)
  divisor-grows b k = go (is_nonzero b)
    where
      go : (c : Bool) → Grows g (if c then b else ex2 false Op2.Plus b (chosen (ex2 true Op2.Eq b nil_number)))
      go true = k
      go false = plus-chosen b (ex2 true Op2.Eq b nil_number) k (a_node refl (more_grow k (more_grow (as_it_is tt) none_grow)))

  base-grows : (a b : Ex) → Grows g a → Grows g b → Grows g (base a b)
  base-grows a b k l = go (is_nonzero a)
    where
      test : Grows g (ex2 true Op2.And (ex2 true Op2.Eq a nil_number) (ex2 true Op2.Le b nil_number))
      test = a_node refl (more_grow (a_node refl (more_grow k (more_grow (as_it_is tt) none_grow)))
          (more_grow (a_node refl (more_grow l (more_grow (as_it_is tt) none_grow))) none_grow))

      go : (z : Bool) → Grows g (if z then a else ex2 false Op2.Plus a (chosen (ex2 true Op2.And (ex2 true Op2.Eq a nil_number)
          (ex2 true Op2.Le b nil_number))))
      go true = k
      go false = plus-chosen a (ex2 true Op2.And (ex2 true Op2.Eq a nil_number) (ex2 true Op2.Le b nil_number)) k test

  raised-grows : (a b : Ex) → Grows g a → Grows g b → Grows g (raised a b)
  raised-grows a b k l = go (is_positive b)
    where
      go : (c : Bool) → Grows g (if c then ex2 false Op2.Pow a b else ex2 false Op2.Pow (base a b) (exponent b))
      go true = a_node refl (more_grow k (more_grow l none_grow))
      go false = a_node refl (more_grow (base-grows a b k l) (more_grow (a_node refl (more_grow (a_node refl
          (more_grow l (more_grow (as_it_is tt) none_grow))) none_grow)) none_grow))

  -- The least of a comprehension, guarded.
  guarded-grows : (f : Fun) → is_extreme f ≡ true → (e : Ex) (gs : Gens) → GensGrow g gs → Grows (names_behind gs g) e →
      Grows g (extreme f (comp_ex e gs))
  guarded-grows f i e gs k l = a_node refl (more_grow (a_comp
      (cond_grows (a_node refl (more_grow (a_comp k (as_it_is tt)) none_grow)) no_gens_grow)
      (a_node (extreme-fit f i) (more_grow (a_comp k l) none_grow))) none_grow)

-- ---- trees

mutual
  pub number-grows : (e : Ex) (g : Names Ty) → BoundsNumbers e g → HasMarks e g → Grows g (everywhere e)
  number-grows (ex1 false Op1.Minus a) g b h = a_node refl (more_grow (number-grows a g b.0 h.1.0) none_grow)
  number-grows (ex1 false Op1.Bar a) g b h = a_node refl (more_grow (number-grows a g b.0 h.1.0) none_grow)
  number-grows (ex2 false Op2.Plus a c) g b h =
      a_node refl (more_grow (number-grows a g b.0 h.1.0) (more_grow (number-grows c g b.1.0 h.1.1.0) none_grow))
  number-grows (ex2 false Op2.Minus a c) g b h =
      a_node refl (more_grow (number-grows a g b.0 h.1.0) (more_grow (number-grows c g b.1.0 h.1.1.0) none_grow))
  number-grows (ex2 false Op2.Times a c) g b h =
      a_node refl (more_grow (number-grows a g b.0 h.1.0) (more_grow (number-grows c g b.1.0 h.1.1.0) none_grow))
  number-grows (ex2 false Op2.Div a c) g b h =
      a_node refl (more_grow (number-grows a g b.0 h.1.0) (more_grow (divisor-grows g (everywhere c)
      (number-grows c g b.1.0 h.1.1.0)) none_grow))
  number-grows (ex2 false Op2.Mod a c) g b h =
      a_node refl (more_grow (number-grows a g b.0 h.1.0) (more_grow (divisor-grows g (everywhere c)
      (number-grows c g b.1.0 h.1.1.0)) none_grow))
  number-grows (ex2 false Op2.Pow a c) g b h =
      raised-grows g (everywhere a) (everywhere c) (number-grows a g b.0 h.1.0) (number-grows c g b.1.0 h.1.1.0)
  number-grows (fun1 false Fun.Sum l) g b h = a_node refl (more_grow (list-grows l g b.0 h.1.0) none_grow)
  number-grows (fun1 false Fun.Product l) g b h = a_node refl (more_grow (list-grows l g b.0 h.1.0) none_grow)
  number-grows (fun1 false Fun.Min l) g b h = least-grows Fun.Min refl l g b.0 h
  number-grows (fun1 false Fun.Max l) g b h = least-grows Fun.Max refl l g b.0 h
  number-grows _ g b h = as_it_is h

  pub list-grows : (l : Ex) (g : Names Ty) → BoundsNumbers l g → HasMarks l g → Grows g (everywhere_list l)
  list-grows (comp_ex e gs) g b h = a_comp (gens-grow gs g b.0 h.0)
      (subst (λ k. Grows k (everywhere e)) (sym (behind-everywhere gs g)) (number-grows e (names_behind gs g) b.1 h.1))
  list-grows (node_ex false matrix_literal es) g b h = a_node refl (items-grow es g b h.1)
  list-grows _ g b h = as_it_is h

  items-grow : (es : Exs) (g : Names Ty) → AllBoundsNumbers es g → HaveMarks es g → EachGrows g (everywhere_exs es)
  items-grow no_exs g b h = none_grow
  items-grow (more_exs e es) g b h = more_grow (number-grows e g b.0 h.0) (items-grow es g b.1 h.1)

  least-grows : (f : Fun) → is_extreme f ≡ true → (l : Ex) (g : Names Ty) → BoundsNumbers l g → HasMarks (fun1 false f l) g →
      Grows g (extreme f (everywhere_list l))
  least-grows f i (comp_ex e gs) g b h = guarded-grows g f i (everywhere e) (everywhere_gens gs) (gens-grow gs g b.0 h.1.0.0)
      (subst (λ k. Grows k (everywhere e)) (sym (behind-everywhere gs g)) (number-grows e (names_behind gs g) b.1 h.1.0.1))
  least-grows f i (node_ex false matrix_literal no_exs) g b h = as_it_is tt
  least-grows f i (node_ex false matrix_literal (more_exs e es)) g b h =
      a_node (extreme-fit f i) (more_grow (a_node refl (items-grow (more_exs e es) g b h.1.0.1)) none_grow)
  least-grows f i _ g b h = as_it_is h

  pub gens-grow : (gs : Gens) (g : Names Ty) → GensBoundsNumbers gs g → GensHaveMarks gs g → GensGrow g (everywhere_gens gs)
  gens-grow no_gens g b h = no_gens_grow
  gens-grow (over p d gs) g b h = over_grows (dom-grows d g b.0 h.0)
      (subst (λ t. GensGrow (bind_types p t g) (everywhere_gens gs)) (sym (dom-everywhere d))
      (gens-grow gs (bind_types p (type_of_dom d) g) b.1 h.1))
  gens-grow (from p e gs) g b h = from_grows (as_it_is h.1) (gens-grow gs (bind_types p (source_ty e g) g) b h.2)
  gens-grow (cond e gs) g b h = cond_grows (as_it_is h.0) (gens-grow gs g b h.1)

  pub dom-grows : (d : Dom) (g : Names Ty) → DomBoundsNumbers d g → DomHasMarks d g → DomHasMarks (everywhere_dom d) g
  dom-grows (int_dom rs es) g b h = bounds-grow es g b h
  dom-grows _ g b h = h

  bounds-grow : (es : Exs) (g : Names Ty) → EachBoundNumber es g → HaveMarks es g → HaveMarks (everywhere_exs es) g
  bounds-grow no_exs g b h = tt
  bounds-grow (more_exs e es) g b h =
      let n = number-is (type_of (everywhere e) g) (number-everywhere e g b.1 b.0) in
      (grown g (everywhere e) (number-grows e g b.2 h.0) n.ty n.there, bounds-grow es g b.3 h.1)
