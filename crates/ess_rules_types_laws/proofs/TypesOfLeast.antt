-- The least and the greatest of several alternatives keep types, where these are of numbers.
use Rattle.std.proofs.Common.{◌≡◌, refl, sym, ap, ◌∙◌, Bool, true, false, if◌then◌else◌, List, [], ◌∷◌, map, Option, Some, None, option_map}
use Rattle.ess_semantics.specs.declared.words.Op1.{Op1}
use Rattle.ess_semantics.specs.declared.words.Op2.{Op2}
use Rattle.ess_semantics.specs.declared.words.Fun.{Fun}
use Rattle.ess_semantics.specs.Lists.{and_then}
use Rattle.ess_semantics.specs.Values.{Text, a_matrix}
use Rattle.ess_semantics.specs.Names.{Names}
use Rattle.ess_semantics.specs.Trees.{word, binary, unary, name_pat, Ex, truth_ex, comp_ex, ex1, ex2, fun1, Gens, no_gens, from, cond}
use Rattle.ess_semantics.specs.Types.{Ty, bool_ty, int_ty, compound2, join}
use Rattle.ess_semantics.specs.OperatorTypes.{type_of_op}
use Rattle.ess_semantics.specs.Typing.{type_of, types_under}
use Rattle.ess_rules_laws.specs.SourceRules.{list_of}
use Rattle.ess_rules_laws.specs.Listings.{Alternative}
use Rattle.ess_rules_laws.specs.ListedSources.{laid_out}
use Rattle.ess_refine_laws.specs.Everywhere.{chosen, extreme}
use Rattle.ess_refine_laws.specs.ExtremeRules.{is_extreme}
use Rattle.ess_refine_laws.specs.ExtremeAlternatives.{put_alternative, has_items, extreme_or, each_extreme, each_size, past_all, extreme_alternatives}
use Rattle.ess_refine_laws.specs.AllRules.{least_of_alternatives, Supply, OfSome, offered, extremes_listed}
use Rattle.ess_refine_types_laws.proofs.TypeParts.{one-is, one-to, two-to, TypeKept}
use Rattle.ess_refine_types_laws.proofs.TypesOfListed.{AllOf, list-type, sum-type}
use Rattle.ess_rules_types_laws.specs.TypesOfSources.{EachPutFits, are_some, TermsFit}
use Rattle.ess_rules_types_laws.proofs.PutListed.{listed-type}
use Rattle.ess_rules_types_laws.proofs.TypesOfSources.{numbers-of}

module _ (g : Names Ty) where
  -- The items of the alternative are numbers.
  pub record OfNumbers (a : Alternative) : Type 0 where
    pub behind : Names Ty
    pub under : types_under a.gens g ≡ Some behind
    pub number : type_of a.item behind ≡ Some int_ty

  pub extreme-is : (f : Fun) → is_extreme f ≡ true → type_of_op (word f) (compound2 a_matrix int_ty int_ty ∷ []) ≡ Some int_ty
  extreme-is Fun.Min i = refl
  extreme-is Fun.Max i = refl
  extreme-is _ i = cc

  -- A number for each item.
  each-number : (a : Alternative) → OfNumbers a → (e : Ex) (k : Ty) → ((h : Names Ty) → type_of a.item h ≡ Some int_ty →
      type_of e h ≡ Some k) →
      type_of (comp_ex e a.gens) g ≡ Some (compound2 a_matrix int_ty k)
  each-number a n e k h = ap (λ o. and_then o (λ j. option_map (compound2 a_matrix int_ty) (type_of e j))) n.under
      ∙ ap (option_map (compound2 a_matrix int_ty)) (h n.behind n.number)

  pub items-there : (a : Alternative) → OfNumbers a → type_of (has_items a) g ≡ Some bool_ty
  items-there a n = one-to (type_of (comp_ex (truth_ex true) a.gens) g) (type_of_op (word Fun.Or))
      (compound2 a_matrix int_ty bool_ty) bool_ty
      (each-number a n (truth_ex true) bool_ty (λ h q. refl)) refl

  -- What stands under a condition.
  pub guarded-list : (e c : Ex) (k : Ty) → type_of e g ≡ Some k → type_of c g ≡ Some bool_ty →
      type_of (comp_ex e (cond c no_gens)) g ≡ Some (compound2 a_matrix int_ty k)
  guarded-list e c k p q =
      ap (λ o. and_then (and_then o (λ t. and_then (join t bool_ty) (λ u. Some g))) (λ h. option_map (compound2 a_matrix int_ty)
      (type_of e h))) q
      ∙ ap (option_map (compound2 a_matrix int_ty)) p

  least-number : (f : Fun) → is_extreme f ≡ true → (a : Alternative) → OfNumbers a → type_of (extreme f (laid_out a)) g ≡ Some int_ty
  least-number f i a n = one-to
      (type_of (comp_ex (fun1 false f (laid_out a)) (cond (has_items a) no_gens)) g) (type_of_op (word Fun.Sum))
      (compound2 a_matrix int_ty int_ty) int_ty
      (guarded-list (fun1 false f (laid_out a)) (has_items a) int_ty
      (one-to (type_of (laid_out a) g) (type_of_op (word f)) (compound2 a_matrix int_ty int_ty) int_ty
      (each-number a n a.item int_ty (λ h q. q)) (extreme-is f i)) (items-there a n)) refl

  pub chosen-number : (c : Ex) → type_of c g ≡ Some bool_ty → type_of (chosen c) g ≡ Some int_ty
  chosen-number c q = one-to (type_of c g) (type_of_op (word Fun.ToInt)) bool_ty int_ty q refl

  pub not-truth : (c : Ex) → type_of c g ≡ Some bool_ty → type_of (ex1 true Op1.Not c) g ≡ Some bool_ty
  not-truth c q = one-to (type_of c g) (type_of_op (unary Op1.Not)) bool_ty bool_ty q refl

  pub plus-number : (a b : Ex) → type_of a g ≡ Some int_ty → type_of b g ≡ Some int_ty → type_of (ex2 false Op2.Plus a b) g ≡ Some int_ty
  plus-number a b p q = two-to (type_of a g) (type_of b g) (type_of_op (binary Op2.Plus)) int_ty int_ty int_ty p q refl

  pub times-number : (a b : Ex) → type_of a g ≡ Some int_ty → type_of b g ≡ Some int_ty → type_of (ex2 false Op2.Times a b) g ≡ Some int_ty
  times-number a b p q = two-to (type_of a g) (type_of b g) (type_of_op (binary Op2.Times)) int_ty int_ty int_ty p q refl

  one-number : (f : Fun) → is_extreme f ≡ true → (m : Ex) → type_of m g ≡ Some int_ty → (a : Alternative) → OfNumbers a →
      type_of (extreme_or f m a) g ≡ Some int_ty
  one-number f i m q a n = plus-number (extreme f (laid_out a)) (ex2 false Op2.Times (chosen (ex1 true Op1.Not (has_items a))) m)
      (least-number f i a n)
      (times-number (chosen (ex1 true Op1.Not (has_items a))) m
      (chosen-number (ex1 true Op1.Not (has_items a)) (not-truth (has_items a) (items-there a n))) q)

  -- ---- several alternatives

  -- The same of each alternative.
  abbrev pub EachOfNumbers : List Alternative → Type 0
  EachOfNumbers [] = Unit {0}
  EachOfNumbers (a ∷ l) = OfNumbers a × EachOfNumbers l

  each-least : (f : Fun) → is_extreme f ≡ true → (m : Ex) → type_of m g ≡ Some int_ty → (l : List Alternative) → EachOfNumbers l →
      AllOf g int_ty (each_extreme f m l)
  each-least f i m q [] n = tt
  each-least f i m q (a ∷ l) n = (one-number f i m q a n.0, each-least f i m q l n.1)

  each-sized : (l : List Alternative) → EachOfNumbers l → AllOf g int_ty (each_size l)
  each-sized [] n = tt
  each-sized (a ∷ l) n = (
    one-to (type_of (comp_ex (ex1 false Op1.Bar a.item) a.gens) g) (type_of_op (word Fun.Sum)) (compound2 a_matrix int_ty int_ty) int_ty
        (each-number a n.0 (ex1 false Op1.Bar a.item) int_ty (λ h q. one-to (type_of a.item h) (type_of_op
        (unary Op1.Bar)) int_ty int_ty q refl))
        refl,
    each-sized l n.1,
  )

  -- The number past all items.
  pub past-number : (f : Fun) → is_extreme f ≡ true → (l : List Alternative) → EachOfNumbers l → type_of (past_all f l) g ≡ Some int_ty
  past-number Fun.Min i l n = sum-type g (each_size l) (each-sized l n)
  past-number Fun.Max i l n = one-to (type_of (fun1 false Fun.Sum (list_of (each_size l))) g) (type_of_op (unary Op1.Minus)) int_ty int_ty
      (sum-type g (each_size l) (each-sized l n)) refl
  past-number _ i l n = cc

  -- The least of the alternatives, with a number for those that have no item.
  pub least-of : (f : Fun) → is_extreme f ≡ true → (m : Ex) → type_of m g ≡ Some int_ty → (l : List Alternative) → are_some l ≡ true →
      EachOfNumbers l → type_of (fun1 false f (list_of (each_extreme f m l))) g ≡ Some int_ty
  least-of f i m q [] s n = cc
  least-of f i m q (a ∷ l) s n =
      let r = each-least f i m q (a ∷ l) n in
      one-to (type_of (list_of (each_extreme f m (a ∷ l))) g) (type_of_op (word f)) (compound2 a_matrix int_ty int_ty) int_ty
      (list-type g int_ty refl refl (extreme_or f m a) (each_extreme f m l) r) (extreme-is f i)

  module _ (f : Fun) (i : is_extreme f ≡ true) (y : Text) (t e : Ex) (hs : Gens)
      (q : type_of (fun1 false f (comp_ex e (from (name_pat y) t hs))) g ≡ Some int_ty) where
    each-of-numbers : (l : List Alternative) → EachPutFits g y t e hs l → EachOfNumbers (map (put_alternative y e hs) l)
    each-of-numbers [] h = tt
    each-of-numbers (a ∷ l) h =
        let r = one-is (type_of (comp_ex e (from (name_pat y) t hs)) g) (type_of_op (word f)) int_ty q in
        let c = listed-type g y t e hs a h.0 r.0 r.1 in
        let b : Alternative = put_alternative y e hs a in
        let n = numbers-of g f i (types_under b.gens g) (λ j. type_of b.item j) (ap (λ o. and_then o (λ z. type_of_op (word f)
        (z ∷ []))) c ∙ r.2) in
        (record { behind = n.0; under = n.1; number = n.2 }, each-of-numbers l h.1)

    some-put : (l : List Alternative) → are_some l ≡ true → are_some (map (put_alternative y e hs) l) ≡ true
    some-put [] h = h
    some-put (a ∷ l) h = refl

  pub least : (s : Supply) (e : Ex) → TermsFit s g least_of_alternatives e → TypeKept g e (extremes_listed s g e)
  least s (fun1 false f (comp_ex e (from (name_pat y) t hs))) k = go (offered s g t) k.1
    where
      root : Ex
      root = fun1 false f (comp_ex e (from (name_pat y) t hs))

      part : (l : List Alternative) → are_some l ≡ true → EachPutFits g y t e hs l → (c : Bool) → is_extreme f ≡ c →
          TypeKept g root (if c then Some (fun1 false f (list_of (each_extreme f (past_all f (map (put_alternative y e hs) l))
          (map (put_alternative y e hs) l)))) else None)
      part l n h true i = λ v q.
          let m = map (put_alternative y e hs) l in
          let w = each-of-numbers f i y t e hs k.0 l h in
          least-of f i (past_all f m) (past-number f i m w) m (some-put f i y t e hs k.0 l n) w ∙ sym k.0 ∙ q
      part l n h false i = tt

      go : (o : Option (List Alternative)) → OfSome o (λ l. (are_some l ≡ true) × EachPutFits g y t e hs l) →
          TypeKept g root (and_then o (λ l. extreme_alternatives (map (put_alternative y e hs) l) root))
      go None h = tt
      go (Some l) h = part l h.0 h.1 (is_extreme f) refl
  least s _ k = tt
