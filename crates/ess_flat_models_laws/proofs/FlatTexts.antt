-- The text of a model of the class: its header, that it spells constants of the specification alone, that flat constraints keep their
-- form, and that declared domains are small.
use Rattle.std.proofs.Common.{◌≡◌, refl, ap, ◌∙◌, subst, Bool, true, false, ◌&&◌, ◌||◌, List, [], ◌∷◌, ◌++◌, inl, inr, map, ℤ, Option, Some, None}
use Rattle.std.specs.List.{list_all, list_any}
use Rattle.ess_semantics.specs.Lists.{append_all}
use Rattle.ess_semantics.specs.Values.{Text}
use Rattle.ess_semantics.specs.Order.{same_int}
use Rattle.ess_semantics.specs.Prepared.{prepared}
use Rattle.ess_semantics.specs.Plans.{Plan}
use Rattle.ess_semantics.specs.Models.{scalar_cell, with_cells, all_with_cells}
use Rattle.ess_flat_models_laws.specs.FlatModels.{dom_with_cells}
use Rattle.ess_semantics.specs.Trees.{Ex, Exs, no_exs, more_exs, Dom, bool_dom, int_dom, Stm}
use Rattle.ess_semantics.specs.Contexts.{Each}
use Rattle.ess_semantics.specs.Occurrences.{parts_of, parts_of_all, parts_of_dom}
use Rattle.ess_semantics.specs.Constants.{constants_of, constants_of_stm, numbers_of_part}
use Rattle.ess_semantics.proofs.Tests.{and-both}
use Rattle.conjure_laws.specs.Members.{In}
use Rattle.conjure_laws.specs.ModelPremises.{spelled}
use Rattle.conjure_laws.proofs.Lists.{in-left, in-right, test-append}
use Rattle.conjure_laws.proofs.SetCells.{is-const}
use Rattle.ess_flat_laws.specs.Flat.{Flat, number as number_is, truth as truth_is, named, cell, one, two, chosen, none_marked}
use Rattle.ess_flat_models_laws.specs.FlatSpecifications.{is_scalar_dom}
use Rattle.ess_flat_models_laws.proofs.FlatValues.{AllNumbers, NumbersOfAll}
use Rattle.ess_flat_models_laws.proofs.Reckoned.{AllReckoned, reckoned-flat, cells-reckoned, reckoned-numbers, bounds-reckoned}
use Rattle.ess_flat_models_laws.proofs.SimpleTrees.{maps-append, is_simple, are_simple, is_simple_dom, DomNumbers, NumbersAre}
use Rattle.ess_flat_models_laws.proofs.PreparedNumbers.{prepared-numbers}
use Rattle.ess_flat_models_laws.proofs.FlatNames.{no-yes}

-- ---- lists

pub none-any : {A : Type 0} (f : A → Bool) (xs : List A) → Each xs (λ x. f x ≡ false) → list_any f xs ≡ false
none-any f [] h = refl
none-any f (x ∷ xs) h = ap (λ b. b || list_any f xs) h.0 ∙ none-any f xs h.1

pub each-mapped : {A B : Type 0} (g : A → B) (P : B → Type 0) (xs : List A) → Each xs (λ x. P (g x)) → Each (map g xs) P
each-mapped g P [] h = tt
each-mapped g P (x ∷ xs) h = (h.0, each-mapped g P xs h.1)

module _ (S : List Stm) where
  abbrev isc : ℤ → Bool
  isc n = list_any (same_int n) (constants_of S)

  -- It is one of the specification's constants.
  abbrev pub IsConst : ℤ → Type 0
  IsConst n = isc n ≡ true

  spelled-append : (xs ys : List Ex) → spelled S xs ≡ true → spelled S ys ≡ true → spelled S (xs ++ ys) ≡ true
  spelled-append xs ys p q =
      ap (list_all isc) (maps-append numbers_of_part xs ys)
      ∙ test-append isc (append_all (map numbers_of_part xs)) (append_all (map numbers_of_part ys))
      ∙ and-both (spelled S xs) (spelled S ys) p q

  -- A flat tree of constants spells constants.
  pub numbers-spelled : (names marks : Text → Option Bool) {e : Ex} {m : Bool} → Flat names marks e m → AllNumbers IsConst e →
      spelled S (parts_of e) ≡ true
  numbers-spelled names marks (number_is {k = k}) n = and-both (isc k) true n refl
  numbers-spelled names marks truth_is n = refl
  numbers-spelled names marks (named h) n = refl
  numbers-spelled names marks (cell h) n = refl
  numbers-spelled names marks (one {x = x} w f) n = spelled-append (parts_of x) [] (numbers-spelled names marks f n.0) refl
  numbers-spelled names marks (two {x = x} {y = y} w f h c) n =
      spelled-append (parts_of x) (parts_of y ++ []) (numbers-spelled names marks f n.0)
      (spelled-append (parts_of y) [] (numbers-spelled names marks h n.1.0) refl)
  numbers-spelled names marks (chosen {x = x} f) n = spelled-append (parts_of x) [] (numbers-spelled names marks f n.0) refl

  -- So do bounds.
  module _ (g : Text → Option Bool) (Ps : List Plan) (c : Text → Option Bool)
      (q : (a : Text) → g a ≡ Some false → (n : Text) × (scalar_cell Ps a ≡ Some (false, n)) × (c n ≡ Some false)) where
    bounds-spelled : (es : Exs) → AllReckoned g es → NumbersOfAll IsConst es → spelled S (parts_of_all (all_with_cells Ps es)) ≡ true
    bounds-spelled no_exs w n = refl
    bounds-spelled (more_exs e es) w n =
        spelled-append (parts_of (with_cells Ps e)) (parts_of_all (all_with_cells Ps es))
        (numbers-spelled none_marked c (reckoned-flat none_marked c (cells-reckoned g Ps c q w.0)) (reckoned-numbers g Ps IsConst w.0 n.0))
        (bounds-spelled es w.1 n.1)

    pub dom-spelled : (d : Dom) → is_scalar_dom g d ≡ true → DomNumbers IsConst d → spelled S (parts_of_dom (dom_with_cells Ps d)) ≡ true
    dom-spelled bool_dom h n = refl
    dom-spelled (int_dom rs es) h n = bounds-spelled es (bounds-reckoned g rs es h) n
    dom-spelled d h n = absurd (no-yes h)

  in-consts : (R : List Stm) (s : Stm) (n : ℤ) → In s R → In n (constants_of_stm s) → In n (append_all (map constants_of_stm R))
  in-consts [] s n i j = absurd i
  in-consts (r ∷ R) s n (inl e) j = in-left n (constants_of_stm r) (append_all (map constants_of_stm R))
      (subst (λ x. In n (constants_of_stm x)) e j)
  in-consts (r ∷ R) s n (inr i) j = in-right n (constants_of_stm r) (append_all (map constants_of_stm R)) (in-consts R s n i j)

  -- The constants of a statement are those of the specification.
  pub of-statement : (s : Stm) (n : ℤ) → In s S → In n (constants_of_stm s) → IsConst n
  of-statement s n i j = is-const (constants_of S) n (inr (inr (inr (in-consts S s n i j))))

  -- Statements of the class have constants alone, with lettings put in.
  pub statements-spelled : Each (prepared S) (NumbersAre IsConst)
  statements-spelled = prepared-numbers IsConst S (λ s i k j. of-statement s k i j)

-- ---- what flat trees and domains of scalars are built of

both : (b c : Bool) → b ≡ true → c ≡ true → b && (c && true) ≡ true
both b c p q = and-both b (c && true) p (and-both c true q refl)

pub flat-simple : (names : Text → Option Bool) {e : Ex} {m : Bool} → Flat names none_marked e m → is_simple e ≡ true
flat-simple names number_is = refl
flat-simple names truth_is = refl
flat-simple names (named h) = refl
flat-simple names (cell h) = absurd (none h)
  where
    none : {m : Bool} → None ≡ Some m → ⊥
    none q = cc
flat-simple names (one {x = x} w f) = and-both (is_simple x) true (flat-simple names f) refl
flat-simple names (two {x = x} {y = y} w f h c) = both (is_simple x) (is_simple y) (flat-simple names f) (flat-simple names h)
flat-simple names (chosen {x = x} f) = and-both (is_simple x) true (flat-simple names f) refl

bounds-simple : (g : Text → Option Bool) (es : Exs) → AllReckoned g es → are_simple es ≡ true
bounds-simple g no_exs w = refl
bounds-simple g (more_exs e es) w =
    and-both (is_simple e) (are_simple es) (flat-simple g (reckoned-flat g none_marked w.0)) (bounds-simple g es w.1)

pub scalar-simple : (g : Text → Option Bool) (d : Dom) → is_scalar_dom g d ≡ true → is_simple_dom d ≡ true
scalar-simple g bool_dom h = refl
scalar-simple g (int_dom rs es) h = bounds-simple g es (bounds-reckoned g rs es h)
scalar-simple g d h = absurd (no-yes h)
