-- The members of axes, one axis after the other.
use Rattle.std.proofs.Common.{◌≡◌, refl, sym, ap, ◌∙◌, ℕ, ◌+◌, ◌<◌, ◌≤◌, ℤ, Bool, true, false, ◌||◌, List, [], ◌∷◌, ◌++◌, append_assoc, append-nil, map, length, get_or, drop, Option, Some, None, option_map}
use Rattle.std.specs.List.{list_any}
use Rattle.ess_semantics.specs.Lists.{and_then, each_of}
use Rattle.ess_semantics.specs.Trees.{Dom}
use Rattle.ess_grammar.specs.Models.{Scope}
use Rattle.eprime_tree.specs.declared.expressions.PDom.{PDom}
use Rattle.eprime_tree.specs.Views.{pure_dom}
use Rattle.eprime_cells_parts.proofs.WhatIsLeft.{left-more, left-none}

-- Lists before those of an answer.
abbrev pub with_lists : List (List ℤ) → Option (List (List ℤ)) → Option (List (List ℤ))
with_lists as' o = option_map (λ bs. as' ++ bs) o

module _ (f : Dom → Option (List ℤ)) (large : Dom → Bool) where
  -- How far the loop has come in a scope.
  pub record Come (s : Scope) (ds : List PDom) (i : ℕ) (as' : List (List ℤ)) : Type 0 where
    pub same : each_of (map (pure_dom s) ds) f ≡ with_lists as' (each_of (map (pure_dom s) (drop i ds)) f)
    pub wide : list_any large (map (pure_dom s) (drop i ds)) ≡ true → list_any large (map (pure_dom s) ds) ≡ true

  abbrev pub AxesCome : List PDom → ℕ → List (List ℤ) → Type 0
  AxesCome ds i as' = (s : Scope) → Come s ds i as'

  with-none : (o : Option (List (List ℤ))) → o ≡ with_lists [] o
  with-none None = refl
  with-none (Some bs) = refl

  pub axes_none : (ds : List PDom) → AxesCome ds 0 []
  axes_none ds s = record { same = with-none (each_of (map (pure_dom s) ds) f); wide = λ h. h }

  with-more : (as' : List (List ℤ)) (a : List ℤ) (o : Option (List (List ℤ))) → with_lists as' (option_map (λ bs. a ∷ bs) o) ≡ with_lists (as' ++ a ∷ []) o
  with-more as' a None = refl
  with-more as' a (Some bs) = ap (λ cs. Some cs) (sym (append_assoc as' (a ∷ []) bs))

  or-right : (a b : Bool) → b ≡ true → a || b ≡ true
  or-right true b h = refl
  or-right false b h = h

  abbrev first_of : Option (List ℤ) → Option (List (List ℤ)) → Option (List (List ℤ))
  first_of o r = and_then o (λ y. option_map (λ ys. y ∷ ys) r)

  pub axes_more : (ds : List PDom) (i : ℕ) (d : PDom) (as' bs : List (List ℤ)) (a : List ℤ) → AxesCome ds i as' → i < length ds → d ≡ get_or ds i d → ((s : Scope) → f (pure_dom s d) ≡ Some a) →
      bs ≡ as' ++ a ∷ [] → AxesCome ds (i + 1) bs
  axes_more ds i d as' bs a j lt is h e s =
      let x = j s in record {
        same =
            x.same
            ∙ ap (λ es. with_lists as' (each_of (map (pure_dom s) es) f)) (left-more ds i d lt is)
            ∙ ap (λ o. with_lists as' (first_of o (each_of (map (pure_dom s) (drop (i + 1) ds)) f))) (h s)
            ∙ with-more as' a (each_of (map (pure_dom s) (drop (i + 1) ds)) f)
            ∙ ap (λ cs. with_lists cs (each_of (map (pure_dom s) (drop (i + 1) ds)) f)) (sym e);
        wide = λ k. x.wide (ap (λ es. list_any large (map (pure_dom s) es)) (left-more ds i d lt is) ∙ or-right (large (pure_dom s d)) (list_any large (map (pure_dom s) (drop (i + 1) ds))) k);
      }

  pub axes_stop : (ds : List PDom) (i : ℕ) (d : PDom) (as' : List (List ℤ)) → AxesCome ds i as' → i < length ds → d ≡ get_or ds i d → ((s : Scope) → f (pure_dom s d) ≡ None) → (s : Scope) → each_of (map (pure_dom s) ds) f ≡ None
  axes_stop ds i d as' j lt is h s =
      (j s).same
      ∙ ap (λ es. with_lists as' (each_of (map (pure_dom s) es) f)) (left-more ds i d lt is)
      ∙ ap (λ o. with_lists as' (first_of o (each_of (map (pure_dom s) (drop (i + 1) ds)) f))) (h s)

  pub axes_large : (ds : List PDom) (i : ℕ) (d : PDom) (as' : List (List ℤ)) → AxesCome ds i as' → i < length ds → d ≡ get_or ds i d → ((s : Scope) → large (pure_dom s d) ≡ true) → (s : Scope) → list_any large (map (pure_dom s) ds) ≡ true
  axes_large ds i d as' j lt is h s =
      (j s).wide (ap (λ es. list_any large (map (pure_dom s) es)) (left-more ds i d lt is) ∙ ap (λ b. b || list_any large (map (pure_dom s) (drop (i + 1) ds))) (h s))

  pub axes_all : (ds : List PDom) (i : ℕ) (as' : List (List ℤ)) → AxesCome ds i as' → length ds ≤ i → (s : Scope) → each_of (map (pure_dom s) ds) f ≡ Some as'
  axes_all ds i as' j le s =
      (j s).same ∙ ap (λ es. with_lists as' (each_of (map (pure_dom s) es) f)) (left-none ds i le) ∙ ap (λ cs. Some cs) (append-nil as')
