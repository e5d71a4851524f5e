-- Loops over domains and fields: whether each has a property.
use Rattle.std.proofs.Common.{◌≡◌, refl, sym, ap, ◌∙◌, ℕ, ◌+◌, ◌<◌, ◌≤◌, Bool, true, false, ◌&&◌, List, ◌∷◌, map, drop, length, get_or}
use Rattle.std.specs.List.{list_all}
use Rattle.std.proofs.lemmas.List.{at_drop_more, at_drop_all}
use Rattle.ess_semantics.specs.Trees as pure
use Rattle.ess_semantics.specs.Trees.{Doms}
use Rattle.ess_semantics.specs.Kinds.{dom_list, is_atom, are_atoms}
use Rattle.ess_core.specs.TreeViews.{pure_dom, pure_doms}
use Rattle.ess_core.specs.declared.domains.Dom.{Dom}

-- A property of the pure domains of a row.
abbrev pub of_doms : (Doms → Bool) → List Dom → Bool
of_doms f ds = f (pure_doms ds)

-- A test of all that is a test of the first and of the others.
module _ (one : pure.Dom → Bool) (all : Doms → Bool)
    (step : (d : pure.Dom) (ds : Doms) → all (pure.more_doms d ds) ≡ one d && all ds) (end : all pure.no_doms ≡ true) where
  doms-first : (ds : List Dom) (i : ℕ) (d : Dom) → i < length ds → d ≡ get_or ds i d →
      of_doms all (drop i ds) ≡ one (pure_dom d) && of_doms all (drop (i + 1) ds)
  doms-first ds i d h is = at_drop_more (of_doms all) ds i d h ∙ ap (λ b. of_doms all (b ∷ drop (i + 1) ds)) (sym is)
      ∙ step (pure_dom d) (pure_doms (drop (i + 1) ds))

  doms-more : (ds : List Dom) (i : ℕ) (d : Dom) → i < length ds → d ≡ get_or ds i d → one (pure_dom d) ≡ true →
      of_doms all (drop i ds) ≡ of_doms all (drop (i + 1) ds)
  doms-more ds i d h is e = doms-first ds i d h is ∙ ap (λ b. b && of_doms all (drop (i + 1) ds)) e

  doms-none : (ds : List Dom) (i : ℕ) (d : Dom) → i < length ds → d ≡ get_or ds i d → one (pure_dom d) ≡ false →
      of_doms all (drop i ds) ≡ false
  doms-none ds i d h is e = doms-first ds i d h is ∙ ap (λ b. b && of_doms all (drop (i + 1) ds)) e

  doms-all : (ds : List Dom) (i : ℕ) → length ds ≤ i → of_doms all (drop i ds) ≡ true
  doms-all ds i h = at_drop_all (of_doms all) ds i h ∙ end

pub atoms_more : (ds : List Dom) (i : ℕ) (d : Dom) → i < length ds → d ≡ get_or ds i d → is_atom (pure_dom d) ≡ true →
    of_doms are_atoms (drop i ds) ≡ of_doms are_atoms (drop (i + 1) ds)
atoms_more = doms-more is_atom are_atoms (λ d ds. refl) refl

pub atoms_none : (ds : List Dom) (i : ℕ) (d : Dom) → i < length ds → d ≡ get_or ds i d → is_atom (pure_dom d) ≡ false →
    of_doms are_atoms (drop i ds) ≡ false
atoms_none = doms-none is_atom are_atoms (λ d ds. refl) refl

pub atoms_all : (ds : List Dom) (i : ℕ) → length ds ≤ i → of_doms are_atoms (drop i ds) ≡ true
atoms_all = doms-all is_atom are_atoms (λ d ds. refl) refl
