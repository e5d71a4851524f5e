-- The representations that are chosen fit, with a list that is taken and without one.
use Rattle.std.proofs.Common.{◌≡◌, sym, ap, refl, subst, Bool, true, false, ◌&&◌, List, [], ◌∷◌, map, Option, Some, None}
use Rattle.std.specs.List.{list_all}
use Rattle.ess_semantics.specs.Values.{Text}
use Rattle.ess_semantics.specs.Order.{same_text}
use Rattle.ess_semantics.specs.Names.{Names}
use Rattle.ess_semantics.specs.Trees.{Dom, Stm}
use Rattle.ess_semantics.specs.Kinds.{fits}
use Rattle.ess_semantics.specs.Contexts.{Each}
use Rattle.ess_semantics.specs.Judgements.{is_well_typed, fault}
use Rattle.ess_semantics.specs.Plans.{Options, chosen_reprs, kept_names, all_chosen}
use Rattle.ess_semantics.specs.ChosenOptions.{OptionsFit}
use Rattle.ess_semantics.proofs.Tests.{and-both}
use Rattle.ess_semantics.proofs.Texts.{same_text-itself}
use Rattle.ess_translate_header_laws.specs.Headers.{are_reprs_of}
use Rattle.conjure_laws.proofs.ChosenFit.{options-fit}
use Rattle.conjure_laws.proofs.JudgedDistinct.{kept-distinct}
use Rattle.conjure_options.specs.Pieces.{pieces}
use Rattle.conjure_options.proofs.OptionsFit.{items_fit}
use Rattle.conjure_modelling.specs.Modelled.{AreOptionsOf}

all-of-each : {A : Type 0} (f : A → Bool) (xs : List A) → Each xs (λ x. f x ≡ true) → list_all f xs ≡ true
all-of-each f [] h = refl
all-of-each f (x ∷ xs) h = and-both (f x) (list_all f xs) h.0 (all-of-each f xs h.1)

-- Where each representation that is chosen fits, they are those of the names in order.
beside : (o : Options) (ds : Names Dom) → Each ds (λ x. Each (chosen_reprs o x.0 x.1) (λ r. fits r x.1 ≡ true))
    → are_reprs_of ds (map (λ x. (x.0, chosen_reprs o x.0 x.1)) ds) ≡ true
beside o [] h = refl
beside o (x ∷ ds) h =
    let all = all-of-each (λ r. fits r x.1) (chosen_reprs o x.0 x.1) h.0 in
    and-both (same_text x.0 x.0 && list_all (λ r. fits r x.1) (chosen_reprs o x.0 x.1)) _
    (and-both (same_text x.0 x.0) (list_all (λ r. fits r x.1) (chosen_reprs o x.0 x.1)) (same_text-itself x.0) all)
    (beside o ds h.1)

-- What a list names is taken by the specification; so is nothing at all.
options_taken : (S : List Stm) (list : Option Text) (o : Options) → AreOptionsOf (kept_names S) list o → OptionsFit S o
options_taken S None o h = subst (OptionsFit S) (sym h) tt
options_taken S (Some list) o h = items_fit (kept_names S) (pieces 47 list) o h

-- So what is chosen for a well typed specification are the representations of its givens and finds, and each fits.
pub chosen_fit : (S : List Stm) (list : Option Text) (o : Options) → fault S ≡ None → AreOptionsOf (kept_names S) list o
    → are_reprs_of (kept_names S) (all_chosen S o) ≡ true
chosen_fit S list o well h = beside o (kept_names S) (options-fit S o (options_taken S list o h) (kept-distinct S well-typed))
  where
    well-typed : is_well_typed S ≡ true
    well-typed = ap (λ f. elim f [ None ↦ true | Some e ↦ false ]) well
