-- The representations that a specification's options choose fit, and leave no name without one.
use Rattle.std.proofs.Common.{◌≡◌, refl, sym, ap, ◌∙◌, subst, Bool, true, false, if◌then◌else◌, List, [], ◌∷◌, ◌++◌, Some, append_assoc}
use Rattle.std.specs.List.{list_all}
use Rattle.ess_semantics.specs.Lists.{is_empty, is_some_and, or_default}
use Rattle.ess_semantics.specs.Values.{Text}
use Rattle.ess_semantics.specs.Order.{same_text}
use Rattle.ess_semantics.specs.Names.{Names, look, keys, all_distinct}
use Rattle.ess_semantics.specs.Trees.{Repr, Dom, Stm}
use Rattle.ess_semantics.specs.Kinds.{fits}
use Rattle.ess_semantics.specs.Choice.{default_repr}
use Rattle.ess_semantics.specs.Contexts.{Each}
use Rattle.ess_semantics.specs.Plans.{Options, chosen_reprs, kept_names}
use Rattle.ess_semantics.specs.ChosenOptions.{ItemFits, ItemsFit, OptionsFit}
use Rattle.ess_semantics.proofs.OptionLaws.{each-represented}
use Rattle.ess_semantics.proofs.Tests.{not-true}
use Rattle.ess_semantics.proofs.Texts.{same_text-equal}
use Rattle.conjure_laws.specs.Premises.{AreChosen}
use Rattle.conjure_laws.proofs.Lists.{all-items, each-of-list, each-map}
use Rattle.conjure_laws.proofs.NamedTables.{look-middle}
use Rattle.conjure_laws.proofs.DefaultsFit.{default-fits}

-- Where the representations of a list fit this domain.
abbrev AllFit : Dom → List Repr → Type 0
AllFit d rs = Each rs (λ r. fits r d ≡ true)

-- what an item gives to its name
item-fits : (ds : Names Dom) (done : List Text) (x : Text) (rs : List Repr) (d : Dom) → ItemFits ds done x rs → look ds x ≡ Some d →
    AllFit d rs
item-fits ds done x rs d h e = each-of-list rs (λ r. fits r d)
    (sym (ap (λ o. is_some_and o (λ d. list_all (λ r. fits r d) rs)) e) ∙ h.fitting)

chosen-fit : (ds : Names Dom) (done : List Text) (o : Options) (x : Text) (d : Dom) → ItemsFit ds done o → look ds x ≡ Some d →
    AllFit d (chosen_reprs o x d)
chosen-fit ds done [] x d h e = (default-fits d, tt)
chosen-fit ds done (b ∷ bs) x d h e = go (same_text b.0 x) refl (chosen-fit ds (b.0 ∷ done) bs x d h.1 e)
  where
    go : (t : Bool) → same_text b.0 x ≡ t → AllFit d (chosen_reprs bs x d) →
        AllFit d (or_default (if t then Some b.1 else look bs x) (default_repr d ∷ []))
    go true s k = item-fits ds done b.0 b.1 d h.0 (ap (look ds) (same_text-equal b.0 x s) ∙ e)
    go false s k = k

-- Where no name is declared twice, each is found with what it is declared with.
each-looked : (bs cs : Names Dom) → all_distinct (keys (bs ++ cs)) ≡ true → Each cs (λ x. look (bs ++ cs) x.0 ≡ Some x.1)
each-looked bs [] h = tt
each-looked bs (x ∷ cs) h = (
  look-middle bs cs x.0 x.1 h,
  subst (λ l. Each cs (λ y. look l y.0 ≡ Some y.1)) (append_assoc bs (x ∷ []) cs)
      (each-looked (bs ++ (x ∷ [])) cs (ap (λ l. all_distinct (keys l)) (append_assoc bs (x ∷ []) cs) ∙ h)),
)

-- Each chosen representation fits its domain.
pub options-fit : (S : List Stm) (o : Options) → OptionsFit S o → all_distinct (keys (kept_names S)) ≡ true →
    Each (kept_names S) (λ x. AllFit x.1 (chosen_reprs o x.0 x.1))
options-fit S o h k = each-map (kept_names S) (λ x. look (kept_names S) x.0 ≡ Some x.1) (λ x. AllFit x.1 (chosen_reprs o x.0 x.1))
    (λ x e. chosen-fit (kept_names S) [] o x.0 x.1 h e)
    (each-looked [] (kept_names S) k)

-- Each given and find has one.
pub options-choose : (S : List Stm) (o : Options) → OptionsFit S o → AreChosen S o
options-choose S o h = all-items (λ x. is_empty (chosen_reprs o x.0 x.1) ≡ false) (kept_names S)
    (λ x i. not-true (is_empty (chosen_reprs o x.0 x.1)) (each-represented S o h x.0 x.1))
