-- Options that a specification takes leave no name without a representation: each given and find has a plan.
use Rattle.std.proofs.Common.{◌≡◌, refl, ℕ, zero, suc, Bool, true, false, not, if◌then◌else◌, List, [], ◌∷◌, Some, codes}
use Rattle.ess_semantics.specs.declared.words.ReprKind.{ReprKind}
use Rattle.ess_semantics.specs.Lists.{or_default, is_empty, item_number}
use Rattle.ess_semantics.specs.Values.{Text}
use Rattle.ess_semantics.specs.Order.{same_text}
use Rattle.ess_semantics.specs.Names.{Names, look}
use Rattle.ess_semantics.specs.Trees.{Repr, Dom, Stm, find}
use Rattle.ess_semantics.specs.Choice.{alone, over_child, default_repr}
use Rattle.ess_semantics.specs.Plans.{Options, chosen_reprs, plans_for, finds_side}
use Rattle.ess_semantics.specs.ChosenOptions.{ItemsFit, OptionsFit}
use Rattle.ess_semantics.proofs.Shorthands.{sized, upto}
use Rattle.ess_semantics.specs.declared.words.Key.{Key}

some-chosen : (ds : Names Dom) (done : List Text) (o : Options) (x : Text) (r : Repr) → ItemsFit ds done o → not (is_empty (or_default (look o x) (r ∷ []))) ≡ true
some-chosen ds done [] x r h = refl
some-chosen ds done (b ∷ bs) x r h = go (same_text b.0 x) (some-chosen ds (b.0 ∷ done) bs x r h.1)
  where
    go : (t : Bool) → not (is_empty (or_default (look bs x) (r ∷ []))) ≡ true → not (is_empty (or_default (if t then Some b.1 else look bs x) (r ∷ []))) ≡ true
    go true k = h.0.some
    go false k = k

-- Each name has one representation or more.
pub each-represented : (S : List Stm) (o : Options) → OptionsFit S o → (x : Text) (d : Dom) → not (is_empty (chosen_reprs o x d)) ≡ true
each-represented S o h x d = some-chosen _ [] o x (default_repr d) h

-- ---- find s : set (size 1) of int(1..2)

abbrev one_set : List Stm
one_set = find (codes "s") (sized Key.Size 1 (upto 2)) ∷ []

abbrev explicit : Repr
explicit = over_child ReprKind.Explicit (alone ReprKind.Atom)

abbrev occurrence : Repr
occurrence = alone ReprKind.Occurrence

-- An option for s.
abbrev for_s : List Repr → Options
for_s rs = (codes "s", rs) ∷ []

two-fit : OptionsFit one_set (for_s (explicit ∷ occurrence ∷ []))
two-fit = (record { new = refl; some = refl; fitting = refl; differ = ((λ k e. other k e), ((λ k e. none k e), tt)) }, tt)
  where
    other : (k : ℕ) → item_number (occurrence ∷ []) k ≡ Some explicit → ⊥
    other zero e = cc
    other (suc k) e = cc

    none : (k : ℕ) → item_number {A = Repr} [] k ≡ Some occurrence → ⊥
    none k e = cc

-- Without a representation s would have no plan.
no-plan : plans_for finds_side one_set (for_s []) ≡ []
no-plan = refl

none-refused : OptionsFit one_set (for_s []) → ⊥
none-refused h = no h.0.some
  where
    no : false ≡ true → ⊥
    no e = cc

twice-refused : OptionsFit one_set (for_s (occurrence ∷ occurrence ∷ [])) → ⊥
twice-refused h = h.0.differ.0 0 refl

unknown-refused : OptionsFit one_set ((codes "t", occurrence ∷ []) ∷ []) → ⊥
unknown-refused h = no h.0.fitting
  where
    no : false ≡ true → ⊥
    no e = cc
