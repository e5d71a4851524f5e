-- Equality of matrices, from the operands: only where the forms of both tell an index domain that may be asked for.
use Rattle.std.proofs.Common.{◌≡◌, refl, sym, ap, ◌∙◌, Bool, true, false, ◌&&◌, if◌then◌else◌, List, Option, Some, None}
use Rattle.std.specs.Prelude.{is_some}
use Rattle.ess_semantics.specs.declared.words.Op2.{Op2}
use Rattle.ess_semantics.specs.Lists.{or_default}
use Rattle.ess_semantics.specs.Values.{Text}
use Rattle.ess_semantics.specs.Names.{Names}
use Rattle.ess_semantics.specs.Trees.{Ex, ex2, Dom, bool_dom}
use Rattle.ess_semantics.specs.Types.{Ty}
use Rattle.ess_guard_laws.specs.IndexDomains.{index_dom}
use Rattle.ess_rules_laws.specs.MatrixRules.{equal_matrices}
use Rattle.ess_open_rules_laws.specs.OpenGenerators.{has_no_source}
use Rattle.ess_refine_laws.specs.AllRules.{matrices_at}
use Rattle.ess_rules_forms.specs.Forms.{truth_pair}
use Rattle.ess_rules_listings.specs.Offered.{supply_of}
use Rattle.ess_kind_rules.specs.Supplies.{told_axis}
use Rattle.ess_rules.specs.Ruled.{axis_asked, both_told}

-- What F makes of the domains that both tell, where these may be asked for.
abbrev of_both : (Dom → Dom → Option Ex) → Bool → Bool → Option Dom → Option Dom → Option Ex
of_both F p q o u =
    if is_some (if p then o else None) && is_some (if q then u else None) then F (or_default o bool_dom) (or_default u bool_dom) else None

both-there : (F : Dom → Dom → Option Ex) (p q : Bool) (o u : Option Dom) (d c : Dom) → Some d ≡ (if p then o else None)
    → Some c ≡ (if q then u else None) → F d c ≡ of_both F p q o u
both-there F true true (Some x) (Some y) d c h k =
    ap (λ v. F (or_default v bool_dom) c) h ∙ ap (λ v. F x (or_default v bool_dom)) k
both-there F true true None u d c h k = cc
both-there F true true (Some x) None d c h k = cc
both-there F true false o u d c h k = cc
both-there F false q o u d c h k = cc

never : (b : Bool) → ◌≡◌ {A = Option Ex} None (if b then None else None)
never true = refl
never false = refl

module _ (y z w : Text) (ys : List Text) (f : Ex → Ex) (g : Names Ty) where
  -- What is made of the root.
  abbrev made : Ex → Option Ex
  made e = if both_told e then matrices_at (supply_of y z w ys told_axis f) g e else None

  -- Where the root is no such operator there is nothing.
  pub no_matrices : (e : Ex) → truth_pair e ≡ None → None ≡ made e
  no_matrices (ex2 true o a b) h = cc
  no_matrices (ex2 false o a b) h = never (both_told (ex2 false o a b))
  no_matrices e h = refl

  -- Of the two operands.
  pub matrices_of_pair : (e : Ex) (o : Op2) (a b : Ex) (d c : Dom) → truth_pair e ≡ Some (o, (a, b)) → Some d ≡ axis_asked a
      → Some c ≡ axis_asked b → equal_matrices d c g y z e ≡ made e
  matrices_of_pair (ex2 true o a b) p x u d c h q r =
      both-there (λ v t. equal_matrices v t g y z (ex2 true o a b)) (has_no_source a) (has_no_source b)
      (index_dom a) (index_dom b) d c
      (q ∙ ap (λ v. elim v [ Some r ↦ axis_asked r.1.0 | None ↦ None ]) (sym h))
      (r ∙ ap (λ v. elim v [ Some r ↦ axis_asked r.1.1 | None ↦ None ]) (sym h))
  matrices_of_pair (ex2 false o a b) p x u d c h q r = cc
  matrices_of_pair e p x u d c h q r = cc
