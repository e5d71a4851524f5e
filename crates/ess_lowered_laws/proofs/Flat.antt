-- Rules end in flat trees over single cells, and these have no ranges: so what is written for one is an expression of a model.
use Rattle.std.proofs.Common.{◌≡◌, refl, ap, ◌∙◌, ℕ, Bool, true, List, [], Option, Some, None, option_map}
use Rattle.ess_semantics.specs.Values.{Text}
use Rattle.ess_semantics.specs.Trees.{Ex}
use Rattle.ess_grammar.specs.Models.{Scope, is_truth_table}
use Rattle.eprime_lowering_laws.specs.Lowerable.{is_lowerable}
use Rattle.ess_flat_laws.specs.Flat.{Flat, number, truth, named, cell, one, two, chosen, none_marked}
use Rattle.ess_bare_laws.specs.Lean.{Ended, a_number, a_truth, a_cell, by_one, by_two, by_truth, no_terms}
use Rattle.ess_bare_written_laws.specs.Laws.{as_written}
use Rattle.ess_lowered_laws.specs.Ranges.{RangesFit}
use Rattle.ess_lowered_laws.specs.Laws.{Declares, DeclaresSingle}
use Rattle.ess_lowered_laws.proofs.Ended.{ended-lowered}

-- The mark of a table, if there is one.
abbrev pub mark_of : Option (Bool × ℕ) → Bool
mark_of (Some c) = c.0
mark_of None = true

module _ (cells : Text → Option Bool) where
  -- The tables without axes.
  abbrev without_axes : Bool → Bool × ℕ
  without_axes b = (b, 0)

  abbrev tables : Text → Option (Bool × ℕ)
  tables n = option_map without_axes (cells n)

  flat-ended : {e : Ex} {m : Bool} → Flat none_marked cells e m → Ended tables [] e m
  flat-ended number = a_number refl
  flat-ended truth = a_truth
  flat-ended (named q) = cc
  flat-ended (cell q) = a_cell (ap (option_map without_axes) q) no_terms
  flat-ended (one w f) = by_one w (flat-ended f)
  flat-ended (two w f g c) = by_two w (flat-ended f) (flat-ended g)
  flat-ended (chosen f) = by_truth (flat-ended f)

  flat-fits : {e : Ex} {m : Bool} → Flat none_marked cells e m → RangesFit e
  flat-fits number = tt
  flat-fits truth = tt
  flat-fits (named q) = tt
  flat-fits (cell q) = tt
  flat-fits (one w f) = (flat-fits f, tt)
  flat-fits (two w f g c) = (flat-fits f, (flat-fits g, tt))
  flat-fits (chosen f) = (flat-fits f, tt)

  declared-so : (s : Scope) → DeclaresSingle s cells → Declares s tables
  declared-so s d n b k q = go (cells n) refl q
    where
      go : (o : Option Bool) → cells n ≡ o → option_map without_axes o ≡ Some (b, k) → is_truth_table s n ≡ b
      go None e q = cc
      go (Some c) e q = d n c e ∙ ap mark_of q

-- What is written for a flat tree.
pub flat-lowered : (cells : Text → Option Bool) (taken : List Text) (e : Ex) (m : Bool) → Flat none_marked cells e m → (s : Scope) →
    DeclaresSingle s cells → is_lowerable s (as_written taken e) ≡ true
flat-lowered cells taken e m f s d =
    ended-lowered (tables cells) taken e m (flat-ended cells f) (flat-fits cells f) s (declared-so cells s d)
