-- Something comes of each flat tree over cells that earlier lines declare with their marks: rules lead from it to itself, nothing abstract
-- is left in it, and what is written for it is an expression of a model.
use Rattle.std.proofs.Common.{◌≡◌, sym, ap, ◌∙◌, subst, true≢false, ℕ, Bool, true, false, [], List, Option, None, option_map}
use Rattle.ess_semantics.specs.Values.{Text}
use Rattle.ess_semantics.specs.Trees.{Ex}
use Rattle.ess_semantics.specs.Refined.{is_refined}
use Rattle.ess_grammar.specs.Models.{Scope}
use Rattle.eprime_lowering_laws.specs.Lowerable.{is_lowerable}
use Rattle.ess_flat_laws.specs.Flat.{Flat, number, truth, named, cell, one, two, chosen, none_marked}
use Rattle.ess_bare_laws.specs.Bare as bare
use Rattle.ess_bare_laws.specs.Bare.{Bare}
use Rattle.ess_bare_laws.proofs.Refined.{bare-refined}
use Rattle.ess_lowered_laws.specs.Laws.{DeclaresSingle}
use Rattle.ess_lowered_laws.proofs.Flat.{flat-lowered}
use Rattle.conjure_modelling.specs.ess_model_trees.Written.{written_for, IsNotWrittenBy, stuck, unlowered, ComesFrom}
use Rattle.conjure_standing_laws.proofs.FlatChains.{leads-nowhere}

module _ (cells : Text → Option Bool) where
  abbrev F : Ex → Bool → Type 0
  F = Flat none_marked cells

  -- The cells as tables without axes.
  abbrev tables : Text → Option (Bool × ℕ)
  tables n = option_map (λ b. (b, 0)) (cells n)

  flat-bare : {e : Ex} {m : Bool} → F e m → Bare tables [] e m
  flat-bare number = bare.number
  flat-bare truth = bare.truth
  flat-bare (named q) = cc
  flat-bare (cell q) = bare.cell (ap (option_map (λ b. (b, 0))) q) bare.no_index
  flat-bare (one w f) = bare.one w (flat-bare f)
  flat-bare (two w f g c) = bare.two w (flat-bare f) (flat-bare g)
  flat-bare (chosen f) = bare.chosen (flat-bare f)

  -- Nothing abstract is left in a flat tree.
  pub flat-refined : {e : Ex} {m : Bool} → F e m → is_refined e ≡ true
  flat-refined f = bare-refined tables (flat-bare f)

  module _ (s : Scope) (taken : List Text) (d : DeclaresSingle s cells) where
    written-on : (n k : ℕ) (old : Ex) (m : Bool) → F old m → IsNotWrittenBy s taken n old k → ⊥
    written-on n k old m f (stuck v) =
        true≢false (sym (subst (λ e. is_refined e ≡ true) (sym (leads-nowhere cells n [] old v.last k m f v.leads)) (flat-refined f))
        ∙ v.given_up.abstract_left)
    written-on n k old m f (unlowered v) =
        let u = v.written in
        let l : is_lowerable s (written_for taken u.last) ≡ true =
        subst (λ e. is_lowerable s (written_for taken e) ≡ true) (sym (leads-nowhere cells n [] old u.last k m f u.leads))
        (flat-lowered cells taken old m f s d) in
        true≢false (sym l ∙ subst (λ e. is_lowerable s e ≡ false) u.writes v.not_lowerable)

    -- So something comes of it.
    pub flat-comes : (n : ℕ) (old : Ex) (m : Bool) → F old m → ComesFrom s taken n old None → ⊥
    flat-comes n old m f c = written-on n c.0 old m f c.1
