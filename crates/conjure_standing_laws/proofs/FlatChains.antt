-- Rules lead from a flat tree over cells to itself, so that it is written simplified.
use Rattle.std.proofs.Common.{◌≡◌, refl, sym, ap, ◌∙◌, ℕ, ◌+◌, Bool, true, false, if◌then◌else◌, List, [], Option, Some, None}
use Rattle.ess_semantics.specs.Values.{Text}
use Rattle.ess_semantics.specs.Names.{Names}
use Rattle.ess_semantics.specs.declared.words.Op1.{Op1}
use Rattle.ess_semantics.specs.declared.words.Op2.{Op2}
use Rattle.ess_semantics.specs.Trees.{Ex, ex1, ex2}
use Rattle.ess_semantics.specs.Types.{Ty}
use Rattle.ess_semantics.specs.NamesAt.{names_at}
use Rattle.ess_grammar.specs.Models.{Scope}
use Rattle.conjure_modelling.specs.ess_refine.Chains.{as_it_was, led_at, Leads}
use Rattle.conjure_modelling.specs.ess_rules.Ruled.{IsRuled, Ruling, plainly, by_kind, gathering, in_order, by_number, supply_at, puts_source, ruled, with_new_source, root_of}
use Rattle.conjure_modelling.specs.ess_model_trees.Written.{written_for, ComesFrom}
use Rattle.ess_simplify_laws.specs.Simplifying.{simplified}
use Rattle.conjure_model_laws.specs.Printed.{printed}
use Rattle.ess_flat_laws.specs.Flat.{Flat, number, truth, named, cell, one, two, chosen, none_marked}
use Rattle.ess_flat_laws.proofs.Parts.{part-flat}
use Rattle.ess_flat_laws.proofs.PlainRules as P
use Rattle.ess_flat_laws.proofs.KindRules as K
use Rattle.ess_flat_laws.proofs.OpenRules as O
use Rattle.ess_open_rules_laws.specs.OpenRules.{of_kind, of_opening}
use Rattle.ess_gathered_laws.specs.GatheredConditions.{conditions_gathered}
use Rattle.ess_ordered_flat_laws.proofs.FlatOrdered as R
use Rattle.ess_ordered_flat_laws.proofs.FlatNumbered as N
use Rattle.ess_flat_trees_laws.proofs.FlatTrees.{keyed-flat, printed-flat}

no-tree : {e : Ex} → None ≡ Some e → ⊥
no-tree q = cc

module _ (cells : Text → Option Bool) where
  abbrev F : Ex → Bool → Type 0
  F = Flat none_marked cells

  -- A flat tree has no source.
  no-source : {e : Ex} {m : Bool} → F e m → (j : ℕ) → (with_new_source j e).0 ≡ e
  no-source number j = refl
  no-source truth j = refl
  no-source (named h) j = refl
  no-source (cell h) j = refl
  no-source (one o f) j = refl
  no-source (two o f h c) j = refl
  no-source (chosen truth) j = refl
  no-source (chosen (named h)) j = refl
  no-source (chosen (cell h)) j = refl
  no-source (chosen (one o f)) j = refl
  no-source (chosen (two o f h c)) j = refl

  -- Operators that are no words gather nothing.
  gathers-no-one : (b : Bool) (o : Op1) (x : Ex) → conditions_gathered (ex1 b o x) ≡ None
  gathers-no-one true o x = refl
  gathers-no-one false o x = refl

  gathers-no-two : (b : Bool) (o : Op2) (x y : Ex) → conditions_gathered (ex2 b o x y) ≡ None
  gathers-no-two true o x y = refl
  gathers-no-two false o x y = refl

  -- No conditions are gathered at its root.
  no-gathering : {e : Ex} {m : Bool} → F e m → conditions_gathered e ≡ None
  no-gathering number = refl
  no-gathering truth = refl
  no-gathering (named h) = refl
  no-gathering (cell h) = refl
  no-gathering (one o f) = gathers-no-one _ _ _
  no-gathering (two o f h c) = gathers-no-two _ _ _ _
  no-gathering (chosen truth) = refl
  no-gathering (chosen (named h)) = refl
  no-gathering (chosen (cell h)) = refl
  no-gathering (chosen (one o f)) = refl
  no-gathering (chosen (two o f h c)) = refl

  choose-root : (b : Bool) (x y : Ex) → x ≡ y → (if b then x else y) ≡ y
  choose-root true x y q = q
  choose-root false x y q = refl

  -- No rule makes anything of it.
  not-ruled : {a : Ex} {m : Bool} → F a m → (n : ℕ) (g : Names Ty) (b : Ex) (k : ℕ) → IsRuled n g a b k → ⊥
  not-ruled {a} {m} f n g b k r =
      no-tree (sym (by r.rule) ∙ sym (ap (ruled (supply_at n r.count) g r.rule) (same r.rule)) ∙ r.fires)
    where
      same : (u : Ruling) → root_of (n + 3 + r.count) u a ≡ a
      same u = choose-root (puts_source u) (with_new_source (n + 3 + r.count) a).0 a (no-source f (n + 3 + r.count))

      by : (u : Ruling) → ruled (supply_at n r.count) g u a ≡ None
      by (plainly u) = P.no-rule cells (supply_at n r.count) g f u
      by (by_kind (of_kind u)) = K.no-rule cells (supply_at n r.count) g f u
      by (by_kind (of_opening u)) = O.no-rule cells (supply_at n r.count) g f u
      by gathering = no-gathering f
      by (in_order u) = R.no-order cells (supply_at n r.count) g u f
      by (by_number u) = N.no-number-rule cells (supply_at n r.count) g u f

  -- So a chain of rules leads to the tree itself.
  pub leads-nowhere : (n : ℕ) (g : Names Ty) (old last : Ex) (k : ℕ) (m : Bool) → F old m → Leads IsRuled n g old last k → last ≡ old
  leads-nowhere n g old last k m f (as_it_was p) = refl
  leads-nowhere n g old last k m f (led_at {s = s} {k = j} {a = a} {b = b} c p r w) =
      let q = part-flat none_marked cells c a m f in
      absurd (not-ruled q.1 s (names_at c g) b j r)

  module _ (simple : (e : Ex) (m : Bool) → F e m → F (simplified e) m) where
    written-flat : (taken : List Text) (e : Ex) (m : Bool) → F e m → written_for taken e ≡ simplified (simplified e)
    written-flat taken e m f =
        ap (λ z. printed taken (simplified z) []) (keyed-flat cells (simple e m f))
        ∙ printed-flat cells taken (simple (simplified e) m (simple e m f))

    -- What comes of a flat tree is the tree, simplified.
    pub comes-flat : (s : Scope) (taken : List Text) (n : ℕ) (old new : Ex) (m : Bool) → F old m → ComesFrom s taken n old (Some new) →
        new ≡ simplified (simplified old)
    comes-flat s taken n old new m f c =
        let w = c.1.0 in
        w.writes ∙ ap (written_for taken) (leads-nowhere n [] old w.last c.0 m f w.leads) ∙ written-flat taken old m f
