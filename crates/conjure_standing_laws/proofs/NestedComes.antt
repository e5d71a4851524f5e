-- Something comes of what is asked of the tables of a set of any nesting: it is a bare tree whose ranges have their bounds, rules lead to
-- such trees alone, nothing abstract is left in them, and what is written for one is an expression of a model.
use Rattle.std.proofs.Common.{◌≡◌, sym, ◌∙◌, subst, true≢false, ℕ, ◌≤◌, ◌<◌, ◌^◌, Bool, true, false, List, [], Option, None, arith}
use Rattle.ess_semantics.specs.Values.{Text}
use Rattle.ess_semantics.specs.Names.{keys}
use Rattle.ess_semantics.specs.Trees.{Repr, Ex, Dom, Stm}
use Rattle.ess_semantics.specs.TableNames.{Named}
use Rattle.ess_semantics.specs.Judgements.{fault}
use Rattle.ess_semantics.specs.Plans.{Options, finds_side, value_plan}
use Rattle.ess_grammar.specs.Models.{Scope}
use Rattle.eprime_lowering_laws.specs.Lowerable.{is_lowerable}
use Rattle.conjure_model_laws.specs.Shown.{shows_of}
use Rattle.conjure_model_laws.specs.ToldApart.{told}
use Rattle.ess_chain_names_laws.proofs.ToldNames.{ex-up}
use Rattle.ess_bare_laws.specs.Bare.{Bare}
use Rattle.ess_bare_laws.proofs.Refined.{bare-refined}
use Rattle.ess_seen_values_laws.specs.ess_bare_structures_laws.Laws.{structure_from, told_structure, AreMarked, IsNestedView}
use Rattle.ess_seen_values_laws.proofs.ess_bare_structures_laws.NestedStructures.{nested-structures}
use Rattle.ess_lowered_laws.specs.Ranges.{RangesFit}
use Rattle.ess_lowered_laws.specs.Laws.{Declares}
use Rattle.ess_lowered_laws.proofs.Ended.{bare-lowered}
use Rattle.conjure_modelling.specs.ess_model_trees.Written.{IsNotWrittenBy, stuck, unlowered}
use Rattle.conjure_modelling.specs.ess_model_finds.Finds.{asked_of}
use Rattle.conjure_modelling.specs.ess_model_written.RulesWritten.{TreeComes}
use Rattle.conjure_standing_laws.specs.NestedFinds.{IsNestedFind}
use Rattle.conjure_standing_laws.proofs.BareChains.{stay-bare}
use Rattle.conjure_standing_laws.proofs.Counters.{chain-up}
use Rattle.conjure_standing_laws.proofs.NestedRanges.{nested-fits}
use Rattle.conjure_standing_laws.proofs.NestedRules.{asked-is}

-- ---- bare trees

-- Something comes of each bare tree whose ranges have their bounds, over tables that earlier lines declare with their marks.
pub bare-comes : (cells : Text → Option (Bool × ℕ)) (taken : List Text) (s : Scope) → Declares s cells → (n k : ℕ) (old : Ex) (m : Bool) →
    Bare cells [] old m → RangesFit old → IsNotWrittenBy s taken n old k → ⊥
bare-comes cells taken s d n k old m b f (stuck v) =
    true≢false (sym (bare-refined cells (stay-bare cells n k old v.last m b v.leads).bare) ∙ v.given_up.abstract_left)
bare-comes cells taken s d n k old m b f (unlowered v) =
    let u = v.written in
    let x = stay-bare cells n k old u.last m b u.leads in
    true≢false (sym (bare-lowered cells taken u.last m x.bare (x.fits f) s d)
    ∙ subst (λ e. is_lowerable s e ≡ false) u.writes v.not_lowerable)

-- ---- names

low : (n b k : ℕ) → n ≤ b → b ≤ k → k < 2 ^ 62 → n ≤ 2 ^ 62
low n b k p q r = omega (arith, p, q, r)

-- Where nothing is written few names are taken, so the first ones are low.
names-low : (s : Scope) (taken : List Text) (n k : ℕ) (t old : Ex) → IsNotWrittenBy s taken (told t [] n).1 old k → n ≤ 2 ^ 62
names-low s taken n k t old (stuck v) =
    let b : ℕ = (told t [] n).1 in low n b k (ex-up t [] n) (chain-up b k [] old v.last v.leads) v.few
names-low s taken n k t old (unlowered v) =
    let b : ℕ = (told t [] n).1 in
    let u = v.written in low n b k (ex-up t [] n) (chain-up b k [] old u.last u.leads) u.few

-- ---- finds

module _ (cells : Text → Option (Bool × ℕ)) (r : Repr) (d : Dom) (ns : List Text) (n : ℕ) where
  abbrev asked : Ex
  asked = structure_from r d ns n

  -- Something comes of the structure of a view of nested sets, whose bound names are told apart.
  structure-comes : (taken : List Text) (s : Scope) → Declares s cells → IsNestedView cells r d ns n → TreeComes s taken n asked None → ⊥
  structure-comes taken s declared v c =
      bare-comes cells taken s declared (told asked [] n).1 c.0 (told_structure r d ns n) true (nested-structures cells r d ns n v).bare
      (nested-fits cells r d ns n v) c.1

-- Something comes of what is asked of the tables of such a find, where earlier lines declare these with their marks.
pub nested-comes : (S : List Stm) (o : Options) (x : Text) (r : Repr) (d : Dom) (ns : List Named) → fault S ≡ None →
    IsNestedFind S o x r d ns → (cells : Text → Option (Bool × ℕ)) → AreMarked cells r d (keys ns) → (taken : List Text) (s : Scope) →
    Declares s cells → TreeComes s taken (shows_of S o).next (asked_of (shows_of S o) (value_plan finds_side x r d ns)) None → ⊥
nested-comes S o x r d ns f w cells marked taken s declared c =
    let n : ℕ = (shows_of S o).next in
    let t : Ex = structure_from r d (keys ns) n in
    let h : TreeComes s taken n t None = subst (λ t. TreeComes s taken n t None) (asked-is S o x r d ns f w) c in
    structure-comes cells r d (keys ns) n taken s declared (record {
      nested = w.nested;
      fit = w.fit;
      named = w.named;
      low = names-low s taken n h.0 t (told_structure r d (keys ns) n) h.1;
      marked = marked;
    }) h
