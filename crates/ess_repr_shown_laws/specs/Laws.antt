-- Domains over tables, as structures are built of, keep the forms of their domains.
use Rattle.std.specs.Prelude.{◌≡◌, ℕ, false, []}
use Rattle.ess_semantics.specs.Values.{Text}
use Rattle.ess_semantics.specs.Trees.{Repr, Dom}
use Rattle.ess_semantics.specs.FreeNames.{FreeNamesAreDom}
use Rattle.ess_semantics.specs.Kinds.{fits}
use Rattle.ess_semantics.specs.DomainJudgements.{needs_known_slots}
use Rattle.ess_repr_structure_laws.specs.Laws.{NamesApart}
use Rattle.ess_repr_structure_laws.specs.OrderlyDomains.{Orderly}
use Rattle.conjure_model_laws.specs.ToldApart.{told_dom}
use Rattle.conjure_model_laws.specs.Shown.{Shows, shown_dom}

-- With views in the place of names, and ranges of positions in the place of named types, a domain is orderly as it was, needs slots of a
-- known number where it did, and takes the same representations: so it is a domain of views, as far as forms go. So it is where its bound
-- names are told apart first, as those of declared domains are. Where no name is free in a domain, no reserved name is.
pub record ShownDomainsKeepForms : Type 0 where
  pub orderly : (sh : Shows) (d : Dom) → Orderly d → Orderly (shown_dom sh d)
  pub known : (sh : Shows) (d : Dom) → needs_known_slots (shown_dom sh d) ≡ needs_known_slots d
  pub fit : (sh : Shows) (r : Repr) (d : Dom) → fits r (shown_dom sh d) ≡ fits r d
  pub declared : (sh : Shows) (d : Dom) → let c : Dom = shown_dom sh ((told_dom d [] sh.next).0) in
      (Orderly d → Orderly c) × (needs_known_slots c ≡ needs_known_slots d) × ((r : Repr) → fits r c ≡ fits r d)
  pub apart : (q : ℕ → Text) (d : Dom) → FreeNamesAreDom (λ a. false) d → NamesApart q d
