-- A domain whose bound names are told apart differs in its numbers alone.
use Rattle.std.proofs.Common.{◌≡◌, refl, sym, ap, ◌∙◌, subst, ℕ}
use Rattle.ess_semantics.specs.Values.{Text}
use Rattle.ess_semantics.specs.Names.{Names}
use Rattle.ess_semantics.specs.Trees.{Repr, no_exs, Dom, Doms, bool_dom, int_dom, name_dom, tuple_dom, record_dom, matrix_dom, set_dom, mset_dom, function_dom, relation_dom, partition_dom, no_doms, more_doms}
use Rattle.ess_semantics.specs.Kinds.{fits}
use Rattle.ess_semantics.specs.DomainJudgements.{needs_known_slots}
use Rattle.ess_repr_structure_laws.specs.OrderlyDomains.{Orderly}
use Rattle.conjure_model_laws.specs.ToldApart.{told_all, told_dom, told_doms}
use Rattle.ess_repr_shown_laws.proofs.BareForms.{bare, bare_doms, orderly-kept, orderly-back, slots-kept, fits-kept}

mutual
  same-bare : (d : Dom) (r : Names Text) (k : ℕ) → bare ((told_dom d r k).0) ≡ bare d
  same-bare bool_dom r k = refl
  same-bare (int_dom rs es) r k = refl
  same-bare (name_dom a) r k = refl
  same-bare (tuple_dom ds) r k = ap tuple_dom (all-same-bare ds r k)
  same-bare (record_dom fs ds) r k = ap (record_dom fs) (all-same-bare ds r k)
  same-bare (matrix_dom is d) r k =
      let q = (told_doms is r k).1 in
      ap (λ xs. matrix_dom xs (bare ((told_dom d r q).0))) (all-same-bare is r k) ∙ ap (matrix_dom (bare_doms is)) (same-bare d r q)
  same-bare (set_dom ms es d) r k = ap (set_dom ms no_exs) (same-bare d r ((told_all es r k).1))
  same-bare (mset_dom ms es d) r k = ap (mset_dom ms no_exs) (same-bare d r ((told_all es r k).1))
  same-bare (function_dom ms es d c) r k =
      let q = (told_all es r k).1 in
      let u = (told_dom d r q).1 in
      ap (λ x. function_dom ms no_exs x (bare ((told_dom c r u).0))) (same-bare d r q)
      ∙ ap (function_dom ms no_exs (bare d)) (same-bare c r u)
  same-bare (relation_dom ms es ds) r k = ap (relation_dom ms no_exs) (all-same-bare ds r ((told_all es r k).1))
  same-bare (partition_dom ms es d) r k = ap (partition_dom ms no_exs) (same-bare d r ((told_all es r k).1))

  all-same-bare : (ds : Doms) (r : Names Text) (k : ℕ) → bare_doms ((told_doms ds r k).0) ≡ bare_doms ds
  all-same-bare no_doms r k = refl
  all-same-bare (more_doms d ds) r k =
      let q = (told_dom d r k).1 in
      ap (λ x. more_doms x (bare_doms ((told_doms ds r q).0))) (same-bare d r k) ∙ ap (more_doms (bare d)) (all-same-bare ds r q)

module _ (d : Dom) (r : Names Text) (k : ℕ) where
  abbrev T : Dom
  T = (told_dom d r k).0

  pub told-orderly : Orderly d → Orderly T
  told-orderly o = orderly-back T (subst Orderly (sym (same-bare d r k)) (orderly-kept d o))

  pub told-known : needs_known_slots T ≡ needs_known_slots d
  told-known = sym (slots-kept T) ∙ ap needs_known_slots (same-bare d r k) ∙ slots-kept d

  pub told-fit : (p : Repr) → fits p T ≡ fits p d
  told-fit p = sym (fits-kept p T) ∙ ap (fits p) (same-bare d r k) ∙ fits-kept p d
