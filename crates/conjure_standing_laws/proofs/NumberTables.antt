-- Tables whose bounds are terms of numerals are declared as they are.
use Rattle.std.proofs.Common.{◌≡◌, refl, sym, ap, ◌∙◌, ℕ, true, List, [], ◌∷◌, ◌++◌}
use Rattle.ess_semantics.specs.Values.{Text}
use Rattle.ess_semantics.specs.Trees.{Ends, Exs, no_exs, more_exs, Dom, bool_dom, int_dom}
use Rattle.ess_semantics.specs.Contexts.{Each}
use Rattle.ess_semantics.specs.DeclaredTables.{TableDecl}
use Rattle.ess_grammar.specs.Models.{Scope}
use Rattle.ess_grammar.specs.Readable.{fit_ranges}
use Rattle.conjure_laws.specs.SideBySide.{Along}
use Rattle.conjure_modelling.specs.ess_model_written.DeclarationsWritten.{BoundsAreWritten, DomIsWritten, DeclIsWritten}
use Rattle.conjure_modelling.specs.ess_model_written.Coming.{DeclsAreWritten, one_written}
use Rattle.conjure_standing_laws.proofs.NumberTerms.{AllOfNumerals}
use Rattle.conjure_standing_laws.proofs.NumberChains.{bound-comes}

-- Truth values, or ranges with the bounds that they ask for, which are terms of numerals.
pub data NumberDom : Dom → Type 0 where
  truths : NumberDom bool_dom
  ranges : {rs : List Ends} {es : Exs} → fit_ranges rs es ≡ true → AllOfNumerals es → NumberDom (int_dom rs es)

-- Each domain of the table is such.
pub record NumberTable (t : TableDecl) : Type 0 where
  pub axes : Each t.axes NumberDom
  pub cell : NumberDom t.cell

module _ (s : Scope) (taken : List Text) (k : ℕ) where
  bounds-written : (es fs : Exs) → AllOfNumerals es → BoundsAreWritten s taken k es fs → fs ≡ es
  bounds-written no_exs no_exs w v = refl
  bounds-written no_exs (more_exs f fs) w v = absurd v
  bounds-written (more_exs e es) no_exs w v = absurd v
  bounds-written (more_exs e es) (more_exs f fs) w v =
      ap (λ z. more_exs z fs) (bound-comes s taken k e f w.0 v.0) ∙ ap (more_exs e) (bounds-written es fs w.1 v.1)

  -- Such a domain is written for itself.
  pub dom-written : {d : Dom} (e : Dom) → NumberDom d → DomIsWritten s taken k d e → e ≡ d
  dom-written bool_dom truths v = refl
  dom-written (int_dom ss fs) (ranges {rs = rs} {es = es} r w) v =
      ap (λ z. int_dom z fs) (sym v.0) ∙ ap (int_dom rs) (bounds-written es fs w v.1)
  dom-written e truths v = absurd v
  dom-written e (ranges r w) v = absurd v

  axes-written : (ds es : List Dom) → Each ds NumberDom → Along ds es (DomIsWritten s taken k) → es ≡ ds
  axes-written [] [] w v = refl
  axes-written (d ∷ ds) (e ∷ es) w v = ap (λ z. z ∷ es) (dom-written e w.0 v.0) ∙ ap (λ l. d ∷ l) (axes-written ds es w.1 v.1)
  axes-written [] (e ∷ es) w v = absurd v
  axes-written (d ∷ ds) [] w v = absurd v

  -- So is such a table.
  pub table-written : (t u : TableDecl) → NumberTable t → DeclIsWritten s taken k t u → u ≡ t
  table-written t u w v =
      ap (λ z. record { name = z; axes = u.axes; cell = u.cell }) (sym v.0)
      ∙ ap (λ z. record { name = t.name; axes = z; cell = u.cell }) (axes-written t.axes u.axes w.axes v.1)
      ∙ ap (λ z. record { name = t.name; axes = t.axes; cell = z }) (dom-written u.cell w.cell v.2)

one-before : (add : Scope → TableDecl → Scope) (taken : List Text) (k : ℕ) (t : TableDecl) (ts vs us : List TableDecl) → NumberTable t →
    ((s : Scope) (gs : List TableDecl) → DeclsAreWritten add taken k s vs gs →
    (z : Scope) × (hs : List TableDecl) × (gs ≡ ts ++ hs) × DeclsAreWritten add taken k z us hs) →
    (s : Scope) (gs : List TableDecl) → DeclsAreWritten add taken k s (t ∷ vs) gs →
    (z : Scope) × (hs : List TableDecl) × (gs ≡ t ∷ (ts ++ hs)) × DeclsAreWritten add taken k z us hs
one-before add taken k t ts vs us w f s gs (one_written {u = u} {us = ws} p v) =
    let r = f (add s u) ws v in
    (r.0, r.1, ap (λ z. z ∷ ws) (table-written s taken k t u w p) ∙ ap (λ l. t ∷ l) r.2, r.3)

-- So are several before others.
pub tables-written : (add : Scope → TableDecl → Scope) (taken : List Text) (k : ℕ) (ts us : List TableDecl) → Each ts NumberTable →
    (s : Scope) (gs : List TableDecl) → DeclsAreWritten add taken k s (ts ++ us) gs →
    (z : Scope) × (hs : List TableDecl) × (gs ≡ ts ++ hs) × DeclsAreWritten add taken k z us hs
tables-written add taken k [] us w s gs v = (s, gs, refl, v)
tables-written add taken k (t ∷ ts) us w s gs v =
    one-before add taken k t ts (ts ++ us) us w.0 (tables-written add taken k ts us w.1) s gs v
