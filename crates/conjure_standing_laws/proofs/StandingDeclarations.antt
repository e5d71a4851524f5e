-- Declarations that stand: something comes of each of their bounds, wherever each name that is declared before has its mark, and they are
-- written as they are. So several of them are written one after the other, and behind them each name that is declared has its mark.
use Rattle.std.proofs.Common.{◌≡◌, refl, sym, ap, ◌∙◌, subst, true≢false, ℕ, Bool, true, List, [], ◌∷◌, ◌++◌, inl, inr, Option, None}
use Rattle.ess_semantics.specs.Values.{Text}
use Rattle.ess_semantics.specs.Trees.{Ends, Ex, Exs, no_exs, more_exs, Dom, bool_dom, int_dom}
use Rattle.ess_semantics.specs.Contexts.{Each}
use Rattle.ess_semantics.specs.DeclaredTables.{TableDecl}
use Rattle.ess_grammar.specs.Readable.{fit_ranges}
use Rattle.ess_grammar.specs.Models.{Scope, scope_behind}
use Rattle.conjure_laws.specs.Members.{In}
use Rattle.conjure_laws.proofs.Lists.{at-item, all-items, each-map, in-left, in-right}
use Rattle.ess_flat_texts_laws.proofs.SpelledDeclarations.{Adds}
use Rattle.conjure_modelling.specs.ess_model_written.DeclarationsWritten.{BoundComes, DeclIsWritten, OneBoundFails, DomFails, OneDomFails, DeclFails}
use Rattle.conjure_modelling.specs.ess_model_written.Coming.{DeclsAreWritten, none_written, one_written, OneDeclFails}
use Rattle.conjure_standing_laws.proofs.DeclaredScopes.{HasMark, HasMarks, marks-behind}

-- Tables have these marks; these names are taken, and names are reserved from the k-th on.
module _ (cells : Text → Option Bool) (taken : List Text) (k : ℕ) where
  -- Something comes of the bound, where each name that is declared has its mark.
  pub record BoundStands (e : Ex) : Type 0 where
    pub comes : (s : Scope) → HasMarks cells s → BoundComes s taken k e None → ⊥

  -- So it does of each of these.
  abbrev pub AllStand : Exs → Type 0
  AllStand no_exs = Unit {0}
  AllStand (more_exs e es) = BoundStands e × AllStand es

  -- Truth values, or ranges with the bounds that they ask for, of each of which something comes.
  pub data DomStands : Dom → Type 0 where
    truths : DomStands bool_dom
    ranges : {rs : List Ends} {es : Exs} → fit_ranges rs es ≡ true → AllStand es → DomStands (int_dom rs es)

  -- A table with such domains.
  pub record TableStands (t : TableDecl) : Type 0 where
    pub axes : Each t.axes DomStands
    pub cell : DomStands t.cell

  module _ (s : Scope) (w : HasMarks cells s) where
    bounds-come : (es : Exs) → AllStand es → OneBoundFails s taken k es → ⊥
    bounds-come no_exs r v = absurd v
    bounds-come (more_exs e es) r (inl v) = r.0.comes s w v
    bounds-come (more_exs e es) r (inr v) = bounds-come es r.1 v

    dom-comes : {d : Dom} → DomStands d → DomFails s taken k d → ⊥
    dom-comes truths v = absurd v
    dom-comes (ranges f r) (inl v) = true≢false (sym f ∙ v)
    dom-comes (ranges {es = es} f r) (inr v) = bounds-come es r v

    axes-come : (ds : List Dom) → Each ds DomStands → OneDomFails s taken k ds → ⊥
    axes-come [] r v = absurd v
    axes-come (d ∷ ds) r (inl v) = dom-comes r.0 v
    axes-come (d ∷ ds) r (inr v) = axes-come ds r.1 v

    -- The declaration of such a table doesn't fail.
    pub table-comes : (t : TableDecl) → TableStands t → DeclFails s taken k t → ⊥
    table-comes t r (inl v) = axes-come t.axes r.axes v
    table-comes t r (inr v) = dom-comes r.cell v

  -- The declaration of such a table, which is written as it is and has its mark.
  pub record DeclStands (D : TableDecl) : Type 0 where
    pub table : TableStands D
    pub same : (s : Scope) (u : TableDecl) → DeclIsWritten s taken k D u → u ≡ D
    pub mark : HasMark cells D

  module _ (add : Scope → TableDecl → Scope) (adds : Adds add) where
    -- Such declarations are written as they are.
    pub same-written : (ts us : List TableDecl) (s : Scope) → Each ts DeclStands → DeclsAreWritten add taken k s ts us → us ≡ ts
    same-written [] us s h none_written = refl
    same-written (t ∷ ts) us s h (one_written {u = u} {us = vs} w v) =
        ap (λ z. z ∷ vs) (h.0.same s u w) ∙ ap (λ l. t ∷ l) (same-written ts vs (add s u) h.1 v)

    -- Behind them each name that is declared has its mark.
    pub written-marks : (ts us : List TableDecl) (s : Scope) → HasMarks cells s → Each ts DeclStands →
        DeclsAreWritten add taken k s ts us → HasMarks cells (scope_behind add s us)
    written-marks ts us s m h w =
        subst (λ l. HasMarks cells (scope_behind add s l)) (sym (same-written ts us s h w))
        (marks-behind cells add adds ts s m (each-map ts DeclStands (HasMark cells) (λ D v. v.mark) h))

    -- None of them fails.
    pub decls-come : (ts : List TableDecl) (s : Scope) → HasMarks cells s → Each ts DeclStands → OneDeclFails add taken k s ts → ⊥
    decls-come ts s m h v =
        let at : (D : TableDecl) → In D (v.first ++ v.failing ∷ v.rest) → DeclStands D =
        λ D i. at-item DeclStands (v.first ++ v.failing ∷ v.rest) D (subst (λ l. Each l DeclStands) v.all h) i in
        table-comes (scope_behind add s v.before)
        (written-marks v.first v.before s m
        (all-items DeclStands v.first (λ D i. at D (in-left D v.first (v.failing ∷ v.rest) i))) v.written)
        v.failing (at v.failing (in-right v.failing v.first (v.failing ∷ v.rest) (inl refl))).table v.fails
