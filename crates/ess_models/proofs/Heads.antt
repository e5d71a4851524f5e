-- The statements of a header, as a loop goes over statements.
use Rattle.std.proofs.Common.{◌≡◌, sym, ap, ◌∙◌, ℕ, ◌+◌, ◌<◌, Bool, true, false, if◌then◌else◌, List, [], ◌∷◌, ◌++◌, map, filter, drop, length, get_or, append_assoc}
use Rattle.std.proofs.lemmas.List.{drop_more, map_push}
use Rattle.ess_semantics.specs.Trees as pure
use Rattle.ess_semantics.specs.ModelTrees.{in_header}
use Rattle.ess_core.specs.StatementViews.{pure_stm}
use Rattle.ess_core.specs.declared.statements.Stm.{Stm}

module _ (ss : List Stm) (i : ℕ) (s : Stm) (lt : i < length ss) (is : s ≡ get_or ss i s) where
  left : (b : Bool) → in_header (pure_stm s) ≡ b → filter in_header (map pure_stm (drop i ss))
      ≡ (if b then pure_stm s ∷ filter in_header (map pure_stm (drop (i + 1) ss)) else filter in_header (map pure_stm (drop (i + 1) ss)))
  left b e =
      ap (λ l. filter in_header (map pure_stm l)) (drop_more ss i s lt ∙ ap (λ q. q ∷ drop (i + 1) ss) (sym is))
      ∙ ap (λ b. if b then pure_stm s ∷ filter in_header (map pure_stm (drop (i + 1) ss)) else filter in_header (map pure_stm (drop (i + 1) ss))) e

  -- A statement of the header stands behind those before it.
  pub kept_one : (copy : Stm) (old new : List Stm) (all : List pure.Stm) → in_header (pure_stm s) ≡ true → copy ≡ s → new ≡ old ++ copy ∷ []
      → map pure_stm old ++ filter in_header (map pure_stm (drop i ss)) ≡ all
      → map pure_stm new ++ filter in_header (map pure_stm (drop (i + 1) ss)) ≡ all
  kept_one copy old new all b c n h =
      let rest = filter in_header (map pure_stm (drop (i + 1) ss)) in
      ap (λ l. map pure_stm l ++ rest) n ∙ ap (λ l. l ++ rest) (map_push pure_stm old copy)
      ∙ append_assoc (map pure_stm old) (pure_stm copy ∷ []) rest
      ∙ ap (λ q. map pure_stm old ++ pure_stm q ∷ rest) c
      ∙ sym (ap (λ l. map pure_stm old ++ l) (left true b)) ∙ h

  -- Another one is left out.
  pub kept_none : (old : List Stm) (all : List pure.Stm) → in_header (pure_stm s) ≡ false
      → map pure_stm old ++ filter in_header (map pure_stm (drop i ss)) ≡ all
      → map pure_stm old ++ filter in_header (map pure_stm (drop (i + 1) ss)) ≡ all
  kept_none old all b h = sym (ap (λ l. map pure_stm old ++ l) (left false b)) ∙ h
