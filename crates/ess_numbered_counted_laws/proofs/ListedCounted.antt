-- Lists in place of matrices that aren't numbered from 1 have the same items, where what is picked has values.
use Rattle.std.proofs.Common.{ℕ, zero, suc, Bool, false, [], ◌∷◌, Option, Some, None}
use Rattle.ess_semantics.specs.Values.{Text}
use Rattle.ess_semantics.specs.Names.{Names}
use Rattle.ess_semantics.specs.NamesAt.{names_behind}
use Rattle.ess_semantics.specs.Trees.{by_value, index, matrix_literal, name_pat, Ex, Exs, node_ex, matrix_ex, comp_ex, seen_ex, no_exs, more_exs, Gens, from}
use Rattle.ess_semantics.specs.Types.{Ty}
use Rattle.ess_semantics.specs.Typed.{Typed}
use Rattle.ess_semantics.specs.Meaning.{Env}
use Rattle.ess_semantics.specs.Meets.{Meets}
use Rattle.ess_guard_natural_laws.specs.TotalButNatural.{opens_places}
use Rattle.ess_refine_laws.specs.AllRules.{Supply, OfSome}
use Rattle.ess_values_along_laws.specs.Valued.{Valued, AllValued, UnderValued}
use Rattle.ess_numbered_laws.specs.ListedPicks.{listed_term}
use Rattle.ess_numbered_laws.specs.ListedLaws.{PicksTold, EachTold, SourcePicks, ListPicks}
use Rattle.ess_numbered_counted_laws.specs.NumbersCounted.{PicksBeside, EachBeside, SourcePicksBeside, ListPicksBeside}
use Rattle.ess_numbered_counted_laws.proofs.BoundsCounted.{asked-behind}

module _ (z : Text) (env : Env) where
  mutual
    -- Literals that may be picked have values.
    picks-told : (k : ℕ) (w : Bool) (t : Ex) → PicksBeside z k t env → Valued w t env → PicksTold z k t env
    picks-told k w (node_ex false (index (by_value ∷ [])) (more_exs t (more_exs i no_exs))) h v =
        picks-told (suc k) (opens_places w false (index (by_value ∷ []))) t h v.1.0
    picks-told (suc k) w (node_ex false matrix_literal es) h v = each-told k (opens_places w false matrix_literal) es h v.1
    picks-told (suc k) w (matrix_ex es d) h v = each-told k false es h v.1
    picks-told zero w (matrix_ex es d) h v = v.0
    picks-told zero w (seen_ex r d ns es) h v = h
    picks-told k w e h v = tt

    each-told : (k : ℕ) (w : Bool) (es : Exs) → EachBeside z k es env → AllValued false w es env → EachTold z k es env
    each-told k w no_exs h v = tt
    each-told k w (more_exs e es) h v = (picks-told k w e h.0 v.0, each-told k w es h.1 v.1)

source-asked : (s : Supply) (g : Names Ty) (e : Ex) (gs : Gens) (env : Env) → UnderValued gs env (λ here. Valued false e here) →
    SourcePicksBeside s g (comp_ex e gs) env → SourcePicks s g (comp_ex e gs) env
source-asked s g e (from (name_pat y) t hs) env v c = go (listed_term s g t) c
  where
    go : (o : Option Ex) → OfSome o (λ l. PicksBeside s.one zero t env) → OfSome o (λ l. PicksTold s.one zero t env)
    go None c = tt
    go (Some l) c = picks-told s.one env zero false t c v.0
source-asked s g e _ env v c = tt

-- So it is at each binding of plain generators.
pub picks-asked : (s : Supply) (g : Names Ty) (env : Env) → Typed g env → (w : Bool) (a : Ex) → Valued w a env → Meets a env →
    ListPicksBeside s g a env → ListPicks s g a env
picks-asked s g env typed w (comp_ex e gs) v m c = asked-behind g env typed w e gs v m (λ ks. SourcePicksBeside s (names_behind ks g))
    (λ ks. SourcePicks s (names_behind ks g)) (λ before after here u k b. source-asked s (names_behind before g) e after here u b) c
picks-asked s g env typed w _ v m c = tt
