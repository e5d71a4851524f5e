-- What is made of gathered conditions has the names of the generators and of the body.
use Rattle.std.proofs.Common.{subst, Bool, true, false, ◌&&◌, if◌then◌else◌, List, [], ◌∷◌, Option, Some, None}
use Rattle.ess_semantics.specs.declared.words.Fun.{Fun}
use Rattle.ess_semantics.specs.Values.{Text}
use Rattle.ess_semantics.specs.Trees.{Ex, comp_ex, fun1, Gens, no_gens, over, from, cond}
use Rattle.ess_semantics.specs.Occurrences.{has_cells}
use Rattle.ess_semantics.specs.Refined.{is_refined, are_refined_gens}
use Rattle.ess_refine_laws.specs.Everywhere.{everywhere_gens}
use Rattle.ess_refine_laws.specs.ExtremeRules.{is_extreme}
use Rattle.ess_gathered_laws.specs.GatheredConditions.{cell_conditions, without_conditions, all_hold, gathered_under, conditions_gathered}
use Rattle.ess_chain_names_laws.specs.NamesHave.{NamesHave, GensNamesHave}
use Rattle.ess_chain_names_laws.proofs.NamesHave.{append-names}
use Rattle.ess_chain_names_laws.proofs.NamesOfListings.{gens-everywhere}
use Rattle.ess_gathered_names_laws.specs.GatheredNames.{GatheringKeepsNames}

module _ (u : Text → Bool) where
  -- ---- the parts

  without-names : (gs : Gens) → GensNamesHave u gs → GensNamesHave u (without_conditions gs)
  without-names no_gens h = tt
  without-names (over p d gs) h = (h.0, h.1, without-names gs h.2)
  without-names (from p e gs) h = (h.0, h.1, without-names gs h.2)
  without-names (cond c gs) h = go (has_cells c) (without-names gs h.1)
    where
      go : (b : Bool) → GensNamesHave u (without_conditions gs)
          → GensNamesHave u (if b then without_conditions gs else cond c (without_conditions gs))
      go true k = k
      go false k = (h.0, k)

  -- Each of the conditions has such names.
  abbrev EachNamed : List Ex → Type 0
  EachNamed [] = Unit {0}
  EachNamed (c ∷ cs) = NamesHave u c × EachNamed cs

  conditions-names : (gs : Gens) → GensNamesHave u gs → EachNamed (cell_conditions gs)
  conditions-names no_gens h = tt
  conditions-names (over p d gs) h = conditions-names gs h.2
  conditions-names (from p e gs) h = conditions-names gs h.2
  conditions-names (cond c gs) h = go (has_cells c) (conditions-names gs h.1)
    where
      go : (b : Bool) → EachNamed (cell_conditions gs) → EachNamed (if b then c ∷ cell_conditions gs else cell_conditions gs)
      go true k = (h.0, k)
      go false k = k

  conjunction-names : (c : Ex) (ds : List Ex) → NamesHave u c → EachNamed ds → NamesHave u (all_hold c ds)
  conjunction-names c [] h k = h
  conjunction-names c (d ∷ ds) h k = (h, (conjunction-names d ds k.0 k.1, tt))

  -- ---- the whole

  -- An answer has such names.
  abbrev AnswerNamed : Option Ex → Type 0
  AnswerNamed None = Unit {0}
  AnswerNamed (Some f) = NamesHave u f

  under-named : (f : Fun) (e : Ex) (gs : Gens) → NamesHave u e → GensNamesHave u gs → (cs : List Ex) → EachNamed cs
      → AnswerNamed (gathered_under f e gs cs)
  under-named f e gs h k [] n = tt
  under-named f e gs h k (c ∷ []) n = tt
  under-named f e gs h k (c ∷ d ∷ ds) n = (
    (
      h,
      append-names u (everywhere_gens (without_conditions gs)) (cond (all_hold c (d ∷ ds)) no_gens)
          (gens-everywhere u (without_conditions gs) (without-names gs k)) (conjunction-names c (d ∷ ds) n.0 n.1, tt),
    ),
    tt,
  )

  when-named : (b : Bool) (o : Option Ex) → AnswerNamed o → AnswerNamed (if b then o else None)
  when-named true o h = h
  when-named false o h = tt

  gathered-named : (e : Ex) → NamesHave u e → AnswerNamed (conditions_gathered e)
  gathered-named (fun1 false f (comp_ex e gs)) h =
      when-named (is_extreme f && (is_refined e && are_refined_gens gs)) (gathered_under f e gs (cell_conditions gs))
      (under-named f e gs h.0.0 h.0.1 (cell_conditions gs) (conditions-names gs h.0.1))
  gathered-named _ h = tt

pub gathering-keeps-names : GatheringKeepsNames
gathering-keeps-names u e f q h = subst (λ o. AnswerNamed u o) q (gathered-named u e h)
