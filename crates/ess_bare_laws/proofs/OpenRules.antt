-- No rule of sources at the first generator that isn't plain, of what is picked, of relations applied or of several steps fires at a bare
-- tree or at a list of bare items.
use Rattle.std.proofs.Common.{◌≡◌, refl, ap, ℕ, Bool, true, false, Option, None, option_map}
use Rattle.ess_semantics.specs.declared.words.Fun.{Fun}
use Rattle.ess_semantics.specs.Lists.{and_then}
use Rattle.ess_semantics.specs.Values.{Text}
use Rattle.ess_semantics.specs.Names.{Names}
use Rattle.ess_semantics.specs.NamesAt.{names_behind}
use Rattle.ess_semantics.specs.Trees.{word, Ex, comp_ex, fun1, Gens}
use Rattle.ess_semantics.specs.Types.{Ty}
use Rattle.ess_semantics.specs.ExpressionJudgements.{forgets_order}
use Rattle.ess_rules_laws.specs.SourceRules.{is_marked}
use Rattle.ess_rules_laws.specs.SpliceRules.{append_gens}
use Rattle.ess_rules_laws.specs.ListedSources.{laid_out}
use Rattle.ess_refine_laws.specs.AllRules.{Supply, only_one}
use Rattle.ess_open_rules_laws.specs.OpenGenerators.{at_first_open, folds_nested, nested, put_before}
use Rattle.ess_open_rules_laws.specs.OpenSources.{put_opened, all_offered, over_one_opened, forgets_repeats, loose_source, seen_loosely, kept_in_order}
use Rattle.ess_open_rules_laws.specs.OpenRules.{OpenRule, open_rewrite, step_by_step, of_a_pick, without_repeats, over_one_source, fold_of_folds, in_order_of_its_source}
use Rattle.ess_flat_laws.specs.Flat.{denied, negative, absolute, both, either, implied, agreeing, equal, unequal, below, at_most, above, at_least, sum, difference, product}
use Rattle.ess_bare_laws.specs.Bare.{before, not_behind, all_hold, some_holds, Bare, number, truth, named, cell, one, two, power, chosen, folded, added, ordered, row, Ranging, at_end, through, where_holds, no_axis, along}
use Rattle.ess_bare_laws.proofs.Picks.{either-way, bare-open, none-open, axes-ranging}
use Rattle.ess_bare_laws.proofs.KindRules.{IsNone, empty}

-- Words over generators of which none is open.
module _ (s : Supply) (g : Names Ty) (m : Bool) (f : Fun) (e : Ex) (gs : Gens) (q : at_first_open gs ≡ None) where
  one-source : over_one_opened s g (fun1 m f (comp_ex e gs)) ≡ None
  one-source = either-way (forgets_order (word f)) _ (ap (λ o. option_map (λ a. fun1 m f (laid_out a))
      (only_one (and_then o (λ t. put_opened e t.before t.after (all_offered s (names_behind t.before g)))))) q)

  loosely : seen_loosely (fun1 m f (comp_ex e gs)) ≡ None
  loosely = either-way (forgets_repeats m f) _ (ap (λ o. and_then o
      (λ t. option_map (λ hs. fun1 m f (comp_ex e (append_gens t.before hs))) (loose_source t.after))) q)

  no-nest : nested (fun1 m f (comp_ex e gs)) ≡ None
  no-nest = either-way (is_marked m f) _ (ap (λ o. and_then o (folds_nested m f e)) q)

-- No answer but of the rules that are looked at by themselves.
abbrev NoneBut : OpenRule → Option Ex → Type 0
NoneBut of_a_pick o = Unit {0}
NoneBut without_repeats o = Unit {0}
NoneBut over_one_source o = Unit {0}
NoneBut fold_of_folds o = Unit {0}
NoneBut u o = IsNone o

module _ (cells : Text → Option (Bool × ℕ)) (s : Supply) (g : Names Ty) (r : Names Bool) where
  abbrev F : Ex → Bool → Type 0
  F = Bare cells r

  abbrev A : Ex → OpenRule → Type 0
  A e u = NoneBut u (open_rewrite s g u e)

  -- At `toInt`.
  at-chosen : {x : Ex} {k : Bool} → F x k → (u : OpenRule) → A (fun1 false Fun.ToInt x) u
  at-chosen number step_by_step = tt
  at-chosen truth step_by_step = tt
  at-chosen (named h) step_by_step = tt
  at-chosen (cell h i) step_by_step = tt
  at-chosen (one o f) step_by_step = tt
  at-chosen (two o f h) step_by_step = tt
  at-chosen (power f h) step_by_step = tt
  at-chosen (chosen f) step_by_step = tt
  at-chosen (folded w k f) step_by_step = tt
  at-chosen (added k f) step_by_step = tt
  at-chosen (ordered w f h) step_by_step = tt
  at-chosen f u = tt

  at-root : {e : Ex} {m : Bool} → F e m → (u : OpenRule) → A e u
  at-root number step_by_step = tt
  at-root truth step_by_step = tt
  at-root (named h) step_by_step = tt
  at-root (cell h i) step_by_step = tt
  at-root (one denied f) step_by_step = tt
  at-root (one negative f) step_by_step = tt
  at-root (one absolute f) step_by_step = tt
  at-root (two both f h) step_by_step = tt
  at-root (two either f h) step_by_step = tt
  at-root (two implied f h) step_by_step = tt
  at-root (two agreeing f h) step_by_step = tt
  at-root (two equal f h) step_by_step = tt
  at-root (two unequal f h) step_by_step = tt
  at-root (two below f h) step_by_step = tt
  at-root (two at_most f h) step_by_step = tt
  at-root (two above f h) step_by_step = tt
  at-root (two at_least f h) step_by_step = tt
  at-root (two sum f h) step_by_step = tt
  at-root (two difference f h) step_by_step = tt
  at-root (two product f h) step_by_step = tt
  at-root (power f h) step_by_step = tt
  at-root (chosen f) u = at-chosen f u
  at-root (folded all_hold at_end f) step_by_step = tt
  at-root (folded all_hold (through n k) f) step_by_step = tt
  at-root (folded all_hold (where_holds c k) f) step_by_step = tt
  at-root (folded some_holds at_end f) step_by_step = tt
  at-root (folded some_holds (through n k) f) step_by_step = tt
  at-root (folded some_holds (where_holds c k) f) step_by_step = tt
  at-root (added no_axis f) step_by_step = tt
  at-root (added (along n k) f) step_by_step = tt
  at-root (ordered before (row a f) (row b h)) step_by_step = tt
  at-root (ordered not_behind (row a f) (row b h)) step_by_step = tt
  at-root f u = tt

  -- ---- the rules that are looked at by themselves

  one-opened : {e : Ex} {m : Bool} → F e m → over_one_opened s g e ≡ None
  one-opened (chosen truth) = refl
  one-opened (folded {f = f} {e = e} {gs = gs} w k h) = one-source s g true f e gs (none-open cells k)
  one-opened (added {e = e} {gs = gs} k h) = one-source s g false Fun.Sum e gs (none-open cells (axes-ranging cells k))
  one-opened f = refl

  seen : {e : Ex} {m : Bool} → F e m → seen_loosely e ≡ None
  seen (chosen truth) = refl
  seen (folded {f = f} {e = e} {gs = gs} w k h) = loosely s g true f e gs (none-open cells k)
  seen (added {e = e} {gs = gs} k h) = loosely s g false Fun.Sum e gs (none-open cells (axes-ranging cells k))
  seen f = refl

  unnested : {e : Ex} {m : Bool} → F e m → nested e ≡ None
  unnested (chosen truth) = refl
  unnested (folded {f = f} {e = e} {gs = gs} w k h) = no-nest s g true f e gs (none-open cells k)
  unnested (added {e = e} {gs = gs} k h) = no-nest s g false Fun.Sum e gs (none-open cells (axes-ranging cells k))
  unnested f = refl

  -- ---- all

  -- None fires at a bare tree.
  pub no-open-rule : {e : Ex} {m : Bool} → F e m → (u : OpenRule) → open_rewrite s g u e ≡ None
  no-open-rule f of_a_pick = bare-open cells s g f
  no-open-rule f without_repeats = seen f
  no-open-rule f over_one_source = one-opened f
  no-open-rule f fold_of_folds = unnested f
  no-open-rule f u = empty _ (at-root f u)

  -- None fires at a list.
  pub no-open-list : {t : Names Bool} {gs : Gens} (e : Ex) → Ranging cells r gs t → (u : OpenRule) →
      open_rewrite s g u (comp_ex e gs) ≡ None
  no-open-list e at_end step_by_step = refl
  no-open-list e (through n k) step_by_step = refl
  no-open-list e (where_holds f k) step_by_step = refl
  no-open-list e k in_order_of_its_source = ap (λ o. and_then o
      (λ t. and_then (kept_in_order s (names_behind t.before g) (comp_ex e t.after)) (put_before t.before))) (none-open cells k)
  no-open-list e k u = refl
