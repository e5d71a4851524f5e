-- Rules of sources keep trees over views: by the form of the first source, and over one source, at the first generator that isn't plain.
use Rattle.std.proofs.Common.{◌≡◌, refl, ℕ, Bool, false, List, [], ◌∷◌, Option, Some}
use Rattle.std.specs.Prelude.{IsTrue, is_some}
use Rattle.std.specs.List.{list_all}
use Rattle.ess_semantics.specs.declared.words.Fun.{Fun}
use Rattle.ess_semantics.specs.Values.{Text}
use Rattle.ess_semantics.specs.Order.{same_text}
use Rattle.ess_semantics.specs.Names.{Names}
use Rattle.ess_semantics.specs.Trees.{name_pat, Ex, comp_ex, fun1, no_exs, more_exs, Gens, from}
use Rattle.ess_semantics.specs.Meaning.{Env, meaning}
use Rattle.ess_semantics.specs.Meets.{Meets}
use Rattle.ess_refine_laws.specs.AllRules.{Supply, over_a_source, of_one_source, offered, source_listed, source_listed_once}
use Rattle.ess_refine_laws.specs.WhatRulesCountOn.{ListedApart, SourceListed}
use Rattle.ess_refine_laws.proofs.AllRules.{all-keep}
use Rattle.ess_values_along_laws.specs.Valued.{Valued}
use Rattle.ess_values_terms_laws.proofs.ValuedForms.{there, all-there}
use Rattle.ess_values_sources_laws.specs.SourcesKeepValues.{is_set_over}
use Rattle.ess_values_sources_laws.proofs.PutValues.{inner}
use Rattle.ess_values_sources_laws.proofs.SourcesKeepValues.{sources-keep-values}
use Rattle.ess_open_rules_laws.specs.OpenSources.{over_one_opened}
use Rattle.ess_open_rules_laws.specs.OpenGenerators.{nested}
use Rattle.ess_seen_laws.specs.Seen.{Kind, Bound, from_a_set, bound_types, SetTerm, view, drawn, combined, Seen, Going}
use Rattle.ess_seen_laws.specs.Apart.{Apart}
use Rattle.ess_seen_values_laws.specs.Laws.{IsMet, StaysAlike}
use Rattle.ess_seen_values_laws.proofs.Names.{put}
use Rattle.ess_seen_values_laws.proofs.ListsApart.{word-apart}
use Rattle.ess_seen_values_laws.proofs.SourceOffers.{form-fits}
use Rattle.ess_seen_values_laws.proofs.SourceRules.{of-some, over-one, fold-of-folds}
use Rattle.ess_seen_values_laws.proofs.KindRules.{list-root, first-set}

module _ (cells : Text → Option (Bool × List ℕ)) where
  -- No set is that of a comprehension.
  set-over-none : {r : Names Bound} {e : Ex} {k : Kind} → SetTerm cells r e k → is_set_over e ≡ false
  set-over-none (view n f q p) = refl
  set-over-none (drawn q) = refl
  set-over-none (combined c s t) = refl

  -- ---- by the form of the first source

  module _ (s : Supply) {r b : Names Bound} (m : Bool) (w : Fun) (y : Text) (t e : Ex) (hs : Gens) {k : Kind} {n : Bool}
      (set : SetTerm cells r t k) (going : Going cells ((y, from_a_set k) ∷ r) hs b) (seen : Seen cells b e n)
      (a : Apart s.one r (fun1 m w (comp_ex e (from (name_pat y) t hs)))) (env : Env) (z : Bool)
      (met : IsMet cells r (fun1 m w (comp_ex e (from (name_pat y) t hs))) env)
      (v : Valued z (fun1 m w (comp_ex e (from (name_pat y) t hs))) env) where
    abbrev Root : Ex
    Root = fun1 m w (comp_ex e (from (name_pat y) t hs))

    listed : Valued false (comp_ex e (from (name_pat y) t hs)) env
    listed = inner y e hs env m z w (comp_ex e (from (name_pat y) t hs)) v

    source : Valued false t env
    source = let c = listed in c.1.0

    met-source : Meets t env
    met-source = let i = met.met in i.0.0

    counted : SourceListed s (bound_types r) Root env
    counted = of-some (offered s (bound_types r) t) (λ l. ListedApart l Root env) (λ l q.
        let c = word-apart s.one r m w e (from (name_pat y) t hs) a in
        let f = form-fits cells s (bound_types r) set going seen c l q in (
          same_text s.one,
          put c.scope.all s.one y,
          f.apart,
          (there t env source, f.offers env met.holds.typed met-source source),
        ))

    operands : IsTrue (list_all is_some (meaning (comp_ex e (from (name_pat y) t hs)) env ∷ []))
    operands = all-there (more_exs (comp_ex e (from (name_pat y) t hs)) no_exs) env (listed, tt)

    by-parts : (f : Ex) → source_listed s (bound_types r) Root ≡ Some f → StaysAlike z Root f env
    by-parts f q =
        let k = all-keep.each s (bound_types r) over_a_source Root f q env met.holds.typed (counted, operands) met.met in
        record {
          means = k.0;
          met = k.1;
          valued = sources-keep-values s (bound_types r) over_a_source Root f q refl a.unused (set-over-none set) env (counted, operands)
              k.0 z v;
        }

    by-itself : (f : Ex) → source_listed_once s (bound_types r) Root ≡ Some f → StaysAlike z Root f env
    by-itself f q =
        let k = all-keep.each s (bound_types r) of_one_source Root f q env met.holds.typed counted met.met in
        record {
          means = k.0;
          met = k.1;
          valued = sources-keep-values s (bound_types r) of_one_source Root f q refl a.unused (set-over-none set) env counted k.0 z v;
        }

  -- A fold over the alternatives of its first source.
  pub source-kept : (s : Supply) (r : Names Bound) (e f : Ex) {m : Bool} → Seen cells r e m → Apart s.one r e →
      source_listed s (bound_types r) e ≡ Some f → (env : Env) → IsMet cells r e env → (w : Bool) → Valued w e env → StaysAlike w e f env
  source-kept s r (fun1 m w (comp_ex e (from (name_pat y) t hs))) f h a q env i z v =
      let o = list-root cells h in
      let p = first-set cells o.going in
      by-parts s m w y t e hs p.1 p.2 o.seen a env z i v f q
  source-kept s r _ f h a q env i z v = cc

  -- A word over the only alternative.
  pub source-once-kept : (s : Supply) (r : Names Bound) (e f : Ex) {m : Bool} → Seen cells r e m → Apart s.one r e →
      source_listed_once s (bound_types r) e ≡ Some f → (env : Env) → IsMet cells r e env → (w : Bool) → Valued w e env →
      StaysAlike w e f env
  source-once-kept s r (fun1 m w (comp_ex e (from (name_pat y) t hs))) f h a q env i z v =
      let o = list-root cells h in
      let p = first-set cells o.going in
      by-itself s m w y t e hs p.1 p.2 o.seen a env z i v f q
  source-once-kept s r _ f h a q env i z v = cc

  -- ---- at the first generator that isn't plain

  -- A word over the only alternative there.
  pub opened-kept : (s : Supply) (r : Names Bound) (e f : Ex) {m : Bool} → Seen cells r e m → Apart s.one r e →
      over_one_opened s (bound_types r) e ≡ Some f → (env : Env) → IsMet cells r e env → (w : Bool) → Valued w e env → StaysAlike w e f env
  opened-kept s r (fun1 m k (comp_ex e gs)) f h a q env i w v =
      let o = list-root cells h in
      over-one cells s m k o.marked o.seen env w f (bound_types r) gs o.going (word-apart s.one r m k e gs a)
      (i.holds.typed, i.positions) i.met v
      q
  opened-kept s r _ f h a q env i w v = cc

  -- A fold of folds.
  pub folded-kept : (s : Supply) (r : Names Bound) (e f : Ex) {m : Bool} → Seen cells r e m → nested e ≡ Some f → (env : Env) →
      IsMet cells r e env → (w : Bool) → Valued w e env → StaysAlike w e f env
  folded-kept s r (fun1 m k (comp_ex e gs)) f h q env i w v =
      let o = list-root cells h in fold-of-folds cells m k o.marked e env w f gs i.met v q
  folded-kept s r _ f h q env i w v = cc
