-- What a set offers in the place of a generator over it: members of it, with names of their own, and with values where the set has one.
use Rattle.std.proofs.Common.{◌≡◌, refl, sym, ap, ◌∙◌, ℕ, Bool, false, List, [], ◌∷◌, Option, Some, None, option_map}
use Rattle.ess_semantics.specs.Lists.{or_else}
use Rattle.ess_semantics.specs.Values.{Text}
use Rattle.ess_semantics.specs.Order.{same_text}
use Rattle.ess_semantics.specs.Names.{Names}
use Rattle.ess_semantics.specs.Trees.{name_pat, Ex, comp_ex, ex2, Gens, from}
use Rattle.ess_semantics.specs.Types.{Ty}
use Rattle.ess_semantics.specs.Typed.{Typed}
use Rattle.ess_semantics.specs.Meaning.{Env}
use Rattle.ess_semantics.specs.Meets.{Meets}
use Rattle.ess_rules_laws.specs.Rules.{Unused}
use Rattle.ess_rules_laws.specs.Listings.{Alternative}
use Rattle.ess_rules_laws.specs.SpliceRules.{NamesApart}
use Rattle.ess_rules_laws.specs.ListedSources.{Offers, laid_out, EachApart}
use Rattle.ess_refine_laws.specs.AllRules.{Supply, offered}
use Rattle.ess_values_along_laws.specs.Valued.{Valued}
use Rattle.ess_values_sources_laws.specs.ListedValues.{AllUnder}
use Rattle.ess_kind_rules_laws.specs.ViewListings.{view_listing}
use Rattle.ess_open_rules_laws.specs.OpenSources.{told_by_kind, all_offered}
use Rattle.ess_seen_laws.specs.Seen.{Kind, Bound, from_a_set, bound_types, SetTerm, view, drawn, combined, Seen, Going}
use Rattle.ess_seen_values_laws.proofs.Names.{put}
use Rattle.ess_seen_values_laws.proofs.ListsApart.{ListApart}
use Rattle.ess_seen_values_laws.proofs.SetSources.{view-offers, set-listed, set-under, set-apart, behind-apart}
use Rattle.ess_seen_values_laws.proofs.CombinedSources.{combined-apart, combined-offers, combined-under}

-- Alternatives l of the source u of `[e | y <- u, hs]`, around which the names r are bound: their names are none of those that stand
-- behind the source. They list its members, with values, where names have values of their types, structures are met, and it has a value.
pub record Fits (x : Text) (r : Names Bound) (scope : Text → Bool) (y : Text) (u e : Ex) (hs : Gens) (l : List Alternative) : Type 0 where
  pub apart : EachApart (same_text x) (put scope x y) y e hs l
  pub offers : (env : Env) → Typed (bound_types r) env → Meets u env → Valued false u env → Offers u l env
  pub under : (env : Env) → Typed (bound_types r) env → Meets u env → Valued false u env → AllUnder l env

-- One alternative.
of-one : (o : Option Alternative) (l : List Alternative) (P : List Alternative → Type 0) → option_map (λ a. a ∷ []) o ≡ Some l →
    ((a : Alternative) → o ≡ Some a → P (a ∷ [])) → P l
of-one None l P q f = cc
of-one (Some a) [] P q f = cc
of-one (Some a) (b ∷ []) P q f = f b (let e : a ≡ b = cc in ap Some e)
of-one (Some a) (b ∷ c ∷ l) P q f = cc

-- What a term offers by its form it offers.
by-form : (o p : Option (List Alternative)) (l : List Alternative) → o ≡ Some l → or_else o p ≡ Some l
by-form None p l q = cc
by-form (Some k) p l q = q

-- The alternative of a view has names of its own.
pub source-apart : (cells : Text → Option (Bool × List ℕ)) {r t : Names Bound} {u e : Ex} {k : Kind} {m : Bool} (x z y : Text)
    (zs : List Text) (hs : Gens) → SetTerm cells r u k → Going cells ((y, from_a_set k) ∷ r) hs t → Seen cells t e m →
    (l : ListApart x r e (from (name_pat y) u hs)) → (a : Alternative) → view_listing x z zs u ≡ Some a →
    NamesApart (same_text x) (put l.scope.all x y) (comp_ex e (from (name_pat y) (laid_out a) hs))
source-apart cells x z y zs hs w g h l a q =
    let ug = l.gens_used in
    let bg = l.gens_bound in
    set-apart cells l.declared l.scope.all l.scope.over_domains x z y zs hs w g h l.covers l.scoped l.body_used l.body_bound ug.2 bg.2 a q

module _ (cells : Text → Option (Bool × List ℕ)) (s : Supply) (g : Names Ty) where
  -- One that offers its listing alone.
  plainly : {r t : Names Bound} {y : Text} {u e : Ex} {hs : Gens} {k : Kind} {m : Bool} (set : SetTerm cells r u k) →
      all_offered s g u ≡ option_map (λ a. a ∷ []) (view_listing s.one s.other s.parts u) →
      Going cells ((y, from_a_set k) ∷ r) hs t → Seen cells t e m →
      (a : ListApart s.one r e (from (name_pat y) u hs)) → (l : List Alternative) → all_offered s g u ≡ Some l →
      Fits s.one r a.scope.all y u e hs l
  plainly {r = r} {y = y} {u = u} {e = e} {hs = hs} set i going seen a l q =
      let n = a.gens_used in
      let used : Unused s.one u = n.1 in
      of-one (view_listing s.one s.other s.parts u) l (Fits s.one r a.scope.all y u e hs) (sym i ∙ q) (λ b p.
      record {
        apart = (source-apart cells s.one s.other y s.parts hs set going seen a b p, tt);
        offers = λ env ty met v. set-listed cells s.one s.other s.parts env set used met b p;
        under = λ env ty met v. (set-under cells s.one s.other s.parts env set used met v b p, tt);
      })

  -- What any set offers.
  pub all-fits : {r t : Names Bound} {y : Text} {u e : Ex} {hs : Gens} {k : Kind} {m : Bool} → SetTerm cells r u k →
      Going cells ((y, from_a_set k) ∷ r) hs t → Seen cells t e m → (a : ListApart s.one r e (from (name_pat y) u hs)) →
      (l : List Alternative) → all_offered s g u ≡ Some l → Fits s.one r a.scope.all y u e hs l
  all-fits (view {js = js} n f q p) going seen a l h = plainly (view n f q p) (view-offers cells js q s g) going seen a l h
  all-fits (drawn q) going seen a l h = plainly (drawn q) refl going seen a l h
  all-fits {y = y} {e = e} {hs = hs} (combined {o = o} {s = v} {t = w} c f h) going seen a l q =
      let n = a.gens_used in
      let d = a.gens_bound in
      let b = behind-apart cells a.declared a.scope.all a.scope.over_domains s.one y (ex2 false o v w) hs going seen
      a.scoped a.body_used a.body_bound n.2 d.2 in
      record {
        apart = combined-apart cells c f h s g l q a.scope.all y e hs b.0 b.1;
        offers = λ env ty met v. combined-offers cells c f h s g l q env ty n.1 met v;
        under = λ env ty met v. combined-under cells c f h s g l q env ty n.1 met v;
      }

  -- So it is of what it offers by its form.
  pub form-fits : {r t : Names Bound} {y : Text} {u e : Ex} {hs : Gens} {k : Kind} {m : Bool} → SetTerm cells r u k →
      Going cells ((y, from_a_set k) ∷ r) hs t → Seen cells t e m → (a : ListApart s.one r e (from (name_pat y) u hs)) →
      (l : List Alternative) → offered s g u ≡ Some l → Fits s.one r a.scope.all y u e hs l
  form-fits {u = u} set going seen a l q = all-fits set going seen a l (by-form (offered s g u) (told_by_kind s g u) l q)
