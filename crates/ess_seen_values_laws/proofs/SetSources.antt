-- A set, as a source: what its listing offers, with values and with names of its own.
use Rattle.std.proofs.Common.{◌≡◌, refl, ℕ, Bool, true, false, ◌||◌, not, List, [], ◌∷◌, ◌⊎◌, inl, inr, Option, Some, option_map}
use Rattle.ess_semantics.specs.Values.{Text}
use Rattle.ess_semantics.specs.Order.{same_text}
use Rattle.ess_semantics.specs.Names.{Names}
use Rattle.ess_semantics.specs.Trees.{Mark, Repr, name_pat, Ex, Exs, comp_ex, seen_ex, Gens, from, Dom, set_dom}
use Rattle.ess_semantics.specs.Types.{Ty}
use Rattle.ess_semantics.specs.Meaning.{Env}
use Rattle.ess_semantics.specs.Meets.{Meets}
use Rattle.ess_semantics.specs.Scoped.{with_names, Scoped, ScopedGens}
use Rattle.ess_semantics.specs.Substitution.{NamesAre, NamesAreGens}
use Rattle.ess_nested_laws.proofs.NestedForms.{no-yes, nested-form}
use Rattle.ess_rules_laws.specs.Rules.{Unused}
use Rattle.ess_rules_laws.specs.Listings.{Alternative}
use Rattle.ess_rules_laws.specs.ListedSources.{Offers, laid_out}
use Rattle.ess_rules_laws.specs.SpliceRules.{NamesApart}
use Rattle.ess_refine_laws.specs.AllRules.{Supply}
use Rattle.ess_values_along_laws.specs.Valued.{Valued}
use Rattle.ess_values_sources_laws.specs.ListedValues.{Under}
use Rattle.ess_kind_rules_laws.specs.ViewListings.{view_listing}
use Rattle.ess_kinds_kept_laws.specs.ViewAsks.{ViewAsks}
use Rattle.ess_kinds_kept_laws.proofs.ViewsOffer.{views-offer}
use Rattle.ess_open_rules_laws.specs.OpenSources.{all_offered}
use Rattle.ess_seen_laws.specs.Seen.{Kind, Bound, from_a_set, Keeps, as_an_atom, by_occurrence, with_a_dummy, in_slots, with_a_marker, with_flags, SetTerm, view, drawn, combined, Seen, Going}
use Rattle.ess_seen_values_laws.proofs.SetViews.{judged, asked, under}
use Rattle.ess_seen_values_laws.proofs.Names.{Covers, places-named, places-free, put, list-apart, listing-apart}

-- ---- what is offered

module _ (cells : Text → Option (Bool × List ℕ)) where
  -- A view of a set offers nothing but its listing.
  pub view-offers : {ks : List ℕ} {p : Repr} {ms : List Mark} {es : Exs} {d : Dom} {ns : List Text} (js : Exs) →
      Keeps cells ks p (set_dom ms es d) ns → (s : Supply) (g : Names Ty) →
      all_offered s g (seen_ex p (set_dom ms es d) ns js) ≡
      option_map (λ a. a ∷ []) (view_listing s.one s.other s.parts (seen_ex p (set_dom ms es d) ns js))
  view-offers js (as_an_atom w q) s g = absurd (no-yes w)
  view-offers js (by_occurrence k t w q) s g = refl
  view-offers js (with_a_dummy t w b c q) s g = refl
  view-offers js (in_slots t c h) s g = refl
  view-offers js (with_a_marker t c q h) s g = refl
  view-offers js (with_flags t c q h) s g = refl

  -- Its listing has what it asks.
  pub set-asked : {r : Names Bound} {e : Ex} {k : Kind} (x z : Text) (zs : List Text) (env : Env) → SetTerm cells r e k → Unused x e →
      Meets e env → ViewAsks x z zs e env
  set-asked x z zs env (view {p = p} {ms = ms} {es = es} {js = js} {d = d} n f q w) u m =
      asked cells x z zs ms es d js env q (judged p ms es d n f env) m.1 u
  set-asked x z zs env (drawn q) u m = tt
  set-asked x z zs env (combined c a b) u m = tt

  -- The listing is offered, and has values where the set has.
  pub set-listed : {r : Names Bound} {e : Ex} {k : Kind} (x z : Text) (zs : List Text) (env : Env) → SetTerm cells r e k → Unused x e →
      Meets e env → (a : Alternative) → view_listing x z zs e ≡ Some a → Offers e (a ∷ []) env
  set-listed {e = e} x z zs env t u m a q = views-offer x z zs e a q env (set-asked x z zs env t u m) m

  pub set-under : {r : Names Bound} {e : Ex} {k : Kind} (x z : Text) (zs : List Text) (env : Env) → SetTerm cells r e k → Unused x e →
      Meets e env → Valued false e env → (a : Alternative) → view_listing x z zs e ≡ Some a → Under a env
  set-under x z zs env (view {p = p} {ms = ms} {es = es} {js = js} {d = d} n f q w) u m v a h =
      under cells x z zs ms es d js env (nested-form 250 (set_dom ms es d) n) q (judged p ms es d n f env) m u v a h
  set-under x z zs env (drawn q) u m v a h = cc
  set-under x z zs env (combined c i j) u m v a h = cc

  -- ---- names

  or-first : (p q : Bool) → p ≡ true → p || q ≡ true
  or-first true q h = refl
  or-first false q h = cc

  put-within : (s : Text → Bool) (x y a : Text) → put s x y a ≡ true → (with_names s (name_pat y) a ≡ true) ⊎ (same_text x a ≡ true)
  put-within s x y a = go (s a || same_text y a) (same_text x a)
    where
      go : (p q : Bool) → p || q ≡ true → (p ≡ true) ⊎ (q ≡ true)
      go true q h = inl refl
      go false q h = inr h

  put-covers : (r : Names Bound) (s : Text → Bool) (x y : Text) → Covers r s → Covers r (put s x y)
  put-covers r s x y c a b q = or-first (s a || same_text y a) (same_text x a) (or-first (s a) (same_text y a) (c a b q))

  -- What stands behind a source binds no name of what is put.
  pub behind-apart : {r t : Names Bound} {e : Ex} {k : Kind} {m : Bool} (z : Text → Bool) (s o : Text → Bool) (x y : Text) (u : Ex)
      (hs : Gens) → Going cells ((y, from_a_set k) ∷ r) hs t → Seen cells t e m →
      ScopedGens z s o (from (name_pat y) u hs) (λ p q. Scoped z p q e) →
      NamesAre (λ a. not (same_text x a)) (λ a. true) e → NamesAre (λ a. true) (λ a. not (same_text x a)) e →
      NamesAreGens (λ a. not (same_text x a)) (λ a. true) hs → NamesAreGens (λ a. true) (λ a. not (same_text x a)) hs →
      NamesAre (λ a. not (same_text x a)) (λ a. not (put s x y a)) e × NamesAreGens (λ a. not (same_text x a)) (λ a. not (put s x y a)) hs
  behind-apart z s o x y u hs g h i ue be ug bg =
      list-apart cells z x (put s x y) g h (with_names s (name_pat y)) o i.2 (put-within s x y) ue be ug bg

  -- The names of what is put are apart from those of what stands behind the source.
  pub set-apart : {r t : Names Bound} {u e : Ex} {k : Kind} {m : Bool} (z' : Text → Bool) (s o : Text → Bool) (x z y : Text)
      (zs : List Text) (hs : Gens) → SetTerm cells r u k → Going cells ((y, from_a_set k) ∷ r) hs t → Seen cells t e m → Covers r s →
      ScopedGens z' s o (from (name_pat y) u hs) (λ p q. Scoped z' p q e) → NamesAre (λ a. not (same_text x a)) (λ a. true) e →
      NamesAre (λ a. true) (λ a. not (same_text x a)) e → NamesAreGens (λ a. not (same_text x a)) (λ a. true) hs →
      NamesAreGens (λ a. true) (λ a. not (same_text x a)) hs → (a : Alternative) → view_listing x z zs u ≡ Some a →
      NamesApart (same_text x) (put s x y) (comp_ex e (from (name_pat y) (laid_out a) hs))
  set-apart {r = r} {e = e} z' s o x z y zs hs (view {p = p} {ms = ms} {es = es} {js = js} {d = d} {ns = ns} n f q w) g h c i ue be ug bg a
      l =
      let b = behind-apart z' s o x y (seen_ex p (set_dom ms es d) ns js) hs g h i ue be ug bg in
      listing-apart cells x z y zs s ms es d js e hs (nested-form 250 (set_dom ms es d) n)
      (places-named (put s x y) (λ a. true) (put-covers r s x y c) w) (places-free (same_text x) w) b.1 b.0 q a l
  set-apart z' s o x z y zs hs (drawn q) g h c i ue be ug bg a l = cc
  set-apart z' s o x z y zs hs (combined w p q) g h c i ue be ug bg a l = cc
