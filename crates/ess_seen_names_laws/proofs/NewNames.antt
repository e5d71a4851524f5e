-- A name that is new stays so behind patterns that don't bind it, and names over domains stay in scope behind patterns.
use Rattle.std.proofs.Common.{◌≡◌, refl, ap, ◌∙◌, Bool, true, false, ◌||◌, not}
use Rattle.std.specs.Prelude.{IsTrue}
use Rattle.ess_semantics.specs.Values.{Text}
use Rattle.ess_semantics.specs.Order.{same_text}
use Rattle.ess_semantics.specs.Trees.{Pat, Pats, name_pat, tuple_pat, no_pats, more_pats}
use Rattle.ess_semantics.specs.Substitution.{Binds, BindsAll}
use Rattle.ess_semantics.specs.Scoped.{is_bound, is_bound_by_some, with_names}
use Rattle.ess_refine_laws.specs.ScopesStay.{Scope}
use Rattle.ess_seen_names_laws.specs.Laws.{Within}
use Rattle.ess_seen_names_laws.proofs.PutScoped.{left-true, right-true, one-of, absent, other-way}

-- Of two names that aren't there.
either-absent : (b c : Bool) → b ≡ false → c ≡ false → IsTrue (not (b || c))
either-absent false false p q = refl
either-absent true c p q = cc
either-absent false true p q = cc

mutual
  -- A pattern that doesn't bind x.
  unbound-by : (x : Text) (p : Pat) → Binds (λ a. not (same_text x a)) p → is_bound p x ≡ false
  unbound-by x (name_pat b) h = other-way x b h
  unbound-by x (tuple_pat ps) h = unbound-by-all x ps h

  unbound-by-all : (x : Text) (ps : Pats) → BindsAll (λ a. not (same_text x a)) ps → is_bound_by_some ps x ≡ false
  unbound-by-all x no_pats h = refl
  unbound-by-all x (more_pats p ps) h =
      ap (λ b. b || is_bound_by_some ps x) (unbound-by x p h.0) ∙ unbound-by-all x ps h.1

-- So x is new behind it, where it was new before it.
pub new-behind : (s : Text → Bool) (x : Text) (p : Pat) → IsTrue (not (s x)) → Binds (λ a. not (same_text x a)) p →
    IsTrue (not (with_names s p x))
new-behind s x p n h = either-absent (s x) (is_bound p x) (absent (s x) n) (unbound-by x p h)

-- The scopes behind a pattern, over a domain and over a source.
abbrev pub behind_domain : Scope → Pat → Scope
behind_domain s p = record { all = with_names s.all p; over_domains = with_names s.over_domains p }

abbrev pub behind_source : Scope → Pat → Scope
behind_source s p = record { all = with_names s.all p; over_domains = s.over_domains }

pub within-domain : (s : Scope) (p : Pat) → Within s → Within (behind_domain s p)
within-domain s p w a h = one-of (s.over_domains a) (is_bound p a) h (λ k. left-true (s.all a) (is_bound p a) (w a k))
    (right-true (s.all a) (is_bound p a))

pub within-source : (s : Scope) (p : Pat) → Within s → Within (behind_source s p)
within-source s p w a h = left-true (s.all a) (is_bound p a) (w a h)
