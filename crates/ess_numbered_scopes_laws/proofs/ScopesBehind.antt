-- What is so of names in scope stays so behind generators that bind no new names.
use Rattle.std.proofs.Common.{◌≡◌, refl, ap, ◌∙◌, Bool, true, false, ◌||◌, not, if◌then◌else◌, Option, Some, None, option_map}
use Rattle.std.specs.Prelude.{IsTrue}
use Rattle.ess_semantics.specs.Values.{Text}
use Rattle.ess_semantics.specs.Order.{same_text}
use Rattle.ess_semantics.specs.Trees.{Ex, Pat, Pats, name_pat, tuple_pat, no_pats, more_pats, Gens, no_gens, over, from, cond}
use Rattle.ess_semantics.specs.Scoped.{is_bound, is_bound_by_some, with_names, Scoped, ScopedGens}
use Rattle.ess_semantics.specs.Substitution.{Binds, BindsAll, NamesAreGens}
use Rattle.ess_semantics.proofs.Texts.{same_text-either}
use Rattle.ess_rules_laws.specs.SpliceRules.{append_gens}
use Rattle.ess_refine_laws.specs.AllRules.{OfSome}
use Rattle.ess_open_rules_laws.specs.OpenGenerators.{Opened, with_first, opened_here, is_plain_over, at_first_open}
use Rattle.ess_guard_laws.proofs.ScopedRows.{Within}
use Rattle.ess_numbered_scopes_laws.proofs.ScopesMoved.{isnt, neither}

-- ---- new names

module _ (x : Text) where
  mutual
    unbound : (p : Pat) → Binds (λ a. not (same_text x a)) p → is_bound p x ≡ false
    unbound (name_pat a) h = same_text-either a x ∙ isnt (same_text x a) h
    unbound (tuple_pat ps) h = all-unbound ps h

    all-unbound : (ps : Pats) → BindsAll (λ a. not (same_text x a)) ps → is_bound_by_some ps x ≡ false
    all-unbound no_pats h = refl
    all-unbound (more_pats p ps) h = neither (is_bound p x) (is_bound_by_some ps x) (unbound p h.0) (all-unbound ps h.1)

  -- The name isn't in scope, and the names of declarations are.
  abbrev pub IsClear : (Text → Bool) → (Text → Bool) → Type 0
  IsClear z u = IsTrue (not (u x)) × Within z u

  pub clear-behind : (z u : Text → Bool) (p : Pat) → is_bound p x ≡ false → IsClear z u → IsClear z (with_names u p)
  clear-behind z u p q c = (ap (λ b. not (u x || b)) q ∙ go (u x) c.0, λ a h. ap (λ b. b || is_bound p a) (c.1 a h))
    where
      go : (b : Bool) → IsTrue (not b) → not (b || false) ≡ true
      go true h = h
      go false h = refl

  pub clear-with : (z u : Text → Bool) (p : Pat) → Binds (λ a. not (same_text x a)) p → IsClear z u → IsClear z (with_names u p)
  clear-with z u p b c = clear-behind z u p (unbound p b) c

-- Each pattern of the generators has B.
abbrev pub EachBinds : (Pat → Type 0) → Gens → Type 0
EachBinds B no_gens = Unit {0}
EachBinds B (over p d gs) = B p × EachBinds B gs
EachBinds B (from p e gs) = B p × EachBinds B gs
EachBinds B (cond c gs) = EachBinds B gs

pub each-binds : (b : Text → Bool) (gs : Gens) → NamesAreGens (λ a. true) b gs → EachBinds (λ p. Binds b p) gs
each-binds b no_gens h = tt
each-binds b (over p d gs) h = (h.0, each-binds b gs h.2)
each-binds b (from p e gs) h = (h.0, each-binds b gs h.2)
each-binds b (cond c gs) h = each-binds b gs h.1

pub each-both : (B C : Pat → Type 0) (gs : Gens) → EachBinds B gs → EachBinds C gs → EachBinds (λ p. B p × C p) gs
each-both B C no_gens h k = tt
each-both B C (over p d gs) h k = ((h.0, k.0), each-both B C gs h.1 k.1)
each-both B C (from p e gs) h k = ((h.0, k.0), each-both B C gs h.1 k.1)
each-both B C (cond c gs) h k = each-both B C gs h k

-- What is in scope behind generators, where J of the names in scope is kept by each of their patterns.
module _ (z : Text → Bool) (J : (Text → Bool) → Type 0) (B : Pat → Type 0)
    (step : (p : Pat) (u : Text → Bool) → B p → J u → J (with_names u p)) where
  pub clear-map : (gs : Gens) (K L : (Text → Bool) → (Text → Bool) → Type 0) → ((u i : Text → Bool) → J u → K u i → L u i) →
      EachBinds B gs → (s o : Text → Bool) → J s → ScopedGens z s o gs K → ScopedGens z s o gs L
  clear-map no_gens K L k n s o j h = k s o j h
  clear-map (over p d gs) K L k n s o j h =
      (h.0, h.1, clear-map gs K L k n.1 (with_names s p) (with_names o p) (step p s n.0 j) h.2)
  clear-map (from p e gs) K L k n s o j h = (h.0, h.1, clear-map gs K L k n.1 (with_names s p) o (step p s n.0 j) h.2)
  clear-map (cond c gs) K L k n s o j h = (h.0, clear-map gs K L k n s o j h.1)

-- ---- what rules answer

module _ (z s o : Text → Bool) where
  -- It is in scope.
  abbrev pub InScope : Option Ex → Type 0
  InScope r = OfSome r (Scoped z s o)

  pub under : (c : Bool) (r : Option Ex) → InScope r → InScope (if c then r else None)
  under true r h = h
  under false r h = tt

-- Generators one behind the other.
pub append-scoped : (z : Text → Bool) (gs hs : Gens) (K : (Text → Bool) → (Text → Bool) → Type 0) (s o : Text → Bool) →
    ScopedGens z s o gs (λ u i. ScopedGens z u i hs K) → ScopedGens z s o (append_gens gs hs) K
append-scoped z no_gens hs K s o h = h
append-scoped z (over p d gs) hs K s o h = (h.0, h.1, append-scoped z gs hs K (with_names s p) (with_names o p) h.2)
append-scoped z (from p e gs) hs K s o h = (h.0, h.1, append-scoped z gs hs K (with_names s p) o h.2)
append-scoped z (cond c gs) hs K s o h = (h.0, append-scoped z gs hs K s o h.1)

-- ---- two parts

-- Both parts of generators bind such names.
pub both-bind : (b : Text → Bool) (gs : Gens) → NamesAreGens (λ a. true) b gs →
    OfSome (at_first_open gs) (λ t. NamesAreGens (λ a. true) b t.before × NamesAreGens (λ a. true) b t.after)
both-bind b no_gens h = tt
both-bind b (over p d gs) h = go (is_plain_over p d) (at_first_open gs) (both-bind b gs h.2)
  where
    go : (c : Bool) (o : Option Opened) → OfSome o (λ t. NamesAreGens (λ a. true) b t.before × NamesAreGens (λ a. true) b t.after) →
        OfSome (if c then option_map (with_first (over p d)) o else Some (opened_here (over p d gs)))
        (λ t. NamesAreGens (λ a. true) b t.before × NamesAreGens (λ a. true) b t.after)
    go true None k = tt
    go true (Some t) k = ((h.0, h.1, k.0), k.1)
    go false o k = (tt, h)
both-bind b (from p e gs) h = (tt, h)
both-bind b (cond c gs) h = go (at_first_open gs) (both-bind b gs h.1)
  where
    go : (o : Option Opened) → OfSome o (λ t. NamesAreGens (λ a. true) b t.before × NamesAreGens (λ a. true) b t.after) →
        OfSome (option_map (with_first (cond c)) o) (λ t. NamesAreGens (λ a. true) b t.before × NamesAreGens (λ a. true) b t.after)
    go None k = tt
    go (Some t) k = ((h.0, k.0), k.1)

-- And they are in scope, one behind the other.
module _ (z : Text → Bool) (K : (Text → Bool) → (Text → Bool) → Type 0) where
  abbrev pub OpenedScoped : (Text → Bool) → (Text → Bool) → Opened → Type 0
  OpenedScoped s o t = ScopedGens z s o t.before (λ u i. ScopedGens z u i t.after K)

  pub both-scoped : (gs : Gens) (s o : Text → Bool) → ScopedGens z s o gs K → OfSome (at_first_open gs) (OpenedScoped s o)
  both-scoped no_gens s o h = tt
  both-scoped (over p d gs) s o h =
      go (is_plain_over p d) (at_first_open gs) (both-scoped gs (with_names s p) (with_names o p) h.2)
    where
      go : (c : Bool) (r : Option Opened) → OfSome r (OpenedScoped (with_names s p) (with_names o p)) →
          OfSome (if c then option_map (with_first (over p d)) r else Some (opened_here (over p d gs))) (OpenedScoped s o)
      go true None k = tt
      go true (Some t) k = (h.0, h.1, k)
      go false r k = h
  both-scoped (from p e gs) s o h = h
  both-scoped (cond c gs) s o h = go (at_first_open gs) (both-scoped gs s o h.1)
    where
      go : (r : Option Opened) → OfSome r (OpenedScoped s o) → OfSome (option_map (with_first (cond c)) r) (OpenedScoped s o)
      go None k = tt
      go (Some t) k = (h.0, k)
