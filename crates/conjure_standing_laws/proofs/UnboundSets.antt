-- What is shown and held of the sets of a specification is so of those whose names a constraint doesn't bind.
use Rattle.std.proofs.Common.{◌≡◌, ℕ, Bool, true, false, if◌then◌else◌, List, ℤ, Option, Some, None}
use Rattle.ess_semantics.specs.Values.{Text}
use Rattle.ess_semantics.specs.Trees.{Ex, Stm}
use Rattle.ess_semantics.specs.Meaning.{Env}
use Rattle.ess_semantics.specs.Plans.{Options, Plan, plans}
use Rattle.ess_semantics.specs.ModelTrees.{Model}
use Rattle.conjure_model_laws.specs.Shown.{Shows}
use Rattle.ess_seen_laws.specs.Seen.{Kind}
use Rattle.ess_mixed_models_laws.specs.ess_setwise_laws.Laws.{ShowsSets, HoldsSets, MeetsSets, SpellsSets}
use Rattle.ess_mixed_models_laws.specs.MixedSpecifications.{nested_kind, binds_name, unbound_kind}
use Rattle.conjure_standing_laws.specs.SetwiseLaws.{HaveSets}

-- ---- fewer sets

module _ (more less : Text → Option Kind) (among : (a : Text) (k : Kind) → less a ≡ Some k → more a ≡ Some k) where
  shows-fewer : (sh : Shows) (marks : Text → Option Bool) (cells : Text → Option (Bool × List ℕ)) → ShowsSets sh marks more cells →
      ShowsSets sh marks less cells
  shows-fewer sh marks cells w = record {
    single = w.single;
    first = λ a k q. w.first a k (among a k q);
    last = λ a k q. w.last a k (among a k q);
    spares_first = w.spares_first;
    spares_last = w.spares_last;
  }

  holds-fewer : (sh : Shows) (env there : Env) → HoldsSets sh more env there → HoldsSets sh less env there
  holds-fewer sh env there w = record { first = λ a k q. w.first a k (among a k q); last = λ a k q. w.last a k (among a k q) }

  meets-fewer : (sh : Shows) (env : Env) → MeetsSets sh more env → MeetsSets sh less env
  meets-fewer sh env w = record { first = λ a k q. w.first a k (among a k q); last = λ a k q. w.last a k (among a k q) }

  spells-fewer : (sh : Shows) (isc : ℤ → Bool) → SpellsSets sh more isc → SpellsSets sh less isc
  spells-fewer sh isc w = record { first = λ a k q. w.first a k (among a k q); last = λ a k q. w.last a k (among a k q) }

  -- So it is of all that is had of sets.
  pub fewer-sets : (S : List Stm) (o : Options) (E : Model) (cells : Text → Option (Bool × List ℕ)) → HaveSets S o E more cells →
      HaveSets S o E less cells
  fewer-sets S o E cells w = record {
    shown = shows-fewer _ _ cells w.shown;
    declared = w.declared;
    spells = spells-fewer _ _ w.spells;
    names = w.names;
    values = λ p a q c I C. holds-fewer _ _ _ (w.values p a q c I C);
    scalars = w.scalars;
    filled = w.filled;
    met = λ p a q c I C. meets-fewer _ _ (w.met p a q c I C);
  }

-- ---- sets whose names aren't bound

-- A set whose name a constraint doesn't bind is one of the specification.
unbound-is : (Ps : List Plan) (e : Ex) (a : Text) (k : Kind) → unbound_kind Ps e a ≡ Some k → nested_kind Ps a ≡ Some k
unbound-is Ps e a k q = go (binds_name e a) q
  where
    go : (b : Bool) → (if b then None else nested_kind Ps a) ≡ Some k → nested_kind Ps a ≡ Some k
    go true q = cc
    go false q = q

-- What is had of the sets of a specification is had of these.
pub unbound-sets : (S : List Stm) (o : Options) (E : Model) (cells : Text → Option (Bool × List ℕ)) (e : Ex) →
    HaveSets S o E (nested_kind (plans S o)) cells → HaveSets S o E (unbound_kind (plans S o) e) cells
unbound-sets S o E cells e =
    fewer-sets (nested_kind (plans S o)) (unbound_kind (plans S o) e) (unbound-is (plans S o) e) S o E cells
