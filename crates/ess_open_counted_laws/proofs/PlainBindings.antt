-- At each binding of plain generators names have values of their types, and what stands behind them has values and meets its structures.
use Rattle.std.proofs.Common.{◌≡◌, refl, subst, Bool, true, false, if◌then◌else◌, Option, Some, None, option_map}
use Rattle.ess_semantics.specs.Values.{Value}
use Rattle.ess_semantics.specs.Names.{Names}
use Rattle.ess_semantics.specs.Trees.{name_pat, tuple_pat, Gens, no_gens, over, from, cond}
use Rattle.ess_semantics.specs.Types.{Ty, type_of_dom, bind_types}
use Rattle.ess_semantics.specs.Typed.{Typed}
use Rattle.ess_semantics.specs.NamesAt.{names_behind}
use Rattle.ess_semantics.specs.Meaning.{Env, domain_of, members_in, with_pat}
use Rattle.ess_semantics.specs.Contexts.{AtEach}
use Rattle.ess_semantics.specs.Meets.{MeetsGens}
use Rattle.ess_types_laws.proofs.SoundEnvs.{over-typed}
use Rattle.ess_rules_laws.proofs.Bindings.{each-of-join}
use Rattle.ess_refine_laws.specs.ItemsOnce.{is_atom_dom}
use Rattle.ess_values_along_laws.specs.Valued.{UnderValued}
use Rattle.ess_open_rules_laws.specs.OpenGenerators.{Opened, with_first, opened_here, at_first_open}

-- What is known at a binding, where P is of values and Q of structures.
pub record Here (after : Gens) (g : Names Ty) (P Q : Env → Type 0) (env : Env) : Type 0 where
  pub typed : Typed g env
  pub under : UnderValued after env P
  pub met : MeetsGens after env Q

-- So it is at each binding of the generators before the first that isn't plain.
pub at-plain : (gs : Gens) (t : Opened) → at_first_open gs ≡ Some t → (g : Names Ty) (env : Env) → Typed g env → (P Q : Env → Type 0) →
    UnderValued gs env P → MeetsGens gs env Q → AtEach t.before env (Here t.after (names_behind t.before g) P Q)
at-plain no_gens t q g env o P Q v m = cc
at-plain (over (name_pat x) d gs) t q g env o P Q v m =
    go (is_atom_dom d) q (λ u r y w a b. at-plain gs u r (bind_types (name_pat x) (type_of_dom d) g)
    (with_pat (name_pat x) y env) w P Q a b)
  where
    Next : Names Ty
    Next = bind_types (name_pat x) (type_of_dom d) g

    At : Value → Env
    At y = with_pat (name_pat x) y env

    inner : (o : Option Opened) → at_first_open gs ≡ o → option_map (with_first (over (name_pat x) d)) o ≡ Some t →
        ((u : Opened) → at_first_open gs ≡ Some u → (y : Value) → Typed Next (At y) → UnderValued gs (At y) P → MeetsGens gs (At y) Q →
        AtEach u.before (At y) (Here u.after (names_behind u.before Next) P Q)) →
        AtEach t.before env (Here t.after (names_behind t.before g) P Q)
    inner None r q h = cc
    inner (Some u) r q h = subst (λ z. AtEach z.before env (Here z.after (names_behind z.before g) P Q))
        (let z : with_first (over (name_pat x) d) u ≡ t = cc in z)
        (each-of-join (members_in (domain_of d env)) (λ y. Typed Next (At y) × UnderValued gs (At y) P) (λ y. MeetsGens gs (At y) Q)
        (λ y. AtEach u.before (At y) (Here u.after (names_behind u.before Next) P Q)) (λ y a b. h u r y a.0 a.1 b)
        (each-of-join (members_in (domain_of d env)) (λ y. Typed Next (At y)) (λ y. UnderValued gs (At y) P)
        (λ y. Typed Next (At y) × UnderValued gs (At y) P) (λ y a b. (a, b)) (over-typed g (name_pat x) d refl env o) v.1) m.1)

    go : (b : Bool) → (if b then option_map (with_first (over (name_pat x) d)) (at_first_open gs)
        else Some (opened_here (over (name_pat x) d gs))) ≡ Some t → ((u : Opened) → at_first_open gs ≡ Some u → (y : Value) → Typed Next (At y) → UnderValued gs (At y) P →
        MeetsGens gs (At y) Q →
        AtEach u.before (At y) (Here u.after (names_behind u.before Next) P Q)) →
        AtEach t.before env (Here t.after (names_behind t.before g) P Q)
    go true q h = inner (at_first_open gs) refl q h
    go false q h = subst (λ z. AtEach z.before env (Here z.after (names_behind z.before g) P Q))
        (let z : opened_here (over (name_pat x) d gs) ≡ t = cc in z) (record { typed = o; under = v; met = m })
at-plain (over (tuple_pat ps) d gs) t q g env o P Q v m = subst (λ z. AtEach z.before env (Here z.after (names_behind z.before g) P Q))
    (let z : opened_here (over (tuple_pat ps) d gs) ≡ t = cc in z) (record { typed = o; under = v; met = m })
at-plain (from p e gs) t q g env o P Q v m = subst (λ z. AtEach z.before env (Here z.after (names_behind z.before g) P Q))
    (let z : opened_here (from p e gs) ≡ t = cc in z) (record { typed = o; under = v; met = m })
at-plain (cond c gs) t q g env o P Q v m = go (at_first_open gs) refl q (λ u r a b. at-plain gs u r g env o P Q a b)
  where
    go : (o : Option Opened) → at_first_open gs ≡ o → option_map (with_first (cond c)) o ≡ Some t →
        ((u : Opened) → at_first_open gs ≡ Some u → UnderValued gs env P → MeetsGens gs env Q →
        AtEach u.before env (Here u.after (names_behind u.before g) P Q)) → AtEach t.before env (Here t.after (names_behind t.before g) P Q)
    go None r q h = cc
    go (Some u) r q h = subst (λ z. AtEach z.before env (Here z.after (names_behind z.before g) P Q))
        (let z : with_first (cond c) u ≡ t = cc in z) (λ i. h u r (v.1 i) (m.1 i))
