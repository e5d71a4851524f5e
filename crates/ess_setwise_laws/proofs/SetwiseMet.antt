-- A constraint of the class over tables meets its structures, where those of its views are met.
use Rattle.std.proofs.Common.{Bool, true, false, List, [], ◌∷◌, Option, Some, None}
use Rattle.ess_semantics.specs.Values.{Value, items_of}
use Rattle.ess_semantics.specs.Names.{Names}
use Rattle.ess_semantics.specs.Tables.{Table}
use Rattle.ess_semantics.specs.Trees.{Op, binary, both_ends, Ex, node_ex, no_exs, more_exs, Gens, bool_dom, int_dom}
use Rattle.ess_semantics.specs.Meaning.{Env, TypeEntry, meaning, domain_of, members_in}
use Rattle.ess_semantics.specs.Meets.{Meets, MeetsGens}
use Rattle.ess_semantics.specs.Contexts.{Each, EachOf, EachIn, Guarded, guards}
use Rattle.ess_rules_laws.proofs.Simulation.{Vals, E}
use Rattle.ess_seen_laws.specs.Seen.{Kind, Bound}
use Rattle.ess_setwise_laws.proofs.SetwiseTrees.{Stands, named, as_shown, SetTree, stands, combined, Setwise, number, truth, scalar, one, two, chosen, folded, size, within, set_within, compared, Binding, at_end, over_truths, over_numbers, among, where_holds, no_kind}

-- What holds of each value holds of those of a list.
each-any : (vs : List Value) (P : Value → Type 0) → ((v : Value) → P v) → Each vs P
each-any [] P f = tt
each-any (v ∷ vs) P f = (f v, each-any vs P f)

each-of-any : (o : Option (List Value)) (P : Value → Type 0) → ((v : Value) → P v) → EachOf o P
each-of-any None P f = tt
each-of-any (Some vs) P f = each-any vs P f

each-in-any : (o : Option Value) (P : Value → Type 0) → ((v : Value) → P v) → EachIn o P
each-in-any None P f = tt
each-in-any (Some s) P f = each-any (items_of s) P f

-- What holds holds under a guard.
pub guarded-any : (b : Bool) (o : Option Value) (P : Type 0) → P → Guarded b o P
guarded-any true o P p = λ h. p
guarded-any false o P p = p

module _ (Shown : Ex → Kind → Type 0) (pl : Bool) (ts : List TypeEntry) (cs : Names Table)
    (met : (e : Ex) (k : Kind) → Shown e k → (g : Vals) → Meets e (E pl ts cs g)) where
  abbrev C : Names Bound → Ex → Bool → Type 0
  C = Setwise no_kind Shown

  abbrev M : Vals → Env
  M g = E pl ts cs g

  at-met : {t : Names Bound} {e : Ex} {k : Kind} → Stands no_kind Shown t e k → (g : Vals) → Meets e (M g)
  at-met (named h) g = tt
  at-met (as_shown {e = e} {k = k} h) g = met e k h g

  two-met : (b : Bool) (op : Op) (x y : Ex) (g : Vals) → Meets x (M g) → Meets y (M g) →
      Meets (node_ex b op (more_exs x (more_exs y no_exs))) (M g)
  two-met b op x y g p q = (p, guarded-any (guards op) (meaning x (M g)) _ (q, tt))

  set-met : {t : Names Bound} {e : Ex} {k : Kind} → SetTree no_kind Shown t e k → (g : Vals) → Meets e (M g)
  set-met (stands h) g = at-met h g
  set-met (combined {o = o} {s = x} {t = y} c f h) g = two-met false (binary o) x y g (set-met f g) (set-met h g)

  mutual
    -- Each part meets its structures wherever its context holds.
    pub setwise-met : {t : Names Bound} {e : Ex} {m : Bool} → C t e m → (g : Vals) → Meets e (M g)
    setwise-met number g = tt
    setwise-met truth g = tt
    setwise-met (scalar h) g = at-met h g
    setwise-met (one s f) g = (setwise-met f g, tt)
    setwise-met (two {b = b} {o = o} {x = x} {y = y} s f h) g = two-met b (binary o) x y g (setwise-met f g) (setwise-met h g)
    setwise-met (chosen f) g = (setwise-met f g, tt)
    setwise-met (folded {e = e} w d f) g = (binding-met d e (λ h. setwise-met f h) g, tt)
    setwise-met (size h) g = (set-met h g, tt)
    setwise-met (within f h) g = (setwise-met f g, (set-met h g, tt))
    setwise-met (set_within f h) g = (set-met f g, (set-met h g, tt))
    setwise-met (compared {o = o} {s = x} {t = y} c f h) g = two-met true (binary o) x y g (set-met f g) (set-met h g)

    binding-met : {t s : Names Bound} {gs : Gens} → Binding no_kind Shown t gs s → (e : Ex) →
        ((g : Vals) → Meets e (M g)) → (g : Vals) → MeetsGens gs (M g) (λ here. Meets e here)
    binding-met at_end e f g = f g
    binding-met (over_truths {a = a} {gs = gs} n d) e f g = (
      tt,
      each-of-any (members_in (domain_of bool_dom (M g))) (λ v. MeetsGens gs (M ((a, v) ∷ g)) (λ here. Meets e here))
          (λ v. binding-met d e f ((a, v) ∷ g)),
    )
    binding-met (over_numbers {a = a} {x = x} {y = y} {gs = gs} n l h d) e f g = (
      (setwise-met l g, (setwise-met h g, tt)),
      each-of-any (members_in (domain_of (int_dom (both_ends ∷ []) (more_exs x (more_exs y no_exs))) (M g)))
          (λ v. MeetsGens gs (M ((a, v) ∷ g)) (λ here. Meets e here)) (λ v. binding-met d e f ((a, v) ∷ g)),
    )
    binding-met (among {a = a} {s = s} {gs = gs} n h d) e f g = (
      set-met h g,
      each-in-any (meaning s (M g)) (λ v. MeetsGens gs (M ((a, v) ∷ g)) (λ here. Meets e here))
          (λ v. binding-met d e f ((a, v) ∷ g)),
    )
    binding-met (where_holds h d) e f g = (setwise-met h g, λ q. binding-met d e f g)
