-- Conditions that read cells hold at their places as they do behind all generators.
use Rattle.std.proofs.Common.{◌≡◌, refl, sym, ap, ◌∙◌, subst, Bool, true, false, ◌&&◌, if◌then◌else◌, List, [], ◌∷◌, ◌++◌, Option, Some, None, option_map}
use Rattle.std.specs.Prelude.{is_some}
use Rattle.std.specs.List.{list_all}
use Rattle.ess_semantics.specs.Lists.{and_then}
use Rattle.ess_semantics.specs.Values.{Text, Value, number, truth, item, node}
use Rattle.ess_semantics.specs.Trees.{Ex, Pat, Gens, no_gens, over, from, cond, Dom}
use Rattle.ess_semantics.specs.Occurrences.{has_cells}
use Rattle.ess_semantics.specs.Operators.{as_truth}
use Rattle.ess_semantics.specs.Meaning.{Env, bind, meaning, items_under, domain_of, members_in, with_pat, collect, where_true}
use Rattle.ess_semantics.specs.Contexts.{Each, EachOf, WhenTrue}
use Rattle.ess_semantics.specs.Substitution.{NamesAre, Binds}
use Rattle.ess_rules_laws.specs.SpliceRules.{append_gens}
use Rattle.ess_rules_laws.proofs.Bindings.{each-of-map}
use Rattle.ess_rules_laws.proofs.Agreement.{outside, meaning-agree}
use Rattle.ess_rules_laws.proofs.Simulation.{any}
use Rattle.ess_rules_laws.proofs.Splices.{bind-outside}
use Rattle.ess_refine_laws.specs.Everywhere.{everywhere_gens, everywhere_dom, ReadsUnder}
use Rattle.ess_refine_laws.proofs.Everywhere.{bounded}
use Rattle.ess_gathered_laws.specs.GatheredConditions.{cell_conditions, without_conditions, all_hold, BindOnly, ConditionsFree}

-- ---- lists under a truth value

-- The list where it is true, else no items.
abbrev pub guard : Bool → Option (List Value) → Option (List Value)
guard true o = o
guard false o = Some []

-- A condition guards so.
where-guards : (c : Option Value) (o : Option (List Value)) → where_true c (λ u. o) ≡ guard (as_truth c) o
where-guards (Some (truth true)) o = refl
where-guards (Some (truth false)) o = refl
where-guards None o = refl
where-guards (Some (number n)) o = refl
where-guards (Some (item t n)) o = refl
where-guards (Some (node t vs)) o = refl

guard-both : (b c : Bool) (o : Option (List Value)) → guard b (guard c o) ≡ guard (b && c) o
guard-both true c o = refl
guard-both false c o = refl

guard-swap : (b c : Bool) (o : Option (List Value)) → guard b (guard c o) ≡ guard c (guard b o)
guard-swap true c o = refl
guard-swap false true o = refl
guard-swap false false o = refl

-- Nothing is collected where no item gives any.
collect-none : (vs : List Value) (F : Value → Option (List Value)) → Each vs (λ v. Some [] ≡ F v) → Some [] ≡ collect vs F
collect-none [] F h = refl
collect-none (v ∷ vs) F h =
    ap (option_map (λ ys. [] ++ ys)) (collect-none vs F h.1)
    ∙ ap (λ o. and_then o (λ xs. option_map (λ ys. xs ++ ys) (collect vs F))) h.0

-- Where each item gives the same where it gives anything, a list that is there is the same.
collect-there : (vs : List Value) (F G : Value → Option (List Value)) → Each vs (λ v. is_some (F v) ≡ true → F v ≡ G v)
    → is_some (collect vs F) ≡ true → collect vs F ≡ collect vs G
collect-there [] F G h t = refl
collect-there (v ∷ vs) F G h t = go (F v) (collect vs F) h.0 (collect-there vs F G h.1) t
  where
    go : (o p : Option (List Value)) → (is_some o ≡ true → o ≡ G v) → (is_some p ≡ true → p ≡ collect vs G)
        → is_some (and_then o (λ xs. option_map (λ ys. xs ++ ys) p)) ≡ true
        → and_then o (λ xs. option_map (λ ys. xs ++ ys) p) ≡ and_then (G v) (λ xs. option_map (λ ys. xs ++ ys) (collect vs G))
    go None p a b t = cc
    go (Some xs) None a b t = cc
    go (Some xs) (Some ys) a b t =
        ap (λ o. and_then o (λ us. option_map (λ ws. us ++ ws) (Some ys))) (a refl)
        ∙ ap (λ p. and_then (G v) (λ us. option_map (λ ws. us ++ ws) p)) (b refl)

-- A list over members under a truth value, where the members are there whatever it is.
over-members : (b : Bool) (o p : Option (List Value)) (F G : Value → Option (List Value)) → is_some p ≡ true
    → ((vs : List Value) → o ≡ Some vs → p ≡ Some vs) → EachOf p (λ v. is_some (guard b (F v)) ≡ true → guard b (F v) ≡ G v)
    → is_some (guard b (and_then o (λ vs. collect vs F))) ≡ true
    → guard b (and_then o (λ vs. collect vs F)) ≡ and_then p (λ vs. collect vs G)
over-members b o None F G t h e s = cc
over-members true None (Some vs) F G t h e s = cc
over-members true (Some us) (Some vs) F G t h e s =
    let q : us ≡ vs = ap (λ z. elim z [ Some ws ↦ ws | None ↦ us ]) (sym (h us refl)) in
    ap (λ z. collect z F) q ∙ collect-there vs F G e (subst (λ z. is_some (collect z F) ≡ true) q s)
over-members false o (Some vs) F G t h e s = collect-none vs G (each vs e)
  where
    each : (vs : List Value) → Each vs (λ v. is_some (guard false (F v)) ≡ true → guard false (F v) ≡ G v) → Each vs (λ v. Some [] ≡ G v)
    each [] e = tt
    each (v ∷ vs) e = (e.0 refl, each vs e.1)

-- ---- truth values along generators

-- It is the same at each binding.
abbrev pub StaysAlong : (Env → Bool) → Gens → Env → Type 0
StaysAlong h no_gens env = Unit {0}
StaysAlong h (over p d gs) env = (v : Value) → (h (with_pat p v env) ≡ h env) × StaysAlong h gs (with_pat p v env)
StaysAlong h (from p e gs) env = (v : Value) → (h (with_pat p v env) ≡ h env) × StaysAlong h gs (with_pat p v env)
StaysAlong h (cond c gs) env = StaysAlong h gs env

always-stays : (gs : Gens) (env : Env) → StaysAlong (λ here. true) gs env
always-stays no_gens env = tt
always-stays (over p d gs) env = λ v. (refl, always-stays gs (with_pat p v env))
always-stays (from p e gs) env = λ v. (refl, always-stays gs (with_pat p v env))
always-stays (cond c gs) env = always-stays gs env

both-stay : (h k : Env → Bool) (gs : Gens) (env : Env) → StaysAlong h gs env → StaysAlong k gs env
    → StaysAlong (λ here. h here && k here) gs env
both-stay h k no_gens env a b = tt
both-stay h k (over p d gs) env a b = λ v. (
  ap (λ x. x && k (with_pat p v env)) (a v).0 ∙ ap (λ x. h env && x) (b v).0,
  both-stay h k gs (with_pat p v env) (a v).1 (b v).1,
)
both-stay h k (from p e gs) env a b = λ v. (
  ap (λ x. x && k (with_pat p v env)) (a v).0 ∙ ap (λ x. h env && x) (b v).0,
  both-stay h k gs (with_pat p v env) (a v).1 (b v).1,
)
both-stay h k (cond c gs) env a b = both-stay h k gs env a b

-- Whether a condition holds.
abbrev pub holds : Ex → Env → Bool
holds c here = as_truth (meaning c here)

-- A condition that uses no name that generators bind.
module _ (r : Text → Bool) (c : Ex) (n : NamesAre (outside r) any c) where
  same-condition : (p : Pat) (v : Value) (env : Env) → Binds r p → holds c (with_pat p v env) ≡ holds c env
  same-condition p v env b = ap as_truth
      (meaning-agree env.positions env.types env.cells (outside r) c env.vals (bind p v env.vals) n (bind-outside r p v env.vals b))

  condition-stays : (gs : Gens) (env : Env) → BindOnly r gs → StaysAlong (holds c) gs env
  condition-stays no_gens env b = tt
  condition-stays (over p d gs) env b = λ v. (same-condition p v env b.0, condition-stays gs (with_pat p v env) b.1)
  condition-stays (from p e gs) env b = λ v. (same-condition p v env b.0, condition-stays gs (with_pat p v env) b.1)
  condition-stays (cond d gs) env b = condition-stays gs env b

-- Whether all hold.
abbrev pub hold_all : List Ex → Env → Bool
hold_all cs here = list_all (λ c. holds c here) cs

and-true : (b : Bool) → b && true ≡ b
and-true true = refl
and-true false = refl

and-later : (a b c : Bool) → a && (b && c) ≡ (a && b) && c
and-later true b c = refl
and-later false b c = refl

-- The conjunction holds where all do.
pub conjunction-holds : (c : Ex) (ds : List Ex) (here : Env) → holds (all_hold c ds) here ≡ hold_all (c ∷ ds) here
conjunction-holds c [] here = sym (and-true (holds c here))
conjunction-holds c (d ∷ ds) here = ap (λ b. holds c here && b) (conjunction-holds d ds here)

-- ---- all generators

-- a is the conjunction of all conditions, h says whether those before these generators hold.
module _ (a : Ex) (k : Env → Option (List Value)) where
  abbrev Behind : Gens → Env → Option (List Value)
  Behind gs env = items_under (append_gens (everywhere_gens gs) (cond a no_gens)) env k

  -- What is left of conditions that hold.
  abbrev IsRest : (Env → Bool) → List Ex → Type 0
  IsRest h cs = (here : Env) → holds a here ≡ (h here && hold_all cs here)

  -- What is to be shown of generators.
  abbrev Gathers : (Env → Bool) → Gens → Env → Type 0
  Gathers h gs env = ReadsUnder (without_conditions gs) env (λ here. Unit {0}) → is_some (guard (h env) (items_under gs env k)) ≡ true
      → guard (h env) (items_under gs env k) ≡ Behind (without_conditions gs) env

  module _ (h : Env → Bool) (p : Pat) (d : Dom) (gs : Gens) (env : Env) (s : StaysAlong h (over p d gs) env)
      (f : (v : Value) → Gathers h gs (with_pat p v env)) where
    abbrev Read : Value → Type 0
    Read v = ReadsUnder (without_conditions gs) (with_pat p v env) (λ here. Unit {0})

    abbrev Same : Value → Type 0
    Same v = is_some (guard (h env) (items_under gs (with_pat p v env) k)) ≡ true
        → guard (h env) (items_under gs (with_pat p v env) k) ≡ Behind (without_conditions gs) (with_pat p v env)

    one : (v : Value) → Read v → Same v
    one v r t = ap (λ b. guard b (items_under gs (with_pat p v env) k)) (sym (s v).0)
        ∙ f v r (subst (λ b. is_some (guard b (items_under gs (with_pat p v env) k)) ≡ true) (sym (s v).0) t)

    over-gathers : Gathers h (over p d gs) env
    over-gathers r t =
        let w = bounded d env r.0 in
        over-members (h env) (members_in (domain_of d env)) (members_in (domain_of (everywhere_dom d) env))
        (λ v. items_under gs (with_pat p v env) k) (λ v. Behind (without_conditions gs) (with_pat p v env)) w.0 w.1
        (each-of-map (members_in (domain_of (everywhere_dom d) env)) (λ v. Read v) (λ v. Same v) one r.1) t

  module _ (h : Env → Bool) (c : Ex) (gs : Gens) (env : Env) where
    abbrev Here : Option (List Value)
    Here = guard (h env) (items_under (cond c gs) env k)

    abbrev Rest : Env → Option (List Value)
    Rest here = items_under gs here k

    -- The condition leaves its place.
    leaves : Gathers (λ here. h here && holds c here) gs env → ReadsUnder (without_conditions gs) env (λ here. Unit {0})
        → is_some Here ≡ true → Here ≡ Behind (without_conditions gs) env
    leaves f r t =
        let e : Here ≡ guard (h env && holds c env) (Rest env) =
        ap (guard (h env)) (where-guards (meaning c env) (Rest env)) ∙ guard-both (h env) (holds c env) (Rest env) in
        e ∙ f r (subst (λ z. is_some z ≡ true) e t)

    -- It stays.
    stays-at : (b : Bool) → holds c env ≡ b → Gathers h gs env
        → WhenTrue (meaning c env) (ReadsUnder (without_conditions gs) env (λ here. Unit {0}))
        → is_some (guard (h env) (guard b (Rest env))) ≡ true
        → guard (h env) (guard b (Rest env)) ≡ guard b (Behind (without_conditions gs) env)
    stays-at true u f r t = f (r u) t
    stays-at false u f r t = guard-swap (h env) false (Rest env)

    stays : Gathers h gs env → WhenTrue (meaning c env) (ReadsUnder (without_conditions gs) env (λ here. Unit {0}))
        → is_some Here ≡ true → Here ≡ where_true (meaning c env) (λ u. Behind (without_conditions gs) env)
    stays f r t =
        let e : Here ≡ guard (h env) (guard (holds c env) (Rest env)) = ap (guard (h env)) (where-guards (meaning c env) (Rest env)) in
        e ∙ stays-at (holds c env) refl f r (subst (λ z. is_some z ≡ true) e t)
        ∙ sym (where-guards (meaning c env) (Behind (without_conditions gs) env))

    -- One of the two.
    cond-gathers : (b : Bool) → (b ≡ true → Gathers (λ here. h here && holds c here) gs env) → (b ≡ false → Gathers h gs env)
        → ReadsUnder (if b then without_conditions gs else cond c (without_conditions gs)) env (λ here. Unit {0})
        → is_some Here ≡ true → Here ≡ Behind (if b then without_conditions gs else cond c (without_conditions gs)) env
    cond-gathers true f g r t = leaves (f refl) r t
    cond-gathers false f g r t = stays (g refl) r t

    -- What is known of the generators behind it.
    rest-leaves : (b : Bool) → b ≡ true → IsRest h (if b then c ∷ cell_conditions gs else cell_conditions gs)
        → IsRest (λ here. h here && holds c here) (cell_conditions gs)
    rest-leaves true e q = λ here. q here ∙ and-later (h here) (holds c here) (hold_all (cell_conditions gs) here)
    rest-leaves false e q = cc

    rest-stays : (b : Bool) → b ≡ false → IsRest h (if b then c ∷ cell_conditions gs else cell_conditions gs)
        → IsRest h (cell_conditions gs)
    rest-stays true e q = cc
    rest-stays false e q = q

  pub gathered-items : (gs : Gens) (h : Env → Bool) (env : Env) → IsRest h (cell_conditions gs) → StaysAlong h gs env → ConditionsFree gs
      → Gathers h gs env
  gathered-items no_gens h env q s f r t =
      ap (λ b. guard b (k env)) (sym (q env ∙ and-true (h env))) ∙ sym (where-guards (meaning a env) (k env))
  gathered-items (over p d gs) h env q s f r t =
      over-gathers h p d gs env s (λ v. gathered-items gs h (with_pat p v env) q (s v).1 f) r t
  gathered-items (from p e gs) h env q s f r t = absurd r
  gathered-items (cond c gs) h env q s f r t =
      cond-gathers h c gs env (has_cells c)
      (λ e. let g = f.0 e in
      gathered-items gs (λ here. h here && holds c here) env (rest-leaves h c gs env (has_cells c) e q)
      (both-stay h (holds c) gs env s (condition-stays g.0 c g.2 gs env g.1)) f.1)
      (λ e. gathered-items gs h env (rest-stays h c gs env (has_cells c) e q) s f.1) r t

-- Where the list is there, the one with the gathered conditions is the same.
pub all-gathered : (c : Ex) (ds : List Ex) (gs : Gens) (env : Env) (k : Env → Option (List Value)) → cell_conditions gs ≡ c ∷ ds
    → ConditionsFree gs → ReadsUnder (without_conditions gs) env (λ here. Unit {0}) → is_some (items_under gs env k) ≡ true
    → items_under gs env k ≡ items_under (append_gens (everywhere_gens (without_conditions gs)) (cond (all_hold c ds) no_gens)) env k
all-gathered c ds gs env k q f r t =
    gathered-items (all_hold c ds) k gs (λ here. true) env
    (λ here. conjunction-holds c ds here ∙ ap (λ l. hold_all l here) (sym q)) (always-stays gs env) f r t
