-- A pattern over a source of tuples is a name over it, with a generator for each component behind.
use Rattle.std.proofs.Common.{◌≡◌, refl, sym, ap, ◌∙◌, subst, ℕ, suc, ◌+◌, Bool, true, false, ◌||◌, not, List, [], ◌∷◌, Option, Some, None, option_map, arith}
use Rattle.std.specs.Prelude.{IsTrue}
use Rattle.ess_semantics.specs.Lists.{and_then}
use Rattle.ess_semantics.specs.Values.{Text, a_tuple, Value, Values, nil, cons, tuple, to_list, items_of}
use Rattle.ess_semantics.specs.Names.{Names, look}
use Rattle.ess_semantics.specs.Trees.{name_pat, tuple_pat, Pat, Pats, no_pats, more_pats, Ex, name_ex, comp_ex, Gens, no_gens, from}
use Rattle.ess_semantics.specs.Types.{Ty, Tys, no_tys, more_tys, compound}
use Rattle.ess_semantics.specs.Typing.{source_ty}
use Rattle.ess_semantics.specs.TypeMembers.{is_of, are_of, is_of_type}
use Rattle.ess_semantics.specs.Tables.{Table}
use Rattle.ess_semantics.specs.Operators.{component, list_value}
use Rattle.ess_semantics.specs.Contexts.{EachIn}
use Rattle.ess_semantics.specs.Meaning.{Env, TypeEntry, bind, bind_all, meaning, items_under, collect}
use Rattle.ess_semantics.specs.Meets.{Meets, MeetsGens}
use Rattle.ess_semantics.specs.Kept.{Keeps}
use Rattle.ess_semantics.specs.Substitution.{NamesAre, Binds, BindsAll}
use Rattle.ess_semantics.specs.Scoped.{is_bound_by_some}
use Rattle.ess_semantics.proofs.Tests.{and-left, and-right}
use Rattle.ess_semantics.proofs.Orders.{to_list-of_list}
use Rattle.ess_rules_laws.specs.ComponentRules.{component_of}
use Rattle.ess_rules_laws.proofs.Agreement.{AgreeOn, agree-but, look-itself, same_text-itself, meaning-agree}
use Rattle.ess_rules_laws.proofs.Bindings.{collect-each-in, each-in-map, each-in-join}
use Rattle.ess_rules_laws.proofs.ComponentRules.{component-means}
use Rattle.ess_rules_laws.proofs.FreeNames.{bind-agrees}
use Rattle.ess_rules_laws.proofs.ListedItems.{alone-listed}
use Rattle.ess_rules_laws.proofs.MeetsSimulation.{meets-agree}
use Rattle.ess_rules_laws.proofs.Simulation.{Vals, E, but, any}
use Rattle.ess_rules_laws.proofs.Splices.{bind-outside}
use Rattle.ess_refine_laws.specs.AllRules.{Supply}
use Rattle.ess_open_rules_laws.specs.OpenSources.{tuple_parts, components_bound, pattern_opened}
use Rattle.ess_open_kept_laws.specs.OpenedAsks.{PatternFits}

no : {A : Type 0} → false ≡ true → A
no h = cc

-- ---- components

-- The components behind the first ones.
shifted : (ws : Values) (k : ℕ) (v : Value) (vs : Values) → ((j : ℕ) → component ws (suc (j + k)) ≡ component (cons v vs) (suc j)) →
    (j : ℕ) → component ws (suc (j + suc k)) ≡ component vs (suc j)
shifted ws k v vs h j = ap (λ n. component ws (suc n)) (let e : j + suc k ≡ suc j + k = omega arith in e) ∙ h (suc j)

-- The first one.
first-of : (ws : Values) (k : ℕ) (v : Value) (vs : Values) → ((j : ℕ) → component ws (suc (j + k)) ≡ component (cons v vs) (suc j)) →
    component ws (suc k) ≡ Some v
first-of ws k v vs h = ap (λ n. component ws (suc n)) (let e : k ≡ 0 + k = omega arith in e) ∙ h 0

abbrev items_or : Option Value → List Value
items_or None = []
items_or (Some v) = items_of v

unlisted : (o p : Option (List Value)) → option_map list_value o ≡ option_map list_value p → o ≡ p
unlisted None None q = refl
unlisted None (Some ys) q = cc
unlisted (Some xs) None q = cc
unlisted (Some xs) (Some ys) q = ap Some (sym (to_list-of_list xs) ∙ ap items_or q ∙ to_list-of_list ys)

module _ (z : Text) (e : Ex) (hs : Gens) (pl : Bool) (es : List TypeEntry) (cs : Names Table) where
  abbrev M : Vals → Env
  M g = E pl es cs g

  abbrev K : Env → Option (List Value)
  K here = option_map (λ v. v ∷ []) (meaning e here)

  abbrev Met : Gens → Vals → Type 0
  Met gs g = MeetsGens gs (M g) (λ here. Meets e here)

  abbrev One : Ty → ℕ → Ex
  One t k = comp_ex (component_of t k (name_ex z)) no_gens

  -- ---- one tuple, which the new name has

  module _ (vs : Values) where
    one-means : (t : Ty) (k : ℕ) (w : Value) (h : Vals) → look h z ≡ Some (tuple vs) → component vs k ≡ Some w → is_of pl es t w ≡ true →
        meaning (One t k) (M h) ≡ Some (list_value (w ∷ []))
    one-means t k w h l c o = ap (λ o. option_map list_value (option_map (λ v. v ∷ []) o))
        (component-means t k (name_ex z) (M h) vs w l c o)

    still : (p : Pat) (w : Value) (h : Vals) → look h z ≡ Some (tuple vs) → Binds (but z) p → look (bind p w h) z ≡ Some (tuple vs)
    still p w h l b = sym (bind-outside (but z) p w h b z (ap (λ x. not (not x)) (same_text-itself z))) ∙ l

    bound-items : (ps : Pats) (ts : Tys) (k : ℕ) (us : Values) (h : Vals) (gs : Gens) → components_bound z (suc k) ps ts hs ≡ Some gs →
        are_of pl es ts (to_list us) ≡ true → ((j : ℕ) → component vs (suc (j + k)) ≡ component us (suc j)) →
        look h z ≡ Some (tuple vs) → BindsAll (but z) ps →
        items_under gs (M h) K ≡ items_under hs (M (bind_all ps (to_list us) h)) K
    bound-items no_pats no_tys k us h gs q o c l b = ap (λ x. items_under x (M h) K) (let y : gs ≡ hs = cc in y)
    bound-items (more_pats p ps) (more_tys t ts) k (cons w us) h gs q o c l b = go (components_bound z (suc (suc k)) ps ts hs) q
        (λ ks r. bound-items ps ts (suc k) us (bind p w h) ks r (and-right (is_of pl es t w) (are_of pl es ts (to_list us)) o)
        (shifted vs k w us c) (still p w h l b.0) b.1)
      where
        go : (x : Option Gens) → option_map (from p (One t (suc k))) x ≡ Some gs →
            ((ks : Gens) → x ≡ Some ks →
            items_under ks (M (bind p w h)) K ≡ items_under hs (M (bind_all ps (to_list us) (bind p w h))) K) →
            items_under gs (M h) K ≡ items_under hs (M (bind_all ps (to_list us) (bind p w h))) K
        go None q r = cc
        go (Some ks) q r = ap (λ x. items_under x (M h) K) (let y : gs ≡ from p (One t (suc k)) ks = cc in y)
            ∙ ap (λ o. and_then o (λ s. collect (items_of s) (λ v. items_under ks (M (bind p v h)) K)))
            (one-means t (suc k) w h l (first-of vs k w us c) (and-left (is_of pl es t w) (are_of pl es ts (to_list us)) o))
            ∙ alone-listed (items_under ks (M (bind p w h)) K) ∙ r ks refl
    bound-items (more_pats p ps) (more_tys t ts) k nil h gs q o c l b = no o
    bound-items no_pats (more_tys t ts) k us h gs q o c l b = cc
    bound-items (more_pats p ps) no_tys k us h gs q o c l b = cc

    bound-met : (ps : Pats) (ts : Tys) (k : ℕ) (us : Values) (h : Vals) (gs : Gens) → components_bound z (suc k) ps ts hs ≡ Some gs →
        are_of pl es ts (to_list us) ≡ true → ((j : ℕ) → component vs (suc (j + k)) ≡ component us (suc j)) →
        look h z ≡ Some (tuple vs) → BindsAll (but z) ps → Met hs (bind_all ps (to_list us) h) → Met gs h
    bound-met no_pats no_tys k us h gs q o c l b m = subst (λ x. Met x h) (let y : hs ≡ gs = cc in y) m
    bound-met (more_pats p ps) (more_tys t ts) k (cons w us) h gs q o c l b m = go (components_bound z (suc (suc k)) ps ts hs) q
        (λ ks r. bound-met ps ts (suc k) us (bind p w h) ks r (and-right (is_of pl es t w) (are_of pl es ts (to_list us)) o)
        (shifted vs k w us c) (still p w h l b.0) b.1 m)
      where
        go : (x : Option Gens) → option_map (from p (One t (suc k))) x ≡ Some gs →
            ((ks : Gens) → x ≡ Some ks → Met ks (bind p w h)) → Met gs h
        go None q r = cc
        go (Some ks) q r = subst (λ x. Met x h) (let y : from p (One t (suc k)) ks ≡ gs = cc in y) (
          (tt, tt),
          subst (λ o. EachIn o (λ v. Met ks (bind p v h))) (sym (one-means t (suc k) w h l (first-of vs k w us c)
              (and-left (is_of pl es t w) (are_of pl es ts (to_list us)) o))) (r ks refl, tt),
        )
    bound-met (more_pats p ps) (more_tys t ts) k nil h gs q o c l b m = no o
    bound-met no_pats (more_tys t ts) k us h gs q o c l b m = cc
    bound-met (more_pats p ps) no_tys k us h gs q o c l b m = cc

  -- ---- each value of the source

  module _ (ps : Pats) (ts : Tys) (gs : Gens) (q : components_bound z 1 ps ts hs ≡ Some gs) (b : BindsAll (but z) ps)
      (n : NamesAre (but z) any (comp_ex e hs)) (g : Vals) where
    agree-too : (v : Value) → AgreeOn (but z) (bind (tuple_pat ps) v g) (bind (tuple_pat ps) v ((z, v) ∷ g))
    agree-too v a t = bind-agrees (tuple_pat ps) (but z) v g ((z, v) ∷ g) (agree-but z v g) a
        (ap (λ x. x || is_bound_by_some ps a) t)

    opened-at : (v : Value) → is_of pl es (compound a_tuple ts) v ≡ true →
        items_under hs (M (bind (tuple_pat ps) v g)) K ≡ items_under gs (M ((z, v) ∷ g)) K
    opened-at (tuple us) o =
        sym (bound-items us ps ts 0 us ((z, tuple us) ∷ g) gs q o
        (λ j. ap (λ n. component us (suc n)) (let e : j + 0 ≡ j = omega arith in e)) (look-itself z (tuple us) g) b
        ∙ unlisted (items_under hs (M (bind_all ps (to_list us) ((z, tuple us) ∷ g))) K)
        (items_under hs (M (bind_all ps (to_list us) g)) K)
        (meaning-agree pl es cs (but z) (comp_ex e hs) (bind (tuple_pat ps) (tuple us) g)
        (bind (tuple_pat ps) (tuple us) ((z, tuple us) ∷ g)) n (agree-too (tuple us))))
    opened-at _ o = no o

    met-at : (v : Value) → is_of pl es (compound a_tuple ts) v ≡ true → Met hs (bind (tuple_pat ps) v g) → Met gs ((z, v) ∷ g)
    met-at (tuple us) o m = bound-met us ps ts 0 us ((z, tuple us) ∷ g) gs q o
        (λ j. ap (λ n. component us (suc n)) (let e : j + 0 ≡ j = omega arith in e)) (look-itself z (tuple us) g) b
        (meets-agree pl es cs (but z) (comp_ex e hs) (bind (tuple_pat ps) (tuple us) g)
        (bind (tuple_pat ps) (tuple us) ((z, tuple us) ∷ g)) n (agree-too (tuple us)) m)
    met-at _ o m = no o

-- ---- the rule

-- A pattern over a source.
pub pattern-keeps : (s : Supply) (g : Names Ty) (e f : Ex) → pattern_opened g s.one e ≡ Some f → (env : Env) → PatternFits s g e env →
    Keeps e f env
pattern-keeps s g (comp_ex e (from (tuple_pat ps) t hs)) f q env c m = typed (source_ty t g) q c.2
  where
    opened : (ts : Tys) (x : Option Gens) → components_bound s.one 1 ps ts hs ≡ x →
        option_map (λ gs. comp_ex e (from (name_pat s.one) t gs)) x ≡ Some f →
        EachIn (meaning t env) (λ v. IsTrue (is_of_type (compound a_tuple ts) env v)) →
        (meaning (comp_ex e (from (tuple_pat ps) t hs)) env ≡ meaning f env) × Meets f env
    opened ts None p q k = cc
    opened ts (Some gs) p q k = subst (λ z. (meaning (comp_ex e (from (tuple_pat ps) t hs)) env ≡ meaning z env) × Meets z env)
        (let y : comp_ex e (from (name_pat s.one) t gs) ≡ f = cc in y) (
          ap (option_map list_value) (collect-each-in (meaning t env) _ _ (each-in-map (meaning t env) _ _
              (λ v o. opened-at s.one e hs env.positions env.types env.cells ps ts gs p c.1 c.0 env.vals v o) k)),
          (
            m.0,
            each-in-join (meaning t env) _ _ _
                (λ v o n. met-at s.one e hs env.positions env.types env.cells ps ts gs p c.1 c.0 env.vals v o n) k m.1,
          ),
        )

    typed : (y : Ty) → and_then (tuple_parts y)
        (λ ts. option_map (λ gs. comp_ex e (from (name_pat s.one) t gs)) (components_bound s.one 1 ps ts hs)) ≡ Some f →
        EachIn (meaning t env) (λ v. IsTrue (is_of_type y env v)) →
        (meaning (comp_ex e (from (tuple_pat ps) t hs)) env ≡ meaning f env) × Meets f env
    typed (compound a_tuple ts) q k = opened ts (components_bound s.one 1 ps ts hs) refl q k
    typed _ q k = cc
pattern-keeps s g _ f q env c m = cc
