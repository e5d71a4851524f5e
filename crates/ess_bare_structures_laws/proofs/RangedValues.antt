-- In a tree over ranges that is in scope and total, over full tables, each part has a value wherever its context holds.
use Rattle.std.proofs.Common.{◌≡◌, refl, sym, ap, subst, ◌∙◌, Bool, true, false, ◌||◌, List, [], ◌∷◌, ◌++◌, Option, Some, None, option_map, if◌then◌else◌}
use Rattle.std.specs.Prelude.{IsTrue, is_some}
use Rattle.std.specs.List.{list_all}
use Rattle.ess_semantics.specs.Lists.{and_then}
use Rattle.ess_semantics.specs.Values.{Text, Value, truth}
use Rattle.ess_semantics.specs.Order.{same_text}
use Rattle.ess_semantics.specs.Names.{Names, look}
use Rattle.ess_semantics.specs.Types.{Ty, bind_types, type_of_dom}
use Rattle.ess_semantics.specs.Trees.{Op, unary, binary, word, both_ends, name_pat, Ex, Exs, number_ex, truth_ex, name_ex, node_ex, matrix_ex, comp_ex, cell_ex, seen_ex, no_exs, more_exs, Gens, no_gens, over, from, cond, Dom, bool_dom, int_dom}
use Rattle.ess_semantics.specs.Scoped.{with_names, Scoped, ScopedExs, ScopedGens, ScopedDom}
use Rattle.ess_semantics.specs.Operators.{as_truth, value_of_node}
use Rattle.ess_semantics.specs.Domains.{integers}
use Rattle.ess_semantics.specs.Meaning.{Env, with_pat, meaning, meanings, items_under, collect, where_true, domain_of, members_in, spans_of}
use Rattle.ess_semantics.specs.Contexts.{Each, EachOf, Guarded, guards}
use Rattle.ess_semantics.specs.Totality.{HasValue, Total, TotalAll, TotalUnder, TotalDom}
use Rattle.ess_semantics.specs.Full.{Full, FullAll, FullUnder, FullDom, Reached}
use Rattle.ess_semantics.specs.Occurrences.{has_cells}
use Rattle.ess_semantics.proofs.Tests.{and-both}
use Rattle.ess_guard_laws.specs.Supplied.{Unless}
use Rattle.ess_values_along_laws.specs.Valued.{Valued, AllValued, UnderValued, DomValued, lacks}
use Rattle.ess_guard_natural_laws.specs.TotalButNatural.{opens_places}
use Rattle.ess_bare_structures_laws.specs.Laws.{none}
use Rattle.ess_bare_structures_laws.proofs.Ranged.{Ranged, AllRanged, RangedGens, RangedDom}

-- ---- lists and conditions

unless-any : (b : Bool) (P : Type 0) → P → Unless b P
unless-any true P p = tt
unless-any false P p = p

guarded-any : (b : Bool) (o : Option Value) (P : Type 0) → P → Guarded b o P
guarded-any true o P p = λ h. p
guarded-any false o P p = p

reached-true : (b : Bool) (o : Option Value) (P : Type 0) → Reached b o P → as_truth o ≡ true → P
reached-true true o P r h = r
reached-true false o P r h = r h

each-both : (vs : List Value) (P Q R : Value → Type 0) → ((v : Value) → P v → Q v → R v) → Each vs P → Each vs Q → Each vs R
each-both [] P Q R f p q = tt
each-both (v ∷ vs) P Q R f p q = (f v p.0 q.0, each-both vs P Q R f p.1 q.1)

each-more : (vs : List Value) (P Q : Value → Type 0) → ((v : Value) → P v → Q v) → Each vs P → Each vs Q
each-more [] P Q f p = tt
each-more (v ∷ vs) P Q f p = (f v p.0, each-more vs P Q f p.1)

both-there : {A : Type 0} (o p : Option (List A)) → IsTrue (is_some o) → IsTrue (is_some p) →
    IsTrue (is_some (and_then o (λ xs. option_map (λ ys. xs ++ ys) p)))
both-there None p h k = cc
both-there (Some x) None h k = cc
both-there (Some x) (Some y) h k = refl

collect-there : {A : Type 0} (vs : List Value) (f : Value → Option (List A)) → Each vs (λ v. IsTrue (is_some (f v))) →
    IsTrue (is_some (collect vs f))
collect-there [] f h = refl
collect-there (v ∷ vs) f h = both-there (f v) (collect vs f) h.0 (collect-there vs f h.1)

where-there : {A : Type 0} (o : Option Value) (x : Option (List A)) → (as_truth o ≡ true → IsTrue (is_some x)) →
    IsTrue (is_some (where_true o (λ u. x)))
where-there (Some (truth true)) x f = f refl
where-there (Some (truth false)) x f = refl
where-there (Some v) x f = refl
where-there None x f = refl

one-there : (o : Option Value) → IsTrue (is_some o) → IsTrue (is_some (option_map (λ v. v ∷ []) o))
one-there None h = h
one-there (Some v) h = refl

list-there : {A B : Type 0} (f : A → B) (o : Option A) → IsTrue (is_some o) → IsTrue (is_some (option_map f o))
list-there f None h = h
list-there f (Some v) h = refl

-- The numbers of a range are there where its bounds are.
range-members : (o p : Option Value) → IsTrue (is_some o) → IsTrue (is_some p) →
    (vs : List Value) × (members_in (option_map integers (spans_of (both_ends ∷ []) (o ∷ p ∷ []))) ≡ Some vs)
range-members None p h k = cc
range-members (Some x) None h k = cc
range-members (Some x) (Some y) h k = (_, refl)

-- ---- trees

-- The names of s have values.
abbrev pub Present : (Text → Bool) → Env → Type 0
Present s env = (a : Text) → IsTrue (s a) → IsTrue (is_some (look env.vals a))

present-more : (s : Text → Bool) (a : Text) (v : Value) (env : Env) → Present s env →
    Present (with_names s (name_pat a)) (with_pat (name_pat a) v env)
present-more s a v env p c t = go (same_text a c) (s c) t (p c)
  where
    go : (b d : Bool) → IsTrue (d || b) → (IsTrue d → IsTrue (is_some (look env.vals c))) →
        IsTrue (is_some (if b then Some v else look env.vals c))
    go true d h f = refl
    go false true h f = f refl
    go false false h f = cc

-- The expression has a value, and each part of it has, in natural places or not.
pub record Answer (e : Ex) (env : Env) : Type 0 where
  pub there : IsTrue (is_some (meaning e env))
  pub valued : (w : Bool) → Valued w e env

pub record Answers (es : Exs) (env : Env) : Type 0 where
  pub there : IsTrue (list_all is_some (meanings es env))
  pub valued : (g w : Bool) → AllValued g w es env

pub record UnderAnswer (gs : Gens) (e : Ex) (env : Env) : Type 0 where
  pub there : IsTrue (is_some (items_under gs env (λ here. option_map (λ v. v ∷ []) (meaning e here))))
  pub valued : UnderValued gs env (λ here. Valued false e here)

pub record DomAnswer (d : Dom) (env : Env) : Type 0 where
  pub vs : List Value
  pub there : members_in (domain_of d env) ≡ Some vs
  pub valued : DomValued d env

node-there : (b : Bool) (op : Op) (es : Exs) (env : Env) → HasValue (value_of_node op (meanings es env)) (meanings es env) →
    Answers es env → IsTrue (is_some (meaning (node_ex b op es) env))
node-there true op es env t a = refl
node-there false op es env t a = t a.there

node-answer : (b : Bool) (op : Op) (es : Exs) (env : Env) → HasValue (value_of_node op (meanings es env)) (meanings es env) →
    Answers es env → Answer (node_ex b op es) env
node-answer b op es env t a = record {
  there = node-there b op es env t a;
  valued = λ w. (unless-any (lacks w b op) _ (node-there b op es env t a), a.valued (guards op) (opens_places w b op));
}

cell-answer : (b : Bool) (n : Text) (es : Exs) (env : Env) → IsTrue (is_some (meaning (cell_ex b n es) env)) → Answers es env →
    Answer (cell_ex b n es) env
cell-answer b n es env t a = record { there = t; valued = λ w. (unless-any (b || w) _ t, a.valued false false) }

-- Generators over a domain.
over-answer : (a : Text) (d : Dom) (gs : Gens) (e : Ex) (env : Env) → DomAnswer d env →
    EachOf (members_in (domain_of d env)) (λ v. UnderAnswer gs e (with_pat (name_pat a) v env)) → UnderAnswer (over (name_pat a) d gs) e env
over-answer a d gs e env x y =
    let z : Each x.vs (λ v. UnderAnswer gs e (with_pat (name_pat a) v env)) =
    subst (λ o. EachOf o (λ v. UnderAnswer gs e (with_pat (name_pat a) v env))) x.there y in
    record {
      there = ap (λ o. is_some (and_then o (λ vs. collect vs (λ v. items_under gs (with_pat (name_pat a) v env)
          (λ here. option_map (λ u. u ∷ []) (meaning e here)))))) x.there
          ∙ collect-there x.vs _ (each-more x.vs _ _ (λ v (u : UnderAnswer gs e (with_pat (name_pat a) v env)). u.there) z);
      valued = (
        x.valued,
        subst (λ o. EachOf o (λ v. UnderValued gs (with_pat (name_pat a) v env) (λ here. Valued false e here))) (sym x.there)
            (each-more x.vs _ _ (λ v (u : UnderAnswer gs e (with_pat (name_pat a) v env)). u.valued) z),
      );
    }

each-of-both : (o : Option (List Value)) (P Q R : Value → Type 0) → ((v : Value) → P v → Q v → R v) → EachOf o P → EachOf o Q → EachOf o R
each-of-both None P Q R f p q = tt
each-of-both (Some vs) P Q R f p q = each-both vs P Q R f p q

cond-answer : (c : Ex) (gs : Gens) (e : Ex) (env : Env) → Answer c env → (as_truth (meaning c env) ≡ true → UnderAnswer gs e env) →
    UnderAnswer (cond c gs) e env
cond-answer c gs e env x f = record {
  there = where-there (meaning c env) _ (λ h. let u = f h in u.there);
  valued = (x.valued false, λ h. let u = f h in u.valued);
}

mutual
  -- So each part has a value.
  pub ranged-answer : (e : Ex) → Ranged e → (s o : Text → Bool) (ty : Names Ty) (env : Env) → Scoped none s o e → Present s env →
      Full e ty env → Total e env → Answer e env
  ranged-answer (number_ex n) x s o ty env w p f t = record { there = refl; valued = λ z. tt }
  ranged-answer (truth_ex b) x s o ty env w p f t = record { there = refl; valued = λ z. tt }
  ranged-answer (name_ex a) x s o ty env w p f t = record { there = p a w; valued = λ z. p a w }
  ranged-answer (node_ex b (unary q) es) x s o ty env w p f t = node-answer b (unary q) es env t.0 (all-answers es x s o ty env w p f t.1)
  ranged-answer (node_ex b (binary q) es) x s o ty env w p f t = node-answer b (binary q) es env t.0 (all-answers es x s o ty env w p f t.1)
  ranged-answer (node_ex b (word q) es) x s o ty env w p f t = node-answer b (word q) es env t.0 (all-answers es x s o ty env w p f t.1)
  ranged-answer (node_ex b op es) x s o ty env w p f t = absurd x
  ranged-answer (matrix_ex es d) x s o ty env w p f t = absurd x
  ranged-answer (comp_ex e gs) x s o ty env w p f t =
      let a = under-answer gs x.0 e s o ty env w p f t (λ s' o' ty' here w' p' f' t'. ranged-answer e x.1 s' o' ty' here w' p' f' t') in
      record { there = list-there _ _ a.there; valued = λ z. (list-there _ _ a.there, a.valued) }
  ranged-answer (cell_ex true n es) x s o ty env w p f t = cell-answer true n es env refl (all-answers es x s o ty env w p f.1 t)
  ranged-answer (cell_ex false n es) x s o ty env w p f t = cell-answer false n es env f.0 (all-answers es x s o ty env w p f.1 t)
  ranged-answer (seen_ex r d ns es) x s o ty env w p f t = absurd x

  all-answers : (es : Exs) → AllRanged es → (s o : Text → Bool) (ty : Names Ty) (env : Env) → ScopedExs none s o es → Present s env →
      FullAll es ty env → TotalAll es env → Answers es env
  all-answers no_exs x s o ty env w p f t = record { there = refl; valued = λ g z. tt }
  all-answers (more_exs e es) x s o ty env w p f t =
      let a = ranged-answer e x.0 s o ty env w.0 p f.0 t.0 in
      let b = all-answers es x.1 s o ty env w.1 p f.1 t.1 in
      record {
        there = and-both (is_some (meaning e env)) (list_all is_some (meanings es env)) a.there b.there;
        valued = λ g z. (a.valued z, guarded-any g (meaning e env) _ (b.valued false z));
      }

  under-answer : (gs : Gens) → RangedGens gs → (e : Ex) (s o : Text → Bool) (ty : Names Ty) (env : Env) →
      ScopedGens none s o gs (λ s' o'. Scoped none s' o' e) → Present s env → FullUnder gs ty env (λ h here. Full e h here) →
      TotalUnder gs env (λ here. Total e here) →
      ((s' o' : Text → Bool) (ty' : Names Ty) (here : Env) → Scoped none s' o' e → Present s' here → Full e ty' here → Total e here →
      Answer e here) → UnderAnswer gs e env
  under-answer no_gens x e s o ty env w p f t k =
      let a = k s o ty env w p f t in record { there = one-there (meaning e env) a.there; valued = a.valued false }
  under-answer (over (name_pat a) d gs) x e s o ty env w p f t k =
      over-answer a d gs e env (dom-answer d x.0 s o ty env w.1 p f.0 t.0)
      (each-of-both (members_in (domain_of d env))
      (λ v. FullUnder gs (bind_types (name_pat a) (type_of_dom d) ty) (with_pat (name_pat a) v env) (λ h here. Full e h here))
      (λ v. TotalUnder gs (with_pat (name_pat a) v env) (λ here. Total e here))
      (λ v. UnderAnswer gs e (with_pat (name_pat a) v env))
      (λ v f' t'. under-answer gs x.1 e (with_names s (name_pat a)) (with_names o (name_pat a))
      (bind_types (name_pat a) (type_of_dom d) ty) (with_pat (name_pat a) v env) w.2 (present-more s a v env p) f' t' k) f.1 t.1)
  under-answer (over q d gs) x e s o ty env w p f t k = absurd x
  under-answer (from q u gs) x e s o ty env w p f t k = absurd x
  under-answer (cond c gs) x e s o ty env w p f t k =
      cond-answer c gs e env (ranged-answer c x.0 s o ty env w.0 p f.0 t.0)
      (λ h. under-answer gs x.1 e s o ty env w.1 p (reached-true (has_cells c) (meaning c env) _ f.1 h) (t.1 h) k)

  dom-answer : (d : Dom) → RangedDom d → (s o : Text → Bool) (ty : Names Ty) (env : Env) → ScopedDom none s o d → Present s env →
      FullDom d ty env → TotalDom d env → DomAnswer d env
  dom-answer bool_dom x s o ty env w p f t = record { vs = truth false ∷ truth true ∷ []; there = refl; valued = tt }
  dom-answer (int_dom (both_ends ∷ []) (more_exs a (more_exs b no_exs))) x s o ty env w p f t =
      let u = ranged-answer a x.0 s o ty env w.0 p f.0 t.0 in
      let v = ranged-answer b x.1 s o ty env w.1.0 p f.1.0 t.1.0 in
      let m = range-members (meaning a env) (meaning b env) u.there v.there in
      record { vs = m.0; there = m.1; valued = (u.valued false, (v.valued false, tt)) }
  dom-answer d x s o ty env w p f t = absurd x

-- So it is of a tree without free names.
pub ranged-values : (e : Ex) → Ranged e → (env : Env) → Scoped none none none e → Full e [] env → Total e env → Valued false e env
ranged-values e x env w f t =
    let a = ranged-answer e x none none [] env w (λ c h. cc) f t in a.valued false
