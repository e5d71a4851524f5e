-- Rules one after the other and at parts of a tree: what is kept stays kept.
use Rattle.std.proofs.Common.{refl, ◌∙◌, Bool, true, false, List, [], ◌∷◌, Option, Some, None}
use Rattle.ess_semantics.specs.Values.{Value, items_of}
use Rattle.ess_semantics.specs.Trees.{Pat, Ex, Gens, no_gens, over, from, cond}
use Rattle.ess_semantics.specs.Meaning.{Env, with_pat, meaning, domain_of, members_in}
use Rattle.ess_semantics.specs.Contexts.{In, Ins, InGens, InDom, InDoms, hole, in_operand, in_item, in_index_domain, in_body, in_generators, in_cell_index, in_view_domain, in_view_index, in_first, in_later, in_generator_domain, behind_over, in_source, behind_from, in_condition, behind_condition, in_bound, in_component, in_field, in_index, in_element, in_set_number, in_set_member, in_mset_number, in_mset_member, in_function_number, in_argument, in_result, in_relation_number, in_relation_component, in_partition_number, in_partition_member, in_first_domain, in_later_domain, fill, guards, Guarded, Each, EachOf, EachIn, AtEach, Where, WhereIn, WhereGens, WhereDom, WhereDoms}
use Rattle.ess_semantics.specs.Kept.{KeptWhere}
use Rattle.ess_rules_laws.proofs.Steps.{step}

-- An expression keeps itself.
pub kept-itself : (P : Env → Type 0) (e : Ex) → KeptWhere P e e
kept-itself P e env p m = (refl, m)

-- What keeps what keeps an expression keeps it.
pub kept-chain : (P : Env → Type 0) (a b c : Ex) → KeptWhere P a b → KeptWhere P b c → KeptWhere P a c
kept-chain P a b c f g env p m = let r = f env p m in let s = g env p r.1 in (r.0 ∙ s.0, s.1)

-- What is kept where little is known is kept where more is.
pub kept-less : (P Q : Env → Type 0) (a b : Ex) → ((env : Env) → Q env → P env) → KeptWhere P a b → KeptWhere Q a b
kept-less P Q a b f k env q m = k env (f env q) m

-- ---- a property that stays whatever generators bind holds wherever a context does

each-true : {A : Type 0} (xs : List A) (P : A → Type 0) → ((x : A) → P x) → Each xs P
each-true [] P f = tt
each-true (x ∷ xs) P f = (f x, each-true xs P f)

each-of-true : (o : Option (List Value)) (P : Value → Type 0) → ((v : Value) → P v) → EachOf o P
each-of-true None P f = tt
each-of-true (Some vs) P f = each-true vs P f

each-in-true : (o : Option Value) (P : Value → Type 0) → ((v : Value) → P v) → EachIn o P
each-in-true None P f = tt
each-in-true (Some s) P f = each-true (items_of s) P f

-- What holds holds behind a guard.
pub guarded-true : (g : Bool) (o : Option Value) (T : Type 0) → T → Guarded g o T
guarded-true true o T t = λ e. t
guarded-true false o T t = t

module _ (P : Env → Type 0) (stays : (p : Pat) (v : Value) (env : Env) → P env → P (with_pat p v env)) where
  at-each-stays : (gs : Gens) (env : Env) (Q : Env → Type 0) → ((here : Env) → P here → Q here) → P env → AtEach gs env Q
  at-each-stays no_gens env Q f p = f env p
  at-each-stays (over x d gs) env Q f p = each-of-true (members_in (domain_of d env)) _ (λ v. at-each-stays gs (with_pat x v env) Q f (stays x v env p))
  at-each-stays (from x e gs) env Q f p = each-in-true (meaning e env) _ (λ v. at-each-stays gs (with_pat x v env) Q f (stays x v env p))
  at-each-stays (cond e gs) env Q f p = λ t. at-each-stays gs env Q f p

  mutual
    -- A property that holds outside and stays under bindings holds wherever the context of the open part does.
    pub where-stays : (c : In) (env : Env) → P env → Where c env P
    where-stays hole env p = p
    where-stays (in_operand b op c) env p = exs-stay (guards op) c env p
    where-stays (in_item c d) env p = exs-stay false c env p
    where-stays (in_index_domain es c) env p = dom-stays c env p
    where-stays (in_body c gs) env p = at-each-stays gs env _ (λ here q. where-stays c here q) p
    where-stays (in_generators x c) env p = gens-stay c env p
    where-stays (in_cell_index b n c) env p = exs-stay false c env p
    where-stays (in_view_domain r c ns es) env p = dom-stays c env p
    where-stays (in_view_index r d ns c) env p = exs-stay false c env p

    exs-stay : (g : Bool) (c : Ins) (env : Env) → P env → WhereIn g c env P
    exs-stay g (in_first c es) env p = where-stays c env p
    exs-stay g (in_later x c) env p = guarded-true g (meaning x env) _ (exs-stay false c env p)

    gens-stay : (c : InGens) (env : Env) → P env → WhereGens c env P
    gens-stay (in_generator_domain x c gs) env p = dom-stays c env p
    gens-stay (behind_over x d c) env p = each-of-true (members_in (domain_of d env)) _ (λ v. gens-stay c (with_pat x v env) (stays x v env p))
    gens-stay (in_source x c gs) env p = where-stays c env p
    gens-stay (behind_from x e c) env p = each-in-true (meaning e env) _ (λ v. gens-stay c (with_pat x v env) (stays x v env p))
    gens-stay (in_condition c gs) env p = where-stays c env p
    gens-stay (behind_condition x c) env p = λ t. gens-stay c env p

    dom-stays : (c : InDom) (env : Env) → P env → WhereDom c env P
    dom-stays (in_bound rs c) env p = exs-stay false c env p
    dom-stays (in_component c) env p = doms-stay c env p
    dom-stays (in_field fs c) env p = doms-stay c env p
    dom-stays (in_index c d) env p = doms-stay c env p
    dom-stays (in_element is c) env p = dom-stays c env p
    dom-stays (in_set_number ms c d) env p = exs-stay false c env p
    dom-stays (in_set_member ms es c) env p = dom-stays c env p
    dom-stays (in_mset_number ms c d) env p = exs-stay false c env p
    dom-stays (in_mset_member ms es c) env p = dom-stays c env p
    dom-stays (in_function_number ms c d r) env p = exs-stay false c env p
    dom-stays (in_argument ms es c r) env p = dom-stays c env p
    dom-stays (in_result ms es d c) env p = dom-stays c env p
    dom-stays (in_relation_number ms c ds) env p = exs-stay false c env p
    dom-stays (in_relation_component ms es c) env p = doms-stay c env p
    dom-stays (in_partition_number ms c d) env p = exs-stay false c env p
    dom-stays (in_partition_member ms es c) env p = dom-stays c env p

    doms-stay : (c : InDoms) (env : Env) → P env → WhereDoms c env P
    doms-stay (in_first_domain c ds) env p = dom-stays c env p
    doms-stay (in_later_domain d c) env p = doms-stay c env p

  -- A rule that counts on such a property keeps the whole under it.
  pub step-stays : (c : In) (old new : Ex) → KeptWhere P old new → KeptWhere P (fill c old) (fill c new)
  step-stays c old new k env p m = step P old new k c env (where-stays c env p) m
