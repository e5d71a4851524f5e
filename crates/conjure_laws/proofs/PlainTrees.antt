-- Any tables meet the structures of a tree without cells and views.
use Rattle.std.proofs.Common.{Bool, true, false, List, [], ◌∷◌, Option, Some, None}
use Rattle.ess_semantics.specs.Values.{Value, items_of}
use Rattle.ess_semantics.specs.Trees.{Ex, Exs, number_ex, truth_ex, name_ex, node_ex, matrix_ex, comp_ex, cell_ex, seen_ex, no_exs, more_exs, Gens, no_gens, over, from, cond, Dom, Doms, bool_dom, int_dom, name_dom, tuple_dom, record_dom, matrix_dom, set_dom, mset_dom, function_dom, relation_dom, partition_dom, no_doms, more_doms}
use Rattle.ess_semantics.specs.Meaning.{Env, with_pat, meaning, domain_of, members_in}
use Rattle.ess_semantics.specs.Contexts.{Each, EachOf, EachIn, Guarded, guards}
use Rattle.ess_semantics.specs.Meets.{Meets, MeetsAll, MeetsGens, MeetsDom, MeetsDoms}
use Rattle.conjure_laws.specs.PlainTrees.{Plain, PlainAll, PlainGens, PlainDom, PlainDoms}

each-any : {A : Type 0} (xs : List A) (P : A → Type 0) → ((x : A) → P x) → Each xs P
each-any [] P f = tt
each-any (x ∷ xs) P f = (f x, each-any xs P f)

each-of-any : (o : Option (List Value)) (P : Value → Type 0) → ((v : Value) → P v) → EachOf o P
each-of-any None P f = tt
each-of-any (Some vs) P f = each-any vs P f

each-in-any : (o : Option Value) (P : Value → Type 0) → ((v : Value) → P v) → EachIn o P
each-in-any None P f = tt
each-in-any (Some s) P f = each-any (items_of s) P f

guarded-any : (g : Bool) (o : Option Value) (T : Type 0) → T → Guarded g o T
guarded-any true o T t = λ e. t
guarded-any false o T t = t

mutual
  -- Any tables meet the structures of a tree without views.
  pub plain-meets : (e : Ex) (env : Env) → Plain e → Meets e env
  plain-meets (number_ex m) env w = tt
  plain-meets (truth_ex m) env w = tt
  plain-meets (name_ex a) env w = tt
  plain-meets (node_ex q op es) env w = meets-all (guards op) es env w
  plain-meets (matrix_ex es d) env w = (meets-all false es env w.0, meets-dom d env w.1)
  plain-meets (comp_ex e gs) env w = meets-gens gs e env w.1 (λ here. plain-meets e here w.0)
  plain-meets (cell_ex q c es) env w = absurd w
  plain-meets (seen_ex r d ns es) env w = absurd w

  meets-all : (q : Bool) (es : Exs) (env : Env) → PlainAll es → MeetsAll q es env
  meets-all q no_exs env w = tt
  meets-all q (more_exs e es) env w = (plain-meets e env w.0, guarded-any q (meaning e env) _ (meets-all false es env w.1))

  meets-gens : (gs : Gens) (e : Ex) (env : Env) → PlainGens gs → ((here : Env) → Meets e here) →
      MeetsGens gs env (λ here. Meets e here)
  meets-gens no_gens e env w k = k env
  meets-gens (over p d gs) e env w k = (
    meets-dom d env w.0,
    each-of-any (members_in (domain_of d env)) _
        (λ v. meets-gens gs e (with_pat p v env) w.1 k),
  )
  meets-gens (from p u gs) e env w k = (
    plain-meets u env w.0,
    each-in-any (meaning u env) _ (λ v. meets-gens gs e (with_pat p v env) w.1 k),
  )
  meets-gens (cond u gs) e env w k = (plain-meets u env w.0, λ t. meets-gens gs e env w.1 k)

  meets-dom : (d : Dom) (env : Env) → PlainDom d → MeetsDom d env
  meets-dom bool_dom env w = tt
  meets-dom (int_dom rs es) env w = meets-all false es env w
  meets-dom (name_dom a) env w = tt
  meets-dom (tuple_dom ds) env w = meets-doms ds env w
  meets-dom (record_dom fs ds) env w = meets-doms ds env w
  meets-dom (matrix_dom is d) env w = (meets-doms is env w.0, meets-dom d env w.1)
  meets-dom (set_dom ms es d) env w = (meets-all false es env w.0, meets-dom d env w.1)
  meets-dom (mset_dom ms es d) env w = (meets-all false es env w.0, meets-dom d env w.1)
  meets-dom (function_dom ms es d c) env w = (meets-all false es env w.0, meets-dom d env w.1, meets-dom c env w.2)
  meets-dom (relation_dom ms es ds) env w = (meets-all false es env w.0, meets-doms ds env w.1)
  meets-dom (partition_dom ms es d) env w = (meets-all false es env w.0, meets-dom d env w.1)

  meets-doms : (ds : Doms) (env : Env) → PlainDoms ds → MeetsDoms ds env
  meets-doms no_doms env w = tt
  meets-doms (more_doms d ds) env w = (meets-dom d env w.0, meets-doms ds env w.1)
