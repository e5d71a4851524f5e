-- The structures of what is shown of a tree without views are met, where those of what stands for names are.
use Rattle.std.proofs.Common.{◌≡◌, refl, Bool, true, false, List, [], ◌∷◌, Option, Some, None}
use Rattle.ess_semantics.specs.declared.words.Op2.{Op2}
use Rattle.ess_semantics.specs.Lists.{or_default}
use Rattle.ess_semantics.specs.Values.{Text, Value, items_of}
use Rattle.ess_semantics.specs.Names.{look}
use Rattle.ess_semantics.specs.Trees.{binary, Ex, Exs, number_ex, truth_ex, name_ex, node_ex, matrix_ex, comp_ex, cell_ex, seen_ex, no_exs, more_exs, Gens, no_gens, over, from, cond, Dom, Doms, bool_dom, int_dom, name_dom, tuple_dom, record_dom, matrix_dom, set_dom, mset_dom, function_dom, relation_dom, partition_dom, no_doms, more_doms}
use Rattle.ess_semantics.specs.Meaning.{Env, bind, meaning, domain_of, members_in}
use Rattle.ess_semantics.specs.Contexts.{Each, EachOf, EachIn, Guarded, guards}
use Rattle.ess_semantics.specs.Meets.{Meets, MeetsAll, MeetsGens, MeetsDom, MeetsDoms}
use Rattle.ess_rules_laws.proofs.Simulation.{Vals}
use Rattle.conjure_laws.specs.PlainTrees.{Plain, PlainAll, PlainGens, PlainDom, PlainDoms}
use Rattle.conjure_model_laws.specs.Shown.{Shows, in_place, shown, shown_all, shown_gens, shown_dom, shown_doms}
use Rattle.conjure_model_laws.specs.StandsFor.{with_values, StandsFor}

each-any : {A : Type 0} (xs : List A) (P : A → Type 0) → ((x : A) → P x) → Each xs P
each-any [] P f = tt
each-any (x ∷ xs) P f = (f x, each-any xs P f)

each-of-any : (o : Option (List Value)) (P : Value → Type 0) → ((v : Value) → P v) → EachOf o P
each-of-any None P f = tt
each-of-any (Some vs) P f = each-any vs P f

each-in-any : (o : Option Value) (P : Value → Type 0) → ((v : Value) → P v) → EachIn o P
each-in-any None P f = tt
each-in-any (Some s) P f = each-any (items_of s) P f

guarded-any : (g : Bool) (o : Option Value) (T : Type 0) → T → Guarded g o T
guarded-any true o T t = λ e. t
guarded-any false o T t = t

module _ (sh : Shows) (n : Text → Bool) (env there : Env) (S : StandsFor sh n env there) where
  abbrev N : Vals → Env
  N h = with_values there h

  first-met : (a : Text) (h : Vals) → Meets (in_place sh.first a) (N h)
  first-met a h = go (look sh.first a) refl
    where
      go : (o : Option Ex) → look sh.first a ≡ o → Meets (or_default o (name_ex a)) (N h)
      go None e = tt
      go (Some w) e = (S.first a w e h).1

  last-met : (a : Text) (h : Vals) → Meets (in_place sh.last a) (N h)
  last-met a h = go (look sh.last a) refl
    where
      go : (o : Option Ex) → look sh.last a ≡ o → Meets (or_default o (name_ex a)) (N h)
      go None e = tt
      go (Some w) e = (S.last a w e h).1

  mutual
    -- Those of an expression.
    pub meets-shown : (e : Ex) (h : Vals) → Plain e → Meets (shown sh e) (N h)
    meets-shown (number_ex m) h w = tt
    meets-shown (truth_ex m) h w = tt
    meets-shown (name_ex a) h w = first-met a h
    meets-shown (node_ex q (binary Op2.Member) (more_exs e (more_exs (name_ex a) no_exs))) h w = (
      meets-shown e h w.0,
      guarded-any (guards (binary Op2.Member)) (meaning (shown sh e) (N h)) (MeetsAll false (more_exs (in_place sh.last a) no_exs) (N h))
          (last-met a h, guarded-any false (meaning (in_place sh.last a) (N h)) (MeetsAll false no_exs (N h)) tt),
    )
    meets-shown (node_ex q op es) h w = all-met (guards op) es h w
    meets-shown (matrix_ex es d) h w = (all-met false es h w.0, dom-met d h w.1)
    meets-shown (comp_ex e gs) h w = gens-met gs e h w.1 (λ g. meets-shown e g w.0)
    meets-shown (cell_ex q c es) h w = absurd w
    meets-shown (seen_ex r d ns es) h w = absurd w

    all-met : (q : Bool) (es : Exs) (h : Vals) → PlainAll es → MeetsAll q (shown_all sh es) (N h)
    all-met q no_exs h w = tt
    all-met q (more_exs e es) h w = (meets-shown e h w.0, guarded-any q (meaning (shown sh e) (N h)) _ (all-met false es h w.1))

    gens-met : (gs : Gens) (e : Ex) (h : Vals) → PlainGens gs → ((g : Vals) → Meets (shown sh e) (N g)) →
        MeetsGens (shown_gens sh gs) (N h) (λ here. Meets (shown sh e) here)
    gens-met no_gens e h w k = k h
    gens-met (over p d gs) e h w k = (
      dom-met d h w.0,
      each-of-any (members_in (domain_of (shown_dom sh d) (N h))) _ (λ v. gens-met gs e (bind p v h) w.1 k),
    )
    gens-met (from p u gs) e h w k = (
      meets-shown u h w.0,
      each-in-any (meaning (shown sh u) (N h)) _ (λ v. gens-met gs e (bind p v h) w.1 k),
    )
    gens-met (cond u gs) e h w k = (meets-shown u h w.0, λ t. gens-met gs e h w.1 k)

    pub dom-met : (d : Dom) (h : Vals) → PlainDom d → MeetsDom (shown_dom sh d) (N h)
    dom-met bool_dom h w = tt
    dom-met (int_dom rs es) h w = all-met false es h w
    dom-met (name_dom t) h w = S.types_met t h
    dom-met (tuple_dom ds) h w = doms-met ds h w
    dom-met (record_dom fs ds) h w = doms-met ds h w
    dom-met (matrix_dom is d) h w = (doms-met is h w.0, dom-met d h w.1)
    dom-met (set_dom ms es d) h w = (all-met false es h w.0, dom-met d h w.1)
    dom-met (mset_dom ms es d) h w = (all-met false es h w.0, dom-met d h w.1)
    dom-met (function_dom ms es d c) h w = (all-met false es h w.0, dom-met d h w.1, dom-met c h w.2)
    dom-met (relation_dom ms es ds) h w = (all-met false es h w.0, doms-met ds h w.1)
    dom-met (partition_dom ms es d) h w = (all-met false es h w.0, dom-met d h w.1)

    doms-met : (ds : Doms) (h : Vals) → PlainDoms ds → MeetsDoms (shown_doms sh ds) (N h)
    doms-met no_doms h w = tt
    doms-met (more_doms d ds) h w = (dom-met d h w.0, doms-met ds h w.1)
