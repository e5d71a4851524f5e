-- The simplified tree means the same, and is met where the tree is, where the operands of connectives have truth values.
use Rattle.std.proofs.Common.{◌≡◌, refl, sym, ap, ◌∙◌, subst, Bool, true, false, ◌&&◌, suc, List, [], ◌∷◌, length, map, Option, Some, option_map}
use Rattle.ess_semantics.specs.declared.words.Op2.{Op2}
use Rattle.ess_semantics.specs.Lists.{and_then, all_some}
use Rattle.ess_semantics.specs.Values.{Value, truth, items_of}
use Rattle.ess_semantics.specs.Names.{look}
use Rattle.ess_semantics.specs.Trees.{Op, binary, Ex, Exs, number_ex, truth_ex, name_ex, node_ex, matrix_ex, comp_ex, cell_ex, seen_ex, no_exs, more_exs, Gens, no_gens, over, from, cond, Dom, Doms, bool_dom, int_dom, name_dom, tuple_dom, record_dom, matrix_dom, set_dom, mset_dom, function_dom, relation_dom, partition_dom, no_doms, more_doms}
use Rattle.ess_semantics.specs.Operators.{as_truth, implies, on_two, value_of_node, false_where_undefined, list_value}
use Rattle.ess_semantics.specs.Domains.{integers, tuples, records, matrices, sets, msets, functions, relations, partitions, more_domains}
use Rattle.ess_semantics.specs.Meaning.{Env, with_pat, collect, where_true, meaning, meanings, items_under, domain_of, domains_of, members_in, spans_of, attributes_of, matrix_value, seen_in, cell_in, indices, tables_in, is_bool_dom}
use Rattle.ess_semantics.specs.Contexts.{guards, EachOf, EachIn}
use Rattle.ess_semantics.specs.Meets.{Meets, MeetsAll, MeetsGens, MeetsDom, MeetsDoms, tidy_in}
use Rattle.ess_rules_laws.specs.Rules.{IsTruth}
use Rattle.ess_rules_laws.proofs.Bindings.{collect-each-of, collect-each-in, where-true-same, each-of-map, each-in-map, each-of-join, each-in-join}
use Rattle.ess_simplify_laws.specs.Simplifying.{simplified, all_simplified, gens_simplified, dom_simplified, doms_simplified}
use Rattle.ess_simplify_laws.specs.SimplerRoots.{AreTruths}
use Rattle.ess_simplify_laws.specs.TruthsThere.{HasTruths, HaveTruths, GensHaveTruths, DomHasTruths, DomsHaveTruths, SimplifyingKeeps}
use Rattle.ess_simplify_laws.proofs.RootMeanings.{told}
use Rattle.ess_simplify_laws.proofs.WholeNodes.{Follows, node-follows}

-- ---- operands behind a guard

-- The same values, or as many of which those behind a first one that isn't true don't count.
abbrev Same : Bool → List (Option Value) → List (Option Value) → Type 0
Same false os ps = os ≡ ps
Same true [] [] = Unit {0}
Same true (o ∷ os) (p ∷ ps) = (o ≡ p) × (length os ≡ length ps) × (as_truth o ≡ true → os ≡ ps)
Same true os ps = ⊥

and-idle : (os ps : List (Option Value)) → length os ≡ length ps → on_two ◌&&◌ (false ∷ map as_truth os)
    ≡ on_two ◌&&◌ (false ∷ map as_truth ps)
and-idle [] [] h = refl
and-idle [] (p ∷ ps) h = cc
and-idle (o ∷ os) [] h = cc
and-idle (o ∷ []) (p ∷ []) h = refl
and-idle (o ∷ []) (p ∷ q ∷ ps) h = cc
and-idle (o ∷ n ∷ os) (p ∷ []) h = cc
and-idle (o ∷ n ∷ os) (p ∷ q ∷ ps) h = refl

implies-idle : (os ps : List (Option Value)) → length os ≡ length ps → on_two implies (false ∷ map as_truth os)
    ≡ on_two implies (false ∷ map as_truth ps)
implies-idle [] [] h = refl
implies-idle [] (p ∷ ps) h = cc
implies-idle (o ∷ os) [] h = cc
implies-idle (o ∷ []) (p ∷ []) h = refl
implies-idle (o ∷ []) (p ∷ q ∷ ps) h = cc
implies-idle (o ∷ n ∷ os) (p ∷ []) h = cc
implies-idle (o ∷ n ∷ os) (p ∷ q ∷ ps) h = refl

guarded : (f : Bool → Bool → Bool)
    → ((os ps : List (Option Value)) → length os ≡ length ps → on_two f (false ∷ map as_truth os) ≡ on_two f (false ∷ map as_truth ps))
    → (os ps : List (Option Value)) → Same true os ps → Some (truth (on_two f (map as_truth os)))
    ≡ Some (truth (on_two f (map as_truth ps)))
guarded f idle [] [] h = refl
guarded f idle [] (p ∷ ps) h = elim h [ ]
guarded f idle (o ∷ os) [] h = elim h [ ]
guarded f idle (o ∷ os) (p ∷ ps) h = go (as_truth o) refl
  where
    go : (v : Bool) → as_truth o ≡ v → Some (truth (on_two f (map as_truth (o ∷ os)))) ≡ Some (truth (on_two f (map as_truth (p ∷ ps))))
    go true e = ap (λ x. Some (truth (on_two f (map as_truth (x ∷ os))))) h.0
        ∙ ap (λ l. Some (truth (on_two f (map as_truth (p ∷ l))))) (h.2 e)
    go false e = told _ _
        (ap (λ x. on_two f (x ∷ map as_truth os)) e ∙ idle os ps h.1 ∙ ap (λ x. on_two f (x ∷ map as_truth ps)) (sym e ∙ ap as_truth h.0))

value-same : (op : Op) (os ps : List (Option Value)) → Same (guards op) os ps → value_of_node op os ≡ value_of_node op ps
value-same (binary Op2.And) os ps h = guarded ◌&&◌ and-idle os ps h
value-same (binary Op2.Implies) os ps h = guarded implies implies-idle os ps h
value-same op os ps h = ap (value_of_node op) h

many : (es : Exs) (env : Env) → length (meanings es env) ≡ length (meanings (all_simplified es) env)
many no_exs env = refl
many (more_exs e es) env = ap suc (many es env)

bool-same : (d : Dom) → is_bool_dom d ≡ is_bool_dom (dom_simplified d)
bool-same bool_dom = refl
bool-same (int_dom rs es) = refl
bool-same (name_dom a) = refl
bool-same (tuple_dom ds) = refl
bool-same (record_dom fs ds) = refl
bool-same (matrix_dom is d) = refl
bool-same (set_dom ms es d) = refl
bool-same (mset_dom ms es d) = refl
bool-same (function_dom ms es d c) = refl
bool-same (relation_dom ms es ds) = refl
bool-same (partition_dom ms es d) = refl

-- ---- trees

-- What operands keep.
abbrev AllFollow : Bool → Exs → Env → Type 0
AllFollow g es env =
    Same g (meanings es env) (meanings (all_simplified es) env) × MeetsAll g (all_simplified es) env × HaveTruths g (all_simplified es) env
    × (AreTruths g es env → AreTruths g (all_simplified es) env)

-- What a domain keeps.
abbrev DomFollows : Dom → Env → Type 0
DomFollows d env = (domain_of d env ≡ domain_of (dom_simplified d) env) × MeetsDom (dom_simplified d) env × DomHasTruths
    (dom_simplified d) env

abbrev DomsFollow : Doms → Env → Type 0
DomsFollow ds env = (domains_of ds env ≡ domains_of (doms_simplified ds) env) × MeetsDoms (doms_simplified ds) env × DomsHaveTruths
    (doms_simplified ds) env

-- What generators keep, with the body e at their bindings.
abbrev GensFollow : Gens → Env → Ex → Type 0
GensFollow gs env e =
    (items_under gs env (λ here. option_map (λ v. v ∷ []) (meaning e here))
    ≡ items_under (gens_simplified gs) env (λ here. option_map (λ v. v ∷ []) (meaning (simplified e) here)))
    × MeetsGens (gens_simplified gs) env (λ here. Meets (simplified e) here)
    × GensHaveTruths (gens_simplified gs) env (λ here. HasTruths (simplified e) here)

mutual
  pub follows : (e : Ex) (env : Env) → HasTruths e env → Meets e env → Follows e (simplified e) env
  follows (number_ex n) env h m = (refl, tt, tt)
  follows (truth_ex v) env h m = (refl, tt, tt)
  follows (name_ex a) env h m = (refl, tt, tt)
  follows (node_ex b op es) env h m =
      let r = all-follow (guards op) es env h.1 m in
      let s = node-follows b op (all_simplified es) env ((λ e. r.3 (h.0 e)), r.2) r.1 in
      (ap (false_where_undefined b) (value-same op (meanings es env) (meanings (all_simplified es) env) r.0) ∙ s.0, s.1, s.2)
  follows (matrix_ex es d) env h m =
      let r = all-follow false es env h.0 m.0 in
      let s = dom-follows d env h.1 m.1 in (
        ap (λ x. and_then (all_some x) (matrix_value (members_in (domain_of d env)))) r.0
            ∙ ap (λ x. and_then (all_some (meanings (all_simplified es) env)) (matrix_value (members_in x))) s.0,
        (r.1, s.1),
        (r.2, s.2),
      )
  follows (comp_ex e gs) env h m =
      let r = gens-follow gs env e (λ here t q. follows e here t q) h m in
      (ap (option_map list_value) r.0, r.1, r.2)
  follows (cell_ex b n es) env h m =
      let r = all-follow false es env h m in
      (ap (λ x. false_where_undefined b (cell_in b (look env.cells n) (indices x))) r.0, r.1, r.2)
  follows (seen_ex r d ns es) env h m =
      let s = dom-follows d env h.0 m.1 in
      let u = all-follow false es env h.1 m.2 in (
        ap (λ q. false_where_undefined q (seen_in r (domain_of d env) (tables_in env.cells ns) (indices (meanings es env)))) (bool-same d)
            ∙ ap (λ x. false_where_undefined (is_bool_dom (dom_simplified d))
            (seen_in r x (tables_in env.cells ns) (indices (meanings es env)))) s.0
            ∙ ap (λ x. false_where_undefined (is_bool_dom (dom_simplified d))
            (seen_in r (domain_of (dom_simplified d) env) (tables_in env.cells ns) (indices x))) u.0,
        (
          ap (λ x. tidy_in r (domain_of (dom_simplified d) env) (tables_in env.cells ns) (indices x)) (sym u.0)
              ∙ ap (λ x. tidy_in r x (tables_in env.cells ns) (indices (meanings es env))) (sym s.0) ∙ m.0,
          s.1,
          u.1,
        ),
        (s.2, u.2),
      )

  all-follow : (g : Bool) (es : Exs) (env : Env) → HaveTruths g es env → MeetsAll g es env → AllFollow g es env
  all-follow true no_exs env h m = (tt, tt, tt, (λ t. tt))
  all-follow false no_exs env h m = (refl, tt, tt, (λ t. tt))
  all-follow true (more_exs e es) env h m =
      let r = follows e env h.0 m.0 in (
        (r.0, many es env, (λ t. (all-follow false es env (h.1 t) (m.1 t)).0)),
        (r.1, (λ t. let u = ap as_truth r.0 ∙ t in (all-follow false es env (h.1 u) (m.1 u)).1)),
        (r.2, (λ t. let u = ap as_truth r.0 ∙ t in (all-follow false es env (h.1 u) (m.1 u)).2)),
        (λ t. (subst IsTruth r.0 t.0, (λ k. let u = ap as_truth r.0 ∙ k in (all-follow false es env (h.1 u) (m.1 u)).3 (t.1 u)))),
      )
  all-follow false (more_exs e es) env h m =
      let r = follows e env h.0 m.0 in
      let s = all-follow false es env h.1 m.1 in (
        ap (λ x. x ∷ meanings es env) r.0 ∙ ap (λ l. meaning (simplified e) env ∷ l) s.0,
        (r.1, s.1),
        (r.2, s.2),
        (λ t. (subst IsTruth r.0 t.0, s.3 t.1)),
      )

  gens-follow : (gs : Gens) (env : Env) (x : Ex) → ((here : Env) → HasTruths x here → Meets x here → Follows x (simplified x) here)
      → GensHaveTruths gs env (λ here. HasTruths x here) → MeetsGens gs env (λ here. Meets x here) → GensFollow gs env x
  gens-follow no_gens env x body h m = let s = body env h m in (ap (option_map (λ v. v ∷ [])) s.0, s.1, s.2)
  gens-follow (over p d gs) env x body h m =
      let r = dom-follows d env h.0 m.0 in
      let each = each-of-join (members_in (domain_of d env)) _ _ (λ v. GensFollow gs (with_pat p v env) x)
      (λ v t q. gens-follow gs (with_pat p v env) x body t q) h.1 m.1 in (
        collect-each-of (members_in (domain_of d env)) _ _
            (each-of-map (members_in (domain_of d env)) (λ v. GensFollow gs (with_pat p v env) x) _ (λ v s. s.0) each)
            ∙ ap (λ y. and_then (members_in y) (λ vs. collect vs (λ v. items_under (gens_simplified gs) (with_pat p v env)
            (λ here. option_map (λ v. v ∷ []) (meaning (simplified x) here))))) r.0,
        (
          r.1,
          subst (λ y. EachOf (members_in y)
              (λ v. MeetsGens (gens_simplified gs) (with_pat p v env) (λ here. Meets (simplified x) here))) r.0
              (each-of-map (members_in (domain_of d env)) (λ v. GensFollow gs (with_pat p v env) x) _ (λ v s. s.1) each),
        ),
        (
          r.2,
          subst (λ y. EachOf (members_in y)
              (λ v. GensHaveTruths (gens_simplified gs) (with_pat p v env) (λ here. HasTruths (simplified x) here))) r.0
              (each-of-map (members_in (domain_of d env)) (λ v. GensFollow gs (with_pat p v env) x) _ (λ v s. s.2) each),
        ),
      )
  gens-follow (from p e gs) env x body h m =
      let r = follows e env h.0 m.0 in
      let each = each-in-join (meaning e env) _ _ (λ v. GensFollow gs (with_pat p v env) x)
      (λ v t q. gens-follow gs (with_pat p v env) x body t q) h.1 m.1 in (
        collect-each-in (meaning e env) _ _ (each-in-map (meaning e env) (λ v. GensFollow gs (with_pat p v env) x) _ (λ v s. s.0) each)
            ∙ ap (λ y. and_then y (λ s. collect (items_of s) (λ v. items_under (gens_simplified gs) (with_pat p v env)
            (λ here. option_map (λ v. v ∷ []) (meaning (simplified x) here))))) r.0,
        (
          r.1,
          subst (λ y. EachIn y (λ v. MeetsGens (gens_simplified gs) (with_pat p v env) (λ here. Meets (simplified x) here))) r.0
              (each-in-map (meaning e env) (λ v. GensFollow gs (with_pat p v env) x) _ (λ v s. s.1) each),
        ),
        (
          r.2,
          subst (λ y. EachIn y (λ v. GensHaveTruths (gens_simplified gs) (with_pat p v env) (λ here. HasTruths (simplified x) here))) r.0
              (each-in-map (meaning e env) (λ v. GensFollow gs (with_pat p v env) x) _ (λ v s. s.2) each),
        ),
      )
  gens-follow (cond e gs) env x body h m =
      let r = follows e env h.0 m.0 in (
        where-true-same (meaning e env) _ _ (λ t. (gens-follow gs env x body (h.1 t) (m.1 t)).0)
            ∙ ap (λ y. where_true y
            (λ u. items_under (gens_simplified gs) env (λ here. option_map (λ v. v ∷ []) (meaning (simplified x) here)))) r.0,
        (r.1, (λ t. let u = ap as_truth r.0 ∙ t in (gens-follow gs env x body (h.1 u) (m.1 u)).1)),
        (r.2, (λ t. let u = ap as_truth r.0 ∙ t in (gens-follow gs env x body (h.1 u) (m.1 u)).2)),
      )

  dom-follows : (d : Dom) (env : Env) → DomHasTruths d env → MeetsDom d env → DomFollows d env
  dom-follows bool_dom env h m = (refl, tt, tt)
  dom-follows (int_dom rs es) env h m =
      let r = all-follow false es env h m in (ap (λ x. option_map integers (spans_of rs x)) r.0, r.1, r.2)
  dom-follows (name_dom a) env h m = (refl, tt, tt)
  dom-follows (tuple_dom ds) env h m = let r = doms-follow ds env h m in (ap (option_map tuples) r.0, r.1, r.2)
  dom-follows (record_dom fs ds) env h m = let r = doms-follow ds env h m in (ap (option_map (records fs)) r.0, r.1, r.2)
  dom-follows (matrix_dom is d) env h m =
      let r = doms-follow is env h.0 m.0 in
      let s = dom-follows d env h.1 m.1 in (
        ap (λ x. and_then x (λ js. option_map (matrices js) (domain_of d env))) r.0
            ∙ ap (λ x. and_then (domains_of (doms_simplified is) env) (λ js. option_map (matrices js) x)) s.0,
        (r.1, s.1),
        (r.2, s.2),
      )
  dom-follows (set_dom ms es d) env h m =
      let r = all-follow false es env h.0 m.0 in
      let s = dom-follows d env h.1 m.1 in (
        ap (λ x. and_then (attributes_of ms x) (λ ks. option_map (sets ks) (domain_of d env))) r.0
            ∙ ap (λ x. and_then (attributes_of ms (meanings (all_simplified es) env)) (λ ks. option_map (sets ks) x)) s.0,
        (r.1, s.1),
        (r.2, s.2),
      )
  dom-follows (mset_dom ms es d) env h m =
      let r = all-follow false es env h.0 m.0 in
      let s = dom-follows d env h.1 m.1 in (
        ap (λ x. and_then (attributes_of ms x) (λ ks. option_map (msets ks) (domain_of d env))) r.0
            ∙ ap (λ x. and_then (attributes_of ms (meanings (all_simplified es) env)) (λ ks. option_map (msets ks) x)) s.0,
        (r.1, s.1),
        (r.2, s.2),
      )
  dom-follows (function_dom ms es d c) env h m =
      let r = all-follow false es env h.0 m.0 in
      let s = dom-follows d env h.1 m.1 in
      let u = dom-follows c env h.2 m.2 in (
        ap (λ y. and_then (attributes_of ms y) (λ ks. and_then (domain_of d env) (λ x. option_map (functions ks x) (domain_of c env)))) r.0
            ∙ ap (λ y. and_then (attributes_of ms (meanings (all_simplified es) env))
            (λ ks. and_then y (λ x. option_map (functions ks x) (domain_of c env)))) s.0
            ∙ ap (λ y. and_then (attributes_of ms (meanings (all_simplified es) env))
            (λ ks. and_then (domain_of (dom_simplified d) env) (λ x. option_map (functions ks x) y))) u.0,
        (r.1, s.1, u.1),
        (r.2, s.2, u.2),
      )
  dom-follows (relation_dom ms es ds) env h m =
      let r = all-follow false es env h.0 m.0 in
      let s = doms-follow ds env h.1 m.1 in (
        ap (λ x. and_then (attributes_of ms x) (λ ks. option_map (relations ks) (domains_of ds env))) r.0
            ∙ ap (λ x. and_then (attributes_of ms (meanings (all_simplified es) env)) (λ ks. option_map (relations ks) x)) s.0,
        (r.1, s.1),
        (r.2, s.2),
      )
  dom-follows (partition_dom ms es d) env h m =
      let r = all-follow false es env h.0 m.0 in
      let s = dom-follows d env h.1 m.1 in (
        ap (λ x. and_then (attributes_of ms x) (λ ks. option_map (partitions ks) (domain_of d env))) r.0
            ∙ ap (λ x. and_then (attributes_of ms (meanings (all_simplified es) env)) (λ ks. option_map (partitions ks) x)) s.0,
        (r.1, s.1),
        (r.2, s.2),
      )

  doms-follow : (ds : Doms) (env : Env) → DomsHaveTruths ds env → MeetsDoms ds env → DomsFollow ds env
  doms-follow no_doms env h m = (refl, tt, tt)
  doms-follow (more_doms d ds) env h m =
      let r = dom-follows d env h.0 m.0 in
      let s = doms-follow ds env h.1 m.1 in (
        ap (λ o. and_then o (λ x. option_map (more_domains x) (domains_of ds env))) r.0
            ∙ ap (λ o. and_then (domain_of (dom_simplified d) env) (λ x. option_map (more_domains x) o)) s.0,
        (r.1, s.1),
        (r.2, s.2),
      )

-- The simplified tree keeps the tree.
pub simplifying-keeps : SimplifyingKeeps
simplifying-keeps e env h m = let r = follows e env h m in (r.0, r.1)
