-- Each condition is a truth value, in every env.
use Rattle.std.proofs.Common.{◌≡◌, refl, Bool, true, false, ◌||◌, if◌then◌else◌, List, [], ◌∷◌, ◌++◌, Option, Some, None}
use Rattle.ess_semantics.specs.declared.words.Op2.{Op2}
use Rattle.ess_semantics.specs.declared.words.Fun.{Fun}
use Rattle.ess_semantics.specs.Values.{Text, truth}
use Rattle.ess_semantics.specs.Names.{Names}
use Rattle.ess_semantics.specs.Constants.{operand_count}
use Rattle.ess_semantics.specs.Trees.{Step, by_value, to_component, to_field, Op, binary, word, index, tuple_literal, function_literal, partition_literal, both_ends, Ex, Exs, number_ex, truth_ex, name_ex, node_ex, matrix_ex, comp_ex, cell_ex, seen_ex, no_exs, more_exs, Gens, no_gens, over, from, cond, Dom, Doms, bool_dom, int_dom, name_dom, tuple_dom, record_dom, matrix_dom, set_dom, mset_dom, function_dom, relation_dom, partition_dom, no_doms, more_doms}
use Rattle.ess_semantics.specs.Operators.{as_truth}
use Rattle.ess_semantics.specs.Meaning.{Env, meaning}
use Rattle.ess_guard_laws.specs.Origins.{Origin, is_sure, with_any, with_over, known_behind}
use Rattle.ess_guard_laws.specs.IndexDomains.{index_dom}
use Rattle.ess_guard_laws.specs.Conditions.{unless, is_not_zero, is_above_zero, has_items, has_item, some_item, is_argument, agree, have_other_arguments, agree_all, function_conditions, have_members, are_disjoint, is_single_set, has_size, matrix_conditions, in_dom, at_step, index_conditions, path_conditions, all_of, every, given_that, own}
use Rattle.ess_guard_laws.specs.Guard.{connects, guarded, guarded_all, guarded_dom, conditions, conditions_all, conditions_gens, conditions_dom, conditions_doms}

-- The expression is true or false.
abbrev pub IsTruth : Ex → Env → Type 0
IsTruth c env = meaning c env ≡ Some (truth (as_truth (meaning c env)))

-- Each one is.
abbrev pub AreTruths : List Ex → Env → Type 0
AreTruths [] env = Unit {0}
AreTruths (c ∷ cs) env = IsTruth c env × AreTruths cs env

both-truths : (cs ds : List Ex) (env : Env) → AreTruths cs env → AreTruths ds env → AreTruths (cs ++ ds) env
both-truths [] ds env p q = q
both-truths (c ∷ cs) ds env p q = (p.0, both-truths cs ds env p.1 q)

unless-truth : (t : Bool) (c : Ex) (env : Env) → IsTruth c env → AreTruths (unless t c) env
unless-truth true c env p = tt
unless-truth false c env p = (p, tt)

choose-truths : (t : Bool) (cs : List Ex) (env : Env) → AreTruths cs env → AreTruths (if t then [] else cs) env
choose-truths true cs env p = tt
choose-truths false cs env p = p

-- That all hold is true or false.
pub all-truth : (cs : List Ex) (env : Env) → AreTruths cs env → IsTruth (all_of cs) env
all-truth [] env p = refl
all-truth (c ∷ []) env p = p.0
all-truth (c ∷ d ∷ cs) env p = refl

every-truths : (g : Gens) (cs : List Ex) (env : Env) → AreTruths (every g cs) env
every-truths g [] env = tt
every-truths g (c ∷ cs) env = (refl, tt)

given-truths : (b : Ex) (cs : List Ex) (env : Env) → AreTruths (given_that b cs) env
given-truths b [] env = tt
given-truths b (c ∷ cs) env = (refl, tt)

-- ---- rows

has-item-truth : (x : Text) (s : Ex) (env : Env) → IsTruth (has_item x s) env
has-item-truth x (comp_ex e gs) env = refl
has-item-truth x (number_ex n) env = refl
has-item-truth x (truth_ex b) env = refl
has-item-truth x (name_ex a) env = refl
has-item-truth x (node_ex b op es) env = refl
has-item-truth x (matrix_ex es d) env = refl
has-item-truth x (cell_ex b n es) env = refl
has-item-truth x (seen_ex r d ns es) env = refl

some-item-truths : (x : Text) (s : Ex) (env : Env) → AreTruths (some_item x s) env
some-item-truths x s env = unless-truth (has_items s) (has_item x s) env (has-item-truth x s env)

agree-truth : (p q : Ex) (env : Env) → IsTruth (agree p q) env
agree-truth (node_ex false tuple_literal (more_exs a (more_exs b no_exs)))
    (node_ex false tuple_literal (more_exs c (more_exs d no_exs))) env = refl
agree-truth p q env = refl

agree-all-truths : (p : Ex) (qs : Exs) (env : Env) → AreTruths (agree_all p qs) env
agree-all-truths p no_exs env = tt
agree-all-truths p (more_exs q qs) env =
    both-truths (unless (have_other_arguments p q) (agree p q)) (agree_all p qs) env
    (unless-truth (have_other_arguments p q) (agree p q) env (agree-truth p q env)) (agree-all-truths p qs env)

function-truths : (ps : Exs) (env : Env) → AreTruths (function_conditions ps) env
function-truths no_exs env = tt
function-truths (more_exs p ps) env = both-truths (agree_all p ps) (function_conditions ps) env (agree-all-truths p ps env)
    (function-truths ps env)

members-truths : (x : Text) (es : Exs) (env : Env) → AreTruths (have_members x es) env
members-truths x no_exs env = tt
members-truths x (more_exs e es) env = both-truths (some_item x e) (have_members x es) env (some-item-truths x e env)
    (members-truths x es env)

in-dom-truth : (x : Text) (i : Ex) (d : Dom) (env : Env) → IsTruth (in_dom x i d) env
in-dom-truth x i (int_dom (both_ends ∷ []) (more_exs a (more_exs b no_exs))) env = refl
in-dom-truth x i d env = refl

one-index-truths : (k : Names Origin) (x : Text) (o : Option Dom) (m i : Ex) (env : Env) → AreTruths (index_conditions k x o m i) env
one-index-truths k x (Some d) m i env = unless-truth (is_sure k i d) (in_dom x i d) env (in-dom-truth x i d env)
one-index-truths k x None m i env = (refl, tt)

path-truths : (k : Names Origin) (x : Text) (m : Ex) (qs : List Step) (is : Exs) (env : Env) → AreTruths (path_conditions k x m qs is) env
path-truths k x m [] is env = tt
path-truths k x m (by_value ∷ qs) no_exs env = tt
path-truths k x m (by_value ∷ qs) (more_exs i is) env =
    both-truths (index_conditions k x (index_dom m) m i) _ env (one-index-truths k x (index_dom m) m i env)
    (path-truths k x (at_step by_value m (more_exs i no_exs)) qs is env)
path-truths k x m (to_component c ∷ qs) is env = path-truths k x (at_step (to_component c) m no_exs) qs is env
path-truths k x m (to_field a ∷ qs) is env = path-truths k x (at_step (to_field a) m no_exs) qs is env

own-truths : (k : Names Origin) (x y : Text) (op : Op) (es : Exs) (env : Env) → AreTruths (own k x y op es) env
own-truths k x y (binary Op2.Div) (more_exs a (more_exs b no_exs)) env = unless-truth (is_not_zero b) _ env refl
own-truths k x y (binary Op2.Mod) (more_exs a (more_exs b no_exs)) env = unless-truth (is_not_zero b) _ env refl
own-truths k x y (binary Op2.Pow) (more_exs a (more_exs b no_exs)) env = choose-truths (is_above_zero b) _ env
    (refl, unless-truth (is_not_zero a) _ env refl)
own-truths k x y (word Fun.Min) (more_exs s no_exs) env = some-item-truths x s env
own-truths k x y (word Fun.Max) (more_exs s no_exs) env = some-item-truths x s env
own-truths k x y (word Fun.Image) (more_exs f (more_exs a no_exs)) env = unless-truth (is_argument k f a) _ env refl
own-truths k x y (word Fun.Party) (more_exs a (more_exs p no_exs)) env = (refl, tt)
own-truths k x y function_literal es env = function-truths es env
own-truths k x y partition_literal es env = both-truths (have_members x es) _ env (members-truths x es env)
    (unless-truth (is_single_set es) (are_disjoint x y es) env refl)
own-truths k x y (index qs) (more_exs m is) env = path-truths k x m qs is env
own-truths k x y op es env = tt

matrix-truths : (x : Text) (es : Exs) (d : Dom) (env : Env) → AreTruths (matrix_conditions x es d) env
matrix-truths x es d env = unless-truth (has_size d (operand_count es)) _ env refl

-- ---- terms

module _ (x y : Text) where
  mutual
    -- The conditions of a term are true or false.
    pub term-truths : (e : Ex) (k : Names Origin) (env : Env) → AreTruths (conditions false x y k false e) env
    term-truths (number_ex n) k env = tt
    term-truths (truth_ex b) k env = tt
    term-truths (name_ex a) k env = tt
    term-truths (node_ex b op es) k env = choose-truths (b || connects op) _ env
        (both-truths (conditions_all false x y k false es) _ env (all-truths es k env)
        (own-truths k x y op (guarded_all false x y k es) env))
    term-truths (matrix_ex es d) k env = both-truths (conditions_all false x y k false es) _ env (all-truths es k env)
        (both-truths (conditions_dom false x y k d) _ env (dom-truths d k env) (matrix-truths x es (guarded_dom false x y k d) env))
    term-truths (comp_ex e gs) k env = gens-truths gs k (conditions false x y (known_behind gs k) false e) env
        (term-truths e (known_behind gs k) env)
    term-truths (cell_ex true n es) k env = tt
    term-truths (cell_ex false n es) k env = all-truths es k env
    term-truths (seen_ex r d ns es) k env = tt

    all-truths : (es : Exs) (k : Names Origin) (env : Env) → AreTruths (conditions_all false x y k false es) env
    all-truths no_exs k env = tt
    all-truths (more_exs e es) k env = both-truths (conditions false x y k false e) (conditions_all false x y k false es) env
        (term-truths e k env) (all-truths es k env)

    gens-truths : (gs : Gens) (k : Names Origin) (cs : List Ex) (env : Env) → AreTruths cs env →
        AreTruths (conditions_gens false x y k gs cs) env
    gens-truths no_gens k cs env p = p
    gens-truths (over p d gs) k cs env q = both-truths (conditions_dom false x y k d) _ env (dom-truths d k env)
        (every-truths (over p (guarded_dom false x y k d) no_gens) (conditions_gens false x y (with_over p d k) gs cs) env)
    gens-truths (from p e gs) k cs env q = both-truths (conditions false x y k false e) _ env (term-truths e k env)
        (every-truths (from p (guarded false x y k e) no_gens) (conditions_gens false x y (with_any p k) gs cs) env)
    gens-truths (cond c gs) k cs env q = given-truths (guarded false x y k c) (conditions_gens false x y k gs cs) env

    dom-truths : (d : Dom) (k : Names Origin) (env : Env) → AreTruths (conditions_dom false x y k d) env
    dom-truths bool_dom k env = tt
    dom-truths (int_dom rs es) k env = all-truths es k env
    dom-truths (name_dom a) k env = tt
    dom-truths (tuple_dom ds) k env = doms-truths ds k env
    dom-truths (record_dom fs ds) k env = doms-truths ds k env
    dom-truths (matrix_dom is d) k env = both-truths (conditions_doms false x y k is) _ env (doms-truths is k env) (dom-truths d k env)
    dom-truths (set_dom ms es d) k env = both-truths (conditions_all false x y k false es) _ env (all-truths es k env) (dom-truths d k env)
    dom-truths (mset_dom ms es d) k env = both-truths (conditions_all false x y k false es) _ env (all-truths es k env) (dom-truths d k env)
    dom-truths (function_dom ms es d c) k env = both-truths (conditions_all false x y k false es) _ env (all-truths es k env)
        (both-truths (conditions_dom false x y k d) _ env (dom-truths d k env) (dom-truths c k env))
    dom-truths (relation_dom ms es ds) k env = both-truths (conditions_all false x y k false es) _ env (all-truths es k env)
        (doms-truths ds k env)
    dom-truths (partition_dom ms es d) k env = both-truths (conditions_all false x y k false es) _ env (all-truths es k env)
        (dom-truths d k env)

    doms-truths : (ds : Doms) (k : Names Origin) (env : Env) → AreTruths (conditions_doms false x y k ds) env
    doms-truths no_doms k env = tt
    doms-truths (more_doms d ds) k env = both-truths (conditions_dom false x y k d) _ env (dom-truths d k env) (doms-truths ds k env)
