-- Tables that meet the structures of operands meet those of an operator's own conditions.
use Rattle.std.proofs.Common.{◌≡◌, refl, Bool, true, false, if◌then◌else◌, List, [], ◌∷◌, ◌++◌, pos, Option, Some, None}
use Rattle.ess_semantics.specs.declared.words.Op2.{Op2}
use Rattle.ess_semantics.specs.declared.words.Fun.{Fun}
use Rattle.ess_semantics.specs.Values.{Text, Value, items_of}
use Rattle.ess_semantics.specs.Names.{Names}
use Rattle.ess_semantics.specs.Trees.{Step, by_value, to_component, to_field, Op, binary, word, index, tuple_literal, matrix_literal, function_literal, partition_literal, both_ends, name_pat, Pat, Ex, Exs, number_ex, truth_ex, name_ex, node_ex, matrix_ex, comp_ex, cell_ex, seen_ex, no_exs, more_exs, Gens, no_gens, over, from, cond, Dom, bool_dom, int_dom, name_dom, matrix_dom, more_doms, ex2, fun1}
use Rattle.ess_semantics.specs.Operators.{as_truth}
use Rattle.ess_semantics.specs.Meaning.{Env, meaning, domain_of, members_in, with_pat}
use Rattle.ess_semantics.specs.Contexts.{Each, EachOf, EachIn, Guarded, guards}
use Rattle.ess_semantics.specs.Meets.{Meets, MeetsAll, MeetsGens, MeetsDom}
use Rattle.ess_semantics.specs.Constants.{operand_count}
use Rattle.ess_rules_laws.proofs.Bindings.{each-of-map, each-in-map}
use Rattle.ess_guard_laws.specs.Origins.{Origin, is_number, is_sure}
use Rattle.ess_guard_laws.specs.IndexDomains.{item_dom, dom_behind, dom_followed, first_index, are_plain_bounds, plain_axis, index_dom}
use Rattle.ess_guard_laws.specs.Conditions.{conds, chained, all_of, every, given_that, unless, nil_ex, as_number, is_not_zero, is_above_zero, power_conditions, has_items, has_item, some_item, is_argument, agree, have_other_arguments, agree_all, function_conditions, have_members, are_disjoint, is_single_set, partition_conditions, has_size, matrix_conditions, members_of, in_dom, at_step, index_conditions, path_conditions, own}

-- ---- conditions

-- Tables meet the structures of each condition.
abbrev pub Met : List Ex → Env → Type 0
Met [] env = Unit {0}
Met (c ∷ cs) env = Meets c env × Met cs env

-- Both lists are met.
pub met-append : (cs ds : List Ex) (env : Env) → Met cs env → Met ds env → Met (cs ++ ds) env
met-append [] ds env p q = q
met-append (c ∷ cs) ds env p q = (p.0, met-append cs ds env p.1 q)

-- A condition that is asked, or none.
pub met-unless : (t : Bool) (c : Ex) (env : Env) → Meets c env → Met (unless t c) env
met-unless true c env m = tt
met-unless false c env m = (m, tt)

-- Conditions that are asked, or none.
pub met-choose : (t : Bool) (cs : List Ex) (env : Env) → (t ≡ false → Met cs env) → Met (if t then [] else cs) env
met-choose true cs env m = tt
met-choose false cs env m = m refl

-- ---- operators

guarded-always : (g : Bool) (o : Option Value) (P : Type 0) → P → Guarded g o P
guarded-always true o P p = λ t. p
guarded-always false o P p = p

-- An operator on one operand, on two.
pub one-met : (b : Bool) (op : Op) (a : Ex) (env : Env) → Meets a env → Meets (node_ex b op (more_exs a no_exs)) env
one-met b op a env m = (m, guarded-always (guards op) (meaning a env) (Unit {0}) tt)

-- An operator on two operands.
pub two-met : (b : Bool) (op : Op) (a c : Ex) (env : Env) → Meets a env → Meets c env → Meets (node_ex b op (more_exs a (more_exs c no_exs))) env
two-met b op a c env m l = (m, guarded-always (guards op) (meaning a env) (Meets c env × Unit {0}) (l, tt))

each-always : (xs : List Value) (P : Value → Type 0) → ((v : Value) → P v) → Each xs P
each-always [] P f = tt
each-always (v ∷ vs) P f = (f v, each-always vs P f)

-- What always holds.
pub each-of-always : (o : Option (List Value)) (P : Value → Type 0) → ((v : Value) → P v) → EachOf o P
each-of-always None P f = tt
each-of-always (Some vs) P f = each-always vs P f

-- What always holds, of a value's items.
pub each-in-always : (o : Option Value) (P : Value → Type 0) → ((v : Value) → P v) → EachIn o P
each-in-always None P f = tt
each-in-always (Some s) P f = each-always (items_of s) P f

-- What follows at each binding.
pub gens-map : (gs : Gens) (env : Env) (P Q : Env → Type 0) → ((h : Env) → P h → Q h) → MeetsGens gs env P → MeetsGens gs env Q
gens-map no_gens env P Q f m = f env m
gens-map (over p d gs) env P Q f m = (m.0, each-of-map (members_in (domain_of d env)) _ _ (λ v. gens-map gs (with_pat p v env) P Q f) m.1)
gens-map (from p e gs) env P Q f m = (m.0, each-in-map (meaning e env) _ _ (λ v. gens-map gs (with_pat p v env) P Q f) m.1)
gens-map (cond c gs) env P Q f m = (m.0, λ t. gens-map gs env P Q f (m.1 t))

-- ---- Booleans of conditions

-- Conditions as generators.
pub conds-met : (cs : List Ex) (env : Env) (P : Env → Type 0) → Met cs env → P env → MeetsGens (conds cs) env P
conds-met [] env P m p = p
conds-met (c ∷ cs) env P m p = (m.0, λ t. conds-met cs env P m.1 p)

-- A Boolean under conditions.
pub chained-met : (cs : List Ex) (b : Ex) (env : Env) → Met cs env → Meets b env → Meets (chained cs b) env
chained-met [] b env m p = p
chained-met (c ∷ cs) b env m p = (conds-met (c ∷ cs) env (λ here. Meets b here) m p, tt)

-- That all conditions hold.
pub all-of-met : (cs : List Ex) (env : Env) → Met cs env → Meets (all_of cs) env
all-of-met [] env m = tt
all-of-met (c ∷ []) env m = m.0
all-of-met (c ∷ d ∷ cs) env m = chained-met (c ∷ []) (all_of (d ∷ cs)) env (m.0, tt) (all-of-met (d ∷ cs) env m.1)

-- Conditions at each member.
pub over-met : (p : Pat) (d : Dom) (cs : List Ex) (env : Env) → MeetsDom d env → EachOf (members_in (domain_of d env)) (λ v. Met cs (with_pat p v env)) → Met (every (over p d no_gens) cs) env
over-met p d [] env m e = tt
over-met p d (c ∷ cs) env m e = (((m, each-of-map (members_in (domain_of d env)) _ _ (λ v q. all-of-met (c ∷ cs) (with_pat p v env) q) e), tt), tt)

-- Conditions at each item.
pub from-met : (p : Pat) (s : Ex) (cs : List Ex) (env : Env) → Meets s env → EachIn (meaning s env) (λ v. Met cs (with_pat p v env)) → Met (every (from p s no_gens) cs) env
from-met p s [] env m e = tt
from-met p s (c ∷ cs) env m e = (((m, each-in-map (meaning s env) _ _ (λ v q. all-of-met (c ∷ cs) (with_pat p v env) q) e), tt), tt)

-- Conditions behind another one.
pub given-met : (b : Ex) (cs : List Ex) (env : Env) → Meets b env → (as_truth (meaning b env) ≡ true → Met cs env) → Met (given_that b cs) env
given-met b [] env m f = tt
given-met b (c ∷ cs) env m f = ((m, λ t. (all-of-met (c ∷ cs) env (f t), tt)), tt)

-- ---- rows

number-met : (k : Names Origin) (b : Ex) (env : Env) → Meets b env → Meets (as_number k b) env
number-met k b env m = go (is_number k b)
  where
    go : (t : Bool) → Meets (if t then b else ex2 false Op2.Plus b nil_ex) env
    go true = m
    go false = two-met false (binary Op2.Plus) b nil_ex env m tt

ne-met : (k : Names Origin) (b : Ex) (env : Env) → Meets b env → Meets (ex2 true Op2.Ne (as_number k b) nil_ex) env
ne-met k b env m = two-met true (binary Op2.Ne) (as_number k b) nil_ex env (number-met k b env m) tt

power-met : (k : Names Origin) (a b : Ex) (env : Env) → Meets a env → Meets b env → Met (power_conditions k a b) env
power-met k a b env m l = met-choose (is_above_zero b) _ env (λ t. (
  two-met true (binary Op2.Ge) (as_number k b) nil_ex env (number-met k b env l) tt,
  met-unless (is_not_zero a) _ env (two-met true (binary Op2.Or) (ex2 true Op2.Ne (as_number k b) nil_ex) (ex2 true Op2.Ne (as_number k a) nil_ex) env (ne-met k b env l) (ne-met k a env m)),
))

comp-item-met : (e : Ex) (gs : Gens) (env : Env) → Meets (comp_ex e gs) env → Meets (fun1 true Fun.Or (comp_ex (truth_ex true) gs)) env
comp-item-met e gs env m = (gens-map gs env _ _ (λ h q. tt) m, tt)

from-item-met : (x : Text) (s : Ex) (env : Env) → Meets s env → Meets (fun1 true Fun.Or (comp_ex (truth_ex true) (from (name_pat x) s no_gens))) env
from-item-met x s env m = ((m, each-in-always (meaning s env) _ (λ v. tt)), tt)

has-item-met : (x : Text) (s : Ex) (env : Env) → Meets s env → Meets (has_item x s) env
has-item-met x (comp_ex e gs) env m = comp-item-met e gs env m
has-item-met x (number_ex n) env m = from-item-met x (number_ex n) env m
has-item-met x (truth_ex b) env m = from-item-met x (truth_ex b) env m
has-item-met x (name_ex a) env m = from-item-met x (name_ex a) env m
has-item-met x (node_ex b op es) env m = from-item-met x (node_ex b op es) env m
has-item-met x (matrix_ex es d) env m = from-item-met x (matrix_ex es d) env m
has-item-met x (cell_ex b n es) env m = from-item-met x (cell_ex b n es) env m
has-item-met x (seen_ex r d ns es) env m = from-item-met x (seen_ex r d ns es) env m

some-item-met : (x : Text) (s : Ex) (env : Env) → Meets s env → Met (some_item x s) env
some-item-met x s env m = met-unless (has_items s) (has_item x s) env (has-item-met x s env m)

agree-met : (p q : Ex) (env : Env) → Meets p env → Meets q env → Meets (agree p q) env
agree-met (node_ex false tuple_literal (more_exs a (more_exs b no_exs))) (node_ex false tuple_literal (more_exs c (more_exs d no_exs))) env m l =
    two-met true (binary Op2.Implies) (ex2 true Op2.Eq a c) (ex2 true Op2.Eq b d) env (two-met true (binary Op2.Eq) a c env m.0 l.0) (two-met true (binary Op2.Eq) b d env m.1.0 l.1.0)
agree-met p q env m l = tt

agree-all-met : (p : Ex) (qs : Exs) (env : Env) → Meets p env → MeetsAll false qs env → Met (agree_all p qs) env
agree-all-met p no_exs env m l = tt
agree-all-met p (more_exs q qs) env m l =
    met-append (unless (have_other_arguments p q) (agree p q)) (agree_all p qs) env
    (met-unless (have_other_arguments p q) (agree p q) env (agree-met p q env m l.0)) (agree-all-met p qs env m l.1)

function-met : (ps : Exs) (env : Env) → MeetsAll false ps env → Met (function_conditions ps) env
function-met no_exs env m = tt
function-met (more_exs p ps) env m = met-append (agree_all p ps) (function_conditions ps) env (agree-all-met p ps env m.0 m.1) (function-met ps env m.1)

members-met : (x : Text) (ss : Exs) (env : Env) → MeetsAll false ss env → Met (have_members x ss) env
members-met x no_exs env m = tt
members-met x (more_exs s ss) env m = met-append (some_item x s) (have_members x ss) env (some-item-met x s env m.0) (members-met x ss env m.1)

partition-met : (x y : Text) (ss : Exs) (env : Env) → MeetsAll false ss env → Met (partition_conditions x y ss) env
partition-met x y ss env m = met-append (have_members x ss) _ env (members-met x ss env m) (met-unless (is_single_set ss) (are_disjoint x y ss) env
    ((m, each-in-always (meaning (node_ex false matrix_literal ss) env) _ (λ v. (tt, each-in-always _ _ (λ u. tt)))), tt))

over-any-met : (x : Text) (e : Ex) (d : Dom) (env : Env) → MeetsDom d env → ((h : Env) → Meets e h) → Meets (comp_ex e (over (name_pat x) d no_gens)) env
over-any-met x e d env m f = (m, each-of-always (members_in (domain_of d env)) _ (λ v. f (with_pat (name_pat x) v env)))

-- The condition of a matrix literal.
pub matrix-met : (x : Text) (es : Exs) (d : Dom) (env : Env) → MeetsDom d env → Met (matrix_conditions x es d) env
matrix-met x es d env m = met-unless (has_size d (operand_count es)) _ env
    (two-met true (binary Op2.Eq) (fun1 false Fun.Sum (comp_ex (number_ex (pos 1)) (over (name_pat x) d no_gens))) (number_ex (pos (operand_count es))) env (one-met false (word Fun.Sum) (comp_ex (number_ex (pos 1)) (over (name_pat x) d no_gens)) env (over-any-met x (number_ex (pos 1)) d env m (λ h. tt))) tt)

-- ---- indices

in-dom-met : (x : Text) (i : Ex) (d : Dom) (env : Env) → Meets i env → MeetsDom d env → Meets (in_dom x i d) env
in-dom-met x i (int_dom (both_ends ∷ []) (more_exs a (more_exs b no_exs))) env m l =
    two-met true (binary Op2.And) (ex2 true Op2.Le (as_number [] a) i) (ex2 true Op2.Le i (as_number [] b)) env (two-met true (binary Op2.Le) (as_number [] a) i env (number-met [] a env l.0) m) (two-met true (binary Op2.Le) i (as_number [] b) env m (number-met [] b env l.1.0))
in-dom-met x i d env m l = two-met true (binary Op2.Member) i (members_of x d) env m
    (one-met false (word Fun.ToSet) (comp_ex (name_ex x) (over (name_pat x) d no_gens)) env (over-any-met x (name_ex x) d env l (λ h. tt)))

-- What is met of a domain that may be there.
abbrev DomMet : Option Dom → Env → Type 0
DomMet None env = Unit {0}
DomMet (Some d) env = MeetsDom d env

item-dom-met : (o : Option Dom) (env : Env) → DomMet o env → DomMet (item_dom o) env
item-dom-met (Some (matrix_dom (more_doms i (more_doms j is)) d)) env m = (m.0.1, m.1)
item-dom-met o env m = tt

behind-met : (o : Option Dom) (qs : List Step) (is : Exs) (env : Env) → DomMet o env → DomMet (dom_behind o qs is) env
behind-met o [] no_exs env m = m
behind-met o (by_value ∷ qs) (more_exs i is) env m = behind-met (item_dom o) qs is env (item-dom-met o env m)
behind-met o qs is env m = tt

followed-met : (m : Ex) (env : Env) → Meets m env → DomMet (dom_followed m) env
followed-met (seen_ex r d ns es) env h = h.1
followed-met (node_ex false (index qs) (more_exs m is)) env h = behind-met (dom_followed m) qs is env (followed-met m env h.0)
followed-met m env h = tt

first-index-met : (o : Option Dom) (env : Env) → DomMet o env → DomMet (first_index o) env
first-index-met (Some (matrix_dom (more_doms i is) d)) env m = m.0.0
first-index-met o env m = tt

plain-met : (o : Option Dom) (env : Env) → DomMet o env → DomMet (plain_axis o) env
plain-met (Some bool_dom) env h = h
plain-met (Some (int_dom rs es)) env h = go (are_plain_bounds es)
  where
    go : (t : Bool) → DomMet (if t then Some (int_dom rs es) else None) env
    go true = h
    go false = tt
plain-met (Some (name_dom a)) env h = h
plain-met o env h = tt

index-dom-met : (m : Ex) (env : Env) → Meets m env → DomMet (index_dom m) env
index-dom-met (node_ex false matrix_literal es) env h = (tt, (tt, tt))
index-dom-met (matrix_ex es d) env h = h.1
index-dom-met (comp_ex e gs) env h = (tt, ((gens-map gs env _ _ (λ here q. tt) h, tt), tt))
index-dom-met m env h = plain-met (first_index (dom_followed m)) env (first-index-met (dom_followed m) env (followed-met m env h))

one-index-met : (k : Names Origin) (x : Text) (o : Option Dom) (m i : Ex) (env : Env) → DomMet o env → Meets m env → Meets i env → Met (index_conditions k x o m i) env
one-index-met k x (Some d) m i env h p q = met-unless (is_sure k i d) (in_dom x i d) env (in-dom-met x i d env q h)
one-index-met k x None m i env h p q = (two-met true (binary Op2.Eq) (at_step by_value m (more_exs i no_exs)) (at_step by_value m (more_exs i no_exs)) env (p, (q, tt)) (p, (q, tt)), tt)

path-met : (k : Names Origin) (x : Text) (m : Ex) (qs : List Step) (is : Exs) (env : Env) → Meets m env → MeetsAll false is env → Met (path_conditions k x m qs is) env
path-met k x m [] is env h l = tt
path-met k x m (by_value ∷ qs) no_exs env h l = tt
path-met k x m (by_value ∷ qs) (more_exs i is) env h l =
    met-append (index_conditions k x (index_dom m) m i) _ env (one-index-met k x (index_dom m) m i env (index-dom-met m env h) h l.0) (path-met k x (at_step by_value m (more_exs i no_exs)) qs is env (h, (l.0, tt)) l.1)
path-met k x m (to_component c ∷ qs) is env h l = path-met k x (at_step (to_component c) m no_exs) qs is env (h, tt) l
path-met k x m (to_field a ∷ qs) is env h l = path-met k x (at_step (to_field a) m no_exs) qs is env (h, tt) l

-- The conditions of an operator itself.
pub own-met : (k : Names Origin) (x y : Text) (op : Op) (es : Exs) (env : Env) → MeetsAll false es env → Met (own k x y op es) env
own-met k x y (binary Op2.Div) (more_exs a (more_exs b no_exs)) env m = met-unless (is_not_zero b) _ env (ne-met k b env m.1.0)
own-met k x y (binary Op2.Mod) (more_exs a (more_exs b no_exs)) env m = met-unless (is_not_zero b) _ env (ne-met k b env m.1.0)
own-met k x y (binary Op2.Pow) (more_exs a (more_exs b no_exs)) env m = power-met k a b env m.0 m.1.0
own-met k x y (word Fun.Min) (more_exs s no_exs) env m = some-item-met x s env m.0
own-met k x y (word Fun.Max) (more_exs s no_exs) env m = some-item-met x s env m.0
own-met k x y (word Fun.Image) (more_exs f (more_exs a no_exs)) env m =
    met-unless (is_argument k f a) _ env (two-met true (binary Op2.Member) a (fun1 false Fun.Defined f) env m.1.0 (one-met false (word Fun.Defined) f env m.0))
own-met k x y (word Fun.Party) (more_exs a (more_exs p no_exs)) env m = (two-met true (binary Op2.Member) a (fun1 false Fun.Participants p) env m.0 (one-met false (word Fun.Participants) p env m.1.0), tt)
own-met k x y function_literal es env m = function-met es env m
own-met k x y partition_literal es env m = partition-met x y es env m
own-met k x y (index qs) (more_exs p is) env m = path-met k x p qs is env m.0 m.1
own-met k x y op es env m = tt
