-- The items at a first generator or condition, and whether they are large.
use Rattle.std.proofs.Common.{◌≡◌, ℕ, zero, suc, ◌+◌, ◌≤◌, ◌++◌, add-one, drop, length, Bool, true, false}
use Rattle.std.proofs.Common.{List, [], ◌∷◌, map, Option, Some, None, option_map, refl, ap, sym, ◌∙◌}
use Rattle.std.specs.Prelude.{slice_get}
use Rattle.std.proofs.lemmas.List.{append-nil, drop_all, reverse-append}
use Rattle.ess_semantics.specs.Values.{Text, Value, number, truth, item, node}
use Rattle.ess_semantics.specs.Meaning.{Env, meaning, domain_of, members_in, is_true, where_true, with_pat}
use Rattle.ess_semantics.specs.Large.{is_large, is_large_dom}
use Rattle.ess_semantics.specs.Trees as pure
use Rattle.ess_semantics.specs.Trees.{name_pat}
use Rattle.eprime_tree.specs.Views.{Item, over_item}
use Rattle.eprime_eval_kinds.specs.declared.tree.KEx.{KEx}
use Rattle.eprime_eval_kinds.specs.declared.tree.KGen.{KGen}
use Rattle.eprime_eval_kinds.specs.declared.tree.KDom.{KDom}
use Rattle.eprime_eval_kinds.specs.declared.tree.KGen.TheVariants.{If, Over}
use Rattle.eprime_eval_kinds.specs.KindedViews.{pure_kex, pure_kgen, pure_kdom}
use Rattle.eprime_eval_kinds.proofs.KindedEquations.{pure_kgen_if, pure_kgen_over}
use Rattle.eprime_eval_scalars.specs.declared.scalars.Scalar.{Scalar}
use Rattle.eprime_eval_scalars.specs.ScalarViews.{pure_scalar}
use Rattle.eprime_eval.specs.declared.known.Known.{Known}
use Rattle.eprime_eval.specs.declared.members.Members.{Members}
use Rattle.eprime_eval.specs.declared.names.Bound.{Bound}
use Rattle.eprime_eval.specs.Environments.{env_at}
use Rattle.eprime_eval.specs.MemberViews.{member_values}
use Rattle.eprime_eval.specs.Items.{Gathered, items_at, swept, large_items, large_swept}
use Rattle.eprime_eval.proofs.Excuses.{or_left, or_right}
use Rattle.eprime_eval.proofs.Gathering.{put_behind, none_all}

-- ---- over a domain

pub items_over : (body : pure.Ex) (p : Text) (d : pure.Dom) (gs : List Item) (env : Env) (vs : List Value)
    → Some vs ≡ members_in (domain_of d env)
    → items_at body (over_item p d ∷ gs) env ≡ swept body p vs gs env
items_over body p d gs env vs h = rw (← h) refl

pub items_over_none : (body : pure.Ex) (p : Text) (d : pure.Dom) (gs : List Item) (env : Env) → None ≡ members_in (domain_of d env)
    → items_at body (over_item p d ∷ gs) env ≡ None
items_over_none body p d gs env h = rw (← h) refl

pub large_over : (body : pure.Ex) (p : Text) (d : pure.Dom) (gs : List Item) (env : Env) → is_large_dom d env ≡ true
    → large_items body (over_item p d ∷ gs) env ≡ true
large_over body p d gs env h = or_left _ _ h

pub large_over_swept : (body : pure.Ex) (p : Text) (d : pure.Dom) (gs : List Item) (env : Env) (vs : List Value)
    → Some vs ≡ members_in (domain_of d env)
    → large_swept body p vs gs env ≡ true → large_items body (over_item p d ∷ gs) env ≡ true
large_over_swept body p d gs env vs m h = rw (← m) (or_right (is_large_dom d env) _ h)

-- ---- conditions

holds : (o : Option Value) (f : Unit {0} → Option (List Value)) → true ≡ is_true o → where_true o f ≡ f tt
holds None f h = cc
holds (Some (number n)) f h = cc
holds (Some (truth true)) f h = refl
holds (Some (truth false)) f h = cc
holds (Some (item t k)) f h = cc
holds (Some (node k xs)) f h = cc

fails : (o : Option Value) (f : Unit {0} → Option (List Value)) → false ≡ is_true o → where_true o f ≡ Some []
fails None f h = refl
fails (Some (number n)) f h = refl
fails (Some (truth true)) f h = cc
fails (Some (truth false)) f h = refl
fails (Some (item t k)) f h = refl
fails (Some (node k xs)) f h = refl

pub items_where : (ns : List Text) (body : KEx) (e : KEx) (rest : List KGen) (env : Env) → true ≡ is_true (meaning (pure_kex ns e) env)
    → items_at (pure_kex ns body) (map (pure_kgen ns) (If e ∷ rest)) env ≡ items_at (pure_kex ns body) (map (pure_kgen ns) rest) env
items_where ns body e rest env h =
    rw (pure_kgen_if ns e) (holds (meaning (pure_kex ns e) env) (λ u. items_at (pure_kex ns body) (map (pure_kgen ns) rest) env) h)

pub items_where_not : (ns : List Text) (body : KEx) (e : KEx) (rest : List KGen) (env : Env) → false ≡ is_true (meaning (pure_kex ns e) env)
    → items_at (pure_kex ns body) (map (pure_kgen ns) (If e ∷ rest)) env ≡ Some []
items_where_not ns body e rest env h =
    rw (pure_kgen_if ns e) (fails (meaning (pure_kex ns e) env) (λ u. items_at (pure_kex ns body) (map (pure_kgen ns) rest) env) h)

pub large_condition : (ns : List Text) (body : KEx) (e : KEx) (rest : List KGen) (env : Env) → is_large (pure_kex ns e) env ≡ true
    → large_items (pure_kex ns body) (map (pure_kgen ns) (If e ∷ rest)) env ≡ true
large_condition ns body e rest env h = rw (pure_kgen_if ns e) (or_left _ _ h)

pub large_behind : (ns : List Text) (body : KEx) (e : KEx) (rest : List KGen) (env : Env) → large_items (pure_kex ns body) (map (pure_kgen ns) rest) env ≡ true
    → large_items (pure_kex ns body) (map (pure_kgen ns) (If e ∷ rest)) env ≡ true
large_behind ns body e rest env h = rw (pure_kgen_if ns e) (or_right (is_large (pure_kex ns e) env) _ h)

-- ---- one value after the other

drop-suc : (vs : List Value) (i : ℕ) (v : Value) → slice_get vs i ≡ Some v → drop i vs ≡ v ∷ drop (suc i) vs
drop-suc [] i v e = cc
drop-suc (w ∷ vs) zero v e = let k : w ≡ v = cc in ap (λ x. x ∷ vs) k
drop-suc (w ∷ vs) (suc i) v e = drop-suc vs i v e

drop-at : (vs : List Value) (i : ℕ) (v : Value) → slice_get vs i ≡ Some v → drop i vs ≡ v ∷ drop (i + 1) vs
drop-at vs i v e = rw (add-one i) (drop-suc vs i v e)

-- The items at one value were put behind the others, and those at the rest are left.
pub sweep_more : (body : pure.Ex) (p q : Text) (vs : List Value) (i : ℕ) (v : Value) (gs : List Item) (e : Known) (bs cs : List Bound)
    (t : Bool) (old mid : List Value) (all : Option (List Value)) → slice_get vs i ≡ Some v → q ≡ p → cs ≡ bs → t ≡ true
    → Gathered t old mid (items_at body gs (with_pat (name_pat q) v (env_at e cs)))
    → option_map (λ xs. old ++ xs) (swept body p (drop i vs) gs (env_at e bs)) ≡ all
    → option_map (λ xs. mid ++ xs) (swept body p (drop (i + 1) vs) gs (env_at e bs)) ≡ all
sweep_more body p q vs i v gs e bs cs t old mid all g r z y h k =
    let m = rw (y, z, r) at h in
    let n = rw (drop-at vs i v g) at k in
    put_behind old mid (items_at body gs (with_pat (name_pat p) v (env_at e bs))) (swept body p (drop (i + 1) vs) gs (env_at e bs)) m ∙ n

-- Where those at one value aren't there, none are.
pub sweep_stops : (body : pure.Ex) (p q : Text) (vs : List Value) (i : ℕ) (v : Value) (gs : List Item) (e : Known) (bs cs : List Bound)
    (t : Bool) (old mid first : List Value) (all : Option (List Value)) → slice_get vs i ≡ Some v → q ≡ p → cs ≡ bs → t ≡ false
    → Gathered t old mid (items_at body gs (with_pat (name_pat q) v (env_at e cs)))
    → option_map (λ xs. old ++ xs) (swept body p (drop i vs) gs (env_at e bs)) ≡ option_map (λ xs. first ++ xs) all
    → all ≡ None
sweep_stops body p q vs i v gs e bs cs t old mid first all g r z y h k =
    let m = rw (y, z, r) at h in
    let n = rw (drop-at vs i v g) at k in
    none_all first all (sym (rw m at n))

-- Behind the last value nothing is left.
pub sweep_ends : (body : pure.Ex) (p : Text) (vs : List Value) (i : ℕ) (gs : List Item) (env : Env) (old first : List Value)
    (all : Option (List Value)) → length vs ≤ i
    → option_map (λ xs. old ++ xs) (swept body p (drop i vs) gs env) ≡ option_map (λ xs. first ++ xs) all
    → option_map (λ xs. first ++ xs) all ≡ Some old
sweep_ends body p vs i gs env old first all l h =
    let k = rw (drop_all i vs l) at h in sym k ∙ ap Some (append-nil old)

-- Where a number is large at one value, one is from there on.
pub large_at : (body : pure.Ex) (p q : Text) (vs : List Value) (i : ℕ) (v : Value) (gs : List Item) (e : Known) (bs cs : List Bound)
    → slice_get vs i ≡ Some v → q ≡ p → cs ≡ bs → large_items body gs (with_pat (name_pat q) v (env_at e cs)) ≡ true
    → large_swept body p (drop i vs) gs (env_at e bs) ≡ true
large_at body p q vs i v gs e bs cs g r z h =
    let k = rw (z, r) at h in rw (drop-at vs i v g) (or_left _ (large_swept body p (drop (i + 1) vs) gs (env_at e bs)) k)

-- Where one is at a later value, one is from here on.
pub large_more : (body : pure.Ex) (p : Text) (vs : List Value) (i : ℕ) (v : Value) (gs : List Item) (env : Env) → slice_get vs i ≡ Some v
    → large_swept body p (drop (i + 1) vs) gs env ≡ true → large_swept body p (drop i vs) gs env ≡ true
large_more body p vs i v gs env g h = rw (drop-at vs i v g) (or_right (large_items body gs (with_pat (name_pat p) v env)) _ h)

pub ruleset sweeps = (sweep_stops, sweep_ends, large_at)

-- ---- in the env below generators

-- Over the members of a domain, as a call finds them.
pub large_over_there : (body : pure.Ex) (p : Text) (d : pure.Dom) (gs : List Item) (e : Known) (bs cs : List Bound)
    (o : Option Members) (vs : Members) → option_map member_values o ≡ members_in (domain_of d (env_at e bs)) → o ≡ Some vs
    → cs ≡ bs → large_swept body p (member_values vs) gs (env_at e cs) ≡ true
    → large_items body (over_item p d ∷ gs) (env_at e bs) ≡ true
large_over_there body p d gs e bs cs o vs m n z h =
    let k = rw z at h in
    let v = rw n at m in
    large_over_swept body p d gs (env_at e bs) (member_values vs) v k

-- A generator in front.
pub large_in_front : (ns : List Text) (body : KEx) (a : Text) (d : KDom) (rest : List KGen) (env : Env)
    → large_items (pure_kex ns body) (over_item a (pure_kdom ns d) ∷ map (pure_kgen ns) rest) env ≡ true
    → large_items (pure_kex ns body) (map (pure_kgen ns) (Over a d ∷ rest)) env ≡ true
large_in_front ns body a d rest env h = rw (pure_kgen_over ns a d) h

pub over_front : (ns : List Text) (body : KEx) (a b : Text) (d e : KDom) (gs rest : List KGen) (env : Env) → gs ≡ Over a d ∷ rest → b ≡ a → e ≡ d
    → large_items (pure_kex ns body) (over_item b (pure_kdom ns e) ∷ map (pure_kgen ns) rest) env ≡ true
    → large_items (pure_kex ns body) (map (pure_kgen ns) gs) env ≡ true
over_front ns body a b d e gs rest env p n q h = let k = rw (n, q) at h in rw p (large_in_front ns body a d rest env k)

pub ruleset at_condition = (items_where, items_where_not, large_condition, large_behind, large_in_front)

pub ruleset at_domain = (items_over, items_over_none, large_over, large_over_swept)

-- The env of the bindings with one more name.
pub bound_name : (k : Known) (bs cs : List Bound) (a : Text) (v : Scalar) → cs ≡ bs ++ record { name = a; value = v } ∷ []
    → with_pat (name_pat a) (pure_scalar v) (env_at k bs) ≡ env_at k cs
bound_name k bs cs a v h = rw (h, reverse-append bs (record { name = a; value = v } ∷ [])) refl
