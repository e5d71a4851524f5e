-- The items at a first generator or condition, and whether they are large.
use Rattle.std.proofs.Common.{◌≡◌, true, false, List, [], ◌∷◌, map, Option, Some, None, option_map, refl, ap, sym, ◌∙◌}
use Rattle.std.specs.Prelude.{ℤ}
use Rattle.ess_semantics.specs.Trees.{name_pat, int_dom}
use Rattle.ess_semantics.specs.Values.{Text, Value, number, truth, item, node, items_of}
use Rattle.ess_semantics.specs.Lists.{and_then}
use Rattle.ess_semantics.specs.Meaning.{Env, meaning, domain_of, members_in, is_true, where_true, with_pat}
use Rattle.ess_semantics.specs.Large.{is_large, is_large_dom, some_in}
use Rattle.ess_semantics.specs.Trees as pure
use Rattle.ess_core.specs.ValueViews.{pure_val}
use Rattle.ess_core.specs.declared.values.Val.{Val}
use Rattle.ess_core.specs.TreeViews.{Item, over_item, from_item, pure_ex, pure_dom, pure_pat, pure_gen, pure_range, exs_of, words_of, within}
use Rattle.ess_core.specs.declared.expressions.Ex.{Ex}
use Rattle.ess_core.specs.declared.domains.Dom.{Dom}
use Rattle.ess_core.specs.declared.expressions.Pat.{Pat}
use Rattle.ess_core.specs.declared.expressions.Gen.{Gen}
use Rattle.ess_core.specs.declared.expressions.Gen.TheVariants.{If}
use Rattle.ess_core.specs.declared.expressions.Pat.TheVariants as pats
use Rattle.ess_core.specs.declared.domains.Dom.TheVariants as doms
use Rattle.ess_core.specs.declared.domains.Range.{Range}
use Rattle.ess_core.proofs.DomainEquations.{pure_int}
use Rattle.ess_core.proofs.PartEquations.{pure_gen_if, pure_pat_name}
use Rattle.ess_eval.specs.Items.{items_at, swept, source_items, large_items, large_swept}
use Rattle.ess_core.specs.declared.tables.Env as tables
use Rattle.ess_core.specs.declared.tables.Binding.{Binding}
use Rattle.ess_eval.specs.Environments.{env_at}
use Rattle.ess_eval.proofs.Excuses.{or_left, or_right}

-- ---- over a domain

pub items_over : (body : pure.Ex) (p : pure.Pat) (d : pure.Dom) (gs : List Item) (env : Env) (vs : List Value)
    → Some vs ≡ members_in (domain_of d env)
    → items_at body (over_item p d ∷ gs) env ≡ swept body p vs gs env
items_over body p d gs env vs h = rw (← h) refl

pub items_over_none : (body : pure.Ex) (p : pure.Pat) (d : pure.Dom) (gs : List Item) (env : Env) → None ≡ members_in (domain_of d env)
    → items_at body (over_item p d ∷ gs) env ≡ None
items_over_none body p d gs env h = rw (← h) refl

pub large_over : (body : pure.Ex) (p : pure.Pat) (d : pure.Dom) (gs : List Item) (env : Env) → is_large_dom d env ≡ true
    → large_items body (over_item p d ∷ gs) env ≡ true
large_over body p d gs env h = or_left _ _ h

pub large_over_swept : (body : pure.Ex) (p : pure.Pat) (d : pure.Dom) (gs : List Item) (env : Env) (vs : List Value)
    → Some vs ≡ members_in (domain_of d env)
    → large_swept body p vs gs env ≡ true → large_items body (over_item p d ∷ gs) env ≡ true
large_over_swept body p d gs env vs m h = rw (← m) (or_right (is_large_dom d env) _ h)

-- ---- over a value

of_source : (body : pure.Ex) (p : pure.Pat) (gs : List Item) (env : Env) (o : Option Value) (vs : List Value) → Some vs ≡ source_items o
    → and_then o (λ s. swept body p (items_of s) gs env) ≡ swept body p vs gs env
of_source body p gs env None vs h = cc
of_source body p gs env (Some s) vs h = let e : items_of s ≡ vs = cc in ap (λ xs. swept body p xs gs env) e

pub items_from : (body : pure.Ex) (p : pure.Pat) (e : pure.Ex) (gs : List Item) (env : Env) (vs : List Value)
    → Some vs ≡ source_items (meaning e env)
    → items_at body (from_item p e ∷ gs) env ≡ swept body p vs gs env
items_from body p e gs env vs h = of_source body p gs env (meaning e env) vs h

of_no_source : (body : pure.Ex) (p : pure.Pat) (gs : List Item) (env : Env) (o : Option Value) → None ≡ source_items o
    → and_then o (λ s. swept body p (items_of s) gs env) ≡ None
of_no_source body p gs env None h = refl
of_no_source body p gs env (Some s) h = cc

pub items_from_none : (body : pure.Ex) (p : pure.Pat) (e : pure.Ex) (gs : List Item) (env : Env) → None ≡ source_items (meaning e env)
    → items_at body (from_item p e ∷ gs) env ≡ None
items_from_none body p e gs env h = of_no_source body p gs env (meaning e env) h

pub large_from : (body : pure.Ex) (p : pure.Pat) (e : pure.Ex) (gs : List Item) (env : Env) → is_large e env ≡ true
    → large_items body (from_item p e ∷ gs) env ≡ true
large_from body p e gs env h = or_left _ _ h

large_of_source : (body : pure.Ex) (p : pure.Pat) (gs : List Item) (env : Env) (o : Option Value) (vs : List Value)
    → Some vs ≡ source_items o
    → large_swept body p vs gs env ≡ true → some_in o (λ v. large_items body gs (with_pat p v env)) ≡ true
large_of_source body p gs env None vs h k = cc
large_of_source body p gs env (Some s) vs h k = let e : vs ≡ items_of s = cc in rw (← e) k

pub large_from_swept : (body : pure.Ex) (p : pure.Pat) (e : pure.Ex) (gs : List Item) (env : Env) (vs : List Value)
    → Some vs ≡ source_items (meaning e env)
    → large_swept body p vs gs env ≡ true → large_items body (from_item p e ∷ gs) env ≡ true
large_from_swept body p e gs env vs m h = or_right (is_large e env) _ (large_of_source body p gs env (meaning e env) vs m h)

-- ---- conditions

holds : (o : Option Value) (f : Unit {0} → Option (List Value)) → true ≡ is_true o → where_true o f ≡ f tt
holds None f h = cc
holds (Some (number n)) f h = cc
holds (Some (truth true)) f h = refl
holds (Some (truth false)) f h = cc
holds (Some (item t k)) f h = cc
holds (Some (node k xs)) f h = cc

fails : (o : Option Value) (f : Unit {0} → Option (List Value)) → false ≡ is_true o → where_true o f ≡ Some []
fails None f h = refl
fails (Some (number n)) f h = refl
fails (Some (truth true)) f h = cc
fails (Some (truth false)) f h = refl
fails (Some (item t k)) f h = refl
fails (Some (node k xs)) f h = refl

pub items_where : (body : Ex) (e : Ex) (rest : List Gen) (env : Env) → true ≡ is_true (meaning (pure_ex e) env)
    → items_at (pure_ex body) (map pure_gen (If e ∷ rest)) env ≡ items_at (pure_ex body) (map pure_gen rest) env
items_where body e rest env h =
    rw (pure_gen_if e) (holds (meaning (pure_ex e) env) (λ u. items_at (pure_ex body) (map pure_gen rest) env) h)

pub items_where_not : (body : Ex) (e : Ex) (rest : List Gen) (env : Env) → false ≡ is_true (meaning (pure_ex e) env)
    → items_at (pure_ex body) (map pure_gen (If e ∷ rest)) env ≡ Some []
items_where_not body e rest env h =
    rw (pure_gen_if e) (fails (meaning (pure_ex e) env) (λ u. items_at (pure_ex body) (map pure_gen rest) env) h)

pub large_condition : (body : Ex) (e : Ex) (rest : List Gen) (env : Env) → is_large (pure_ex e) env ≡ true
    → large_items (pure_ex body) (map pure_gen (If e ∷ rest)) env ≡ true
large_condition body e rest env h = rw (pure_gen_if e) (or_left _ _ h)

pub large_behind : (body : Ex) (e : Ex) (rest : List Gen) (env : Env) → large_items (pure_ex body) (map pure_gen rest) env ≡ true
    → large_items (pure_ex body) (map pure_gen (If e ∷ rest)) env ≡ true
large_behind body e rest env h = rw (pure_gen_if e) (or_right (is_large (pure_ex e) env) _ h)

-- ---- in the env below generators

-- Over the members of a domain, as a call finds them.
pub large_over_there : (body : pure.Ex) (p : pure.Pat) (d : pure.Dom) (gs : List Item) (e : tables.Env) (bs cs : List Binding)
    (o : Option (List Val)) (ws vs : List Val) → option_map (map pure_val) o ≡ members_in (domain_of d (env_at e bs)) → o ≡ Some vs
    → ws ≡ vs → cs ≡ bs → large_swept body p (map pure_val ws) gs (env_at e cs) ≡ true
    → large_items body (over_item p d ∷ gs) (env_at e bs) ≡ true
large_over_there body p d gs e bs cs o ws vs m n w z h =
    let k = rw (w, z) at h in
    let v = rw n at m in
    large_over_swept body p d gs (env_at e bs) (map pure_val vs) v k

-- Over what a value holds, as a call finds it.
pub large_from_there : (body : pure.Ex) (p : pure.Pat) (x : pure.Ex) (gs : List Item) (e : tables.Env) (bs cs : List Binding)
    (o : Option (List Val)) (ws vs : List Val) → option_map (map pure_val) o ≡ source_items (meaning x (env_at e bs)) → o ≡ Some vs
    → ws ≡ vs → cs ≡ bs → large_swept body p (map pure_val ws) gs (env_at e cs) ≡ true
    → large_items body (from_item p x ∷ gs) (env_at e bs) ≡ true
large_from_there body p x gs e bs cs o ws vs m n w z h =
    let k = rw (w, z) at h in
    let v = rw n at m in
    large_from_swept body p x gs (env_at e bs) (map pure_val vs) v k

-- The items over the members of a domain, as a call finds them.
pub over_there : (body : pure.Ex) (p : pure.Pat) (d : pure.Dom) (gs : List Item) (e : tables.Env) (bs cs : List Binding)
    (o : Option (List Val)) (vs : List Val) → option_map (map pure_val) o ≡ members_in (domain_of d (env_at e bs)) → o ≡ Some vs → cs ≡ bs
    → swept body p (map pure_val vs) gs (env_at e cs) ≡ items_at body (over_item p d ∷ gs) (env_at e bs)
over_there body p d gs e bs cs o vs m n z =
    let v = rw n at m in
    ap (λ xs. swept body p (map pure_val vs) gs (env_at e xs)) z ∙ sym (items_over body p d gs (env_at e bs) (map pure_val vs) v)

-- The same over whole numbers.
pub numbers_there : (body : pure.Ex) (p : pure.Pat) (d : pure.Dom) (gs : List Item) (e : tables.Env) (bs cs : List Binding)
    (o : Option (List ℤ)) (ms ns : List ℤ) → option_map (map number) o ≡ members_in (domain_of d (env_at e bs)) → o ≡ Some ns → ms ≡ ns
    → cs ≡ bs
    → swept body p (map number ms) gs (env_at e cs) ≡ items_at body (over_item p d ∷ gs) (env_at e bs)
numbers_there body p d gs e bs cs o ms ns m n w z =
    let v = rw n at m in
    ap (λ xs. swept body p (map number xs) gs (env_at e cs)) w
    ∙ ap (λ xs. swept body p (map number ns) gs (env_at e xs)) z
    ∙ sym (items_over body p d gs (env_at e bs) (map number ns) v)

pub numbers_large_there : (body : pure.Ex) (p : pure.Pat) (d : pure.Dom) (gs : List Item) (e : tables.Env) (bs cs : List Binding)
    (o : Option (List ℤ)) (ms ns : List ℤ) → option_map (map number) o ≡ members_in (domain_of d (env_at e bs)) → o ≡ Some ns → ms ≡ ns
    → cs ≡ bs
    → large_swept body p (map number ms) gs (env_at e cs) ≡ true → large_items body (over_item p d ∷ gs) (env_at e bs) ≡ true
numbers_large_there body p d gs e bs cs o ms ns m n w z h =
    let k = rw (w, z) at h in
    let v = rw n at m in
    large_over_swept body p d gs (env_at e bs) (map number ns) v k

-- A name over an int domain, as the tree has them.
pub large_named_ints : (body : pure.Ex) (q : Pat) (x : Dom) (a : Text) (rs ss : List Range) (gs : List Item) (env : Env) → q ≡ pats.Name a
    → x ≡ doms.Int rs → ss ≡ rs
    → large_items body (over_item (name_pat a) (int_dom (words_of (map pure_range ss)) (exs_of (within (map pure_range ss)))) ∷ gs) env
    ≡ true
    → large_items body (over_item (pure_pat q) (pure_dom x) ∷ gs) env ≡ true
large_named_ints body q x a rs ss gs env h k l m =
    let n = rw l at m in
    rw (h, k, pure_pat_name a, pure_int rs) n

pub ruleset at_condition = (items_where, items_where_not, large_condition, large_behind)

pub ruleset at_value = (items_from, items_from_none, large_from, large_from_swept)

pub ruleset at_domain = (items_over, items_over_none, large_over, large_over_swept)
