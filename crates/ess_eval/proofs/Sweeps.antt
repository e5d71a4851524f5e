-- The items where a pattern takes values, one after the other.
use Rattle.std.proofs.Common.{◌≡◌, refl, pos, ℕ, zero, suc, ◌+◌, ◌<◌, ◌++◌, add-one, ◌≤◌, arith, drop, length, get_or, Bool, true, false, List, [], ◌∷◌, map, Option, Some, option_map, ap, sym, ◌∙◌}
use Rattle.std.specs.Prelude.{reverse, ℤ}
use Rattle.std.proofs.lemmas.List.{drop_all, reverse-append}
use Rattle.ess_semantics.specs.Trees.{name_pat}
use Rattle.ess_semantics.specs.Values.{Text, Value, number}
use Rattle.ess_semantics.specs.Meaning.{Env, with_pat}
use Rattle.std.specs.List.{list_any}
use Rattle.ess_semantics.specs.Trees as pure
use Rattle.ess_core.specs.ValueViews.{pure_val}
use Rattle.ess_core.specs.declared.values.Val.{Val}
use Rattle.ess_core.specs.declared.values.Val.TheVariants as variant
use Rattle.ess_core.proofs.ValueEquations.{pure_num}
use Rattle.ess_core.specs.TreeViews.{Item}
use Rattle.ess_eval.specs.Folds.{Folded, folded, decided, Taken}
use Rattle.ess_eval.specs.Items.{items_at, swept, large_items, large_swept}
use Rattle.ess_core.specs.declared.tables.Env as tables
use Rattle.ess_core.specs.declared.tables.Binding.{Binding}
use Rattle.ess_eval.specs.Environments.{env_at}
use Rattle.ess_eval.proofs.Excuses.{or_left, or_right}
use Rattle.ess_eval.proofs.Takings.{taken_on, decided_on, nothing_more}

large_next : (f : Value → Bool) (vs : List Val) (i : ℕ) (v : Val) → i < length vs → v ≡ get_or vs i v → f (pure_val v) ≡ true
    → list_any f (map pure_val (drop i vs)) ≡ true
large_next f [] i v l e h = absurd (omega arith)
large_next f (w ∷ vs) zero v l e h = let k : f (pure_val w) ≡ true = rw (← e) h in or_left (f (pure_val w)) (list_any f (map pure_val vs)) k
large_next f (w ∷ vs) (suc i) v l e h = large_next f vs i v (omega arith) e h

-- The value at an index is one of those from there on.
pub large_at : (body : pure.Ex) (p : pure.Pat) (vs : List Val) (i : ℕ) (v : Val) (gs : List Item) (env : Env) → i < length vs
    → v ≡ get_or vs i v
    → large_items body gs (with_pat p (pure_val v) env) ≡ true → large_swept body p (map pure_val (drop i vs)) gs env ≡ true
large_at body p vs i v gs env l e h = large_next (λ w. large_items body gs (with_pat p w env)) vs i v l e h

drop_at : {A : Type 0} (vs : List A) (i : ℕ) (v : A) → i < length vs → v ≡ get_or vs i v → drop i vs ≡ v ∷ drop (suc i) vs
drop_at [] i v l e = absurd (omega arith)
drop_at (w ∷ vs) zero v l e = ap (λ x. x ∷ vs) (sym e)
drop_at (w ∷ vs) (suc i) v l e = drop_at vs i v (omega arith) e

-- The items at one value were taken, and those at the rest are left.
value_more : (body : pure.Ex) (p : pure.Pat) (v : Value) (vs : List Value) (gs : List Item) (env : Env) (t : Bool) (old mid : Folded)
    (all : Option Folded) → t ≡ true → Taken t old mid (items_at body gs (with_pat p v env))
    → option_map (folded old) (swept body p (v ∷ vs) gs env) ≡ all
    → option_map (folded mid) (swept body p vs gs env) ≡ all
value_more body p v vs gs env t old mid all y h k =
    let m = rw y at h in
    taken_on old mid (items_at body gs (with_pat p v env)) (swept body p vs gs env) m ∙ k

-- The items at one value decide, so all items do.
value_last : (body : pure.Ex) (p : pure.Pat) (v : Value) (vs : List Value) (gs : List Item) (env : Env) (t : Bool) (old mid : Folded)
    (all : Option Folded) → t ≡ false → Taken t old mid (items_at body gs (with_pat p v env))
    → option_map (folded old) (swept body p (v ∷ vs) gs env) ≡ all → decided all ≡ true
value_last body p v vs gs env t old mid all y h k =
    let m = rw y at h in
    rw (← k) (decided_on old (items_at body gs (with_pat p v env)) (swept body p vs gs env) m)

-- Behind the last value nothing is left.
value_end : (body : pure.Ex) (p : pure.Pat) (vs : List Value) (gs : List Item) (env : Env) (now : Folded) (all : Option Folded) → vs ≡ []
    → option_map (folded now) (swept body p vs gs env) ≡ all → all ≡ Some now
value_end body p vs gs env now all e h = let k = rw e at h in sym k ∙ nothing_more now

pub sweep_end : (body : pure.Ex) (p : pure.Pat) (vs : List Val) (i : ℕ) (gs : List Item) (env : Env) (now : Folded) (all : Option Folded)
    → length vs ≤ i → option_map (folded now) (swept body p (map pure_val (drop i vs)) gs env) ≡ all → all ≡ Some now
sweep_end body p vs i gs env now all l h =
    value_end body p (map pure_val (drop i vs)) gs env now all (ap (map pure_val) (drop_all i vs l)) h

pub numbers_end : (body : pure.Ex) (p : pure.Pat) (ns : List ℤ) (i : ℕ) (gs : List Item) (env : Env) (now : Folded) (all : Option Folded)
    → length ns ≤ i → option_map (folded now) (swept body p (map number (drop i ns)) gs env) ≡ all → all ≡ Some now
numbers_end body p ns i gs env now all l h =
    value_end body p (map number (drop i ns)) gs env now all (ap (map number) (drop_all i ns l)) h

pub name_end : (body : pure.Ex) (p : pure.Pat) (vs : List Val) (gs : List Item) (env : Env) (now : Folded) (all : Option Folded)
    → vs ≡ [] → option_map (folded now) (swept body p (map pure_val (reverse vs)) gs env) ≡ all → all ≡ Some now
name_end body p vs gs env now all l h =
    value_end body p (map pure_val (reverse vs)) gs env now all (ap (λ xs. map pure_val (reverse xs)) l) h

-- Over the values of a slice.
pub sweep_more : (body : pure.Ex) (p : pure.Pat) (vs : List Val) (i : ℕ) (v : Val) (gs : List Item) (e : tables.Env) (bs cs : List Binding)
    (t : Bool) (old mid : Folded) (all : Option Folded) → i < length vs → v ≡ get_or vs i v → cs ≡ bs → t ≡ true
    → Taken t old mid (items_at body gs (with_pat p (pure_val v) (env_at e cs)))
    → option_map (folded old) (swept body p (map pure_val (drop i vs)) gs (env_at e bs)) ≡ all
    → option_map (folded mid) (swept body p (map pure_val (drop (i + 1) vs)) gs (env_at e bs)) ≡ all
sweep_more body p vs i v gs e bs cs t old mid all l g z y h k =
    let m = rw z at h in
    let n = rw (drop_at vs i v l g) at k in
    rw (add-one i) (value_more body p (pure_val v) (map pure_val (drop (suc i) vs)) gs (env_at e bs) t old mid all y m n)

pub sweep_last : (body : pure.Ex) (p : pure.Pat) (vs : List Val) (i : ℕ) (v : Val) (gs : List Item) (e : tables.Env) (bs cs : List Binding)
    (t : Bool) (old mid : Folded) (all : Option Folded) → i < length vs → v ≡ get_or vs i v → cs ≡ bs → t ≡ false
    → Taken t old mid (items_at body gs (with_pat p (pure_val v) (env_at e cs)))
    → option_map (folded old) (swept body p (map pure_val (drop i vs)) gs (env_at e bs)) ≡ all
    → decided all ≡ true
sweep_last body p vs i v gs e bs cs t old mid all l g z y h k =
    let m = rw z at h in
    let n = rw (drop_at vs i v l g) at k in
    value_last body p (pure_val v) (map pure_val (drop (suc i) vs)) gs (env_at e bs) t old mid all y m n

-- Over whole numbers.
pub numbers_more : (body : pure.Ex) (a b : Text) (ns : List ℤ) (i : ℕ) (n : ℤ) (gs : List Item) (e : tables.Env) (bs cs : List Binding)
    (t : Bool) (old mid : Folded) (all : Option Folded) → i < length ns → n ≡ get_or ns i n → cs ≡ bs → b ≡ a → t ≡ true
    → Taken t old mid (items_at body gs (with_pat (name_pat b) (number n) (env_at e cs)))
    → option_map (folded old) (swept body (name_pat a) (map number (drop i ns)) gs (env_at e bs)) ≡ all
    → option_map (folded mid) (swept body (name_pat a) (map number (drop (i + 1) ns)) gs (env_at e bs)) ≡ all
numbers_more body a b ns i n gs e bs cs t old mid all l g z w y h k =
    let m = rw (z, w) at h in
    let o = rw (drop_at ns i n l g) at k in
    rw (add-one i) (value_more body (name_pat a) (number n) (map number (drop (suc i) ns)) gs (env_at e bs) t old mid all y m o)

pub numbers_last : (body : pure.Ex) (a b : Text) (ns : List ℤ) (i : ℕ) (n : ℤ) (gs : List Item) (e : tables.Env) (bs cs : List Binding)
    (t : Bool) (old mid : Folded) (all : Option Folded) → i < length ns → n ≡ get_or ns i n → cs ≡ bs → b ≡ a → t ≡ false
    → Taken t old mid (items_at body gs (with_pat (name_pat b) (number n) (env_at e cs)))
    → option_map (folded old) (swept body (name_pat a) (map number (drop i ns)) gs (env_at e bs)) ≡ all
    → decided all ≡ true
numbers_last body a b ns i n gs e bs cs t old mid all l g z w y h k =
    let m = rw (z, w) at h in
    let o = rw (drop_at ns i n l g) at k in
    value_last body (name_pat a) (number n) (map number (drop (suc i) ns)) gs (env_at e bs) t old mid all y m o

pub numbers_large_more : (body : pure.Ex) (p : pure.Pat) (ns : List ℤ) (i : ℕ) (n : ℤ) (gs : List Item) (env : Env) → i < length ns
    → n ≡ get_or ns i n → large_swept body p (map number (drop (i + 1) ns)) gs env ≡ true
    → large_swept body p (map number (drop i ns)) gs env ≡ true
numbers_large_more body p ns i n gs env l g h =
    let k = rw (add-one i) at h in
    rw (drop_at ns i n l g) (or_right (large_items body gs (with_pat p (number n) env)) _ k)

-- An item of a list doesn't depend on what stands for missing ones.
same_at : {A : Type 0} (vs : List A) (i : ℕ) (a b : A) → i < length vs → get_or vs i a ≡ get_or vs i b
same_at [] i a b l = absurd (omega arith)
same_at (w ∷ vs) zero a b l = refl
same_at (w ∷ vs) (suc i) a b l = same_at vs i a b (omega arith)

-- The same where the number is a value of a binding.
pub numbers_more_val : (body : pure.Ex) (a b : Text) (ns : List ℤ) (i : ℕ) (n : ℤ) (gs : List Item) (e : tables.Env) (bs cs : List Binding)
    (t : Bool) (old mid : Folded) (all : Option Folded) → i < length ns → n ≡ get_or ns i n → cs ≡ bs → b ≡ a → t ≡ true
    → Taken t old mid (items_at body gs (with_pat (name_pat b) (pure_val (variant.Num n)) (env_at e cs)))
    → option_map (folded old) (swept body (name_pat a) (map number (drop i ns)) gs (env_at e bs)) ≡ all
    → option_map (folded mid) (swept body (name_pat a) (map number (drop (i + 1) ns)) gs (env_at e bs)) ≡ all
numbers_more_val body a b ns i n gs e bs cs t old mid all l g z w y h k =
    let m = rw (pure_num n) at h in
    numbers_more body a b ns i n gs e bs cs t old mid all l g z w y m k

-- Where a later number is large, one from here on is.
pub numbers_large_past : (body : pure.Ex) (p : pure.Pat) (ns : List ℤ) (i : ℕ) (gs : List Item) (env : Env) → i < length ns
    → large_swept body p (map number (drop (i + 1) ns)) gs env ≡ true
    → large_swept body p (map number (drop i ns)) gs env ≡ true
numbers_large_past body p ns i gs env l h =
    numbers_large_more body p ns i (get_or ns i (pos 0)) gs env l (same_at ns i (pos 0) (get_or ns i (pos 0)) l) h

pub numbers_large_at : (body : pure.Ex) (p : pure.Pat) (ns : List ℤ) (i : ℕ) (n : ℤ) (gs : List Item) (env : Env) → i < length ns
    → n ≡ get_or ns i n → large_items body gs (with_pat p (number n) env) ≡ true
    → large_swept body p (map number (drop i ns)) gs env ≡ true
numbers_large_at body p ns i n gs env l g h = rw (drop_at ns i n l g) (or_left (large_items body gs (with_pat p (number n) env)) _ h)

-- Over values that are taken from the end of a list.
reverse-push : {A : Type 0} (xs : List A) (x : A) → reverse (xs ++ x ∷ []) ≡ x ∷ reverse xs
reverse-push xs x = reverse-append xs (x ∷ [])

next_left : (vs ws : List Val) (v : Val) → vs ≡ ws ++ v ∷ [] → map pure_val (reverse vs) ≡ pure_val v ∷ map pure_val (reverse ws)
next_left vs ws v h = ap (map pure_val) (ap reverse h ∙ reverse-push ws v)

pub name_more : (body : pure.Ex) (a b : Text) (vs ws : List Val) (v : Val) (gs : List Item) (e : tables.Env) (bs cs : List Binding)
    (t : Bool) (old mid : Folded) (all : Option Folded) → vs ≡ ws ++ v ∷ [] → cs ≡ bs → b ≡ a → t ≡ true
    → Taken t old mid (items_at body gs (with_pat (name_pat b) (pure_val v) (env_at e cs)))
    → option_map (folded old) (swept body (name_pat a) (map pure_val (reverse vs)) gs (env_at e bs)) ≡ all
    → option_map (folded mid) (swept body (name_pat a) (map pure_val (reverse ws)) gs (env_at e bs)) ≡ all
name_more body a b vs ws v gs e bs cs t old mid all l z w y h k =
    let m = rw (z, w) at h in
    let o = rw (next_left vs ws v l) at k in
    value_more body (name_pat a) (pure_val v) (map pure_val (reverse ws)) gs (env_at e bs) t old mid all y m o

pub name_last : (body : pure.Ex) (a b : Text) (vs ws : List Val) (v : Val) (gs : List Item) (e : tables.Env) (bs cs : List Binding)
    (t : Bool) (old mid : Folded) (all : Option Folded) → vs ≡ ws ++ v ∷ [] → cs ≡ bs → b ≡ a → t ≡ false
    → Taken t old mid (items_at body gs (with_pat (name_pat b) (pure_val v) (env_at e cs)))
    → option_map (folded old) (swept body (name_pat a) (map pure_val (reverse vs)) gs (env_at e bs)) ≡ all
    → decided all ≡ true
name_last body a b vs ws v gs e bs cs t old mid all l z w y h k =
    let m = rw (z, w) at h in
    let o = rw (next_left vs ws v l) at k in
    value_last body (name_pat a) (pure_val v) (map pure_val (reverse ws)) gs (env_at e bs) t old mid all y m o

pub name_large_more : (body : pure.Ex) (p : pure.Pat) (vs ws : List Val) (v : Val) (gs : List Item) (env : Env) → vs ≡ ws ++ v ∷ []
    → large_swept body p (map pure_val (reverse ws)) gs env ≡ true
    → large_swept body p (map pure_val (reverse vs)) gs env ≡ true
name_large_more body p vs ws v gs env l h = rw (next_left vs ws v l) (or_right (large_items body gs (with_pat p (pure_val v) env)) _ h)

pub name_large_at : (body : pure.Ex) (p : pure.Pat) (vs ws : List Val) (v : Val) (gs : List Item) (env : Env) → vs ≡ ws ++ v ∷ []
    → large_items body gs (with_pat p (pure_val v) env) ≡ true
    → large_swept body p (map pure_val (reverse vs)) gs env ≡ true
name_large_at body p vs ws v gs env l h = rw (next_left vs ws v l) (or_left (large_items body gs (with_pat p (pure_val v) env)) _ h)

-- Where a later value is large, one from here on is.
pub large_more : (body : pure.Ex) (p : pure.Pat) (vs : List Val) (i : ℕ) (v : Val) (gs : List Item) (env : Env) → i < length vs
    → v ≡ get_or vs i v → large_swept body p (map pure_val (drop (i + 1) vs)) gs env ≡ true
    → large_swept body p (map pure_val (drop i vs)) gs env ≡ true
large_more body p vs i v gs env l g h =
    let k = rw (add-one i) at h in
    rw (drop_at vs i v l g) (or_right (large_items body gs (with_pat p (pure_val v) env)) _ k)
