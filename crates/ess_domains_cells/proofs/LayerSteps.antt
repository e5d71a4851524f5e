-- The steps by which code counts a layer: each number is known by what is kept of it.
use Rattle.std.proofs.Common.{◌≡◌, refl, sym, ap, ◌∙◌, ℕ, ◌+◌, ◌*◌, Bool, true, false, if◌then◌else◌, List, [], ◌∷◌, map, length, Option, Some, None, option_map, arith}
use Rattle.ess_semantics.specs.declared.words.ReprKind.{ReprKind}
use Rattle.ess_semantics.specs.Lists.{or_default}
use Rattle.ess_semantics.specs.Trees as pure
use Rattle.ess_semantics.specs.Choice.{reprs_of}
use Rattle.ess_semantics.specs.Domains.{Attribute, Domain, sets, member_list}
use Rattle.ess_semantics.specs.Sizes.{greatest_size, bound}
use Rattle.ess_core.specs.declared.representations.Repr.{Repr}
use Rattle.ess_core.specs.declared.representations.Repr.TheViews.{out-Repr}
use Rattle.ess_core.specs.TreeViews.{pure_repr}
use Rattle.ess_core.proofs.RepresentationEquations.{pure_repr_is}
use Rattle.ess_domains_cells.specs.Kept.{kept, greater}
use Rattle.ess_domains_cells.specs.Counted.{counted, counted_children}
use Rattle.ess_domains_cells.specs.LayerCounts.{table, set_own, has_slots, counted_set, mset_own}
use Rattle.ess_domains_cells.proofs.KeptNumbers.{kept_sum, kept_twice}
use Rattle.ess_domains_cells.proofs.CountsKept.{sum-same, product-same, greater-same, children-same}
use Rattle.ess_domains_cells.proofs.LayerForms.{set-counted}

-- ---- tables

pub table_kept : (v l n p r : ℕ) → p ≡ kept (v * n) → r ≡ kept (greater p (greater l n)) → r ≡ kept (table v l n)
table_kept v l n p r e g =
    g ∙ ap (λ m. kept (greater m (greater l n))) e ∙ greater-same (kept (v * n)) (greater l n) (v * n) (greater l n) (kept_twice (v * n)) refl

pub one_cell_kept : (v l g r : ℕ) → g ≡ greater v l → r ≡ kept g → r ≡ kept (greater v l)
one_cell_kept v l g r e p = p ∙ ap kept e

pub table-same : (v l n m : ℕ) → kept n ≡ kept m → kept (table v l n) ≡ kept (table v l m)
table-same v l n m e =
    greater-same (v * n) (greater l n) (v * m) (greater l m) (product-same v n v m refl e) (greater-same l n l m refl e)

pub set-own-same : (k : ReprKind) (v l n m o p : ℕ) → kept n ≡ kept o → kept m ≡ kept p → kept (set_own k v l n m) ≡ kept (set_own k v l o p)
set-own-same ReprKind.Atom v l n m o p e f = refl
set-own-same ReprKind.Tuple v l n m o p e f = refl
set-own-same ReprKind.Rec v l n m o p e f = refl
set-own-same ReprKind.Matrix v l n m o p e f = refl
set-own-same ReprKind.Occurrence v l n m o p e f = table-same v l m p f
set-own-same ReprKind.Explicit v l n m o p e f = refl
set-own-same ReprKind.ExplicitVarSizeWithMarker v l n m o p e f = refl
set-own-same ReprKind.ExplicitVarSizeWithFlags v l n m o p e f = table-same v l n o e
set-own-same ReprKind.ExplicitVarSizeWithDummy v l n m o p e f = table-same v l n o e
set-own-same ReprKind.MSetOccurrence v l n m o p e f = refl
set-own-same ReprKind.MSetExplicitWithRepetition v l n m o p e f = refl
set-own-same ReprKind.MSetExplicitWithFlags v l n m o p e f = refl
set-own-same ReprKind.Function1D v l n m o p e f = refl
set-own-same ReprKind.Function1DPartial v l n m o p e f = refl
set-own-same ReprKind.FunctionND v l n m o p e f = refl
set-own-same ReprKind.FunctionNDPartial v l n m o p e f = refl
set-own-same ReprKind.FunctionAsRelation v l n m o p e f = refl
set-own-same ReprKind.RelationAsMatrix v l n m o p e f = refl
set-own-same ReprKind.RelationAsSet v l n m o p e f = refl
set-own-same ReprKind.PartitionOccurrence v l n m o p e f = refl
set-own-same ReprKind.PartitionAsSet v l n m o p e f = refl

pub mset-own-same : (k : ReprKind) (v l n m o p : ℕ) → kept n ≡ kept o → kept m ≡ kept p → kept (mset_own k v l n m) ≡ kept (mset_own k v l o p)
mset-own-same ReprKind.Atom v l n m o p e f = refl
mset-own-same ReprKind.Tuple v l n m o p e f = refl
mset-own-same ReprKind.Rec v l n m o p e f = refl
mset-own-same ReprKind.Matrix v l n m o p e f = refl
mset-own-same ReprKind.Occurrence v l n m o p e f = refl
mset-own-same ReprKind.Explicit v l n m o p e f = refl
mset-own-same ReprKind.ExplicitVarSizeWithMarker v l n m o p e f = refl
mset-own-same ReprKind.ExplicitVarSizeWithFlags v l n m o p e f = refl
mset-own-same ReprKind.ExplicitVarSizeWithDummy v l n m o p e f = refl
mset-own-same ReprKind.MSetOccurrence v l n m o p e f = table-same v l m p f
mset-own-same ReprKind.MSetExplicitWithRepetition v l n m o p e f = refl
mset-own-same ReprKind.MSetExplicitWithFlags v l n m o p e f = table-same v l n o e
mset-own-same ReprKind.Function1D v l n m o p e f = refl
mset-own-same ReprKind.Function1DPartial v l n m o p e f = refl
mset-own-same ReprKind.FunctionND v l n m o p e f = refl
mset-own-same ReprKind.FunctionNDPartial v l n m o p e f = refl
mset-own-same ReprKind.FunctionAsRelation v l n m o p e f = refl
mset-own-same ReprKind.RelationAsMatrix v l n m o p e f = refl
mset-own-same ReprKind.RelationAsSet v l n m o p e f = refl
mset-own-same ReprKind.PartitionOccurrence v l n m o p e f = refl
mset-own-same ReprKind.PartitionAsSet v l n m o p e f = refl

-- ---- slots

pub slots-same : (s : Option ℕ) (b c : ℕ) → b ≡ kept c → kept (or_default s b) ≡ kept (or_default s c)
slots-same None b c e = ap kept e ∙ kept_twice c
slots-same (Some n) b c e = refl

pub size-same : (s : Option ℕ) (b : ℕ) → kept (or_default (option_map kept s) b) ≡ kept (or_default s b)
size-same None b = refl
size-same (Some n) b = kept_twice n

-- Children behind an axis of n members, known by what is kept.
pub below-axis : (rs : pure.Reprs) (ds : List Domain) (v l n m v' l' : ℕ) → kept n ≡ kept m → v' ≡ kept (v * n) → l' ≡ greater l n
    → kept (counted_children rs ds v' l') ≡ kept (counted_children rs ds (v * m) (greater l m))
below-axis rs ds v l n m v' l' e f g =
    children-same rs ds v' (v * m) l' (greater l m) (ap kept f ∙ kept_twice (v * n) ∙ product-same v n v m refl e)
    (ap kept g ∙ greater-same l n l m refl e)

pub sum-kept : (a b x y r : ℕ) → a ≡ kept x → b ≡ kept y → r ≡ kept (a + b) → r ≡ kept (x + y)
sum-kept a b x y r e f g = g ∙ ap (λ n. kept (n + b)) e ∙ ap (λ n. kept (kept x + n)) f ∙ kept_sum x y

pub slotted : (t : Bool) (own below : ℕ) → t ≡ true → own + (if t then below else 0) ≡ own + below
slotted t own below e = ap (λ b. own + (if b then below else 0)) e

pub unslotted : (t : Bool) (own below : ℕ) → t ≡ false → own + (if t then below else 0) ≡ own
unslotted t own below e = let z : own + 0 ≡ own = omega arith in ap (λ b. own + (if b then below else 0)) e ∙ z

-- ---- sets

pub set-step : (k : ReprKind) (rs : pure.Reprs) (s : Option ℕ) (d : Domain) (v l b m n own v' l' c r : ℕ)
    → b ≡ kept (bound d) → m ≡ kept (length (member_list d)) → n ≡ or_default s b → own ≡ kept (set_own k v l n m) → has_slots k ≡ true
    → v' ≡ kept (v * n) → l' ≡ greater l n → c ≡ kept (counted_children rs (d ∷ []) v' l') → r ≡ kept (own + c) → r ≡ kept (counted_set (pure.repr k rs) s d v l)
set-step k rs s d v l b m n own v' l' c r eb em en eo h ev el ec er =
    let N = or_default s (bound d) in
    let same : kept n ≡ kept N = ap kept en ∙ slots-same s b (bound d) eb in
    let same-m : kept m ≡ kept (length (member_list d)) = ap kept em ∙ kept_twice (length (member_list d)) in
    sum-kept own c (set_own k v l N (length (member_list d))) (counted_children rs (d ∷ []) (v * N) (greater l N)) r
    (eo ∙ set-own-same k v l n m N (length (member_list d)) same same-m) (ec ∙ below-axis rs (d ∷ []) v l n N v' l' same ev el) er
    ∙ ap kept (sym (slotted (has_slots k) (set_own k v l N (length (member_list d))) (counted_children rs (d ∷ []) (v * N) (greater l N)) h))

pub set-leaf : (k : ReprKind) (rs : pure.Reprs) (s : Option ℕ) (d : Domain) (v l b m n own : ℕ)
    → b ≡ kept (bound d) → m ≡ kept (length (member_list d)) → n ≡ or_default s b → own ≡ kept (set_own k v l n m) → has_slots k ≡ false
    → own ≡ kept (counted_set (pure.repr k rs) s d v l)
set-leaf k rs s d v l b m n own eb em en eo h =
    let N = or_default s (bound d) in
    let same : kept n ≡ kept N = ap kept en ∙ slots-same s b (bound d) eb in
    let same-m : kept m ≡ kept (length (member_list d)) = ap kept em ∙ kept_twice (length (member_list d)) in
    eo ∙ set-own-same k v l n m N (length (member_list d)) same same-m
    ∙ ap kept (sym (unslotted (has_slots k) (set_own k v l N (length (member_list d))) (counted_children rs (d ∷ []) (v * N) (greater l N)) h))

-- At a tree of the code.
pub set_step : (x : Repr) (s : Option ℕ) (d : Domain) (v l b m n own v' l' c r : ℕ)
    → b ≡ kept (bound d) → m ≡ kept (length (member_list d)) → n ≡ or_default s b → own ≡ kept (set_own (out-Repr x).kind v l n m) → has_slots (out-Repr x).kind ≡ true
    → v' ≡ kept (v * n) → l' ≡ greater l n → c ≡ kept (counted_children (reprs_of (map pure_repr (out-Repr x).children)) (d ∷ []) v' l') → r ≡ kept (own + c)
    → r ≡ kept (counted_set (pure_repr x) s d v l)
set_step x s d v l b m n own v' l' c r eb em en eo h ev el ec er =
    set-step (out-Repr x).kind (reprs_of (map pure_repr (out-Repr x).children)) s d v l b m n own v' l' c r eb em en eo h ev el ec er
    ∙ ap (λ q. kept (counted_set q s d v l)) (sym (pure_repr_is x))

pub set_leaf : (x : Repr) (s : Option ℕ) (d : Domain) (v l b m n own : ℕ)
    → b ≡ kept (bound d) → m ≡ kept (length (member_list d)) → n ≡ or_default s b → own ≡ kept (set_own (out-Repr x).kind v l n m) → has_slots (out-Repr x).kind ≡ false
    → own ≡ kept (counted_set (pure_repr x) s d v l)
set_leaf x s d v l b m n own eb em en eo h =
    set-leaf (out-Repr x).kind (reprs_of (map pure_repr (out-Repr x).children)) s d v l b m n own eb em en eo h
    ∙ ap (λ q. kept (counted_set q s d v l)) (sym (pure_repr_is x))

-- What is kept of the size serves.
pub set-same : (r : pure.Repr) (s : Option ℕ) (d : Domain) (v l : ℕ) → kept (counted_set r (option_map kept s) d v l) ≡ kept (counted_set r s d v l)
set-same (pure.repr k rs) s d v l =
    let n = or_default (option_map kept s) (bound d) in
    let N = or_default s (bound d) in
    let m = length (member_list d) in
    let same : kept n ≡ kept N = size-same s (bound d) in
    sum-same (set_own k v l n m) (if has_slots k then counted_children rs (d ∷ []) (v * n) (greater l n) else 0)
    (set_own k v l N m) (if has_slots k then counted_children rs (d ∷ []) (v * N) (greater l N) else 0)
    (set-own-same k v l n m N m same refl)
    (go (has_slots k) (counted_children rs (d ∷ []) (v * n) (greater l n)) (counted_children rs (d ∷ []) (v * N) (greater l N)) (children-same rs (d ∷ []) (v * n) (v * N) (greater l n) (greater l N) (product-same v n v N refl same) (greater-same l n l N refl same)))
  where
    go : (t : Bool) (a b : ℕ) → kept a ≡ kept b → kept (if t then a else 0) ≡ kept (if t then b else 0)
    go true a b e = e
    go false a b e = refl

-- A set over d.
pub set_form : (x : Repr) (ks : List Attribute) (d : Domain) (v l r : ℕ) → r ≡ kept (counted_set (pure_repr x) (option_map kept (greatest_size ks)) d v l) → r ≡ kept (counted (pure_repr x) (sets ks d) v l)
set_form x ks d v l r e = e ∙ set-same (pure_repr x) (greatest_size ks) d v l ∙ ap kept (sym (set-counted (pure_repr x) ks d v l))
