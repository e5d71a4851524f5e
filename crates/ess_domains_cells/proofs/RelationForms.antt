-- Cells of relations and partitions, from what their representation has.
use Rattle.std.proofs.Common.{◌≡◌, refl, sym, ap, ◌∙◌, ℕ, ◌+◌, ◌*◌, ◌^◌, true, false, if◌then◌else◌, List, [], ◌∷◌, length, Option, option_map}
use Rattle.std.proofs.Math.Nat.{mul-one}
use Rattle.ess_semantics.specs.declared.words.ReprKind.{ReprKind}
use Rattle.ess_semantics.specs.Lists.{or_default}
use Rattle.ess_semantics.specs.Trees as pure
use Rattle.ess_semantics.specs.Domains as domains
use Rattle.ess_semantics.specs.Domains.{Domain, Domains, tuples, functions, relations, partitions, no_domains, more_domains, domain_list, member_list}
use Rattle.ess_semantics.specs.Sizes.{bound, product_bound}
use Rattle.ess_core.specs.declared.representations.Repr.{Repr}
use Rattle.ess_core.specs.declared.representations.Repr.TheViews.{out-Repr}
use Rattle.ess_core.specs.TreeViews.{pure_repr}
use Rattle.ess_domains_cells.specs.Kept.{kept, greater}
use Rattle.ess_domains_cells.specs.Products.{member_product}
use Rattle.ess_domains_cells.specs.Counted.{counted, counted_children}
use Rattle.ess_domains_cells.specs.LayerCounts.{table, table_over, longest_members, set_own, has_slots, counted_set, first_set, counted_sets, counted_relation}
use Rattle.ess_domains_cells.specs.KindCounts.{is_relation_table, is_relation_set, is_partition_table, is_partition_set, parts_size, part_size, first_sets}
use Rattle.ess_domains_cells.proofs.KeptNumbers.{kept_twice}
use Rattle.ess_domains_cells.proofs.CountsKept.{product-same, greater-same}
use Rattle.ess_domains_cells.proofs.KindForms.{kind-of, kids-of}
use Rattle.ess_domains_cells.proofs.PartKinds.{partition-counted}
use Rattle.ess_domains_cells.proofs.LayerForms.{greater-0}
use Rattle.ess_domains_cells.proofs.LayerSteps.{table-same, set_step, set_leaf, sum-kept}
use Rattle.ess_domains_cells.proofs.BoundForms.{exponent-kept}
use Rattle.ess_domains_cells.proofs.MemberCounts.{tuples-length}
use Rattle.ess_domains_cells.proofs.SizeSteps.{first-sets-same}
use Rattle.ess_domains_cells.proofs.TreeSteps.{kids, kind-is, kids-are, sets_step, sets_leaf}

-- ---- relations

relation-table : (r : pure.Repr) (s : Option ℕ) (ds : Domains) (v l : ℕ) → is_relation_table (kind-of r) ≡ true → counted_relation r s ds v l ≡ table_over v l ds
relation-table (pure.repr ReprKind.Atom rs) s ds v l h = cc
relation-table (pure.repr ReprKind.Tuple rs) s ds v l h = cc
relation-table (pure.repr ReprKind.Rec rs) s ds v l h = cc
relation-table (pure.repr ReprKind.Matrix rs) s ds v l h = cc
relation-table (pure.repr ReprKind.Occurrence rs) s ds v l h = cc
relation-table (pure.repr ReprKind.Explicit rs) s ds v l h = cc
relation-table (pure.repr ReprKind.ExplicitVarSizeWithMarker rs) s ds v l h = cc
relation-table (pure.repr ReprKind.ExplicitVarSizeWithFlags rs) s ds v l h = cc
relation-table (pure.repr ReprKind.ExplicitVarSizeWithDummy rs) s ds v l h = cc
relation-table (pure.repr ReprKind.MSetOccurrence rs) s ds v l h = cc
relation-table (pure.repr ReprKind.MSetExplicitWithRepetition rs) s ds v l h = cc
relation-table (pure.repr ReprKind.MSetExplicitWithFlags rs) s ds v l h = cc
relation-table (pure.repr ReprKind.Function1D rs) s ds v l h = cc
relation-table (pure.repr ReprKind.Function1DPartial rs) s ds v l h = cc
relation-table (pure.repr ReprKind.FunctionND rs) s ds v l h = cc
relation-table (pure.repr ReprKind.FunctionNDPartial rs) s ds v l h = cc
relation-table (pure.repr ReprKind.FunctionAsRelation rs) s ds v l h = cc
relation-table (pure.repr ReprKind.RelationAsMatrix rs) s ds v l h = refl
relation-table (pure.repr ReprKind.RelationAsSet rs) s ds v l h = cc
relation-table (pure.repr ReprKind.PartitionOccurrence rs) s ds v l h = cc
relation-table (pure.repr ReprKind.PartitionAsSet rs) s ds v l h = cc

relation-set : (r : pure.Repr) (s : Option ℕ) (ds : Domains) (v l : ℕ) → is_relation_set (kind-of r) ≡ true → counted_relation r s ds v l ≡ first_set (kids-of r) s (tuples ds) v l
relation-set (pure.repr ReprKind.Atom rs) s ds v l h = cc
relation-set (pure.repr ReprKind.Tuple rs) s ds v l h = cc
relation-set (pure.repr ReprKind.Rec rs) s ds v l h = cc
relation-set (pure.repr ReprKind.Matrix rs) s ds v l h = cc
relation-set (pure.repr ReprKind.Occurrence rs) s ds v l h = cc
relation-set (pure.repr ReprKind.Explicit rs) s ds v l h = cc
relation-set (pure.repr ReprKind.ExplicitVarSizeWithMarker rs) s ds v l h = cc
relation-set (pure.repr ReprKind.ExplicitVarSizeWithFlags rs) s ds v l h = cc
relation-set (pure.repr ReprKind.ExplicitVarSizeWithDummy rs) s ds v l h = cc
relation-set (pure.repr ReprKind.MSetOccurrence rs) s ds v l h = cc
relation-set (pure.repr ReprKind.MSetExplicitWithRepetition rs) s ds v l h = cc
relation-set (pure.repr ReprKind.MSetExplicitWithFlags rs) s ds v l h = cc
relation-set (pure.repr ReprKind.Function1D rs) s ds v l h = cc
relation-set (pure.repr ReprKind.Function1DPartial rs) s ds v l h = cc
relation-set (pure.repr ReprKind.FunctionND rs) s ds v l h = cc
relation-set (pure.repr ReprKind.FunctionNDPartial rs) s ds v l h = cc
relation-set (pure.repr ReprKind.FunctionAsRelation rs) s ds v l h = cc
relation-set (pure.repr ReprKind.RelationAsMatrix rs) s ds v l h = cc
relation-set (pure.repr ReprKind.RelationAsSet rs) s ds v l h = refl
relation-set (pure.repr ReprKind.PartitionOccurrence rs) s ds v l h = cc
relation-set (pure.repr ReprKind.PartitionAsSet rs) s ds v l h = cc

relation-other : (r : pure.Repr) (s : Option ℕ) (ds : Domains) (v l : ℕ) → is_relation_table (kind-of r) ≡ false → is_relation_set (kind-of r) ≡ false → counted_relation r s ds v l ≡ 0
relation-other (pure.repr ReprKind.Atom rs) s ds v l h u = refl
relation-other (pure.repr ReprKind.Tuple rs) s ds v l h u = refl
relation-other (pure.repr ReprKind.Rec rs) s ds v l h u = refl
relation-other (pure.repr ReprKind.Matrix rs) s ds v l h u = refl
relation-other (pure.repr ReprKind.Occurrence rs) s ds v l h u = refl
relation-other (pure.repr ReprKind.Explicit rs) s ds v l h u = refl
relation-other (pure.repr ReprKind.ExplicitVarSizeWithMarker rs) s ds v l h u = refl
relation-other (pure.repr ReprKind.ExplicitVarSizeWithFlags rs) s ds v l h u = refl
relation-other (pure.repr ReprKind.ExplicitVarSizeWithDummy rs) s ds v l h u = refl
relation-other (pure.repr ReprKind.MSetOccurrence rs) s ds v l h u = refl
relation-other (pure.repr ReprKind.MSetExplicitWithRepetition rs) s ds v l h u = refl
relation-other (pure.repr ReprKind.MSetExplicitWithFlags rs) s ds v l h u = refl
relation-other (pure.repr ReprKind.Function1D rs) s ds v l h u = refl
relation-other (pure.repr ReprKind.Function1DPartial rs) s ds v l h u = refl
relation-other (pure.repr ReprKind.FunctionND rs) s ds v l h u = refl
relation-other (pure.repr ReprKind.FunctionNDPartial rs) s ds v l h u = refl
relation-other (pure.repr ReprKind.FunctionAsRelation rs) s ds v l h u = refl
relation-other (pure.repr ReprKind.RelationAsMatrix rs) s ds v l h u = cc
relation-other (pure.repr ReprKind.RelationAsSet rs) s ds v l h u = cc
relation-other (pure.repr ReprKind.PartitionOccurrence rs) s ds v l h u = refl
relation-other (pure.repr ReprKind.PartitionAsSet rs) s ds v l h u = refl

table-any : (x : Repr) (s : Option ℕ) (ds : Domains) (v l p q w h g r : ℕ) → is_relation_table (out-Repr x).kind ≡ true → kept p ≡ kept (member_product ds) → w ≡ kept (v * p)
    → kept q ≡ kept (longest_members ds) → h ≡ greater l q → g ≡ greater w h → r ≡ kept g → r ≡ kept (counted_relation (pure_repr x) s ds v l)
table-any x s ds v l p q w h g r t ep ew eq eh eg er =
    er ∙ ap kept eg
    ∙ greater-same w h (v * member_product ds) (greater l (longest_members ds))
    (ap kept ew ∙ kept_twice (v * p) ∙ product-same v p v (member_product ds) refl ep)
    (ap kept eh ∙ greater-same l q l (longest_members ds) refl eq)
    ∙ ap kept (sym (relation-table (pure_repr x) s ds v l (ap is_relation_table (kind-is x) ∙ t)))

pub table_relation : (x : Repr) (s : Option ℕ) (ds : Domains) (v l p q w h g r : ℕ) → is_relation_table (out-Repr x).kind ≡ true → p ≡ kept (member_product ds) → w ≡ kept (v * p)
    → q ≡ kept (longest_members ds) → h ≡ greater l q → g ≡ greater w h → r ≡ kept g → r ≡ kept (counted_relation (pure_repr x) s ds v l)
table_relation x s ds v l p q w h g r t ep ew eq eh eg er =
    table-any x s ds v l p q w h g r t (ap kept ep ∙ kept_twice (member_product ds)) ew (ap kept eq ∙ kept_twice (longest_members ds)) eh eg er

pair-product : (a b A B : ℕ) → a ≡ kept A → b ≡ kept B → kept (a * b) ≡ kept (A * (B * 1))
pair-product a b A B e f =
    product-same a b A B (ap kept e ∙ kept_twice A) (ap kept f ∙ kept_twice B) ∙ ap (λ n. kept (A * n)) (sym (mul-one B))

pub table_pairs : (x : Repr) (s : Option ℕ) (d c : Domain) (v l a b p q w h g r : ℕ) → is_relation_table (out-Repr x).kind ≡ true
    → a ≡ kept (length (member_list d)) → b ≡ kept (length (member_list c)) → p ≡ kept (a * b) → w ≡ kept (v * p)
    → q ≡ greater a b → h ≡ greater l q → g ≡ greater w h → r ≡ kept g → r ≡ kept (counted_relation (pure_repr x) s (more_domains d (more_domains c no_domains)) v l)
table_pairs x s d c v l a b p q w h g r t ea eb ep ew eq eh eg er =
    let M = length (member_list d) in
    let N = length (member_list c) in
    table-any x s (more_domains d (more_domains c no_domains)) v l p q w h g r t
    (ap kept ep ∙ kept_twice (a * b) ∙ pair-product a b M N ea eb) ew
    (ap kept eq ∙ greater-same a b M (greater N 0) (ap kept ea ∙ kept_twice M) (ap kept eb ∙ kept_twice N ∙ ap kept (sym (greater-0 N)))) eh eg er

pub set_relation : (x : Repr) (s : Option ℕ) (ds : Domains) (v l r : ℕ) → is_relation_set (out-Repr x).kind ≡ true → r ≡ kept (first_set (kids (out-Repr x).children) s (tuples ds) v l)
    → r ≡ kept (counted_relation (pure_repr x) s ds v l)
set_relation x s ds v l r t p =
    p ∙ ap (λ q. kept (first_set q s (tuples ds) v l)) (sym (kids-are x)) ∙ ap kept (sym (relation-set (pure_repr x) s ds v l (ap is_relation_set (kind-is x) ∙ t)))

pub other_relation : (x : Repr) (s : Option ℕ) (ds : Domains) (v l : ℕ) → is_relation_table (out-Repr x).kind ≡ false → is_relation_set (out-Repr x).kind ≡ false
    → 0 ≡ kept (counted_relation (pure_repr x) s ds v l)
other_relation x s ds v l t u =
    ap kept (sym (relation-other (pure_repr x) s ds v l (ap is_relation_table (kind-is x) ∙ t) (ap is_relation_set (kind-is x) ∙ u)))

-- ---- sets of tuples

pub tuple_set_step : (x : Repr) (s : Option ℕ) (ds : Domains) (v l b m n own v' l' c r : ℕ)
    → b ≡ kept (product_bound ds) → m ≡ kept (member_product ds) → n ≡ or_default s b → own ≡ kept (set_own (out-Repr x).kind v l n m) → has_slots (out-Repr x).kind ≡ true
    → v' ≡ kept (v * n) → l' ≡ greater l n → c ≡ kept (counted_children (kids (out-Repr x).children) (tuples ds ∷ []) v' l') → r ≡ kept (own + c)
    → r ≡ kept (counted_set (pure_repr x) s (tuples ds) v l)
tuple_set_step x s ds v l b m n own v' l' c r eb em en eo h ev el ec er =
    set_step x s (tuples ds) v l b m n own v' l' c r eb (em ∙ ap kept (sym (tuples-length ds))) en eo h ev el ec er

pub tuple_set_leaf : (x : Repr) (s : Option ℕ) (ds : Domains) (v l b m n own : ℕ)
    → b ≡ kept (product_bound ds) → m ≡ kept (member_product ds) → n ≡ or_default s b → own ≡ kept (set_own (out-Repr x).kind v l n m) → has_slots (out-Repr x).kind ≡ false
    → own ≡ kept (counted_set (pure_repr x) s (tuples ds) v l)
tuple_set_leaf x s ds v l b m n own eb em en eo h = set_leaf x s (tuples ds) v l b m n own eb (em ∙ ap kept (sym (tuples-length ds))) en eo h

pub pair_set_step : (x : Repr) (s : Option ℕ) (d e : Domain) (v l p q b i j m n own v' l' c r : ℕ)
    → p ≡ kept (bound d) → q ≡ kept (bound e) → b ≡ kept (p * q) → i ≡ kept (length (member_list d)) → j ≡ kept (length (member_list e)) → m ≡ kept (i * j)
    → n ≡ or_default s b → own ≡ kept (set_own (out-Repr x).kind v l n m) → has_slots (out-Repr x).kind ≡ true
    → v' ≡ kept (v * n) → l' ≡ greater l n → c ≡ kept (counted_children (kids (out-Repr x).children) (tuples (more_domains d (more_domains e no_domains)) ∷ []) v' l') → r ≡ kept (own + c)
    → r ≡ kept (counted_set (pure_repr x) s (tuples (more_domains d (more_domains e no_domains))) v l)
pair_set_step x s d e v l p q b i j m n own v' l' c r ep eq eb ei ej em en eo h ev el ec er =
    tuple_set_step x s (more_domains d (more_domains e no_domains)) v l b m n own v' l' c r
    (eb ∙ pair-product p q (bound d) (bound e) ep eq) (em ∙ pair-product i j (length (member_list d)) (length (member_list e)) ei ej) en eo h ev el ec er

pub pair_set_leaf : (x : Repr) (s : Option ℕ) (d e : Domain) (v l p q b i j m n own : ℕ)
    → p ≡ kept (bound d) → q ≡ kept (bound e) → b ≡ kept (p * q) → i ≡ kept (length (member_list d)) → j ≡ kept (length (member_list e)) → m ≡ kept (i * j)
    → n ≡ or_default s b → own ≡ kept (set_own (out-Repr x).kind v l n m) → has_slots (out-Repr x).kind ≡ false
    → own ≡ kept (counted_set (pure_repr x) s (tuples (more_domains d (more_domains e no_domains))) v l)
pair_set_leaf x s d e v l p q b i j m n own ep eq eb ei ej em en eo h =
    tuple_set_leaf x s (more_domains d (more_domains e no_domains)) v l b m n own
    (eb ∙ pair-product p q (bound d) (bound e) ep eq) (em ∙ pair-product i j (length (member_list d)) (length (member_list e)) ei ej) en eo h

-- ---- partitions

pub table_partition : (x : Repr) (ks : List domains.Attribute) (d : Domain) (v l m t a g r : ℕ) → is_partition_table (out-Repr x).kind ≡ true
    → m ≡ kept (length (member_list d)) → t ≡ kept (table v l m) → a ≡ greater v l → g ≡ kept a → r ≡ kept (g + t) → r ≡ kept (counted (pure_repr x) (partitions ks d) v l)
table_partition x ks d v l m t a g r h em et ea eg er =
    let M = length (member_list d) in
    sum-kept g t (greater v l) (table v l M) r (eg ∙ ap kept ea) (et ∙ table-same v l m M (ap kept em ∙ kept_twice M)) er
    ∙ ap (λ b. kept (if b then greater v l + table v l M else (if is_partition_set (kind-of (pure_repr x)) then first_sets (kids-of (pure_repr x)) (parts_size ks d) (part_size ks) d v l else 0)))
    (sym (ap is_partition_table (kind-is x) ∙ h))
    ∙ ap kept (sym (partition-counted (pure_repr x) ks d v l))

not-table : (x : Repr) (ks : List domains.Attribute) (d : Domain) (v l : ℕ) → is_partition_table (out-Repr x).kind ≡ false
    → counted (pure_repr x) (partitions ks d) v l ≡ (if is_partition_set (out-Repr x).kind then first_sets (kids (out-Repr x).children) (parts_size ks d) (part_size ks) d v l else 0)
not-table x ks d v l h =
    partition-counted (pure_repr x) ks d v l
    ∙ ap (λ b. if b then greater v l + table v l (length (member_list d)) else (if is_partition_set (kind-of (pure_repr x)) then first_sets (kids-of (pure_repr x)) (parts_size ks d) (part_size ks) d v l else 0))
    (ap is_partition_table (kind-is x) ∙ h)
    ∙ ap (λ k. if is_partition_set k then first_sets (kids-of (pure_repr x)) (parts_size ks d) (part_size ks) d v l else 0) (kind-is x)
    ∙ ap (λ q. if is_partition_set (out-Repr x).kind then first_sets q (parts_size ks d) (part_size ks) d v l else 0) (kids-are x)

pub set_partition : (x : Repr) (ks : List domains.Attribute) (d : Domain) (s t : Option ℕ) (v l r : ℕ) → is_partition_table (out-Repr x).kind ≡ false → is_partition_set (out-Repr x).kind ≡ true
    → s ≡ option_map kept (parts_size ks d) → t ≡ option_map kept (part_size ks) → r ≡ kept (first_sets (kids (out-Repr x).children) s t d v l) → r ≡ kept (counted (pure_repr x) (partitions ks d) v l)
set_partition x ks d s t v l r h u es et p =
    let rs = kids (out-Repr x).children in
    p ∙ ap (λ q. kept (first_sets rs q t d v l)) es ∙ ap (λ q. kept (first_sets rs (option_map kept (parts_size ks d)) q d v l)) et
    ∙ first-sets-same rs (parts_size ks d) (part_size ks) d v l
    ∙ ap (λ b. kept (if b then first_sets rs (parts_size ks d) (part_size ks) d v l else 0)) (sym u)
    ∙ ap kept (sym (not-table x ks d v l h))

pub other_partition : (x : Repr) (ks : List domains.Attribute) (d : Domain) (v l : ℕ) → is_partition_table (out-Repr x).kind ≡ false → is_partition_set (out-Repr x).kind ≡ false
    → 0 ≡ kept (counted (pure_repr x) (partitions ks d) v l)
other_partition x ks d v l h u =
    let rs = kids (out-Repr x).children in
    ap (λ b. kept (if b then first_sets rs (parts_size ks d) (part_size ks) d v l else 0)) (sym u) ∙ ap kept (sym (not-table x ks d v l h))

pub part_set_step : (x : Repr) (s t : Option ℕ) (d : Domain) (v l e b n own v' l' c r : ℕ)
    → e ≡ kept (bound d) → b ≡ kept (2 ^ e) → n ≡ or_default s b → own ≡ kept (set_own (out-Repr x).kind v l n 0) → has_slots (out-Repr x).kind ≡ true
    → v' ≡ kept (v * n) → l' ≡ greater l n → c ≡ kept (first_set (kids (out-Repr x).children) t d v' l') → r ≡ kept (own + c) → r ≡ kept (counted_sets (pure_repr x) s t d v l)
part_set_step x s t d v l e b n own v' l' c r ee eb en eo h ev el ec er =
    sets_step x s t d v l b n own v' l' c r (eb ∙ ap (λ m. kept (2 ^ m)) ee ∙ exponent-kept 2 (bound d)) en eo h ev el ec er

pub part_set_leaf : (x : Repr) (s t : Option ℕ) (d : Domain) (v l e b n own : ℕ)
    → e ≡ kept (bound d) → b ≡ kept (2 ^ e) → n ≡ or_default s b → own ≡ kept (set_own (out-Repr x).kind v l n 0) → has_slots (out-Repr x).kind ≡ false → own ≡ kept (counted_sets (pure_repr x) s t d v l)
part_set_leaf x s t d v l e b n own ee eb en eo h = sets_leaf x s t d v l b n own (eb ∙ ap (λ m. kept (2 ^ m)) ee ∙ exponent-kept 2 (bound d)) en eo h
