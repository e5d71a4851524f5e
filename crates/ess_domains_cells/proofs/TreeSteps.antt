-- The steps by which code counts the cells of a representation's tree.
use Rattle.std.proofs.Common.{◌≡◌, refl, sym, ap, ◌∙◌, ℕ, ◌+◌, ◌*◌, ◌^◌, ◌<◌, Bool, true, false, if◌then◌else◌, List, [], ◌∷◌, length, map, get_or, Option, arith}
use Rattle.ess_semantics.specs.declared.words.ReprKind.{ReprKind}
use Rattle.ess_semantics.specs.Values.{Text}
use Rattle.ess_semantics.specs.Lists.{or_default}
use Rattle.ess_semantics.specs.Trees as pure
use Rattle.ess_semantics.specs.Choice.{reprs_of}
use Rattle.ess_semantics.specs.Domains as domains
use Rattle.ess_semantics.specs.Domains.{Domain, Domains, tuples, functions, relations, partitions, no_domains, more_domains, domain_list, member_list}
use Rattle.ess_semantics.specs.Sizes.{bound}
use Rattle.ess_core.specs.declared.representations.Repr.{Repr}
use Rattle.ess_core.specs.declared.representations.Repr.TheViews.{out-Repr}
use Rattle.ess_core.specs.TreeViews.{pure_repr}
use Rattle.ess_core.proofs.RepresentationEquations.{pure_repr_is}
use Rattle.ess_domains_cells.specs.Kept.{kept, greater}
use Rattle.ess_domains_cells.specs.Products.{member_product}
use Rattle.ess_domains_cells.specs.Counted.{counted, counted_children}
use Rattle.ess_domains_cells.specs.LayerCounts.{longest_members, set_own, has_slots, counted_set, first_set, counted_sets, mset_own, has_mset_slots, counted_mset, counted_relation}
use Rattle.ess_domains_cells.specs.KindCounts.{is_tuple_kind, is_record_kind, is_matrix_kind, first_relation, first_sets}
use Rattle.ess_domains_cells.proofs.KeptNumbers.{kept_twice}
use Rattle.ess_domains_cells.proofs.CountsKept.{product-same, greater-same, children-same}
use Rattle.ess_domains_cells.proofs.KindForms.{kind-of, kids-of, tuple-counted, record-counted, matrix-counted}
use Rattle.ess_domains_cells.proofs.LayerForms.{no-children}
use Rattle.ess_domains_cells.proofs.LayerSteps.{below-axis, slotted, unslotted, sum-kept, set-own-same, mset-own-same, slots-same}
use Rattle.ess_domains_cells.proofs.SizeSteps.{first-behind-same}

-- Several trees of the code.
abbrev pub kids : List Repr → pure.Reprs
kids rs = reprs_of (map pure_repr rs)

pub kind-is : (x : Repr) → kind-of (pure_repr x) ≡ (out-Repr x).kind
kind-is x = ap kind-of (pure_repr_is x)

pub kids-are : (x : Repr) → kids-of (pure_repr x) ≡ kids (out-Repr x).children
kids-are x = ap kids-of (pure_repr_is x)

chosen-yes : (t : Bool) (a : ℕ) → t ≡ true → kept a ≡ kept (if t then a else 0)
chosen-yes t a h = sym (ap (λ b. kept (if b then a else 0)) h)

chosen-no : (t : Bool) (a : ℕ) → t ≡ false → 0 ≡ kept (if t then a else 0)
chosen-no t a h = sym (ap (λ b. kept (if b then a else 0)) h)

-- ---- children

pub kids_none : (rs : List Repr) (ds : List Domain) (v l : ℕ) → length rs ≡ 0 → 0 ≡ kept (counted_children (kids rs) ds v l)
kids_none [] ds v l h = refl
kids_none (r ∷ rs) ds v l h = cc

pub kids_first : (rs : List Repr) (x e : Repr) (d : Domain) (v l r : ℕ) → 0 < length rs → x ≡ get_or rs 0 e → r ≡ kept (counted (pure_repr x) d v l)
    → r ≡ kept (counted_children (kids rs) (d ∷ []) v l)
kids_first [] x e d v l r h i p = absurd (omega arith)
kids_first (y ∷ rs) x e d v l r h i p =
    let z : counted (pure_repr y) d v l + 0 ≡ counted (pure_repr y) d v l = omega arith in
    p ∙ ap (λ q. kept (counted (pure_repr q) d v l)) i ∙ ap kept (sym (ap (λ n. counted (pure_repr y) d v l + n) (no-children (kids rs) v l) ∙ z))

-- One of two children.
pub kids_one : (rs : List Repr) (x e : Repr) (d c : Domain) (v l r : ℕ) → length rs ≡ 1 → x ≡ get_or rs 0 e → r ≡ kept (counted (pure_repr x) d v l)
    → r ≡ kept (counted_children (kids rs) (d ∷ c ∷ []) v l)
kids_one [] x e d c v l r h i p = cc
kids_one (y ∷ []) x e d c v l r h i p =
    let z : counted (pure_repr y) d v l + 0 ≡ counted (pure_repr y) d v l = omega arith in
    p ∙ ap (λ q. kept (counted (pure_repr q) d v l)) i ∙ ap kept (sym z)
kids_one (y ∷ z ∷ rs) x e d c v l r h i p = absurd (omega arith)

-- Both children.
pub kids_both : (rs : List Repr) (x y e f : Repr) (d c : Domain) (v l a b r : ℕ) → 1 < length rs → x ≡ get_or rs 0 e → y ≡ get_or rs 1 f
    → a ≡ kept (counted (pure_repr x) d v l) → b ≡ kept (counted (pure_repr y) c v l) → r ≡ kept (a + b) → r ≡ kept (counted_children (kids rs) (d ∷ c ∷ []) v l)
kids_both [] x y e f d c v l a b r h i j p q g = absurd (omega arith)
kids_both (w ∷ []) x y e f d c v l a b r h i j p q g = absurd (omega arith)
kids_both (w ∷ z ∷ rs) x y e f d c v l a b r h i j p q g =
    let n : counted (pure_repr z) c v l + 0 ≡ counted (pure_repr z) c v l = omega arith in
    sum-kept a b (counted (pure_repr w) d v l) (counted (pure_repr z) c v l) r
    (p ∙ ap (λ q. kept (counted (pure_repr q) d v l)) i) (q ∙ ap (λ q. kept (counted (pure_repr q) c v l)) j) g
    ∙ ap (λ m. kept (counted (pure_repr w) d v l + m)) (sym (ap (λ k. counted (pure_repr z) c v l + k) (no-children (kids rs) v l) ∙ n))

pub set_none : (rs : List Repr) (s : Option ℕ) (d : Domain) (v l : ℕ) → length rs ≡ 0 → 0 ≡ kept (first_set (kids rs) s d v l)
set_none [] s d v l h = refl
set_none (r ∷ rs) s d v l h = cc

pub set_first : (rs : List Repr) (x e : Repr) (s : Option ℕ) (d : Domain) (v l r : ℕ) → 0 < length rs → x ≡ get_or rs 0 e → r ≡ kept (counted_set (pure_repr x) s d v l)
    → r ≡ kept (first_set (kids rs) s d v l)
set_first [] x e s d v l r h i p = absurd (omega arith)
set_first (y ∷ rs) x e s d v l r h i p = p ∙ ap (λ q. kept (counted_set (pure_repr q) s d v l)) i

pub relation_none : (rs : List Repr) (s : Option ℕ) (ds : Domains) (v l : ℕ) → length rs ≡ 0 → 0 ≡ kept (first_relation (kids rs) s ds v l)
relation_none [] s ds v l h = refl
relation_none (r ∷ rs) s ds v l h = cc

pub relation_first : (rs : List Repr) (x e : Repr) (s : Option ℕ) (ds : Domains) (v l r : ℕ) → 0 < length rs → x ≡ get_or rs 0 e → r ≡ kept (counted_relation (pure_repr x) s ds v l)
    → r ≡ kept (first_relation (kids rs) s ds v l)
relation_first [] x e s ds v l r h i p = absurd (omega arith)
relation_first (y ∷ rs) x e s ds v l r h i p = p ∙ ap (λ q. kept (counted_relation (pure_repr q) s ds v l)) i

pub sets_none : (rs : List Repr) (s t : Option ℕ) (d : Domain) (v l : ℕ) → length rs ≡ 0 → 0 ≡ kept (first_sets (kids rs) s t d v l)
sets_none [] s t d v l h = refl
sets_none (r ∷ rs) s t d v l h = cc

pub sets_first : (rs : List Repr) (x e : Repr) (s t : Option ℕ) (d : Domain) (v l r : ℕ) → 0 < length rs → x ≡ get_or rs 0 e → r ≡ kept (counted_sets (pure_repr x) s t d v l)
    → r ≡ kept (first_sets (kids rs) s t d v l)
sets_first [] x e s t d v l r h i p = absurd (omega arith)
sets_first (y ∷ rs) x e s t d v l r h i p = p ∙ ap (λ q. kept (counted_sets (pure_repr q) s t d v l)) i

-- A child of tuples.
pub tuple_first : (rs : List Repr) (x e : Repr) (ds : Domains) (v l r : ℕ) → 0 < length rs → x ≡ get_or rs 0 e → r ≡ kept (counted (pure_repr x) (tuples ds) v l)
    → r ≡ kept (counted_children (kids rs) (tuples ds ∷ []) v l)
tuple_first rs x e ds v l r h i p = kids_first rs x e (tuples ds) v l r h i p

-- ---- forms

pub tuple_yes : (x : Repr) (ds : Domains) (v l r : ℕ) → is_tuple_kind (out-Repr x).kind ≡ true → r ≡ kept (counted_children (kids (out-Repr x).children) (domain_list ds) v l)
    → r ≡ kept (counted (pure_repr x) (tuples ds) v l)
tuple_yes x ds v l r h p =
    p ∙ ap (λ q. kept (counted_children q (domain_list ds) v l)) (sym (kids-are x))
    ∙ chosen-yes (is_tuple_kind (kind-of (pure_repr x))) (counted_children (kids-of (pure_repr x)) (domain_list ds) v l) (ap is_tuple_kind (kind-is x) ∙ h)
    ∙ ap kept (sym (tuple-counted (pure_repr x) ds v l))

pub tuple_no : (x : Repr) (ds : Domains) (v l : ℕ) → is_tuple_kind (out-Repr x).kind ≡ false → 0 ≡ kept (counted (pure_repr x) (tuples ds) v l)
tuple_no x ds v l h =
    chosen-no (is_tuple_kind (kind-of (pure_repr x))) (counted_children (kids-of (pure_repr x)) (domain_list ds) v l) (ap is_tuple_kind (kind-is x) ∙ h)
    ∙ ap kept (sym (tuple-counted (pure_repr x) ds v l))

pub record_yes : (x : Repr) (fs : List Text) (ds : Domains) (v l r : ℕ) → is_record_kind (out-Repr x).kind ≡ true → r ≡ kept (counted_children (kids (out-Repr x).children) (domain_list ds) v l)
    → r ≡ kept (counted (pure_repr x) (domains.records fs ds) v l)
record_yes x fs ds v l r h p =
    p ∙ ap (λ q. kept (counted_children q (domain_list ds) v l)) (sym (kids-are x))
    ∙ chosen-yes (is_record_kind (kind-of (pure_repr x))) (counted_children (kids-of (pure_repr x)) (domain_list ds) v l) (ap is_record_kind (kind-is x) ∙ h)
    ∙ ap kept (sym (record-counted (pure_repr x) fs ds v l))

pub record_no : (x : Repr) (fs : List Text) (ds : Domains) (v l : ℕ) → is_record_kind (out-Repr x).kind ≡ false → 0 ≡ kept (counted (pure_repr x) (domains.records fs ds) v l)
record_no x fs ds v l h =
    chosen-no (is_record_kind (kind-of (pure_repr x))) (counted_children (kids-of (pure_repr x)) (domain_list ds) v l) (ap is_record_kind (kind-is x) ∙ h)
    ∙ ap kept (sym (record-counted (pure_repr x) fs ds v l))

below-axes : (rs : pure.Reprs) (es : List Domain) (v l p q P Q v' l' : ℕ) → p ≡ kept P → q ≡ kept Q → v' ≡ kept (v * p) → l' ≡ greater l q
    → kept (counted_children rs es v' l') ≡ kept (counted_children rs es (v * P) (greater l Q))
below-axes rs es v l p q P Q v' l' e f g k =
    children-same rs es v' (v * P) l' (greater l Q)
    (ap kept g ∙ kept_twice (v * p) ∙ product-same v p v P refl (ap kept e ∙ kept_twice P))
    (ap kept k ∙ greater-same l q l Q refl (ap kept f ∙ kept_twice Q))

pub matrix_yes : (x : Repr) (is : Domains) (d : Domain) (v l p q v' l' r : ℕ) → is_matrix_kind (out-Repr x).kind ≡ true → p ≡ kept (member_product is) → q ≡ kept (longest_members is)
    → v' ≡ kept (v * p) → l' ≡ greater l q → r ≡ kept (counted_children (kids (out-Repr x).children) (d ∷ []) v' l') → r ≡ kept (counted (pure_repr x) (domains.matrices is d) v l)
matrix_yes x is d v l p q v' l' r h e f g k a =
    a ∙ below-axes (kids (out-Repr x).children) (d ∷ []) v l p q (member_product is) (longest_members is) v' l' e f g k
    ∙ ap (λ z. kept (counted_children z (d ∷ []) (v * member_product is) (greater l (longest_members is)))) (sym (kids-are x))
    ∙ chosen-yes (is_matrix_kind (kind-of (pure_repr x))) (counted_children (kids-of (pure_repr x)) (d ∷ []) (v * member_product is) (greater l (longest_members is))) (ap is_matrix_kind (kind-is x) ∙ h)
    ∙ ap kept (sym (matrix-counted (pure_repr x) is d v l))

pub matrix_no : (x : Repr) (is : Domains) (d : Domain) (v l : ℕ) → is_matrix_kind (out-Repr x).kind ≡ false → 0 ≡ kept (counted (pure_repr x) (domains.matrices is d) v l)
matrix_no x is d v l h =
    chosen-no (is_matrix_kind (kind-of (pure_repr x))) (counted_children (kids-of (pure_repr x)) (d ∷ []) (v * member_product is) (greater l (longest_members is))) (ap is_matrix_kind (kind-is x) ∙ h)
    ∙ ap kept (sym (matrix-counted (pure_repr x) is d v l))

-- ---- multisets

mset-step : (k : ReprKind) (rs : pure.Reprs) (d : Domain) (v l m n own v' l' c r : ℕ)
    → m ≡ kept (length (member_list d)) → own ≡ kept (mset_own k v l n m) → has_mset_slots k ≡ true
    → v' ≡ kept (v * n) → l' ≡ greater l n → c ≡ kept (counted_children rs (d ∷ []) v' l') → r ≡ kept (own + c) → r ≡ kept (counted_mset (pure.repr k rs) n d v l)
mset-step k rs d v l m n own v' l' c r em eo h ev el ec er =
    let M = length (member_list d) in
    sum-kept own c (mset_own k v l n M) (counted_children rs (d ∷ []) (v * n) (greater l n)) r
    (eo ∙ mset-own-same k v l n m n M refl (ap kept em ∙ kept_twice M)) (ec ∙ below-axis rs (d ∷ []) v l n n v' l' refl ev el) er
    ∙ ap kept (sym (slotted (has_mset_slots k) (mset_own k v l n M) (counted_children rs (d ∷ []) (v * n) (greater l n)) h))

mset-leaf : (k : ReprKind) (rs : pure.Reprs) (d : Domain) (v l m n own : ℕ) → m ≡ kept (length (member_list d)) → own ≡ kept (mset_own k v l n m) → has_mset_slots k ≡ false
    → own ≡ kept (counted_mset (pure.repr k rs) n d v l)
mset-leaf k rs d v l m n own em eo h =
    let M = length (member_list d) in
    eo ∙ mset-own-same k v l n m n M refl (ap kept em ∙ kept_twice M)
    ∙ ap kept (sym (unslotted (has_mset_slots k) (mset_own k v l n M) (counted_children rs (d ∷ []) (v * n) (greater l n)) h))

pub mset_step : (x : Repr) (d : Domain) (v l m n own v' l' c r : ℕ)
    → m ≡ kept (length (member_list d)) → own ≡ kept (mset_own (out-Repr x).kind v l n m) → has_mset_slots (out-Repr x).kind ≡ true
    → v' ≡ kept (v * n) → l' ≡ greater l n → c ≡ kept (counted_children (kids (out-Repr x).children) (d ∷ []) v' l') → r ≡ kept (own + c) → r ≡ kept (counted_mset (pure_repr x) n d v l)
mset_step x d v l m n own v' l' c r em eo h ev el ec er =
    mset-step (out-Repr x).kind (kids (out-Repr x).children) d v l m n own v' l' c r em eo h ev el ec er ∙ ap (λ q. kept (counted_mset q n d v l)) (sym (pure_repr_is x))

pub mset_leaf : (x : Repr) (d : Domain) (v l m n own : ℕ) → m ≡ kept (length (member_list d)) → own ≡ kept (mset_own (out-Repr x).kind v l n m) → has_mset_slots (out-Repr x).kind ≡ false
    → own ≡ kept (counted_mset (pure_repr x) n d v l)
mset_leaf x d v l m n own em eo h =
    mset-leaf (out-Repr x).kind (kids (out-Repr x).children) d v l m n own em eo h ∙ ap (λ q. kept (counted_mset q n d v l)) (sym (pure_repr_is x))

-- ---- sets of sets

sets-step : (k : ReprKind) (rs : pure.Reprs) (s t : Option ℕ) (d : Domain) (v l b n own v' l' c r : ℕ)
    → b ≡ kept (2 ^ bound d) → n ≡ or_default s b → own ≡ kept (set_own k v l n 0) → has_slots k ≡ true
    → v' ≡ kept (v * n) → l' ≡ greater l n → c ≡ kept (first_set rs t d v' l') → r ≡ kept (own + c) → r ≡ kept (counted_sets (pure.repr k rs) s t d v l)
sets-step k rs s t d v l b n own v' l' c r eb en eo h ev el ec er =
    let N = or_default s (2 ^ bound d) in
    let same : kept n ≡ kept N = ap kept en ∙ slots-same s b (2 ^ bound d) eb in
    sum-kept own c (set_own k v l N 0) (first_set rs t d (v * N) (greater l N)) r
    (eo ∙ set-own-same k v l n 0 N 0 same refl)
    (ec ∙ first-behind-same rs t d v' (v * N) l' (greater l N) (ap kept ev ∙ kept_twice (v * n) ∙ product-same v n v N refl same) (ap kept el ∙ greater-same l n l N refl same)) er
    ∙ ap kept (sym (slotted (has_slots k) (set_own k v l N 0) (first_set rs t d (v * N) (greater l N)) h))

sets-leaf : (k : ReprKind) (rs : pure.Reprs) (s t : Option ℕ) (d : Domain) (v l b n own : ℕ)
    → b ≡ kept (2 ^ bound d) → n ≡ or_default s b → own ≡ kept (set_own k v l n 0) → has_slots k ≡ false → own ≡ kept (counted_sets (pure.repr k rs) s t d v l)
sets-leaf k rs s t d v l b n own eb en eo h =
    let N = or_default s (2 ^ bound d) in
    let same : kept n ≡ kept N = ap kept en ∙ slots-same s b (2 ^ bound d) eb in
    eo ∙ set-own-same k v l n 0 N 0 same refl ∙ ap kept (sym (unslotted (has_slots k) (set_own k v l N 0) (first_set rs t d (v * N) (greater l N)) h))

pub sets_step : (x : Repr) (s t : Option ℕ) (d : Domain) (v l b n own v' l' c r : ℕ)
    → b ≡ kept (2 ^ bound d) → n ≡ or_default s b → own ≡ kept (set_own (out-Repr x).kind v l n 0) → has_slots (out-Repr x).kind ≡ true
    → v' ≡ kept (v * n) → l' ≡ greater l n → c ≡ kept (first_set (kids (out-Repr x).children) t d v' l') → r ≡ kept (own + c) → r ≡ kept (counted_sets (pure_repr x) s t d v l)
sets_step x s t d v l b n own v' l' c r eb en eo h ev el ec er =
    sets-step (out-Repr x).kind (kids (out-Repr x).children) s t d v l b n own v' l' c r eb en eo h ev el ec er ∙ ap (λ q. kept (counted_sets q s t d v l)) (sym (pure_repr_is x))

pub sets_leaf : (x : Repr) (s t : Option ℕ) (d : Domain) (v l b n own : ℕ)
    → b ≡ kept (2 ^ bound d) → n ≡ or_default s b → own ≡ kept (set_own (out-Repr x).kind v l n 0) → has_slots (out-Repr x).kind ≡ false → own ≡ kept (counted_sets (pure_repr x) s t d v l)
sets_leaf x s t d v l b n own eb en eo h =
    sets-leaf (out-Repr x).kind (kids (out-Repr x).children) s t d v l b n own eb en eo h ∙ ap (λ q. kept (counted_sets q s t d v l)) (sym (pure_repr_is x))

-- A pair.
pub pair_yes : (x : Repr) (d e : Domain) (v l r : ℕ) → is_tuple_kind (out-Repr x).kind ≡ true → r ≡ kept (counted_children (kids (out-Repr x).children) (d ∷ e ∷ []) v l)
    → r ≡ kept (counted (pure_repr x) (tuples (more_domains d (more_domains e no_domains))) v l)
pair_yes x d e v l r h p = tuple_yes x (more_domains d (more_domains e no_domains)) v l r h p
