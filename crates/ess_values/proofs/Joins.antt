-- The join of types, part by part.
use Rattle.std.proofs.Common.{◌≡◌, refl, sym, ap, ◌∙◌, ℕ, zero, suc, ◌+◌, ◌<◌, ◌≤◌, Bool, true, false, eqb, if◌then◌else◌, List, [], ◌∷◌, ◌++◌, length, map, drop, get_or, Option, Some, None, option_map, arith}
use Rattle.std.proofs.lemmas.List.{at_drop_more, at_drop_all, map_push}
use Rattle.std.proofs.lemmas.Cmp.{tied_itself}
use Rattle.std.specs.Ordering.{is_eq, ordering_then}
use Rattle.std.specs.declared.cmp.Ordering.{Ordering}
use Rattle.std.specs.declared.cmp.Ordering.TheVariants.{Less, Equal, Greater}
use Rattle.ess_semantics.specs.Lists.{and_then, when}
use Rattle.ess_semantics.specs.Values as pure
use Rattle.ess_semantics.specs.Values.{Text, node, nil}
use Rattle.std.proofs.lemmas.Bool.{false≢true}
use Rattle.std.proofs.lemmas.Bool.Decides.{nat_tests}
use Rattle.ess_semantics.specs.Order.{same_kind, same_text, same_texts, order_text, order_texts, order_kind, kind_rank, kind_fields}
use Rattle.ess_semantics.specs.Types.{Ty, Tys, any_ty, bool_ty, int_ty, named_ty, compound, no_tys, more_tys, tys_of, is_relation, is_open, join, joins, join_all}
use Rattle.ess_semantics.proofs.Orders.{texts_total, order_exact, equal-of}
use Rattle.std.proofs.lemmas.Cmp.{nat_cmp_total}
use Rattle.ess_values.specs.Shapes.{pure_kind, pure_shape, pure_shapes, join_lists}
use Rattle.ess_values.specs.declared.shapes.Kind.{Kind}
use Rattle.ess_values.specs.declared.shapes.Shape.{Shape}
use Rattle.ess_values.specs.declared.shapes.Shape.TheVariants as variant
use Rattle.ess_values.proofs.Ahead.{ahead, ahead_all, ahead_one}
use Rattle.ess_values.proofs.ShapeEquations.{shape_node}

-- ---- one kind

both-equal : (o p : Ordering) → o ≡ Equal → p ≡ Equal → is_eq (ordering_then o p) ≡ true
both-equal o p d e = ap (λ q. is_eq (ordering_then q p)) d ∙ ap is_eq e

pub kind_itself : (k : pure.Kind) → same_kind k k ≡ true
kind_itself k = both-equal _ _ (tied_itself nat_cmp_total (kind_rank k)) (tied_itself texts_total (kind_fields k))

pub join_any : (t : Ty) → join t any_ty ≡ Some t
join_any any_ty = refl
join_any bool_ty = refl
join_any int_ty = refl
join_any (named_ty a) = refl
join_any (compound k ts) = refl

-- ---- lists of types in pairs

pub joins_lists : (ts us : List Ty) → joins (tys_of ts) (tys_of us) ≡ option_map tys_of (join_lists ts us)
joins_lists [] [] = refl
joins_lists [] (u ∷ us) = refl
joins_lists (t ∷ ts) [] = refl
joins_lists (t ∷ ts) (u ∷ us) = go (join t u) (joins_lists ts us)
  where
    inner : (v : Ty) (o : Option (List Ty)) (p : Option Tys) → p ≡ option_map tys_of o → option_map (more_tys v) p ≡ option_map tys_of (option_map (λ vs. v ∷ vs) o)
    inner v None p e = ap (option_map (more_tys v)) e
    inner v (Some vs) p e = ap (option_map (more_tys v)) e

    go : (o : Option Ty) → joins (tys_of ts) (tys_of us) ≡ option_map tys_of (join_lists ts us)
        → and_then o (λ v. option_map (more_tys v) (joins (tys_of ts) (tys_of us))) ≡ option_map tys_of (and_then o (λ v. option_map (λ vs. v ∷ vs) (join_lists ts us)))
    go None e = refl
    go (Some v) e = inner v (join_lists ts us) (joins (tys_of ts) (tys_of us)) e

-- ---- the join of two nodes of one kind

-- two types of one kind, neither of which is that of a relation of unknown arity
nodes_each : (k : pure.Kind) (ts us : List Ty) → is_open k (tys_of ts) ≡ false → is_open k (tys_of us) ≡ false →
    join (compound k (tys_of ts)) (compound k (tys_of us)) ≡ option_map (λ vs. compound k (tys_of vs)) (join_lists ts us)
nodes_each k ts us h i =
    ap (λ b. if b then option_map (compound k) (if is_open k (tys_of ts) then Some (tys_of us) else (if is_open k (tys_of us) then Some (tys_of ts) else joins (tys_of ts) (tys_of us))) else None) (kind_itself k)
    ∙ ap (λ b. option_map (compound k) (if b then Some (tys_of us) else (if is_open k (tys_of us) then Some (tys_of ts) else joins (tys_of ts) (tys_of us)))) h
    ∙ ap (λ b. option_map (compound k) (if b then Some (tys_of ts) else joins (tys_of ts) (tys_of us))) i
    ∙ ap (option_map (compound k)) (joins_lists ts us) ∙ inner (join_lists ts us)
  where
    inner : (o : Option (List Ty)) → option_map (compound k) (option_map tys_of o) ≡ option_map (λ vs. compound k (tys_of vs)) o
    inner None = refl
    inner (Some vs) = refl

node_first : (k : pure.Kind) (ts us : Tys) → is_open k ts ≡ true → join (compound k ts) (compound k us) ≡ Some (compound k us)
node_first k ts us h =
    ap (λ b. if b then option_map (compound k) (if is_open k ts then Some us else (if is_open k us then Some ts else joins ts us)) else None) (kind_itself k)
    ∙ ap (λ b. option_map (compound k) (if b then Some us else (if is_open k us then Some ts else joins ts us))) h

node_second : (k : pure.Kind) (ts us : Tys) → is_open k ts ≡ false → is_open k us ≡ true → join (compound k ts) (compound k us) ≡ Some (compound k ts)
node_second k ts us h i =
    ap (λ b. if b then option_map (compound k) (if is_open k ts then Some us else (if is_open k us then Some ts else joins ts us)) else None) (kind_itself k)
    ∙ ap (λ b. option_map (compound k) (if b then Some us else (if is_open k us then Some ts else joins ts us))) h
    ∙ ap (λ b. option_map (compound k) (if b then Some ts else joins ts us)) i

pub kinds_equal : (k l : pure.Kind) → same_kind k l ≡ true → k ≡ l
kinds_equal k l h = let e = order_exact (node k nil) (node l nil) (ap (λ o. ordering_then o Equal) (equal-of (order_kind k l) h)) in cc

pub nodes_of_one_kind : (k l : Kind) (xs ys : List Shape) → same_kind (pure_kind k) (pure_kind l) ≡ true
    → join (pure_shape (variant.Node k xs)) (pure_shape (variant.Node l ys)) ≡ join (compound (pure_kind k) (pure_shapes xs)) (compound (pure_kind k) (pure_shapes ys))
nodes_of_one_kind k l xs ys h =
    ap (λ t. join t (pure_shape (variant.Node l ys))) (shape_node k xs) ∙ ap (λ t. join (compound (pure_kind k) (pure_shapes xs)) t) (shape_node l ys)
    ∙ ap (λ m. join (compound (pure_kind k) (pure_shapes xs)) (compound m (pure_shapes ys))) (sym (kinds_equal (pure_kind k) (pure_kind l) h))

pub nil_of_test : {A : Type 0} (xs : List A) → eqb (length xs) 0 ≡ true → xs ≡ []
nil_of_test [] h = refl
nil_of_test (x ∷ xs) h = absurd (grind (arith, nat_tests))

-- whether the parts are those of a relation of unknown arity
pub open_relation : (k : Kind) (xs : List Shape) (b : Bool) → eqb (length xs) 0 ≡ true → b ≡ is_relation (pure_kind k) → b ≡ is_open (pure_kind k) (pure_shapes xs)
open_relation k [] b h e = e
open_relation k (x ∷ xs) b h e = absurd (grind (arith, nat_tests))

pub open_other : (k : Kind) (xs : List Shape) → eqb (length xs) 0 ≡ false → false ≡ is_open (pure_kind k) (pure_shapes xs)
open_other k [] h = absurd (false≢true (sym h))
open_other k (x ∷ xs) h = refl

-- the first is that of a relation of unknown arity
pub node_left : (k l : Kind) (xs ys zs : List Shape) → is_open (pure_kind k) (pure_shapes xs) ≡ true → l ≡ k → zs ≡ ys
    → Some (pure_shape (variant.Node l zs)) ≡ join (compound (pure_kind k) (pure_shapes xs)) (compound (pure_kind k) (pure_shapes ys))
node_left k l xs ys zs e p q =
    ap (λ m. Some (pure_shape (variant.Node m zs))) p ∙ ap (λ m. Some (pure_shape (variant.Node k m))) q
    ∙ sym (node_first (pure_kind k) (pure_shapes xs) (pure_shapes ys) e ∙ ap Some (sym (shape_node k ys)))

-- the second is
pub node_right : (k l : Kind) (xs ys zs : List Shape) → is_open (pure_kind k) (pure_shapes xs) ≡ false → is_open (pure_kind k) (pure_shapes ys) ≡ true → l ≡ k → zs ≡ xs
    → Some (pure_shape (variant.Node l zs)) ≡ join (compound (pure_kind k) (pure_shapes xs)) (compound (pure_kind k) (pure_shapes ys))
node_right k l xs ys zs d e p q =
    ap (λ m. Some (pure_shape (variant.Node m zs))) p ∙ ap (λ m. Some (pure_shape (variant.Node k m))) q
    ∙ sym (node_second (pure_kind k) (pure_shapes xs) (pure_shapes ys) d e ∙ ap Some (sym (shape_node k xs)))

-- neither is
pub node_each : (k l : Kind) (xs ys ps : List Shape) → is_open (pure_kind k) (pure_shapes xs) ≡ false → is_open (pure_kind k) (pure_shapes ys) ≡ false
    → join_lists (map pure_shape xs) (map pure_shape ys) ≡ Some (map pure_shape ps) → l ≡ k
    → Some (pure_shape (variant.Node l ps)) ≡ join (compound (pure_kind k) (pure_shapes xs)) (compound (pure_kind k) (pure_shapes ys))
node_each k l xs ys ps h i e p =
    ap (λ m. Some (pure_shape (variant.Node m ps))) p
    ∙ sym (nodes_each (pure_kind k) (map pure_shape xs) (map pure_shape ys) h i ∙ ap (option_map (λ vs. compound (pure_kind k) (tys_of vs))) e ∙ ap Some (sym (shape_node k ps)))

pub node_none : (k : Kind) (xs ys : List Shape) → is_open (pure_kind k) (pure_shapes xs) ≡ false → is_open (pure_kind k) (pure_shapes ys) ≡ false
    → join_lists (map pure_shape xs) (map pure_shape ys) ≡ None
    → join (compound (pure_kind k) (pure_shapes xs)) (compound (pure_kind k) (pure_shapes ys)) ≡ None
node_none k xs ys h i e = nodes_each (pure_kind k) (map pure_shape xs) (map pure_shape ys) h i ∙ ap (option_map (λ vs. compound (pure_kind k) (tys_of vs))) e

-- ---- the loop over pairs

-- The joins of what is left of two lists.
abbrev pub joins_from : ℕ → List Shape → List Shape → Option (List Ty)
joins_from i xs ys = join_lists (map pure_shape (drop i xs)) (map pure_shape (drop i ys))

joins_next : (xs ys : List Shape) (i : ℕ) (x y : Shape) → i < length xs → i < length ys → x ≡ get_or xs i x → y ≡ get_or ys i y
    → joins_from i xs ys ≡ and_then (join (pure_shape x) (pure_shape y)) (λ v. option_map (λ vs. v ∷ vs) (joins_from (i + 1) xs ys))
joins_next xs ys i x y h k is it =
    at_drop_more (λ l. join_lists (map pure_shape l) (map pure_shape (drop i ys))) xs i x h
    ∙ at_drop_more (λ l. join_lists (map pure_shape (get_or xs i x ∷ drop (i + 1) xs)) (map pure_shape l)) ys i y k
    ∙ ap (λ s. join_lists (map pure_shape (s ∷ drop (i + 1) xs)) (map pure_shape (get_or ys i y ∷ drop (i + 1) ys))) (sym is)
    ∙ ap (λ s. join_lists (map pure_shape (x ∷ drop (i + 1) xs)) (map pure_shape (s ∷ drop (i + 1) ys))) (sym it)

pub each_step : (xs ys js ks : List Shape) (i : ℕ) (x y j : Shape) → i < length xs → i < length ys → x ≡ get_or xs i x → y ≡ get_or ys i y
    → Some (pure_shape j) ≡ join (pure_shape x) (pure_shape y) → ks ≡ js ++ j ∷ []
    → ahead (map pure_shape ks) (joins_from (i + 1) xs ys) ≡ ahead (map pure_shape js) (joins_from i xs ys)
each_step xs ys js ks i x y j h k is it e p =
    ap (λ l. ahead (map pure_shape l) (joins_from (i + 1) xs ys)) p
    ∙ ap (λ l. ahead l (joins_from (i + 1) xs ys)) (map_push pure_shape js j)
    ∙ ahead_one (map pure_shape js) (pure_shape j) (joins_from (i + 1) xs ys)
    ∙ ap (λ o. ahead (map pure_shape js) (and_then o (λ v. option_map (λ vs. v ∷ vs) (joins_from (i + 1) xs ys)))) e
    ∙ ap (ahead (map pure_shape js)) (sym (joins_next xs ys i x y h k is it))

pub each_none : (xs ys js : List Shape) (i : ℕ) (x y : Shape) → i < length xs → i < length ys → x ≡ get_or xs i x → y ≡ get_or ys i y
    → None ≡ join (pure_shape x) (pure_shape y) → None ≡ ahead (map pure_shape js) (joins_from i xs ys)
each_none xs ys js i x y h k is it e =
    ap (λ o. ahead (map pure_shape js) (and_then o (λ v. option_map (λ vs. v ∷ vs) (joins_from (i + 1) xs ys)))) e
    ∙ ap (ahead (map pure_shape js)) (sym (joins_next xs ys i x y h k is it))

pub each_end : (xs ys js : List Shape) (i : ℕ) → length xs ≤ i → length ys ≤ i → Some (map pure_shape js) ≡ ahead (map pure_shape js) (joins_from i xs ys)
each_end xs ys js i h k =
    sym (at_drop_all (λ l. ahead (map pure_shape js) (join_lists (map pure_shape l) (map pure_shape (drop i ys)))) xs i h
    ∙ at_drop_all (λ l. ahead (map pure_shape js) (join_lists [] (map pure_shape l))) ys i k
    ∙ ahead_all (map pure_shape js))

pub each_short : (xs ys js : List Shape) (i : ℕ) → i < length xs → length ys ≤ i → None ≡ ahead (map pure_shape js) (joins_from i xs ys)
each_short xs ys js i h k =
    sym (at_drop_all (λ l. ahead (map pure_shape js) (join_lists (map pure_shape (drop i xs)) (map pure_shape l))) ys i k ∙ ap (ahead (map pure_shape js)) (behind xs i h))
  where
    behind : (zs : List Shape) (i : ℕ) → i < length zs → join_lists (map pure_shape (drop i zs)) [] ≡ None
    behind [] i h = absurd (omega arith)
    behind (z ∷ zs) zero h = refl
    behind (z ∷ zs) (suc i) h = behind zs i (omega arith)

pub each_long : (xs ys js : List Shape) (i : ℕ) → length xs ≤ i → i < length ys → None ≡ ahead (map pure_shape js) (joins_from i xs ys)
each_long xs ys js i h k =
    sym (at_drop_all (λ l. ahead (map pure_shape js) (join_lists (map pure_shape l) (map pure_shape (drop i ys)))) xs i h ∙ ap (ahead (map pure_shape js)) (behind ys i k))
  where
    behind : (zs : List Shape) (i : ℕ) → i < length zs → join_lists [] (map pure_shape (drop i zs)) ≡ None
    behind [] i h = absurd (omega arith)
    behind (z ∷ zs) zero h = refl
    behind (z ∷ zs) (suc i) h = behind zs i (omega arith)

-- ---- the join of all, from the last to the first

pub all_more : (xs : List Shape) (i : ℕ) (x j s : Shape) → i < length xs → x ≡ get_or xs i x → join_all (map pure_shape (drop (i + 1) xs)) ≡ Some (pure_shape j)
    → Some (pure_shape s) ≡ join (pure_shape x) (pure_shape j) → join_all (map pure_shape (drop i xs)) ≡ Some (pure_shape s)
all_more xs i x j s h is d e =
    at_drop_more (λ l. join_all (map pure_shape l)) xs i x h
    ∙ ap (λ o. and_then o (join (pure_shape (get_or xs i x)))) d
    ∙ ap (λ z. join (pure_shape z) (pure_shape j)) (sym is) ∙ sym e

none_before : (xs : List Shape) (i : ℕ) → join_all (map pure_shape (drop i xs)) ≡ None → join_all (map pure_shape xs) ≡ None
none_before xs zero e = e
none_before [] (suc i) e = e
none_before (x ∷ xs) (suc i) e = ap (λ o. and_then o (join (pure_shape x))) (none_before xs i e)

pub all_none : (xs : List Shape) (i : ℕ) (x j : Shape) → i < length xs → x ≡ get_or xs i x → join_all (map pure_shape (drop (i + 1) xs)) ≡ Some (pure_shape j)
    → None ≡ join (pure_shape x) (pure_shape j) → None ≡ join_all (map pure_shape xs)
all_none xs i x j h is d e =
    sym (none_before xs i
    (at_drop_more (λ l. join_all (map pure_shape l)) xs i x h
    ∙ ap (λ o. and_then o (join (pure_shape (get_or xs i x)))) d
    ∙ ap (λ z. join (pure_shape z) (pure_shape j)) (sym is) ∙ sym e))

-- ---- lists of names

pub more_names : (xs ys : List Text) (i : ℕ) (x y : Text) → i < length xs → i < length ys → x ≡ get_or xs i x → y ≡ get_or ys i y → same_text x y ≡ true
    → same_texts (drop i xs) (drop i ys) ≡ same_texts (drop (i + 1) xs) (drop (i + 1) ys)
more_names xs ys i x y h k is it e =
    at_drop_more (λ l. same_texts l (drop i ys)) xs i x h
    ∙ at_drop_more (λ l. same_texts (get_or xs i x ∷ drop (i + 1) xs) l) ys i y k
    ∙ ap (λ s. same_texts (s ∷ drop (i + 1) xs) (get_or ys i y ∷ drop (i + 1) ys)) (sym is)
    ∙ ap (λ s. same_texts (x ∷ drop (i + 1) xs) (s ∷ drop (i + 1) ys)) (sym it)
    ∙ go (order_text x y) e
  where
    go : (o : Ordering) → is_eq o ≡ true → is_eq (ordering_then o (order_texts (drop (i + 1) xs) (drop (i + 1) ys))) ≡ same_texts (drop (i + 1) xs) (drop (i + 1) ys)
    go Less e = cc
    go Equal e = refl
    go Greater e = cc

pub other_name : (xs ys : List Text) (i : ℕ) (x y : Text) → i < length xs → i < length ys → x ≡ get_or xs i x → y ≡ get_or ys i y → same_text x y ≡ false
    → same_texts (drop i xs) (drop i ys) ≡ false
other_name xs ys i x y h k is it e =
    at_drop_more (λ l. same_texts l (drop i ys)) xs i x h
    ∙ at_drop_more (λ l. same_texts (get_or xs i x ∷ drop (i + 1) xs) l) ys i y k
    ∙ ap (λ s. same_texts (s ∷ drop (i + 1) xs) (get_or ys i y ∷ drop (i + 1) ys)) (sym is)
    ∙ ap (λ s. same_texts (x ∷ drop (i + 1) xs) (s ∷ drop (i + 1) ys)) (sym it)
    ∙ go (order_text x y) e
  where
    go : (o : Ordering) → is_eq o ≡ false → is_eq (ordering_then o (order_texts (drop (i + 1) xs) (drop (i + 1) ys))) ≡ false
    go Less e = refl
    go Equal e = cc
    go Greater e = refl

pub less_names : (xs ys : List Text) (i : ℕ) → i < length xs → length ys ≤ i → same_texts (drop i xs) (drop i ys) ≡ false
less_names xs ys i h k = at_drop_all (λ l. same_texts (drop i xs) l) ys i k ∙ behind xs i h
  where
    behind : (zs : List Text) (i : ℕ) → i < length zs → same_texts (drop i zs) [] ≡ false
    behind [] i h = absurd (omega arith)
    behind (z ∷ zs) zero h = refl
    behind (z ∷ zs) (suc i) h = behind zs i (omega arith)

pub longer_names : (xs ys : List Text) (i : ℕ) → length xs ≤ i → i < length ys → same_texts (drop i xs) (drop i ys) ≡ false
longer_names xs ys i h k = at_drop_all (λ l. same_texts l (drop i ys)) xs i h ∙ behind ys i k
  where
    behind : (zs : List Text) (i : ℕ) → i < length zs → same_texts [] (drop i zs) ≡ false
    behind [] i h = absurd (omega arith)
    behind (z ∷ zs) zero h = refl
    behind (z ∷ zs) (suc i) h = behind zs i (omega arith)

pub no_more_names : (xs ys : List Text) (i : ℕ) → length xs ≤ i → length ys ≤ i → same_texts (drop i xs) (drop i ys) ≡ true
no_more_names xs ys i h k = at_drop_all (λ l. same_texts l (drop i ys)) xs i h ∙ at_drop_all (λ l. same_texts [] l) ys i k
