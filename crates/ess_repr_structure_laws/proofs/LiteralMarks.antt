-- What types say of literals: none is a Boolean, and those that stand directly in a fold or beside a lexicographic sign are no functions,
-- relations or partitions.
use Rattle.std.proofs.Common.{◌≡◌, refl, sym, ap, ◌∙◌, subst, Bool, true, false, ◌&&◌, not, List, [], ◌∷◌, Option, Some, None, option_map, is_some}
use Rattle.std.specs.List.{list_all}
use Rattle.ess_semantics.specs.declared.words.Op2.{Op2}
use Rattle.ess_semantics.specs.declared.words.Fun.{Fun}
use Rattle.ess_semantics.specs.Lists.{and_then, all_some}
use Rattle.ess_semantics.specs.Values.{Kind, a_tuple, a_matrix, a_set, a_mset, a_function, a_relation, a_partition}
use Rattle.ess_semantics.specs.Constants.{drops_items}
use Rattle.ess_semantics.specs.Trees.{Op, unary, binary, word, index, application, tuple_literal, set_literal, mset_literal, function_literal, relation_literal, partition_literal, matrix_literal, record_literal, Exs}
use Rattle.ess_semantics.specs.Types.{Ty, Tys, any_ty, int_ty, compound, no_tys, more_tys, is_bool, join, join_all}
use Rattle.ess_semantics.specs.OperatorTypes.{list_ty, extreme_ty, lex_compared, function_ty, relation_ty, partition_ty, type_of_list, type_of_op}
use Rattle.ess_semantics.specs.Typing.{Static, type_of_node}
use Rattle.ess_semantics.specs.Resolving.{resolved_op, resolved_node}
use Rattle.ess_guard_laws.specs.LiteralsFit.{is_literal, may_stand, LiteralsFit, AllLiteralsFit}

-- Whether a term of this type may be a list, a set or a multiset.
abbrev pub is_folded : Option Ty → Bool
is_folded (Some (compound a_function ts)) = false
is_folded (Some (compound a_relation ts)) = false
is_folded (Some (compound a_partition ts)) = false
is_folded t = true

-- ---- operands of folds

list-folded : (t : Ty) → is_some (list_ty t) ≡ true → is_folded (Some t) ≡ true
list-folded (compound a_function ts) h = cc
list-folded (compound a_relation ts) h = cc
list-folded (compound a_partition ts) h = cc
list-folded _ h = refl

extreme-folded : (t : Ty) → is_some (extreme_ty t) ≡ true → is_folded (Some t) ≡ true
extreme-folded (compound a_function ts) h = cc
extreme-folded (compound a_relation ts) h = cc
extreme-folded (compound a_partition ts) h = cc
extreme-folded _ h = refl

then-some : (o : Option Ty) (f : Ty → Option Ty) → is_some (and_then o f) ≡ true → is_some o ≡ true
then-some None f h = h
then-some (Some t) f h = refl

map-some : (o : Option Ty) (f : Ty → Ty) → is_some (option_map f o) ≡ true → is_some o ≡ true
map-some None f h = h
map-some (Some t) f h = refl

no-lex : (k : Kind) (o : Option Tys) → ((ts : Tys) → lex_compared (compound k ts) ≡ None) →
    is_some (and_then (option_map (compound k) o) lex_compared) ≡ true → true ≡ false
no-lex k None n h = sym h
no-lex k (Some ts) n h = sym h ∙ ap is_some (n ts)

-- The first of two compared lists.
lex-first : (a b : Ty) → is_some (and_then (join a b) lex_compared) ≡ true → is_folded (Some a) ≡ true
lex-first (compound a_function ts) any_ty h = cc
lex-first (compound a_function ts) (compound a_function us) h = sym (no-lex a_function _ (λ z. refl) h)
lex-first (compound a_function ts) _ h = cc
lex-first (compound a_relation ts) any_ty h = cc
lex-first (compound a_relation ts) (compound a_relation us) h = sym (no-lex a_relation _ (λ z. refl) h)
lex-first (compound a_relation ts) _ h = cc
lex-first (compound a_partition ts) any_ty h = cc
lex-first (compound a_partition ts) (compound a_partition us) h = sym (no-lex a_partition _ (λ z. refl) h)
lex-first (compound a_partition ts) _ h = cc
lex-first _ b h = refl

-- The second one.
lex-second : (a b : Ty) → is_some (and_then (join a b) lex_compared) ≡ true → is_folded (Some b) ≡ true
lex-second any_ty (compound a_function us) h = cc
lex-second (compound a_function ts) (compound a_function us) h = sym (no-lex a_function _ (λ z. refl) h)
lex-second _ (compound a_function us) h = cc
lex-second any_ty (compound a_relation us) h = cc
lex-second (compound a_relation ts) (compound a_relation us) h = sym (no-lex a_relation _ (λ z. refl) h)
lex-second _ (compound a_relation us) h = cc
lex-second any_ty (compound a_partition us) h = cc
lex-second (compound a_partition ts) (compound a_partition us) h = sym (no-lex a_partition _ (λ z. refl) h)
lex-second _ (compound a_partition us) h = cc
lex-second a b h = refl

-- Each of these is.
abbrev pub AllFolded : List (Option Ty) → Type 0
AllFolded us = list_all is_folded us ≡ true

one-folded : (t : Ty) → is_folded (Some t) ≡ true → is_folded (Some t) && true ≡ true
one-folded t h = ap (λ b. b && true) h

two-folded : (a b : Ty) → is_folded (Some a) ≡ true → is_folded (Some b) ≡ true → is_folded (Some a) && (is_folded (Some b) && true) ≡ true
two-folded a b g h = ap (λ x. x && (is_folded (Some b) && true)) g ∙ one-folded b h

abbrev some-list : List Ty → List (Option Ty)
some-list [] = []
some-list (t ∷ ts) = Some t ∷ some-list ts

-- The operands of a fold or a lexicographic sign that has a type.
fold-operands : (op : Op) (ts : List Ty) → drops_items op ≡ true → is_some (type_of_op op ts) ≡ true → AllFolded (some-list ts)
fold-operands (word Fun.Sum) (t ∷ []) d h = one-folded t (list-folded t (then-some (list_ty t) _ h))
fold-operands (word Fun.Product) (t ∷ []) d h = one-folded t (list-folded t (then-some (list_ty t) _ h))
fold-operands (word Fun.And) (t ∷ []) d h = one-folded t (list-folded t (then-some (list_ty t) _ h))
fold-operands (word Fun.Or) (t ∷ []) d h = one-folded t (list-folded t (then-some (list_ty t) _ h))
fold-operands (word Fun.AllDiff) (t ∷ []) d h = one-folded t (list-folded t (map-some (list_ty t) _ h))
fold-operands (word Fun.Min) (t ∷ []) d h = one-folded t (extreme-folded t h)
fold-operands (word Fun.Max) (t ∷ []) d h = one-folded t (extreme-folded t h)
fold-operands (binary Op2.LexLt) (a ∷ b ∷ []) d h = two-folded a b (lex-first a b h) (lex-second a b h)
fold-operands (binary Op2.LexLe) (a ∷ b ∷ []) d h = two-folded a b (lex-first a b h) (lex-second a b h)
fold-operands (binary Op2.LexGt) (a ∷ b ∷ []) d h = two-folded a b (lex-first a b h) (lex-second a b h)
fold-operands (binary Op2.LexGe) (a ∷ b ∷ []) d h = two-folded a b (lex-first a b h) (lex-second a b h)
fold-operands (word Fun.Sum) (a ∷ b ∷ []) d h = cc
fold-operands (word Fun.Product) (a ∷ b ∷ []) d h = cc
fold-operands (word Fun.And) (a ∷ b ∷ []) d h = cc
fold-operands (word Fun.Or) (a ∷ b ∷ []) d h = cc
fold-operands (word Fun.AllDiff) (a ∷ b ∷ []) d h = cc
fold-operands (word Fun.Min) (a ∷ b ∷ []) d h = cc
fold-operands (word Fun.Max) (a ∷ b ∷ []) d h = cc
fold-operands op ts d h = cc

-- Types that are all there.
there-list : (us : List (Option Ty)) (ts : List Ty) → all_some us ≡ Some ts → some-list ts ≡ us
there-list [] ts e = let q : [] ≡ ts = cc in ap some-list (sym q)
there-list (u ∷ us) ts e = go u (all_some us) (λ ys q. there-list us ys q) e
  where
    go : (o : Option Ty) (r : Option (List Ty)) → ((ys : List Ty) → r ≡ Some ys → some-list ys ≡ us) →
        and_then o (λ x. option_map (λ ys. x ∷ ys) r) ≡ Some ts → some-list ts ≡ o ∷ us
    go None r k h = cc
    go (Some t) None k h = cc
    go (Some t) (Some ys) k h = let z : t ∷ ys ≡ ts = cc in ap some-list (sym z) ∙ ap (λ l. Some t ∷ l) (k ys refl)

-- So are those of a node.
node-operands : (op : Op) (us : List (Option Ty)) → drops_items op ≡ true → is_some (and_then (all_some us) (type_of_op op)) ≡ true →
    AllFolded us
node-operands op us d h = go (all_some us) refl h
  where
    go : (o : Option (List Ty)) → all_some us ≡ o → is_some (and_then o (type_of_op op)) ≡ true → AllFolded us
    go None q h = cc
    go (Some ts) q h = subst AllFolded (there-list us ts q) (fold-operands op ts d h)

pub folded-operands : (op : Op) (ss : List Static) (us : List (Option Ty)) → drops_items op ≡ true → is_some
    (type_of_node op ss us) ≡ true →
    AllFolded us
folded-operands (index qs) ss us d h = cc
folded-operands op ss us d h = node-operands op us d h

-- ---- literals

joined : (k : Kind) (o : Option Ty) → is_bool (option_map (λ t. compound k (more_tys t no_tys)) o) ≡ false
joined k None = refl
joined k (Some t) = refl

of-joined : (o : Option Ty) (f : Ty → Option Ty) → ((t : Ty) → is_bool (f t) ≡ false) → is_bool (and_then o f) ≡ false
of-joined None f h = refl
of-joined (Some t) f h = h t

function-no-bool : (t : Ty) → is_bool (function_ty t) ≡ false
function-no-bool (compound a_tuple (more_tys a (more_tys b no_tys))) = refl
function-no-bool any_ty = refl
function-no-bool _ = refl

relation-no-bool : (t : Ty) → is_bool (relation_ty t) ≡ false
relation-no-bool (compound a_tuple ts) = refl
relation-no-bool any_ty = refl
relation-no-bool _ = refl

partition-no-bool : (t : Ty) → is_bool (partition_ty t) ≡ false
partition-no-bool (compound a_set (more_tys a no_tys)) = refl
partition-no-bool any_ty = refl
partition-no-bool _ = refl

list-no-bool : (ts : List Ty) → is_bool (type_of_list ts) ≡ false
list-no-bool [] = refl
list-no-bool (t ∷ ts) = go (join_all (t ∷ ts))
  where
    go : (o : Option Ty) → is_bool (option_map (λ u. compound a_matrix (more_tys int_ty (more_tys u no_tys))) o) ≡ false
    go None = refl
    go (Some u) = refl

-- A literal's type isn't bool.
op-no-bool : (op : Op) (ts : List Ty) → is_literal op ≡ true → is_bool (type_of_op op ts) ≡ false
op-no-bool tuple_literal ts h = refl
op-no-bool (record_literal fs) ts h = refl
op-no-bool set_literal ts h = joined a_set (join_all ts)
op-no-bool mset_literal ts h = joined a_mset (join_all ts)
op-no-bool function_literal ts h = of-joined (join_all ts) function_ty function-no-bool
op-no-bool relation_literal ts h = of-joined (join_all ts) relation_ty relation-no-bool
op-no-bool partition_literal ts h = of-joined (join_all ts) partition_ty partition-no-bool
op-no-bool matrix_literal ts h = list-no-bool ts
op-no-bool _ ts h = cc

types-no-bool : (op : Op) (o : Option (List Ty)) → is_literal op ≡ true → is_bool (and_then o (type_of_op op)) ≡ false
types-no-bool op None h = refl
types-no-bool op (Some ts) h = op-no-bool op ts h

function-unfolded : (t : Ty) → is_some (function_ty t) ≡ true → is_folded (function_ty t) ≡ false
function-unfolded (compound a_tuple (more_tys a (more_tys b no_tys))) h = refl
function-unfolded any_ty h = refl
function-unfolded _ h = cc

relation-unfolded : (t : Ty) → is_some (relation_ty t) ≡ true → is_folded (relation_ty t) ≡ false
relation-unfolded (compound a_tuple ts) h = refl
relation-unfolded any_ty h = refl
relation-unfolded _ h = cc

partition-unfolded : (t : Ty) → is_some (partition_ty t) ≡ true → is_folded (partition_ty t) ≡ false
partition-unfolded (compound a_set (more_tys a no_tys)) h = refl
partition-unfolded any_ty h = refl
partition-unfolded _ h = cc

of-parts : (o : Option Ty) (f : Ty → Option Ty) → ((t : Ty) → is_some (f t) ≡ true → is_folded (f t) ≡ false) →
    is_some (and_then o f) ≡ true → is_folded (and_then o f) ≡ true → true ≡ false
of-parts None f k h g = sym h
of-parts (Some t) f k h g = sym g ∙ k t h

-- A literal of a function, relation or partition has no folded type.
unfolded : (op : Op) (o : Option (List Ty)) → may_stand true false op ≡ false → is_some (and_then o (type_of_op op)) ≡ true →
    is_folded (and_then o (type_of_op op)) ≡ true → true ≡ false
unfolded op None m h g = sym h
unfolded function_literal (Some ts) m h g = of-parts (join_all ts) function_ty function-unfolded h g
unfolded relation_literal (Some ts) m h g = of-parts (join_all ts) relation_ty relation-unfolded h g
unfolded partition_literal (Some ts) m h g = of-parts (join_all ts) partition_ty partition-unfolded h g
unfolded _ (Some ts) m h g = m

-- What is no literal may stand anywhere.
pub stands-anywhere : (inside b : Bool) (op : Op) → is_literal op ≡ false → may_stand inside b op ≡ true
stands-anywhere inside true op h = ap not h
stands-anywhere false false op h = refl
stands-anywhere true false function_literal h = cc
stands-anywhere true false relation_literal h = cc
stands-anywhere true false partition_literal h = cc
stands-anywhere true false _ h = refl

stands : (inside : Bool) (op : Op) (o : Option (List Ty)) → is_literal op ≡ true → is_some (and_then o (type_of_op op)) ≡ true →
    (inside ≡ true → is_folded (and_then o (type_of_op op)) ≡ true) →
    may_stand inside (is_bool (and_then o (type_of_op op))) op ≡ true
stands inside op o l h f = subst (λ b. may_stand inside b op ≡ true) (sym (types-no-bool op o l)) (go inside f)
  where
    go : (inside : Bool) → (inside ≡ true → is_folded (and_then o (type_of_op op)) ≡ true) → may_stand inside false op ≡ true
    go false f = refl
    go true f = at (may_stand true false op) refl
      where
        at : (b : Bool) → may_stand true false op ≡ b → b ≡ true
        at true q = refl
        at false q = sym (unfolded op o q h (f refl))

image-drops : (us : List (Option Ty)) → (is_literal (resolved_op application us) ≡ false) ×
    (drops_items (resolved_op application us) ≡ false)
image-drops (Some (compound a_function (more_tys a (more_tys b no_tys))) ∷ u ∷ []) = (refl, refl)
image-drops _ = (refl, refl)

-- Whether the operator is an index.
abbrev pub is_index : Op → Bool
is_index (index qs) = true
is_index op = false

-- A resolved node may stand where its type allows it, with operands that may.
pub node-fits : (inside : Bool) (op : Op) (es : Exs) (ss : List Static) (us : List (Option Ty)) → is_some (type_of_node op ss us) ≡ true →
    (inside ≡ true → is_folded (type_of_node op ss us) ≡ true) → AllLiteralsFit (drops_items op) es → is_index op ≡ false →
    LiteralsFit inside (resolved_node (type_of_node op ss us) op es ss us)
node-fits inside (index qs) es ss us h f a n = cc
node-fits inside application es ss us h f a n = let d = image-drops us in
    (stands-anywhere inside _ (resolved_op application us) d.0, subst (λ b. AllLiteralsFit b es) (sym d.1) a)
node-fits inside (unary o) es ss us h f a n = (stands-anywhere inside _ (unary o) refl, a)
node-fits inside (binary o) es ss us h f a n = (stands-anywhere inside _ (binary o) refl, a)
node-fits inside (word w) es ss us h f a n = (stands-anywhere inside _ (word w) refl, a)
node-fits inside tuple_literal es ss us h f a n = (stands inside tuple_literal (all_some us) refl h f, a)
node-fits inside (record_literal fs) es ss us h f a n = (stands inside (record_literal fs) (all_some us) refl h f, a)
node-fits inside set_literal es ss us h f a n = (stands inside set_literal (all_some us) refl h f, a)
node-fits inside mset_literal es ss us h f a n = (stands inside mset_literal (all_some us) refl h f, a)
node-fits inside function_literal es ss us h f a n = (stands inside function_literal (all_some us) refl h f, a)
node-fits inside relation_literal es ss us h f a n = (stands inside relation_literal (all_some us) refl h f, a)
node-fits inside partition_literal es ss us h f a n = (stands inside partition_literal (all_some us) refl h f, a)
node-fits inside matrix_literal es ss us h f a n = (stands inside matrix_literal (all_some us) refl h f, a)
