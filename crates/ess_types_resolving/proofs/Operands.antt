-- The types of several operands, one by one.
use Rattle.std.proofs.Common.{◌≡◌, refl, sym, ap, ◌∙◌, ℕ, ◌+◌, ◌<◌, ◌≤◌, List, [], ◌∷◌, ◌++◌, length, map, drop, get_or, Option, Some, None, option_map}
use Rattle.std.proofs.lemmas.List.{at_drop_more, at_drop_all, map_push, append_assoc, append-nil}
use Rattle.ess_semantics.specs.Lists.{and_then, all_some}
use Rattle.ess_semantics.specs.Names.{Names}
use Rattle.ess_semantics.specs.Types as pure
use Rattle.ess_semantics.specs.Trees as tree
use Rattle.ess_semantics.specs.Typing.{type_of, types_of}
use Rattle.ess_core.specs.TreeViews.{exs_of, pure_ex, pure_exs, pure_pair_ex, pure_field_ex, field_values}
use Rattle.ess_core.specs.TypeViews.{pure_ty}
use Rattle.ess_core.specs.declared.expressions.Ex.{Ex}
use Rattle.ess_core.specs.declared.expressions.PairEx.{PairEx}
use Rattle.ess_core.specs.declared.expressions.FieldEx.{FieldEx}
use Rattle.ess_core.specs.declared.types.Ty.{Ty}
use Rattle.ess_types_resolving.specs.Parts.{joined}

-- One more type stands behind the others.
pub one_more : (ts us : List Ty) (t : Ty) → us ≡ ts ++ t ∷ [] → map pure_ty us ≡ map pure_ty ts ++ pure_ty t ∷ []
one_more ts us t p = ap (map pure_ty) p ∙ map_push pure_ty ts t

-- Nothing in front leaves what there is.
pub none_before : {A : Type 0} (o : Option (List A)) → joined (Some []) o ≡ o
none_before None = refl
none_before (Some ys) = refl

none_behind : {A : Type 0} (o : Option (List A)) → joined o (Some []) ≡ o
none_behind None = refl
none_behind (Some xs) = ap Some (append-nil xs)

joined-one : {A : Type 0} (o : Option (List A)) (t : Option A) (rest : Option (List A))
    → joined (joined o (option_map (λ t. t ∷ []) t)) rest ≡ joined o (and_then t (λ t. option_map (λ ts. t ∷ ts) rest))
joined-one None t rest = refl
joined-one (Some xs) None rest = refl
joined-one (Some xs) (Some t) None = refl
joined-one (Some xs) (Some t) (Some ys) = ap Some (append_assoc xs (t ∷ []) ys)

-- The types of all, where each has one.
abbrev pub typed : List tree.Ex → Names pure.Ty → Option (List pure.Ty)
typed es g = all_some (types_of (exs_of es) g)

module _ {A : Type 0} (f : List A → List tree.Ex) (v : A → tree.Ex) (none : f [] ≡ [])
    (one : (x : A) (xs : List A) → f (x ∷ xs) ≡ v x ∷ f xs) where
  left : (xs : List A) (i : ℕ) (x : A) (g : Names pure.Ty) → i < length xs → x ≡ get_or xs i x
      → typed (f (drop i xs)) g ≡ and_then (type_of (v x) g) (λ t. option_map (λ ts. t ∷ ts) (typed (f (drop (i + 1) xs)) g))
  left xs i x g h is =
      at_drop_more (λ l. typed (f l) g) xs i x h
      ∙ ap (λ y. typed (f (y ∷ drop (i + 1) xs)) g) (sym is)
      ∙ ap (λ l. typed l g) (one x (drop (i + 1) xs))

  more : (xs : List A) (i : ℕ) (x : A) (g : Names pure.Ty) (ts us : Option (List pure.Ty)) (t : Option pure.Ty) → i < length xs
      → x ≡ get_or xs i x
      → t ≡ type_of (v x) g → us ≡ joined ts (option_map (λ t. t ∷ []) t)
      → joined us (typed (f (drop (i + 1) xs)) g) ≡ joined ts (typed (f (drop i xs)) g)
  more xs i x g ts us t h is e p =
      ap (λ l. joined l (typed (f (drop (i + 1) xs)) g)) p
      ∙ joined-one ts t (typed (f (drop (i + 1) xs)) g)
      ∙ ap (λ o. joined ts (and_then o (λ t. option_map (λ ts. t ∷ ts) (typed (f (drop (i + 1) xs)) g)))) e
      ∙ ap (joined ts) (sym (left xs i x g h is))

  all : (xs : List A) (i : ℕ) (g : Names pure.Ty) (ts : Option (List pure.Ty)) → length xs ≤ i → joined ts (typed (f (drop i xs)) g) ≡ ts
  all xs i g ts h = at_drop_all (λ l. joined ts (typed (f l) g)) xs i h ∙ ap (λ l. joined ts (typed l g)) none ∙ none_behind ts

-- ---- expressions

-- One more expression has its type, or none.
pub exs_types_more : (xs : List Ex) (i : ℕ) (x : Ex) (g : Names pure.Ty) (ts us : Option (List Ty)) (t : Option Ty) → i < length xs
    → x ≡ get_or xs i x
    → option_map pure_ty t ≡ type_of (pure_ex x) g
    → option_map (map pure_ty) us ≡ joined (option_map (map pure_ty) ts) (option_map (λ t. t ∷ []) (option_map pure_ty t))
    → joined (option_map (map pure_ty) us) (all_some (types_of (pure_exs (drop (i + 1) xs)) g))
    ≡ joined (option_map (map pure_ty) ts) (all_some (types_of (pure_exs (drop i xs)) g))
exs_types_more xs i x g ts us t = more (map pure_ex) pure_ex refl (λ x xs. refl) xs i x g (option_map (map pure_ty) ts)
    (option_map (map pure_ty) us) (option_map pure_ty t)

-- All expressions have theirs.
pub exs_types_all : (xs : List Ex) (i : ℕ) (g : Names pure.Ty) (ts : Option (List Ty)) → length xs ≤ i
    → joined (option_map (map pure_ty) ts) (all_some (types_of (pure_exs (drop i xs)) g)) ≡ option_map (map pure_ty) ts
exs_types_all xs i g ts = all (map pure_ex) pure_ex refl (λ x xs. refl) xs i g (option_map (map pure_ty) ts)

-- ---- pairs

-- One more pair has its type, or none.
pub pairs_types_more : (xs : List PairEx) (i : ℕ) (x : PairEx) (g : Names pure.Ty) (ts us : Option (List Ty)) (t : Option Ty)
    → i < length xs → x ≡ get_or xs i x
    → option_map pure_ty t ≡ type_of (pure_pair_ex x) g
    → option_map (map pure_ty) us ≡ joined (option_map (map pure_ty) ts) (option_map (λ t. t ∷ []) (option_map pure_ty t))
    → joined (option_map (map pure_ty) us) (all_some (types_of (exs_of (map pure_pair_ex (drop (i + 1) xs))) g))
    ≡ joined (option_map (map pure_ty) ts) (all_some (types_of (exs_of (map pure_pair_ex (drop i xs))) g))
pairs_types_more xs i x g ts us t = more (map pure_pair_ex) pure_pair_ex refl (λ x xs. refl) xs i x g (option_map (map pure_ty) ts)
    (option_map (map pure_ty) us) (option_map pure_ty t)

-- All pairs have theirs.
pub pairs_types_all : (xs : List PairEx) (i : ℕ) (g : Names pure.Ty) (ts : Option (List Ty)) → length xs ≤ i
    → joined (option_map (map pure_ty) ts) (all_some (types_of (exs_of (map pure_pair_ex (drop i xs))) g)) ≡ option_map (map pure_ty) ts
pairs_types_all xs i g ts = all (map pure_pair_ex) pure_pair_ex refl (λ x xs. refl) xs i g (option_map (map pure_ty) ts)

-- ---- fields

-- The fields' pure expressions.
abbrev pub field_exs : List FieldEx → List tree.Ex
field_exs fs = field_values (map pure_field_ex fs)

-- One more field has its type, or none.
pub fields_types_more : (xs : List FieldEx) (i : ℕ) (x : FieldEx) (g : Names pure.Ty) (ts us : Option (List Ty)) (t : Option Ty)
    → i < length xs → x ≡ get_or xs i x
    → option_map pure_ty t ≡ type_of (pure_field_ex x).1 g
    → option_map (map pure_ty) us ≡ joined (option_map (map pure_ty) ts) (option_map (λ t. t ∷ []) (option_map pure_ty t))
    → joined (option_map (map pure_ty) us) (all_some (types_of (exs_of (field_values (map pure_field_ex (drop (i + 1) xs)))) g))
    ≡ joined (option_map (map pure_ty) ts) (all_some (types_of (exs_of (field_values (map pure_field_ex (drop i xs)))) g))
fields_types_more xs i x g ts us t = more field_exs (λ x. (pure_field_ex x).1) refl (λ x xs. refl) xs i x g (option_map (map pure_ty) ts)
    (option_map (map pure_ty) us) (option_map pure_ty t)

-- All fields have theirs.
pub fields_types_all : (xs : List FieldEx) (i : ℕ) (g : Names pure.Ty) (ts : Option (List Ty)) → length xs ≤ i
    → joined (option_map (map pure_ty) ts) (all_some (types_of (exs_of (field_values (map pure_field_ex (drop i xs)))) g))
    ≡ option_map (map pure_ty) ts
fields_types_all xs i g ts = all field_exs (λ x. (pure_field_ex x).1) refl (λ x xs. refl) xs i g (option_map (map pure_ty) ts)
