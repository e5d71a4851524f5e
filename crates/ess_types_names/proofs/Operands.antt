-- The types of several expressions, one by one.
use Rattle.std.proofs.Common.{◌≡◌, refl, sym, ap, ◌∙◌, ℕ, ◌+◌, ◌<◌, ◌≤◌, List, [], ◌∷◌, ◌++◌, length, map, drop, get_or, Option, Some, None, option_map}
use Rattle.std.proofs.lemmas.List.{at_drop_more, at_drop_all, map_push}
use Rattle.ess_semantics.specs.Lists.{and_then, all_some}
use Rattle.ess_semantics.specs.Names.{Names}
use Rattle.ess_semantics.specs.Types as pure
use Rattle.ess_semantics.specs.Trees as tree
use Rattle.ess_semantics.specs.Typing.{type_of, types_of}
use Rattle.ess_core.specs.TreeViews.{exs_of, pure_ex, pure_exs, pure_pair_ex, pure_field_ex, field_values}
use Rattle.ess_core.specs.TypeViews.{pure_ty}
use Rattle.ess_core.proofs.PartEquations.{pure_field_ex_is}
use Rattle.ess_core.specs.declared.expressions.Ex.{Ex}
use Rattle.ess_core.specs.declared.expressions.PairEx.{PairEx}
use Rattle.ess_core.specs.declared.expressions.FieldEx.{FieldEx}
use Rattle.ess_core.specs.declared.types.Ty.{Ty}
use Rattle.ess_types_names.proofs.Ahead.{ahead, ahead_all, ahead_one}

-- The types of all, where each has one.
abbrev pub typed : List tree.Ex → Names pure.Ty → Option (List pure.Ty)
typed es g = all_some (types_of (exs_of es) g)

module _ {A : Type 0} (f : List A → List tree.Ex) (v : A → tree.Ex) (none : f [] ≡ []) (one : (x : A) (xs : List A) → f (x ∷ xs) ≡ v x ∷ f xs) where
  left : (xs : List A) (i : ℕ) (x : A) (g : Names pure.Ty) → i < length xs → x ≡ get_or xs i x
      → typed (f (drop i xs)) g ≡ and_then (type_of (v x) g) (λ t. option_map (λ ts. t ∷ ts) (typed (f (drop (i + 1) xs)) g))
  left xs i x g h is =
      at_drop_more (λ l. typed (f l) g) xs i x h
      ∙ ap (λ y. typed (f (y ∷ drop (i + 1) xs)) g) (sym is)
      ∙ ap (λ l. typed l g) (one x (drop (i + 1) xs))

  more : (xs : List A) (i : ℕ) (x : A) (g : Names pure.Ty) (ts us : List Ty) (t : Ty) → i < length xs → x ≡ get_or xs i x
      → Some (pure_ty t) ≡ type_of (v x) g → us ≡ ts ++ t ∷ []
      → ahead (map pure_ty us) (typed (f (drop (i + 1) xs)) g) ≡ ahead (map pure_ty ts) (typed (f (drop i xs)) g)
  more xs i x g ts us t h is e p =
      ap (λ l. ahead (map pure_ty l) (typed (f (drop (i + 1) xs)) g)) p
      ∙ ap (λ l. ahead l (typed (f (drop (i + 1) xs)) g)) (map_push pure_ty ts t)
      ∙ ahead_one (map pure_ty ts) (pure_ty t) (typed (f (drop (i + 1) xs)) g)
      ∙ ap (λ o. ahead (map pure_ty ts) (and_then o (λ t. option_map (λ ts. t ∷ ts) (typed (f (drop (i + 1) xs)) g)))) e
      ∙ ap (ahead (map pure_ty ts)) (sym (left xs i x g h is))

  stop : (xs : List A) (i : ℕ) (x : A) (g : Names pure.Ty) (ts : List Ty) → i < length xs → x ≡ get_or xs i x → None ≡ type_of (v x) g
      → ahead (map pure_ty ts) (typed (f (drop i xs)) g) ≡ None
  stop xs i x g ts h is e =
      ap (ahead (map pure_ty ts)) (left xs i x g h is ∙ ap (λ o. and_then o (λ t. option_map (λ ts. t ∷ ts) (typed (f (drop (i + 1) xs)) g))) (sym e))

  end : (xs : List A) (i : ℕ) (g : Names pure.Ty) (ts : List Ty) → length xs ≤ i → ahead (map pure_ty ts) (typed (f (drop i xs)) g) ≡ Some (map pure_ty ts)
  end xs i g ts h = at_drop_all (λ l. ahead (map pure_ty ts) (typed (f l) g)) xs i h ∙ ap (λ l. ahead (map pure_ty ts) (typed l g)) none ∙ ahead_all (map pure_ty ts)

-- ---- expressions

pub exs_more : (xs : List Ex) (i : ℕ) (x : Ex) (g : Names pure.Ty) (ts us : List Ty) (t : Ty) → i < length xs → x ≡ get_or xs i x
    → Some (pure_ty t) ≡ type_of (pure_ex x) g → us ≡ ts ++ t ∷ []
    → ahead (map pure_ty us) (all_some (types_of (pure_exs (drop (i + 1) xs)) g)) ≡ ahead (map pure_ty ts) (all_some (types_of (pure_exs (drop i xs)) g))
exs_more = more (map pure_ex) pure_ex refl (λ x xs. refl)

pub exs_none : (xs : List Ex) (i : ℕ) (x : Ex) (g : Names pure.Ty) (ts : List Ty) → i < length xs → x ≡ get_or xs i x → None ≡ type_of (pure_ex x) g
    → ahead (map pure_ty ts) (all_some (types_of (pure_exs (drop i xs)) g)) ≡ None
exs_none = stop (map pure_ex) pure_ex refl (λ x xs. refl)

pub exs_end : (xs : List Ex) (i : ℕ) (g : Names pure.Ty) (ts : List Ty) → length xs ≤ i
    → ahead (map pure_ty ts) (all_some (types_of (pure_exs (drop i xs)) g)) ≡ Some (map pure_ty ts)
exs_end = end (map pure_ex) pure_ex refl (λ x xs. refl)

-- ---- pairs

pub pairs_more : (xs : List PairEx) (i : ℕ) (x : PairEx) (g : Names pure.Ty) (ts us : List Ty) (t : Ty) → i < length xs → x ≡ get_or xs i x
    → Some (pure_ty t) ≡ type_of (pure_pair_ex x) g → us ≡ ts ++ t ∷ []
    → ahead (map pure_ty us) (all_some (types_of (exs_of (map pure_pair_ex (drop (i + 1) xs))) g)) ≡ ahead (map pure_ty ts) (all_some (types_of (exs_of (map pure_pair_ex (drop i xs))) g))
pairs_more = more (map pure_pair_ex) pure_pair_ex refl (λ x xs. refl)

pub pairs_none : (xs : List PairEx) (i : ℕ) (x : PairEx) (g : Names pure.Ty) (ts : List Ty) → i < length xs → x ≡ get_or xs i x → None ≡ type_of (pure_pair_ex x) g
    → ahead (map pure_ty ts) (all_some (types_of (exs_of (map pure_pair_ex (drop i xs))) g)) ≡ None
pairs_none = stop (map pure_pair_ex) pure_pair_ex refl (λ x xs. refl)

pub pairs_end : (xs : List PairEx) (i : ℕ) (g : Names pure.Ty) (ts : List Ty) → length xs ≤ i
    → ahead (map pure_ty ts) (all_some (types_of (exs_of (map pure_pair_ex (drop i xs))) g)) ≡ Some (map pure_ty ts)
pairs_end = end (map pure_pair_ex) pure_pair_ex refl (λ x xs. refl)

-- ---- fields

-- The fields' pure expressions.
abbrev pub field_exs : List FieldEx → List tree.Ex
field_exs fs = field_values (map pure_field_ex fs)

field_one : (x : FieldEx) (xs : List FieldEx) → field_exs (x ∷ xs) ≡ pure_ex x.ex ∷ field_exs xs
field_one x xs = ap (λ p. p.1 ∷ field_exs xs) (pure_field_ex_is x)

pub fields_more : (xs : List FieldEx) (i : ℕ) (x : FieldEx) (g : Names pure.Ty) (ts us : List Ty) (t : Ty) → i < length xs → x ≡ get_or xs i x
    → Some (pure_ty t) ≡ type_of (pure_ex x.ex) g → us ≡ ts ++ t ∷ []
    → ahead (map pure_ty us) (all_some (types_of (exs_of (field_values (map pure_field_ex (drop (i + 1) xs)))) g)) ≡ ahead (map pure_ty ts) (all_some (types_of (exs_of (field_values (map pure_field_ex (drop i xs)))) g))
fields_more = more field_exs (λ x. pure_ex x.ex) refl field_one

pub fields_none : (xs : List FieldEx) (i : ℕ) (x : FieldEx) (g : Names pure.Ty) (ts : List Ty) → i < length xs → x ≡ get_or xs i x → None ≡ type_of (pure_ex x.ex) g
    → ahead (map pure_ty ts) (all_some (types_of (exs_of (field_values (map pure_field_ex (drop i xs)))) g)) ≡ None
fields_none = stop field_exs (λ x. pure_ex x.ex) refl field_one

pub fields_end : (xs : List FieldEx) (i : ℕ) (g : Names pure.Ty) (ts : List Ty) → length xs ≤ i
    → ahead (map pure_ty ts) (all_some (types_of (exs_of (field_values (map pure_field_ex (drop i xs)))) g)) ≡ Some (map pure_ty ts)
fields_end = end field_exs (λ x. pure_ex x.ex) refl field_one
