-- Declared names, one after another.
use Rattle.std.proofs.Common.{◌≡◌, refl, sym, ap, ◌∙◌, ℕ, ◌+◌, ◌<◌, ◌≤◌, List, [], ◌∷◌, ◌++◌, map, drop, length, get_or}
use Rattle.std.proofs.lemmas.List.{map_push, at_drop_more, at_drop_all, append_assoc, append-nil}
use Rattle.ess_semantics.specs.Values.{Text}
use Rattle.ess_semantics.specs.Names.{Names}
use Rattle.ess_semantics.specs.Types.{Ty}
use Rattle.ess_types.specs.declared.declared.NamedTy.{NamedTy}
use Rattle.ess_types.specs.Progress.{pure_named_ty}

-- One more name.
pub name_added : (ns ms : List NamedTy) (n : NamedTy) → ms ≡ ns ++ n ∷ []
    → map pure_named_ty ms ≡ map pure_named_ty ns ++ pure_named_ty n ∷ []
name_added ns ms n h = ap (map pure_named_ty) h ∙ map_push pure_named_ty ns n

-- The values of a type that are left: none is added.
pub values_none : (g : Names Ty) (u : Ty) (xs : List Text) → g ++ map (λ n. (n, u)) xs ≡ g ++ map (λ n. (n, u)) (drop 0 xs)
values_none g u xs = refl

-- One more is added.
pub values_more : (g h : Names Ty) (u : Ty) (xs : List Text) (i : ℕ) (x : Text) → i < length xs → x ≡ get_or xs i x → h ≡ g ++ (x, u) ∷ []
    → h ++ map (λ n. (n, u)) (drop (i + 1) xs) ≡ g ++ map (λ n. (n, u)) (drop i xs)
values_more g h u xs i x o is e =
    ap (λ l. l ++ map (λ n. (n, u)) (drop (i + 1) xs)) e ∙ append_assoc g ((x, u) ∷ []) (map (λ n. (n, u)) (drop (i + 1) xs))
    ∙ sym (at_drop_more (λ l. g ++ map (λ n. (n, u)) l) xs i x o ∙ ap (λ y. g ++ map (λ n. (n, u)) (y ∷ drop (i + 1) xs)) (sym is))

-- All are added.
pub values_all : (g : Names Ty) (u : Ty) (xs : List Text) (i : ℕ) → length xs ≤ i → g ++ map (λ n. (n, u)) (drop i xs) ≡ g
values_all g u xs i h = at_drop_all (λ l. g ++ map (λ n. (n, u)) l) xs i h ∙ append-nil g
