-- Cells of declared tables: a size is a number, a cell of a set a truth value.
use Rattle.std.proofs.Common.{◌≡◌, refl, sym, ap, ◌∙◌, Bool, true, false, ◌&&◌, ◌||◌, if◌then◌else◌, List, [], ◌∷◌, ◌++◌, map, length, ℤ, ◌⊎◌, inl, inr, Option, Some, None, option_map, nat_eq}
use Rattle.std.specs.List.{list_any}
use Rattle.ess_semantics.specs.Lists.{and_then}
use Rattle.ess_semantics.specs.Values.{Text, truth}
use Rattle.ess_semantics.specs.Order.{same_text, same_int}
use Rattle.ess_semantics.specs.Names.{is_among}
use Rattle.ess_semantics.specs.Trees.{Exs, number_ex, cell_ex, no_exs, more_exs}
use Rattle.ess_semantics.specs.Types.{Ty, int_ty}
use Rattle.ess_semantics.specs.Tables.{Table, Tables, truth_of}
use Rattle.ess_semantics.specs.Operators.{false_where_undefined}
use Rattle.ess_semantics.specs.Meaning.{is_true, cell_value, is_bool_dom}
use Rattle.ess_semantics.proofs.Tests.{or-left-no, or-right-no, or-yes}
use Rattle.ess_semantics.proofs.Texts.{same_text-itself}
use Rattle.ess_semantics.proofs.Orders.{same_int-itself}
use Rattle.ess_semantics.specs.Contexts.{Each}
use Rattle.conjure_laws.specs.Members.{In}
use Rattle.conjure_laws.specs.SideBySide.{Along}
use Rattle.ess_semantics.specs.DeclaredTables.{TableDecl}
use Rattle.ess_semantics.specs.ModelMeaning.{declaration_of, kinded_cell, cell_kind, broken}
use Rattle.ess_repr_laws.proofs.Chosen.{on, on_truth}

-- ---- cells of declared tables

-- A size is a declared number.
pub declared-size : (ds es : List TableDecl) → Each ds (λ d. (d.axes ≡ []) × (is_bool_dom d.cell ≡ false)) → (n : Text) →
    In n (map (λ d. d.name) ds) → kinded_cell n no_exs [] (declaration_of (ds ++ es) n) ≡ (cell_ex false n no_exs, int_ty)
declared-size [] es h n i = absurd i
declared-size (d ∷ ds) es h n i = go (same_text d.name n) refl i (declared-size ds es h.1 n)
  where
    go : (t : Bool) → same_text d.name n ≡ t → (n ≡ d.name) ⊎ In n (map (λ d. d.name) ds) →
        (In n (map (λ d. d.name) ds) → kinded_cell n no_exs [] (declaration_of (ds ++ es) n) ≡ (cell_ex false n no_exs, int_ty)) →
        kinded_cell n no_exs [] (if same_text d.name n then Some d else declaration_of (ds ++ es) n) ≡
        (cell_ex false n no_exs, int_ty)
    go true q i f =
        ap (λ t. kinded_cell n no_exs [] (if t then Some d else declaration_of (ds ++ es) n)) q
        ∙ ap (λ a. if nat_eq 0 (length a) && true then (cell_ex (is_bool_dom d.cell) n no_exs, cell_kind (is_bool_dom d.cell)) else
        broken
        (cell_kind (is_bool_dom d.cell))) h.0.0
        ∙ ap (λ b. (cell_ex b n no_exs, cell_kind b)) h.0.1
    go false q (inl e) f = let z : false ≡ true = sym q ∙ ap (λ w. same_text w n) (sym e) ∙ same_text-itself n in cc
    go false q (inr i) f = ap (λ t. kinded_cell n no_exs [] (if t then Some d else declaration_of (ds ++ es) n)) q ∙ f i

-- Declarations of other names are skipped.
pub skip-decls : (ds es : List TableDecl) (n : Text) → is_among (map (λ d. d.name) ds) n ≡ false →
    declaration_of (ds ++ es) n ≡ declaration_of es n
skip-decls [] es n e = refl
skip-decls (d ∷ ds) es n e =
    ap (λ t. if t then Some d else declaration_of (ds ++ es) n)
    (or-left-no (same_text d.name n) (is_among (map (λ d. d.name) ds) n) e)
    ∙ skip-decls ds es n (or-right-no (same_text d.name n) (is_among (map (λ d. d.name) ds) n) e)

-- A declared set's cell is a Boolean.
pub declared-cell : (ds : List TableDecl) → Each ds (λ d. (length d.axes ≡ 1) × (is_bool_dom d.cell ≡ true)) → (n : Text) (k : ℤ) →
    In n (map (λ d. d.name) ds) →
    (kinded_cell n (more_exs (number_ex k) no_exs) (int_ty ∷ []) (declaration_of ds n)).0 ≡ cell_ex true n
    (more_exs (number_ex k) no_exs)
declared-cell [] h n k i = absurd i
declared-cell (d ∷ ds) h n k i = go (same_text d.name n) refl i (declared-cell ds h.1 n k)
  where
    es : Exs
    es = more_exs (number_ex k) no_exs

    tys : List Ty
    tys = int_ty ∷ []

    go : (t : Bool) → same_text d.name n ≡ t → (n ≡ d.name) ⊎ In n (map (λ d. d.name) ds) →
        (In n (map (λ d. d.name) ds) → (kinded_cell n (more_exs (number_ex k) no_exs) (int_ty ∷ []) (declaration_of ds n)).0 ≡ cell_ex
        true
        n (more_exs (number_ex k) no_exs)) →
        (kinded_cell n (more_exs (number_ex k) no_exs) (int_ty ∷ []) (if same_text d.name n then Some d else declaration_of ds n)).0 ≡
        cell_ex true n (more_exs (number_ex k) no_exs)
    go true q i f =
        ap (λ t. (kinded_cell n (more_exs (number_ex k) no_exs) (int_ty ∷ []) (if t then Some d else declaration_of ds n)).0) q
        ∙ ap (λ l. (if nat_eq 1 l && true then (
          cell_ex (is_bool_dom d.cell) n (more_exs (number_ex k) no_exs),
          cell_kind (is_bool_dom d.cell),
        ) else broken (cell_kind (is_bool_dom d.cell))).0) h.0.0
        ∙ ap (λ b. cell_ex b n (more_exs (number_ex k) no_exs)) h.0.1
    go false q (inl e) f = let z : false ≡ true = sym q ∙ ap (λ w. same_text w n) (sym e) ∙ same_text-itself n in cc
    go false q (inr i) f = ap (λ t. (kinded_cell n (more_exs (number_ex k) no_exs) (int_ty ∷ [])
        (if t then Some d else declaration_of ds n)).0) q ∙ f i

-- A Boolean cell is true where its number is 1.
pub bool-cell : (o : Option ℤ) → is_true (false_where_undefined true (option_map (cell_value true) o)) ≡ on o
bool-cell None = refl
bool-cell (Some n) = go (truth_of n)
  where
    go : (o : Option Bool) → is_true (Some (truth (elim o [ Some b ↦ b | None ↦ false ]))) ≡ on_truth o
    go None = refl
    go (Some true) = refl
    go (Some false) = refl

-- A truth value is true where it says so.
pub truth-is : (b : Bool) → is_true (Some (truth b)) ≡ b
truth-is true = refl
truth-is false = refl

-- The only table of a name.
pub only-table : (o : Option Table) (ts : Tables) (t : Table) → ts ≡ t ∷ [] → and_then o (λ y. Some (y ∷ [])) ≡ Some ts → o ≡ Some t
only-table None ts t e h = cc
only-table (Some u) ts t e h = let z : u ∷ [] ≡ ts = cc in let y : u ∷ [] ≡ t ∷ [] = z ∙ e in cc

-- ---- lists

-- Nothing stands beside each item.
pub nones : {A B : Type 0} (xs : List A) (R : A → List B → Type 0) → Each xs (λ x. R x []) → Along xs (map (λ x. []) xs) R
nones [] R h = tt
nones (x ∷ xs) R h = (h.0, nones xs R h.1)

-- A number among others is found.
pub is-const : (ns : List ℤ) (n : ℤ) → In n ns → list_any (same_int n) ns ≡ true
is-const [] n i = absurd i
is-const (m ∷ ns) n (inl e) = ap (λ b. b || list_any (same_int n) ns) (ap (same_int n) (sym e) ∙ same_int-itself n)
is-const (m ∷ ns) n (inr i) = ap (λ b. same_int n m || b) (is-const ns n i) ∙ or-yes (same_int n m)
