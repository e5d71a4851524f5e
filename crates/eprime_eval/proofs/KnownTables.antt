-- The table of a declaration, found by its number.
use Rattle.std.proofs.Common.{◌≡◌, sym, ap, ◌∙◌, ℕ, zero, suc, ◌+◌, ◌<◌, ◌≤◌, true, false, List, [], ◌∷◌, ◌++◌, append_assoc, map, length, get_or, take, drop, Option, Some, None, option_map, if◌then◌else◌, arith}
use Rattle.std.specs.Prelude.{slice_get}
use Rattle.std.proofs.lemmas.List.{at_drop_more, drop_all, map_more, map_push}
use Rattle.ess_semantics.specs.Values.{Text}
use Rattle.ess_semantics.specs.Order.{same_text}
use Rattle.ess_semantics.specs.Names.{look}
use Rattle.ess_semantics.specs.Tables as pure
use Rattle.ess_core.specs.declared.tables.NamedTable.{NamedTable}
use Rattle.ess_core.specs.TableViews.{pure_named_table}
use Rattle.eprime_tree.specs.declared.models.PDecl.{PDecl}
use Rattle.eprime_eval_kinds.specs.KindedViews.{name_at}
use Rattle.eprime_eval_scalars.specs.Grids.{pure_grid}
use Rattle.eprime_eval.specs.declared.known.Known.{Known}
use Rattle.eprime_eval.specs.declared.known.NamedGrid.{NamedGrid}
use Rattle.eprime_eval.specs.KnownTables.{named_table, cells_of, table_at, IsKnown}

pub table_found : (k : Known) (n i : ℕ) (t : NamedGrid) → IsKnown k → Some (Some i) ≡ slice_get k.places n → Some t ≡ slice_get k.tables i
    → Some (pure_grid t.grid) ≡ look (cells_of k) (name_at k.names n)
table_found k n i t h e f = ap (option_map (λ t. pure_grid t.grid)) f ∙ h.found n (Some i) (sym e)

pub table_lost : (k : Known) (n i : ℕ) → IsKnown k → Some (Some i) ≡ slice_get k.places n → None ≡ slice_get k.tables i
    → None ≡ look (cells_of k) (name_at k.names n)
table_lost k n i h e f = ap (option_map (λ t. pure_grid t.grid)) f ∙ h.found n (Some i) (sym e)

pub table_none : (k : Known) (n : ℕ) → IsKnown k → Some None ≡ slice_get k.places n → None ≡ look (cells_of k) (name_at k.names n)
table_none k n h e = h.found n None (sym e)

pub ruleset tables_found = (table_found, table_lost, table_none)

-- ---- making them

-- One name more.
pub names_more : (ds : List PDecl) (i : ℕ) (d : PDecl) (old mid : List Text) (new : List Text) → i < length ds → d ≡ get_or ds i d
    → mid ≡ old ++ map (λ d. d.name) (take i ds) → new ≡ mid ++ d.name ∷ [] → new ≡ old ++ map (λ d. d.name) (take (i + 1) ds)
names_more ds i d old mid new l g h e =
    e ∙ ap (λ xs. xs ++ d.name ∷ []) h ∙ append_assoc old (map (λ d. d.name) (take i ds)) (d.name ∷ [])
    ∙ ap (λ z. old ++ (map (λ d. d.name) (take i ds) ++ z.name ∷ [])) g ∙ ap (λ xs. old ++ xs) (sym (map_more (λ d. d.name) ds i d l))

-- One table more.
pub grids_more : (ts : List NamedTable) (i : ℕ) (t : NamedTable) (x : NamedGrid) (old mid new : List NamedGrid) → i < length ts → t ≡ get_or ts i t
    → map named_table mid ≡ map named_table old ++ map pure_named_table (take i ts) → named_table x ≡ pure_named_table t → new ≡ mid ++ x ∷ []
    → map named_table new ≡ map named_table old ++ map pure_named_table (take (i + 1) ts)
grids_more ts i t x old mid new l g h k e =
    ap (map named_table) e ∙ map_push named_table mid x ∙ ap (λ xs. xs ++ named_table x ∷ []) h
    ∙ append_assoc (map named_table old) (map pure_named_table (take i ts)) (named_table x ∷ [])
    ∙ ap (λ y. map named_table old ++ (map pure_named_table (take i ts) ++ y ∷ [])) (k ∙ ap pure_named_table g)
    ∙ ap (λ xs. map named_table old ++ xs) (sym (map_more pure_named_table ts i t l))

-- The table that was found is that of the name.
pub look_here : (ts : List NamedGrid) (i : ℕ) (t : NamedGrid) (a : Text) (o : Option pure.Table) → i < length ts → t ≡ get_or ts i t → same_text t.name a ≡ true
    → look (map named_table (drop i ts)) a ≡ o → table_at ts (Some i) ≡ o
look_here ts i t a o l g s h =
    ap (option_map (λ t. pure_grid t.grid)) (there ts i t l g)
    ∙ sym (ap (λ b. if b then Some (pure_grid t.grid) else look (map named_table (drop (i + 1) ts)) a) s)
    ∙ ap (λ z. look (named_table z ∷ map named_table (drop (i + 1) ts)) a) g
    ∙ sym (at_drop_more (λ xs. look (map named_table xs) a) ts i t l) ∙ h
  where
    there : (ts : List NamedGrid) (i : ℕ) (t : NamedGrid) → i < length ts → t ≡ get_or ts i t → slice_get ts i ≡ Some t
    there [] i t l g = absurd (omega arith)
    there (x ∷ xs) zero t l g = ap Some (sym g)
    there (x ∷ xs) (suc i) t l g = there xs i t (omega arith) g

pub look_on : (ts : List NamedGrid) (i : ℕ) (t : NamedGrid) (a : Text) (o : Option pure.Table) → i < length ts → t ≡ get_or ts i t → same_text t.name a ≡ false
    → look (map named_table (drop i ts)) a ≡ o → look (map named_table (drop (i + 1) ts)) a ≡ o
look_on ts i t a o l g s h =
    sym (ap (λ b. if b then Some (pure_grid t.grid) else look (map named_table (drop (i + 1) ts)) a) s)
    ∙ ap (λ z. look (named_table z ∷ map named_table (drop (i + 1) ts)) a) g
    ∙ sym (at_drop_more (λ xs. look (map named_table xs) a) ts i t l) ∙ h

pub look_nowhere : (ts : List NamedGrid) (i : ℕ) (a : Text) (o : Option pure.Table) → length ts ≤ i → look (map named_table (drop i ts)) a ≡ o → None ≡ o
look_nowhere ts i a o l h = sym (ap (λ xs. look (map named_table xs) a) (drop_all i ts l)) ∙ h

pub ruleset looks = (look_here, look_on, look_nowhere)

at-both : {A B C : Type 0} (f : A → C) (g : B → C) (xs : List A) (ys : List B) (n : ℕ) (x : A) (d : B) → map f xs ≡ map g ys → slice_get xs n ≡ Some x → f x ≡ g (get_or ys n d)
at-both f g [] ys n x d h e = cc
at-both f g (x ∷ xs) [] n y d h e = cc
at-both f g (x ∷ xs) (y ∷ ys) zero z d h e = let p : x ≡ z = cc in let q : f x ≡ g y = cc in ap f (sym p) ∙ q
at-both f g (x ∷ xs) (y ∷ ys) (suc n) z d h e = let q : map f xs ≡ map g ys = cc in at-both f g xs ys n z d q e

-- Places that were found name by name are those of the declarations.
pub all_known : (k : Known) → map (table_at k.tables) k.places ≡ map (look (map named_table k.tables)) k.names → IsKnown k
all_known k h = record { found = λ n o e. at-both (table_at k.tables) (look (cells_of k)) k.places k.names n o [] h e }
