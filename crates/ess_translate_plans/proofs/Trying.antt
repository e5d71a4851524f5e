-- Names that are tried beside a few that are avoided, one more at each turn.
use Rattle.std.proofs.Common.{◌≡◌, refl, sym, ap, ◌∙◌, subst, ℕ, ◌<◌, Bool, true, false, List, [], ◌∷◌, ◌++◌, map, Option, Some, None}
use Rattle.ess_semantics.specs.Values.{Text}
use Rattle.ess_semantics.specs.Names.{is_among, keys}
use Rattle.ess_semantics.specs.Contexts.{Each}
use Rattle.ess_semantics.specs.Kinds.{fits}
use Rattle.ess_semantics.specs.Trees.{Repr, Dom}
use Rattle.ess_semantics.specs.TableNames.{Named, table_names, named_tables}
use Rattle.ess_semantics.specs.DeclaredTables.{TableDecl, decl_name}
use Rattle.ess_core.specs.declared.tables.CellDecl.{CellDecl}
use Rattle.ess_core.specs.TableViews.{pure_decl}
use Rattle.ess_repr_declare_laws.specs.DeclaredTrees.{trees_below, declared_trees}
use Rattle.ess_repr_declare_laws.specs.Laws.{Sound}
use Rattle.ess_repr_declare_laws.proofs.DeclaredNames.{names-are}
use Rattle.ess_translate_plans_laws.specs.Requests.{first_among, left_out}
use Rattle.ess_translate_plans_laws.proofs.FreeBySets.{tables-beside-all}
use Rattle.ess_translate_plans_laws.proofs.Avoided.{first_among-none, first_among-taken, first_among-one, named_trees-new, left_out-fewer, some-avoided}
use Rattle.ess_translate_plans.specs.declared.plans.TableName.{TableName}
use Rattle.ess_translate_plans.specs.Views.{pure_table_name, decl_text}
use Rattle.ess_translate_plans.specs.Trying.{AreTaken}

texts-are : (ds : List CellDecl) → map decl_text ds ≡ keys (map decl_name (map pure_decl ds))
texts-are [] = refl
texts-are (d ∷ ds) = ap (λ l. d.name ∷ l) (texts-are ds)

-- The names of the declared trees.
declared-texts : (ds : List CellDecl) (ts : List TableDecl) → map pure_decl ds ≡ ts → map decl_text ds ≡ keys (map decl_name ts)
declared-texts ds ts e = texts-are ds ∙ ap (λ l. keys (map decl_name l)) e

-- A name that is taken is none of those that are avoided.
pub is_taken_anew : (r : Repr) (d : Dom) (x : Text) (T S : List Text) (ds : List CellDecl) (a : Text) →
    map pure_decl ds ≡ declared_trees r d x S →
    first_among T (map decl_text ds) ≡ Some a → (is_among T a ≡ true) × (is_among S a ≡ false)
is_taken_anew r d x T S ds a e h =
    let k : first_among T (keys (map decl_name (declared_trees r d x S)))
    ≡ Some a = ap (first_among T) (sym (declared-texts ds (declared_trees r d x S) e)) ∙ h in (
      first_among-taken T (keys (map decl_name (declared_trees r d x S))) a k,
      first_among-one T S (keys (map decl_name (declared_trees r d x S))) a k (named_trees-new x (trees_below false r d) S),
    )

-- Where none is taken, the names are those beside all that is taken.
pub all_are_free : (r : Repr) (d : Dom) (x : Text) (T S : List Text) (ds : List CellDecl) (ns : List TableName) →
    map pure_decl ds ≡ declared_trees r d x S →
    first_among T (map decl_text ds) ≡ None → map pure_table_name ns ≡ map decl_name (map pure_decl ds) → AreTaken S T → Sound d →
    fits r d ≡ true →
    map pure_table_name ns ≡ named_tables x (table_names r d) T
all_are_free r d x T S ds ns e h n t s f =
    let named : map decl_name (declared_trees r d x S) ≡ named_tables x (table_names r d) S = names-are r d x S s f in
    let none : first_among T (keys (named_tables x (table_names r d) S)) ≡ None =
    ap (λ l. first_among T (keys l)) (sym named) ∙ ap (first_among T) (sym (declared-texts ds (declared_trees r d x S) e)) ∙ h in
    n ∙ ap (map decl_name) e ∙ named
    ∙ tables-beside-all x (table_names r d) S T t (first_among-none T (keys (named_tables x (table_names r d) S)) none)

-- ---- the turns

-- At first nothing is avoided.
pub tried_none : (T : List Text) → AreTaken [] T
tried_none T = λ a e. let clash : false ≡ true = e in cc

-- One more name is.
pub tried_more : (T S more : List Text) (a : Text) → more ≡ S ++ a ∷ [] → AreTaken S T → is_among T a ≡ true → AreTaken more T
tried_more T S more a e h k = subst (λ l. AreTaken l T) (sym e) (some-avoided S T a h k)

-- Fewer names are left out.
pub tried_fewer : (T S more : List Text) (a : Text) → more ≡ S ++ a ∷ [] → is_among T a ≡ true → is_among S a ≡ false →
    left_out T more < left_out T S
tried_fewer T S more a e h f = subst (λ l. left_out T l < left_out T S) (sym e) (left_out-fewer T S a h f)
