-- Tables under their names, one after the other.
use Rattle.std.proofs.Common.{◌≡◌, refl, sym, ap, ◌∙◌, List, [], ◌∷◌, ◌++◌, map, append_assoc, append-nil}
use Rattle.std.proofs.lemmas.List.{map-append}
use Rattle.ess_semantics.specs.Tables as pure
use Rattle.ess_semantics.specs.Plans.{name_tables}
use Rattle.ess_core.specs.declared.tables.Table.{Table}
use Rattle.ess_core.specs.declared.tables.NamedTable.{NamedTable}
use Rattle.ess_core.specs.TableViews.{pure_table, pure_named_table}
use Rattle.ess_translate_plans.specs.declared.plans.TableName.{TableName}
use Rattle.ess_translate_plans.specs.Views.{pure_table_name}

-- Whatever tables follow, those that are named and these under the names that are left are all under all names.
pub record NamedSoFar (ns : List TableName) (done : List Table) (rest : List TableName) (all : List NamedTable) : Type 0 where
  pub so_far : (more : List Table) → name_tables (map pure_table_name ns) (map pure_table (done ++ more))
      ≡ map pure_named_table all ++ name_tables (map pure_table_name rest) (map pure_table more)

pub named_none : (ns : List TableName) (all : List NamedTable) → all ≡ [] → NamedSoFar ns [] ns all
named_none ns all e = record {
  so_far = λ more. ap (λ l. map pure_named_table l ++ name_tables (map pure_table_name ns) (map pure_table more)) (sym e);
}

pub named_more : (ns rest more' : List TableName) (done : List Table) (t : Table) (n : TableName) (x : NamedTable) (all new : List NamedTable) →
    rest ≡ n ∷ more' → x.name ≡ n.name → x.table ≡ t → new ≡ all ++ x ∷ [] → NamedSoFar ns done rest all → NamedSoFar ns (done ++ t ∷ []) more' new
named_more ns rest more' done t n x all new is p q e s = record {
  so_far = λ more.
      ap (λ l. name_tables (map pure_table_name ns) (map pure_table l)) (append_assoc done (t ∷ []) more) ∙ s.so_far (t ∷ more)
      ∙ ap (λ l. map pure_named_table all ++ name_tables (map pure_table_name l) (map pure_table (t ∷ more))) is
      ∙ ap (λ y. map pure_named_table all ++ ((y, pure_table t) ∷ name_tables (map pure_table_name more') (map pure_table more))) (sym p)
      ∙ ap (λ y. map pure_named_table all ++ ((x.name, pure_table y) ∷ name_tables (map pure_table_name more') (map pure_table more))) (sym q)
      ∙ sym (append_assoc (map pure_named_table all) (pure_named_table x ∷ []) (name_tables (map pure_table_name more') (map pure_table more)))
      ∙ ap (λ l. l ++ name_tables (map pure_table_name more') (map pure_table more)) (sym (map-append pure_named_table all (x ∷ [])) ∙ ap (map pure_named_table) (sym e));
}

none-named : (ts : List pure.Table) → name_tables [] ts ≡ []
none-named [] = refl
none-named (t ∷ ts) = refl

pub named_past : (ns rest : List TableName) (done : List Table) (t : Table) (all : List NamedTable) → rest ≡ [] →
    NamedSoFar ns done rest all → NamedSoFar ns (done ++ t ∷ []) rest all
named_past ns rest done t all is s = record {
  so_far = λ more.
      ap (λ l. name_tables (map pure_table_name ns) (map pure_table l)) (append_assoc done (t ∷ []) more) ∙ s.so_far (t ∷ more)
      ∙ ap (λ l. map pure_named_table all ++ name_tables (map pure_table_name l) (map pure_table (t ∷ more))) is
      ∙ ap (λ l. map pure_named_table all ++ l) (sym (none-named (map pure_table more)))
      ∙ ap (λ l. map pure_named_table all ++ name_tables (map pure_table_name l) (map pure_table more)) (sym is);
}

unnamed : (ns : List TableName) → name_tables (map pure_table_name ns) [] ≡ []
unnamed [] = refl
unnamed (n ∷ ns) = refl

pub named_all : (ns rest : List TableName) (done ts : List Table) (all : List NamedTable) → done ≡ ts → NamedSoFar ns done rest all →
    map pure_named_table all ≡ name_tables (map pure_table_name ns) (map pure_table ts)
named_all ns rest done ts all e s =
    sym (append-nil (map pure_named_table all)) ∙ ap (λ l. map pure_named_table all ++ l) (sym (unnamed rest)) ∙ sym (s.so_far [])
    ∙ ap (λ l. name_tables (map pure_table_name ns) (map pure_table l)) (append-nil done ∙ e)

-- The pass over the tables.
pub ruleset naming = (named_none, named_more, named_past, named_all)
