-- Tables fit what a model is to find exactly where they stand under the names of the header's tables, as these are declared.
use Rattle.std.proofs.Common.{◌≡◌, refl, sym, ap, ◌∙◌, ℕ, suc, true, List, [], ◌∷◌, map, length, Option}
use Rattle.ess_semantics.specs.Lists.{zip}
use Rattle.ess_semantics.specs.Values.{Text}
use Rattle.ess_semantics.specs.Names.{Names, keys}
use Rattle.ess_semantics.specs.Tables.{Table, Tables}
use Rattle.ess_semantics.specs.DeclaredTables.{TableDecl, decl_name, DeclaredAs}
use Rattle.ess_semantics.specs.Declarations.{Declaration}
use Rattle.ess_semantics.specs.Domains.{Domain}
use Rattle.ess_semantics.specs.Trees.{Dom}
use Rattle.ess_semantics.specs.Assignments.{Assignment}
use Rattle.ess_semantics.specs.Plans.{finds_side, table_list, declared_under}
use Rattle.ess_semantics.specs.ModelTrees.{Header, Model, all_decls}
use Rattle.ess_semantics.specs.ModelMeaning.{model_domain}
use Rattle.ess_semantics.specs.Satisfaction.{tables_fit}
use Rattle.conjure_laws.specs.Premises.{tables_are}
use Rattle.conjure_laws.proofs.NamedTables.{fit-are, are-fit, are-long}
use Rattle.ess_translate_tables_laws.specs.HeaderTables.{DeclaresTables}
use Rattle.ess_translate_ready_laws.specs.Laws.{tables_of, CellsAreDeclared}

-- A map is its names side by side with its tables.
by-names : (c : Names Table) → c ≡ zip (keys c) (tables_of c)
by-names [] = refl
by-names (b ∷ c) = ap (λ l. b ∷ l) (by-names c)

one-less : (a b : ℕ) → suc a ≡ suc b → a ≡ b
one-less a b e = cc

-- Names side by side with as many tables.
zipped-keys : (ns : List Text) (ts : Tables) → length ns ≡ length ts → keys (zip ns ts) ≡ ns
zipped-keys [] ts e = refl
zipped-keys (n ∷ ns) [] e = cc
zipped-keys (n ∷ ns) (t ∷ ts) e = ap (λ l. n ∷ l) (zipped-keys ns ts (one-less (length ns) (length ts) e))

zipped-tables : (ns : List Text) (ts : Tables) → length ns ≡ length ts → tables_of (zip ns ts) ≡ ts
zipped-tables [] [] e = refl
zipped-tables [] (t ∷ ts) e = cc
zipped-tables (n ∷ ns) [] e = cc
zipped-tables (n ∷ ns) (t ∷ ts) e = ap (λ l. t ∷ l) (zipped-tables ns ts (one-less (length ns) (length ts) e))

-- There are as many declared tables as names.
as-many : (f : Dom → Option Domain) (fs : List TableDecl) (ds : List Declaration) → DeclaredAs f fs ds →
    length (keys (map decl_name fs)) ≡ length ds
as-many f [] [] h = refl
as-many f (t ∷ fs) (d ∷ ds) h = ap suc (as-many f fs ds h.2)
as-many f [] (d ∷ ds) h = absurd h
as-many f (t ∷ fs) [] h = absurd h

-- Tables that fit are as declared.
declared : (H : Header) (E : Model) (p : Assignment) (q c : Names Table) → DeclaresTables H E →
    DeclaredAs (model_domain (all_decls E) q) E.finds (declared_under finds_side H.statements H.reprs p) →
    tables_fit (all_decls E) q E.finds c ≡ true →
    (keys c ≡ keys (table_list finds_side H.statements H.reprs)) ×
    (tables_are (declared_under finds_side H.statements H.reprs p) (tables_of c) ≡ true)
declared H E p q c D m f =
    let ds = declared_under finds_side H.statements H.reprs p in
    let ns = keys (map decl_name E.finds) in
    let r = fit-are (all_decls E) q E.finds ds c m f in
    let l = as-many (model_domain (all_decls E) q) E.finds ds m ∙ are-long ds r.0 r.2 in (
      ap keys r.1 ∙ zipped-keys ns r.0 l ∙ ap keys D.finds,
      ap (λ b. tables_are ds (tables_of b)) r.1 ∙ ap (tables_are ds) (zipped-tables ns r.0 l) ∙ r.2,
    )

-- And the other way round.
fit : (H : Header) (E : Model) (p : Assignment) (q c : Names Table) → DeclaresTables H E →
    DeclaredAs (model_domain (all_decls E) q) E.finds (declared_under finds_side H.statements H.reprs p) →
    keys c ≡ keys (table_list finds_side H.statements H.reprs) →
    tables_are (declared_under finds_side H.statements H.reprs p) (tables_of c) ≡ true → tables_fit (all_decls E) q E.finds c ≡ true
fit H E p q c D m k t =
    let ds = declared_under finds_side H.statements H.reprs p in
    ap (tables_fit (all_decls E) q E.finds) (by-names c ∙ ap (λ ns. zip ns (tables_of c)) (k ∙ sym (ap keys D.finds)))
    ∙ are-fit (all_decls E) q E.finds ds (tables_of c) m t

-- Tables that fit a model are those that its header declares.
pub cells-are-declared : CellsAreDeclared
cells-are-declared = record { declared = declared; fit = fit }
