-- Tables that satisfy the model of a whole file are over the declared axes of the header, with items in the declared domains.
use Rattle.std.proofs.Common.{◌≡◌, refl, sym, ap, ◌∙◌, true, List, [], ◌∷◌, map, length, ℕ, suc, subst}
use Rattle.std.specs.Prelude.{Ok, Err, IfOk, IfErr}
use Rattle.std.specs.declared.result.Result.{Result}
use Rattle.ess_semantics.specs.Values.{Text}
use Rattle.ess_semantics.specs.Names.{Names, keys}
use Rattle.ess_semantics.specs.Lists.{zip}
use Rattle.ess_semantics.specs.Tables.{Table, Tables}
use Rattle.ess_semantics.specs.Declarations.{Declaration}
use Rattle.ess_semantics.specs.DeclaredTables.{TableDecl, decl_name, DeclaredAs}
use Rattle.ess_semantics.specs.ModelTrees.{Header, Model, all_decls}
use Rattle.ess_semantics.specs.ModelMeaning.{model_domain}
use Rattle.ess_semantics.specs.Trees.{Stm}
use Rattle.ess_semantics.specs.Assignments as pure
use Rattle.ess_semantics.specs.Plans.{finds_side, declared_under, table_list, plans_for}
use Rattle.ess_semantics.specs.Satisfaction.{Sat, tables_fit}
use Rattle.ess_semantics.specs.Parameters.{Param}
use Rattle.ess_semantics.specs.Contexts.{Each}
use Rattle.ess_core.specs.declared.tables.Cells.{Cells}
use Rattle.ess_core.specs.TableViews.{pure_named_table, pure_cells}
use Rattle.ess_domains.specs.Assignments.{pure_assignment}
use Rattle.eprime_cells_laws.specs.CellsText.{cells_text}
use Rattle.eprime_cells_laws.specs.Laws.{ReadsAsTables}
use Rattle.ess_translate_given_laws.specs.Printable.{are_in_64_bits}
use Rattle.ess_translate_given_laws.proofs.Printed.{given-tables-printed}
use Rattle.conjure_laws.specs.Premises.{here, tables_are}
use Rattle.conjure_laws.proofs.NamedTables.{fit-are, are-long}
use Rattle.ess_translate_tables_laws.specs.HeaderTables.{DeclaresTables}
use Rattle.ess_translate_members_laws.specs.DeclaresMembers.{DeclaresMembers}
use Rattle.ess_translate_values_laws.specs.ReadyPlans.{IsReady}
use Rattle.ess_translate_values_laws.proofs.ReadyFinds.{finds_ready}
use Rattle.ess_domains.specs.declared.assignments.Assignment.{Assignment}
use Rattle.ess_translate.specs.declared.refusal.TransNo.{TransNo}
use Rattle.ess_translate.specs.Answers.{IsParameter}
use Rattle.ess_translate_files.specs.GivenFiles.{HasNoTables, IsGiven, IsNotGiven}
use Rattle.ess_translate_files.specs.declared.models.ModelFile.{ModelFile}
use Rattle.ess_translate_files.specs.declared.givens.Given.{Given}
use Rattle.ess_translate_files.specs.Wholes.{file_header, file_model, IsWhole, HoldsTables, IsGivenFor}
use Rattle.ess_translate_files.proofs.Refused.{is_param, no_tables}

-- The items of a list beside as many names.
zipped : (ns : List Text) (ts : Tables) → length ns ≡ length ts → map (λ c. c.1) (zip ns ts) ≡ ts
zipped [] [] e = refl
zipped [] (t ∷ ts) e = cc
zipped (n ∷ ns) [] e = cc
zipped (n ∷ ns) (t ∷ ts) e = ap (λ l. t ∷ l) (zipped ns ts cc)

-- Declarations and what is declared are as many.
declared_long : (f : _) (fs : List TableDecl) (ds : List Declaration) → DeclaredAs f fs ds → length (keys (map decl_name fs)) ≡ length ds
declared_long f [] [] h = refl
declared_long f [] (d ∷ ds) h = absurd h
declared_long f (t ∷ fs) [] h = absurd h
declared_long f (t ∷ fs) (d ∷ ds) h = ap suc (declared_long f fs ds h.2)

-- The names of a list beside them.
zipped_keys : (ns : List Text) (ts : Tables) → length ns ≡ length ts → keys (zip ns ts) ≡ ns
zipped_keys [] [] e = refl
zipped_keys [] (t ∷ ts) e = cc
zipped_keys (n ∷ ns) [] e = cc
zipped_keys (n ∷ ns) (t ∷ ts) e = ap (λ l. n ∷ l) (zipped_keys ns ts cc)

-- Tables that fit stand under the names of the header's tables.
pub fitting_tables_named : (H : Header) (E : Model) (p : pure.Assignment) (q c : Names Table) → DeclaresTables H E →
    DeclaresMembers H E p q →
    Sat E q c → keys c ≡ keys (table_list finds_side H.statements H.reprs)
fitting_tables_named H E p q c T D s =
    let ds = declared_under finds_side H.statements H.reprs p in
    let r = fit-are (all_decls E) q E.finds ds c D.finds s.declared in
    let l = declared_long (model_domain (all_decls E) q) E.finds ds D.finds ∙ are-long ds r.0 r.2 in
    ap keys r.1 ∙ zipped_keys (keys (map decl_name E.finds)) r.0 l ∙ ap keys T.finds

-- Tables that fit are as declared.
pub fitting_tables_are : (H : Header) (E : Model) (p : pure.Assignment) (q c : Names Table) → DeclaresMembers H E p q → Sat E q c →
    tables_are (declared_under finds_side H.statements H.reprs p) (map (λ t. t.1) c) ≡ true
fitting_tables_are H E p q c D s =
    let ds = declared_under finds_side H.statements H.reprs p in
    let r = fit-are (all_decls E) q E.finds ds c D.finds s.declared in
    let l = declared_long (model_domain (all_decls E) q) E.finds ds D.finds ∙ are-long ds r.0 r.2 in
    ap (tables_are ds) (ap (map (λ t. t.1)) r.1 ∙ zipped (keys (map decl_name E.finds)) r.0 l) ∙ r.2

-- What is given is a parameter of the header.
pub given_param : (m : ModelFile) (g : Given) → IsGivenFor m g → Param (file_header m).statements (pure_assignment g.param)
given_param m g h = is_param (file_header m).statements h.text h.file (pure_assignment g.param) h.given.parameter

-- The plans of the finds are ready at tables that satisfy the model.
pub finds_of_file_ready : (m : ModelFile) (g : Given) (c : Cells) → IsWhole m → IsGivenFor m g →
    Sat (file_model m) (pure_cells g.tables) (pure_cells c) →
    Each (plans_for finds_side (file_header m).statements (file_header m).reprs)
    (IsReady (here (file_header m).statements (pure_assignment g.param)) (map pure_named_table c.list))
finds_of_file_ready m g c w h s =
    let H = file_header m in
    let E = file_model m in
    let p = pure_assignment g.param in
    finds_ready H p (pure_cells c) w.header.ours w.ready (given_param m g h)
    (fitting_tables_named H E p (pure_cells g.tables) (pure_cells c) w.tables h.given.has.members s)
    (fitting_tables_are H E p (pure_cells g.tables) (pure_cells c) h.given.has.members s)

-- What is given where a parameter is read, or why it isn't.
pub given_read : (m : ModelFile) (text : Text) (p : Assignment) (r : Result Given TransNo) →
    ((F : List Stm) × IsParameter (file_header m).statements text F (pure_assignment p)) → IfOk r (λ g. g.param ≡ p) →
    IfOk r (HoldsTables m) →
    IfOk r (λ g. (F : List Stm) × IsGiven (file_header m) (file_model m) text F (pure_assignment g.param) (pure_cells g.tables))
given_read m text p (Ok g) i e h = (
  i.0,
  record {
    parameter = subst (λ a. IsParameter (file_header m).statements text i.0 (pure_assignment a)) (sym e) i.1;
    has = h.has;
  },
)
given_read m text p (Err why) i e h = tt

pub given_held : (m : ModelFile) (text : Text) (p : Assignment) (r : Result Given TransNo) →
    ((F : List Stm) × IsParameter (file_header m).statements text F (pure_assignment p)) → IfOk r (λ g. g.param ≡ p) →
    IfOk r (HoldsTables m) → IfOk r (IsGivenFor m)
given_held m text p (Ok g) i e h = record {
  text = text;
  file = i.0;
  given = record {
    parameter = subst (λ a. IsParameter (file_header m).statements text i.0 (pure_assignment a)) (sym e) i.1;
    has = h.has;
  };
  env = h.env;
  closed = h.closed;
}
given_held m text p (Err why) i e h = tt

pub given_refused : {A : Type 0} (H : Header) (E : Model) (text : Text) (p : pure.Assignment) (r : Result A TransNo) →
    ((F : List Stm) × IsParameter H.statements text F p) → IfErr r (HasNoTables H E p) → IfErr r (IsNotGiven H E text)
given_refused H E text p (Ok g) i h = tt
given_refused H E text p (Err why) i h = no_tables H E text i.0 p why i.1 h

-- The text of given tables is read as them.
pub given_reads : (m : ModelFile) (g : Given) (bytes : Text) → IsWhole m → IsGivenFor m g →
    bytes ≡ cells_text (file_model m).givens (pure_cells g.tables) → are_in_64_bits (pure_cells g.tables) ≡ true →
    ReadsAsTables bytes (all_decls (file_model m)) (pure_cells g.tables) (file_model m).givens (pure_cells g.tables)
given_reads m g bytes w h e k =
    let E = file_model m in
    let q = pure_cells g.tables in
    let fit = given-tables-printed.fit (file_header m) E (pure_assignment g.param) q w.header.ours w.ready (given_param m g h) w.tables
    h.given.has.tables h.given.has.members.givens in
    subst (λ b. ReadsAsTables b (all_decls E) q E.givens q) (sym e) (given-tables-printed.read E (all_decls E) q q w.readable fit k)
