-- The answers of the judge, from those of its parts.
use Rattle.std.proofs.Common.{◌≡◌, refl, sym, ap, ◌∙◌, subst, ℕ, ◌<◌, ℤ, Bool, true, false, ◌||◌, List, [], ◌++◌, map, length, get_or, Option, Some, None, option_map, Ok, Err}
use Rattle.std.specs.declared.result.Result.{Result}
use Rattle.std.specs.List.{list_all, list_any}
use Rattle.ess_semantics.specs.Lists.{and_then, when, is_some_and}
use Rattle.ess_semantics.specs.Values.{Text}
use Rattle.ess_semantics.specs.Names.{Names, keys, look}
use Rattle.ess_semantics.specs.Trees.{Ex}
use Rattle.ess_semantics.specs.Tables as pure
use Rattle.ess_semantics.specs.Tables.{is_cell}
use Rattle.ess_semantics.specs.Meaning.{is_bool_dom}
use Rattle.ess_semantics.specs.DeclaredTables.{TableDecl}
use Rattle.ess_semantics.specs.ModelMeaning.{model_domain}
use Rattle.ess_semantics.specs.LargeModels.{dom_is_large}
use Rattle.ess_grammar.specs.Models.{Scope}
use Rattle.ess_core.specs.declared.tables.Cells.{Cells}
use Rattle.ess_core.specs.declared.tables.Table.{Table}
use Rattle.ess_core.specs.TableViews.{pure_cells, pure_table}
use Rattle.eprime_tree.specs.declared.models.PDecl.{PDecl}
use Rattle.eprime_tree.specs.Views.{pure_dom, pure_decl, pure_decls}
use Rattle.eprime_eval.specs.DomainsOf.{given_decls}
use Rattle.eprime_cells_laws.specs.TableReading.{items_over, declared_table, first_extra, tables_of, cells_answer}
use Rattle.eprime_cells_judging.specs.declared.tables.JudgeNo.{JudgeNo}
use Rattle.eprime_cells_judging.specs.declared.judging.FitNo.{FitNo}
use Rattle.eprime_cells_judging.specs.Putting.{Puts}
use Rattle.eprime_cells_parts.specs.DeclaredNames.{declared_names, missing_of}
use Rattle.eprime_cells_judging.specs.TablesJudged.{AreAxes, AreInside, IsTable, IsInside}
use Rattle.eprime_cells_judging.specs.Fitting.{judged_no, names_no, IsTableOf, AreTables, IsFit}
use Rattle.eprime_cells_judging.proofs.Fitting.{Judged, judged_large, answer_by, answer_parts}

-- ---- one table

-- All items are put, or there are none.
pub puts_all : (o : Option (List ℤ)) (old new : List ℤ) → old ≡ [] → Puts o old new true → o ≡ Some new
puts_all None old new e h = absurd h
puts_all (Some is) old new e h = ap (λ ks. Some ks) (sym (h ∙ ap (λ ks. ks ++ is) e))

pub puts_none : (o : Option (List ℤ)) (old new : List ℤ) → Puts o old new false → o ≡ None
puts_none None old new h = refl
puts_none (Some is) old new h = absurd h

abbrev made : List (List ℤ) → List ℤ → pure.Table
made as' is = record { axes = as'; items = is }

-- The table by its parts.
abbrev table_by : Option (List (List ℤ)) → (List (List ℤ) → Option (List ℤ)) → (List ℤ → Bool) → Option pure.Table
table_by o f g = and_then o (λ as'. and_then (option_map (λ is. made as' is) (f as')) (λ t. when (g t.items) t))

or-right : (a b : Bool) → b ≡ true → a || b ≡ true
or-right true b h = refl
or-right false b h = h

module _ (ks : List PDecl) (q : Cells) (d : PDecl) (e : Ex) where
  -- The items of the value, and whether they are in the domain of cells.
  abbrev items_at : Scope → List (List ℤ) → Option (List ℤ)
  items_at s as' = items_over as' (is_bool_dom (pure_dom s d.cell)) e

  abbrev inside_at : Scope → List ℤ → Bool
  inside_at s is = is_some_and (model_domain (given_decls ks) (pure_cells q) (pure_dom s d.cell)) (λ c. list_all (is_cell c) is)

  pub no_axes : AreAxes ks q d.axes (Ok None) → IsTable ks q d e (Ok None)
  no_axes h s = ap (λ o. table_by o (items_at s) (inside_at s)) (h s)

  pub no_items : (as' : List (List ℤ)) (b : Bool) → AreAxes ks q d.axes (Ok (Some as')) → ((s : Scope) → b ≡ is_bool_dom (pure_dom s d.cell)) → items_over as' b e ≡ None → IsTable ks q d e (Ok None)
  no_items as' b h k p s =
      ap (λ o. table_by o (items_at s) (inside_at s)) (h s)
      ∙ ap (λ o. and_then (option_map (λ js. made as' js) o) (λ t. when (inside_at s t.items) t)) (ap (λ c. items_over as' c e) (sym (k s)) ∙ p)

  here : (as' : List (List ℤ)) (is : List ℤ) (b c : Bool) → AreAxes ks q d.axes (Ok (Some as')) → ((s : Scope) → b ≡ is_bool_dom (pure_dom s d.cell)) → items_over as' b e ≡ Some is → AreInside ks q d.cell is (Ok c) → (s : Scope) →
      declared_table (given_decls ks) (pure_cells q) (pure_decl s d) e ≡ when c (made as' is)
  here as' is b c h k p i s =
      ap (λ o. table_by o (items_at s) (inside_at s)) (h s)
      ∙ ap (λ o. and_then (option_map (λ js. made as' js) o) (λ t. when (inside_at s t.items) t)) (ap (λ x. items_over as' x e) (sym (k s)) ∙ p)
      ∙ ap (λ x. when x (made as' is)) (i s)

  -- The answer where the items are there.
  pub judged_items : (t : Table) (b : Bool) (r : Result (Option Table) JudgeNo) → AreAxes ks q d.axes (Ok (Some t.axes)) → ((s : Scope) → b ≡ is_bool_dom (pure_dom s d.cell)) → items_over t.axes b e ≡ Some t.items → IsInside ks q d.cell t r → IsTable ks q d e r
  judged_items t b (Ok (Some u)) h k p i = λ s. here t.axes t.items b true h k p i.1 s ∙ ap (λ x. Some (pure_table x)) (sym i.0)
  judged_items t b (Ok None) h k p i = here t.axes t.items b false h k p i
  judged_items t b (Err JudgeNo.Big) h k p i = λ s. or-right (list_any (dom_is_large (given_decls ks) (pure_cells q)) (map (pure_dom s) d.axes)) (dom_is_large (given_decls ks) (pure_cells q) (pure_dom s d.cell)) (i s)
  judged_items t b (Err JudgeNo.NoMemory) h k p i = tt

  -- What is large in an axis or in the domain of cells is so in the declaration.
  pub axes_judged : (why : JudgeNo) → AreAxes ks q d.axes (Err why) → IsTable ks q d e (Err why)
  axes_judged JudgeNo.Big h = λ s. ap (λ b. b || dom_is_large (given_decls ks) (pure_cells q) (pure_dom s d.cell)) (h s)
  axes_judged JudgeNo.NoMemory h = tt

-- ---- lettings

-- The refusal of the names by its two parts.
abbrev pub no_by : Option Text → Option Text → Option FitNo
no_by m e = elim m [ Some a ↦ Some (FitNo.Missing a) | None ↦ option_map FitNo.Extra e ]

-- A name with a letting,
pub table_found : (ks : List PDecl) (q : Cells) (d : PDecl) (cs : Names Ex) (e : Ex) (r : Result (Option Table) JudgeNo) → look cs d.name ≡ Some e → IsTable ks q d e r → IsTableOf ks q d cs r
table_found ks q d cs e (Ok o) h t = λ s. ap (λ x. and_then x (declared_table (given_decls ks) (pure_cells q) (pure_decl s d))) h ∙ t s
table_found ks q d cs e (Err JudgeNo.Big) h t = t
table_found ks q d cs e (Err JudgeNo.NoMemory) h t = tt

-- and one without.
pub table_none : (ks : List PDecl) (q : Cells) (d : PDecl) (cs : Names Ex) → look cs d.name ≡ None → IsTableOf ks q d cs (Ok None)
table_none ks q d cs h s = ap (λ x. and_then x (declared_table (given_decls ks) (pure_cells q) (pure_decl s d))) h

module _ (ks : List PDecl) (q : Cells) (ds : List PDecl) (cs : Names Ex) where
  pub fit_missing : (a : Text) → missing_of (declared_names ds) (keys cs) ≡ Some a → IsFit ks q ds cs (Err (FitNo.Missing a))
  fit_missing a h add s =
      answer_parts (given_decls ks) (pure_cells q) cs add s ds
      ∙ ap (λ m. answer_by m (first_extra (declared_names ds) (keys cs)) (tables_of (given_decls ks) (pure_cells q) (pure_decls add s ds) cs)) h

  pub fit_extra : (a : Text) → missing_of (declared_names ds) (keys cs) ≡ None → first_extra (declared_names ds) (keys cs) ≡ Some a → IsFit ks q ds cs (Err (FitNo.Extra a))
  fit_extra a h k add s =
      answer_parts (given_decls ks) (pure_cells q) cs add s ds
      ∙ ap (λ m. answer_by m (first_extra (declared_names ds) (keys cs)) (tables_of (given_decls ks) (pure_cells q) (pure_decls add s ds) cs)) h
      ∙ ap (λ e. answer_by None e (tables_of (given_decls ks) (pure_cells q) (pure_decls add s ds) cs)) k

  named : missing_of (declared_names ds) (keys cs) ≡ None → first_extra (declared_names ds) (keys cs) ≡ None → (add : Scope → TableDecl → Scope) (s : Scope) →
      cells_answer (given_decls ks) (pure_cells q) (pure_decls add s ds) cs ≡ tables_of (given_decls ks) (pure_cells q) (pure_decls add s ds) cs
  named h k add s =
      answer_parts (given_decls ks) (pure_cells q) cs add s ds
      ∙ ap (λ m. answer_by m (first_extra (declared_names ds) (keys cs)) (tables_of (given_decls ks) (pure_cells q) (pure_decls add s ds) cs)) h
      ∙ ap (λ e. answer_by None e (tables_of (given_decls ks) (pure_cells q) (pure_decls add s ds) cs)) k

  pub fit_tables : (r : Result Cells FitNo) → missing_of (declared_names ds) (keys cs) ≡ None → first_extra (declared_names ds) (keys cs) ≡ None → AreTables ks q ds cs r → IsFit ks q ds cs r
  fit_tables (Ok c) h k t = λ add s. named h k add s ∙ t add s
  fit_tables (Err (FitNo.OutOfDomain a)) h k t = λ add s. named h k add s ∙ t add s
  fit_tables (Err FitNo.Big) h k t = t
  fit_tables (Err FitNo.NoMemory) h k t = tt
  fit_tables (Err (FitNo.Missing a)) h k t = absurd t
  fit_tables (Err (FitNo.Extra a)) h k t = absurd t

  -- A refusal of the names is the answer,
  pub fit_refused : (why : FitNo) → names_no (declared_names ds) (keys cs) ≡ Some why → IsFit ks q ds cs (Err why)
  fit_refused why h = go (missing_of (declared_names ds) (keys cs)) refl (first_extra (declared_names ds) (keys cs)) refl h
    where
      go : (m : Option Text) → missing_of (declared_names ds) (keys cs) ≡ m → (e : Option Text) → first_extra (declared_names ds) (keys cs) ≡ e →
          no_by m e ≡ Some why → IsFit ks q ds cs (Err why)
      go (Some a) p e k h = let x : FitNo.Missing a ≡ why = cc in subst (λ n. IsFit ks q ds cs (Err n)) x (fit_missing a p)
      go None p (Some b) k h = let x : FitNo.Extra b ≡ why = cc in subst (λ n. IsFit ks q ds cs (Err n)) x (fit_extra b p k)
      go None p None k h = cc

  -- and without one the tables are.
  pub fit_passed : (r : Result Cells FitNo) → names_no (declared_names ds) (keys cs) ≡ None → AreTables ks q ds cs r → IsFit ks q ds cs r
  fit_passed r h t = go (missing_of (declared_names ds) (keys cs)) refl (first_extra (declared_names ds) (keys cs)) refl h
    where
      go : (m : Option Text) → missing_of (declared_names ds) (keys cs) ≡ m → (e : Option Text) → first_extra (declared_names ds) (keys cs) ≡ e → no_by m e ≡ None → IsFit ks q ds cs r
      go (Some a) p e k h = cc
      go None p (Some b) k h = cc
      go None p None k h = fit_tables r p k t

-- ---- names

-- A declared name without a letting,
pub named_missing : (ds ns : List Text) (a : Text) → missing_of ds ns ≡ Some a → names_no ds ns ≡ Some (FitNo.Missing a)
named_missing ds ns a h = ap (λ m. no_by m (first_extra ds ns)) h

-- a name too many,
pub named_extra : (ds ns : List Text) (a : Text) → missing_of ds ns ≡ None → first_extra ds ns ≡ Some a → names_no ds ns ≡ Some (FitNo.Extra a)
named_extra ds ns a h k = ap (λ m. no_by m (first_extra ds ns)) h ∙ ap (option_map FitNo.Extra) k

-- or neither.
pub named_none : (ds ns : List Text) → missing_of ds ns ≡ None → first_extra ds ns ≡ None → names_no ds ns ≡ None
named_none ds ns h k = ap (λ m. no_by m (first_extra ds ns)) h ∙ ap (option_map FitNo.Extra) k

-- A table that isn't judged.
pub judged_err : (ks : List PDecl) (q : Cells) (ds : List PDecl) (cs : Names Ex) (i : ℕ) (d : PDecl) (ts : Names pure.Table) (why : JudgeNo) → Judged (given_decls ks) (pure_cells q) cs ds i ts → i < length ds → d ≡ get_or ds i d →
    IsTableOf ks q d cs (Err why) → AreTables ks q ds cs (Err (judged_no why))
judged_err ks q ds cs i d ts JudgeNo.Big j lt is h = judged_large (given_decls ks) (pure_cells q) cs ds i d ts j lt is h
judged_err ks q ds cs i d ts JudgeNo.NoMemory j lt is h = tt
