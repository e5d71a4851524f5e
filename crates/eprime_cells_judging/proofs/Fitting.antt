-- Lettings as tables over declarations, one declaration after the other.
use Rattle.std.proofs.Common.{◌≡◌, refl, sym, ap, ◌∙◌, ℕ, ◌+◌, ◌<◌, ◌≤◌, Bool, true, false, ◌||◌, if◌then◌else◌, List, [], ◌∷◌, ◌++◌, append_assoc, append-nil, map, length, get_or, drop, Option, Some, None}
use Rattle.std.specs.List.{list_any}
use Rattle.ess_semantics.specs.Lists.{and_then}
use Rattle.ess_semantics.specs.Values.{Text}
use Rattle.ess_semantics.specs.Names.{Names, keys, look, is_among}
use Rattle.ess_semantics.specs.Tables as pure
use Rattle.ess_semantics.specs.Trees.{Ex}
use Rattle.ess_semantics.specs.DeclaredTables.{TableDecl}
use Rattle.ess_semantics.specs.LargeModels.{decl_is_large}
use Rattle.ess_grammar.specs.Models.{Scope}
use Rattle.eprime_tree.specs.declared.models.PDecl.{PDecl}
use Rattle.eprime_tree.specs.Views.{pure_decl, pure_decls}
use Rattle.eprime_cells_parts.proofs.WhatIsLeft.{left-more, left-none}
use Rattle.eprime_cells_laws.specs.TableReading.{declared_table, CellsAnswer, tables, missing_letting, extra_letting, outside_domain, first_missing, first_extra, with_table, tables_of, cells_answer}
use Rattle.eprime_cells_parts.specs.DeclaredNames.{declared_names, missing_of}

-- Tables before those of an answer.
abbrev pub with_tables : Names pure.Table → CellsAnswer → CellsAnswer
with_tables ts (tables us) = tables (ts ++ us)
with_tables ts failure = failure

with-none : (x : CellsAnswer) → with_tables [] x ≡ x
with-none (tables us) = refl
with-none (missing_letting a) = refl
with-none (extra_letting a) = refl
with-none (outside_domain a) = refl

with-more : (ts : Names pure.Table) (a : Text) (t : pure.Table) (x : CellsAnswer) → with_tables ts (with_table a t x) ≡ with_tables (ts ++ (a, t) ∷ []) x
with-more ts a t (tables us) = ap tables (sym (append_assoc ts ((a, t) ∷ []) us))
with-more ts a t (missing_letting b) = refl
with-more ts a t (extra_letting b) = refl
with-more ts a t (outside_domain b) = refl

or-right : (a b : Bool) → b ≡ true → a || b ≡ true
or-right true b h = refl
or-right false b h = h

module _ (known : List TableDecl) (q : Names pure.Table) (cs : Names Ex) where
  -- How far the loop has come: these tables, and what is left of the declarations.
  pub record Come (add : Scope → TableDecl → Scope) (s : Scope) (ds : List PDecl) (i : ℕ) (ts : Names pure.Table) : Type 0 where
    pub now : Scope
    pub same : tables_of known q (pure_decls add s ds) cs ≡ with_tables ts (tables_of known q (pure_decls add now (drop i ds)) cs)
    pub large : list_any (decl_is_large known q) (pure_decls add now (drop i ds)) ≡ true → list_any (decl_is_large known q) (pure_decls add s ds) ≡ true

  abbrev pub Judged : List PDecl → ℕ → Names pure.Table → Type 0
  Judged ds i ts = (add : Scope → TableDecl → Scope) (s : Scope) → Come add s ds i ts

  pub judged_none : (ds : List PDecl) → Judged ds 0 []
  judged_none ds add s = record { now = s; same = sym (with-none (tables_of known q (pure_decls add s ds) cs)); large = λ h. h }

  -- The answer at a declaration.
  abbrev answer_at : Text → Option pure.Table → CellsAnswer → CellsAnswer
  answer_at a o x = elim o [ None ↦ outside_domain a | Some t ↦ with_table a t x ]

  -- One more table.
  pub judged_more : (ds : List PDecl) (i : ℕ) (d : PDecl) (ts us : Names pure.Table) (t : pure.Table) → Judged ds i ts → i < length ds → d ≡ get_or ds i d →
      ((s : Scope) → and_then (look cs d.name) (declared_table known q (pure_decl s d)) ≡ Some t) → us ≡ ts ++ (d.name, t) ∷ [] → Judged ds (i + 1) us
  judged_more ds i d ts us t j lt is h e add s =
      let x = j add s in let n = add x.now (pure_decl x.now d) in let rest : List TableDecl = pure_decls add n (drop (i + 1) ds) in
      record {
        now = n;
        same =
            x.same
            ∙ ap (λ es. with_tables ts (tables_of known q (pure_decls add x.now es) cs)) (left-more ds i d lt is)
            ∙ ap (λ o. with_tables ts (answer_at d.name o (tables_of known q rest cs))) (h x.now)
            ∙ with-more ts d.name t (tables_of known q rest cs)
            ∙ ap (λ vs. with_tables vs (tables_of known q rest cs)) (sym e);
        large = λ k. x.large (ap (λ es. list_any (decl_is_large known q) (pure_decls add x.now es)) (left-more ds i d lt is) ∙ or-right (decl_is_large known q (pure_decl x.now d)) (list_any (decl_is_large known q) rest) k);
      }

  -- A value that stands for no table.
  pub judged_stop : (ds : List PDecl) (i : ℕ) (d : PDecl) (ts : Names pure.Table) → Judged ds i ts → i < length ds → d ≡ get_or ds i d →
      ((s : Scope) → and_then (look cs d.name) (declared_table known q (pure_decl s d)) ≡ None) → (add : Scope → TableDecl → Scope) (s : Scope) → tables_of known q (pure_decls add s ds) cs ≡ outside_domain d.name
  judged_stop ds i d ts j lt is h add s =
      let x = j add s in let n = add x.now (pure_decl x.now d) in
      x.same
      ∙ ap (λ es. with_tables ts (tables_of known q (pure_decls add x.now es) cs)) (left-more ds i d lt is)
      ∙ ap (λ o. with_tables ts (answer_at d.name o (tables_of known q (pure_decls add n (drop (i + 1) ds)) cs))) (h x.now)

  -- A domain with a number outside 64 bits.
  pub judged_large : (ds : List PDecl) (i : ℕ) (d : PDecl) (ts : Names pure.Table) → Judged ds i ts → i < length ds → d ≡ get_or ds i d →
      ((s : Scope) → decl_is_large known q (pure_decl s d) ≡ true) → (add : Scope → TableDecl → Scope) (s : Scope) → list_any (decl_is_large known q) (pure_decls add s ds) ≡ true
  judged_large ds i d ts j lt is h add s =
      let x = j add s in
      x.large (ap (λ es. list_any (decl_is_large known q) (pure_decls add x.now es)) (left-more ds i d lt is)
      ∙ ap (λ b. b || list_any (decl_is_large known q) (pure_decls add (add x.now (pure_decl x.now d)) (drop (i + 1) ds))) (h x.now))

  -- All tables.
  pub judged_all : (ds : List PDecl) (i : ℕ) (ts : Names pure.Table) → Judged ds i ts → length ds ≤ i → (add : Scope → TableDecl → Scope) (s : Scope) → tables_of known q (pure_decls add s ds) cs ≡ tables ts
  judged_all ds i ts j le add s =
      let x = j add s in
      x.same ∙ ap (λ es. with_tables ts (tables_of known q (pure_decls add x.now es) cs)) (left-none ds i le) ∙ ap tables (append-nil ts)

-- ---- names

names-same : (add : Scope → TableDecl → Scope) (s : Scope) (ds : List PDecl) → map (λ d. d.name) (pure_decls add s ds) ≡ declared_names ds
names-same add s [] = refl
names-same add s (d ∷ ds) = ap (λ ns. d.name ∷ ns) (names-same add (add s (pure_decl s d)) ds)

missing-same : (ds : List TableDecl) (ns : List Text) → first_missing ds ns ≡ missing_of (map (λ d. d.name) ds) ns
missing-same [] ns = refl
missing-same (d ∷ ds) ns = ap (λ o. if is_among ns d.name then o else Some d.name) (missing-same ds ns)

-- The answer by its three parts.
abbrev pub answer_by : Option Text → Option Text → CellsAnswer → CellsAnswer
answer_by m e x = elim m [ Some a ↦ missing_letting a | None ↦ elim e [ Some a ↦ extra_letting a | None ↦ x ] ]

pub answer_parts : (known : List TableDecl) (q : Names pure.Table) (cs : Names Ex) (add : Scope → TableDecl → Scope) (s : Scope) (ds : List PDecl) →
    cells_answer known q (pure_decls add s ds) cs ≡ answer_by (missing_of (declared_names ds) (keys cs)) (first_extra (declared_names ds) (keys cs)) (tables_of known q (pure_decls add s ds) cs)
answer_parts known q cs add s ds =
    ap (λ m. answer_by m (first_extra (map (λ d. d.name) (pure_decls add s ds)) (keys cs)) (tables_of known q (pure_decls add s ds) cs)) (missing-same (pure_decls add s ds) (keys cs) ∙ ap (λ ns. missing_of ns (keys cs)) (names-same add s ds))
    ∙ ap (λ ns. answer_by (missing_of (declared_names ds) (keys cs)) (first_extra ns (keys cs)) (tables_of known q (pure_decls add s ds) cs)) (names-same add s ds)
