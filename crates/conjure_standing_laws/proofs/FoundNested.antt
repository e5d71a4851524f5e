-- The tables of a nested set in a model: what their marks and numbers of axes are, where they are found, and that they fit.
use Rattle.std.proofs.Common.{◌≡◌, refl, sym, ap, ◌∙◌, ℕ, Bool, true, false, ◌&&◌, List, [], ◌∷◌, ◌++◌, map, length, Option, Some, None, option_map}
use Rattle.std.specs.List.{list_all}
use Rattle.ess_semantics.specs.Values.{Text}
use Rattle.ess_semantics.specs.Order.{same_text}
use Rattle.ess_semantics.specs.Names.{Names, look, keys, is_among, all_distinct}
use Rattle.ess_semantics.specs.Trees.{Repr, Dom, Stm}
use Rattle.ess_semantics.specs.Domains.{Domain}
use Rattle.ess_semantics.specs.Contexts.{Each}
use Rattle.ess_semantics.specs.Tables.{Table, Tables, same_axes, is_filled, is_cell}
use Rattle.ess_semantics.specs.TableNames.{Named}
use Rattle.ess_semantics.specs.DeclaredTables.{TableDecl, decl_name}
use Rattle.ess_semantics.specs.Declarations.{Declaration, declarations}
use Rattle.ess_semantics.specs.Meaning.{is_bool_dom}
use Rattle.ess_semantics.specs.Positions.{domain_with_positions}
use Rattle.ess_semantics.specs.Assignments.{Assignment}
use Rattle.ess_semantics.specs.Plans.{Options, finds_side, table_list}
use Rattle.ess_semantics.specs.ModelTrees.{Model, all_decls}
use Rattle.ess_semantics.specs.ModelMeaning.{declaration_of}
use Rattle.ess_semantics.specs.Satisfaction.{table_fits, tables_fit}
use Rattle.ess_semantics.proofs.Tests.{and-left, and-right}
use Rattle.ess_semantics.proofs.Texts.{same_text-equal}
use Rattle.ess_repr_laws.specs.CanonicalTables.{TablesFit}
use Rattle.conjure_laws.specs.Premises.{Ground, Instance, here, TablesOf, table_is, tables_are}
use Rattle.conjure_laws.specs.Views.{over_tables}
use Rattle.conjure_laws.proofs.FreeNames.{halves}
use Rattle.conjure_laws.proofs.Givens.{both-differ}
use Rattle.conjure_laws.proofs.Lists.{at-item, each-map}
use Rattle.conjure_laws.proofs.Lookups.{look-key, look-right, tables-lift}
use Rattle.conjure_laws.proofs.NamedTables.{among-in, in-among, keys-append, same_axes-equal, are-over}
use Rattle.ess_nested_laws.proofs.NestedForms.{NestedSet}
use Rattle.ess_nested_laws.proofs.NestedDenoted.{written_domain, nested-denoted, nested-placed}
use Rattle.ess_seen_values_laws.specs.ess_bare_structures_laws.Laws.{AreMarked, IsMarked, TablesFound}
use Rattle.ess_bare_written_laws.specs.Laws.{AreDeclared, IsDeclared}
use Rattle.conjure_standing_laws.specs.NestedFinds.{tables_by}

-- ---- marks

-- What a declaration says of a table: whether it holds truth values, and how many axes it has.
abbrev pub mark_of : TableDecl → Bool × ℕ
mark_of t = (is_bool_dom t.cell, length t.axes)

-- The same of the declared table of this name.
abbrev pub declared_cells : List TableDecl → Text → Option (Bool × ℕ)
declared_cells ds n = option_map mark_of (declaration_of ds n)

-- They are declared so.
pub cells-declared : (ds : List TableDecl) → AreDeclared ds (declared_cells ds)
cells-declared ds n b k e = go (declaration_of ds n) refl e
  where
    none : {m : Bool × ℕ} → None ≡ Some m → ⊥
    none h = cc

    go : (o : Option TableDecl) → declaration_of ds n ≡ o → option_map mark_of o ≡ Some (b, k) → IsDeclared ds n b k
    go None q e = absurd (none e)
    go (Some t) q e =
        let z : mark_of t ≡ (b, k) = one e in
        record { line = t; found = q; mark = ap (λ m. m.0) z; axes = ap (λ m. m.1) z }
      where
        one : Some (mark_of t) ≡ Some (b, k) → mark_of t ≡ (b, k)
        one e = cc

-- The tables of a representation are marked so, where each is declared under its name.
pub tables-marked : (ds : List TableDecl) (r : Repr) (d : Dom) (ns : List Text) →
    Each (tables_by ns r d) (λ t. declaration_of ds t.name ≡ Some t) → AreMarked (declared_cells ds) r d ns
tables-marked ds r d ns w =
    each-map (tables_by ns r d) (λ t. declaration_of ds t.name ≡ Some t) (IsMarked (declared_cells ds))
    (λ t e. ap (option_map mark_of) e) w

-- ---- tables that fit

-- Their names are those that are declared.
fit-keys : (ds : List TableDecl) (q : Names Table) (fs : List TableDecl) (c : Names Table) → tables_fit ds q fs c ≡ true →
    keys c ≡ keys (map decl_name fs)
fit-keys ds q [] [] h = refl
fit-keys ds q (f ∷ fs) (t ∷ c) h =
    let r = and-left (same_text f.name t.0 && table_fits ds q f t.1) (tables_fit ds q fs c) h in
    ap (λ z. z ∷ keys c) (sym (same_text-equal f.name t.0 (and-left (same_text f.name t.0) (table_fits ds q f t.1) r)))
    ∙ ap (λ l. f.name ∷ l) (fit-keys ds q fs c (and-right (same_text f.name t.0 && table_fits ds q f t.1) (tables_fit ds q fs c) h))
fit-keys ds q [] (t ∷ c) h = cc
fit-keys ds q (f ∷ fs) [] h = cc

-- Tables that are over axes with items in domains fit these.
are-fitting : (ds : List Declaration) (ts : Tables) → tables_are ds ts ≡ true → TablesFit ds ts
are-fitting [] [] e = tt
are-fitting [] (t ∷ ts) e = cc
are-fitting (d ∷ ds) [] e = cc
are-fitting (d ∷ ds) (t ∷ ts) e =
    let h = and-left (table_is d t) (tables_are ds ts) e in
    let g = and-left (is_filled t && same_axes d.axes t.axes) (list_all (is_cell d.cell) t.items) h in (
      sym (same_axes-equal d.axes t.axes (and-right (is_filled t) (same_axes d.axes t.axes) g)),
      and-right (is_filled t && same_axes d.axes t.axes) (list_all (is_cell d.cell) t.items) h,
      are-fitting ds ts (and-right (table_is d t) (tables_are ds ts) e),
    )

module _ (S : List Stm) (o : Options) (E : Model) (L : Ground S o) (names : map decl_name E.finds ≡ table_list finds_side S o) where
  module _ (p : Assignment) (q c : Names Table) (I : Instance S o p q) (fit : tables_fit (all_decls E) q E.finds c ≡ true) where
    distinct : all_distinct (keys q ++ keys c) ≡ true
    distinct = ap all_distinct (sym (keys-append q c))
        ∙ both-differ S o L p q I c (fit-keys (all_decls E) q E.finds c fit ∙ ap keys names)

    -- A found table is found among all.
    found-among : (n : Text) (t : Table) → look c n ≡ Some t → look (q ++ c) n ≡ Some t
    found-among n t e = look-right q c n (out (is_among (keys q) n) refl) ∙ e
      where
        out : (b : Bool) → is_among (keys q) n ≡ b → is_among (keys q) n ≡ false
        out false r = r
        out true r =
            let z = at-item (λ x. is_among (keys c) x ≡ false) (keys q) n (halves (keys q) (keys c) distinct).2 (among-in (keys q) n r) in
            let k : true ≡ false = sym (in-among (keys c) n (look-key c n t e)) ∙ z in cc

    -- The tables of a nested set fit its domain.
    pub nested-found : (r : Repr) (d : Dom) (ns : List Named) (e : Domain) (ts : Tables) → NestedSet d → TablesOf S p c r d ns e ts →
        TablesFound (over_tables S p (q ++ c)) r d (keys ns) e ts
    nested-found r d ns e ts n w = record {
      denotes = nested-denoted n (over_tables S p (q ++ c)) ∙ closed;
      named = tables-lift c (q ++ c) found-among (keys ns) ts w.named;
      over = are-over (declarations r e) ts w.are;
      fit = are-fitting (declarations r e) ts w.are;
    }
      where
        closed : Some (written_domain d) ≡ Some e
        closed =
            ap (λ z. Some z) (sym (nested-placed n)) ∙ ap (option_map domain_with_positions) (sym (nested-denoted n (here S p))) ∙ w.closed
